use borrow.Author.Rules.{rules}
use Rattle.replies.specs.Answer.{reply_of, numbers_of, bytes_of}
use Rattle.replies.proofs.refuse.Goals as goal

pub returns : goal.returns
unfolding reply_of numbers_of bytes_of
returns c = search rules
