use Rattle.std.proofs.Common.{rules, ◌≡◌, ◌∙◌, length, replicate}
use Rattle.buffer.proofs.Buffer.{filled_none}
use Rattle.buffer.proofs.clear.Goals as goal

pub returns : goal.returns
returns c =
    let zeros : c.fill.new.self ≡ replicate (length c.args.u.now) 0 = search rules in
    zeros ∙ filled_none _
