-- The verdicts of the first participants, one behind the other. Assumes nothing.
use Rattle.std.specs.Prelude.{ℕ, ◌+◌, ◌*◌, List, ◌++◌, drop}
use Rattle.bitml.specs.Lists.{gather, below}
use Rattle.bitml.specs.Sheet.{Sheet}
use Rattle.bitml.specs.Rule.{make}
use Rattle.bitml.specs.Answers.{made_lines, made_rows, padded, places_of_one}
use Rattle.buffer.specs.Buffer.{row_numbers, numbers_of_one}
use Rattle.texts.specs.Text.{lines_text}

-- The lines of one verdict have at most so many bytes: 512 rows of 16, and a last line of 80
abbrev pub most_of_one : ℕ
most_of_one = 16 * places_of_one + 80

-- What is printed for the first p participants
unfoldable pub lines_up_to : Sheet → ℕ → List ℕ
lines_up_to s p = lines_text (gather (λ i. made_lines s i (make s i)) (below p))

-- A row buffer u with the rows of the first p participants in their places
unfoldable pub numbers_up_to : Sheet → ℕ → List ℕ → List ℕ
numbers_up_to s p u = row_numbers (gather (λ i. padded (made_rows (make s i))) (below p)) ++ drop (numbers_of_one * p) u
