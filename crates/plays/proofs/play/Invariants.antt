use Rattle.std.proofs.Common.{ℕ, length}
use Rattle.plays.proofs.Looping.{Plays, left_behind}
use Rattle.counts.specs.Book.{book}
use Rattle.pages.specs.Pages.{pages_in}
use Rattle.plays.proofs.play.Given as goal

-- the line of the event that is due starts at `at`
abbrev pub invariant-loop-due : goal.invariant-loop-due
invariant-loop-due l =
    (at : ℕ) × Plays l.s l.index.table.cells.now l.to l.first l.initial.text (book l.initial.now.counts (pages_in l.initial.now.cells.now)) l.now.counts l.now.cells.now l.due at l.text

abbrev pub decreases-loop-due : goal.decreases-loop-due
decreases-loop-due l = left_behind (length l.s) l.due.event l.due.next
