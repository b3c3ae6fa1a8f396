use Prim.Native.Nat.{◌-◌, ◌≤◌}
use mathlib.Core.List.{[]}
use mathlib.Core.Path.{◌≡◌}
use lib.ListN.{length}
use Rattle.requests.specs.Rows.{count_in, most_rows, rows_from}
use Rattle.buffer.specs.Buffer.{past_rows, rows_of}
use Rattle.requests.proofs.rows.Given as goal

abbrev pub invariant-loop-at : goal.invariant-loop-at
invariant-loop-at l = (l.i ≤ most_rows) × (length l.buffer ≡ length l.initial.buffer) × (past_rows l.i l.buffer ≡ past_rows l.i l.initial.buffer)
    × (rows_from l.r.request.now (count_in l.t) l.nodes (most_rows - l.i) (rows_of l.i l.buffer) l.at ≡ rows_from l.r.request.now (count_in l.t) l.nodes most_rows [] l.r.at)

abbrev pub decreases-loop-at : goal.decreases-loop-at
decreases-loop-at l = most_rows - l.i
