use native.Mathlib.Omega.{arith}
use Rattle.replies.proofs.Before.{early-long, early-rows, early-text, early-none}
use Rattle.replies.proofs.early.Goals.{then-rows-lt-PLACES-via-then-rows-lt-PLACES, then-rows-lt-PLACES-via-else-rows-lt-PLACES+then-text-lt-TEXT}
use Rattle.replies.proofs.early.Goals as goal

pub returns-then-bytes-gt-BYTES : goal.returns-then-bytes-gt-BYTES
returns-then-bytes-gt-BYTES c = record { value = early-long c.args.bytes c.args.rows c.args.text (omega arith); bytes_bound = λ z. absurd (omega arith) }

pub returns-then-rows-lt-PLACES : goal.returns-then-rows-lt-PLACES
returns-then-rows-lt-PLACES c = record {
  value = elim c.then-rows-lt-PLACES.branch [
    | then-rows-lt-PLACES-via-then-rows-lt-PLACES w ↦ early-rows c.args.bytes c.args.rows c.args.text (omega arith) w.if-rows-lt-PLACES.true
    | then-rows-lt-PLACES-via-else-rows-lt-PLACES+then-text-lt-TEXT w ↦ early-text c.args.bytes c.args.rows c.args.text (omega arith) w.if-rows-lt-PLACES.false w.if-text-lt-TEXT.true
  ];
  bytes_bound = λ z. absurd (omega arith);
}

pub returns : goal.returns
returns c = record { value = early-none c.args.bytes c.args.rows c.args.text (omega arith) (omega arith) (omega arith); bytes_bound = λ z. (omega arith, omega arith, omega arith) }
