use Prim.Native.Nat.{◌≤◌}
use native.Mathlib.Omega.{arith}
use Rattle.writer.proofs.Whole.{line-one-short, whole_text, no_text}
use Rattle.writer.proofs.put_sheet.Goals as goal

pub put_defs-requires : goal.put_defs-requires
put_defs-requires c =
    record {
      room = let e : c.put_line-at.result ≤ 32768 = omega (arith, c.put_line-at.ensures.end, line-one-short) in
          record { long = omega arith; small = record { short = e; nodes = omega arith; branches = omega arith; defs = omega arith; listed = omega arith; cells = omega arith } };
    }

pub returns-in_err-q : goal.returns-in_err-q
returns-in_err-q c = let z = no_text c.args.t.now c.put_line-at.ensures c.in_err-q.ensures c.from_residual.ensures in record { value = z.0; out_after = z.1 }

pub returns : goal.returns
returns c = let z = whole_text c.args.t.now c.put_line-at.ensures c.in_ok-q.ensures in record { value = z.0; out_after = z.1 }
