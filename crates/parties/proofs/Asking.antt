-- Each of the separate requests is read as `make` of the same sheet, and is no longer than a request may be. Assumes nothing.
use Prim.Native.Nat.{ℕ, ◌-◌, ◌≤◌, ◌<◌}
use mathlib.Core.Path.{◌≡◌, sym, ap, ◌∙◌}
use mathlib.Core.List.{List}
use native.Mathlib.Omega.{arith}
use lib.ListN.{length, take}
use lib.Seq.{length-take-le}
use Rattle.fields.proofs.Words.{Bytes}
use Rattle.tables.specs.Entries.{Entries}
use Rattle.lines.specs.Sheet.{accepted, read_sheet}
use Rattle.reading.specs.Request.{request, make, make_all, read_request}
use Rattle.promises.proofs.LastLine.{AllLast, all-last}
use Rattle.writing.proofs.Alone.{reads_back}
use Rattle.writing.proofs.Requests.{make_reads, make-short}
use Rattle.parties.specs.Asking.{asking}

module _ (s : List ℕ) (h : Bytes s) (K : ℕ) (E : Entries) (e : read_request s ≡ request K E make_all) where
  -- where `makeall` stood
  stood : AllLast s K E
  stood = all-last s h K E e

  -- the text of the sheet before it
  abbrev front : List ℕ
  front = take (length s - 8) s

  front_reads : read_sheet front ≡ accepted K (length front) E
  front_reads =
      reads_back s K (length s - 8) E stood.sheet (omega arith) ∙ ap (λ n. accepted K n E) (sym (length-take-le (length s - 8) s (omega arith)))

  -- Read as `make`,p of the same sheet
  pub asks : (p : ℕ) → p < K → read_request (asking s p) ≡ request K E (make p)
  unfolding asking
  asks p l = make_reads front K E front_reads p l

  -- and not too long for a request
  pub asks_short : (p : ℕ) → length (asking s p) ≤ 65536
  unfolding asking
  asks_short p = make-short front K E front_reads p
