-- Demands 2 and 3 of every sheet that some text reads to. Assumes nothing.
use Prim.Native.Nat.{ℕ}
use Rattle.bitml.specs.Sheet.{Sheet}
use Rattle.bitml.specs.Promises.{WellFormed}
use Rattle.bitml.specs.Liquidity.{Liquidity}
use Rattle.bitml.proofs.Demands.{demands}
use Rattle.tables.specs.SheetOf.{sheet_of}
use Rattle.reading.proofs.Formed.{well_formed_lem}
use Rattle.promises.specs.Texts.{Promised, OfSheet, OfTexts}
use Rattle.promises.proofs.Promised.{promised}

of_sheet : (s : Sheet) → WellFormed s → (p : ℕ) → OfSheet s p
unfolding Liquidity
of_sheet s wf p =
    record {
      verdict = demands.verdict s wf p;
      leave = λ R ok. demands.liquidity s wf p R ((demands.check-is-accepted s p R).0 ok).asked;
      published = demands.published s wf p;
    }

pub of_texts : OfTexts
unfolding OfTexts Promised
of_texts s K at E e p = of_sheet (sheet_of K E) (well_formed_lem K E (promised s K at E e)) p
