use native.Mathlib.Omega.{arith}
use mathlib.Core.Path.{subst}
use lib.Seq.{length-take-le}
use Rattle.bitml.specs.Ledger.{renew}
use Rattle.pages.specs.Pages.{pages_in}
use Rattle.counts.specs.Book.{book}
use Rattle.counts.specs.Does.{Does}
use Rattle.ledger.specs.Hands.{book_of}
use Rattle.ledger.proofs.Handing.{hands}
use Rattle.ledger.proofs.Reading.{first-values, values-are, values-most}
use Rattle.ledger.proofs.Ledger.renew.Goals as goal

pub renew-counts-requires : goal.renew-counts-requires
renew-counts-requires c = let a = c.args in let k = c.requires.0 in
    record { fit = k.fit; by_index = values-most _ _ _ _ (first-values a.s.now a.at a.n _ _ c.values.ensures (length-take-le a.n _ (omega (arith, c.requires.1)))); cells_len = k.long }

pub returns : goal.returns
returns c = let a = c.args in let t = a.index.table.cells.now in
    let e = values-are _ _ _ _ (first-values a.s.now a.at a.n _ _ c.values.ensures (length-take-le a.n _ (omega (arith, c.requires.1)))) in
    let r = subst (λ vs. Does t (book_of a.self) (renew a.c a.b vs) (book c.renew-counts.result (pages_in c.renew-counts.new.cells))) e c.renew-counts.ensures in
    hands t a.self _ c.renew-counts.result c.renew-counts.new.cells c.requires.0 r c.renew-counts.auto.cells
