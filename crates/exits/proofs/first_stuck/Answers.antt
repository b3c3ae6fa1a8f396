use native.Mathlib.Omega.{arith}
use Prim.Native.Nat.{◌-◌}
use mathlib.Core.Path.{◌≡◌, refl, sym, ap, ◌∙◌}
use borrow.Author.Tests.{tests}
use Rattle.std.proofs.Common.{rules, ◌&&◌, not, eqb, get_or}
use Rattle.std.specs.List.{find}
use Rattle.std.proofs.lemmas.Iterator.Adapters.{option_map_id}
use Rattle.std.proofs.lemmas.Iterator.{YieldsList-from_range}
use Rattle.std.proofs.lemmas.Iterator.Search.{find_from_yields_List}
use Rattle.sheets.proofs.Chains.{range-up}
use Rattle.exits.specs.Made.{stuck_by}
use Rattle.exits.proofs.Buffer.{stuck-test}
use Rattle.exits.proofs.first_stuck.Goals as goal

pub returns : goal.returns
returns c = let a = c.args in let T = stuck_by a.marks.now a.ranks.now in let n : a.n - 0 ≡ a.n = omega arith in
    sym (option_map_id c.find.result) ∙ find_from_yields_List T _ _ c.find.result c.find.ensures.ran (YieldsList-from_range 0 a.n a.n refl n) (λ x b q k.
    let w : (q ≡ (a.marks, a.ranks)) × (b ≡ (not (eqb (get_or a.marks.now x 0) 0) && eqb (get_or a.ranks.now x 0) 0)) = search (rules, tests) in (w.0, w.1 ∙ stuck-test a.marks.now a.ranks.now x))
    ∙ ap (find T) (range-up 0 a.n)
