use native.Mathlib.Omega.{arith}
use Prim.Native.Nat.{ℕ, ◌<◌}
use mathlib.Core.Path.{◌≡◌, refl, sym, ap, ◌∙◌}
use mathlib.Core.Bool.{Bool, true, false, false≢true}
use mathlib.Core.List.{List, [], ◌∷◌}
use lib.ListN.{length, get_or}
use lib.Dec.{eqb}
use Rattle.std.specs.Bool.{then_some}
use Rattle.std.proofs.Common.{rules, tests}
use Rattle.std.proofs.lemmas.Grind.{get_or_default_zero}
use Rattle.std.proofs.lemmas.Iterator.{YieldsList-from_slice, first_from_find}
use Rattle.std.proofs.lemmas.Iterator.Consumers.{YieldsList-from_copied}
use Rattle.std.proofs.lemmas.Iterator.Adapters.{serves_from_places}
use Rattle.tables.proofs.SheetOf.{part_small}
use Rattle.tables.specs.Entries.{held, people, most_nodes}
use Rattle.tables.specs.SheetOf.{def_entry_at, part_count, part_number}
use borrow.Author.Tests.{eq-eqb, eqb-true}
use Rattle.reached.proofs.Renewing.{renew-code, other-code}
use Rattle.ways.specs.Distances.{Found}
use Rattle.ways.proofs.Turning.{first_part, one_found, one_missed, found_parts, found_root}
use Rattle.ways.proofs.node_toward.Goals as goal

-- the root alone
root_toward : (D : List ℕ) (k m n : ℕ) → m ≡ n → m < most_nodes → Found D (n ∷ []) k (then_some (eqb (get_or D m 0) k) m)
root_toward D k m n e h = go (eqb (get_or D m 0) k) refl
  where
    go : (b : Bool) → eqb (get_or D m 0) k ≡ b → Found D (n ∷ []) k (then_some b m)
    go true q = one_found D k m n e h (eqb-true _ _ q)
    go false q = one_missed D k m n e (λ z. absurd (false≢true (sym q ∙ eq-eqb _ _ z)))

pub returns-then-eq : goal.returns-then-eq
returns-then-eq c =
    let t = c.args.index.table in
    let E = held t.cells.now in
    let x = t.ready.promises in
    let b = c.branch-branch.ensures in
    let k = sym b.kind ∙ renew-code _ (sym c.if-eq.ensures) in
    let hb = c.requires.dist_len.1 in
    let e = c.definition-root.ensures.root ∙ ap (λ d. (def_entry_at E d).root) b.arg in
    let r = root_toward c.args.dist.now c.args.k _ _ e (omega (arith, e, (x.def _ ((x.branch c.args.b hb).renew k).definition).root, x.limits.nodes)) in
    found_root (people t.cells.now) E x c.args.b hb _ _ _ k (rw c.then_some.ensures r)

pub find-requires-clause-callable : goal.find-requires-clause-callable
unfolding part_count part_number
find-requires-clause-callable c =
    let ms = c.parts_of.result.now in
    serves_from_places (YieldsList-from_copied (YieldsList-from_slice ms cc)) (λ x q k. search (rules, tests)) (λ x j h e.
    let s = part_small (held c.args.index.table.cells.now) c.args.b j (omega (arith, ap length c.parts_of.ensures)) in
    let l : x < 512 = omega (arith, e, get_or_default_zero ms j x h, ap (λ ms. get_or ms j 0) c.parts_of.ensures, s, c.args.index.table.ready.promises.limits.nodes) in
    λ y q. grind arith)

pub returns : goal.returns
returns c =
    let D = c.args.dist.now in
    let k = c.args.k in
    let t = c.args.index.table in
    let x = t.ready.promises in
    let E = held t.cells.now in
    let b = c.args.b in
    let f = first_from_find _ _ c.find.result (λ m. get_or D m 0 ≡ k) (λ m. get_or D m 0 ≡ k → ⊥) c.find.ensures.ran (YieldsList-from_copied (YieldsList-from_slice c.parts_of.result.now cc)) (λ x q k. search (rules, tests)) (λ x q k. search (rules, tests)) in
    found_parts (people t.cells.now) E x b c.requires.dist_len.1 _ _ _ (λ k. other-code _ (sym c.if-eq.ensures) (c.branch-branch.ensures.kind ∙ k)) (first_part E D _ b k c.find.result x.limits.nodes c.parts_of.ensures f)
