use native.Mathlib.Omega.{arith}
use Prim.Native.Nat.{ℕ, ◌<◌}
use mathlib.Core.Bool.{true}
use mathlib.Core.Path.{◌≡◌, refl, sym, ap, subst, ◌∙◌}
use mathlib.Core.List.{List}
use lib.ListN.{length, get_or}
use Rattle.bitml.specs.Rule.{reached}
use Rattle.tables.specs.Entries.{held, people}
use Rattle.tables.specs.Kinds.{code}
use Rattle.tables.specs.SheetOf.{sheet_in, branch_entry_at, branch_numbers, branch_count, branch_number}
use Rattle.tables.proofs.SheetOf.{branch-small}
use Rattle.sheets.specs.Looked.{BranchIs}
use Rattle.sheets.specs.declared.Table.{Table}
use Rattle.sheets.specs.declared.Branch.{Branch}
use Rattle.reached.specs.Marks.{DefReached, Searched, Grown, NodeLed, BranchLed}
use Rattle.reached.proofs.Renewing.{renew-code, other-code}
use Rattle.reached.proofs.Reaching.{renews}
use Rattle.reached.proofs.Queue.{visit_in, visit_room, visited, branch-other, branch_led, led_none, led_more, grown_same, grown_more}
use Rattle.reached.proofs.visit_node.Goals.{then-eq, else-eq}
use Rattle.reached.proofs.visit_node.Goals as goal

-- branch i of a reached node renews as a reached definition
renewed : (t : Table) (n i : ℕ) (bs : List ℕ) (r : Branch) → bs ≡ branch_numbers (held t.cells.now) n → i < length bs → n < length (held t.cells.now).nodes → reached (sheet_in t.cells.now) n ≡ true
    → BranchIs (held t.cells.now) (get_or bs i 0) r → code r.kind ≡ 3 → DefReached (people t.cells.now) (held t.cells.now) r.arg
unfolding branch_count branch_number
renewed t n i bs r e h hn q is k =
    let K = people t.cells.now in
    let E = held t.cells.now in
    let z = ap (λ bs. branch_entry_at E (get_or bs i 0)) e in
    subst (DefReached K E) (sym (is.arg ∙ ap (λ b. b.arg) z)) (renews K E t.ready.promises n i hn (omega (arith, ap length e)) q (sym (ap (λ b. b.kind) z) ∙ sym is.kind ∙ k))

pub loop-b-init : goal.loop-b-init
loop-b-init c = (c.requires.searched, grown_same _, led_none _ _ _)

pub branch-branch-requires : goal.branch-branch-requires
unfolding branch_count branch_number
branch-branch-requires c =
    let e = c.branches_of-b-items.ensures in
    let i = c.loop-b.b-index in
    record { b_in_bounds = omega (arith, ap (λ bs. get_or bs i 0) e, branch-small (held c.args.index.table.cells.now) c.args.n i (omega (arith, ap length e))) }

pub visit-requires : goal.visit-requires
visit-requires c =
    let t = c.args.index.table in
    let p = c.requires.n_in_bounds in
    let r = renewed t c.args.n c.loop-b.b-index _ _ c.branches_of-b-items.ensures c.loop-b-test.true p.0 p.1 c.branch-branch.ensures (renew-code _ (sym c.if-eq.ensures)) in
    (omega arith, (omega (arith, visit_in t.ready.promises c.loop-b.invariant.0 r), visit_room t.ready.promises c.loop-b.invariant.0 r))

pub loop-b-preserved : goal.loop-b-preserved
unfolding branch_number
loop-b-preserved c =
    let t = c.args.index.table in
    let p = c.requires.n_in_bounds in
    let E = held t.cells.now in
    let l = c.loop-b in
    let b = c.branch-branch.ensures in
    let s = c.if-eq.search in
    let e = ap (λ bs. get_or bs l.b-index 0) c.branches_of-b-items.ensures in
    let v : Searched t.cells.now s × Grown l.search.marks.now s.marks.now × BranchLed E s.marks.now (get_or c.branches_of-b-items.result.now l.b-index 0) = elim c.if-eq.branch [
      | then-eq w ↦
          let r = renewed t c.args.n l.b-index _ _ c.branches_of-b-items.ensures c.loop-b-test.true p.0 p.1 b (renew-code _ (sym w.if-eq.ensures)) in
          let a = w.visit.ensures in
          let v = visited t.ready.promises l.invariant.0 r refl a.marks a.queue a.len in
          rw w.search-is (v.0, v.1, branch_led _ _ _ _ b.arg v.2)
      | else-eq w ↦ rw w.search-is (l.invariant.0, grown_same _, branch-other _ _ _ (λ k. other-code _ (sym w.if-eq.ensures) (b.kind ∙ k)))
    ] in
    (v.0, grown_more _ _ _ l.invariant.1 v.1, led_more _ _ _ _ _ v.1 l.invariant.2 (subst (BranchLed E s.marks.now) e v.2))

pub returns-clause-node_led : goal.returns-clause-node_led
unfolding branch_count
returns-clause-node_led c =
    let E = held c.args.index.table.cells.now in
    let l = c.loop-b in
    let e : l.b-index ≡ branch_count E c.args.n = omega (arith, ap length c.branches_of-b-items.ensures) in
    subst (NodeLed E l.search.marks.now c.args.n) e l.invariant.2
