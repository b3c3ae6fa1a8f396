use native.Mathlib.Omega.{arith}
use Prim.Native.Nat.{ℕ, ◌<◌}
use mathlib.Core.Bool.{true}
use mathlib.Core.Path.{◌≡◌, refl, sym, ap, subst, ◌∙◌}
use mathlib.Core.List.{List}
use lib.ListN.{length, get_or}
use Rattle.bitml.specs.Why.{near}
use Rattle.tables.specs.Entries.{held}
use Rattle.tables.specs.SheetOf.{sheet_in, branch_entry_at}
use Rattle.sheets.specs.Ready.{namers}
use Rattle.sheets.specs.Looked.{BranchIs}
use Rattle.sheets.specs.declared.Table.{Table}
use Rattle.sheets.specs.declared.Branch.{Branch}
use Rattle.sheets.proofs.Indexing.{namer_is}
use Rattle.reached.proofs.Renewing.{renew-code, other-code}
use Rattle.ways.specs.Marks.{Searched, Close, Further, RenewerLed}
use Rattle.ways.proofs.Queue.{grew_same, grew_then, visit_in, visit_room, visited}
use Rattle.ways.proofs.Leading.{renewer_other, renewer_led, renewers_none, renewers_more}
use Rattle.ways.proofs.visit_renewers.Goals.{then-eq, else-eq}
use Rattle.ways.proofs.visit_renewers.Goals as goal

-- branch i of those with argument d, and its node
named : (t : Table) (d i : ℕ) (bs : List ℕ) (r : Branch) → bs ≡ namers (held t.cells.now) d → i < length bs → BranchIs (held t.cells.now) (get_or bs i 0) r
    → ((get_or bs i 0 < length (held t.cells.now).branches) × ((branch_entry_at (held t.cells.now) (get_or bs i 0)).arg ≡ d)) × (r.node < length (held t.cells.now).nodes)
named t d i bs r e h is =
    let E = held t.cells.now in
    let w = subst (λ bs. (get_or bs i 0 < length E.branches) × ((branch_entry_at E (get_or bs i 0)).arg ≡ d)) (sym e) (namer_is E d i (omega (arith, ap length e))) in
    (w, subst (λ n. n < length E.nodes) (sym is.node) (t.ready.promises.branch _ w.0).node)

pub loop-b-init : goal.loop-b-init
loop-b-init g c = let p = c.requires in (refl, p.0.0, p.0.1, grew_same _ _ _, renewers_none _ _ _)

pub branch-branch-requires : goal.branch-branch-requires
branch-branch-requires g c =
    let e = c.of-b-items.ensures in
    let i = c.loop-b.b-index in
    record { b_in_bounds = omega (arith, ap (λ bs. get_or bs i 0) e, (namer_is (held c.args.namers.table.cells.now) c.args.d i (omega (arith, ap length e))).0) }

pub overflow_add-c : goal.overflow_add-c
overflow_add-c g c = omega (arith, c.loop-b.invariant.3.more, c.requires.1.0.1)

pub visit-requires : goal.visit-requires
visit-requires g c =
    let l = c.loop-b in
    let t = c.args.namers.table in
    let m = (named t c.args.d l.b-index _ _ c.of-b-items.ensures c.loop-b-test.true c.branch-branch.ensures).1 in
    (omega arith, (omega (arith, visit_in t.ready.promises l.invariant.1 m), visit_room t.ready.promises l.invariant.1 m))

pub loop-b-preserved : goal.loop-b-preserved
loop-b-preserved g c =
    let l = c.loop-b in
    let i = l.invariant in
    let t = c.args.namers.table in
    let p = c.requires.1 in
    let E = held t.cells.now in
    let s = c.if-eq.search in
    let r = c.branch-branch.ensures in
    let b = get_or c.of-b-items.result.now l.b-index 0 in
    let e = ap (λ bs. get_or bs l.b-index 0) c.of-b-items.ensures in
    let v : (s.marks.ghost_name ≡ l.search.marks.ghost_name) × (Searched t.cells.now g.target s × Close s.marks.now c.args.c) × Further l.search s × RenewerLed E s.marks.now b = elim c.if-eq.branch [
      | then-eq w ↦
          let m = named t c.args.d l.b-index _ _ c.of-b-items.ensures c.loop-b-test.true r in
          let q = subst (λ n. near (sheet_in t.cells.now) g.target c.args.c n ≡ true) (sym r.node) (p.1 b m.0.0 m.0.1 (sym r.kind ∙ renew-code _ (sym w.if-eq.ensures))) in
          let a = w.visit.ensures in
          let v = visited t.ready.promises i.1 m.1 c.args.c refl (omega (arith, i.3.more, p.0.1)) i.2 q a.marks a.queue a.len in
          rw w.search-is (w.visit.ensures.same, v.0, v.1, renewer_led _ _ _ _ r.node v.2)
      | else-eq w ↦ rw w.search-is (refl, (i.1, i.2), grew_same _ _ _, renewer_other _ _ _ (λ k. other-code _ (sym w.if-eq.ensures) (r.kind ∙ k)))
    ] in
    (v.0 ∙ i.0, v.1.0, v.1.1, grew_then i.3 v.2, renewers_more E _ _ v.2 i.4 (subst (RenewerLed E s.marks.now) e v.3))
