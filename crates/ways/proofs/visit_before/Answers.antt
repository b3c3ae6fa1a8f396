use native.Mathlib.Omega.{arith}
use Prim.Native.Nat.{ℕ, ◌<◌}
use mathlib.Core.Path.{◌≡◌, refl, sym, ap, subst, ◌∙◌}
use lib.ListN.{length}
use Rattle.tables.specs.Entries.{held, people}
use Rattle.tables.specs.SheetOf.{node_entry_at, branch_entry_at}
use Rattle.sheets.specs.Looked.{NodeIs, BranchIs}
use Rattle.sheets.specs.declared.Table.{Table}
use Rattle.sheets.specs.declared.Node.{Node}
use Rattle.sheets.specs.declared.Branch.{Branch}
use Rattle.ways.proofs.Queue.{visit_in, visit_room, visited}
use Rattle.ways.proofs.Leading.{led_root, led_inside, parent-there, near_renewers, near-inside}
use Rattle.ways.proofs.visit_before.Goals as goal

pub visit_renewers-requires : goal.visit_renewers-requires
visit_renewers-requires g c =
    let p = c.requires in
    let m = c.args.m in
    let t = c.args.namers.table in
    let x = t.ready.promises in
    let w = p.0.0.sound m p.1 in
    let n = c.node-node.ensures in
    (p.0, ((omega (arith, n.definition, (x.node m w.0).definition), p.0.0.low m), near_renewers (people t.cells.now) (held t.cells.now) x g.target m _ _ w.0 (sym n.parent ∙ c.if-node-eq-BRANCHES.true) n.definition p.1 w.1))

-- the node in whose branch m stands
above : (t : Table) (m : ℕ) (r : Node) (b : Branch) → m < length (held t.cells.now).nodes → NodeIs (held t.cells.now) m r → BranchIs (held t.cells.now) r.parent b → (r.parent ≡ 1024 → ⊥)
    → ((node_entry_at (held t.cells.now) m).parent ≡ 1024 → ⊥) × (b.node < length (held t.cells.now).nodes) × (b.node ≡ (branch_entry_at (held t.cells.now) (node_entry_at (held t.cells.now) m).parent).node)
above t m r b h n k ne =
    let E = held t.cells.now in
    let x = t.ready.promises in
    let q : (node_entry_at E m).parent ≡ 1024 → ⊥ = λ q. ne (n.parent ∙ q) in
    let e = k.node ∙ ap (λ b. (branch_entry_at E b).node) n.parent in
    (q, subst (λ n. n < length E.nodes) (sym e) (x.branch _ (parent-there (people t.cells.now) E x m h q)).node, e)

pub visit-requires : goal.visit-requires
visit-requires g c =
    let p = c.requires in
    let t = c.args.namers.table in
    let x = t.ready.promises in
    let w = above t c.args.m _ _ (p.0.0.sound c.args.m p.1).0 c.node-node.ensures c.branch-namers.ensures c.if-node-eq-BRANCHES.false in
    (omega arith, (omega (arith, visit_in x p.0.0 w.1), visit_room x p.0.0 w.1))

pub returns-then-node-eq-BRANCHES : goal.returns-then-node-eq-BRANCHES
returns-then-node-eq-BRANCHES g c =
    let p = c.requires in
    let m = c.args.m in
    let t = c.args.namers.table in
    let v = c.visit_renewers.ensures in
    let n = c.node-node.ensures in
    record { same = v.same; searched_2 = v.searched_2; further = v.further; led = led_root (people t.cells.now) (held t.cells.now) t.ready.promises _ m _ _ (sym n.parent ∙ c.if-node-eq-BRANCHES.true) n.definition (v.further.marks m p.1) v.searched_2.1 v.renewers_led }

pub returns-else-node-eq-BRANCHES : goal.returns-else-node-eq-BRANCHES
returns-else-node-eq-BRANCHES g c =
    let p = c.requires in
    let m = c.args.m in
    let t = c.args.namers.table in
    let x = t.ready.promises in
    let s = p.0.0.sound m p.1 in
    let w = above t m _ _ s.0 c.node-node.ensures c.branch-namers.ensures c.if-node-eq-BRANCHES.false in
    let e = near-inside (people t.cells.now) (held t.cells.now) x g.target m _ _ s.0 w.0 w.2 p.1 s.1 in
    let a = c.visit.ensures in
    let v = visited x p.0.0 w.1 _ refl (p.0.0.low m) p.0.1 e a.marks a.queue a.len in
    record { same = c.visit.ensures.same; searched_2 = v.0; further = v.1; led = led_inside (people t.cells.now) (held t.cells.now) x _ m _ _ w.0 w.2 (v.1.marks m p.1) v.0.1 v.2 }
