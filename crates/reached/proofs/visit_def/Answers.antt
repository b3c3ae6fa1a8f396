use mathlib.Core.Path.{sym, ◌∙◌, subst}
use Prim.Native.Nat.{◌<◌}
use native.Mathlib.Omega.{arith}
use lib.ListN.{length}
use Rattle.reached.specs.Marks.{DefLed}
use Rattle.reached.proofs.Reaching.{def-all, node-reached}
use Rattle.reached.proofs.Queue.{def_none, def-more, grown_same, grown_more}
use Rattle.tables.specs.SheetOf.{def_entry_at}
use Rattle.tables.specs.Entries.{held, people}
use Rattle.reached.proofs.visit_def.Goals as goal

pub loop-n-init : goal.loop-n-init
loop-n-init c =
    let E = held c.args.index.table.cells.now in
    let r = c.definition-n.ensures.root in
    (c.requires.searched, grown_same _, omega (arith, r), subst (DefLed E c.args.search.now.marks.now c.args.d (def_entry_at E c.args.d).root) (sym r) (def_none _ _ _))

pub loop-n-preserved : goal.loop-n-preserved
loop-n-preserved c = let l = c.loop-n in let v = c.visit_node.ensures in
    (v.searched_2, grown_more _ _ _ l.invariant.1 v.grown, omega arith, def-more _ _ _ _ _ _ v.grown l.invariant.3 v.node_led)

pub visit_node-requires-clause-n_in_bounds : goal.visit_node-requires-clause-n_in_bounds
visit_node-requires-clause-n_in_bounds c =
    let t = c.args.index.table in
    let h : c.loop-n.n < length (held t.cells.now).nodes = omega (arith, c.node_total-n-end.ensures) in
    (h, node-reached (people t.cells.now) (held t.cells.now) t.ready.promises c.loop-n.n c.args.d h (sym c.node.ensures.definition ∙ c.if-node-d.false) c.requires.def_reached)

pub returns-then-node-d-clause-def_led : goal.returns-then-node-d-clause-def_led
returns-then-node-d-clause-def_led c =
    let t = c.args.index.table in
    let l = c.loop-n in
    def-all (people t.cells.now) (held t.cells.now) t.ready.promises l.search.marks.now c.args.d l.n c.requires.def_reached.there l.invariant.2 (λ h e. c.if-node-d.true (c.node.ensures.definition ∙ e)) l.invariant.3

pub returns-clause-def_led : goal.returns-clause-def_led
returns-clause-def_led c =
    let t = c.args.index.table in
    let l = c.loop-n in
    def-all (people t.cells.now) (held t.cells.now) t.ready.promises l.search.marks.now c.args.d l.n c.requires.def_reached.there l.invariant.2 (λ h e. omega (arith, c.loop-n-test.false, c.node_total-n-end.ensures)) l.invariant.3
