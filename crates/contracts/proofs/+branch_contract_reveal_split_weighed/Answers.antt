use mathlib.Core.Path.{refl}
use Rattle.contracts.proofs.Laws.{ready, few_took, few_leaf, branches-full, branches-free, branch_word, few_word, contract_word, contract_begun, action_w, action_s, action_r, action_g, action-other, few-node, nodes-full, nodes-free, inside-none, inside-more, ready_added, few-reveal, list_from, open_from, begin_reveal, few-branch, begin_parts, weighed_more, weighed_none}
use Rattle.contracts.specs.Contract.{read_branch, read_contract, contract_with, reveal_at, split_at}
use Rattle.steps.proofs.Laws.{told_state-err, passed, refused, yes', no', stop, also, took_number, took_letters, called, call_refused, done, by, promised, times_more, times_none, most}
use borrow.Author.Tests.{le-leb, lt-leb, eq-eqb, ne_eqb}
use native.Mathlib.Omega.{arith}
use borrow.Author.Rules.{rules}
use Rattle.conditions.proofs.Laws.{ready_kept, behind_part}
use Rattle.tables.proofs.Laws.{cells-length}
use Rattle.contracts.proofs.+branch_contract_reveal_split_weighed.Goals.{contract-then-depth-eq0-via-then-depth-eq0, contract-then-depth-eq0-via-else-depth-eq0+then-e-ge-NODES}
use Rattle.contracts.proofs.+branch_contract_reveal_split_weighed.Goals as goal

pub branch-returns-in_err-signers-clause-met : goal.branch-returns-in_err-signers-clause-met
unfolding read_branch
branch-returns-in_err-signers-clause-met t c = refused _ _ _ _ c.in_err-signers.ensures (told_state-err _ _ c.from_residual.ensures.1)

pub branch-returns-then-lim-signers-clause-met : goal.branch-returns-then-lim-signers-clause-met
unfolding read_branch
branch-returns-then-lim-signers-clause-met t c = rw c.refused.ensures (passed _ _ _ _ c.in_ok-signers.ensures (yes' _ (le-leb _ _ c.if-lim-signers.true) stop))

pub branch-returns-then-st-ge-BRANCHES-clause-met : goal.branch-returns-then-st-ge-BRANCHES-clause-met
unfolding read_branch
branch-returns-then-st-ge-BRANCHES-clause-met t c = rw c.refused-then-st-ge-BRANCHES.ensures (passed _ _ _ _ c.in_ok-signers.ensures (no' _ (lt-leb _ _ c.if-lim-signers.false) (yes' _ (branches-full _ _ _ c.if-st-ge-BRANCHES.true) stop)))

pub branch-returns-in_err-opens-clause-met : goal.branch-returns-in_err-opens-clause-met
unfolding read_branch
branch-returns-in_err-opens-clause-met t c = passed _ _ _ _ c.in_ok-signers.ensures (no' _ (lt-leb _ _ c.if-lim-signers.false) (no' _ (branches-free _ _ _ c.if-st-ge-BRANCHES.false) (refused _ _ _ _ c.in_err-opens.ensures (told_state-err _ _ c.from_residual-in_err-opens.ensures.1))))

pub branch-returns-in_err-w-clause-met : goal.branch-returns-in_err-w-clause-met
unfolding read_branch
branch-returns-in_err-w-clause-met t c = passed _ _ _ _ c.in_ok-signers.ensures (no' _ (lt-leb _ _ c.if-lim-signers.false) (no' _ (branches-free _ _ _ c.if-st-ge-BRANCHES.false) (passed _ _ _ _ c.in_ok-opens.ensures (refused _ _ _ _ c.in_err-w.ensures (told_state-err _ _ c.from_residual-in_err-w.ensures.1)))))

pub branch-leaf-requires : goal.branch-leaf-requires
branch-leaf-requires t c = let k = few_word c.requires.few c.if-st-ge-BRANCHES.false c.in_ok-signers.ensures c.in_ok-opens.ensures c.in_ok-w.ensures in
    record { has_room = ready k.0; branches_lt_most_branches = k.1 }

pub branch-leaf-requires-in-103 : goal.branch-leaf-requires-in-103
branch-leaf-requires-in-103 t c = let k = few_word c.requires.few c.if-st-ge-BRANCHES.false c.in_ok-signers.ensures c.in_ok-opens.ensures c.in_ok-w.ensures in
    record { has_room = ready k.0; branches_lt_most_branches = k.1 }

pub branch-split-requires : goal.branch-split-requires
branch-split-requires t c = let k = few_word c.requires.few c.if-st-ge-BRANCHES.false c.in_ok-signers.ensures c.in_ok-opens.ensures c.in_ok-w.ensures in
    (omega arith, k)

pub branch-reveal-requires : goal.branch-reveal-requires
branch-reveal-requires t c = let k = few_word c.requires.few c.if-st-ge-BRANCHES.false c.in_ok-signers.ensures c.in_ok-opens.ensures c.in_ok-w.ensures in
    (omega arith, k)

pub branch-returns-in-119-clause-met : goal.branch-returns-in-119-clause-met
branch-returns-in-119-clause-met t c = let k = few_word c.requires.few c.if-st-ge-BRANCHES.false c.in_ok-signers.ensures c.in_ok-opens.ensures c.in_ok-w.ensures in
    branch_word _ _ _ _ _ _ c.in_ok-signers.ensures c.if-lim-signers.false c.if-st-ge-BRANCHES.false c.in_ok-opens.ensures c.in_ok-w.ensures (action_w _ _ _ _ _ _ _ c.in-119.is _ _ (also (λ e q. few_leaf k.0 k.1 q) c.leaf.ensures.met))

pub branch-returns-in-103-clause-met : goal.branch-returns-in-103-clause-met
branch-returns-in-103-clause-met t c = let k = few_word c.requires.few c.if-st-ge-BRANCHES.false c.in_ok-signers.ensures c.in_ok-opens.ensures c.in_ok-w.ensures in
    branch_word _ _ _ _ _ _ c.in_ok-signers.ensures c.if-lim-signers.false c.if-st-ge-BRANCHES.false c.in_ok-opens.ensures c.in_ok-w.ensures (action_g _ _ _ _ _ _ _ c.in-103.is _ _ (also (λ e q. few_leaf k.0 k.1 q) c.leaf-in-103.ensures.met))

pub branch-returns-in-115-clause-met : goal.branch-returns-in-115-clause-met
branch-returns-in-115-clause-met t c = branch_word _ _ _ _ _ _ c.in_ok-signers.ensures c.if-lim-signers.false c.if-st-ge-BRANCHES.false c.in_ok-opens.ensures c.in_ok-w.ensures (action_s _ _ _ _ _ _ _ c.in-115.is _ _ c.split.ensures.met)

pub branch-returns-in-114-clause-met : goal.branch-returns-in-114-clause-met
branch-returns-in-114-clause-met t c = branch_word _ _ _ _ _ _ c.in_ok-signers.ensures c.if-lim-signers.false c.if-st-ge-BRANCHES.false c.in_ok-opens.ensures c.in_ok-w.ensures (action_r _ _ _ _ _ _ _ c.in-114.is _ _ c.reveal.ensures.met)

pub branch-returns-in_default-clause-met : goal.branch-returns-in_default-clause-met
branch-returns-in_default-clause-met t c = rw c.refused-in_default.ensures (branch_word _ _ _ _ _ _ c.in_ok-signers.ensures c.if-lim-signers.false c.if-st-ge-BRANCHES.false c.in_ok-opens.ensures c.in_ok-w.ensures (action-other _ _ _ _ _ _ _ c.in_default.in_default-own.rest.0.0.0.1 c.in_default.in_default-own.rest.0.0.1 c.in_default.in_default-own.rest.0.1 c.in_default.in_default-own.rest.1 _ _ stop))

pub contract-returns-in_err-w-clause-met : goal.contract-returns-in_err-w-clause-met
unfolding read_contract contract_with
contract-returns-in_err-w-clause-met t c = refused _ _ _ _ c.in_err-w.ensures (told_state-err _ _ c.from_residual.ensures.1)

pub contract-returns-then-w-ne-C-clause-met : goal.contract-returns-then-w-ne-C-clause-met
unfolding read_contract contract_with
contract-returns-then-w-ne-C-clause-met t c = rw c.refused.ensures (passed _ _ _ _ c.in_ok-w.ensures (no' _ (ne_eqb _ _ c.if-w-ne-C.true) stop))

pub contract-returns-then-depth-eq0-clause-met : goal.contract-returns-then-depth-eq0-clause-met
contract-returns-then-depth-eq0-clause-met t c = rw c.refused-then-depth-eq0.ensures (contract_word _ _ _ _ _ _ _ c.in_ok-w.ensures c.if-w-ne-C.false (elim c.then-depth-eq0.branch [
  | contract-then-depth-eq0-via-then-depth-eq0 w ↦ inside-none _ _ _ _ _ _ _ w.if-depth-eq0.true _ _ stop
  | contract-then-depth-eq0-via-else-depth-eq0+then-e-ge-NODES w ↦ inside-more _ _ _ _ _ _ _ w.if-depth-eq0.false _ _ (yes' _ (nodes-full _ _ _ w.if-e-ge-NODES.true) stop)
]))

pub contract-returns-in_err-n-clause-met : goal.contract-returns-in_err-n-clause-met
contract-returns-in_err-n-clause-met t c = contract_word _ _ _ _ _ _ _ c.in_ok-w.ensures c.if-w-ne-C.false (inside-more _ _ _ _ _ _ _ c.if-depth-eq0.false _ _ (no' _ (nodes-free _ _ _ c.if-e-ge-NODES.false) (refused _ _ _ _ c.in_err-n.ensures (told_state-err _ _ c.from_residual-in_err-n.ensures.1))))

pub contract-put_node-cur-requires : goal.contract-put_node-cur-requires
contract-put_node-cur-requires t c = let k = took_number _ c.in_ok-n.ensures in
    let f = few_took (few_took c.requires.few (took_letters c.in_ok-w.ensures)) k in
    record { cells_from_in_bounds = omega (arith, c.args.filling.now.spacious); fits = (ready f).fits; nodes_lt_most_nodes = omega (arith, k.nodes, c.if-e-ge-NODES.false) }

pub contract-loop-init : goal.contract-loop-init
contract-loop-init t c = let k = took_number _ c.in_ok-n.ensures in
    let f = few_took (few_took c.requires.few (took_letters c.in_ok-w.ensures)) k in
    (search rules, few-node f (omega (arith, k.nodes, c.if-e-ge-NODES.false)) c.put_node-cur.ensures.0, search rules)

pub contract-returns-in_err-cur-clause-met : goal.contract-returns-in_err-cur-clause-met
contract-returns-in_err-cur-clause-met t c = contract_begun _ _ _ _ _ _ _ _ _ c.in_ok-w.ensures c.if-w-ne-C.false c.if-depth-eq0.false c.if-e-ge-NODES.false c.in_ok-n.ensures c.put_node-cur.ensures.1
    (c.loop.invariant.0 _ _ (times_more _ _ _ _ c.loop-test.true _ _ (call_refused _ (rw (c.loop.invariant.2.0) at c.in_err-cur.ensures.met) (told_state-err _ _ c.from_residual-in_err-cur.ensures.1))))

pub contract-loop-preserved : goal.contract-loop-preserved
contract-loop-preserved t c = let m = rw (c.loop.invariant.2.0) at c.in_ok-cur.ensures.met in
    ((λ r t h. c.loop.invariant.0 _ _ (times_more _ _ _ _ c.loop-test.true _ _ (called _ m h))), promised m, search rules)

pub contract-returns-clause-met : goal.contract-returns-clause-met
contract-returns-clause-met t c = contract_begun _ _ _ _ _ _ _ _ _ c.in_ok-w.ensures c.if-w-ne-C.false c.if-depth-eq0.false c.if-e-ge-NODES.false c.in_ok-n.ensures c.put_node-cur.ensures.1
    (c.loop.invariant.0 _ _ (times_none _ _ _ _ c.loop-test.false _ _ (done refl c.loop.invariant.1)))

pub reveal-returns-in_err-n-clause-met : goal.reveal-returns-in_err-n-clause-met
unfolding reveal_at
reveal-returns-in_err-n-clause-met t c = refused _ _ _ _ c.in_err-n.ensures (told_state-err _ _ c.from_residual.ensures.1)

pub reveal-returns-then-n-eq0-clause-met : goal.reveal-returns-then-n-eq0-clause-met
unfolding reveal_at
reveal-returns-then-n-eq0-clause-met t c = rw c.refused.ensures (passed _ _ _ _ c.in_ok-n.ensures (yes' _ (eq-eqb _ _ c.if-n-eq0.true) stop))

pub reveal-list_all-requires : goal.reveal-list_all-requires
reveal-list_all-requires t c = let k = took_number _ c.in_ok-n.ensures in
    let f = few_took c.requires.few k in
    record { has_room = ready f; n_bound = omega (arith, f.few-listed, f.few-defs, k.branches, c.requires.branches_lt_most_branches, most _ _ _ c.in_ok-n.ensures) }

pub reveal-returns-in_err-f-clause-met : goal.reveal-returns-in_err-f-clause-met
unfolding reveal_at
reveal-returns-in_err-f-clause-met t c = passed _ _ _ _ c.in_ok-n.ensures (no' _ (ne_eqb _ _ c.if-n-eq0.false) (list_from _ _ _ _ _ _ _ _ _ _ (call_refused _ c.in_err-f.ensures.met (told_state-err _ _ c.from_residual-in_err-f.ensures.1))))

pub reveal-condition-requires : goal.reveal-condition-requires
reveal-condition-requires t c = let k = took_number _ c.in_ok-n.ensures in
    let f = few_took c.requires.few k in
    let l = promised c.in_ok-f.ensures.met in
    record { has_room = rw c.list_all.ensures.same.0 (ready_added (ready f) l (omega (arith, f.few-branches)) (omega (arith, f.few-listed, f.few-defs, k.branches, c.requires.branches_lt_most_branches, most _ _ _ c.in_ok-n.ensures))) }

pub reveal-returns-in_err-q-clause-met : goal.reveal-returns-in_err-q-clause-met
unfolding reveal_at
reveal-returns-in_err-q-clause-met t c = passed _ _ _ _ c.in_ok-n.ensures (no' _ (ne_eqb _ _ c.if-n-eq0.false) (list_from _ _ _ _ _ _ _ _ _ _ (called _ c.in_ok-f.ensures.met (open_from _ _ _ _ _ _ _ (cells-length _ _) _ _ (call_refused _ ((rw (c.list_all.ensures.same.0) at c.in_err-q.ensures.within).met 64 (omega arith)) (told_state-err _ _ c.from_residual-in_err-q.ensures.1))))))

pub reveal-put_branch-next-requires : goal.reveal-put_branch-next-requires
reveal-put_branch-next-requires t c = let k = took_number _ c.in_ok-n.ensures in
    let f = few_took c.requires.few k in
    let l = promised c.in_ok-f.ensures.met in
    let d = ready_added (ready f) l (omega (arith, f.few-branches)) (omega (arith, f.few-listed, f.few-defs, k.branches, c.requires.branches_lt_most_branches, most _ _ _ c.in_ok-n.ensures)) in
    let q = (behind_part (rw (c.list_all.ensures.same.0) at c.in_ok-q.ensures.within)).kept in
    record { cells_from_in_bounds = omega (arith, c.condition.new.filling.spacious); fits = (ready_kept d q).fits; branches_lt_most_branches = omega (arith, q.same-branches, l.branches, k.branches, c.requires.branches_lt_most_branches) }

pub reveal-contract-requires : goal.reveal-contract-requires
reveal-contract-requires t c = let k = took_number _ c.in_ok-n.ensures in
    let f = few_took c.requires.few k in
    let l = promised c.in_ok-f.ensures.met in
    let q = (behind_part (rw (c.list_all.ensures.same.0) at c.in_ok-q.ensures.within)).kept in
    (omega arith, rw (c.condition.ensures.same.0, c.list_all.ensures.same.0) (few-reveal f (omega (arith, k.branches, c.requires.branches_lt_most_branches)) (most _ _ _ c.in_ok-n.ensures) l q c.put_branch-next.ensures.0))

pub reveal-returns-clause-met : goal.reveal-returns-clause-met
unfolding reveal_at
reveal-returns-clause-met t c = passed _ _ _ _ c.in_ok-n.ensures (no' _ (ne_eqb _ _ c.if-n-eq0.false) (list_from _ _ _ _ _ _ _ _ _ _ (called _ c.in_ok-f.ensures.met (open_from _ _ _ _ _ _ _ (cells-length _ _) _ _ (called _ ((rw (c.list_all.ensures.same.0) at c.in_ok-q.ensures.within).met 64 (omega arith)) (begin_reveal _ _ _ _ _ _ _ _ _ _ c.put_branch-next.ensures.1 _ _ (rw (c.condition.ensures.same.0, c.list_all.ensures.same.0) at c.contract.ensures.met)))))))

pub split-returns-in_err-n-clause-met : goal.split-returns-in_err-n-clause-met
unfolding split_at
split-returns-in_err-n-clause-met t c = refused _ _ _ _ c.in_err-n.ensures (told_state-err _ _ c.from_residual.ensures.1)

pub split-returns-then-n-eq0-clause-met : goal.split-returns-then-n-eq0-clause-met
unfolding split_at
split-returns-then-n-eq0-clause-met t c = rw c.refused.ensures (passed _ _ _ _ c.in_ok-n.ensures (yes' _ (eq-eqb _ _ c.if-n-eq0.true) stop))

pub split-put_branch-next-requires : goal.split-put_branch-next-requires
split-put_branch-next-requires t c = let k = took_number _ c.in_ok-n.ensures in
    let f = few_took c.requires.few k in
    record { cells_from_in_bounds = omega (arith, c.args.filling.now.spacious); fits = (ready f).fits; branches_lt_most_branches = omega (arith, k.branches, c.requires.branches_lt_most_branches) }

pub split-weighed-requires : goal.split-weighed-requires
split-weighed-requires t c = let k = took_number _ c.in_ok-n.ensures in
    let f = few_took c.requires.few k in
    (omega arith, (few-branch f (omega (arith, k.branches, c.requires.branches_lt_most_branches)) c.put_branch-next.ensures.0, most _ _ _ c.in_ok-n.ensures))

pub split-returns-clause-met : goal.split-returns-clause-met
unfolding split_at
split-returns-clause-met t c = let k = took_number _ c.in_ok-n.ensures in passed _ _ _ _ c.in_ok-n.ensures (no' _ (ne_eqb _ _ c.if-n-eq0.false) (by (begin_parts _ _ _ _ _ _ _ _ k.branches (rw c.action.ensures at c.put_branch-next.ensures.1)) c.weighed.ensures.met))

pub weighed-returns-in_err-w-clause-met : goal.weighed-returns-in_err-w-clause-met
weighed-returns-in_err-w-clause-met t c = c.loop-left.invariant.0 _ _ (weighed_more _ _ _ _ _ _ c.loop-left-test.true _ _ (refused _ _ _ _ (rw (c.loop-left.invariant.3.0) at c.in_err-w.ensures) (told_state-err _ _ c.from_residual.ensures.1)))

pub weighed-overflow_add-sum : goal.weighed-overflow_add-sum
weighed-overflow_add-sum t c = omega (arith, most _ _ _ c.in_ok-w.ensures)

pub weighed-overflow_add-left : goal.weighed-overflow_add-left
weighed-overflow_add-left t c = omega (arith, most _ _ _ c.in_ok-w.ensures)

pub weighed-returns-then-left-sum-eq0-clause-met : goal.weighed-returns-then-left-sum-eq0-clause-met
weighed-returns-then-left-sum-eq0-clause-met t c = rw c.refused.ensures (c.loop-left.invariant.0 _ _ (weighed_more _ _ _ _ _ _ c.loop-left-test.true _ _ (passed _ _ _ _ (rw (c.loop-left.invariant.3.0) at c.in_ok-w.ensures) (yes' _ (eq-eqb _ _ c.if-left-sum-eq0.true) stop))))

pub weighed-contract-requires : goal.weighed-contract-requires
weighed-contract-requires t c = (omega arith, rw (c.loop-left.invariant.3.0) (few_took c.loop-left.invariant.1 (took_number _ (rw (c.loop-left.invariant.3.0) at c.in_ok-w.ensures))))

pub weighed-returns-in_err-cur-clause-met : goal.weighed-returns-in_err-cur-clause-met
weighed-returns-in_err-cur-clause-met t c = c.loop-left.invariant.0 _ _ (weighed_more _ _ _ _ _ _ c.loop-left-test.true _ _ (passed _ _ _ _ (rw (c.loop-left.invariant.3.0) at c.in_ok-w.ensures) (no' _ (ne_eqb _ _ c.if-left-sum-eq0.false) (call_refused _ (rw (c.loop-left.invariant.3.0) at c.in_err-cur.ensures.met) (told_state-err _ _ c.from_residual-in_err-cur.ensures.1)))))

pub weighed-loop-left-preserved : goal.weighed-loop-left-preserved
weighed-loop-left-preserved t c = let n = rw (c.loop-left.invariant.3.0) at c.in_ok-cur.ensures.met in
    ((λ r t m. c.loop-left.invariant.0 _ _ (weighed_more _ _ _ _ _ _ c.loop-left-test.true _ _ (passed _ _ _ _ (rw (c.loop-left.invariant.3.0) at c.in_ok-w.ensures) (no' _ (ne_eqb _ _ c.if-left-sum-eq0.false) (called _ n m))))), promised n, omega (arith, most _ _ _ c.in_ok-w.ensures), search rules)

pub weighed-returns-clause-met : goal.weighed-returns-clause-met
weighed-returns-clause-met t c = c.loop-left.invariant.0 _ _ (weighed_none _ _ _ _ _ _ c.loop-left-test.false _ _ (done refl c.loop-left.invariant.1))
