use native.Mathlib.Omega.{arith}
use mathlib.Core.Path.{sym, ap, subst, ◌∙◌}
use Prim.Native.Nat.{◌+◌, ◌<◌}
use mathlib.Core.List.{map}
use lib.ListN.{length, length-map}
use Rattle.duties.specs.Duties.{handed}
use Rattle.tables.specs.Entries.{held}
use Rattle.tables.specs.SheetOf.{def_entry_at}
use Rattle.pages.specs.Pages.{pages_in, with_contract, with_set}
use Rattle.counts.specs.declared.Counts.{Counts}
use Rattle.counts.specs.Book.{book}
use Rattle.counts.specs.Does.{Does, renewal}
use Rattle.counts.specs.Steps.{Stores}
use Rattle.counts.proofs.Storing.{stored-book, stores_same}
use Rattle.counts.proofs.Renewing.{n_numbers, def_in_lem, renew-count_by, renew_limit_by, room_by, renew-taken_by}
use Rattle.counts.proofs.Counts.renew_as.Goals as goal

pub branch-d-requires : goal.branch-d-requires
branch-d-requires c = let a = c.args in let p = c.requires in record { b_in_bounds = (n_numbers _ _ _ _ (map handed a.vs.now) _ a.table.ready p.fit p.enabled p.q_value).0 }

pub definition-definition-requires : goal.definition-definition-requires
definition-definition-requires c = let a = c.args in let p = c.requires in record { d_in_bounds = subst (λ d. d < length (held a.table.cells.now).defs) (sym c.branch-d.ensures.arg) (def_in_lem _ _ _ _ (map handed a.vs.now) _ a.table.ready p.fit p.enabled p.q_value) }

pub returns-then-vs-definition : goal.returns-then-vs-definition
returns-then-vs-definition c = let a = c.args in let p = c.requires in rw c.refused.ensures (renew-count_by _ _ _ _ (map handed a.vs.now) _ a.table.ready p.fit p.enabled p.q_value c.branch-d.ensures.arg c.definition-definition.ensures.secrets (λ e. c.if-vs-definition.true (sym (length-map a.vs.now handed) ∙ e)))

pub deposits-more-requires : goal.deposits-more-requires
deposits-more-requires c = let a = c.args in let p = c.requires in record { d_in_bounds = subst (λ d. d < length (held a.table.cells.now).defs) (sym c.branch-d.ensures.arg) (def_in_lem _ _ _ _ (map handed a.vs.now) _ a.table.ready p.fit p.enabled p.q_value) }

pub returns-then-not-has_room : goal.returns-then-not-has_room
returns-then-not-has_room c = let a = c.args in let p = c.requires in rw c.refused-then-not-has_room.ensures (renew_limit_by _ _ _ _ (map handed a.vs.now) _ a.table.ready p.fit p.enabled p.q_value c.branch-d.ensures.arg c.definition-definition.ensures.secrets (length-map a.vs.now handed ∙ c.if-vs-definition.false) c.deposits-more.ensures c.has_room.ensures c.if-not-has_room.true)

pub put_set-requires : goal.put_set-requires
put_set-requires c = let a = c.args in let p = c.requires in let m = room_by _ _ _ _ (map handed a.vs.now) _ a.table.ready p.fit p.enabled p.q_value c.branch-d.ensures.arg c.definition-definition.ensures.secrets (length-map a.vs.now handed ∙ c.if-vs-definition.false) c.deposits-more.ensures c.has_room.ensures c.if-not-has_room.false in (omega (arith, c.bury.auto.cells, p.cells_long_in_bounds), m.1)

pub overflow_add-v : goal.overflow_add-v
overflow_add-v c = let a = c.args in let p = c.requires in let m = room_by _ _ _ _ (map handed a.vs.now) _ a.table.ready p.fit p.enabled p.q_value c.branch-d.ensures.arg c.definition-definition.ensures.secrets (length-map a.vs.now handed ∙ c.if-vs-definition.false) c.deposits-more.ensures c.has_room.ensures c.if-not-has_room.false in omega (arith, c.balance_of-v.ensures, (n_numbers _ _ _ _ (map handed a.vs.now) _ a.table.ready p.fit p.enabled p.q_value).3, m.2)

pub put_contract-requires : goal.put_contract-requires
put_contract-requires c = let a = c.args in let p = c.requires in let m = room_by _ _ _ _ (map handed a.vs.now) _ a.table.ready p.fit p.enabled p.q_value c.branch-d.ensures.arg c.definition-definition.ensures.secrets (length-map a.vs.now handed ∙ c.if-vs-definition.false) c.deposits-more.ensures c.has_room.ensures c.if-not-has_room.false in (omega (arith, c.bury.auto.cells, c.put_set.auto.cells, p.cells_long_in_bounds), m.0)

pub store-requires : goal.store-requires
store-requires c = let a = c.args in let p = c.requires in let m = room_by _ _ _ _ (map handed a.vs.now) _ a.table.ready p.fit p.enabled p.q_value c.branch-d.ensures.arg c.definition-definition.ensures.secrets (length-map a.vs.now handed ∙ c.if-vs-definition.false) c.deposits-more.ensures c.has_room.ensures c.if-not-has_room.false in
    let k = (n_numbers _ _ _ _ (map handed a.vs.now) _ a.table.ready p.fit p.enabled p.q_value).1 in let e = c.if-vs-definition.false in let g = c.definition-definition.ensures.secrets in
    let y = ap (λ d. (def_entry_at (held a.table.cells.now) d).secrets) c.branch-d.ensures.arg in
    record { i_bound = (m.1, omega arith, omega (arith, c.bury.auto.cells, c.put_set.auto.cells, c.put_contract.auto.cells, p.cells_long_in_bounds)); by_index = p.by_index }

pub overflow_add-result-3 : goal.overflow_add-result-3
overflow_add-result-3 c = let a = c.args in let p = c.requires in let m = room_by _ _ _ _ (map handed a.vs.now) _ a.table.ready p.fit p.enabled p.q_value c.branch-d.ensures.arg c.definition-definition.ensures.secrets (length-map a.vs.now handed ∙ c.if-vs-definition.false) c.deposits-more.ensures c.has_room.ensures c.if-not-has_room.false in omega (arith, m.2)

pub returns : goal.returns
returns c = let a = c.args in let p = c.requires in
    let l = a.self in
    let r : Counts = record { answer = 0; time = l.time; made = l.made + 1; sets = l.sets + 1; taken = l.taken + c.deposits-more.result } in
    let e = c.put_contract.ensures ∙ ap (with_contract l.made c.definition-definition.result.root (c.balance_of-v.result + c.deposits-more.result) l.sets) (c.put_set.ensures ∙ ap (with_set l.sets c.branch-d.result.arg c.definition-definition.result.secrets) c.bury.ensures) in
    let s = subst (λ P. Stores P l.sets (map handed a.vs.now) (length (map handed a.vs.now)) (pages_in c.store.new.cells)) e (stores_same (sym (length-map a.vs.now handed)) c.store.ensures) in
    subst (λ x. Does a.table.cells.now (book a.self (pages_in a.cells.now)) (renewal a.c a.b (map handed a.vs.now)) x) (sym (stored-book r s))
    (rw c.balance_of-v.ensures (renew-taken_by _ _ _ _ (map handed a.vs.now) _ a.table.ready p.fit p.enabled p.q_value c.branch-d.ensures.arg c.definition-definition.ensures.secrets (length-map a.vs.now handed ∙ c.if-vs-definition.false) c.deposits-more.ensures c.has_room.ensures c.definition-definition.ensures.root c.if-not-has_room.false _ _ s.secrets))
