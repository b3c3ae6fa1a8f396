use mathlib.Core.List.{map}
use Rattle.bitml.specs.Lists.{up_from}
use Rattle.tables.specs.Entries.{held}
use Rattle.tables.specs.SheetOf.{listed_at, cond_at}
use native.Mathlib.Omega.{arith}
use mathlib.Core.Path.{sym, ap, ◌∙◌}
use lib.ListN.{get_or}
use Rattle.pages.specs.Pages.{pages_in, secret_counts}
use Rattle.counts.proofs.Revealing.{r_numbers, r_untold, r_false, r_full, r_taken_by, told_by, cond_by, told-read, cond-read, part_values, states-long, values-long}
use Rattle.counts.proofs.Counts.reveal.Goals as goal
use Rattle.counts.proofs.Counts.reveal.Goals.{then-not-told-via-then-not-told, then-not-told-via-else-not-told+then-not-holds_for}

pub count_of-known-requires : goal.count_of-known-requires
count_of-known-requires c = let a = c.args in let p = c.requires in let n = r_numbers _ _ _ _ _ a.table.ready p.fit p.enabled p.q_value in let s = c.set_of-set.ensures in (p.cells_long_in_bounds, omega arith)

pub overflow_mul-base : goal.overflow_mul-base
overflow_mul-base c = let a = c.args in let p = c.requires in let n = r_numbers _ _ _ _ _ a.table.ready p.fit p.enabled p.q_value in let s = c.set_of-set.ensures in omega arith

pub branch-branch-requires : goal.branch-branch-requires
branch-branch-requires c = let a = c.args in let p = c.requires in record { b_in_bounds = (r_numbers _ _ _ _ _ a.table.ready p.fit p.enabled p.q_value).0 }

pub all_told-told-requires : goal.all_told-told-requires
all_told-told-requires c = let a = c.args in let p = c.requires in let n = r_numbers _ _ _ _ _ a.table.ready p.fit p.enabled p.q_value in let s = c.set_of-set.ensures in let k = c.count_of-known.ensures ∙ ap (λ i. get_or (pages_in a.cells.now secret_counts) i 0) c.set_of-set.ensures in
    record { known_in_bounds = (omega (arith, n.3, states-long a.cells.now p.cells_long_in_bounds), omega (arith, n.4, c.branch-branch.ensures.first, c.branch-branch.ensures.count)) }

pub holds_for-requires : goal.holds_for-requires
holds_for-requires c = let a = c.args in let p = c.requires in let n = r_numbers _ _ _ _ _ a.table.ready p.fit p.enabled p.q_value in let s = c.set_of-set.ensures in let k = c.count_of-known.ensures ∙ ap (λ i. get_or (pages_in a.cells.now secret_counts) i 0) c.set_of-set.ensures in let z = values-long a.cells.now p.cells_long_in_bounds in
    record { known_in_bounds = (omega (arith, n.3), omega arith, omega (arith, n.5, c.branch-branch.ensures.cond)); values = part_values a.cells.now p.cells_long_in_bounds a.table.cells.now a.self p.fit }

pub returns-then-not-told : goal.returns-then-not-told
returns-then-not-told c = let a = c.args in let p = c.requires in
    let e = sym (told_by _ _ _ _ _ a.table.ready p.fit p.enabled p.q_value c.branch-branch.ensures.first c.branch-branch.ensures.count (c.all_told-told.ensures ∙ told-read a.cells.now p.cells_long_in_bounds a.c c.set_of-set.ensures c.count_of-known.ensures (map (listed_at (held a.table.cells.now)) (up_from c.branch-branch.result.first c.branch-branch.result.count)))) in
    rw c.refused.ensures (elim c.then-not-told.branch [
      | then-not-told-via-then-not-told w ↦ r_untold _ _ _ _ _ a.table.ready p.fit p.enabled p.q_value (e ∙ w.if-not-told.true)
      | then-not-told-via-else-not-told+then-not-holds_for w ↦
          let g = sym (cond_by _ _ _ _ _ a.table.ready p.fit p.enabled p.q_value c.branch-branch.ensures.cond (w.holds_for.ensures ∙ cond-read a.cells.now p.cells_long_in_bounds a.c c.set_of-set.ensures c.count_of-known.ensures (cond_at (held a.table.cells.now) c.branch-branch.result.cond))) in
          r_false _ _ _ _ _ a.table.ready p.fit p.enabled p.q_value (g ∙ w.if-not-holds_for.true)
    ])

pub returns-then-self-ge-CONTRACTS : goal.returns-then-self-ge-CONTRACTS
returns-then-self-ge-CONTRACTS c = let a = c.args in let p = c.requires in
    let e = sym (told_by _ _ _ _ _ a.table.ready p.fit p.enabled p.q_value c.branch-branch.ensures.first c.branch-branch.ensures.count (c.all_told-told.ensures ∙ told-read a.cells.now p.cells_long_in_bounds a.c c.set_of-set.ensures c.count_of-known.ensures (map (listed_at (held a.table.cells.now)) (up_from c.branch-branch.result.first c.branch-branch.result.count)))) in
    let g = sym (cond_by _ _ _ _ _ a.table.ready p.fit p.enabled p.q_value c.branch-branch.ensures.cond (c.holds_for.ensures ∙ cond-read a.cells.now p.cells_long_in_bounds a.c c.set_of-set.ensures c.count_of-known.ensures (cond_at (held a.table.cells.now) c.branch-branch.result.cond))) in
    rw c.refused-then-self-ge-CONTRACTS.ensures (r_full _ _ _ _ _ a.table.ready p.fit p.enabled p.q_value (e ∙ c.if-not-told.false) (g ∙ c.if-not-holds_for.false) (omega arith))

pub balance_of-v-requires : goal.balance_of-v-requires
balance_of-v-requires c = let p = c.requires in (p.cells_long_in_bounds, omega (arith, p.enabled.here, p.fit.made))

pub bury-requires : goal.bury-requires
bury-requires c = let p = c.requires in (p.cells_long_in_bounds, omega (arith, p.enabled.here, p.fit.made))

pub put_contract-requires : goal.put_contract-requires
put_contract-requires c = let p = c.requires in (omega (arith, c.bury.auto.cells, p.cells_long_in_bounds), omega arith)

pub returns : goal.returns
returns c = let a = c.args in let p = c.requires in
    let e = sym (told_by _ _ _ _ _ a.table.ready p.fit p.enabled p.q_value c.branch-branch.ensures.first c.branch-branch.ensures.count (c.all_told-told.ensures ∙ told-read a.cells.now p.cells_long_in_bounds a.c c.set_of-set.ensures c.count_of-known.ensures (map (listed_at (held a.table.cells.now)) (up_from c.branch-branch.result.first c.branch-branch.result.count)))) in
    let g = sym (cond_by _ _ _ _ _ a.table.ready p.fit p.enabled p.q_value c.branch-branch.ensures.cond (c.holds_for.ensures ∙ cond-read a.cells.now p.cells_long_in_bounds a.c c.set_of-set.ensures c.count_of-known.ensures (cond_at (held a.table.cells.now) c.branch-branch.result.cond))) in
    rw (c.put_contract.ensures, c.bury.ensures, c.balance_of-v.ensures, c.set_of-set.ensures) (r_taken_by _ _ _ _ _ a.table.ready p.fit p.enabled p.q_value (e ∙ c.if-not-told.false) (g ∙ c.if-not-holds_for.false) (omega arith) c.branch-branch.ensures.arg)
