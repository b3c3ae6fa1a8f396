-- What is wrong with a row, by the array of ranks: a turn of each loop, and the whole check. Assumes nothing.
use mathlib.Core.Path.{◌≡◌, refl, sym, ap, ap₂, ◌∙◌}
use Prim.Native.Nat.{ℕ, zero, suc, ◌+◌, ◌*◌, ◌≤◌, ◌<◌}
use native.Mathlib.Omega.{arith}
use mathlib.Core.Bool.{true, false, not}
use mathlib.Core.List.{List, [], ◌∷◌, map}
use lib.ListN.{length, get_or, drop}
use lib.Dec.{eqb, leb}
use borrow.Author.Tests.{ne_eqb, lt-ltb, le-leb, lt-leb}
use Rattle.bitml.specs.Lists.{◌&◌, ask, sum, every}
use Rattle.bitml.specs.Sheet.{Sheet, branches_at, branch_at, has_branch, parts, def_at}
use Rattle.bitml.specs.Runs.{own, next}
use Rattle.bitml.specs.Rows as bitml
use Rattle.bitml.specs.Rows.{Row, has, rank_of, row_fault, faulty, check, or_else}
use Rattle.bitml.proofs.Lists.{and_true, and-end, map_cong}
use Rattle.tables.specs.Entries.{Entries, held, people}
use Rattle.tables.specs.SheetOf.{branch_entry_at, def_entry_at, branch_numbers, branch_number, branch_count, part_numbers, action_of, branch_of, sheet_of, sheet_in}
use Rattle.tables.proofs.SheetOf.{root_is, branches-are, count_of, branch_of_lem, branch-small, next-renewal}
use Rattle.buffer.specs.Buffer.{row_in, rows_of}
use Rattle.reading.specs.Promises.{Promises}
use Rattle.reading.proofs.Formed.{parts-are-nodes}
use Rattle.sheets.specs.Ready.{Ready}
use Rattle.order.specs.Nodes.{Known, has_by, order_fault}
use Rattle.order.proofs.Ranks.{rows_from_lem, rows_end, known_has}
use Rattle.order.proofs.Order.{order_then}
use Rattle.rows.specs.Given.{RowsFit, next_by, rank_sum, fault_by, answer_of, Liquid, Refused}
use Rattle.rows.proofs.Promised.{row-branch}
use Rattle.tables.specs.Kinds.{code}
use Rattle.tables.specs.declared.Kind.{Kind}
use Rattle.tables.specs.declared.Kind.TheVariants.{Withdraw, Split, Reveal, Renew}
use Rattle.std.specs.List.{sum_by}
use Rattle.std.proofs.lemmas.List.Sums.{sum_by-cons, sum_by-le}

-- ---- a node's row

module _ (A : List ℕ) (m : ℕ) where
  pub has_no : get_or A m 0 ≡ 0 → has_by A m ≡ false
  unfolding has_by
  has_no e = rw e

  pub has_yes : (get_or A m 0 ≡ 0 → ⊥) → has_by A m ≡ true
  unfolding has_by
  has_yes f = rw (ne_eqb (get_or A m 0) 0 f)

-- ---- the sum of ranks

module _ (A : List ℕ) where
  pub sum-is : (ms : List ℕ) → sum_by (λ m. get_or A m 0) ms ≡ rank_sum A ms
  unfolding rank_sum
  sum-is [] = refl
  sum-is (m ∷ ms) = sum_by-cons (λ m. get_or A m 0) m ms ∙ ap (λ k. get_or A m 0 + k) (sum-is ms)

  pub sum-small : (top : ℕ) → ((m : ℕ) → get_or A m 0 ≤ top) → (ms : List ℕ) → sum_by (λ m. get_or A m 0) ms ≤ length ms * top
  sum-small top h ms = sum_by-le (λ m. get_or A m 0) top ms (λ k d l. h (get_or ms k d))

-- ---- what a branch leads to

pub renew-is : (k : Kind) → code k ≡ 3 → k ≡ Renew
renew-is Withdraw e = absurd (omega arith)
renew-is Split e = absurd (omega arith)
renew-is Reveal e = absurd (omega arith)
renew-is Renew e = refl

module _ (K : ℕ) (E : Entries) (ok : Promises K E) (A : List ℕ) (b : ℕ) (hb : b < length E.branches) where
  next-parts : ((branch_entry_at E b).kind ≡ 3 → ⊥) → next (sheet_of K E) (branch_of E b).action ≡ part_numbers E b
  unfolding branch_of action_of
  next-parts f = go (branch_entry_at E b).kind refl ∙ parts-are-nodes K E ok b hb
    where
      go : (k : ℕ) → (branch_entry_at E b).kind ≡ k → next (sheet_of K E) (action_of E b k) ≡ parts (action_of E b k)
      go zero e = refl
      go (suc zero) e = refl
      go (suc (suc zero)) e = refl
      go (suc (suc (suc k))) e = absurd (f (omega (arith, (ok.branch b hb).kind)))

  pub next-has : ((branch_entry_at E b).kind ≡ 3 → ⊥) → every (has_by A) (part_numbers E b) ≡ next_by K E A b
  unfolding next_by
  next-has f = ap (every (has_by A)) (sym (next-parts f))

  pub next-root : (branch_entry_at E b).kind ≡ 3 → not (eqb (get_or A (def_entry_at E (branch_entry_at E b).arg).root 0) 0) ≡ next_by K E A b
  unfolding next_by has_by
  next-root e = sym (ap (every (has_by A)) (next-renewal E b K e ((ok.branch b hb).renew e).definition) ∙ and-end _)

-- ---- a row

module _ (K : ℕ) (E : Entries) (p : ℕ) (A : List ℕ) (r : Row) where
  pub fault-missing : every (next_by K E A) (branch_numbers E r.node) ≡ false → 11 ≡ fault_by K E p A r
  unfolding fault_by ask
  fault-missing e = rw e

  module _ (e : every (next_by K E A) (branch_numbers E r.node) ≡ true) (b : ℕ) (q : b ≡ branch_number E r.node r.branch) where
    pub fault-other : own (sheet_of K E) p r.node (branch_of E b) ≡ false → 12 ≡ fault_by K E p A r
    unfolding fault_by ask
    fault-other f = rw (e, ← q, f)

    module _ (f : own (sheet_of K E) p r.node (branch_of E b) ≡ true) (k : ℕ) (g : k ≡ suc (rank_sum A (part_numbers E b))) where
      pub fault-low : r.rank < k → 13 ≡ fault_by K E p A r
      unfolding fault_by ask
      fault-low h = rw (e, ← q, f, ← g, lt-leb k r.rank h)

      pub fault-none : k ≤ r.rank → 0 ≡ fault_by K E p A r
      unfolding fault_by ask
      fault-none h = rw (e, ← q, f, ← g, le-leb k r.rank h)

module _ (K : ℕ) (E : Entries) (p : ℕ) (ok : Promises K E) (R : List Row) (A : List ℕ) (kn : Known R A) where
  has_all : (ms : List ℕ) → every (has R) ms ≡ every (has_by A) ms
  has_all [] = refl
  has_all (m ∷ ms) = ap₂ (λ a b. a & b) (known_has R A kn m) (has_all ms)

  next-all : (bs : List ℕ) → every (λ br. every (has R) (next (sheet_of K E) br.action)) (map (branch_of E) bs) ≡ every (next_by K E A) bs
  unfolding next_by
  next-all [] = refl
  next-all (b ∷ bs) = ap₂ (λ a b. a & b) (has_all (next (sheet_of K E) (branch_of E b).action)) (next-all bs)

  fault-is : (r : Row) → r.node < length E.nodes → r.branch < branch_count E r.node → row_fault (sheet_of K E) p R r ≡ fault_by K E p A r
  unfolding row_fault fault_by rank_sum
  fault-is r hn hb =
      let S = sheet_of K E in
      let e = branch_number E r.node r.branch in
      let br = branch_of_lem K E r.node r.branch hn hb in
      let q₁ : every (λ br. every (has R) (next S br.action)) (branches_at S r.node) ≡ every (next_by K E A) (branch_numbers E r.node) =
      ap (every (λ br. every (has R) (next S br.action))) (branches-are K E r.node hn) ∙ next-all (branch_numbers E r.node) in
      let q₂ : (has_branch S r.node r.branch & own S p r.node (branch_at S r.node r.branch)) ≡ own S p r.node (branch_of E e) =
      and_true _ _ (lt-ltb r.branch (length (branches_at S r.node)) (omega (arith, count_of K E r.node hn))) ∙ ap (own S p r.node) br in
      let q₃ : sum (map (rank_of R) (parts (branch_at S r.node r.branch).action)) ≡ rank_sum A (part_numbers E e) =
      ap (λ br. sum (map (rank_of R) (parts br.action))) br
      ∙ ap (λ ms. sum (map (rank_of R) ms)) (parts-are-nodes K E ok e (branch-small E r.node r.branch hb))
      ∙ ap sum (map_cong (rank_of R) (λ m. get_or A m 0) (part_numbers E e) (λ m h. sym (kn.rank m))) in
      ap₂ (λ x y. ask x 11 y) q₁ (ap₂ (λ x y. ask x 12 (ask (leb (suc y) r.rank) 13 0)) q₂ q₃)

pub row-fault : (t u : List ℕ) (n : ℕ) → Ready t → RowsFit t u n → (p : ℕ) (A : List ℕ) → Known (rows_of n u) A → (i : ℕ) → i < n
    → row_fault (sheet_in t) p (rows_of n u) (row_in u i) ≡ fault_by (people t) (held t) p A (row_in u i)
row-fault t u n ok fit p A kn i h =
    fault-is (people t) (held t) p ok.promises (rows_of n u) A kn (row_in u i) (fit.each i h).has-node (row-branch t u n ok fit i h)

-- ---- row by row

module _ (s : Sheet) (p : ℕ) (u : List ℕ) (i n : ℕ) where
  more : (f : ℕ) → i < n → row_fault s p (rows_of n u) (row_in u i) ≡ f
      → faulty s p (rows_of n u) (i + 1) (drop i (rows_of n u)) ≡ or_else (record { number = f; place = i + 1 }) (faulty s p (rows_of n u) (i + 1 + 1) (drop (i + 1) (rows_of n u)))
  unfolding faulty
  more f h e =
      ap (faulty s p (rows_of n u) (i + 1)) (rows_from_lem u n i h)
      ∙ ap₂ (λ f k. or_else (record { number = f; place = i + 1 }) (faulty s p (rows_of n u) k (drop (i + 1) (rows_of n u)))) e (let z : suc (i + 1) ≡ i + 1 + 1 = omega arith in z)

  pub faults_hit : (f : ℕ) → i < n → row_fault s p (rows_of n u) (row_in u i) ≡ f → (f ≡ 0 → ⊥)
      → record { number = f; place = i + 1 } ≡ faulty s p (rows_of n u) (i + 1) (drop i (rows_of n u))
  faults_hit f h e g = sym (more f h e ∙ rw (ne_eqb f 0 g))

  pub faults_miss : i < n → row_fault s p (rows_of n u) (row_in u i) ≡ 0
      → faulty s p (rows_of n u) (i + 1) (drop i (rows_of n u)) ≡ faulty s p (rows_of n u) (i + 1 + 1) (drop (i + 1) (rows_of n u))
  faults_miss h e = more 0 h e

pub faults_end : (s : Sheet) (p : ℕ) (u : List ℕ) (i n : ℕ) → n ≤ i → faulty s p (rows_of n u) (i + 1) (drop i (rows_of n u)) ≡ record { number = 0; place = 0 }
unfolding faulty
faults_end s p u i n h = ap (faulty s p (rows_of n u) (i + 1)) (rows_end u n i h)

-- ---- the whole check

-- 10 and 21
pub check-order : (s : Sheet) (p : ℕ) (R : List Row) (f : bitml.Fault) → f ≡ order_fault R → (f.number ≡ 0 → ⊥) → f ≡ check s p R
unfolding check
check-order s p R f e z = sym (order_then R _ ∙ rw (← e, ne_eqb f.number 0 z))

module _ (K : ℕ) (E : Entries) (p : ℕ) (ok : Promises K E) (R : List Row) (A : List ℕ) (kn : Known R A) (e : (order_fault R).number ≡ 0) where
  root-has : has R (def_at (sheet_of K E) 0).root ≡ has_by A (def_entry_at E 0).root
  root-has = ap (has R) (root_is K E 0 (omega (arith, ok.limits.defs.0))) ∙ known_has R A kn (def_entry_at E 0).root

  pub check-root : get_or A (def_entry_at E 0).root 0 ≡ 0 → record { number = 11; place = 0 } ≡ check (sheet_of K E) p R
  unfolding check ask
  check-root f = sym (order_then R _ ∙ rw (e, root-has ∙ has_no A (def_entry_at E 0).root f))

  pub check-rest : (get_or A (def_entry_at E 0).root 0 ≡ 0 → ⊥) → faulty (sheet_of K E) p R 1 R ≡ check (sheet_of K E) p R
  unfolding check ask
  check-rest f = sym (order_then R _ ∙ rw (e, root-has ∙ has_yes A (def_entry_at E 0).root f))

module _ (R : List Row) (f : bitml.Fault) where
  pub answer-refused : (f.number ≡ 0 → ⊥) → Refused f.number f.place ≡ answer_of R f
  unfolding answer_of
  answer-refused g = rw (ne_eqb f.number 0 g)

  pub answer-liquid : (n k : ℕ) → f.number ≡ 0 → length R ≡ n → k ≡ rank_of R 0 → Liquid n k ≡ answer_of R f
  unfolding answer_of
  answer-liquid n k e l q = rw (e, l, q)
