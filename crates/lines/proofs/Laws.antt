-- Laws of line 1 and the `def` lines. Assumes nothing.
use Prim.Native.Nat.{ℕ, zero, suc, ◌+◌, ◌-◌, ◌*◌, ◌≤◌, ◌<◌, ◌^◌}
use mathlib.Core.Path.{◌≡◌, refl, sym, ap, ◌∙◌, subst}
use mathlib.Core.List.{List}
use native.Mathlib.Nat.{pow-succ'}
use native.Mathlib.Numerals.{sub-one}
use native.Mathlib.Omega.{arith}
use lib.ListN.{length}
use lib.Dec.{ltb}
use Rattle.fields.specs.Field.{number_at, line_end_at}
use Rattle.tables.specs.declared.St.{St}
use Rattle.tables.specs.Entries.{first_of, node_in, def_in}
use Rattle.tables.specs.State.{State, state_of, nodes_of, branches_of, defs_of, listed_of, cells_of, with_listed, with_def, def_entry, more_defs}
use Rattle.tables.proofs.Runs.{first_of-length}
use Rattle.tables.proofs.Laws.{listed-length}
use Rattle.steps.specs.Steps.{Read}
use Rattle.steps.specs.Steps.{Value, Bad}
use Rattle.steps.specs.Steps.{Outcome, next, bad, moved, Met, go_on, either, and_then, times}
use Rattle.steps.proofs.Laws.{Took, took_line-end, passed, refused, by, done, Leads}
use Rattle.conditions.specs.Condition.{HasRoom}
use Rattle.contracts.specs.declared.Limits.{Limits}
use Rattle.contracts.specs.Contract.{read_contract}
use Rattle.contracts.specs.Counts.{Few, Added}
use Rattle.lines.specs.Counts.{Between, Defined}
use Rattle.lines.specs.Definition.{within, deposits_at, root_at, owned_at, define_at, blank}

-- "2^K" is twice the number of the last of K participants
pub twice-last : {m : ℕ} (k : ℕ) → 1 ≤ k → m ≡ 2 ^ (k - 1) → 2 * m ≡ 2 ^ k
twice-last zero h e = absurd (omega arith)
twice-last (suc k) h e = ap (λ m. 2 * m) (e ∙ ap (λ p. 2 ^ p) (sub-one (suc k))) ∙ sym (pow-succ' 2 k)

-- the deposits, one by one
module _ (P : St → Type 0) (s : List ℕ) where
  deposits-suc : (sum n : ℕ) (a : State)
      → Leads P (go_on a (number_at s a.at 2100000000000000) λ v a₁. either (ltb 2100000000000000 (sum + v)) (bad 7 a.at) (deposits_at s (sum + v) n (with_listed v a₁))) (deposits_at s sum (suc n) a)
  unfolding deposits_at
  deposits-suc sum n a r t m = m

  deposits-zero : (sum : ℕ) (a : State) → Leads P (next a) (deposits_at s sum 0 a)
  unfolding deposits_at
  deposits-zero sum a r t m = m

  pub deposits-more : (sum n i : ℕ) (a : State) → i < n
      → Leads P (go_on a (number_at s a.at 2100000000000000) λ v a₁. either (ltb 2100000000000000 (sum + v)) (bad 7 a.at) (deposits_at s (sum + v) (n - (i + 1)) (with_listed v a₁))) (deposits_at s sum (n - i) a)
  deposits-more sum n i a h r t m =
      let e : n - i ≡ suc (n - (i + 1)) = omega arith in
      by (ap (λ j. deposits_at s sum j a) (sym e)) (deposits-suc sum (n - (i + 1)) a r t m)

  pub deposits-none : (sum n i : ℕ) (a : State) → n ≤ i → Leads P (next a) (deposits_at s sum (n - i) a)
  deposits-none sum n i a h r t m =
      let e : n - i ≡ 0 = omega arith in
      by (ap (λ j. deposits_at s sum j a) (sym e)) (deposits-zero sum a r t m)

  pub deposits_from : (sum n : ℕ) (x a : State) → x ≡ a → Leads P (deposits_at s sum n x) (deposits_at s sum n a)
  deposits_from sum n x a h r t m = rw h at m

-- ---- a `def` line

module _ (P : St → Type 0) (s : List ℕ) where
  -- the deposits are listed from `first` on
  pub owned_from : (z : Limits) (x : Outcome) (first : ℕ) (t : List ℕ) → Leads P (and_then x (owned_at s z first)) (and_then x (owned_at s z (length (listed_of first t))))
  owned_from z x first t r u i = rw (listed-length first t) i

  -- the contract of a definition whose entry is stored
  pub root_from : (z : Limits) (first n : ℕ) (st : St) (t : List ℕ) (x : State) → x ≡ with_def (def_entry st.nodes first n) (state_of st t)
      → Leads P (and_then (read_contract s (within z n st.defs) 32 1024 0 x) λ a₁. go_on a₁ (line_end_at s a₁.at) λ v a₂. next a₂) (root_at s z first n (state_of st t))
  unfolding root_at nodes_of defs_of
  root_from z first n st t x h r u m = rw (first_of-length (def_in t) st.defs, first_of-length (node_in t) st.nodes, ← h) m

  -- the last field
  pub finish : (st : St) (r : Read) (t : List ℕ) → r ≡ moved st (line_end_at s st.at) → ((e : St) → Took s 1 st e → P e) → Met P (go_on (state_of st t) (line_end_at s st.at) λ v a. next a) r t
  finish st (Value v e) t h f = passed st _ t _ h (done refl (f e (took_line-end h)))
  finish st (Bad n p) t h f = refused st _ t _ h refl

-- ---- counts

module _ (s : List ℕ) where
  pub between-ready : (n : ℕ) (st : St) → Between s n st → n ≤ 24 → st.defs < 32 → HasRoom s st
  between-ready n st b h i =
      record {
        fits = record { nodes-fit = b.few-nodes; branches-fit = b.few-branches; defs-fit = omega arith; listed-fit = omega arith; cells_fit = omega arith };
        paid = b.few-cells;
        inside = b.inside;
        short = b.short;
      }

  pub between_took : (n m : ℕ) (st e : St) → Between s n st → Took s m st e → Between s n e
  between_took n m st e b k =
      record { few-nodes = omega arith; few-branches = omega arith; few-listed = omega arith; few-cells = omega arith; inside = k.inside; short = b.short }

  pub between_added : (n l m : ℕ) (st e : St) → Between s n st → Added s 0 l st e → n + l ≤ m → Between s m e
  between_added n l m st e b k h =
      record { few-nodes = omega arith; few-branches = omega arith; few-listed = omega arith; few-cells = omega arith; inside = k.inside; short = b.short }

  pub few-root : (lim : Limits) (st e : St) → Between s 24 st → st.defs < 32 → e ≡ more_defs st → lim.def ≡ st.defs → Few s lim e
  few-root lim st e b h i j =
      subst (Few s lim) (sym i)
      (record { few-nodes = b.few-nodes; few-branches = b.few-branches; few-defs = omega arith; this_def = omega arith; few-listed = omega arith; few-cells = b.few-cells; inside = b.inside; short = b.short })

  pub defined : (lim : Limits) (d : ℕ) (l e : St) → Few s lim l → lim.def ≡ d → Took s 1 l e → Defined s (d + 1) e
  defined lim d l e w h k =
      record {
        between = record { few-nodes = omega arith; few-branches = omega arith; few-listed = omega arith; few-cells = omega arith; inside = k.inside; short = w.short };
        now_defs = omega arith;
      }

  -- the same count of definitions in other words
  pub counted_as : (d d' : ℕ) (w : Outcome) (r : Read) (t : List ℕ) → d ≡ d' → Met (Defined s (d + 1)) w r t → Met (Defined s (d' + 1)) w r t
  counted_as d d' w r t h m = rw h at m

  -- ---- the lines, one by one

  pub nothing-between : (at : ℕ) → at ≤ length s → length s ≤ 65536 → Defined s 0 (record { at = at; nodes = 0; branches = 0; defs = 0; listed = 0; cells = 0 })
  nothing-between at h i =
      record {
        between = record { few-nodes = omega arith; few-branches = omega arith; few-listed = omega arith; few-cells = omega arith; inside = h; short = i };
        now_defs = omega arith;
      }

  pub defined_more : (i : ℕ) (st e : St) → Defined s i st → Defined s (st.defs + 1) e → Defined s (i + 1) e
  defined_more i st e a b = record { between = b.between; now_defs = omega (arith, a.now_defs, b.now_defs) }

  pub from_blank : (z : Limits) (n p : ℕ) (t : List ℕ) → Leads (Defined s n) (times (n - 0) (define_at s z) (state_of (record { at = p; nodes = 0; branches = 0; defs = 0; listed = 0; cells = 0 }) t)) (times n (define_at s z) (blank p))
  unfolding nodes_of branches_of defs_of listed_of cells_of first_of
  from_blank z n p t r u m =
      let e : n - 0 ≡ n = omega arith in
      by (ap (λ i. times i (define_at s z) (blank p)) e) m
