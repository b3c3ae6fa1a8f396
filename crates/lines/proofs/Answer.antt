-- How the answer for the whole sheet comes from its lines. Assumes nothing.
use Prim.Native.Nat.{ℕ, ◌≤◌, ◌<◌, ◌^◌}
use mathlib.Core.Path.{◌≡◌, sym, ap, ◌∙◌}
use mathlib.Core.List.{List}
use native.Mathlib.Omega.{arith}
use lib.ListN.{length}
use lib.Dec.{eqb}
use Rattle.fields.specs.Field.{Got}
use Rattle.fields.specs.Field as got
use Rattle.fields.specs.Field.{spelled, between_at, first_at, line_end_at}
use Rattle.fields.proofs.Ranges.{when_read-cases, cond_cases, between-end, line-end-next}
use Rattle.tables.specs.declared.St.{St}
use Rattle.tables.specs.State.{state_of, Headed}
use Rattle.steps.specs.Steps.{Read}
use Rattle.steps.specs.Steps.{Value, Bad}
use Rattle.steps.specs.Steps.{next, bad, outcome, OnSt, Met, times}
use Rattle.lines.specs.LineOne as one
use Rattle.lines.specs.LineOne.{Counts, counts_at, line_one_at}
use Rattle.lines.specs.Counts.{Defined}
use Rattle.lines.specs.Definition.{define_at, blank}
use Rattle.lines.specs.Sheet.{limited, accept, sizes, sheet_from, read_sheet, answered, WhenAccepted}
use Rattle.places.specs.Places.{passing_of}
use Rattle.lines.proofs.Bytes.{limited-within, limited-beyond}

-- ---- line 1

-- K, F and the position of an accepted line 1
pub record Counted (s : List ℕ) (k n e : ℕ) : Type 0 where
  pub some-people : 1 ≤ k
  pub few-people : k ≤ 16
  pub some-defs : 1 ≤ n
  pub few-defs : n ≤ 32
  pub inside : e ≤ length s

never_counts : {Q : Type 0} (m p k n e : ℕ) → one.Bad m p ≡ Counts k n e → Q
never_counts m p k n e h = let z : ◌≡◌ {A = ℕ} 0 1 = cc in absurd (omega arith)

counts_counted : (s : List ℕ) (at k n e : ℕ) → counts_at s at ≡ Counts k n e → Counted s k n e
unfolding counts_at
counts_counted s at k n e =
    when_read-cases (λ r. r ≡ Counts k n e → Counted s k n e) one.Bad (between_at s at 1 16) _ (λ m p. never_counts m p k n e) λ k₁ q g.
    when_read-cases (λ r. r ≡ Counts k n e → Counted s k n e) one.Bad (between_at s q 1 32) _ (λ m p. never_counts m p k n e) λ n₁ r h.
    when_read-cases (λ r. r ≡ Counts k n e → Counted s k n e) one.Bad (line_end_at s r) _ (λ m p. never_counts m p k n e) λ v e₁ i j.
    let a = between-end s at 1 16 k₁ q g in
    let b = between-end s q 1 32 n₁ r h in
    let c = line-end-next s r v e₁ i in
    let x : k₁ ≡ k = cc in
    let y : n₁ ≡ n = cc in
    let z : e₁ ≡ e = cc in
    record { some-people = omega arith; few-people = omega arith; some-defs = omega arith; few-defs = omega arith; inside = omega arith }

pub counted : (s : List ℕ) (k n e : ℕ) → line_one_at s ≡ Counts k n e → Counted s k n e
unfolding line_one_at
counted s k n e =
    when_read-cases (λ r. r ≡ Counts k n e → Counted s k n e) one.Bad (first_at s 0) _ (λ m p. never_counts m p k n e) λ w p g.
    cond_cases (λ r. r ≡ Counts k n e → Counted s k n e) (eqb w (spelled "bitml")) (counts_at s p) (one.Bad 3 0)
    (λ b. counts_counted s p k n e)
    (λ b. never_counts 3 0 k n e)

-- ---- the answer

module _ (s : List ℕ) (k n p : ℕ) (t : List ℕ) where
  -- the table has its header
  pub accepted-is : (e : St) (u : List ℕ) → Counted s k n p → Met (Defined s n) (times n (define_at s (sizes k n)) (blank p)) (Value 0 e) t → e.at ≤ 32768 → Headed k e t u
      → (answered (got.Value 0 e.at) u ≡ sheet_from s (Counts k n p)) × WhenAccepted s (got.Value 0 e.at) u
  unfolding sheet_from accept answered WhenAccepted outcome OnSt
  accepted-is e u c m h d =
      let w : Defined s n e = m.holds in
      let z : next (state_of e t) ≡ limited s (times n (define_at s (sizes k n)) (blank p)) = sym (limited-within s (state_of e t) h) ∙ ap (limited s) m.same in (
        rw (← z, d.participants, d.entries),
        record {
          inside = w.between.inside;
          some-people = omega (arith, d.participants, c.some-people);
          few-people = omega (arith, d.participants, c.few-people);
          some-defs = omega (arith, d.defs, w.now_defs, c.some-defs);
          few-defs = omega (arith, d.defs, w.now_defs, c.few-defs);
          few-nodes = omega (arith, d.nodes, w.between.few-nodes);
        },
      )

  -- too many bytes
  pub beyond-is : (e : St) (q : ℕ) (u : List ℕ) → Met (Defined s n) (times n (define_at s (sizes k n)) (blank p)) (Value 0 e) t → 32768 < e.at → q ≡ passing_of s 32768
      → (answered (got.Bad 7 q) u ≡ sheet_from s (Counts k n p)) × WhenAccepted s (got.Bad 7 q) u
  unfolding sheet_from accept answered WhenAccepted outcome OnSt
  beyond-is e q u m h hq =
      let w : Defined s n e = m.holds in
      let z : bad 7 q ≡ limited s (times n (define_at s (sizes k n)) (blank p)) = sym (limited-beyond s q (omega (arith, w.between.inside)) hq (state_of e t) h) ∙ ap (limited s) m.same in
      (rw (← z), tt)

  -- a refusal, as the limit on bytes leaves it
  pub refused-is : (n₁ p₁ m₂ p₂ : ℕ) (u : List ℕ) → Met (Defined s n) (times n (define_at s (sizes k n)) (blank p)) (Bad n₁ p₁) t → limited s (bad n₁ p₁) ≡ bad m₂ p₂
      → (answered (got.Bad m₂ p₂) u ≡ sheet_from s (Counts k n p)) × WhenAccepted s (got.Bad m₂ p₂) u
  unfolding sheet_from accept answered WhenAccepted outcome
  refused-is n₁ p₁ m₂ p₂ u m h =
      let z : bad m₂ p₂ ≡ limited s (times n (define_at s (sizes k n)) (blank p)) = sym h ∙ ap (limited s) m.same in
      (rw (← z), tt)

-- the code's 2^K
pub all_known : (s : List ℕ) (k n at all : ℕ) (r : Read) (t : List ℕ) → all ≡ 2 ^ k
    → Met (Defined s n) (times n (define_at s (record { all = all; people = k; defs = n; def = 0; secrets = 0 })) (blank at)) r t
    → Met (Defined s n) (times n (define_at s (sizes k n)) (blank at)) r t
all_known s k n at all r t h m = rw h at m

pub counts-read : (s : List ℕ) (k n p : ℕ) (r : Got) (t : List ℕ) → Counts k n p ≡ line_one_at s
    → (answered r t ≡ sheet_from s (Counts k n p)) × WhenAccepted s r t → (answered r t ≡ read_sheet s) × WhenAccepted s r t
unfolding read_sheet
counts-read s k n p r t h m = (m.0 ∙ ap (sheet_from s) h, m.1)

-- line 1 is refused
pub refusal-read : (s : List ℕ) (n p m₂ p₂ : ℕ) (t : List ℕ) → one.Bad n p ≡ line_one_at s → limited s (bad n p) ≡ bad m₂ p₂
    → (answered (got.Bad m₂ p₂) t ≡ read_sheet s) × WhenAccepted s (got.Bad m₂ p₂) t
unfolding read_sheet sheet_from accept answered WhenAccepted
refusal-read s n p m₂ p₂ t h i = (rw (← h, i), tt)
