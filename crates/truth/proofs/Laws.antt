-- One law for each way out of the evaluation. Assumes nothing.
use mathlib.Core.Path.{◌≡◌, refl, sym, ap, ap₂, ◌∙◌, subst}
use mathlib.Core.Logic.{◌⊎◌, inl, inr, ⊎_elim, by_cases}
use Prim.Native.Nat.{ℕ, suc, ◌+◌, ◌*◌, ◌-◌, ◌≤◌, ◌<◌}
use native.Mathlib.Omega.{arith}
use native.Mathlib.Decide.{dec_le}
use mathlib.Core.Bool.{Bool, true, false, not, ◌&&◌}
use mathlib.Core.List.{List, []}
use lib.ListN.{length, get_or, drop, length-drop}
use lib.Seq.{get_or-drop, drop-drop, drop-length}
use lib.Dec.{eqb, ltb}
use Rattle.bitml.specs.Lists.{◌&◌}
use Rattle.bitml.specs.Sheet.{Cond, value, holds, add, sub, both}
use Rattle.bitml.specs.Runs.{closed_expr, closed, counts_always}
use Rattle.bitml.proofs.Lists.{and_no, and-end, and_assoc}
use Rattle.tables.specs.Entries.{Entries}
use Rattle.tables.specs.SheetOf.{pick_e, pick_c, cond_at}
use Rattle.truth.specs.declared.Slate.{Slate}
use Rattle.truth.specs.Evaluation.{Cells, Values, rest, side, added, Room, expr_in, cond_in, ValueAt, OperandsAt, HoldsAt, TruthOf, numbers}
use Rattle.truth.proofs.Levels.{expr_parts, cond-parts}

head_is : (t : List ℕ) (left : ℕ) → get_or (rest t left) 0 0 ≡ get_or t (length t - left) 0
head_is t left = get_or-drop (length t - left) t 0 0 ∙ ap (λ i. get_or t i 0) (let z : length t - left + 0 ≡ length t - left = omega arith in z)

pub field_is : (t : List ℕ) (left : ℕ) {r : ℕ} → r ≡ get_or t (length t - left) 0 → r ≡ get_or (rest t left) 0 0
field_is t left e = e ∙ sym (head_is t left)

-- From one field of a condition to the next. Where none is left, 0 stands, and none is left behind it
record Step (cells : List ℕ) (left on : ℕ) : Type 0 where
  same : rest cells on ≡ drop 1 (rest cells left)
  down : on ≤ left
  moved : (get_or (rest cells left) 0 0 ≡ 0) ⊎ (on < left)

steps : (t : List ℕ) {left on : ℕ} → left ≤ length t → on ≡ left - 1 → Step t left on
steps t {left} {on} h e = by_cases (dec_le left 0)
    (λ z.
    let i : length t - on ≡ length t = omega (arith, e, z) in
    let j : length t - left ≡ length t = omega (arith, z) in
    let n : rest t left ≡ [] = ap (λ k. drop k t) j ∙ drop-length t in
    record { same = ap (λ k. drop k t) i ∙ drop-length t ∙ sym (ap (λ xs. drop 1 xs) n); down = omega (arith, e); moved = inl (ap (λ xs. get_or xs 0 0) n) })
    (λ z.
    let i : length t - on ≡ length t - left + 1 = omega (arith, e, z, h) in
    record { same = ap (λ k. drop k t) i ∙ sym (drop-drop 1 (length t - left) t); down = omega (arith, e); moved = inr (omega (arith, e, z)) })

-- ---- the slate: what is added to one side leaves the other

module _ (k : ℕ) where
  added_side : (taken : Bool) (S : Slate) → side taken (added taken k S) ≡ side taken S + k
  added_side true S = refl
  added_side false S = refl

  added_other : (taken : Bool) (S : Slate) → side (not taken) (added taken k S) ≡ side (not taken) S
  added_other true S = refl
  added_other false S = refl

  added-named : (taken : Bool) (S : Slate) → (added taken k S).named ≡ S.named
  added-named true S = refl
  added-named false S = refl

  added_both : (taken : Bool) (S : Slate) → (added taken k S).plus + (added taken k S).minus ≡ S.plus + S.minus + k
  added_both true S = omega arith
  added_both false S = omega arith

back : (taken : Bool) → not (not taken) ≡ taken
back true = refl
back false = refl

and-turned : (a b : Bool) → (a && b) ≡ (b & a)
unfolding ◌&◌
and-turned true true = refl
and-turned true false = refl
and-turned false true = refl
and-turned false false = refl

chain : (a b c v w z : ℕ) → b ≡ a + v → c ≡ b + w → z ≡ v + w → c ≡ a + z
chain a b c v w z e f g = omega (arith, e, f, g)

swap : (a b : ℕ) → a + b ≡ b + a
swap a b = omega arith

module _ {t : List ℕ} {left : ℕ} {S : Slate} (m : Room t left S) where
  added_room : {next : ℕ} (taken : Bool) (k : ℕ) → next ≤ length t → (length t - left) * 1000000000 + k ≤ (length t - next) * 1000000000 → Room t next (added taken k S)
  added_room taken k i h = record { inside = i; small = omega (arith, m.small, h, added_both k taken S) }

-- what a cell of the table holds
cell-most : {t : List ℕ} {k : ℕ} (left : ℕ) → Cells t → k ≡ get_or (rest t left) 0 0 → k ≤ 1000000000
cell-most {t} left cs e = omega (arith, e, head_is t left, cs.cell (length t - left))

-- both sides start at 0
abbrev cleaned : Slate → Slate
cleaned S = record { plus = 0; minus = 0; named = S.named; holds = S.holds }

-- a condition's truth is written down
abbrev telling : Bool → Slate → Slate
telling b S = record { plus = S.plus; minus = S.minus; named = S.named; holds = b }

abbrev naming : Slate → Slate
naming S = record { plus = S.plus; minus = S.minus; named = true; holds = S.holds }

naming_side : (taken : Bool) (S : Slate) → side taken (naming S) ≡ side taken S
naming_side true S = refl
naming_side false S = refl

-- ---- expressions and conditions

-- a code that is none of the first
three : (k : ℕ) → 1 < k → (k ≡ 2 → ⊥) → k ≡ suc (suc (suc (k - 3)))
three k h n = omega (arith, h, n)

four : (k : ℕ) → 3 < k → k ≡ suc (suc (suc (suc (k - 4))))
four k h = omega (arith, h)

module _ (t values : List ℕ) where
  module _ {left code on : ℕ} (i : left ≤ length t) (ec : code ≡ get_or (rest t left) 0 0) (eo : on ≡ left - 1) where
    read_e-is : (k : ℕ) → code ≡ k → expr_in t (rest t left) ≡ pick_e (expr_in t) k (rest t on)
    read_e-is k e =
        expr_parts t (rest t left) (omega (arith, length-drop (length t - left) t))
        ∙ ap₂ (λ c fs. pick_e (expr_in t) c fs) (sym ec ∙ e) (sym (steps t i eo).same)

    read_c-is : (k : ℕ) → code ≡ k → cond_in t (rest t left) ≡ pick_c (cond_in t) (expr_in t) k (rest t on)
    read_c-is k e =
        cond-parts t (rest t left) (omega (arith, length-drop (length t - left) t))
        ∙ ap₂ (λ c fs. pick_c (cond_in t) (expr_in t) c fs) (sym ec ∙ e) (sym (steps t i eo).same)

    module _ {taken : Bool} {S : Slate} (m : Room t left S) where
      pub value-number : {k next : ℕ} → Cells t → code ≡ 0 → k ≡ get_or (rest t on) 0 0 → next ≡ on - 1 → ValueAt t values left taken S next (added taken k S)
      unfolding pick_e
      value-number {k} {next} cs e ek en =
          let s = steps t i eo in
          let h : on ≤ length t = omega (arith, eo, i) in
          let n = steps t h en in
          let q = read_e-is 0 e in
          let w : (value (numbers values) (expr_in t (rest t left)).0).0 ≡ k = ap (λ r. (value (numbers values) r.0).0) q ∙ sym ek in
          let v : (value (numbers values) (expr_in t (rest t left)).0).1 ≡ 0 = ap (λ r. (value (numbers values) r.0).1) q in
          record {
            plus = omega (arith, added_side k taken S, w);
            minus = omega (arith, added_other k taken S, v);
            named = ap not (added-named k taken S) ∙ sym (and-end _) ∙ sym (ap (λ r. not S.named & closed_expr r.0) q);
            behind = n.same ∙ sym (ap (λ r. r.1) q);
            down = omega (arith, s.down, n.down);
            room = added_room m taken k (omega (arith, h, n.down)) (⊎_elim (λ z. omega (arith, i, ek, z, s.down, n.down)) (λ z. omega (arith, i, cell-most on cs ek, z, s.down)) n.moved);
          }

      pub value-secret : {j x next : ℕ} → Values values → code ≡ 1 → j ≡ get_or (rest t on) 0 0 → x ≡ get_or values j 0 → next ≡ on - 1 → ValueAt t values left taken S next (naming (added taken x S))
      unfolding pick_e
      value-secret {j} {x} {next} vs e ej ex en =
          let s = steps t i eo in
          let h : on ≤ length t = omega (arith, eo, i) in
          let n = steps t h en in
          let q = read_e-is 1 e in
          let w : (value (numbers values) (expr_in t (rest t left)).0).0 ≡ x = ap (λ r. (value (numbers values) r.0).0) q ∙ ap (λ i. get_or values i 0) (sym ej) ∙ sym ex in
          let v : (value (numbers values) (expr_in t (rest t left)).0).1 ≡ 0 = ap (λ r. (value (numbers values) r.0).1) q in
          let a = added_room m {next = next} taken x (omega (arith, h, n.down)) (⊎_elim (λ z. absurd (omega (arith, ec, e, z))) (λ z. omega (arith, i, ex, vs.most j, z, n.down)) s.moved) in
          record {
            plus = omega (arith, naming_side taken (added taken x S), added_side x taken S, w);
            minus = omega (arith, naming_side (not taken) (added taken x S), added_other x taken S, v);
            named = sym (and_no _ _ (ap (λ r. closed_expr r.0) q));
            behind = n.same ∙ sym (ap (λ r. r.1) q);
            down = omega (arith, s.down, n.down);
            room = record { inside = a.inside; small = a.small };
          }

      -- the first operand is done: what the second gives is what the whole gives
      module _ {f : ℕ} {U : Slate} (wa : ValueAt t values on taken S f U) {next : ℕ} {W : Slate} where
        pub value-add : code ≡ 2 → ValueAt t values f taken U next W → ValueAt t values left taken S next W
        unfolding pick_e
        value-add e wb =
            let q = read_e-is 2 e ∙ ap (λ fs. (add (expr_in t (rest t on)).0 (expr_in t fs).0, (expr_in t fs).1)) (sym wa.behind) in
            record {
              plus = chain _ _ _ _ _ _ wa.plus wb.plus (ap (λ r. (value (numbers values) r.0).0) q);
              minus = chain _ _ _ _ _ _ wa.minus wb.minus (ap (λ r. (value (numbers values) r.0).1) q);
              named = wb.named ∙ ap (λ b. b & closed_expr (expr_in t (rest t f)).0) wa.named ∙ and_assoc _ _ _ ∙ sym (ap (λ r. not S.named & closed_expr r.0) q);
              behind = wb.behind ∙ sym (ap (λ r. r.1) q);
              down = omega (arith, wa.down, wb.down, eo);
              room = wb.room;
            }

        pub value-sub : 1 < code → (code ≡ 2 → ⊥) → ValueAt t values f (not taken) U next W → ValueAt t values left taken S next W
        unfolding pick_e
        value-sub h n wb =
            let z : code ≡ suc (suc (suc (code - 3))) = three code h n in
            let q = read_e-is (suc (suc (suc (code - 3)))) z ∙ ap (λ fs. (sub (expr_in t (rest t on)).0 (expr_in t fs).0, (expr_in t fs).1)) (sym wa.behind) in
            record {
              plus = chain _ _ _ _ _ _ wa.plus (subst (λ b. side b W ≡ side b U + (value (numbers values) (expr_in t (rest t f)).0).1) (back taken) wb.minus) (ap (λ r. (value (numbers values) r.0).0) q);
              minus = chain _ _ _ _ _ _ wa.minus wb.plus (ap (λ r. (value (numbers values) r.0).1) q);
              named = wb.named ∙ ap (λ b. b & closed_expr (expr_in t (rest t f)).0) wa.named ∙ and_assoc _ _ _ ∙ sym (ap (λ r. not S.named & closed_expr r.0) q);
              behind = wb.behind ∙ sym (ap (λ r. r.1) q);
              down = omega (arith, wa.down, wb.down, eo);
              room = wb.room;
            }

    abbrev holding : ℕ → Bool
    holding i = holds (numbers values) (cond_in t (rest t i)).0

    module _ {S : Slate} where
      pub holds-always : code ≡ 0 → HoldsAt t values left S on (telling true S)
      unfolding pick_c
      holds-always e =
          let q = read_c-is 0 e in
          record {
            truth = sym (ap (λ r. holds (numbers values) r.0) q);
            named = sym (and-end _) ∙ sym (ap (λ r. not S.named & closed r.0) q);
            behind = sym (ap (λ r. r.1) q);
            down = omega (arith, eo);
          }

      pub holds_not : {next : ℕ} {U : Slate} → code ≡ 2 → HoldsAt t values on S next U → HoldsAt t values left S next (telling (not U.holds) U)
      unfolding pick_c
      holds_not e ja =
          let q = read_c-is 2 e in
          record {
            truth = ap not ja.truth ∙ sym (ap (λ r. holds (numbers values) r.0) q);
            named = ja.named ∙ sym (ap (λ r. not S.named & closed r.0) q);
            behind = ja.behind ∙ sym (ap (λ r. r.1) q);
            down = omega (arith, ja.down, eo);
          }

      -- both conditions are done
      pub holds_both : {f : ℕ} {U : Slate} {next : ℕ} {W : Slate} → code ≡ 1 → HoldsAt t values on S f U → HoldsAt t values f U next W
          → HoldsAt t values left S next (telling (W.holds && U.holds) W)
      unfolding pick_c
      holds_both {f} {U} {next} {W} e ja jb =
          let q = read_c-is 1 e ∙ ap (λ fs. (both (cond_in t (rest t on)).0 (cond_in t fs).0, (cond_in t fs).1)) (sym ja.behind) in
          record {
            truth = and-turned W.holds U.holds ∙ ap₂ (λ a b. a & b) ja.truth jb.truth ∙ sym (ap (λ r. holds (numbers values) r.0) q);
            named = jb.named ∙ ap (λ b. b & closed (cond_in t (rest t f)).0) ja.named ∙ and_assoc _ _ _ ∙ sym (ap (λ r. not S.named & closed r.0) q);
            behind = jb.behind ∙ sym (ap (λ r. r.1) q);
            down = omega (arith, ja.down, jb.down, eo);
          }

      -- two expressions are compared
      module _ {f : ℕ} {U : Slate} (w : OperandsAt t values on S f U) where
        compared : {b : Bool} {c : Cond} → cond_in t (rest t left) ≡ (c, (expr_in t (expr_in t (rest t on)).1).1) → b ≡ holds (numbers values) c
            → closed c ≡ (closed_expr (expr_in t (rest t on)).0 & closed_expr (expr_in t (expr_in t (rest t on)).1).0)
            → HoldsAt t values left S f (telling b U)
        compared q h k = record {
          truth = h ∙ sym (ap (λ r. holds (numbers values) r.0) q);
          named = w.named ∙ sym (ap (λ b. not S.named & b) k) ∙ sym (ap (λ r. not S.named & closed r.0) q);
          behind = w.behind ∙ sym (ap (λ r. r.1) q);
          down = omega (arith, w.down, eo);
        }

        pub holds_equal : code ≡ 3 → HoldsAt t values left S f (telling (eqb U.plus U.minus) U)
        unfolding pick_c
        holds_equal e = compared (read_c-is 3 e) (ap₂ (λ i j. eqb i j) w.plus w.minus) refl

        pub holds_less : 3 < code → HoldsAt t values left S f (telling (ltb U.plus U.minus) U)
        unfolding pick_c
        holds_less h = compared (read_c-is (suc (suc (suc (suc (code - 4))))) (four code h)) (ap₂ (λ i j. ltb i j) w.plus w.minus) refl

  -- the first expression adds to a clean slate, and the second to its other side
  pub operands_are : {left f next : ℕ} (S : Slate) {U W : Slate}
      → ValueAt t values left false (cleaned S) f U → ValueAt t values f true U next W → OperandsAt t values left S next W
  operands_are {left} {f} S {U} wa wb =
      let p : U.plus ≡ (value (numbers values) (expr_in t (rest t left)).0).0 = omega (arith, wa.plus) in
      let m : U.minus ≡ (value (numbers values) (expr_in t (rest t left)).0).1 = omega (arith, wa.minus) in
      record {
        plus = wb.minus ∙ ap₂ (λ x fs. x + (value (numbers values) (expr_in t fs).0).1) p wa.behind;
        minus = wb.plus ∙ swap _ _ ∙ ap₂ (λ x fs. (value (numbers values) (expr_in t fs).0).0 + x) m wa.behind;
        named = wb.named ∙ ap (λ b. b & closed_expr (expr_in t (rest t f)).0) wa.named ∙ and_assoc _ _ _
            ∙ ap (λ fs. not S.named & (closed_expr (expr_in t (rest t left)).0 & closed_expr (expr_in t fs).0)) wa.behind;
        behind = wb.behind ∙ ap (λ fs. (expr_in t fs).1) wa.behind;
        down = omega (arith, wa.down, wb.down);
      }

-- ---- what the slate tells of the condition whose cells start at c

-- the fields from a place on are those that are left
place_from : {n c : ℕ} → c < n → n - (n - c) ≡ c
place_from h = omega (arith, h)

head_from : (xs : List ℕ) {c code : ℕ} → c < length xs → code ≡ get_or xs c 0 → code ≡ get_or (rest xs (length xs - c)) 0 0
head_from xs {c} h k = field_is xs (length xs - c) (k ∙ ap (λ i. get_or xs i 0) (sym (place_from h)))

pub truth_from : (E : Entries) {values : List ℕ} {c next : ℕ} {S U : Slate} → not S.named ≡ true → c < length E.cells
    → HoldsAt E.cells values (length E.cells - c) S next U → TruthOf (cond_at E c) values U
unfolding cond_at ◌&◌
truth_from E {values} {c} {next} {S} n h w = record {
  truth = w.truth ∙ ap (λ i. holds (numbers values) (cond_in E.cells (drop i E.cells)).0) (place_from h);
  named = w.named ∙ ap₂ (λ b i. b & closed (cond_in E.cells (drop i E.cells)).0) n (place_from h);
}

-- a `t`
abbrev untouched : Slate
untouched = record { plus = 0; minus = 0; named = false; holds = true }

pub truth-always : (E : Entries) (values : List ℕ) (c : ℕ) → c < length E.cells → get_or E.cells c 0 ≡ 0 → TruthOf (cond_at E c) values untouched
truth-always E values c h e = truth_from E {S = untouched} refl h
    (holds-always E.cells values {left = length E.cells - c} {on = length E.cells - c - 1} (omega arith) (head_from E.cells h refl) refl e)

module _ {c : Cond} {S : Slate} (h : TruthOf c [] S) where
  pub counts-told : not S.named ≡ true → S.holds ≡ counts_always c
  unfolding counts_always ◌&◌
  counts-told e = h.truth ∙ sym (ap (λ b. b & holds (λ j. 0) c) (sym h.named ∙ e))

  pub counts-not : not S.named ≡ false → not S.named ≡ counts_always c
  unfolding counts_always ◌&◌
  counts-not e = e ∙ sym (ap (λ b. b & holds (λ j. 0) c) (sym h.named ∙ e))
