-- Rows in another order are asked the same, and sorting puts them by rising node. Assumes nothing.
use mathlib.Core.Path.{◌≡◌, refl, sym, ap₂, ◌∙◌, subst, subst₂}
use Prim.Native.Nat.{ℕ, suc, ◌≤◌}
use native.Mathlib.Omega.{arith}
use mathlib.Core.Bool.{Bool, true, false, cond}
use mathlib.Core.List.Permᴰ
use mathlib.Core.List.{List, [], ◌∷◌, map, Permᴰ}
use lib.Dec.{eqb, leb}
use borrow.Author.Tests.{eqb-true, leb-true, leb-false}
use Rattle.bitml.specs.Lists.{◌or◌, sum, All, nil, cons}
use Rattle.bitml.specs.Sheet.{Sheet, branch_at, parts, def_at}
use Rattle.bitml.specs.Rows.{Row, has, rank_of, Distinct, empty, apart, Holds, InAnyOrder, Rising, end, rise, Accepted}
use Rattle.bitml.specs.Sorting.{insert, sorted}
use Rattle.bitml.proofs.Lists.{all_head, all_tail, all_imp, map_cong}
use Rattle.bitml.proofs.Order.{distinct-first, distinct-rest}

-- ---- what a change of order keeps

pub perm-all : {Q : Row → Type 0} {R S : List Row} → Permᴰ R S → All Q R → All Q S
perm-all Permᴰ.nil a = nil
perm-all {Q} (Permᴰ.cons e d) a = cons (subst Q e (all_head a)) (perm-all d (all_tail a))
perm-all {Q} (Permᴰ.swap e f) a = cons (subst Q f (all_head (all_tail a))) (cons (subst Q e (all_head a)) (all_tail (all_tail a)))
perm-all (Permᴰ.trans d d') a = perm-all d' (perm-all d a)

pub perm-distinct : {R S : List Row} → Permᴰ R S → Distinct R → Distinct S
perm-distinct Permᴰ.nil h = empty
perm-distinct (Permᴰ.cons {l₂ = S} e d) h =
    apart (subst (λ r. All (λ q. r.node ≡ q.node → ⊥) S) e (perm-all d (distinct-first h))) (perm-distinct d (distinct-rest h))
perm-distinct (Permᴰ.swap {a = a} {b = b} {l = R} e f) h =
    let g : Distinct (b ∷ a ∷ R) =
    apart (cons (λ q. all_head (distinct-first h) (sym q)) (distinct-first (distinct-rest h))) (apart (all_tail (distinct-first h)) (distinct-rest (distinct-rest h))) in
    subst₂ (λ x y. Distinct (x ∷ y ∷ R)) f e g
perm-distinct (Permᴰ.trans d d') h = perm-distinct d' (perm-distinct d h)

or_swap : (a b c : Bool) → (a or (b or c)) ≡ (b or (a or c))
unfolding ◌or◌
or_swap true true c = refl
or_swap true false c = refl
or_swap false b c = refl

pub perm-has : {R S : List Row} → Permᴰ R S → (n : ℕ) → has R n ≡ has S n
perm-has Permᴰ.nil n = refl
perm-has (Permᴰ.cons e d) n = ap₂ (λ r t. eqb r.node n or t) e (perm-has d n)
perm-has (Permᴰ.swap {a = a} {b = b} {l = R} e f) n =
    or_swap (eqb a.node n) (eqb b.node n) (has R n) ∙ ap₂ (λ x y. eqb x.node n or (eqb y.node n or has R n)) f e
perm-has (Permᴰ.trans d d') n = perm-has d n ∙ perm-has d' n

pub rank_swap : (a b : Row) (R : List Row) (n : ℕ) → (a.node ≡ b.node → ⊥) → rank_of (a ∷ b ∷ R) n ≡ rank_of (b ∷ a ∷ R) n
rank_swap a b R n ne = go (eqb a.node n) refl (eqb b.node n) refl
  where
    go : (t : Bool) → eqb a.node n ≡ t → (u : Bool) → eqb b.node n ≡ u
        → cond t a.rank (cond u b.rank (rank_of R n)) ≡ cond u b.rank (cond t a.rank (rank_of R n))
    go true e true f = absurd (ne (eqb-true _ _ e ∙ sym (eqb-true _ _ f)))
    go true e false f = refl
    go false e u f = refl

-- the first row of a node is its only one
pub perm-rank : {R S : List Row} → Permᴰ R S → Distinct R → (n : ℕ) → rank_of R n ≡ rank_of S n
perm-rank Permᴰ.nil h n = refl
perm-rank (Permᴰ.cons e d) h n = ap₂ (λ r t. cond (eqb r.node n) r.rank t) e (perm-rank d (distinct-rest h) n)
perm-rank (Permᴰ.swap {a = a} {b = b} {l = R} e f) h n =
    rank_swap a b R n (all_head (distinct-first h)) ∙ ap₂ (λ x y. rank_of (x ∷ y ∷ R) n) f e
perm-rank (Permᴰ.trans d d') h n = perm-rank d h n ∙ perm-rank d' (perm-distinct d h) n

pub perm_ranks : {R S : List Row} → Permᴰ R S → Distinct R → (ms : List ℕ) → map (rank_of R) ms ≡ map (rank_of S) ms
perm_ranks d h ms = map_cong _ _ ms λ m hm. perm-rank d h m

module _ (s : Sheet) (p : ℕ) {R S : List Row} (d : Permᴰ R S) where
  perm-holds : Distinct R → (r : Row) → Holds s p R r → Holds s p S r
  perm-holds h r a =
      let q = perm_ranks d h (parts (branch_at s r.node r.branch).action) in
      record {
        closed = λ b m hb hm. sym (perm-has d m) ∙ a.closed b m hb hm;
        mine = a.mine;
        enough = subst (λ ks. suc (sum ks) ≤ r.rank) q a.enough;
      }

  reordered : InAnyOrder s p R → InAnyOrder s p S
  reordered a =
      record {
        distinct = perm-distinct d a.distinct;
        root = sym (perm-has d (def_at s 0).root) ∙ a.root;
        each = perm-all d (all_imp (perm-holds a.distinct) a.each);
      }

-- ---- sorting

-- what either side gives
either : (Q : List Row → Type 0) (b : Bool) (R S : List Row) → (b ≡ true → Q R) → (b ≡ false → Q S) → Q (cond b R S)
either Q true R S f g = f refl
either Q false R S f g = g refl

insert_keeps : (r : Row) (R : List Row) → Permᴰ (r ∷ R) (insert r R)
unfolding insert
insert_keeps r [] = Permᴰ.refl _
insert_keeps r (q ∷ R) = either (Permᴰ (r ∷ q ∷ R)) (leb r.node q.node) _ _
    (λ e. Permᴰ.refl _)
    (λ e. Permᴰ.trans (Permᴰ.swap refl refl) (Permᴰ.cons refl (insert_keeps r R)))

pub sorted_keeps : (R : List Row) → Permᴰ R (sorted R)
unfolding sorted
sorted_keeps [] = Permᴰ.nil
sorted_keeps (r ∷ R) = Permᴰ.trans (Permᴰ.cons refl (sorted_keeps R)) (insert_keeps r (sorted R))

insert-rises : (n : ℕ) (r : Row) {R : List Row} → n ≤ r.node → Rising n R → Rising n (insert r R)
unfolding insert
insert-rises n r h end = rise h end
insert-rises n r h (rise {r = q} g a) = either (Rising n) (leb r.node q.node) _ _
    (λ e. rise h (rise (leb-true _ _ e) a))
    (λ e. rise g (insert-rises q.node r (omega (arith, leb-false r.node q.node e)) a))

pub sorted_rises : (R : List Row) → Rising 0 (sorted R)
unfolding sorted
sorted_rises [] = end
sorted_rises (r ∷ R) = insert-rises 0 r (omega arith) (sorted_rises R)

pub sorted-accepted : (s : Sheet) (p : ℕ) (R : List Row) → InAnyOrder s p R → Accepted s p (sorted R)
sorted-accepted s p R a = record { asked = reordered s p (sorted_keeps R) a; rising = sorted_rises R }
