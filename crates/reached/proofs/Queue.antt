-- Marks of definitions, and the queue. Assumes nothing.
use mathlib.Core.Path.{◌≡◌, refl, sym, ap, ◌∙◌, subst}
use mathlib.Core.Logic.{by_cases}
use Prim.Native.Nat.{ℕ, zero, suc, ◌+◌, ◌-◌, ◌≤◌, ◌<◌}
use native.Mathlib.Omega.{arith}
use native.Mathlib.Decide.{dec_le}
use mathlib.Core.Bool.{Bool, true, false, cond}
use mathlib.Core.List.{List, [], ◌∷◌, map}
use lib.ListN.{length, get_or, set, replicate, length-set, length-replicate}
use lib.Seq.{get_or-set_same, get_or-set_other}
use lib.Dec.{eqb}
use borrow.Author.Tests.{ne_eqb}
use Rattle.bitml.specs.Lists.{sum}
use Rattle.bitml.proofs.Lists.{sum-set, at-replicate}
use Rattle.bitml.proofs.Counting.{at_store}
use Rattle.tables.specs.Entries.{Entries, most_nodes}
use Rattle.tables.specs.SheetOf.{node_entry_at, branch_entry_at, def_entry_at, branch_count, branch_number}
use Rattle.reading.specs.Promises.{Promises}
use Rattle.search.proofs.Visiting.{by_mark}
use Rattle.reached.specs.Marks.{DefReached, Marked, Grown, BranchLed, NodeLed, DefLed, LedUpTo, Spread, flag}

flag-le : (x : ℕ) → flag x ≤ 1
flag-le x = go (eqb x 0)
  where
    go : (b : Bool) → cond b 0 1 ≤ 1
    go true = omega arith
    go false = omega arith

pub flags_le : (M : List ℕ) → sum (map flag M) ≤ length M
flags_le [] = omega arith
flags_le (x ∷ M) = omega (arith, flags_le M, flag-le x)

-- where all marks are missing there are none
pub flags_none : (M : List ℕ) → ((m : ℕ) → get_or M m 0 ≡ 0) → sum (map flag M) ≡ 0
flags_none [] f = refl
flags_none (x ∷ M) f = let z : flag x ≡ 0 = ap flag (f 0) in omega (arith, flags_none M (λ m. f (suc m)))

-- where a mark is missing there are fewer marks than places
pub room : (M : List ℕ) (m : ℕ) → m < length M → get_or M m 0 ≡ 0 → sum (map flag M) < length M
room [] m h e = absurd (omega arith)
room (x ∷ M) zero h e = rw e (omega (arith, flags_le M))
room (x ∷ M) (suc m) h e = omega (arith, room M m (omega arith) e, flag-le x)

pub grown_same : (M : List ℕ) → Grown M M
unfolding Grown
grown_same M m h = refl

pub grown_more : (M M' M'' : List ℕ) → Grown M M' → Grown M' M'' → Grown M M''
unfolding Grown
grown_more M M' M'' f g m h = g m (subst (λ x. 0 < x) (sym (f m h)) h) ∙ f m h

grown_branch : (E : Entries) (M M' : List ℕ) (b : ℕ) → Grown M M' → BranchLed E M b → BranchLed E M' b
unfolding Grown BranchLed
grown_branch E M M' b f l k = let h = l k in subst (λ x. 0 < x) (sym (f (branch_entry_at E b).arg h)) h

grown_led : (E : Entries) (M M' : List ℕ) (n k : ℕ) → Grown M M' → NodeLed E M n k → NodeLed E M' n k
unfolding NodeLed
grown_led E M M' n k f l i h = grown_branch E M M' _ f (l i h)

grown_def : (E : Entries) (M M' : List ℕ) (d j k : ℕ) → Grown M M' → DefLed E M d j k → DefLed E M' d j k
unfolding DefLed
grown_def E M M' d j k f l n a b e = grown_led E M M' n _ f (l n a b e)

pub grown_mark : (M M' : List ℕ) (m : ℕ) → Grown M M' → 0 < get_or M m 0 → 0 < get_or M' m 0
unfolding Grown
grown_mark M M' m f h = subst (λ x. 0 < x) (sym (f m h)) h

pub positive : (x : ℕ) → (x ≡ 0 → ⊥) → 0 < x
positive x f = omega arith

module _ {K : ℕ} {E : Entries} {M Q : List ℕ} {tail m : ℕ} (ok : Promises K E) (mk : Marked K E M Q tail) (re : DefReached K E m) where
  pub visit_in : m < 32
  visit_in = omega (arith, re.there, ok.limits.defs.1)

  pub visit_room : get_or M m 0 ≡ 0 → tail < 32
  visit_room e = omega (arith, room M m (omega (arith, visit_in, mk.long)) e, mk.long, mk.count)

  pub visit_grown : get_or M m 0 ≡ 0 → Grown M (set M m (tail + 1))
  unfolding Grown
  visit_grown e k h = get_or-set_other M m k (tail + 1) 0 (λ q. let z : get_or M k 0 ≡ 0 = rw q e in omega arith)

  visit_at : get_or (set M m (tail + 1)) m 0 ≡ tail + 1
  visit_at = get_or-set_same M m (tail + 1) 0 (omega (arith, visit_in, mk.long))

  pub visit_marked : 0 < get_or (set M m (tail + 1)) m 0
  visit_marked = omega (arith, visit_at)

  pub visit_more : get_or M m 0 ≡ 0 → Marked K E (set M m (tail + 1)) (set Q tail m) (tail + 1)
  unfolding Grown
  visit_more e =
      let hm : m < length M = omega (arith, visit_in, mk.long) in
      let ht : tail < length Q = omega (arith, visit_room e, mk.wide) in
      record {
        long = length-set M m (tail + 1) ∙ mk.long;
        wide = length-set Q tail m ∙ mk.wide;
        count =
            let s = sum-set flag M m (tail + 1) 0 hm in
            let a : flag (get_or M m 0) ≡ 0 = ap flag e in
            let b : flag (tail + 1) ≡ 1 = ap (λ x. cond x 0 1) (ne_eqb (tail + 1) 0 (λ z. omega arith)) in
            omega (arith, mk.count);
        sound = λ k. at_store (λ x. 0 < x → DefReached K E k) M m k (tail + 1) 0 hm (λ ne. mk.sound k) (λ q h. subst (DefReached K E) (sym q) re);
        queued = λ k. at_store (λ x. 0 < x → (x ≤ tail + 1) × (get_or (set Q tail m) (x - 1) 0 ≡ k)) M m k (tail + 1) 0 hm
            (λ ne h. let w = mk.queued k h in (omega (arith, w.0), get_or-set_other Q tail (get_or M k 0 - 1) m 0 (λ z. omega (arith, w.0)) ∙ w.1))
            (λ q h. (omega arith, ap (λ i. get_or (set Q tail m) i 0) (let z : tail + 1 - 1 ≡ tail = omega arith in z) ∙ get_or-set_same Q tail m 0 ht ∙ sym q));
        back = λ i h. at_store (λ x. get_or (set M m (tail + 1)) x 0 ≡ i + 1) Q tail i m 0 ht
            (λ ne. let l : i < tail = let f : i ≡ tail → ⊥ = ne in omega arith in
            let b = mk.back i l in visit_grown e (get_or Q i 0) (omega arith) ∙ b)
            (λ q. visit_at ∙ ap (λ x. x + 1) (sym q));
      }

  pub visited : {x tail' : ℕ} {M' Q' : List ℕ} → x ≡ tail + 1 → M' ≡ cond (eqb (get_or M m 0) 0) (set M m x) M → Q' ≡ cond (eqb (get_or M m 0) 0) (set Q tail m) Q
      → tail' ≡ cond (eqb (get_or M m 0) 0) (tail + 1) tail → Marked K E M' Q' tail' × Grown M M' × (0 < get_or M' m 0)
  visited q a b c = by_mark (λ M' Q' tail'. Marked K E M' Q' tail' × Grown M M' × (0 < get_or M' m 0)) m _ a b c (λ e. rw q (visit_more e, visit_grown e, visit_marked)) (λ ne. (mk, grown_same M, positive _ ne))

pub branch-other : (E : Entries) (M : List ℕ) (b : ℕ) → ((branch_entry_at E b).kind ≡ 3 → ⊥) → BranchLed E M b
unfolding BranchLed
branch-other E M b f k = absurd (f k)

pub branch_led : (E : Entries) (M : List ℕ) (b d : ℕ) → d ≡ (branch_entry_at E b).arg → 0 < get_or M d 0 → BranchLed E M b
unfolding BranchLed
branch_led E M b d e h k = subst (λ d. 0 < get_or M d 0) e h

pub led_none : (E : Entries) (M : List ℕ) (n : ℕ) → NodeLed E M n 0
unfolding NodeLed
led_none E M n i h = absurd (omega arith)

pub led_more : (E : Entries) (M M' : List ℕ) (n k : ℕ) → Grown M M' → NodeLed E M n k → BranchLed E M' (branch_number E n k) → NodeLed E M' n (k + 1)
unfolding NodeLed
led_more E M M' n k g l a i h =
    by_cases (dec_le (suc i) k) (λ z. grown_branch E M M' _ g (l i z)) (λ z. let e : i ≡ k = omega arith in subst (λ i. BranchLed E M' (branch_number E n i)) (sym e) a)

-- ---- the nodes of a definition

pub def_none : (E : Entries) (M : List ℕ) (d : ℕ) → DefLed E M d (def_entry_at E d).root (def_entry_at E d).root
unfolding DefLed
def_none E M d n a b e = absurd (omega arith)

pub def-more : (E : Entries) (M M' : List ℕ) (d j n : ℕ) → Grown M M' → DefLed E M d j n → NodeLed E M' n (branch_count E n) → DefLed E M' d j (n + 1)
unfolding DefLed
def-more E M M' d j n g l a m hj h e =
    by_cases (dec_le (suc m) n) (λ z. grown_led E M M' m _ g (l m hj z e)) (λ z. let q : m ≡ n = omega arith in subst (λ n. NodeLed E M' n (branch_count E n)) (sym q) a)

-- ---- places of the queue

pub led_first : (E : Entries) (M : List ℕ) → LedUpTo E M 0
unfolding LedUpTo
led_first E M m h l = absurd (omega arith)

-- a place of the queue that was taken is taken by the same definition
same_place : {K : ℕ} {E : Entries} {M Q M' Q' : List ℕ} {tail tail' : ℕ} (m : ℕ) → Marked K E M Q tail → Marked K E M' Q' tail' → Grown M M' → 0 < get_or M' m 0 → get_or M' m 0 ≤ tail
    → (get_or M m 0 ≡ get_or M' m 0) × (get_or Q (get_or M' m 0 - 1) 0 ≡ m)
unfolding Grown
same_place {M = M} {Q = Q} {M' = M'} {Q' = Q'} m mk mk' g h l =
    let j = get_or M' m 0 in
    let q = get_or Q (j - 1) 0 in
    let b : get_or M q 0 ≡ j = mk.back (j - 1) (omega arith) ∙ (let z : j - 1 + 1 ≡ j = omega arith in z) in
    let b' : get_or M' q 0 ≡ j = g q (omega arith) ∙ b in
    let e : q ≡ m = sym (mk'.queued q (omega arith)).1 ∙ ap (λ k. get_or Q' (k - 1) 0) b' ∙ (mk'.queued m h).1 in
    (ap (λ k. get_or M k 0) (sym e) ∙ b, e)

pub led_next : {K : ℕ} {E : Entries} {M Q M' Q' : List ℕ} {tail tail' : ℕ} (h : ℕ) → Marked K E M Q tail → Marked K E M' Q' tail' → h < tail → Grown M M' → LedUpTo E M h → DefLed E M' (get_or Q h 0) 0 (length E.nodes) → LedUpTo E M' (h + 1)
unfolding LedUpTo
led_next {E = E} {M} {Q} {M'} h mk mk' l g f a m hm le =
    let w = same_place m mk mk' g hm (omega arith) in
    by_cases (dec_le (get_or M' m 0) h)
    (λ z. grown_def E M M' m 0 (length E.nodes) g (f m (omega (arith, w.0)) (omega (arith, w.0))))
    (λ z.
    let e : get_or Q h 0 ≡ m = ap (λ k. get_or Q k 0) (let y : h ≡ get_or M' m 0 - 1 = omega arith in y) ∙ w.1 in
    subst (λ d. DefLed E M' d 0 (length E.nodes)) e a)

pub head_in : {K : ℕ} {E : Entries} {M Q M' Q' : List ℕ} {tail tail' : ℕ} (h : ℕ) → Marked K E M Q tail → Marked K E M' Q' tail' → Grown M M' → h < tail → h + 1 ≤ tail'
unfolding Grown
head_in {Q = Q} h mk mk' g l =
    let q = get_or Q h 0 in
    let b = mk.back h l in
    let e = g q (omega arith) in
    omega (arith, (mk'.queued q (omega arith)).0)

-- ---- spreading

module _ (E : Entries) (D M : List ℕ) where
  pub spread_more : (k : ℕ) → k < most_nodes → Spread E D M k → Spread E D (set M k (get_or D (node_entry_at E k).definition 0)) (k + 1)
  spread_more k h s =
      let l : k < length M = omega (arith, s.long) in
      record {
        long = length-set M k (get_or D (node_entry_at E k).definition 0) ∙ s.long;
        same = λ m hm. at_store (λ x. x ≡ get_or D (node_entry_at E m).definition 0) M k m (get_or D (node_entry_at E k).definition 0) 0 l
            (λ ne. s.same m (let f : m ≡ k → ⊥ = ne in omega arith)) (λ e. ap (λ j. get_or D (node_entry_at E j).definition 0) (sym e));
        none = λ m hm. get_or-set_other M k m (get_or D (node_entry_at E k).definition 0) 0 (λ e. omega arith) ∙ s.none m (omega arith);
      }

-- ---- at first

pub no_marks : (length (replicate {A = ℕ} most_nodes 0) ≡ most_nodes) × ((m : ℕ) → ◌≡◌ {A = ℕ} (get_or (replicate most_nodes 0) m 0) 0)
no_marks = (length-replicate {A = ℕ} most_nodes 0, λ m. at-replicate most_nodes m 0)

pub marks-none : (K : ℕ) (E : Entries) → Marked K E (replicate 32 0) (replicate 32 0) 0
marks-none K E = record {
  long = length-replicate {A = ℕ} 32 0;
  wide = length-replicate {A = ℕ} 32 0;
  count = flags_none (replicate 32 0) (λ m. at-replicate 32 m 0);
  sound = λ m h. absurd (omega (arith, at-replicate {A = ℕ} 32 m 0));
  queued = λ m h. absurd (omega (arith, at-replicate {A = ℕ} 32 m 0));
  back = λ i h. absurd (omega arith);
}
