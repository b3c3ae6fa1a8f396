-- Marks of nodes, and the queue. Assumes nothing.
use mathlib.Core.Path.{◌≡◌, refl, sym, ap, ◌∙◌, subst}
use mathlib.Core.Logic.{by_cases}
use Prim.Native.Nat.{ℕ, suc, ◌+◌, ◌-◌, ◌≤◌, ◌<◌}
use native.Mathlib.Omega.{arith}
use native.Mathlib.Decide.{dec_le}
use mathlib.Core.Bool.{true, cond}
use mathlib.Core.List.{List}
use lib.ListN.{length, get_or, set, length-set}
use lib.Dec.{eqb}
use lib.Seq.{get_or-set_same, get_or-set_other}
use borrow.Author.Tests.{ne_eqb}
use Rattle.bitml.specs.Why.{near}
use Rattle.bitml.proofs.Lists.{sum-set}
use Rattle.bitml.proofs.Counting.{at_store}
use Rattle.tables.specs.Entries.{Entries, most_nodes}
use Rattle.tables.specs.SheetOf.{sheet_of}
use Rattle.reading.specs.Promises.{Promises}
use Rattle.reached.specs.Marks.{flag}
use Rattle.search.proofs.Visiting.{by_mark}
use Rattle.reached.proofs.Queue.{room, positive}
use Rattle.ways.specs.Marks.{Marked, Close, Grew}

pub grew_same : (D Q : List ℕ) (tail : ℕ) → Grew D Q tail D Q tail
grew_same D Q tail = record { more = omega arith; marks = λ m h. refl; places = λ i h. refl }

pub grew-mark : {D Q D' Q' : List ℕ} {tail tail' : ℕ} (m : ℕ) → Grew D Q tail D' Q' tail' → 0 < get_or D m 0 → 0 < get_or D' m 0
grew-mark m w h = subst (λ x. 0 < x) (sym (w.marks m h)) h

pub grew_then : {D Q D' Q' D'' Q'' : List ℕ} {tail tail' tail'' : ℕ} → Grew D Q tail D' Q' tail' → Grew D' Q' tail' D'' Q'' tail'' → Grew D Q tail D'' Q'' tail''
grew_then v w =
    record {
      more = omega (arith, v.more, w.more);
      marks = λ m h. w.marks m (grew-mark m v h) ∙ v.marks m h;
      places = λ i h. w.places i (omega (arith, v.more)) ∙ v.places i h;
    }

module _ {K : ℕ} {E : Entries} {g : ℕ} {D Q : List ℕ} {tail n : ℕ} (ok : Promises K E) (mk : Marked K E g D Q tail) (hn : n < length E.nodes) where
  pub visit_in : n < most_nodes
  visit_in = omega (arith, ok.limits.nodes)

  visit_long : n < length D
  visit_long = omega (arith, visit_in, mk.long)

  pub visit_room : get_or D n 0 ≡ 0 → tail < most_nodes
  visit_room e = omega (arith, room D n visit_long e, mk.long, mk.count)

  visit_place : get_or D n 0 ≡ 0 → get_or (set Q tail n) tail 0 ≡ n
  visit_place e = get_or-set_same Q tail n 0 (omega (arith, visit_room e, mk.wide))

  module _ (c : ℕ) where
    visit_at : get_or (set D n (c + 1)) n 0 ≡ c + 1
    visit_at = get_or-set_same D n (c + 1) 0 visit_long

    pub visit_marked : 0 < get_or (set D n (c + 1)) n 0
    visit_marked = omega (arith, visit_at)

    visit_stays : get_or D n 0 ≡ 0 → (m : ℕ) → 0 < get_or D m 0 → get_or (set D n (c + 1)) m 0 ≡ get_or D m 0
    visit_stays e m h = get_or-set_other D n m (c + 1) 0 (λ q. let z : get_or D m 0 ≡ 0 = rw q e in omega arith)

    pub visit_grew : get_or D n 0 ≡ 0 → Grew D Q tail (set D n (c + 1)) (set Q tail n) (tail + 1)
    visit_grew e = record { more = omega arith; marks = visit_stays e; places = λ i h. get_or-set_other Q tail i n 0 (λ q. omega arith) }

    pub visit_close : Close D c → Close (set D n (c + 1)) c
    unfolding Close
    visit_close f m = at_store (λ x. x ≤ suc c) D n m (c + 1) 0 visit_long (λ ne. f m) (λ q. omega arith)

    close_at : (m : ℕ) → Close D c → get_or (set D n (c + 1)) m 0 ≤ suc c
    unfolding Close
    close_at m f = visit_close f m

    -- what stands in the queue, before and at the end
    old_mark : get_or D n 0 ≡ 0 → (i : ℕ) → i < tail → get_or (set D n (c + 1)) (get_or (set Q tail n) i 0) 0 ≡ get_or D (get_or Q i 0) 0
    old_mark e i h = ap (λ m. get_or (set D n (c + 1)) m 0) ((visit_grew e).places i h) ∙ visit_stays e (get_or Q i 0) (mk.marked i h)

    last-mark : get_or D n 0 ≡ 0 → get_or (set D n (c + 1)) (get_or (set Q tail n) tail 0) 0 ≡ c + 1
    last-mark e = ap (λ m. get_or (set D n (c + 1)) m 0) (visit_place e) ∙ visit_at

    pub visit_more : get_or D n 0 ≡ 0 → c ≤ tail → Close D c → near (sheet_of K E) g c n ≡ true → Marked K E g (set D n (c + 1)) (set Q tail n) (tail + 1)
    visit_more e hc f h =
        record {
          long = length-set D n (c + 1) ∙ mk.long;
          wide = length-set Q tail n ∙ mk.wide;
          count =
              let s = sum-set flag D n (c + 1) 0 visit_long in
              let a : flag (get_or D n 0) ≡ 0 = ap flag e in
              let b : flag (c + 1) ≡ 1 = ap (λ x. cond x 0 1) (ne_eqb (c + 1) 0 (λ z. omega arith)) in
              omega (arith, mk.count);
          low = λ m. at_store (λ x. x ≤ tail + 1) D n m (c + 1) 0 visit_long (λ ne. omega (arith, mk.low m)) (λ q. omega arith);
          sound = λ m. at_store (λ x. 0 < x → (m < length E.nodes) × (near (sheet_of K E) g (x - 1) m ≡ true)) D n m (c + 1) 0 visit_long
              (λ ne. mk.sound m)
              (λ q l. (omega arith, let z : c + 1 - 1 ≡ c = omega arith in rw (z, q) h));
          queued = λ m. at_store (λ x. 0 < x → (i : ℕ) × (i < tail + 1) × (get_or (set Q tail n) i 0 ≡ m)) D n m (c + 1) 0 visit_long
              (λ ne l. let w = mk.queued m l in (w.0, omega (arith, w.1), (visit_grew e).places w.0 w.1 ∙ w.2))
              (λ q l. (tail, omega arith, visit_place e ∙ sym q));
          marked = λ i l. by_cases (dec_le (suc i) tail)
              (λ z. subst (λ x. 0 < x) (sym (old_mark e i z)) (mk.marked i z))
              (λ z. let q : i ≡ tail = omega arith in subst (λ j. 0 < get_or (set D n (c + 1)) (get_or (set Q tail n) j 0) 0) (sym q) (omega (arith, last-mark e)));
          rising = λ i j a l. by_cases (dec_le (suc j) tail)
              (λ z. omega (arith, mk.rising i j a z, old_mark e i (omega arith), old_mark e j z))
              (λ z.
              let q : j ≡ tail = omega arith in
              subst (λ k. get_or (set D n (c + 1)) (get_or (set Q tail n) i 0) 0 ≤ get_or (set D n (c + 1)) (get_or (set Q tail n) k 0) 0) (sym q)
              (omega (arith, last-mark e, close_at (get_or (set Q tail n) i 0) f)));
        }

    pub visited : {x tail' : ℕ} {D' Q' : List ℕ} → x ≡ c + 1 → c ≤ tail → Close D c → near (sheet_of K E) g c n ≡ true → D' ≡ cond (eqb (get_or D n 0) 0) (set D n x) D
        → Q' ≡ cond (eqb (get_or D n 0) 0) (set Q tail n) Q → tail' ≡ cond (eqb (get_or D n 0) 0) (tail + 1) tail → (Marked K E g D' Q' tail' × Close D' c) × Grew D Q tail D' Q' tail' × (0 < get_or D' n 0)
    visited q hc f h u v w = by_mark (λ D' Q' tail'. (Marked K E g D' Q' tail' × Close D' c) × Grew D Q tail D' Q' tail' × (0 < get_or D' n 0)) n _ u v w
        (λ e. rw q ((visit_more e hc f h, visit_close f), visit_grew e, visit_marked)) (λ ne. ((mk, f), grew_same D Q tail, positive _ ne))
