-- Which branches lead to a node, and what the marks say when the queue has run out. Assumes nothing.
use mathlib.Core.Path.{◌≡◌, refl, sym, ap, ◌∙◌, subst}
use mathlib.Core.Logic.{inl, inr, ⊎_elim, by_cases}
use Prim.Native.Nat.{ℕ, zero, suc, ◌+◌, ◌-◌, ◌≤◌, ◌<◌}
use native.Mathlib.Omega.{arith}
use native.Mathlib.Decide.{dec_le}
use mathlib.Core.Bool.{Bool, true, false}
use mathlib.Core.List.Memᴰ
use mathlib.Core.List.{List, Memᴰ}
use lib.ListN.{length, get_or}
use Rattle.bitml.specs.Sheet.{branch_at}
use Rattle.bitml.specs.Runs.{next}
use Rattle.bitml.specs.Why.{near}
use Rattle.bitml.proofs.Lists.{any-mem}
use Rattle.bitml.proofs.Shortest.{near-is, near-more, near_step, near-branch}
use Rattle.tables.specs.Entries.{Entries, most_nodes}
use Rattle.tables.specs.SheetOf.{sheet_of, branch_of, node_entry_at, branch_entry_at, def_entry_at, branch_count, branch_number}
use Rattle.tables.proofs.SheetOf.{nodes-are, count_of, branch_of_lem, branch-small, branch-node, next-renewal}
use Rattle.reading.specs.Promises.{Promises}
use Rattle.reading.proofs.Formed.{part_in, in_parts, branch-place, parts-are-nodes}
use Rattle.sheets.specs.Ready.{namers}
use Rattle.sheets.proofs.Indexing.{namer_place}
use Rattle.reached.proofs.Queue.{flags_none}
use Rattle.reached.proofs.Reaching.{parts_next, next-parts}
use Rattle.ways.specs.Distances.{Distances}
use Rattle.ways.specs.Marks.{Marked, Close, Grew, Before, Led, LedUpTo, RenewerLed, RenewersLed}
use Rattle.ways.proofs.Queue.{grew-mark}

-- ---- led

module _ (E : Entries) where
  pub renewer_other : (D : List ℕ) (b : ℕ) → ((branch_entry_at E b).kind ≡ 3 → ⊥) → RenewerLed E D b
  unfolding RenewerLed
  renewer_other D b f k = absurd (f k)

  pub renewer_led : (D : List ℕ) (b n : ℕ) → n ≡ (branch_entry_at E b).node → 0 < get_or D n 0 → RenewerLed E D b
  unfolding RenewerLed
  renewer_led D b n e h k = subst (λ n. 0 < get_or D n 0) e h

  pub renewers_none : (D bs : List ℕ) → RenewersLed E D bs 0
  unfolding RenewersLed
  renewers_none D bs i h = absurd (omega arith)

  pub renewers_more : {D Q D' Q' : List ℕ} {tail tail' : ℕ} (bs : List ℕ) (k : ℕ) → Grew D Q tail D' Q' tail' → RenewersLed E D bs k → RenewerLed E D' (get_or bs k 0) → RenewersLed E D' bs (k + 1)
  unfolding RenewersLed RenewerLed
  renewers_more {D} {Q} {D'} bs k w f r i h =
      by_cases (dec_le (suc i) k) (λ z e. grew-mark _ w (f i z e)) (λ z. let q : i ≡ k = omega arith in subst (λ i. RenewerLed E D' (get_or bs i 0)) (sym q) r)

  pub led_first : (D Q : List ℕ) → LedUpTo E D Q 0
  unfolding LedUpTo
  led_first D Q i h = absurd (omega arith)

  -- one node of the queue more
  led_stays : {D Q D' Q' : List ℕ} {tail tail' : ℕ} (m : ℕ) → Grew D Q tail D' Q' tail' → 0 < get_or D m 0 → Led E D m → Led E D' m
  unfolding Led
  led_stays m w h f b hb r = let v = f b hb r in (grew-mark _ w v.0, omega (arith, v.1, w.marks (branch_entry_at E b).node v.0, w.marks m h))

  pub led_next : {K g : ℕ} {D Q D' Q' : List ℕ} {tail tail' : ℕ} (h : ℕ) → Marked K E g D Q tail → Grew D Q tail D' Q' tail' → h < tail → LedUpTo E D Q h → Led E D' (get_or Q h 0) → LedUpTo E D' Q' (h + 1)
  unfolding LedUpTo
  led_next {D' = D'} h mk w l f r i hi = subst (Led E D') (sym (w.places i (omega arith))) (by_cases (dec_le (suc i) h)
      (λ z. led_stays _ w (mk.marked i (omega arith)) (f i z))
      (λ z. let q : i ≡ h = omega arith in rw q r))

  pub close_next : {K g : ℕ} {D Q D' Q' : List ℕ} {tail tail' : ℕ} (h : ℕ) → Marked K E g D Q tail → Marked K E g D' Q' tail' → Grew D Q tail D' Q' tail' → h < tail
      → Close D' (get_or D (get_or Q h 0) 0) → h + 1 < tail' → Close D' (get_or D' (get_or Q' (h + 1) 0) 0)
  unfolding Close
  close_next {D = D} {Q} {D'} h mk mk' w l f l' m =
      omega (arith, f m, mk'.rising h (h + 1) (omega arith) l', ap (λ n. get_or D' n 0) (w.places h l), w.marks (get_or Q h 0) (mk.marked h l))

-- ---- nothing is marked at first

pub marked-none : (K : ℕ) (E : Entries) (g : ℕ) (D Q : List ℕ) → length D ≡ most_nodes → length Q ≡ most_nodes → ((m : ℕ) → get_or D m 0 ≡ 0) → Marked K E g D Q 0
marked-none K E g D Q l w f =
    record {
      long = l;
      wide = w;
      count = flags_none D f;
      low = λ m. omega (arith, f m);
      sound = λ m h. absurd (omega (arith, f m));
      queued = λ m h. absurd (omega (arith, f m));
      marked = λ i h. absurd (omega arith);
      rising = λ i j a h. absurd (omega arith);
    }

pub close_none : (D : List ℕ) → ((m : ℕ) → get_or D m 0 ≡ 0) → Close D 0
unfolding Close
close_none D f m = omega (arith, f m)

-- the target's mark is the first
pub first-mark : (D : List ℕ) (g : ℕ) → Close D 0 → 0 < get_or D g 0 → get_or D g 0 ≡ 1
unfolding Close
first-mark D g f h = omega (arith, f g)

pub close_first : (D : List ℕ) (c : ℕ) → Close D 0 → Close D c
unfolding Close
close_first D c f m = omega (arith, f m)

module _ (K : ℕ) (E : Entries) (ok : Promises K E) where
  -- a root's parent is no branch, and no other node's is none
  root_above : (b m : ℕ) → b < length E.branches → (branch_entry_at E b).kind ≡ 3 → (def_entry_at E (branch_entry_at E b).arg).root ≡ m
      → ((node_entry_at E m).parent ≡ 1024) × ((node_entry_at E m).definition ≡ (branch_entry_at E b).arg)
  root_above b m hb k q =
      let w = ok.def (branch_entry_at E b).arg ((ok.branch b hb).renew k).definition in
      (subst (λ m. (node_entry_at E m).parent ≡ 1024) q w.top, subst (λ m. (node_entry_at E m).definition ≡ (branch_entry_at E b).arg) q w.own)

  pub led_root : (D : List ℕ) (m c d : ℕ) → (node_entry_at E m).parent ≡ 1024 → d ≡ (node_entry_at E m).definition → get_or D m 0 ≡ c → Close D c → RenewersLed E D (namers E d) (length (namers E d)) → Led E D m
  unfolding Led Close RenewersLed RenewerLed
  led_root D m c d e q mc f r b hb w = (mark w, omega (arith, f (branch_entry_at E b).node))
    where
      mark : Before E b m → 0 < get_or D (branch_entry_at E b).node 0
      mark (inl z) = absurd (omega (arith, ok.limits.branches))
      mark (inr z) =
          let i = namer_place E d b hb (sym (root_above b m hb z.0 z.1).1 ∙ sym q) in
          subst (λ b. 0 < get_or D (branch_entry_at E b).node 0) i.2 (r i.0 i.1 (subst (λ b. (branch_entry_at E b).kind ≡ 3) (sym i.2) z.0))

  pub led_inside : (D : List ℕ) (m c n : ℕ) → ((node_entry_at E m).parent ≡ 1024 → ⊥) → n ≡ (branch_entry_at E (node_entry_at E m).parent).node → get_or D m 0 ≡ c → Close D c → 0 < get_or D n 0 → Led E D m
  unfolding Led Close
  led_inside D m c n ne q mc f h b hb w = (mark w, omega (arith, f (branch_entry_at E b).node))
    where
      mark : Before E b m → 0 < get_or D (branch_entry_at E b).node 0
      mark (inl z) = subst (λ n. 0 < get_or D n 0) (q ∙ ap (λ b. (branch_entry_at E b).node) z) h
      mark (inr z) = absurd (ne (root_above b m hb z.0 z.1).0)

  -- ---- one step backwards

  leads : (b m : ℕ) → b < length E.branches → m < length E.nodes → Before E b m → Memᴰ m (next (sheet_of K E) (branch_of E b).action)
  leads b m hb hm (inl q) = parts_next (sheet_of K E) (branch_of E b).action m (subst (λ ms. Memᴰ m ms) (sym (parts-are-nodes K E ok b hb)) (part_in E b m hm q))
  leads b m hb hm (inr (k, q)) =
      subst (λ ms. Memᴰ m ms) (sym (next-renewal E b K k ((ok.branch b hb).renew k).definition)) (Memᴰ.head (sym q))

  pub near_before : (g b m k : ℕ) → b < length E.branches → m < length E.nodes → Before E b m → near (sheet_of K E) g k m ≡ true
      → near (sheet_of K E) g (suc k) (branch_entry_at E b).node ≡ true
  near_before g b m k hb hm w e =
      let n = (branch_entry_at E b).node in
      let hn = (ok.branch b hb).node in
      let i = branch-place E b hb in
      near_step (sheet_of K E) g k n i.0 m (subst (λ c. i.0 < c) (sym (count_of K E n hn)) i.1)
      (subst (λ br. Memᴰ m (next (sheet_of K E) br.action)) (sym (branch_of_lem K E n i.0 hn i.1 ∙ ap (branch_of E) i.2)) (leads b m hb hm w)) e

  -- the same with marks: of a root, and of any other node
  root_of : (m : ℕ) → m < length E.nodes → (node_entry_at E m).parent ≡ 1024 → m ≡ (def_entry_at E (node_entry_at E m).definition).root
  root_of m hm e = ⊎_elim (λ q. q) (λ w. absurd (omega (arith, w.there, ok.limits.branches))) (ok.node m hm).place

  pub parent-there : (m : ℕ) → m < length E.nodes → ((node_entry_at E m).parent ≡ 1024 → ⊥) → (node_entry_at E m).parent < length E.branches
  parent-there m hm ne = ⊎_elim
      (λ q. absurd (ne (ap (λ n. (node_entry_at E n).parent) q ∙ (ok.def (node_entry_at E m).definition (ok.node m hm).definition).top)))
      (λ w. w.there) (ok.node m hm).place

  pub near_renewers : (g m c d : ℕ) → m < length E.nodes → (node_entry_at E m).parent ≡ 1024 → d ≡ (node_entry_at E m).definition → 0 < c → near (sheet_of K E) g (c - 1) m ≡ true
      → (b : ℕ) → b < length E.branches → (branch_entry_at E b).arg ≡ d → (branch_entry_at E b).kind ≡ 3 → near (sheet_of K E) g c (branch_entry_at E b).node ≡ true
  near_renewers g m c d hm e q h near-m b hb a k =
      let z : suc (c - 1) ≡ c = omega arith in
      subst (λ c. near (sheet_of K E) g c (branch_entry_at E b).node ≡ true) z
      (near_before g b m (c - 1) hb hm (inr (k, ap (λ d. (def_entry_at E d).root) (a ∙ q) ∙ sym (root_of m hm e))) near-m)

  pub near-inside : (g m c n : ℕ) → m < length E.nodes → ((node_entry_at E m).parent ≡ 1024 → ⊥) → n ≡ (branch_entry_at E (node_entry_at E m).parent).node → 0 < c
      → near (sheet_of K E) g (c - 1) m ≡ true → near (sheet_of K E) g c n ≡ true
  near-inside g m c n hm ne q h near-m =
      let z : suc (c - 1) ≡ c = omega arith in
      subst (λ n. near (sheet_of K E) g c n ≡ true) (sym q)
      (subst (λ c. near (sheet_of K E) g c (branch_entry_at E (node_entry_at E m).parent).node ≡ true) z
      (near_before g (node_entry_at E m).parent m (c - 1) (parent-there m hm ne) hm (inl refl) near-m))

  pub before_of : (b m : ℕ) → b < length E.branches → Memᴰ m (next (sheet_of K E) (branch_of E b).action) → (m < length E.nodes) × Before E b m
  before_of b m hb h = by_cases (dec_le 3 (branch_entry_at E b).kind)
      (λ z.
      let k : (branch_entry_at E b).kind ≡ 3 = omega (arith, (ok.branch b hb).kind) in
      let hd = ((ok.branch b hb).renew k).definition in
      let q : m ≡ (def_entry_at E (branch_entry_at E b).arg).root = Memᴰ.eq_of_singleton (subst (λ ms. Memᴰ m ms) (next-renewal E b K k hd) h) in
      (subst (λ m. m < length E.nodes) (sym q) (ok.def (branch_entry_at E b).arg hd).root, inr (k, sym q)))
      (λ z.
      let w = in_parts E b m (subst (λ ms. Memᴰ m ms) (parts-are-nodes K E ok b hb) (next-parts (sheet_of K E) E b m (omega arith) h)) in
      (w.0, inl w.1))

  -- ---- all

  near_up : (g j k i m : ℕ) → k ≡ i + j → near (sheet_of K E) g j m ≡ true → near (sheet_of K E) g k m ≡ true
  near_up g j k zero m q e = let z : k ≡ j = omega arith in rw z e
  near_up g j zero (suc i) m q e = absurd (omega arith)
  near_up g j (suc k) (suc i) m q e = near-more (sheet_of K E) g k m (near_up g j k i m (omega arith) e)

  module _ (g : ℕ) (D Q : List ℕ) (tail : ℕ) (mk : Marked K E g D Q tail) (led : LedUpTo E D Q tail) (first : get_or D g 0 ≡ 1) where
    marked_led : (m : ℕ) → 0 < get_or D m 0 → Led E D m
    unfolding LedUpTo
    marked_led m h = let w = mk.queued m h in subst (Led E D) w.2 (led w.0 w.1)

    led_at : (m : ℕ) → 0 < get_or D m 0 → (b : ℕ) → b < length E.branches → Before E b m
        → (0 < get_or D (branch_entry_at E b).node 0) × (get_or D (branch_entry_at E b).node 0 ≤ suc (get_or D m 0))
    unfolding Led
    led_at m h = marked_led m h

    near-marked : (k m : ℕ) → m < length E.nodes → near (sheet_of K E) g k m ≡ true → (0 < get_or D m 0) × (get_or D m 0 ≤ suc k)
    near-marked zero m hm e = let q = near-is (sheet_of K E) g m e in let z = ap (λ n. get_or D n 0) q in (omega (arith, z), omega (arith, z))
    near-marked (suc k) m hm e = go (near (sheet_of K E) g k m) refl (near-marked k)
      where
        go : (v : Bool) → near (sheet_of K E) g k m ≡ v → ((m : ℕ) → m < length E.nodes → near (sheet_of K E) g k m ≡ true → (0 < get_or D m 0) × (get_or D m 0 ≤ suc k))
            → (0 < get_or D m 0) × (get_or D m 0 ≤ suc (suc k))
        go true q f = let w = f m hm q in (w.0, omega (arith, w.1))
        go false q f =
            let w = near-branch (sheet_of K E) g k m e q in
            let hi : w.0 < branch_count E m = subst (λ c. w.0 < c) (count_of K E m hm) w.1 in
            let b = branch_number E m w.0 in
            let hb = branch-small E m w.0 hi in
            let v = any-mem (near (sheet_of K E) g k) (next (sheet_of K E) (branch_at (sheet_of K E) m w.0).action) w.2 in
            let u = before_of b v.0 hb (subst (λ br. Memᴰ v.0 (next (sheet_of K E) br.action)) (branch_of_lem K E m w.0 hm hi) v.1) in
            let r = f v.0 u.0 v.2 in
            let l = led_at v.0 r.0 b hb u.1 in
            let n = branch-node E m w.0 hi in
            subst (λ n. (0 < get_or D n 0) × (get_or D n 0 ≤ suc (suc k))) n (l.0, omega (arith, l.1, r.1))

    pub all-exact : Distances (sheet_of K E) g D
    all-exact = record {
      long = mk.long;
      exact = λ k m hm'.
          let hm : m < length E.nodes = omega (arith, nodes-are K E) in
          (near-marked k m hm, λ w. near_up g (get_or D m 0 - 1) k (k - (get_or D m 0 - 1)) m (omega (arith, w.0, w.1)) (mk.sound m w.0).1);
    }
