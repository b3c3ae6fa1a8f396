-- The contracts of a split, made one after the other; and the ways out of firing an `s`. Assumes nothing.
use Prim.Native.Nat.{ℕ, suc, ◌+◌, ◌*◌, ◌-◌, ◌/◌, ◌≤◌, ◌<◌}
use mathlib.Core.Path.{◌≡◌, refl, sym, ap, ap₂, ◌∙◌, subst}
use mathlib.Core.List.{List, [], ◌∷◌, ◌++◌, map, append_assoc}
use native.Mathlib.Omega.{arith}
use native.Mathlib.Nat.{mul-le-mul_left}
use lib.ListN.{get_or, length, take, length-map}
use lib.Seq.{get_or-take, length-take-le}
use lib.Dec.{leb}
use borrow.Author.Tests.{le-leb, lt-leb}
use Rattle.bitml.specs.Lists.{sum, up_from}
use Rattle.bitml.specs.Sheet.{Part}
use Rattle.bitml.specs.Ledger.{fire, refusal, after, Contract, contract_at, the_branch, new_contract, splitting, making, paying}
use Rattle.bitml.specs.Ledger.{Ledger as Plain}
use Rattle.bitml.specs.Limits.{within}
use Rattle.bitml.proofs.Lists.{ask_yes}
use Rattle.bitml.proofs.Balance.{share_fits}
use Rattle.bitml.proofs.Counting.{up_one, up-end}
use Rattle.tables.specs.Entries.{Entries, held, people, first_of}
use Rattle.tables.specs.SheetOf.{node_entry_at, branch_entry_at, part_numbers, part_count, part_number, part_of, action_of, sheet_in}
use Rattle.tables.proofs.SheetOf.{map-map, parts_are, part_small}
use Rattle.sheets.specs.Ready.{Ready}
use Rattle.duties.specs.Duties.{weight_of}
use Rattle.duties.proofs.Sums.{sum_from, sum_more, weight_at, weights-all}
use Rattle.counts.specs.Book.{Book}
use Rattle.counts.specs.View.{view, contract_of, set_of}
use Rattle.counts.specs.Fit.{Fit}
use Rattle.counts.specs.Does.{Does, with_answer}
use Rattle.counts.specs.Steps.{Enabled, Contracts, shares, with_contracts, Grown, Makes}
use Rattle.counts.proofs.Updates.{dying, pushed}
use Rattle.counts.proofs.Looking.{passed, takes, total-same, deposits-same, contract_of_lem, contracts-are}
use Rattle.counts.proofs.Making.{pushed_fits, pushed_are}
use Rattle.counts.proofs.Firing.{rest, entry-below, kind-action, dying_are, balance_in}

-- ---- the contracts of a split, from part i on

module _ (E : Entries) (q v s : ℕ) where
  abbrev part_at : ℕ → Part
  part_at j = part_of E (part_number E q j)

  unfoldable pub shares_from : ℕ → ℕ → List Contract
  shares_from left i = splitting v (weight_of E q) left s (map part_at (up_from i (part_count E q - i)))

  shares-more : (left i : ℕ) → i + 1 < part_count E q
      → shares_from left i ≡ new_contract (part_number E q i) (v * weight_at E q i / weight_of E q) s ∷ shares_from (left - v * weight_at E q i / weight_of E q) (i + 1)
  unfolding shares_from
  shares-more left i h =
      ap (λ xs. splitting v (weight_of E q) left s (map part_at xs)) (up_one i (part_count E q) (omega arith) ∙ ap (λ ys. i ∷ ys) (up_one (i + 1) (part_count E q) h))
      ∙ sym (ap (λ ys. new_contract (part_number E q i) (v * weight_at E q i / weight_of E q) s ∷ splitting v (weight_of E q) (left - v * weight_at E q i / weight_of E q) s (map part_at ys)) (up_one (i + 1) (part_count E q) h))

  shares-last : (left i : ℕ) → i + 1 ≡ part_count E q → shares_from left i ≡ new_contract (part_number E q i) left s ∷ []
  unfolding shares_from
  shares-last left i h =
      ap (λ xs. splitting v (weight_of E q) left s (map part_at xs)) (up_one i (part_count E q) (omega arith) ∙ ap (λ ys. i ∷ ys) (up-end (i + 1) (part_count E q) (omega arith)))

  shares-all : shares_from v 0 ≡ shares E q v s
  unfolding shares_from
  shares-all =
      ap (λ n. splitting v (weight_of E q) v s (map part_at (up_from 0 n))) (let z : part_count E q - 0 ≡ part_count E q = omega arith in z)
      ∙ sym (ap (λ ns. splitting v (weight_of E q) v s (map (part_of E) ns)) (parts_are E q)
      ∙ ap (λ ps. splitting v (weight_of E q) v s ps) (map-map (part_of E) (part_number E q) (up_from 0 (part_count E q))))

splitting-length : (v total left s : ℕ) (qs : List Part) → length (splitting v total left s qs) ≡ length qs
splitting-length v total left s [] = refl
splitting-length v total left s (q ∷ []) = refl
splitting-length v total left s (q ∷ r ∷ qs) = ap suc (splitting-length v total (left - v * q.weight / total) s (r ∷ qs))

shares-length : (E : Entries) (q v s : ℕ) → length (shares E q v s) ≡ part_count E q
unfolding part_count
shares-length E q v s = splitting-length v (weight_of E q) v s (map (part_of E) (part_numbers E q)) ∙ length-map (part_numbers E q) (part_of E)

-- the parts as they are read, and those before the last
module _ (E : Entries) (q : ℕ) {xs : List ℕ} (e : xs ≡ part_numbers E q) where
  pub parts-length : length xs ≡ part_count E q
  unfolding part_count
  parts-length = ap (λ xs. length xs) e

  pub part-is : (i : ℕ) → get_or xs i 0 ≡ part_number E q i
  unfolding part_number
  part-is i = ap (λ xs. get_or xs i 0) e

  pub before_last : length (take (length xs - 1) xs) ≡ part_count E q - 1
  before_last = length-take-le (length xs - 1) xs (omega arith) ∙ ap (λ n. n - 1) parts-length

  pub part-before : (i : ℕ) → i < length (take (length xs - 1) xs) → get_or (take (length xs - 1) xs) i 0 ≡ part_number E q i
  part-before i h = get_or-take (length xs - 1) xs i 0 (omega (arith, length-take-le (length xs - 1) xs (omega arith))) ∙ part-is i

  pub part-last : (i : ℕ) → i + 1 ≤ part_count E q → length (take (length xs - 1) xs) ≤ i → (get_or xs (length xs - 1) 0 ≡ part_number E q i) × (i + 1 ≡ part_count E q)
  part-last i h k =
      let last : length xs - 1 ≡ i = omega (arith, before_last, parts-length) in
      (part-is (length xs - 1) ∙ ap (part_number E q) last, omega (arith, before_last, parts-length))

-- ---- between two parts: r has the contracts of the first i

pub record Splits (t : List ℕ) (l : Book) (q v s : ℕ) (r : Book) (left i : ℕ) : Type 0 where
  pub more : i + 1 ≤ part_count (held t) q
  pub grew : Grown l r
  pub made : r.made ≡ l.made + i
  pub contracts : Contracts t r
  pub are : first_of (contract_of r) r.made ++ shares_from (held t) q v s left i ≡ first_of (contract_of l) l.made ++ shares (held t) q v s
  pub rest : v * sum_from (weight_at (held t) q) i (part_count (held t) q) ≤ left * weight_of (held t) q
  pub small : left ≤ v

module _ (t : List ℕ) (q : ℕ) (ok : Ready t) (hq : q < length (held t).branches) (w : (branch_entry_at (held t) q).kind ≡ 1) where
  pub parts-some : 1 ≤ part_count (held t) q
  parts-some = ((ok.promises.branch q hq).split w).some

  pub weight-some : 0 < weight_of (held t) q
  unfolding weight_of
  weight-some = ((ok.promises.branch q hq).split w).weigh

module _ (t : List ℕ) (l : Book) (q v s : ℕ) (ok : Ready t) (hq : q < length (held t).branches) (w : (branch_entry_at (held t) q).kind ≡ 1) (hs : s < l.sets)
    (room : l.made + part_count (held t) q ≤ 256) where
  abbrev E : Entries
  E = held t

  pub splits_start : Contracts t l → Splits t l q v s l v 0
  splits_start h =
      record {
        more = omega (arith, parts-some t q ok hq w);
        grew = refl;
        made = omega arith;
        contracts = h;
        are = ap (λ xs. first_of (contract_of l) l.made ++ xs) (shares-all E q v s);
        rest = (let e = ap (λ x. v * x) (weights-all E q) in omega arith);
        small = omega arith;
      }

  module _ (r : Book) (left i : ℕ) (sp : Splits t l q v s r left i) where
    pub made-room : r.made < 256
    made-room = omega (arith, sp.made, sp.more)

    set_room : s < r.sets
    set_room = subst (λ (x : Book). s < x.sets) (sym sp.grew) hs

    pub part_in : part_number E q i < length E.nodes
    part_in = part_small E q i (omega (arith, sp.more))

    share_is : (v * weight_at E q i / weight_of E q ≤ left) × (v * sum_from (weight_at E q) (i + 1) (part_count E q) ≤ (left - v * weight_at E q i / weight_of E q) * weight_of E q)
    share_is =
        share_fits v (weight_at E q i) (sum_from (weight_at E q) (i + 1) (part_count E q)) left (weight_of E q) (weight-some t q ok hq w)
        (let e = ap (λ x. v * x) (sum_more (weight_at E q) i (part_count E q) (omega (arith, sp.more))) in omega (arith, sp.rest))

    splits_on : i + 1 < part_count E q
        → Splits t l q v s (pushed r (part_number E q i) (v * weight_at E q i / weight_of E q) s) (left - v * weight_at E q i / weight_of E q) (i + 1)
    splits_on h =
        let n = part_number E q i in
        let x = v * weight_at E q i / weight_of E q in
        record {
          more = omega arith;
          grew = ap (λ y. pushed y n x s) sp.grew;
          made = omega (arith, sp.made);
          contracts = pushed_fits t r n x s sp.contracts made-room part_in set_room;
          are =
              ap (λ xs. xs ++ shares_from E q v s (left - x) (i + 1)) (pushed_are t r n x s sp.contracts made-room)
              ∙ append_assoc (first_of (contract_of r) r.made) (new_contract n x s ∷ []) (shares_from E q v s (left - x) (i + 1))
              ∙ ap (λ xs. first_of (contract_of r) r.made ++ xs) (sym (shares-more E q v s left i h)) ∙ sp.are;
          rest = share_is.1;
          small = omega (arith, sp.small);
        }

    splits_end : i + 1 ≡ part_count E q → Makes t l (shares E q v s) (pushed r (part_number E q i) left s)
    splits_end h =
        let n = part_number E q i in
        record {
          grew = ap (λ y. pushed y n left s) sp.grew;
          contracts = pushed_fits t r n left s sp.contracts made-room part_in set_room;
          are =
              pushed_are t r n left s sp.contracts made-room ∙ ap (λ xs. first_of (contract_of r) r.made ++ xs) (sym (shares-last E q v s left i h)) ∙ sp.are;
        }

    -- over what the code read
    module _ {n w' T : ℕ} (en : n ≡ part_number E q i) (ew : w' ≡ (node_entry_at E n).weight) (eT : T ≡ weight_of E q) where
      weight_is : w' ≡ weight_at E q i
      weight_is = ew ∙ ap (λ n. (node_entry_at E n).weight) en

      share_eq : v * w' / T ≡ v * weight_at E q i / weight_of E q
      share_eq = ap₂ (λ x y. v * x / y) weight_is eT

      pub share_by : v ≤ 2100000000000000 → (v * w' ≤ 2100000000000000000) × (v * w' / T ≤ left)
      share_by h =
          let p = (ok.promises.node (part_number E q i) part_in).weight in
          let z : v * weight_at E q i ≤ v * 1000 = mul-le-mul_left v p in
          let e = ap (λ x. v * x) weight_is in
          (omega arith, omega (arith, share_eq, share_is.0))

      pub splits_on_by : i + 1 < part_count E q → Splits t l q v s (pushed r n (v * w' / T) s) (left - v * w' / T) (i + 1)
      splits_on_by h =
          subst (λ n. Splits t l q v s (pushed r n (v * w' / T) s) (left - v * w' / T) (i + 1)) (sym en)
          (subst (λ x. Splits t l q v s (pushed r (part_number E q i) x s) (left - x) (i + 1)) (sym share_eq) (splits_on h))

    pub splits_end_by : {n : ℕ} → n ≡ part_number E q i → i + 1 ≡ part_count E q → Makes t l (shares E q v s) (pushed r n left s)
    splits_end_by e h = subst (λ n. Makes t l (shares E q v s) (pushed r n left s)) (sym e) (splits_end h)

-- ---- the ways out

module _ (t : List ℕ) (l : Book) (c b q : ℕ) (ok : Ready t) (f : Fit t l) (r : Enabled t l c b q) (w : (branch_entry_at (held t) q).kind ≡ 1) where
  abbrev was : Plain
  was = view (people t) l

  pub s_numbers : (q < length (held t).branches) × (part_count (held t) q ≤ 8) × (get_or l.balance c 0 ≤ 2100000000000000) × (get_or l.set c 0 < l.sets)
  s_numbers =
      let k = entry-below t l c b q ok f r in
      let h = balance_in t l f c r.here r.lives in
      (k, ((ok.promises.branch q k).split w).few, omega (arith, f.total, f.taken), f.set c r.here)

  abbrev new : List Contract
  new = shares (held t) q (get_or l.balance c 0) (get_or l.set c 0)

  s_asks : refusal (sheet_in t) was (fire c b) ≡ 0
  unfolding action_of
  s_asks = rest t l c b q ok f r 1 w (λ x. omega arith) ∙ ask_yes _ _ _ refl

  s_makes : making (contract_at was c) (the_branch (sheet_in t) was c b).action ≡ new
  unfolding action_of weight_of
  s_makes =
      ap (making (contract_at was c)) (kind-action t l c b q ok f r 1 w)
      ∙ ap₂ (λ (k : Contract) (T : ℕ). splitting k.balance T k.balance k.set (map (part_of (held t)) (part_numbers (held t) q))) (contract_of_lem t l c r.here)
      (ap (λ xs. sum xs) (map-map (λ q. q.weight) (part_of (held t)) (part_numbers (held t) q)))

  counts : length was.contracts + length (making (contract_at was c) (the_branch (sheet_in t) was c b).action) ≡ l.made + part_count (held t) q
  counts = ap₂ ◌+◌ (contracts-are t l) (ap (λ xs. length xs) s_makes ∙ shares-length (held t) q (get_or l.balance c 0) (get_or l.set c 0))

  pub s_full : 256 < l.made + part_count (held t) q → Does t l (fire c b) (with_answer l 19)
  unfolding within
  s_full h = passed t l (fire c b) f s_asks (ap (λ n. leb n 256) counts ∙ lt-leb (l.made + part_count (held t) q) 256 h)

  module _ (h : l.made + part_count (held t) q ≤ 256) where
    s_views : (m : ℕ) (n v s : List ℕ) (a : List ℕ) → first_of (contract_of (with_contracts (dying l c) m n v s a)) m ≡ first_of (contract_of (dying l c)) l.made ++ new
        → view (people t) (with_contracts (dying l c) m n v s a) ≡ after (sheet_in t) was (fire c b)
    unfolding after view action_of
    s_views m n v s a e =
        ap₂ (λ (cs : List Contract) (ps : List ℕ). record { time = l.time; contracts = cs; sets = first_of (set_of l) l.sets; paid = ps })
        (e ∙ ap₂ (λ xs ys. xs ++ ys) (dying_are t l f c r.here) (sym s_makes))
        (ap (λ a. paying was.paid (contract_at was c).balance a) (sym (kind-action t l c b q ok f r 1 w)))

    s_grown : (m : ℕ) (n v s : List ℕ) (a : List ℕ) → Contracts t (with_contracts (dying l c) m n v s a)
        → first_of (contract_of (with_contracts (dying l c) m n v s a)) m ≡ first_of (contract_of (dying l c)) l.made ++ new
        → Does t l (fire c b) (with_contracts (dying l c) m n v s a)
    unfolding within
    s_grown m n v s a k e =
        let x = with_contracts (dying l c) m n v s a in
        takes t l (fire c b) x s_asks (ap (λ n. leb n 256) counts ∙ le-leb (l.made + part_count (held t) q) 256 h) refl (s_views m n v s a e)
        (record {
          made = k.made;
          sets = f.sets;
          time = f.time;
          taken = f.taken;
          deposits = deposits-same t l (fire c b) x ok f s_asks (s_views m n v s a e) refl;
          total = total-same t l (fire c b) x ok f s_asks (s_views m n v s a e) refl;
          node = k.node;
          set = k.set;
          count = f.count;
          value = f.value;
          masks = f.masks;
          blank = f.blank;
          fresh = k.fresh;
          free = k.free;
          free-sets = f.free-sets;
          unpaid = f.unpaid;
          lengths = k.lengths;
        })

    s_taken : (m : Book) → Makes t (dying l c) new m → Does t l (fire c b) m
    s_taken m d =
        subst (λ x. Does t l (fire c b) x) (sym d.grew)
        (s_grown m.made m.node m.balance m.set m.alive (subst (λ x. Contracts t x) d.grew d.contracts)
        (subst (λ (x : Book). first_of (contract_of x) x.made ≡ first_of (contract_of (dying l c)) l.made ++ new) d.grew d.are))

    -- over what the code read
    pub s_taken_by : {d : Book} {v s : ℕ} → d ≡ dying l c → v ≡ get_or l.balance c 0 → s ≡ get_or l.set c 0 → (m : Book) → Makes t d (shares (held t) q v s) m → Does t l (fire c b) m
    s_taken_by {d} {v} {s} ed ev es m x =
        s_taken m (subst (λ d. Makes t d new m) ed (subst (λ ks. Makes t d ks m) (ap₂ (λ v s. shares (held t) q v s) ev es) x))
