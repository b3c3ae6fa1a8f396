-- Sums over the parts of a branch, and over participants. Assumes nothing.
use Prim.Native.Nat.{ℕ, ◌+◌, ◌-◌, ◌*◌, ◌≤◌, ◌<◌}
use mathlib.Core.Path.{◌≡◌, sym, ap, ◌∙◌}
use mathlib.Core.List.{List, [], ◌∷◌, map}
use native.Mathlib.Omega.{arith}
use lib.ListN.{length, get_or}
use Rattle.std.proofs.lemmas.List.{get_or_default}
use Rattle.std.specs.List.{range_with_len, sum as total}
use Rattle.sheets.proofs.Chains.{range-up, total-sum}
use Rattle.bitml.specs.Lists.{All, sum, up_from}
use Rattle.bitml.proofs.Lists.{all_head, all_tail}
use Rattle.bitml.proofs.Counting.{up_one, up-end}
use Rattle.tables.specs.Entries.{Entries}
use Rattle.tables.specs.SheetOf.{node_entry_at, branch_entry_at, part_numbers, part_count, part_number, deposit_of}
use Rattle.tables.proofs.SheetOf.{map-map, all_in, parts_are, parts-small}
use Rattle.reading.specs.Promises.{Promises}
use Rattle.duties.specs.Duties.{weight_of, deposits_of}

-- the sum of f over the numbers from i on that are below n
unfoldable pub sum_from : (ℕ → ℕ) → ℕ → ℕ → ℕ
sum_from f i n = sum (map f (up_from i (n - i)))

module _ (f : ℕ → ℕ) (i n : ℕ) where
  pub sum_more : i < n → sum_from f i n ≡ f i + sum_from f (i + 1) n
  unfolding sum_from
  sum_more h = ap (λ xs. sum (map f xs)) (up_one i n h)

  pub sum-end : n ≤ i → sum_from f i n ≡ 0
  unfolding sum_from
  sum-end h = ap (λ xs. sum (map f xs)) (up-end i n h)

-- the weight of part i of branch b
abbrev pub weight_at : Entries → ℕ → ℕ → ℕ
weight_at E b i = (node_entry_at E (part_number E b i)).weight

pub weights-all : (E : Entries) (b : ℕ) → sum_from (weight_at E b) 0 (part_count E b) ≡ weight_of E b
unfolding sum_from weight_of
weights-all E b =
    ap (λ n. sum (map (weight_at E b) (up_from 0 n))) (let z : part_count E b - 0 ≡ part_count E b = omega arith in z)
    ∙ sym (ap (λ ns. sum (map (λ n. (node_entry_at E n).weight) ns)) (parts_are E b) ∙ ap (λ xs. sum xs) (map-map (λ n. (node_entry_at E n).weight) (part_number E b) (up_from 0 (part_count E b))))

pub weights-total : (E : Entries) (b : ℕ) → total (map (λ n. (node_entry_at E n).weight) (part_numbers E b)) ≡ weight_of E b
unfolding weight_of
weights-total E b = total-sum _

-- an element, by its place
pub part-inside : (E : Entries) (b k d : ℕ) → k < length (part_numbers E b) → get_or (part_numbers E b) k d < length E.nodes
part-inside E b k d h = rw (get_or_default (part_numbers E b) k d 0 h) (all_in (part_numbers E b) k (parts-small E b) h)

heavy : (f : ℕ → ℕ) {N : ℕ} (xs : List ℕ) → All (λ n. n < N) xs → ((n : ℕ) → n < N → f n ≤ 1000) → sum (map f xs) ≤ 1000 * length xs
heavy f [] a h = omega arith
heavy f (x ∷ xs) a h = omega (arith, h x (all_head a), heavy f xs (all_tail a) h)

-- 8 parts at most, and each weighs 1,000 at most
pub weights-most : (K : ℕ) (E : Entries) (b : ℕ) → Promises K E → b < length E.branches → (branch_entry_at E b).kind ≡ 1 → weight_of E b ≤ 8000
unfolding weight_of part_count
weights-most K E b ok h k = omega (arith, heavy (λ n. (node_entry_at E n).weight) (part_numbers E b) (parts-small E b) (λ n l. (ok.node n l).weight), ((ok.branch b h).split k).few)

pub deposits-total : (K : ℕ) (E : Entries) (d : ℕ) → total (map (deposit_of E d) (range_with_len 0 K)) ≡ deposits_of K E d
unfolding deposits_of
deposits-total K E d = total-sum _ ∙ ap (λ ps. sum (map (deposit_of E d) ps)) (range-up 0 K)

pub deposits-most : (K : ℕ) (E : Entries) (d : ℕ) → Promises K E → d < length E.defs → deposits_of K E d ≤ 2100000000000000
unfolding deposits_of
deposits-most K E d ok h = (ok.def d h).deposits
