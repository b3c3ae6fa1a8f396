-- The line that ends a play, by the ledger's fields. Assumes nothing.
use Prim.Native.Nat.{ℕ, ◌<◌}
use mathlib.Core.Bool.{cond}
use mathlib.Core.Path.{◌≡◌, refl, sym, ap, ◌∙◌, subst}
use mathlib.Core.List.{List, map}
use native.Mathlib.Omega.{arith}
use lib.ListN.{get_or, length, length-map}
use lib.Seq.{ext_get_or}
use Rattle.bitml.specs.Lists.{sum, below, up_from}
use Rattle.bitml.specs.Ledger.{no_contract}
use Rattle.bitml.specs.Answers.{end_of, end_line}
use Rattle.bitml.proofs.Lists.{get_d_up, length_up}
use Rattle.tables.specs.Entries.{first_of}
use Rattle.tables.proofs.SheetOf.{map-map}
use Rattle.tables.proofs.Runs.{first_of-length, first_of_get_d}
use Rattle.std.proofs.lemmas.List.Recursion.{is_sum_by}
use Rattle.std.specs.List.{filter, count_by, range_with_len}
use Rattle.std.proofs.lemmas.List.Sums.{length-filter}
use Rattle.sheets.proofs.Chains.{range-up}
use Rattle.counts.specs.Book.{Book}
use Rattle.counts.specs.View.{alive_at, view, contract_of, live_of}

-- ---- counting

pub counted : (alive : List ℕ) (n : ℕ) → length (filter (alive_at alive) (range_with_len 0 n)) ≡ live_of alive n
unfolding live_of
counted alive n =
    length-filter (alive_at alive) (range_with_len 0 n) ∙ ap (count_by (alive_at alive)) (range-up 0 n)
    ∙ sym (is_sum_by (λ cs. sum (map (λ c. cond (alive_at alive c) 1 0) cs)) (λ c. cond (alive_at alive c) 1 0) refl (λ c cs. refl) (up_from 0 n))

-- ---- "time, live contracts, paid by participant"

pub end_is : (K : ℕ) (l : Book) → end_of (view K l) ≡ end_line l.time (live_of l.alive l.made) (first_of (λ p. get_or l.paid p 0) K)
unfolding end_of view live_of
end_is K l =
    ap (λ n. end_line l.time n (first_of (λ p. get_or l.paid p 0) K))
    (ap (λ cs. sum (map (λ c. cond c.alive 1 0) cs)) contracts ∙ ap (λ xs. sum xs) (map-map (λ c. cond c.alive 1 0) (contract_of l) (below l.made)))
  where
    count : length (map (contract_of l) (below l.made)) ≡ l.made
    count = length-map (below l.made) (contract_of l) ∙ length_up 0 l.made

    contracts : first_of (contract_of l) l.made ≡ map (contract_of l) (below l.made)
    contracts =
        ext_get_or no_contract (first_of (contract_of l) l.made) (map (contract_of l) (below l.made)) (first_of-length (contract_of l) l.made ∙ sym count)
        (λ i h. let k : i < l.made = subst (λ n. i < n) (first_of-length (contract_of l) l.made) h in
        first_of_get_d (contract_of l) l.made i no_contract k ∙ sym (get_d_up (contract_of l) no_contract 0 l.made i i (omega arith) k))
