-- The cells that stand for a plain ledger: what each place of each section holds. Assumes nothing.
use Rattle.std.specs.Prelude.{ℕ, zero, suc, ◌+◌, ◌/◌, ◌%◌, ◌^◌, Bool, cond, List, [], ◌∷◌, length, get_or}
use Rattle.bitml.specs.Ledger.{Commitment, ill, kept, told, number, contract_at, set_at, commitment_at}
use Rattle.bitml.specs.Ledger.{Ledger as Plain}
use Rattle.tables.specs.Entries.{first_of}
use Rattle.pages.specs.Pages.{Pages, size}

-- "value or `x`, told or not": 0 for `x`, 1 for a number, 2 for one that is told
unfoldable pub state_in : Commitment → ℕ
state_in ill = 0
state_in (kept v) = 1
state_in (told v) = 2

-- "signatures by branch": the sum of 2^p over the participants below n who signed
unfoldable pub mask_of : (ℕ → Bool) → ℕ → ℕ
mask_of signed zero = 0
mask_of signed (suc p) = cond (signed p) (2 ^ p) 0 + mask_of signed p

-- Place k of each section, in their order: node, balance, set and life of contract k; definition and number of secrets of set k; state and value
-- of secret k % 8 of set k / 8; what was paid to participant k; the signatures of branch k % 16 of contract k / 16. What is not made is zero
abbrev pub places_of : Plain → List (ℕ → ℕ)
places_of l =
    (λ k. (contract_at l k).node)
    ∷ (λ k. (contract_at l k).balance)
    ∷ (λ k. (contract_at l k).set)
    ∷ (λ k. cond (contract_at l k).alive 1 0)
    ∷ (λ k. (set_at l k).definition)
    ∷ (λ k. length (set_at l k).secrets)
    ∷ (λ k. state_in (commitment_at l (k / 8) (k % 8)))
    ∷ (λ k. number (commitment_at l (k / 8) (k % 8)))
    ∷ (λ k. get_or l.paid k 0)
    ∷ (λ k. mask_of ((contract_at l (k / 16)).signed (k % 16)) 16)
    ∷ []

-- Each section's list
unfoldable pub laid_out : Plain → Pages
laid_out l s = first_of (get_or (places_of l) s (λ k. 0)) (size s)
