-- The program's ledger has in its cells the plain ledger that it stands for, and nothing else. Assumes nothing.
use Prim.Native.Nat.{ℕ, zero, suc, ◌+◌, ◌*◌, ◌/◌, ◌%◌, ◌^◌, ◌≤◌, ◌<◌}
use mathlib.Core.Bool.{false, cond}
use mathlib.Core.Path.{◌≡◌, refl, sym, ap, ◌∙◌, subst, fun_ext}
use mathlib.Core.List.{List}
use mathlib.Core.Logic.{◌⊎◌, ⊎_elim, by_cases}
use native.Mathlib.Decide.{dec_le}
use native.Mathlib.Omega.{arith}
use native.Mathlib.Nat.{pow-zero}
use lib.ListN.{length, get_or}
use lib.Seq.{ext_get_or}
use lib.Dec.{eqb}
use lib.Pow.{mod-pow-add}
use borrow.Author.Tests.{lt-ltb}
use Rattle.bitml.specs.Ledger.{Event, Contract, Commitment, ill, number, no_contract, contract_at, set_at, commitment_at, Ledger as Plain}
use Rattle.bitml.specs.Limits.{limited_refusal, limited_step}
use Rattle.bitml.proofs.Lists.{and_true}
use Rattle.tables.specs.Entries.{people, first_of}
use Rattle.tables.specs.SheetOf.{sheet_in}
use Rattle.tables.proofs.Runs.{first_of-length, first_of_get_d, first_of_past}
use Rattle.sheets.proofs.Bits.{bit, two}
use Rattle.pages.specs.Pages.{size, pages_in}
use Rattle.counts.specs.declared.Counts.{Counts}
use Rattle.counts.specs.Book.{Book, book}
use Rattle.counts.specs.View.{view, contract_of, secret_of, signed_by, commitment_of}
use Rattle.counts.specs.Fit.{Fit}
use Rattle.counts.specs.Cells.{state_in, mask_of, laid_out}
use Rattle.counts.specs.Does.{Does}
use Rattle.counts.proofs.Looking.{view-answer, contract_of_lem, contract_past, set_of_lem, set_past, commitment_of_lem, commitment_past, commitment_none}

-- ---- numbers and what they stand for

one-or-none : (x : ℕ) → x ≤ 1 → x ≡ cond (eqb x 1) 1 0
one-or-none zero h = refl
one-or-none (suc zero) h = refl
one-or-none (suc (suc x)) h = absurd (omega arith)

state-back : (s v : ℕ) → s ≤ 2 → s ≡ state_in (commitment_of s v)
unfolding state_in commitment_of
state-back zero v h = refl
state-back (suc zero) v h = refl
state-back (suc (suc zero)) v h = refl
state-back (suc (suc (suc s))) v h = absurd (omega arith)

value-back : (s v : ℕ) → (s ≡ 0 → v ≡ 0) → v ≡ number (commitment_of s v)
unfolding commitment_of
value-back zero v h = h refl
value-back (suc zero) v h = refl
value-back (suc (suc s)) v h = refl

bit_part : (b x : ℕ) → (b ≡ 0) ⊎ (b ≡ 1) → cond (eqb b 1) x 0 ≡ b * x
bit_part b x = ⊎_elim (λ e. rw e (omega arith)) (λ e. rw e (omega arith))

-- a number is the sum of its bits
mask_low : (m n : ℕ) → mask_of (λ p. eqb (bit m p) 1) n ≡ m % 2 ^ n
unfolding mask_of
mask_low m zero = rw pow-zero (omega arith)
mask_low m (suc n) =
    ap (λ x. x + mask_of (λ p. eqb (bit m p) 1) n) (bit_part (bit m n) (2 ^ n) (two (m / 2 ^ n)))
    ∙ ap (λ x. bit m n * 2 ^ n + x) (mask_low m n) ∙ sym (mod-pow-add m 1 n) ∙ ap (λ k. m % 2 ^ k) (let z : 1 + n ≡ suc n = omega arith in z)

mask_back : (m : ℕ) → m ≤ 65535 → m ≡ mask_of (λ p. eqb (bit m p) 1) 16
mask_back m h = sym (mask_low m 16 ∙ (let z : m % 2 ^ 16 ≡ m = omega arith in z))

unsigned_mask : (n : ℕ) → mask_of (λ p. false) n ≡ 0
unfolding mask_of
unsigned_mask zero = refl
unsigned_mask (suc n) = let z = unsigned_mask n in omega arith

-- ---- place by place

module _ (t : List ℕ) (l : Book) (f : Fit t l) where
  abbrev L : Plain
  L = view (people t) l

  -- a number of a contract that was made, and 0 of one that was not
  of_contract : (x : ℕ) (g : Contract → ℕ) (c : ℕ) → g no_contract ≡ 0 → (c < l.made → x ≡ g (contract_of l c)) → (l.made ≤ c → x ≡ 0) → x ≡ g (contract_at L c)
  of_contract x g c z is past =
      by_cases (dec_le l.made c)
      (λ h. past h ∙ sym (ap g (contract_past t l c h) ∙ z))
      (λ h. is (omega arith) ∙ sym (ap g (contract_of_lem t l c (omega arith))))

  node_at_lem : (c : ℕ) → get_or l.node c 0 ≡ (contract_at L c).node
  node_at_lem c = of_contract _ (λ k. k.node) c refl (λ _. refl) (f.free.nodes c)

  balance-at : (c : ℕ) → get_or l.balance c 0 ≡ (contract_at L c).balance
  balance-at c = of_contract _ (λ k. k.balance) c refl (λ _. refl) (f.free.balances c)

  set-number-at : (c : ℕ) → get_or l.set c 0 ≡ (contract_at L c).set
  set-number-at c = of_contract _ (λ k. k.set) c refl (λ _. refl) (f.free.set-numbers c)

  alive-at : (c : ℕ) → get_or l.alive c 0 ≡ cond (contract_at L c).alive 1 0
  alive-at c = of_contract _ (λ k. cond k.alive 1 0) c refl (λ _. one-or-none _ (f.free.live-or-dead c)) (f.free.alives c)

  plainly : (k : ℕ) → signed_by l.signed (k / 16) (k % 16) ≡ λ p. eqb (bit (get_or l.signed k 0) p) 1
  unfolding signed_by
  plainly k =
      let place : k / 16 * 16 + k % 16 ≡ k = omega arith in
      fun_ext λ p. and_true _ _ (lt-ltb (k % 16) 16 (omega arith)) ∙ ap (λ x. eqb (bit (get_or l.signed x 0) p) 1) place

  signed-at : (k : ℕ) → get_or l.signed k 0 ≡ mask_of ((contract_at L (k / 16)).signed (k % 16)) 16
  signed-at k = of_contract _ (λ x. mask_of (x.signed (k % 16)) 16) (k / 16) (unsigned_mask 16) (λ _. mask_back _ (f.masks k) ∙ ap (λ g. mask_of g 16) (sym (plainly k))) (λ h. f.fresh k (omega arith))

  -- the same of a set
  definition-at : (i : ℕ) → get_or l.definition i 0 ≡ (set_at L i).definition
  definition-at i =
      by_cases (dec_le l.sets i)
      (λ h. f.free-sets.definitions i h ∙ sym (ap (λ s. s.definition) (set_past t l i h)))
      (λ h. sym (ap (λ s. s.definition) (set_of_lem t l i (omega arith))))

  count_at : (i : ℕ) → get_or l.count i 0 ≡ length (set_at L i).secrets
  count_at i =
      by_cases (dec_le l.sets i)
      (λ h. f.free-sets.counts i h ∙ sym (ap (λ s. length s.secrets) (set_past t l i h)))
      (λ h. sym (ap (λ s. length s.secrets) (set_of_lem t l i (omega arith)) ∙ first_of-length (secret_of l i) (get_or l.count i 0)))

  -- and of a secret
  of_secret : (x : ℕ) (g : Commitment → ℕ) (i j : ℕ) → j < 8 → g ill ≡ 0 → x ≡ g (secret_of l i j) → (get_or l.count i 0 ≤ j → x ≡ 0) → x ≡ g (commitment_at L i j)
  of_secret x g i j hj z is past =
      by_cases (dec_le l.sets i)
      (λ h. past (let n = f.free-sets.counts i h in omega arith) ∙ sym (ap g (commitment_none t l i j h) ∙ z))
      (λ h. by_cases (dec_le (get_or l.count i 0) j)
      (λ k. past k ∙ sym (ap g (commitment_past t l i j (omega arith) k) ∙ z))
      (λ k. is ∙ sym (ap g (commitment_of_lem t l i j (omega arith) (omega arith)))))

  module _ (k : ℕ) where
    abbrev i : ℕ
    i = k / 8

    abbrev j : ℕ
    j = k % 8

    few : j < 8
    few = omega arith

    here : i * 8 + j ≡ k
    here = omega arith

    free : get_or l.count i 0 ≤ j → get_or l.state k 0 ≡ 0
    free h = subst (λ x. get_or l.state x 0 ≡ 0) here (f.free-sets.secrets i j h few)

    state-at : get_or l.state k 0 ≡ state_in (commitment_at L i j)
    unfolding state_in
    state-at = of_secret _ state_in i j few refl (subst (λ x. get_or l.state x 0 ≡ state_in (secret_of l i j)) here (state-back _ _ (f.free-sets.three_states (i * 8 + j)))) free

    value-at : get_or l.value k 0 ≡ number (commitment_at L i j)
    value-at = of_secret _ (λ x. number x) i j few refl (subst (λ x. get_or l.value x 0 ≡ number (secret_of l i j)) here (value-back _ _ (f.blank (i * 8 + j)))) (λ h. f.blank k (free h))

  paid-at : (p : ℕ) → get_or l.paid p 0 ≡ get_or L.paid p 0
  unfolding view
  paid-at p =
      by_cases (dec_le (people t) p)
      (λ h. f.unpaid p h ∙ sym (first_of_past (λ p. get_or l.paid p 0) (people t) p 0 h))
      (λ h. sym (first_of_get_d (λ p. get_or l.paid p 0) (people t) p 0 (omega arith)))

-- ---- section by section

list-is : (xs : List ℕ) (n : ℕ) (g : ℕ → ℕ) → length xs ≡ n → ((i : ℕ) → get_or xs i 0 ≡ g i) → xs ≡ first_of g n
list-is xs n g h f = ext_get_or 0 xs (first_of g n) (h ∙ sym (first_of-length g n)) (λ i k. f i ∙ sym (first_of_get_d g n i 0 (subst (λ m. i < m) h k)))

none_is : (f g : ℕ → ℕ) → first_of f 0 ≡ first_of g 0
unfolding first_of
none_is f g = refl

module _ (t : List ℕ) (c : Counts) (C : List ℕ) (f : Fit t (book c (pages_in C))) where
  abbrev B : Book
  B = book c (pages_in C)

  section : (s : ℕ) → pages_in C s ≡ laid_out (view (people t) B) s
  unfolding laid_out size pages_in
  section zero = list-is _ 256 _ f.lengths.nodes (node_at_lem t B f)
  section (suc zero) = list-is _ 256 _ f.lengths.balances (balance-at t B f)
  section (suc (suc zero)) = list-is _ 256 _ f.lengths.set-numbers (set-number-at t B f)
  section (suc (suc (suc zero))) = list-is _ 256 _ f.lengths.alives (alive-at t B f)
  section (suc (suc (suc (suc zero)))) = list-is _ 32 _ f.lengths.definitions (definition-at t B f)
  section (suc (suc (suc (suc (suc zero))))) = list-is _ 32 _ f.lengths.counts (count_at t B f)
  section (suc (suc (suc (suc (suc (suc zero)))))) = list-is _ 256 _ f.lengths.states (state-at t B f)
  section (suc (suc (suc (suc (suc (suc (suc zero))))))) = list-is _ 256 _ f.lengths.values (value-at t B f)
  section (suc (suc (suc (suc (suc (suc (suc (suc zero)))))))) = list-is _ 16 _ f.lengths.paids (paid-at t B f)
  section (suc (suc (suc (suc (suc (suc (suc (suc (suc zero))))))))) = list-is _ 4096 _ f.lengths.signeds (signed-at t B f)
  section (suc (suc (suc (suc (suc (suc (suc (suc (suc (suc s)))))))))) = none_is _ _

  -- the cells of a ledger that fits are those of the plain ledger that it stands for
  pub cells_are : pages_in C ≡ laid_out (view (people t) B)
  cells_are = fun_ext section

-- ---- after an event

module _ (t : List ℕ) (l : Counts) (C : List ℕ) (e : Event) (r : Counts) (D : List ℕ) (d : Does t (book l (pages_in C)) e (book r (pages_in D))) where
  pub told-after : pages_in D ≡ laid_out (limited_step (sheet_in t) (view (people t) (book l (pages_in C))) e)
  told-after = cells_are t r D d.fit ∙ ap laid_out d.plain

  -- the cells of a refused event are as they were
  pub same_after : Fit t (book l (pages_in C)) → (limited_refusal (sheet_in t) (view (people t) (book l (pages_in C))) e ≡ 0 → ⊥) → pages_in D ≡ pages_in C
  same_after f h =
      cells_are t r D d.fit ∙ ap (λ b. laid_out (view (people t) b)) (d.same h)
      ∙ ap laid_out (view-answer t (book l (pages_in C)) (limited_refusal (sheet_in t) (view (people t) (book l (pages_in C))) e)) ∙ sym (cells_are t l C f)
