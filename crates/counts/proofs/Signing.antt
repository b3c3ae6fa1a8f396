-- The ways out of sign. Assumes nothing.
use Prim.Native.Nat.{ℕ, ◌+◌, ◌*◌, ◌^◌, ◌≤◌, ◌<◌}
use mathlib.Core.Bool.{Bool, true, false, not}
use mathlib.Core.Path.{◌≡◌, refl, sym, ap, ◌∙◌, fun_ext, subst}
use mathlib.Core.List.{List}
use mathlib.Core.Logic.{⊎_elim}
use native.Mathlib.Omega.{arith}
use lib.ListN.{get_or, set, length, length-set}
use lib.Seq.{get_or-set_same, get_or-set_other}
use lib.Dec.{eqb, ltb}
use borrow.Author.Tests.{lt-ltb, eq-eqb, ne_eqb, ltb-true}
use Rattle.bitml.specs.Lists.{◌&◌, ◌or◌}
use Rattle.bitml.specs.Ledger.{sign, refusal, after, Contract, no_contract, contract_at, the_branch, signing, live}
use Rattle.bitml.specs.Ledger.{Ledger as Plain}
use Rattle.bitml.specs.Limits.{within}
use Rattle.bitml.proofs.Lists.{at_set, and_i, and_false, and_true, and_no, or_l, ask_no, ask_yes}
use Rattle.tables.specs.Entries.{held, people, first_of}
use Rattle.tables.specs.SheetOf.{branch_entry_at, branch_count, branch_number, branch_of, sheet_in}
use Rattle.tables.proofs.Runs.{first_of-set}
use Rattle.sheets.specs.Ready.{Ready}
use Rattle.sheets.proofs.Bits.{bit}
use Rattle.duties.proofs.Signing.{bit_clear, bit_put, bit_others, mask_room}
use Rattle.counts.specs.Book.{Book}
use Rattle.counts.specs.View.{alive_at, view, contract_of, set_of, signed_by}
use Rattle.counts.specs.Fit.{Fit}
use Rattle.counts.specs.Does.{Does, with_answer}
use Rattle.counts.proofs.Updates.{with_signed}
use Rattle.counts.proofs.Looking.{same?, refused, takes, total-same, deposits-same, live-is, branch-is, contract_of_lem}

or_skip : (a b : Bool) → a ≡ false → (a or b) ≡ b
unfolding ◌or◌
or_skip a b e = rw e

-- ---- masks

module _ (masks : List ℕ) (c b p : ℕ) (hb : b < 16) (hc : c * 16 + b < length masks) (clear : bit (get_or masks (c * 16 + b) 0) p ≡ 0) where
  abbrev more : List ℕ
  more = set masks (c * 16 + b) (get_or masks (c * 16 + b) 0 + 2 ^ p)

  here-is : get_or more (c * 16 + b) 0 ≡ get_or masks (c * 16 + b) 0 + 2 ^ p
  here-is = get_or-set_same masks (c * 16 + b) _ 0 hc

  here : (p' : ℕ) → signed_by more c b p' ≡ ((eqb b b & eqb p' p) or signed_by masks c b p')
  unfolding signed_by
  here p' = ⊎_elim
      (λ (e : p' ≡ p). and_i _ _ (lt-ltb b 16 hb) (eq-eqb _ 1 (ap (λ x. bit x p') here-is ∙ ap (bit (get_or masks (c * 16 + b) 0 + 2 ^ p)) e ∙ bit_put p _ clear))
      ∙ sym (or_l _ _ (and_i _ _ (eq-eqb b b refl) (eq-eqb p' p e))))
      (λ (n : p' ≡ p → ⊥). ap (λ x. ltb b 16 & eqb x 1) (ap (λ x. bit x p') here-is ∙ bit_others p p' _ clear n) ∙ sym (or_skip _ _ (and_no _ _ (ne_eqb p' p n))))
      (same? p' p)

  elsewhere : (b' p' : ℕ) → (b' ≡ b → ⊥) → signed_by more c b' p' ≡ signed_by masks c b' p'
  unfolding signed_by
  elsewhere b' p' n = ap (λ x. ltb b' 16 & eqb (bit x p') 1) (get_or-set_other masks (c * 16 + b) (c * 16 + b') _ 0 (λ r. n (omega arith)))

  signed-there : (b' p' : ℕ) → signed_by more c b' p' ≡ ((eqb b' b & eqb p' p) or signed_by masks c b' p')
  signed-there b' p' = ⊎_elim
      (λ (e : b' ≡ b). rw e (here p'))
      (λ (n : b' ≡ b → ⊥). elsewhere b' p' n ∙ sym (or_skip _ _ (and_false _ _ (ne_eqb b' b n))))
      (same? b' b)

  signed-here : signed_by more c ≡ λ b' p'. (eqb b' b & eqb p' p) or signed_by masks c b' p'
  signed-here = fun_ext λ b'. fun_ext λ p'. signed-there b' p'

  another : (i : ℕ) → (i ≡ c → ⊥) → (b' p' : ℕ) (x : Bool) → ltb b' 16 ≡ x → signed_by more i b' p' ≡ signed_by masks i b' p'
  unfolding signed_by
  another i n b' p' true e = ap (λ x. ltb b' 16 & eqb (bit x p') 1) (get_or-set_other masks (c * 16 + b) (i * 16 + b') _ 0 (λ r. n (let z = ltb-true b' 16 e in omega arith)))
  another i n b' p' false e = and_false _ _ e ∙ sym (and_false _ _ e)

  signed-other : (i : ℕ) → (i ≡ c → ⊥) → signed_by more i ≡ signed_by masks i
  signed-other i n = fun_ext λ b'. fun_ext λ p'. another i n b' p' (ltb b' 16) refl

-- ---- sign

module _ (t : List ℕ) (l : Book) (p c b : ℕ) (ok : Ready t) (f : Fit t l) where
  abbrev now_as : Plain
  now_as = view (people t) l

  pub sign_absent : live (sheet_in t) now_as c b ≡ false → Does t l (sign p c b) (with_answer l 14)
  unfolding refusal
  sign_absent z = refused t l (sign p c b) 13 f (ask_no _ _ _ z)

  module _ (h : c < l.made) where
    abbrev N : ℕ
    N = get_or l.node c 0

    module _ (e : alive_at l.alive c ≡ true) (k : b < branch_count (held t) N) where
      abbrev R : ℕ
      R = branch_number (held t) N b

      signers-are : (the_branch (sheet_in t) now_as c b).signers ≡ (branch_entry_at (held t) R).signers
      unfolding branch_of
      signers-are = ap (λ r. r.signers) (branch-is t l f c b h k)

      few : b < 16
      few = let z = (ok.promises.node N (f.node c h)).few in omega arith

      signed_is : (contract_at now_as c).signed b p ≡ eqb (bit (get_or l.signed (c * 16 + b) 0) p) 1
      unfolding signed_by
      signed_is = ap (λ r. r.signed b p) (contract_of_lem t l c h) ∙ and_true _ _ (lt-ltb b 16 few)

      sign_stranger : eqb (bit (branch_entry_at (held t) R).signers p) 1 ≡ false → Does t l (sign p c b) (with_answer l 16)
      unfolding refusal
      sign_stranger z = refused t l (sign p c b) 15 f (ask_yes _ _ _ (live-is t l f c b h e k)
          ∙ ask_no _ _ _ (and_false _ _ (ap (λ x. eqb (bit x p) 1) signers-are ∙ z)))

      sign-twice : eqb (bit (get_or l.signed (c * 16 + b) 0) p) 1 ≡ true → Does t l (sign p c b) (with_answer l 16)
      unfolding refusal
      sign-twice z = refused t l (sign p c b) 15 f (ask_yes _ _ _ (live-is t l f c b h e k)
          ∙ ask_no _ _ _ (and_no _ _ (ap not (signed_is ∙ z))))

      -- the same, over what the code read
      read-signers : {q r : ℕ} {x : Bool} → q ≡ branch_number (held t) N b → r ≡ (branch_entry_at (held t) q).signers → x ≡ eqb (bit r p) 1 → eqb (bit (branch_entry_at (held t) R).signers p) 1 ≡ x
      read-signers eq er ex = sym (ex ∙ ap (λ r. eqb (bit r p) 1) (er ∙ ap (λ q. (branch_entry_at (held t) q).signers) eq))

      pub sign_stranger_by : {q r : ℕ} {x : Bool} → q ≡ branch_number (held t) N b → r ≡ (branch_entry_at (held t) q).signers → x ≡ eqb (bit r p) 1 → x ≡ false → Does t l (sign p c b) (with_answer l 16)
      sign_stranger_by eq er ex z = sign_stranger (read-signers eq er ex ∙ z)

      pub sign-twice_by : {x : Bool} → x ≡ eqb (bit (get_or l.signed (c * 16 + b) 0) p) 1 → x ≡ true → Does t l (sign p c b) (with_answer l 16)
      sign-twice_by ex z = sign-twice (sym ex ∙ z)

      module _ (s : eqb (bit (branch_entry_at (held t) R).signers p) 1 ≡ true) (z : eqb (bit (get_or l.signed (c * 16 + b) 0) p) 1 ≡ false) where
        abbrev put : Book
        put = with_signed l (set l.signed (c * 16 + b) (get_or l.signed (c * 16 + b) 0 + 2 ^ p))

        inside : c * 16 + b < length l.signed
        inside = let w = few in omega (arith, f.made, f.lengths.signeds)

        asks : refusal (sheet_in t) now_as (sign p c b) ≡ 0
        unfolding refusal
        asks = ask_yes _ _ _ (live-is t l f c b h e k)
            ∙ ask_yes _ _ _ (and_i _ _ (ap (λ x. eqb (bit x p) 1) signers-are ∙ s) (ap not (signed_is ∙ z)))

        sign-view : view (people t) put ≡ after (sheet_in t) now_as (sign p c b)
        unfolding view after
        sign-view = ap (λ (cs : List Contract). record { time = l.time; contracts = cs; sets = first_of (set_of l) l.sets; paid = first_of (λ p. get_or l.paid p 0) (people t) })
            (first_of-set (contract_of l) (contract_of put) l.made c _ no_contract h
            (ap (λ (g : ℕ → ℕ → Bool). record { node = get_or l.node c 0; balance = get_or l.balance c 0; set = get_or l.set c 0; signed = g; alive = alive_at l.alive c })
            (signed-here l.signed c b p few inside (bit_clear _ p z))
            ∙ ap (λ r. signing r b p) (sym (contract_of_lem t l c h)))
            (λ i hi n. ap (λ (g : ℕ → ℕ → Bool). record { node = get_or l.node i 0; balance = get_or l.balance i 0; set = get_or l.set i 0; signed = g; alive = alive_at l.alive i })
            (signed-other l.signed c b p few inside (bit_clear _ p z) i n)))

        fresh : (k : ℕ) → l.made * 16 ≤ k → get_or put.signed k 0 ≡ 0
        fresh k x = get_or-set_other l.signed (c * 16 + b) k _ 0 (λ q. let w = few in omega arith) ∙ f.fresh k x

        sign-taken : p < 16 → Does t l (sign p c b) (with_signed l (set l.signed (c * 16 + b) (get_or l.signed (c * 16 + b) 0 + 2 ^ p)))
        unfolding within
        sign-taken hp = takes t l (sign p c b) put asks refl refl sign-view
            (record {
              made = f.made;
              sets = f.sets;
              time = f.time;
              taken = f.taken;
              deposits = deposits-same t l (sign p c b) put ok f asks sign-view refl;
              total = total-same t l (sign p c b) put ok f asks sign-view refl;
              node = f.node;
              set = f.set;
              count = f.count;
              value = f.value;
              masks = λ k. at_set (λ y. y ≤ 65535) l.signed (c * 16 + b) k _ 0 (f.masks k) (λ _. mask_room p (get_or l.signed (c * 16 + b) 0) hp (f.masks (c * 16 + b)) refl z);
              blank = f.blank;
              fresh = fresh;
              free = f.free;
              free-sets = f.free-sets;
              unpaid = f.unpaid;
              lengths = record {
                nodes = f.lengths.nodes;
                balances = f.lengths.balances;
                set-numbers = f.lengths.set-numbers;
                alives = f.lengths.alives;
                signeds = simp length-set f.lengths.signeds;
                definitions = f.lengths.definitions;
                counts = f.lengths.counts;
                values = f.lengths.values;
                states = f.lengths.states;
                paids = f.lengths.paids;
              };
            })

      pub sign-taken_by : {q r m : ℕ} {x y : Bool} → p < 16 → q ≡ branch_number (held t) N b → r ≡ (branch_entry_at (held t) q).signers → x ≡ eqb (bit r p) 1 → x ≡ true
          → y ≡ eqb (bit (get_or l.signed (c * 16 + b) 0) p) 1 → y ≡ false → m ≡ 2 ^ p
          → Does t l (sign p c b) (with_signed l (set l.signed (c * 16 + b) (get_or l.signed (c * 16 + b) 0 + m)))
      sign-taken_by hp eq er ex s ey z em =
          subst (λ m. Does t l (sign p c b) (with_signed l (set l.signed (c * 16 + b) (get_or l.signed (c * 16 + b) 0 + m)))) (sym em)
          (sign-taken (read-signers eq er ex ∙ s) (sym ey ∙ z) hp)
