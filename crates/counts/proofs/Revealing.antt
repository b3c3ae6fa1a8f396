-- The ways out of firing an `r`. Assumes nothing.
use Prim.Native.Nat.{ℕ, zero, suc, ◌+◌, ◌*◌, ◌≤◌, ◌<◌}
use mathlib.Core.Bool.{Bool, true, false}
use mathlib.Core.Path.{◌≡◌, refl, sym, ap, ap₂, ◌∙◌, fun_ext, subst}
use mathlib.Core.List.{List, [], ◌∷◌, ◌++◌, map}
use native.Mathlib.Omega.{arith}
use lib.ListN.{get_or, length, take, drop}
use lib.Dec.{ltb, leb}
use borrow.Author.Tests.{le-leb, lt-leb, ltb-true, ltb-false}
use Rattle.bitml.specs.Lists.{◌&◌, ask, every, up_from}
use Rattle.bitml.specs.Sheet.{Cond, holds}
use Rattle.bitml.specs.Ledger.{fire, refusal, after, Contract, contract_at, commitment_at, the_branch, new_contract, revealed, making, paying, is_told, number}
use Rattle.bitml.specs.Ledger.{Ledger as Plain}
use Rattle.bitml.specs.Limits.{within}
use Rattle.bitml.proofs.Lists.{and_i, and_false, and_true, and_no, ask_no, ask_yes}
use Rattle.tables.specs.Entries.{held, people, first_of}
use Rattle.tables.specs.SheetOf.{branch_entry_at, listed_at, cond_at, action_of, sheet_in}
use Rattle.sheets.specs.Ready.{Ready}
use Rattle.truth.specs.Evaluation.{Values}
use Rattle.duties.specs.Duties.{told_at, number_at}
use Rattle.duties.proofs.Secrets.{number_in, number_past}
use Rattle.pages.specs.Pages.{size, start, cells_long, pages_in, set_numbers, secret_counts, states, values}
use Rattle.pages.proofs.Laws.{part_long, page_part}
use Rattle.counts.specs.declared.Counts.{Counts}
use Rattle.counts.specs.Book.{Book, book}
use Rattle.counts.specs.View.{view, set_of, commitment_of}
use Rattle.counts.specs.Fit.{Fit}
use Rattle.counts.specs.Does.{Does, with_answer}
use Rattle.counts.specs.Steps.{Enabled, Contracts}
use Rattle.counts.proofs.Updates.{dying, pushed}
use Rattle.counts.proofs.Looking.{refused, passed, takes, total-same, deposits-same, contract_of_lem, contracts-are, commitment_of_lem, commitment_past}
use Rattle.counts.proofs.Making.{dying_fits, pushed_fits, pushed_are}
use Rattle.counts.proofs.Firing.{rest, entry-below, kind-action, dying_are}

told_commitment : (s v : ℕ) → is_told (commitment_of s v) ≡ leb 2 s
unfolding commitment_of
told_commitment zero v = refl
told_commitment (suc zero) v = refl
told_commitment (suc (suc s)) v = sym (le-leb 2 (suc (suc s)) (omega arith))

number_commitment : (s v : ℕ) → (s ≡ 0 → v ≡ 0) → number (commitment_of s v) ≡ v
unfolding commitment_of
number_commitment zero v f = sym (f refl)
number_commitment (suc zero) v f = refl
number_commitment (suc (suc s)) v f = refl

module _ (t : List ℕ) (l : Book) (c b q : ℕ) (ok : Ready t) (f : Fit t l) (r : Enabled t l c b q) where
  abbrev was : Plain
  was = view (people t) l

  abbrev I : ℕ
  I = get_or l.set c 0

  abbrev known : ℕ
  known = get_or l.count I 0

  set_in : (I < l.sets) × (l.sets ≤ 32) × (known ≤ 8)
  set_in = let h = f.set c r.here in (h, f.sets, f.count I h)

  told_is : (j : ℕ) → is_told (commitment_at was I j) ≡ told_at l.state (I * 8) known j
  unfolding told_at
  told_is j = go (ltb j known) refl
    where
      go : (x : Bool) → ltb j known ≡ x → is_told (commitment_at was I j) ≡ told_at l.state (I * 8) known j
      go true e = ap is_told (commitment_of_lem t l I j set_in.0 (ltb-true j known e)) ∙ told_commitment _ _ ∙ sym (and_true _ _ e)
      go false e = ap is_told (commitment_past t l I j set_in.0 (ltb-false j known e)) ∙ sym (and_false _ _ e)

  set_room : I * 8 + known ≤ length l.value
  set_room = let s = set_in in omega (arith, f.lengths.values)

  number_is : (j : ℕ) → number (commitment_at was I j) ≡ number_at l.value (I * 8) known j
  number_is j = go (ltb j known) refl
    where
      go : (x : Bool) → ltb j known ≡ x → number (commitment_at was I j) ≡ number_at l.value (I * 8) known j
      go true e =
          ap number (commitment_of_lem t l I j set_in.0 (ltb-true j known e)) ∙ number_commitment _ _ (f.blank (I * 8 + j))
          ∙ sym (number_in l.value (I * 8) known j (ltb-true j known e))
      go false e = ap number (commitment_past t l I j set_in.0 (ltb-false j known e)) ∙ sym (number_past l.value (I * 8) known j (ltb-false j known e) set_room)

  module _ (w : (branch_entry_at (held t) q).kind ≡ 2) where
    abbrev told : Bool
    told = every (told_at l.state (I * 8) known) (map (listed_at (held t)) (up_from (branch_entry_at (held t) q).first (branch_entry_at (held t) q).count))

    abbrev true? : Bool
    true? = holds (number_at l.value (I * 8) known) (cond_at (held t) (branch_entry_at (held t) q).cond)

    asks : refusal (sheet_in t) was (fire c b) ≡ ask (told & true?) 17 0
    unfolding action_of
    asks = rest t l c b q ok f r 2 w (λ x. omega arith)
        ∙ ap (λ i. ask (revealed (commitment_at was i) (action_of (held t) q 2)) 17 0) (ap (λ k. k.set) (contract_of_lem t l c r.here))
        ∙ ap₂ (λ (g : ℕ → Bool) (h : ℕ → ℕ). ask (every g (map (listed_at (held t)) (up_from (branch_entry_at (held t) q).first (branch_entry_at (held t) q).count)) & holds h (cond_at (held t) (branch_entry_at (held t) q).cond)) 17 0) (fun_ext told_is) (fun_ext number_is)

    pub r_untold : told ≡ false → Does t l (fire c b) (with_answer l 17)
    r_untold e = refused t l (fire c b) 16 f (asks ∙ ask_no _ _ _ (and_false _ _ e))

    pub r_false : true? ≡ false → Does t l (fire c b) (with_answer l 17)
    r_false e = refused t l (fire c b) 16 f (asks ∙ ask_no _ _ _ (and_no _ _ e))

    module _ (e : told ≡ true) (g : true? ≡ true) where
      r_asks : refusal (sheet_in t) was (fire c b) ≡ 0
      r_asks = asks ∙ ask_yes _ _ _ (and_i _ _ e g)

      r_makes : making (contract_at was c) (the_branch (sheet_in t) was c b).action ≡ new_contract (branch_entry_at (held t) q).arg (get_or l.balance c 0) I ∷ []
      unfolding action_of
      r_makes = ap (making (contract_at was c)) (kind-action t l c b q ok f r 2 w) ∙ ap (λ k. new_contract (branch_entry_at (held t) q).arg k.balance k.set ∷ []) (contract_of_lem t l c r.here)

      counts : length was.contracts + length (making (contract_at was c) (the_branch (sheet_in t) was c b).action) ≡ l.made + 1
      counts = ap₂ ◌+◌ (contracts-are t l) (ap (λ xs. length xs) r_makes)

      pub r_full : 256 ≤ l.made → Does t l (fire c b) (with_answer l 19)
      unfolding within
      r_full h = passed t l (fire c b) f r_asks (ap (λ n. leb n 256) counts ∙ lt-leb (l.made + 1) 256 (omega arith))

      module _ (h : l.made < 256) where
        abbrev next : Book
        next = pushed (dying l c) (branch_entry_at (held t) q).arg (get_or l.balance c 0) I

        fits : Contracts t next
        fits = pushed_fits t (dying l c) (branch_entry_at (held t) q).arg (get_or l.balance c 0) I (dying_fits c f) h ((ok.promises.branch q (entry-below t l c b q ok f r)).reveal w).contract set_in.0

        r_view : view (people t) next ≡ after (sheet_in t) was (fire c b)
        unfolding after view action_of
        r_view = ap₂ (λ (cs : List Contract) (ps : List ℕ). record { time = l.time; contracts = cs; sets = first_of (set_of l) l.sets; paid = ps })
            (pushed_are t (dying l c) (branch_entry_at (held t) q).arg (get_or l.balance c 0) I (dying_fits c f) h
            ∙ ap₂ (λ xs ys. xs ++ ys) (dying_are t l f c r.here) (sym r_makes))
            (ap (λ a. paying was.paid (contract_at was c).balance a) (sym (kind-action t l c b q ok f r 2 w)))

        r_taken : Does t l (fire c b) (pushed (dying l c) (branch_entry_at (held t) q).arg (get_or l.balance c 0) (get_or l.set c 0))
        unfolding within
        r_taken = takes t l (fire c b) next r_asks (ap (λ n. leb n 256) counts ∙ le-leb (l.made + 1) 256 (omega arith)) refl r_view
            (record {
              made = fits.made;
              sets = f.sets;
              time = f.time;
              taken = f.taken;
              deposits = deposits-same t l (fire c b) next ok f r_asks r_view refl;
              total = total-same t l (fire c b) next ok f r_asks r_view refl;
              node = fits.node;
              set = fits.set;
              count = f.count;
              value = f.value;
              masks = f.masks;
              blank = f.blank;
              fresh = fits.fresh;
              free = fits.free;
              free-sets = f.free-sets;
              unpaid = f.unpaid;
              lengths = fits.lengths;
            })

        pub r_taken_by : {n : ℕ} → n ≡ (branch_entry_at (held t) q).arg → Does t l (fire c b) (pushed (dying l c) n (get_or l.balance c 0) (get_or l.set c 0))
        r_taken_by e = subst (λ n. Does t l (fire c b) (pushed (dying l c) n (get_or l.balance c 0) (get_or l.set c 0))) (sym e) r_taken

    -- the numbers that the code goes by
    pub r_numbers : (q < length (held t).branches) × (I < 32) × (known ≤ 8) × (I * 8 + known ≤ 256) × ((branch_entry_at (held t) q).first + (branch_entry_at (held t) q).count ≤ length (held t).listed)
        × ((branch_entry_at (held t) q).cond < length (held t).cells)
    r_numbers =
        let s = set_in in
        let k = entry-below t l c b q ok f r in
        let p = (ok.promises.branch q k).reveal w in
        (k, omega arith, s.2, omega arith, p.listed, p.cond)

    pub told_by : {x y : ℕ} {z : Bool} → x ≡ (branch_entry_at (held t) q).first → y ≡ (branch_entry_at (held t) q).count → z ≡ every (told_at l.state (I * 8) known) (map (listed_at (held t)) (up_from x y)) → z ≡ told
    told_by ex ey ez = ez ∙ ap₂ (λ x y. every (told_at l.state (I * 8) known) (map (listed_at (held t)) (up_from x y))) ex ey

    pub cond_by : {x : ℕ} {z : Bool} → x ≡ (branch_entry_at (held t) q).cond → z ≡ holds (number_at l.value (I * 8) known) (cond_at (held t) x) → z ≡ true?
    cond_by ex ez = ez ∙ ap (λ x. holds (number_at l.value (I * 8) known) (cond_at (held t) x)) ex

-- ---- the sections as they are lent

module _ (C : List ℕ) (h : cells_long ≤ length C) where
  states-are : take 256 (drop 1088 C) ≡ pages_in C states
  unfolding size start
  states-are = page_part C states (omega arith)

  values-are : take 256 (drop 1344 C) ≡ pages_in C values
  unfolding size start
  values-are = page_part C values (omega arith)

  pub states-long : length (take 256 (drop 1088 C)) ≡ 256
  unfolding size start
  states-long = part_long C states 256 (omega arith) (omega arith)

  pub values-long : length (take 256 (drop 1344 C)) ≡ 256
  unfolding size start
  values-long = part_long C values 256 (omega arith) (omega arith)

  module _ (c : ℕ) {i k : ℕ} (ei : i ≡ get_or (pages_in C set_numbers) c 0) (ek : k ≡ get_or (pages_in C secret_counts) i 0) where
    same_count : k ≡ get_or (pages_in C secret_counts) (get_or (pages_in C set_numbers) c 0) 0
    same_count = ek ∙ ap (λ i. get_or (pages_in C secret_counts) i 0) ei

    -- over what the code read
    pub told-read : (xs : List ℕ) → every (told_at (take 256 (drop 1088 C)) (i * 8) k) xs ≡ every (told_at (pages_in C states) (get_or (pages_in C set_numbers) c 0 * 8) (get_or (pages_in C secret_counts) (get_or (pages_in C set_numbers) c 0) 0)) xs
    told-read xs = rw (states-are, same_count, ei) refl

    pub cond-read : (d : Cond) → holds (number_at (take 256 (drop 1344 C)) (i * 8) k) d ≡ holds (number_at (pages_in C values) (get_or (pages_in C set_numbers) c 0 * 8) (get_or (pages_in C secret_counts) (get_or (pages_in C set_numbers) c 0) 0)) d
    cond-read d = rw (values-are, same_count, ei) refl

  pub part_values : (t : List ℕ) (l : Counts) → Fit t (book l (pages_in C)) → Values (take 256 (drop 1344 C))
  part_values t l f = rw values-are (record { most = f.value })
