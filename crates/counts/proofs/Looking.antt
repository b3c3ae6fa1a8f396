-- The two ways out of a method, refused and taken; and looking up in the plain ledger that a ledger stands for. Assumes nothing.
use Prim.Native.Nat.{ℕ, zero, suc, ◌+◌, ◌≤◌, ◌<◌}
use mathlib.Core.Bool.{Bool, true, false}
use mathlib.Core.Path.{◌≡◌, refl, sym, ap, ap₂, ◌∙◌, subst}
use mathlib.Core.List.{List}
use mathlib.Core.Logic.{◌⊎◌, inl, inr, by_cases}
use Rattle.std.specs.Prelude.{None}
use native.Mathlib.Decide.{dec_le}
use native.Mathlib.Omega.{arith}
use lib.ListN.{get_or, length}
use lib.Dec.{eqb}
use borrow.Author.Tests.{lt-ltb, le-ltb, eqb-true, eqb-false}
use Rattle.bitml.specs.Lists.{ask, sum}
use Rattle.bitml.specs.Sheet.{branch_at, branches_at}
use Rattle.bitml.specs.Ledger.{Event, ill, contract_at, no_contract, set_at, no_set, commitment_at, the_branch, live, refusal, after, when_taken}
use Rattle.bitml.specs.Limits.{deposits_taken, within, or_limit, limited_refusal, limited_step}
use Rattle.bitml.specs.Balance.{locked}
use Rattle.bitml.proofs.Lists.{and_i, and_false, and_no}
use Rattle.bitml.proofs.Balance.{bringing, kept_after, taken-after}
use Rattle.tables.specs.Entries.{held, people}
use Rattle.tables.specs.SheetOf.{branch_count, branch_number, branch_of, sheet_of, sheet_in}
use Rattle.tables.proofs.SheetOf.{count_of, branch_of_lem, branch-small}
use Rattle.tables.proofs.Runs.{first_of-length, first_of_get_d, first_of_past}
use Rattle.tables.specs.Kinds.{code}
use Rattle.tables.specs.declared.Kind.{Kind}
use Rattle.tables.specs.declared.Kind.TheVariants.{Withdraw, Split, Reveal, Renew}
use Rattle.tables.specs.contracts.Kind.{the_type as the_kind}
use denote.Enum.Bare.{sameb}
use Rattle.sheets.specs.Ready.{Ready}
use Rattle.duties.proofs.Payable.{payable}
use Rattle.pages.specs.Pages.{cells_long}
use Rattle.counts.specs.Book.{Book}
use Rattle.counts.specs.View.{alive_at, view, contract_of, set_of, secret_of}
use Rattle.counts.specs.Fit.{Fit}
use Rattle.counts.specs.Does.{Does, with_answer}
use Rattle.counts.specs.Steps.{Finds}

pub same? : (a b : ℕ) → (a ≡ b) ⊎ (a ≡ b → ⊥)
same? a b = go (eqb a b) refl
  where
    go : (x : Bool) → eqb a b ≡ x → (a ≡ b) ⊎ (a ≡ b → ⊥)
    go true e = inl (eqb-true a b e)
    go false e = inr (eqb-false a b e)

module _ (t : List ℕ) (l : Book) where
  fit-answer : (k : ℕ) → Fit t l → Fit t (with_answer l k)
  unfolding view
  fit-answer k f =
      record {
        made = f.made;
        sets = f.sets;
        time = f.time;
        taken = f.taken;
        deposits = f.deposits;
        total = f.total;
        node = f.node;
        set = f.set;
        count = f.count;
        value = f.value;
        masks = f.masks;
        blank = f.blank;
        fresh = f.fresh;
        free = f.free;
        free-sets = f.free-sets;
        unpaid = f.unpaid;
        lengths = f.lengths;
      }

  pub view-answer : (k : ℕ) → view (people t) (with_answer l k) ≡ view (people t) l
  unfolding view
  view-answer k = refl

  refuses : (e : Event) (k : ℕ) → Fit t l → limited_refusal (sheet_in t) (view (people t) l) e ≡ suc k → Does t l e (with_answer l (suc k))
  unfolding limited_step
  refuses e k f q =
      record {
        answer = sym q;
        plain = view-answer (suc k) ∙ sym (ap (λ n. when_taken n (view (people t) l) (after (sheet_in t) (view (people t) l) e)) q);
        same = λ _. ap (with_answer l) (sym q);
        fit = fit-answer (suc k) f;
      }

  -- refused by the rules, and by a limit
  pub refused : (e : Event) (k : ℕ) → Fit t l → refusal (sheet_in t) (view (people t) l) e ≡ suc k → Does t l e (with_answer l (suc k))
  unfolding limited_refusal
  refused e k f q = refuses e k f (ap (λ n. or_limit n (within (sheet_in t) (view (people t) l) e)) q)

  pub refused_by : (e : Event) (n : ℕ) → Fit t l → (n ≡ 0 → ⊥) → refusal (sheet_in t) (view (people t) l) e ≡ n → Does t l e (with_answer l n)
  refused_by e zero f h q = absurd (h refl)
  refused_by e (suc k) f h q = refused e k f q

  pub passed : (e : Event) → Fit t l → refusal (sheet_in t) (view (people t) l) e ≡ 0 → within (sheet_in t) (view (people t) l) e ≡ false → Does t l e (with_answer l 19)
  unfolding limited_refusal ask
  passed e f q w = refuses e 18 f (ap₂ or_limit q w)

  pub takes : (e : Event) (m : Book) → refusal (sheet_in t) (view (people t) l) e ≡ 0 → within (sheet_in t) (view (people t) l) e ≡ true
      → m.answer ≡ 0 → view (people t) m ≡ after (sheet_in t) (view (people t) l) e → Fit t m → Does t l e m
  unfolding limited_refusal limited_step ask
  takes e m q w a v f =
      let z : limited_refusal (sheet_in t) (view (people t) l) e ≡ 0 = ap₂ or_limit q w in
      record {
        answer = a ∙ sym z;
        plain = v ∙ sym (ap (λ n. when_taken n (view (people t) l) (after (sheet_in t) (view (people t) l) e)) z);
        same = λ h. absurd (h z);
        fit = f;
      }

  paid-length : length (view (people t) l).paid ≡ (sheet_in t).participants
  unfolding view sheet_of
  paid-length = first_of-length (λ p. get_or l.paid p 0) (people t)

  -- no satoshi astray
  module _ (e : Event) (m : Book) (ok : Ready t) (f : Fit t l) (q : refusal (sheet_in t) (view (people t) l) e ≡ 0) (v : view (people t) m ≡ after (sheet_in t) (view (people t) l) e) where
    pub total-after : locked (view (people t) m).contracts + sum (view (people t) m).paid ≡ l.taken + bringing (sheet_in t) (view (people t) l) e
    total-after =
        ap (λ x. locked x.contracts + sum x.paid) v
        ∙ kept_after (sheet_in t) (payable (people t) (held t) ok.promises) (view (people t) l) e paid-length q
        ∙ ap (λ x. x + bringing (sheet_in t) (view (people t) l) e) f.total

    pub deposits-after : deposits_taken (sheet_in t) (view (people t) m) ≡ l.taken + bringing (sheet_in t) (view (people t) l) e
    deposits-after =
        ap (λ x. deposits_taken (sheet_in t) x) v
        ∙ taken-after (sheet_in t) (view (people t) l) e
        ∙ ap (λ x. x + bringing (sheet_in t) (view (people t) l) e) f.deposits

    module _ (b : bringing (sheet_in t) (view (people t) l) e ≡ 0) where
      pub total-same : locked (view (people t) m).contracts + sum (view (people t) m).paid ≡ l.taken
      total-same = omega (arith, total-after)

      pub deposits-same : deposits_taken (sheet_in t) (view (people t) m) ≡ l.taken
      deposits-same = omega (arith, deposits-after)

  -- ---- looking up

  pub contracts-are : length (view (people t) l).contracts ≡ l.made
  unfolding view
  contracts-are = first_of-length (contract_of l) l.made

  pub sets-are : length (view (people t) l).sets ≡ l.sets
  unfolding view
  sets-are = first_of-length (set_of l) l.sets

  pub contract_of_lem : (c : ℕ) → c < l.made → contract_at (view (people t) l) c ≡ contract_of l c
  unfolding view
  contract_of_lem c h = first_of_get_d (contract_of l) l.made c no_contract h

  pub contract_past : (c : ℕ) → l.made ≤ c → contract_at (view (people t) l) c ≡ no_contract
  unfolding view
  contract_past c h = first_of_past (contract_of l) l.made c no_contract h

  pub set_of_lem : (i : ℕ) → i < l.sets → set_at (view (people t) l) i ≡ set_of l i
  unfolding view
  set_of_lem i h = first_of_get_d (set_of l) l.sets i no_set h

  pub set_past : (i : ℕ) → l.sets ≤ i → set_at (view (people t) l) i ≡ no_set
  unfolding view
  set_past i h = first_of_past (set_of l) l.sets i no_set h

  pub commitment_of_lem : (i j : ℕ) → i < l.sets → j < get_or l.count i 0 → commitment_at (view (people t) l) i j ≡ secret_of l i j
  commitment_of_lem i j h k = ap (λ x. get_or x.secrets j ill) (set_of_lem i h) ∙ first_of_get_d (secret_of l i) (get_or l.count i 0) j ill k

  pub commitment_past : (i j : ℕ) → i < l.sets → get_or l.count i 0 ≤ j → commitment_at (view (people t) l) i j ≡ ill
  commitment_past i j h k = ap (λ x. get_or x.secrets j ill) (set_of_lem i h) ∙ first_of_past (secret_of l i) (get_or l.count i 0) j ill k

  pub commitment_none : (i j : ℕ) → l.sets ≤ i → commitment_at (view (people t) l) i j ≡ ill
  commitment_none i j h = ap (λ x. get_or x.secrets j ill) (set_past i h)

  -- a live contract and its branch
  live_unknown : (c b : ℕ) → l.made ≤ c → live (sheet_in t) (view (people t) l) c b ≡ false
  live_unknown c b h = and_false _ _ (ap (λ k. k.alive) (contract_past c h))

  live-dead : (c b : ℕ) → c < l.made → alive_at l.alive c ≡ false → live (sheet_in t) (view (people t) l) c b ≡ false
  live-dead c b h e = and_false _ _ (ap (λ k. k.alive) (contract_of_lem c h) ∙ e)

  module _ (f : Fit t l) (c b : ℕ) (h : c < l.made) where
    node-is : (contract_at (view (people t) l) c).node ≡ get_or l.node c 0
    node-is = ap (λ k. k.node) (contract_of_lem c h)

    branches : length (branches_at (sheet_in t) (contract_at (view (people t) l) c).node) ≡ branch_count (held t) (get_or l.node c 0)
    branches = ap (λ n. length (branches_at (sheet_in t) n)) node-is ∙ count_of (people t) (held t) (get_or l.node c 0) (f.node c h)

    live-none : branch_count (held t) (get_or l.node c 0) ≤ b → live (sheet_in t) (view (people t) l) c b ≡ false
    live-none k = and_no _ _ (le-ltb b _ (let z = branches in omega arith))

    pub live-is : alive_at l.alive c ≡ true → b < branch_count (held t) (get_or l.node c 0) → live (sheet_in t) (view (people t) l) c b ≡ true
    live-is e k = and_i _ _ (ap (λ k. k.alive) (contract_of_lem c h) ∙ e) (lt-ltb b _ (let z = branches in omega arith))

    pub live_absent : Finds t l.made l.node l.alive c b None → live (sheet_in t) (view (people t) l) c b ≡ false
    live_absent x = go (alive_at l.alive c) refl
      where
        go : (a : Bool) → alive_at l.alive c ≡ a → live (sheet_in t) (view (people t) l) c b ≡ false
        go true z = live-none (x h z)
        go false z = live-dead c b h z

    pub branch-is : b < branch_count (held t) (get_or l.node c 0) → the_branch (sheet_in t) (view (people t) l) c b ≡ branch_of (held t) (branch_number (held t) (get_or l.node c 0) b)
    branch-is k = ap (λ n. branch_at (sheet_in t) n b) node-is ∙ branch_of_lem (people t) (held t) (get_or l.node c 0) b (f.node c h) k

-- no such contract or branch
pub absent : (t : List ℕ) (l : Book) (c b : ℕ) → Fit t l → Finds t l.made l.node l.alive c b None → live (sheet_in t) (view (people t) l) c b ≡ false
absent t l c b f x = by_cases (dec_le l.made c) (live_unknown t l c b) (λ h. live_absent t l f c b (omega arith) x)

-- what the code says of a kind
renews : (k : Kind) → sameb the_kind k Renew ≡ eqb (code k) 3
renews Withdraw = refl
renews Split = refl
renews Reveal = refl
renews Renew = refl

pub kind-renews : (k : Kind) {n : ℕ} → code k ≡ n → sameb the_kind k Renew ≡ true → n ≡ 3
kind-renews k e t = eqb-true _ 3 (ap (λ n. eqb n 3) (sym e) ∙ sym (renews k) ∙ t)

pub kind-other : (k : Kind) {n : ℕ} → code k ≡ n → sameb the_kind k Renew ≡ false → n ≡ 3 → ⊥
kind-other k e t = eqb-false _ 3 (ap (λ n. eqb n 3) (sym e) ∙ sym (renews k) ∙ t)

-- the numbers that the code goes by
pub place-in : (t C : List ℕ) (l : Book) (c b : ℕ) → Ready t → Fit t l → c < l.made → b < branch_count (held t) (get_or l.node c 0) → length C ≡ cells_long → (cells_long ≤ length C) × (c < 256) × (b < 16)
place-in t C l c b ok f h k e = (omega arith, omega (arith, f.made), omega (arith, (ok.promises.node _ (f.node c h)).few))

pub entry-small : (t : List ℕ) (n b : ℕ) {q : ℕ} → q ≡ branch_number (held t) n b → b < branch_count (held t) n → q < length (held t).branches
entry-small t n b e h = subst (λ q. q < length (held t).branches) (sym e) (branch-small (held t) n b h)
