-- "The ledger": the plain ledger, which has no limits: its state, what each event asks, and what it does. Assumes nothing.
use Rattle.std.specs.Prelude.{ℕ, zero, suc, ◌+◌, ◌*◌, ◌/◌, ◌-◌, Bool, true, false, not, List, [], ◌∷◌, ◌++◌, map, length, get_or, set, replicate, eqb, leb}
use Rattle.std.proofs.Math.Option.{Option, none, some as the}
use Rattle.bitml.specs.Lists.{◌&◌, ◌or◌, ◌⇒◌, ask, sum, every, below}
use Rattle.bitml.specs.Sheet.{Sheet, Branch, Part, Action, withdraw, split, reveal, renew_as, def_at, branch_at, has_branch, signs, holds}

-- ---- the state

-- "commitment sets (value or `x`, told or not, per secret)": a commitment is ill-formed, kept or told
pub data Commitment : Type 0 where
  ill : Commitment
  kept told : ℕ → Commitment

-- A set, with the definition whose secrets these are
pub record CommitmentSet : Type 0 where
  pub definition : ℕ
  pub secrets : List Commitment

-- "contracts numbered as made (node, balance, commitment set, signatures by branch, alive or not)"
pub record Contract : Type 0 where
  pub node : ℕ
  pub balance : ℕ
  pub set : ℕ
  pub signed : ℕ → ℕ → Bool
  pub alive : Bool

-- "State: time, contracts .., commitment sets .., paid amounts"
pub record Ledger : Type 0 where
  pub time : ℕ
  pub contracts : List Contract
  pub sets : List CommitmentSet
  pub paid : List ℕ

-- "`wait`,d"; "`sign`,p,c,b"; "`tell`,i,j"; "`fire`,c,b"; "`renew`,c,b, up to 8 values"
pub data Event : Type 0 where
  wait : ℕ → Event
  sign : ℕ → ℕ → ℕ → Event
  tell : ℕ → ℕ → Event
  fire : ℕ → ℕ → Event
  renew : ℕ → ℕ → List (Option ℕ) → Event

-- ---- making and looking up; a number that is unknown finds a dead contract, an empty set, an ill-formed commitment

-- A new contract is "unsigned"
abbrev pub new_contract : ℕ → ℕ → ℕ → Contract
new_contract n v i = record { node = n; balance = v; set = i; signed = λ b p. false; alive = true }

abbrev pub dead : Contract → Contract
dead k = record { node = k.node; balance = k.balance; set = k.set; signed = k.signed; alive = false }

abbrev pub no_contract : Contract
no_contract = dead (new_contract 0 0 0)

abbrev pub contract_at : Ledger → ℕ → Contract
contract_at l c = get_or l.contracts c no_contract

abbrev pub no_set : CommitmentSet
no_set = record { definition = 0; secrets = [] }

abbrev pub set_at : Ledger → ℕ → CommitmentSet
set_at l i = get_or l.sets i no_set

abbrev pub commitment_at : Ledger → ℕ → ℕ → Commitment
commitment_at l i j = get_or (set_at l i).secrets j ill

-- "a number, not told yet"
abbrev pub is_kept : Commitment → Bool
is_kept ill = false
is_kept (kept v) = true
is_kept (told v) = false

abbrev pub is_told : Commitment → Bool
is_told ill = false
is_told (kept v) = false
is_told (told v) = true

abbrev pub number : Commitment → ℕ
number ill = 0
number (kept v) = v
number (told v) = v

abbrev pub telling : Commitment → Commitment
telling ill = ill
telling (kept v) = told v
telling (told v) = told v

-- "a value or `x` per secret, nothing told"
abbrev pub commit : Option ℕ → Commitment
commit none = ill
commit (the v) = kept v

-- Branch b of contract c
abbrev pub the_branch : Sheet → Ledger → ℕ → ℕ → Branch
the_branch s l c b = branch_at s (contract_at l c).node b

abbrev pub is_renewal : Action → Bool
is_renewal (withdraw p) = false
is_renewal (split ps) = false
is_renewal (reveal js p n) = false
is_renewal (renew_as d) = true

abbrev pub renewed_as : Action → ℕ
renewed_as (withdraw p) = 0
renewed_as (split ps) = 0
renewed_as (reveal js p n) = 0
renewed_as (renew_as d) = d

-- ---- what an event asks: 0 where it is taken, else the lowest number that refuses it

-- 14, "contract unknown or dead, no such branch"
abbrev pub live : Sheet → Ledger → ℕ → ℕ → Bool
live s l c b = (contract_at l c).alive & has_branch s (contract_at l c).node b

-- 16, "all signers signed"
abbrev pub all_signed : Sheet → Branch → (ℕ → Bool) → Bool
all_signed s br signed = every (λ p. signs br p ⇒ signed p) (below s.participants)

-- 17, "for `r` all listed secrets told and the condition true", by the commitments k of the contract's own set
abbrev pub revealed : (ℕ → Commitment) → Action → Bool
revealed k (withdraw p) = true
revealed k (split ps) = true
revealed k (reveal js p n) = every (λ j. is_told (k j)) js & holds (λ j. number (k j)) p
revealed k (renew_as d) = true

-- 18, "one value for each secret of d"
abbrev pub values_fit : Sheet → Action → List (Option ℕ) → Bool
values_fit s a vs = eqb (length vs) (length (def_at s (renewed_as a)).owners)

-- "An event is taken when all that its line asks holds". The range of a `wait` is asked when its line is read (4)
unfoldable pub refusal : Sheet → Ledger → Event → ℕ
refusal s l (wait d) = ask (leb 1 d & leb d 4294967295) 4 0
refusal s l (sign p c b) =
    ask (live s l c b) 14
    (ask (signs (the_branch s l c b) p & not ((contract_at l c).signed b p)) 16
    0)
refusal s l (tell i j) = ask (is_kept (commitment_at l i j)) 17 0
refusal s l (fire c b) =
    ask (live s l c b & not (is_renewal (the_branch s l c b).action)) 14
    (ask (leb (the_branch s l c b).opens l.time) 15
    (ask (all_signed s (the_branch s l c b) ((contract_at l c).signed b)) 16
    (ask (revealed (commitment_at l (contract_at l c).set) (the_branch s l c b).action) 17
    0)))
refusal s l (renew c b vs) =
    ask (live s l c b & is_renewal (the_branch s l c b).action) 14
    (ask (leb (the_branch s l c b).opens l.time) 15
    (ask (all_signed s (the_branch s l c b) ((contract_at l c).signed b)) 16
    (ask (values_fit s (the_branch s l c b).action vs) 18
    0)))

-- ---- what a taken event does

abbrev pub signing : Contract → ℕ → ℕ → Contract
signing k b p =
    record {
      node = k.node;
      balance = k.balance;
      set = k.set;
      signed = λ b' p'. (eqb b' b & eqb p' p) or k.signed b' p';
      alive = k.alive;
    }

-- "A part of `s` gets floor(balance × weight / sum of weights); the last also the remainder": v is the balance, left what is not shared out yet
abbrev pub splitting : ℕ → ℕ → ℕ → ℕ → List Part → List Contract
splitting v total left i [] = []
splitting v total left i (q ∷ []) = new_contract q.node left i ∷ []
splitting v total left i (q ∷ r ∷ qs) =
    new_contract q.node (v * q.weight / total) i ∷ splitting v total (left - v * q.weight / total) i (r ∷ qs)

-- "its parts are made in order, unsigned, same set"
abbrev pub making : Contract → Action → List Contract
making k (withdraw p) = []
making k (split qs) = splitting k.balance (sum (map (λ q. q.weight) qs)) k.balance k.set qs
making k (reveal js p n) = new_contract n k.balance k.set ∷ []
making k (renew_as d) = []

-- "`w`,p pays the balance to p"
abbrev pub paying : List ℕ → ℕ → Action → List ℕ
paying paid v (withdraw p) = set paid p (get_or paid p 0 + v)
paying paid v (split qs) = paid
paying paid v (reveal js p n) = paid
paying paid v (renew_as d) = paid

-- "the new one, at the root of d and unsigned, has the old balance plus d's deposits and a new set": number i
abbrev pub renewing : Sheet → Contract → ℕ → ℕ → Contract
renewing s k d i = new_contract (def_at s d).root (k.balance + sum (def_at s d).deposits) i

unfoldable pub after : Sheet → Ledger → Event → Ledger
after s l (wait d) = record { time = l.time + d; contracts = l.contracts; sets = l.sets; paid = l.paid }
after s l (sign p c b) =
    record { time = l.time; contracts = set l.contracts c (signing (contract_at l c) b p); sets = l.sets; paid = l.paid }
after s l (tell i j) =
    let now : CommitmentSet = record { definition = (set_at l i).definition; secrets = set (set_at l i).secrets j (telling (commitment_at l i j)) } in
    record { time = l.time; contracts = l.contracts; sets = set l.sets i now; paid = l.paid }
after s l (fire c b) =
    record {
      time = l.time;
      contracts = set l.contracts c (dead (contract_at l c)) ++ making (contract_at l c) (the_branch s l c b).action;
      sets = l.sets;
      paid = paying l.paid (contract_at l c).balance (the_branch s l c b).action;
    }
after s l (renew c b vs) =
    let d = renewed_as (the_branch s l c b).action in
    record {
      time = l.time;
      contracts = set l.contracts c (dead (contract_at l c)) ++ (renewing s (contract_at l c) d (length l.sets) ∷ []);
      sets = l.sets ++ (record { definition = d; secrets = map commit vs } ∷ []);
      paid = l.paid;
    }

-- "otherwise it is refused and the ledger stays the same"
abbrev pub when_taken : ℕ → Ledger → Ledger → Ledger
when_taken zero l l' = l'
when_taken (suc k) l l' = l

unfoldable pub step : Sheet → Ledger → Event → Ledger
step s l e = when_taken (refusal s l e) l (after s l e)

-- A list of events, taken or refused, one after the other
unfoldable pub play : Sheet → Ledger → List Event → Ledger
play s l [] = l
play s l (e ∷ es) = play s (step s l e) es

-- "At stipulation: time 0, contract 0 at the root of definition 0 with its deposits, unsigned, set 0 with a value or `x` per
-- secret, nothing told or paid"
unfoldable pub stipulated : Sheet → List (Option ℕ) → Ledger
stipulated s vs =
    record {
      time = 0;
      contracts = new_contract (def_at s 0).root (sum (def_at s 0).deposits) 0 ∷ [];
      sets = record { definition = 0; secrets = map commit vs } ∷ [];
      paid = replicate s.participants 0;
    }
