-- Reading a contract keeps the state good: nodes and branches are added, each within its range. Assumes nothing.
use Prim.Native.Nat.{ℕ, zero, suc, ◌+◌, ◌^◌, ◌≤◌, ◌<◌}
use mathlib.Core.Path.{◌≡◌, refl, ap, sym, ◌∙◌, subst}
use mathlib.Core.List.{List, [], ◌∷◌, ◌++◌}
use native.Mathlib.Omega.{arith}
use lib.ListN.{length, get_or}
use lib.Seq.{get_or_at}
use borrow.Author.Tests.{ltb-true, leb-false, eqb-false}
use Rattle.tables.specs.declared.Head.{Head}
use Rattle.tables.specs.declared.Action.{Action}
use Rattle.tables.specs.Entries.{NodeEntry, DefEntry, Entries}
use Rattle.tables.specs.State.{State, entries, node_entry, branch_entry, with_branch}
use Rattle.tables.specs.SheetOf.{def_entry_at}
use Rattle.steps.specs.Steps.{to_place}
use Rattle.contracts.specs.declared.Limits.{Limits}
use Rattle.contracts.specs.Contract.{ContractReader, action, hold_at, leaf_at, weighed_at, split_at, list_at, open_at, reveal_at, contract_with, action_at, read_branch, inside_at, read_contract}
use Rattle.lines.specs.Definition.{within}
use Rattle.lines.specs.Sheet.{sizes}
use Rattle.ranges.specs.Ranged.{Below, RevealRange, BranchRange, secrets_at}
use Rattle.steps.proofs.Ends.{Ends, good, refused, ends_test, ends_then, ends-map, ends-times}
use Rattle.ranges.proofs.Lists.{begins_more, begins_on, begins_length, begins_at, length_more, below_none, below_more, below-among}
use Rattle.ranges.proofs.Good.{Good, number_goes, word_goes, good_node, good_branch, good_due, good_listed, good_since}
use Rattle.ranges.proofs.Conditions.{condition-read}

-- ---- a branch is a head and an action

abbrev no_node : NodeEntry
no_node = record { definition = 0; parent = 0; weight = 0; count = 0 }

abbrev no_def : DefEntry
no_def = record { root = 0; first = 0; secrets = 0 }

-- node `h.node` is one of ns, of definition d; signers and opening time are within their ranges
record Heads (K d : ℕ) (ns : List NodeEntry) (h : Head) : Type 0 where
  there : h.node < length ns
  its : (get_or ns h.node no_node).definition ≡ d
  signers : h.signers < 2 ^ K
  opens : h.opens ≤ 4294967295

-- an action that is within its range
data Acts (K F : ℕ) (E : Entries) (h : Head) : Action → Type 0 where
  pays : {p : ℕ} → p < K → Acts K F E h (action 0 p 0 0 0)
  splits : {n : ℕ} → 1 ≤ n → n ≤ 8 → Acts K F E h (action 1 n 0 0 0)
  reveals : {x from n c : ℕ} → RevealRange E (branch_entry h (action 2 x from n c)) → Acts K F E h (action 2 x from n c)
  renews : {p : ℕ} → p < F → Acts K F E h (action 3 p 0 0 0)

module _ {K F d : ℕ} {E : Entries} {ns : List NodeEntry} {h : Head} where
  acts_range : {x : Action} → h.node < length E.nodes → Heads K d ns h → Acts K F E h x → BranchRange K F E (branch_entry h x)
  acts_range l q (pays i) =
      record {
        node = l;
        signers = q.signers;
        opens = q.opens;
        kind = omega arith;
        withdraw = λ z. i;
        split = λ z. absurd (omega arith);
        reveal = λ z. absurd (omega arith);
        renew = λ z. absurd (omega arith);
      }
  acts_range l q (splits i j) =
      record {
        node = l;
        signers = q.signers;
        opens = q.opens;
        kind = omega arith;
        withdraw = λ z. absurd (omega arith);
        split = λ z. (i, j);
        reveal = λ z. absurd (omega arith);
        renew = λ z. absurd (omega arith);
      }
  acts_range l q (reveals r) =
      record {
        node = l;
        signers = q.signers;
        opens = q.opens;
        kind = omega arith;
        withdraw = λ z. absurd (omega arith);
        split = λ z. absurd (omega arith);
        reveal = λ z. r;
        renew = λ z. absurd (omega arith);
      }
  acts_range l q (renews i) =
      record {
        node = l;
        signers = q.signers;
        opens = q.opens;
        kind = omega arith;
        withdraw = λ z. absurd (omega arith);
        split = λ z. absurd (omega arith);
        reveal = λ z. absurd (omega arith);
        renew = λ z. i;
      }

-- i secrets of an `r` are listed from `from` on, each one of S
record Lists (s : List ℕ) (K F : ℕ) (ds : List DefEntry) (ns : List NodeEntry) (S from i : ℕ) (a : State) : Type 0 where
  state : Good s K F ds ns 1 i a
  count : length a.listed ≡ from + i
  secrets : Below S a.listed from i

-- ---- within definition d, which has S secrets and is the last of ds

module _ (s : List ℕ) (K F d S : ℕ) (ds : List DefEntry) (few : S ≤ 8) (last : length ds ≡ suc d)
    (own : (get_or ds d no_def).secrets ≡ S) where
  abbrev limits : Limits
  limits = within (sizes K F) S d

  -- a contract reader that keeps the state good
  abbrev Reads : ContractReader → Type 0
  Reads contract = (ns : List NodeEntry) (b w : ℕ) (a : State) → w ≤ 1000 → Good s K F ds ns 0 0 a → Ends (Good s K F ds ns 0 0) (contract b w a)

  module _ (contract : ContractReader) (reads : Reads contract) (ns : List NodeEntry) where
    weighed_good : (b sum n : ℕ) (a : State) → Good s K F ds ns 0 0 a → Ends (Good s K F ds ns 0 0) (weighed_at s contract b sum n a)
    unfolding weighed_at
    weighed_good b sum zero a g = good g
    weighed_good b sum (suc n) a g =
        number_goes g _ _ λ w e i j g₁.
        ends_test _ _ _ (λ z. refused) λ z.
        ends_then _ _ (reads ns b w (to_place a e) i g₁) (weighed_good b (sum + w) n)

    list_good : (from i : ℕ) (a : State) → Lists s K F ds ns S from i a → Ends (Lists s K F ds ns S from (suc i)) (list_at s S from a)
    unfolding list_at
    list_good from i a c =
        number_goes c.state _ _ λ v e j k g.
        ends_test _ _ _ (λ z. refused) λ z.
        ends_test _ _ _ (λ y. refused) λ y.
        let secrets-now = below_more v c.secrets c.count (leb-false _ _ y) in
        good (record { state = good_listed g v; count = rw length_more (omega (arith, c.count)); secrets = secrets-now })

    module _ (h : Head) (q : Heads K d ns h) where
      -- the branch is put, with its action
      put_good : {n : ℕ} (a : State) (x : Action) → Good s K F ds ns 1 n a → n ≤ 8 → Acts K F (entries a) h x
          → Good s K F ds ns 0 0 (with_branch (branch_entry h x) a)
      put_good a x g i r = good_branch g (branch_entry h x) refl i (acts_range (omega (arith, q.there, begins_length g.kept)) q r)

      leaf_good : (kind limit : ℕ) (a : State) → ((p : ℕ) → p < limit → Acts K F (entries a) h (action kind p 0 0 0)) → Good s K F ds ns 1 0 a
          → Ends (Good s K F ds ns 0 0) (leaf_at s h kind limit a)
      unfolding leaf_at
      leaf_good kind limit a r g =
          number_goes g _ _ λ p e i j g₁.
          ends_test _ _ _ (λ z. good (put_good (to_place a e) _ g₁ (omega arith) (r p (ltb-true _ _ z)))) (λ z. refused)

      split_good : (a : State) → Good s K F ds ns 1 0 a → Ends (Good s K F ds ns 0 0) (split_at s contract h a)
      unfolding split_at
      split_good a g =
          number_goes g _ _ λ n e i j g₁.
          ends_test _ _ _ (λ z. refused) λ z.
          weighed_good _ 0 n _ (put_good (to_place a e) _ g₁ (omega arith) (splits (omega (arith, eqb-false n 0 z)) i))

      -- the definition of its node is d
      secrets-here : {m n : ℕ} (a : State) → Good s K F ds ns m n a → secrets_at (entries a) h.node ≡ S
      secrets-here a g =
          ap (λ (x : NodeEntry). (def_entry_at (entries a) x.definition).secrets) (begins_at g.kept h.node _ q.there)
          ∙ ap (λ k. (def_entry_at (entries a) k).secrets) q.its
          ∙ ap (λ (x : List DefEntry). (get_or x d no_def).secrets) g.same-defs
          ∙ own

      open_good : (n from : ℕ) (a : State) → 1 ≤ n → n ≤ 8 → Lists s K F ds ns S from n a → Ends (Good s K F ds ns 0 0) (open_at s contract h n from a)
      unfolding open_at hold_at
      open_good n from a i j c =
          ends_then _ _
          (condition-read s K F ds ns 1 n from a.listed _ (λ v z. omega (arith, few, below-among v c.secrets c.count z)) 64
          (suc (length a.cells)) a (omega arith) c.state refl)
          λ b r.
          let listed = subst (λ x. Below S x from n) (sym r.same-listed) c.secrets in
          let secrets = subst (λ x. Below x b.listed from n) (sym (secrets-here b r.state)) listed in
          reads ns _ 0 _ (omega arith) (put_good b _ r.state j (reveals (record { some = i; few = j; secrets = secrets; cond = r.more })))

      reveal_good : (a : State) → Good s K F ds ns 1 0 a → Ends (Good s K F ds ns 0 0) (reveal_at s S contract h a)
      unfolding reveal_at
      reveal_good a g =
          number_goes g _ _ λ n e i j g₁.
          ends_test _ _ _ (λ z. refused) λ z.
          ends_then _ _
          (ends-times (Lists s K F ds ns S (length a.listed)) n _ (to_place a e)
          (record { state = g₁; count = omega arith; secrets = below_none (omega arith) })
          (λ k l. list_good (length a.listed) k))
          (λ b c. open_good n (length a.listed) b (omega (arith, eqb-false n 0 z)) i c)

      action_good : (p : ℕ) (a : State) (w : ℕ) → Good s K F ds ns 1 0 a → Ends (Good s K F ds ns 0 0) (action_at s limits contract h p a w)
      unfolding action_at
      action_good p a w g =
          ends_test _ _ _ (λ z. leaf_good 0 K a (λ p i. pays i) g) λ z.
          ends_test _ _ _ (λ z. split_good a g) λ z.
          ends_test _ _ _ (λ z. reveal_good a g) λ z.
          ends_test _ _ _ (λ z. leaf_good 3 F a (λ p i. renews i) g) (λ z. refused)

    branch_good : (node : ℕ) (a : State) → node < length ns → (get_or ns node no_node).definition ≡ d
        → Good s K F ds ns 0 0 a → Ends (Good s K F ds ns 0 0) (read_branch s limits contract node a)
    unfolding read_branch
    branch_good node a l q g =
        number_goes g _ _ λ v e i j g₁.
        ends_test _ _ _ (λ z. refused) λ z.
        ends_test _ _ _ (λ y. refused) λ y.
        number_goes (good_due g₁ (leb-false _ _ y)) _ _ λ t e₂ k m g₂.
        word_goes g₂ _ λ w e₃ n g₃.
        action_good _ (record { there = l; its = q; signers = leb-false _ _ z; opens = k }) _ _ w g₃

  with_good : (inside : ℕ → ContractReader) → ((p : ℕ) → Reads (inside p)) → Reads (contract_with s inside)
  unfolding contract_with
  with_good inside r ns b w a i g = word_goes g _ λ v e j g₁. ends_test _ _ _ (λ z. r a.at ns b w (to_place a e) i g₁) (λ z. refused)

  inside_good : (k p : ℕ) → Reads (inside_at s limits k p)
  unfolding inside_at
  inside_good zero p ns b w a i g = refused
  inside_good (suc k) p ns b w a i g =
      ends_test _ _ _ (λ z. refused) λ z.
      number_goes g _ _ λ n e j l g₁.
      let x = node_entry d b w n in
      let ms = a.nodes ++ (x ∷ []) in
      let definition : d < length a.defs = omega (arith, ap (λ y. length y) g.same-defs, last) in
      let there : length a.nodes < length ms = rw length_more (omega arith) in
      let its = ap (λ (y : NodeEntry). y.definition) (get_or_at a.nodes x [] no_node _ refl) in
      ends-map
      (ends-times (λ m. Good s K F ds ms 0 0) n _ _ (good_node g₁ x (leb-false _ _ z) (record { definition = definition; weight = i; count = j })) λ m t c.
      branch_good _ (with_good _ (inside_good k)) ms (length a.nodes) c there its)
      (λ c g₂. good_since g₂ (begins_on g.kept (begins_more _ x)))

  pub contract_good : (k : ℕ) → Reads (read_contract s limits k)
  unfolding read_contract
  contract_good k = with_good _ (inside_good k)
