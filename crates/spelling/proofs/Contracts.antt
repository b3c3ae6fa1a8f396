-- A contract that was read is spelled as it stood. Assumes nothing.
use Prim.Native.Nat.{ℕ, zero, suc, ◌+◌, ◌≤◌, ◌<◌}
use mathlib.Core.Path.{◌≡◌, refl, sym, ap, ap₂, ◌∙◌, subst}
use mathlib.Core.List.{List, [], ◌∷◌, ◌++◌, map, append-nil}
use native.Mathlib.Omega.{arith}
use lib.ListN.{length, length-map, length-append}
use lib.Dec.{eqb}
use borrow.Author.Tests.{eq-eqb}
use Rattle.bitml.specs.Lists.{◌&◌, gather, All, nil, cons, keep, up_from, below}
use Rattle.bitml.specs.Sheet.{Sheet, Cond, Branch as Drawn, branches_at, parts}
use Rattle.bitml.proofs.Lists.{gather-map}
use Rattle.fields.specs.Field.{comma, packed, packed_of, number_at, word_at, any_number}
use Rattle.fields.specs.Field.{Value}
use Rattle.fields.proofs.Words.{Bytes}
use Rattle.tables.specs.Codes.{withdraw_kind, split_kind, reveal_kind, renew_kind}
use Rattle.tables.specs.declared.Head.{Head}
use Rattle.tables.specs.declared.Action.{Action}
use Rattle.tables.specs.Entries.{NodeEntry, BranchEntry, Entries}
use Rattle.tables.specs.SheetOf.{node_entry_at, branch_entry_at, branch_numbers, branch_count, part_numbers, part_count, listed_at, cond_at, part_of, secrets_of, action_of, branch_of, sheet_of}
use Rattle.tables.specs.State.{State, entries, with_node, with_branch, node_entry, branch_entry}
use Rattle.tables.proofs.SheetOf.{branches-are, parts-split}
use Rattle.steps.specs.Steps.{Outcome, to_place, times}
use Rattle.steps.proofs.Ends.{Ends, good, refused, ends-map, ends-field, ends_test, ends_then}
use Rattle.contracts.specs.declared.Limits.{Limits}
use Rattle.contracts.specs.Contract.{c_word, w_word, s_word, r_word, g_word, action, ContractReader, hold_at, leaf_at, weighed_at, split_at, open_at, reveal_at, contract_with, action_at, read_branch, inside_at, read_contract}
use Rattle.reading.specs.Promises.{Promises}
use Rattle.texts.specs.Text.{letters, field, fields}
use Rattle.writing.specs.Written.{word}
use Rattle.writing.proofs.Fields.{between, between_join}
use Rattle.writing.proofs.Says.{Starts, starts_same, starts_trans, starts_at, Grown, grown_trans, says_node, says_branch}
use Rattle.writing.proofs.Conditions.{Spells, spells}
use Rattle.spelling.specs.Spelled.{spell_condition, spell_part, spell_action, spell_branch, spell_contract, appearing}
use Rattle.spelling.specs.Legible.{Nests}
use Rattle.spelling.proofs.Cells.{cells_of, cond-at}
use Rattle.spelling.proofs.Conditions.{Spelt, condition_spelt}
use Rattle.spelling.proofs.Listed.{secrets-listed, listed-covers, listed-are}
use Rattle.spelling.proofs.Climbing.{Climbs, none, more, climbs_from, climbs_are}
use Rattle.spelling.proofs.Covering.{span, span_none, span_first, starts_length, Covers, silent, covers_then, covers_by, covers-nothing, covers-on, covers-number, covers-word}

-- ---- a condition that was read

condition_grown : {s : List ℕ} {a b : State} → Spelt s a b → Grown (entries a) (entries b)
condition_grown {a = a} x =
    subst (λ (c : State). Grown (entries a) (entries c)) (sym x.same)
    (record {
      nodes = starts_same a.nodes;
      branches = starts_same a.branches;
      defs = starts_same a.defs;
      listed = starts_same a.listed;
      cells = record { rest = cells_of x.condition; is = refl };
    })

condition-covers : (s : List ℕ) (K : ℕ) (a b : State) (x : Spelt s a b) → Covers s K (λ E. spell_condition x.condition) silent a b
condition-covers s K a b x =
    record {
      on = x.on;
      grown = condition_grown x;
      text = λ E h p. x.text;
      nodes = λ E h p. span_none (length a.nodes) ∙ ap (λ (c : State). span (length a.nodes) (length c.nodes)) (sym x.same);
    }

-- it is the one that its cells stand for
condition_found : {s : List ℕ} (E : Entries) (a b : State) (x : Spelt s a b) → Grown (entries b) E → cond_at E (length a.cells) ≡ x.condition
condition_found E a b x h =
    cond-at E a.cells h.cells.rest x.condition (h.cells.is ∙ ap (λ (c : State). c.cells ++ h.cells.rest) x.same)

module _ (s : List ℕ) (hs : Bytes s) (K : ℕ) where
  -- the contract at each node, as text and as nodes, with d levels left
  abbrev text_in : ℕ → Entries → ℕ → List ℕ
  text_in d E = spell_contract (sheet_of K E) d

  abbrev nodes_in : ℕ → Entries → ℕ → List ℕ
  nodes_in d E = appearing (sheet_of K E) d

  -- a contract of branch p with weight w: the next node that is listed
  pub record Contract (d p w : ℕ) (a b : State) : Type 0 where
    pub covers : Covers s K (λ E. text_in d E (length a.nodes)) (λ E. nodes_in d E (length a.nodes)) a b
    pub longer : length a.nodes < length b.nodes
    pub entry : (E : Entries) → Grown (entries b) E → ((node_entry_at E (length a.nodes)).parent ≡ p) × ((node_entry_at E (length a.nodes)).weight ≡ w)
    pub nests : (E : Entries) → Grown (entries b) E → Promises K E → Nests (sheet_of K E) d (length a.nodes)

  abbrev C : ℕ → ContractReader → Type 0
  C d contract = (p w : ℕ) (a : State) → Ends (Contract d p w a) (contract p w a)

  -- "n times weight and contract": the parts of branch p
  record Parts (d p n : ℕ) (a b : State) : Type 0 where
    numbers : List ℕ
    count : length numbers ≡ n
    covers : Covers s K (λ E. gather (spell_part (text_in d E)) (map (part_of E) numbers)) (λ E. gather (nodes_in d E) numbers) a b
    climbs : (E : Entries) → Grown (entries b) E → Climbs (λ j. eqb (node_entry_at E j).parent p) (length a.nodes) (length E.nodes) numbers
    nests : (E : Entries) → Grown (entries b) E → Promises K E → All (Nests (sheet_of K E) d) numbers

  -- an action, read from a on, of the next branch that is listed
  record Acts (d : ℕ) (h : Head) (a b : State) : Type 0 where
    act : Action
    covers : Covers s K (λ E. spell_action (text_in d E) (branch_of E (length a.branches)).action)
        (λ E. gather (nodes_in d E) (parts (branch_of E (length a.branches)).action)) a b
    entry : Starts (a.branches ++ (branch_entry h act ∷ [])) b.branches
    nests : (E : Entries) → Grown (entries b) E → Promises K E → All (Nests (sheet_of K E) d) (parts (branch_of E (length a.branches)).action)

  -- that branch, of node m; and n of them
  record Branch (d m : ℕ) (a b : State) : Type 0 where
    covers : Covers s K (λ E. spell_branch (text_in d E) (branch_of E (length a.branches))) (λ E. gather (nodes_in d E) (parts (branch_of E (length a.branches)).action)) a b
    longer : length a.branches < length b.branches
    node : (E : Entries) → Grown (entries b) E → (branch_entry_at E (length a.branches)).node ≡ m
    nests : (E : Entries) → Grown (entries b) E → Promises K E → All (Nests (sheet_of K E) d) (parts (branch_of E (length a.branches)).action)

  record Branches (d m n : ℕ) (a b : State) : Type 0 where
    numbers : List ℕ
    count : length numbers ≡ n
    covers : Covers s K (λ E. gather (spell_branch (text_in d E)) (map (branch_of E) numbers))
        (λ E. gather (λ br. gather (nodes_in d E) (parts br.action)) (map (branch_of E) numbers)) a b
    climbs : (E : Entries) → Grown (entries b) E → Climbs (λ j. eqb (branch_entry_at E j).node m) (length a.branches) (length E.branches) numbers
    nests : (E : Entries) → Grown (entries b) E → Promises K E → All (λ br. All (Nests (sheet_of K E) d) (parts br.action)) (map (branch_of E) numbers)

  module _ (d : ℕ) (contract : ContractReader) (c : C d contract) where
    -- ---- parts and actions

    weighed_parts : (p sum n : ℕ) (a : State) → Ends (Parts d p n a) (weighed_at s contract p sum n a)
    unfolding weighed_at spell_part
    weighed_parts p sum zero a = good (record { numbers = []; count = refl; covers = covers-nothing s K a; climbs = λ E h. none; nests = λ E h o. nil })
    weighed_parts p sum (suc n) a =
        ends-field a _ _ λ w e q. ends_test _ _ _ (λ t. refused) λ t.
        ends_then _ _ (c p w (to_place a e)) λ a₁ x. ends-map (weighed_parts p (sum + w) n a₁) λ b y.
        record {
          numbers = length a.nodes ∷ y.numbers;
          count = ap suc y.count;
          covers = covers_then s K (covers_by s K (covers_then s K (covers-number s K a 1000 w e q) x.covers)
              (λ E h o. (ap (λ v. field v ++ text_in d E (length a.nodes)) (x.entry E h).1, refl))) y.covers;
          climbs = λ E h.
              let l = x.longer in
              let m = starts_length y.covers.grown.nodes in
              let i = starts_length h.nodes in
              more {k = length a.nodes} (length a.nodes) (omega arith) (omega (arith, l, m, i)) (eq-eqb _ _ (x.entry E (grown_trans y.covers.grown h)).0)
              (climbs_from _ (suc (length a.nodes)) l (y.climbs E h));
          nests = λ E h o. cons (x.nests E (grown_trans y.covers.grown h) o) (y.nests E h o);
        }

    -- "`w`,p", "`g`,d": a word and a number
    leaf_acts : (h : Head) (kind limit : ℕ) (l : List ℕ) (w e : ℕ) (a : State) → Spells l w → word_at s a.at ≡ Value w e
        → ((p : ℕ) (E : Entries) → branch_entry_at E (length a.branches) ≡ branch_entry h (action kind p 0 0 0)
        → (spell_action (text_in d E) (branch_of E (length a.branches)).action ≡ (comma ∷ l) ++ field p)
        × (parts (branch_of E (length a.branches)).action ≡ []))
        → Ends (Acts d h a) (leaf_at s h kind limit (to_place a e))
    unfolding leaf_at
    leaf_acts h kind limit l w e a sp q match =
        ends-field (to_place a e) _ _ λ p e' q'. ends_test _ _ _ (λ t.
        let en = branch_entry h (action kind p 0 0 0) in
        good (record {
          act = action kind p 0 0 0;
          covers = covers_by s K
              (covers-on s K (covers_then s K (covers-word s K hs a w e l sp q) (covers-number s K (to_place a e) any_number p e' q'))
              (with_branch en (to_place a e')) (says_branch s en (to_place a e')).grown refl refl)
              (λ E k o. let w = match p E (starts_at a.branches en _ k.branches) in (w.0, ap (λ ns. gather (nodes_in d E) ns) w.1));
          entry = starts_same (a.branches ++ (en ∷ []));
          nests = λ E k o. subst (All (Nests (sheet_of K E) d)) (sym (match p E (starts_at a.branches en _ k.branches)).1) nil;
        })) (λ t. refused)

    pay-spelled : (E : Entries) (p v : ℕ) → (branch_entry_at E p).kind ≡ withdraw_kind → (branch_entry_at E p).arg ≡ v
        → (spell_action (text_in d E) (branch_of E p).action ≡ word "w" ++ field v) × (parts (branch_of E p).action ≡ [])
    unfolding branch_of action_of spell_action
    pay-spelled E p v kind arg = (rw (kind, arg), rw kind)

    renew-spelled : (E : Entries) (p v : ℕ) → (branch_entry_at E p).kind ≡ renew_kind → (branch_entry_at E p).arg ≡ v
        → (spell_action (text_in d E) (branch_of E p).action ≡ word "g" ++ field v) × (parts (branch_of E p).action ≡ [])
    unfolding branch_of action_of spell_action
    renew-spelled E p v kind arg = (rw (kind, arg), rw kind)

    -- the parts of a branch that was read as a split
    parts-read : (p n : ℕ) (a b : State) (x : Parts d p n a b) (E : Entries) → Grown (entries b) E → Promises K E → p < length E.branches
        → (branch_entry_at E p).kind ≡ split_kind → (branch_entry_at E p).arg ≡ n → part_numbers E p ≡ x.numbers
    unfolding part_numbers part_count
    parts-read p n a b x E k o l kind arg =
        climbs_are _ 0 (length E.nodes) (length E.nodes) x.numbers (omega arith) (climbs_from _ 0 (omega arith) (x.climbs E k))
        (((o.branch p l).split kind).parts ∙ arg ∙ sym x.count)

    split-spelled : (E : Entries) (p n : ℕ) (ns : List ℕ) → (branch_entry_at E p).kind ≡ split_kind → part_numbers E p ≡ ns → length ns ≡ n
        → spell_action (text_in d E) (branch_of E p).action ≡ word "s" ++ field n ++ gather (spell_part (text_in d E)) (map (part_of E) ns)
    unfolding branch_of action_of spell_action
    split-spelled E p n ns kind ps len =
        rw (kind, ps) (ap (λ m. word "s" ++ field m ++ gather (spell_part (text_in d E)) (map (part_of E) ns)) (length-map ns (part_of E) ∙ len))

    split_acts : (h : Head) (w e : ℕ) (a : State) → Spells (letters "s") w → word_at s a.at ≡ Value w e → Ends (Acts d h a) (split_at s contract h (to_place a e))
    unfolding split_at
    split_acts h w e a sp q =
        ends-field (to_place a e) _ _ λ n e' q'. ends_test _ _ _ (λ t. refused) λ t.
        let en = branch_entry h (action split_kind n 0 0 0) in
        ends-map (weighed_parts (length a.branches) 0 n (with_branch en (to_place a e'))) λ b x.
        let up : (E : Entries) → Grown (entries b) E → Starts (a.branches ++ (en ∷ [])) E.branches = λ E k. starts_trans x.covers.grown.branches k.branches in
        let kind : (E : Entries) → Grown (entries b) E → (branch_entry_at E (length a.branches)).kind ≡ split_kind = λ E k. ap (λ y. y.kind) (starts_at a.branches en _ (up E k)) in
        let ps : (E : Entries) → Grown (entries b) E → Promises K E → part_numbers E (length a.branches) ≡ x.numbers
        = λ E k o.
        let l = starts_length (up E k) in
        let m = length-append a.branches (en ∷ []) in
        parts-read (length a.branches) n _ b x E k o (omega (arith, l, m)) (kind E k) (ap (λ y. y.arg) (starts_at a.branches en _ (up E k))) in
        record {
          act = action split_kind n 0 0 0;
          covers = covers_by s K
              (covers_then s K (covers-on s K (covers_then s K (covers-word s K hs a w e (letters "s") sp q) (covers-number s K (to_place a e) 8 n e' q'))
              (with_branch en (to_place a e')) (says_branch s en (to_place a e')).grown refl refl) x.covers)
              (λ E k o. (
                split-spelled E (length a.branches) n x.numbers (kind E k) (ps E k o) x.count,
                ap (λ ns. gather (nodes_in d E) ns) (parts-split E (length a.branches) (kind E k) ∙ ps E k o),
              ));
          entry = x.covers.grown.branches;
          nests = λ E k o. subst (All (Nests (sheet_of K E) d)) (sym (parts-split E (length a.branches) (kind E k) ∙ ps E k o)) (x.nests E k o);
        }

    reveal-spelled : (E : Entries) (p n i : ℕ) (js : List ℕ) (x : Cond) → (branch_entry_at E p).kind ≡ reveal_kind → secrets_of E p ≡ js → length js ≡ n
        → cond_at E (branch_entry_at E p).cond ≡ x → (branch_entry_at E p).arg ≡ i
        → (spell_action (text_in d E) (branch_of E p).action ≡ word "r" ++ field n ++ fields js ++ spell_condition x ++ text_in d E i)
        × (parts (branch_of E p).action ≡ i ∷ [])
    unfolding branch_of action_of spell_action
    reveal-spelled E p n i js x kind sec len con arg =
        (rw (kind, sec, con, arg) (ap (λ m. word "r" ++ field m ++ fields js ++ spell_condition x ++ text_in d E i) len), rw (kind, arg))

    reveal_acts : (h : Head) (secrets w e : ℕ) (a : State) → Spells (letters "r") w → word_at s a.at ≡ Value w e
        → Ends (Acts d h a) (reveal_at s secrets contract h (to_place a e))
    unfolding reveal_at open_at hold_at
    reveal_acts h secrets w e a sp q =
        ends-field (to_place a e) _ _ λ n e' q'. ends_test _ _ _ (λ t. refused) λ t.
        ends_then _ _ (secrets-listed s secrets (length a.listed) n (to_place a e')) λ a₁ x.
        ends_then _ _ (condition_spelt s hs (length a₁.cells + 64) (length a.listed) 64 a₁) λ a₂ y.
        let act = action reveal_kind (length a₂.nodes) (length a.listed) n (length a₁.cells) in
        let en = branch_entry h act in
        let same : a₂.branches ≡ a.branches = ap (λ (z : State). z.branches) y.same ∙ ap (λ (z : State). z.branches) x.same in
        ends-map (c (length a₂.branches) 0 (with_branch en a₂)) λ b z.
        let grows : Starts (a.branches ++ (en ∷ [])) b.branches = subst (λ bs. Starts (bs ++ (en ∷ [])) b.branches) same z.covers.grown.branches in
        let spelled : (E : Entries) → Grown (entries b) E
        → (spell_action (text_in d E) (branch_of E (length a.branches)).action ≡ word "r" ++ field n ++ fields x.values ++ spell_condition y.condition ++ text_in d E (length a₂.nodes))
        × (parts (branch_of E (length a.branches)).action ≡ length a₂.nodes ∷ [])
        = λ E k.
        let up : Grown (entries a₂) E = grown_trans (says_branch s en a₂).grown (grown_trans z.covers.grown k) in
        let found : branch_entry_at E (length a.branches) ≡ en = starts_at a.branches en _ (starts_trans grows k.branches) in
        let js : secrets_of E (length a.branches) ≡ x.values
        = ap₂ (λ f m. map (listed_at E) (up_from f m)) (ap (λ v. v.first) found) (ap (λ v. v.count) found)
        ∙ listed-are x E (grown_trans (condition_grown y) up) (λ m. m) (length a.listed) (λ i m r. r) in
        let cs : cond_at E (branch_entry_at E (length a.branches)).cond ≡ y.condition = ap (λ v. cond_at E v.cond) found ∙ condition_found E a₁ a₂ y up in
        reveal-spelled E (length a.branches) n (length a₂.nodes) x.values y.condition (ap (λ v. v.kind) found) js x.count cs (ap (λ v. v.arg) found) in
        record {
          act = act;
          covers = covers_by s K
              (covers_then s K (covers-on s K (covers_then s K (covers_then s K (covers_then s K (covers-word s K hs a w e (letters "r") sp q) (covers-number s K (to_place a e) 8 n e' q'))
              (listed-covers s K x)) (condition-covers s K a₁ a₂ y)) (with_branch en a₂) (says_branch s en a₂).grown refl refl) z.covers)
              (λ E k o. ((spelled E k).0, ap (λ ns. gather (nodes_in d E) ns) (spelled E k).1 ∙ append-nil (nodes_in d E (length a₂.nodes))));
          entry = grows;
          nests = λ E k o. subst (All (Nests (sheet_of K E) d)) (sym (spelled E k).1) (cons (z.nests E k o) nil);
        }

    -- ---- branches

    module _ (lim : Limits) where
      action_acts : (h : Head) (w e : ℕ) (a : State) → word_at s a.at ≡ Value w e → Ends (Acts d h a) (action_at s lim contract h a.at (to_place a e) w)
      unfolding action_at packed_of packed ◌&◌
      action_acts h w e a q =
          ends_test _ _ _ (λ t. leaf_acts h withdraw_kind lim.people (letters "w") w e a (spells (letters "w") w_word w refl refl refl t) q
          (λ p E found. pay-spelled E (length a.branches) p (ap (λ y. y.kind) found) (ap (λ y. y.arg) found))) λ t.
          ends_test _ _ _ (λ t. split_acts h w e a (spells (letters "s") s_word w refl refl refl t) q) λ t.
          ends_test _ _ _ (λ t. reveal_acts h lim.secrets w e a (spells (letters "r") r_word w refl refl refl t) q) λ t.
          ends_test _ _ _ (λ t. leaf_acts h renew_kind lim.defs (letters "g") w e a (spells (letters "g") g_word w refl refl refl t) q
          (λ p E found. renew-spelled E (length a.branches) p (ap (λ y. y.kind) found) (ap (λ y. y.arg) found))) λ t. refused

      branch_read : (m : ℕ) (a : State) → Ends (Branch d m a) (read_branch s lim contract m a)
      unfolding read_branch spell_branch branch_of
      branch_read m a =
          ends-field a _ _ λ g e q. ends_test _ _ _ (λ t. refused) λ t. ends_test _ _ _ (λ t. refused) λ t.
          ends-field (to_place a e) _ _ λ t e' q'. ends-field (to_place a e') _ _ λ w e'' q''.
          let h : Head = record { node = m; signers = g; opens = t } in
          ends-map (action_acts h w e'' (to_place a e') q'') λ b x.
          let found : (E : Entries) → Grown (entries b) E → branch_entry_at E (length a.branches) ≡ branch_entry h x.act
          = λ E k. starts_at a.branches (branch_entry h x.act) _ (starts_trans x.entry k.branches) in
          record {
            covers = covers_by s K (covers_then s K (covers_then s K (covers-number s K a any_number g e q) (covers-number s K (to_place a e) 4294967295 t e' q')) x.covers)
                (λ E k o. (
                  ap₂ (λ i j. field i ++ field j ++ spell_action (text_in d E) (branch_of E (length a.branches)).action)
                      (ap (λ y. y.signers) (found E k)) (ap (λ y. y.opens) (found E k)),
                  refl,
                ));
            longer = let l = starts_length x.entry in let i = length-append a.branches (branch_entry h x.act ∷ []) in omega (arith, l, i);
            node = λ E k. ap (λ y. y.node) (found E k);
            nests = x.nests;
          }

      branches-read : (m n : ℕ) (a : State) → Ends (Branches d m n a) (times n (read_branch s lim contract m) a)
      unfolding times
      branches-read m zero a = good (record { numbers = []; count = refl; covers = covers-nothing s K a; climbs = λ E h. none; nests = λ E h o. nil })
      branches-read m (suc n) a =
          ends_then _ _ (branch_read m a) λ a₁ x. ends-map (branches-read m n a₁) λ b y.
          record {
            numbers = length a.branches ∷ y.numbers;
            count = ap suc y.count;
            covers = covers_then s K x.covers y.covers;
            climbs = λ E h.
                let l = x.longer in
                let i = starts_length y.covers.grown.branches in
                let j = starts_length h.branches in
                more {k = length a.branches} (length a.branches) (omega arith) (omega (arith, l, i, j)) (eq-eqb _ _ (x.node E (grown_trans y.covers.grown h)))
                (climbs_from _ (suc (length a.branches)) l (y.climbs E h));
            nests = λ E h o. cons (x.nests E (grown_trans y.covers.grown h) o) (y.nests E h o);
          }

  -- ---- contracts in contracts

  -- the branches of a node are those that were read behind it
  branches_found : (d n : ℕ) (a b : State) (en : NodeEntry) → en.count ≡ n → (y : Branches d (length a.nodes) n (with_node en a) b)
      → (E : Entries) → Grown (entries b) E → Promises K E → branches_at (sheet_of K E) (length a.nodes) ≡ map (branch_of E) y.numbers
  unfolding branch_count branch_numbers
  branches_found d n a b en cnt y E h o =
      let m : ℕ = length a.nodes in
      let up : Starts (a.nodes ++ (en ∷ [])) E.nodes = starts_trans y.covers.grown.nodes h.nodes in
      let l : m < length E.nodes = let i = starts_length up in let j = length-append a.nodes (en ∷ []) in omega (arith, i, j) in
      let count : length (branch_numbers E m) ≡ n = sym (o.node m l).count ∙ ap (λ z. z.count) (starts_at a.nodes en _ up) ∙ cnt in
      branches-are K E m l
      ∙ ap (λ bs. map (branch_of E) bs)
      (climbs_are _ 0 (length E.branches) (length E.branches) y.numbers (omega arith) (climbs_from _ 0 (omega arith) (y.climbs E h)) (count ∙ sym y.count))

  contract-spelled : (S : Sheet) (d m n : ℕ) (bs : List Drawn) → branches_at S m ≡ bs → length bs ≡ n
      → (spell_contract S (suc d) m ≡ word "c" ++ field n ++ gather (spell_branch (spell_contract S d)) bs)
      × (appearing S (suc d) m ≡ m ∷ gather (λ br. gather (appearing S d) (parts br.action)) bs)
  unfolding spell_contract appearing
  contract-spelled S d m n bs e len = (
    ap (λ br. word "c" ++ field (length br) ++ gather (spell_branch (spell_contract S d)) br) e ∙ ap (λ i. word "c" ++ field i ++ gather (spell_branch (spell_contract S d)) bs) len,
    ap (λ br. m ∷ gather (λ b. gather (appearing S d) (parts b.action)) br) e,
  )

  -- its `c` and its count, read from a₀ to a; its node; and its branches
  node-covers : (d n : ℕ) (a₀ a b : State) (en : NodeEntry) → en.count ≡ n → a₀.nodes ≡ a.nodes → Covers s K (λ E. word "c" ++ field n) silent a₀ a → Branches d (length a.nodes) n (with_node en a) b
      → Covers s K (λ E. text_in (suc d) E (length a.nodes)) (λ E. nodes_in (suc d) E (length a.nodes)) a₀ b
  node-covers d n a₀ a b en cnt same x y =
      let m : ℕ = length a.nodes in
      let len : length (a.nodes ++ (en ∷ [])) ≡ suc m = let i = length-append a.nodes (en ∷ []) in omega (arith, i) in
      let grows = starts_length y.covers.grown.nodes in
      let up : Grown (entries a) (entries b) = grown_trans (says_node s en a).grown y.covers.grown in
      let spelled : (E : Entries) → Grown (entries b) E → Promises K E
      → (text_in (suc d) E m ≡ word "c" ++ field n ++ gather (spell_branch (text_in d E)) (map (branch_of E) y.numbers))
      × (nodes_in (suc d) E m ≡ m ∷ gather (λ br. gather (nodes_in d E) (parts br.action)) (map (branch_of E) y.numbers))
      = λ E h o.
      contract-spelled (sheet_of K E) d m n (map (branch_of E) y.numbers) (branches_found d n a b en cnt y E h o) (length-map y.numbers (branch_of E) ∙ y.count) in
      record {
        on = omega (arith, x.on, y.covers.on);
        grown = grown_trans x.grown up;
        text = λ E h o. (spelled E h o).0 ∙ ap₂ (λ xs ys. xs ++ ys) (x.text E (grown_trans up h) o) (y.covers.text E h o)
            ∙ between_join s a₀.at a.at b.at x.on y.covers.on;
        nodes = λ E h o. (spelled E h o).1 ∙ ap (λ ns. m ∷ ns) (y.covers.nodes E h o ∙ ap (λ i. span i (length b.nodes)) len)
            ∙ span_first m (length b.nodes) (omega (arith, grows, len)) ∙ ap (λ ns. span (length ns) (length b.nodes)) (sym same);
      }

  pub contract-read : (lim : Limits) (d : ℕ) → C d (read_contract s lim d)
  unfolding read_contract contract_with inside_at Nests packed_of packed ◌&◌
  contract-read lim zero p w a = ends-field a _ _ λ v e q. ends_test _ _ _ (λ t. refused) (λ t. refused)
  contract-read lim (suc d) p w a =
      ends-field a _ _ λ v e q. ends_test _ _ _ (λ t. ends_test _ _ _ (λ t. refused) λ t'.
      ends-field (to_place a e) _ _ λ n e' q'.
      let en : NodeEntry = node_entry lim.def p w n in
      let m : ℕ = length a.nodes in
      ends-map (branches-read d (read_contract s lim d) (contract-read lim d) lim m n (with_node en (to_place a e'))) λ b x.
      let found : (E : Entries) → Grown (entries b) E → node_entry_at E m ≡ en = λ E k. starts_at a.nodes en _ (starts_trans x.covers.grown.nodes k.nodes) in
      let longer : m < length b.nodes = let l = starts_length x.covers.grown.nodes in let i = length-append a.nodes (en ∷ []) in omega (arith, l, i) in
      record {
        covers = node-covers d n a (to_place a e') b en refl refl
            (covers_then s K (covers-word s K hs a v e (letters "c") (spells (letters "c") c_word v refl refl refl t) q) (covers-number s K (to_place a e) 16 n e' q')) x;
        longer = longer;
        entry = λ E k. (ap (λ y. y.parent) (found E k), ap (λ y. y.weight) (found E k));
        nests = λ E k o. subst (All (λ br. All (Nests (sheet_of K E) d) (parts br.action))) (sym (branches_found d n (to_place a e') b en refl x E k o)) (x.nests E k o);
      }) (λ t. refused)
