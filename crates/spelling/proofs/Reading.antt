-- A sheet that is read is legible: its numbers are short, its contracts within their depth, its nodes in order. Assumes nothing.
use Prim.Native.Nat.{ℕ, zero, suc, ◌+◌, ◌-◌, ◌^◌, ◌≤◌, ◌<◌}
use mathlib.Core.Logic.{by_cases}
use mathlib.Core.Path.{◌≡◌, refl, sym, ap, ◌∙◌, subst}
use mathlib.Core.List.{List, [], ◌∷◌, map, Memᴰ}
use native.Mathlib.Omega.{arith}
use native.Mathlib.Decide.{dec_lt}
use lib.ListN.{length, get_or, drop, length-map, get_or-eq_default}
use lib.Seq.{get_or-drop}
use lib.Pow.{pow_mono}
use Rattle.bitml.specs.Lists.{sum, gather, All, nil, cons, keep, up_from, below}
use Rattle.bitml.specs.Sheet.{Expr, Cond, Sheet, no_branch, def_at, node_at, branches_at, branch_at, parts}
use Rattle.bitml.specs.Promises.{WellFormed}
use Rattle.bitml.proofs.Lists.{all_of, all-mem, all_by_at, all-gather, all_map, all_imp, mem-le-sum, up_mem, mem_up, length_up}
use Rattle.tables.specs.Codes.{reveal_kind, renew_kind}
use Rattle.tables.specs.Entries.{Entries}
use Rattle.tables.specs.SheetOf.{node_entry_at, branch_entry_at, def_entry_at, listed_at, cell_at, branch_numbers, branch_count, part_numbers, part_count, part_of, secrets_of, pick_e, read_e, pick_c, read_c, levels, cond_at, action_of, branch_of, deposit_of, owner_of, def_of, sheet_of}
use Rattle.tables.proofs.SheetOf.{participants-are, defs-are, def_of_lem, deposits-are, owners-are, owner-count, nodes-are, branches-are, count_of, branches-small, parts-small}
use Rattle.reading.specs.Promises.{Promises}
use Rattle.reading.proofs.Formed.{well_formed_lem}
use Rattle.spelling.specs.Spelled.{appearing, all_appearing}
use Rattle.spelling.specs.Legible.{Short, ShortExpression, ShortCondition, ShortAction, ShortBranch, ShortDefinition, Nests, Legible}

-- ---- conditions: what is read from cells has their numbers

abbrev Few : List ℕ → Type 0
Few fs = (i : ℕ) → get_or fs i 0 ≤ 1000000000

few-drop : (n : ℕ) (fs : List ℕ) → Few fs → Few (drop n fs)
few-drop n fs h i = let e = get_or-drop n fs i 0 in let k = h (n + i) in omega (arith, e, k)

-- what is read, and what is left
abbrev Reads : {A : Type 0} → (A → Type 0) → (List ℕ → A × List ℕ) → Type 0
Reads P r = (fs : List ℕ) → Few fs → P (r fs).0 × Few (r fs).1

expression_picked : (r : List ℕ → Expr × List ℕ) → Reads ShortExpression r → (c : ℕ) → Reads ShortExpression (pick_e r c)
unfolding pick_e ShortExpression
expression_picked r h zero fs f = (let k = f 0 in omega (arith, k), few-drop 1 fs f)
expression_picked r h (suc zero) fs f = (let k = f 0 in omega (arith, k), few-drop 1 fs f)
expression_picked r h (suc (suc zero)) fs f = let a = h fs f in let b = h (r fs).1 a.1 in ((a.0, b.0), b.1)
expression_picked r h (suc (suc (suc n))) fs f = let a = h fs f in let b = h (r fs).1 a.1 in ((a.0, b.0), b.1)

expression_short : (d : ℕ) → Reads ShortExpression (read_e d)
unfolding read_e ShortExpression
expression_short zero fs f = (omega arith, f)
expression_short (suc d) fs f = expression_picked (read_e d) (expression_short d) (get_or fs 0 0) (drop 1 fs) (few-drop 1 fs f)

condition_picked : (r : List ℕ → Cond × List ℕ) (e : List ℕ → Expr × List ℕ) → Reads ShortCondition r → Reads ShortExpression e → (c : ℕ) → Reads ShortCondition (pick_c r e c)
unfolding pick_c ShortCondition
condition_picked r e h k zero fs f = (tt, f)
condition_picked r e h k (suc zero) fs f = let a = h fs f in let b = h (r fs).1 a.1 in ((a.0, b.0), b.1)
condition_picked r e h k (suc (suc zero)) fs f = h fs f
condition_picked r e h k (suc (suc (suc zero))) fs f = let a = k fs f in let b = k (e fs).1 a.1 in ((a.0, b.0), b.1)
condition_picked r e h k (suc (suc (suc (suc n)))) fs f = let a = k fs f in let b = k (e fs).1 a.1 in ((a.0, b.0), b.1)

condition-short : (d : ℕ) → Reads ShortCondition (read_c d)
unfolding read_c ShortCondition
condition-short zero fs f = (tt, f)
condition-short (suc d) fs f = condition_picked (read_c d) (read_e d) (condition-short d) (expression_short d) (get_or fs 0 0) (drop 1 fs) (few-drop 1 fs f)

-- ---- a node is of the definition in whose line it appears

appearing-home : (s : Sheet) → WellFormed s → (d n : ℕ) → All (λ m. (node_at s m).definition ≡ (node_at s n).definition) (appearing s d n)
unfolding appearing
appearing-home s wf zero n = nil
appearing-home s wf (suc d) n =
    cons refl
    (all-gather (λ b. gather (appearing s d) (parts b.action)) (all_by_at _ (branches_at s n) no_branch λ b h.
    all-gather (appearing s d) (all-mem _ (parts (branch_at s n b).action) λ m k.
    all_imp (λ i e. e ∙ wf.part_of n b m h k) (appearing-home s wf d m))))

-- ---- the sheet

module _ (K : ℕ) (E : Entries) (ok : Promises K E) where
  cells-few : Few E.cells
  cells-few i = by_cases (dec_lt i (length E.cells)) (λ h. ok.cell i h) (λ h. let l : length E.cells ≤ i = omega (arith, h) in let e = get_or-eq_default E.cells 0 l in omega (arith, e))

  secrets-short : (b : ℕ) (h : b < length E.branches) → (branch_entry_at E b).kind ≡ reveal_kind → All Short (secrets_of E b)
  secrets-short b h kind =
      let w = (ok.branch b h).reveal kind in
      let d = (node_entry_at E (branch_entry_at E b).node).definition in
      let few = (ok.def d (ok.node (branch_entry_at E b).node (ok.branch b h).node).definition).secrets in
      all_map (listed_at E) (all_imp (λ m l.
      let i : ℕ = m - (branch_entry_at E b).first in
      let e : (branch_entry_at E b).first + i ≡ m = omega (arith, l) in
      let k = w.secret i (omega (arith, l)) in
      let z = ap (λ j. listed_at E j) e in
      omega (arith, k, few, z)) (up_mem (branch_entry_at E b).first (branch_entry_at E b).count))

  condition-at : (c : ℕ) → ShortCondition (cond_at E c)
  unfolding cond_at
  condition-at c = (condition-short (levels E.cells) (drop c E.cells) (few-drop c E.cells cells-few)).0

  action-short : (b k : ℕ) → b < length E.branches → (branch_entry_at E b).kind ≡ k → ShortAction (action_of E b k)
  unfolding action_of ShortAction part_count
  action-short b zero h e = let w = ((ok.branch b h).withdraw e).payee in let k = ok.limits.people.1 in omega (arith, w, k)
  action-short b (suc zero) h e =
      let w = (ok.branch b h).split e in
      let l = length-map (part_numbers E b) (part_of E) in
      (let f = w.few in omega (arith, l, f), all_map (part_of E) (all_imp (λ n m. let v = (ok.node n m).weight in omega (arith, v)) (parts-small E b)))
  action-short b (suc (suc zero)) h e =
      let w = (ok.branch b h).reveal e in
      let l = length-map (up_from (branch_entry_at E b).first (branch_entry_at E b).count) (listed_at E) ∙ length_up (branch_entry_at E b).first (branch_entry_at E b).count in
      (let f = w.few in omega (arith, l, f), secrets-short b h e, condition-at (branch_entry_at E b).cond)
  action-short b (suc (suc (suc k))) h e =
      let z : (branch_entry_at E b).kind ≡ renew_kind = let y = (ok.branch b h).kind in omega (arith, e, y) in
      let w = ((ok.branch b h).renew z).definition in
      let f = ok.limits.defs.1 in
      omega (arith, w, f)

  branch-short : (b : ℕ) → b < length E.branches → ShortBranch (branch_of E b)
  unfolding branch_of
  branch-short b h =
      let p = ok.branch b h in
      let k = ok.limits.people.1 in
      let top : 2 ^ K ≤ 2 ^ 16 = pow_mono {i = K} {j = 16} k in
      record {
        signers = let w = p.signers in omega (arith, w, top);
        opens = let w = p.opens in omega (arith, w);
        action = action-short b (branch_entry_at E b).kind h refl;
      }

  definition-short : (d : ℕ) → d < length E.defs → ShortDefinition K (def_at (sheet_of K E) d)
  definition-short d h =
      let p = ok.def d h in
      let k = ok.limits.people.1 in
      record {
        as_many = ap (λ xs. length xs) (deposits-are K E d h) ∙ length-map (below K) (deposit_of E d) ∙ length_up 0 K;
        deposits = subst (All Short) (sym (deposits-are K E d h))
            (all_map (deposit_of E d) (all-mem _ (below K) λ m i. let w = mem-le-sum (deposit_of E d) (below K) i in let l = p.deposits in omega (arith, w, l)));
        count = let w = owner-count K E d h in let l = p.secrets in omega (arith, w, l);
        owners = subst (All Short) (sym (owners-are K E d h))
            (all_map (owner_of K E d) (all_imp (λ j i. let w = p.owner j (omega (arith, i)) in omega (arith, w, k)) (up_mem 0 (def_entry_at E d).secrets)));
      }

  node-short : (n : ℕ) → n < length E.nodes → Short (length (branches_at (sheet_of K E) n)) × All ShortBranch (branches_at (sheet_of K E) n)
  node-short n h = (
    let w = count_of K E n h in let f = (ok.node n h).few in omega (arith, w, f),
    subst (All ShortBranch) (sym (branches-are K E n h)) (all_map (branch_of E) (all_imp (λ b l. branch-short b l) (branches-small E n))),
  )

  -- in order and within their depth, as reading has them
  pub read-legible : all_appearing (sheet_of K E) ≡ below (length E.nodes) → All (λ i. Nests (sheet_of K E) 32 (def_of K E i).root) (below (length E.defs))
      → Legible (sheet_of K E)
  read-legible order deep =
      let wf = well_formed_lem K E ok in
      let k = ok.limits.people.1 in
      let in-defs : (d : ℕ) → d < length (sheet_of K E).defs → d < length E.defs = λ d h. let e = defs-are K E in omega (arith, h, e) in
      record {
        participants = subst Short (sym (participants-are K E)) (omega (arith, k));
        count = let e = defs-are K E in let f = ok.limits.defs.1 in omega (arith, e, f);
        definition = λ d h. subst (λ i. ShortDefinition i (def_at (sheet_of K E) d)) (sym (participants-are K E)) (definition-short d (in-defs d h));
        branches = λ n h. let e = nodes-are K E in node-short n (omega (arith, h, e));
        depth = λ d h. subst (λ x. Nests (sheet_of K E) 32 x.root) (sym (def_of_lem K E d (in-defs d h)))
            (all_of deep (mem_up 0 (length E.defs) d (omega arith) (let l = in-defs d h in omega (arith, l))));
        order = order ∙ ap below (sym (nodes-are K E));
        home = λ d n h m. all_of (appearing-home (sheet_of K E) wf 32 (def_at (sheet_of K E) d).root) m ∙ wf.root_of d h;
      }
