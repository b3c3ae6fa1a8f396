-- The lines that say why, one behind the other. Assumes nothing.
use mathlib.Core.Path.{◌≡◌, refl, sym, ap, ◌∙◌, subst}
use Rattle.std.specs.Prelude.{Option, None, Some, unwrap_or}
use Prim.Native.Nat.{ℕ, suc, ◌+◌, ◌-◌, ◌≤◌, ◌<◌}
use native.Mathlib.Omega.{arith}
use native.Mathlib.Numerals.{add-one}
use mathlib.Core.Bool.{true, cond}
use mathlib.Core.List.{List, [], ◌∷◌, ◌++◌, map}
use lib.ListN.{length, get_or, drop, replicate, drop_of_length-le}
use lib.Seq.{drop-cons}
use lib.Dec.{eqb}
use Rattle.bitml.specs.Sheet.{Sheet, no_branch, def_at, branches_at, branch_at}
use Rattle.bitml.specs.Rule.{Verdict, frozen, make, reached}
use Rattle.bitml.specs.Runs.{Exit}
use Rattle.bitml.specs.Why.{trail, steps_to, distance, bar, cause, causes}
use Rattle.bitml.specs.Answers.{liquid_line, frozen_line, step_line, branch_line, branch_lines, why_lines, explaining, answer}
use Rattle.bitml.proofs.Lists.{is_false}
use Rattle.bitml.proofs.Reach.{reached_complete, reached_in}
use Rattle.bitml.proofs.Why.{frozen-is}
use Rattle.bitml.proofs.Shortest.{reached-near, distance_is}
use Rattle.bitml.proofs.Causes.{cause-bar}
use Rattle.tables.specs.Entries.{held, people}
use Rattle.tables.specs.SheetOf.{def_entry_at, branch_count, branch_number, branch_of, sheet_in}
use Rattle.tables.proofs.SheetOf.{root_is, nodes-are, count_of, branch_of_lem}
use Rattle.buffer.specs.Buffer.{filled}
use Rattle.reading.proofs.Formed.{well_formed_lem}
use Rattle.sheets.specs.Ready.{Ready}
use Rattle.owning.specs.declared.Cause.{Cause}
use Rattle.owning.specs.declared.Cause.TheVariants.{Signer, Secret, Condition, Renewal, Contract}
use Rattle.owning.specs.Causes.{number, told}
use Rattle.exits.specs.Made.{answer_of, buffer_of}
use Rattle.exits.specs.declared.Verdict.TheVariants.{Liquid}
use Rattle.exits.proofs.Told.{root-first, told-liquid}
use Rattle.ways.specs.declared.Turn.{Turn}
use Rattle.ways.specs.Distances.{Distances, Turned}
use Rattle.texts.specs.Text.{line_text, lines_text}
use Rattle.texts.specs.Wrote.{Wrote}
use Rattle.texts.proofs.Writing.{wrote_then}
use Rattle.texts.proofs.Coming.{Coming, coming_all, coming_line, coming_none}
use Rattle.texts.proofs.Texts.{lines-append, one_line}
use Rattle.replies.specs.Answer.{Gives}
use Rattle.replies.proofs.Giving.{gives_printed}

-- ---- the lines `branch`

module _ (s : Sheet) (p n : ℕ) where
  -- from branch i on
  abbrev pub causes_from : ℕ → List ℕ
  causes_from i = lines_text (branch_lines i (map (cause s p n) (drop i (branches_at s n))))

  pub causes-start : (u : List ℕ) (a : ℕ) → Coming u a (lines_text (branch_lines 0 (causes s p n))) u a (causes_from 0)
  unfolding causes
  causes-start u a = coming_all u a _

  module _ {u₀ xs u : List ℕ} {a b : ℕ} where
    pub causes-next : {v : List ℕ} {c k : ℕ} (i : ℕ) → i < length (branches_at s n) → k ≡ cause s p n (branch_at s n i) → Coming u₀ a xs u b (causes_from i)
        → Wrote u b (line_text (branch_line i k)) v c → Coming u₀ a xs v c (causes_from (i + 1))
    unfolding branch_lines
    causes-next {v} {c} {k} i h e m w =
        let bs = branches_at s n in
        let q : causes_from i ≡ lines_text (branch_line i k ∷ branch_lines (suc i) (map (cause s p n) (drop (suc i) bs))) =
        ap (λ bs. lines_text (branch_lines i (map (cause s p n) bs))) (drop-cons bs i no_branch h)
        ∙ ap (λ k. lines_text (branch_line i k ∷ branch_lines (suc i) (map (cause s p n) (drop (suc i) bs)))) (sym e) in
        subst (λ j. Coming u₀ a xs v c (causes_from j)) (sym (add-one i)) (coming_line _ _ (subst (λ ys. Coming u₀ a xs u b ys) q m) w)

    pub causes-end : (i : ℕ) → length (branches_at s n) ≤ i → Coming u₀ a xs u b (causes_from i) → Wrote u₀ a xs u b
    unfolding branch_lines
    causes-end i h m =
        coming_none (subst (λ ys. Coming u₀ a xs u b ys) (ap (λ bs. lines_text (branch_lines i (map (cause s p n) bs))) (drop_of_length-le (branches_at s n) h)) m)

-- ---- the lines `step`

module _ (s : Sheet) (g : ℕ) (D : List ℕ) where
  -- from node n on
  abbrev pub way_from : ℕ → List ℕ
  way_from n = lines_text (map step_line (trail s g (get_or D n 0 - 1) (n ∷ [])))

  module _ (far : Distances s g D) (e : reached s g ≡ true) (h : (def_at s 0).root < length s.nodes) where
    root_far : (0 < get_or D (def_at s 0).root 0) × (get_or D (def_at s 0).root 0 ≤ suc (length s.nodes))
    root_far = (far.exact (length s.nodes) (def_at s 0).root h).0 (reached-near s g e)

    root-distance : distance s g ≡ get_or D (def_at s 0).root 0 - 1
    root-distance =
        let k = get_or D (def_at s 0).root 0 - 1 in
        let some = root_far.0 in
        distance_is s g e k ((far.exact k (def_at s 0).root h).1 (some, omega arith))
        (λ j l. is_false _ (λ t. omega (arith, (far.exact j (def_at s 0).root h).0 t)))

    pub way-start : (n : ℕ) → n ≡ (def_at s 0).root → (0 < get_or D n 0) × (get_or D n 0 ≤ suc (length s.nodes))
    way-start n q = subst (λ m. (0 < get_or D m 0) × (get_or D m 0 ≤ suc (length s.nodes))) (sym q) root_far

    pub way_whole : (u : List ℕ) (a n : ℕ) → n ≡ (def_at s 0).root → Coming u a (lines_text (map step_line (steps_to s g))) u a (way_from n)
    unfolding steps_to
    way_whole u a n q =
        subst (λ ys. Coming u a (lines_text (map step_line (steps_to s g))) u a ys)
        (ap (λ k. lines_text (map step_line (trail s g k ((def_at s 0).root ∷ [])))) root-distance ∙ ap way_from (sym q)) (coming_all u a _)

  module _ {u₀ xs u : List ℕ} {a b : ℕ} where
    pub way_next : {v : List ℕ} {c : ℕ} (n : ℕ) (r : Turn) → 1 < get_or D n 0 → Turned s g D n r → Coming u₀ a xs u b (way_from n)
        → Wrote u b (line_text (step_line (record { node = n; branch = r.branch }))) v c → Coming u₀ a xs v c (way_from r.node)
    way_next {v} {c} n r l t m w =
        let k = get_or D n 0 - 2 in
        let here : get_or D n 0 - 1 ≡ suc k = omega arith in
        let there : k ≡ get_or D r.node 0 - 1 = omega (arith, t.nearer) in
        let q : way_from n ≡ lines_text (step_line (record { node = n; branch = r.branch }) ∷ map step_line (trail s g k (r.node ∷ []))) =
        ap (λ j. lines_text (map step_line (trail s g j (n ∷ [])))) here ∙ ap (λ ms. lines_text (map step_line ms)) (t.way k (omega arith)) in
        subst (λ j. Coming u₀ a xs v c (lines_text (map step_line (trail s g j (r.node ∷ []))))) there (coming_line _ _ (subst (λ ys. Coming u₀ a xs u b ys) q m) w)

    pub way_end : (n : ℕ) → get_or D n 0 ≤ 1 → Coming u₀ a xs u b (way_from n) → Wrote u₀ a xs u b
    unfolding trail
    way_end n h m =
        let z : get_or D n 0 - 1 ≡ 0 = omega arith in
        coming_none (subst (λ j. Coming u₀ a xs u b (lines_text (map step_line (trail s g j (n ∷ []))))) z m)

-- ---- by a sheet's table

-- the node at which every run starts
pub start_is : (t : List ℕ) → Ready t → (n : ℕ) → n ≡ (def_entry_at (held t) 0).root → (n < length (held t).nodes) × (n ≡ (def_at (sheet_in t) 0).root) × ((def_at (sheet_in t) 0).root < length (sheet_in t).nodes)
start_is t ok n e =
    let d = ok.promises.limits.defs.0 in
    let q = root_is (people t) (held t) 0 d in
    let h = (ok.promises.def 0 d).root in
    (omega (arith, h, e), e ∙ sym q, omega (arith, h, q, nodes-are (people t) (held t)))

-- the node that `make` names
pub frozen-at : (t : List ℕ) → Ready t → (p n : ℕ) → make (sheet_in t) p ≡ frozen n
    → (n < length (held t).nodes) × (reached (sheet_in t) n ≡ true) × (Exit (sheet_in t) p n → ⊥)
frozen-at t ok p n e =
    let wf = well_formed_lem (people t) (held t) ok.promises in
    let f = frozen-is (sheet_in t) p wf n e in
    let r = reached_complete (sheet_in t) wf n f.reach in
    (omega (arith, reached_in (sheet_in t) n r, nodes-are (people t) (held t)), r, f.no_exit)

-- an own branch lacks an exit by a contract in it
cause-told : (k : Option Cause) → number (unwrap_or k Contract) ≡ cond (eqb (told k) 0) 5 (told k)
cause-told None = refl
cause-told (Some Signer) = refl
cause-told (Some Secret) = refl
cause-told (Some Condition) = refl
cause-told (Some Renewal) = refl
cause-told (Some Contract) = refl

-- branch b is number i of node n, and k bars it
pub cause_is : (t : List ℕ) → Ready t → (p n i b : ℕ) (k : Option Cause) → n < length (held t).nodes → i < branch_count (held t) n → (Exit (sheet_in t) p n → ⊥)
    → b ≡ branch_number (held t) n i → told k ≡ bar (sheet_in t) p n (branch_of (held t) b) → number (unwrap_or k Contract) ≡ cause (sheet_in t) p n (branch_at (sheet_in t) n i)
cause_is t ok p n i b k hn hi no_exit e q =
    let K = people t in let E = held t in let s = sheet_in t in
    cause-told k ∙ ap (λ j. cond (eqb j 0) 5 j) (q ∙ ap (λ b. bar s p n (branch_of E b)) e ∙ sym (ap (bar s p n) (branch_of_lem K E n i hn hi)))
    ∙ sym (cause-bar s (well_formed_lem K E ok.promises) p n i (omega (arith, count_of K E n hn)) no_exit)

-- ---- the answer

pub wrote_reason : (s : Sheet) (p n : ℕ) {z b b' b'' : List ℕ} {a e f k : ℕ} → Wrote z a (line_text (frozen_line p n)) b e → Wrote b e (lines_text (map step_line (steps_to s n))) b' f
    → Wrote b' f (lines_text (branch_lines 0 (causes s p n))) b'' k → Wrote z a (lines_text (why_lines s p (frozen n))) b'' k
unfolding why_lines lines_text
wrote_reason s p n {z = z} {b'' = b''} {a = a} {k = k} w x y =
    subst (λ xs. Wrote z a (line_text (frozen_line p n) ++ xs) b'' k) (sym (lines-append (map step_line (steps_to s n)) (branch_lines 0 (causes s p n)))) (wrote_then w (wrote_then x y))

pub wrote-liquid : (t : List ℕ) → Ready t → (p : ℕ) (v : Verdict) {z b : List ℕ} {a k count rank : ℕ} → Liquid count rank ≡ answer_of v → Wrote z a (line_text (liquid_line p count rank)) b k
    → Wrote z a (lines_text (why_lines (sheet_in t) p v)) b k
unfolding why_lines
wrote-liquid t ok p v {z} {b} {a} {k} {count} {rank} l w =
    let u = told-liquid (sheet_in t) p (root-first t ok) v count rank l in
    subst (λ v. Wrote z a (lines_text (why_lines (sheet_in t) p v)) b k) (sym u.1) (subst (λ xs. Wrote z a xs b k) (ap line_text u.3 ∙ sym (one_line _)) w)

module _ (s : Sheet) (p n m : ℕ) (u z b : List ℕ) (k : ℕ) (clear : z ≡ replicate m 0) where
  pub why_gives : u ≡ filled n [] → Wrote z 0 (lines_text (why_lines s p (make s p))) b k
      → Gives (answer (explaining s p)) n m (record { number = 0; line = 0; field = 0; length = k }) u b
  unfolding answer
  why_gives none w = gives_printed (why_lines s p (make s p)) [] n m k u z b clear w none

  -- the row buffer of a frozen sheet is zero as it is
  pub frozen_gives : (x : ℕ) → make s p ≡ frozen x → u ≡ buffer_of n (make s p) → Wrote z 0 (lines_text (why_lines s p (frozen x))) b k
      → Gives (answer (explaining s p)) n m (record { number = 0; line = 0; field = 0; length = k }) u b
  unfolding buffer_of
  frozen_gives x e f w = why_gives (f ∙ ap (buffer_of n) e) (subst (λ v. Wrote z 0 (lines_text (why_lines s p v)) b k) (sym e) w)
