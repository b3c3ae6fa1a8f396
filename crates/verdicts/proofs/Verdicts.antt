-- The text and the rows of a verdict are those of the definition. Assumes nothing.
use mathlib.Core.Path.{◌≡◌, refl, sym, ap, ap₂, ◌∙◌, subst}
use Prim.Native.Nat.{ℕ, ◌+◌, ◌*◌, ◌≤◌, ◌<◌}
use native.Mathlib.Omega.{arith}
use mathlib.Core.Bool.{Bool, true, false, cond}
use mathlib.Core.List.{List, [], ◌∷◌, ◌++◌, map}
use lib.ListN.{length, replicate, length-map, length-append}
use lib.Dec.{eqb, ltb}
use borrow.Author.Tests.{eqb-false, lt-ltb}
use Rattle.bitml.specs.Lists.{keep, below, All, nil}
use Rattle.bitml.specs.Sheet.{Sheet, def_at, no_node, branches_at}
use Rattle.bitml.specs.Rows.{Row, Fault, rank_of, FaultAt, twice, fall, rootless, row, check}
use Rattle.bitml.specs.Rule.{Verdict, liquid, frozen, verdict, stuck, rows, row_for, rank_at, reached, make}
use Rattle.bitml.specs.Demands.{Best}
use Rattle.bitml.proofs.Demands.{demands}
use Rattle.bitml.proofs.Lists.{length_up, all_map, all-mem, all_imp, all_both, in_range}
use Rattle.bitml.specs.Answers.{row_line, liquid_line, frozen_line, refused, printed, liquid_by, making, made_lines, made_rows, made_by, checked_by, answer, places_of_one}
use Rattle.tables.specs.Entries.{Entries, held, people}
use Rattle.tables.specs.SheetOf.{node_entry_at, branch_count, sheet_of, sheet_in}
use Rattle.tables.proofs.SheetOf.{keep-le, nodes-are, count_of}
use Rattle.buffer.specs.Buffer.{rows_of, filled, numbers_of_one, row_wide}
use Rattle.reading.specs.Promises.{Promises}
use Rattle.reading.proofs.Formed.{well_formed_lem, ranks_small}
use Rattle.requests.specs.Rows.{RowFits}
use Rattle.sheets.specs.Ready.{Ready}
use Rattle.exits.specs.Made.{answer_of, buffer_of}
use Rattle.exits.specs.declared.Verdict.TheVariants.{Liquid, Frozen}
use Rattle.exits.proofs.Told.{line-is, told-liquid, told-frozen}
use Rattle.rows.specs.Given.{answer_of as answerOfRows, buffer_of as bufferOfRows}
use Rattle.rows.specs.Given as checked
use Rattle.buffer.proofs.Buffer.{rows-filled}
use Rattle.texts.specs.Text.{line_text, lines_text}
use Rattle.texts.specs.Wrote.{Wrote}
use Rattle.texts.proofs.Writing.{wrote_then}
use Rattle.texts.proofs.Texts.{lines-append, one_line}
use Rattle.texts.proofs.Lengths.{Short, rows_short}
use Rattle.replies.specs.declared.Reply.{Reply}
use Rattle.replies.specs.Answer.{Gives}
use Rattle.replies.proofs.Giving.{gives_printed, gives_refused}

abbrev told : ℕ → Reply
told k = record { number = 0; line = 0; field = 0; length = k }

-- the row buffer of a verdict
pub buffer_is : (n : ℕ) (v : Verdict) → buffer_of n v ≡ filled n (made_rows v)
unfolding buffer_of made_rows
buffer_is n (liquid R) = refl
buffer_is n (frozen x) = refl

module _ (s : Sheet) (p : ℕ) (first : (def_at s 0).root ≡ 0) where
  -- the last line of a liquid sheet
  liquid-line : (R : List Row) (k : ℕ) (z b : List ℕ) → Wrote z 0 (line_text (liquid_line p (length R) (rank_of R 0))) b k
      → Wrote z 0 (lines_text (liquid_by s p R ∷ [])) b k
  unfolding lines_text
  liquid-line R k z b w = subst (λ xs. Wrote z 0 xs b k) (ap line_text (line-is s p first R) ∙ sym (one_line (liquid_by s p R))) w

  made-lines : (R : List Row) → lines_text (map row_line R) ++ lines_text (liquid_by s p R ∷ []) ≡ lines_text (map row_line R ++ (liquid_by s p R ∷ []))
  made-lines R = sym (lines-append (map row_line R) (liquid_by s p R ∷ []))

  -- ---- the lines of the verdict that was found, from position a on

  pub made-liquid : (v : Verdict) (n : ℕ) (u z b b' : List ℕ) (a e k count rank : ℕ) → row_wide * count ≤ n → Liquid count rank ≡ answer_of v → u ≡ buffer_of n v
      → Wrote z a (lines_text (map row_line (rows_of count u))) b e → Wrote b e (line_text (liquid_line p count rank)) b' k
      → Wrote z a (lines_text (made_lines s p v)) b' k
  unfolding buffer_of made_lines
  made-liquid v n u z b b' a e k count rank h l f w x =
      let t = told-liquid s p first v count rank l in
      let R = t.0 in
      let g : rows_of count u ≡ R = ap₂ rows_of t.2 (f ∙ ap (buffer_of n) t.1) ∙ rows-filled n R (omega (arith, t.2)) in
      let y : line_text (liquid_line p count rank) ≡ lines_text (liquid_by s p R ∷ []) = ap line_text t.3 ∙ sym (one_line (liquid_by s p R)) in
      subst (λ v. Wrote z a (lines_text (made_lines s p v)) b' k) (sym t.1)
      (subst (λ xs. Wrote z a xs b' k) (ap₂ (λ Q xs. lines_text (map row_line Q) ++ xs) g y ∙ made-lines R) (wrote_then w x))

  pub made-frozen : (v : Verdict) (z b : List ℕ) (a k node : ℕ) → Frozen node ≡ answer_of v → Wrote z a (line_text (frozen_line p node)) b k
      → Wrote z a (lines_text (made_lines s p v)) b k
  unfolding made_lines
  made-frozen v z b a k node l w =
      subst (λ v. Wrote z a (lines_text (made_lines s p v)) b k) (sym (told-frozen v node l)) (subst (λ xs. Wrote z a xs b k) (sym (one_line (frozen_line p node))) w)

  module _ (n m : ℕ) (u z : List ℕ) (clear : z ≡ replicate m 0) where
    pub make_gives : (b : List ℕ) (k : ℕ) → u ≡ buffer_of n (make s p) → Wrote z 0 (lines_text (made_lines s p (make s p))) b k
        → Gives (answer (making s p)) n m (told k) u b
    unfolding answer made_by
    make_gives b k f w = gives_printed (made_lines s p (make s p)) (made_rows (make s p)) n m k u z b clear w (f ∙ buffer_is n (make s p))

    pub check-liquid : (R : List Row) (f : Fault) (b : List ℕ) (k count rank : ℕ) → checked.Liquid count rank ≡ answerOfRows R f → u ≡ bufferOfRows n R f
        → Wrote z 0 (line_text (liquid_line p count rank)) b k → Gives (checked_by s p R f) n m (told k) u b
    unfolding checked_by answerOfRows bufferOfRows
    check-liquid R f b k count rank l g w = go (eqb f.number 0) l g
      where
        go : (x : Bool) → checked.Liquid count rank ≡ cond x (checked.Liquid (length R) (rank_of R 0)) (checked.Refused f.number f.place)
            → u ≡ cond x (filled n R) (filled n [])
            → Gives (cond x (printed (liquid_by s p R ∷ []) R) (refused f.number (length s.defs + 2 + f.place) 0)) n m (told k) u b
        go true l g =
            let c : count ≡ length R = cc in
            let r : rank ≡ rank_of R 0 = cc in
            gives_printed (liquid_by s p R ∷ []) R n m k u z b clear
            (liquid-line R k z b (subst (λ xs. Wrote z 0 xs b k) (ap₂ (λ i j. line_text (liquid_line p i j)) c r) w)) g
        go false l g = let q : ◌≡◌ {A = ℕ} 0 1 = cc in absurd (omega arith)

    -- a refusal is told at the line of its row
    pub check-refused : (R : List Row) (f : Fault) (number place defs : ℕ) → checked.Refused number place ≡ answerOfRows R f → u ≡ bufferOfRows n R f → defs ≡ length s.defs
        → Gives (checked_by s p R f) n m (record { number = number; line = defs + 2 + place; field = 0; length = 0 }) u z
    unfolding checked_by answerOfRows bufferOfRows
    check-refused R f number place defs l g d = go (eqb f.number 0) l g
      where
        go : (x : Bool) → checked.Refused number place ≡ cond x (checked.Liquid (length R) (rank_of R 0)) (checked.Refused f.number f.place)
            → u ≡ cond x (filled n R) (filled n [])
            → Gives (cond x (printed (liquid_by s p R ∷ []) R) (refused f.number (length s.defs + 2 + f.place) 0)) n m (record { number = number; line = defs + 2 + place; field = 0; length = 0 }) u z
        go true l g = let q : ◌≡◌ {A = ℕ} 0 1 = cc in absurd (omega arith)
        go false l g =
            let c : number ≡ f.number = cc in
            let e : place ≡ f.place = cc in
            rw (← c, ← e, ← d) (gives_refused n m number (defs + 2 + place) 0 u z clear g)

-- ---- how much a verdict takes

-- there are no more rows than nodes
rows_few : (s : Sheet) (p : ℕ) → length (rows s p) ≤ length s.nodes
unfolding rows
rows_few s p =
    let ns = keep (reached s) (below (length s.nodes)) in
    omega (arith, length-map ns (row_for s p), keep-le (reached s) (below (length s.nodes)), length_up 0 (length s.nodes))

-- what holds of no rows and of the published ones holds of those that are made
made-rows : (Q : List Row → Type 0) (s : Sheet) (p : ℕ) → Q [] → (make s p ≡ liquid (rows s p) → Q (rows s p)) → Q (made_rows (make s p))
unfolding make made_rows
made-rows Q s p none some = go (stuck s p) refl
  where
    go : (ns : List ℕ) → stuck s p ≡ ns → Q (made_rows (verdict ns (rows s p)))
    go [] e = some (ap (λ ns. verdict ns (rows s p)) e)
    go (x ∷ ns) e = none

pub made-few : (K : ℕ) (E : Entries) → Promises K E → (p : ℕ) → length (made_rows (make (sheet_of K E) p)) ≤ places_of_one
made-few K E ok p =
    made-rows (λ R. length R ≤ places_of_one) (sheet_of K E) p (omega arith) λ e. omega (arith, rows_few (sheet_of K E) p, nodes-are K E, ok.limits.nodes)

pub made-count : (t : List ℕ) → Ready t → (p count rank : ℕ) → Liquid count rank ≡ answer_of (make (sheet_in t) p) → count ≤ places_of_one
unfolding answer_of made_rows
made-count t ok p count rank l = omega (arith, counted (make (sheet_in t) p) l, made-few (people t) (held t) ok.promises p)
  where
    counted : (v : Verdict) → Liquid count rank ≡ answer_of v → count ≡ length (made_rows v)
    counted (liquid R) l = cc
    counted (frozen x) l = let q : ◌≡◌ {A = ℕ} 0 1 = cc in absurd (omega arith)

-- a published row is one that can be read, and has numbers of three digits at the most
module _ (K : ℕ) (E : Entries) (ok : Promises K E) (p : ℕ) where
  abbrev Printed : Row → Type 0
  Printed r = RowFits (λ n. (node_entry_at E n).count) (length E.nodes) r × Short r

  best_printed : (R : List Row) (r : Row) → Best (sheet_of K E) p (rank_of R) r → r.rank ≡ rank_at (sheet_of K E) p r.node → Printed r
  best_printed R r b e =
      let S = sheet_of K E in
      let there = b.serves.there in
      let some : 0 < length (branches_at S r.node) = omega arith in
      let inside : r.node < length S.nodes = in_range (λ nd. ltb 0 (length nd.branches)) S.nodes r.node no_node refl (lt-ltb 0 _ some) in
      let n : r.node < length E.nodes = omega (arith, nodes-are K E) in
      let node = ok.node r.node n in
      let few = ok.limits.nodes in
      let rank : r.rank ≤ length E.nodes = omega (arith, e, ranks_small K E ok p r.node) in
      let branch : r.branch < branch_count E r.node = omega (arith, there, count_of K E r.node n) in (
        record { has-node = n; has-branch = omega (arith, node.count); has-rank = omega (arith, b.rank); rank_most = omega arith },
        (omega arith, omega (arith, node.few), omega arith),
      )

  rows_ranked : All (λ r. r.rank ≡ rank_at (sheet_of K E) p r.node) (rows (sheet_of K E) p)
  unfolding rows row_for
  rows_ranked =
      let S = sheet_of K E in
      let ns = keep (reached S) (below (length S.nodes)) in
      all_map (row_for S p) (all-mem (λ n. (row_for S p n).rank ≡ rank_at S p (row_for S p n).node) ns λ n h. refl)

  pub made-printed : All Printed (made_rows (make (sheet_of K E) p))
  made-printed =
      let S = sheet_of K E in
      made-rows (All Printed) S p nil λ e.
      all_both (best_printed (rows S p)) ((demands.make-is-published S (well_formed_lem K E ok) p (rows S p)).0 e).ruled.each rows_ranked

module _ (t : List ℕ) (ok : Ready t) (p : ℕ) where
  abbrev S : Sheet
  S = sheet_in t

  pub made-short : All Short (made_rows (make S p))
  made-short = all_imp (λ r h. h.1) (made-printed (people t) (held t) ok.promises p)

  -- the rows that stand in the buffer, as they are printed
  pub rows-room : (n : ℕ) (u : List ℕ) (count rank : ℕ) → numbers_of_one ≤ n → Liquid count rank ≡ answer_of (make S p) → u ≡ buffer_of n (make S p)
      → length (lines_text (map row_line (rows_of count u))) ≤ 16 * places_of_one
  unfolding answer_of buffer_of made_rows
  rows-room n u count rank h l f = go (make S p) l f (made-short) (made-few (people t) (held t) ok.promises p)
    where
      go : (v : Verdict) → Liquid count rank ≡ answer_of v → u ≡ buffer_of n v → All Short (made_rows v) → length (made_rows v) ≤ places_of_one
          → length (lines_text (map row_line (rows_of count u))) ≤ 16 * places_of_one
      go (liquid R) l f a few =
          let c : count ≡ length R = cc in
          let g : rows_of count u ≡ R = ap₂ rows_of c f ∙ rows-filled n R (omega arith) in
          rw g (omega (arith, rows_short a))
      go (frozen x) l f a few = let q : ◌≡◌ {A = ℕ} 0 1 = cc in absurd (omega arith)

-- ---- where a fault is

fault-place : {s : Sheet} {p : ℕ} {R : List Row} {n i : ℕ} → FaultAt s p R n i → i ≤ length R
fault-place (twice before after r e d h) = omega (arith, ap (λ R. length R) e, length-append before (r ∷ after))
fault-place (fall before after q r d e u h) = omega (arith, ap (λ R. length R) e, length-append before (q ∷ r ∷ after))
fault-place (rootless d u e) = omega arith
fault-place (row before after r n d u e q a w) = omega (arith, ap (λ R. length R) q, length-append before (r ∷ after))

refused_by : (R : List Row) (f : Fault) (number place : ℕ) → checked.Refused number place ≡ answerOfRows R f → (0 < f.number) × (place ≡ f.place)
unfolding answerOfRows
refused_by R f number place l = go (eqb f.number 0) refl l
  where
    go : (x : Bool) → eqb f.number 0 ≡ x → checked.Refused number place ≡ cond x (checked.Liquid (length R) (rank_of R 0)) (checked.Refused f.number f.place)
        → (0 < f.number) × (place ≡ f.place)
    go true e l = let q : ◌≡◌ {A = ℕ} 0 1 = cc in absurd (omega arith)
    go false e l = (some (eqb-false _ _ e), cc)
      where
        some : (f.number ≡ 0 → ⊥) → 0 < f.number
        some ne = omega (arith, ne)

pub place-few : (s : Sheet) (p : ℕ) (R : List Row) (number place : ℕ) → checked.Refused number place ≡ answerOfRows R (check s p R) → place ≤ length R
place-few s p R number place l =
    let f = check s p R in
    let w = refused_by R f number place l in
    omega (arith, w.1, fault-place ((demands.check-is-fault s p R f.number f.place).0 (w.0, refl)))
