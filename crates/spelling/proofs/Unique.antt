-- A sheet that its text tells is told by it: no other has that text. Assumes nothing.
use Prim.Native.Nat.{ℕ, zero, suc, ◌<◌}
use mathlib.Core.Path.{◌≡◌, refl, sym, ap, ap₂, ◌∙◌, subst}
use mathlib.Core.Logic.{◌⊎◌, inl, inr, by_cases}
use mathlib.Core.List.{List, [], ◌∷◌, ◌++◌, append-nil, Memᴰ, head-eq_of_cons-eq, tail-eq_of_cons-eq}
use native.Mathlib.Omega.{arith}
use native.Mathlib.Decide.{dec_le}
use lib.ListN.{length, get_or, get_or-eq_default}
use lib.Seq.{ext_get_or}
use Rattle.bitml.specs.Lists.{gather, All, nil, cons}
use Rattle.bitml.specs.Sheet.{Sheet, def_at, no_node, node_at, branches_at, parts}
use Rattle.bitml.proofs.Lists.{gather_cong, mem_up, all_by_at}
use Rattle.texts.specs.Text.{letters, line}
use Rattle.spelling.specs.Spelled.{spell_definition, spell_sheet, appearing, all_appearing}
use Rattle.spelling.specs.Legible.{ShortDefinition, Nests, Legible}
use Rattle.spelling.proofs.Pieces.{Anything, Counts, counts_end, counts_up, Meets, Piece, piece_map, piece_then, piece_line, piece_fields, piece_gather}
use Rattle.spelling.proofs.Parsing.{ap₃, piece_definition}

module _ {A : Type 0} where
  -- what is gathered was gathered for one of them
  mem-gather : {B : Type 0} (f : A → List B) (xs : List A) (z : A) {y : B} → Memᴰ y (gather f xs)
      → (i : ℕ) × (i < length xs) × Memᴰ y (f (get_or xs i z))
  mem-gather f [] z m = absurd (mathlib.Core.List.Memᴰ.not-nil m)
  mem-gather f (x ∷ xs) z {y} m = go (mathlib.Core.List.Memᴰ.append_cases (f x) m) (mem-gather f xs z)
    where
      go : Memᴰ y (f x) ⊎ Memᴰ y (gather f xs) → (Memᴰ y (gather f xs) → (i : ℕ) × (i < length xs) × Memᴰ y (f (get_or xs i z)))
          → (i : ℕ) × (i < suc (length xs)) × Memᴰ y (f (get_or (x ∷ xs) i z))
      go (inl h) g = (0, omega arith, h)
      go (inr h) g = let w = g h in (suc w.0, omega (arith, w.1), w.2)

in_order : (s : Sheet) → Legible s → Counts (length s.nodes) 0 (all_appearing s ++ [])
in_order s l =
    let n = length s.nodes in
    subst (Counts n 0) (sym (append-nil (all_appearing s) ∙ l.order)) (counts_up n 0 n (omega arith))

module _ (S T : Sheet) (l : Legible S) (l' : Legible T) where
  -- what line 1 and the definitions' lines say
  piece_sheet : Piece S T Anything (spell_sheet S) (spell_sheet T) (all_appearing S) (all_appearing T) ((S.participants ≡ T.participants) × (S.defs ≡ T.defs))
  unfolding spell_sheet all_appearing line
  piece_sheet =
      piece_map (λ x. (head-eq_of_cons-eq x.0, x.1))
      (piece_then (λ r h. tt) (λ r h. tt)
      (piece_line (letters "bitml") (piece_fields (S.participants ∷ length S.defs ∷ []) (T.participants ∷ length T.defs ∷ []) refl
      (cons l.participants (cons l.count nil)) (cons l'.participants (cons l'.count nil))))
      λ x. piece_gather (spell_definition S) (spell_definition T) (λ d. appearing S 32 d.root) (λ d. appearing T 32 d.root) (λ d r h. tt) (λ d r h. tt)
      (piece_definition S T l l' S.participants) S.defs T.defs (head-eq_of_cons-eq (tail-eq_of_cons-eq x))
      (all_by_at (λ D. ShortDefinition S.participants D × Nests S 32 D.root) S.defs _ λ d h. (l.definition d h, l.depth d h))
      (all_by_at (λ D. ShortDefinition S.participants D × Nests T 32 D.root) T.defs _
      λ d h. (subst (λ K. ShortDefinition K (def_at T d)) (sym (head-eq_of_cons-eq x)) (l'.definition d h), l'.depth d h)))

  module _ (e : spell_sheet S ≡ spell_sheet T) where
    told : Meets S T 0 [] [] [] [] ((S.participants ≡ T.participants) × (S.defs ≡ T.defs))
    told = piece_sheet.meet 0 [] [] [] [] tt tt (append-nil (spell_sheet S) ∙ e ∙ sym (append-nil (spell_sheet T))) (in_order S l) (in_order T l')

    same_count : length S.nodes ≡ length T.nodes
    same_count = sym (counts_end told.left) ∙ counts_end told.right

    -- a number out of range finds none in either
    same-branches : (n : ℕ) → branches_at S n ≡ branches_at T n
    same-branches n = by_cases (dec_le (length S.nodes) n)
        (λ h. ap (λ v. v.branches) (get_or-eq_default S.nodes no_node h ∙ sym (get_or-eq_default T.nodes no_node (omega (arith, same_count)))))
        (λ h. told.same n (omega arith) (omega (arith, counts_end told.left)))

    same-appearing : (d n : ℕ) → appearing S d n ≡ appearing T d n
    unfolding appearing
    same-appearing zero n = refl
    same-appearing (suc d) n =
        ap (λ ns. n ∷ ns) (ap (gather (λ b. gather (appearing S d) (parts b.action))) (same-branches n)
        ∙ gather_cong _ _ (branches_at T n) λ b h. gather_cong (appearing S d) (appearing T d) (parts b.action) λ m h'. same-appearing d m)

    -- every node appears in the line of a definition, in both sheets of the same
    same-definition : (n : ℕ) → n < length S.nodes → (node_at S n).definition ≡ (node_at T n).definition
    unfolding all_appearing
    same-definition n h =
        let m : Memᴰ n (all_appearing S) = subst (Memᴰ n) (sym l.order) (mem_up 0 (length S.nodes) n (omega arith) (omega arith)) in
        let w = mem-gather (λ D. appearing S 32 D.root) S.defs _ m in
        let q : appearing S 32 (def_at S w.0).root ≡ appearing T 32 (def_at T w.0).root
        = ap (λ ds. appearing S 32 (def_at (record { participants = 0; defs = ds; nodes = [] }) w.0).root) told.said.1
        ∙ same-appearing 32 (def_at T w.0).root in
        l.home w.0 n w.1 w.2 ∙ sym (l'.home w.0 n (omega (arith, w.1, ap length told.said.1)) (subst (Memᴰ n) q w.2))

    same_nodes : S.nodes ≡ T.nodes
    same_nodes =
        ext_get_or no_node S.nodes T.nodes same_count λ n h. ap₂ (λ i j. record { definition = i; branches = j }) (same-definition n h) (same-branches n)

pub one-sheet : (S T : Sheet) → Legible S → Legible T → spell_sheet S ≡ spell_sheet T → S ≡ T
one-sheet S T l l' e =
    let w = told S T l l' e in ap₃ (λ i j k. record { participants = i; defs = j; nodes = k }) w.said.0 w.said.1 (same_nodes S T l l' e)
