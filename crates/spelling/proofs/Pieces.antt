-- Two sheets' texts, taken apart piece by piece from the front: where the texts are the same, so is what their pieces say, and the nodes that
-- appear in them are numbered alike. Assumes nothing.
use Prim.Native.Nat.{ℕ, zero, suc, ◌+◌, ◌≤◌, ◌<◌}
use mathlib.Core.Path.{◌≡◌, refl, sym, ap, ap₂, ◌∙◌, subst}
use mathlib.Core.Bool.{Bool, true, false, cond, false≢true}
use mathlib.Core.Logic.{by_cases}
use mathlib.Core.List.{List, [], ◌∷◌, ◌++◌, append_assoc, append_cancel_left, head-eq_of_cons-eq, tail-eq_of_cons-eq}
use native.Mathlib.Omega.{arith}
use native.Mathlib.Decide.{dec_le}
use lib.ListN.{length}
use lib.Dec.{eqb}
use borrow.Author.Tests.{eq-eqb}
use Rattle.bitml.specs.Lists.{gather, All, up_from}
use Rattle.bitml.specs.Sheet.{Sheet, branches_at}
use Rattle.bitml.proofs.Lists.{all_head, all_tail}
use Rattle.fields.specs.Field.{comma, lf, is_sep, field_len, number_at}
use Rattle.fields.specs.Field.{Value}
use Rattle.texts.specs.Text.{field, fields}
use Rattle.writing.proofs.Numbers.{field_reads}
use Rattle.spelling.specs.Legible.{Short}

-- ---- what may stand behind a piece

-- nothing, or what begins with a comma or an LF: a number before it ends there
abbrev pub Sep : List ℕ → Type 0
Sep r = field_len r ≡ 0

abbrev pub Anything : List ℕ → Type 0
Anything r = Unit {0}

-- it still may with t before it
abbrev pub Opens : (List ℕ → Type 0) → List ℕ → Type 0
Opens P t = (r : List ℕ) → P r → P (t ++ r)

pub opens_sep : (t : List ℕ) → Sep t → Opens Sep t
unfolding field_len
opens_sep [] e r p = p
opens_sep (b ∷ t) e r p = go (is_sep b) e
  where
    go : (x : Bool) → cond x 0 (suc (field_len t)) ≡ 0 → cond x 0 (suc (field_len (t ++ r))) ≡ 0
    go true q = refl
    go false q = absurd (omega arith)

opens-gather : {A : Type 0} {P : List ℕ → Type 0} (f : A → List ℕ) → ((v : A) → Opens P (f v)) → (vs : List A) → Opens P (gather f vs)
opens-gather f o [] r p = p
opens-gather {P = P} f o (v ∷ vs) r p = subst P (sym (append_assoc (f v) (gather f vs) r)) (o v (gather f vs ++ r) (opens-gather f o vs r p))

pub sep_field : (n : ℕ) → Sep (field n)
unfolding field field_len
sep_field n = refl

pub sep_fields : (ns : List ℕ) → Sep (fields ns)
unfolding field fields field_len
sep_fields [] = refl
sep_fields (n ∷ ns) = refl

-- ---- numbers that count up from k to N

pub data Counts (N : ℕ) : ℕ → List ℕ → Type 0 where
  done : {k : ℕ} → k ≡ N → Counts N k []
  next : {k n : ℕ} {ns : List ℕ} → n ≡ k → Counts N (suc k) ns → Counts N k (n ∷ ns)

pub counts_end : {N k : ℕ} → Counts N k [] → k ≡ N
counts_end (done e) = e

pub counts_head : {N k n : ℕ} {ns : List ℕ} → Counts N k (n ∷ ns) → n ≡ k
counts_head (next e c) = e

pub counts_tail : {N k n : ℕ} {ns : List ℕ} → Counts N k (n ∷ ns) → Counts N (suc k) ns
counts_tail (next e c) = c

pub counts-most : {N k : ℕ} {ns : List ℕ} → Counts N k ns → k ≤ N
counts-most (done e) = omega arith
counts-most (next e c) = omega (arith, counts-most c)

pub counts_up : (N k n : ℕ) → N ≡ k + n → Counts N k (up_from k n)
counts_up N k zero e = done {k = k} (omega arith)
counts_up N k (suc n) e = next {k = k} refl (counts_up N (suc k) n (omega arith))

-- ---- a piece of each text

module _ (S T : Sheet) where
  -- Behind the pieces: r and r' are left of the texts, a and a' of the nodes that appear, which were k and more before the pieces. The nodes in
  -- between have the same branches, and the pieces said Q
  pub record Meets (k : ℕ) (r r' a a' : List ℕ) (Q : Type 0) : Type 0 where
    pub at : ℕ
    pub text : r ≡ r'
    pub left : Counts (length S.nodes) at a
    pub right : Counts (length T.nodes) at a'
    pub same : (i : ℕ) → k ≤ i → i < at → branches_at S i ≡ branches_at T i
    pub said : Q

  -- Pieces t of the one text and t' of the other, in which the nodes x and x' appear: where the texts are the same from there on, that is so
  pub record Piece (P : List ℕ → Type 0) (t t' x x' : List ℕ) (Q : Type 0) : Type 0 where
    pub meet : (k : ℕ) (r r' a a' : List ℕ) → P r → P r' → t ++ r ≡ t' ++ r'
        → Counts (length S.nodes) k (x ++ a) → Counts (length T.nodes) k (x' ++ a') → Meets k r r' a a' Q

module _ {S T : Sheet} where
  pub piece_map : {P : List ℕ → Type 0} {t t' x x' : List ℕ} {Q R : Type 0} → (Q → R) → Piece S T P t t' x x' Q → Piece S T P t t' x x' R
  piece_map f p =
      record {
        meet = λ k r r' a a' h h' e c c'.
            let m = p.meet k r r' a a' h h' e c c' in
            record { at = m.at; text = m.text; left = m.left; right = m.right; same = m.same; said = f m.said };
      }

  -- the same nodes, told otherwise
  pub piece_by : {P : List ℕ → Type 0} {t t' x x' y y' : List ℕ} {Q : Type 0} → x ≡ y → x' ≡ y' → Piece S T P t t' x x' Q → Piece S T P t t' y y' Q
  piece_by {P} {t} {t'} {x} {x'} {y} {y'} {Q} e e' p = subst (λ z. Piece S T P t t' z y' Q) e (subst (λ z. Piece S T P t t' x z Q) e' p)

  -- One behind the other: the second may rely on what the first said
  pub piece_then : {P : List ℕ → Type 0} {t t' u u' x x' y y' : List ℕ} {Q R : Type 0} → Opens P u → Opens P u'
      → Piece S T P t t' x x' Q → (Q → Piece S T P u u' y y' R) → Piece S T P (t ++ u) (t' ++ u') (x ++ y) (x' ++ y') (Q × R)
  piece_then {t = t} {t'} {u} {u'} {x} {x'} {y} {y'} o o' p q =
      record {
        meet = λ k r r' a a' h h' e c c'.
            let m = p.meet k (u ++ r) (u' ++ r') (y ++ a) (y' ++ a') (o r h) (o' r' h') (sym (append_assoc t u r) ∙ e ∙ append_assoc t' u' r')
            (subst (Counts (length S.nodes) k) (append_assoc x y a) c) (subst (Counts (length T.nodes) k) (append_assoc x' y' a') c') in
            let n = (q m.said).meet m.at r r' a a' h h' m.text m.left m.right in
            record {
              at = n.at;
              text = n.text;
              left = n.left;
              right = n.right;
              same = λ i l g. by_cases (dec_le m.at i) (λ j. n.same i j g) (λ j. m.same i l (omega arith));
              said = (m.said, n.said);
            };
      }

  pub piece_next : {t t' u u' x x' y y' : List ℕ} {Q R : Type 0} → Sep u → Sep u'
      → Piece S T Sep t t' x x' Q → (Q → Piece S T Sep u u' y y' R) → Piece S T Sep (t ++ u) (t' ++ u') (x ++ y) (x' ++ y') (Q × R)
  piece_next {u = u} {u'} s s' p q = piece_then (opens_sep u s) (opens_sep u' s') p q

  -- A piece in which no node appears
  piece_silent : {P : List ℕ → Type 0} {t t' : List ℕ} {Q : Type 0} → ((r r' : List ℕ) → P r → P r' → t ++ r ≡ t' ++ r' → Q × (r ≡ r'))
      → Piece S T P t t' [] [] Q
  piece_silent f =
      record {
        meet = λ k r r' a a' h h' e c c'.
            let w = f r r' h h' e in
            record { at = k; text = w.1; left = c; right = c'; same = λ i l g. absurd (omega arith); said = w.0 };
      }

  -- The same word; words that differ in their first letter
  pub piece_word : (w : List ℕ) → Piece S T Sep w w [] [] (Unit {0})
  piece_word w = piece_silent λ r r' p p' e. (tt, append_cancel_left w r r' e)

  pub piece_apart : {b c : ℕ} {t t' x x' : List ℕ} {Q : Type 0} → eqb b c ≡ false → Piece S T Sep (comma ∷ b ∷ t) (comma ∷ c ∷ t') x x' Q
  piece_apart {b} {c} f =
      record {
        meet = λ k r r' a a' h h' e d d'. absurd (false≢true (sym f ∙ eq-eqb b c (head-eq_of_cons-eq (tail-eq_of_cons-eq e))));
      }

  -- A number: read back from the text, it is both
  pub piece_field : (i j : ℕ) → Short i → Short j → Piece S T Sep (field i) (field j) [] [] (i ≡ j)
  piece_field i j h h' =
      piece_silent λ r r' p p' e.
      let x = field_reads (field i ++ r) 0 i (i + j) r refl p (omega arith) h in
      let y = field_reads (field j ++ r') 0 j (i + j) r' refl p' (omega arith) h' in
      let z : Value i (0 + length (field i)) ≡ Value j (0 + length (field j)) = sym x ∙ ap (λ t. number_at t 0 (i + j)) e ∙ y in
      let q : i ≡ j = cc in
      (q, append_cancel_left (field i) r r' (e ∙ ap (λ n. field n ++ r') (sym q)))

  -- A line with its first word: anything may stand behind it
  pub piece_line : (w : List ℕ) {t t' x x' : List ℕ} {Q : Type 0} → Piece S T Sep t t' x x' Q
      → Piece S T Anything (w ++ (t ++ (lf ∷ []))) (w ++ (t' ++ (lf ∷ []))) x x' Q
  unfolding field_len
  piece_line w {t} {t'} p =
      record {
        meet = λ k r r' a a' h h' e c c'.
            let q : (t ++ (lf ∷ [])) ++ r ≡ (t' ++ (lf ∷ [])) ++ r'
            = append_cancel_left w _ _ (sym (append_assoc w (t ++ (lf ∷ [])) r) ∙ e ∙ append_assoc w (t' ++ (lf ∷ [])) r') in
            let m = p.meet k (lf ∷ r) (lf ∷ r') a a' refl refl (sym (append_assoc t (lf ∷ []) r) ∙ q ∙ append_assoc t' (lf ∷ []) r') c c' in
            record { at = m.at; text = tail-eq_of_cons-eq m.text; left = m.left; right = m.right; same = m.same; said = m.said };
      }

  -- ---- as many pieces of each

  pub piece_fields : (ns ms : List ℕ) → length ns ≡ length ms → All Short ns → All Short ms → Piece S T Sep (fields ns) (fields ms) [] [] (ns ≡ ms)
  unfolding fields
  piece_fields [] [] e h h' = piece_silent λ r r' p p' q. (refl, q)
  piece_fields [] (m ∷ ms) e h h' = absurd (omega arith)
  piece_fields (n ∷ ns) [] e h h' = absurd (omega arith)
  piece_fields (n ∷ ns) (m ∷ ms) e h h' =
      piece_map (λ q. ap₂ ◌∷◌ q.0 q.1)
      (piece_next (sep_fields ns) (sep_fields ms) (piece_field n m (all_head h) (all_head h')) λ q. piece_fields ns ms (omega arith) (all_tail h) (all_tail h'))

  -- their count, and they
  pub piece_listed : {t t' : List ℕ} {Q : Type 0} (ns ms : List ℕ) → Short (length ns) → Short (length ms) → All Short ns → All Short ms
      → Piece S T Sep t t' [] [] Q → Piece S T Sep (t ++ field (length ns) ++ fields ns) (t' ++ field (length ms) ++ fields ms) [] [] (Q × (ns ≡ ms))
  piece_listed ns ms c c' h h' p =
      piece_map (λ q. (q.0.0, q.1))
      (piece_next (sep_fields ns) (sep_fields ms) (piece_next (sep_field (length ns)) (sep_field (length ms)) p λ q. piece_field (length ns) (length ms) c c')
      λ q. piece_fields ns ms q.1 h h')

  module _ {A : Type 0} {G H : A → Type 0} (f f' g g' : A → List ℕ) where
    pub piece_gather : {P : List ℕ → Type 0} → ((v : A) → Opens P (f v)) → ((v : A) → Opens P (f' v))
        → ((v w : A) → G v → H w → Piece S T P (f v) (f' w) (g v) (g' w) (v ≡ w)) → (vs ws : List A) → length vs ≡ length ws → All G vs → All H ws
        → Piece S T P (gather f vs) (gather f' ws) (gather g vs) (gather g' ws) (vs ≡ ws)
    piece_gather o o' p [] [] e h h' = piece_silent λ r r' l l' q. (refl, q)
    piece_gather o o' p [] (w ∷ ws) e h h' = absurd (omega arith)
    piece_gather o o' p (v ∷ vs) [] e h h' = absurd (omega arith)
    piece_gather o o' p (v ∷ vs) (w ∷ ws) e h h' =
        piece_map (λ q. ap₂ ◌∷◌ q.0 q.1)
        (piece_then (opens-gather f o vs) (opens-gather f' o' ws) (p v w (all_head h) (all_head h'))
        λ q. piece_gather o o' p vs ws (omega arith) (all_tail h) (all_tail h'))

    -- a word, their count, and they
    pub piece_counted : (word : List ℕ) → ((v : A) → Sep (f v)) → ((v : A) → Sep (f' v))
        → ((v w : A) → G v → H w → Piece S T Sep (f v) (f' w) (g v) (g' w) (v ≡ w))
        → (vs ws : List A) → Short (length vs) → Short (length ws) → All G vs → All H ws
        → Piece S T Sep (word ++ field (length vs) ++ gather f vs) (word ++ field (length ws) ++ gather f' ws) (gather g vs) (gather g' ws) (vs ≡ ws)
    piece_counted word s s' p vs ws c c' h h' =
        let o : (v : A) → Opens Sep (f v) = λ v. opens_sep (f v) (s v) in
        let o' : (v : A) → Opens Sep (f' v) = λ v. opens_sep (f' v) (s' v) in
        piece_map (λ q. q.1)
        (piece_then (opens-gather f o vs) (opens-gather f' o' ws)
        (piece_next (sep_field (length vs)) (sep_field (length ws)) (piece_word word) λ q. piece_field (length vs) (length ws) c c')
        λ q. piece_gather o o' p vs ws q.1 h h')
