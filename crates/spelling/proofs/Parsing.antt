-- Texts of expressions, conditions, contracts and definitions that are the same are of the same. Assumes nothing.
use Prim.Native.Nat.{ℕ, zero, suc}
use mathlib.Core.Path.{◌≡◌, refl, sym, ap, ap₂, ◌∙◌}
use mathlib.Core.Logic.{by_cases}
use mathlib.Core.List.{List, [], ◌∷◌, ◌++◌, map, append-nil}
use native.Mathlib.Omega.{arith}
use native.Mathlib.Decide.{dec_le}
use Rattle.bitml.specs.Lists.{gather, All, nil, cons}
use Rattle.bitml.specs.Sheet.{Expr, number, secret, add, sub, Cond, always, both, neg, equal, less, Part, Action, withdraw, split, reveal, renew_as, Branch, Definition, Sheet, branches_at, parts}
use Rattle.bitml.proofs.Lists.{all_head, all_tail, all_both, gather-map}
use Rattle.fields.specs.Field.{field_len}
use Rattle.texts.specs.Text.{letters, field}
use Rattle.writing.specs.Written.{word}
use Rattle.spelling.specs.Spelled.{spell_expression, spell_condition, spell_part, spell_action, spell_branch, spell_contract, spell_definition, appearing}
use Rattle.spelling.specs.Legible.{Short, ShortExpression, ShortCondition, ShortAction, ShortBranch, ShortDefinition, Nests, Legible}
use Rattle.spelling.proofs.Pieces.{Sep, Anything, sep_field, counts_head, counts_tail, counts-most, Piece, piece_map, piece_by, piece_next, piece_word, piece_apart, piece_field, piece_line, piece_fields, piece_listed, piece_counted}

pub ap₃ : {A B C D : Type 0} (f : A → B → C → D) {a a' : A} {b b' : B} {c c' : C} → a ≡ a' → b ≡ b' → c ≡ c' → f a b c ≡ f a' b' c'
ap₃ f {a' = a'} {b' = b'} {c = c} p q r = ap₂ (λ x y. f x y c) p q ∙ ap (f a' b') r

all_two : {A : Type 0} {G H : A → Type 0} {xs : List A} → All G xs → All H xs → All (λ x. G x × H x) xs
all_two g h = all_both (λ x y z. (y, z)) g h

all_unmap : {A B : Type 0} {Q : B → Type 0} (f : A → B) (xs : List A) → All Q (map f xs) → All (λ x. Q (f x)) xs
all_unmap f [] h = nil
all_unmap f (x ∷ xs) h = cons (all_head h) (all_unmap f xs (all_tail h))

-- ---- texts that begin with a comma

sep_expression : (e : Expr) → Sep (spell_expression e)
unfolding spell_expression field_len
sep_expression (number k) = refl
sep_expression (secret j) = refl
sep_expression (add e f) = refl
sep_expression (sub e f) = refl

sep_condition : (q : Cond) → Sep (spell_condition q)
unfolding spell_condition field_len
sep_condition always = refl
sep_condition (both p q) = refl
sep_condition (neg p) = refl
sep_condition (equal e f) = refl
sep_condition (less e f) = refl

module _ (contract : ℕ → List ℕ) where
  sep_part : (q : Part) → Sep (spell_part contract q)
  unfolding spell_part field field_len
  sep_part q = refl

  sep_action : (x : Action) → Sep (spell_action contract x)
  unfolding spell_action field_len
  sep_action (withdraw p) = refl
  sep_action (split qs) = refl
  sep_action (reveal js q n) = refl
  sep_action (renew_as d) = refl

  sep_branch : (b : Branch) → Sep (spell_branch contract b)
  unfolding spell_branch field field_len
  sep_branch b = refl

sep_contract : (s : Sheet) (d n : ℕ) → Sep (spell_contract s d n)
unfolding spell_contract field_len
sep_contract s zero n = refl
sep_contract s (suc d) n = refl

-- ---- expressions and conditions

module _ {S T : Sheet} where
  -- a word and a number; a word and two pieces
  piece_leaf : (w : List ℕ) (i j : ℕ) → Short i → Short j → Piece S T Sep (w ++ field i) (w ++ field j) [] [] (i ≡ j)
  piece_leaf w i j h h' = piece_map (λ q. q.1) (piece_next (sep_field i) (sep_field j) (piece_word w) λ q. piece_field i j h h')

  piece_two : {A : Type 0} (w : List ℕ) (f : A → List ℕ) → ((v : A) → Sep (f v)) → (a b a' b' : A)
      → Piece S T Sep (f a) (f a') [] [] (a ≡ a') → Piece S T Sep (f b) (f b') [] [] (b ≡ b')
      → Piece S T Sep (w ++ f a ++ f b) (w ++ f a' ++ f b') [] [] ((a ≡ a') × (b ≡ b'))
  piece_two w f s a b a' b' p q = piece_map (λ x. (x.0.1, x.1)) (piece_next (s b) (s b') (piece_next (s a) (s a') (piece_word w) λ x. p) λ x. q)

  piece_expression : (e f : Expr) → ShortExpression e → ShortExpression f → Piece S T Sep (spell_expression e) (spell_expression f) [] [] (e ≡ f)
  unfolding spell_expression ShortExpression
  piece_expression (number k) (number k') h h' = piece_map (λ q. ap number q) (piece_leaf (word "k") k k' h h')
  piece_expression (number k) (secret j') h h' = piece_apart refl
  piece_expression (number k) (add e' f') h h' = piece_apart refl
  piece_expression (number k) (sub e' f') h h' = piece_apart refl
  piece_expression (secret j) (number k') h h' = piece_apart refl
  piece_expression (secret j) (secret j') h h' = piece_map (λ q. ap secret q) (piece_leaf (word "v") j j' h h')
  piece_expression (secret j) (add e' f') h h' = piece_apart refl
  piece_expression (secret j) (sub e' f') h h' = piece_apart refl
  piece_expression (add e f) (number k') h h' = piece_apart refl
  piece_expression (add e f) (secret j') h h' = piece_apart refl
  piece_expression (add e f) (add e' f') h h' =
      piece_map (λ z. ap₂ add z.0 z.1) (piece_two (word "add") spell_expression sep_expression e f e' f'
      (piece_expression e e' h.0 h'.0) (piece_expression f f' h.1 h'.1))
  piece_expression (add e f) (sub e' f') h h' = piece_apart refl
  piece_expression (sub e f) (number k') h h' = piece_apart refl
  piece_expression (sub e f) (secret j') h h' = piece_apart refl
  piece_expression (sub e f) (add e' f') h h' = piece_apart refl
  piece_expression (sub e f) (sub e' f') h h' =
      piece_map (λ z. ap₂ sub z.0 z.1) (piece_two (word "sub") spell_expression sep_expression e f e' f'
      (piece_expression e e' h.0 h'.0) (piece_expression f f' h.1 h'.1))

  piece_condition : (p q : Cond) → ShortCondition p → ShortCondition q → Piece S T Sep (spell_condition p) (spell_condition q) [] [] (p ≡ q)
  unfolding spell_condition ShortCondition
  piece_condition always always h h' = piece_map (λ q. refl) (piece_word (word "t"))
  piece_condition always (both p' q') h h' = piece_apart refl
  piece_condition always (neg p') h h' = piece_apart refl
  piece_condition always (equal e' f') h h' = piece_apart refl
  piece_condition always (less e' f') h h' = piece_apart refl
  piece_condition (both p q) always h h' = piece_apart refl
  piece_condition (both p q) (both p' q') h h' =
      piece_map (λ z. ap₂ both z.0 z.1) (piece_two (word "and") spell_condition sep_condition p q p' q'
      (piece_condition p p' h.0 h'.0) (piece_condition q q' h.1 h'.1))
  piece_condition (both p q) (neg p') h h' = piece_apart refl
  piece_condition (both p q) (equal e' f') h h' = piece_apart refl
  piece_condition (both p q) (less e' f') h h' = piece_apart refl
  piece_condition (neg p) always h h' = piece_apart refl
  piece_condition (neg p) (both p' q') h h' = piece_apart refl
  piece_condition (neg p) (neg p') h h' =
      piece_map (λ q. ap neg q.1) (piece_next (sep_condition p) (sep_condition p') (piece_word (word "not")) λ q. piece_condition p p' h h')
  piece_condition (neg p) (equal e' f') h h' = piece_apart refl
  piece_condition (neg p) (less e' f') h h' = piece_apart refl
  piece_condition (equal e f) always h h' = piece_apart refl
  piece_condition (equal e f) (both p' q') h h' = piece_apart refl
  piece_condition (equal e f) (neg p') h h' = piece_apart refl
  piece_condition (equal e f) (equal e' f') h h' =
      piece_map (λ z. ap₂ equal z.0 z.1) (piece_two (word "eq") spell_expression sep_expression e f e' f'
      (piece_expression e e' h.0 h'.0) (piece_expression f f' h.1 h'.1))
  piece_condition (equal e f) (less e' f') h h' = piece_apart refl
  piece_condition (less e f) always h h' = piece_apart refl
  piece_condition (less e f) (both p' q') h h' = piece_apart refl
  piece_condition (less e f) (neg p') h h' = piece_apart refl
  piece_condition (less e f) (equal e' f') h h' = piece_apart refl
  piece_condition (less e f) (less e' f') h h' =
      piece_map (λ z. ap₂ less z.0 z.1) (piece_two (word "lt") spell_expression sep_expression e f e' f'
      (piece_expression e e' h.0 h'.0) (piece_expression f f' h.1 h'.1))

-- ---- contracts

-- The contracts at n and m with d levels left: they are at the same node
abbrev SameContracts : Sheet → Sheet → ℕ → Type 0
SameContracts S T d = (n m : ℕ) → Nests S d n → Nests T d m
    → Piece S T Sep (spell_contract S d n) (spell_contract T d m) (appearing S d n) (appearing T d m) (n ≡ m)

-- what stands in a contract, given those with a level less
module _ (S T : Sheet) (d : ℕ) (contracts : SameContracts S T d) where
  piece_part : (p q : Part) → Short p.weight × Nests S d p.node → Short q.weight × Nests T d q.node
      → Piece S T Sep (spell_part (spell_contract S d) p) (spell_part (spell_contract T d) q) (appearing S d p.node) (appearing T d q.node) (p ≡ q)
  unfolding spell_part
  piece_part p q h h' =
      piece_map (λ x. ap₂ (λ i j. record { weight = i; node = j }) x.0 x.1)
      (piece_next (sep_contract S d p.node) (sep_contract T d q.node) (piece_field p.weight q.weight h.0 h'.0)
      λ x. contracts p.node q.node h.1 h'.1)

  piece_action : (x y : Action) → ShortAction x → ShortAction y → All (Nests S d) (parts x) → All (Nests T d) (parts y)
      → Piece S T Sep (spell_action (spell_contract S d) x) (spell_action (spell_contract T d) y)
      (gather (appearing S d) (parts x)) (gather (appearing T d) (parts y)) (x ≡ y)
  unfolding spell_action ShortAction
  piece_action (withdraw p) (withdraw p') h h' l l' = piece_map (λ q. ap withdraw q) (piece_leaf (word "w") p p' h h')
  piece_action (withdraw p) (split qs') h h' l l' = piece_apart refl
  piece_action (withdraw p) (reveal js' q' n') h h' l l' = piece_apart refl
  piece_action (withdraw p) (renew_as f') h h' l l' = piece_apart refl
  piece_action (split qs) (withdraw p') h h' l l' = piece_apart refl
  piece_action (split qs) (split qs') h h' l l' =
      piece_map (λ q. ap split q)
      (piece_by (sym (gather-map (appearing S d) (λ q. q.node) qs)) (sym (gather-map (appearing T d) (λ q. q.node) qs'))
      (piece_counted (spell_part (spell_contract S d)) (spell_part (spell_contract T d)) (λ q. appearing S d q.node) (λ q. appearing T d q.node) (word "s")
      (sep_part (spell_contract S d)) (sep_part (spell_contract T d)) piece_part qs qs' h.0 h'.0
      (all_two h.1 (all_unmap (λ q. q.node) qs l)) (all_two h'.1 (all_unmap (λ q. q.node) qs' l'))))
  piece_action (split qs) (reveal js' q' n') h h' l l' = piece_apart refl
  piece_action (split qs) (renew_as f') h h' l l' = piece_apart refl
  piece_action (reveal js q n) (withdraw p') h h' l l' = piece_apart refl
  piece_action (reveal js q n) (split qs') h h' l l' = piece_apart refl
  piece_action (reveal js q n) (reveal js' q' n') h h' l l' =
      piece_map (λ x. ap₃ reveal x.0.0.1 x.0.1 x.1)
      (piece_by (sym (append-nil (appearing S d n))) (sym (append-nil (appearing T d n')))
      (piece_next (sep_contract S d n) (sep_contract T d n')
      (piece_next (sep_condition q) (sep_condition q') (piece_listed js js' h.0 h'.0 h.1 h'.1 (piece_word (word "r")))
      λ x. piece_condition q q' h.2 h'.2)
      λ x. contracts n n' (all_head l) (all_head l')))
  piece_action (reveal js q n) (renew_as f') h h' l l' = piece_apart refl
  piece_action (renew_as f) (withdraw p') h h' l l' = piece_apart refl
  piece_action (renew_as f) (split qs') h h' l l' = piece_apart refl
  piece_action (renew_as f) (reveal js' q' n') h h' l l' = piece_apart refl
  piece_action (renew_as f) (renew_as f') h h' l l' = piece_map (λ q. ap renew_as q) (piece_leaf (word "g") f f' h h')

  piece_branch : (b c : Branch) → ShortBranch b × All (Nests S d) (parts b.action) → ShortBranch c × All (Nests T d) (parts c.action)
      → Piece S T Sep (spell_branch (spell_contract S d) b) (spell_branch (spell_contract T d) c)
      (gather (appearing S d) (parts b.action)) (gather (appearing T d) (parts c.action)) (b ≡ c)
  unfolding spell_branch
  piece_branch b c h h' =
      piece_map (λ x. ap₃ (λ i j k. record { signers = i; opens = j; action = k }) x.0.0 x.0.1 x.1)
      (piece_next (sep_action (spell_contract S d) b.action) (sep_action (spell_contract T d) c.action)
      (piece_next (sep_field b.opens) (sep_field c.opens) (piece_field b.signers c.signers h.0.signers h'.0.signers)
      λ x. piece_field b.opens c.opens h.0.opens h'.0.opens)
      λ x. piece_action b.action c.action h.0.action h'.0.action h.1 h'.1)

module _ (S T : Sheet) (l : Legible S) (l' : Legible T) where
  -- A contract's node is the next one that appears, and its branches follow
  piece_contract : (d : ℕ) → SameContracts S T d
  unfolding Nests spell_contract appearing
  piece_contract zero n m h h' = absurd h
  piece_contract (suc d) n m h h' =
      record {
        meet = λ k r r' a a' p p' e c c'.
            let i = counts_head c in
            let j = counts_head c' in
            let b = l.branches n (omega (arith, i, counts-most (counts_tail c))) in
            let b' = l'.branches m (omega (arith, j, counts-most (counts_tail c'))) in
            let w = (piece_counted (spell_branch (spell_contract S d)) (spell_branch (spell_contract T d))
            (λ v. gather (appearing S d) (parts v.action)) (λ v. gather (appearing T d) (parts v.action)) (word "c")
            (sep_branch (spell_contract S d)) (sep_branch (spell_contract T d)) (piece_branch S T d (piece_contract d)) (branches_at S n) (branches_at T m)
            b.0 b'.0 (all_two b.1 h) (all_two b'.1 h')).meet (suc k) r r' a a' p p' e (counts_tail c) (counts_tail c') in
            record {
              at = w.at;
              text = w.text;
              left = w.left;
              right = w.right;
              same = λ v y z. by_cases (dec_le v k)
                  (λ x. ap (branches_at S) (let q : v ≡ n = omega (arith, i) in q) ∙ w.said ∙ ap (branches_at T) (let q : m ≡ v = omega (arith, j) in q))
                  (λ x. w.same v (omega arith) z);
              said = i ∙ sym j;
            };
      }

  -- ---- a definition's line

  pub piece_definition : (K : ℕ) (D E : Definition) → ShortDefinition K D × Nests S 32 D.root → ShortDefinition K E × Nests T 32 E.root
      → Piece S T Anything (spell_definition S D) (spell_definition T E) (appearing S 32 D.root) (appearing T 32 E.root) (D ≡ E)
  unfolding spell_definition
  piece_definition K D E h h' =
      piece_map (λ x. ap₃ (λ i j k. record { deposits = i; owners = j; root = k }) x.0.0 x.0.1 x.1)
      (piece_line (letters "def")
      (piece_next (sep_contract S 32 D.root) (sep_contract T 32 E.root)
      (piece_listed D.owners E.owners h.0.count h'.0.count h.0.owners h'.0.owners
      (piece_fields D.deposits E.deposits (h.0.as_many ∙ sym h'.0.as_many) h.0.deposits h'.0.deposits))
      λ x. piece_contract 32 D.root E.root h.1 h'.1))
