-- Pieces of a sheet's text against steps of reading: what is spelled is what was read. Assumes nothing.
use Prim.Native.Nat.{ℕ, zero, suc, ◌+◌, ◌-◌, ◌≤◌, ◌<◌}
use mathlib.Core.Path.{◌≡◌, refl, sym, ap, ap₂, ◌∙◌}
use mathlib.Core.List.{List, [], ◌∷◌, ◌++◌}
use native.Mathlib.Omega.{arith}
use lib.ListN.{length, length-append}
use Rattle.bitml.specs.Lists.{up_from}
use Rattle.bitml.proofs.Counting.{up_split}
use Rattle.fields.specs.Field.{comma, number_at, word_at}
use Rattle.fields.specs.Field.{Value}
use Rattle.fields.proofs.Laws.{number-end, word_end}
use Rattle.fields.proofs.Words.{Bytes}
use Rattle.tables.specs.Entries.{Entries}
use Rattle.tables.specs.State.{State, entries}
use Rattle.steps.specs.Steps.{to_place}
use Rattle.reading.specs.Promises.{Promises}
use Rattle.texts.specs.Text.{field}
use Rattle.writing.proofs.Fields.{between, between_join, field_back, word_back}
use Rattle.writing.proofs.Says.{Starts, Grown, grown_same, grown_trans, between_none}
use Rattle.writing.proofs.Conditions.{Spells}

-- ---- the numbers from i up to j

unfoldable pub span : ℕ → ℕ → List ℕ
span i j = up_from i (j - i)

pub span_join : (i j k : ℕ) → i ≤ j → j ≤ k → span i j ++ span j k ≡ span i k
unfolding span
span_join i j k h l =
    let e : k - i ≡ (j - i) + (k - j) = omega arith in
    let f : i + (j - i) ≡ j = omega arith in
    sym (ap (λ n. up_from i n) e ∙ up_split i (j - i) (k - j) ∙ ap (λ m. up_from i (j - i) ++ up_from m (k - j)) f)

pub span_none : (i : ℕ) → [] ≡ span i i
unfolding span
span_none i = let z : i - i ≡ 0 = omega arith in rw z

pub span_first : (i j : ℕ) → i < j → i ∷ span (suc i) j ≡ span i j
unfolding span
span_first i j h = let z : j - i ≡ suc (j - suc i) = omega arith in rw z

pub starts_length : {A : Type 0} {xs ys : List A} → Starts xs ys → length xs ≤ length ys
starts_length {xs = xs} a = let z = ap (λ l. length l) a.is in let y = length-append xs a.rest in omega (arith, z, y)

-- ---- from a to b the request has the text t, and the nodes u were listed: whatever entries go on from those of b and keep the promises

pub record Covers (s : List ℕ) (K : ℕ) (t u : Entries → List ℕ) (a b : State) : Type 0 where
  pub on : a.at ≤ b.at
  pub grown : Grown (entries a) (entries b)
  pub text : (E : Entries) → Grown (entries b) E → Promises K E → t E ≡ between s a.at b.at
  pub nodes : (E : Entries) → Grown (entries b) E → Promises K E → u E ≡ span (length a.nodes) (length b.nodes)

-- nothing is listed
abbrev pub silent : Entries → List ℕ
silent E = []

module _ (s : List ℕ) (K : ℕ) where
  pub covers_then : {t g u v : Entries → List ℕ} {a b c : State} → Covers s K t u a b → Covers s K g v b c → Covers s K (λ E. t E ++ g E) (λ E. u E ++ v E) a c
  covers_then {a = a} {b = b} {c = c} x y =
      record {
        on = omega (arith, x.on, y.on);
        grown = grown_trans x.grown y.grown;
        text = λ E h p. ap₂ (λ xs ys. xs ++ ys) (x.text E (grown_trans y.grown h) p) (y.text E h p) ∙ between_join s a.at b.at c.at x.on y.on;
        nodes = λ E h p. ap₂ (λ xs ys. xs ++ ys) (x.nodes E (grown_trans y.grown h) p) (y.nodes E h p)
            ∙ span_join (length a.nodes) (length b.nodes) (length c.nodes) (starts_length x.grown.nodes) (starts_length y.grown.nodes);
      }

  -- the same by other words
  pub covers_by : {t g u v : Entries → List ℕ} {a b : State} → Covers s K t u a b
      → ((E : Entries) → Grown (entries b) E → Promises K E → (g E ≡ t E) × (v E ≡ u E)) → Covers s K g v a b
  covers_by x e =
      record { on = x.on; grown = x.grown; text = λ E h p. (e E h p).0 ∙ x.text E h p; nodes = λ E h p. (e E h p).1 ∙ x.nodes E h p }

  pub covers-nothing : (a : State) → Covers s K silent silent a a
  covers-nothing a =
      record { on = omega arith; grown = grown_same (entries a); text = λ E h p. between_none s a.at; nodes = λ E h p. span_none (length a.nodes) }

  -- an entry more that is no node, without a byte read
  pub covers-on : {t u : Entries → List ℕ} {a b : State} → Covers s K t u a b → (c : State) → Grown (entries b) (entries c) → c.at ≡ b.at → c.nodes ≡ b.nodes
      → Covers s K t u a c
  covers-on {a = a} x c h e n =
      record {
        on = omega (arith, x.on, e);
        grown = grown_trans x.grown h;
        text = λ E k p. x.text E (grown_trans h k) p ∙ ap (between s a.at) (sym e);
        nodes = λ E k p. x.nodes E (grown_trans h k) p ∙ ap (λ ns. span (length a.nodes) (length ns)) (sym n);
      }

  -- bytes that are no node's
  pub covers-text : (t : List ℕ) (a : State) (e : ℕ) → a.at ≤ e → t ≡ between s a.at e → Covers s K (λ E. t) silent a (to_place a e)
  covers-text t a e h q =
      record { on = h; grown = grown_same (entries a); text = λ E h p. q; nodes = λ E h p. span_none (length a.nodes) }

  pub covers-number : (a : State) (max v e : ℕ) → number_at s a.at max ≡ Value v e → Covers s K (λ E. field v) silent a (to_place a e)
  covers-number a max v e q = covers-text (field v) a e (omega (arith, (number-end s a.at max v e q).0)) (field_back s a.at max v e q)

  pub covers-word : Bytes s → (a : State) (w e : ℕ) (l : List ℕ) → Spells l w → word_at s a.at ≡ Value w e → Covers s K (λ E. comma ∷ l) silent a (to_place a e)
  covers-word hs a w e l sp q =
      covers-text (comma ∷ l) a e (omega (arith, (word_end s a.at w e q).0)) (word_back s a.at w e l hs sp.bytes q sp.number sp.some)
