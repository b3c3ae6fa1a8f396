-- What comes of a text and a table, by the tests and by what was read. Assumes nothing.
use mathlib.Core.Path.{◌≡◌, sym, ap, ◌∙◌}
use Prim.Native.Nat.{ℕ, ◌≤◌, ◌<◌}
use mathlib.Core.List.{List}
use lib.ListN.{length}
use borrow.Author.Tests.{le-leb, lt-leb, eq-eqb, ne_eqb}
use Rattle.fields.specs.Field.{Got}
use Rattle.fields.specs.Field as got
use Rattle.tables.specs.Entries.{held, people, table_long}
use Rattle.lines.specs.Sheet.{read_sheet, answered}
use Rattle.reading.specs.Promises.{Sizes}
use Rattle.promises.proofs.Promised.{promised}
use Rattle.promises.specs.Texts.{Promised}
use Rattle.replies.specs.declared.Reply.{Reply}
use Rattle.loading.specs.Loading.{Loaded, loaded, refused, refused_at, alone, loading, reply_to, cells_of}

-- the reply, and the table of m cells, for what is known to come of a text
pub gives : (s : List ℕ) (n : ℕ) (r : Reply) (v : List ℕ) (w : Loaded) (m : ℕ) → loading s n ≡ w → m ≡ n → r ≡ reply_to s w → v ≡ cells_of m w
    → (r ≡ reply_to s (loading s n)) × (v ≡ cells_of n (loading s n))
gives s n r v w m e l a b = (a ∙ ap (reply_to s) (sym e), b ∙ ap (λ k. cells_of k w) l ∙ ap (cells_of n) (sym e))

-- ---- before the text is read

module _ (s : List ℕ) (n : ℕ) where
  pub too_long : 65536 < length s → loading s n ≡ refused 1 0 0
  unfolding loading
  too_long h = rw (lt-leb (length s) 65536 h)

  pub too_short : length s ≤ 65536 → n < table_long → loading s n ≡ refused 7 0 0
  unfolding loading
  too_short h k = rw (le-leb (length s) 65536 h, lt-leb table_long n k)

  pub is-alone : length s ≤ 65536 → table_long ≤ n → loading s n ≡ alone s (read_sheet s)
  unfolding loading
  is-alone h k = rw (le-leb (length s) 65536 h, le-leb table_long n k)

-- ---- once it is read: g was answered, and u is the table then

module _ (s : List ℕ) (n : ℕ) (h : length s ≤ 65536) (k : table_long ≤ n) (g : Got) (u : List ℕ) (e : answered g u ≡ read_sheet s) where
  reads : loading s n ≡ alone s (answered g u)
  reads = is-alone s n h k ∙ ap (alone s) (sym e)

  pub unread : (m p : ℕ) → g ≡ got.Bad m p → loading s n ≡ refused_at s m p
  unfolding answered alone
  unread m p q = reads ∙ ap (λ x. alone s (answered x u)) q

  module _ (v at : ℕ) (q : g ≡ got.Value v at) where
    pub behind : (at ≡ length s → ⊥) → loading s n ≡ refused_at s 9 at
    unfolding answered alone
    behind f = reads ∙ ap (λ x. alone s (answered x u)) q ∙ rw (ne_eqb at (length s) f)

    pub whole : at ≡ length s → loading s n ≡ loaded (people u) (held u)
    unfolding answered alone
    whole f = reads ∙ ap (λ x. alone s (answered x u)) q ∙ rw (eq-eqb at (length s) f)

-- what was read lies within its sections
pub sized : (s : List ℕ) (g : Got) (u : List ℕ) → answered g u ≡ read_sheet s → (v at : ℕ) → g ≡ got.Value v at → Sizes (people u) (held u)
unfolding answered Promised
sized s g u e v at q = (promised s (people u) at (held u) (sym (sym (ap (λ x. answered x u) q) ∙ e))).limits
