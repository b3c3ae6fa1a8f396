-- Steps of reading against pieces of writing: what is read from a state on is what is written from its place on. Assumes nothing.
use Prim.Native.Nat.{ℕ, suc, ◌+◌, ◌-◌, ◌≤◌}
use mathlib.Core.Path.{◌≡◌, refl, sym, ap, ap₂, ◌∙◌}
use mathlib.Core.List.{List, [], ◌∷◌, ◌++◌, append_assoc, append-nil}
use native.Mathlib.Omega.{arith}
use lib.ListN.{length, get_or, length-append}
use lib.Seq.{append_snoc, get_or-append_seam}
use Rattle.fields.specs.Field.{comma, number_at, word_at, packed_of}
use Rattle.fields.specs.Field.{Value}
use Rattle.fields.proofs.Laws.{number-end, word_end}
use Rattle.fields.proofs.Words.{Bytes}
use Rattle.tables.specs.Entries.{NodeEntry, BranchEntry, DefEntry, Entries}
use Rattle.tables.specs.State.{State, entries, with_node, with_branch, with_def, with_listed, with_cell}
use Rattle.steps.specs.Steps.{to_place}
use Rattle.texts.specs.Text.{field}
use Rattle.writing.specs.Written.{Place, Writer, say, ◌then◌, node_done, branch_done, def_done, listed_done, cell_done}
use Rattle.writing.proofs.Fields.{between, between_join, field_back, word_back}

-- ---- lists that go on

pub record Starts {A : Type 0} (xs ys : List A) : Type 0 where
  pub rest : List A
  pub is : ys ≡ xs ++ rest

module _ {A : Type 0} where
  pub starts_same : (xs : List A) → Starts xs xs
  starts_same xs = record { rest = []; is = sym (append-nil xs) }

  pub starts_more : (xs : List A) (x : A) → Starts xs (xs ++ (x ∷ []))
  starts_more xs x = record { rest = x ∷ []; is = refl }

  pub starts_trans : {xs ys zs : List A} → Starts xs ys → Starts ys zs → Starts xs zs
  starts_trans {xs} {ys} {zs} a b = record { rest = a.rest ++ b.rest; is = b.is ∙ ap (λ l. l ++ b.rest) a.is ∙ append_assoc xs a.rest b.rest }

  pub starts_at : (xs : List A) (x d : A) {ys : List A} → Starts (xs ++ (x ∷ [])) ys → get_or ys (length xs) d ≡ x
  starts_at xs x d a =
      ap (λ l. get_or l (length xs) d) (a.is ∙ append_snoc xs x a.rest) ∙ get_or-append_seam xs x a.rest d

pub record Grown (E F : Entries) : Type 0 where
  pub nodes : Starts E.nodes F.nodes
  pub branches : Starts E.branches F.branches
  pub defs : Starts E.defs F.defs
  pub listed : Starts E.listed F.listed
  pub cells : Starts E.cells F.cells

pub grown_same : (E : Entries) → Grown E E
grown_same E =
    record { nodes = starts_same E.nodes; branches = starts_same E.branches; defs = starts_same E.defs; listed = starts_same E.listed; cells = starts_same E.cells }

pub grown_trans : {E F G : Entries} → Grown E F → Grown F G → Grown E G
grown_trans a b =
    record {
      nodes = starts_trans a.nodes b.nodes;
      branches = starts_trans a.branches b.branches;
      defs = starts_trans a.defs b.defs;
      listed = starts_trans a.listed b.listed;
      cells = starts_trans a.cells b.cells;
    }

-- ---- what is read is what is written

-- The entries that are due after those of a state
abbrev pub place_of : State → Place
place_of a = record { node = length a.nodes; branch = length a.branches; def = length a.defs; listed = length a.listed; cell = length a.cells }

-- From the place of a, over whatever entries go on from those of b, f writes the bytes from a to b and comes to the place of b; n
-- definitions are among them
pub record Says (s : List ℕ) (n : ℕ) (f : Entries → Writer) (a b : State) : Type 0 where
  pub on : a.at ≤ b.at
  pub grown : Grown (entries a) (entries b)
  pub more : length b.defs ≡ n + length a.defs
  pub says : (E : Entries) → Grown (entries b) E → f E (place_of a) ≡ (between s a.at b.at, place_of b)

then_is : (f g : Writer) (p q r : Place) (t u : List ℕ) → f p ≡ (t, q) → g q ≡ (u, r) → (f then g) p ≡ (t ++ u, r)
unfolding ◌then◌
then_is f g p q r t u e h = ap (λ x. (x.0 ++ (g x.1).0, (g x.1).1)) e ∙ ap (λ y. (t ++ y.0, y.1)) h

pub between_none : (s : List ℕ) (a : ℕ) → [] ≡ between s a a
unfolding between
between_none s a = let z : a - a ≡ 0 = omega arith in rw z

module _ (s : List ℕ) where
  pub says_then : (f g : Entries → Writer) {m n : ℕ} {a b c : State} → Says s m f a b → Says s n g b c → Says s (m + n) (λ E. f E then g E) a c
  says_then f g {m} {n} {a} {b} {c} x y =
      record {
        on = omega (arith, x.on, y.on);
        more = omega (arith, x.more, y.more);
        grown = grown_trans x.grown y.grown;
        says = λ E h. then_is (f E) (g E) (place_of a) (place_of b) (place_of c) _ _ (x.says E (grown_trans y.grown h)) (y.says E h)
            ∙ ap (λ t. (t, place_of c)) (between_join s a.at b.at c.at x.on y.on);
      }

  -- the same by other words
  pub says_by : (f g : Entries → Writer) {n : ℕ} {a b : State} → Says s n f a b → ((E : Entries) → Grown (entries b) E → g E (place_of a) ≡ f E (place_of a)) → Says s n g a b
  says_by f g x e = record { on = x.on; grown = x.grown; more = x.more; says = λ E h. e E h ∙ x.says E h }

  pub says_text : (t : List ℕ) (a : State) (e : ℕ) → a.at ≤ e → t ≡ between s a.at e → Says s 0 (λ E. say t) a (to_place a e)
  unfolding say
  says_text t a e h q = record { on = h; grown = grown_same (entries a); more = omega arith; says = λ E g. ap (λ u. (u, place_of a)) q }

  pub says_nothing : (a : State) → Says s 0 (λ E. say []) a a
  says_nothing a = says_text [] a a.at (omega arith) (between_none s a.at)

  pub says_number : (a : State) (max v e : ℕ) → number_at s a.at max ≡ Value v e → Says s 0 (λ E. say (field v)) a (to_place a e)
  says_number a max v e q = says_text (field v) a e (omega (arith, (number-end s a.at max v e q).0)) (field_back s a.at max v e q)

  pub says_word : Bytes s → (a : State) (w e : ℕ) (u : List ℕ) → Bytes u → packed_of u ≡ w → (w ≡ 0 → ⊥) → word_at s a.at ≡ Value w e
      → Says s 0 (λ E. say (comma ∷ u)) a (to_place a e)
  says_word hs a w e u hu p n q = says_text (comma ∷ u) a e (omega (arith, (word_end s a.at w e q).0)) (word_back s a.at w e u hs hu q p n)

  -- an entry more
  more-length : {A : Type 0} (xs : List A) (x : A) → suc (length xs) ≡ length (xs ++ (x ∷ []))
  more-length xs x = omega (arith, length-append xs (x ∷ []))

  pub says_node : (e : NodeEntry) (a : State) → Says s 0 (λ E. node_done) a (with_node e a)
  unfolding node_done
  says_node e a =
      record {
        on = omega arith;
        more = omega arith;
        grown = record {
          nodes = starts_more a.nodes e;
          branches = starts_same a.branches;
          defs = starts_same a.defs;
          listed = starts_same a.listed;
          cells = starts_same a.cells;
        };
        says = λ E h. ap₂ (λ t n. (t, record { node = n; branch = length a.branches; def = length a.defs; listed = length a.listed; cell = length a.cells })) (between_none s a.at) (more-length a.nodes e);
      }

  pub says_branch : (e : BranchEntry) (a : State) → Says s 0 (λ E. branch_done) a (with_branch e a)
  unfolding branch_done
  says_branch e a =
      record {
        on = omega arith;
        more = omega arith;
        grown = record {
          nodes = starts_same a.nodes;
          branches = starts_more a.branches e;
          defs = starts_same a.defs;
          listed = starts_same a.listed;
          cells = starts_same a.cells;
        };
        says = λ E h. ap₂ (λ t n. (t, record { node = length a.nodes; branch = n; def = length a.defs; listed = length a.listed; cell = length a.cells })) (between_none s a.at) (more-length a.branches e);
      }

  pub says_def : (e : DefEntry) (a : State) → Says s 1 (λ E. def_done) a (with_def e a)
  unfolding def_done
  says_def e a =
      record {
        on = omega arith;
        more = omega (arith, length-append a.defs (e ∷ []));
        grown = record {
          nodes = starts_same a.nodes;
          branches = starts_same a.branches;
          defs = starts_more a.defs e;
          listed = starts_same a.listed;
          cells = starts_same a.cells;
        };
        says = λ E h. ap₂ (λ t n. (t, record { node = length a.nodes; branch = length a.branches; def = n; listed = length a.listed; cell = length a.cells })) (between_none s a.at) (more-length a.defs e);
      }

  pub says_listed : (v : ℕ) (a : State) → Says s 0 (λ E. listed_done) a (with_listed v a)
  unfolding listed_done
  says_listed v a =
      record {
        on = omega arith;
        more = omega arith;
        grown = record {
          nodes = starts_same a.nodes;
          branches = starts_same a.branches;
          defs = starts_same a.defs;
          listed = starts_more a.listed v;
          cells = starts_same a.cells;
        };
        says = λ E h. ap₂ (λ t n. (t, record { node = length a.nodes; branch = length a.branches; def = length a.defs; listed = n; cell = length a.cells })) (between_none s a.at) (more-length a.listed v);
      }

  pub says_cell : (v : ℕ) (a : State) → Says s 0 (λ E. cell_done) a (with_cell v a)
  unfolding cell_done
  says_cell v a =
      record {
        on = omega arith;
        more = omega arith;
        grown = record {
          nodes = starts_same a.nodes;
          branches = starts_same a.branches;
          defs = starts_same a.defs;
          listed = starts_same a.listed;
          cells = starts_more a.cells v;
        };
        says = λ E h. ap₂ (λ t n. (t, record { node = length a.nodes; branch = length a.branches; def = length a.defs; listed = length a.listed; cell = n })) (between_none s a.at) (more-length a.cells v);
      }

  -- ---- where no branch is listed

  pub record Quiet (f : Entries → Writer) (a b : State) : Type 0 where
    pub text : Says s 0 f a b
    pub branches : b.branches ≡ a.branches

  pub quiet_then : (f g : Entries → Writer) {a b c : State} → Quiet f a b → Quiet g b c → Quiet (λ E. f E then g E) a c
  quiet_then f g x y = record { text = says_then f g x.text y.text; branches = y.branches ∙ x.branches }

  pub quiet_by : (f g : Entries → Writer) {a b : State} → Quiet f a b → ((E : Entries) → Grown (entries b) E → g E (place_of a) ≡ f E (place_of a)) → Quiet g a b
  quiet_by f g x e = record { text = says_by f g x.text e; branches = x.branches }
