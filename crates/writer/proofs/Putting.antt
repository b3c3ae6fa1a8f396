-- How what the code writes at a step gives the text that the definition says: one law for each shape of a step. Assumes nothing.
use Prim.Native.Nat.{ℕ, zero, suc, ◌+◌, ◌-◌, ◌≤◌, ◌<◌}
use Rattle.std.specs.Prelude.{Option, Some, None}
use mathlib.Core.Path.{◌≡◌, refl, sym, ap, ◌∙◌, subst}
use mathlib.Core.Bool.{Bool, true, false, cond}
use mathlib.Core.List.{List, [], ◌++◌, append_assoc, append-nil}
use native.Mathlib.Omega.{arith}
use native.Mathlib.Numerals.{add-one}
use lib.ListN.{length, length-append}
use lib.Dec.{eqb, ltb}
use borrow.Author.Tests.{ltb-true, ltb-false}
use Rattle.texts.specs.Text.{field}
use Rattle.texts.specs.Wrote.{Wrote}
use Rattle.texts.proofs.Writing.{wrote_none, wrote_then}
use Rattle.fields.proofs.Ranges.{cond_cases}
use Rattle.writing.specs.Written.{Place, Writer, word, say, ◌then◌, repeat, node_done, branch_done, def_done, listed_done, cell_done, expression_word, condition_word}
use Rattle.writer.specs.Putting.{due, Small, Room, Went, Passed, Puts, stood}
use Rattle.writer.specs.declared.Pen.{Pen}

-- ---- what a call has written

module _ {u₀ u : List ℕ} {at : ℕ} {w : List ℕ × Place} where
  went_puts : {p : Pen} → Went u₀ at w p u → Puts u₀ at w (Some p) u
  went_puts {p} h = record { on = λ q e. let i : p ≡ q = cc in subst (λ x. Went u₀ at w x u) i h; full = λ e. cc }

  passed_puts : Passed u₀ at w u → Puts u₀ at w None u
  passed_puts h = record { on = λ q e. cc; full = λ e. h }

  pub went : {p : Pen} → Puts u₀ at w (Some p) u → Went u₀ at w p u
  went {p} h = h.on p refl

  pub small : {p : Pen} → Puts u₀ at w (Some p) u → Small p
  small h = (went h).small

  pub room-on : {p : Pen} → 32800 ≤ length u₀ → Puts u₀ at w (Some p) u → Room u p
  room-on l h = record { long = omega (arith, (went h).wrote.long, l); small = small h }

-- ---- one piece after the other

module _ {u₀ : List ℕ} {at : ℕ} (f g : Writer) (x : Place) where
  pub on_then : {u v : List ℕ} {r : Option Pen} {p : Pen} → Puts u₀ at (f x) (Some p) u → Puts u p.at (g (due p)) r v → Puts u₀ at ((f then g) x) r v
  unfolding ◌then◌
  on_then {u} {v} {r} {p} h k =
      let a = went h in
      let b : Puts u p.at (g (f x).1) r v = subst (λ y. Puts u p.at (g y) r v) a.place k in
      record {
        on = λ q i. record { wrote = wrote_then a.wrote (b.on q i).wrote; place = (b.on q i).place; small = (b.on q i).small };
        full = λ i. record {
          passed = omega (arith, a.wrote.end, (b.full i).passed, length-append (f x).0 (g (f x).1).0);
          long = (b.full i).long ∙ a.wrote.long;
        };
      }

  pub full_then : {u : List ℕ} {r : Option Pen} → Puts u₀ at (f x) None u → r ≡ None → Puts u₀ at ((f then g) x) r u
  unfolding ◌then◌
  full_then h e =
      let a = h.full refl in
      rw e (passed_puts (record { passed = omega (arith, a.passed, length-append (f x).0 (g (f x).1).0); long = a.long }))

-- ---- a piece of text

-- where nothing is written
pub stay : {u : List ℕ} {p : Pen} → Small p → Puts u p.at (say [] (due p)) (Some p) u
unfolding say
stay {u} {p} s = went_puts (record { wrote = wrote_none u p.at; place = refl; small = s })

pub say_puts : {u₀ u t : List ℕ} {p : Pen} {e : ℕ} {r : Option Pen} → Small p → Wrote u₀ p.at t u e → r ≡ stood p e → Puts u₀ p.at (say t (due p)) r u
unfolding say
say_puts {u₀} {u} {t} {p} {e} {r} s w q = subst (λ x. Puts u₀ p.at (t, due p) x u) (sym q) (go (ltb 32768 e) refl)
  where
    go : (b : Bool) → ltb 32768 e ≡ b → Puts u₀ p.at (t, due p) (cond b None (Some (record p { at = e }))) u
    go true h = passed_puts (record { passed = omega (arith, ltb-true 32768 e h, w.end); long = w.long })
    go false h =
        let i = w.end in
        went_puts (record {
          wrote = w;
          place = refl;
          small = record {
            short = omega (arith, ltb-false 32768 e h);
            nodes = omega (arith, i, s.nodes);
            branches = omega (arith, i, s.branches);
            defs = omega (arith, i, s.defs);
            listed = omega (arith, i, s.listed);
            cells = omega (arith, i, s.cells);
          };
        })

-- ---- an entry is used up

-- every count is below the position
pub record Ahead (p : Pen) : Type 0 where
  pub nodes : p.node < p.at
  pub branches : p.branch < p.at
  pub defs : p.def < p.at
  pub listed : p.listed < p.at
  pub cells : p.cell < p.at

-- so it is after a text that is not empty
pub ahead : {u₀ u : List ℕ} {p q : Pen} (t : List ℕ) → Small p → 1 ≤ length t → Puts u₀ p.at (say t (due p)) (Some q) u → Ahead q
unfolding say
ahead t s l h =
    let w = went h in
    let i = w.wrote.end in
    record {
      nodes = omega (arith, i, s.nodes, ap (λ x. x.node) w.place);
      branches = omega (arith, i, s.branches, ap (λ x. x.branch) w.place);
      defs = omega (arith, i, s.defs, ap (λ x. x.def) w.place);
      listed = omega (arith, i, s.listed, ap (λ x. x.listed) w.place);
      cells = omega (arith, i, s.cells, ap (λ x. x.cell) w.place);
    }

pub field-some : (n : ℕ) → 1 ≤ length (field n)
unfolding field
field-some n = omega arith

module _ {u : List ℕ} {p : Pen} (s : Small p) where
  used : (d : Writer) (q : Pen) → d (due p) ≡ ([], due q) → q.at ≡ p.at → Small q → Puts u p.at (d (due p)) (Some q) u
  used d q e i k =
      subst (λ w. Puts u p.at w (Some q) u) (sym e) (went_puts (record { wrote = subst (λ a. Wrote u p.at [] u a) (sym i) (wrote_none u p.at); place = refl; small = k }))

  pub node_used : p.node < p.at → Puts u p.at (node_done (due p)) (Some (record p { node = p.node + 1 })) u
  unfolding node_done
  node_used h =
      used node_done (record p { node = p.node + 1 }) (ap (λ n. ([], record (due p) { node = n })) (sym (add-one p.node))) refl
      (record { short = s.short; nodes = omega (arith, h); branches = s.branches; defs = s.defs; listed = s.listed; cells = s.cells })

  pub branch_used : p.branch < p.at → Puts u p.at (branch_done (due p)) (Some (record p { branch = p.branch + 1 })) u
  unfolding branch_done
  branch_used h =
      used branch_done (record p { branch = p.branch + 1 }) (ap (λ n. ([], record (due p) { branch = n })) (sym (add-one p.branch))) refl
      (record { short = s.short; nodes = s.nodes; branches = omega (arith, h); defs = s.defs; listed = s.listed; cells = s.cells })

  pub def_used : p.def < p.at → Puts u p.at (def_done (due p)) (Some (record p { def = p.def + 1 })) u
  unfolding def_done
  def_used h =
      used def_done (record p { def = p.def + 1 }) (ap (λ n. ([], record (due p) { def = n })) (sym (add-one p.def))) refl
      (record { short = s.short; nodes = s.nodes; branches = s.branches; defs = omega (arith, h); listed = s.listed; cells = s.cells })

  pub listed_used : p.listed < p.at → Puts u p.at (listed_done (due p)) (Some (record p { listed = p.listed + 1 })) u
  unfolding listed_done
  listed_used h =
      used listed_done (record p { listed = p.listed + 1 }) (ap (λ n. ([], record (due p) { listed = n })) (sym (add-one p.listed))) refl
      (record { short = s.short; nodes = s.nodes; branches = s.branches; defs = s.defs; listed = omega (arith, h); cells = s.cells })

  pub cell_used : p.cell < p.at → Puts u p.at (cell_done (due p)) (Some (record p { cell = p.cell + 1 })) u
  unfolding cell_done
  cell_used h =
      used cell_done (record p { cell = p.cell + 1 }) (ap (λ n. ([], record (due p) { cell = n })) (sym (add-one p.cell))) refl
      (record { short = s.short; nodes = s.nodes; branches = s.branches; defs = s.defs; listed = s.listed; cells = omega (arith, h) })

-- after a text that is not empty
module _ {u₀ u : List ℕ} {p q : Pen} (t : List ℕ) (s : Small p) (l : 1 ≤ length t) (h : Puts u₀ p.at (say t (due p)) (Some q) u) where
  pub cell-is : Puts u q.at (cell_done (due q)) (Some (record q { cell = q.cell + 1 })) u
  cell-is = cell_used (small h) (ahead t s l h).cells

  pub cell-next : (g : Writer) {r : Option Pen} {v : List ℕ} → Puts u q.at (g (due (record q { cell = q.cell + 1 }))) r v → Puts u₀ p.at ((say t then cell_done then g) (due p)) r v
  cell-next g k = on_then (say t) (cell_done then g) (due p) h (on_then cell_done g (due q) cell-is k)

  pub node-is : Puts u q.at (node_done (due q)) (Some (record q { node = q.node + 1 })) u
  node-is = node_used (small h) (ahead t s l h).nodes

  pub node-next : (g : Writer) {r : Option Pen} {v : List ℕ} → Puts u q.at (g (due (record q { node = q.node + 1 }))) r v → Puts u₀ p.at ((say t then node_done then g) (due p)) r v
  node-next g k = on_then (say t) (node_done then g) (due p) h (on_then node_done g (due q) node-is k)

-- ---- what is done n times

module _ (f : Writer) where
  repeat-add : (m n : ℕ) (x : Place) → repeat (m + n) f x ≡ (repeat m f then repeat n f) x
  unfolding repeat ◌then◌ say
  repeat-add zero n x = let z : 0 + n ≡ n = omega arith in ap (λ k. repeat k f x) z
  repeat-add (suc m) n x =
      let z : suc m + n ≡ suc (m + n) = omega arith in
      ap (λ k. repeat k f x) z ∙ ap (λ (w : List ℕ × Place). ((f x).0 ++ w.0, w.1)) (repeat-add m n (f x).1)
      ∙ ap (λ t. (t, (repeat n f (repeat m f (f x).1).1).1)) (sym (append_assoc (f x).0 (repeat m f (f x).1).0 (repeat n f (repeat m f (f x).1).1).0))

  repeat-last : (i : ℕ) (x : Place) → repeat (i + 1) f x ≡ (repeat i f then f) x
  unfolding repeat ◌then◌ say
  repeat-last i x = repeat-add i 1 x ∙ ap (λ t. ((repeat i f x).0 ++ t, (f (repeat i f x).1).1)) (append-nil (f (repeat i f x).1).0)

  pub repeat-none : {u : List ℕ} {p : Pen} → Small p → Puts u p.at (repeat 0 f (due p)) (Some p) u
  unfolding repeat
  repeat-none s = stay s

  module _ {u₀ u : List ℕ} {at : ℕ} (x : Place) {r : Option Pen} where
    pub repeat-more : {v : List ℕ} {p : Pen} (i : ℕ) → Puts u₀ at (repeat i f x) (Some p) u → Puts u p.at (f (due p)) r v → Puts u₀ at (repeat (i + 1) f x) r v
    repeat-more i h k = rw (repeat-last i x) (on_then (repeat i f) f x h k)

    pub repeat-all : {i n : ℕ} → i ≤ n → n ≤ i → Puts u₀ at (repeat i f x) r u → Puts u₀ at (repeat n f x) r u
    repeat-all {i} {n} l k h = let e : i ≡ n = omega arith in subst (λ m. Puts u₀ at (repeat m f x) r u) e h

    pub repeat-full : {i n : ℕ} → i < n → Puts u₀ at (repeat (i + 1) f x) None u → r ≡ None → Puts u₀ at (repeat n f x) r u
    repeat-full {i} {n} l h e =
        let k = n - (i + 1) in
        let z : i + 1 + k ≡ n = omega arith in
        subst (λ m. Puts u₀ at (repeat m f x) r u) z (rw (repeat-add (i + 1) k x) (full_then (repeat (i + 1) f) (repeat k f) x h e))

-- ---- a word of a condition is not empty

some_of : (b : Bool) (xs ys : List ℕ) → 1 ≤ length xs → 1 ≤ length ys → 1 ≤ length (cond b xs ys)
some_of b xs ys h k = cond_cases (λ zs. 1 ≤ length zs) b xs ys (λ e. h) (λ e. k)

pub expression_word-some : (c : ℕ) → 1 ≤ length (expression_word c)
unfolding expression_word
expression_word-some c =
    some_of (eqb c 0) (word "k") _ (omega arith) (some_of (eqb c 1) (word "v") _ (omega arith) (some_of (eqb c 2) (word "add") (word "sub") (omega arith) (omega arith)))

pub condition-word-some : (c : ℕ) → 1 ≤ length (condition_word c)
unfolding condition_word
condition-word-some c =
    some_of (eqb c 0) (word "t") _ (omega arith) (some_of (eqb c 1) (word "and") _ (omega arith)
    (some_of (eqb c 2) (word "not") _ (omega arith) (some_of (eqb c 3) (word "eq") (word "lt") (omega arith) (omega arith))))
