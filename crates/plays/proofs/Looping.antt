-- A play on its way, from event to event. Assumes nothing.
use Rattle.std.specs.Prelude.{Option, Some, None}
use mathlib.Core.Path.{◌≡◌, refl, sym, subst}
use Prim.Native.Nat.{ℕ, suc, ◌+◌, ◌-◌, ◌≤◌, ◌<◌}
use native.Mathlib.Omega.{arith}
use mathlib.Core.List.{List}
use lib.ListN.{length}
use Rattle.bitml.specs.Ledger.{Ledger as Plain}
use Rattle.bitml.specs.Answers.{end_of}
use Rattle.tables.specs.Entries.{people}
use Rattle.tables.specs.SheetOf.{sheet_in}
use Rattle.events.specs.Events.{event_at, events_at}
use Rattle.events.specs.Lines as lines
use Rattle.events.specs.declared.Event.{Event as Code}
use Rattle.events.proofs.Sound.{event_ahead}
use Rattle.pages.specs.Pages.{cells_long, pages_in}
use Rattle.counts.specs.declared.Counts.{Counts}
use Rattle.counts.specs.Book.{Book, book}
use Rattle.counts.specs.View.{view}
use Rattle.counts.specs.Fit.{Fit}
use Rattle.counts.specs.Does.{Does}
use Rattle.texts.specs.Text.{line_text}
use Rattle.texts.specs.Wrote.{Wrote}
use Rattle.replies.specs.Answer.{least_text}
use Rattle.plays.specs.declared.Turn.{Turn}
use Rattle.plays.specs.Events.{events_of}
use Rattle.plays.specs.Turns.{event_in, IsAt, Left, Due, Noted}
use Rattle.plays.proofs.Events.{line-within, events_good}
use Rattle.plays.proofs.Playing.{play_text}
use Rattle.plays.proofs.Stepping.{Goes, Moved, goes_start, goes_end, goes_more}

-- the ledger has the counts c and the cells zs, the event d is due, whose line starts at `at`, and the text is u
pub record Plays (s t : List ℕ) (to first : ℕ) (text₀ : List ℕ) (l₀ : Book) (c : Counts) (zs : List ℕ) (d : Turn) (at : ℕ) (u : List ℕ) : Type 0 where
  pub goes : Goes s t to first text₀ l₀ u (book c (pages_in zs)) at d.line d.end
  pub due : Due s t at d.line d.end d
  pub long : length zs ≡ cells_long

-- the same event, its numbers named by itself
own-due : {s t : List ℕ} {at n e : ℕ} {d : Turn} → Due s t at n e d → Due s t at d.line d.end d
own-due g = record { line = refl; end = refl; bytes = g.bytes; left = g.left }

module _ (s t : List ℕ) (to first : ℕ) (text₀ : List ℕ) where
  pub plays-start : (c : Counts) (zs : List ℕ) (d : Turn) → Fit t (book c (pages_in zs)) → length zs ≡ cells_long → events_at s (people t) to ≡ lines.Good → to ≤ length s → Due s t to first 0 d
      → Plays s t to first text₀ (book c (pages_in zs)) c zs d to text₀
  plays-start c zs d fit long good inside g =
      let l = book c (pages_in zs) in
      let a = goes_start s t to first text₀ l fit good inside in
      let b = subst (λ (n : ℕ). Goes s t to first text₀ l text₀ l to n 0) (sym g.line) a in
      record { goes = subst (λ (n : ℕ). Goes s t to first text₀ l text₀ l to d.line n) (sym g.end) b; due = own-due g; long = long }

  module _ (l₀ : Book) (few : length s ≤ 65536) (low : first ≤ 100) (wide : least_text ≤ length text₀) {c : Counts} {zs : List ℕ} {d : Turn} {at : ℕ} {u : List ℕ} (p : Plays s t to first text₀ l₀ c zs d at u) where
    -- what `end` asks, and `note` of the line and the text
    pub plays-room : d.end + 400 ≤ length u
    plays-room = let g = p.goes in omega (arith, g.room, g.inside, g.on, g.long)

    pub plays-line : d.line ≤ 99999
    plays-line = let g = p.goes in omega (arith, g.lines-few, g.inside, g.on)

    pub plays-ends : d.event ≡ None → (P : Plain) → view (people t) l₀ ≡ P → (v : List ℕ) (k : ℕ) → Wrote u d.end (line_text (end_of (view (people t) (book c (pages_in zs))))) v k
        → Wrote text₀ 0 (play_text (sheet_in t) P first (events_of s (people t) to)) v k
    plays-ends h P q v k w =
        let over : length s ≤ at = subst (λ x. Left s t at x d.next) h p.due.left in
        subst (λ (l : Plain). Wrote text₀ 0 (play_text (sheet_in t) l first (events_of s (people t) to)) v k) q (goes_end s t to first text₀ l₀ u (book c (pages_in zs)) at d.line d.end p.goes over v k w)

    module _ (x : Code) (is : d.event ≡ Some x) where
      pub due-is : IsAt s t at x d.next
      due-is = subst (λ y. Left s t at y d.next) is p.due.left

      more : at < length s
      more = let w = event_ahead s (people t) at 0 d.next due-is.next in omega arith

      pub within : (at < d.next) × (d.next ≤ length s)
      within = line-within s (people t) at more p.goes.good (event_at s (people t) at) refl 0 d.next due-is.next

      pub plays-inside : d.next ≤ length s
      plays-inside = within.1

      pub plays_good : events_at s (people t) d.next ≡ lines.Good
      plays_good = events_good s (people t) at more p.goes.good (event_at s (people t) at) refl 0 d.next due-is.next

      pub plays-nearer : length s - d.next < length s - at
      plays-nearer = omega (arith, within)

      pub plays-more : (c' : Counts) (zs' : List ℕ) (r : Turn) (v : List ℕ) → Does t (book c (pages_in zs)) (event_in s x) (book c' (pages_in zs')) → length zs' ≡ cells_long → Noted s t d u c'.answer v r
          → Plays s t to first text₀ l₀ c' zs' r d.next v
      plays-more c' zs' r v does long b =
          let y = event_at s (people t) at in
          let l = book c (pages_in zs) in
          let m = book c' (pages_in zs') in
          let mv : Moved s t l y m d.next = record { does = subst (λ e. Does t l e m) due-is.is does; next = due-is.next } in
          let a = goes_more s t to first text₀ l₀ u l at d.line d.end p.goes more y refl m d.next mv p.due.bytes few low v r.end b.wrote in
          record { goes = subst (λ (n : ℕ). Goes s t to first text₀ l₀ v m d.next n r.end) (sym b.due.line) a; due = own-due b.due; long = long }

-- What is left behind the event that is due, and one more; nothing where none is due
abbrev pub left_behind : ℕ → Option Code → ℕ → ℕ
left_behind len (Some x) next = suc (len - next)
left_behind len None next = 0

-- it falls from event to event: the next one starts where this one ends, and none may be left
pub left_falls : (len n next : ℕ) (o : Option Code) → ((x : Code) → o ≡ Some x → (n < next) × (next ≤ len)) → left_behind len o next < suc (len - n)
left_falls len n next (Some x) f = let w = f x refl in omega (arith, w.0, w.1)
left_falls len n next None f = omega arith
