-- One event on the ledger, and the next. Assumes nothing.
use mathlib.Core.Path.{◌≡◌, refl, sym, ap, ap₂, ◌∙◌, subst}
use Prim.Native.Nat.{ℕ, suc, ◌+◌, ◌-◌, ◌*◌, ◌≤◌, ◌<◌}
use native.Mathlib.Omega.{arith}
use native.Mathlib.Numerals.{add-one}
use mathlib.Core.List.{List}
use lib.ListN.{length, get_or, take, drop}
use Rattle.bitml.specs.Limits.{limited_refusal}
use Rattle.bitml.specs.Answers.{end_line, event_line, end_of}
use Rattle.sheets.specs.Ready.{Ready}
use Rattle.counts.proofs.Ending.{end_is}
use Rattle.fields.specs.Field.{Value}
use Rattle.fields.proofs.Words.{Bytes}
use Rattle.tables.specs.Entries.{first_of, people}
use Rattle.tables.specs.SheetOf.{sheet_in}
use Rattle.events.specs.Events.{next_of, event_at, events_at}
use Rattle.events.specs.Event as read
use Rattle.events.specs.Lines as lines
use Rattle.pages.specs.Pages.{cells_long, size, start, pages_in, lives, payments}
use Rattle.pages.proofs.Laws.{page_first}
use Rattle.counts.specs.declared.Counts.{Counts}
use Rattle.counts.specs.Book.{Book, book}
use Rattle.counts.specs.View.{view, live_of}
use Rattle.counts.specs.Fit.{Fit}
use Rattle.counts.specs.Does.{Does}
use Rattle.texts.specs.Text.{line_text}
use Rattle.texts.specs.Wrote.{Wrote}
use Rattle.texts.proofs.Coming.{Coming, coming_all}
use Rattle.plays.specs.Events.{event_of, events_of}
use Rattle.plays.proofs.Events.{events-none, events-more, events_good, line-within, line-long}
use Rattle.plays.proofs.Playing.{answer-most, play_text, coming_more, coming_end}

-- the event x has made of the ledger l the ledger m, and its line ends at q
pub record Moved (s t : List ℕ) (l : Book) (x : read.Event) (m : Book) (q : ℕ) : Type 0 where
  pub does : Does t l (event_of s x) m
  pub next : next_of x ≡ Value 0 q

-- ---- the events so far: the ledger l₀ has become l, and of the request the lines from `at` on are left; the text ends at e

pub record Goes (s t : List ℕ) (from first : ℕ) (text₀ : List ℕ) (l₀ : Book) (text : List ℕ) (l : Book) (at line e : ℕ) : Type 0 where
  pub fit : Fit t l
  pub good : events_at s (people t) at ≡ lines.Good
  pub on : from ≤ at
  pub inside : at ≤ length s
  pub long : length text ≡ length text₀
  -- An event line has 7 bytes or more, and its answer 19 at the most
  pub room : 7 * e ≤ 19 * (at - from)
  pub lines-few : line ≤ first + (at - from)
  pub coming : Coming text₀ 0 (play_text (sheet_in t) (view (people t) l₀) first (events_of s (people t) from)) text e (play_text (sheet_in t) (view (people t) l) line (events_of s (people t) at))

module _ (s t : List ℕ) (from first : ℕ) (text₀ : List ℕ) (l₀ : Book) where
  pub goes_start : Fit t l₀ → events_at s (people t) from ≡ lines.Good → from ≤ length s → Goes s t from first text₀ l₀ text₀ l₀ from first 0
  goes_start f g h =
      record {
        fit = f;
        good = g;
        on = omega arith;
        inside = h;
        long = refl;
        room = omega arith;
        lines-few = omega arith;
        coming = coming_all text₀ 0 (play_text (sheet_in t) (view (people t) l₀) first (events_of s (people t) from));
      }

  module _ (text : List ℕ) (l : Book) (at line e : ℕ) (g : Goes s t from first text₀ l₀ text l at line e) where
    pub goes_end : length s ≤ at → (v : List ℕ) (c : ℕ) → Wrote text e (line_text (end_of (view (people t) l))) v c
        → Wrote text₀ 0 (play_text (sheet_in t) (view (people t) l₀) first (events_of s (people t) from)) v c
    goes_end h v c w =
        coming_end (sheet_in t) (view (people t) l) line
        (subst (λ es. Coming text₀ 0 (play_text (sheet_in t) (view (people t) l₀) first (events_of s (people t) from)) text e (play_text (sheet_in t) (view (people t) l) line es)) (events-none s (people t) at h) g.coming)
        w

    module _ (more : at < length s) (x : read.Event) (rd : x ≡ event_at s (people t) at) where
      module _ (m : Book) (q : ℕ) (mv : Moved s t l x m q) where
        pub goes_more : Bytes s → length s ≤ 65536 → first ≤ 100 → (v : List ℕ) (c : ℕ)
            → Wrote text e (line_text (event_line line m.answer)) v c → Goes s t from first text₀ l₀ v m q (line + 1) c
        goes_more b few low v c w =
            let d = mv.does in
            let S = sheet_in t in
            let P = view (people t) l in
            let y = event_of s x in
            let z = mv.next in
            let k = line-within s (people t) at more g.good x rd 0 q z in
            let j = line-long s (people t) at more g.good x rd 0 q z b in
            let w' : Wrote text e (line_text (event_line line (limited_refusal S P y))) v c = subst (λ n. Wrote text e (line_text (event_line line n)) v c) d.answer w in
            let a = answer-most S P y line (omega (arith, g.lines-few, g.inside)) in
            let whole = play_text S (view (people t) l₀) first (events_of s (people t) from) in
            record {
              fit = d.fit;
              good = events_good s (people t) at more g.good x rd 0 q z;
              on = omega (arith, g.on);
              inside = k.1;
              long = w.long ∙ g.long;
              room = omega (arith, g.room, g.on, w'.end);
              lines-few = omega (arith, g.lines-few, g.on);
              coming =
                  subst (λ (p : ℕ). Coming text₀ 0 whole v c (play_text S (view (people t) m) p (events_of s (people t) q))) (sym (add-one line))
                  (subst (λ p. Coming text₀ 0 whole v c (play_text S p (suc line) (events_of s (people t) q))) (sym d.plain)
                  (coming_more S P line y (events_of s (people t) q)
                  (subst (λ es. Coming text₀ 0 whole text e (play_text S P line es)) (events-more s (people t) at more g.good x rd 0 q z) g.coming)
                  w'));
            }

-- ---- the last line

pub wrote-end_of : (t : List ℕ) (l : Counts) (C : List ℕ) → Ready t → cells_long ≤ length C → (k n : ℕ) → k ≡ people t → n ≡ live_of (pages_in C lives) l.made → {u v : List ℕ} {a b : ℕ}
    → Wrote u a (line_text (end_line l.time n (take (1600 + k - 1600) (drop 1600 C)))) v b → Wrote u a (line_text (end_of (view (people t) (book l (pages_in C))))) v b
unfolding size start
wrote-end_of t l C ok h k n hk hn {u} {v} {a} {b} w =
    let e : take (1600 + k - 1600) (drop 1600 C) ≡ first_of (λ p. get_or (pages_in C payments) p 0) (people t) =
    ap (λ j. take j (drop 1600 C)) (let z : 1600 + k - 1600 ≡ people t = omega arith in z) ∙ page_first C payments (people t) ok.promises.limits.people.1 (omega (arith, ok.promises.limits.people)) in
    subst (λ x. Wrote u a (line_text x) v b) (ap₂ (λ i ps. end_line l.time i ps) hn e ∙ sym (end_is (people t) (book l (pages_in C)))) w
