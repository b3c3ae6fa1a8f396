-- The event that is due: what reading a line gives. Assumes nothing.
use Rattle.std.specs.Prelude.{Some, None}
use mathlib.Core.Logic.{by_cases}
use mathlib.Core.Path.{◌≡◌, refl, sym, ap, ◌∙◌, subst}
use Prim.Native.Nat.{ℕ, ◌+◌, ◌<◌}
use native.Mathlib.Decide.{dec_le}
use native.Mathlib.Omega.{arith}
use mathlib.Core.List.{List}
use lib.ListN.{length, get_or}
use Rattle.bitml.specs.Answers.{event_line}
use Rattle.tables.specs.Entries.{people}
use Rattle.events.specs.Events.{next_of, event_at, events_at}
use Rattle.events.specs.Event.{event}
use Rattle.events.specs.Event as line
use Rattle.events.specs.Lines as lines
use Rattle.events.specs.declared.Event.{Event as Code}
use Rattle.events.specs.declared.Event.TheVariants as code
use Rattle.events.proofs.Sound.{Sound, event_sound, next_event}
use Rattle.texts.specs.Text.{line_text}
use Rattle.texts.specs.Wrote.{Wrote}
use Rattle.plays.specs.declared.Turn.{Turn}
use Rattle.plays.specs.Events.{event_of}
use Rattle.plays.specs.Turns.{event_in, InRange, Due, Noted}
use Rattle.plays.proofs.Events.{event_read}

-- the event in both forms
same_event : (s : List ℕ) (x : Code) (q : ℕ) → event_in s x ≡ event_of s (event x q)
unfolding event_of
same_event s (code.Wait d) q = refl
same_event s (code.Sign p c b) q = refl
same_event s (code.Tell i j) q = refl
same_event s (code.Fire c b) q = refl
same_event s (code.Renew c b f n) q = refl

in_range : (s : List ℕ) (people at : ℕ) (x : Code) (q : ℕ) → Sound s people at (event x q) → InRange people x
unfolding Sound
in_range s people at (code.Wait d) q h = (h.0, h.1)
in_range s people at (code.Sign p c b) q h = h.0
in_range s people at (code.Tell i j) q h = tt
in_range s people at (code.Fire c b) q h = tt
in_range s people at (code.Renew c b f n) q h = h.2

module _ (s t : List ℕ) (at n e : ℕ) (bytes : (i : ℕ) → get_or s i 0 < 256) where
  pub due_read : (k : ℕ) → k ≡ people t → (x : Code) (q : ℕ) → event x q ≡ event_at s k at → Due s t at n e (record { event = Some x; next = q; line = n; end = e })
  due_read k i x q h =
      let r : event x q ≡ event_at s (people t) at = rw i at h in
      record {
        line = refl;
        end = refl;
        bytes = bytes;
        left =
            record {
              range = in_range s (people t) at x q (subst (Sound s (people t) at) (sym r) (event_sound s (people t) at));
              is = same_event s x q ∙ ap (event_of s) r;
              next = ap next_of (sym r) ∙ sym (next_event x q);
            };
      }

  -- where a line is left, it can be read
  pub due-none : (k : ℕ) → k ≡ people t → events_at s (people t) at ≡ lines.Good → (m p q : ℕ) → line.Bad m p ≡ event_at s k at
      → Due s t at n e (record { event = None; next = q; line = n; end = e })
  due-none k i good m p q h =
      record {
        line = refl;
        end = refl;
        bytes = bytes;
        left = by_cases (dec_le (length s) at) (λ l. l) (λ l. absurd (event_read s (people t) at (omega arith) good (line.Bad m p) (rw i at h) m p refl));
      }

-- an answer, and the next event
pub noted : (s t : List ℕ) (d : Turn) (u v : List ℕ) (k e : ℕ) (r : Turn) → Wrote u d.end (line_text (event_line d.line k)) v e → Due s t d.next (d.line + 1) e r → Noted s t d u k v r
noted s t d u v k e r w g =
    let q : r.end ≡ e = g.end in
    record {
      wrote = subst (λ (p : ℕ). Wrote u d.end (line_text (event_line d.line k)) v p) (sym q) w;
      due = subst (λ (p : ℕ). Due s t d.next (d.line + 1) p r) (sym q) g;
    }
