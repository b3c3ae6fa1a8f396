-- Demands 2 and 3 of the reply to every request. Assumes nothing.
use mathlib.Core.Path.{◌≡◌, refl, sym, ap, ◌∙◌, subst, subst₂}
use mathlib.Core.Logic.{◌⊎◌, inl, inr, ⊎_elim, by_cases}
use Prim.Native.Nat.{ℕ, ◌+◌, ◌≤◌, ◌<◌}
use native.Mathlib.Omega.{arith}
use native.Mathlib.Decide.{dec_le}
use mathlib.Core.Bool.{cond}
use mathlib.Core.Option.{Option}
use mathlib.Core.List.{List, [], ◌++◌, map}
use lib.ListN.{length}
use lib.Dec.{eqb}
use borrow.Author.Tests.{eq-eqb, ne_eqb, le-leb}
use Rattle.bitml.specs.Lists.{sum}
use Rattle.bitml.specs.Sheet.{Sheet}
use Rattle.bitml.specs.Promises.{WellFormed}
use Rattle.bitml.specs.Rows as rows
use Rattle.bitml.specs.Rows.{Row, Accepted}
use Rattle.bitml.specs.Rule as rule
use Rattle.bitml.specs.Liquidity.{Liquidity}
use Rattle.bitml.specs.Why.{Why, steps_to, causes}
use Rattle.bitml.specs.Ledger.{Event, stipulated}
use Rattle.bitml.specs.Limits.{answers, limited_play}
use Rattle.bitml.specs.Taken.{WithinLimits}
use Rattle.bitml.specs.Answers.{making, making_all, explaining, checking, playing, event_lines, play_lines, row_line, frozen_line, step_line, refused, printed, liquid_by, made_lines, made_rows, made_by, made_for_all, branch_lines, why_lines, checked_by, answer}
use Rattle.bitml.proofs.Demands.{demands}
use Rattle.bitml.proofs.Taken.{stipulated-within}
use Rattle.tables.specs.Entries.{Entries}
use Rattle.tables.specs.SheetOf.{sheet_of, def_entry_at}
use Rattle.tables.proofs.SheetOf.{deposits-are}
use Rattle.reading.specs.Promises.{Promises}
use Rattle.reading.specs.Request.{request, LastPart, make, make_all, why, check, play, read_request}
use Rattle.reading.proofs.Formed.{well_formed_lem}
use Rattle.promises.specs.Texts.{PromisedWhole}
use Rattle.promises.proofs.Whole.{promised_whole}
use Rattle.ledger.specs.Values.{values_of}
use Rattle.plays.specs.Events.{events_of}
use Rattle.checker.specs.Entry.{answer_for, answer_for_all, judged, answer_to}
use Rattle.checker.specs.Demands.{Leaves, MadeRows, MadeFrozen, MadeForAll, WhyLiquid, WhyFrozen, SameVerdict, RowsTaken, RowsRefused, Played, Room, OfReplies}
use Rattle.replies.proofs.Before.{early-none}

-- ---- one sheet

module _ (S : Sheet) (wf : WellFormed S) (p : ℕ) where
  leaves : (R : List Row) → Accepted S p R → Leaves S p R
  unfolding Leaves Liquidity
  leaves R ok = demands.liquidity S wf p R ok.asked

  made : MadeRows S p (answer (making S p)) ⊎ MadeFrozen S p (answer (making S p))
  unfolding answer made_lines made_rows made_by
  made = ⊎_elim
      (λ v.
      let ok = (demands.check-is-accepted S p _).0 (demands.published S wf p v.1).1 in
      inl (record { answer = ap (made_by S p) v.0; liquid = v.1; published = (demands.make-is-published S wf p _).0 v.0; accepted = ok; leaves = leaves _ ok }))
      (λ v. inr (record { node = v.0; answer = ap (made_by S p) v.1; frozen = v.2 }))
      (demands.verdict S wf p)

  explained : WhyLiquid S p (answer (explaining S p)) ⊎ WhyFrozen S p (answer (explaining S p))
  unfolding answer why_lines Why
  explained = ⊎_elim
      (λ v. inl (record { answer = ap (λ x. printed (why_lines S p x) []) v.0; liquid = v.1 }))
      (λ v.
      let e = demands.why S wf p v.0 v.1 in
      inr (record {
        node = v.0;
        steps = steps_to S v.0;
        causes = causes S p v.0;
        answer = ap (λ x. printed (why_lines S p x) []) v.1;
        frozen = v.2;
        way = e.steps;
        each = e.each;
        branch = e.branch;
      }))
      (demands.verdict S wf p)

  shared : SameVerdict (answer (making S p)) (answer (explaining S p))
  unfolding answer made_lines made_rows made_by why_lines
  shared = go (rule.make S p)
    where
      go : (v : rule.Verdict) → SameVerdict (made_by S p v) (printed (why_lines S p v) [])
      go (rule.liquid R) = record { line = liquid_by S p R; before = map row_line R; behind = []; held = R; made = refl; told = refl }
      go (rule.frozen n) =
          record { line = frozen_line p n; before = []; behind = map step_line (steps_to S n) ++ branch_lines 0 (causes S p n); held = []; made = refl; told = refl }

  checked : (R : List Row) → RowsTaken S p R (answer (checking S p R)) ⊎ RowsRefused S p R (answer (checking S p R))
  unfolding answer checked_by
  checked R = by_cases (dec_le 1 (rows.check S p R).number) (λ h. inr (declined h)) (λ h. inl (taken (omega arith)))
    where
      taken : (rows.check S p R).number ≡ 0 → RowsTaken S p R (answer (checking S p R))
      taken e = let ok = (demands.check-is-accepted S p R).0 e in record { answer = rw (eq-eqb _ _ e); accepted = ok; leaves = leaves R ok }

      declined : 1 ≤ (rows.check S p R).number → RowsRefused S p R (answer (checking S p R))
      declined h = record {
        number = (rows.check S p R).number;
        place = (rows.check S p R).place;
        answer = rw (ne_eqb (rows.check S p R).number 0 (λ e. omega (arith, h)));
        fault = (demands.check-is-fault S p R (rows.check S p R).number (rows.check S p R).place).0 (h, refl);
        unaccepted = λ ok. let e = (demands.check-is-accepted S p R).1 ok in omega (arith, h);
      }

made_for_all_lem : (S : Sheet) → WellFormed S → MadeForAll S (answer (making_all S))
unfolding answer made_for_all made_by
made_for_all_lem S wf =
    record { lines = λ p. made_lines S p (rule.make S p); held = λ p. made_rows (rule.make S p); answer = refl; each = λ p. made S wf p }

played : (S : Sheet) (vs : List (Option ℕ)) (es : List Event) → WithinLimits S (stipulated S vs) → Played S vs es (answer (playing S vs es))
unfolding answer play_lines
played S vs es w =
    let k = length S.defs + 3 in
    let l = stipulated S vs in
    let each = (demands.events-taken.played S l w k es (event_lines k (answers S l es)) (limited_play S l es)).1 (refl, refl) in
    let plain = demands.events-taken.plainly S k l (limited_play S l es) es (event_lines k (answers S l es)) each in
    record {
      lines = event_lines k (answers S l es);
      ledger = limited_play S l es;
      answer = refl;
      each = each;
      only = λ ls l' h. (demands.events-taken.played S l w k es ls l').0 h;
      taken = plain.0;
      plain = plain.1;
      limits = demands.events-taken.limits_kept S k l (limited_play S l es) es (event_lines k (answers S l es)) w each;
    }

-- "deposits of one definition together 2,100,000,000,000,000": so a play begins within the limits
begins_within : (K : ℕ) (E : Entries) → Promises K E → (vs : List (Option ℕ)) → WithinLimits (sheet_of K E) (stipulated (sheet_of K E) vs)
begins_within K E ok vs =
    let some : 0 < length E.defs = omega (arith, ok.limits.defs.0) in
    stipulated-within (sheet_of K E) vs (subst (λ ds. sum ds ≤ 2100000000000000) (sym (deposits-are K E 0 some)) (ok.def 0 some).deposits)

-- ---- from the bytes on

-- where neither 1 nor a short buffer comes first, what is read is answered
pub answer-room : (s : List ℕ) (places text : ℕ) → Room s places text → answer_to s places text ≡ judged s places (read_request s)
unfolding answer_to
answer-room s places text r =
    ap (λ n. cond (eqb n 0) (judged s places (read_request s)) (refused n 0 0)) (sym (early-none (length s) places text r.bytes r.enough-places r.enough-text))

-- a request that is read whole is answered by its last part
pub answer-read : (s : List ℕ) (places text : ℕ) → Room s places text → (K : ℕ) (E : Entries) (l : LastPart) → read_request s ≡ request K E l → answer_to s places text ≡ answer_for s places K E l
unfolding judged
answer-read s places text room K E l e = answer-room s places text room ∙ ap (judged s places) e

pub formed : (s : List ℕ) (K : ℕ) (E : Entries) (l : LastPart) → read_request s ≡ request K E l → WellFormed (sheet_of K E)
unfolding PromisedWhole
formed s K E l e = well_formed_lem K E (promised_whole s K E l e).0

pub of_replies : OfReplies
unfolding answer_for answer_for_all PromisedWhole
of_replies =
    record {
      making = λ s places text room K E p e.
          subst (λ a. MadeRows (sheet_of K E) p a ⊎ MadeFrozen (sheet_of K E) p a) (sym (answer-read s places text room K E (make p) e)) (made (sheet_of K E) (formed s K E (make p) e) p);
      making-all = λ s places text room enough K E e.
          subst (MadeForAll (sheet_of K E)) (sym (answer-read s places text room K E make_all e ∙ rw (le-leb _ _ enough))) (made_for_all_lem (sheet_of K E) (formed s K E make_all e));
      explaining = λ s places text room K E p e.
          subst (λ a. WhyLiquid (sheet_of K E) p a ⊎ WhyFrozen (sheet_of K E) p a) (sym (answer-read s places text room K E (why p) e)) (explained (sheet_of K E) (formed s K E (why p) e) p);
      same-verdict = λ s u places text room room' K E p e f.
          subst₂ SameVerdict (sym (answer-read s places text room K E (make p) e)) (sym (answer-read u places text room' K E (why p) f)) (shared (sheet_of K E) (formed s K E (make p) e) p);
      checking = λ s places text room K E p R e.
          subst (λ a. RowsTaken (sheet_of K E) p R a ⊎ RowsRefused (sheet_of K E) p R a) (sym (answer-read s places text room K E (check p R) e)) (checked (sheet_of K E) (formed s K E (check p R) e) p R);
      playing = λ s places text room K E v e q.
          let vs = values_of s v (def_entry_at E 0).secrets in
          subst (Played (sheet_of K E) vs (events_of s K e)) (sym (answer-read s places text room K E (play v e) q))
          (played (sheet_of K E) vs (events_of s K e) (begins_within K E (promised_whole s K E (play v e) q).0 vs));
    }
