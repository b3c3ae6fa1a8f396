-- Every refused request has one reason, and its number is from 1 to 13 or 21; every event of a play gets 0 or 14 to 19. Assumes nothing.
use mathlib.Core.Path.{◌≡◌, refl, sym, ap, ◌∙◌, subst}
use mathlib.Core.Logic.{◌⊎◌, inl, inr, ⊎_elim, by_cases}
use Prim.Native.Nat.{ℕ, ◌+◌, ◌≤◌, ◌<◌}
use native.Mathlib.Omega.{arith}
use native.Mathlib.Decide.{dec_le}
use mathlib.Core.Bool.{false, cond}
use mathlib.Core.Option.{Option}
use mathlib.Core.List.{List, [], ◌∷◌}
use lib.ListN.{length}
use lib.Dec.{leb, eqb}
use borrow.Author.Tests.{le-leb, lt-leb, ne_eqb, eqb-false}
use Rattle.bitml.specs.Lists.{◌&◌}
use Rattle.bitml.specs.Sheet.{Sheet}
use Rattle.bitml.specs.Rows as rows
use Rattle.bitml.specs.Rows.{Row, Wrong, missing, foreign, low, FaultAt, twice, fall, rootless, row}
use Rattle.bitml.specs.Ledger.{Event}
use Rattle.bitml.specs.Answers.{liquid_by, Answer, refused, printed, making, explaining, checking, playing, made_by, made_for_all, checked_by, answer, places_of_one}
use Rattle.bitml.proofs.Lists.{and_no, and_false, and_i}
use Rattle.bitml.proofs.Demands.{demands}
use Rattle.fields.proofs.Ranges.{cond_cases}
use Rattle.tables.specs.Entries.{Entries}
use Rattle.tables.specs.SheetOf.{sheet_of, def_entry_at}
use Rattle.buffer.specs.Buffer.{places_of_all}
use Rattle.reading.specs.Request.{Reading, request, LastPart, make, make_all, why, check, play, read_request}
use Rattle.reading.specs.Request.{refused as unread}
use Rattle.promises.specs.Refusals.{ReadNumber, OfReadings}
use Rattle.promises.proofs.Refusals.{of_readings}
use Rattle.promises.proofs.Events.{of_events}
use Rattle.replies.specs.Answer.{least_text}
use Rattle.ledger.specs.Values.{values_of}
use Rattle.plays.specs.Events.{events_of}
use Rattle.plays.proofs.Ranges.{events-range}
use Rattle.checker.specs.Demands.{Room}
use Rattle.checker.specs.Entry.{answer_for_all, answer_for, judged, answer_to}
use Rattle.checker.specs.Refusals.{Why, tooLong, shortBuffers, notRead, fewPlaces, rowsRefused, Refused, long, short, misread, few, declined, RowsNumber, Placed, OfRefusals}
use Rattle.replies.proofs.Before.{early-long, early-rows, early-text}
use Rattle.checker.proofs.Entry.{all-few, all-enough}
use Rattle.checker.proofs.Demands.{answer-room, answer-read, formed}

-- ---- what comes before reading

module _ (s : List ℕ) (places text : ℕ) where
  abbrev early-answer : ℕ → Answer
  early-answer n = cond (eqb n 0) (judged s places (read_request s)) (refused n 0 0)

  answer-long : 65536 < length s → answer_to s places text ≡ refused 1 0 0
  unfolding answer_to
  answer-long h = ap early-answer (sym (early-long (length s) places text h))

  answer-short : length s ≤ 65536 → (places < places_of_one) ⊎ (text < least_text) → answer_to s places text ≡ refused 7 0 0
  unfolding answer_to
  answer-short h i =
      by_cases (dec_le places_of_one places)
      (λ k. ap early-answer (sym (early-text (length s) places text h k (⊎_elim (λ j. absurd (omega (arith, j, k))) (λ j. j) i))))
      (λ k. ap early-answer (sym (early-rows (length s) places text h (omega arith))))

  answer_unread : (n l f : ℕ) → Room s places text → read_request s ≡ unread n l f → answer_to s places text ≡ refused n l f
  unfolding judged
  answer_unread n l f r e = answer-room s places text r ∙ ap (judged s places) e

-- ---- one reason

-- the reason, where there is one
unfoldable part_why : LastPart → Why
part_why make_all = fewPlaces
part_why (make p) = rowsRefused
part_why (why p) = rowsRefused
part_why (check p R) = rowsRefused
part_why (play v e) = rowsRefused

unfoldable reading_why : Reading → Why
reading_why (request K E l) = part_why l
reading_why (unread n l f) = notRead

unfoldable why_of : List ℕ → ℕ → ℕ → Why
why_of s places text = cond (leb (length s) 65536) (cond (leb places_of_one places & leb least_text text) (reading_why (read_request s)) shortBuffers) tooLong

short_test : (places text : ℕ) → (places < places_of_one) ⊎ (text < least_text) → (leb places_of_one places & leb least_text text) ≡ false
short_test places text i = ⊎_elim (λ h. and_false _ _ (lt-leb _ _ h)) (λ h. and_no _ _ (lt-leb _ _ h)) i

module _ {s : List ℕ} {places text : ℕ} where
  room-why : Room s places text → why_of s places text ≡ reading_why (read_request s)
  unfolding why_of
  room-why r = rw (le-leb _ _ r.bytes, and_i _ _ (le-leb _ _ r.enough-places) (le-leb _ _ r.enough-text))

  refused_why : {w : Why} {n l f : ℕ} → Refused s places text w n l f → why_of s places text ≡ w
  unfolding why_of reading_why part_why
  refused_why (long h) = rw (lt-leb _ _ h)
  refused_why (short h i) = rw (le-leb _ _ h, short_test places text i)
  refused_why (misread r e) = room-why r ∙ ap reading_why e
  refused_why (few r e h) = room-why r ∙ ap reading_why e
  refused_why (declined r e d) = room-why r ∙ ap reading_why e

-- ---- the refusals of rows

wrong_number : {S : Sheet} {p : ℕ} {R : List Row} {r : Row} {n : ℕ} → Wrong S p R r n → RowsNumber n
wrong_number (missing b m h i e) = inl (omega arith, omega arith)
wrong_number (foreign h i) = inl (omega arith, omega arith)
wrong_number (low h i l) = inl (omega arith, omega arith)

fault-number : {S : Sheet} {p : ℕ} {R : List Row} {n i : ℕ} → FaultAt S p R n i → RowsNumber n
fault-number (twice before after r e h i) = inl (omega arith, omega arith)
fault-number (fall before after q r d e u h) = inr refl
fault-number (rootless d u e) = inl (omega arith, omega arith)
fault-number (row before after r n d u e q a w) = wrong_number w

fault-answer : (S : Sheet) (p : ℕ) (R : List Row) (n i : ℕ) → FaultAt S p R n i → answer (checking S p R) ≡ refused n (length S.defs + 2 + i) 0
unfolding answer checked_by
fault-answer S p R n i d =
    let w = (demands.check-is-fault S p R n i).1 d in
    ap (checked_by S p R) w.1 ∙ rw (ne_eqb n 0 (λ e. omega (arith, w.0)))

-- ---- each reason is told, within its numbers and places

module _ {s : List ℕ} {places text : ℕ} where
  refused-told : {w : Why} {n l f : ℕ} → Refused s places text w n l f → answer_to s places text ≡ refused n l f
  unfolding answer_for
  refused-told (long h) = answer-long s places text h
  refused-told (short h i) = answer-short s places text h i
  refused-told (misread {n = n} {l = l} {f = f} r e) = answer_unread s places text n l f r e
  refused-told (few {K = K} {E = E} r e h) = answer-read s places text r K E make_all e ∙ sym (all-few places (sheet_of K E) h)
  refused-told (declined {K = K} {p = p} {n = n} {i = i} {E = E} {R = R} r e d) = answer-read s places text r K E (check p R) e ∙ fault-answer (sheet_of K E) p R n i d

  refused-placed : {w : Why} {n l f : ℕ} → Refused s places text w n l f → Placed w n l f
  unfolding Placed OfReadings
  refused-placed (long h) = (refl, refl, refl)
  refused-placed (short h i) = (refl, refl, refl)
  refused-placed (misread {n = n} {l = l} {f = f} r e) = of_readings s n l f e
  refused-placed (few r e h) = (refl, refl, refl)
  refused-placed (declined {K = K} {p = p} {E = E} {R = R} r e d) =
      (fault-number d, omega (arith, (formed s K E (check p R) e).some-def), refl)

placed-number : (w : Why) (n l f : ℕ) → Placed w n l f → ((1 ≤ n) × (n ≤ 13)) ⊎ (n ≡ 21)
unfolding Placed ReadNumber
placed-number tooLong n l f h = inl (omega (arith, h.0), omega (arith, h.0))
placed-number shortBuffers n l f h = inl (omega (arith, h.0), omega (arith, h.0))
placed-number notRead n l f h = inl (omega (arith, h.number.0), omega (arith, h.number.1))
placed-number fewPlaces n l f h = inl (omega (arith, h.0), omega (arith, h.0))
placed-number rowsRefused n l f h = ⊎_elim (λ k. inl (omega (arith, k.0), k.1)) (λ k. inr k) h.0

-- ---- what each last part is answered

module _ (s : List ℕ) (places text : ℕ) where
  unfoldable Reasoned : Answer → Type 0
  Reasoned (refused n l f) = (w : Why) × Refused s places text w n l f
  Reasoned (printed ls R) = Unit {0}

  made : (S : Sheet) (p : ℕ) → Reasoned (answer (making S p))
  unfolding answer made_by Reasoned
  made S p = tt

  explained : (S : Sheet) (p : ℕ) → Reasoned (answer (explaining S p))
  unfolding answer Reasoned
  explained S p = tt

  made_for_all_lem : (K : ℕ) (E : Entries) → Room s places text → read_request s ≡ request K E make_all → Reasoned (answer_for_all places (sheet_of K E))
  unfolding answer made_for_all Reasoned
  made_for_all_lem K E r e =
      by_cases (dec_le places_of_all places)
      (λ h. subst Reasoned (all-enough places (sheet_of K E) h) tt)
      (λ h. subst Reasoned (all-few places (sheet_of K E) (omega arith)) (fewPlaces, few r e (omega arith)))

  played : (S : Sheet) (vs : List (Option ℕ)) (es : List Event) → Reasoned (answer (playing S vs es))
  unfolding answer Reasoned
  played S vs es = tt

  checked : (K p : ℕ) (E : Entries) (R : List Row) → Room s places text → read_request s ≡ request K E (check p R) → Reasoned (answer (checking (sheet_of K E) p R))
  unfolding answer checked_by Reasoned
  checked K p E R r e =
      let S = sheet_of K E in
      let f = rows.check S p R in
      cond_cases Reasoned (eqb f.number 0) (printed (liquid_by S p R ∷ []) R) (refused f.number (length S.defs + 2 + f.place) 0) (λ z. tt) λ z.
      let none : f.number ≡ 0 → ⊥ = eqb-false _ _ z in
      let some : 0 < f.number = omega arith in
      let fault = (demands.check-is-fault S p R f.number f.place).0 (some, refl) in
      (rowsRefused, declined r e fault)

  reading : Room s places text → (w : Reading) → read_request s ≡ w → Reasoned (judged s places w)
  unfolding judged answer_for Reasoned
  reading r (request K E (make p)) e = made (sheet_of K E) p
  reading r (request K E make_all) e = made_for_all_lem K E r e
  reading r (request K E (why p)) e = explained (sheet_of K E) p
  reading r (request K E (check p R)) e = checked K p E R r e
  reading r (request K E (play v z)) e = played (sheet_of K E) (values_of s v (def_entry_at E 0).secrets) (events_of s K z)
  reading r (unread n l f) e = (notRead, misread r e)

  narrow : length s ≤ 65536 → (places < places_of_one) ⊎ (text < least_text) → Reasoned (answer_to s places text)
  unfolding Reasoned
  narrow h i = subst Reasoned (sym (answer-short s places text h i)) (shortBuffers, short h i)

  reasoned : Reasoned (answer_to s places text)
  unfolding Reasoned
  reasoned =
      by_cases (dec_le (length s) 65536)
      (λ h. by_cases (dec_le places_of_one places)
      (λ i. by_cases (dec_le least_text text)
      (λ j.
      let r : Room s places text = record { bytes = h; enough-places = i; enough-text = j } in
      subst Reasoned (sym (answer-room s places text r)) (reading r (read_request s) refl))
      (λ j. narrow h (inr (omega arith))))
      (λ i. narrow h (inl (omega arith))))
      (λ h. subst Reasoned (sym (answer-long s places text (omega arith))) (tooLong, long (omega arith)))

pub of_refusals : OfRefusals
unfolding Reasoned
of_refusals =
    record {
      why = λ s places text n l f. (λ e. subst (Reasoned s places text) e (reasoned s places text), λ h. refused-told h.1);
      alone = λ s places text h i. sym (refused_why h) ∙ refused_why i;
      ranges = λ s places text h. refused-placed h;
      number = λ s places text n l f e. let h = subst (Reasoned s places text) e (reasoned s places text) in placed-number h.0 n l f (refused-placed h.1);
      events = λ s K v e E h. of_events.all _ _ (events_of s K e) (events-range s K e);
    }
