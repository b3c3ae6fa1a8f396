-- What is printed is the text of the answer, or the line of the refusal. Assumes nothing.
use mathlib.Core.Path.{◌≡◌, refl, sym, ap, ap₂, ◌∙◌, subst}
use Prim.Native.Nat.{ℕ, ◌-◌, ◌≤◌, ◌<◌, ◌+◌}
use native.Mathlib.Omega.{arith}
use mathlib.Core.Bool.{Bool, true, false, cond}
use mathlib.Core.Option.{Option}
use mathlib.Core.List.{List, [], ◌∷◌, ◌++◌, map, append_assoc}
use lib.ListN.{length, take, drop, replicate, length-append}
use lib.Seq.{length-take-le, take-append_seam, drop-append_seam}
use lib.Dec.{eqb, leb}
use borrow.Author.Tests.{le-leb, lt-leb}
use Rattle.bitml.specs.Lists.{gather, below}
use Rattle.bitml.specs.Rows as bitml
use Rattle.bitml.proofs.Counting.{gather-up}
use Rattle.tables.specs.SheetOf.{sheet_of, def_entry_at}
use Rattle.replies.specs.declared.Reply.{Reply}
use Rattle.texts.specs.Wrote.{Wrote}
use Rattle.texts.specs.Text.{line_text, lines_text, fields, line}
use Rattle.bitml.proofs.Lists.{drop-replicate}
use Rattle.texts.proofs.Writing.{wrote_none}
use Rattle.bitml.specs.Answers.{making, making_all, explaining, checking, playing, refused_line, Line, row_line, liquid_line, frozen_line, step_line, branch_line, taken_line, end_line, Answer, refused, printed, liquid_by, made_lines, made_by, made_for_all, why_lines, checked_by, event_lines, end_of, play_lines, answer}
use Rattle.replies.specs.Answer.{reply_of, bytes_of}
use Rattle.bitml.specs.Sheet.{Sheet}
use Rattle.bitml.specs.Ledger.{Event, stipulated}
use Rattle.bitml.specs.Limits.{answers, limited_play}
use Rattle.ledger.specs.Values.{values_of}
use Rattle.plays.specs.Events.{events_of}
use Rattle.bitml.specs.Rule.{Verdict, liquid, frozen, make}
use Rattle.texts.proofs.Texts.{lines-append, one_line}
use Rattle.bitml.specs.Rows.{check}
use Rattle.buffer.specs.Buffer.{places_of_all}
use Rattle.reading.specs.Request.{Reading, request, read_request}
use Rattle.reading.specs.Request.{refused as unread}
use Rattle.reading.specs.Request as part
use Rattle.promises.specs.Texts.{PromisedWhole}
use Rattle.promises.proofs.Whole.{promised_whole}
use Rattle.replies.specs.Before.{early}
use Rattle.checker.specs.Entry.{answer_for_all, answer_for, judged, answer_to, refused_in, text_in}

-- ---- the line of a refused request

module _ (number l f : ℕ) (u : List ℕ) where
  pub line-none : length u < 80 → Wrote u 0 (refused_in (length u) number l f) u 0
  unfolding refused_in
  line-none h = rw (lt-leb 80 (length u) h) (wrote_none u 0)

  pub line_whole : 80 ≤ length u → (v : List ℕ) (r : ℕ) → Wrote u 0 (line_text (refused_line number l f)) v r → Wrote u 0 (refused_in (length u) number l f) v r
  unfolding refused_in
  line_whole h v r w = rw (le-leb 80 (length u) h) w

-- ---- what is printed

-- an answer is a refusal, or has a last line
pub data Says : Answer → Type 0 where
  refusal : (n l f : ℕ) → Says (refused n l f)
  lines : (ls : List Line) (l : Line) (R : List bitml.Row) → Says (printed (ls ++ (l ∷ [])) R)

-- so does a verdict
record Ended (ls : List Line) : Type 0 where
  before : List Line
  last : Line
  is : ls ≡ before ++ (last ∷ [])

made-ended : (s : Sheet) (p : ℕ) (v : Verdict) → Ended (made_lines s p v)
unfolding made_lines
made-ended s p (liquid R) = record { before = map row_line R; last = liquid_by s p R; is = refl }
made-ended s p (frozen n) = record { before = []; last = frozen_line p n; is = refl }

-- and why it is so, as any lines do that begin with one
some-ended : (l : Line) (ls : List Line) → Ended (l ∷ ls)
some-ended l [] = record { before = []; last = l; is = refl }
some-ended l (k ∷ ls) = let e = some-ended k ls in record { before = l ∷ e.before; last = e.last; is = ap (λ xs. l ∷ xs) e.is }

why-ended : (s : Sheet) (p : ℕ) (v : Verdict) → Ended (why_lines s p v)
unfolding why_lines
why-ended s p (liquid R) = some-ended _ _
why-ended s p (frozen n) = some-ended _ _

ended_says : (ls : List Line) (R : List bitml.Row) → Ended ls → Says (printed ls R)
ended_says ls R e = subst (λ xs. Says (printed xs R)) (sym e.is) (lines e.before e.last R)

-- and the verdicts of one participant or more
all-ended : (s : Sheet) (K : ℕ) → 1 ≤ K → Ended (gather (λ p. made_lines s p (make s p)) (below K))
all-ended s K h =
    let f : ℕ → List Line = λ p. made_lines s p (make s p) in
    let e = made-ended s (K - 1) (make s (K - 1)) in
    let z : K ≡ K - 1 + 1 = omega arith in
    record {
      before = gather f (below (K - 1)) ++ e.before;
      last = e.last;
      is = ap (λ k. gather f (below k)) z ∙ gather-up f (K - 1) ∙ ap (λ xs. gather f (below (K - 1)) ++ xs) e.is ∙ sym (append_assoc (gather f (below (K - 1))) e.before (e.last ∷ []));
    }

checked_says : (s : Sheet) (p : ℕ) (R : List bitml.Row) (f : bitml.Fault) → Says (checked_by s p R f)
unfolding checked_by
checked_says s p R f = go (eqb f.number 0)
  where
    go : (x : Bool) → Says (cond x (printed (liquid_by s p R ∷ []) R) (refused f.number (length s.defs + 2 + f.place) 0))
    go true = lines [] (liquid_by s p R) R
    go false = refusal f.number (length s.defs + 2 + f.place) 0

say-making : (s : Sheet) (p : ℕ) → Says (answer (making s p))
unfolding answer made_by
say-making s p = ended_says _ _ (made-ended s p (make s p))

say-all : (n : ℕ) (s : Sheet) → 1 ≤ s.participants → Says (answer_for_all n s)
unfolding answer_for_all answer made_for_all
say-all n s h = go (leb places_of_all n)
  where
    go : (x : Bool) → Says (cond x (answer (making_all s)) (refused 7 0 0))
    go true = ended_says _ _ (all-ended s s.participants h)
    go false = refusal 7 0 0

say-explaining : (s : Sheet) (p : ℕ) → Says (answer (explaining s p))
unfolding answer
say-explaining s p = ended_says _ _ (why-ended s p (make s p))

say-checking : (s : Sheet) (p : ℕ) (R : List bitml.Row) → Says (answer (checking s p R))
unfolding answer
say-checking s p R = checked_says s p R (check s p R)

say-playing : (s : Sheet) (vs : List (Option ℕ)) (es : List Event) → Says (answer (playing s vs es))
unfolding answer play_lines
say-playing s vs es = lines (event_lines (length s.defs + 3) (answers s (stipulated s vs) es)) (end_of (limited_play s (stipulated s vs) es)) []

judged_says : (s : List ℕ) (n : ℕ) (w : Reading) → read_request s ≡ w → Says (judged s n w)
unfolding judged answer_for sheet_of PromisedWhole
judged_says s n (request K E (part.make p)) e = say-making (sheet_of K E) p
judged_says s n (request K E part.make_all) e = say-all n (sheet_of K E) (promised_whole s K E part.make_all e).0.limits.people.0
judged_says s n (request K E (part.why p)) e = say-explaining (sheet_of K E) p
judged_says s n (request K E (part.check p R)) e = say-checking (sheet_of K E) p R
judged_says s n (request K E (part.play v z)) e = say-playing (sheet_of K E) (values_of s v (def_entry_at E 0).secrets) (events_of s K z)
judged_says s n (unread i l f) e = refusal i l f

pub answer_says : (s : List ℕ) (n m : ℕ) → Says (answer_to s n m)
unfolding answer_to
answer_says s n m = go (eqb (early (length s) n m) 0)
  where
    go : (x : Bool) → Says (cond x (judged s n (read_request s)) (refused (early (length s) n m) 0 0))
    go true = judged_says s n (read_request s) refl
    go false = refusal (early (length s) n m) 0 0

line-some : (word ns : List ℕ) → 0 < length (line word ns)
unfolding line
line-some word ns =
    let e : length (line word ns) ≡ length (word ++ fields ns) + 1 = length-append (word ++ fields ns) (10 ∷ []) in
    omega (arith, e)

text-some : (l : Line) → 0 < length (line_text l)
unfolding line_text
text-some (row_line r) = line-some _ _
text-some (liquid_line p n k) = line-some _ _
text-some (frozen_line p n) = line-some _ _
text-some (step_line m) = line-some _ _
text-some (branch_line b c) = line-some _ _
text-some (refused_line n l f) = line-some _ _
text-some taken_line = line-some _ _
text-some (end_line t n ps) = line-some _ _

lines-some : (ls : List Line) (l : Line) → 0 < length (lines_text (ls ++ (l ∷ [])))
lines-some ls l =
    let e : lines_text (ls ++ (l ∷ [])) ≡ lines_text ls ++ line_text l = lines-append ls (l ∷ []) ∙ ap (λ xs. lines_text ls ++ xs) (one_line l) in
    omega (arith, text-some l, ap (λ xs. length xs) e, length-append (lines_text ls) (line_text l))

pub take_known : (r : ℕ) (u : List ℕ) → r ≤ length u → (r ≤ length u) × (r ≡ length (take r u))
take_known r u h = (h, sym (length-take-le r u h))

module _ (a : Answer) (m : ℕ) (r : Reply) (b : List ℕ) (told : r ≡ reply_of a) (wrote : b ≡ bytes_of m a) (long : length b ≡ m) where
  within : (a : Answer) → length (bytes_of m a) ≡ m → (reply_of a).length ≤ m
  unfolding reply_of bytes_of
  within (refused n l f) e = omega arith
  within (printed ls R) e = omega (arith, e, length-append (lines_text ls) (replicate (m - length (lines_text ls)) 0))

  pub answer-within : r.length ≤ length b
  answer-within = let h = within a (ap (λ u. length u) (sym wrote) ∙ long) in omega (arith, h, ap (λ (q : Reply). q.length) told)

  pub answer_shown : 0 < r.length → take r.length b ≡ text_in m a
  unfolding reply_of bytes_of text_in
  answer_shown h = ap₂ (λ (q : Reply) u. take q.length u) told wrote ∙ go a (subst (λ (q : Reply). 0 < q.length) told h)
    where
      go : (a : Answer) → 0 < (reply_of a).length → take (reply_of a).length (bytes_of m a) ≡ text_in m a
      go (refused n l f) h = absurd (omega (arith, h))
      go (printed ls R) h = take-append_seam (lines_text ls) (replicate (m - length (lines_text ls)) 0)

  pub answer-behind : drop r.length b ≡ replicate (m - r.length) 0
  unfolding reply_of bytes_of
  answer-behind = ap₂ (λ (q : Reply) u. drop q.length u) told wrote ∙ go a ∙ ap (λ (q : Reply). replicate (m - q.length) 0) (sym told)
    where
      go : (a : Answer) → drop (reply_of a).length (bytes_of m a) ≡ replicate (m - (reply_of a).length) 0
      go (refused n l f) = drop-replicate 0 m 0
      go (printed ls R) = drop-append_seam (lines_text ls) (replicate (m - length (lines_text ls)) 0)

  pub refusal_shown : Says a → r.length ≤ 0 → (v : List ℕ) (k : ℕ) → Wrote b 0 (refused_in (length b) r.number r.line r.field) v k → take k v ≡ text_in m a
  unfolding reply_of text_in
  refusal_shown y e v k w =
      w.front ∙ ap₂ (λ n (q : Reply). refused_in n q.number q.line q.field) long told ∙ go a y (subst (λ (q : Reply). q.length ≤ 0) told e)
    where
      go : (a : Answer) → Says a → (reply_of a).length ≤ 0 → refused_in m (reply_of a).number (reply_of a).line (reply_of a).field ≡ text_in m a
      go a (refusal n l f) h = refl
      go a (lines ls l R) h = absurd (omega (arith, h, lines-some ls l))

  pub refusal-behind : r.length ≤ 0 → {xs v : List ℕ} {k : ℕ} → Wrote b 0 xs v k → drop k v ≡ replicate (m - k) 0
  refusal-behind e {xs} {v} {k} w =
      let none : 0 ≡ r.length = omega (arith, e) in
      let left : m - r.length - k ≡ m - k = omega (arith, e) in
      w.rest ∙ ap (λ u. drop k u) (ap (λ i. drop i b) none ∙ answer-behind) ∙ drop-replicate k (m - r.length) 0 ∙ ap (λ i. replicate i 0) left
