-- What `make` printed is read as the rows of `check`, and accepted; and so is every file, once sorted, that only its order was against.
-- Assumes nothing.
use mathlib.Core.Path.{◌≡◌, refl, sym, ap, ap₂, ◌∙◌, subst}
use Prim.Native.Nat.{ℕ, suc, ◌+◌, ◌≤◌, ◌<◌, ◌*◌}
use native.Mathlib.Omega.{arith}
use mathlib.Core.List.{List, [], ◌∷◌, ◌++◌, map, Permᴰ}
use lib.ListN.{length, get_or, length-append}
use borrow.Author.Tests.{eq-eqb}
use Rattle.bitml.specs.Lists.{All, nil, cons}
use Rattle.bitml.specs.Sheet.{Sheet, def_at}
use Rattle.bitml.specs.Runs.{Liquid}
use Rattle.bitml.specs.Rows.{Row, InAnyOrder}
use Rattle.bitml.specs.Rows as rule-rows
use Rattle.bitml.specs.Sorting.{sorted}
use Rattle.bitml.specs.Rule.{rows}
use Rattle.bitml.specs.Rule as rule
use Rattle.bitml.specs.Answers.{row_line, liquid_line, printed, liquid_by, made_lines, made_rows, made_by, checked_by, answer, places_of_one}
use Rattle.bitml.proofs.Lists.{all_imp}
use Rattle.bitml.proofs.Sorting.{perm-all, perm-rank}
use Rattle.bitml.proofs.Demands.{demands}
use Rattle.tables.specs.Entries.{Entries}
use Rattle.tables.specs.SheetOf.{node_entry_at, sheet_of}
use Rattle.buffer.specs.Buffer.{row}
use Rattle.lines.specs.Sheet.{accepted, read_sheet}
use Rattle.requests.specs.Rows.{RowFits}
use Rattle.reading.specs.Promises.{Promises}
use Rattle.reading.specs.Request.{request, make, check, read_request}
use Rattle.reading.proofs.Formed.{well_formed_lem}
use Rattle.promises.specs.Parts.{PartPromise}
use Rattle.promises.specs.Texts.{Promised, PromisedWhole}
use Rattle.promises.proofs.Promised.{promised}
use Rattle.promises.proofs.Whole.{promised_whole}
use Rattle.texts.specs.Text.{line_text, lines_text}
use Rattle.texts.proofs.Texts.{lines-append, one_line}
use Rattle.texts.proofs.Lengths.{Short, rows_short}
use Rattle.replies.specs.Answer.{least_text}
use Rattle.writing.specs.Requests.{make_request, check_request}
use Rattle.writing.proofs.Requests.{check-length, make-short, check-short, make_reads, check_reads}
use Rattle.verdicts.proofs.Verdicts.{made-few, made-printed}
use Rattle.checker.specs.Entry.{answer_for, answer_to, places_of, text_in}
use Rattle.checker.specs.Demands.{Room}
use Rattle.checker.proofs.Demands.{answer-read}
use Rattle.exchange.specs.Exchange.{file_of, last_line, Exchanged, Resorted, OfFiles}

-- ---- a file that is read as rows that are accepted

module _ (t : List ℕ) (K : ℕ) (E : Entries) (p : ℕ) (R : List Row) (places text : ℕ) where
  taken : Room (check_request t p (file_of R)) places text → read_request (check_request t p (file_of R)) ≡ request K E (check p R)
      → (rule-rows.check (sheet_of K E) p R).number ≡ 0 → answer_to (check_request t p (file_of R)) places text ≡ printed (liquid_by (sheet_of K E) p R ∷ []) R
  unfolding answer_for answer checked_by
  taken room e z = answer-read (check_request t p (file_of R)) places text room K E (check p R) e ∙ rw (eq-eqb (rule-rows.check (sheet_of K E) p R).number 0 z)

  taken-line : answer_to (check_request t p (file_of R)) places text ≡ printed (liquid_by (sheet_of K E) p R ∷ []) R
      → text_in text (answer_to (check_request t p (file_of R)) places text) ≡ last_line (sheet_of K E) p R
  unfolding text_in last_line
  taken-line e = ap (text_in text) e ∙ one_line (liquid_by (sheet_of K E) p R)

-- ---- the rows of `make`

module _ (t : List ℕ) (K : ℕ) (E : Entries) (h : read_sheet t ≡ accepted K (length t) E) (p : ℕ) (l : p < K) (f : Liquid (sheet_of K E) p) where
  abbrev S : Sheet
  S = sheet_of K E

  abbrev R : List Row
  R = rows S p

  promises : Promises K E
  unfolding Promised
  promises = promised t K (length t) E h

  -- Demand 3, second half
  both : (rule.make S p ≡ rule.liquid R) × ((rule-rows.check S p R).number ≡ 0)
  both = demands.published S (well_formed_lem K E promises) p f

  made-are : made_rows (rule.make S p) ≡ R
  unfolding made_rows
  made-are = ap made_rows both.0

  few : length R ≤ places_of_one
  few = subst (λ Q. length Q ≤ places_of_one) made-are (made-few K E promises p)

  fit : All (λ r. RowFits (λ n. (node_entry_at E n).count) (length E.nodes) r × Short r) R
  fit = subst (All (λ r. RowFits (λ n. (node_entry_at E n).count) (length E.nodes) r × Short r)) made-are (made-printed K E promises p)

  read_as_lem : read_request (check_request t p (file_of R)) ≡ request K E (check p R)
  unfolding file_of
  read_as_lem = check_reads t K E h p l R few (all_imp (λ r z. z.0) fit)

  file_short : length (file_of R) ≤ 16 * places_of_one
  unfolding file_of
  file_short = let a : All Short R = all_imp (λ r z. z.1) fit in omega (arith, rows_short a, few)

  module _ (places text : ℕ) (hp : places_of_one ≤ places) (ht : least_text ≤ text) where
    fits : (s : List ℕ) → length s ≤ 65536 → Room s places text
    fits s k = record { bytes = k; enough-places = hp; enough-text = ht }

    made : answer_to (make_request t p) places text ≡ printed (map row_line R ++ (liquid_by S p R ∷ [])) R
    unfolding answer_for answer made_by made_lines made_rows
    made = answer-read (make_request t p) places text (fits _ (make-short t K E h p)) K E (make p) (make_reads t K E h p l) ∙ ap (made_by S p) both.0

    given : answer_to (check_request t p (file_of R)) places text ≡ printed (liquid_by S p R ∷ []) R
    given = taken t K E p R places text (fits _ (check-short t K E h p (file_of R) (omega (arith, file_short)))) read_as_lem both.1

    exchanged : Exchanged t places text K E p
    unfolding text_in places_of file_of last_line
    exchanged =
        record {
          printed = ap (text_in text) made ∙ lines-append (map row_line R) (liquid_by S p R ∷ []) ∙ ap (λ u. lines_text (map row_line R) ++ u) (one_line (liquid_by S p R));
          read = read_as_lem;
          taken = taken-line t K E p R places text given;
          held = ap (places_of places) given ∙ sym (ap (places_of places) made);
        }

-- ---- rows in another order

abbrev width : Row → ℕ
width r = length (line_text (row_line r))

file_more : (r : Row) (R : List Row) → length (file_of (r ∷ R)) ≡ width r + length (file_of R)
unfolding file_of lines_text
file_more r R = length-append (line_text (row_line r)) (lines_text (map row_line R))

-- there are as many, and their file is as long
perm-long : {R Q : List Row} → Permᴰ R Q → (length R ≡ length Q) × (length (file_of R) ≡ length (file_of Q))
perm-long Permᴰ.nil = (refl, refl)
perm-long (Permᴰ.cons {a = a} {b = b} {l₁ = R} {l₂ = Q} e d) =
    let w = perm-long d in (ap suc w.0, omega (arith, w.1, ap width e, file_more a R, file_more b Q))
perm-long (Permᴰ.swap {a} {b} {a'} {b'} {l = R} e f) =
    (refl, omega (arith, ap width e, ap width f, file_more a (b ∷ R), file_more b R, file_more a' (b' ∷ R), file_more b' R))
perm-long (Permᴰ.trans d d') = ((perm-long d).0 ∙ (perm-long d').0, (perm-long d).1 ∙ (perm-long d').1)

all-given : {Q : Row → Type 0} (R : List Row) → ((i : ℕ) → i < length R → Q (get_or R i (row 0 0 0))) → All Q R
all-given [] f = nil
all-given (r ∷ R) f = cons (f 0 (omega arith)) (all-given R λ i h. f (suc i) (omega arith))

module _ (t : List ℕ) (K : ℕ) (E : Entries) (h : read_sheet t ≡ accepted K (length t) E) (p : ℕ) (R : List Row) (e : read_request (check_request t p (file_of R)) ≡ request K E (check p R)) (a : InAnyOrder (sheet_of K E) p R) where
  same : Permᴰ R (sorted R)
  same = demands.sorted_keeps R

  sorted-read : read_request (check_request t p (file_of (sorted R))) ≡ request K E (check p (sorted R))
  unfolding PromisedWhole PartPromise file_of
  sorted-read =
      let w = (promised_whole (check_request t p (file_of R)) K E (check p R) e).1 in
      check_reads t K E h p w.0 (sorted R) (omega (arith, w.1.few, (perm-long same).0)) (perm-all same (all-given R w.1.each))

  same_line : liquid_by (sheet_of K E) p (sorted R) ≡ liquid_by (sheet_of K E) p R
  unfolding liquid_by
  same_line = ap₂ (liquid_line p) (sym (perm-long same).0) (sym (perm-rank same a.distinct (def_at (sheet_of K E) 0).root))

  resorted : (places text : ℕ) → Room (check_request t p (file_of R)) places text → Resorted t places text K E p R
  unfolding last_line
  resorted places text room =
      let ok = (demands.check-is-accepted (sheet_of K E) p (sorted R)).1 (demands.sorted-accepted (sheet_of K E) p R a) in
      let fits : Room (check_request t p (file_of (sorted R))) places text =
      record { bytes = omega (arith, room.bytes, (perm-long same).1, check-length t p (file_of R), check-length t p (file_of (sorted R))); enough-places = room.enough-places; enough-text = room.enough-text } in
      record {
        read = sorted-read;
        taken = taken-line t K E p (sorted R) places text (taken t K E p (sorted R) places text fits sorted-read ok) ∙ ap line_text same_line;
      }

-- THE CLAIMS
pub of_files : OfFiles
of_files = record { made = exchanged; sorted = resorted }
