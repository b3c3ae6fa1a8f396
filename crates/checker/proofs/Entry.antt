-- What was read is what is judged. Assumes nothing.
use mathlib.Core.Path.{◌≡◌, refl, sym, ap, ◌∙◌, subst}
use Prim.Native.Nat.{ℕ, ◌*◌, ◌≤◌, ◌<◌}
use native.Mathlib.Omega.{arith}
use mathlib.Core.Bool.{Bool, true, false, cond}
use mathlib.Core.List.{List}
use lib.ListN.{length, get_or}
use lib.Dec.{eqb}
use borrow.Author.Tests.{eqb-true, eq-eqb, ne_eqb, le-leb, lt-leb}
use mathlib.Core.Logic.{by_cases}
use native.Mathlib.Decide.{dec_le}
use Rattle.bitml.specs.Sheet.{Sheet}
use Rattle.bitml.specs.Answers.{making_all, Answer, refused, printed, answer, places_of_one}
use Rattle.tables.specs.Entries.{held, people, Spacious}
use Rattle.tables.specs.SheetOf.{node_entry_at}
use Rattle.tables.proofs.Runs.{first_of_get_d}
use Rattle.tables.proofs.Held.{node-held}
use Rattle.buffer.specs.Buffer.{row, row_in, rows_of, places_of_all, numbers_of_all, numbers_of_one, row_wide}
use Rattle.buffer.proofs.Buffer.{rows-length, filled-few}
use Rattle.requests.specs.Rows.{RowFits, count_in}
use Rattle.reading.specs.declared.Request.{Request}
use Rattle.reading.specs.declared.Request.TheVariants as code
use Rattle.reading.specs.Request.{LastPart, request, read_request, asked, make_all, check}
use Rattle.promises.specs.Parts.{PartPromise}
use Rattle.promises.specs.Texts.{PromisedWhole}
use Rattle.promises.proofs.Whole.{promised_whole, whole_paid}
use Rattle.sheets.specs.Ready.{Ready}
use Rattle.rows.specs.Given.{RowsFit}
use Rattle.replies.specs.declared.Reply.{Reply}
use Rattle.lent.specs.Structs.{structs}
use Rattle.lent.proofs.Structs.{structs-filled, structs_cleared}
use Rattle.replies.specs.Answer.{numbers_of, Gives}
use Rattle.replies.specs.Before.{early}
use Rattle.replies.proofs.Before.{early-long, early-rows}
use Rattle.checker.specs.Entry.{answer_for_all, judged, answer_to, places_of}
use Rattle.checker.specs.Lending.{Wide}

-- ---- what is known of the table t and the row buffer u after reading

row_fits : (t u : List ℕ) (n i : ℕ) → i < n → RowFits (λ m. (node_entry_at (held t) m).count) (length (held t).nodes) (get_or (rows_of n u) i (row 0 0 0))
    → RowFits (count_in t) (length (held t).nodes) (row_in u i)
unfolding rows_of
row_fits t u n i h f =
    let g : RowFits (λ m. (node_entry_at (held t) m).count) (length (held t).nodes) (row_in u i) = subst (RowFits (λ m. (node_entry_at (held t) m).count) (length (held t).nodes)) (first_of_get_d (row_in u) n i (row 0 0 0) h) f in
    record {
      has-node = g.has-node;
      has-branch = subst (λ k. (row_in u i).branch < k) (ap (λ e. e.count) (node-held t (row_in u i).node g.has-node)) g.has-branch;
      has-rank = g.has-rank;
      rank_most = g.rank_most;
    }

module _ (s t u : List ℕ) (x : Request) (read : asked x t u ≡ read_request s) where
  -- the request is that of the last part l
  read_as_lem : (y : Request) (l : LastPart) → x ≡ y → asked y t u ≡ request (people t) (held t) l → read_request s ≡ request (people t) (held t) l
  read_as_lem y l e q = sym (ap (λ z. asked z t u) (sym e) ∙ read) ∙ q

  -- so the table keeps the promises of a sheet, and l that of its word
  pub ready_by : (y : Request) (l : LastPart) → x ≡ y → asked y t u ≡ request (people t) (held t) l → Spacious s t → Ready t × PartPromise s (people t) (held t) l
  unfolding PromisedWhole
  ready_by y l e q room =
      let w = read_as_lem y l e q in
      let k = promised_whole s (people t) (held t) l w in
      (record { long = omega (arith, room, whole_paid s (people t) (held t) l w); promises = k.0 }, k.1)

  pub ready-check : (p n : ℕ) → x ≡ code.Check p n → Spacious s t → numbers_of_one ≤ length u → Ready t × (p < people t) × RowsFit t u n
  unfolding asked PartPromise
  ready-check p n e room wide =
      let k = ready_by (code.Check p n) (check p (rows_of n u)) e refl room in
      let l = rows-length n u in (
        k.0,
        k.1.0,
        record { few = omega (arith, k.1.1.few); long = omega (arith, k.1.1.few); each = λ i h. row_fits t u n i h (k.1.1.each i (omega arith)) },
      )

  pub ready-all : x ≡ code.MakeAll → Spacious s t → Ready t × ((rows n : ℕ) → Wide s rows n → places_of_all ≤ rows → numbers_of_all ≤ n)
  unfolding asked Wide
  ready-all e room = ((ready_by code.MakeAll make_all e refl room).0, λ rows n w. w (people t) (held t) (read_as_lem code.MakeAll make_all e refl))

  -- the answer, by what was read
  pub judged_by : (rows : ℕ) {n m : ℕ} {r : Reply} {v b : List ℕ} (y : Request) → x ≡ y → Gives (judged s rows (asked y t u)) n m r v b → Gives (judged s rows (read_request s)) n m r v b
  judged_by rows {n} {m} {r} {v} {b} y e g = subst (λ w. Gives (judged s rows w) n m r v b) (ap (λ z. asked z t u) (sym e) ∙ read) g

-- ---- before reading

-- an answer by what refuses early
module _ (s : List ℕ) (rows n m : ℕ) (r : Reply) (u b : List ℕ) where
  pub answer-early : (k : ℕ) → k ≡ early (length s) rows m → (k ≡ 0 → ⊥) → Gives (refused k 0 0) n m r u b → Gives (answer_to s rows m) n m r u b
  unfolding answer_to
  answer-early k e f g =
      subst (λ a. Gives a n m r u b)
      (ap (λ i. refused i 0 0) e ∙ sym (ap (λ x. cond x (judged s rows (read_request s)) (refused (early (length s) rows m) 0 0)) (ap (λ i. eqb i 0) (sym e) ∙ ne_eqb k 0 f)))
      g

  pub answer-judged : (k : ℕ) → k ≡ early (length s) rows m → k ≡ 0 → Gives (judged s rows (read_request s)) n m r u b → Gives (answer_to s rows m) n m r u b
  unfolding answer_to
  answer-judged k e f g =
      subst (λ a. Gives a n m r u b)
      (sym (ap (λ x. cond x (judged s rows (read_request s)) (refused (early (length s) rows m) 0 0)) (ap (λ i. eqb i 0) (sym e) ∙ eq-eqb k 0 f)))
      g

-- ---- makeall

module _ (rows : ℕ) (S : Sheet) where
  pub all-few : rows < places_of_all → refused 7 0 0 ≡ answer_for_all rows S
  unfolding answer_for_all
  all-few h = rw (lt-leb places_of_all rows h)

  pub all-enough : places_of_all ≤ rows → answer (making_all S) ≡ answer_for_all rows S
  unfolding answer_for_all
  all-enough h = rw (le-leb places_of_all rows h)

  module _ {n m : ℕ} {r : Reply} {u b : List ℕ} where
    pub few_gives : rows < places_of_all → Gives (refused 7 0 0) n m r u b → Gives (answer_for_all rows S) n m r u b
    few_gives h g = subst (λ a. Gives a n m r u b) (all-few h) g

    pub all_gives : places_of_all ≤ rows → Gives (answer (making_all S)) n m r u b → Gives (answer_for_all rows S) n m r u b
    all_gives h g = subst (λ a. Gives a n m r u b) (all-enough h) g

-- ---- the rows of an answer, from L numbers

places : (a : Answer) (n L : ℕ) → L ≤ row_wide * n → length (numbers_of L a) ≡ L → structs n (numbers_of L a) ≡ places_of n a
unfolding numbers_of places_of
places (refused i l f) n L h k = structs_cleared n L
places (printed ls R) n L h k = structs-filled n L R (omega (arith, filled-few L R k))

-- fewer than 512 places are refused
early-few : (bytes rows text : ℕ) → early bytes rows text ≡ 0 → places_of_one ≤ rows
early-few bytes rows text e =
    by_cases (dec_le places_of_one rows) (λ h. h)
    (λ h. by_cases (dec_le bytes 65536) (λ k. absurd (omega (arith, early-rows bytes rows text k (omega arith), e))) (λ k. absurd (omega (arith, early-long bytes rows text (omega arith), e))))

pub places-are : (s : List ℕ) (n m : ℕ) (xs : List ℕ) (L : ℕ) → (places_of_one ≤ n → L ≤ row_wide * n) → xs ≡ numbers_of L (answer_to s n m) → length xs ≡ L → structs n xs ≡ places_of n (answer_to s n m)
unfolding answer_to numbers_of places_of
places-are s n m xs L w e k = ap (structs n) e ∙ go (eqb (early (length s) n m) 0) refl (ap (λ us. length us) (sym e) ∙ k)
  where
    go : (x : Bool) → eqb (early (length s) n m) 0 ≡ x → length (numbers_of L (cond x (judged s n (read_request s)) (refused (early (length s) n m) 0 0))) ≡ L
        → structs n (numbers_of L (cond x (judged s n (read_request s)) (refused (early (length s) n m) 0 0))) ≡ places_of n (cond x (judged s n (read_request s)) (refused (early (length s) n m) 0 0))
    go true q k = places (judged s n (read_request s)) n L (w (early-few (length s) n m (eqb-true (early (length s) n m) 0 q))) k
    go false q k = structs_cleared n L
