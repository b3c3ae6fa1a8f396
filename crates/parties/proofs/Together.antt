-- `makeall` is answered as the separate requests are. Assumes nothing.
use mathlib.Core.Path.{◌≡◌, refl, sym, ap, ap₂, ◌∙◌}
use Prim.Native.Nat.{ℕ, zero, suc, ◌+◌, ◌-◌, ◌*◌, ◌≤◌, ◌<◌}
use native.Mathlib.Omega.{arith}
use mathlib.Core.List.{List, [], ◌∷◌, ◌++◌, map, map-append, append_assoc, Memᴰ}
use lib.ListN.{length, take, drop, replicate, length-map}
use lib.Seq.{take-append_seam, drop-append_seam}
use Rattle.bitml.specs.Lists.{gather, below, up_from}
use Rattle.bitml.specs.Sheet.{Sheet}
use Rattle.bitml.specs.Rows.{Row}
use Rattle.bitml.specs.Rule as rule
use Rattle.bitml.specs.Answers.{Line, Answer, printed, no_row, padded, made_lines, made_rows, made_by, making_all, made_for_all, answer, places_of_one}
use Rattle.bitml.proofs.Lists.{all_of, up_mem, gather_cong, gather-map}
use Rattle.bitml.proofs.Counting.{gather-split}
use Rattle.tables.specs.Entries.{Entries}
use Rattle.tables.specs.SheetOf.{sheet_of}
use Rattle.buffer.specs.Buffer.{places_of_all}
use Rattle.reading.specs.Promises.{Promises}
use Rattle.reading.specs.Request.{request, make, make_all, read_request}
use Rattle.promises.specs.Texts.{PromisedWhole}
use Rattle.promises.proofs.Whole.{promised_whole}
use Rattle.texts.specs.Text.{lines_text}
use Rattle.texts.proofs.Texts.{lines-append}
use Rattle.lent.specs.declared.Row.{Row as Struct}
use Rattle.lent.specs.Structs.{struct_of}
use Rattle.lent.specs.Structs.{no_row as noStruct}
use Rattle.writing.specs.Back.{Text}
use Rattle.verdicts.proofs.Verdicts.{made-few}
use Rattle.verdicts.proofs.Parties.{places-length, padded-length}
use Rattle.checker.specs.Entry.{answer_for, answer_to, places_of, text_in}
use Rattle.checker.specs.Demands.{Room}
use Rattle.checker.proofs.Entry.{all-enough}
use Rattle.checker.proofs.Demands.{answer-read}
use Rattle.parties.specs.Asking.{asking}
use Rattle.parties.specs.Together.{lines_of, rows_of, together, OfParties}
use Rattle.parties.proofs.Asking.{asks, asks_short}

-- ---- lists

-- lines gathered, as texts gathered
gather-text : (f : ℕ → List Line) (ns : List ℕ) → lines_text (gather f ns) ≡ gather (λ n. lines_text (f n)) ns
unfolding lines_text
gather-text f [] = refl
gather-text f (n ∷ ns) = lines-append (f n) (gather f ns) ∙ ap (λ t. lines_text (f n) ++ t) (gather-text f ns)

-- zero places
zeros_are : (k : ℕ) → map struct_of (replicate k no_row) ≡ replicate k noStruct
unfolding struct_of
zeros_are zero = refl
zeros_are (suc k) = ap (λ xs. noStruct ∷ xs) (zeros_are k)

padded_are : (R : List Row) → map struct_of (padded R) ≡ map struct_of R ++ replicate (places_of_one - length R) noStruct
unfolding padded
padded_are R = map-append struct_of R (replicate (places_of_one - length R) no_row) ∙ ap (λ xs. map struct_of R ++ xs) (zeros_are (places_of_one - length R))

-- the part between a front and what is behind
middle : {A : Type 0} (n m : ℕ) (xs ys zs : List A) → n ≡ length xs → m ≡ length ys → take m (drop n (xs ++ (ys ++ zs))) ≡ ys
middle n m xs ys zs e f = ap₂ take f (ap (λ k. drop k (xs ++ (ys ++ zs))) e ∙ drop-append_seam xs (ys ++ zs)) ∙ take-append_seam ys zs

-- ---- a sheet

module _ (K : ℕ) (E : Entries) (ok : Promises K E) where
  abbrev S : Sheet
  S = sheet_of K E

  abbrev lines : ℕ → List Line
  lines p = made_lines S p (rule.make S p)

  abbrev rows : ℕ → List Row
  rows p = made_rows (rule.make S p)

  abbrev block : ℕ → List Row
  block p = padded (rows p)

  few : (p : ℕ) → length (rows p) ≤ places_of_one
  few = made-few K E ok

  all_lines : answer (making_all S) ≡ printed (gather lines (below K)) (gather block (below K))
  unfolding answer made_for_all sheet_of
  all_lines = refl

  module _ (places : ℕ) (enough : places_of_all ≤ places) where
    abbrev held : List Struct
    held = map struct_of (gather block (below K)) ++ replicate (places - length (gather block (below K))) noStruct

    all-rows : (p : ℕ) → p < K → take places_of_one (drop (places_of_one * p) held) ≡ map struct_of (rows p) ++ replicate (places_of_one - length (rows p)) noStruct
    all-rows p h =
        let A = gather block (below p) in
        let C = gather block (up_from (p + 1) (K - (p + 1))) in
        let z = replicate (places - length (gather block (below K))) noStruct in
        let e : held ≡ map struct_of A ++ (map struct_of (block p) ++ (map struct_of C ++ z)) =
        ap (λ xs. map struct_of xs ++ z) (gather-split block p K h) ∙ ap (λ xs. xs ++ z) (map-append struct_of A (block p ++ C) ∙ ap (λ xs. map struct_of A ++ xs) (map-append struct_of (block p) C))
        ∙ append_assoc (map struct_of A) (map struct_of (block p) ++ map struct_of C) z ∙ ap (λ xs. map struct_of A ++ xs) (append_assoc (map struct_of (block p)) (map struct_of C) z) in
        ap (λ xs. take places_of_one (drop (places_of_one * p) xs)) e
        ∙ middle (places_of_one * p) places_of_one (map struct_of A) (map struct_of (block p)) (map struct_of C ++ z) (omega (arith, length-map A struct_of, places-length S few p)) (omega (arith, length-map (block p) struct_of, padded-length (rows p) (few p)))
        ∙ padded_are (rows p)

    no_more : drop (places_of_one * K) held ≡ replicate (places - places_of_one * K) noStruct
    no_more =
        let R = gather block (below K) in
        let e : places_of_one * K ≡ length (map struct_of R) = omega (arith, length-map R struct_of, places-length S few K) in
        ap (λ k. drop k held) e ∙ drop-append_seam (map struct_of R) (replicate (places - length R) noStruct) ∙ ap (λ k. replicate (places - k) noStruct) (places-length S few K)

-- ---- a request

module _ (s : List ℕ) (hs : Text s) (places text : ℕ) (room : Room s places text) (enough : places_of_all ≤ places) (K : ℕ) (E : Entries) (e : read_request s ≡ request K E make_all) where
  promises : Promises K E
  unfolding PromisedWhole
  promises = (promised_whole s K E make_all e).0

  whole : answer_to s places text ≡ printed (gather (lines K E promises) (below K)) (gather (block K E promises) (below K))
  unfolding answer_for
  whole = answer-read s places text room K E make_all e ∙ sym (all-enough places (sheet_of K E) enough) ∙ all_lines K E promises

  abbrev alone : ℕ → Answer
  alone p = answer_to (asking s p) places_of_one text

  separate : (p : ℕ) → p < K → alone p ≡ printed (lines K E promises p) (rows K E promises p)
  unfolding answer_for answer made_by
  separate p h =
      let fits : Room (asking s p) places_of_one text = record { bytes = asks_short s hs K E e p; enough-places = omega arith; enough-text = room.enough-text } in
      answer-read (asking s p) places_of_one text fits K E (make p) (asks s hs K E e p h)

  each : (p : ℕ) → Memᴰ p (below K) → alone p ≡ printed (lines K E promises p) (rows K E promises p)
  each p m = separate p (let h = all_of (up_mem 0 K) m in omega (arith, h.1))

  answers-are : answer_to s places text ≡ together (map alone (below K))
  unfolding together lines_of rows_of
  answers-are =
      whole
      ∙ ap₂ printed
      (sym (gather-map lines_of alone (below K) ∙ gather_cong _ (lines K E promises) (below K) λ p m. ap lines_of (each p m)))
      (sym (gather-map (λ a. padded (rows_of a)) alone (below K) ∙ gather_cong _ (block K E promises) (below K) λ p m. ap (λ a. padded (rows_of a)) (each p m)))

  lines_are : text_in text (answer_to s places text) ≡ gather (λ p. text_in text (alone p)) (below K)
  unfolding text_in
  lines_are =
      ap (text_in text) whole ∙ gather-text (lines K E promises) (below K)
      ∙ gather_cong _ (λ p. text_in text (alone p)) (below K) λ p m. sym (ap (text_in text) (each p m))

  rows_are : (p : ℕ) → p < K → take places_of_one (drop (places_of_one * p) (places_of places (answer_to s places text))) ≡ places_of places_of_one (alone p)
  unfolding places_of
  rows_are p h = ap (λ a. take places_of_one (drop (places_of_one * p) (places_of places a))) whole ∙ all-rows K E promises places enough p h ∙ sym (ap (places_of places_of_one) (separate p h))

  rest-is : drop (places_of_one * K) (places_of places (answer_to s places text)) ≡ replicate (places - places_of_one * K) noStruct
  unfolding places_of
  rest-is = ap (λ a. drop (places_of_one * K) (places_of places a)) whole ∙ no_more K E promises places enough

-- THE CLAIM
pub of_parties : OfParties
unfolding OfParties
of_parties s hs places text room enough K E e =
    record {
      asked = asks s hs K E e;
      answers = answers-are s hs places text room enough K E e;
      lines = lines_are s hs places text room enough K E e;
      rows = rows_are s hs places text room enough K E e;
      rest = rest-is s hs places text room enough K E e;
    }
