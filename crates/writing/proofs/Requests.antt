-- What is put behind the text of a sheet is read as the last part: `make`,P, and `check`,P with rows as they are printed. Assumes nothing.
use Prim.Native.Nat.{ℕ, ◌+◌, ◌-◌, ◌^◌, ◌≤◌, ◌<◌}
use mathlib.Core.Path.{◌≡◌, refl, sym, ap, ◌∙◌}
use mathlib.Core.List.{List, [], ◌∷◌, ◌++◌, map, append_assoc, append-nil}
use native.Mathlib.Omega.{arith}
use lib.ListN.{length, drop, length-drop, length-append}
use lib.Seq.{take-length, drop-append_seam}
use borrow.Author.Tests.{lt-ltb, le-ltb}
use Rattle.bitml.specs.Lists.{All}
use Rattle.bitml.specs.Rows.{Row}
use Rattle.bitml.specs.Answers.{row_line}
use Rattle.bitml.proofs.Lists.{all_head, all_tail}
use Rattle.fields.specs.Field.{lf, any_number, field_len, packed, packed_of, when_read, below_at, between_at}
use Rattle.fields.specs.Field as got
use Rattle.tables.specs.Entries.{Entries, most_nodes}
use Rattle.tables.specs.SheetOf.{node_entry_at, def_entry_at}
use Rattle.lines.specs.Sheet.{accepted, read_sheet}
use Rattle.ranges.proofs.Reading.{sheet_ranged, sheet-inside}
use Rattle.requests.specs.LastPart as part
use Rattle.requests.specs.RowLine as row_Line
use Rattle.requests.specs.Part.{participant_at, last_participant_at, make_at, check_at, last_part_at}
use Rattle.requests.specs.Rows.{most_rank, most_rows, RowFits, rows_with, row_numbers_at, row_at, rows_from, rows_at}
use Rattle.requests.proofs.Laws.{rows_end, rows_on}
use Rattle.promises.specs.Texts.{Promised}
use Rattle.promises.proofs.Promised.{promised}
use Rattle.reading.specs.Request.{request, make, check, from_rows, from_part, from_sheet, read_request}
use Rattle.texts.specs.Text.{letters, field, fields, line, line_text, lines_text}
use Rattle.texts.proofs.Lengths.{fields-most, line-length}
use Rattle.writing.specs.Requests.{make_request, check_request}
use Rattle.writing.proofs.Alone.{reads_on}
use Rattle.writing.proofs.Numbers.{stands_on, field_reads, first_reads, line_reads}

-- ---- a line, field by field

-- fields one behind the other, and what stands behind them
abbrev spread : List ℕ → List ℕ → List ℕ
spread [] rest = rest
spread (n ∷ ns) rest = field n ++ spread ns rest

fields_spread : (ns rest : List ℕ) → fields ns ++ rest ≡ spread ns rest
unfolding fields
fields_spread [] rest = refl
fields_spread (n ∷ ns) rest = append_assoc (field n) (fields ns) rest ∙ ap (λ t. field n ++ t) (fields_spread ns rest)

line_spread : (w ns rest : List ℕ) → line w ns ++ rest ≡ w ++ spread ns (lf ∷ rest)
unfolding line
line_spread w ns rest =
    append_assoc (w ++ fields ns) (lf ∷ []) rest ∙ append_assoc w (fields ns) (lf ∷ rest) ∙ ap (λ t. w ++ t) (fields_spread ns (lf ∷ rest))

module _ (s : List ℕ) (at v : ℕ) (rest : List ℕ) (e : drop at s ≡ field v ++ rest) (f : field_len rest ≡ 0) (few : v < 10 ^ 19) where
  below_reads : (n : ℕ) → v < n → below_at s at n ≡ got.Value v (at + length (field v))
  unfolding below_at when_read
  below_reads n h = rw (field_reads s at v any_number rest e f (omega arith) few, lt-ltb v n h)

  between_reads : (low high : ℕ) → low ≤ v → v ≤ high → between_at s at low high ≡ got.Value v (at + length (field v))
  unfolding between_at when_read
  between_reads low high h k = rw (field_reads s at v high rest e f k few, le-ltb v low h)

-- ---- a word and P

module _ (s : List ℕ) (at : ℕ) (w : List ℕ) (p : ℕ) (rest : List ℕ) (e : drop at s ≡ w ++ (field p ++ (lf ∷ rest))) where
  -- the position behind the line
  abbrev past : ℕ
  past = at + length w + length (field p) + 1

  behind : drop (at + length w) s ≡ field p ++ (lf ∷ rest)
  behind = stands_on s at w (field p ++ (lf ∷ rest)) e

  ends : drop (at + length w + length (field p)) s ≡ lf ∷ rest
  ends = stands_on s (at + length w) (field p) (lf ∷ rest) behind

  rest_stands : drop past s ≡ rest
  rest_stands = stands_on s (at + length w + length (field p)) (lf ∷ []) rest ends

  participant_reads : (K : ℕ) → p < K → K ≤ 16 → participant_at s K (at + length w) ≡ got.Value p past
  unfolding participant_at when_read field_len
  participant_reads K l k =
      rw (below_reads s (at + length w) p (lf ∷ rest) behind refl (omega arith) K l, line_reads s (at + length w + length (field p)) rest ends)

module _ (s : List ℕ) (K at p : ℕ) (l : p < K) (k : K ≤ 16) (secrets : ℕ) where
  make_part : drop at s ≡ letters "make" ++ (field p ++ (lf ∷ [])) → last_part_at s K secrets at ≡ part.Make p
  unfolding last_part_at make_at last_participant_at when_read packed_of packed field_len field
  make_part e =
      let end = past s at (letters "make") p [] e in
      rw (
        first_reads s at (letters "make") (field p ++ (lf ∷ [])) e refl (omega arith),
        participant_reads s at (letters "make") p [] e K l k,
        le-ltb end (length s) (omega (arith, length-drop end s, ap (λ t. length t) (rest_stands s at (letters "make") p [] e))),
      )

  check_part : (rest : List ℕ) (e : drop at s ≡ letters "check" ++ (field p ++ (lf ∷ rest))) → last_part_at s K secrets at ≡ part.Check p (past s at (letters "check") p rest e)
  unfolding last_part_at check_at when_read packed_of packed field_len field
  check_part rest e =
      rw (
        first_reads s at (letters "check") (field p ++ (lf ∷ rest)) e refl (omega arith),
        participant_reads s at (letters "check") p rest e K l k,
      )

-- ---- rows

module _ (s : List ℕ) (counts : ℕ → ℕ) (nodes : ℕ) (few : nodes ≤ most_nodes) (small : (n : ℕ) → n < nodes → counts n ≤ 16) where
  row_reads : (r : Row) (rest : List ℕ) (at : ℕ) → RowFits counts nodes r → drop at s ≡ line_text (row_line r) ++ rest
      → (z : ℕ) × (at < length s) × (row_at s counts nodes at ≡ row_Line.Row r.node r.branch r.rank z) × (drop z s ≡ rest)
  unfolding row_at row_numbers_at when_read packed_of packed field_len field line_text
  row_reads r rest at fit e =
      let d : drop at s ≡ letters "row" ++ spread (r.node ∷ r.branch ∷ r.rank ∷ []) (lf ∷ rest) =
      e ∙ line_spread (letters "row") (r.node ∷ r.branch ∷ r.rank ∷ []) rest in
      let d₁ = stands_on s at (letters "row") _ d in
      let d₂ = stands_on s (at + 3) (field r.node) _ d₁ in
      let d₃ = stands_on s (at + 3 + length (field r.node)) (field r.branch) _ d₂ in
      let q = at + 3 + length (field r.node) + length (field r.branch) + length (field r.rank) in
      let d₄ : drop q s ≡ lf ∷ rest = stands_on s _ (field r.rank) (lf ∷ rest) d₃ in (
        q + 1,
        omega (arith, length-drop at s, ap (λ t. length t) d),
        rw (
          first_reads s at (letters "row") _ d refl (omega arith),
          below_reads s (at + 3) r.node _ d₁ refl (omega (arith, few, fit.has-node)) nodes fit.has-node,
          below_reads s (at + 3 + length (field r.node)) r.branch _ d₂ refl (omega (arith, small r.node fit.has-node, fit.has-branch)) (counts r.node) fit.has-branch,
          between_reads s (at + 3 + length (field r.node) + length (field r.branch)) r.rank _ d₃ refl (omega (arith, fit.rank_most)) 1 most_rank fit.has-rank fit.rank_most,
          line_reads s q rest d₄,
        ),
        stands_on s q (lf ∷ []) rest d₄,
      )

  rows-read : (i : ℕ) (xs R : List Row) (at : ℕ) → i + length R ≤ most_rows → All (RowFits counts nodes) R → drop at s ≡ lines_text (map row_line R)
      → (z : ℕ) × (rows_from s counts nodes (most_rows - i) xs at ≡ rows_with (xs ++ R) (got.Value (length (xs ++ R)) z))
  unfolding lines_text line_text
  rows-read i xs [] at h a e =
      (at, sym (rows_end s counts nodes xs at (most_rows - i) (length xs) refl (omega (arith, length-drop at s, ap (λ t. length t) e))) ∙ ap (λ Q. rows_with Q (got.Value (length Q) at)) (sym (append-nil xs)))
  rows-read i xs (r ∷ R) at h a e =
      let w = row_reads r (lines_text (map row_line R)) at (all_head a) e in
      let v = rows-read (i + 1) (xs ++ (r ∷ [])) R w.0 (omega arith) (all_tail a) w.3 in
      let q : (xs ++ (r ∷ [])) ++ R ≡ xs ++ (r ∷ R) = append_assoc xs (r ∷ []) R in (
        v.0,
        sym (rows_on s counts nodes xs at i (omega arith) w.1 r.node r.branch r.rank w.0 (sym w.2)) ∙ v.1
            ∙ ap (λ Q. rows_with Q (got.Value (length Q) v.0)) q,
      )

-- ---- behind the text of a sheet

line-most : (w : List ℕ) (p : ℕ) → length (line w (p ∷ [])) ≤ length w + 22
line-most w p = omega (arith, line-length w (p ∷ []), fields-most (p ∷ []))

pub check-length : (t : List ℕ) (p : ℕ) (file : List ℕ) → length (check_request t p file) ≡ length t + length (line (letters "check") (p ∷ [])) + length file
unfolding check_request
check-length t p file = let w = line (letters "check") (p ∷ []) in omega (arith, length-append t (w ++ file), length-append w file)

module _ (t : List ℕ) (K : ℕ) (E : Entries) (h : read_sheet t ≡ accepted K (length t) E) (p : ℕ) where
  -- neither is too long for a request, where the file is not
  pub make-short : length (make_request t p) ≤ 65536
  unfolding make_request
  make-short = omega (arith, length-append t (line (letters "make") (p ∷ [])), line-most (letters "make") p, (sheet-inside t K (length t) E h).1)

  pub check-short : (file : List ℕ) → length file ≤ 32000 → length (check_request t p file) ≤ 65536
  check-short file k = omega (arith, check-length t p file, line-most (letters "check") p, (sheet-inside t K (length t) E h).1)

module _ (t : List ℕ) (K : ℕ) (E : Entries) (h : read_sheet t ≡ accepted K (length t) E) (p : ℕ) (l : p < K) where
  sheet_stays : (rest : List ℕ) → read_sheet (t ++ rest) ≡ accepted K (length t) E
  sheet_stays rest = ap (λ u. read_sheet (u ++ rest)) (sym (take-length t)) ∙ reads_on t rest K (length t) E h (omega arith)

  people : K ≤ 16
  people = (sheet_ranged t K (length t) E h).limits.people.1

  -- `make`,P
  pub make_reads : read_request (make_request t p) ≡ request K E (make p)
  unfolding make_request read_request from_sheet from_part
  make_reads =
      let s = make_request t p in
      let e : drop (length t) s ≡ letters "make" ++ (field p ++ (lf ∷ [])) =
      drop-append_seam t (line (letters "make") (p ∷ [])) ∙ sym (append-nil (line (letters "make") (p ∷ []))) ∙ line_spread (letters "make") (p ∷ []) [] in
      ap (from_sheet s) (sheet_stays (line (letters "make") (p ∷ []))) ∙ ap (from_part s K E) (make_part s K (length t) p l people (def_entry_at E 0).secrets e)

  -- `check`,P with rows as they are printed
  pub check_reads : (R : List Row) → length R ≤ most_rows → All (RowFits (λ n. (node_entry_at E n).count) (length E.nodes)) R
      → read_request (check_request t p (lines_text (map row_line R))) ≡ request K E (check p R)
  unfolding check_request read_request from_sheet from_part from_rows rows_at Promised
  check_reads R few a =
      let ok = promised t K (length t) E h in
      let small : (n : ℕ) → n < length E.nodes → (node_entry_at E n).count ≤ 16 = λ n k. omega (arith, (ok.node n k).count, (ok.node n k).few) in
      let file = lines_text (map row_line R) in
      let s = check_request t p file in
      let e : drop (length t) s ≡ letters "check" ++ (field p ++ (lf ∷ file)) =
      drop-append_seam t (line (letters "check") (p ∷ []) ++ file) ∙ line_spread (letters "check") (p ∷ []) file in
      let w = rows-read s (λ n. (node_entry_at E n).count) (length E.nodes) ok.limits.nodes small 0 [] R _ (omega arith) a (rest_stands s (length t) (letters "check") p file e) in
      ap (from_sheet s) (sheet_stays (line (letters "check") (p ∷ []) ++ file)) ∙ ap (from_part s K E) (check_part s K (length t) p l people (def_entry_at E 0).secrets file e)
      ∙ ap (λ w. from_rows s K E p w.rows w.answer) w.1
