-- The table that is read number after number is the table of the rows, and so is its first refusal.
use Rattle.std.proofs.Common.{◌≡◌, ◌∙◌, inl, inr, ℕ, zero, suc, ◌+◌, ◌-◌, ◌*◌, ◌<◌, ◌≤◌, ◌==◌, ◌&&◌, Bool, true, false, if◌then◌else◌, nat_le, List, [], ◌∷◌, ◌++◌, length, map, take, get_or, refl, sym, ap, arith, Option, Some, None, Result, Ok, Err, append_assoc, length-append, eq-eqb}
use Rattle.std.proofs.Math.ListN.{get_or-append}
use Rattle.std.proofs.lemmas.Bool.{cases_eq, ne_eqb, leb-false}
use Rattle.std.proofs.lemmas.List.{append-nil, take_at, length-map, map-append, get_or-append_right}
use Rattle.std.proofs.lemmas.List.Folds.{concat-append}
use Rattle.std.specs.List.{AllByRecursion, concat}
use Rattle.row_model.proofs.PieceLemmas.{AllByRecursion-push}
use Rattle.row_model.specs.declared.refusal.Refusal.{Refusal}
use Rattle.row_model.specs.declared.code.TheConstants.{COUNT, SYMMETRY}
use Rattle.text_lines.specs.Lines.{NumberedLine}
use Rattle.text_lines.specs.Rows.{refusal_or, first_refusal, refused_or}
use Rattle.text_lines.specs.Rows.{code_or}
use Rattle.text_lines.specs.Words.{words_of, numeral_of}
use Rattle.text_lines.specs.declared.words.Numeral.{Numeral}
use Rattle.text_lines.specs.declared.words.Numeral.TheVariants.{Value, TooLarge, NotDigits}
use Rattle.graph_model.specs.Distances.{distance}
use Rattle.graph_read.specs.Numbers.{value_of}
use Rattle.graph_read.specs.DistanceRows.{distance_code, distances_code, distances_in, rows_in, is_mirrored, is_next, entries_code, next_row_code}
use Rattle.graph_read.specs.DistanceSteps.{distance_then, numbers_behind, is_symmetric_at, is_row_at, table_with_row, row_behind, rows_then, table_behind, distances_with, row_refused}
use Rattle.graph_read.specs.DistanceFiles.{row_line, missing_rows, earlier_or, table_refusal, table_written, distances_behind}
use Rattle.graph_read.proofs.PlaceLemmas.{place_within}
use Rattle.graph_read.proofs.TableRows.{as_words, row_taken_as, numbers_are}

-- numbers that were read one by one, or the code of the first word that is refused
abbrev numbers_or : Option ℕ → List ℕ → Result (List ℕ) ℕ
numbers_or (Some code) values = Err code
numbers_or None values = Ok values

numbers_told : (values : List ℕ) (words : List (List ℕ)) → numbers_behind values words ≡ numbers_or (distances_code words) (values ++ distances_in words)
unfolding numbers_behind distances_code
numbers_told values [] = ap (λ t. Ok t) (sym (append-nil values))
numbers_told values (word ∷ words) = step (numeral_of word) (λ n. numbers_told (values ++ n ∷ []) words)
  where
    step : (numeral : Numeral) → ((n : ℕ) → numbers_behind (values ++ n ∷ []) words ≡ numbers_or (distances_code words) ((values ++ n ∷ []) ++ distances_in words))
        → distance_then numeral (λ n. numbers_behind (values ++ n ∷ []) words) ≡ numbers_or (code_or (distance_code numeral) (distances_code words)) (values ++ value_of numeral ∷ distances_in words)
    step (Value n) later = later n ∙ ap (numbers_or (distances_code words)) (append_assoc values (n ∷ []) (distances_in words))
    step TooLarge later = refl
    step NotDigits later = refl

-- rows that are all of one length, joined
abbrev IsWide : ℕ → List ℕ → Type 0
IsWide n row = length row ≡ n

length-joined : (n : ℕ) (rows : List (List ℕ)) → AllByRecursion (IsWide n) rows → length (concat rows) ≡ length rows * n
length-joined n [] wide = omega arith
length-joined n (row ∷ rows) wide = omega (arith, length-append row (concat rows), wide.0, length-joined n rows wide.1)

entry_joined : (n : ℕ) (rows : List (List ℕ)) (y k : ℕ) → AllByRecursion (IsWide n) rows → y < length rows → k < n → get_or (concat rows) (y * n + k) 0 ≡ get_or (get_or rows y []) k 0
entry_joined n [] y k wide lt within = absurd (omega arith)
entry_joined n (row ∷ rows) zero k wide lt within =
    let at : 0 * n + k ≡ k = omega arith in
    ap (λ place. get_or (row ++ concat rows) place 0) at ∙ get_or-append row (concat rows) 0 k (omega (arith, wide.0))
entry_joined n (row ∷ rows) (suc y) k wide lt within =
    let at : suc y * n + k - n ≡ y * n + k = omega arith in
    get_or-append_right row (concat rows) n (suc y * n + k) 0 wide.0 (omega arith)
    ∙ ap (λ place. get_or (concat rows) place 0) at
    ∙ entry_joined n rows y k wide.1 (omega arith) within

-- a row behind the rows above it
module _ (n : ℕ) (above : List (List ℕ)) (row : List ℕ) (wide : AllByRecursion (IsWide n) above) (few : length above < n) where
  own_entry : (y : ℕ) → y < n → distance n (concat above ++ row) (length above + 1) (suc y) ≡ get_or row y 0
  own_entry y lt =
      let own : length above + 1 - 1 ≡ length above = omega arith in
      let one_less : suc y - 1 ≡ y = omega arith in
      let at : (length above + 1 - 1) * n + (suc y - 1) ≡ length above * n + y = ap (λ k. k * n + (suc y - 1)) own ∙ ap (λ k. length above * n + k) one_less in
      let behind : length above * n + y - length above * n ≡ y = omega arith in
      ap (λ place. get_or (concat above ++ row) place 0) at
      ∙ get_or-append_right (concat above) row (length above * n) (length above * n + y) 0 (length-joined n above wide) (omega arith)
      ∙ ap (λ place. get_or row place 0) behind

  upper_entry : (y : ℕ) → y < length above → distance n (concat above ++ row) (suc y) (length above + 1) ≡ get_or (get_or above y []) (length above) 0
  upper_entry y lt =
      let own : length above + 1 - 1 ≡ length above = omega arith in
      let one_less : suc y - 1 ≡ y = omega arith in
      let at : (suc y - 1) * n + (length above + 1 - 1) ≡ y * n + length above = ap (λ k. k * n + (length above + 1 - 1)) one_less ∙ ap (λ k. y * n + k) own in
      let inside : y * n + length above < length (concat above) = omega (arith, length-joined n above wide, place_within (length above) n y (length above) lt few) in
      ap (λ place. get_or (concat above ++ row) place 0) at
      ∙ get_or-append (concat above) row 0 (y * n + length above) inside
      ∙ entry_joined n above y (length above) wide lt few

  mirrored : (y : ℕ) → y ≤ length above → is_symmetric_at n (concat above ++ row) (length above + 1) y ≡ is_mirrored above row y
  mirrored zero le = refl
  mirrored (suc y) le = rw (mirrored y (omega arith), own_entry y (omega arith), upper_entry y (omega arith)) refl

  next_row : is_row_at n (concat above ++ row) (length above + 1) ≡ is_next above row
  next_row =
      let at : length above + 1 - 1 ≡ length above = omega arith in
      let last : length above + 1 ≡ suc (length above) = omega arith in
      let zero_here : distance n (concat above ++ row) (length above + 1) (length above + 1) ≡ get_or row (length above) 0 =
      ap (distance n (concat above ++ row) (length above + 1)) last ∙ own_entry (length above) few in
      ap (λ d. (d == 0) && is_symmetric_at n (concat above ++ row) (length above + 1) (length above + 1 - 1)) zero_here
      ∙ ap (λ k. (get_or row (length above) 0 == 0) && is_symmetric_at n (concat above ++ row) (length above + 1) k) at
      ∙ ap (λ b. (get_or row (length above) 0 == 0) && b) (mirrored (length above) (omega arith))

-- the code of the next row
same_length : (xs row : List ℕ) (n : ℕ) → (length (xs ++ row) == length xs + n) ≡ (length row == n)
same_length xs row n =
    elim (cases_eq (length row) n) [
      | inl same ↦ eq-eqb (length (xs ++ row)) (length xs + n) (omega (arith, length-append xs row, same)) ∙ sym (eq-eqb (length row) n same)
      | inr other ↦ ne_eqb (length (xs ++ row)) (length xs + n) (λ e. other (omega (arith, length-append xs row, e))) ∙ sym (ne_eqb (length row) n other)
    ]

module _ (n : ℕ) (above : List (List ℕ)) (line : List ℕ) (wide : AllByRecursion (IsWide n) above) where
  code_told : row_refused (row_behind n (length above) (concat above) line) ≡ next_row_code n above line
  code_told = by_count (nat_le n (length above)) refl
    where
      by_next : (long next : Bool) (whole : List ℕ) → row_refused (if long then if next then Ok whole else Err SYMMETRY else Err COUNT) ≡ (if long then if next then None else Some SYMMETRY else Some COUNT)
      by_next true true whole = refl
      by_next true false whole = refl
      by_next false next whole = refl

      by_words : length above < n → (code : Option ℕ) (row : List ℕ) → row_refused (table_with_row n (length (concat above) + n) (length above + 1) (numbers_or code ((concat above) ++ row))) ≡ code_or code (entries_code n above row)
      by_words lt (Some code) row = refl
      by_words lt None row =
          rw (same_length (concat above) row n, next_row n above row wide lt) (by_next (length row == n) (is_next above row) ((concat above) ++ row))

      by_count : (full : Bool) → nat_le n (length above) ≡ full
          → row_refused (if full then Err COUNT else table_with_row n (length (concat above) + n) (length above + 1) (numbers_behind (concat above) (words_of line)))
          ≡ (if full then Some COUNT else code_or (distances_code (words_of line)) (entries_code n above (distances_in (words_of line))))
      by_count true e = refl
      by_count false e =
          ap (λ numbers. row_refused (table_with_row n (length (concat above) + n) (length above + 1) numbers)) (numbers_told (concat above) (words_of line))
          ∙ by_words (leb-false n (length above) e) (distances_code (words_of line)) (distances_in (words_of line))

-- numbers as words, and back
values_of-words : (row : List ℕ) → map value_of (as_words row) ≡ row
values_of-words [] = refl
values_of-words (n ∷ row) = ap (λ t. n ∷ t) (values_of-words row)

map_twice : (words : List (List ℕ)) → distances_in words ≡ map value_of (map numeral_of words)
map_twice [] = refl
map_twice (word ∷ words) = ap (λ t. value_of (numeral_of word) ∷ t) (map_twice words)

-- a row that was taken adds the numbers of its line, as many as there are items
record RowAdded (n : ℕ) (values line more : List ℕ) : Type 0 where
  is : more ≡ values ++ distances_in (words_of line)
  wide : length (distances_in (words_of line)) ≡ n

row_adds : (n x : ℕ) (values line more : List ℕ) → row_behind n x values line ≡ Ok more → RowAdded n values line more
row_adds n x values line more h =
    let taken = row_taken_as n x values line more h in
    let added = numbers_are values (words_of line) more taken.numbers in
    let is : more ≡ values ++ distances_in (words_of line) =
    added.is ∙ ap (λ row. values ++ row) (sym (map_twice (words_of line) ∙ ap (map value_of) added.written ∙ values_of-words added.row)) in
    record { is = is; wide = omega (arith, taken.long, ap length is, length-append values (distances_in (words_of line))) }

module _ (n : ℕ) (later : List NumberedLine) where
  -- the table of the lines, or the refusal
  abbrev told : Option Refusal → Result (List ℕ) Refusal
  told (Some refusal) = Err refusal
  told None = Ok (concat (rows_in later))

  table_told : (done lines : List NumberedLine) → later ≡ done ++ lines → AllByRecursion (IsWide n) (rows_in done)
      → table_behind n (length done) (concat (rows_in done)) lines ≡ told (earlier_or (first_refusal (row_line n later) (length done) lines) (missing_rows n later))
  unfolding table_behind first_refusal
  table_told done [] whole wide =
      let same : done ≡ later = sym (append-nil done) ∙ sym whole in
      ap (λ (t : List NumberedLine). if nat_le n (length t) then Ok (concat (rows_in t)) else Err (record { code = COUNT; line = 0 })) same ∙ ended (nat_le n (length later))
    where
      ended : (full : Bool) → (if full then Ok (concat (rows_in later)) else Err (record { code = COUNT; line = 0 })) ≡ told (if full then None else Some (record { code = COUNT; line = 0 }))
      ended true = refl
      ended false = refl
  table_told done (line ∷ lines) whole wide =
      step (row_behind n (length done) (concat (rows_in done)) line.text) refl (λ more added.
      let next : length done + 1 ≡ length (done ++ line ∷ []) = sym (length-append done (line ∷ [])) in
      let joined : more ≡ concat (rows_in (done ++ line ∷ [])) =
      added.is ∙ ap (λ t. concat (rows_in done) ++ t) (sym (append-nil (distances_in (words_of line.text))))
      ∙ sym (concat-append (rows_in done) (distances_in (words_of line.text) ∷ [])) ∙ ap concat (sym rows_more) in
      ap (λ k. table_behind n k more lines) next
      ∙ ap (λ t. table_behind n (length (done ++ line ∷ [])) t lines) joined
      ∙ table_told (done ++ line ∷ []) lines (whole ∙ sym (append_assoc done (line ∷ []) lines)) (rw rows_more (AllByRecursion-push (IsWide n) (rows_in done) (distances_in (words_of line.text)) wide added.wide))
      ∙ ap (λ k. told (earlier_or (first_refusal (row_line n later) k lines) (missing_rows n later))) (sym next))
    where
      rows_more : rows_in (done ++ line ∷ []) ≡ rows_in done ++ distances_in (words_of line.text) ∷ []
      rows_more = map-append (λ (l : NumberedLine). distances_in (words_of l.text)) done (line ∷ [])

      judged : row_line n later (length done) line.text ≡ row_refused (row_behind n (length done) (concat (rows_in done)) line.text)
      judged =
          let before : take (length done) later ≡ done = ap (take (length done)) whole ∙ take_at done (line ∷ lines) (length done) refl in
          let count : length (rows_in done) ≡ length done = length-map done (λ (l : NumberedLine). distances_in (words_of l.text)) in
          ap (λ lines. next_row_code n (rows_in lines) line.text) before
          ∙ sym (code_told n (rows_in done) line.text wide)
          ∙ ap (λ k. row_refused (row_behind n k (concat (rows_in done)) line.text)) count

      step : (found : Result (List ℕ) ℕ) → row_behind n (length done) (concat (rows_in done)) line.text ≡ found
          → ((more : List ℕ) → RowAdded n (concat (rows_in done)) line.text more → table_behind n (length done + 1) more lines ≡ told (earlier_or (first_refusal (row_line n later) (length done + 1) lines) (missing_rows n later)))
          → rows_then (row_behind n (length done) (concat (rows_in done)) line.text) line.number (λ more. table_behind n (length done + 1) more lines)
          ≡ told (earlier_or (refusal_or (row_line n later (length done) line.text) line.number (first_refusal (row_line n later) (length done + 1) lines)) (missing_rows n later))
      step (Err code) e rest =
          ap (λ found. rows_then found line.number (λ more. table_behind n (length done + 1) more lines)) e
          ∙ sym (ap (λ c. told (earlier_or (refusal_or c line.number (first_refusal (row_line n later) (length done + 1) lines)) (missing_rows n later))) (judged ∙ ap row_refused e))
      step (Ok more) e rest =
          ap (λ found. rows_then found line.number (λ more. table_behind n (length done + 1) more lines)) e
          ∙ rest more (row_adds n (length done) (concat (rows_in done)) line.text more e)
          ∙ sym (ap (λ c. told (earlier_or (refusal_or c line.number (first_refusal (row_line n later) (length done + 1) lines)) (missing_rows n later))) (judged ∙ ap row_refused e))

  table_is : table_behind n 0 [] later ≡ told (table_refusal n later)
  table_is = table_told [] later refl tt

  pub read_behind : (number : ℕ) → distances_behind number (Ok n) later ≡ distances_with n (table_behind n 0 [] later)
  read_behind number = by (table_refusal n later) ∙ ap (distances_with n) (sym table_is)
    where
      by : (refusal : Option Refusal) → refused_or refusal (table_written n later) ≡ distances_with n (told refusal)
      by (Some refusal) = refl
      by None = refl
