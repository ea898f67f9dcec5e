-- The rows of a table of distances and the lines that write them.
use Rattle.std.proofs.Common.{◌≡◌, ◌∙◌, ℕ, zero, suc, ◌+◌, ◌-◌, ◌*◌, ◌<◌, ◌≤◌, Bool, true, false, if◌then◌else◌, ◌==◌, nat_le, List, [], ◌∷◌, ◌++◌, length, map, take, drop, slice_get, slice_range, refl, sym, ap, arith, Some, Result, Ok, Err, append_assoc, eq-eqb, eqb-true, length-append, take-take}
use Rattle.std.proofs.lemmas.Bool.{and_from, leb-true, leb-false}
use Rattle.std.proofs.lemmas.List.{append-nil, take_all, take_at, drop_at, drop-take, take-append-drop, length-take-le, get_or-take}
use Rattle.row_model.specs.declared.refusal.Refusal.{Refusal}
use Rattle.row_model.specs.declared.code.TheConstants.{COUNT, SYMMETRY}
use Rattle.text_lines.specs.Lines.{NumberedLine}
use Rattle.text_lines.specs.Words.{words_of, numeral_of}
use Rattle.text_lines.specs.declared.words.Numeral.{Numeral}
use Rattle.text_lines.specs.declared.words.Numeral.TheVariants.{Value, TooLarge, NotDigits}
use Rattle.graph_model.specs.Distances.{distance, IsDistances}
use Rattle.graph_read.specs.DistanceSteps.{distance_then, numbers_behind, is_symmetric_at, is_row_at, table_with_row, row_behind, rows_then, table_behind}
use Rattle.graph_read.proofs.DistanceLemmas.{table_step, table_whole, row_here}
use Rattle.graph_read.proofs.PlaceLemmas.{row_within, place_within}

-- what numbers are as words
abbrev pub as_words : List ℕ → List Numeral
as_words row = map (λ n. Value n) row

-- the numbers that words add
pub record Adds (values : List ℕ) (words : List (List ℕ)) (more : List ℕ) : Type 0 where
  pub row : List ℕ
  pub is : more ≡ values ++ row
  pub written : map numeral_of words ≡ as_words row

pub numbers_are : (values : List ℕ) (words : List (List ℕ)) (more : List ℕ) → numbers_behind values words ≡ Ok more → Adds values words more
unfolding numbers_behind
numbers_are values [] more h = let is : values ≡ more = cc in record { row = []; is = sym is ∙ sym (append-nil values); written = refl }
numbers_are values (word ∷ words) more h = step (numeral_of word) refl h (λ n k. numbers_are (values ++ n ∷ []) words more k)
  where
    step : (numeral : Numeral) → numeral_of word ≡ numeral → distance_then numeral (λ n. numbers_behind (values ++ n ∷ []) words) ≡ Ok more
        → ((n : ℕ) → numbers_behind (values ++ n ∷ []) words ≡ Ok more → Adds (values ++ n ∷ []) words more) → Adds values (word ∷ words) more
    step (Value n) e k later =
        let rest = later n k in
        record {
          row = n ∷ rest.row;
          is = rest.is ∙ append_assoc values (n ∷ []) rest.row;
          written = ap (λ a. a ∷ map numeral_of words) e ∙ ap (λ t. Value n ∷ t) rest.written;
        }
    step TooLarge e k later = absurd (cc)
    step NotDigits e k later = absurd (cc)

pub numbers_taken : (values : List ℕ) (words : List (List ℕ)) (row : List ℕ) → map numeral_of words ≡ as_words row → numbers_behind values words ≡ Ok (values ++ row)
unfolding numbers_behind
numbers_taken values [] [] h = ap (λ t. Ok t) (sym (append-nil values))
numbers_taken values [] (n ∷ row) h = absurd (cc)
numbers_taken values (word ∷ words) [] h = absurd (cc)
numbers_taken values (word ∷ words) (n ∷ row) h =
    let here : numeral_of word ≡ Value n = heads (numeral_of word) (Value n) (map numeral_of words) (as_words row) h in
    let later : map numeral_of words ≡ as_words row = tails (numeral_of word) (Value n) (map numeral_of words) (as_words row) h in
    ap (λ m. distance_then m (λ k. numbers_behind (values ++ k ∷ []) words)) here
    ∙ numbers_taken (values ++ n ∷ []) words row later
    ∙ ap (λ t. Ok t) (append_assoc values (n ∷ []) row)
  where
    heads : (a b : Numeral) (xs ys : List Numeral) → a ∷ xs ≡ b ∷ ys → a ≡ b
    heads a b xs ys e = cc

    tails : (a b : Numeral) (xs ys : List Numeral) → a ∷ xs ≡ b ∷ ys → xs ≡ ys
    tails a b xs ys e = cc

-- a row that was taken
pub record RowTaken (n x : ℕ) (values line more : List ℕ) : Type 0 where
  pub few : x < n
  pub numbers : numbers_behind values (words_of line) ≡ Ok more
  pub long : length more ≡ length values + n

pub row_taken_as : (n x : ℕ) (values line more : List ℕ) → row_behind n x values line ≡ Ok more → RowTaken n x values line more
row_taken_as n x values line more h = by_count (nat_le n x) refl h
  where
    by_row : x < n → (found : List ℕ) → numbers_behind values (words_of line) ≡ Ok found → (long row : Bool) → (length found == length values + n) ≡ long
        → (if long then if row then Ok found else Err SYMMETRY else Err COUNT) ≡ Ok more → RowTaken n x values line more
    by_row lt found numbers true true long k =
        let is : found ≡ more = cc in
        record { few = lt; numbers = numbers ∙ ap (λ t. Ok t) is; long = ap length (sym is) ∙ eqb-true (length found) (length values + n) long }
    by_row lt found numbers true false long k = absurd (cc)
    by_row lt found numbers false row long k = absurd (cc)

    by_numbers : x < n → (found : Result (List ℕ) ℕ) → numbers_behind values (words_of line) ≡ found → table_with_row n (length values + n) (x + 1) found ≡ Ok more → RowTaken n x values line more
    by_numbers lt (Ok found) numbers k = by_row lt found numbers (length found == length values + n) (is_row_at n found (x + 1)) refl k
    by_numbers lt (Err code) numbers k = absurd (cc)

    by_count : (full : Bool) → nat_le n x ≡ full → (if full then Err COUNT else table_with_row n (length values + n) (x + 1) (numbers_behind values (words_of line))) ≡ Ok more → RowTaken n x values line more
    by_count true e k = absurd (cc)
    by_count false e k = by_numbers (leb-false n x e) (numbers_behind values (words_of line)) refl k

-- what lines add to the table before them
record Ends (values table : List ℕ) : Type 0 where
  rest : List ℕ
  is : table ≡ values ++ rest

-- the lines from one on, and the rows of the table that they give
record RowsAre (n x : ℕ) (values : List ℕ) (lines : List NumberedLine) (table : List ℕ) : Type 0 where
  ends : Ends values table
  count : x + length lines ≡ n
  rows : (i : ℕ) (line : NumberedLine) → slice_get lines i ≡ Some line → map numeral_of (words_of line.text) ≡ as_words (slice_range table ((x + i) * n) ((x + i) * n + n))

row_between : (values row rest : List ℕ) (at n : ℕ) → length values ≡ at → length row ≡ n → slice_range ((values ++ row) ++ rest) at (at + n) ≡ row
row_between values row rest at n long wide =
    let count : at + n - at ≡ n = omega arith in
    ap (λ k. take k (drop at ((values ++ row) ++ rest))) count
    ∙ ap (λ t. take n (drop at t)) (append_assoc values row rest)
    ∙ ap (take n) (drop_at values (row ++ rest) at long)
    ∙ take_at row rest n wide

rows_are : (n x : ℕ) (values : List ℕ) (lines : List NumberedLine) (table : List ℕ) → length values ≡ x * n → x ≤ n → table_behind n x values lines ≡ Ok table → RowsAre n x values lines table
unfolding table_behind
rows_are n x values [] table long le h = whole (nat_le n x) refl h
  where
    whole : (full : Bool) → nat_le n x ≡ full → if◌then◌else◌ {A = Result (List ℕ) Refusal} full (Ok values) (Err (record { code = COUNT; line = 0 })) ≡ Ok table → RowsAre n x values [] table
    whole true e k =
        let is : values ≡ table = cc in
        record { ends = record { rest = []; is = sym is ∙ sym (append-nil values) }; count = omega (arith, leb-true n x e); rows = λ i line stands. absurd (cc) }
    whole false e k = absurd (cc)
rows_are n x values (line ∷ lines) table long le h =
    step (row_behind n x values line.text) refl h (λ more wide lt k. rows_are n (x + 1) more lines table wide lt k)
  where
    step : (row : Result (List ℕ) ℕ) → row_behind n x values line.text ≡ row → rows_then row line.number (λ more. table_behind n (x + 1) more lines) ≡ Ok table
        → ((more : List ℕ) → length more ≡ (x + 1) * n → x + 1 ≤ n → table_behind n (x + 1) more lines ≡ Ok table → RowsAre n (x + 1) more lines table) → RowsAre n x values (line ∷ lines) table
    step (Err code) e k later = absurd (cc)
    step (Ok more) e k later =
        let taken = row_taken_as n x values line.text more e in
        let added = numbers_are values (words_of line.text) more taken.numbers in
        let wide : length added.row ≡ n = omega (arith, taken.long, ap length added.is, length-append values added.row) in
        let rest = later more (omega (arith, taken.long, long)) (omega (arith, taken.few)) k in
        let whole : table ≡ (values ++ added.row) ++ rest.ends.rest = rest.ends.is ∙ ap (λ t. t ++ rest.ends.rest) added.is in
        record {
          ends = record { rest = added.row ++ rest.ends.rest; is = whole ∙ append_assoc values added.row rest.ends.rest };
          count = omega (arith, rest.count);
          rows = rows added.row rest.ends.rest added.written wide whole rest.rows;
        }
      where
        rows : (row ending : List ℕ) → map numeral_of (words_of line.text) ≡ as_words row → length row ≡ n → table ≡ (values ++ row) ++ ending
            → ((i : ℕ) (other : NumberedLine) → slice_get lines i ≡ Some other → map numeral_of (words_of other.text) ≡ as_words (slice_range table ((x + 1 + i) * n) ((x + 1 + i) * n + n)))
            → (i : ℕ) (other : NumberedLine) → slice_get (line ∷ lines) i ≡ Some other → map numeral_of (words_of other.text) ≡ as_words (slice_range table ((x + i) * n) ((x + i) * n + n))
        rows row ending written wide whole later zero other stands =
            let same : line ≡ other = cc in
            let at : x ≡ x + 0 = omega arith in
            ap (λ (l : NumberedLine). map numeral_of (words_of l.text)) (sym same) ∙ written
            ∙ ap as_words (sym (row_between values row ending (x * n) n long wide) ∙ ap (λ t. slice_range t (x * n) (x * n + n)) (sym whole) ∙ ap (λ k. slice_range table (k * n) (k * n + n)) at)
        rows row ending written wide whole later (suc i) other stands =
            let at : x + 1 + i ≡ x + suc i = omega arith in
            later i other stands ∙ ap (λ k. as_words (slice_range table (k * n) (k * n + n))) at

-- the rows of a table that the lines of a file give
pub record RowsGiven (n : ℕ) (lines : List NumberedLine) (table : List ℕ) : Type 0 where
  pub count : length lines ≡ n
  pub rows : (x : ℕ) (line : NumberedLine) → slice_get lines x ≡ Some line → map numeral_of (words_of line.text) ≡ as_words (slice_range table (x * n) (x * n + n))

pub rows_given : (n : ℕ) (lines : List NumberedLine) (table : List ℕ) → table_behind n 0 [] lines ≡ Ok table → RowsGiven n lines table
rows_given n lines table h =
    let are = rows_are n 0 [] lines table (omega arith) (omega arith) h in
    record {
      count = omega (arith, are.count);
      rows = λ x line stands.
          let at : 0 + x ≡ x = omega arith in
          are.rows x line stands ∙ ap (λ k. as_words (slice_range table (k * n) (k * n + n))) at;
    }

-- the first rows of a table of distances, and the next one
module _ (n : ℕ) (v : List ℕ) (d : IsDistances (record { items = n; values = v })) where
  more_rows : (at : ℕ) → take (at + n) v ≡ take at v ++ slice_range v at (at + n)
  more_rows at =
      let count : at + n - at ≡ n = omega arith in
      sym (take-append-drop at (take (at + n) v))
      ∙ ap (λ t. t ++ drop at (take (at + n) v)) (take-take at (at + n) v (omega arith))
      ∙ ap (λ t. take at v ++ t) (drop-take at n v ∙ ap (λ k. take k (drop at v)) (sym count))

  symmetric_to : (values : List ℕ) (a z : ℕ) → ((b : ℕ) → 1 ≤ b → b ≤ z → distance n values a b ≡ distance n values b a) → is_symmetric_at n values a z ≡ true
  symmetric_to values a zero same = refl
  symmetric_to values a (suc z) same =
      and_from (is_symmetric_at n values a z) (distance n values a (suc z) == distance n values (suc z) a)
      (symmetric_to values a z (λ b pb le. same b pb (omega arith)))
      (eq-eqb (distance n values a (suc z)) (distance n values (suc z) a) (same (suc z) (omega arith) (omega arith)))

  module _ (x : ℕ) (lt : x < n) where
    room : x * n + n ≤ length v
    room = omega (arith, row_within n n x lt, d.whole)

    near : (a b : ℕ) → 1 ≤ a → a ≤ x + 1 → 1 ≤ b → b ≤ n → distance n (take (x * n + n) v) a b ≡ distance n v a b
    near a b pa la pb lb =
        let inside : (a - 1) * n + (b - 1) < x * n + n = omega (arith, place_within (x + 1) n (a - 1) (b - 1) (omega arith) (omega arith)) in
        get_or-take (x * n + n) v ((a - 1) * n + (b - 1)) 0 inside

    next_row : is_row_at n (take (x * n + n) v) (x + 1) ≡ true
    next_row =
        let values = take (x * n + n) v in
        let last : x + 1 - 1 ≡ x = omega arith in
        let zero_here : distance n values (x + 1) (x + 1) ≡ 0 = near (x + 1) (x + 1) (omega arith) (omega arith) (omega arith) (omega arith) ∙ d.zero_diagonal (x + 1) (omega arith) (omega arith) in
        and_from (distance n values (x + 1) (x + 1) == 0) (is_symmetric_at n values (x + 1) (x + 1 - 1)) (eq-eqb (distance n values (x + 1) (x + 1)) 0 zero_here)
        (ap (is_symmetric_at n values (x + 1)) last ∙ symmetric_to values (x + 1) x (λ b pb le.
        near (x + 1) b (omega arith) (omega arith) pb (omega arith) ∙ d.symmetric (x + 1) b (omega arith) (omega arith) pb (omega arith) ∙ sym (near b (x + 1) pb (omega arith) (omega arith) (omega arith))))

    row_added : (line : List ℕ) → map numeral_of (words_of line) ≡ as_words (slice_range v (x * n) (x * n + n)) → row_behind n x (take (x * n) v) line ≡ Ok (take (x * n + n) v)
    row_added line written =
        let before = take (x * n) v in
        let numbers : numbers_behind before (words_of line) ≡ Ok (take (x * n + n) v) =
        numbers_taken before (words_of line) (slice_range v (x * n) (x * n + n)) written ∙ ap (λ t. Ok t) (sym (more_rows (x * n))) in
        let long : length (take (x * n + n) v) ≡ length before + n = omega (arith, length-take-le (x * n + n) v room, length-take-le (x * n) v (omega (arith, room))) in
        row_here n x before line lt
        ∙ ap (table_with_row n (length before + n) (x + 1)) numbers
        ∙ rw (eq-eqb (length (take (x * n + n) v)) (length before + n) long, next_row) refl

  rows_taken : (x : ℕ) (lines : List NumberedLine) → x + length lines ≡ n
      → ((i : ℕ) (line : NumberedLine) → slice_get lines i ≡ Some line → map numeral_of (words_of line.text) ≡ as_words (slice_range v ((x + i) * n) ((x + i) * n + n)))
      → table_behind n x (take (x * n) v) lines ≡ Ok v
  rows_taken x [] count written =
      let same : x ≡ n = omega arith in
      table_whole n x (take (x * n) v) [] refl (omega arith)
      ∙ ap (λ t. Ok t) (ap (λ k. take (k * n) v) same ∙ take_all (n * n) v (omega (arith, d.whole)))
  rows_taken x (line ∷ lines) count written =
      let lt : x < n = omega arith in
      let at : x + 0 ≡ x = omega arith in
      let next : (x + 1) * n ≡ x * n + n = omega arith in
      let here : map numeral_of (words_of line.text) ≡ as_words (slice_range v (x * n) (x * n + n)) = written 0 line refl ∙ ap (λ k. as_words (slice_range v (k * n) (k * n + n))) at in
      sym (table_step n x (take (x * n) v) line (line ∷ lines) lines refl (take (x * n + n) v) (row_added x lt line.text here))
      ∙ ap (λ k. table_behind n (x + 1) (take k v) lines) (sym next)
      ∙ rows_taken (x + 1) lines (omega arith) (λ i other stands.
      let shift : x + suc i ≡ x + 1 + i = omega arith in
      written (suc i) other stands ∙ ap (λ k. as_words (slice_range v (k * n) (k * n + n))) shift)

  pub table_taken : (lines : List NumberedLine) → length lines ≡ n
      → ((x : ℕ) (line : NumberedLine) → slice_get lines x ≡ Some line → map numeral_of (words_of line.text) ≡ as_words (slice_range v (x * n) (x * n + n)))
      → table_behind n 0 [] lines ≡ Ok v
  table_taken lines count written =
      let none : 0 ≡ 0 * n = omega arith in
      ap (λ k. table_behind n 0 (take k v) lines) none
      ∙ rows_taken 0 lines (omega arith) (λ x line stands.
      let at : x ≡ 0 + x = omega arith in
      written x line stands ∙ ap (λ k. as_words (slice_range v (k * n) (k * n + n))) at)
