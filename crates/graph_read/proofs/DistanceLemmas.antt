-- Tables of distances, row by row.
use Rattle.std.proofs.Common.{◌≡◌, ◌∙◌, ℕ, zero, suc, ◌+◌, ◌-◌, ◌*◌, ◌<◌, ◌≤◌, Bool, true, false, if◌then◌else◌, ◌==◌, nat_le, List, [], ◌∷◌, ◌++◌, length, get_or, refl, sym, ap, inl, inr, arith, subst, eqb-true, Result, Ok, Err, append_assoc}
use Rattle.std.proofs.lemmas.Bool.{cases_eq, cases_lt, and_left, and_right, and_parts, le-leb, lt-leb, leb-true, leb-false}
use Rattle.std.proofs.lemmas.List.{append-nil}
use Rattle.std.proofs.Math.ListN.{get_or-append}
use Rattle.row_model.specs.declared.refusal.Refusal.{Refusal}
use Rattle.row_model.specs.declared.code.TheConstants.{COUNT, GRAMMAR, RANGE, SYMMETRY}
use Rattle.text_lines.specs.Lines.{NumberedLine}
use Rattle.text_lines.specs.Words.{words_of, numeral_of}
use Rattle.text_lines.specs.declared.words.Numeral.{Numeral}
use Rattle.text_lines.specs.declared.words.Numeral.TheVariants.{Value, TooLarge, NotDigits}
use Rattle.graph_model.specs.declared.TheConstants.{ITEM_BOUND}
use Rattle.graph_model.specs.Distances.{distance, IsDistances}
use Rattle.graph_read.specs.DistanceSteps.{distance_then, numbers_behind, is_symmetric_at, is_row_at, table_with_row, row_behind, rows_then, table_behind}
use Rattle.graph_read.proofs.PlaceLemmas.{place_within}

-- where a row is not symmetric
pub not_symmetric : (n : ℕ) (values : List ℕ) (x y z : ℕ) → (distance n values x (suc y) == distance n values (suc y) x) ≡ false → y < z → is_symmetric_at n values x z ≡ false
not_symmetric n values x y zero h lt = absurd (omega arith)
not_symmetric n values x y (suc z) h lt =
    elim (cases_eq y z) [
      | inl same ↦ and_right (is_symmetric_at n values x z) (distance n values x (suc z) == distance n values (suc z) x) (rw same at h)
      | inr other ↦ and_left (is_symmetric_at n values x z) (distance n values x (suc z) == distance n values (suc z) x) (not_symmetric n values x y z h (omega arith))
    ]

-- numbers of words, one by one
module _ (values : List ℕ) (word : List ℕ) (words rest : List (List ℕ)) (is : words ≡ word ∷ rest) where
  pub numbers_step : (n : ℕ) → Value n ≡ numeral_of word → numbers_behind (values ++ n ∷ []) rest ≡ numbers_behind values words
  unfolding numbers_behind
  numbers_step n h = rw (is, ← h) refl

  pub numbers_large : TooLarge ≡ numeral_of word → numbers_behind values words ≡ Err RANGE
  unfolding numbers_behind
  numbers_large h = rw (is, ← h) refl

  pub numbers_foreign : NotDigits ≡ numeral_of word → numbers_behind values words ≡ Err GRAMMAR
  unfolding numbers_behind
  numbers_foreign h = rw (is, ← h) refl

pub numbers_end : (values : List ℕ) (words : List (List ℕ)) → words ≡ [] → numbers_behind values words ≡ Ok values
unfolding numbers_behind
numbers_end values words is = rw is refl

-- rows of lines, one by one
module _ (n x : ℕ) (values : List ℕ) (line : NumberedLine) (lines rest : List NumberedLine) (is : lines ≡ line ∷ rest) where
  pub table_stop : (code : ℕ) → row_behind n x values line.text ≡ Err code → table_behind n x values lines ≡ Err (record { code = code; line = line.number })
  unfolding table_behind
  table_stop code h = rw (is, h) refl

  pub table_step : (more : List ℕ) → row_behind n x values line.text ≡ Ok more → table_behind n (x + 1) more rest ≡ table_behind n x values lines
  unfolding table_behind
  table_step more h = rw (is, h) refl

module _ (n x : ℕ) (values : List ℕ) (lines : List NumberedLine) (is : lines ≡ []) where
  pub table_whole : n ≤ x → table_behind n x values lines ≡ Ok values
  unfolding table_behind
  table_whole le = rw (is, le-leb n x le) refl

  pub table_short : x < n → table_behind n x values lines ≡ Err (record { code = COUNT; line = 0 })
  unfolding table_behind
  table_short lt = rw (is, lt-leb n x lt) refl

-- a row behind those of x items
module _ (n x : ℕ) (values line : List ℕ) where
  pub row_many : n ≤ x → row_behind n x values line ≡ Err COUNT
  row_many le = rw (le-leb n x le) refl

  pub row_here : x < n → row_behind n x values line ≡ table_with_row n (length values + n) (x + 1) (numbers_behind values (words_of line))
  row_here lt = rw (lt-leb n x lt) refl

-- the first rows of a table are symmetric with a zero diagonal
pub record IsFit (n x : ℕ) (values : List ℕ) : Type 0 where
  pub whole : length values ≡ x * n
  pub symmetric : (a b : ℕ) → 1 ≤ b → b < a → a ≤ x → distance n values a b ≡ distance n values b a
  pub diagonal : (a : ℕ) → 1 ≤ a → a ≤ x → distance n values a a ≡ 0

symmetric_from : (n : ℕ) (values : List ℕ) (a z b : ℕ) → is_symmetric_at n values a z ≡ true → 1 ≤ b → b ≤ z → distance n values a b ≡ distance n values b a
symmetric_from n values a zero b h some le = absurd (omega arith)
symmetric_from n values a (suc z) b h some le =
    let parts = and_parts (is_symmetric_at n values a z) (distance n values a (suc z) == distance n values (suc z) a) h in
    elim (cases_eq b (suc z)) [
      | inl same ↦ rw same (eqb-true (distance n values a (suc z)) (distance n values (suc z) a) parts.1)
      | inr other ↦ symmetric_from n values a z b parts.0 some (omega arith)
    ]

pub fit_more : (n x : ℕ) (values row more : List ℕ) → IsFit n x values → x < n → more ≡ values ++ row → length more ≡ length values + n → is_row_at n more (x + 1) ≡ true → IsFit n (x + 1) more
fit_more n x values row more fit lt is long good =
    let parts = and_parts (distance n more (x + 1) (x + 1) == 0) (is_symmetric_at n more (x + 1) (x + 1 - 1)) good in
    let at : x + 1 - 1 ≡ x = omega arith in
    let symmetric_at : is_symmetric_at n more (x + 1) x ≡ true = ap (is_symmetric_at n more (x + 1)) (sym at) ∙ parts.1 in
    record {
      whole = omega (arith, long, fit.whole);
      symmetric = λ a b pb ba ax.
          elim (cases_lt x a) [
            | inl new ↦
                let same : a ≡ x + 1 = omega arith in
                rw same (symmetric_from n more (x + 1) x b symmetric_at pb (omega arith))
            | inr le ↦ kept a b (omega arith) pb le (omega arith) ∙ fit.symmetric a b pb ba le ∙ sym (kept b a pb (omega arith) (omega arith) (omega arith))
          ];
      diagonal = λ a pa ax.
          elim (cases_lt x a) [
            | inl new ↦
                let same : a ≡ x + 1 = omega arith in
                rw same (eqb-true (distance n more (x + 1) (x + 1)) 0 parts.0)
            | inr le ↦ kept a a pa pa le (omega arith) ∙ fit.diagonal a pa le
          ];
    }
  where
    kept : (a b : ℕ) → 1 ≤ a → 1 ≤ b → a ≤ x → b ≤ n → distance n more a b ≡ distance n values a b
    kept a b pa pb ax bn =
        let inside : (a - 1) * n + (b - 1) < length values = omega (arith, place_within x n (a - 1) (b - 1) (omega arith) (omega arith), fit.whole) in
        ap (λ t. get_or t ((a - 1) * n + (b - 1)) 0) is ∙ get_or-append values row 0 ((a - 1) * n + (b - 1)) inside

-- numbers are added behind those that are there
pub record StartsWith (values more : List ℕ) : Type 0 where
  pub row : List ℕ
  pub is : more ≡ values ++ row

numbers_start : (values : List ℕ) (words : List (List ℕ)) (more : List ℕ) → numbers_behind values words ≡ Ok more → StartsWith values more
unfolding numbers_behind
numbers_start values [] more h = let is : values ≡ more = cc in record { row = []; is = sym is ∙ sym (append-nil values) }
numbers_start values (word ∷ words) more h = step (numeral_of word) h (λ n k. numbers_start (values ++ n ∷ []) words more k)
  where
    step : (numeral : Numeral) → distance_then numeral (λ n. numbers_behind (values ++ n ∷ []) words) ≡ Ok more → ((n : ℕ) → numbers_behind (values ++ n ∷ []) words ≡ Ok more → StartsWith (values ++ n ∷ []) more) → StartsWith values more
    step (Value n) k later = let rest = later n k in record { row = n ∷ rest.row; is = rest.is ∙ append_assoc values (n ∷ []) rest.row }
    step TooLarge k later = absurd (cc)
    step NotDigits k later = absurd (cc)

pub record IsNext (n x : ℕ) (more : List ℕ) : Type 0 where
  pub few : x < n
  pub fit : IsFit n (x + 1) more

row_next : (n x : ℕ) (values line more : List ℕ) → IsFit n x values → row_behind n x values line ≡ Ok more → IsNext n x more
row_next n x values line more fit h = by_count (nat_le n x) refl h
  where
    by_row : x < n → (found : List ℕ) → numbers_behind values (words_of line) ≡ Ok found → (long row : Bool) → (length found == length values + n) ≡ long → is_row_at n found (x + 1) ≡ row
        → (if long then if row then Ok found else Err SYMMETRY else Err COUNT) ≡ Ok more → IsNext n x more
    by_row lt found numbers true true long row k =
        let is : found ≡ more = cc in
        let start = numbers_start values (words_of line) found numbers in
        record { few = lt; fit = subst (IsFit n (x + 1)) is (fit_more n x values start.row found fit lt start.is (eqb-true (length found) (length values + n) long) row) }
    by_row lt found numbers true false long row k = absurd (cc)
    by_row lt found numbers false row long r k = absurd (cc)

    by_numbers : x < n → (found : Result (List ℕ) ℕ) → numbers_behind values (words_of line) ≡ found → table_with_row n (length values + n) (x + 1) found ≡ Ok more → IsNext n x more
    by_numbers lt (Ok found) numbers k = by_row lt found numbers (length found == length values + n) (is_row_at n found (x + 1)) refl refl k
    by_numbers lt (Err code) numbers k = absurd (cc)

    by_count : (full : Bool) → nat_le n x ≡ full → (if full then Err COUNT else table_with_row n (length values + n) (x + 1) (numbers_behind values (words_of line))) ≡ Ok more → IsNext n x more
    by_count true e k = absurd (cc)
    by_count false e k = by_numbers (leb-false n x e) (numbers_behind values (words_of line)) refl k

table_fit : (n x : ℕ) (values : List ℕ) (lines : List NumberedLine) (table : List ℕ) → IsFit n x values → x ≤ n → table_behind n x values lines ≡ Ok table → IsFit n n table
unfolding table_behind
table_fit n x values [] table fit le h = whole (nat_le n x) refl h
  where
    whole : (full : Bool) → nat_le n x ≡ full → if◌then◌else◌ {A = Result (List ℕ) Refusal} full (Ok values) (Err (record { code = COUNT; line = 0 })) ≡ Ok table → IsFit n n table
    whole true e k =
        let is : values ≡ table = cc in
        let same : x ≡ n = omega (arith, leb-true n x e) in
        subst (IsFit n n) is (subst (λ (y : ℕ). IsFit n y values) same fit)
    whole false e k = absurd (cc)
table_fit n x values (line ∷ lines) table fit le h =
    step (row_behind n x values line.text) refl h (λ more next k. table_fit n (x + 1) more lines table next.fit (omega (arith, next.few)) k)
  where
    step : (row : Result (List ℕ) ℕ) → row_behind n x values line.text ≡ row → rows_then row line.number (λ more. table_behind n (x + 1) more lines) ≡ Ok table
        → ((more : List ℕ) → IsNext n x more → table_behind n (x + 1) more lines ≡ Ok table → IsFit n n table) → IsFit n n table
    step (Ok more) e k later = later more (row_next n x values line.text more fit e) k
    step (Err code) e k later = absurd (cc)

pub are_distances : (n : ℕ) (lines : List NumberedLine) (table : List ℕ) → 1 ≤ n → n ≤ ITEM_BOUND → table_behind n 0 [] lines ≡ Ok table → IsDistances (record { items = n; values = table })
are_distances n lines table some few h =
    let fit : IsFit n n table = table_fit n 0 [] lines table (record { whole = omega arith; symmetric = λ a b pb ba ax. absurd (omega arith); diagonal = λ a pa ax. absurd (omega arith) }) (omega arith) h in
    record {
      items = (some, few);
      whole = fit.whole;
      symmetric = λ x y px lx py ly. both fit x y px lx py ly;
      zero_diagonal = fit.diagonal;
    }
  where
    both : IsFit n n table → (x y : ℕ) → 1 ≤ x → x ≤ n → 1 ≤ y → y ≤ n → distance n table x y ≡ distance n table y x
    both fit x y px lx py ly =
        elim (cases_lt y x) [
          | inl lt ↦ fit.symmetric x y py lt lx
          | inr le ↦ elim (cases_eq x y) [
            | inl same ↦ rw same refl
            | inr other ↦ sym (fit.symmetric y x px (omega arith) ly)
          ]
        ]
