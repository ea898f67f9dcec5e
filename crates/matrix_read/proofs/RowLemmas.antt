-- Rows that are read one after another.
use Rattle.std.proofs.Common.{◌≡◌, ℕ, ◌<◌, ◌+◌, ◌-◌, ◌||◌, List, [], ◌∷◌, ◌++◌, length, map, get_or, set, refl, sym, ap, ◌∙◌, arith, Bool, true, false, Option, Some, None, inl, inr, append_assoc, length-append, eq-eqb, get_or-set_same, get_or-set_other}
use Rattle.std.proofs.lemmas.Bool.{cases_eq, ne_eqb, or_right}
use Rattle.column_order.specs.Orders.{has}
use Rattle.std.proofs.lemmas.List.{append-nil}
use Rattle.row_model.specs.Rows.{RowList, columns_where}
use Rattle.row_model.specs.declared.refusal.Read.TheVariants as read
use Rattle.text_lines.specs.Lines.{NumberedLine}
use Rattle.text_lines.specs.Rows.{first_refusal, columns_among, numbered_lines}
use Rattle.matrix_read.specs.RowsThen.{answer_after}
use Rattle.row_model.proofs.Columns.{columns_same}
use Rattle.matrix_read.proofs.PlaceLemmas.{places_from, places_columns}
use Rattle.text_lines.proofs.FirstRefused.{first_refusal-here, first_refusal-later, numbered_step}

module _ (code_of : ℕ → List ℕ → Option ℕ) (row_from : List ℕ → List ℕ) (c : ℕ) where
  -- one line less, which is refused or a row
  module _ (rows : List (List ℕ)) (line : NumberedLine) (lines rest : List NumberedLine) (is : lines ≡ line ∷ rest) where
    pub answer_stop : (code : ℕ) → code_of (length rows) line.text ≡ Some code → answer_after code_of row_from c rows lines ≡ read.Refused (record { code = code; line = line.number })
    answer_stop code h = rw (is, first_refusal-here code_of (length rows) line rest code h) refl

    pub answer_step : code_of (length rows) line.text ≡ None → answer_after code_of row_from c (rows ++ row_from line.text ∷ []) rest ≡ answer_after code_of row_from c rows lines
    answer_step h =
        let count : length (rows ++ row_from line.text ∷ []) ≡ length rows + 1 = length-append rows (row_from line.text ∷ []) in
        rw (is, first_refusal-later code_of (length rows) line rest h, count, append_assoc rows (row_from line.text ∷ []) (map (λ (line : NumberedLine). row_from line.text) rest)) refl

  -- the same of the first of the lines of a text
  module _ (rows : List (List ℕ)) (number : ℕ) (line : List ℕ) (lines later : List (List ℕ)) (is : lines ≡ line ∷ later) where
    numbered : numbered_lines number lines ≡ record { number = number; text = line } ∷ numbered_lines (number + 1) later
    numbered = ap (numbered_lines number) is ∙ numbered_step number line later

    pub line_stop : (code : ℕ) → code_of (length rows) line ≡ Some code → answer_after code_of row_from c rows (numbered_lines number lines) ≡ read.Refused (record { code = code; line = number })
    line_stop code h = answer_stop rows (record { number = number; text = line }) (numbered_lines number lines) (numbered_lines (number + 1) later) numbered code h

    pub line_step : code_of (length rows) line ≡ None → answer_after code_of row_from c (rows ++ row_from line ∷ []) (numbered_lines (number + 1) later) ≡ answer_after code_of row_from c rows (numbered_lines number lines)
    line_step h = answer_step rows (record { number = number; text = line }) (numbered_lines number lines) (numbered_lines (number + 1) later) numbered h

  pub answer_end : (m : RowList) (lines : List NumberedLine) → lines ≡ [] → m.columns ≡ c → answer_after code_of row_from c m.rows lines ≡ read.Ok m
  unfolding first_refusal
  answer_end m lines is w = rw (is, append-nil m.rows, ← w) refl

-- the columns from one on whose marks are set
abbrev pub marked_from : ℕ → List Bool → List ℕ
marked_from column marks = places_from (λ mark. mark) column marks

pub marked_columns : (marks : List Bool) → marked_from 1 marks ≡ columns_where (length marks) (λ column. get_or marks (column - 1) false)
marked_columns marks = places_columns (λ mark. mark) false marks

-- the marked columns are those that are among the numbers
pub marked_is : (marks : List Bool) (numbers : List ℕ) → ((j : ℕ) → j < length marks → get_or marks j false ≡ has numbers (j + 1))
    → columns_where (length marks) (λ column. get_or marks (column - 1) false) ≡ columns_among (length marks) numbers
marked_is marks numbers h =
    columns_same (length marks) (λ column. get_or marks (column - 1) false) (has numbers) (λ j lt.
    let at : j + 1 - 1 ≡ j = omega arith in
    ap (λ i. get_or marks i false) at ∙ h j lt)

-- one more mark, for the next number
module _ (marks : List Bool) (i c : ℕ) (rest whole : List ℕ) (within : i < length marks)
    (before : (j : ℕ) → j < c → (get_or marks j false || has ((i + 1) ∷ rest) (j + 1)) ≡ has whole (j + 1)) where
  pub mark_step : (j : ℕ) → j < c → (get_or (set marks i true) j false || has rest (j + 1)) ≡ has whole (j + 1)
  mark_step j lt =
      let known = before j lt in
      elim (cases_eq i j) [
        | inl same ↦
            let named : (get_or marks j false || true) ≡ has whole (j + 1) = rw (eq-eqb (i + 1) (j + 1) (ap (λ n. n + 1) same)) at known in
            let marked : get_or (set marks i true) j false ≡ true = rw same (get_or-set_same marks j true false (omega arith)) in
            ap (λ mark. mark || has rest (j + 1)) marked ∙ sym (or_right (get_or marks j false) true refl) ∙ named
        | inr other ↦
            let apart : i + 1 ≡ j + 1 → ⊥ = λ e. other (omega arith) in
            let not_here : j ≡ i → ⊥ = λ e. other (sym e) in
            let named : (get_or marks j false || has rest (j + 1)) ≡ has whole (j + 1) = rw (ne_eqb (i + 1) (j + 1) apart) at known in
            rw (get_or-set_other marks i j true false not_here) named
      ]
