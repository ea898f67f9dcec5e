-- What is told of a core of a matrix within the limits is in the grammar, and within the limit of bytes.
use Rattle.std.proofs.Common.{◌≡◌, ℕ, suc, ◌+◌, ◌*◌, ◌<◌, ◌≤◌, List, [], ◌∷◌, ◌++◌, length, get_or, codes, arith}
use Rattle.std.specs.Prelude.{flat_map}
use Rattle.std.specs.List.{AllByRecursion, zip}
use Rattle.std.specs.Fmt.{decimal}
use Rattle.std.proofs.lemmas.List.{length-append}
use Rattle.column_order.proofs.Counts.{order_length, order_within}
use Rattle.column_order.proofs.Lists.{has_at}
use Rattle.row_model.specs.declared.kind.Kind.{Kind}
use Rattle.row_model.specs.declared.TheConstants.{MAX_COLUMNS, MAX_ROWS}
use Rattle.row_model.specs.Rows.{RowList}
use Rattle.row_model.proofs.Ascending.{ascends_few, ascends_within}
use Rattle.odd_cycle.specs.Laws.{CycleLengthLaw}
use Rattle.instance_model.specs.Instance.{plain, IsInstance}
use Rattle.core_text.specs.Parts.{CoreParts}
use Rattle.core_text.specs.Told.{TellsCore}
use Rattle.core_text.specs.Texts.{IsEntry, IsInGrammar, entries, entry_text, core_text}
use Rattle.text_parts.specs.Text.{kind_word, number_word, cycle_line, counted_text}
use Rattle.verdict_replies.specs.declared.TheConstants.{MAX_CORE_BYTES}
use Rattle.verdict_replies.specs.Cores.{core_value, CoreGrammarLaw}
use Rattle.verdict_replies.proofs.Lengths.{IsColumn, IsCycleLine, four_digits, six_digits, seven_digits, words_length, lines_length, small_kind, few_lines}
use Rattle.verdict_replies.proofs.Fits.{columns_within, columns_fit, cycle_lines, lines_fit}

-- a row of a matrix within the limits, and an order of its columns
pub record IsNear (entry : (ℕ × List ℕ)) : Type 0 where
  pub row : entry.0 ≤ MAX_ROWS
  pub columns : AllByRecursion IsColumn entry.1
  pub some : 1 ≤ length entry.1
  pub few : length entry.1 ≤ MAX_COLUMNS

-- what holds of the row and the order at each index
zipped : (P : (ℕ × List ℕ) → Type 0) (rows : List ℕ) (orders : List (List ℕ)) → length orders ≡ length rows → ((i : ℕ) → i < length rows → P (get_or rows i 0, get_or orders i [])) → AllByRecursion P (zip rows orders)
zipped P [] orders e h = tt
zipped P (k ∷ rows) [] e h = absurd (omega (arith, e))
zipped P (k ∷ rows) (o ∷ orders) e h = (h 0 (omega arith), zipped P rows orders (omega (arith, e)) (λ i l. h (suc i) (omega arith)))

zip_few : (rows : List ℕ) (orders : List (List ℕ)) → length (zip rows orders) ≤ length rows
zip_few [] orders = omega arith
zip_few (k ∷ rows) [] = omega arith
zip_few (k ∷ rows) (o ∷ orders) = omega (arith, zip_few rows orders)

entries_fit : (es : List (ℕ × List ℕ)) → AllByRecursion IsNear es → AllByRecursion IsEntry es
entries_fit [] h = tt
entries_fit (e ∷ es) h = let row : e.0 ≤ MAX_ROWS = h.0.row in ((omega (arith, row), (h.0.some, columns_fit e.1 h.0.columns)), entries_fit es h.1)

-- a row with its order has at most 10,259 bytes
entry_short : (e : (ℕ × List ℕ)) → IsNear e → length (entry_text e) ≤ 10259
entry_short e h =
    let words : length (flat_map number_word e.1) ≤ 5 * length e.1 = words_length e.1 h.columns in
    omega (
      arith,
      six_digits e.0 h.row,
      words,
      h.few,
      length-append (codes "row ") (decimal e.0 ++ (codes "\nwithout" ++ (flat_map number_word e.1 ++ 10 ∷ []))),
      length-append (decimal e.0) (codes "\nwithout" ++ (flat_map number_word e.1 ++ 10 ∷ [])),
      length-append (codes "\nwithout") (flat_map number_word e.1 ++ 10 ∷ []),
      length-append (flat_map number_word e.1) (10 ∷ []),
    )

entries_short : (es : List (ℕ × List ℕ)) → AllByRecursion IsNear es → length (flat_map entry_text es) ≤ 10259 * length es
entries_short [] h = omega arith
entries_short (e ∷ es) h = omega (arith, entry_short e h.0, entries_short es h.1, length-append (entry_text e) (flat_map entry_text es))

-- items with their number
counted_short : {A : Type 0} (text : A → List ℕ) (items : List A) (size : ℕ) → length items ≤ 9999999 → length (flat_map text items) ≤ size → length (counted_text text items) ≤ 8 + size
counted_short text items size few short = omega (arith, short, seven_digits (length items) few, length-append (decimal (length items)) (10 ∷ flat_map text items))

module _ (cycle_length : CycleLengthLaw) (kind : Kind) (m : RowList) (parts : CoreParts) (within : IsInstance (plain kind m)) (some : 1 ≤ m.columns) (tells : TellsCore m parts) where
  few_columns : m.columns ≤ MAX_COLUMNS
  few_columns = within.1

  few_matrix_rows : length m.rows ≤ MAX_ROWS
  few_matrix_rows = within.2

  few_rows : length parts.rows ≤ MAX_ROWS
  few_rows = omega (arith, ascends_few (length m.rows) 0 parts.rows tells.core.rows, few_matrix_rows)

  near : AllByRecursion IsNear (entries parts)
  near = zipped IsNear parts.rows parts.orders tells.count (λ i l.
      let order = (tells.orders i l).valid.order in
      let o : List ℕ = get_or parts.orders i [] in
      let long : length o ≡ m.columns = order_length m.columns o order in
      record {
        row = omega (arith, (ascends_within (length m.rows) 0 (get_or parts.rows i 0) parts.rows tells.core.rows (has_at parts.rows i l)).1, few_matrix_rows);
        columns = columns_within o (λ a k. let inside = order_within m.columns o order a k in omega (arith, inside.1, few_columns));
        some = omega (arith, long, some);
        few = omega (arith, long, few_columns);
      })

  cycle : AllByRecursion IsCycleLine parts.lines
  cycle = cycle_lines m.columns m.rows parts.lines few_columns few_matrix_rows tells.cycle.closed

  few_cycle : length parts.lines ≤ 4192256
  few_cycle = few_lines m.columns (length parts.lines) few_columns (cycle_length m.columns m.rows parts.lines tells.cycle)

  in_grammar : IsInGrammar (core_value kind m parts)
  in_grammar =
      record {
        columns = (some, few_columns);
        each = tells.count;
        few_rows = omega (arith, few_rows);
        entries = entries_fit (entries parts) near;
        few_lines = omega (arith, few_cycle);
        lines = lines_fit parts.lines cycle;
      }

  short : length (core_text (core_value kind m parts)) ≤ MAX_CORE_BYTES
  unfolding core_text
  short =
      let listed : length (entries parts) ≤ length parts.rows = zip_few parts.rows parts.orders in
      let first : length (counted_text entry_text (entries parts)) ≤ 8 + 10259 * length (entries parts) =
      counted_short entry_text (entries parts) (10259 * length (entries parts)) (omega (arith, listed, few_rows)) (entries_short (entries parts) near) in
      let second : length (counted_text cycle_line parts.lines) ≤ 8 + 21 * length parts.lines =
      counted_short cycle_line parts.lines (21 * length parts.lines) (omega (arith, few_cycle)) (lines_length parts.lines cycle) in
      let end : List ℕ = counted_text cycle_line parts.lines ++ codes "end\n" in
      let rest : List ℕ = counted_text entry_text (entries parts) ++ (codes "cycle " ++ end) in
      omega (
        arith,
        listed,
        few_rows,
        few_cycle,
        first,
        second,
        small_kind kind,
        four_digits m.columns few_columns,
        length-append (codes "pq-core 1\nkind ") (kind_word kind ++ (codes "\ncolumns " ++ (decimal m.columns ++ (codes "\ncore " ++ rest)))),
        length-append (kind_word kind) (codes "\ncolumns " ++ (decimal m.columns ++ (codes "\ncore " ++ rest))),
        length-append (codes "\ncolumns ") (decimal m.columns ++ (codes "\ncore " ++ rest)),
        length-append (decimal m.columns) (codes "\ncore " ++ rest),
        length-append (codes "\ncore ") rest,
        length-append (counted_text entry_text (entries parts)) (codes "cycle " ++ end),
        length-append (codes "cycle ") end,
        length-append (counted_text cycle_line parts.lines) (codes "end\n"),
      )

pub grammar_law : CycleLengthLaw → CoreGrammarLaw
grammar_law cycle_length kind m parts within some tells = (in_grammar cycle_length kind m parts within some tells, short cycle_length kind m parts within some tells)
