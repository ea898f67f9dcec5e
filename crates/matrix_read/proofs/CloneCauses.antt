-- The causes by which clone files are refused, and the clone files that are read.
use Rattle.std.proofs.Common.{◌≡◌, ◌∙◌, inl, inr, ℕ, zero, suc, ◌+◌, ◌<◌, ◌≤◌, List, [], ◌∷◌, length, map, codes, get_or, slice_get, unwrap_or, Option, Some, None, refl, sym, ap, arith, false}
use Rattle.std.proofs.lemmas.Bool.{cases_lt}
use Rattle.column_order.specs.Orders.{has}
use Rattle.serde_json.specs.Data.{Data, Items, no_items, item}
use Rattle.row_model.proofs.Columns.{columns_same, columns_row}
use Rattle.row_model.specs.Rows.{RowList}
use Rattle.row_model.specs.declared.refusal.Refusal.{Refusal}
use Rattle.row_model.specs.declared.refusal.Read.TheVariants as answer
use Rattle.row_model.specs.declared.TheConstants.{MAX_ROWS, MAX_FILE_BYTES}
use Rattle.row_model.specs.declared.code.TheConstants.{EMPTY, TWICE, LIMIT, SHAPE}
use Rattle.text_lines.specs.Lines.{without_mark}
use Rattle.matrix_read.specs.Names.{has_twice}
use Rattle.text_lines.specs.Rows.{refused_or}
use Rattle.matrix_read.specs.Clones.{reading, column_of, names_code, head_code, clones, values_of, value_read}
use Rattle.matrix_read.specs.CloneSteps.{array_at, count, probes_of, first_refused, names_row, clone_row, clone_rows, clone_matrix, unless_refused, matrix_of, if_shaped, if_read}
use Rattle.matrix_read.specs.CloneRows.{IsCloneRow, IsCloneFile, CloneLaw}
use Rattle.matrix_read.specs.CloneRefusals.{HasValue, HasShape, AreFew, AreWithin, NoCloneRefused, CloneRefusals}
use Rattle.matrix_read.proofs.CloneLemmas.{clones_long, clones_short, shaped, head_empty, head_wide, head_twice, head_many, head_taken, names_taken, clones_same}
use Rattle.matrix_read.proofs.CloneRowLemmas.{column_found, read_as}
use Rattle.matrix_read.proofs.Within.{inside_read}
use Rattle.matrix_read.proofs.WithinClones.{clones_within}

count_values : (items : Items) → count items ≡ length (values_of items)
count_values no_items = refl
count_values (item value items) = ap suc (count_values items)

module _ (probes : List (List ℕ)) where
  -- where no clone is refused
  none_refused : (number : ℕ) (items : Items) → NoCloneRefused probes items → first_refused probes number items ≡ None
  unfolding first_refused
  none_refused number no_items all = refl
  none_refused number (item clone items) all = rw (all 0 clone refl) (none_refused (number + 1) items (λ i other e. all (suc i) other e))

  -- where a clone is the first
  first_at : (number : ℕ) (items : Items) (refusal : Refusal) (place : ℕ) (clone : Data) → slice_get (values_of items) place ≡ Some clone → refusal.line ≡ place + number
      → names_code probes (probes_of clone) ≡ Some refusal.code → ((i : ℕ) (other : Data) → i < place → slice_get (values_of items) i ≡ Some other → names_code probes (probes_of other) ≡ None)
      → first_refused probes number items ≡ Some refusal
  unfolding first_refused
  first_at number no_items refusal zero clone stands line code earlier = absurd (cc)
  first_at number no_items refusal (suc place) clone stands line code earlier = absurd (cc)
  first_at number (item first items) refusal zero clone stands line code earlier =
      let same : first ≡ clone = cc in
      let here : names_code probes (probes_of first) ≡ Some refusal.code = ap (λ (c : Data). names_code probes (probes_of c)) same ∙ code in
      let counted : number ≡ refusal.line = omega (arith, line) in
      rw here (ap (λ n. Some (record { code = refusal.code; line = n })) counted)
  first_at number (item first items) refusal (suc place) clone stands line code earlier =
      rw (earlier 0 first (omega arith) refl) (first_at (number + 1) items refusal place clone stands (omega (arith, line)) code (λ i other lt e. earlier (suc i) other (omega arith) e))

-- what is left to judge of a file
module _ (bytes : List ℕ) where
  value_told : (value : Data) → HasValue bytes value → clones bytes ≡ if_read (Some value)
  value_told value h = clones_short bytes h.short ∙ ap if_read h.is_read

  module _ (probes : List (List ℕ)) (items : Items) (h : HasShape bytes probes items) where
    shape_read : clones bytes ≡ matrix_of probes items
    shape_read = value_told h.value h.has ∙ shaped h.value probes items (sym h.named) (sym h.listed)

    head_read : (code : Option ℕ) → head_code probes (count items) ≡ code → clones bytes ≡ unless_refused code (clone_matrix probes items)
    head_read code e = shape_read ∙ ap (λ c. unless_refused c (clone_matrix probes items)) e

    some_probe : AreFew probes → 0 < length probes
    some_probe few = omega (arith, few.some)

    within_read : AreWithin probes items → (found : Option Refusal) → first_refused probes 1 items ≡ found → clones bytes ≡ refused_or found (record { columns = length probes; rows = clone_rows probes items })
    within_read w found e =
        let few : count items ≤ MAX_ROWS = omega (arith, w.rows, count_values items) in
        head_read None (head_taken probes (count items) (some_probe w.few) w.few.narrow w.distinct few)
        ∙ ap (λ r. refused_or r (record { columns = length probes; rows = clone_rows probes items })) e

no_list : (probes : Option (List (List ℕ))) → if_shaped probes None ≡ answer.Refused (record { code = SHAPE; line = 0 })
no_list None = refl
no_list (Some probes) = refl

pub clone_refusals : CloneRefusals
clone_refusals = record {
  too_long = clones_long;
  no_value = λ bytes short e. clones_short bytes short ∙ ap if_read e;
  no_probes = λ bytes value h e. value_told bytes value h ∙ ap (λ probes. if_shaped probes (array_at (codes "clones") value)) e;
  no_clones = λ bytes value h e. value_told bytes value h ∙ ap (if_shaped (probes_of value)) e ∙ no_list (probes_of value);
  no_column = λ bytes probes items h none. head_read bytes probes items h (Some EMPTY) (head_empty probes (count items) none);
  many_probes = λ bytes probes items h many. head_read bytes probes items h (Some LIMIT) (head_wide probes (count items) (omega (arith, many)) many);
  twice = λ bytes probes items h few same. head_read bytes probes items h (Some TWICE) (head_twice probes (count items) (some_probe bytes probes items h few) few.narrow same);
  many_clones = λ bytes probes items h few distinct many.
      head_read bytes probes items h (Some LIMIT) (head_many probes (count items) (some_probe bytes probes items h few) few.narrow distinct (omega (arith, many, count_values items)));
  bad_clone = λ bytes probes items refusal h w first.
      within_read bytes probes items h w (Some refusal) (first_at probes 1 items refusal first.place first.clone first.stands first.line first.code first.earlier);
  taken = λ bytes probes items h w none. within_read bytes probes items h w None (none_refused probes 1 items none);
}

-- the row of a clone is the only one
row_known : (probes : List (List ℕ)) (clone : Data) (row : List ℕ) → has_twice probes ≡ false → IsCloneRow probes clone row → clone_row probes clone ≡ row
row_known probes clone row once h =
    let n = length probes in
    ap (λ found. names_row probes (unwrap_or found [])) h.named
    ∙ columns_same n (has (map (column_of probes) h.names)) (has row) (λ j lt. column_found probes h.names j once lt ∙ sym (h.columns j lt))
    ∙ columns_row n row h.is_row

rows_known : (probes : List (List ℕ)) (items : Items) (rows : List (List ℕ)) → length rows ≡ length (values_of items)
    → ((i : ℕ) (clone : Data) → slice_get (values_of items) i ≡ Some clone → clone_row probes clone ≡ get_or rows i []) → clone_rows probes items ≡ rows
rows_known probes no_items [] long same = refl
rows_known probes no_items (row ∷ rows) long same = absurd (omega (arith, long))
rows_known probes (item clone items) [] long same = absurd (omega (arith, long))
rows_known probes (item clone items) (row ∷ rows) long same =
    ap (λ first. first ∷ clone_rows probes items) (same 0 clone refl)
    ∙ ap (λ rest. row ∷ rest) (rows_known probes items rows (omega (arith, long)) (λ i other e. same (suc i) other e))

-- a clone file is read as its matrix, and no other file is
file_read : (bytes : List ℕ) (m : RowList) → IsCloneFile bytes m → clones bytes ≡ answer.Ok m
file_read bytes m h =
    let of = h.is_matrix in
    let shape : HasShape bytes of.probes of.clones = record { value = h.value; has = record { short = h.short; is_read = h.is_read }; named = of.named; listed = of.listed } in
    let few : AreFew of.probes = record { some = omega (arith, h.within.some, of.columns); narrow = omega (arith, h.within.columns, of.columns) } in
    let within : AreWithin of.probes of.clones = record { few = few; distinct = of.distinct; rows = omega (arith, h.within.rows, of.count) } in
    let none : NoCloneRefused of.probes of.clones =
    λ i clone e. (let row = of.rows i clone e in names_taken of.probes row.names clone (sym row.named) row.known) in
    let rows : clone_rows of.probes of.clones ≡ m.rows = rows_known of.probes of.clones m.rows of.count (λ i clone e. row_known of.probes clone (get_or m.rows i []) of.distinct (of.rows i clone e)) in
    within_read bytes of.probes of.clones shape within None (none_refused of.probes 1 of.clones none)
    ∙ ap (λ n. answer.Ok (record { columns = n; rows = clone_rows of.probes of.clones })) (sym of.columns)
    ∙ ap (λ all. answer.Ok (record { columns = m.columns; rows = all })) rows

short_file : (bytes : List ℕ) (m : RowList) → clones bytes ≡ answer.Ok m → length bytes ≤ MAX_FILE_BYTES
short_file bytes m e =
    elim (cases_lt MAX_FILE_BYTES (length bytes)) [
      | inl long ↦ (let wrong = sym (clones_long bytes long) ∙ e in absurd (cc))
      | inr short ↦ short
    ]

file_told : (bytes : List ℕ) (m : RowList) → clones bytes ≡ answer.Ok m → IsCloneFile bytes m
unfolding clones
file_told bytes m e =
    let found = read_as m (reading (without_mark bytes)) (sym (clones_same (reading (without_mark bytes))) ∙ inside_read bytes (value_read (reading (without_mark bytes))) m e) in
    record { short = short_file bytes m e; value = found.0; is_read = found.1; is_matrix = found.2; within = clones_within bytes m e }

pub clone_law_holds : CloneLaw
clone_law_holds bytes m = (file_told bytes m, file_read bytes m)
