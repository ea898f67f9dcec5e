-- The row of a clone has a column exactly where the clone names its probe.
use Rattle.std.proofs.Common.{◌≡◌, inl, inr, ℕ, zero, suc, ◌+◌, ◌<◌, ◌==◌, List, [], ◌∷◌, length, map, codes, get_or, slice_get, unwrap_or, Option, Some, None, refl, ap, sym, subst, ◌∙◌, arith, Bool, true, false, nat_lt, if◌then◌else◌, eq-eqb}
use Rattle.std.proofs.lemmas.Bool.{cases_Bool, cases_eq, ne_eqb, or_parts, false≢true}
use Rattle.std.specs.List.{list_any, list_all, position_or_len}
use Rattle.std.specs.Str.{bytes_eq}
use Rattle.std.proofs.lemmas.Slice.Eq.{bytes_eq-Decides}
use Rattle.column_order.specs.Orders.{has}
use Rattle.row_model.proofs.Filtered.{has_filtered}
use Rattle.serde_json.specs.Data.{Data, Items, no_items, item}
use Rattle.row_model.specs.Rows.{RowList}
use Rattle.row_model.specs.declared.refusal.Refusal.{Refusal}
use Rattle.row_model.specs.declared.refusal.Read.TheVariants as answer
use Rattle.row_model.specs.declared.TheConstants.{MAX_COLUMNS, MAX_ROWS}
use Rattle.row_model.specs.declared.code.TheConstants.{EMPTY, RANGE, TWICE, LIMIT}
use Rattle.text_lines.specs.Rows.{refused_or}
use Rattle.matrix_read.specs.Clones.{is_probe, column_of, names_code, head_code, values_of}
use Rattle.matrix_read.specs.CloneSteps.{array_at, count, probes_of, first_refused, names_row, clone_row, clone_rows, clone_matrix, unless_refused, if_shaped, if_read}
use Rattle.matrix_read.specs.Names.{has_twice}
use Rattle.matrix_read.specs.CloneRows.{IsCloneRow, IsMatrixOf}
use Rattle.matrix_read.proofs.CloneLemmas.{clone_row_ascends}
use Rattle.matrix_read.proofs.Within.{none_first}
use Rattle.matrix_read.proofs.NameLemmas.{same_bytes}

-- a name is none of the names that lack it
none_at : (name : List ℕ) (names : List (List ℕ)) (place : ℕ) → list_any (bytes_eq name) names ≡ false → place < length names → bytes_eq name (get_or names place []) ≡ false
none_at name [] place none lt = absurd (omega arith)
none_at name (first ∷ names) zero none lt = (or_parts (bytes_eq name first) (list_any (bytes_eq name) names) none).0
none_at name (first ∷ names) (suc place) none lt = none_at name names place (or_parts (bytes_eq name first) (list_any (bytes_eq name) names) none).1 (omega arith)

other_bytes : (xs ys : List ℕ) → bytes_eq xs ys ≡ false → bytes_eq ys xs ≡ false
other_bytes xs ys h = elim (cases_Bool (bytes_eq ys xs)) [ inl same ↦ absurd (false≢true (sym h ∙ same_bytes ys xs same)) | inr other ↦ other ]

one_further : (n place : ℕ) → (suc (1 + n) == suc place + 1) ≡ (suc n == place + 1)
one_further n place =
    elim (cases_eq n place) [
      | inl same ↦ eq-eqb (suc (1 + n)) (suc place + 1) (omega (arith, same)) ∙ sym (eq-eqb (suc n) (place + 1) (omega (arith, same)))
      | inr other ↦ ne_eqb (suc (1 + n)) (suc place + 1) (λ e. other (omega (arith, e))) ∙ sym (ne_eqb (suc n) (place + 1) (λ e. other (omega (arith, e))))
    ]

-- a name has the column of the probe that it is
column_is : (name : List ℕ) (probes : List (List ℕ)) (place : ℕ) → has_twice probes ≡ false → place < length probes → (column_of probes name == place + 1) ≡ bytes_eq (get_or probes place []) name
column_is name [] place once lt = absurd (omega arith)
column_is name (probe ∷ probes) zero once lt =
    elim (cases_Bool (bytes_eq name probe)) [
      | inl same ↦ rw (same, same_bytes name probe same) refl
      | inr other ↦ rw (other, other_bytes name probe other) (ne_eqb (suc (1 + position_or_len (bytes_eq name) probes)) 1 (λ e. omega (arith, e)))
    ]
column_is name (probe ∷ probes) (suc place) once lt =
    let alone = or_parts (list_any (bytes_eq probe) probes) (has_twice probes) once in
    let later = get_or probes place [] in
    elim (cases_Bool (bytes_eq name probe)) [
      | inl same ↦
          let is : name ≡ probe = (bytes_eq-Decides name probe).0 same in
          let apart : bytes_eq later name ≡ false = ap (bytes_eq later) is ∙ other_bytes probe later (none_at probe probes place alone.0 (omega arith)) in
          rw (same, apart) (ne_eqb 1 (suc place + 1) (λ e. omega (arith, e)))
      | inr other ↦ rw other (one_further (position_or_len (bytes_eq name) probes) place ∙ column_is name probes place alone.1 (omega arith))
    ]

pub column_found : (probes names : List (List ℕ)) (place : ℕ) → has_twice probes ≡ false → place < length probes → has (map (column_of probes) names) (place + 1) ≡ list_any (bytes_eq (get_or probes place [])) names
column_found probes [] place once lt = refl
column_found probes (name ∷ names) place once lt = rw (column_is name probes place once lt, column_found probes names place once lt) refl

names_columns : (probes names : List (List ℕ)) (place : ℕ) → has_twice probes ≡ false → place < length probes → has (names_row probes names) (place + 1) ≡ list_any (bytes_eq (get_or probes place [])) names
names_columns probes names place once lt =
    has_filtered (has (map (column_of probes) names)) (length probes) (place + 1) (omega arith) (omega arith) ∙ column_found probes names place once lt

-- a clone that is not refused, and its row
all_known : (known : Bool) (code : ℕ) → (if known then None else Some code) ≡ None → known ≡ true
all_known true code h = refl
all_known false code h = absurd (cc)

clone_row_is : (probes : List (List ℕ)) (clone : Data) → has_twice probes ≡ false → names_code probes (probes_of clone) ≡ None → IsCloneRow probes clone (clone_row probes clone)
clone_row_is probes clone once taken = by (probes_of clone) refl taken
  where
    by : (names : Option (List (List ℕ))) → probes_of clone ≡ names → names_code probes names ≡ None → IsCloneRow probes clone (clone_row probes clone)
    by None e h = absurd (cc)
    by (Some names) e h = record {
      names = names;
      named = e;
      known = all_known (list_all (is_probe probes) names) RANGE h;
      is_row = clone_row_ascends probes clone;
      columns = λ place lt. ap (λ found. has (names_row probes (unwrap_or found [])) (place + 1)) e ∙ names_columns probes names place once lt;
    }

rows_are : (probes : List (List ℕ)) (number : ℕ) (clones : Items) → has_twice probes ≡ false → first_refused probes number clones ≡ None
    → (i : ℕ) (clone : Data) → slice_get (values_of clones) i ≡ Some clone → IsCloneRow probes clone (get_or (clone_rows probes clones) i [])
unfolding first_refused
rows_are probes number no_items once h i clone stands = absurd (cc)
rows_are probes number (item first clones) once h zero clone stands =
    let same : first ≡ clone = cc in
    let here = none_first (names_code probes (probes_of first)) number (first_refused probes (number + 1) clones) h in
    subst (λ (c : Data). IsCloneRow probes c (clone_row probes first)) same (clone_row_is probes first once here.0)
rows_are probes number (item first clones) once h (suc i) clone stands =
    rows_are probes (number + 1) clones once (none_first (names_code probes (probes_of first)) number (first_refused probes (number + 1) clones) h).1 i clone stands

pub length_rows : (probes : List (List ℕ)) (clones : Items) → length (clone_rows probes clones) ≡ length (values_of clones)
length_rows probes no_items = refl
length_rows probes (item clone clones) = ap suc (length_rows probes clones)

-- the value that a matrix is read of
once_tested : (empty wide twice many : Bool) (c1 c2 c3 c4 : ℕ) → (if empty then Some c1 else if wide then Some c2 else if twice then Some c3 else if many then Some c4 else None) ≡ None → twice ≡ false
once_tested true wide twice many c1 c2 c3 c4 h = absurd (cc)
once_tested false true twice many c1 c2 c3 c4 h = absurd (cc)
once_tested false false true many c1 c2 c3 c4 h = absurd (cc)
once_tested false false false many c1 c2 c3 c4 h = refl

module _ (value : Data) (m : RowList) where
  taken : (probes : List (List ℕ)) (clones : Items) → probes_of value ≡ Some probes → array_at (codes "clones") value ≡ Some clones → has_twice probes ≡ false
      → (refusal : Option Refusal) → first_refused probes 1 clones ≡ refusal → refused_or refusal (record { columns = length probes; rows = clone_rows probes clones }) ≡ answer.Ok m → IsMatrixOf value m
  taken probes clones p l once (Some refusal) h e = absurd (cc)
  taken probes clones p l once None h e =
      let same : record { columns = length probes; rows = clone_rows probes clones } ≡ m = cc in
      let rows : clone_rows probes clones ≡ m.rows = ap (λ (x : RowList). x.rows) same in
      record {
        probes = probes;
        clones = clones;
        named = p;
        listed = l;
        distinct = once;
        columns = ap (λ (x : RowList). x.columns) (sym same);
        count = ap length (sym rows) ∙ length_rows probes clones;
        rows = λ i clone stands. subst (λ (all : List (List ℕ)). IsCloneRow probes clone (get_or all i [])) rows (rows_are probes 1 clones once h i clone stands);
      }

  headed : (probes : List (List ℕ)) (clones : Items) → probes_of value ≡ Some probes → array_at (codes "clones") value ≡ Some clones
      → (code : Option ℕ) → head_code probes (count clones) ≡ code → unless_refused code (clone_matrix probes clones) ≡ answer.Ok m → IsMatrixOf value m
  headed probes clones p l (Some code) h e = absurd (cc)
  headed probes clones p l None h e =
      let n = length probes in
      let once = once_tested (n == 0) (nat_lt MAX_COLUMNS n) (has_twice probes) (nat_lt MAX_ROWS (count clones)) EMPTY LIMIT TWICE LIMIT h in
      taken probes clones p l once (first_refused probes 1 clones) refl e

  shaped_as : (probes : Option (List (List ℕ))) (clones : Option Items) → probes_of value ≡ probes → array_at (codes "clones") value ≡ clones → if_shaped probes clones ≡ answer.Ok m → IsMatrixOf value m
  shaped_as None clones p l e = absurd (cc)
  shaped_as (Some probes) None p l e = absurd (cc)
  shaped_as (Some probes) (Some clones) p l e = headed probes clones p l (head_code probes (count clones)) refl e

pub read_as : (m : RowList) (found : Option Data) → if_read found ≡ answer.Ok m → (value : Data) × (found ≡ Some value) × IsMatrixOf value m
read_as m None e = absurd (cc)
read_as m (Some value) e = (value, refl, shaped_as value m (probes_of value) (array_at (codes "clones") value) refl refl e)
