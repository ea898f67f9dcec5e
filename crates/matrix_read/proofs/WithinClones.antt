-- A matrix that is read from clones is within the limits.
use Rattle.std.proofs.Common.{◌≡◌, ◌∙◌, ℕ, ◌==◌, Bool, true, false, nat_lt, if◌then◌else◌, List, length, codes, Option, Some, None, sym, refl, arith}
use Rattle.std.proofs.lemmas.Bool.{ltb-false}
use Rattle.serde_json.specs.Data.{Data, Items, no_items, item}
use Rattle.row_model.specs.declared.refusal.Read.{Read}
use Rattle.row_model.specs.declared.refusal.Read.TheVariants as read
use Rattle.row_model.specs.declared.TheConstants.{MAX_COLUMNS, MAX_ROWS}
use Rattle.row_model.specs.declared.code.TheConstants.{EMPTY, TWICE, LIMIT}
use Rattle.row_model.specs.Rows.{RowList}
use Rattle.text_lines.specs.Lines.{without_mark}
use Rattle.matrix_read.specs.Names.{has_twice}
use Rattle.matrix_read.specs.Clones.{reading, head_code, clones, value_read}
use Rattle.matrix_read.specs.CloneSteps.{array_at, count, probes_of, first_refused, clone_rows, clone_matrix, unless_refused, matrix_of, if_shaped, if_read}
use Rattle.matrix_read.proofs.CloneLemmas.{some_if, clones_same}
use Rattle.matrix_read.specs.Limits.{IsWithinLimits}
use Rattle.matrix_read.proofs.Within.{inside_read, ok_within}

-- probes and clones that are not refused are no more than there may be
record Tested (empty wide many : Bool) : Type 0 where
  some : empty ≡ false
  narrow : wide ≡ false
  few : many ≡ false

tested : (empty wide twice many : Bool) (c1 c2 c3 c4 : ℕ) → (if empty then Some c1 else if wide then Some c2 else if twice then Some c3 else if many then Some c4 else None) ≡ None → Tested empty wide many
tested true wide twice many c1 c2 c3 c4 h = absurd (cc)
tested false true twice many c1 c2 c3 c4 h = absurd (cc)
tested false false true many c1 c2 c3 c4 h = absurd (cc)
tested false false false true c1 c2 c3 c4 h = absurd (cc)
tested false false false false c1 c2 c3 c4 h = record { some = refl; narrow = refl; few = refl }

length-clone_rows : (probes : List (List ℕ)) (clones : Items) → length (clone_rows probes clones) ≡ count clones
length-clone_rows probes no_items = refl
length-clone_rows probes (item clone clones) = omega (arith, length-clone_rows probes clones)

head_within : (code : Option ℕ) (rest : Read RowList) (m : RowList) → unless_refused code rest ≡ read.Ok m → (code ≡ None) × (rest ≡ read.Ok m)
head_within (Some code) rest m e = absurd (cc)
head_within None rest m e = (refl, e)

matrix_within : (probes : List (List ℕ)) (clones : Items) (m : RowList) → matrix_of probes clones ≡ read.Ok m → IsWithinLimits m
matrix_within probes clones m e =
    let head = head_within (head_code probes (count clones)) (clone_matrix probes clones) m e in
    let n = length probes in
    let passed = tested (n == 0) (nat_lt MAX_COLUMNS n) (has_twice probes) (nat_lt MAX_ROWS (count clones)) EMPTY LIMIT TWICE LIMIT head.0 in
    let few = ltb-false MAX_ROWS (count clones) passed.few in
    ok_within (first_refused probes 1 clones) (record { columns = n; rows = clone_rows probes clones }) m head.1 (λ none.
    record { some = some_if n (sym passed.some); columns = ltb-false MAX_COLUMNS n passed.narrow; rows = omega (arith, few, length-clone_rows probes clones) })

shaped_within : (probes : Option (List (List ℕ))) (clones : Option Items) (m : RowList) → if_shaped probes clones ≡ read.Ok m → IsWithinLimits m
shaped_within None clones m e = absurd (cc)
shaped_within (Some probes) None m e = absurd (cc)
shaped_within (Some probes) (Some clones) m e = matrix_within probes clones m e

value_within : (value : Option Data) (m : RowList) → if_read value ≡ read.Ok m → IsWithinLimits m
value_within None m e = absurd (cc)
value_within (Some value) m e = shaped_within (probes_of value) (array_at (codes "clones") value) m e

pub clones_within : (bytes : List ℕ) (m : RowList) → clones bytes ≡ read.Ok m → IsWithinLimits m
unfolding clones
clones_within bytes m e =
    let value = reading (without_mark bytes) in
    value_within value m (sym (clones_same value) ∙ inside_read bytes (value_read value) m e)
