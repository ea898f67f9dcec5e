use Rattle.std.proofs.Common.{◌≡◌, ◌<◌, ◌+◌, ◌++◌, [], List, ℕ, length, map, drop, take, arith, refl, sym, ap, ◌∙◌, true, false}
use Rattle.csv.specs.Records.{fields_of}
use Rattle.matrix_read.specs.Cells.{trimmed, is_empty, is_present, is_foreign_cell}
use Rattle.matrix_read.proofs.DenseLemmas.{never_true}
use Rattle.std.proofs.Math.ListN.{drop_of_length-le}
use Rattle.std.proofs.lemmas.List.{append-nil}
use Rattle.matrix_read.proofs.TableLemmas.{present_from, present_columns, foreign_here, foreign_later, column_more, foreign_empty, column_empty, entry_le}
use Rattle.matrix_read.proofs.table.mark_columns.Goals as goal

pub returns-in_default-clause-foreign : goal.returns-in_default-clause-foreign
returns-in_default-clause-foreign c =
    let foreign = foreign_here (fields_of c.args.fields.now) (c.loop-before.before + 1) c.field-field.result.now c.field-field.ensures (c.in_default.ensures.foreign.0 refl) in
    (λ _. sym c.loop-before.invariant.clean ∙ foreign, λ _. refl)

pub loop-before-preserved-then-is_empty : goal.loop-before-preserved-then-is_empty
loop-before-preserved-then-is_empty c =
    let fields = fields_of c.args.fields.now in
    let place = c.loop-before.before + 1 in
    let field = c.field-field.result.now in
    let empty : is_empty field ≡ true = sym c.is_empty.ensures ∙ c.if-is_empty.true in
    record {
      few = omega arith;
      clean = foreign_empty fields place field c.field-field.ensures empty ∙ c.loop-before.invariant.clean;
      row = ap (λ rest. take c.loop-before.ones c.loop-before.columns ++ rest) (column_empty fields place field c.field-field.ensures empty) ∙ c.loop-before.invariant.row;
    }

pub loop-before-preserved : goal.loop-before-preserved
loop-before-preserved c =
    let fields = fields_of c.args.fields.now in
    let place = c.loop-before.before + 1 in
    let field = c.field-field.result.now in
    let clean : is_foreign_cell (trimmed field) ≡ false = never_true (is_foreign_cell (trimmed field)) c.in-Some.ensures.foreign.1 in
    let within : c.loop-before.ones < length c.loop-before.columns = omega (arith, c.loop-before.invariant.few, c.loop-before-test.true, c.loop-before.auto.columns) in
    let few = entry_le c.in-Some.entry (is_present (trimmed field)) c.in-Some.ensures.present in
    record {
      few = omega (arith, few, c.from-ones.ensures);
      clean = foreign_later fields place field c.field-field.ensures clean ∙ c.loop-before.invariant.clean;
      row =
          column_more fields place field c.field-field.ensures c.loop-before.columns c.loop-before.ones c.from-ones.result within (c.from-ones.ensures ∙ c.in-Some.ensures.present)
          ∙ c.loop-before.invariant.row;
    }

pub returns-clause-row : goal.returns-clause-row
returns-clause-row c =
    let fields = fields_of c.args.fields.now in
    let ones = c.loop-before.ones in
    let none : drop (c.loop-before.before + 1) fields ≡ [] = drop_of_length-le fields (omega (arith, c.requires.width)) in
    sym (append-nil (take ones c.loop-before.columns))
    ∙ ap (λ (rest : List (List ℕ)). take ones c.loop-before.columns ++ present_from (c.loop-before.before + 1) (map trimmed rest)) (sym none)
    ∙ c.loop-before.invariant.row
    ∙ present_columns fields
