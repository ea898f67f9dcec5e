use Rattle.std.proofs.Common.{◌≡◌, ◌∷◌, ◌++◌, [], ℕ, ◌≤◌, ◌<◌, ◌+◌, length, arith, sym, ap, subst, ◌∙◌, true, false, refl, take}
use Rattle.std.proofs.lemmas.List.{length-append}
use Rattle.std.specs.List.{list_any}
use Rattle.csv.specs.Records.{fields_of}
use Rattle.column_order.specs.declared.TheConstants.{COLUMN_BOUND}
use Rattle.row_model.specs.Rows.{RowList}
use Rattle.row_model.specs.declared.refusal.Read.TheVariants as read
use Rattle.row_model.specs.declared.TheConstants.{MAX_ROWS}
use Rattle.row_model.specs.declared.code.TheConstants.{GRAMMAR, LIMIT}
use Rattle.matrix_read.specs.Cells.{cells, is_foreign_cell, record_row}
use Rattle.matrix_read.specs.TableSteps.{FitsRecords, with_records}
use Rattle.matrix_read.proofs.DenseLemmas.{never_true}
use Rattle.matrix_read.proofs.TableLemmas.{code_full, code_foreign, code_none, record_refused, record_taken, no_record, row_ascends, written_whole}
use Rattle.matrix_read.proofs.table.with_record.Goals as goal

one_more : (n m most : ℕ) → n ≡ m + 1 → m < most → n ≤ most
one_more n m most e few = omega arith

pub returns-in-Refused : goal.returns-in-Refused
returns-in-Refused c = record { read = ap (λ so_far. with_records so_far (fields_of c.args.fields.now ∷ [])) (sym c.in-Refused.is); within = tt }

pub returns-then-rows-ge-MAX_ROWS-clause-within : goal.returns-then-rows-ge-MAX_ROWS-clause-within
returns-then-rows-ge-MAX_ROWS-clause-within c = subst (FitsRecords (length (fields_of c.args.fields.now))) (sym c.refused.ensures) tt

pub returns-in_default-clause-within : goal.returns-in_default-clause-within
returns-in_default-clause-within c = subst (FitsRecords (length (fields_of c.args.fields.now))) (sym c.refused-in_default.ensures) tt

pub mark_columns-requires : goal.mark_columns-requires
mark_columns-requires c =
    let size : length c.deref_mut.result.now ≡ c.columns.result = c.deref_mut.ensures.len ∙ c.in_ok-resize.ensures.len in
    record {
      width = sym ((rw c.in-Ok.is at c.requires).0) ∙ ap (λ n. n + 1) (sym (size ∙ c.columns.ensures.columns));
      small = subst (λ n. n ≤ COLUMN_BOUND) (sym size) c.columns.ensures.range.1;
    }

pub returns-clause-within : goal.returns-clause-within
returns-clause-within c =
    let pushed = c.in_ok-push_row.ensures.ok in
    let few : length c.in-Ok.matrix.rows < MAX_ROWS = subst (λ n. n < MAX_ROWS) c.rows.ensures c.if-rows-ge-MAX_ROWS.false in (
      ap (λ (m : RowList). m.columns + 1) pushed ∙ (rw c.in-Ok.is at c.requires).0,
      one_more _ _ _ (ap (λ (m : RowList). length m.rows) pushed ∙ length-append c.in-Ok.matrix.rows _) few,
    )

pub returns-then-rows-ge-MAX_ROWS-clause-read : goal.returns-then-rows-ge-MAX_ROWS-clause-read
returns-then-rows-ge-MAX_ROWS-clause-read c =
    let m = c.in-Ok.matrix in
    let fields = fields_of c.args.fields.now in
    let full : MAX_ROWS ≤ length m.rows = subst (λ n. MAX_ROWS ≤ n) c.rows.ensures c.if-rows-ge-MAX_ROWS.true in
    rw (c.in-Ok.is, c.refused.ensures, c.rows-line.ensures) (sym (record_refused m fields [] LIMIT (code_full (length m.rows) fields full)))

pub returns-in_default-clause-read : goal.returns-in_default-clause-read
returns-in_default-clause-read c =
    let m = c.in-Ok.matrix in
    let fields = fields_of c.args.fields.now in
    let few : length m.rows < MAX_ROWS = subst (λ n. n < MAX_ROWS) c.rows.ensures c.if-rows-ge-MAX_ROWS.false in
    let foreign : list_any is_foreign_cell (cells fields) ≡ true = c.in_default.ensures.foreign.0 refl in
    rw (c.in-Ok.is, c.refused-in_default.ensures, c.rows-line.ensures) (sym (record_refused m fields [] GRAMMAR (code_foreign (length m.rows) fields few foreign)))

pub push_row-requires-clause-row : goal.push_row-requires-clause-row
push_row-requires-clause-row c =
    let m = c.in-Ok.matrix in
    let fields = fields_of c.args.fields.now in
    let width : m.columns + 1 ≡ length fields = (rw c.in-Ok.is at c.requires).0 in
    let room : c.resize.new.self.len ≡ length c.mark_columns.new.columns = omega (arith, c.mark_columns.auto.columns, c.deref_mut.ensures.len) in
    let row : take c.in-Some.ones c.deref.result.now ≡ record_row fields =
    ap (take c.in-Some.ones) (c.deref.ensures.value ∙ written_whole c.mark_columns.new.columns _ c.resize.new.self.len room) ∙ c.in-Some.ensures.row
    in
    rw row (row_ascends m.columns fields (sym width))

pub returns-clause-read : goal.returns-clause-read
returns-clause-read c =
    let m = c.in-Ok.matrix in
    let fields = fields_of c.args.fields.now in
    let few : length m.rows < MAX_ROWS = subst (λ n. n < MAX_ROWS) c.rows.ensures c.if-rows-ge-MAX_ROWS.false in
    let clean : list_any is_foreign_cell (cells fields) ≡ false = never_true (list_any is_foreign_cell (cells fields)) c.in-Some.ensures.foreign.1 in
    let room : c.resize.new.self.len ≡ length c.mark_columns.new.columns = omega (arith, c.mark_columns.auto.columns, c.deref_mut.ensures.len) in
    let row : take c.in-Some.ones c.deref.result.now ≡ record_row fields =
    ap (take c.in-Some.ones) (c.deref.ensures.value ∙ written_whole c.mark_columns.new.columns _ c.resize.new.self.len room) ∙ c.in-Some.ensures.row
    in
    let pushed : c.push_row.new.self ≡ record { columns = m.columns; rows = m.rows ++ record_row fields ∷ [] } =
    c.in_ok-push_row.ensures.ok ∙ ap (λ row. record { columns = m.columns; rows = m.rows ++ row ∷ [] }) row in
    rw c.in-Ok.is (ap (λ (x : RowList). read.Ok x) pushed ∙ sym (record_taken m fields [] (code_none (length m.rows) fields few clean) ∙ no_record (read.Ok (record { columns = m.columns; rows = m.rows ++ record_row fields ∷ [] }))))
