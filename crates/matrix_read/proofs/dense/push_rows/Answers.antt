use Rattle.std.proofs.Common.{◌≡◌, ◌≤◌, ◌∷◌, ◌++◌, [], length, slice_range, sym, ap, subst, arith, ◌∙◌, Some, None, List, ℕ}
use Rattle.row_model.specs.Rows.{RowList}
use Rattle.row_model.specs.declared.TheConstants.{MAX_COLUMNS}
use Rattle.matrix_read.specs.Dense.{digit_row}
use Rattle.matrix_read.specs.DenseSteps.{row_code}
use Rattle.matrix_read.specs.DigitsThen.{digits_then}
use Rattle.text_lines.proofs.LineLemmas.{no_lines}
use Rattle.matrix_read.proofs.DenseLemmas.{row_ascends, row_code-width, digits_stop, digits_step, digits_blank}
use Rattle.matrix_read.proofs.dense.push_rows.Goals as goal

pub returns-in-Refused-clause-rows : goal.returns-in-Refused-clause-rows
returns-in-Refused-clause-rows c later =
    let m = c.loop-at.matrix in
    let line : List ℕ = slice_range c.args.text.now c.line_from-span.result.start c.line_from-span.result.end in
    let room : length c.loop-at.columns ≡ m.columns = c.loop-at.auto.columns ∙ c.requires.width ∙ sym c.loop-at.invariant.columns in
    let refused : row_code m.columns (length m.rows) line ≡ Some c.in-Refused.code = rw (room, c.rows.ensures) at c.in-Refused.ensures.1 in
    sym (digits_stop c.loop-at.line m line _ _ (ap (λ lines. lines ++ later) c.line_from-span.ensures.lines) c.in-Refused.code c.in-Refused.ensures.0 refused) ∙ c.loop-at.invariant.so_far later

pub push_row-requires-clause-row : goal.push_row-requires-clause-row
push_row-requires-clause-row c =
    let m = c.loop-at.matrix in
    let line : List ℕ = slice_range c.args.text.now c.line_from-span.result.start c.line_from-span.result.end in
    let room : length c.loop-at.columns ≡ m.columns = c.loop-at.auto.columns ∙ c.requires.width ∙ sym c.loop-at.invariant.columns in
    rw c.in-Row.ensures.2 (row_ascends m.columns line (row_code-width _ _ line c.in-Row.ensures.1 ∙ room))

pub returns-clause-rows : goal.returns-clause-rows
returns-clause-rows c later =
    let none = no_lines c.args.text.now c.loop-at.at (omega (arith, c.loop-at-test.false, c.loop-at.invariant.within)) in
    ap (λ lines. digits_then c.loop-at.line c.loop-at.matrix (lines ++ later)) (sym none) ∙ c.loop-at.invariant.so_far later

pub row_in-requires : goal.row_in-requires
row_in-requires c = subst (λ n. n ≤ MAX_COLUMNS) (sym (c.loop-at.auto.columns ∙ c.requires.width)) c.requires.small

pub loop-at-preserved-in-NoRow : goal.loop-at-preserved-in-NoRow
loop-at-preserved-in-NoRow c =
    let line : List ℕ = slice_range c.args.text.now c.line_from-span.result.start c.line_from-span.result.end in
    record {
      within = omega (arith, c.line_from-span.ensures.next);
      few = omega (arith, c.line_from-span.ensures.next, c.loop-at.invariant.few, c.loop-at-test.true);
      columns = c.loop-at.invariant.columns;
      so_far = λ later.
          digits_blank c.loop-at.line c.loop-at.matrix line _ _ (ap (λ lines. lines ++ later) c.line_from-span.ensures.lines) c.in-NoRow.ensures
          ∙ c.loop-at.invariant.so_far later;
    }

pub loop-at-preserved : goal.loop-at-preserved
loop-at-preserved c =
    let m = c.loop-at.matrix in
    let line : List ℕ = slice_range c.args.text.now c.line_from-span.result.start c.line_from-span.result.end in
    let room : length c.loop-at.columns ≡ m.columns = c.loop-at.auto.columns ∙ c.requires.width ∙ sym c.loop-at.invariant.columns in
    let taken : row_code m.columns (length m.rows) line ≡ None = rw (room, c.rows.ensures) at c.in-Row.ensures.1 in
    let pushed : c.push_row.new.self ≡ record { columns = m.columns; rows = m.rows ++ digit_row line ∷ [] } =
    c.in_ok-push_row-in-Row.ensures.ok ∙ ap (λ row. record { columns = m.columns; rows = m.rows ++ row ∷ [] }) c.in-Row.ensures.2 in
    record {
      within = omega (arith, c.line_from-span.ensures.next);
      few = omega (arith, c.line_from-span.ensures.next, c.loop-at.invariant.few, c.loop-at-test.true);
      columns = ap (λ (x : RowList). x.columns) pushed ∙ c.loop-at.invariant.columns;
      so_far = λ later.
          digits_step c.loop-at.line m line _ _ (ap (λ lines. lines ++ later) c.line_from-span.ensures.lines) c.push_row.new.self pushed c.in-Row.ensures.0 taken
          ∙ c.loop-at.invariant.so_far later;
    }
