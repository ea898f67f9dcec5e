use Rattle.std.proofs.Common.{◌≡◌, ◌∷◌, ◌++◌, [], List, ℕ, length, drop, sym, ◌∙◌, ap, arith, Some, None}
use Rattle.std.proofs.lemmas.List.{length-append}
use Rattle.row_model.specs.Rows.{RowList}
use Rattle.text_lines.specs.Lines.{first_line, without_return}
use Rattle.matrix_read.specs.Sparse.{line_code}
use Rattle.matrix_read.specs.SparseSteps.{row_named}
use Rattle.matrix_read.specs.RowsThen.{rows_then}
use Rattle.text_lines.proofs.LineLemmas.{lines_split, no_lines}
use Rattle.matrix_read.proofs.SparseLemmas.{row_ascends, few_before, then_stop, then_step}
use Rattle.matrix_read.proofs.sparse.push_rows.Goals as goal

pub returns-in-Err-clause-rows : goal.returns-in-Err-clause-rows
returns-in-Err-clause-rows c later =
    let m = c.loop-at.matrix in
    let room : length c.loop-at.marks ≡ m.columns = c.loop-at.auto.marks ∙ c.requires.marks ∙ sym c.loop-at.invariant.columns in
    let refused : line_code m.columns (length m.rows) (without_return (first_line (drop c.loop-at.at c.args.text.now))) ≡ Some c.in-Err.code = rw (room, c.rows-before.ensures) at c.in-Err.ensures.refused in
    let split = ap (λ lines. lines ++ later) (lines_split c.args.text.now c.loop-at.at c.loop-at-test.true) in
    let stop = then_stop c.args.passed m _ _ _ split c.in-Err.code refused in
    rw c.rows-before.ensures (sym stop) ∙ c.loop-at.invariant.so_far later

pub push_row-requires-clause-row : goal.push_row-requires-clause-row
push_row-requires-clause-row c =
    let m = c.loop-at.matrix in
    let line : List ℕ = without_return (first_line (drop c.loop-at.at c.args.text.now)) in
    let room : length c.loop-at.marks ≡ m.columns = c.loop-at.auto.marks ∙ c.requires.marks ∙ sym c.loop-at.invariant.columns in
    rw (c.in-Ok.ensures.row, room) (row_ascends m.columns line)

pub loop-at-preserved : goal.loop-at-preserved
loop-at-preserved c =
    let m = c.loop-at.matrix in
    let line : List ℕ = without_return (first_line (drop c.loop-at.at c.args.text.now)) in
    let room : length c.loop-at.marks ≡ m.columns = c.loop-at.auto.marks ∙ c.requires.marks ∙ sym c.loop-at.invariant.columns in
    let taken : line_code m.columns (length m.rows) line ≡ None = rw (room, c.rows-before.ensures) at c.in-Ok.ensures.named in
    let row_is = rw room at c.in-Ok.ensures.row in
    let pushed : c.push_row.new.self ≡ record { columns = m.columns; rows = m.rows ++ row_named m.columns line ∷ [] } =
    c.in_ok-push_row-in-Ok.ensures.ok ∙ ap (λ row. record { columns = m.columns; rows = m.rows ++ row ∷ [] }) row_is in
    record {
      within = c.in-Ok.ensures.range.1;
      few = omega (arith, few_before m.columns (length m.rows) line taken, ap (λ (x : RowList). length x.rows) pushed, length-append m.rows (row_named m.columns line ∷ []));
      columns = ap (λ (x : RowList). x.columns) pushed ∙ c.loop-at.invariant.columns;
      clear = c.in-Ok.ensures.clear;
      so_far = λ later.
          then_step c.args.passed m line _ _ (ap (λ lines. lines ++ later) c.in-Ok.ensures.line) c.push_row.new.self pushed taken
          ∙ c.loop-at.invariant.so_far later;
    }

pub returns-clause-rows : goal.returns-clause-rows
returns-clause-rows c later =
    let none = no_lines c.args.text.now c.loop-at.at (omega (arith, c.loop-at-test.false, c.loop-at.invariant.within)) in
    ap (λ lines. rows_then c.args.passed c.loop-at.matrix (lines ++ later)) (sym none) ∙ c.loop-at.invariant.so_far later
