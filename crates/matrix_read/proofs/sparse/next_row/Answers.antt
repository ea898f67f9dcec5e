use Rattle.std.proofs.Common.{◌∙◌, ap, length}
use Rattle.matrix_read.specs.SparseSteps.{row_named}
use Rattle.matrix_read.proofs.SparseLemmas.{line_taken}
use Rattle.matrix_read.proofs.sparse.next_row.Goals as goal

pub returns-in-Some : goal.returns-in-Some
returns-in-Some c =
    record {
      refused = tt;
      named = line_taken _ _ _ c.if-before-ge-MAX_ROWS.false c.in-Some.ensures.named;
      row = c.in-Some.ensures.row;
      line = c.in-Some.ensures.line;
      range = c.in-Some.ensures.range;
      within = c.in-Some.ensures.within;
      clear = c.requires.clear;
    }

pub returns-clause-clear : goal.returns-clause-clear
returns-clause-clear c = c.in_ok-ones.ensures.clear

pub returns-clause-within : goal.returns-clause-within
returns-clause-within c = c.in_ok-ones.ensures.within

pub returns-clause-row : goal.returns-clause-row
returns-clause-row c = c.in_ok-ones.ensures.row ∙ ap (row_named (length c.args.marks.now)) c.line_from-line.ensures.line

pub returns-clause-named : goal.returns-clause-named
returns-clause-named c =
    let named = rw c.line_from-line.ensures.line at c.in_ok-ones.ensures.named in
    line_taken _ _ _ c.if-before-ge-MAX_ROWS.false named
