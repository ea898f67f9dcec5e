use Rattle.std.proofs.Common.{◌≡◌, ◌∷◌, ◌+◌, ◌-◌, ◌<◌, ◌||◌, [], List, ℕ, length, drop, get_or, arith, sym, ◌∙◌, ap, false}
use Rattle.column_order.specs.Orders.{has}
use Rattle.text_lines.specs.Words.{words_of, number_of}
use Rattle.matrix_read.specs.SparseSteps.{columns_named}
use Rattle.text_lines.proofs.WordLemmas.{number_written}
use Rattle.matrix_read.proofs.SparseLemmas.{words_stop, words_next, words_end, marks_end}
use Rattle.matrix_read.proofs.RowLemmas.{mark_step}
use Rattle.matrix_read.proofs.sparse.mark_columns.Goals as goal

pub returns-in-Err-clause-refused : goal.returns-in-Err-clause-refused
returns-in-Err-clause-refused c =
    let first = c.in-Some.ensures.first in
    let few : length c.loop-word.marks ≡ length c.args.marks.now = c.loop-word.auto.marks in
    let refused = rw few at (c.in-Err.ensures.refused (number_of first.word) first.writes) in
    sym c.loop-word.invariant.code ∙ words_stop (length c.args.marks.now) _ _ _ first.is c.in-Err.code refused

pub loop-word-preserved : goal.loop-word-preserved
loop-word-preserved c =
    let line = c.args.line.now in
    let word = c.in-Some.word in
    let first = c.in-Some.ensures.first in
    let later : List (List ℕ) = words_of (drop word.next line) in
    let few : length c.loop-word.marks ≡ length c.args.marks.now = c.loop-word.auto.marks in
    let named = c.in-Ok.ensures.named (number_of first.word) first.writes in
    let place : c.in-Ok.column ≡ c.in-Ok.column - 1 + 1 = omega (arith, c.in-Ok.ensures.range.0) in
    let numbers : (c.in-Ok.column - 1 + 1) ∷ columns_named later ≡ columns_named (words_of (drop c.loop-word.at line)) =
    ap (λ n. n ∷ columns_named later) (sym place ∙ sym (number_written first.word c.in-Ok.column named.1)) ∙ ap columns_named (sym first.is) in
    let before : (j : ℕ) → j < length c.args.marks.now → (get_or c.loop-word.marks j false || has ((c.in-Ok.column - 1 + 1) ∷ columns_named later) (j + 1)) ≡ has (columns_named (words_of line)) (j + 1) =
    λ j lt. ap (λ (ns : List ℕ). get_or c.loop-word.marks j false || has ns (j + 1)) numbers ∙ c.loop-word.invariant.marks j lt in
    record {
      within = c.in-Some.ensures.range.1;
      code = words_next (length c.args.marks.now) _ _ _ first.is (rw few at named.0) ∙ c.loop-word.invariant.code;
      marks = rw c.mark_column-count.ensures.marks (mark_step c.loop-word.marks (c.in-Ok.column - 1) (length c.args.marks.now) (columns_named later) (columns_named (words_of line)) (omega (arith, c.in-Ok.ensures.range.0, c.in-Ok.ensures.range.1)) before);
      listed = c.mark_column-count.ensures.listed;
      few = omega (arith, c.mark_column-count.ensures.within, few);
    }

pub returns : goal.returns
returns c =
    let none : words_of (drop c.loop-word.at c.args.line.now) ≡ [] = c.in_default.ensures.nothing in
    record {
      refused = tt;
      named = sym c.loop-word.invariant.code ∙ words_end (length c.args.marks.now) _ none;
      marks = λ j lt. marks_end _ _ _ (j + 1) none (c.loop-word.invariant.marks j lt);
      listed = c.loop-word.invariant.listed;
      within = omega arith;
    }
