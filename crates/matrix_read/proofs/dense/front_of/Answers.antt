use Rattle.std.proofs.Common.{◌≡◌, ◌+◌, ◌∙◌, ◌++◌, List, ℕ, slice_range, sym, ap, arith, refl, true, false, None}
use Rattle.std.proofs.lemmas.Bool.{lt-ltb, le-ltb}
use Rattle.std.specs.List.{list_any}
use Rattle.row_model.specs.declared.TheConstants.{MAX_COLUMNS}
use Rattle.row_model.specs.declared.code.TheConstants.{GRAMMAR, LIMIT}
use Rattle.text_lines.specs.Lines.{is_blank, filled_lines}
use Rattle.text_lines.proofs.LineLemmas.{no_lines}
use Rattle.matrix_read.specs.Dense.{width_of}
use Rattle.matrix_read.specs.DenseSteps.{is_foreign_byte, first_code, read_lines}
use Rattle.matrix_read.proofs.DenseLemmas.{never_true, blank_line, filled_foreign, filled_digits, front_stop, front_row, front_blank}
use Rattle.matrix_read.proofs.dense.front_of.Goals as goal

pub returns-in-None-clause-refused : goal.returns-in-None-clause-refused
returns-in-None-clause-refused c later =
    let line : List ℕ = slice_range c.args.text.now c.line_from-line.result.start c.line_from-line.result.end in
    let foreign : list_any is_foreign_byte line ≡ true = c.in-None.ensures.foreign.0 refl in
    let filled : is_blank line ≡ false = filled_foreign line foreign in
    sym (c.loop-at.invariant.so_far later) ∙ front_stop c.loop-at.before line _ _ (ap (λ lines. lines ++ later) c.line_from-line.ensures.lines) GRAMMAR filled (rw foreign refl)

pub returns-in-Some-clause-refused : goal.returns-in-Some-clause-refused
returns-in-Some-clause-refused c later =
    let line : List ℕ = slice_range c.args.text.now c.line_from-line.result.start c.line_from-line.result.end in
    let clean : list_any is_foreign_byte line ≡ false = never_true (list_any is_foreign_byte line) c.in-Some.ensures.foreign.1 in
    let wide = lt-ltb MAX_COLUMNS (width_of line) (omega (arith, c.in-Some.ensures.width, c.if-digits.true)) in
    let filled : is_blank line ≡ false = filled_digits line (omega (arith, c.in-Some.ensures.width, c.if-digits.true)) in
    sym (c.loop-at.invariant.so_far later) ∙ front_stop c.loop-at.before line _ _ (ap (λ lines. lines ++ later) c.line_from-line.ensures.lines) LIMIT filled (rw (clean, wide) refl)

pub returns-in-Some-2-clause-front : goal.returns-in-Some-2-clause-front
returns-in-Some-2-clause-front c later =
    let line : List ℕ = slice_range c.args.text.now c.line_from-line.result.start c.line_from-line.result.end in
    let clean : list_any is_foreign_byte line ≡ false = never_true (list_any is_foreign_byte line) c.in-Some.ensures.foreign.1 in
    let narrow = le-ltb MAX_COLUMNS (width_of line) (omega (arith, c.in-Some.ensures.width, c.if-digits.false)) in
    let filled : is_blank line ≡ false = filled_digits line (omega (arith, c.in-Some.ensures.width, c.if-digits-gt0.true)) in
    let taken : first_code line ≡ None = rw (clean, narrow) refl in
    front_row c.loop-at.before line _ _ (ap (λ lines. lines ++ later) c.line_from-line.ensures.lines) c.in-Some.digits.all c.in-Some.ensures.width filled taken
    ∙ c.loop-at.invariant.so_far later

pub loop-at-preserved : goal.loop-at-preserved
loop-at-preserved c =
    let line : List ℕ = slice_range c.args.text.now c.line_from-line.result.start c.line_from-line.result.end in
    let clean : list_any is_foreign_byte line ≡ false = never_true (list_any is_foreign_byte line) c.in-Some.ensures.foreign.1 in
    let blank : is_blank line ≡ true = blank_line line clean (omega (arith, c.in-Some.ensures.width, c.if-digits-gt0.false)) in
    record {
      within = omega (arith, c.line_from-line.ensures.next);
      few = omega (arith, c.line_from-line.ensures.next, c.loop-at.invariant.few, c.loop-at-test.true);
      so_far = λ later. front_blank c.loop-at.before line _ _ (ap (λ lines. lines ++ later) c.line_from-line.ensures.lines) blank ∙ c.loop-at.invariant.so_far later;
    }

pub returns-clause-front : goal.returns-clause-front
returns-clause-front c later =
    let none = no_lines c.args.text.now c.loop-at.at (omega (arith, c.loop-at-test.false, c.loop-at.invariant.within)) in
    ap (λ lines. read_lines (filled_lines (c.loop-at.before + 1) (lines ++ later))) (sym none) ∙ c.loop-at.invariant.so_far later
