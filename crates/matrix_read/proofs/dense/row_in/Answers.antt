use Rattle.std.proofs.Common.{◌≡◌, length, arith, refl, true, false}
use Rattle.std.specs.List.{list_any}
use Rattle.matrix_read.specs.DenseSteps.{is_foreign_byte}
use Rattle.matrix_read.proofs.DenseLemmas.{never_true, blank_line, filled_foreign, filled_digits, code_full, code_foreign, code_count, code_none}
use Rattle.matrix_read.proofs.dense.row_in.Goals as goal

pub returns-then-before-ge-MAX_ROWS : goal.returns-then-before-ge-MAX_ROWS
returns-then-before-ge-MAX_ROWS c =
    let line = c.args.line.now in
    let foreign : list_any is_foreign_byte line ≡ true = c.in_default.ensures.foreign.0 refl in
    (filled_foreign line foreign, code_full _ _ line c.if-before-ge-MAX_ROWS.true)

pub returns-in_default : goal.returns-in_default
returns-in_default c =
    let line = c.args.line.now in
    let foreign : list_any is_foreign_byte line ≡ true = c.in_default.ensures.foreign.0 refl in
    (filled_foreign line foreign, code_foreign _ _ line c.if-before-ge-MAX_ROWS.false foreign)

pub returns-then-digits-eq0 : goal.returns-then-digits-eq0
returns-then-digits-eq0 c =
    let line = c.args.line.now in
    let clean : list_any is_foreign_byte line ≡ false = never_true (list_any is_foreign_byte line) c.in-Some.ensures.foreign.1 in
    blank_line line clean (omega (arith, c.in-Some.ensures.width, c.if-digits-eq0.true))

pub returns-then-before-ge-MAX_ROWS-2 : goal.returns-then-before-ge-MAX_ROWS-2
returns-then-before-ge-MAX_ROWS-2 c =
    let line = c.args.line.now in
    (filled_digits line (omega (arith, c.in-Some.ensures.width, c.if-digits-eq0.false)), code_full _ _ line c.if-before-ge-MAX_ROWS-2.true)

pub returns-then-digits-columns : goal.returns-then-digits-columns
returns-then-digits-columns c =
    let line = c.args.line.now in
    let clean : list_any is_foreign_byte line ≡ false = never_true (list_any is_foreign_byte line) c.in-Some.ensures.foreign.1 in (
      filled_digits line (omega (arith, c.in-Some.ensures.width, c.if-digits-eq0.false)),
      code_count (length c.args.columns.now) c.args.before line c.if-before-ge-MAX_ROWS-2.false clean (λ same. c.if-digits-columns.true (omega (arith, same, c.in-Some.ensures.width, c.scan.auto.columns))),
    )

pub returns : goal.returns
returns c =
    let line = c.args.line.now in
    let clean : list_any is_foreign_byte line ≡ false = never_true (list_any is_foreign_byte line) c.in-Some.ensures.foreign.1 in (
      filled_digits line (omega (arith, c.in-Some.ensures.width, c.if-digits-eq0.false)),
      code_none (length c.args.columns.now) c.args.before line c.if-before-ge-MAX_ROWS-2.false clean (omega (arith, c.in-Some.ensures.width, c.if-digits-columns.false, c.scan.auto.columns)),
      c.in-Some.ensures.row (omega (arith, c.in-Some.ensures.width, c.if-digits-columns.false, c.scan.auto.columns)),
      c.in-Some.ensures.within,
    )
