use Rattle.std.proofs.Common.{◌≡◌, ◌∙◌, ◌+◌, ◌++◌, [], List, ℕ, drop, take, sym, ap, arith}
use Rattle.std.proofs.Math.ListN.{drop_of_length-le}
use Rattle.std.proofs.lemmas.List.{append-nil}
use Rattle.std.proofs.lemmas.Grind.{common_steps}
use Rattle.matrix_read.specs.Dense.{digits_of}
use Rattle.matrix_read.proofs.DenseLemmas.{ones_from, ones_columns}
use Rattle.matrix_read.proofs.dense.scan_any.Goals as goal

pub loop-byte-preserved : goal.loop-byte-preserved
loop-byte-preserved c = record {
  clean = grind (arith, common_steps);
  width = grind (arith, common_steps);
  few = c.loop-byte.invariant.few;
  short = omega arith;
  within = c.loop-byte.invariant.within;
  row = λ le. grind (arith, common_steps, c.loop-byte.invariant.row le);
}

pub loop-byte-preserved-then-digit-le1 : goal.loop-byte-preserved-then-digit-le1
loop-byte-preserved-then-digit-le1 c = record {
  clean = grind (arith, common_steps);
  width = grind (arith, common_steps);
  few = omega (arith, c.with_digit-digits.ensures.all, c.with_digit-digits.ensures.ones);
  short = omega (arith, c.with_digit-digits.ensures.all);
  within = grind (arith, common_steps);
  row = λ le. grind (arith, common_steps, c.loop-byte.invariant.row);
}

pub returns-clause-row : goal.returns-clause-row
returns-clause-row c = λ le.
    let line = c.args.line.now in
    let digits = c.loop-byte.digits in
    let none : drop c.loop-byte.byte-index line ≡ [] = drop_of_length-le line (omega arith) in
    sym (append-nil (take digits.ones c.loop-byte.columns))
    ∙ ap (λ (rest : List ℕ). take digits.ones c.loop-byte.columns ++ ones_from (digits.all + 1) (digits_of rest)) (sym none)
    ∙ c.loop-byte.invariant.row le
    ∙ ones_columns line
