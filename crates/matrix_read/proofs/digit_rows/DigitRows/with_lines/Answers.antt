use Rattle.std.proofs.Common.{◌∙◌, ap, sym, arith}
use Rattle.matrix_read.specs.DigitsThen.{pushed_then}
use Rattle.std.proofs.lemmas.Result.{IfOk-from_err}
use Rattle.matrix_read.proofs.digit_rows.DigitRows.with_lines.Goals as goal

pub push_rows-requires-clause-few : goal.push_rows-requires-clause-few
push_rows-requires-clause-few c = c.requires.few

pub push_rows-requires-clause-width : goal.push_rows-requires-clause-width
push_rows-requires-clause-width c = c.deref_mut.ensures.len ∙ c.args.self.entry_each

pub push_rows-requires-clause-small : goal.push_rows-requires-clause-small
push_rows-requires-clause-small c = c.args.self.small

pub invariant_of-result : goal.invariant_of-result
invariant_of-result c = record { small = omega (arith, c.in_ok-refusal.ensures.width, c.args.self.small); entry_each = c.args.self.entry_each ∙ sym c.in_ok-refusal.ensures.width }

pub returns-in-Err-clause-rows : goal.returns-in-Err-clause-rows
returns-in-Err-clause-rows c later = ap (λ pushed. pushed_then pushed c.push_rows.new.matrix later) (sym c.in-Err.is) ∙ c.in_ok-refusal.ensures.rows later

pub returns-in-Err-clause-within : goal.returns-in-Err-clause-within
returns-in-Err-clause-within c = omega arith

pub returns-in-Ok-clause-rows : goal.returns-in-Ok-clause-rows
returns-in-Ok-clause-rows c later = ap (λ pushed. pushed_then pushed c.push_rows.new.matrix later) (sym c.in-Ok.is) ∙ c.in_ok-refusal.ensures.rows later

pub returns-in-Ok-clause-within : goal.returns-in-Ok-clause-within
returns-in-Ok-clause-within c = rw c.in-Ok.is at c.in_ok-refusal.ensures.within

pub returns-in_err-refusal-clause-rows : goal.returns-in_err-refusal-clause-rows
returns-in_err-refusal-clause-rows c = IfOk-from_err c.from_residual.result _ c.from_residual.ensures.0

pub returns-in_err-refusal-clause-within : goal.returns-in_err-refusal-clause-within
returns-in_err-refusal-clause-within c = IfOk-from_err c.from_residual.result _ c.from_residual.ensures.0
