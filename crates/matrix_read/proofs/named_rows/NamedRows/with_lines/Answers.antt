use Rattle.std.proofs.Common.{◌∙◌, false, get_or, is_some, ap, sym, arith}
use Rattle.matrix_read.specs.RowsThen.{refused_or_then}
use Rattle.matrix_read.proofs.MarkLemmas.{still_clear}
use Rattle.std.proofs.lemmas.Result.{IfOk-from_err}
use Rattle.matrix_read.proofs.named_rows.NamedRows.with_lines.Goals as goal

pub push_rows-requires-clause-passed : goal.push_rows-requires-clause-passed
push_rows-requires-clause-passed c = c.args.self.few_passed

pub push_rows-requires-clause-few : goal.push_rows-requires-clause-few
push_rows-requires-clause-few c = c.args.self.few

pub push_rows-requires-clause-small : goal.push_rows-requires-clause-small
push_rows-requires-clause-small c = c.args.self.small

pub push_rows-requires-clause-marks : goal.push_rows-requires-clause-marks
push_rows-requires-clause-marks c = c.deref_mut.ensures.len ∙ c.args.self.mark_each

pub push_rows-requires-clause-clear : goal.push_rows-requires-clause-clear
push_rows-requires-clause-clear c j = ap (λ marks. get_or marks j false) c.deref_mut.ensures.value ∙ c.args.self.clear j

pub push_rows-requires-clause-columns : goal.push_rows-requires-clause-columns
push_rows-requires-clause-columns c = c.deref_mut-2.ensures.len ∙ c.args.self.entry_each

pub returns-in-Some : goal.returns-in-Some
returns-in-Some c later = ap (λ refusal. refused_or_then refusal c.args.self.passed c.push_rows.new.matrix later) (sym c.in-Some.is) ∙ c.in_ok-refusal.ensures.rows later

pub returns-in-None : goal.returns-in-None
returns-in-None c later = ap (λ refusal. refused_or_then refusal c.args.self.passed c.push_rows.new.matrix later) (sym c.in-None.is) ∙ c.in_ok-refusal.ensures.rows later

pub returns-in_err-refusal : goal.returns-in_err-refusal
returns-in_err-refusal c = IfOk-from_err c.from_residual.result _ c.from_residual.ensures.0

pub invariant_of-result : goal.invariant_of-result
invariant_of-result c =
    let self = c.args.self in
    let kept = c.in_ok-refusal.ensures in
    record {
      few_passed = self.few_passed;
      few = kept.few;
      small = omega (arith, kept.width, self.small);
      mark_each = self.mark_each ∙ sym kept.width;
      clear = still_clear _ c.push_rows.new.marks _ (omega (arith, c.push_rows.auto.marks, c.deref_mut.ensures.len)) (kept.clear (ap is_some c.in-None.is));
      entry_each = self.entry_each ∙ sym kept.width;
    }
