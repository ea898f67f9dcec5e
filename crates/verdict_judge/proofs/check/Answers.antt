use Rattle.std.proofs.lemmas.Result.{IfOk-weaker}
use Rattle.verdict_judge.proofs.check.Goals as goal

pub returns-clause-valid : goal.returns-clause-valid
returns-clause-valid c = IfOk-weaker c.check_by.result _ _ (λ checked judged. judged.valid) c.check_by.ensures

pub returns-clause-invalid : goal.returns-clause-invalid
returns-clause-invalid c = IfOk-weaker c.check_by.result _ _ (λ checked judged. judged.invalid) c.check_by.ensures

pub returns-clause-exact : goal.returns-clause-exact
returns-clause-exact c = IfOk-weaker c.check_by.result _ _ (λ checked judged. judged.exact) c.check_by.ensures
