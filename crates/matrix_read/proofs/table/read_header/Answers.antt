use Rattle.std.proofs.lemmas.Result.{IfOk-from_err}
use Rattle.matrix_read.proofs.table.read_header.Goals as goal

pub returns-in_err-code-clause-read : goal.returns-in_err-code-clause-read
returns-in_err-code-clause-read c = IfOk-from_err c.from_residual.result _ c.from_residual.ensures.0

pub returns-in_err-new-in-None-clause-read : goal.returns-in_err-new-in-None-clause-read
returns-in_err-new-in-None-clause-read c = IfOk-from_err c.from_residual-in_err-new-in-None.result _ c.from_residual-in_err-new-in-None.ensures.0

pub returns-in_err-code-clause-within : goal.returns-in_err-code-clause-within
returns-in_err-code-clause-within c = IfOk-from_err c.from_residual.result _ c.from_residual.ensures.0

pub returns-in_err-new-in-None-clause-within : goal.returns-in_err-new-in-None-clause-within
returns-in_err-new-in-None-clause-within c = IfOk-from_err c.from_residual-in_err-new-in-None.result _ c.from_residual-in_err-new-in-None.ensures.0
