use Rattle.std.proofs.lemmas.Result.{IfOk-from_err}
use Rattle.c1p_solve.specs.Growing.{outline_at}
use Rattle.solve_replies.specs.Steps.{answer_status}
use Rattle.solve_replies.proofs.Answered.{answered_within}
use Rattle.solve_replies.proofs.Centres.{unmade_within}
use Rattle.solve_replies.proofs.sides.solve_matrix.Goals as goal

pub returns-clause-answer : goal.returns-clause-answer
returns-clause-answer g c = c.in_ok-solved.ensures.solved

pub returns-clause-steps : goal.returns-clause-steps
returns-clause-steps g c =
    let found = c.in_ok-solved.field-0 in
    answered_within c.args.m.now (outline_at found.reducer) found.solved c.args.steps.now c.answer.new.steps c.in_ok-solved.ensures.solved c.in_ok-solved.ensures.total c.answer.ensures.most

pub returns-in_err-solved : goal.returns-in_err-solved
returns-in_err-solved g c =
    let made = c.from_residual.result in
    let none = c.from_residual.ensures in
    record { answer = IfOk-from_err made _ none.0; in_turn = IfOk-from_err made _ none.0; steps = unmade_within answer_status made _ c.args.m.now c.args.steps.now c.answer.new.steps none.1 c.answer.ensures.most }

pub returns-clause-in_turn : goal.returns-clause-in_turn
returns-clause-in_turn g c = c.in_ok-solved.ensures.in_turn
