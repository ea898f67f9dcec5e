use Rattle.std.proofs.Common.{arith}
use Rattle.std.proofs.lemmas.Result.{IfOk-weaker}
use Rattle.row_judge.specs.Judges.{IsJudged, IsJudgedInTurn}
use Rattle.c1p_solve.specs.Answers.{IsAnswer, IsInTurn}
use Rattle.solve_replies.proofs.Answered.{judged, judged_in_turn, yes_within}
use Rattle.solve_replies.proofs.judge.SolverJudge.judge.Goals as goal

pub returns : goal.returns
returns g c =
    let m = c.args.m.now in
    let made = c.solve_matrix.result in
    record {
      judged = IfOk-weaker made (IsAnswer m) (IsJudged m) (judged m) c.solve_matrix.ensures.answer;
      in_turn = λ _. IfOk-weaker made (IsInTurn m) (IsJudgedInTurn m) (judged_in_turn m) c.solve_matrix.ensures.in_turn;
      asked = omega arith;
      yes = yes_within made m c.args.steps.now c.solve_matrix.new.steps c.solve_matrix.ensures.steps;
      most = c.solve_matrix.ensures.steps.most;
    }
