use Rattle.std.proofs.Common.{◌∙◌, sym, ap, subst}
use Rattle.std.specs.Prelude.{IfOk}
use Rattle.std.proofs.lemmas.Result.{IfOk-from_err}
use Rattle.row_model.specs.Rows.{RowList}
use Rattle.c1p_solve.specs.Answers.{IsAnswer, IsInTurn}
use Rattle.instance_model.specs.Instance.{InstanceValue, derived_matrix}
use Rattle.instance_model.specs.Value.{instance_value}
use Rattle.solve_replies.specs.Steps.{made_status, answer_status, SolvesMatrixWithin}
use Rattle.solve_replies.proofs.Answered.{unsolved_within}
use Rattle.solve_replies.proofs.sides.solve_side.Goals as goal

pub returns-in-Robinson : goal.returns-in-Robinson
returns-in-Robinson g c =
    let is = sym (ap instance_value c.in-Robinson.is) in
    let made = c.solve_balls.result in
    let found = c.solve_balls.ensures in
    record {
      answer = subst (λ (i : InstanceValue). IfOk made (IsAnswer (derived_matrix i c.args.side))) is found.answer;
      in_turn = subst (λ (i : InstanceValue). IfOk made (IsInTurn (derived_matrix i c.args.side))) is found.in_turn;
      steps = subst (λ (i : InstanceValue). SolvesMatrixWithin (derived_matrix i c.args.side) (made_status answer_status made) c.args.steps.now c.solve_balls.new.steps) is found.steps;
    }

pub of-requires : goal.of-requires
of-requires g c = record { instance = c.requires.judged; side = c.requires.side }

pub returns-in_ok-derived-in_default : goal.returns-in_ok-derived-in_default
returns-in_ok-derived-in_default g c =
    let is = c.matrix.ensures ∙ c.in_ok-derived-in_default.ensures in
    let made = c.solve_matrix.result in
    let found = c.solve_matrix.ensures in
    record {
      answer = subst (λ (m : RowList). IfOk made (IsAnswer m)) is found.answer;
      in_turn = subst (λ (m : RowList). IfOk made (IsInTurn m)) is found.in_turn;
      steps = subst (λ (m : RowList). SolvesMatrixWithin m (made_status answer_status made) c.args.steps.now c.solve_matrix.new.steps) is found.steps;
    }

pub returns-in_err-derived-in_default : goal.returns-in_err-derived-in_default
returns-in_err-derived-in_default g c =
    let made = c.from_residual.result in
    let none = c.from_residual.ensures in
    record {
      answer = IfOk-from_err made _ none.0;
      in_turn = IfOk-from_err made _ none.0;
      steps = unsolved_within made _ (derived_matrix (instance_value c.args.instance.now) c.args.side) c.args.steps.now none.1;
    }
