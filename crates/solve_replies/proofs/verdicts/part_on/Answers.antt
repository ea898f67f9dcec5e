use Rattle.std.proofs.Common.{◌∙◌, sym, subst, arith}
use Rattle.std.proofs.lemmas.Result.{IfOk-from_err}
use Rattle.row_judge.specs.declared.Judged.{Judged}
use Rattle.c1p_solve.specs.Answers.{IsAnswer, IsInTurn}
use Rattle.instance_model.specs.Instance.{derived_matrix}
use Rattle.instance_model.specs.Value.{instance_value}
use Rattle.solve_replies.specs.Steps.{made_status, part_status, answer_status, SolvesMatrixWithin}
use Rattle.solve_replies.proofs.Within.{two_sides, second_solved, first_solved, only_solved, first_no, made_of_sides}
use Rattle.solve_replies.proofs.verdicts.part_on.Goals as goal

pub returns-in-Yes-2-clause-steps : goal.returns-in-Yes-2-clause-steps
returns-in-Yes-2-clause-steps g c =
    let i = instance_value c.args.instance.now in
    second_solved i (made_status part_status c.two_sided.result) c.args.steps.now c.solve_side.new.steps c.two_sided.new.steps
    (two_sides i (λ e. c.if-sides-eq1.false (c.sides.ensures ∙ e)))
    (subst (λ (a : Judged). SolvesMatrixWithin (derived_matrix i 1) (answer_status a) c.args.steps.now c.solve_side.new.steps) c.in-Yes-2.is c.in_ok-cycle.ensures.steps) c.two_sided.ensures.steps

pub two_sided-requires : goal.two_sided-requires
two_sided-requires g c =
    let i = instance_value c.args.instance.now in
    record {
      judged = c.requires.judged;
      sides = two_sides i (λ e. c.if-sides-eq1.false (c.sides.ensures ∙ e));
      orders = subst (IsAnswer (derived_matrix i 1)) c.in-Yes.is c.in_ok-cycle.ensures.answer;
    }

pub one_sided-requires : goal.one_sided-requires
one_sided-requires g c =
    let i = instance_value c.args.instance.now in
    record {
      formed = c.requires.formed;
      sides = sym c.sides.ensures ∙ c.if-sides-eq1.true;
      orders = subst (IsAnswer (derived_matrix i 1)) c.in-Yes.is c.in_ok-cycle.ensures.answer;
    }

pub returns-in-Yes-2-clause-claim : goal.returns-in-Yes-2-clause-claim
returns-in-Yes-2-clause-claim g c = c.two_sided.ensures.claim

pub returns-in-No-clause-claim : goal.returns-in-No-clause-claim
returns-in-No-clause-claim g c =
    let i = instance_value c.args.instance.now in
    first_no i c.no.result.side c.no.result.lines c.in-No.cycle c.no.ensures.side c.no.ensures.lines (subst (IsAnswer (derived_matrix i 1)) c.in-No.is c.in_ok-cycle.ensures.answer)
    (subst (IsInTurn (derived_matrix i 1)) c.in-No.is c.in_ok-cycle.ensures.in_turn)

pub returns-in-No-clause-steps : goal.returns-in-No-clause-steps
returns-in-No-clause-steps g c =
    let i = instance_value c.args.instance.now in
    first_solved i 1 c.args.steps.now c.solve_side.new.steps (λ e. omega (arith, e))
    (subst (λ (a : Judged). SolvesMatrixWithin (derived_matrix i 1) (answer_status a) c.args.steps.now c.solve_side.new.steps) c.in-No.is c.in_ok-cycle.ensures.steps)

pub returns-in_err-cycle : goal.returns-in_err-cycle
returns-in_err-cycle g c =
    let i = instance_value c.args.instance.now in
    let made = c.from_residual.result in
    let none = c.from_residual.ensures.0 in
    record {
      claim = IfOk-from_err made _ none;
      steps = made_of_sides part_status made i 6 c.args.steps.now c.solve_side.new.steps (IfOk-from_err made _ none)
          (first_solved i 6 c.args.steps.now c.solve_side.new.steps (λ e. omega (arith, e)) c.in_err-cycle.ensures.steps);
    }

pub returns-in_ok-one_sided-in-Yes-clause-steps : goal.returns-in_ok-one_sided-in-Yes-clause-steps
returns-in_ok-one_sided-in-Yes-clause-steps g c =
    let i = instance_value c.args.instance.now in
    only_solved i 0 c.args.steps.now c.solve_side.new.steps (sym c.sides.ensures ∙ c.if-sides-eq1.true)
    (subst (λ (a : Judged). SolvesMatrixWithin (derived_matrix i 1) (answer_status a) c.args.steps.now c.solve_side.new.steps) c.in-Yes.is c.in_ok-cycle.ensures.steps)

pub returns-in_ok-one_sided-in-Yes-clause-claim : goal.returns-in_ok-one_sided-in-Yes-clause-claim
returns-in_ok-one_sided-in-Yes-clause-claim g c = c.in_ok-one_sided-in-Yes.ensures

pub returns-in_err-one_sided-in-Yes : goal.returns-in_err-one_sided-in-Yes
returns-in_err-one_sided-in-Yes g c =
    let i = instance_value c.args.instance.now in
    let made = c.from_residual-in_err-one_sided-in-Yes.result in
    let none = c.from_residual-in_err-one_sided-in-Yes.ensures.0 in
    record {
      claim = IfOk-from_err made _ none;
      steps = made_of_sides part_status made i 0 c.args.steps.now c.solve_side.new.steps (IfOk-from_err made _ none)
          (only_solved i 0 c.args.steps.now c.solve_side.new.steps (sym c.sides.ensures ∙ c.if-sides-eq1.true)
          (subst (λ (a : Judged). SolvesMatrixWithin (derived_matrix i 1) (answer_status a) c.args.steps.now c.solve_side.new.steps) c.in-Yes.is c.in_ok-cycle.ensures.steps));
    }
