-- A no about the second side.
use Rattle.std.proofs.Common.{◌≡◌, ℕ, List, length, sym, subst, arith}
use Rattle.row_model.specs.declared.graph.Line.{Line}
use Rattle.row_judge.specs.Judges.{IsFirstConflict}
use Rattle.row_judge.specs.declared.Judged.{Judged}
use Rattle.row_judge.specs.declared.Judged.TheVariants.{No}
use Rattle.c1p_solve.specs.Answers.{IsAnswer, IsInTurn}
use Rattle.verdict_text.specs.Verdict.{no_claim}
use Rattle.instance_model.specs.Instance.{InstanceValue, instance_columns, derived_matrix}
use Rattle.instance_model.specs.Value.{instance_value}
use Rattle.verdict_replies.specs.Verdicts.{HasOrder, IsFirstWithout, IsClaimOf}
use Rattle.std.proofs.lemmas.Result.{IfOk-from_err}
use Rattle.solve_replies.specs.Steps.{part_status, answer_status, SolvesMatrixWithin}
use Rattle.solve_replies.proofs.Centres.{unmade_within}
use Rattle.solve_replies.proofs.verdicts.two_sided.Goals as goal

second_no : (i : InstanceValue) (side : ℕ) (lines cycle : List Line) → side ≡ 2 → lines ≡ cycle → length (instance_columns i) ≡ 2 → HasOrder i 1 → IsAnswer (derived_matrix i 2) (No cycle)
    → IsFirstConflict (derived_matrix i 2) cycle → IsClaimOf i (no_claim side lines)
second_no i side lines cycle is same sides order answer first =
    let without : IsFirstWithout i 2 = record { side = (omega arith, omega (arith, sides)); before = λ earlier from to. let one : 1 ≡ earlier = omega (arith, from, to) in subst (HasOrder i) one order; none = answer.1 } in
    subst (λ s. IsClaimOf i (no_claim s lines)) (sym is) (subst (λ ls. IsClaimOf i (no_claim 2 ls)) (sym same) (without, answer.0, answer.2, first))

pub returns-in-No-clause-claim : goal.returns-in-No-clause-claim
returns-in-No-clause-claim g c =
    let i = instance_value c.args.instance.now in
    let answer = subst (IsAnswer (derived_matrix i 2)) c.in-No.is c.in_ok-cycle.ensures.answer in
    let first = subst (IsInTurn (derived_matrix i 2)) c.in-No.is c.in_ok-cycle.ensures.in_turn in
    second_no i c.no.result.side c.no.result.lines c.in-No.cycle c.no.ensures.side c.no.ensures.lines c.requires.sides c.requires.orders.1 answer first

pub returns-in_err-cycle : goal.returns-in_err-cycle
returns-in_err-cycle g c =
    let made = c.from_residual.result in
    let none = c.from_residual.ensures in
    record { claim = IfOk-from_err made _ none.0; steps = unmade_within part_status made _ (derived_matrix (instance_value c.args.instance.now) 2) c.args.steps.now c.solve_side.new.steps none.1 c.solve_side.ensures.steps.most }

pub returns-in_err-first_order-in-Yes : goal.returns-in_err-first_order-in-Yes
returns-in_err-first_order-in-Yes g c =
    let made = c.from_residual-in_err-first_order-in-Yes.result in
    let none = c.from_residual-in_err-first_order-in-Yes.ensures in
    record { claim = IfOk-from_err made _ none.0; steps = unmade_within part_status made _ (derived_matrix (instance_value c.args.instance.now) 2) c.args.steps.now c.solve_side.new.steps none.1 c.solve_side.ensures.steps.most }

pub returns-in_err-second_order-in-Yes : goal.returns-in_err-second_order-in-Yes
returns-in_err-second_order-in-Yes g c =
    let made = c.from_residual-in_err-second_order-in-Yes.result in
    let none = c.from_residual-in_err-second_order-in-Yes.ensures in
    record { claim = IfOk-from_err made _ none.0; steps = unmade_within part_status made _ (derived_matrix (instance_value c.args.instance.now) 2) c.args.steps.now c.solve_side.new.steps none.1 c.solve_side.ensures.steps.most }

pub returns-in-No-clause-steps : goal.returns-in-No-clause-steps
returns-in-No-clause-steps g c =
    subst (λ (a : Judged). SolvesMatrixWithin (derived_matrix (instance_value c.args.instance.now) 2) (answer_status a) c.args.steps.now c.solve_side.new.steps) c.in-No.is c.in_ok-cycle.ensures.steps

pub returns-in_ok-second_order-in-Yes-clause-steps : goal.returns-in_ok-second_order-in-Yes-clause-steps
returns-in_ok-second_order-in-Yes-clause-steps g c =
    subst (λ (a : Judged). SolvesMatrixWithin (derived_matrix (instance_value c.args.instance.now) 2) (answer_status a) c.args.steps.now c.solve_side.new.steps) c.in-Yes.is c.in_ok-cycle.ensures.steps
