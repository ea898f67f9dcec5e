use Rattle.std.proofs.Common.{ℕ, ◌+◌, ◌≤◌, sym, subst}
use Rattle.std.proofs.lemmas.Result.{IfOk-from_err}
use Rattle.row_model.specs.Rows.{RowList}
use Rattle.row_judge.specs.declared.Judged.TheVariants.{No}
use Rattle.robinson_balls.specs.Balls.{balls_of}
use Rattle.c1p_solve.specs.Answers.{IsAnswer, IsInTurn}
use Rattle.c1p_solve.specs.Growing.{HasRefused}
use Rattle.c1p_solve.specs.Totals.{answer_steps}
use Rattle.solve_replies.specs.Steps.{answer_status}
use Rattle.solve_replies.proofs.Centres.{unmade_within, none_within, refused_steps}
use Rattle.solve_replies.proofs.distances.not_robinson.Goals as goal

pub cycle_of_refused-requires : goal.cycle_of_refused-requires
cycle_of_refused-requires g c = record { refused = (c.requires.0, subst (λ (m : RowList). HasRefused m c.args.k c.args.reducer.now c.requires.0 c.args.steps.now) (sym c.in_ok-all.ensures) c.requires.1) }

pub returns : goal.returns
returns g c =
    let p = c.cycle_of_refused.new.steps in
    let most = subst (λ (m : RowList). (s : ℕ) → HasRefused m c.args.k c.args.reducer.now s c.args.steps.now → p ≤ s + answer_steps m) c.in_ok-all.ensures c.cycle_of_refused.ensures.most in
    let answer = subst (λ (m : RowList). IsAnswer m (No c.in_ok-cycle.cycle)) c.in_ok-all.ensures c.in_ok-cycle.ensures.answer in
    record { answer = answer; in_turn = subst (λ (m : RowList). IsInTurn m (No c.in_ok-cycle.cycle)) c.in_ok-all.ensures c.in_ok-cycle.ensures.in_turn; steps = λ s h. none_within (balls_of c.args.d.now) s p answer.1 (most s h) }

pub returns-in_err-cycle : goal.returns-in_err-cycle
returns-in_err-cycle g c =
    let made = c.from_residual-in_err-cycle.result in
    let none = c.from_residual-in_err-cycle.ensures in
    let p = c.cycle_of_refused.new.steps in
    let most = subst (λ (m : RowList). (s : ℕ) → HasRefused m c.args.k c.args.reducer.now s c.args.steps.now → p ≤ s + answer_steps m) c.in_ok-all.ensures c.cycle_of_refused.ensures.most in
    record { answer = IfOk-from_err made _ none.0; in_turn = IfOk-from_err made _ none.0; steps = λ s h. unmade_within answer_status made _ (balls_of c.args.d.now) s p none.1 (most s h) }

pub returns-in_err-all : goal.returns-in_err-all
returns-in_err-all g c =
    let made = c.from_residual.result in
    let none = c.from_residual.ensures in
    record { answer = IfOk-from_err made _ none.0; in_turn = IfOk-from_err made _ none.0; steps = λ s h. unmade_within answer_status made _ (balls_of c.args.d.now) s c.args.steps.now none.1 (refused_steps (balls_of c.args.d.now) c.args.k c.args.reducer.now s c.args.steps.now h) }
