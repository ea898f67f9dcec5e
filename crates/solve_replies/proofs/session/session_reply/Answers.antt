use Rattle.std.proofs.Common.{◌∙◌, ℕ, ◌+◌, ◌*◌, ◌≤◌, min, subst, arith}
use Rattle.std.proofs.lemmas.Result.{IfOk-from_err}
use Rattle.pq_tree.specs.Amortised.{weight}
use Rattle.row_model.specs.Rows.{RowList}
use Rattle.solve_replies.specs.Charges.{refused_steps, further_search}
use Rattle.solve_replies.specs.Steps.{taking_steps}
use Rattle.solve_replies.specs.Taking.{refusals_at_end}
use Rattle.solve_replies.proofs.Sessions.{session_told}
use Rattle.solve_replies.proofs.session.session_reply.Goals as goal

pub returns-clause-reply : goal.returns-clause-reply
returns-clause-reply g c =
    let all = c.in_ok-print_outcomes.ensures.taken in
    session_told c.args.kind c.columns.result c.args.session.matrix c.args.further.now.rows c.print_outcomes.new.session.matrix all.0 all.1 _ c.print_start.new.text.items c.print_outcomes.new.text.items c.print_end.new.text.items
    c.in_ok-text.ensures.items (c.columns.ensures.columns ∙ c.requires.columns) c.in_ok-print_start.ensures all.2 c.in_ok-print_end.ensures

pub returns-clause-steps : goal.returns-clause-steps
returns-clause-steps g c =
    let all = c.in_ok-print_outcomes.ensures.taken in
    let m = c.args.session.matrix in
    let further = c.args.further.now.rows in
    let told = all.2 in
    let start = c.args.steps.now + 256 * weight c.args.session.tree in
    let ends : RowList → ℕ → Type 0 = λ k refusals. c.print_outcomes.new.steps + taking_steps m ≤ start + taking_steps k + refused_steps m further refusals in
    let exact : RowList → ℕ → Type 0 = λ k refusals. c.print_outcomes.new.steps + taking_steps m ≤ start + taking_steps k + 256 * all.1 + min refusals 16 * further_search m further in (
      told.outcomes,
      told.in_turn,
      subst (λ k. ends k (refusals_at_end 0 told.outcomes)) told.matrix_is (subst (ends c.print_outcomes.new.session.matrix) told.count_is all.3),
      (all.1, told.are_met, subst (λ k. exact k (refusals_at_end 0 told.outcomes)) told.matrix_is (subst (exact c.print_outcomes.new.session.matrix) told.count_is all.4)),
    )

pub returns-clause-most : goal.returns-clause-most
returns-clause-most g c = c.print_outcomes.ensures.most

pub print_outcomes-requires : goal.print_outcomes-requires
print_outcomes-requires g c = record { columns = c.requires.columns; room = c.requires.room }

pub returns-in_err-text : goal.returns-in_err-text
returns-in_err-text g c =
    let made = c.from_residual.result in
    let none = c.from_residual.ensures.0 in
    record { reply = IfOk-from_err made _ none; status = IfOk-from_err made _ none; steps = IfOk-from_err made _ none; most = omega arith }

pub returns-in_err-print_start : goal.returns-in_err-print_start
returns-in_err-print_start g c =
    let made = c.from_residual-in_err-print_start.result in
    let none = c.from_residual-in_err-print_start.ensures.0 in
    record { reply = IfOk-from_err made _ none; status = IfOk-from_err made _ none; steps = IfOk-from_err made _ none; most = omega arith }

pub returns-in_err-print_outcomes : goal.returns-in_err-print_outcomes
returns-in_err-print_outcomes g c =
    let made = c.from_residual-in_err-print_outcomes.result in
    let none = c.from_residual-in_err-print_outcomes.ensures.0 in
    record { reply = IfOk-from_err made _ none; status = IfOk-from_err made _ none; steps = IfOk-from_err made _ none; most = c.print_outcomes.ensures.most }

pub returns-in_err-print_end : goal.returns-in_err-print_end
returns-in_err-print_end g c =
    let made = c.from_residual-in_err-print_end.result in
    let none = c.from_residual-in_err-print_end.ensures.0 in
    record { reply = IfOk-from_err made _ none; status = IfOk-from_err made _ none; steps = IfOk-from_err made _ none; most = c.print_outcomes.ensures.most }
