use Rattle.std.proofs.Common.{◌∙◌, [], refl, subst, arith}
use Rattle.arena_model.specs.NamedTree.{outline_at}
use Rattle.tree_theory.specs.Tied.{IsTied}
use Rattle.c1p_solve.proofs.Rows.{no_value}
use Rattle.c1p_solve.proofs.Sums.{weighs_little}
use Rattle.c1p_solve.proofs.chosen.answer.Goals as goal

pub solve-requires : goal.solve-requires
solve-requires g c = record {
  columns = c.in_ok-reducer.ensures.columns ∙ c.columns.ensures.columns;
  tied = subst (λ n. IsTied n [] (outline_at c.in_ok-reducer.reducer)) c.columns.ensures.columns c.in_ok-reducer.ensures.tied;
}

pub returns-in_err-reducer : goal.returns-in_err-reducer
returns-in_err-reducer g c =
    let made = c.from_residual.result in
    let none = c.from_residual.ensures.0 in
    record { solved = no_value made _ none; in_turn = no_value made _ none; reducer = no_value made _ none; columns = no_value made _ none; total = no_value made _ none; most = omega arith }

pub returns-in_err-solved : goal.returns-in_err-solved
returns-in_err-solved g c =
    let made = c.from_residual-in_err-solved.result in
    let none = c.from_residual-in_err-solved.ensures.0 in
    let light = weighs_little c.columns.result c.args.m.now.columns (outline_at c.in_ok-reducer.reducer) c.weight_law.ensures.universal c.columns.ensures.columns c.in_ok-reducer.ensures.tree in
    record { solved = no_value made _ none; in_turn = no_value made _ none; reducer = no_value made _ none; columns = no_value made _ none; total = no_value made _ none; most = c.solve.ensures.most refl light }

pub returns-clause-solved : goal.returns-clause-solved
returns-clause-solved g c = c.in_ok-solved.ensures.answer

pub returns-clause-in_turn : goal.returns-clause-in_turn
returns-clause-in_turn g c = c.in_ok-solved.ensures.in_turn

pub returns-clause-total : goal.returns-clause-total
returns-clause-total g c =
    let light = weighs_little c.columns.result c.args.m.now.columns (outline_at c.in_ok-reducer.reducer) c.weight_law.ensures.universal c.columns.ensures.columns c.in_ok-reducer.ensures.tree in
    c.in_ok-solved.ensures.total refl light

pub returns-clause-most : goal.returns-clause-most
returns-clause-most g c =
    let light = weighs_little c.columns.result c.args.m.now.columns (outline_at c.in_ok-reducer.reducer) c.weight_law.ensures.universal c.columns.ensures.columns c.in_ok-reducer.ensures.tree in
    c.solve.ensures.most refl light

pub returns-clause-reducer : goal.returns-clause-reducer
returns-clause-reducer g c = c.in_ok-solved.ensures.reducer

pub returns-clause-columns : goal.returns-clause-columns
returns-clause-columns g c = c.solve.ensures.columns ∙ c.in_ok-reducer.ensures.columns ∙ c.columns.ensures.columns
