use Rattle.std.proofs.Common.{◌∙◌, [], refl, subst, arith}
use Rattle.arena_model.specs.NamedTree.{outline_at}
use Rattle.tree_theory.specs.Tied.{IsTied}
use Rattle.c1p_solve.specs.Answers.{IsReduction, IsReducedInTurn}
use Rattle.c1p_solve.specs.Totals.{IsReductionTotal}
use Rattle.c1p_solve.proofs.Rows.{no_value}
use Rattle.c1p_solve.proofs.Sums.{weighs_little}
use Rattle.c1p_solve.proofs.session.Session.start.Goals as goal

pub returns-in-None : goal.returns-in-None
returns-in-None g c =
    let m = c.args.m in
    let light = weighs_little c.columns.result m.columns (outline_at c.in_ok-reducer.reducer) c.weight_law.ensures.universal c.columns.ensures.columns c.in_ok-reducer.ensures.tree in
    let reduced = subst (IsReduction m (outline_at c.reduce_all.new.reducer)) c.in-None.is c.in_ok-reduce_all.ensures.reduction in
    record { start = (refl, record { tied = reduced.0; order = reduced.1 }); total = subst (IsReductionTotal m (outline_at c.reduce_all.new.reducer) c.args.steps.now c.reduce_all.new.steps) c.in-None.is (c.in_ok-reduce_all.ensures.total refl light); most = c.reduce_all.ensures.most refl light }

pub returns-in-Some : goal.returns-in-Some
returns-in-Some g c =
    let m = c.args.m in
    let light = weighs_little c.columns.result m.columns (outline_at c.in_ok-reducer.reducer) c.weight_law.ensures.universal c.columns.ensures.columns c.in_ok-reducer.ensures.tree in
    let reduced = subst (IsReduction m (outline_at c.reduce_all.new.reducer)) c.in-Some.is c.in_ok-reduce_all.ensures.reduction in
    record {
      start = (reduced.0, reduced.1, reduced.3, subst (IsReducedInTurn m) c.in-Some.is c.in_ok-reduce_all.ensures.in_turn);
      total = subst (IsReductionTotal m (outline_at c.reduce_all.new.reducer) c.args.steps.now c.reduce_all.new.steps) c.in-Some.is (c.in_ok-reduce_all.ensures.total refl light);
      most = c.reduce_all.ensures.most refl light;
    }

pub returns-in_err-reducer : goal.returns-in_err-reducer
returns-in_err-reducer g c =
    let none = c.from_residual.ensures.0 in
    record { start = no_value c.from_residual.result _ none; total = no_value c.from_residual.result _ none; most = omega arith }

pub returns-in_err-reduce_all : goal.returns-in_err-reduce_all
returns-in_err-reduce_all g c =
    let none = c.from_residual-in_err-reduce_all.ensures.0 in
    let light = weighs_little c.columns.result c.args.m.columns (outline_at c.in_ok-reducer.reducer) c.weight_law.ensures.universal c.columns.ensures.columns c.in_ok-reducer.ensures.tree in
    record { start = no_value c.from_residual-in_err-reduce_all.result _ none; total = no_value c.from_residual-in_err-reduce_all.result _ none; most = c.reduce_all.ensures.most refl light }

pub reduce_all-requires : goal.reduce_all-requires
reduce_all-requires g c = record { columns = c.in_ok-reducer.ensures.columns ∙ c.columns.ensures.columns; tied = subst (λ n. IsTied n [] (outline_at c.in_ok-reducer.reducer)) c.columns.ensures.columns c.in_ok-reducer.ensures.tied }
