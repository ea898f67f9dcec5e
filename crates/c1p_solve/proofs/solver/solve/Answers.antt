use Rattle.std.proofs.Common.{◌≡◌, ◌∙◌, ℕ, sym, subst}
use Rattle.pq_tree.specs.PqTree.{column_count}
use Rattle.tree_theory.specs.Tied.{IsTied}
use Rattle.c1p_solve.specs.Answers.{IsReduction, IsReducedInTurn}
use Rattle.c1p_solve.specs.Totals.{IsTotal, IsReductionTotal}
use Rattle.c1p_solve.proofs.Orders.{tied_orders}
use Rattle.c1p_solve.proofs.Rows.{no_value}
use Rattle.c1p_solve.proofs.solver.solve.Goals as goal

pub returns-in_ok-tree-in-None : goal.returns-in_ok-tree-in-None
returns-in_ok-tree-in-None g c =
    let m = c.args.m.now in
    let t = g.R.Reducer.outline c.reduce_all.new.reducer in
    let reduced = subst (IsReduction m t) c.in-None.is c.in_ok-reduce_all.ensures.reduction in
    let same : g.R.Reducer.columns c.reduce_all.new.reducer ≡ m.columns = c.reduce_all.ensures.columns ∙ c.requires.columns in
    let columns : column_count c.in_ok-tree-in-None.field-0 ≡ m.columns = c.in_ok-tree-in-None.ensures.columns ∙ same in
    let tied = subst (λ (n : ℕ). IsTied n m.rows t) (sym same) reduced.0 in
    record {
      answer = (tied_orders m c.in_ok-tree-in-None.field-0 columns c.in_ok-tree-in-None.ensures.canonical (rw same at (c.in_ok-tree-in-None.ensures.tied m.rows tied)), reduced.1);
      in_turn = tt;
      reducer = reduced.0;
      columns = c.reduce_all.ensures.columns;
      total = λ f h. subst (IsReductionTotal m t c.args.steps.now c.reduce_all.new.steps) c.in-None.is (c.in_ok-reduce_all.ensures.total f h);
      most = c.reduce_all.ensures.most;
    }

pub returns-in-Some : goal.returns-in-Some
returns-in-Some g c =
    let m = c.args.m.now in
    let t = g.R.Reducer.outline c.reduce_all.new.reducer in
    let reduced = subst (IsReduction m t) c.in-Some.is c.in_ok-reduce_all.ensures.reduction in
    record { answer = (reduced.0, reduced.1, reduced.3); in_turn = subst (IsReducedInTurn m) c.in-Some.is c.in_ok-reduce_all.ensures.in_turn; reducer = reduced.2; columns = c.reduce_all.ensures.columns; total = λ f h. subst (IsReductionTotal m t c.args.steps.now c.reduce_all.new.steps) c.in-Some.is (c.in_ok-reduce_all.ensures.total f h); most = c.reduce_all.ensures.most }

pub returns-in_err-reduce_all : goal.returns-in_err-reduce_all
returns-in_err-reduce_all g c =
    let none = c.from_residual.ensures.0 in
    let total = IsTotal c.args.m.now (g.R.Reducer.outline c.reduce_all.new.reducer) c.args.steps.now c.reduce_all.new.steps in
    record { answer = no_value c.from_residual.result _ none; in_turn = no_value c.from_residual.result _ none; reducer = no_value c.from_residual.result _ none; columns = c.reduce_all.ensures.columns; total = λ f h. no_value c.from_residual.result total none; most = c.reduce_all.ensures.most }

pub returns-in_err-tree-in-None : goal.returns-in_err-tree-in-None
returns-in_err-tree-in-None g c =
    let none = c.from_residual-in_err-tree-in-None.ensures.0 in
    let total = IsTotal c.args.m.now (g.R.Reducer.outline c.reduce_all.new.reducer) c.args.steps.now c.reduce_all.new.steps in
    record { answer = no_value c.from_residual-in_err-tree-in-None.result _ none; in_turn = no_value c.from_residual-in_err-tree-in-None.result _ none; reducer = no_value c.from_residual-in_err-tree-in-None.result _ none; columns = c.reduce_all.ensures.columns; total = λ f h. no_value c.from_residual-in_err-tree-in-None.result total none; most = c.reduce_all.ensures.most }

pub reduce_all-requires : goal.reduce_all-requires
reduce_all-requires g c = record { columns = c.requires.columns; tied = c.requires.tied }
