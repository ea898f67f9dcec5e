use Rattle.arena_model.specs.NamedTree.{outline_at}
use Rattle.c1p_solve.proofs.Orders.{reducer_orders, reducer_tied}
use Rattle.c1p_solve.proofs.session.Session.tree.Goals as goal

pub returns-clause-all_orders : goal.returns-clause-all_orders
returns-clause-all_orders c = rw (← c.self.view_is)
    (reducer_orders c.self.inside.matrix c.tree.result c.self.inside.reducer.columns (outline_at c.self.inside.reducer) c.self.invariant.columns c.self.invariant.session.tied c.tree.ensures.columns c.tree.ensures.canonical c.tree.ensures.tied)

pub returns-clause-tied : goal.returns-clause-tied
returns-clause-tied c = rw (← c.self.view_is)
    (reducer_tied c.self.inside.matrix c.tree.result c.self.inside.reducer.columns (outline_at c.self.inside.reducer) c.self.invariant.columns c.self.invariant.session.tied c.tree.ensures.tied)
