use Rattle.std.proofs.Common.{◌-◌, take, sym, subst}
use Rattle.column_order.specs.Orders.{HasValidOrder}
use Rattle.row_model.specs.Graph.{HasConflict}
use Rattle.arena_model.specs.NamedTree.{outline_at}
use Rattle.tree_theory.specs.Tied.{IsTied}
use Rattle.row_reduce.proofs.Taking.{next_rows}
use Rattle.row_reduce.proofs.reducer.ArenaReducer.reduce_row.Goals as goal

pub reduce_after-requires-clause-tied : goal.reduce_after-requires-clause-tied
reduce_after-requires-clause-tied g c = (take (c.args.k - 1) c.args.m.now.rows, c.requires.tied)

pub returns-clause-taken : goal.returns-clause-taken
returns-clause-taken g c = λ t.
    subst (λ z. IsTied c.args.m.now.columns z (outline_at c.reduce_after.new.self)) (next_rows c.args.m.now.rows c.args.k c.requires.row.0 c.requires.row.1)
    (c.reduce_after.ensures.taken t (take (c.args.k - 1) c.args.m.now.rows) c.requires.tied)

pub returns-clause-order : goal.returns-clause-order
returns-clause-order g c = λ t.
    subst (λ z. HasValidOrder c.args.m.now.columns z) (next_rows c.args.m.now.rows c.args.k c.requires.row.0 c.requires.row.1)
    (c.reduce_after.ensures.order t (take (c.args.k - 1) c.args.m.now.rows) c.requires.tied)

pub returns-clause-refused : goal.returns-clause-refused
returns-clause-refused g c = λ t o.
    c.reduce_after.ensures.refused t (take (c.args.k - 1) c.args.m.now.rows) c.requires.tied
    (subst (λ z. HasValidOrder c.args.m.now.columns z) (sym (next_rows c.args.m.now.rows c.args.k c.requires.row.0 c.requires.row.1)) o)

pub returns-clause-conflict : goal.returns-clause-conflict
returns-clause-conflict g c = λ t.
    subst (λ z. HasConflict c.args.m.now.columns z) (next_rows c.args.m.now.rows c.args.k c.requires.row.0 c.requires.row.1)
    (c.reduce_after.ensures.conflict t (take (c.args.k - 1) c.args.m.now.rows) c.requires.tied)
