use Rattle.arena_tests.proofs.Conditions.{bare_run}
use Rattle.arena_tests.proofs.tests.calls.is_childless.Goals as goal

pub returns-in-Q : goal.returns-in-Q
returns-in-Q g c = λ t.
    bare_run c.args.arena.now c.args.n.index c.view_of-view.result c.layout_law.ensures c.view_of-view.ensures c.in-Q.is (c.is_same.ensures.0 t)
