use Rattle.std.proofs.Common.{IsTrue, subst}
use Rattle.std.proofs.lemmas.Bool.{false≢true}
use Rattle.arena_tests.proofs.Conditions.{splice_place}
use Rattle.arena_tests.proofs.tests.calls.can_splice.Goals as goal

pub returns : goal.returns
returns g c = λ t.
    splice_place c.args.arena.now c.args.child.index c.view_of-view.result c.args.near c.layout_law.ensures c.view_of-view.ensures
    (λ w. false≢true (subst IsTrue c.if-is_top.false (c.is_top.ensures.top.1 w)))
    (λ w. false≢true (subst IsTrue c.if-is_child_of_p.false (c.is_child_of_p.ensures.child.1 w)))
    (c.is_spliceable.ensures.shape t) (c.is_spliceable.ensures.two t) (c.is_spliceable.ensures.near t)
