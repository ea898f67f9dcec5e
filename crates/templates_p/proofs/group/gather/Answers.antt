use Rattle.std.proofs.Common.{refl, sym, ◌∙◌}
use Rattle.template_model.proofs.Unchanged.{unchanged}
use Rattle.templates_p.proofs.Grouping.{one_full, one_made, no_full_child}
use Rattle.templates_p.proofs.group.gather.Goals as goal

pub child_with-requires : goal.child_with-requires
child_with-requires g c = one_full c.args.arena.now c.args.work.now c.args.node.index c.layout_law.ensures c.requires.ready (sym c.counts.ensures.full ∙ c.in-1.is)

pub returns-in-0-clause-treated : goal.returns-in-0-clause-treated
returns-in-0-clause-treated g c = unchanged c.args.arena.now c.args.work.now c.args.node.index c.layout_law.ensures c.requires.ready.one c.requires.ready.two c.requires.ready.used

pub returns-in-0-clause-gathered : goal.returns-in-0-clause-gathered
returns-in-0-clause-gathered g c = (no_full_child c.args.arena.now c.args.work.now c.args.node.index c.requires.ready (sym c.counts.ensures.full ∙ c.in-0.is), refl, refl)

pub returns-in-1-clause-treated : goal.returns-in-1-clause-treated
returns-in-1-clause-treated g c = unchanged c.args.arena.now c.args.work.now c.args.node.index c.layout_law.ensures c.requires.ready.one c.requires.ready.two c.requires.ready.used

pub returns-in-1-clause-gathered : goal.returns-in-1-clause-gathered
returns-in-1-clause-gathered g c = one_made c.args.arena.now c.args.work.now c.args.node.index c.child_with.result.index c.requires.ready c.requires.is_p (sym c.counts.ensures.full ∙ c.in-1.is)
    c.child_with.ensures.child c.child_with.ensures.labelled
