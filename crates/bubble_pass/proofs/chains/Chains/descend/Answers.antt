use Rattle.std.proofs.Common.{sym, ◌∙◌, arith}
use Rattle.std.proofs.lemmas.Grind.{common_steps}
use Rattle.arena_model.specs.Layout.{here}
use Rattle.bubble_pass.specs.Chains.{entry}
use Rattle.bubble_pass.specs.Roots.{below}
use Rattle.bubble_pass.proofs.Descents.{descent_start, descent_step, smallest, no_link}
use Rattle.bubble_pass.proofs.chains.Chains.descend.Goals as goal

pub loop-self-preserved : goal.loop-self-preserved
loop-self-preserved g c =
    descent_step c.args.arena.now g.leaves c.args.climber.now c.args.self.now c.loop-self.self c.cut.new.self c.args.top.index c.loop-self.r c.in-Some.k c.layout_law.ensures c.requires.0 c.loop-self.invariant
    (sym c.count_of.ensures ∙ c.loop-self-test.true) (sym c.first_of.ensures ∙ c.in-Some.is) c.cut.ensures

pub unreachable-requires : goal.unreachable-requires
unreachable-requires g c =
    let l = c.loop-self.invariant.at.linked in
    no_link c.loop-self.self.next.items (entry c.loop-self.self.first.items c.loop-self.r.index) (below c.args.climber.now c.loop-self.r.index) (l.chains c.loop-self.r.index (here c.loop-self.r.index))
    (sym (l.counts c.loop-self.r.index (here c.loop-self.r.index)) ∙ sym c.count_of.ensures ∙ c.loop-self-test.true) (sym c.first_of.ensures ∙ c.in-None.is)

pub returns-clause-smallest : goal.returns-clause-smallest
returns-clause-smallest g c =
    smallest c.args.arena.now g.leaves c.args.climber.now c.loop-self.self c.args.top.index c.loop-self.r.index c.layout_law.ensures c.requires.0 c.loop-self.invariant.at
    (λ e. c.loop-self-test.false (c.count_of.ensures ∙ e))

pub loop-self-init : goal.loop-self-init
loop-self-init g c = descent_start c.args.arena.now g.leaves c.args.climber.now c.args.self.now c.args.top.index c.requires.1

pub loop-self-smaller : goal.loop-self-smaller
loop-self-smaller g c = grind (arith, common_steps)
