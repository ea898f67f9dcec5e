use Rattle.std.proofs.Common.{◌+◌, sym, subst, ◌∙◌, arith}
use Rattle.bubble_pass.specs.Chains.{Linked}
use Rattle.bubble_pass.proofs.Turns.{queue_read, queue_in}
use Rattle.bubble_pass.proofs.Linking.{hang_more, hang_none, can_hang}
use Rattle.bubble_pass.proofs.chains.Chains.link.Goals as goal
use Rattle.bubble_pass.proofs.chains.Chains.link.Goals.{in-Placed, in_default}

pub stage_of-requires : goal.stage_of-requires
stage_of-requires g c = queue_in c.args.arena.now g.leaves c.args.climber.now c.loop-i.i c.index-x.result.now c.requires.0 c.loop-i-test.true c.index-x.ensures

pub hang-requires : goal.hang-requires
hang-requires g c =
    can_hang c.args.arena.now g.leaves c.args.climber.now c.loop-i.self c.loop-i.i c.index-x.result.now c.in-Placed.m c.requires.0 c.loop-i.invariant.1 (sym c.stage_of.ensures ∙ c.in-Placed.is) c.loop-i.invariant.0

pub loop-i-preserved : goal.loop-i-preserved
loop-i-preserved g c =
    let e = queue_read c.args.arena.now g.leaves c.args.climber.now c.loop-i.i c.index-x.result.now c.requires.0 c.loop-i-test.true c.index-x.ensures in
    elim c.match-stage_of.branch [
      | in-Placed w ↦ (
        subst (λ z. Linked c.args.climber.now z (c.loop-i.i + 1)) (sym w.self-is)
            (hang_more c.args.arena.now g.leaves c.args.climber.now c.loop-i.self w.hang.new.self c.loop-i.i c.index-x.result.now w.in-Placed.m c.layout_law.ensures c.requires.0 c.loop-i-test.true e
            (sym c.stage_of.ensures ∙ w.in-Placed.is) c.loop-i.invariant.0 w.hang.ensures),
        omega arith,
      )
      | in_default w ↦ (
        subst (λ z. Linked c.args.climber.now z (c.loop-i.i + 1)) (sym w.self-is)
            (hang_none c.args.arena.now g.leaves c.args.climber.now c.loop-i.self c.loop-i.i c.index-x.result.now c.requires.0 c.loop-i-test.true e
            (λ m q. w.in_default.not-Placed m (c.stage_of.ensures ∙ q)) c.loop-i.invariant.0),
        omega arith,
      )
    ]
