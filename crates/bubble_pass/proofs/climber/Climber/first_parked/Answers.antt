use Rattle.std.proofs.Common.{arith}
use Rattle.bubble_pass.proofs.Turns.{queue_in}
use Rattle.bubble_pass.proofs.Ending.{parked_somewhere}
use Rattle.bubble_pass.proofs.climber.Climber.first_parked.Goals as goal

pub stage_of-requires : goal.stage_of-requires
stage_of-requires g c = queue_in c.args.arena.now g.leaves c.args.self.now c.loop-i.i c.index-x.result.now c.requires.0 c.loop-i-test.true c.index-x.ensures

pub unreachable-requires : goal.unreachable-requires
unreachable-requires g c =
    parked_somewhere c.args.arena.now g.leaves c.args.self.now c.requires.0 c.requires.1 (λ k l. c.loop-i.invariant.1 k (omega arith))
