use Rattle.std.proofs.Common.{refl, arith}
use Rattle.bubble_pass.proofs.Turning.{fair_begun, fair_turn}
use Rattle.bubble_pass.proofs.climber.Climber.climb.Goals as goal

pub loop-self-init : goal.loop-self-init
loop-self-init g c = record {
  ready = c.requires.1.1.ready;
  ticks = omega (arith, c.requires.1.1.parked, c.requires.1.1.head);
  fair = λ r holds. fair_begun c.args.arena.now g.leaves r c.args.self.now c.layout_law.ensures c.requires.1.0 holds c.requires.1.1;
}

pub loop-self-preserved : goal.loop-self-preserved
loop-self-preserved g c =
    let go = c.loop-self-test.ensures.goes refl in
    record {
      ready = c.turn.ensures.ready;
      ticks = omega (arith, c.turn.ensures.ticks, c.turn.ensures.head, c.loop-self.invariant.ticks);
      fair = λ r holds. fair_turn c.args.arena.now g.leaves r c.loop-self.self c.turn.new.self c.layout_law.ensures c.requires.1.0
          (record { holds = holds; old = c.loop-self.invariant.ready.kept; new = c.turn.ensures.ready.kept; some = go.some; more = go.more; head = c.turn.ensures.head; turned = c.turn.ensures.turned })
          (c.loop-self.invariant.fair r holds);
    }
