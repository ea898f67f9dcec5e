use Rattle.std.proofs.Common.{arith}
use Rattle.bubble_pass.proofs.Turning.{all_turns, few_turns, flat_found}
use Rattle.bubble_pass.proofs.climber.Climber.find.Goals as goal

pub returns-clause-ticks : goal.returns-clause-ticks
returns-clause-ticks g c = λ a most.
    let l = all_turns c.args.arena.now g.leaves a c.climb.new.self c.layout_law.ensures c.requires.1.1.1.1.0 c.climb.ensures.climbed.ready.kept most in
    omega (arith, l, c.climb.ensures.climbed.ticks, c.end.ensures.ticks)

pub returns-clause-fair : goal.returns-clause-fair
returns-clause-fair g c = λ r a found holds most.
    let l = few_turns c.args.arena.now g.leaves r a c.climb.new.self c.layout_law.ensures c.climb.ensures.climbed.ready.kept (c.climb.ensures.climbed.fair r holds) most
    (flat_found c.args.arena.now c.climb.new.self c.end.result found c.end.ensures.flat) in
    omega (arith, l, c.climb.ensures.climbed.ticks, c.end.ensures.ticks)
