use Rattle.std.proofs.Common.{arith}
use Rattle.full_pass.specs.Tallies.{full_in, hits_in}
use Rattle.full_pass.proofs.count.climb.Goals as goal

pub add-added-requires-clause-waits : goal.add-added-requires-clause-waits
add-added-requires-clause-waits g c = record {
  one = c.requires.waits.one;
  row = c.requires.waits.row;
  waiting = c.requires.waits.waiting;
  n = c.loop-settled.parts;
  pass = c.loop-settled.invariant.pass c.requires.waits.row c.requires.waits.waiting c.requires.waits.pass;
}

pub after-requires : goal.after-requires
after-requires g c = record {
  f = c.args.arena.now;
  row = c.requires.waits.row;
  l = full_in c.add-added.new.labels c.args.stamp;
  h = hits_in c.add-added.new.tallies c.args.stamp;
  waiting = c.requires.waits.waiting;
  is = c.add-added.ensures.added c.requires.waits.row c.requires.waits.waiting c.loop-settled.parts
      (c.loop-settled.invariant.pass c.requires.waits.row c.requires.waits.waiting c.requires.waits.pass);
}

pub returns-in-Ended-clause-risen : goal.returns-in-Ended-clause-risen
returns-in-Ended-clause-risen g c = λ row waiting p.
    c.in-Ended.ensures.next c.args.arena.now row (full_in c.add-added.new.labels c.args.stamp) (hits_in c.add-added.new.tallies c.args.stamp) waiting
    (c.add-added.ensures.added row waiting c.loop-settled.parts (c.loop-settled.invariant.pass row waiting p))

pub loop-settled-preserved : goal.loop-settled-preserved
loop-settled-preserved g c = record {
  counted = c.add-added.ensures.counted;
  pass = λ row waiting p.
      c.in-Above.ensures.next c.args.arena.now row (full_in c.add-added.new.labels c.args.stamp) (hits_in c.add-added.new.tallies c.args.stamp) waiting
      (c.add-added.ensures.added row waiting c.loop-settled.parts (c.loop-settled.invariant.pass row waiting p));
  ticks = omega (arith, c.loop-settled.invariant.ticks, c.add-added.ensures.ticks, c.in-Above.ensures.fewer);
}
