use Rattle.std.proofs.Common.{◌≤◌, arith}
use Rattle.full_pass.specs.Entries.{is_full, hits}
use Rattle.full_pass.proofs.joins.rise.Goals as goal

pub after-requires : goal.after-requires
after-requires g c = record {
  f = c.args.arena.now;
  row = c.requires.row;
  l = is_full c.join.new.entries;
  h = hits c.join.new.entries;
  waiting = c.requires.waiting;
  is = c.in-Plain.ensures.joined c.requires.row c.requires.waiting c.loop-added.parts (c.loop-added.invariant.pass c.requires.row c.requires.waiting c.requires.pass);
}

pub returns-in-Ended-clause-risen : goal.returns-in-Ended-clause-risen
returns-in-Ended-clause-risen g c = λ row waiting p.
    c.in-Ended.ensures.next c.args.arena.now row (is_full c.join.new.entries) (hits c.join.new.entries) waiting
    (c.in-Plain.ensures.joined row waiting c.loop-added.parts (c.loop-added.invariant.pass row waiting p))

pub loop-added-preserved-in-Above : goal.loop-added-preserved-in-Above
loop-added-preserved-in-Above g c = record {
  linked = c.in-Plain.ensures.linked;
  pass = λ row waiting p.
      c.in-Above.ensures.next c.args.arena.now row (is_full c.join.new.entries) (hits c.join.new.entries) waiting
      (c.in-Plain.ensures.joined row waiting c.loop-added.parts (c.loop-added.invariant.pass row waiting p));
  ticks = omega (arith, c.loop-added.invariant.ticks, c.in-Plain.ensures.ticks, c.in-Above.ensures.fewer);
}

pub overflow_sub-parts : goal.overflow_sub-parts
overflow_sub-parts g c =
    (c.in-Wide.ensures.joined c.requires.row c.requires.waiting c.loop-added.parts (c.loop-added.invariant.pass c.requires.row c.requires.waiting c.requires.pass)).0

pub loop-added-smaller : goal.loop-added-smaller
loop-added-smaller g c =
    let j = c.in-Wide.ensures.joined c.requires.row c.requires.waiting c.loop-added.parts (c.loop-added.invariant.pass c.requires.row c.requires.waiting c.requires.pass) in
    let a : c.in-Wide.pairs ≤ c.loop-added.parts = j.0 in
    let b : 1 ≤ c.in-Wide.pairs = j.1 in
    omega arith

pub loop-added-preserved : goal.loop-added-preserved
loop-added-preserved g c =
    let j = c.in-Wide.ensures.joined c.requires.row c.requires.waiting c.loop-added.parts (c.loop-added.invariant.pass c.requires.row c.requires.waiting c.requires.pass) in
    let a : c.in-Wide.pairs ≤ c.loop-added.parts = j.0 in
    let b : 1 ≤ c.in-Wide.pairs = j.1 in
    record {
      linked = c.in-Wide.ensures.linked;
      pass = λ row waiting p. (c.in-Wide.ensures.joined row waiting c.loop-added.parts (c.loop-added.invariant.pass row waiting p)).2;
      ticks = omega (arith, c.loop-added.invariant.ticks, c.in-Wide.ensures.ticks);
    }
