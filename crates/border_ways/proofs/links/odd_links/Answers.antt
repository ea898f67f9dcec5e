use Rattle.std.proofs.Common.{◌≡◌, ◌∙◌, ◌+◌, length, ap, arith}
use Rattle.std.proofs.lemmas.Grind.{common_steps}
use Rattle.border_ways.proofs.links.odd_links.Goals as goal
use Rattle.border_ways.proofs.links.odd_links.Goals.{in-None+in_ok-push-in-None, in-Some+else-other-way}

pub loop-pivot-preserved : goal.loop-pivot-preserved
loop-pivot-preserved g c = record {
  ticks = c.loop-member.invariant.ticks;
  few = omega (arith, c.loop-member.invariant.few, c.loop-pivot.invariant.few, c.loop-member.auto.member-index-end, ap length c.deref-member-items.ensures.value, c.requires.few.0);
}

pub loop-member-init : goal.loop-member-init
loop-member-init g c = record { ticks = c.loop-pivot.invariant.ticks; few = omega arith }

pub loop-member-preserved : goal.loop-member-preserved
loop-member-preserved g c = record {
  ticks = c.way_of-way.ensures.ticks ∙ c.loop-member.invariant.ticks;
  few = elim c.match-ended_there.branch [
    | in-None+in_ok-push-in-None w ↦
        let count : length c.match-ended_there.ways.items ≡ length c.loop-member.ways.items + 1 = grind (arith, common_steps) in
        omega (arith, count, c.loop-member.invariant.few)
    | in-Some+else-other-way w ↦
        let count : length c.match-ended_there.ways.items ≡ length c.loop-member.ways.items = ap (λ v. length v.items) w.ways-is in
        omega (arith, count, c.loop-member.invariant.few)
  ];
}

-- there are no more ways than pairs of a pivot and a member
pub ended_there-requires : goal.ended_there-requires
ended_there-requires g c = record {
  few = omega (
    arith,
    ap length c.deref.ensures.value,
    c.loop-member.invariant.few,
    c.loop-pivot.invariant.few,
    c.loop-member-test.true,
    c.loop-pivot-test.true,
    ap length c.deref-member-items.ensures.value,
    ap length c.deref-pivot-items.ensures.value,
    c.requires.few,
  );
}

pub returns-clause-ticks : goal.returns-clause-ticks
returns-clause-ticks g c = c.loop-pivot.invariant.ticks

pub returns-then-other-way-clause-ticks : goal.returns-then-other-way-clause-ticks
returns-then-other-way-clause-ticks g c = c.way_of-way.ensures.ticks ∙ c.loop-member.invariant.ticks

pub returns-in_err-vec-in-Some-clause-ticks : goal.returns-in_err-vec-in-Some-clause-ticks
returns-in_err-vec-in-Some-clause-ticks g c = c.way_of-way.ensures.ticks ∙ c.loop-member.invariant.ticks

pub returns-in_err-push-in-None-clause-ticks : goal.returns-in_err-push-in-None-clause-ticks
returns-in_err-push-in-None-clause-ticks g c = c.way_of-way.ensures.ticks ∙ c.loop-member.invariant.ticks
