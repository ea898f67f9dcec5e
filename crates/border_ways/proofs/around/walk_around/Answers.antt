use Rattle.std.proofs.Common.{◌∙◌, length, ap, arith}
use Rattle.std.proofs.lemmas.Result.{IfOk-weaker}
use Rattle.border_ways.proofs.around.walk_around.Goals as goal

pub loop-link-preserved : goal.loop-link-preserved
loop-link-preserved g c = record {
  ticks = c.way_from-in-loop-link.ensures.ticks ∙ (c.way_from.ensures.ticks ∙ c.loop-link.invariant.ticks);
  turns = omega (
    arith,
    c.loop-link.invariant.turns,
    c.in_ok-one.ensures.turns,
    c.in_ok-other.ensures.turns,
    c.in_ok-add_forth.ensures.few,
    c.in_ok-add_back.ensures.few,
    ap length c.deref.ensures.value,
    ap length c.deref-in-loop-link.ensures.value,
  );
}

pub returns : goal.returns
returns g c = record {
  ticks = c.loop-link.invariant.ticks;
  turns = IfOk-weaker c.closed.result _ _ (λ lines few. omega (arith, few, c.loop-link.invariant.turns, c.loop-link.auto.link-index-end)) c.closed.ensures.few;
}

pub returns-in_err-one-clause-ticks : goal.returns-in_err-one-clause-ticks
returns-in_err-one-clause-ticks g c = c.way_from.ensures.ticks ∙ c.loop-link.invariant.ticks

pub returns-in_err-other-clause-ticks : goal.returns-in_err-other-clause-ticks
returns-in_err-other-clause-ticks g c = c.way_from-in-loop-link.ensures.ticks ∙ (c.way_from.ensures.ticks ∙ c.loop-link.invariant.ticks)

pub returns-in_err-add_forth-clause-ticks : goal.returns-in_err-add_forth-clause-ticks
returns-in_err-add_forth-clause-ticks g c = c.way_from-in-loop-link.ensures.ticks ∙ (c.way_from.ensures.ticks ∙ c.loop-link.invariant.ticks)

pub returns-in_err-add_back-clause-ticks : goal.returns-in_err-add_back-clause-ticks
returns-in_err-add_back-clause-ticks g c = c.way_from-in-loop-link.ensures.ticks ∙ (c.way_from.ensures.ticks ∙ c.loop-link.invariant.ticks)
