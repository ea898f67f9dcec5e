use Rattle.unit_model.proofs.WalkLemmas.{vertex}
use Rattle.unit_model.proofs.FirstLemmas.{on_none, all_within, no_neighbour, first_some, first_is, none_before}
use Rattle.unit_model.proofs.rule.first_before.Goals as goal

pub neighbours-requires : goal.neighbours-requires
neighbours-requires c = vertex c.args.g.now c.args.order.now c.requires.graph c.requires.order c.args.i c.requires.i

pub span_of-requires : goal.span_of-requires
span_of-requires c =
    all_within c.args.g.now c.args.order.now c.requires.graph c.requires.order c.args.positions.now c.neighbours.result.now c.args.i c.requires.i c.requires.positions c.neighbours.ensures.list c.neighbours.ensures.ascending

pub returns-in_err-span-clause-none : goal.returns-in_err-span-clause-none
returns-in_err-span-clause-none c =
    on_none c.from_residual.result
    (no_neighbour c.args.g.now c.args.order.now c.requires.graph c.requires.order c.args.positions.now c.neighbours.result.now c.args.i c.requires.i c.requires.positions c.neighbours.ensures.list c.neighbours.ensures.ascending
    c.in_err-span.ensures.least)

pub overflow_sub-first : goal.overflow_sub-first
overflow_sub-first c =
    first_some c.args.g.now c.args.order.now c.requires.graph c.requires.order c.args.positions.now c.neighbours.result.now c.args.i c.requires.i c.requires.positions c.neighbours.ensures.list c.neighbours.ensures.ascending
    c.in_ok-span.span c.in_ok-span.ensures.least

pub returns-then-first-i-clause-some : goal.returns-then-first-i-clause-some
returns-then-first-i-clause-some c =
    first_is c.args.g.now c.args.order.now c.requires.graph c.requires.order c.args.positions.now c.neighbours.result.now c.args.i c.requires.i c.requires.positions c.neighbours.ensures.list c.neighbours.ensures.ascending
    c.in_ok-span.span c.in_ok-span.ensures.least c.if-first-i.true

pub returns-else-first-i-clause-none : goal.returns-else-first-i-clause-none
returns-else-first-i-clause-none c =
    none_before c.args.g.now c.args.order.now c.requires.graph c.requires.order c.args.positions.now c.neighbours.result.now c.args.i c.requires.i c.requires.positions c.neighbours.ensures.list c.neighbours.ensures.ascending
    c.in_ok-span.span c.in_ok-span.ensures.least c.if-first-i.false
