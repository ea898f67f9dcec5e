use Rattle.std.proofs.lemmas.Bool.{both_ways}
use Rattle.row_model.specs.declared.graph.Line.{Line}
use Rattle.row_model.specs.Graph.{IsPair}
use Rattle.verdict_judge.proofs.Lines.{has_line, line_has, each_more, least_here}
use Rattle.verdict_judge.proofs.cycle.first_bad_pair.Goals as goal

pub loop-i-preserved : goal.loop-i-preserved
loop-i-preserved c = each_more _ _ c.loop-i.invariant (line_has c.args.lines.now c.loop-i.i _ (λ (line : Line). IsPair c.args.c line.pair) c.loop-i-test.true (c.is_pair.ensures.0 c.if-not-is_pair.false))

pub returns-then-not-is_pair : goal.returns-then-not-is_pair
returns-then-not-is_pair c = least_here _ _ _ c.loop-i-test.true c.loop-i.invariant (λ p. both_ways c.is_pair.result c.if-not-is_pair.true (c.is_pair.ensures.1 (has_line c.args.lines.now c.loop-i.i _ (λ (line : Line). IsPair c.args.c line.pair) c.loop-i-test.true p)))
