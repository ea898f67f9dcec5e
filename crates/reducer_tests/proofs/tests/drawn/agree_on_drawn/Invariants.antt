use Rattle.arena_model.specs.NamedTree.{outline_at}
use Rattle.pq_plain.specs.Plain.{plain_columns, plain_outline}
use Rattle.reducer_tests.specs.Follows.{Follows}
use Rattle.reducer_tests.proofs.tests.drawn.agree_on_drawn.Given as goal

abbrev pub invariant-loop-row : goal.invariant-loop-row
invariant-loop-row g l = record {
  first : Follows l.both.matrix (plain_columns l.both.first) (plain_outline l.both.first);
  second : Follows l.both.matrix l.both.second.columns (outline_at l.both.second);
}
