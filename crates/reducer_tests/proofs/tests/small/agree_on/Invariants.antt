use Rattle.arena_model.specs.NamedTree.{outline_at}
use Rattle.pq_plain.specs.Plain.{plain_columns, plain_outline}
use Rattle.reducer_tests.specs.Follows.{Follows}
use Rattle.reducer_tests.proofs.tests.small.agree_on.Given as goal

abbrev pub invariant-loop-number : goal.invariant-loop-number
invariant-loop-number g l = record {
  first : Follows l.both.matrix (plain_columns l.both.first) (plain_outline l.both.first);
  second : Follows l.both.matrix l.both.second.columns (outline_at l.both.second);
}
