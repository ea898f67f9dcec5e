use Rattle.circular_ones.proofs.Outside.{IsListed}
use Rattle.circular_ones.proofs.cut.list_outside.Given as goal

abbrev pub invariant-loop-before : goal.invariant-loop-before
invariant-loop-before l = IsListed l.columns l.row l.inside l.before l.outside.items
