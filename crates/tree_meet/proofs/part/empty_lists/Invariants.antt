use Rattle.std.proofs.Common.{◌≡◌, [], replicate}
use Rattle.tree_meet.specs.Marks.{lists_of}
use Rattle.tree_meet.proofs.part.empty_lists.Given as goal

abbrev pub invariant-loop : goal.invariant-loop
invariant-loop l = lists_of l.lists.items ≡ replicate l.counter []
