use Rattle.std.proofs.Common.{◌≡◌, ◌+◌, ◌*◌, take}
use Rattle.pq_arena.specs.RowNodes.{indices}
use Rattle.templates_p.specs.Steps.{Moved}
use Rattle.templates_p.proofs.moves.move_under.Given as goal

abbrev pub invariant-loop-member : goal.invariant-loop-member
invariant-loop-member g l = record {
  moved : Moved l.fn.arena l.arena l.fn.node.index l.group.index (indices (take l.member-index l.members));
  ticks : l.steps ≡ l.fn.steps + 2 * l.member-index + 1;
}
