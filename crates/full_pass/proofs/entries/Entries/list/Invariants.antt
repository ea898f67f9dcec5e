use Rattle.std.proofs.Common.{◌≡◌, ◌-◌, ◌++◌, length, take}
use Rattle.pq_arena.specs.RowNodes.{indices}
use Rattle.full_pass.specs.Entries.{hits, next, chain_at}
use Rattle.full_pass.specs.Tallies.{chained}
use Rattle.full_pass.proofs.entries.Entries.list.Given as goal

abbrev pub invariant-loop-i : goal.invariant-loop-i
invariant-loop-i l = record {
  long : length l.members.items ≡ length l.fn.members.items;
  split : chain_at l.self l.fn.p.index ≡ indices (take l.i l.members.items) ++ chained (hits l.self l.fn.p.index - l.i) (next l.self) l.x.index;
}
