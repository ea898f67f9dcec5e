use Rattle.std.proofs.Common.{◌≡◌, ◌-◌, ◌≤◌, ◌+◌, ◌^◌, ℕ, List, take, IsTrue, vec_len, false}
use Rattle.std.specs.Io.KnownBytes.{Consumes}
use Rattle.file_io.specs.Taken.{handed_out}
use Rattle.file_io.proofs.reading.read_all.Given as goal

abbrev pub invariant-loop-filled : goal.invariant-loop-filled
invariant-loop-filled g l = record {
  within : l.filled ≤ vec_len l.bytes;
  small : l.limit ≤ 2 ^ 32;
  so_far : Consumes (g.F.Shelf.left l.initial.shelf) (g.F.Shelf.left l.shelf) (take l.filled l.bytes.items);
  told : g.F.Shelf.faults l.shelf ≡ g.F.Shelf.faults l.initial.shelf;
  chosen : IsTrue (g.F.Shelf.has_chosen l.shelf);
  taken : g.F.Shelf.taken l.shelf ≡ handed_out (take l.filled l.bytes.items) false (g.F.Shelf.taken l.initial.shelf);
  content : (other : List ℕ) → g.F.Shelf.content l.shelf other ≡ g.F.Shelf.content l.initial.shelf other;
}

abbrev pub decreases-loop-filled : goal.decreases-loop-filled
decreases-loop-filled g l = l.limit + 1 - l.filled
