use Rattle.std.proofs.Common.{◌≡◌, ◌-◌, ◌≤◌, ◌+◌, ◌^◌, ℕ, List, take, IsTrue, vec_len}
use Rattle.file_io.proofs.Through.{GoesThrough}
use Rattle.file_io.proofs.reading.read_through.Given as goal

abbrev pub invariant-loop-total : goal.invariant-loop-total
invariant-loop-total g l = record {
  within : l.filled ≤ vec_len l.window;
  few : l.filled ≤ l.total;
  small : l.limit ≤ 2 ^ 32;
  told : g.F.Shelf.faults l.shelf ≡ g.F.Shelf.faults l.initial.shelf;
  chosen : IsTrue (g.F.Shelf.has_chosen l.shelf);
  content : (other : List ℕ) → g.F.Shelf.content l.shelf other ≡ g.F.Shelf.content l.initial.shelf other;
  through : (given : List ℕ) × GoesThrough (g.T.Taker.makes l.initial.taker) (g.T.Taker.makes l.taker) (g.F.Shelf.left l.initial.shelf) (g.F.Shelf.left l.shelf) (g.F.Shelf.taken l.initial.shelf) (g.F.Shelf.taken l.shelf) l.total (take l.filled l.window.items) given;
}

abbrev pub decreases-loop-total : goal.decreases-loop-total
decreases-loop-total g l = l.limit + 1 - l.total
