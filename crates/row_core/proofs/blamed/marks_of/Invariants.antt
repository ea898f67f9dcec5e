use Rattle.std.proofs.Common.{◌≡◌, ◌≤◌, ℕ, false, length, take, get_or}
use Rattle.row_core.specs.Blamed.{AreMarked, AreReasonsWithin}
use Rattle.row_core.proofs.blamed.marks_of.Given as goal

abbrev pub invariant-loop-line : goal.invariant-loop-line
invariant-loop-line l = record {
  size : length l.marks.items ≡ l.count;
  marked : AreMarked l.marks.items (take l.line-index l.lines);
  others : (n : ℕ) → AreReasonsWithin n (take l.line-index l.lines) → (i : ℕ) → n ≤ i → get_or l.marks.items i false ≡ false;
}
