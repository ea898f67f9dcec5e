use Rattle.std.proofs.Common.{◌≡◌, ℕ, List, length}
use Rattle.unit_model.specs.Drawing.{IsLinkedList}
use Rattle.unit_model.proofs.LinkLemmas.{IsWalked}
use Rattle.unit_model.proofs.drawing.Drawing.number.Given as goal

abbrev pub invariant-loop-done : goal.invariant-loop-done
invariant-loop-done l = record {
  levels : l.self.levels.items ≡ l.initial.self.levels.items;
  before : l.self.before.items ≡ l.initial.self.before.items;
  long : length l.self.lefts.items ≡ length l.initial.self.lefts.items;
  walked : (list : List ℕ) → IsLinkedList l.initial.self.before.items (length l.initial.self.lefts.items) l.initial.v l.count list →
      IsWalked l.initial.self.levels.items l.initial.self.lefts.items l.self.lefts.items list l.count l.done l.v;
}
