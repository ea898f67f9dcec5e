use Rattle.std.proofs.Common.{◌≡◌, ◌<◌, ◌+◌, ℕ, List, true, false, slice_index_or}
use Rattle.column_order.specs.Orders.{has}
use Rattle.pq_tree.specs.Reading.{covers}
use Rattle.pq_tree.proofs.parse.all_marked.Given as goal

abbrev pub invariant-loop-i : goal.invariant-loop-i
invariant-loop-i l = (xs : List ℕ) → ((j : ℕ) → j < l.c + 1 → slice_index_or l.marks j false ≡ has xs j) → covers l.i xs ≡ true
