-- A frontier has the columns of its tree.
pub use Rattle.std.proofs.lemmas.List.Folds.{concat-append}
pub use Rattle.column_order.proofs.Lists.{has_same}
pub use Rattle.pq_tree.proofs.Frontiers.{occurs-permutation, frontier_occurs, frontiers_occur}
use Rattle.std.proofs.Common.{◌≡◌, ℕ, List}
use Rattle.std.specs.List.{concat}
use Rattle.column_order.specs.Orders.{has}
use Rattle.pq_tree.specs.Outline.{Outline, Forest, leaves, leaves_of, IsFrontier, AreFrontiers}

pub frontier_has : (t : Outline) (f : List ℕ) (a : ℕ) → IsFrontier t f → has f a ≡ has (leaves t) a
frontier_has t f a h = has_same f (leaves t) a (frontier_occurs t f a h)

pub frontiers_have : (ts : Forest) (fs : List (List ℕ)) (a : ℕ) → AreFrontiers ts fs → has (concat fs) a ≡ has (leaves_of ts) a
frontiers_have ts fs a h = has_same (concat fs) (leaves_of ts) a (frontiers_occur ts fs a h)
