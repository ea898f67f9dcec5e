-- Ways through a search tree.
use Rattle.std.specs.Prelude.{◌≡◌, ◌⊎◌, ℕ, ◌%◌, Bool, not, Some, List, length, slice_get}
use Rattle.row_model.specs.declared.graph.Line.{Line}
use Rattle.row_model.specs.Cycles.{first_pair, LeadTo}
use Rattle.walk_search.specs.declared.forest.Node.{Node}
use Rattle.walk_search.specs.declared.forest.Forest.{Forest}
use Rattle.walk_search.specs.Search.{AreJoined}

-- the number is even and the two are alike, or it is odd and they are not
abbrev pub IsParity : ℕ → Bool → Bool → Type 0
IsParity n a b = ((n % 2 ≡ 0) × (a ≡ b)) ⊎ ((n % 2 ≡ 1) × (a ≡ not b))

-- lines that lead from a node of the last tree to another, in any graph that joins each node to its parent
pub record IsWay (forest : Forest) (from to : ℕ) (lines : List Line) : Type 0 where
  pub start : Node
  pub last : Node
  pub start_there : slice_get forest.nodes.items from ≡ Some start
  pub last_there : slice_get forest.nodes.items to ≡ Some last
  pub parity : IsParity (length lines) start.odd last.odd
  pub leads : (c : ℕ) (rows : List (List ℕ)) → AreJoined c rows forest.root forest.nodes.items → LeadTo c rows lines last.pair × (first_pair lines last.pair ≡ start.pair)
