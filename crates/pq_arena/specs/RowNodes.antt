-- Lists of nodes, and the leaves of a row.
use Rattle.std.specs.Prelude.{ℕ, List, map}
use Rattle.pq_arena.specs.declared.node.NodeId.{NodeId}
pub use Rattle.arena_model.specs.RowLeaves.{column_leaves}

-- the numbers of nodes
abbrev pub indices : List NodeId → List ℕ
indices ns = map (λ n. n.index) ns
