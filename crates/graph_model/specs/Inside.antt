-- How the types keep their values.
use Rattle.std.specs.Prelude.{length}
use Rattle.graph_model.specs.Graphs.{BigraphValue, IsBigraph, GraphValue, IsGraph}
use Rattle.graph_model.specs.Distances.{DistancesValue, IsDistances}
use Rattle.graph_model.specs.declared.bigraph.Bigraph.TheInside as bigraph
use Rattle.graph_model.specs.declared.graph.Graph.TheInside as graph
use Rattle.graph_model.specs.declared.distances.Distances.TheInside as distances

-- the bipartite graph that is kept as the rows of a matrix
abbrev pub bigraph_of : bigraph.Inside → BigraphValue
bigraph_of g = record { left = length g.lists.rows; right = g.lists.columns; neighbours = g.lists.rows }

-- the graph that is kept as the rows of a matrix
abbrev pub graph_of : graph.Inside → GraphValue
graph_of g = record { vertices = g.lists.columns; neighbours = g.lists.rows }

-- the table of distances that is kept as its values
abbrev pub distances_of : distances.Inside → DistancesValue
distances_of d = record { items = d.item_count; values = d.values.items }

-- what is kept is always a bipartite graph
abbrev pub BigraphIsKept : bigraph.Inside → Type 0
BigraphIsKept g = IsBigraph (bigraph_of g)

-- what is kept is always a graph
abbrev pub GraphIsKept : graph.Inside → Type 0
GraphIsKept g = IsGraph (graph_of g)

-- what is kept is always a table of distances
abbrev pub DistancesAreKept : distances.Inside → Type 0
DistancesAreKept d = IsDistances (distances_of d)
