-- The unit model of a graph.
use Rattle.std.specs.Prelude.{◌≡◌}
use Rattle.graph_model.specs.Graphs.{GraphValue}
use Rattle.unit_model.specs.Models.{IsUnitModel}
use Rattle.unit_model.specs.Text.{UnitValue}

-- a unit model as a text has it is one of the graph
abbrev pub IsUnitOf : GraphValue → UnitValue → Type 0
IsUnitOf g t = (t.vertices ≡ g.vertices) × IsUnitModel g t.size t.lefts
