-- What unit models say of the umbrella orders (Roberts, 1969), and what is said of their texts.
use Rattle.std.specs.Prelude.{◌≡◌, ◌≤◌, ℕ, List, length}
use Rattle.graph_model.specs.Graphs.{GraphValue, IsGraph}
use Rattle.proper_interval.specs.Umbrellas.{IsUmbrellaOrder}
use Rattle.unit_model.specs.Models.{IsUnitModel}
use Rattle.unit_model.specs.Rule.{AreLeftEnds}
use Rattle.unit_model.specs.Text.{UnitValue, IsUnit, unit_text}

-- a graph that has a unit model has an umbrella order
abbrev pub UnitLaw : Type 0
UnitLaw =
    (g : GraphValue) (m : ℕ) (lefts : List ℕ) →
    IsGraph g →
    IsUnitModel g m lefts →
    (o : List ℕ) × IsUmbrellaOrder g o

-- an umbrella order gives one list of left ends
abbrev pub OneRuleLaw : Type 0
OneRuleLaw =
    (g : GraphValue) (o lefts others : List ℕ) →
    IsGraph g →
    IsUmbrellaOrder g o →
    AreLeftEnds g o lefts →
    AreLeftEnds g o others →
    lefts ≡ others

-- no two unit models have one text
abbrev pub OneUnitLaw : Type 0
OneUnitLaw = (t u : UnitValue) → IsUnit t → IsUnit u → unit_text t ≡ unit_text u → t ≡ u

-- a text has at most 63544 bytes: 56, and 31 for each of at most 2048 vertices
abbrev pub TextLengthLaw : Type 0
TextLengthLaw = (t : UnitValue) → IsUnit t → length (unit_text t) ≤ 63544
