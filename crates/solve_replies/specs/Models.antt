-- The unit model of a graph, and the reply that tells it.
use Rattle.std.specs.Prelude.{◌≡◌, ℕ, List, slice_get, IsSomeAnd}
use Rattle.graph_model.specs.Graphs.{GraphValue}
use Rattle.unit_model.specs.Models.{IsUnitModel}
use Rattle.unit_model.specs.Rule.{AreLeftEnds}
use Rattle.unit_model.specs.Text.{UnitValue, IsUnit, unit_text}
use Rattle.verdict_text.specs.Verdict.{Claim, yes_claim, no_claim, VerdictValue}
use Rattle.verdict_text.specs.Grammar.{AreColumnCounts}
use Rattle.verdict_text.specs.Text.{verdict_text}
use Rattle.instance_model.specs.Instance.{proper}
use Rattle.verdict_replies.specs.Units.{IsUnitOf}
use Rattle.verdict_replies.specs.Verdicts.{IsVerdictOf}

-- the graph has a unit model
abbrev pub HasUnitModel : GraphValue → Type 0
HasUnitModel g = (length : ℕ) × (lefts : List ℕ) × IsUnitModel g length lefts

-- the text is that of a unit model of the graph
abbrev pub TellsUnit : GraphValue → List ℕ → Type 0
TellsUnit g text = (t : UnitValue) × IsUnit t × (text ≡ unit_text t) × IsUnitOf g t

-- the unit model that an order gives: its left ends go by the rule, and its length is the number of vertices
pub record IsModelOf (g : GraphValue) (order : List ℕ) (t : UnitValue) : Type 0 where
  pub vertices : t.vertices ≡ g.vertices
  pub size : t.size ≡ g.vertices
  pub rule : AreLeftEnds g order t.lefts
  pub model : IsUnitModel g t.size t.lefts
  pub grammar : IsUnit t

-- the text is that of the unit model that an order gives
abbrev pub TellsModel : GraphValue → List ℕ → List ℕ → Type 0
TellsModel g order text = (t : UnitValue) × IsModelOf g order t × (text ≡ unit_text t)

-- yes: the unit model that the order of the verdict gives, with status 0; no: the verdict itself, with status 1
abbrev pub TellsByClaim : GraphValue → VerdictValue → Claim → ℕ → List ℕ → Type 0
TellsByClaim g verdict (yes_claim value) status text = (status ≡ 0) × IsSomeAnd (slice_get value.sides 0) (λ side. TellsModel g side.order text)
TellsByClaim g verdict (no_claim s lines) status text = (status ≡ 1) × (text ≡ verdict_text verdict)

-- the status and the text go by the verdict that `solve` finds on the graph
pub record IsModelReply (g : GraphValue) (status : ℕ) (text : List ℕ) : Type 0 where
  pub verdict : VerdictValue
  pub counts : AreColumnCounts verdict.columns
  pub holds : IsVerdictOf (proper g) verdict
  pub tells : TellsByClaim g verdict verdict.claim status text
