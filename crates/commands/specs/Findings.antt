-- What is found of the bytes of a unit model.
use Rattle.std.specs.Prelude.{◌≡◌, ◌≢◌, ℕ, ◌<◌, ◌≤◌, List, length, Option, Some, None, codes}
use Rattle.graph_model.specs.Graphs.{GraphValue}
use Rattle.unit_model.specs.Models.{IsUnitModel}
use Rattle.unit_model.specs.Text.{UnitValue, IsUnit, unit_text}
use Rattle.verdict_replies.specs.declared.TheConstants.{MAX_VERDICT_BYTES}
use Rattle.verdict_replies.specs.Units.{IsUnitOf}
use Rattle.commands.specs.Faults.{TellsFault}
use Rattle.commands.specs.declared.finding.Finding.{Finding}
use Rattle.commands.specs.declared.finding.Finding.TheVariants as finding

-- the bytes are within the limit, and the text of a unit model of which P holds
abbrev pub HasUnit : List ℕ → (UnitValue → Type 0) → Type 0
HasUnit bytes P = (length bytes ≤ MAX_VERDICT_BYTES) × ((t : UnitValue) × IsUnit t × (bytes ≡ unit_text t) × P t)

-- What is found of the bytes: they are the text of a unit model of the graph; or the first that keeps them from it: their
-- length, the grammar, the number of vertices, the length and the left ends.
abbrev pub IsFinding : GraphValue → List ℕ → Finding → Type 0
IsFinding g bytes finding.Valid = HasUnit bytes (IsUnitOf g)
IsFinding g bytes finding.TooLong = MAX_VERDICT_BYTES < length bytes
IsFinding g bytes finding.NoUnit = (length bytes ≤ MAX_VERDICT_BYTES) × ((t : UnitValue) → IsUnit t → bytes ≢ unit_text t)
IsFinding g bytes finding.Vertices = HasUnit bytes (λ t. t.vertices ≢ g.vertices)
IsFinding g bytes finding.Model = HasUnit bytes (λ t. (t.vertices ≡ g.vertices) × (IsUnitModel g t.size t.lefts → ⊥))

-- the words of what keeps the bytes from it, if anything does
abbrev pub finding_fault : Finding → Option (List ℕ)
finding_fault finding.Valid = None
finding_fault finding.TooLong = Some (codes "too-long")
finding_fault finding.NoUnit = Some (codes "text")
finding_fault finding.Vertices = Some (codes "vertices")
finding_fault finding.Model = Some (codes "model")

-- the status and the text tell what is found of the bytes
abbrev pub IsFindingReply : GraphValue → List ℕ → ℕ → List ℕ → Type 0
IsFindingReply g bytes status text = (found : Finding) × IsFinding g bytes found × TellsFault (finding_fault found) status text
