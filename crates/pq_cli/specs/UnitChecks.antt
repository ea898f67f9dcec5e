-- What a check of a unit model accepts.
use Rattle.std.specs.Prelude.{◌≡◌, ◌↔◌, ℕ, List, [], ◌∷◌, codes}
use Rattle.row_model.specs.declared.kind.Kind.TheVariants.{Proper}
use Rattle.row_model.specs.declared.refusal.Read.TheVariants as read
use Rattle.graph_model.specs.Graphs.{GraphValue}
use Rattle.instance_model.specs.Instance.{proper}
use Rattle.command_input.specs.Words.{UnitModel, CheckUnit}
use Rattle.command_input.specs.Instances.{instance_of}
use Rattle.verdict_replies.specs.Units.{IsUnitOf}
use Rattle.commands.specs.Findings.{HasUnit}
use Rattle.pq_cli.specs.Replies.{Replies}

-- a check ends with status 0 exactly where the bytes are the text of a unit model of the graph, within the limit of
-- bytes
abbrev pub UnitCheckLaw : Type 0
UnitCheckLaw =
    (file unit bytes given text : List ℕ) (status : ℕ) (g : GraphValue) →
    instance_of Proper bytes ≡ read.Ok (proper g) →
    Replies (CheckUnit file unit) (bytes ∷ given ∷ []) status text →
    (status ≡ 0) ↔ HasUnit given (IsUnitOf g)

-- a check finds valid what `unit` wrote with status 0 on the same bytes
abbrev pub UnitAgreedLaw : Type 0
UnitAgreedLaw =
    (file other unit bytes given text : List ℕ) (status : ℕ) →
    Replies (UnitModel other) (bytes ∷ []) 0 given →
    Replies (CheckUnit file unit) (bytes ∷ given ∷ []) status text →
    (status ≡ 0) × (text ≡ codes "valid\n")
