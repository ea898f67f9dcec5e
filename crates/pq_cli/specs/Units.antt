-- What a reply to `unit` says.
use Rattle.std.specs.Prelude.{◌≡◌, ◌↔◌, ℕ, List, [], ◌∷◌}
use Rattle.row_model.specs.declared.kind.Kind.TheVariants.{Proper}
use Rattle.row_model.specs.declared.refusal.Read.TheVariants as read
use Rattle.graph_model.specs.Graphs.{GraphValue}
use Rattle.instance_model.specs.Instance.{proper}
use Rattle.command_input.specs.Words.{Solve, UnitModel}
use Rattle.command_input.specs.Instances.{instance_of}
use Rattle.solve_replies.specs.Models.{HasUnitModel, TellsUnit}
use Rattle.pq_cli.specs.Replies.{Replies}

-- the status of a reply is 0 exactly where the graph in the file has a unit model, and else 1
abbrev pub UnitStatusLaw : Type 0
UnitStatusLaw =
    (file bytes text : List ℕ) (status : ℕ) (g : GraphValue) →
    instance_of Proper bytes ≡ read.Ok (proper g) →
    Replies (UnitModel file) (bytes ∷ []) status text →
    ((status ≡ 0) ↔ HasUnitModel g) × ((status ≡ 1) ↔ (HasUnitModel g → ⊥))

-- a reply with status 0 is the text of a unit model of the graph
abbrev pub PrintedUnitLaw : Type 0
PrintedUnitLaw =
    (file bytes text : List ℕ) (g : GraphValue) →
    instance_of Proper bytes ≡ read.Ok (proper g) →
    Replies (UnitModel file) (bytes ∷ []) 0 text →
    TellsUnit g text

-- a reply with status 1 is one of `solve`, which shows that no umbrella order exists
abbrev pub NoUnitLaw : Type 0
NoUnitLaw = (file other bytes text : List ℕ) → Replies (UnitModel file) (bytes ∷ []) 1 text → Replies (Solve Proper other) (bytes ∷ []) 1 text
