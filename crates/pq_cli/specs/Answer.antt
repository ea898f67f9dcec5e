-- What the status of a reply answers.
use Rattle.std.specs.Prelude.{◌≡◌, ◌↔◌, ℕ, List, [], ◌∷◌}
use Rattle.column_order.specs.Orders.{HasValidOrder}
use Rattle.row_model.specs.Rows.{RowList}
use Rattle.row_model.specs.declared.kind.Kind.TheVariants.{Proper}
use Rattle.row_model.specs.declared.refusal.Read.TheVariants as read
use Rattle.graph_model.specs.Graphs.{GraphValue}
use Rattle.pq_tree.specs.Outline.{Outline}
use Rattle.verdict_text.specs.Grammar.{IsVerdict}
use Rattle.verdict_text.specs.Text.{verdict_text}
use Rattle.verdict_text.specs.Verdict.{VerdictValue}
use Rattle.instance_model.specs.Instance.{InstanceValue, plain, proper, HasTextbookOrder}
use Rattle.verdict_judge.specs.Truth.{IsTrueVerdict}
use Rattle.tree_meet.specs.Meets.{IsCommon}
use Rattle.command_input.specs.Words.{Command, Solve, Check, Extend, Gen, Meet, ListOrders, UnitModel, CheckUnit, Core, CheckCore}
use Rattle.command_input.specs.Instances.{instance_of}
use Rattle.command_input.specs.TreeFiles.{tree_file}
use Rattle.verdict_replies.specs.Units.{IsUnitOf}
use Rattle.commands.specs.Findings.{HasUnit}
use Rattle.solve_replies.specs.Models.{HasUnitModel}
use Rattle.pq_cli.specs.Core.{NamesCore}
use Rattle.pq_cli.specs.Replies.{Replies}

-- What a status 0 or 1 answers, for what is in the files of the command. `solve`, `extend` and `list` end with 0 exactly where
-- there is an order, `core` with 1, `unit` with 0 exactly where there is a unit model, and `meet` where the trees share an
-- order; a check ends with 0 only on what is true.
abbrev pub IsAnswer : Command → List (List ℕ) → ℕ → Type 0
IsAnswer (Solve kind _) (bytes ∷ []) status = (i : InstanceValue) × (instance_of kind bytes ≡ read.Ok i) × ((status ≡ 0) ↔ HasTextbookOrder i)
IsAnswer (Check kind _ _) (bytes ∷ given ∷ []) status =
    (i : InstanceValue) × (instance_of kind bytes ≡ read.Ok i) × (status ≡ 0 → (v : VerdictValue) × IsVerdict v × (given ≡ verdict_text v) × IsTrueVerdict i v)
IsAnswer (Extend kind _ _) (bytes ∷ _ ∷ []) status = (m : RowList) × (instance_of kind bytes ≡ read.Ok (plain kind m)) × ((status ≡ 0) ↔ HasValidOrder m.columns m.rows)
IsAnswer (Core kind _) (bytes ∷ []) status = (m : RowList) × (instance_of kind bytes ≡ read.Ok (plain kind m)) × ((status ≡ 1) ↔ HasValidOrder m.columns m.rows)
IsAnswer (CheckCore kind _ _) (bytes ∷ given ∷ []) status = (m : RowList) × (instance_of kind bytes ≡ read.Ok (plain kind m)) × (status ≡ 0 → NamesCore m given)
IsAnswer (Gen _ _ _) [] status = status ≡ 0
IsAnswer (Meet c _ _) (first ∷ second ∷ []) status =
    (t : Outline) × (u : Outline) × (tree_file c first ≡ read.Ok t) × (tree_file c second ≡ read.Ok u) × ((status ≡ 0) ↔ ((o : List ℕ) × IsCommon t u o))
IsAnswer (ListOrders kind _ _) (bytes ∷ []) status = (m : RowList) × (instance_of kind bytes ≡ read.Ok (plain kind m)) × ((status ≡ 0) ↔ HasValidOrder m.columns m.rows)
IsAnswer (UnitModel _) (bytes ∷ []) status = (g : GraphValue) × (instance_of Proper bytes ≡ read.Ok (proper g)) × ((status ≡ 0) ↔ HasUnitModel g)
IsAnswer (CheckUnit _ _) (bytes ∷ given ∷ []) status = (g : GraphValue) × (instance_of Proper bytes ≡ read.Ok (proper g)) × ((status ≡ 0) ↔ HasUnit given (IsUnitOf g))
IsAnswer command files status = ⊥

-- the status of each reply is such an answer
abbrev pub AnswerLaw : Type 0
AnswerLaw = (command : Command) (files : List (List ℕ)) (status : ℕ) (text : List ℕ) → Replies command files status text → IsAnswer command files status
