-- What a command replies for the bytes of its files.
use Rattle.std.specs.Prelude.{◌≡◌, ℕ, List, [], ◌∷◌, Option, Some, None}
use Rattle.row_model.specs.Rows.{RowList}
use Rattle.row_model.specs.declared.refusal.Refusal.{Refusal}
use Rattle.row_model.specs.declared.refusal.Read.{Read}
use Rattle.row_model.specs.declared.refusal.Read.TheVariants as read
use Rattle.matrix_read.specs.Sparse.{further}
use Rattle.instance_model.specs.Instance.{InstanceValue, plain, derived_matrix, proper}
use Rattle.command_input.specs.Words.{Command, Solve, Check, Extend, Gen, Meet, ListOrders, UnitModel, CheckUnit, Core, CheckCore}
use Rattle.row_model.specs.declared.kind.Kind.TheVariants.{Proper}
use Rattle.graph_model.specs.Graphs.{GraphValue}
use Rattle.command_input.specs.Instances.{instance_of}
use Rattle.verdict_replies.specs.Verdicts.{IsVerdictReply}
use Rattle.commands.specs.Judgements.{IsJudgementReply}
use Rattle.solve_replies.specs.Sessions.{IsExtensionReply}
use Rattle.solve_replies.specs.Cores.{IsCoreReply}
use Rattle.commands.specs.CoreJudgements.{IsCoreJudgementReply}
use Rattle.solve_replies.specs.Summaries.{IsSummary}
use Rattle.pq_tree.specs.Outline.{Outline}
use Rattle.command_input.specs.TreeFiles.{tree_file}
use Rattle.commands.specs.Meetings.{IsMeetingReply}
use Rattle.solve_replies.specs.Lists.{IsListReply}
use Rattle.solve_replies.specs.Models.{IsModelReply}
use Rattle.commands.specs.Findings.{IsFindingReply}

-- how many of a command's files, the first ones, may be refused: the file of a verdict, of a core or of a unit model is
-- judged, and never refused
abbrev pub refusable : Command → ℕ
refusable (Gen _ _ _) = 0
refusable (Extend _ _ _) = 2
refusable (Meet _ _ _) = 2
refusable other = 1

-- the refusal of the file of this number, if it is refused
abbrev pub refused_at : {T : Type 0} → ℕ → Read T → Option (ℕ × Refusal)
refused_at which (read.Ok _) = None
refused_at which (read.Refused refusal) = Some (which, refusal)

-- the refusal of the first of two files; or, where the first holds a value, that of the second, whose reading may rest on
-- this value
abbrev pub refused_of_two : {T U : Type 0} → Read T → (T → Read U) → Option (ℕ × Refusal)
refused_of_two (read.Refused refusal) second = Some (1, refusal)
refused_of_two (read.Ok value) second = refused_at 2 (second value)

-- which of a command's files is refused, counted from 1, and its first refusal, given the bytes of the first files
abbrev pub refusal_of : Command → List (List ℕ) → Option (ℕ × Refusal)
refusal_of command [] = None
refusal_of (Solve kind _) (bytes ∷ _) = refused_at 1 (instance_of kind bytes)
refusal_of (Check kind _ _) (bytes ∷ _) = refused_at 1 (instance_of kind bytes)
refusal_of (Extend kind _ _) (bytes ∷ []) = refused_at 1 (instance_of kind bytes)
refusal_of (Extend kind _ _) (bytes ∷ given ∷ _) = refused_of_two (instance_of kind bytes) (λ i. further (derived_matrix i 1).columns given)
refusal_of (Core kind _) (bytes ∷ _) = refused_at 1 (instance_of kind bytes)
refusal_of (CheckCore kind _ _) (bytes ∷ _) = refused_at 1 (instance_of kind bytes)
refusal_of (Gen _ _ _) (_ ∷ _) = None
refusal_of (Meet c _ _) (first ∷ []) = refused_at 1 (tree_file c first)
refusal_of (Meet c _ _) (first ∷ second ∷ _) = refused_of_two (tree_file c first) (λ _. tree_file c second)
refusal_of (ListOrders kind _ _) (bytes ∷ _) = refused_at 1 (instance_of kind bytes)
refusal_of (UnitModel _) (bytes ∷ _) = refused_at 1 (instance_of Proper bytes)
refusal_of (CheckUnit _ _) (bytes ∷ _) = refused_at 1 (instance_of Proper bytes)

-- A status and a text are a reply to a command over files of these bytes: no file is refused, and what the text says is
-- true.
unfoldable pub Replies : Command → List (List ℕ) → ℕ → List ℕ → Type 0
Replies (Solve kind _) (bytes ∷ []) status text = (i : InstanceValue) × (instance_of kind bytes ≡ read.Ok i) × IsVerdictReply i status text
Replies (Check kind _ _) (bytes ∷ verdict ∷ []) status text = (i : InstanceValue) × (instance_of kind bytes ≡ read.Ok i) × IsJudgementReply i verdict status text
Replies (Extend kind _ _) (bytes ∷ given ∷ []) status text =
    (m : RowList) × (n : RowList) × (instance_of kind bytes ≡ read.Ok (plain kind m)) × (further m.columns given ≡ read.Ok n) × IsExtensionReply kind m n.rows status text
Replies (Core kind _) (bytes ∷ []) status text = (m : RowList) × (instance_of kind bytes ≡ read.Ok (plain kind m)) × IsCoreReply kind m status text
Replies (CheckCore kind _ _) (bytes ∷ given ∷ []) status text = (m : RowList) × (instance_of kind bytes ≡ read.Ok (plain kind m)) × IsCoreJudgementReply kind m given status text
Replies (Gen seed columns rows) [] status text = (status ≡ 0) × IsSummary seed columns rows text
Replies (Meet c _ _) (first ∷ second ∷ []) status text =
    (t : Outline) × (u : Outline) × (tree_file c first ≡ read.Ok t) × (tree_file c second ≡ read.Ok u) × IsMeetingReply c t u status text
Replies (ListOrders kind _ count) (bytes ∷ []) status text = (m : RowList) × (instance_of kind bytes ≡ read.Ok (plain kind m)) × IsListReply kind m count status text
Replies (UnitModel _) (bytes ∷ []) status text = (g : GraphValue) × (instance_of Proper bytes ≡ read.Ok (proper g)) × IsModelReply g status text
Replies (CheckUnit _ _) (bytes ∷ unit ∷ []) status text = (g : GraphValue) × (instance_of Proper bytes ≡ read.Ok (proper g)) × IsFindingReply g unit status text
Replies command files status text = ⊥
