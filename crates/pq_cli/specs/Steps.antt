-- What the steps of a run come to. The count goes from s to n.
use Rattle.std.specs.Prelude.{◌≡◌, ◌≢◌, ◌⊎◌, ℕ, List, [], ◌∷◌, None, Result}
use Rattle.row_model.specs.Rows.{RowList}
use Rattle.row_model.specs.declared.kind.Kind.{Kind}
use Rattle.row_model.specs.declared.kind.Kind.TheVariants.{Proper}
use Rattle.row_model.specs.declared.refusal.Read.TheVariants as read
use Rattle.file_io.specs.Taken.{Taken}
use Rattle.pq_tree.specs.Outline.{Outline}
use Rattle.matrix_read.specs.Sparse.{further}
use Rattle.instance_model.specs.Instance.{InstanceValue, plain}
use Rattle.instance_model.specs.declared.instance.Instance.{Instance}
use Rattle.command_input.specs.Words.{Command, Solve, Extend, Core, Gen, Meet, ListOrders, UnitModel}
use Rattle.command_input.specs.Instances.{instance_of, ReadsInstance, IsInstanceOf}
use Rattle.command_input.specs.TreeFiles.{tree_file}
use Rattle.tree_meet.specs.Meets.{joint_matrix}
use Rattle.verdict_replies.specs.declared.reply.Reply.{Reply}
use Rattle.solve_replies.specs.Generated.{generated}
use Rattle.solve_replies.specs.Steps.{made_status, SolvesMatrixWithin, SolvesWithin, FindsCoreWithin, MeetsWithin}
use Rattle.solve_replies.specs.Charges.{ExtendsWithin}
use Rattle.pq_cli.specs.Replies.{refusal_of}
use Rattle.pq_cli.specs.Runs.{OfTaken, taken_since}
use Rattle.pq_cli.specs.Stops.{reply_status}
use Rattle.pq_cli.specs.declared.stop.Stop.{Stop}

-- What the steps of a command over these files come to, by the status, where none of them is refused. `check`, `check-core` and
-- `check-unit`, which solve nothing, take none.
abbrev pub StepsOn : Command → List (List ℕ) → ℕ → ℕ → ℕ → Type 0
StepsOn (Solve kind _) (bytes ∷ []) status s n = (i : InstanceValue) → instance_of kind bytes ≡ read.Ok i → SolvesWithin i status s n
StepsOn (UnitModel _) (bytes ∷ []) status s n = (i : InstanceValue) → instance_of Proper bytes ≡ read.Ok i → SolvesWithin i status s n
StepsOn (ListOrders kind _ _) (bytes ∷ []) status s n = (m : RowList) → instance_of kind bytes ≡ read.Ok (plain kind m) → SolvesMatrixWithin m status s n
StepsOn (Gen seed c rows) [] status s n = SolvesMatrixWithin (generated seed c rows) status s n
StepsOn (Extend kind _ _) (bytes ∷ given ∷ []) status s n =
    (m more : RowList) → instance_of kind bytes ≡ read.Ok (plain kind m) → further m.columns given ≡ read.Ok more → ExtendsWithin m more.rows status s n
StepsOn (Core kind _) (bytes ∷ []) status s n = (m : RowList) → instance_of kind bytes ≡ read.Ok (plain kind m) → FindsCoreWithin m status s n
StepsOn (Meet c _ _) (first ∷ second ∷ []) status s n =
    (t u : Outline) → tree_file c first ≡ read.Ok t → tree_file c second ≡ read.Ok u → MeetsWithin (joint_matrix c t u) status s n
StepsOn command files status s n = n ≡ s

-- What the steps of a run of a command come to, of which these files were taken and this is the status. None is taken where a file can't be
-- read, nor where a file is refused, whatever the status.
pub record CountsSteps (command : Command) (ts : List Taken) (status s n : ℕ) : Type 0 where
  pub none : (status ≡ 3) ⊎ (status ≡ 4) → n ≡ s
  pub refused : OfTaken ts (λ files. refusal_of command files ≢ None → n ≡ s)
  pub steps : OfTaken ts (λ files. StepsOn command files status s n)

-- the same of a command that ran up to its reply
abbrev pub CountsReply : {S : Type 0} → (S → List Taken) → S → S → Command → Result Reply Stop → ℕ → ℕ → Type 0
CountsReply taken old new command result s n = CountsSteps command (taken_since (taken old) (taken new)) (reply_status result) s n

-- what a call that makes something of an instance takes in steps is what the steps of a command over the file of the instance come to
abbrev pub CountsOnInstance : {E : Type 0} → Command → Kind → (Instance → ℕ → Result Reply E → ℕ → Type 0) → Type 0
CountsOnInstance command kind makes =
    (i : Instance) (s : ℕ) (made : _) (n : ℕ) → IsInstanceOf kind i → makes i s made n
    → (bytes : List ℕ) → ReadsInstance kind bytes (read.Ok i) → StepsOn command (bytes ∷ []) (made_status (λ reply. reply.status) made) s n
