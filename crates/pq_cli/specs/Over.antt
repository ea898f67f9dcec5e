-- Commands over the file of an instance: the files that they name, and what their replies have to be.
use Rattle.std.specs.Prelude.{◌≡◌, ◌⊎◌, ℕ, ◌≤◌, List, [], ◌∷◌, Result, IfOk}
use Rattle.file_io.specs.Whole.{IsWhole}
use Rattle.row_model.specs.declared.kind.Kind.{Kind}
use Rattle.row_model.specs.declared.refusal.Read.TheVariants as read
use Rattle.instance_model.specs.declared.instance.Instance.{Instance}
use Rattle.command_input.specs.Words.{Command, files_of}
use Rattle.command_input.specs.Instances.{instance_of, ReadsInstance, IsInstanceOf}
use Rattle.pq_cli.specs.Replies.{refusable, refused_at, refusal_of, Replies}
use Rattle.verdict_replies.specs.declared.reply.Reply.{Reply}
use Rattle.solve_replies.specs.Steps.{made_status}
use Rattle.pq_cli.specs.declared.over.Both.{Both}

-- a command names these files, of which the first is that of an instance of this kind
pub record IsOverInstance (command : Command) (kind : Kind) (names : List (List ℕ)) : Type 0 where
  pub files : files_of command ≡ names
  pub may : 1 ≤ refusable command
  pub first : (bytes : List ℕ) → refusal_of command (bytes ∷ []) ≡ refused_at 1 (instance_of kind bytes)

-- a reply has the status of one, and is a reply to a command over the files of which P holds
pub record RepliesWhere (command : Command) (P : List (List ℕ) → Type 0) (reply : Reply) : Type 0 where
  pub status : (reply.status ≡ 0) ⊎ (reply.status ≡ 1)
  pub says : (files : List (List ℕ)) → P files → Replies command files reply.status reply.text.items

-- what a call makes of an instance: a reply of which P holds, with the status of one, in steps of which W holds at the status
pub record IsMade {E : Type 0} (P : Reply → Type 0) (W : ℕ → Type 0) (made : Result Reply E) : Type 0 where
  pub status : IfOk made (λ reply. (reply.status ≡ 0) ⊎ (reply.status ≡ 1))
  pub reply : IfOk made P
  pub steps : W (made_status (λ reply. reply.status) made)

-- what a call makes of an instance is a reply to a command over the file of the instance
abbrev pub RepliesToInstance : {E : Type 0} → Command → Kind → (Instance → ℕ → Result Reply E → ℕ → Type 0) → Type 0
RepliesToInstance command kind makes =
    (i : Instance) (s : ℕ) (made : _) (n : ℕ) → IsInstanceOf kind i → makes i s made n
    → IfOk made (RepliesWhere command (λ files. (bytes : List ℕ) × (files ≡ bytes ∷ []) × ReadsInstance kind bytes (read.Ok i)))

-- what a call makes of an instance and a text of this limit is a reply to a command over the files of both
abbrev pub RepliesToBoth : {E : Type 0} → Command → Kind → ℕ → (Both → Result Reply E → Type 0) → Type 0
RepliesToBoth command kind limit makes =
    (both : Both) (made : _) → IsInstanceOf kind both.instance → makes both made
    → IfOk made (RepliesWhere command (λ files.
    (bytes : List ℕ) × (text : List ℕ) × (files ≡ bytes ∷ text ∷ []) × ReadsInstance kind bytes (read.Ok both.instance) × IsWhole limit text both.text))
