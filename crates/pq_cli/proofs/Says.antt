-- What each command over the file of an instance replies, by what its call makes of the instance.
use Rattle.std.proofs.Common.{◌≡◌, ◌⊎◌, ◌∙◌, ℕ, List, [], ◌∷◌, sym, ap, subst}
use Rattle.std.specs.Prelude.{Result, Ok, Err, IfOk}
use Rattle.file_io.specs.Whole.{IsWhole}
use Rattle.file_io.specs.declared.reading.Whole.{Whole}
use Rattle.row_model.specs.declared.kind.Kind.{Kind}
use Rattle.row_model.specs.declared.refusal.Read.TheVariants as read
use Rattle.instance_model.specs.declared.instance.Instance.{Instance}
use Rattle.instance_model.specs.Instance.{InstanceValue}
use Rattle.instance_model.specs.Value.{instance_value}
use Rattle.command_input.specs.Words.{Command}
use Rattle.command_input.specs.Instances.{instance_of, ReadsInstance}
use Rattle.pq_cli.specs.Replies.{Replies}
use Rattle.verdict_replies.specs.declared.reply.Reply.{Reply}
use Rattle.solve_replies.specs.Steps.{SolvesWithin}
use Rattle.pq_cli.specs.Over.{RepliesWhere, IsMade, RepliesToInstance}
use Rattle.pq_cli.proofs.Bases.{value_else}

-- the instance that a file is read as, by another name
pub read_as : (kind : Kind) (bytes : List ℕ) (i : Instance) (v : InstanceValue) → ReadsInstance kind bytes (read.Ok i) → instance_value i ≡ v → instance_of kind bytes ≡ read.Ok v
read_as kind bytes i v made e = sym made ∙ ap read.Ok e

-- the instance that a file is read as is one
pub same_instance : (kind : Kind) (bytes : List ℕ) (i : Instance) (v : InstanceValue) → ReadsInstance kind bytes (read.Ok i) → instance_of kind bytes ≡ read.Ok v → instance_value i ≡ v
same_instance kind bytes i v made is = ap (value_else (instance_value i)) (made ∙ is)

-- what was solved is that instance
pub solves_it : (kind : Kind) (bytes : List ℕ) (i : Instance) (v : InstanceValue) (status s n : ℕ) → ReadsInstance kind bytes (read.Ok i) → instance_of kind bytes ≡ read.Ok v
    → SolvesWithin (instance_value i) status s n → SolvesWithin v status s n
solves_it kind bytes i v status s n made is within = subst (λ (w : InstanceValue). SolvesWithin w status s n) (same_instance kind bytes i v made is) within

-- what was made has the status of a reply, and Q holds of it
module _ {E : Type 0} (command : Command) (kind : Kind) (i : Instance) (Q : Reply → Type 0) where
  pub says_of_one : (made : Result Reply E) → IfOk made (λ reply. (reply.status ≡ 0) ⊎ (reply.status ≡ 1)) → IfOk made Q
      → ((reply : Reply) (bytes : List ℕ) → Q reply → ReadsInstance kind bytes (read.Ok i) → Replies command (bytes ∷ []) reply.status reply.text.items)
      → IfOk made (RepliesWhere command (λ files. (bytes : List ℕ) × (files ≡ bytes ∷ []) × ReadsInstance kind bytes (read.Ok i)))
  says_of_one (Ok reply) status holds says = record { status = status; says = λ files f. rw f.1 (says reply f.0 holds f.2) }
  says_of_one (Err e) status holds says = tt

  pub says_of_both : (limit : ℕ) (w : Whole) (made : Result Reply E) → IfOk made (λ reply. (reply.status ≡ 0) ⊎ (reply.status ≡ 1)) → IfOk made Q
      → ((reply : Reply) (bytes text : List ℕ) → Q reply → ReadsInstance kind bytes (read.Ok i) → IsWhole limit text w → Replies command (bytes ∷ text ∷ []) reply.status reply.text.items)
      → IfOk made (RepliesWhere command (λ files. (bytes : List ℕ) × (text : List ℕ) × (files ≡ bytes ∷ text ∷ []) × ReadsInstance kind bytes (read.Ok i) × IsWhole limit text w))
  says_of_both limit w (Ok reply) status holds says = record { status = status; says = λ files f. rw f.2 (says reply f.0 f.1 holds f.3 f.4) }
  says_of_both limit w (Err e) status holds says = tt

-- what a call makes of an instance, of which P holds, replies to a command over its file
pub says_made : {E : Type 0} (command : Command) (kind : Kind) (P : Instance → Reply → Type 0) (W : Instance → ℕ → ℕ → ℕ → Type 0)
    → ((i : Instance) (reply : Reply) (bytes : List ℕ) → P i reply → ReadsInstance kind bytes (read.Ok i) → Replies command (bytes ∷ []) reply.status reply.text.items)
    → RepliesToInstance {E = E} command kind (λ i s made n. IsMade (P i) (λ status. W i status s n) made)
says_made command kind P W says = λ i s made n held told. says_of_one command kind i (P i) made told.status told.reply (says i)
