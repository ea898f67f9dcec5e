-- What the calls for which something is solved make of an instance. The count of steps goes from s to n.
use Rattle.std.specs.Prelude.{◌≡◌, ℕ, Result}
use Rattle.std.specs.declared.alloc.AllocError.{AllocError}
use Rattle.row_model.specs.Rows.{RowList}
use Rattle.row_model.specs.declared.kind.Kind.{Kind}
use Rattle.instance_model.specs.Instance.{plain, proper}
use Rattle.instance_model.specs.Value.{instance_value}
use Rattle.instance_model.specs.declared.instance.Instance.{Instance}
use Rattle.verdict_replies.specs.Verdicts.{IsVerdictReply}
use Rattle.verdict_replies.specs.declared.reply.Reply.{Reply}
use Rattle.solve_replies.specs.Cores.{IsCoreReply}
use Rattle.solve_replies.specs.Lists.{IsListReply}
use Rattle.solve_replies.specs.Models.{IsModelReply}
use Rattle.solve_replies.specs.Steps.{SolvesMatrixWithin, SolvesWithin, FindsCoreWithin}
use Rattle.pq_cli.specs.Over.{IsMade}

-- the verdict on it
abbrev pub MakesVerdict : Instance → ℕ → Result Reply AllocError → ℕ → Type 0
MakesVerdict i s made n =
    IsMade (λ reply. IsVerdictReply (instance_value i) reply.status reply.text.items) (λ status. SolvesWithin (instance_value i) status s n) made

-- a core of the matrix that it is, of a kind
abbrev pub MakesBlame : Kind → Instance → ℕ → Result Reply AllocError → ℕ → Type 0
MakesBlame kind i s made n =
    IsMade (λ reply. (m : RowList) × (instance_value i ≡ plain kind m) × IsCoreReply kind m reply.status reply.text.items)
    (λ status. (m : RowList) → instance_value i ≡ plain kind m → FindsCoreWithin m status s n) made

-- so many orders of the matrix that it is, of a kind
abbrev pub MakesList : Kind → ℕ → Instance → ℕ → Result Reply AllocError → ℕ → Type 0
MakesList kind count i s made n =
    IsMade (λ reply. (m : RowList) × (instance_value i ≡ plain kind m) × IsListReply kind m count reply.status reply.text.items)
    (λ status. (m : RowList) → instance_value i ≡ plain kind m → SolvesMatrixWithin m status s n) made

-- a unit model of the graph that it is
abbrev pub MakesModel : Instance → ℕ → Result Reply AllocError → ℕ → Type 0
MakesModel i s made n =
    IsMade (λ reply. (g : _) × (instance_value i ≡ proper g) × IsModelReply g reply.status reply.text.items) (λ status. SolvesWithin (instance_value i) status s n) made
