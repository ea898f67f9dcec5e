-- What is read of the file of an instance.
use Rattle.std.proofs.Common.{◌≡◌, ◌∙◌, List, ℕ, sym}
use Rattle.row_model.specs.declared.kind.Kind.{Kind}
use Rattle.row_model.specs.declared.refusal.Read.TheVariants as read
use Rattle.instance_model.specs.Instance.{InstanceValue}
use Rattle.command_input.specs.Instances.{instance_of}

same_value : (i j : InstanceValue) → read.Ok i ≡ read.Ok j → i ≡ j
same_value i j e = cc

-- bytes have one reading
pub same_read : (kind : Kind) (bytes : List ℕ) (i j : InstanceValue) → instance_of kind bytes ≡ read.Ok i → instance_of kind bytes ≡ read.Ok j → j ≡ i
same_read kind bytes i j e f = same_value j i (sym f ∙ e)
