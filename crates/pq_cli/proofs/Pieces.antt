-- An instance whose file was read in pieces.
use Rattle.std.proofs.Common.{◌≡◌, ◌≤◌, ℕ, List, length, Option, Some, None, unwrap_or, sym, ◌∙◌}
use Rattle.row_model.specs.declared.kind.Kind.{Kind}
use Rattle.row_model.specs.declared.TheConstants.{MAX_FILE_BYTES}
use Rattle.row_model.specs.declared.code.TheConstants.{LIMIT}
use Rattle.row_model.specs.declared.refusal.Read.{Read}
use Rattle.row_model.specs.declared.refusal.Read.TheVariants as read
use Rattle.instance_model.specs.Value.{instance_value}
use Rattle.instance_model.specs.declared.instance.Instance.{Instance}
use Rattle.command_input.specs.Instances.{instance_of, map_read, LongLaw, ReadsInstance}
use Rattle.command_input.specs.InstancePieces.{instance_with}
use Rattle.command_input.specs.declared.instance_reader.InstanceReader.{InstanceReader}
use Rattle.pq_cli.specs.Reading.{IsMadeWithin}

-- what was made in pieces, or that there were too many bytes, is what is read of the whole
pub pieces_read : (kind : Kind) (reader : InstanceReader) → ((bytes : List ℕ) → length bytes ≤ MAX_FILE_BYTES → instance_with reader bytes ≡ instance_of kind bytes) → LongLaw → (made : Option (Read Instance))
    → (bytes : List ℕ) → IsMadeWithin MAX_FILE_BYTES (λ text made. map_read instance_value made ≡ instance_with reader text) bytes made
    → ReadsInstance kind bytes (unwrap_or made (read.Refused (record { code = LIMIT; line = 0 })))
pieces_read kind reader fits long (Some made) bytes h = h.1 ∙ fits bytes h.0
pieces_read kind reader fits long None bytes h = sym (long kind bytes h)
