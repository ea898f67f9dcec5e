-- What a reader answers for a file within the limit of its length.
use Rattle.std.specs.Prelude.{ℕ, List, length, if◌then◌else◌, nat_lt}
use Rattle.row_model.specs.declared.TheConstants.{MAX_FILE_BYTES}
use Rattle.row_model.specs.declared.code.TheConstants.{LIMIT}
use Rattle.row_model.specs.declared.refusal.Read.{Read}
use Rattle.row_model.specs.declared.refusal.Read.TheVariants as read

-- what a file within the limit of its length gives, or the refusal of a longer one
abbrev pub within_length : {T : Type 0} → List ℕ → Read T → Read T
within_length bytes inside = if nat_lt MAX_FILE_BYTES (length bytes) then read.Refused (record { code = LIMIT; line = 0 }) else inside
