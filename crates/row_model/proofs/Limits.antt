-- Files that are longer than the limit, and those that are not.
use Rattle.std.proofs.Common.{◌≡◌, ℕ, ◌<◌, ◌≤◌, List, length, refl}
use Rattle.std.proofs.lemmas.Bool.{lt-ltb, le-ltb}
use Rattle.row_model.specs.declared.TheConstants.{MAX_FILE_BYTES}
use Rattle.row_model.specs.declared.code.TheConstants.{LIMIT}
use Rattle.row_model.specs.declared.refusal.Read.{Read}
use Rattle.row_model.specs.declared.refusal.Read.TheVariants as read
use Rattle.row_model.specs.Limits.{within_length}

module _ {T : Type 0} (bytes : List ℕ) (inside : Read T) where
  pub too_long : MAX_FILE_BYTES < length bytes → within_length bytes inside ≡ read.Refused (record { code = LIMIT; line = 0 })
  too_long h = rw (lt-ltb MAX_FILE_BYTES (length bytes) h) refl

  pub short_enough : length bytes ≤ MAX_FILE_BYTES → within_length bytes inside ≡ inside
  short_enough h = rw (le-ltb MAX_FILE_BYTES (length bytes) h) refl
