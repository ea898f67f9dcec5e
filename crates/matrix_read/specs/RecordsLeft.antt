-- The records that csv has still to read.
use Rattle.std.specs.Prelude.{◌≡◌, ℕ, ◌+◌, List, [], length, true, Option, Some, None, IsSome}
use Rattle.std.specs.Borrow.{Bor}
use Rattle.csv.specs.Reading.{Ready, default_config, is_flexible, reader_config, reader_state, reader_trim, records_from, source_of}
use Rattle.csv.specs.declared.parser.State.{State}
use Rattle.csv.specs.declared.reader.Reader.{Reader}
use Rattle.csv.specs.declared.reader.Trim.TheVariants as trim

-- the bytes that a reader of a slice has still to read
abbrev pub bytes_left : Reader (Bor (List ℕ)) → Option (List ℕ)
bytes_left reader = source_of (λ (s : Bor (List ℕ)). Some s.now) reader

-- the records of bytes from a state on
abbrev pub records_of : State → Option (List ℕ) → List (List (List ℕ))
records_of state None = []
records_of state (Some bytes) = records_from default_config (length bytes + 1) state bytes

-- the records that a reader has still to read
unfoldable pub records_left : Reader (Bor (List ℕ)) → List (List (List ℕ))
records_left reader = records_of (reader_state reader) (bytes_left reader)

-- a reader of commas and double quotes, the next read of which gives the next record as it is, however many fields that
-- has
pub record IsPlain (reader : Reader (Bor (List ℕ))) : Type 0 where
  pub trim : reader_trim reader ≡ trim.None
  pub flexible : is_flexible reader ≡ true
  pub config : reader_config reader ≡ default_config
  pub ready : Ready reader
  pub known : IsSome (bytes_left reader)
