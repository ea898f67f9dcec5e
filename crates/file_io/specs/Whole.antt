-- What the reading of a whole file gives.
use Rattle.std.specs.Prelude.{◌≡◌, ⊤, ℕ, ◌<◌, ◌≤◌, Bool, true, false, List, length, vec_len, Option, Result, Ok, Err, IfOk}
use Rattle.std.specs.Io.KnownBytes.{Consumes, IsAtEnd}
use Rattle.file_io.specs.Faults.{Rose}
use Rattle.file_io.specs.Taken.{Taken, handed_out}
use Rattle.file_io.specs.declared.reading.Whole.{Whole}
use Rattle.file_io.specs.declared.reading.Whole.TheVariants as whole
use Rattle.file_io.specs.declared.error.ReadFail.{ReadFail}
use Rattle.file_io.specs.declared.error.ReadFail.TheVariants as fail

-- what was read, where these bytes were left of the chosen file: all of them, or that they are more than the limit
abbrev pub IsWhole : ℕ → List ℕ → Whole → Type 0
IsWhole limit bytes (whole.Bytes read) = (read.items ≡ bytes) × (length bytes ≤ limit)
IsWhole limit bytes whole.TooLong = limit < length bytes

-- no more bytes than the limit are given
abbrev pub IsAtMost : ℕ → Whole → Type 0
IsAtMost limit (whole.Bytes read) = vec_len read ≤ limit
IsAtMost limit whole.TooLong = ⊤

-- where all bytes are given, none is left
abbrev pub LeavesNone : Option (List ℕ) → Whole → Type 0
LeavesNone left (whole.Bytes read) = IsAtEnd left
LeavesNone left whole.TooLong = ⊤

-- `Fault` comes only where the count rose
abbrev pub FaultsOnlyIfRose : {T : Type 0} → ℕ → ℕ → Result T ReadFail → Type 0
FaultsOnlyIfRose before now (Ok _) = ⊤
FaultsOnlyIfRose before now (Err fail.Fault) = Rose before now
FaultsOnlyIfRose before now (Err fail.NoMemory) = ⊤

-- the count changed only where the answer is `Fault`
abbrev pub ChangedOnlyIfFault : {T : Type 0} → ℕ → ℕ → Result T ReadFail → Type 0
ChangedOnlyIfFault before now (Ok _) = now ≡ before
ChangedOnlyIfFault before now (Err fail.Fault) = ⊤
ChangedOnlyIfFault before now (Err fail.NoMemory) = now ≡ before

-- the count never falls, and `Fault` comes only where it rose
pub record HasReadCause {T : Type 0} (before now : ℕ) (result : Result T ReadFail) : Type 0 where
  pub later : before ≤ now
  pub failed : FaultsOnlyIfRose before now result

-- what was read is what was handed out: all of it up to the end, or that it is more than the limit
abbrev pub IsHandedOut : ℕ → List ℕ → Bool → Whole → Type 0
IsHandedOut limit piece ended (whole.Bytes read) = (read.items ≡ piece) × (ended ≡ true)
IsHandedOut limit piece ended whole.TooLong = limit < length piece

-- reads handed out this piece of the last file, and came to its end where `ended`
pub record HandsOutPart (left_old left_new : Option (List ℕ)) (old new : List Taken) (piece : List ℕ) (ended : Bool) : Type 0 where
  pub taken : new ≡ handed_out piece ended old
  pub consumed : Consumes left_old left_new piece
  pub end : ended ≡ true → IsAtEnd left_new

-- a read failed before the end was seen, and before more than the limit had come
abbrev pub FailsWithin : {T : Type 0} → ℕ → List ℕ → Bool → Result T ReadFail → Type 0
FailsWithin limit piece ended (Ok _) = ⊤
FailsWithin limit piece ended (Err fail.Fault) = (length piece ≤ limit) × (ended ≡ false)
FailsWithin limit piece ended (Err fail.NoMemory) = ⊤

-- the reads of a whole file handed out what was read of it, or some bytes where one failed
abbrev pub HandsOutWhole : ℕ → Option (List ℕ) → Option (List ℕ) → List Taken → List Taken → Result Whole ReadFail → Type 0
HandsOutWhole limit left_old left_new old new result =
    (piece : List ℕ) × (ended : Bool) × HandsOutPart left_old left_new old new piece ended × IfOk result (IsHandedOut limit piece ended)
    × FailsWithin limit piece ended result
