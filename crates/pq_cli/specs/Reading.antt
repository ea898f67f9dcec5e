-- What the reading of one file gives. A shelf is seen by what was taken of its files, the bytes that it tells of them, and
-- its count of faults.
use Rattle.std.specs.Prelude.{◌≡◌, ◌≢◌, ◌⊎◌, ⊤, ℕ, ◌<◌, ◌≤◌, true, List, [], ◌∷◌, ◌++◌, length, Option, Some, None, IfSome, Result, Ok, Err, IfOk, IfErr}
use Rattle.file_io.specs.Faults.{Rose}
use Rattle.file_io.specs.Taken.{Taken}
use Rattle.file_io.specs.Whole.{IsWhole}
use Rattle.file_io.specs.declared.reading.Whole.{Whole}
use Rattle.row_model.specs.declared.TheConstants.{MAX_FILE_BYTES}
use Rattle.row_model.specs.declared.code.TheConstants.{LIMIT}
use Rattle.row_model.specs.declared.refusal.Read.{Read}
use Rattle.row_model.specs.declared.refusal.Read.TheVariants as read
use Rattle.pq_cli.specs.Stops.{read_status}
use Rattle.pq_cli.specs.declared.stop.Stop.{Stop}
use Rattle.pq_cli.specs.declared.stop.Stop.TheVariants as stop

-- These may be the bytes of a file of which this was taken: they begin with what was handed out, and are no more where a
-- read said that no more come.
pub record FitsTaken (t : Taken) (bytes : List ℕ) : Type 0 where
  pub begins : (rest : List ℕ) × (bytes ≡ t.bytes ++ rest)
  pub whole : t.ended ≡ true → bytes ≡ t.bytes

-- one file was taken, or none where memory was refused
abbrev pub TakesOne : List Taken → List Taken → Taken → ℕ → Type 0
TakesOne before after t status = (after ≡ before ++ t ∷ []) ⊎ ((after ≡ before) × (status ≡ 6))

-- A shelf was only read, with this status: its files stay as they are. The count of faults never falls; it rose where
-- the status is 4, and changed nowhere else.
pub record OnlyReads {S : Type 0} (content : S → List ℕ → Option (List ℕ)) (faults : S → ℕ) (old new : S) (status : ℕ) : Type 0 where
  pub unchanged : (name : List ℕ) → content new name ≡ content old name
  pub later : faults old ≤ faults new
  pub fault : status ≡ 4 → Rose (faults old) (faults new)
  pub nowhere_else : faults new ≢ faults old → status ≡ 4

-- a refusal is that of the file of this number, and one of which P holds
abbrev pub IsStopAt : {V : Type 0} → ℕ → (Read V → Type 0) → Stop → Type 0
IsStopAt n P (stop.Refused which refusal) = (which ≡ n) × P (read.Refused refusal)
IsStopAt n P stop.ReadFault = ⊤
IsStopAt n P stop.NoMemory = ⊤

-- what stands in the way of a file's bytes is a fault or memory
abbrev pub IsReadStop : Stop → Type 0
IsReadStop (stop.Refused _ _) = ⊥
IsReadStop stop.ReadFault = ⊤
IsReadStop stop.NoMemory = ⊤

-- The file of a name was read, the one of this number, of which this was taken. A value is how the file's bytes are read, and a
-- refusal is how they are refused; and `holds` holds of both, whatever the bytes. Where the shelf tells the bytes, what
-- was taken fits them.
pub record ReadsAs {S V : Type 0} (content : S → List ℕ → Option (List ℕ)) (taken : S → List Taken) (faults : S → ℕ) (old new : S) (name : List ℕ) (which : ℕ)
    (reads : List ℕ → Read V → Type 0) (holds : Read V → Type 0) (result : Result V Stop) (t : Taken) : Type 0 where
  pub asks : TakesOne (taken old) (taken new) t (read_status result)
  pub named : t.name ≡ name
  pub told : IfSome (content old name) (FitsTaken t)
  pub shelf : OnlyReads content faults old new (read_status result)
  pub value : IfOk result (λ value. (bytes : List ℕ) → FitsTaken t bytes → reads bytes (read.Ok value))
  pub refused : IfErr result (λ s. (bytes : List ℕ) → FitsTaken t bytes → IsStopAt which (reads bytes) s)
  pub holds_of_value : IfOk result (λ value. holds (read.Ok value))
  pub holds_of_refusal : IfErr result (IsStopAt which holds)

-- the file of a name was read, the one of this number
abbrev pub ReadsFile : {S V : Type 0} → (S → List ℕ → Option (List ℕ)) → (S → List Taken) → (S → ℕ) → S → S → List ℕ → ℕ → (List ℕ → Read V → Type 0) → (Read V → Type 0) → Result V Stop → Type 0
ReadsFile content taken faults old new name which reads holds result = (t : Taken) × ReadsAs content taken faults old new name which reads holds result t

-- a file of more bytes than there may be is refused as too long, and `holds` holds of that
pub record RefusesLong {V : Type 0} (reads : List ℕ → Read V → Type 0) (holds : Read V → Type 0) : Type 0 where
  pub long : (bytes : List ℕ) → MAX_FILE_BYTES < length bytes → reads bytes (read.Refused (record { code = LIMIT; line = 0 }))
  pub held : holds (read.Refused (record { code = LIMIT; line = 0 }))

-- the bytes of the file of a name were read, and `is_of` holds of them and of what was made of them
pub record ReadsWhole {S W : Type 0} (content : S → List ℕ → Option (List ℕ)) (taken : S → List Taken) (faults : S → ℕ) (old new : S) (name : List ℕ) (is_of : List ℕ → W → Type 0)
    (result : Result W Stop) (t : Taken) : Type 0 where
  pub asks : TakesOne (taken old) (taken new) t (read_status result)
  pub named : t.name ≡ name
  pub told : IfSome (content old name) (FitsTaken t)
  pub whole : IfOk result (λ whole. (bytes : List ℕ) → FitsTaken t bytes → is_of bytes whole)

-- something was made of bytes within a limit, or nothing of more
abbrev pub IsMadeWithin : {M : Type 0} → ℕ → (List ℕ → M → Type 0) → List ℕ → Option M → Type 0
IsMadeWithin limit makes bytes (Some made) = (length bytes ≤ limit) × makes bytes made
IsMadeWithin limit makes bytes None = limit < length bytes

-- the value that was read of the file with this number, or its refusal
abbrev pub value_of : {V : Type 0} → ℕ → Read V → Result V Stop
value_of which (read.Ok value) = Ok value
value_of which (read.Refused refusal) = Err (stop.Refused which refusal)

-- a value was read, and no refusal
abbrev pub IsRead : {V : Type 0} → Read V → Type 0
IsRead (read.Ok value) = ⊤
IsRead (read.Refused refusal) = ⊥

-- the bytes themselves were read, up to a limit
abbrev pub ReadsBytes : ℕ → List ℕ → Read Whole → Type 0
ReadsBytes limit bytes (read.Ok whole) = IsWhole limit bytes whole
ReadsBytes limit bytes (read.Refused refusal) = ⊥
