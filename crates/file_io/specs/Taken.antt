-- What was taken of the files of a shelf.
use Rattle.std.specs.Prelude.{◌≡◌, ◌==◌, ℕ, Bool, false, List, [], ◌∷◌, ◌++◌, take, drop, Result, Ok, Err, if◌then◌else◌}
use Rattle.file_io.specs.declared.error.ChooseError.{ChooseError}
use Rattle.file_io.specs.declared.error.ChooseError.TheVariants as choice

-- the name that was asked for, the bytes that reads handed out up to its end, and whether a read said that no more come
pub record Taken : Type 0 where
  pub name : List ℕ
  pub bytes : List ℕ
  pub ended : Bool

-- a name was asked for, of which nothing was read yet
abbrev pub asked_for : List ℕ → List Taken → List Taken
asked_for name ts = ts ++ record { name = name; bytes = []; ended = false } ∷ []

-- a file after a further piece; what comes behind the end is not its
abbrev pub read_on : List ℕ → Bool → Taken → Taken
read_on piece ended t = if t.ended then t else record { name = t.name; bytes = t.bytes ++ piece; ended = ended }

-- the files after a further piece of the last
abbrev pub handed_out : List ℕ → Bool → List Taken → List Taken
handed_out piece ended [] = []
handed_out piece ended (t ∷ []) = read_on piece ended t ∷ []
handed_out piece ended (t ∷ next ∷ ts) = t ∷ handed_out piece ended (next ∷ ts)

-- the name joins the names asked for, but where memory was refused
abbrev pub Asks : {T : Type 0} → List Taken → List Taken → List ℕ → Result T ChooseError → Type 0
Asks old new name (Ok _) = new ≡ asked_for name old
Asks old new name (Err choice.Failed) = new ≡ asked_for name old
Asks old new name (Err choice.NoMemory) = new ≡ old

-- a read handed out the first bytes of a buffer, and said that no more come where these are none
abbrev pub HandsOut : {E : Type 0} → List Taken → List Taken → Result ℕ E → List ℕ → Type 0
HandsOut old new (Ok n) buf = new ≡ handed_out (take n buf) (n == 0) old
HandsOut old new (Err _) buf = new ≡ old

-- a read handed out a piece that lies behind the filled front of a buffer
abbrev pub HandsOutPiece : {E : Type 0} → ℕ → List Taken → List Taken → Result ℕ E → List ℕ → Type 0
HandsOutPiece filled old new (Ok n) buf = new ≡ handed_out (take n (drop filled buf)) (n == 0) old
HandsOutPiece filled old new (Err _) buf = new ≡ old
