-- What a check tells of the fault that it finds, by its words.
use Rattle.std.specs.Prelude.{◌≡◌, ℕ, List, ◌++◌, Option, Some, None, codes}

-- the status of a check: 0 where there is no fault, 1 where there is one
abbrev pub fault_status : Option (List ℕ) → ℕ
fault_status None = 0
fault_status (Some words) = 1

-- `valid`, or `invalid` with the words of the fault
abbrev pub fault_text : Option (List ℕ) → List ℕ
fault_text None = codes "valid"
fault_text (Some words) = codes "invalid " ++ words

-- the status and the text, one line, tell the fault, or that there is none
abbrev pub TellsFault : Option (List ℕ) → ℕ → List ℕ → Type 0
TellsFault fault status text = (status ≡ fault_status fault) × (text ≡ fault_text fault ++ codes "\n")
