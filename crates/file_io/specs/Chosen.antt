-- What is chosen of the files of the system.
use Rattle.std.specs.Prelude.{ℕ, Bool, true, false, List, [], Option, None, Some}
use Rattle.file_io.specs.Source.{Source, StandardInput, FileOf}
use Rattle.file_io.specs.declared.chosen.Chosen.{Chosen}
use Rattle.file_io.specs.declared.chosen.Chosen.TheVariants as chosen

-- whether a file or standard input is chosen
abbrev pub is_chosen : {File Reader : Type 0} → Chosen File Reader → Bool
is_chosen chosen.Nothing = false
is_chosen (chosen.Input _) = true
is_chosen (chosen.File _) = true

-- where the bytes of the chosen file come from
abbrev pub source_chosen : {File Reader : Type 0} → Chosen File Reader → Option Source
source_chosen chosen.Nothing = None
source_chosen (chosen.Input _) = Some StandardInput
source_chosen (chosen.File opened) = Some (FileOf opened.name.bytes)

-- what the reader of the chosen file tells is left of it
abbrev pub left_of : {File Reader : Type 0} → (File → Option (List ℕ)) → (Reader → Option (List ℕ)) → Chosen File Reader → Option (List ℕ)
left_of file reader chosen.Nothing = None
left_of file reader (chosen.Input begun) = reader begun.reader
left_of file reader (chosen.File opened) = file opened.begun.reader

-- the bytes that the chosen file gave since it was chosen
abbrev pub given_of : {File Reader : Type 0} → Chosen File Reader → List ℕ
given_of chosen.Nothing = []
given_of (chosen.Input begun) = begun.given.bytes
given_of (chosen.File opened) = opened.begun.given.bytes
