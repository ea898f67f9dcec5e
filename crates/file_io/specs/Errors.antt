-- What the errors say.
use Rattle.std.specs.Prelude.{ℕ, List, codes}
use Rattle.file_io.specs.declared.error.ChooseError.{ChooseError}
use Rattle.file_io.specs.declared.error.ChooseError.TheVariants as choice
use Rattle.file_io.specs.declared.error.ReadFail.{ReadFail}
use Rattle.file_io.specs.declared.error.ReadFail.TheVariants as fail

-- the text of an error of `choose`
abbrev pub choose_text : ChooseError → List ℕ
choose_text choice.Failed = codes "the file could not be opened"
choose_text choice.NoMemory = codes "out of memory"

-- the text of an error of `read_all`
abbrev pub read_text : ReadFail → List ℕ
read_text fail.Fault = codes "the file could not be read"
read_text fail.NoMemory = codes "out of memory"
