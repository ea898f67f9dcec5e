use Rattle.std.proofs.Common.{◌≡◌, ℕ, List, Some, false}
use Rattle.std.specs.Prelude.{codes}
use Rattle.std.specs.Str.{bytes_eq}
use Rattle.file_io.specs.Source.{source_of, FileOf}
use Rattle.file_io.proofs.chosen.choose_by.Goals as goal

-- a name that is not `-` stands for the file of that name
file_named : (own name : List ℕ) → false ≡ bytes_eq name (codes "-") → own ≡ name → Some (FileOf own) ≡ Some (source_of name)
file_named own name other same = rw (same, ← other)

pub returns-in-Ok-clause-source : goal.returns-in-Ok-clause-source
returns-in-Ok-clause-source g c = file_named _ _ c.if-eq.ensures c.in-Ok.ensures.name
