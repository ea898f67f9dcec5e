-- What contracts see of the files of the system.
use Rattle.std.specs.Prelude.{ℕ, Bool, List, Option}
use Rattle.file_io.specs.Source.{Source}
use Rattle.file_io.specs.Taken.{Taken}

-- what was taken of the files, whether a file is chosen, where its bytes come from, what it gave since it was chosen, what its reader tells is left of
-- it, and how many calls have failed
pub record Asked : Type 0 where
  pub taken : List Taken
  pub has_chosen : Bool
  pub source : Option Source
  pub given : List ℕ
  pub left : Option (List ℕ)
  pub faults : ℕ
