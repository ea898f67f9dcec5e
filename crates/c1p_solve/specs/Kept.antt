-- How a session keeps its matrix and its tree.
use Rattle.std.specs.Prelude.{◌≡◌}
use Rattle.arena_model.specs.NamedTree.{outline_at}
use Rattle.c1p_solve.specs.Sessions.{SessionValue, IsSession}
use Rattle.c1p_solve.specs.declared.session.Session.TheInside.{Inside}

-- what contracts see of the fields
abbrev pub session_within : Inside → SessionValue
session_within s = record { matrix = s.matrix; tree = outline_at s.reducer }

-- what is always true of the fields
pub record IsSessionKept (s : Inside) : Type 0 where
  pub columns : s.reducer.columns ≡ s.matrix.columns
  pub session : IsSession (session_within s)
