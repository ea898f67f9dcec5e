-- What a sink in memory holds.
use Rattle.std.specs.Prelude.{ℕ, List}

-- the bytes written, how many more there is room for, the greatest number of bytes a write, the numbers of the writes that
-- are to fail, and how many writes there were and have failed
pub record Written : Type 0 where
  pub bytes : List ℕ
  pub room : ℕ
  pub piece : ℕ
  pub failing : List ℕ
  pub calls : ℕ
  pub faults : ℕ
