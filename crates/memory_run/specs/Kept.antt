-- What is kept for a caller.
use Rattle.std.specs.Prelude.{ℕ, List}

-- the bytes written, and how many writes have failed
pub record Bytes : Type 0 where
  pub bytes : List ℕ
  pub faults : ℕ
