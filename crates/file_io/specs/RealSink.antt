-- What contracts see of standard output and standard error.
use Rattle.std.specs.Prelude.{ℕ, List, Option}

-- the bytes of all writes that were answered as done, those written since the last flush, the bytes that the stream tells
-- it holds, if it tells any, and how many calls have failed
pub record Stream : Type 0 where
  pub sent : List ℕ
  pub unflushed : List ℕ
  pub contents : Option (List ℕ)
  pub faults : ℕ
