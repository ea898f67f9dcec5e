-- What a write adds to a sink.
use Rattle.std.specs.Prelude.{ℕ, ◌<◌, ◌≤◌, List, take, length, Option}
use Rattle.std.specs.Io.KnownBytes.{Appends}

-- a write took one byte or more, and no more than there are
abbrev pub TakesSome : List ℕ → ℕ → Type 0
TakesSome piece n = (0 < n) × (n ≤ length piece)

-- some first bytes of a text were added
abbrev pub AppendsPrefix : Option (List ℕ) → Option (List ℕ) → List ℕ → Type 0
AppendsPrefix old new text = (n : ℕ) × (n ≤ length text) × Appends old new (take n text)
