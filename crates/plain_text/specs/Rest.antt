-- The bytes after what was read.
use Rattle.std.specs.Prelude.{ℕ, List}
use Rattle.std.specs.Borrow.{Bor}

-- the bytes that a slice holds
abbrev pub rest_of : Bor (List ℕ) → List ℕ
rest_of rest = rest.now

-- a value, and the bytes after it
abbrev pub with_rest : {X : Type 0} → (X × Bor (List ℕ)) → (X × List ℕ)
with_rest x = (x.0, x.1.now)
