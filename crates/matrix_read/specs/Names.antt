-- Names as lists of bytes.
use Rattle.std.specs.Prelude.{ℕ, ◌||◌, List, [], ◌∷◌, map, Bool, false}
use Rattle.std.specs.Borrow.{Bor}
use Rattle.std.specs.List.{list_any}
use Rattle.std.specs.Str.{bytes_eq}

-- whether some name occurs twice
abbrev pub has_twice : List (List ℕ) → Bool
has_twice [] = false
has_twice (name ∷ names) = list_any (bytes_eq name) names || has_twice names

-- the bytes of names
abbrev pub bytes_of : List (Bor (List ℕ)) → List (List ℕ)
bytes_of names = map (λ name. name.now) names
