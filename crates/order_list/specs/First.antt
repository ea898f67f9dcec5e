-- Orders compared as lists of numbers, and the first orders of a set of orders.
use Rattle.std.specs.Prelude.{◌≡◌, ◌⊎◌, ℕ, ◌<◌, List, [], ◌∷◌, length, All, AllPairs, Contains}

-- a stands before b lexicographically: at the first place at which they differ a has the lower number, or there a ends
abbrev pub IsBefore : List ℕ → List ℕ → Type 0
IsBefore [] [] = ⊥
IsBefore [] (y ∷ b) = Unit {0}
IsBefore (x ∷ a) [] = ⊥
IsBefore (x ∷ a) (y ∷ b) = (x < y) ⊎ ((x ≡ y) × IsBefore a b)

-- The first k orders of the set S: a list of orders of S that strictly rises, such that each order of S is in the list or
-- greater than all of the list. It has k orders, or all of S where there are fewer.
pub record AreFirst (S : List ℕ → Type 0) (k : ℕ) (orders : List (List ℕ)) : Type 0 where
  pub members : All S orders
  pub rising : AllPairs IsBefore orders
  pub first : (o : List ℕ) → S o → Contains orders o ⊎ All (λ p. IsBefore p o) orders
  pub number : (length orders ≡ k) ⊎ ((length orders < k) × ((o : List ℕ) → S o → Contains orders o))

-- some order of the set is not in the list
abbrev pub HasOther : (List ℕ → Type 0) → List (List ℕ) → Type 0
HasOther S orders = (o : List ℕ) × S o × (Contains orders o → ⊥)
