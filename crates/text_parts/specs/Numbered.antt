-- Items one after another, as text and as read.
use Rattle.std.specs.Prelude.{ℕ, zero, suc, ◌+◌, List, [], ◌∷◌, ◌++◌, Option, Some, option_and_then}

-- the texts of the items one after another, with their numbers from i on
abbrev pub numbered : {A : Type 0} → (ℕ → A → List ℕ) → ℕ → List A → List ℕ
numbered text i [] = []
numbered text i (x ∷ xs) = text i x ++ numbered text (i + 1) xs

-- an item before those that were read
abbrev pub with_first : {A : Type 0} → A → (List A × List ℕ) → Option (List A × List ℕ)
with_first x y = Some (x ∷ y.0, y.1)

-- so many items read one after another, with their numbers from i on
unfoldable pub numbered_at : {A : Type 0} → (ℕ → List ℕ → Option (A × List ℕ)) → ℕ → ℕ → List ℕ → Option (List A × List ℕ)
numbered_at read i zero bytes = Some ([], bytes)
numbered_at read i (suc n) bytes = option_and_then (λ x. option_and_then (with_first x.0) (numbered_at read (i + 1) n x.1)) (read i bytes)
