-- The places in a list at which a test passes, in the order of the list.
use Rattle.std.proofs.Common.{◌≡◌, ◌∙◌, ℕ, suc, ◌+◌, ◌-◌, Bool, if◌then◌else◌, List, [], ◌∷◌, length, get_or, refl, ap, sym, arith}
use Rattle.std.specs.List.{filter, range_with_len}
use Rattle.row_model.specs.Rows.{columns_where}
use Rattle.row_model.proofs.Columns.{filter_same}

-- the places of the items that pass, where the first item stands at this place
abbrev pub places_from : {T : Type 0} → (T → Bool) → ℕ → List T → List ℕ
places_from passes place [] = []
places_from passes place (x ∷ xs) = if passes x then place ∷ places_from passes (place + 1) xs else places_from passes (place + 1) xs

module _ {T : Type 0} (passes : T → Bool) (other : T) where
  places_are : (place : ℕ) (xs : List T) → places_from passes place xs ≡ filter (λ k. passes (get_or xs (k - place) other)) (range_with_len place (length xs))
  places_are place [] = refl
  places_are place (x ∷ xs) =
      let here : place - place ≡ 0 = omega arith in
      let later : places_from passes (place + 1) xs ≡ filter (λ k. passes (get_or (x ∷ xs) (k - place) other)) (range_with_len (place + 1) (length xs)) =
      places_are (place + 1) xs
      ∙ filter_same (λ k. passes (get_or xs (k - (place + 1)) other)) (λ k. passes (get_or (x ∷ xs) (k - place) other)) (place + 1) (length xs) (λ k from to.
      let next : k - place ≡ suc (k - (place + 1)) = omega arith in
      ap (λ i. passes (get_or (x ∷ xs) i other)) (sym next)) in
      ap (λ rest. if passes x then place ∷ rest else rest) later
      ∙ ap (λ i. if passes (get_or (x ∷ xs) i other) then place ∷ filter (λ k. passes (get_or (x ∷ xs) (k - place) other)) (range_with_len (place + 1) (length xs)) else filter (λ k. passes (get_or (x ∷ xs) (k - place) other)) (range_with_len (place + 1) (length xs))) (sym here)

  -- from 1 on they are columns
  pub places_columns : (xs : List T) → places_from passes 1 xs ≡ columns_where (length xs) (λ column. passes (get_or xs (column - 1) other))
  places_columns xs = places_are 1 xs
