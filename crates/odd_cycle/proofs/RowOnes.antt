-- The ones of the first rows.
use Rattle.std.proofs.Common.{◌≡◌, ◌∙◌, ℕ, ◌+◌, ◌-◌, List, [], ◌∷◌, length, take, sum_by, get_or, slice_get, Some, ap, subst, arith}
use Rattle.std.proofs.lemmas.List.Sums.{sum_by-append, sum_by-cons}
use Rattle.std.proofs.lemmas.List.{take_more}
use Rattle.std.proofs.lemmas.Option.{slice_get_within, get_or_from_slice_get}

-- the ones of a further row
pub ones_more : (rows : List (List ℕ)) (k : ℕ) (row : List ℕ) → slice_get rows (k + 1 - 1) ≡ Some row → sum_by length (take (k + 1) rows) ≡ sum_by length (take k rows) + length row
ones_more rows k row e =
    let here : slice_get rows k ≡ Some row = subst (λ n. slice_get rows n ≡ Some row) (omega arith) e in
    ap (sum_by length) (take_more rows k row (slice_get_within rows k row here))
    ∙ sum_by-append length (take k rows) (get_or rows k row ∷ [])
    ∙ ap (λ n. sum_by length (take k rows) + n) (sum_by-cons length (get_or rows k row) [] ∙ omega (arith, ap length (get_or_from_slice_get rows k row row here)))
