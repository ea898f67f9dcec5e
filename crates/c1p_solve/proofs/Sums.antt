-- The steps of rows that are reduced in turn add up.
use Rattle.std.proofs.Common.{◌≡◌, ◌∙◌, ℕ, ◌+◌, ◌-◌, ◌*◌, ◌<◌, ◌≤◌, List, [], get_or, length, take, sum_by, ap, sym, subst, arith}
use Rattle.std.proofs.Math.Nat.{mul-le-mul_left}
use Rattle.std.proofs.lemmas.List.{take_more, take_all, length-take-le}
use Rattle.std.proofs.lemmas.List.Sums.{sum_by_push, sum_by-take-le}
use Rattle.row_model.specs.Graph.{row_at}
use Rattle.pq_tree.specs.Outline.{Outline}
use Rattle.pq_tree.specs.Amortised.{weight}
use Rattle.pq_tree.specs.Proper.{universal}
use Rattle.tree_theory.specs.Frugal.{IsFrugal}
use Rattle.tree_theory.specs.WeightLaws.{UniversalWeightLaw}
use Rattle.tree_theory.specs.declared.reducer.Step.{Step}
use Rattle.tree_theory.specs.declared.reducer.Step.TheVariants.{Refused}
use Rattle.c1p_solve.specs.Totals.{reduction_steps, search_steps}

-- the ones of one row more
ones_next : (rows : List (List ℕ)) (k : ℕ) → k < length rows → sum_by length (take (k + 1) rows) ≡ sum_by length (take k rows) + length (row_at rows (k + 1))
ones_next rows k h =
    let here : k + 1 - 1 ≡ k = omega arith in
    ap (sum_by length) (take_more rows k [] h) ∙ sum_by_push length (take k rows) (get_or rows k [])
    ∙ ap (λ n. sum_by length (take k rows) + length (get_or rows n [])) (sym here)

-- what the first k rows cost, with 256 steps for each unit of the weight w that the tree has then, on a tree over c columns that
-- weighs no more than c at first
abbrev pub IsPaidSoFar : ℕ → List (List ℕ) → ℕ → ℕ → ℕ → ℕ → Type 0
IsPaidSoFar c rows k w s n = n + 256 * w ≤ s + 256 * c + 1024 * (k + sum_by length (take k rows))

pub one_taken : (c : ℕ) (rows : List (List ℕ)) (k w v s n p : ℕ) → k < length rows → IsPaidSoFar c rows k w s n →
    p + 256 * v ≤ n + 1024 * (1 + length (row_at rows (k + 1))) + 256 * w → IsPaidSoFar c rows (k + 1) v s p
one_taken c rows k w v s n p h a b = omega (arith, ones_next rows k h, a, b)

pub all_taken : (c : ℕ) (rows : List (List ℕ)) (k w s n : ℕ) → length rows ≤ k → k ≤ length rows → IsPaidSoFar c rows k w s n → n + 256 * w ≤ s + reduction_steps c rows
all_taken c rows k w s n h l a = omega (arith, a, ap (sum_by length) (take_all k rows h))

pub one_refused : (c : ℕ) (rows : List (List ℕ)) (k w s n p q : ℕ) → k < length rows → IsPaidSoFar c rows k w s n →
    p ≤ n + 1024 * (1 + length (row_at rows (k + 1))) + 256 * w → q ≤ p + search_steps c (take (k + 1) rows) →
    q ≤ s + reduction_steps c (take (k + 1) rows) + search_steps c (take (k + 1) rows)
one_refused c rows k w s n p q h a b d =
    let long : length (take (k + 1) rows) ≡ k + 1 = length-take-le (k + 1) rows (omega arith) in
    omega (arith, ones_next rows k h, a, b, d, long)

-- what the reducer takes before it fails at a row
pub one_failed : (c : ℕ) (rows : List (List ℕ)) (k w s n p : ℕ) → k < length rows → IsPaidSoFar c rows k w s n →
    p ≤ n + 1024 * (1 + length (row_at rows (k + 1))) + 256 * w → p ≤ s + reduction_steps c rows
one_failed c rows k w s n p h a b = omega (arith, h, ones_next rows k h, sum_by-take-le length rows (k + 1), a, b)

-- what the first rows cost is no more than what all rows cost
pub first_steps : (c k : ℕ) (rows : List (List ℕ)) → k ≤ length rows → reduction_steps c (take k rows) + search_steps c (take k rows) ≤ reduction_steps c rows + search_steps c rows
first_steps c k rows h =
    let ones : sum_by length (take k rows) + 1 ≤ sum_by length rows + 1 = omega (arith, sum_by-take-le length rows k) in
    let search : search_steps c (take k rows) ≤ search_steps c rows = mul-le-mul_left (8 * c) ones in
    omega (arith, ones, search, length-take-le k rows h, h)

-- what a frugal reducer takes for a row that it refuses
pub refused_cost : (row : List ℕ) (t u : Outline) (s n : ℕ) (step : Step) → step ≡ Refused → IsFrugal row t u s n step → n ≤ s + 1024 * (1 + length row) + 256 * weight t
refused_cost row t u s n step e h = subst (IsFrugal row t u s n) e h

-- the tree of a new reducer weighs no more than the columns of the matrix
pub weighs_little : (n c : ℕ) (t : Outline) → UniversalWeightLaw → n ≡ c → t ≡ universal n → weight t ≤ c
weighs_little n c t light columns is = omega (arith, light n, ap weight is, columns)
