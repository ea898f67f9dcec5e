-- How many nodes of the universal tree meet a row.
use Rattle.std.proofs.Common.{◌≡◌, inl, inr, ℕ, zero, suc, ◌+◌, ◌*◌, ◌≤◌, Bool, true, false, cond, leb, ◌||◌, List, [], ◌∷◌, ◌++◌, length, map, refl, sym, ap, subst, ◌∙◌, arith, ne_eqb}
use Rattle.std.proofs.lemmas.Bool.{cases_eq}
use Rattle.std.proofs.lemmas.Bool.Decides.{nat_tests}
use Rattle.column_order.specs.Orders.{has}
use Rattle.pq_tree.specs.Outline.{Outline, leaf, leaves_of}
use Rattle.pq_tree.specs.Proper.{forest, columns, universal}
use Rattle.pq_tree.specs.Nodes.{meets}
use Rattle.pq_tree.specs.Amortised.{nodes_met, nodes_met_of}
use Rattle.pq_tree.proofs.Universal.{universal_many}
use Rattle.row_model.specs.Graph.{row_at}

-- 1 where the column is in the row, else 0
abbrev in_row : List ℕ → ℕ → ℕ
in_row row a = cond {A = ℕ} (has row a) 1 0

-- how many of the columns are in the row
abbrev met_in : List ℕ → List ℕ → ℕ
met_in row [] = 0
met_in row (a ∷ cs) = in_row row a + met_in row cs

-- how many entries of the row are at most n
abbrev at_most : List ℕ → ℕ → ℕ
at_most [] n = 0
at_most (x ∷ xs) n = cond {A = ℕ} (leb x n) 1 0 + at_most xs n

leaves_met : (row cs : List ℕ) → nodes_met_of row (forest (map leaf cs)) ≡ met_in row cs
leaves_met row [] = refl
leaves_met row (a ∷ cs) = ap (λ n. in_row row a + n) (leaves_met row cs)

met_last : (row cs : List ℕ) (b : ℕ) → met_in row (cs ++ b ∷ []) ≡ met_in row cs + in_row row b
met_last row [] b = omega arith
met_last row (a ∷ cs) b = omega (arith, met_last row cs b)

one_at_most : (b : Bool) → cond {A = ℕ} b 1 0 ≤ 1
one_at_most true = omega arith
one_at_most false = omega arith

leb_more : (x n : ℕ) → cond {A = ℕ} (leb x n) 1 0 ≤ cond {A = ℕ} (leb x (suc n)) 1 0
leb_more x n = grind (arith, nat_tests)

leb_new : (n : ℕ) → 1 + cond {A = ℕ} (leb (suc n) n) 1 0 ≤ cond {A = ℕ} (leb (suc n) (suc n)) 1 0
leb_new n = grind (arith, nat_tests)

more : (row : List ℕ) (n : ℕ) → at_most row n ≤ at_most row (suc n)
more [] n = omega arith
more (x ∷ xs) n = omega (arith, leb_more x n, more xs n)

or_one : (a b : Bool) → cond {A = ℕ} (a || b) 1 0 ≤ cond {A = ℕ} a 1 0 + cond {A = ℕ} b 1 0
or_one true b = omega arith
or_one false b = omega arith

-- the next column counts where it is in the row
next_counts : (row : List ℕ) (n : ℕ) → at_most row n + in_row row (suc n) ≤ at_most row (suc n)
next_counts [] n = omega arith
next_counts (x ∷ xs) n = elim (cases_eq x (suc n)) [
  | inl e ↦
      let l : 1 + cond {A = ℕ} (leb x n) 1 0 ≤ cond {A = ℕ} (leb x (suc n)) 1 0 = subst (λ z. 1 + cond {A = ℕ} (leb z n) 1 0 ≤ cond {A = ℕ} (leb z (suc n)) 1 0) (sym e) (leb_new n) in
      let o : in_row (x ∷ xs) (suc n) ≤ 1 = one_at_most (has (x ∷ xs) (suc n)) in
      omega (arith, more xs n)
  | inr ne ↦
      let o : in_row (x ∷ xs) (suc n) ≡ in_row xs (suc n) = ap (λ b. cond {A = ℕ} (b || has xs (suc n)) 1 0) (ne_eqb x (suc n) ne) in
      omega (arith, leb_more x n, next_counts xs n)
]

met_few : (row : List ℕ) (n : ℕ) → met_in row (columns n) ≤ at_most row n
met_few row zero = omega arith
met_few row (suc n) = omega (arith, met_last row (columns n) (suc n), met_few row n, next_counts row n)

at_most_all : (row : List ℕ) (n : ℕ) → at_most row n ≤ length row
at_most_all [] n = omega arith
at_most_all (x ∷ xs) n = omega (arith, one_at_most (leb x n), at_most_all xs n)

-- no more nodes of the universal tree meet a row than the row has columns, and the root
pub star_met : (row : List ℕ) (c : ℕ) → 2 ≤ c → nodes_met row (universal c) ≤ length row + 1
star_met row c few =
    let ts = forest (map leaf (columns c)) in
    let e : nodes_met row (universal c) ≡ cond {A = ℕ} (meets row (leaves_of ts)) 1 0 + nodes_met_of row ts = ap (nodes_met row) (universal_many c few) in
    omega (arith, one_at_most (meets row (leaves_of ts)), leaves_met row (columns c), met_few row c, at_most_all row c)

-- the bound of a pass over the only row of a matrix
pub star_bound : (rows : List (List ℕ)) (row : List ℕ) (c s t : ℕ) (o : Outline) → rows ≡ row ∷ [] → o ≡ universal c → 2 ≤ c →
    t ≤ s + 24 * (nodes_met (row_at rows 1) o + 1) → t ≤ s + 24 * (length row + 2)
star_bound rows row c s t o er eo few h =
    let e : nodes_met (row_at rows 1) o ≡ nodes_met row (universal c) = ap (λ (z : List (List ℕ)). nodes_met (row_at z 1) o) er ∙ ap (nodes_met row) eo in
    omega (arith, star_met row c few)
