-- The frontiers of the universal tree are all orders.
use Rattle.std.proofs.Common.{◌≡◌, ◌↔◌, ◌∙◌, ◌+◌, ◌≤◌, ℕ, cond, eqb, List, [], ◌∷◌, map, sum_by, remove, IsPermutation, refl, sym, ap, inl, inr, arith, eq-eqb}
use Rattle.std.proofs.lemmas.Bool.{cases_lt}
use Rattle.std.proofs.lemmas.List.{get_or_default}
use Rattle.std.proofs.lemmas.List.Sorted.{IsPermutation-refl, IsPermutation-cons, IsPermutation-sym, IsPermutation-trans, IsPermutation-map, IsPermutation-remove, All-permutation, length_permutation, sum_by-IsPermutation}
use Rattle.std.proofs.lemmas.List.Elements.{All-head, All-from_recursion}
use Rattle.std.proofs.lemmas.List.Sums.{sum_by-cons}
use Rattle.std.specs.List.{concat}
use Rattle.column_order.specs.Orders.{occurs, place, IsOrder}
use Rattle.column_order.proofs.Lists.{has_from_occurs, at_place}
use Rattle.pq_tree.specs.Outline.{leaf, p_node, IsFrontier, AreFrontiers}
use Rattle.pq_tree.specs.Proper.{forest, columns, universal}
use Rattle.pq_tree.proofs.Universal.{columns_order, leaves_of_all, universal_many}
use Rattle.pq_tree.proofs.Frontiers.{frontier_occurs}

-- 1 where the number is a, else 0
abbrev hit : ℕ → ℕ → ℕ
hit a x = cond (eqb x a) 1 0

occurs_sum : (xs : List ℕ) (a : ℕ) → occurs xs a ≡ sum_by (hit a) xs
occurs_sum [] a = refl
occurs_sum (x ∷ xs) a = omega (arith, occurs_sum xs a, sum_by-cons (hit a) x xs)

occurs_moved : (xs ys : List ℕ) (a : ℕ) → IsPermutation xs ys → occurs ys a ≡ occurs xs a
occurs_moved xs ys a h = occurs_sum ys a ∙ sum_by-IsPermutation (hit a) xs ys h ∙ sym (occurs_sum xs a)

occurs_head : (x : ℕ) (xs : List ℕ) → occurs (x ∷ xs) x ≡ 1 + occurs xs x
occurs_head x xs = ap (λ b. cond {A = ℕ} b 1 0 + occurs xs x) (eq-eqb x x refl)

-- lists in which each number stands equally often are permutations of each other
pub permutation_from_occurs : (xs ys : List ℕ) → ((a : ℕ) → occurs xs a ≡ occurs ys a) → IsPermutation xs ys
permutation_from_occurs [] [] h = IsPermutation-refl []
permutation_from_occurs [] (y ∷ ys) h = absurd (omega (arith, h y, occurs_head y ys))
permutation_from_occurs (x ∷ xs) ys h =
    let p = at_place ys x (has_from_occurs ys x (omega (arith, h x, occurs_head x xs))) in
    let i = place ys x in
    let m : IsPermutation ys (x ∷ remove ys i) = IsPermutation-remove ys i x p.0 (sym (get_or_default ys i x 0 p.0 ∙ p.1)) in
    let rest : IsPermutation xs (remove ys i) = permutation_from_occurs xs (remove ys i) (λ a. omega (arith, h a, occurs_moved ys (x ∷ remove ys i) a m)) in
    IsPermutation-trans (x ∷ xs) (x ∷ remove ys i) ys (IsPermutation-cons x xs (remove ys i) rest) (IsPermutation-sym ys (x ∷ remove ys i) m)

abbrev single : ℕ → List ℕ
single a = a ∷ []

concat_singles : (xs : List ℕ) → concat (map single xs) ≡ xs
concat_singles [] = refl
concat_singles (x ∷ xs) = ap (λ ys. x ∷ ys) (concat_singles xs)

frontiers_of_leaves : (xs : List ℕ) → AreFrontiers (forest (map leaf xs)) (map single xs)
frontiers_of_leaves [] = tt
frontiers_of_leaves (x ∷ xs) = (refl, frontiers_of_leaves xs)

-- the frontiers of a P-node over leaves are the permutations of their columns
permutation_is_frontier : (xs o : List ℕ) → IsPermutation xs o → IsFrontier (p_node (forest (map leaf xs))) o
permutation_is_frontier xs o h = (map single xs, map single o, frontiers_of_leaves xs, IsPermutation-map single xs o h, sym (concat_singles o))

pub many_orders : (c : ℕ) (o : List ℕ) → IsFrontier (p_node (forest (map leaf (columns c)))) o ↔ IsOrder c o
many_orders c o = (
  λ h a. frontier_occurs (p_node (forest (map leaf (columns c)))) o a h ∙ ap (λ x. occurs x a) (leaves_of_all (columns c)) ∙ columns_order c a,
  λ h. permutation_is_frontier (columns c) o (permutation_from_occurs (columns c) o (λ a. columns_order c a ∙ sym (h a))),
)

only_one : (x : ℕ) (o : List ℕ) → IsPermutation (x ∷ []) o → o ≡ x ∷ []
only_one x [] h = absurd (omega (arith, length_permutation (x ∷ []) [] h))
only_one x (y ∷ []) h = ap (λ z. z ∷ []) (All-head (λ z. z ≡ x) y [] (All-permutation (λ z. z ≡ x) (x ∷ []) (y ∷ []) h (All-from_recursion (λ z. z ≡ x) (x ∷ []) (refl, tt))))
only_one x (y ∷ z ∷ zs) h = absurd (omega (arith, length_permutation (x ∷ []) (y ∷ z ∷ zs) h))

pub one_order : (o : List ℕ) → IsFrontier (leaf 1) o ↔ IsOrder 1 o
one_order o = (
  λ h a. ap (λ x. occurs x a) h ∙ columns_order 1 a,
  λ h. only_one 1 o (permutation_from_occurs (1 ∷ []) o (λ a. columns_order 1 a ∙ sym (h a))),
)

pub all_orders : (c : ℕ) → 1 ≤ c → (o : List ℕ) → IsFrontier (universal c) o ↔ IsOrder c o
all_orders c h o =
    elim (cases_lt 1 c) [
      | inl k ↦ rw (universal_many c k) (many_orders c o)
      | inr k ↦ let e : c ≡ 1 = omega arith in rw e (one_order o)
    ]
