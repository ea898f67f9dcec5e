-- The universal tree is a PQ-tree over its columns.
use Rattle.std.proofs.Common.{◌≡◌, ◌≢◌, ◌∙◌, ◌+◌, ◌≤◌, ℕ, zero, suc, cond, leb, ◌&&◌, List, [], ◌∷◌, map, refl, sym, ap, length, length-append, arith, inl, inr, eq-eqb}
use Rattle.std.proofs.lemmas.Bool.{cond-false, lt-leb, cases_eq, cases_lt, ne_eqb}
use Rattle.column_order.specs.Orders.{occurs, IsOrder}
use Rattle.column_order.proofs.Lists.{occurs-append}
use Rattle.column_order.proofs.Counts.{within_one, within_none}
use Rattle.pq_tree.specs.Outline.{leaf, p_node, leaves_of}
use Rattle.pq_tree.specs.Proper.{forest, columns, universal, count, HaveArities, IsProper}

pub leaves_of_all : (xs : List ℕ) → leaves_of (forest (map leaf xs)) ≡ xs
leaves_of_all [] = refl
leaves_of_all (x ∷ xs) = ap (λ ys. x ∷ ys) (leaves_of_all xs)

counts_all : (xs : List ℕ) → HaveArities (forest (map leaf xs))
counts_all [] = tt
counts_all (x ∷ xs) = (tt, counts_all xs)

count_all : (xs : List ℕ) → count (forest (map leaf xs)) ≡ length xs
count_all [] = refl
count_all (x ∷ xs) = omega (arith, count_all xs)

length_columns : (n : ℕ) → length (columns n) ≡ n
length_columns zero = refl
length_columns (suc n) = omega (arith, length-append (columns n) (suc n ∷ []), length_columns n)

same_one : (n a : ℕ) → suc n ≡ a → occurs (suc n ∷ []) a ≡ 1
same_one n a e = ap (λ b. cond {A = ℕ} b 1 0 + 0) (eq-eqb (suc n) a e)

other_one : (n a : ℕ) → suc n ≢ a → occurs (suc n ∷ []) a ≡ 0
other_one n a e = ap (λ b. cond {A = ℕ} b 1 0 + 0) (ne_eqb (suc n) a e)

pub columns_order : (n : ℕ) → IsOrder n (columns n)
columns_order zero a =
    elim (cases_eq a 0) [ inl e ↦ sym (within_none 0 a (inl e)) | inr e ↦ sym (within_none 0 a (inr (omega arith))) ]
columns_order (suc n) a =
    occurs-append (columns n) (suc n ∷ []) a ∙ ap (λ m. m + occurs (suc n ∷ []) a) (columns_order n a) ∙ step n a
  where
    step : (n a : ℕ) → cond {A = ℕ} (leb 1 a && leb a n) 1 0 + occurs (suc n ∷ []) a ≡ cond {A = ℕ} (leb 1 a && leb a (suc n)) 1 0
    step n a =
        elim (cases_eq a 0) [
          | inl e ↦ omega (arith, within_none n a (inl e), within_none (suc n) a (inl e), other_one n a (omega arith))
          | inr e ↦ elim (cases_lt n a) [
            | inl l ↦ elim (cases_eq (suc n) a) [
              | inl s ↦ omega (arith, within_none n a (inr l), within_one (suc n) a (omega arith) (omega arith), same_one n a s)
              | inr s ↦ omega (arith, within_none n a (inr l), within_none (suc n) a (inr (omega arith)), other_one n a s)
            ]
            | inr l ↦ omega (arith, within_one n a (omega arith) (omega arith), within_one (suc n) a (omega arith) (omega arith), other_one n a (omega arith))
          ]
        ]

pub whole_all : (c : ℕ) → 2 ≤ c → IsProper c (p_node (forest (map leaf (columns c))))
whole_all c h =
    ((omega (arith, count_all (columns c), length_columns c), counts_all (columns c)), rw (leaves_of_all (columns c)) (columns_order c))

pub whole_one : IsProper 1 (leaf 1)
whole_one = (tt, λ a. columns_order 1 a)

pub universal_one : universal 1 ≡ leaf 1
universal_one = refl

pub universal_many : (c : ℕ) → 2 ≤ c → universal c ≡ p_node (forest (map leaf (columns c)))
universal_many c h = cond-false (leb c 1) (leaf 1) (p_node (forest (map leaf (columns c)))) (lt-leb c 1 h)
