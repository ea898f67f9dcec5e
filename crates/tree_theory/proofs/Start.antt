-- The universal tree is tied to no rows, and its frontiers are all orders.
use Rattle.std.proofs.Common.{◌≡◌, ◌∙◌, ◌↔◌, ℕ, ◌≤◌, List, [], ◌∷◌, map, false, IsTrue, refl, sym, subst, inl, inr, arith}
use Rattle.std.proofs.lemmas.Bool.{both_ways, cases_lt}
use Rattle.row_model.specs.declared.graph.Pair.{Pair}
use Rattle.column_order.specs.Orders.{has, IsOrder, IsValidOrder}
use Rattle.row_model.specs.Graph.{pair, Joined, Evenly}
use Rattle.column_order.proofs.Lists.{has_cases}
use Rattle.row_model.proofs.Walks.{evenly-refl}
use Rattle.pq_tree.specs.Outline.{Outline, leaf, p_node, leaves, IsFrontier}
use Rattle.pq_tree.specs.Proper.{forest, columns, universal, IsProper}
use Rattle.pq_tree.proofs.Universal.{universal_many, whole_all, whole_one}
use Rattle.tree_theory.specs.Tied.{IsTied}
use Rattle.tree_theory.proofs.Bound.{AreClosed, AreBound}
use Rattle.tree_theory.proofs.Bridge.{bound_tied}
use Rattle.tree_theory.proofs.Exact.{tied_law}

leaf_columns : (x a : ℕ) → IsTrue (has (x ∷ []) a) → a ≡ x
leaf_columns x a h = elim (has_cases x a [] h) [ inl e ↦ sym e | inr k ↦ absurd (both_ways false refl k) ]

leaves_closed : (R : Pair → Pair → Type 0) → ((v : Pair) → R v v) → (l xs : List ℕ) → AreClosed R l (forest (map leaf xs))
leaves_closed R r l [] = tt
leaves_closed R r l (x ∷ xs) =
    (λ a b d i j k n. subst (λ e. R (pair a d) (pair e d)) (leaf_columns x a i ∙ sym (leaf_columns x b j)) (r (pair a d)), leaves_closed R r l xs)

leaves_bound : (R : Pair → Pair → Type 0) (xs : List ℕ) → AreBound R (forest (map leaf xs))
leaves_bound R [] = tt
leaves_bound R (x ∷ xs) = (tt, leaves_bound R xs)

universal_cases : (c : ℕ) → 1 ≤ c → (P : Outline → Type 0) → (c ≡ 1 → P (leaf 1)) → (2 ≤ c → P (p_node (forest (map leaf (columns c))))) → P (universal c)
universal_cases c h P one many =
    elim (cases_lt 1 c) [
      | inl k ↦ rw (universal_many c k) (many k)
      | inr k ↦ let e : c ≡ 1 = omega arith in rw e (one e)
    ]

pub universal_tied : (c : ℕ) → 1 ≤ c → IsTied c [] (universal c)
universal_tied c h =
    universal_cases c h (IsTied c [])
    (λ e. bound_tied c [] (leaf 1) (λ f i k d l. absurd (omega arith)) tt)
    (λ k. bound_tied c [] (p_node (forest (map leaf (columns c)))) (λ f i k d l. absurd (omega arith))
    (leaves_closed (Evenly c []) (evenly-refl (Joined c [])) (leaves (p_node (forest (map leaf (columns c))))) (columns c), leaves_bound (Evenly c []) (columns c)))

pub universal_proper : (c : ℕ) → 1 ≤ c → IsProper c (universal c)
universal_proper c h = universal_cases c h (IsProper c) (λ e. rw e whole_one) (λ k. whole_all c k)

pub universal_all : (c : ℕ) → 1 ≤ c → (o : List ℕ) → IsFrontier (universal c) o ↔ IsOrder c o
universal_all c h o =
    let l : IsFrontier (universal c) o ↔ IsValidOrder c [] o = tied_law c [] (universal c) (universal_proper c h).1 (universal_tied c h) o in
    (λ f. (l.0 f).order, λ i. l.1 (record { order = i; kept = λ k d m. absurd (omega arith) }))

pub universal_law : (c : ℕ) → 1 ≤ c → IsProper c (universal c) × IsTied c [] (universal c) × ((o : List ℕ) → IsFrontier (universal c) o ↔ IsOrder c o)
universal_law c h = (universal_proper c h, universal_tied c h, universal_all c h)
