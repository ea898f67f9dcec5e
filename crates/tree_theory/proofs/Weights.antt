-- The weight is a measure: turning the nodes of a tree leaves it, and that of the universal tree is no more than its columns.
use Rattle.std.proofs.Common.{◌≡◌, ℕ, ◌≤◌, leb, map, refl, ap, inl, inr, arith}
use Rattle.std.proofs.lemmas.Bool.{cases_lt, cond-true, le-leb}
use Rattle.pq_tree.specs.Outline.{Outline, leaf, p_node}
use Rattle.pq_tree.specs.Proper.{forest, columns, universal}
use Rattle.pq_tree.specs.Equivalent.{IsEquivalent}
use Rattle.pq_tree.specs.Amortised.{weight, weight_of}
use Rattle.tree_theory.proofs.Measures.{IsMeasure, equivalent_measure, universal_measure}

pub weights : IsMeasure weight weight_of (λ n. n)
weights = record { of_leaf = λ a. refl; of_p = λ ts. refl; of_q = λ ts. refl; of_none = refl; of_more = λ t ts. refl }

pub equivalent_weight : (t u : Outline) → IsEquivalent t u → weight u ≡ weight t
equivalent_weight t u h = equivalent_measure weights t u h

universal_one : (c : ℕ) → c ≤ 1 → universal c ≡ leaf 1
universal_one c h = cond-true (leb c 1) (leaf 1) (p_node (forest (map leaf (columns c)))) (le-leb c 1 h)

pub universal_weight : (c : ℕ) → weight (universal c) ≤ c
universal_weight c = elim (cases_lt c 2) [ inl h ↦ omega (arith, ap weight (universal_one c (omega arith))) | inr h ↦ omega (arith, universal_measure weights c h) ]
