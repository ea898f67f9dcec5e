-- A tree equivalent to a proper one is proper.
use Rattle.std.proofs.Common.{◌≡◌, ◌∙◌, ℕ, List, [], ◌∷◌, reverse, length, IsPermutation, sum_by, refl, sym, ap, subst, inl, inr, arith}
use Rattle.std.proofs.lemmas.List.{length-reverse}
use Rattle.std.proofs.lemmas.List.Elements.{All-from_recursion, recursion_from_All}
use Rattle.std.proofs.lemmas.List.Sorted.{All-permutation, IsPermutation-reverse, IsPermutation-sym, sum_by-IsPermutation, length_permutation}
use Rattle.std.proofs.lemmas.List.Sums.{sum_by-cons}
use Rattle.std.specs.List.{AllByRecursion}
use Rattle.column_order.specs.Orders.{occurs}
use Rattle.column_order.proofs.Lists.{occurs-append}
use Rattle.column_order.proofs.Counts.{order_once}
use Rattle.pq_tree.specs.Outline.{Outline, Forest, leaf, p_node, q_node, no_tree, tree_and, leaves, leaves_of}
use Rattle.pq_tree.specs.Proper.{forest, count, HasArities, HaveArities, IsTree, IsProper}
use Rattle.pq_tree.specs.Equivalent.{IsEquivalent, AreEquivalent}
use Rattle.pq_tree.proofs.Forests.{count_forest}

leaves_sum : (ts : List Outline) (a : ℕ) → occurs (leaves_of (forest ts)) a ≡ sum_by (λ t. occurs (leaves t) a) ts
leaves_sum [] a = refl
leaves_sum (t ∷ ts) a =
    omega (arith, occurs-append (leaves t) (leaves_of (forest ts)) a, leaves_sum ts a, sum_by-cons (λ u. occurs (leaves u) a) t ts)

pub moved_occurs : (us vs : List Outline) (a : ℕ) → IsPermutation us vs → occurs (leaves_of (forest vs)) a ≡ occurs (leaves_of (forest us)) a
moved_occurs us vs a h = leaves_sum vs a ∙ sum_by-IsPermutation (λ t. occurs (leaves t) a) us vs h ∙ sym (leaves_sum us a)

mutual
  pub equivalent_occurs : (t u : Outline) (a : ℕ) → IsEquivalent t u → occurs (leaves u) a ≡ occurs (leaves t) a
  equivalent_occurs (leaf b) u a h = ap (λ x. occurs (leaves x) a) h
  equivalent_occurs (p_node ts) u a h = ap (λ x. occurs (leaves x) a) h.4 ∙ moved_occurs h.0 h.1 a h.3 ∙ equivalent_occur_all ts h.0 a h.2
  equivalent_occurs (q_node ts) u a h =
      elim h.2 [
        | inl e ↦ ap (λ x. occurs (leaves x) a) e ∙ equivalent_occur_all ts h.0 a h.1
        | inr e ↦ ap (λ x. occurs (leaves x) a) e ∙ moved_occurs h.0 (reverse h.0) a (IsPermutation-reverse h.0) ∙ equivalent_occur_all ts h.0 a h.1
      ]

  pub equivalent_occur_all : (ts : Forest) (us : List Outline) (a : ℕ) → AreEquivalent ts us → occurs (leaves_of (forest us)) a ≡ occurs (leaves_of ts) a
  equivalent_occur_all no_tree [] a h = refl
  equivalent_occur_all no_tree (u ∷ us) a h = absurd h
  equivalent_occur_all (tree_and t ts) [] a h = absurd h
  equivalent_occur_all (tree_and t ts) (u ∷ us) a h =
      omega (arith, occurs-append (leaves u) (leaves_of (forest us)) a, occurs-append (leaves t) (leaves_of ts) a, equivalent_occurs t u a h.0, equivalent_occur_all ts us a h.1)

equivalent_count : (ts : Forest) (us : List Outline) → AreEquivalent ts us → length us ≡ count ts
equivalent_count no_tree [] h = refl
equivalent_count no_tree (u ∷ us) h = absurd h
equivalent_count (tree_and t ts) [] h = absurd h
equivalent_count (tree_and t ts) (u ∷ us) h = omega (arith, equivalent_count ts us h.1)

each_arities : (us : List Outline) → HaveArities (forest us) → AllByRecursion HasArities us
each_arities [] h = tt
each_arities (u ∷ us) h = (h.0, each_arities us h.1)

all_arities : (us : List Outline) → AllByRecursion HasArities us → HaveArities (forest us)
all_arities [] h = tt
all_arities (u ∷ us) h = (h.0, all_arities us h.1)

moved_arities : (us vs : List Outline) → IsPermutation us vs → HaveArities (forest us) → HaveArities (forest vs)
moved_arities us vs m h = all_arities vs (recursion_from_All HasArities vs (All-permutation HasArities us vs m (All-from_recursion HasArities us (each_arities us h))))

mutual
  pub equivalent_arities : (t u : Outline) → IsEquivalent t u → HasArities t → HasArities u
  equivalent_arities (leaf b) u h k = subst HasArities (sym h) tt
  equivalent_arities (p_node ts) u h k =
      subst HasArities (sym h.4)
      (omega (arith, count_forest h.1, length_permutation h.0 h.1 h.3, equivalent_count ts h.0 h.2, k.0), moved_arities h.0 h.1 h.3 (equivalent_arities_all ts h.0 h.2 k.1))
  equivalent_arities (q_node ts) u h k =
      elim h.2 [
        | inl e ↦ subst HasArities (sym e) (omega (arith, count_forest h.0, equivalent_count ts h.0 h.1, k.0), equivalent_arities_all ts h.0 h.1 k.1)
        | inr e ↦
            subst HasArities (sym e)
            (omega (arith, count_forest (reverse h.0), length-reverse h.0, equivalent_count ts h.0 h.1, k.0), moved_arities h.0 (reverse h.0) (IsPermutation-reverse h.0) (equivalent_arities_all ts h.0 h.1 k.1))
      ]

  pub equivalent_arities_all : (ts : Forest) (us : List Outline) → AreEquivalent ts us → HaveArities ts → HaveArities (forest us)
  equivalent_arities_all no_tree [] h k = tt
  equivalent_arities_all no_tree (u ∷ us) h k = absurd h
  equivalent_arities_all (tree_and t ts) [] h k = absurd h
  equivalent_arities_all (tree_and t ts) (u ∷ us) h k = (equivalent_arities t u h.0 k.0, equivalent_arities_all ts us h.1 k.1)

-- and back
mutual
  arities_back_from : (t u : Outline) → IsEquivalent t u → HasArities u → HasArities t
  arities_back_from (leaf b) u h k = tt
  arities_back_from (p_node ts) u h k =
      let w : HasArities (p_node (forest h.1)) = subst HasArities h.4 k in
      (omega (arith, count_forest h.1, length_permutation h.0 h.1 h.3, equivalent_count ts h.0 h.2, w.0), arities_back_from_all ts h.0 h.2 (moved_arities h.1 h.0 (IsPermutation-sym h.0 h.1 h.3) w.1))
  arities_back_from (q_node ts) u h k =
      elim h.2 [
        | inl e ↦
            let w : HasArities (q_node (forest h.0)) = subst HasArities e k in
            (omega (arith, count_forest h.0, equivalent_count ts h.0 h.1, w.0), arities_back_from_all ts h.0 h.1 w.1)
        | inr e ↦
            let w : HasArities (q_node (forest (reverse h.0))) = subst HasArities e k in
            let m : IsPermutation (reverse h.0) h.0 = IsPermutation-sym h.0 (reverse h.0) (IsPermutation-reverse h.0) in
            (omega (arith, count_forest (reverse h.0), length-reverse h.0, equivalent_count ts h.0 h.1, w.0), arities_back_from_all ts h.0 h.1 (moved_arities (reverse h.0) h.0 m w.1))
      ]

  arities_back_from_all : (ts : Forest) (us : List Outline) → AreEquivalent ts us → HaveArities (forest us) → HaveArities ts
  arities_back_from_all no_tree us h k = tt
  arities_back_from_all (tree_and t ts) [] h k = absurd h
  arities_back_from_all (tree_and t ts) (u ∷ us) h k = (arities_back_from t u h.0 k.0, arities_back_from_all ts us h.1 k.1)

pub equivalent_proper : (c : ℕ) (t u : Outline) → IsEquivalent t u → IsProper c t → IsProper c u
equivalent_proper c t u h w = (equivalent_arities t u h w.0, λ a. equivalent_occurs t u a h ∙ w.1 a)

pub proper_from_equivalent : (c : ℕ) (t u : Outline) → IsEquivalent t u → IsProper c u → IsProper c t
proper_from_equivalent c t u h w = (arities_back_from t u h w.0, λ a. sym (equivalent_occurs t u a h) ∙ w.1 a)

pub tree_from_proper : (c : ℕ) (t : Outline) → IsProper c t → IsTree t
tree_from_proper c t h = (h.0, order_once c (leaves t) h.1)
