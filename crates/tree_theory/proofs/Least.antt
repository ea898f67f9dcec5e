-- The least column of a tree is told by its columns.
use Rattle.std.proofs.Common.{◌≡◌, ◌∙◌, ℕ, ◌≤◌, false, List, [], ◌∷◌, map, IsTrue, refl, sym, ap, inl, inr, arith}
use Rattle.std.proofs.lemmas.Bool.{both_ways}
use Rattle.column_order.specs.Orders.{has}
use Rattle.column_order.proofs.Lists.{has_cases, has_append_cases, has_same}
use Rattle.pq_tree.specs.Outline.{Outline, Forest, leaf, p_node, q_node, no_tree, tree_and, leaves, leaves_of}
use Rattle.pq_tree.specs.Forests.{trees}
use Rattle.pq_tree.specs.Proper.{HasArities, HaveArities}
use Rattle.pq_tree.specs.Equivalent.{IsEquivalent, AreEquivalent}
use Rattle.pq_tree.specs.Canonical.{least, least_of}
use Rattle.pq_tree.proofs.Canonical.{least_has}
use Rattle.pq_tree.proofs.Equivalent.{equivalent_occurs, equivalent_arities}

mutual
  least_below : (t : Outline) (a : ℕ) → IsTrue (has (leaves t) a) → least t ≤ a
  least_below (leaf b) a h =
      elim (has_cases b a [] h) [
        | inl e ↦ omega arith
        | inr k ↦ absurd (both_ways false refl k)
      ]
  least_below (p_node ts) a h = least_below_all ts a h
  least_below (q_node ts) a h = least_below_all ts a h

  least_below_all : (ts : Forest) (a : ℕ) → IsTrue (has (leaves_of ts) a) → least_of ts ≤ a
  least_below_all no_tree a h = absurd (both_ways false refl h)
  least_below_all (tree_and t no_tree) a h =
      elim (has_append_cases (leaves t) [] a h) [
        | inl k ↦ least_below t a k
        | inr k ↦ absurd (both_ways false refl k)
      ]
  least_below_all (tree_and t (tree_and u us)) a h =
      elim (has_append_cases (leaves t) (leaves_of (tree_and u us)) a h) [
        | inl k ↦ omega (arith, least_below t a k)
        | inr k ↦ omega (arith, least_below_all (tree_and u us) a k)
      ]

-- turned trees have the same least column
pub turned_least : (t u : Outline) → HasArities t → IsEquivalent t u → least t ≡ least u
turned_least t u h e =
    let same : (a : ℕ) → has (leaves u) a ≡ has (leaves t) a = λ a. has_same (leaves u) (leaves t) a (equivalent_occurs t u a e) in
    let low : least t ≤ least u = least_below t (least u) (sym (same (least u)) ∙ least_has u (equivalent_arities t u e h)) in
    let high : least u ≤ least t = least_below u (least t) (same (least t) ∙ least_has t h) in
    omega (arith, low, high)

pub turned_leasts : (ts : Forest) (us : List Outline) → HaveArities ts → AreEquivalent ts us → map least (trees ts) ≡ map least us
turned_leasts no_tree [] h e = refl
turned_leasts no_tree (u ∷ us) h e = absurd e
turned_leasts (tree_and t ts) [] h e = absurd e
turned_leasts (tree_and t ts) (u ∷ us) h e =
    ap (λ n. n ∷ map least (trees ts)) (turned_least t u h.0 e.0) ∙ ap (λ ns. least u ∷ ns) (turned_leasts ts us h.1 e.1)
