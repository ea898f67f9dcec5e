-- A canonical tree is told by its frontiers.
use Rattle.std.proofs.Common.{◌≡◌, ◌↔◌, ℕ, List}
use Rattle.column_order.specs.Orders.{IsValidOrder}
use Rattle.pq_tree.specs.Outline.{Outline}
use Rattle.pq_tree.specs.Proper.{IsProper}
use Rattle.pq_tree.specs.Equivalent.{IsEquivalent}
use Rattle.pq_tree.specs.Canonical.{IsCanonical}
use Rattle.pq_tree.proofs.Frontiers.{same_frontiers}
use Rattle.pq_tree.proofs.Equivalent.{equivalent_proper}
use Rattle.tree_theory.specs.CanonicalLaws.{HaveSameFrontiers, HasOrdersOf, IsCanonicalOver}
use Rattle.tree_theory.proofs.Same.{one_shape}
use Rattle.tree_theory.proofs.Canon.{one_canonical}

pub one_tree : (c : ℕ) (t u : Outline) → IsCanonicalOver c t → IsCanonicalOver c u → HaveSameFrontiers t u → t ≡ u
one_tree c t u ht hu same = one_canonical t u (one_shape c t u ht.0 hu.0 same) ht.0.0 ht.1 hu.1

pub same_orders : (c : ℕ) (rows others : List (List ℕ)) (t u : Outline) → IsCanonicalOver c t → IsCanonicalOver c u → HasOrdersOf c rows t → HasOrdersOf c others u →
    ((o : List ℕ) → IsValidOrder c rows o ↔ IsValidOrder c others o) → t ≡ u
same_orders c rows others t u ht hu p q same =
    one_tree c t u ht hu (λ o. ((λ f. (q o).1 ((same o).0 ((p o).0 f))), (λ f. (p o).1 ((same o).1 ((q o).0 f)))))

pub one_form : (c : ℕ) (t v u : Outline) → IsProper c t → IsEquivalent t v → IsCanonical v → IsCanonicalOver c u → HaveSameFrontiers t u → v ≡ u
one_form c t v u ht e hv hu same =
    one_tree c v u (equivalent_proper c t v e ht, hv) hu
    (λ o. ((λ f. (same o).0 ((same_frontiers t v e o).1 f)), (λ f. (same_frontiers t v e o).0 ((same o).1 f))))
