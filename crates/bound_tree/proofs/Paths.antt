-- Where an order is free, the columns next to a gap make alike pairs with the columns outside its stretch.
use Rattle.std.proofs.Common.{◌≡◌, ℕ, zero, suc, ◌+◌, ◌-◌, ◌<◌, ◌≤◌, List, length, subst, inl, inr, arith}
use Rattle.column_order.specs.Orders.{IsValidOrder}
use Rattle.row_model.specs.declared.graph.Pair.{Pair}
use Rattle.row_model.specs.Graph.{Evenly}
use Rattle.open_gaps.specs.Gaps.{IsOpen}
use Rattle.tree_theory.proofs.Bridge.{evenly_eq}
use Rattle.bound_tree.specs.Free.{LeadsBehind, LeadsBefore}
use Rattle.bound_tree.proofs.Cells.{cell, open_evenly, open_behind, open_before}

module _ (c : ℕ) (rows : List (List ℕ)) (o : List ℕ) (valid : IsValidOrder c rows o) where
  abbrev R : Pair → Pair → Type 0
  R = Evenly c rows

  -- across an open gap with the column of the gap in the second place
  second : (q p : ℕ) → q + 1 < length o → p < length o → IsOpen rows o q p → R (cell o p q) (cell o p (q + 1))
  second q p lq lp h = (evenly_eq c rows).flip (cell o q p) (cell o (q + 1) p) (open_evenly c rows o valid q p lq lp h)

  -- around the corner: (q,p) and (q,r), (q,r) and (d,r), (d,p) and (d,r)
  around : (v w y z : Pair) → R v w → R w z → R y z → R v y
  around v w y z a b d = (evenly_eq c rows).join v w y a ((evenly_eq c rows).join w z y b ((evenly_eq c rows).turn y z d))

  behind_from : (q to : ℕ) → q + 1 < to → ((p : ℕ) → to ≤ p → p < length o → LeadsBehind rows o (q + 1) p) →
      (fuel p : ℕ) → length o ≤ fuel + p → to ≤ p → p < length o → R (cell o q p) (cell o (q + 1) p)
  behind_from q to l leads zero p f m u = absurd (omega arith)
  behind_from q to l leads (suc fuel) p f m u =
      elim (leads p m u) [
        | inl h ↦ open_evenly c rows o valid q p (omega arith) u (subst (λ i. IsOpen rows o i p) (omega arith) h)
        | inr h ↦
            around (cell o q p) (cell o q (p + 1)) (cell o (q + 1) p) (cell o (q + 1) (p + 1))
            (second p q h.0 (omega arith) (open_before c rows o valid p (q + 1) q (omega arith) (omega arith) h.0 h.1))
            (behind_from q to l leads fuel (p + 1) (omega arith) (omega arith) h.0)
            (second p (q + 1) h.0 (omega arith) h.1)
      ]

  -- behind the stretch
  pub alike_behind : (q to : ℕ) → q + 1 < to → ((p : ℕ) → to ≤ p → p < length o → LeadsBehind rows o (q + 1) p) →
      (p : ℕ) → to ≤ p → p < length o → R (cell o q p) (cell o (q + 1) p)
  alike_behind q to l leads p m u = behind_from q to l leads (length o) p (omega arith) m u

  -- and before it
  pub alike_before : (q from : ℕ) → from ≤ q → q + 1 < length o → ((p : ℕ) → p < from → LeadsBefore rows o (q + 1) p) →
      (p : ℕ) → p < from → R (cell o q p) (cell o (q + 1) p)
  alike_before q from l u leads zero m =
      elim (leads zero m) [
        | inl h ↦ open_evenly c rows o valid q zero u (omega arith) (subst (λ i. IsOpen rows o i zero) (omega arith) h)
        | inr h ↦ absurd (omega arith)
      ]
  alike_before q from l u leads (suc p) m =
      elim (leads (suc p) m) [
        | inl h ↦ open_evenly c rows o valid q (suc p) u (omega arith) (subst (λ i. IsOpen rows o i (suc p)) (omega arith) h)
        | inr h ↦
            let near : IsOpen rows o p q = subst (λ i. IsOpen rows o i q) (omega arith) (subst (IsOpen rows o (suc p - 1)) (omega arith) h.1) in
            let next : p + 1 ≡ suc p = omega arith in
            (evenly_eq c rows).join (cell o q (suc p)) (cell o q p) (cell o (q + 1) (suc p))
            ((evenly_eq c rows).turn (cell o q p) (cell o q (suc p)) (subst (λ i. R (cell o q p) (cell o q i)) next (second p q (omega arith) (omega arith) near)))
            ((evenly_eq c rows).join (cell o q p) (cell o (q + 1) p) (cell o (q + 1) (suc p))
            (alike_before q from l u leads p (omega arith))
            (subst (λ i. R (cell o (q + 1) p) (cell o (q + 1) i)) next
            (second p (q + 1) (omega arith) u (open_behind c rows o valid p q (q + 1) (omega arith) (omega arith) u near))))
      ]
