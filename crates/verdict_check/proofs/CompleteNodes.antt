-- A node is complete where its children are, its columns stay together and, of a Q-node, its children stand in line.
use Rattle.std.proofs.Common.{◌≡◌, ◌↔◌, ℕ, List, [], ◌∷◌, refl, sym, subst, inl, inr}
use Rattle.column_order.proofs.Lists.{has_cases}
use Rattle.row_model.specs.declared.graph.Pair.{Pair}
use Rattle.row_model.specs.Graph.{pair}
use Rattle.pq_tree.specs.Outline.{Outline, Forest, leaf, p_node, q_node, no_tree, tree_and, leaves, leaves_of}
use Rattle.tree_theory.specs.Tied.{IsClosed, IsInLine}
use Rattle.verdict_check.specs.Complete.{IsComplete, AreComplete}
use Rattle.verdict_check.proofs.Alike.{IsSorting}

module _ (R : Pair → Pair → Type 0) (l : List ℕ) where
  one_closed : IsSorting R → (a : ℕ) → IsClosed R l (a ∷ [])
  one_closed sorts a = λ x y d hx hy hd hn. subst (λ z. R (pair x d) (pair z d)) (elim (has_cases a y [] hy) [ inl e ↦ e | inr t ↦ absurd (cc) ]) (subst (λ z. R (pair z d) (pair a d)) (elim (has_cases a x [] hx) [ inl e ↦ e | inr t ↦ absurd (cc) ]) (sorts.stay (pair a d)))

  leaf_other : (a : ℕ) (ts : Forest) → q_node ts ≡ leaf a → ⊥
  leaf_other a ts e = cc

  p_other : (ts us : Forest) → q_node us ≡ p_node ts → ⊥
  p_other ts us e = cc

  q_same : (ts us : Forest) → q_node us ≡ q_node ts → us ≡ ts
  q_same ts us e = cc

  pub leaf_complete : IsSorting R → (a : ℕ) → IsComplete R l (leaf a)
  leaf_complete sorts a = (λ x n. subst (λ y. IsClosed R l (leaves y)) (sym n) (one_closed sorts a), λ ts n. absurd (leaf_other a ts n))

  pub none_complete : AreComplete R l no_tree
  none_complete = (λ x n. absurd n, λ us n. absurd n)

  pub and_complete : (t : Outline) (ts : Forest) → IsComplete R l t → AreComplete R l ts → AreComplete R l (tree_and t ts)
  and_complete t ts h k = (λ x n. elim n [ inl m ↦ h.0 x m | inr m ↦ k.0 x m ], λ us n. elim n [ inl m ↦ h.1 us m | inr m ↦ k.1 us m ])

  pub head_complete : (t : Outline) (ts : Forest) → AreComplete R l (tree_and t ts) → IsComplete R l t
  head_complete t ts h = (λ x m. h.0 x (inl m), λ us m. h.1 us (inl m))

  pub tail_complete : (t : Outline) (ts : Forest) → AreComplete R l (tree_and t ts) → AreComplete R l ts
  tail_complete t ts h = (λ x m. h.0 x (inr m), λ us m. h.1 us (inr m))

  pub p_complete : (ts : Forest) → (AreComplete R l ts × IsClosed R l (leaves_of ts)) ↔ IsComplete R l (p_node ts)
  p_complete ts = (
    λ h. (
      λ x n. elim n [ inl e ↦ subst (λ y. IsClosed R l (leaves y)) (sym e) h.1 | inr m ↦ h.0.0 x m ],
      λ us n. elim n [ inl e ↦ absurd (p_other ts us e) | inr m ↦ h.0.1 us m ],
    ),
    λ k. ((λ x m. k.0 x (inr m), λ us m. k.1 us (inr m)), k.0 (p_node ts) (inl refl)),
  )

  pub q_complete : (ts : Forest) → ((AreComplete R l ts × IsClosed R l (leaves_of ts)) × IsInLine R ts) ↔ IsComplete R l (q_node ts)
  q_complete ts = (
    λ h. (
      λ x n. elim n [ inl e ↦ subst (λ y. IsClosed R l (leaves y)) (sym e) h.0.1 | inr m ↦ h.0.0.0 x m ],
      λ us n. elim n [ inl e ↦ subst (IsInLine R) (sym (q_same ts us e)) h.1 | inr m ↦ h.0.0.1 us m ],
    ),
    λ k. (((λ x m. k.0 x (inr m), λ us m. k.1 us (inr m)), k.0 (q_node ts) (inl refl)), k.1 ts (inl refl)),
  )
