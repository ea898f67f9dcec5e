-- A reduction inside a child that holds the whole row is one of the node.
use Rattle.std.proofs.Common.{◌≡◌, ◌∙◌, ℕ, List, IsTrue, sym, inl, inr, arith}
use Rattle.row_model.specs.declared.graph.Pair.{Pair}
use Rattle.column_order.specs.Orders.{has, occurs}
use Rattle.column_order.proofs.Lists.{has_append_left, occurs-append, has_same}
use Rattle.pq_tree.specs.Outline.{Outline, Forest, p_node, q_node, no_tree, tree_and, leaves, leaves_of}
use Rattle.tree_theory.specs.Tied.{IsForward}
use Rattle.tree_theory.proofs.Bound.{IsClosed, AreClosed, IsInLine, IsBound, AreBound, line_closed, IsPairEq}
use Rattle.pq_tree.specs.Forests.{join}
use Rattle.pq_tree.proofs.Forests.{has_join_right}
use Rattle.tree_theory.proofs.AtRoot.{Rooted, set_through}

-- two lists of trees with a tree t in the one where the other has u
module _ (t u : Outline) (same : (a : ℕ) → occurs (leaves u) a ≡ occurs (leaves t) a) where
  u_like : (a : ℕ) → has (leaves u) a ≡ has (leaves t) a
  u_like a = has_same (leaves u) (leaves t) a (same a)

  pub swap_occurs : (xs ys : Forest) (a : ℕ) → occurs (leaves_of (join xs (tree_and u ys))) a ≡ occurs (leaves_of (join xs (tree_and t ys))) a
  swap_occurs no_tree ys a = omega (arith, occurs-append (leaves u) (leaves_of ys) a, occurs-append (leaves t) (leaves_of ys) a, same a)
  swap_occurs (tree_and x xs) ys a =
      omega (arith, occurs-append (leaves x) (leaves_of (join xs (tree_and u ys))) a, occurs-append (leaves x) (leaves_of (join xs (tree_and t ys))) a, swap_occurs xs ys a)

  swap_has : (xs ys : Forest) (a : ℕ) → has (leaves_of (join xs (tree_and u ys))) a ≡ has (leaves_of (join xs (tree_and t ys))) a
  swap_has xs ys a = has_same (leaves_of (join xs (tree_and u ys))) (leaves_of (join xs (tree_and t ys))) a (swap_occurs xs ys a)

  module _ (R : Pair → Pair → Type 0) (l m : List ℕ) (lm : (a : ℕ) → has m a ≡ has l a) where
    scope : (x : List ℕ) → IsClosed R l x → IsClosed R m x
    scope x h a b d i j k n = h a b d i j (sym (lm d) ∙ k) n

    scopes : (xs : Forest) → AreClosed R l xs → AreClosed R m xs
    scopes no_tree h = tt
    scopes (tree_and x xs) h = (scope (leaves x) h.0, scopes xs h.1)

    -- from the list with t to that with u
    swap_closed : (xs ys : Forest) → AreClosed R l (join xs (tree_and t ys)) → AreClosed R m (join xs (tree_and u ys))
    swap_closed no_tree ys h =
        ((λ a b d i j k n. h.0 a b d (sym (u_like a) ∙ i) (sym (u_like b) ∙ j) (sym (lm d) ∙ k) (sym (u_like d) ∙ n)), scopes ys h.1)
    swap_closed (tree_and x xs) ys h = (scope (leaves x) h.0, swap_closed xs ys h.1)

  swap_forward : (xs ys : Forest) (v : Pair) → IsForward (join xs (tree_and u ys)) v → IsForward (join xs (tree_and t ys)) v
  swap_forward no_tree ys v h = elim h [ inl k ↦ inl (sym (u_like v.a) ∙ k.0, k.1) | inr k ↦ inr k ]
  swap_forward (tree_and x xs) ys v h =
      elim h [ inl k ↦ inl (k.0, sym (swap_has xs ys v.b) ∙ k.1) | inr k ↦ inr (swap_forward xs ys v k) ]

  swap_bound : (R : Pair → Pair → Type 0) (xs ys : Forest) → AreBound R (join xs (tree_and t ys)) → IsBound R u → AreBound R (join xs (tree_and u ys))
  swap_bound R no_tree ys h b = (b, h.1)
  swap_bound R (tree_and x xs) ys h b = (h.0, swap_bound R xs ys h.1 b)

pub the_bound : (R : Pair → Pair → Type 0) (t : Outline) (xs ys : Forest) → AreBound R (join xs (tree_and t ys)) → IsBound R t
the_bound R t no_tree ys h = h.0
the_bound R t (tree_and x xs) ys h = the_bound R t xs ys h.1

pub the_closed : (R : Pair → Pair → Type 0) (l : List ℕ) (t : Outline) (xs ys : Forest) → AreClosed R l (join xs (tree_and t ys)) → IsClosed R l (leaves t)
the_closed R l t no_tree ys h = h.0
the_closed R l t (tree_and x xs) ys h = the_closed R l t xs ys h.1

pub the_within : (t : Outline) (xs ys : Forest) (a : ℕ) → IsTrue (has (leaves t) a) → IsTrue (has (leaves_of (join xs (tree_and t ys))) a)
the_within t xs ys a h = has_join_right xs (tree_and t ys) a (has_append_left (leaves t) (leaves_of ys) a h)

module _ (row : List ℕ) (t u : Outline) (r : Rooted row t u) (within : (a : ℕ) → IsTrue (has row a) → IsTrue (has (leaves t) a)) (xs ys : Forest) where
  back_same : (a : ℕ) → occurs (leaves t) a ≡ occurs (leaves u) a
  back_same a = sym (r.same a)

  inner_bound : (R : Pair → Pair → Type 0) → IsPairEq R → AreBound R (join xs (tree_and u ys)) → IsBound R t × IsClosed R (leaves t) row
  inner_bound R eq b = r.up R eq (the_bound R u xs ys b)

  row_closed : (R : Pair → Pair → Type 0) → AreClosed R (leaves_of (join xs (tree_and t ys))) (join xs (tree_and t ys)) → IsClosed R (leaves t) row → IsClosed R (leaves_of (join xs (tree_and t ys))) row
  row_closed R c k = set_through R (leaves_of (join xs (tree_and t ys))) (leaves t) row within (the_closed R (leaves_of (join xs (tree_and t ys))) t xs ys c) k

  outer_bound : (R : Pair → Pair → Type 0) → IsPairEq R → AreBound R (join xs (tree_and t ys)) → IsClosed R (leaves_of (join xs (tree_and t ys))) row → AreBound R (join xs (tree_and u ys))
  outer_bound R eq b c = swap_bound t u r.same R xs ys b (r.down R eq (the_bound R t xs ys b) (λ a e d i j k n. c a e d i j (the_within t xs ys d k) n))

  pub rooted_p : Rooted row (p_node (join xs (tree_and t ys))) (p_node (join xs (tree_and u ys)))
  rooted_p =
      record {
        same = swap_occurs t u r.same xs ys;
        up = λ R eq b.
            let k : IsBound R t × IsClosed R (leaves t) row = inner_bound R eq b.1 in
            let c : AreClosed R (leaves_of (join xs (tree_and t ys))) (join xs (tree_and t ys)) =
            swap_closed u t back_same R (leaves_of (join xs (tree_and u ys))) (leaves_of (join xs (tree_and t ys))) (λ a. sym (swap_has t u r.same xs ys a)) xs ys b.0 in
            ((c, swap_bound u t back_same R xs ys b.1 k.0), row_closed R c k.1);
        down = λ R eq b c. (
          swap_closed t u r.same R (leaves_of (join xs (tree_and t ys))) (leaves_of (join xs (tree_and u ys))) (swap_has t u r.same xs ys) xs ys b.0,
          outer_bound R eq b.1 c,
        );
      }

  pub rooted_q : Rooted row (q_node (join xs (tree_and t ys))) (q_node (join xs (tree_and u ys)))
  rooted_q =
      record {
        same = swap_occurs t u r.same xs ys;
        up = λ R eq b.
            let k : IsBound R t × IsClosed R (leaves t) row = inner_bound R eq b.1 in
            let c : IsInLine R (join xs (tree_and t ys)) = λ v w i j. b.0 v w (swap_forward u t back_same xs ys v i) (swap_forward u t back_same xs ys w j) in
            ((c, swap_bound u t back_same R xs ys b.1 k.0), row_closed R (line_closed R eq (join xs (tree_and t ys)) c) k.1);
        down = λ R eq b c. ((λ v w i j. b.0 v w (swap_forward t u r.same xs ys v i) (swap_forward t u r.same xs ys w j)), outer_bound R eq b.1 c);
      }
