-- The frontiers of a tree are the orders of its columns under which the tree is bound.
use Rattle.std.proofs.Common.{◌≡◌, ◌∙◌, ℕ, ◌<◌, ◌≤◌, ltb, List, [], ◌∷◌, ◌++◌, reverse, IsTrue, sym, ap, inl, inr, arith, append-nil, append_assoc}
use Rattle.std.proofs.lemmas.Bool.{both_ways, lt-ltb, le-ltb}
use Rattle.std.proofs.lemmas.List.{reverse-append}
use Rattle.std.proofs.lemmas.List.Elements.{All-from_recursion, recursion_from_All}
use Rattle.std.proofs.lemmas.List.Sorted.{All-permutation, IsPermutation-sym, IsPermutation-reverse}
use Rattle.std.specs.List.{concat, AllByRecursion}
use Rattle.row_model.specs.declared.graph.Pair.{Pair}
use Rattle.column_order.specs.Orders.{has, occurs, place}
use Rattle.row_model.specs.Graph.{pair}
use Rattle.column_order.proofs.Lists.{has_append_cases, has_append_left, place-inj}
use Rattle.pq_tree.specs.Outline.{Outline, Forest, leaf, p_node, q_node, no_tree, tree_and, leaves, leaves_of, IsFrontier, AreFrontiers}
use Rattle.tree_theory.specs.Tied.{IsForward}
use Rattle.tree_theory.proofs.Bound.{IsClosed, AreClosed, IsBound, AreBound}
use Rattle.tree_theory.proofs.Frontiers.{frontier_has, frontiers_have, frontier_occurs, has_same, concat-append, occurs-permutation}
use Rattle.tree_theory.proofs.Sorted.{Rises, rises_left, rises_right, rises_below, rises_same}
use Rattle.tree_theory.proofs.Law.{Found, found}
use Rattle.tree_theory.proofs.Exact.{order_rises}

-- the first columns of the two pairs stand to the second ones alike, by their ranks
abbrev pub Alike : (ℕ → ℕ) → Pair → Pair → Type 0
Alike rank v w =
    (ltb (rank v.a) (rank v.b) ≡ ltb (rank w.a) (rank w.b)) × (ltb (rank v.b) (rank v.a) ≡ ltb (rank w.b) (rank w.a))

-- g stands in f with xs before it and ys behind it
pub record IsBlock (f g : List ℕ) : Type 0 where
  pub front : List ℕ
  pub rear : List ℕ
  pub is : f ≡ front ++ (g ++ rear)

module _ (rank : ℕ → ℕ) where
  ups : (v w : Pair) → rank v.a < rank v.b → rank w.a < rank w.b → Alike rank v w
  ups v w h k = (lt-ltb (rank v.a) (rank v.b) h ∙ sym (lt-ltb (rank w.a) (rank w.b) k), le-ltb (rank v.b) (rank v.a) (omega arith) ∙ sym (le-ltb (rank w.b) (rank w.a) (omega arith)))

  downs : (v w : Pair) → rank v.b < rank v.a → rank w.b < rank w.a → Alike rank v w
  downs v w h k = (le-ltb (rank v.a) (rank v.b) (omega arith) ∙ sym (le-ltb (rank w.a) (rank w.b) (omega arith)), lt-ltb (rank v.b) (rank v.a) h ∙ sym (lt-ltb (rank w.b) (rank w.a) k))

  blocks : (f : List ℕ) (gs : List (List ℕ)) (pre : List ℕ) → f ≡ pre ++ concat gs → AllByRecursion (IsBlock f) gs
  blocks f [] pre e = tt
  blocks f (g ∷ gs) pre e =
      (record { front = pre; rear = concat gs; is = e }, blocks f gs (pre ++ g) (e ∙ sym (append_assoc pre g (concat gs))))

  closed_block : (f l x g : List ℕ) → Rises rank f → ((d : ℕ) → has f d ≡ has l d) → ((d : ℕ) → has g d ≡ has x d) → IsBlock f g → IsClosed (Alike rank) l x
  closed_block f l x g r el ex k a b d xa xb ld xd =
      let rr : Rises rank (k.front ++ (g ++ k.rear)) = rw k.is at r in
      let ga : IsTrue (has g a) = ex a ∙ xa in
      let gb : IsTrue (has g b) = ex b ∙ xb in
      let fd : IsTrue (has (k.front ++ (g ++ k.rear)) d) = rw k.is at (el d ∙ ld) in
      elim (has_append_cases k.front (g ++ k.rear) d fd) [
        | inl h ↦
            downs (pair a d) (pair b d)
            (rises_below rank k.front (g ++ k.rear) rr d a h (has_append_left g k.rear a ga))
            (rises_below rank k.front (g ++ k.rear) rr d b h (has_append_left g k.rear b gb))
        | inr h ↦ elim (has_append_cases g k.rear d h) [
          | inl i ↦ absurd (both_ways (has x d) xd (sym (ex d) ∙ i))
          | inr i ↦
              let s : Rises rank (g ++ k.rear) = rises_right rank k.front (g ++ k.rear) rr in
              ups (pair a d) (pair b d) (rises_below rank g k.rear s a d ga i) (rises_below rank g k.rear s b d gb i)
        ]
      ]

  closed_blocks : (f l : List ℕ) (ts : Forest) (gs : List (List ℕ)) → Rises rank f → ((d : ℕ) → has f d ≡ has l d) → AreFrontiers ts gs →
      AllByRecursion (IsBlock f) gs → AreClosed (Alike rank) l ts
  closed_blocks f l no_tree gs r e h b = tt
  closed_blocks f l (tree_and t ts) [] r e h b = absurd h
  closed_blocks f l (tree_and t ts) (g ∷ gs) r e h b =
      (closed_block f l (leaves t) g r e (λ d. frontier_has t g d h.0) b.0, closed_blocks f l ts gs r e h.1 b.1)

  block_rises : (f g : List ℕ) → Rises rank f → IsBlock f g → Rises rank g
  block_rises f g r k = rises_left rank g k.rear (rises_right rank k.front (g ++ k.rear) (rw k.is at r))

  blocks_rise : (f : List ℕ) (gs : List (List ℕ)) → Rises rank f → AllByRecursion (IsBlock f) gs → AllByRecursion (Rises rank) gs
  blocks_rise f [] r b = tt
  blocks_rise f (g ∷ gs) r b = (block_rises f g r b.0, blocks_rise f gs r b.1)

  line_up : (ts : Forest) (fs : List (List ℕ)) → AreFrontiers ts fs → Rises rank (concat fs) → (v : Pair) → IsForward ts v → rank v.a < rank v.b
  line_up no_tree fs h r v k = absurd k
  line_up (tree_and t ts) [] h r v k = absurd h
  line_up (tree_and t ts) (f ∷ fs) h r v k =
      elim k [
        | inl i ↦ rises_below rank f (concat fs) r v.a v.b (frontier_has t f v.a h.0 ∙ i.0) (frontiers_have ts fs v.b h.1 ∙ i.1)
        | inr i ↦ line_up ts fs h.1 (rises_right rank f (concat fs) r) v i
      ]

  line_down : (ts : Forest) (fs : List (List ℕ)) → AreFrontiers ts fs → Rises rank (concat (reverse fs)) → (v : Pair) → IsForward ts v → rank v.b < rank v.a
  line_down no_tree fs h r v k = absurd k
  line_down (tree_and t ts) [] h r v k = absurd h
  line_down (tree_and t ts) (f ∷ fs) h r v k =
      let e : concat (reverse (f ∷ fs)) ≡ concat (reverse fs) ++ f =
      ap concat (reverse-append (f ∷ []) fs) ∙ concat-append (reverse fs) (f ∷ []) ∙ ap (λ x. concat (reverse fs) ++ x) (append-nil f) in
      let s : Rises rank (concat (reverse fs) ++ f) = rw e at r in
      elim k [
        | inl i ↦
            rises_below rank (concat (reverse fs)) f s v.b v.a
            (has_same (concat (reverse fs)) (concat fs) v.b (occurs-permutation fs (reverse fs) v.b (IsPermutation-reverse fs)) ∙ frontiers_have ts fs v.b h.1 ∙ i.1)
            (frontier_has t f v.a h.0 ∙ i.0)
        | inr i ↦ line_down ts fs h.1 (rises_left rank (concat (reverse fs)) f s) v i
      ]

  mutual
    -- A tree is bound under the rank by which one of its frontiers rises.
    pub frontier_bound : (t : Outline) (f : List ℕ) → IsFrontier t f → Rises rank f → IsBound (Alike rank) t
    frontier_bound (leaf a) f h r = tt
    frontier_bound (p_node ts) f h r =
        let bs : AllByRecursion (IsBlock f) h.0 =
        recursion_from_All (IsBlock f) h.0
        (All-permutation (IsBlock f) h.1 h.0 (IsPermutation-sym h.0 h.1 h.3) (All-from_recursion (IsBlock f) h.1 (blocks f h.1 [] h.4))) in
        (closed_blocks f (leaves_of ts) ts h.0 r (λ d. frontier_has (p_node ts) f d h) h.2 bs, frontiers_bound ts h.0 h.2 (blocks_rise f h.0 r bs))
    frontier_bound (q_node ts) f h r =
        elim h.2 [
          | inl e ↦ (
            λ v w i j. ups v w (line_up ts h.0 h.1 (rw e at r) v i) (line_up ts h.0 h.1 (rw e at r) w j),
            frontiers_bound ts h.0 h.1 (blocks_rise f h.0 r (blocks f h.0 [] e)),
          )
          | inr e ↦ (
            λ v w i j. downs v w (line_down ts h.0 h.1 (rw e at r) v i) (line_down ts h.0 h.1 (rw e at r) w j),
            frontiers_bound ts h.0 h.1
                (blocks_rise f h.0 r
                (recursion_from_All (IsBlock f) h.0
                (All-permutation (IsBlock f) (reverse h.0) h.0 (IsPermutation-sym h.0 (reverse h.0) (IsPermutation-reverse h.0)) (All-from_recursion (IsBlock f) (reverse h.0) (blocks f (reverse h.0) [] e))))),
          )
        ]

    pub frontiers_bound : (ts : Forest) (fs : List (List ℕ)) → AreFrontiers ts fs → AllByRecursion (Rises rank) fs → AreBound (Alike rank) ts
    frontiers_bound no_tree fs h r = tt
    frontiers_bound (tree_and t ts) [] h r = absurd h
    frontiers_bound (tree_and t ts) (f ∷ fs) h r = (frontier_bound t f h.0 r.0, frontiers_bound ts fs h.1 r.1)

-- An order of the columns under which the tree is bound is a frontier of it.
pub bound_frontier : (t : Outline) (o : List ℕ) → ((a : ℕ) → occurs (leaves t) a ≤ 1) → ((a : ℕ) → occurs o a ≡ occurs (leaves t) a) → IsBound (Alike (place o)) t → IsFrontier t o
bound_frontier t o once same b =
    let k : Found (Alike (place o)) (place o) (place-inj o) (λ v w r. r.0) t = found (Alike (place o)) (place o) (place-inj o) (λ v w r. r.0) t b once in
    let e : k.order ≡ o =
    rises_same (place o) k.order o k.rises (order_rises o (λ a. rw (same a) (once a)))
    (λ x. has_same k.order o x (frontier_occurs t k.order x k.frontier ∙ sym (same x))) in
    rw e at k.frontier
