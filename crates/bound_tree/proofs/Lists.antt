-- What holds of all stretches of a tree holds of those at each node, and the other way round.
use Rattle.std.proofs.Common.{ℕ, ◌+◌, ◌-◌, ◌<◌, ◌≤◌, List, ◌++◌, length, map, slice_index, refl, sym, subst, inl, inr, arith, length-append}
use Rattle.std.specs.Prelude.{All}
use Rattle.std.specs.List.{range_with_len}
use Rattle.std.proofs.lemmas.List.{get_or_append_left, get_or-append-add}
use Rattle.std.proofs.lemmas.List.FromFn.{length-map-range_with_len, get_or-map-range_with_len}
use Rattle.pq_tree.specs.Outline.{Outline, Forest, leaf, p_node, q_node, no_tree, tree_and, leaves, leaves_of}
use Rattle.pq_tree.specs.Nodes.{IsNode, IsNodeOf}
use Rattle.bound_tree.specs.declared.stretch.Stretch.{Stretch}
use Rattle.bound_tree.specs.Stretches.{stretch, stretches, stretches_of, starts, whole_stretches, near_stretches}
use Rattle.bound_tree.proofs.Parts.{IsPart, front_part, rear_part}

module _ (P : Stretch → Type 0) where
  pub all_front : (xs ys : List Stretch) → All P (xs ++ ys) → All P xs
  all_front xs ys all k d h = subst P (get_or_append_left xs ys d k h) (all k d (omega (arith, h, length-append xs ys)))

  pub all_rear : (xs ys : List Stretch) → All P (xs ++ ys) → All P ys
  all_rear xs ys all k d h = subst P (get_or-append-add xs ys k d) (all (length xs + k) d (omega (arith, h, length-append xs ys)))

  each : (f : ℕ → Stretch) (n : ℕ) → All P (map f (range_with_len 1 n)) → (i : ℕ) → 1 ≤ i → i ≤ n → P (f i)
  each f n all i l u =
      subst P (get_or-map-range_with_len f 1 n (i - 1) i (f i) (omega arith) (omega arith))
      (all (i - 1) (f i) (omega (arith, length-map-range_with_len f 1 n)))

  from_each : (f : ℕ → Stretch) (n : ℕ) → ((i : ℕ) → 1 ≤ i → i ≤ n → P (f i)) → All P (map f (range_with_len 1 n))
  from_each f n h k d l =
      let m : k < n = omega (arith, l, length-map-range_with_len f 1 n) in
      subst P (sym (get_or-map-range_with_len f 1 n k (1 + k) d m refl)) (h (1 + k) (omega arith) (omega arith))

  pub whole_each : (ns : List ℕ) → All P (whole_stretches ns) → (i : ℕ) → 1 ≤ i → i + 1 < length ns →
      P (stretch (slice_index ns i) (slice_index ns 0) (slice_index ns (length ns - 1)))
  whole_each ns all i l u =
      each (λ i. stretch (slice_index ns i) (slice_index ns 0) (slice_index ns (length ns - 1))) (length ns - 2) all i l (omega arith)

  pub whole_from : (ns : List ℕ) → ((i : ℕ) → 1 ≤ i → i + 1 < length ns → P (stretch (slice_index ns i) (slice_index ns 0) (slice_index ns (length ns - 1)))) →
      All P (whole_stretches ns)
  whole_from ns h =
      from_each (λ i. stretch (slice_index ns i) (slice_index ns 0) (slice_index ns (length ns - 1))) (length ns - 2) (λ i l u. h i l (omega arith))

  pub near_each : (ns : List ℕ) → All P (near_stretches ns) → (i : ℕ) → 1 ≤ i → i + 1 < length ns →
      P (stretch (slice_index ns i) (slice_index ns (i - 1)) (slice_index ns (i + 1)))
  near_each ns all i l u =
      each (λ i. stretch (slice_index ns i) (slice_index ns (i - 1)) (slice_index ns (i + 1))) (length ns - 2) all i l (omega arith)

  pub near_from : (ns : List ℕ) → ((i : ℕ) → 1 ≤ i → i + 1 < length ns → P (stretch (slice_index ns i) (slice_index ns (i - 1)) (slice_index ns (i + 1)))) →
      All P (near_stretches ns)
  near_from ns h =
      from_each (λ i. stretch (slice_index ns i) (slice_index ns (i - 1)) (slice_index ns (i + 1))) (length ns - 2) (λ i l u. h i l (omega arith))

  module _ (o : List ℕ) where
    -- a node's leaves are a part of the order, and its stretches are among those of the tree
    pub record IsPlaced (x : Outline) : Type 0 where
      pub from : ℕ
      pub part : IsPart o from (leaves x)
      pub all : All P (stretches from x)

    mutual
      pub node_placed : (t : Outline) (s : ℕ) → IsPart o s (leaves t) → All P (stretches s t) → (x : Outline) → IsNode x t → IsPlaced x
      node_placed (leaf a) s p all x n = subst IsPlaced (sym n) (record { from = s; part = p; all = all })
      node_placed (p_node ts) s p all x n =
          elim n [
            | inl e ↦ subst IsPlaced (sym e) (record { from = s; part = p; all = all })
            | inr k ↦ nodes_placed ts s p (all_front (stretches_of s ts) (whole_stretches (starts s ts)) all) x k
          ]
      node_placed (q_node ts) s p all x n =
          elim n [
            | inl e ↦ subst IsPlaced (sym e) (record { from = s; part = p; all = all })
            | inr k ↦ nodes_placed ts s p (all_front (stretches_of s ts) (near_stretches (starts s ts)) all) x k
          ]

      nodes_placed : (ts : Forest) (s : ℕ) → IsPart o s (leaves_of ts) → All P (stretches_of s ts) → (x : Outline) → IsNodeOf x ts → IsPlaced x
      nodes_placed no_tree s p all x n = absurd n
      nodes_placed (tree_and t ts) s p all x n =
          elim n [
            | inl k ↦ node_placed t s (front_part o s (leaves t) (leaves_of ts) p) (all_front (stretches s t) (stretches_of (s + length (leaves t)) ts) all) x k
            | inr k ↦ nodes_placed ts (s + length (leaves t)) (rear_part o s (leaves t) (leaves_of ts) p) (all_rear (stretches s t) (stretches_of (s + length (leaves t)) ts) all) x k
          ]
