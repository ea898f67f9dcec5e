-- From the nodes of a tree to its stretches: where the columns of each node stay together and the children of each Q-node stand in
-- line, the columns next to each gap make related pairs with those outside its stretch.
use Rattle.std.proofs.Common.{◌≡◌, ◌⊎◌, ℕ, zero, suc, ◌+◌, ◌-◌, ◌<◌, ◌≤◌, List, ◌++◌, length, slice_index, refl, subst, inl, inr, arith, length-append}
use Rattle.std.specs.Prelude.{All}
use Rattle.std.proofs.lemmas.Bool.{cases_lt}
use Rattle.std.proofs.lemmas.List.Elements.{All-nil, All-append}
use Rattle.column_order.specs.Orders.{occurs}
use Rattle.column_order.proofs.Lists.{has_at}
use Rattle.row_model.specs.declared.graph.Pair.{Pair}
use Rattle.pq_tree.specs.Outline.{Outline, Forest, leaf, p_node, q_node, no_tree, tree_and, leaves, leaves_of}
use Rattle.pq_tree.specs.Nodes.{IsNode, IsNodeOf}
use Rattle.pq_tree.specs.Proper.{HasArities, HaveArities}
use Rattle.tree_theory.specs.Tied.{IsForward, IsClosed, IsInLine}
use Rattle.tree_theory.proofs.Bound.{IsPairEq}
use Rattle.bound_tree.specs.Stretches.{stretch, stretches, stretches_of, starts, whole_stretches, near_stretches}
use Rattle.bound_tree.proofs.Alike.{AlikeAt, IsAlike}
use Rattle.bound_tree.proofs.Cells.{cell}
use Rattle.bound_tree.proofs.Lists.{whole_from, near_from}
use Rattle.bound_tree.proofs.Parts.{IsPart, front_part, rear_part, part_has, part_lacks}
use Rattle.bound_tree.proofs.Starts.{starts_first, starts_last, starts_within, starts_rise}

-- a pair of positions with the begin of a tree between them goes forward in the trees
pub forward_at : (o : List ℕ) (ts : Forest) (s : ℕ) → IsPart o s (leaves_of ts) → (i y z : ℕ) → i < length (starts s ts) → s ≤ y → y < slice_index (starts s ts) i →
    slice_index (starts s ts) i ≤ z → z < s + length (leaves_of ts) → IsForward ts (cell o y z)
forward_at o no_tree s p zero y z k l u m w = absurd (omega arith)
forward_at o no_tree s p (suc i) y z k l u m w = absurd (omega arith)
forward_at o (tree_and t ts) s p zero y z k l u m w = absurd (omega arith)
forward_at o (tree_and t ts) s p (suc i) y z k l u m w =
    let mid : ℕ = s + length (leaves t) in
    let n : length (leaves t ++ leaves_of ts) ≡ length (leaves t) + length (leaves_of ts) = length-append (leaves t) (leaves_of ts) in
    elim (cases_lt y mid) [
      | inl a ↦
          inl (
            part_has o s (leaves t) (front_part o s (leaves t) (leaves_of ts) p) y l a,
            part_has o mid (leaves_of ts) (rear_part o s (leaves t) (leaves_of ts) p) z (omega (arith, m, (starts_within mid ts i (omega arith)).0)) (omega (arith, w, n)),
          )
      | inr a ↦ inr (forward_at o ts mid (rear_part o s (leaves t) (leaves_of ts) p) i y z (omega arith) a u m (omega (arith, w, n)))
    ]

module _ (R : Pair → Pair → Type 0) (eq : IsPairEq R) (o : List ℕ) (once : (a : ℕ) → occurs o a ≤ 1) where
  -- two neighbouring columns of a node with one outside it
  closed_alike : (l : List ℕ) (s : ℕ) → IsPart o s l → IsClosed R o l → (x p : ℕ) → s < x → x < s + length l → p < length o → (p < s) ⊎ (s + length l ≤ p) → AlikeAt R o x p
  closed_alike l s part closed x p a b w out =
      closed (slice_index o (x - 1)) (slice_index o x) (slice_index o p) (part_has o s l part (x - 1) (omega arith) (omega arith)) (part_has o s l part x (omega arith) b)
      (has_at o p w) (part_lacks o once s l part p w out)

  -- the gaps between the children of a Q-node
  near_alike : (ts : Forest) (s : ℕ) → HaveArities ts → IsPart o s (leaves_of ts) → IsClosed R o (leaves_of ts) → IsInLine R ts → (i : ℕ) → 1 ≤ i → i + 1 < length (starts s ts) →
      IsAlike R o (stretch (slice_index (starts s ts) i) (slice_index (starts s ts) (i - 1)) (slice_index (starts s ts) (i + 1)))
  near_alike ts s h part closed line i l u =
      let ns : List ℕ = starts s ts in
      let at : ℕ = slice_index ns i in
      let from : ℕ = slice_index ns (i - 1) in
      let to : ℕ = slice_index ns (i + 1) in
      let e : i - 1 + 1 ≡ i = omega arith in
      let left : from < at = subst (λ j. from < slice_index ns j) e (starts_rise s ts h (i - 1) (omega arith)) in
      let right : at < to = starts_rise s ts h i u in
      let low : s ≤ from = (starts_within s ts (i - 1) (omega arith)).0 in
      let high : to ≤ s + length (leaves_of ts) = (starts_within s ts (i + 1) u).1 in
      record {
        behind = λ p m w.
            elim (cases_lt p (s + length (leaves_of ts))) [
              | inl k ↦
                  line (cell o (at - 1) p) (cell o at p)
                  (forward_at o ts s part (i + 1) (at - 1) p u (omega arith) (omega arith) m k)
                  (forward_at o ts s part (i + 1) at p u (omega arith) right m k)
              | inr k ↦ closed_alike (leaves_of ts) s part closed at p (omega arith) (omega arith) w (inr k)
            ];
        before = λ p m.
            elim (cases_lt p s) [
              | inl k ↦ closed_alike (leaves_of ts) s part closed at p (omega arith) (omega arith) (omega (arith, part.inside)) (inl k)
              | inr k ↦
                  eq.flip (cell o p (at - 1)) (cell o p at)
                  (line (cell o p (at - 1)) (cell o p at)
                  (forward_at o ts s part (i - 1) p (at - 1) (omega arith) k m (omega arith) (omega arith))
                  (forward_at o ts s part (i - 1) p at (omega arith) k m (omega arith) (omega arith)))
            ];
      }

  module _ (t : Outline) (together : (x : Outline) → IsNode x t → IsClosed R o (leaves x)) (in_line : (ts : Forest) → IsNode (q_node ts) t → IsInLine R ts) where
    mutual
      pub tree_gaps : (y : Outline) (s : ℕ) → HasArities y → IsPart o s (leaves y) → ((x : Outline) → IsNode x y → IsNode x t) → All (IsAlike R o) (stretches s y)
      tree_gaps (leaf a) s h part below = All-nil (IsAlike R o)
      tree_gaps (p_node ts) s h part below =
          let closed : IsClosed R o (leaves_of ts) = together (p_node ts) (below (p_node ts) (inl refl)) in
          All-append (IsAlike R o) (stretches_of s ts) (whole_stretches (starts s ts)) (trees_gaps ts s h.1 part (λ x n. below x (inr n)))
          (whole_from (IsAlike R o) (starts s ts) (λ i l u.
          let e : i - 1 + 1 ≡ i = omega arith in
          let left : slice_index (starts s ts) (i - 1) < slice_index (starts s ts) i =
          subst (λ j. slice_index (starts s ts) (i - 1) < slice_index (starts s ts) j) e (starts_rise s ts h.1 (i - 1) (omega arith)) in
          let a : s < slice_index (starts s ts) i = omega (arith, left, (starts_within s ts (i - 1) (omega arith)).0) in
          let b : slice_index (starts s ts) i < s + length (leaves_of ts) = omega (arith, starts_rise s ts h.1 i u, (starts_within s ts (i + 1) u).1) in
          record {
            behind = λ p m w. closed_alike (leaves_of ts) s part closed (slice_index (starts s ts) i) p a b w (inr (omega (arith, m, starts_last s ts)));
            before = λ p m. closed_alike (leaves_of ts) s part closed (slice_index (starts s ts) i) p a b (omega (arith, m, starts_first s ts, part.inside)) (inl (omega (arith, m, starts_first s ts)));
          }))
      tree_gaps (q_node ts) s h part below =
          All-append (IsAlike R o) (stretches_of s ts) (near_stretches (starts s ts)) (trees_gaps ts s h.1 part (λ x n. below x (inr n)))
          (near_from (IsAlike R o) (starts s ts)
          (near_alike ts s h.1 part (together (q_node ts) (below (q_node ts) (inl refl))) (in_line ts (below (q_node ts) (inl refl)))))

      trees_gaps : (ts : Forest) (s : ℕ) → HaveArities ts → IsPart o s (leaves_of ts) → ((x : Outline) → IsNodeOf x ts → IsNode x t) → All (IsAlike R o) (stretches_of s ts)
      trees_gaps no_tree s h part below = All-nil (IsAlike R o)
      trees_gaps (tree_and y ts) s h part below =
          All-append (IsAlike R o) (stretches s y) (stretches_of (s + length (leaves y)) ts)
          (tree_gaps y s h.0 (front_part o s (leaves y) (leaves_of ts) part) (λ x n. below x (inl n)))
          (trees_gaps ts (s + length (leaves y)) h.1 (rear_part o s (leaves y) (leaves_of ts) part) (λ x n. below x (inr n)))
