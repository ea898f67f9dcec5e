-- The gaps between neighbouring leaves of a tree, and what stands around them.
use Rattle.std.specs.Prelude.{ℕ, ◌+◌, ◌-◌, List, [], ◌∷◌, ◌++◌, length, map, slice_index}
use Rattle.std.specs.List.{range_with_len}
use Rattle.pq_tree.specs.Outline.{Outline, Forest, leaf, p_node, q_node, no_tree, tree_and, leaves}
use Rattle.bound_tree.specs.declared.stretch.Stretch.{Stretch}

abbrev pub stretch : ℕ → ℕ → ℕ → Stretch
stretch at from to = record { at = at; from = from; to = to }

-- where each of the trees begins, the first of them at s, and where the last ends
abbrev pub starts : ℕ → Forest → List ℕ
starts s no_tree = s ∷ []
starts s (tree_and t ts) = s ∷ starts (s + length (leaves t)) ts

-- for each gap between two children that begin there: a stretch over all children
abbrev pub whole_stretches : List ℕ → List Stretch
whole_stretches ns =
    map
    (λ i. stretch (slice_index ns i) (slice_index ns 0) (slice_index ns (length ns - 1)))
    (range_with_len 1 (length ns - 2))

-- for each gap between two children that begin there: a stretch over these two
abbrev pub near_stretches : List ℕ → List Stretch
near_stretches ns =
    map
    (λ i. stretch (slice_index ns i) (slice_index ns (i - 1)) (slice_index ns (i + 1)))
    (range_with_len 1 (length ns - 2))

-- The stretches of a tree whose leaves begin at position s. Where two neighbouring leaves part at a P-node, the stretch holds all its
-- leaves. Where they part at a Q-node, it holds those of the two children.
abbrev mutual
  pub stretches : ℕ → Outline → List Stretch
  stretches s (leaf a) = []
  stretches s (p_node ts) = stretches_of s ts ++ whole_stretches (starts s ts)
  stretches s (q_node ts) = stretches_of s ts ++ near_stretches (starts s ts)

  -- the stretches of trees that stand side by side
  pub stretches_of : ℕ → Forest → List Stretch
  stretches_of s no_tree = []
  stretches_of s (tree_and t ts) = stretches s t ++ stretches_of (s + length (leaves t)) ts
