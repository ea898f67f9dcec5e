-- The gaps between the neighbouring leaves of a tree.
use Rattle.std.specs.Prelude.{◌≡◌, ℕ, ◌<◌, ◌≤◌, ◌+◌, ◌-◌, List, [], ◌∷◌, ◌++◌, length, slice_index_or}
use Rattle.row_model.specs.Positions.{ArePositions}
use Rattle.pq_tree.specs.Outline.{Outline, Forest, leaf, p_node, q_node, no_tree, tree_and, leaves}
use Rattle.pq_tree.specs.Proper.{IsProper}
use Rattle.verdict_judge.specs.declared.gaps.LeafGap.{LeafGap}
use Rattle.verdict_judge.specs.declared.gaps.LeafGap.TheVariants.{P, Q}
use Rattle.verdict_judge.specs.declared.gaps.Gaps.{Gaps}

-- The gap before each leaf, from left to right: the depth and the kind of the node at which the leaf and the one before it part.
-- The tree itself lies at depth d, and g is the gap before its first leaf.
abbrev mutual
  pub gaps : LeafGap → ℕ → Outline → List LeafGap
  gaps g d (leaf a) = g ∷ []
  gaps g d (p_node ts) = gaps_of g (P d) (1 + d) ts
  gaps g d (q_node ts) = gaps_of g (Q d) (1 + d) ts

  -- the same for trees at depth d that are the children of one node, where s is the gap between two of them
  pub gaps_of : LeafGap → LeafGap → ℕ → Forest → List LeafGap
  gaps_of g s d no_tree = []
  gaps_of g s d (tree_and t ts) = gaps g d t ++ gaps_of s s d ts

-- the depth of a gap
abbrev pub depth : LeafGap → ℕ
depth (P d) = d
depth (Q d) = d

-- the gap lies deeper, or is at a Q-node at least as deep
abbrev pub LiesWithin : ℕ → LeafGap → Type 0
LiesWithin outer (P d) = outer < d
LiesWithin outer (Q d) = outer ≤ d

-- the gap at an index, a gap at depth 0 past the last
abbrev pub gap_at : List LeafGap → ℕ → LeafGap
gap_at gs i = slice_index_or gs i (P 0)

-- the gap at an index lies within the gap before first and within the gap at last
abbrev pub IsWithinBoth : List LeafGap → ℕ → ℕ → ℕ → Type 0
IsWithinBoth gs first last i = LiesWithin (depth (gap_at gs (first - 1))) (gap_at gs i) × LiesWithin (depth (gap_at gs last)) (gap_at gs i)

-- each gap from first to before last lies within both
abbrev pub AreWithin : List LeafGap → ℕ → ℕ → Type 0
AreWithin gs first last = (i : ℕ) → first ≤ i → i < last → IsWithinBoth gs first last i

-- the gaps of a proper tree, a gap at depth 0 at each end, with the positions of its leaves
pub record AreGaps (t : Outline) (g : Gaps) : Type 0 where
  pub proper : IsProper (length g.positions.items) t
  pub positions : ArePositions (leaves t) g.positions.items
  pub gaps : g.gaps.items ≡ gaps (P 0) 1 t ++ P 0 ∷ []
