-- What a ghost field claims of a tree has at most one proof.
use Rattle.std.specs.Prelude.{ℕ}
use Rattle.std.specs.Coded.{×_prop, Unit-prop, le_prop}
use Rattle.pq_tree.specs.Outline.{Outline, Forest, leaf, p_node, q_node, no_tree, tree_and}
use Rattle.order_list.specs.Low.{AreFrom, FirstsRise, StandsLow, StandLow}

AreFrom-prop : (m : ℕ) (ts : Forest) → IsProp (AreFrom m ts)
AreFrom-prop m no_tree = Unit-prop
AreFrom-prop m (tree_and t ts) = ×_prop le_prop (AreFrom-prop m ts)

FirstsRise-prop : (ts : Forest) → IsProp (FirstsRise ts)
FirstsRise-prop no_tree = Unit-prop
FirstsRise-prop (tree_and t ts) = ×_prop (AreFrom-prop _ ts) (FirstsRise-prop ts)

mutual
  pub StandsLow-prop : (t : Outline) → IsProp (StandsLow t)
  StandsLow-prop (leaf a) = Unit-prop
  StandsLow-prop (p_node ts) = ×_prop (FirstsRise-prop ts) (StandLow-prop ts)
  StandsLow-prop (q_node ts) = ×_prop le_prop (StandLow-prop ts)

  StandLow-prop : (ts : Forest) → IsProp (StandLow ts)
  StandLow-prop no_tree = Unit-prop
  StandLow-prop (tree_and t ts) = ×_prop (StandsLow-prop t) (StandLow-prop ts)
