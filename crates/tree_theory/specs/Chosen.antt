-- Which template makes what of a node, by the labels ps of its children ts.
use Rattle.std.specs.Prelude.{true, false, List}
use Rattle.pq_tree.specs.Outline.{Outline, Forest}
use Rattle.tree_theory.specs.Templates.{Partial, Label, empty_label, full_label, partial_label, AreAllEmpty, IsShape, p1, q1, IsP1, IsP2, IsP3, IsP4, IsP5, IsP6, IsQ1, IsQ2, IsQ3}

-- the label of a P-node below the pertinent root: it is empty, or P1, P3 or P5 gives the label
pub data IsLabelOfP (ts : Forest) (ps : List Label) : Label → Type 0 where
  p_empty : AreAllEmpty ts ps → IsLabelOfP ts ps empty_label
  by_p1 : IsP1 ts ps → IsLabelOfP ts ps full_label
  by_p3 : (h : Partial) → IsP3 false ts ps h → IsLabelOfP ts ps (partial_label h)
  by_p5 : (h : Partial) → IsP5 false ts ps h → IsLabelOfP ts ps (partial_label h)

-- the label of a Q-node below the pertinent root: it is empty, or Q1 or Q2 gives the label
pub data IsLabelOfQ (ts : Forest) (ps : List Label) : Label → Type 0 where
  q_empty : AreAllEmpty ts ps → IsLabelOfQ ts ps empty_label
  by_q1 : IsQ1 ts ps → IsLabelOfQ ts ps full_label
  by_q2 : (h : Partial) → IsQ2 ts ps h → IsLabelOfQ ts ps (partial_label h)

-- what P1, P2, P4 or P6 makes of a P-node that is the pertinent root
pub data IsRootOfP (ts : Forest) (ps : List Label) : Outline → Type 0 where
  root_p1 : IsP1 ts ps → IsRootOfP ts ps (p1 ts)
  root_p2 : (u : Outline) → IsP2 true ts ps u → IsRootOfP ts ps u
  root_p4 : (u : Outline) → IsP4 true ts ps u → IsRootOfP ts ps u
  root_p6 : (u : Outline) → IsP6 true ts ps u → IsRootOfP ts ps u

-- what Q1, Q2 or Q3 makes of a Q-node that is the pertinent root
pub data IsRootOfQ (ts : Forest) (ps : List Label) : Outline → Type 0 where
  root_q1 : IsQ1 ts ps → IsRootOfQ ts ps (q1 ts)
  root_q2 : (x : Partial) (u : Outline) → IsQ2 ts ps x → IsShape x u → IsRootOfQ ts ps u
  root_q3 : (u : Outline) → IsQ3 true ts ps u → IsRootOfQ ts ps u
