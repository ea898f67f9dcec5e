-- What the program finds of the children of a node, by their labels.
use Rattle.std.specs.Prelude.{◌-◌, List, take, drop, reverse, Option, Some, None}
use Rattle.pq_tree.specs.Outline.{Outline, Forest, no_tree, tree_and}
use Rattle.pq_tree.specs.Forests.{forest, back}
use Rattle.tree_theory.specs.Templates.{Partial, Label, empty_label, full_label, partial_label, q2, IsRun, IsTwoSidedRun}
use Rattle.tree_theory.specs.Chosen.{IsLabelOfQ}
use Rattle.tree_theory.specs.Labels.{partials, first_of}
use Rattle.pq_plain.specs.declared.label.Run.{Run}
use Rattle.pq_plain.specs.declared.at_root.Span.{Span}

-- where the children of a Q-node read empty, at most one partial, full, they are cut there
abbrev pub IsRunCut : List Outline → List Label → Option Run → Type 0
IsRunCut ts ps (Some r) = IsRun (forest ts) ps (forest (take r.before ts)) (first_of (partials ps)) (forest (drop r.behind ts))
IsRunCut ts ps None = (es : Forest) (h : Option Partial) (fs : Forest) → IsRun (forest ts) ps es h fs → ⊥

-- where they read empty, at most one partial, full, at most one partial, empty
abbrev pub IsSpanCut : List Outline → List Label → Option Span → Type 0
IsSpanCut ts ps (Some s) =
    IsTwoSidedRun (forest ts) ps (forest (take s.before ts)) (first_of (partials (take s.full_from ps))) (forest (take (s.full_to - s.full_from) (drop s.full_from ts)))
    (first_of (partials (drop s.full_from ps))) (forest (drop s.behind ts))
IsSpanCut ts ps None = (es fs gs : Forest) (h k : Option Partial) → IsTwoSidedRun (forest ts) ps es h fs k gs → ⊥

-- the label of a Q-node with these children from one end: full by Q1, empty, or partial by Q2
abbrev pub run_label : Forest → Option Partial → Forest → Label
run_label no_tree None fs = full_label
run_label (tree_and e es) None no_tree = empty_label
run_label (tree_and e es) None (tree_and f fs) = partial_label (q2 (tree_and e es) None (tree_and f fs))
run_label es (Some h) fs = partial_label (q2 es (Some h) fs)

-- the label of a Q-node read from its last child; none, where from there its children are no run
abbrev pub IsLabelFromEnd : Forest → List Label → Option Label → Type 0
IsLabelFromEnd ts ps (Some x) = IsLabelOfQ ts ps x
IsLabelFromEnd ts ps None = (es : Forest) (h : Option Partial) (fs : Forest) → IsRun (back ts) (reverse ps) es h fs → ⊥
