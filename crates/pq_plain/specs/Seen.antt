-- The labels of the program as the templates speak of them.
use Rattle.std.specs.Prelude.{ℕ, ◌+◌, List, [], ◌∷◌, map}
use Rattle.std.proofs.Common.{suc}
use Rattle.std.specs.declared.vec.Vec.{Vec}
use Rattle.std.specs.declared.alloc.Global.{Global}
use Rattle.pq_tree.specs.Outline.{Forest}
use Rattle.pq_tree.specs.Proper.{outline_of}
use Rattle.pq_tree.specs.Forests.{forest}
use Rattle.pq_tree.specs.declared.Tree.{Tree}
use Rattle.tree_theory.specs.Labels.{Partial, Label, empty_label, full_label, partial_label, empty_trees, full_trees}
use Rattle.pq_plain.specs.declared.label.Halves.{Halves}
use Rattle.pq_plain.specs.declared.label.Label.{Label as Marked}
use Rattle.pq_plain.specs.declared.label.Label.TheVariants.{Empty, Full, Partial as Cut}
use Rattle.pq_plain.specs.declared.label.Whole.{Whole}
use Rattle.pq_plain.specs.declared.label.Whole.TheVariants.{Empty as AllEmpty, Full as AllFull}

-- the outlines of the trees
abbrev pub outlines : List Tree → Forest
outlines ts = forest (map outline_of ts)

-- the two runs of a partial
abbrev pub halves_seen : Halves → Partial
halves_seen h = record { e = outlines h.empty.items; f = outlines h.full.items }

-- a label
abbrev pub label_seen : Marked → Label
label_seen Empty = empty_label
label_seen Full = full_label
label_seen (Cut h) = partial_label (halves_seen h)

-- how many labels are empty
abbrev pub empties : List Label → ℕ
empties [] = 0
empties (empty_label ∷ ps) = 1 + empties ps
empties (full_label ∷ ps) = empties ps
empties (partial_label h ∷ ps) = empties ps

-- how many are full
abbrev pub fulls : List Label → ℕ
fulls [] = 0
fulls (empty_label ∷ ps) = fulls ps
fulls (full_label ∷ ps) = 1 + fulls ps
fulls (partial_label h ∷ ps) = fulls ps

-- a list of labels
abbrev pub labels_seen : Vec Marked Global → List Label
labels_seen v = map label_seen v.items

-- how many empty labels come first
abbrev pub empty_front : List Label → ℕ
empty_front [] = 0
empty_front (empty_label ∷ ps) = suc (empty_front ps)
empty_front (full_label ∷ ps) = 0
empty_front (partial_label h ∷ ps) = 0

-- how many full labels come first
abbrev pub full_front : List Label → ℕ
full_front [] = 0
full_front (empty_label ∷ ps) = 0
full_front (full_label ∷ ps) = suc (full_front ps)
full_front (partial_label h ∷ ps) = 0

-- the label, and what is counted and picked by it
abbrev pub whole_label : Whole → Marked
whole_label AllEmpty = Empty
whole_label AllFull = Full

abbrev pub whole_front : Whole → List Label → ℕ
whole_front AllEmpty = empty_front
whole_front AllFull = full_front

abbrev pub whole_trees : Whole → Forest → List Label → Forest
whole_trees AllEmpty = empty_trees
whole_trees AllFull = full_trees

-- one where the first label is partial, else zero
abbrev pub cut_front : List Label → ℕ
cut_front [] = 0
cut_front (empty_label ∷ ps) = 0
cut_front (full_label ∷ ps) = 0
cut_front (partial_label h ∷ ps) = 1
