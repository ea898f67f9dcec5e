-- The nodes that a row meets below the pertinent root are paid by the leaves in the row, and by the weight that the templates take.
use Rattle.std.proofs.Common.{◌≡◌, ℕ, ◌+◌, ◌*◌, ◌≤◌, List, [], refl, arith}
use Rattle.pq_tree.specs.Outline.{Outline, Forest, no_tree, tree_and}
use Rattle.pq_tree.specs.Forests.{count, back}
use Rattle.pq_tree.specs.Amortised.{nodes_met, nodes_met_of, weight, weight_of}
use Rattle.pq_tree.proofs.Amortised.{nodes_met_of-join}
use Rattle.tree_theory.specs.Templates.{Partial, Label, empty_label, full_label, partial_label, star, IsSorted, none_sorted, to_empty, to_full, to_partial}
use Rattle.tree_theory.proofs.Sorts.{AreEach}
use Rattle.tree_theory.proofs.Measures.{measure_parts}
use Rattle.tree_theory.proofs.Hits.{hits, hits_of, hits_of-and, hits_of-join}

-- An empty tree has no met node. The met nodes of a full one are fewer than twice its leaves. Those of a partial one, and the
-- weight of the trees that it becomes, are no more than twice its leaves in the row and its weight.
abbrev pub IsPaid : List ℕ → Outline → Label → Type 0
IsPaid row t empty_label = nodes_met row t ≡ 0
IsPaid row t full_label = nodes_met row t + 1 ≤ 2 * hits row t
IsPaid row t (partial_label h) = nodes_met row t + (weight_of h.e + weight_of h.f) ≤ 2 * hits row t + weight t

-- so for each of the trees
abbrev pub ArePaid : List ℕ → Forest → List Label → Type 0
ArePaid row ts ps = AreEach (IsPaid row) ts ps

-- the trees from the other end
pub nodes_met_of-back : (row : List ℕ) (ts : Forest) → nodes_met_of row (back ts) ≡ nodes_met_of row ts
nodes_met_of-back row no_tree = refl
nodes_met_of-back row (tree_and t ts) = omega (arith, nodes_met_of-join row (back ts) (tree_and t no_tree), nodes_met_of-back row ts)

pub hits_of-back : (row : List ℕ) (ts : Forest) → hits_of row (back ts) ≡ hits_of row ts
hits_of-back row no_tree = refl
hits_of-back row (tree_and t ts) =
    omega (arith, hits_of-join row (back ts) (tree_and t no_tree), hits_of-and row t no_tree, hits_of-and row t ts, hits_of-back row ts)

-- what is paid of the children of a node, sorted by their labels
pub sorted_paid : (row : List ℕ) {ts es fs : Forest} {ps : List Label} {hs : List Partial} → IsSorted ts ps es fs hs → ArePaid row ts ps →
    nodes_met_of row ts + count fs + (weight_of es + weight_of fs + measure_parts weight_of hs) ≤ 2 * hits_of row ts + weight_of ts
sorted_paid row none_sorted h = omega arith
sorted_paid row (to_empty {t = t} {ts = ts} s) h = omega (arith, h.0, hits_of-and row t ts, sorted_paid row s h.1)
sorted_paid row (to_full {t = t} {ts = ts} s) h = omega (arith, h.0, hits_of-and row t ts, sorted_paid row s h.1)
sorted_paid row (to_partial {t = t} {ts = ts} s) h = omega (arith, h.0, hits_of-and row t ts, sorted_paid row s h.1)

-- empty trees are not met
pub empty_unmet : (row : List ℕ) {ts es : Forest} {ps : List Label} → IsSorted ts ps es no_tree [] → ArePaid row ts ps → nodes_met_of row ts ≡ 0
empty_unmet row none_sorted h = refl
empty_unmet row (to_empty s) h = omega (arith, h.0, empty_unmet row s h.1)

pub star_one : (xs : Forest) → count (star xs) ≤ 1
star_one no_tree = omega arith
star_one (tree_and t no_tree) = omega arith
star_one (tree_and t (tree_and u us)) = omega arith
