-- Some children of a P-node, which are full, while the others are empty.
use Rattle.std.specs.Prelude.{◌≡◌, ℕ, ◌≤◌, ◌<◌, List, map, length, Some, if◌then◌else◌}
use Rattle.column_order.specs.Orders.{has, occurs}
use Rattle.arena_model.specs.declared.Shape.TheVariants.{P}
use Rattle.arena_model.specs.Layout.{Layout, shape_at, children_at}
use Rattle.tree_theory.specs.Templates.{Label, empty_label, full_label}

-- these are children of the P-node n, each once, two or more and not all
pub record AreMembers (f : Layout) (n : ℕ) (members : List ℕ) : Type 0 where
  pub is_p : shape_at f n ≡ Some P
  pub once : (k : ℕ) → occurs members k ≤ 1
  pub child : (k : ℕ) → 1 ≤ occurs members k → 1 ≤ occurs (children_at f n) k
  pub two : 2 ≤ length members
  pub not_all : length members < length (children_at f n)

-- a label for each of the nodes: the full one for a member, the empty one for another
abbrev pub member_labels : List ℕ → List ℕ → List Label
member_labels members ks = map (λ k. if has members k then full_label else empty_label) ks
