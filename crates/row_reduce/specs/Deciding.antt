-- What is known of the nodes while the templates are decided, from the leaves of the row upwards.
use Rattle.std.specs.Prelude.{◌≡◌, ℕ, List}
use Rattle.tree_theory.specs.Templates.{Label}
use Rattle.tree_theory.specs.Reduced.{IsLabel}
use Rattle.arena_model.specs.Layout.{Layout}
use Rattle.arena_model.specs.NamedTree.{outline_below}
use Rattle.bubble_pass.specs.Marks.{Marks, label_at}
use Rattle.template_model.specs.Standing.{mark_of}

-- the tree at n has a label that is marked at n
pub record IsLabelled (f : Layout) (v : Marks) (row : List ℕ) (n : ℕ) : Type 0 where
  pub label : Label
  pub is : IsLabel row (outline_below f n) label
  pub marked : mark_of label ≡ label_at v n
