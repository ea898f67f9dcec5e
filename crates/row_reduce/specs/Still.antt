-- Where no template changes anything.
use Rattle.std.specs.Prelude.{◌≡◌, ℕ, ◌≤◌, Some}
use Rattle.column_order.specs.Orders.{occurs}
use Rattle.arena_model.specs.declared.Shape.TheVariants.{P}
use Rattle.arena_model.specs.Layout.{Layout, shape_at, children_at}
use Rattle.bubble_pass.specs.declared.labels.Label.TheVariants.{Full}
use Rattle.bubble_pass.specs.Marks.{Marks, label_at}
use Rattle.templates_q.specs.Span.{HasNoPartial}

-- no child of n is partial, and where n is a P-node, all are full
pub record IsStill (f : Layout) (v : Marks) (n : ℕ) : Type 0 where
  pub plain : HasNoPartial f v n
  pub whole : shape_at f n ≡ Some P → (k : ℕ) → 1 ≤ occurs (children_at f n) k → label_at v k ≡ Full
