-- Two children or more.
use Rattle.std.specs.Prelude.{◌≡◌, ◌⊎◌, ℕ, ◌≤◌, Some, length}
use Rattle.arena_model.specs.declared.Shape.TheVariants.{P, Q}
use Rattle.arena_model.specs.Layout.{Layout, shape_at, children_at}

-- the node has two children or more, if it is a P-node or a Q-node
abbrev pub HasTwo : Layout → ℕ → Type 0
HasTwo f n = (shape_at f n ≡ Some P) ⊎ (shape_at f n ≡ Some Q) → 2 ≤ length (children_at f n)
