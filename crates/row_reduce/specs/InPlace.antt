-- What stays where a row is reduced in place.
use Rattle.std.specs.Prelude.{◌≡◌, ℕ, if◌then◌else◌, ◌==◌, List}
use Rattle.arena_model.specs.ChildLists.{with_replaced}
use Rattle.arena_model.specs.Layout.{Layout, shape_at, children_at}
use Rattle.arena_model.specs.RowLeaves.{Holds}
use Rattle.template_model.specs.Treated.{IsOutside}

-- In g the node a stands in the place that q has in f. Each node that is not at or below q has the same number, shape and
-- children in both, but for a in the place of q among them.
pub record StaysAround (f g : Layout) (q a : ℕ) : Type 0 where
  pub root : g.root ≡ (if f.root == q then a else f.root)
  pub outside : (m : ℕ) → IsOutside f q m →
      (shape_at g m ≡ shape_at f m) × (children_at g m ≡ with_replaced (children_at f m) q a)

-- Take any node q that holds the row, for example the smallest. All that is not at or below q is in g as it was in f, but
-- another node may have taken the place of q.
abbrev pub IsInPlace : List ℕ → Layout → Layout → Type 0
IsInPlace row f g = (q : ℕ) → Holds f row q → (a : ℕ) × StaysAround f g q a
