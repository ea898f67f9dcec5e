-- The nodes of a new arena before the leaves have come under a node.
use Rattle.std.specs.Prelude.{ℕ, zero, suc, ◌+◌, ◌*◌, ◌-◌, if◌then◌else◌, nat_lt, ◌==◌, List, [], ◌∷◌, ◌++◌, map, Option, Some, None}
use Rattle.arena_model.specs.declared.Shape.{Shape}
use Rattle.arena_model.specs.declared.Shape.TheVariants.{Leaf, P}
use Rattle.arena_model.specs.ChildLists.{none}
use Rattle.arena_model.specs.Layout.{Layout}
use Rattle.pq_arena.specs.declared.node.Head.{Head}
use Rattle.pq_arena.specs.Wiring.{kind_of}

-- the numbers below n
abbrev pub numbers : ℕ → List ℕ
numbers zero = []
numbers (suc n) = numbers n ++ n ∷ []

-- the k numbers from a on
abbrev pub from : ℕ → ℕ → List ℕ
from a zero = []
from a (suc k) = a ∷ from (suc a) k

-- the number of nodes of an arena for c columns
abbrev pub size : ℕ → ℕ
size c = 2 * c + 4

-- the shape of node i in an arena of which the first `used` nodes are in use: c leaves, and then a P-node
abbrev pub first_shape : ℕ → ℕ → ℕ → Option Shape
first_shape c used i = if nat_lt i c then Some (Leaf (i + 1)) else if nat_lt i used then Some P else None

-- the spare node behind node i
abbrev pub next_spare : ℕ → ℕ → ℕ → ℕ
next_spare c used i = if nat_lt i used then none else if i + 1 == size c then none else i + 1

-- what node i holds of itself and its children at first
abbrev pub first_head : ℕ → ℕ → ℕ → Head
first_head c used i = record { kind = kind_of (first_shape c used i); first = next_spare c used i; last = none; count = 0 }

-- the layout in which no node has a child; the last node in use is the root
abbrev pub bare_layout : ℕ → ℕ → Layout
bare_layout c used = record {
  slots = map (λ i. record { shape = first_shape c used i; children = [] }) (numbers (size c));
  root = used - 1;
  spares = from used (size c - used);
  columns = c;
}
