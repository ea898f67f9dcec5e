-- When the nodes of an arena stand for a layout, and the layout that is read from them.
use Rattle.std.specs.Prelude.{zero, suc, ◌≡◌, ◌⊎◌, ℕ, cond, eqb, List, [], ◌∷◌, Option, Some, None, length, map}
use Rattle.arena_model.specs.declared.Shape.{Shape}
use Rattle.arena_model.specs.declared.Shape.TheVariants.{Leaf, P, Q}
use Rattle.pq_arena.specs.declared.node.Link.{Link}
use Rattle.pq_arena.specs.declared.node.Head.{Head}
use Rattle.arena_model.specs.ChildLists.{head_or, last_or, none, end_parent}
use Rattle.arena_model.specs.Layout.{Slot, Layout, shape_at, children_at, times_child, IsLayout}
use Rattle.pq_arena.specs.Wiring.{seat, no_link, link, head, kind_of, kind_shape}

-- each of the list has its place between the one before it and the one after it
abbrev pub EachBetween : (ℕ → ℕ → ℕ → Type 0) → ℕ → List ℕ → ℕ → Type 0
EachBetween S before [] after = Unit {0}
EachBetween S before (x ∷ xs) after = S x before (head_or xs after) × EachBetween S x xs after

-- x stands in the ring of the P-node m between these two: it holds m, the one behind it and the one before it
abbrev pub IsInRing : List Link → ℕ → ℕ → ℕ → ℕ → Type 0
IsInRing ls m x before after = link ls x ≡ seat m after before

-- x stands in the run of the Q-node m between these two, which it holds in either order; only an end child holds m
abbrev pub IsInRun : List Link → ℕ → ℕ → ℕ → ℕ → Type 0
IsInRun ls m x before after =
    (link ls x ≡ seat (end_parent m before after) before after) ⊎ (link ls x ≡ seat (end_parent m before after) after before)

-- the children of a node stand in a ring or in a run
abbrev pub IsSeated : List Link → ℕ → Option Shape → List ℕ → Type 0
IsSeated ls m None ks = Unit {0}
IsSeated ls m (Some (Leaf a)) ks = Unit {0}
IsSeated ls m (Some P) ks = EachBetween (IsInRing ls m) (last_or ks none) ks (head_or ks none)
IsSeated ls m (Some Q) ks = EachBetween (IsInRun ls m) none ks none

-- what a node of this shape and with these children holds of itself
abbrev pub head_of : Shape → List ℕ → Head
head_of (Leaf a) ks = record { kind = kind_of (Some (Leaf a)); first = none; last = none; count = 0 }
head_of P ks = record { kind = kind_of (Some P); first = head_or ks none; last = none; count = length ks }
head_of Q ks = record { kind = kind_of (Some Q); first = head_or ks none; last = last_or ks none; count = 0 }

-- the spare nodes hang together by `first`
abbrev pub AreSpare : List Head → ℕ → List ℕ → Type 0
AreSpare hs x [] = x ≡ none
AreSpare hs x (y ∷ ys) = (x ≡ y) × AreSpare hs (head hs y).first ys

-- The nodes stand for a layout: each holds the shape and the ends that it has there, the children of each P-node form a
-- ring and those of each Q-node a run, a node with no node above has no link, and the spare nodes hang together.
pub record StandsFor (ls : List Link) (hs : List Head) (root spare count columns : ℕ) (f : Layout) : Type 0 where
  pub layout : IsLayout f
  pub links_few : length ls ≡ length f.slots
  pub heads_few : length hs ≡ length f.slots
  pub root_is : root ≡ f.root
  pub columns_are : columns ≡ f.columns
  pub shapes : (m : ℕ) → kind_shape (head hs m).kind ≡ shape_at f m
  pub heads_are : (m : ℕ) (s : Shape) → shape_at f m ≡ Some s → head hs m ≡ head_of s (children_at f m)
  pub seats : (m : ℕ) → IsSeated ls m (shape_at f m) (children_at f m)
  pub tops : (x : ℕ) → times_child f.slots x ≡ 0 → link ls x ≡ no_link
  pub spares_are : AreSpare hs spare f.spares
  pub spares_count : count ≡ length f.spares

-- the neighbour on the other side of the one that a walk came from
abbrev pub other_side : Link → ℕ → ℕ
other_side l before = cond (eqb l.near0 before) l.near1 l.near0

-- the children of a run from x on, at most so many
abbrev pub run_read : List Link → ℕ → ℕ → ℕ → List ℕ
run_read ls zero before x = []
run_read ls (suc k) before x = cond (eqb x none) [] (x ∷ run_read ls k x (other_side (link ls x) before))

-- so many children of a ring from x on
abbrev pub ring_read : List Link → ℕ → ℕ → List ℕ
ring_read ls zero x = []
ring_read ls (suc k) x = x ∷ ring_read ls k (link ls x).near0

-- so many spare nodes from x on
abbrev pub spare_read : List Head → ℕ → ℕ → List ℕ
spare_read hs zero x = []
spare_read hs (suc k) x = x ∷ spare_read hs k (head hs x).first

-- the children of a node with this shape and head
abbrev pub children_read : List Link → Option Shape → Head → List ℕ
children_read ls None h = []
children_read ls (Some (Leaf a)) h = []
children_read ls (Some P) h = ring_read ls h.count h.first
children_read ls (Some Q) h = run_read ls (length ls) none h.first

-- the shape and the children of a node with this head
abbrev pub slot_read : List Link → Head → Slot
slot_read ls h = record { shape = kind_shape h.kind; children = children_read ls (kind_shape h.kind) h }

-- the layout that the nodes tell
unfoldable pub layout_read : List Link → List Head → ℕ → ℕ → ℕ → ℕ → Layout
layout_read ls hs root spare count columns =
    record { slots = map (slot_read ls) hs; root = root; spares = spare_read hs count spare; columns = columns }
