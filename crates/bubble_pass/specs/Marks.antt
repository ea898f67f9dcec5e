-- What the pass leaves at the nodes, as clauses see it.
use Rattle.std.specs.Prelude.{◌≡◌, ℕ, List, [], ◌∷◌, Option, Some, None, Bool, false, cond, eqb, length, set, take, map}
use Rattle.pq_arena.specs.declared.node.NodeId.{NodeId}
use Rattle.bubble_pass.specs.declared.labels.Label.{Label}
use Rattle.bubble_pass.specs.declared.labels.Label.TheVariants.{Empty}
use Rattle.bubble_pass.specs.declared.tables.Tables.{Tables}
use Rattle.bubble_pass.specs.declared.work.Work.TheInside.{Inside}
use Rattle.pq_arena.specs.RowNodes.{indices}
use Rattle.bubble_pass.specs.Chains.{entry, number}
use Rattle.bubble_pass.specs.Sweep.{label}
use Rattle.bubble_pass.specs.Tables.{AreKept, node_at, seat_of}

-- The labels, the numbers of full and of partial children and the chains by nodes, the labelled nodes in their order,
-- and whether the last pass ended inside a Q-node. A chain hangs together by places: each place has a node, and each
-- node has a place.
pub record Marks : Type 0 where
  pub labels : List Label
  pub nodes : List ℕ
  pub full : List ℕ
  pub partial : List ℕ
  pub first : List (Option NodeId)
  pub next : List (Option NodeId)
  pub seat_nodes : List (Option NodeId)
  pub seats : List (Option NodeId)
  pub inside : Bool

-- the label of node n
abbrev pub label_at : Marks → ℕ → Label
label_at w n = label w.labels n

-- how many children of node n are full
abbrev pub fulls_at : Marks → ℕ → ℕ
fulls_at w n = number w.full n

-- how many children of node n are partial
abbrev pub partials_at : Marks → ℕ → ℕ
partials_at w n = number w.partial n

-- the node that has this place, if there is one
abbrev pub placed_node : List (Option NodeId) → Option NodeId → Option NodeId
placed_node nodes None = None
placed_node nodes (Some s) = Some (node_at nodes s)

-- the first labelled child of n
abbrev pub first_of : Marks → ℕ → Option NodeId
first_of w n = placed_node w.seat_nodes (entry w.first n)

-- the labelled child behind n
abbrev pub next_of : Marks → NodeId → Option NodeId
next_of w n = placed_node w.seat_nodes (entry w.next (seat_of w.seats n).index)

-- from o on these nodes follow one another
abbrev pub IsFollowed : Marks → Option NodeId → List NodeId → Type 0
IsFollowed w o [] = o ≡ None
IsFollowed w o (x ∷ xs) = (o ≡ Some x) × IsFollowed w (next_of w x) xs

-- the chain of n: its first labelled child, and from each on the next
abbrev pub IsChain : Marks → ℕ → List NodeId → Type 0
IsChain w n xs = IsFollowed w (first_of w n) xs

-- how many nodes there are room for
abbrev pub size_of : Marks → ℕ
size_of w = length w.labels

-- what clauses see of the tables
abbrev pub tables_marks : Tables → Marks
tables_marks t = record {
  labels = t.labels.labels.items;
  nodes = indices (take t.labels.len t.labels.nodes.items);
  full = t.labels.full.items;
  partial = t.labels.partial.items;
  first = t.chains.first.items;
  next = t.chains.next.items;
  seat_nodes = t.seats.nodes.items;
  seats = t.seats.seats.items;
  inside = t.inside;
}

-- what clauses see of the room
abbrev pub marks_of : Inside → Marks
marks_of a = tables_marks a.tables

-- old and new exchanged
abbrev pub exchange : NodeId → NodeId → NodeId → NodeId
exchange old new x = cond (eqb x.index old.index) new (cond (eqb x.index new.index) old x)

-- new has this label, and the two nodes exchange their places in the chains
pub record IsPut (a b : Marks) (old new : NodeId) (l : Label) : Type 0 where
  pub labels : b.labels ≡ set a.labels new.index l
  pub nodes : b.nodes ≡ a.nodes
  pub full : b.full ≡ a.full
  pub partial : b.partial ≡ a.partial
  pub inside : b.inside ≡ a.inside
  pub chains : (m : ℕ) (xs : List NodeId) → IsChain a m xs → IsChain b m (map (exchange old new) xs)

-- nothing is known of any node
pub record AreBlank (w : Marks) : Type 0 where
  pub labels : (n : ℕ) → label_at w n ≡ Empty
  pub nodes : w.nodes ≡ []
  pub outside : w.inside ≡ false

-- what always holds of the room
pub record IsWorkKept (a : Inside) : Type 0 where
  pub tables : AreKept a.tables
