-- The search for a closed walk of odd length: what is reached, and what that shows.
use Rattle.std.specs.Prelude.{◌≡◌, ◌⊎◌, ℕ, ◌+◌, ◌<◌, ◌≤◌, Bool, true, false, not, IsTrue, IsFalse, Option, Some, None, List, [], ◌∷◌, ◌++◌, length, take, drop, slice_get, slice_index}
use Rattle.row_model.specs.declared.graph.Pair.{Pair}
use Rattle.row_model.specs.declared.graph.Line.{Line}
use Rattle.row_model.specs.declared.graph.Why.TheVariants.{Flip}
use Rattle.row_model.specs.Graph.{pair, turned, row_at, JoinedBy, Joined, IsPair}
use Rattle.row_model.specs.Rows.{RowList}
use Rattle.row_model.specs.declared.TheConstants.{ROW_BOUND}
use Rattle.column_order.specs.Orders.{has, place}
use Rattle.open_gaps.specs.Gaps.{Opens}
use Rattle.open_gaps.specs.Tables.{GapTable}
use Rattle.walk_search.specs.declared.forest.Node.{Node}
use Rattle.walk_search.specs.declared.forest.Conflict.{Conflict}
use Rattle.walk_search.specs.declared.forest.Forest.{Forest}
use Rattle.odd_cycle.specs.Numbers.{IsIndexed}
use Rattle.walk_search.specs.declared.neighbours.Neighbours.{Neighbours}
use Rattle.walk_search.specs.Weights.{IsJoining}
use Rattle.odd_cycle.specs.Marks.{Marking, is_marked}

abbrev pub pair_of_node : Node → Pair
pair_of_node node = node.pair

-- the pair is reached, an odd number of steps from a root or not
pub record IsReached (nodes : List Node) (v : Pair) (odd : Bool) : Type 0 where
  pub index : ℕ
  pub node : Node
  pub there : slice_get nodes index ≡ Some node
  pub pair : node.pair ≡ v
  pub parity : node.odd ≡ odd

-- the forest has one more node
pub record Adds (old new : Forest) (node : Node) : Type 0 where
  pub columns : new.numbers.columns ≡ old.numbers.columns
  pub indexed : IsIndexed pair_of_node new.numbers new.nodes.items
  pub root : new.root ≡ old.root
  pub nodes : new.nodes.items ≡ old.nodes.items ++ node ∷ []

-- the node at the root of a tree
abbrev pub root_node : Pair → ℕ → Node
root_node v index = record { pair = v; parent = index; why = Flip; odd = false }

-- the forest has one more tree, of the pair alone
pub record Plants (old new : Forest) (v : Pair) : Type 0 where
  pub columns : new.numbers.columns ≡ old.numbers.columns
  pub indexed : IsIndexed pair_of_node new.numbers new.nodes.items
  pub root : new.root ≡ length old.nodes.items
  pub nodes : new.nodes.items ≡ old.nodes.items ++ root_node v (length old.nodes.items) ∷ []

-- either the node was added or its pair was reached already, an odd number of steps from a root as the node would be or an even
-- number as it would be; or the pair was reached the other way, by the node of the answer, and nothing has changed
abbrev pub Reaches : Forest → Forest → Node → Option ℕ → Type 0
Reaches old new node None = Adds old new node ⊎ ((new ≡ old) × IsReached old.nodes.items node.pair node.odd)
Reaches old new node (Some to) = (new ≡ old) × (other : Node) × (slice_get old.nodes.items to ≡ Some other) × (other.pair ≡ node.pair) × (other.odd ≡ not node.odd)

-- each node of the last tree but its root has a parent in this tree that was reached before it, and one of the two lies an odd
-- number of steps from the root
pub record IsTree (root : ℕ) (nodes : List Node) : Type 0 where
  pub parents : (i : ℕ) (node : Node) → slice_get nodes i ≡ Some node → root < i → (root ≤ node.parent) × (node.parent < i)
  pub parities : (i : ℕ) (node parent : Node) → slice_get nodes i ≡ Some node → root < i → slice_get nodes node.parent ≡ Some parent → node.odd ≡ not parent.odd

-- the reason of each node of the last tree but its root joins its pair to its parent's
abbrev pub AreJoined : ℕ → List (List ℕ) → ℕ → List Node → Type 0
AreJoined c rows root nodes =
    (i : ℕ) (node parent : Node) →
    slice_get nodes i ≡ Some node →
    root < i →
    slice_get nodes node.parent ≡ Some parent →
    JoinedBy c rows node.pair parent.pair node.why

-- whatever is joined to a pair that is reached is reached too, and one of the two lies an odd number of steps from a root
abbrev pub IsSettled : ℕ → List (List ℕ) → List Node → Type 0
IsSettled c rows nodes = (v w : Pair) (odd : Bool) → IsReached nodes v odd → Joined c rows v w → IsReached nodes w (not odd)

-- a search forest in the graph of these rows, whose trees before the last are settled
pub record IsForest (c : ℕ) (rows : List (List ℕ)) (forest : Forest) : Type 0 where
  pub columns : forest.numbers.columns ≡ c
  pub indexed : IsIndexed pair_of_node forest.numbers forest.nodes.items
  pub within : forest.root ≤ length forest.nodes.items
  pub settled : IsSettled c rows (take forest.root forest.nodes.items)
  pub tree : IsTree forest.root forest.nodes.items
  pub joined : AreJoined c rows forest.root forest.nodes.items

-- two nodes of the last tree, both or neither an odd number of steps from the root
pub record AreConflictEnds (forest : Forest) (conflict : Conflict) : Type 0 where
  pub from : Node
  pub to : Node
  pub from_there : slice_get forest.nodes.items conflict.from ≡ Some from
  pub to_there : slice_get forest.nodes.items conflict.to ≡ Some to
  pub from_in : forest.root ≤ conflict.from
  pub to_in : forest.root ≤ conflict.to
  pub alike : from.odd ≡ to.odd

-- two such nodes that are joined
pub record IsConflict (c : ℕ) (rows : List (List ℕ)) (forest : Forest) (conflict : Conflict) : Type 0 where
  pub ends : AreConflictEnds forest conflict
  pub joined : JoinedBy c rows ends.from.pair ends.to.pair conflict.why

-- the forest and the conflict in it
pub record ShowsConflict (c : ℕ) (rows : List (List ℕ)) (forest : Forest) (conflict : Conflict) : Type 0 where
  pub is_forest : IsForest c rows forest
  pub is_conflict : IsConflict c rows forest conflict

-- the line's reason joins its pair to that of the node
abbrev pub IsJoinedFrom : ℕ → List (List ℕ) → Forest → ℕ → Line → Type 0
IsJoinedFrom c rows forest from line = (node : Node) → slice_get forest.nodes.items from ≡ Some node → JoinedBy c rows line.pair node.pair line.why

-- the forest has more nodes in its last tree
pub record HasGrown (c : ℕ) (rows : List (List ℕ)) (old new : Forest) : Type 0 where
  pub is_forest : IsForest c rows new
  pub root : new.root ≡ old.root
  pub more : List Node
  pub appended : new.nodes.items ≡ old.nodes.items ++ more

-- the pair is reached, and lies an odd number of steps from a root where the node does not, and the other way round
abbrev pub IsReachedFrom : Forest → Forest → ℕ → Pair → Type 0
IsReachedFrom old new from v = (node : Node) → slice_get old.nodes.items from ≡ Some node → IsReached new.nodes.items v (not node.odd)

-- the table of numbers fits the nodes, of which there are no fewer
pub record KeepsNodes (old new : Forest) : Type 0 where
  pub columns : new.numbers.columns ≡ old.numbers.columns
  pub indexed : IsIndexed pair_of_node new.numbers new.nodes.items
  pub long : length old.nodes.items ≤ length new.nodes.items

-- more nodes, and among them the pair, reached from the node or before
pub record HasStepped (c : ℕ) (rows : List (List ℕ)) (old new : Forest) (from : ℕ) (v : Pair) : Type 0 where
  pub grown : HasGrown c rows old new
  pub reached : IsReachedFrom old new from v

-- where a gap beside a is open for b, the pair of b with the column on the gap's other side is reached, an odd number of steps
-- from a root or not
pub record IsAcross (rows : List (List ℕ)) (o : List ℕ) (nodes : List Node) (v : Pair) (odd : Bool) : Type 0 where
  pub before : (k q : ℕ) → q + 1 ≡ place o v.a → Opens rows o k q v.b → IsReached nodes (pair v.b (slice_index o q)) odd
  pub behind : (k : ℕ) → place o v.a + 1 < length o → Opens rows o k (place o v.a) v.b → IsReached nodes (pair v.b (slice_index o (place o v.a + 1))) odd

-- the same of the gaps of the first rows, where there are any
abbrev pub AreAcross : List (List ℕ) → Option GapTable → List Node → Pair → Bool → Type 0
AreAcross rows gaps nodes v odd = (t : GapTable) → gaps ≡ Some t → IsAcross rows t.order nodes v odd

-- more nodes, and among them the pairs across the gaps of the order beside the first column of the node
pub record HasCrossed (c : ℕ) (front rows : List (List ℕ)) (o : List ℕ) (old new : Forest) (from : ℕ) : Type 0 where
  pub grown : HasGrown c rows old new
  pub across : (node : Node) → slice_get old.nodes.items from ≡ Some node → IsAcross front o new.nodes.items node.pair (not node.odd)

-- more nodes, and among them the pair of the node with its columns exchanged, and the pairs across the open gaps of these rows
pub record HasLeft (c : ℕ) (front rows : List (List ℕ)) (gaps : Option GapTable) (old new : Forest) (from : ℕ) : Type 0 where
  pub grown : HasGrown c rows old new
  pub exchanged : (node : Node) → slice_get old.nodes.items from ≡ Some node → IsReached new.nodes.items (turned node.pair) (not node.odd)
  pub across : (node : Node) → slice_get old.nodes.items from ≡ Some node → AreAcross front gaps new.nodes.items node.pair (not node.odd)

-- for each column d of the row (p,d) is reached, all of them an odd number of steps from a root or all an even number
abbrev pub IsReachedAlong : List Node → ℕ → List ℕ → Type 0
IsReachedAlong nodes p row = (odd : Bool) × ((d : ℕ) → IsTrue (has row d) → IsReached nodes (pair p d) odd)

-- where a row is marked at a column that it lacks, the pairs of this column with those of the row are reached
abbrev pub IsSpread : List (List ℕ) → Marking → List Node → Type 0
IsSpread rows marks nodes =
    (k p : ℕ) →
    1 ≤ k →
    k ≤ marks.rows →
    1 ≤ p →
    is_marked marks k p ≡ true →
    IsFalse (has (row_at rows k) p) →
    IsReachedAlong nodes p (row_at rows k)

-- a search in the graph of the first rows and of as many further ones as the marks have
pub record IsSearch (m : RowList) (first : ℕ) (marks : Marking) (forest : Forest) : Type 0 where
  pub few : first + marks.rows ≤ length m.rows
  pub small : length m.rows ≤ ROW_BOUND
  pub columns : marks.columns ≡ m.columns
  pub is_forest : IsForest m.columns (take (first + marks.rows) m.rows) forest
  pub spread : IsSpread (drop first m.rows) marks forest.nodes.items

-- marks and nodes stay, and more come
pub record Grows (marks marks' : Marking) (nodes nodes' : List Node) : Type 0 where
  pub rows : marks'.rows ≡ marks.rows
  pub columns : marks'.columns ≡ marks.columns
  pub stay : (k p : ℕ) → is_marked marks k p ≡ true → is_marked marks' k p ≡ true
  pub more : List Node
  pub appended : nodes' ≡ nodes ++ more

-- the pair of the node with its columns exchanged is reached, each further row with its first column is marked at its second,
-- and the pairs across the open gaps of the first rows are reached
pub record IsTaken (m : RowList) (near : Neighbours) (marks : Marking) (nodes : List Node) (node : Node) : Type 0 where
  pub turned : IsReached nodes (turned node.pair) (not node.odd)
  pub marked : (k : ℕ) → 1 ≤ k → k ≤ marks.rows → IsTrue (has (row_at (drop near.first m.rows) k) node.pair.a) → is_marked marks k node.pair.b ≡ true
  pub across : AreAcross (take near.first m.rows) near.gaps nodes node.pair (not node.odd)

-- so are the first nodes
abbrev pub AreTaken : RowList → Neighbours → Marking → List Node → ℕ → Type 0
AreTaken m near marks nodes n = (i : ℕ) (node : Node) → i < n → slice_get nodes i ≡ Some node → IsTaken m near marks nodes node

-- each pair of the column with one of the first columns is reached, if rows can join pairs by that one
abbrev pub AreReachedFrom : RowList → Neighbours → List Node → ℕ → ℕ → Type 0
AreReachedFrom m near nodes a n = (b : ℕ) → b ≤ n → IsPair m.columns (pair a b) → IsJoining m near b → (odd : Bool) × IsReached nodes (pair a b) odd
