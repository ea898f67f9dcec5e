-- A tree read byte by byte, with the nodes that are open kept in a list.
use Rattle.std.specs.Prelude.{ℕ, zero, suc, ◌+◌, ◌-◌, ◌*◌, ◌==◌, ◌&&◌, Bool, true, false, not, if◌then◌else◌, nat_le, nat_lt, List, [], ◌∷◌, ◌++◌, length, Option, Some, None, option_and_then}
use Rattle.std.specs.Char.{is_ascii_digit}
use Rattle.column_order.specs.Orders.{has}
use Rattle.pq_tree.specs.Outline.{Outline, leaf, p_node, q_node, leaves_of}
use Rattle.pq_tree.specs.Proper.{forest}
use Rattle.pq_tree.specs.declared.parse.Last.{Last}
use Rattle.pq_tree.specs.declared.parse.Last.TheVariants.{Nothing, Number, Child}

-- an open node: whether its brackets are round, and the trees that stand before it under the node above
pub record Begun : Type 0 where
  pub round : Bool
  pub before : List Outline

-- What stands behind the bytes so far: what they end with, the children of the innermost open node, and the open
-- nodes from the innermost on.
pub record State : Type 0 where
  pub last : Last
  pub children : List Outline
  pub open_nodes : List Begun

-- the columns at leaves of the trees that stand before open nodes, the outermost node first
abbrev pub begun_leaves : List Begun → List ℕ
begun_leaves [] = []
begun_leaves (node ∷ nodes) = begun_leaves nodes ++ leaves_of (forest node.before)

-- the columns at leaves that are whole
abbrev pub used : State → List ℕ
used s = begun_leaves s.open_nodes ++ leaves_of (forest s.children)

-- a number that ends is a leaf with a column that is not used yet
abbrev pub settled_at : Last → State → Option State
settled_at Nothing s = None
settled_at (Number n) s =
    if has (used s) n then None
    else Some (record { last = Child; children = s.children ++ leaf n ∷ []; open_nodes = s.open_nodes })
settled_at Child s = Some s

-- what the bytes so far end with is ended
abbrev pub settled : State → Option State
settled s = settled_at s.last s

-- a digit begins a number or goes on with one, up to c
abbrev pub digit_at : ℕ → ℕ → Last → State → Option State
digit_at c d Nothing s = if nat_le 1 d && nat_le d c then Some (record s { last = Number d }) else None
digit_at c d (Number n) s = if nat_le (n * 10 + d) c then Some (record s { last = Number (n * 10 + d) }) else None
digit_at c d Child s = None

-- a node opens, where fewer than c are open
abbrev pub opened_at : ℕ → Bool → Last → State → Option State
opened_at c round Nothing s =
    if nat_lt (length s.open_nodes) c
    then Some (record { last = Nothing; children = []; open_nodes = record { round = round; before = s.children } ∷ s.open_nodes })
    else None
opened_at c round (Number n) s = None
opened_at c round Child s = None

-- a space stands behind a child of an open node
abbrev pub spaced_after : State → Option State
spaced_after s = if nat_lt 0 (length s.open_nodes) then Some (record s { last = Nothing }) else None

-- the node over some trees: a P-node for round brackets, else a Q-node
abbrev pub node_of : Bool → List Outline → Outline
node_of true ts = p_node (forest ts)
node_of false ts = q_node (forest ts)

-- the fewest children of such a node
abbrev pub least_count : Bool → ℕ
least_count true = 2
least_count false = 3

-- whether two brackets are both round or both square
abbrev pub same_shape : Bool → Bool → Bool
same_shape true b = b
same_shape false b = not b

-- the innermost node closes over its children, where the brackets match and there are enough children
abbrev pub closed_in : Bool → List Outline → List Begun → Option State
closed_in round children [] = None
closed_in round children (node ∷ nodes) =
    if same_shape round node.round && nat_le (least_count round) (length children)
    then Some (record { last = Child; children = node.before ++ node_of round children ∷ []; open_nodes = nodes })
    else None

-- the innermost node of a state closes
abbrev pub closed : Bool → State → Option State
closed round s = closed_in round s.children s.open_nodes

-- one byte more
unfoldable pub step : ℕ → State → ℕ → Option State
step c s b =
    if is_ascii_digit b then digit_at c (b - 48) s.last s
    else if b == 40 then opened_at c true s.last s
    else if b == 91 then opened_at c false s.last s
    else if b == 32 then option_and_then spaced_after (settled s)
    else if b == 41 then option_and_then (closed true) (settled s)
    else if b == 93 then option_and_then (closed false) (settled s)
    else None

-- all of 1 to c are used
abbrev pub covers : ℕ → List ℕ → Bool
covers zero xs = true
covers (suc c) xs = has xs (suc c) && covers c xs

-- the tree, where there is exactly one
abbrev pub only : List Outline → Option Outline
only [] = None
only (t ∷ []) = Some t
only (t ∷ u ∷ ts) = None

-- the tree, where no node is open and each of 1 to c is used
abbrev pub finished : ℕ → State → Option Outline
finished c s = if (length s.open_nodes == 0) && covers c (used s) then only s.children else None

-- what the rest of the bytes makes of a state
unfoldable pub run : ℕ → State → List ℕ → Option Outline
run c s [] = option_and_then (finished c) (settled s)
run c s (b ∷ bytes) = option_and_then (λ t. run c t bytes) (step c s b)

-- the state before any byte
abbrev pub start : State
start = record { last = Nothing; children = []; open_nodes = [] }

-- the tree over 1 to c that bytes are the text of
unfoldable pub tree_of : ℕ → List ℕ → Option Outline
tree_of c bytes = run c start bytes
