-- The templates of Booth and Lueker (1976): what a node becomes, once its children have been treated.
--
-- A tree is empty where it has no column of the row, full where it has no other column, and else partial. E and F are the
-- empty and the full children of a node, P*(X) is nothing for no tree, the tree itself for one tree, and P over two trees
-- or more. A partial tree stands as a Q-shape [e f], its empty trees e before its full trees f, or turned round. The
-- pertinent root is the smallest node that holds the whole row. The children of a P-node stand in no order, a Q-node is
-- read from either end.
--
-- Each template is a relation: where it applies, its pattern on the children ts of the node and their labels ps, and its
-- replacement. `root` tells whether the node is the pertinent root; a template that names no place applies at every node.
use Rattle.std.specs.Prelude.{◌≡◌, ◌⊎◌, ℕ, Bool, List, [], ◌∷◌, Option, Some, None, reverse, IsTrue, IsFalse}
use Rattle.column_order.specs.Orders.{has}
use Rattle.pq_tree.specs.Outline.{Outline, Forest, leaf, p_node, q_node, no_tree, tree_and}
use Rattle.pq_tree.specs.Forests.{join, back}

-- a partial [e f]: empty trees e and full trees f
pub record Partial : Type 0 where
  pub e : Forest
  pub f : Forest

-- the label of a tree: it is empty, it is full, or it is partial and becomes this
pub data Label : Type 0 where
  empty_label : Label
  full_label : Label
  partial_label : Partial → Label

-- P*(X): nothing for no tree, the tree itself for one, P over two or more
abbrev pub star : Forest → Forest
star no_tree = no_tree
star (tree_and t no_tree) = tree_and t no_tree
star (tree_and t (tree_and u us)) = tree_and (p_node (tree_and t (tree_and u us))) no_tree

-- the trees of a partial from left to right
abbrev pub line : Partial → Forest
line h = join h.e h.f

-- so of a partial that may be missing
abbrev pub line_if : Option Partial → Forest
line_if None = no_tree
line_if (Some h) = line h

-- the Q-shape [e f] as a tree, or turned
abbrev pub IsShape : Partial → Outline → Type 0
IsShape h u = (u ≡ q_node (line h)) ⊎ (u ≡ q_node (back (line h)))

-- P over E and the tree x; where E is empty, x alone
abbrev pub under : Forest → Outline → Outline
under no_tree x = x
under (tree_and e es) x = p_node (tree_and x (tree_and e es))

-- The children of a node, sorted by their labels: the empty ones, the full ones, and what the partial ones become.
-- The children are an interleaving of these, so the order in which those of a P-node stand says nothing.
pub data IsSorted : Forest → List Label → Forest → Forest → List Partial → Type 0 where
  none_sorted : IsSorted no_tree [] no_tree no_tree []
  to_empty : {t : Outline} {ts es fs : Forest} {ps : List Label} {hs : List Partial} → IsSorted ts ps es fs hs → IsSorted (tree_and t ts) (empty_label ∷ ps) (tree_and t es) fs hs
  to_full : {t : Outline} {ts es fs : Forest} {ps : List Label} {hs : List Partial} → IsSorted ts ps es fs hs → IsSorted (tree_and t ts) (full_label ∷ ps) es (tree_and t fs) hs
  to_partial : {t : Outline} {ts es fs : Forest} {ps : List Label} {hs : List Partial} {h : Partial} → IsSorted ts ps es fs hs → IsSorted (tree_and t ts) (partial_label h ∷ ps) es fs (h ∷ hs)

-- all children are full
abbrev pub AreAllFull : Forest → List Label → Type 0
AreAllFull ts ps = IsSorted ts ps no_tree ts []

-- all children are empty
abbrev pub AreAllEmpty : Forest → List Label → Type 0
AreAllEmpty ts ps = IsSorted ts ps ts no_tree []

-- the children from one end: empty ones, at most one partial, full ones
pub data IsRun : Forest → List Label → Forest → Option Partial → Forest → Type 0 where
  run_full : {ts : Forest} {ps : List Label} → AreAllFull ts ps → IsRun ts ps no_tree None ts
  run_partial : {t : Outline} {ts : Forest} {ps : List Label} {h : Partial} → AreAllFull ts ps → IsRun (tree_and t ts) (partial_label h ∷ ps) no_tree (Some h) ts
  run_more : {t : Outline} {ts es fs : Forest} {ps : List Label} {h : Option Partial} → IsRun ts ps es h fs → IsRun (tree_and t ts) (empty_label ∷ ps) (tree_and t es) h fs

-- the children from one end: full ones, at most one partial, empty ones
pub data IsTail : Forest → List Label → Forest → Option Partial → Forest → Type 0 where
  tail_empty : {ts : Forest} {ps : List Label} → AreAllEmpty ts ps → IsTail ts ps no_tree None ts
  tail_partial : {t : Outline} {ts : Forest} {ps : List Label} {k : Partial} → AreAllEmpty ts ps → IsTail (tree_and t ts) (partial_label k ∷ ps) no_tree (Some k) ts
  tail_more : {t : Outline} {ts fs gs : Forest} {ps : List Label} {k : Option Partial} → IsTail ts ps fs k gs → IsTail (tree_and t ts) (full_label ∷ ps) (tree_and t fs) k gs

-- the children from one end: empty ones, at most one partial, full ones, at most one partial, empty ones
pub data IsTwoSidedRun : Forest → List Label → Forest → Option Partial → Forest → Option Partial → Forest → Type 0 where
  span_tail : {ts fs gs : Forest} {ps : List Label} {k : Option Partial} → IsTail ts ps fs k gs → IsTwoSidedRun ts ps no_tree None fs k gs
  span_partial : {t : Outline} {ts fs gs : Forest} {ps : List Label} {h : Partial} {k : Option Partial} → IsTail ts ps fs k gs → IsTwoSidedRun (tree_and t ts) (partial_label h ∷ ps) no_tree (Some h) fs k gs
  span_more : {t : Outline} {ts es fs gs : Forest} {ps : List Label} {h k : Option Partial} → IsTwoSidedRun ts ps es h fs k gs → IsTwoSidedRun (tree_and t ts) (empty_label ∷ ps) (tree_and t es) h fs k gs

-- L1, anywhere: a leaf whose column is in the row. It is full, and unchanged.
abbrev pub IsL1 : List ℕ → ℕ → Type 0
IsL1 row a = IsTrue (has row a)

-- what L1 leaves
abbrev pub l1 : ℕ → Outline
l1 a = leaf a

-- P1, anywhere: a P-node whose children are all full. It is full, and unchanged.
abbrev pub IsP1 : Forest → List Label → Type 0
IsP1 ts ps = AreAllFull ts ps

-- what P1 leaves
abbrev pub p1 : Forest → Outline
p1 ts = p_node ts

-- P2, at the pertinent root: a P-node with no partial child, with empty children E and with full children F.
-- It becomes P over E and P*(F).
abbrev pub p2 : Forest → Forest → Outline
p2 es fs = p_node (join (star fs) es)

-- P2 applies, and makes this of the node
pub record IsP2 (root : Bool) (ts : Forest) (ps : List Label) (u : Outline) : Type 0 where
  pub at : IsTrue root
  pub e : Outline
  pub es : Forest
  pub f : Outline
  pub fs : Forest
  pub pattern : IsSorted ts ps (tree_and e es) (tree_and f fs) []
  pub becomes : u ≡ p2 (tree_and e es) (tree_and f fs)

-- P3, not at the pertinent root: a P-node with no partial child, with empty children E and with full children F.
-- It becomes the partial [P*(E) P*(F)].
abbrev pub p3 : Forest → Forest → Partial
p3 es fs = record { e = star es; f = star fs }

-- P3 applies, and makes this of the node
pub record IsP3 (root : Bool) (ts : Forest) (ps : List Label) (x : Partial) : Type 0 where
  pub below : IsFalse root
  pub e : Outline
  pub es : Forest
  pub f : Outline
  pub fs : Forest
  pub pattern : IsSorted ts ps (tree_and e es) (tree_and f fs) []
  pub becomes : x ≡ p3 (tree_and e es) (tree_and f fs)

-- P4, at the pertinent root: a P-node with one partial child [e f].
-- It becomes P over E and [e f P*(F)]; where E is empty, that Q-node alone.
abbrev pub p4 : Forest → Partial → Forest → Outline
p4 es h fs = under es (q_node (join (line h) (star fs)))

-- P4 applies, and makes this of the node
pub record IsP4 (root : Bool) (ts : Forest) (ps : List Label) (u : Outline) : Type 0 where
  pub at : IsTrue root
  pub es : Forest
  pub h : Partial
  pub fs : Forest
  pub pattern : IsSorted ts ps es fs (h ∷ [])
  pub becomes : u ≡ p4 es h fs

-- P5, not at the pertinent root: a P-node with one partial child [e f]. It becomes the partial [P*(E) e f P*(F)].
abbrev pub p5 : Forest → Partial → Forest → Partial
p5 es h fs = record { e = join (star es) h.e; f = join h.f (star fs) }

-- P5 applies, and makes this of the node
pub record IsP5 (root : Bool) (ts : Forest) (ps : List Label) (x : Partial) : Type 0 where
  pub below : IsFalse root
  pub es : Forest
  pub h : Partial
  pub fs : Forest
  pub pattern : IsSorted ts ps es fs (h ∷ [])
  pub becomes : x ≡ p5 es h fs

-- P6, at the pertinent root: a P-node with two partial children [e f] and [e2 f2].
-- It becomes P over E and [e f P*(F) f2 e2], the second turned; where E is empty, that Q-node alone.
abbrev pub p6 : Forest → Partial → Forest → Partial → Outline
p6 es h fs k = under es (q_node (join (line h) (join (star fs) (back (line k)))))

-- P6 applies, and makes this of the node
pub record IsP6 (root : Bool) (ts : Forest) (ps : List Label) (u : Outline) : Type 0 where
  pub at : IsTrue root
  pub es : Forest
  pub h : Partial
  pub fs : Forest
  pub k : Partial
  pub pattern : IsSorted ts ps es fs (h ∷ k ∷ [])
  pub becomes : u ≡ p6 es h fs k

-- Q1, anywhere: a Q-node whose children are all full. It is full, and unchanged.
abbrev pub IsQ1 : Forest → List Label → Type 0
IsQ1 ts ps = AreAllFull ts ps

-- what Q1 leaves
abbrev pub q1 : Forest → Outline
q1 ts = q_node ts

-- Q2, anywhere: a Q-node that has, from one end, empty children E, at most one partial child [e f] and full children F,
-- and whose children are not all full, nor all empty. It becomes the Q-shape [E e f F]: the partial child's trees stand
-- in its place, the empty ones towards E. Not at the pertinent root that is a partial.
abbrev pub q2 : Forest → Option Partial → Forest → Partial
q2 es None fs = record { e = es; f = fs }
q2 es (Some h) fs = record { e = join es h.e; f = join h.f fs }

-- Q2 applies, and makes this of the node
pub record IsQ2 (ts : Forest) (ps : List Label) (x : Partial) : Type 0 where
  pub es : Forest
  pub h : Option Partial
  pub fs : Forest
  pub pattern : IsRun ts ps es h fs ⊎ IsRun (back ts) (reverse ps) es h fs
  pub not_full : AreAllFull ts ps → ⊥
  pub not_empty : AreAllEmpty ts ps → ⊥
  pub becomes : x ≡ q2 es h fs

-- Q3, at the pertinent root: a Q-node that has empty children E, at most one partial child [e f], full children F, at most
-- one partial child [e2 f2] and empty children G, where Q2 doesn't fit. It becomes [E e f F f2 e2 G]: each partial child's
-- trees stand in its place, the full ones towards F.
abbrev pub q3 : Forest → Option Partial → Forest → Option Partial → Forest → Forest
q3 es h fs k gs = join es (join (line_if h) (join fs (join (back (line_if k)) gs)))

-- Q3 applies, and makes this of the node
pub record IsQ3 (root : Bool) (ts : Forest) (ps : List Label) (u : Outline) : Type 0 where
  pub at : IsTrue root
  pub es : Forest
  pub h : Option Partial
  pub fs : Forest
  pub k : Option Partial
  pub gs : Forest
  pub pattern : IsTwoSidedRun ts ps es h fs k gs
  pub not_q2 : (x : Partial) → IsQ2 ts ps x → ⊥
  pub becomes : u ≡ q_node (q3 es h fs k gs)
