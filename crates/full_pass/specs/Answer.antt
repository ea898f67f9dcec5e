-- The rows that a tree keeps as it is, and the rows that gather some children of one P-node, alone or beside a run, or of two with a run between.
use Rattle.std.specs.Prelude.{◌≡◌, ◌⊎◌, ℕ, ◌≤◌, ◌<◌, List, ◌∷◌, ◌++◌, length, Some}
use Rattle.arena_model.specs.declared.Shape.TheVariants.{P, Q}
use Rattle.arena_model.specs.ChildLists.{none, head_or, last_or}
use Rattle.arena_model.specs.Layout.{Layout, shape_at, children_at, IsAtOrAbove}
use Rattle.column_order.specs.Orders.{occurs}
use Rattle.full_pass.specs.declared.settled.Settled.{Settled}
use Rattle.full_pass.specs.declared.settled.Settled.TheVariants.{Kept, Group, Beside, Between, Open}
use Rattle.arena_model.specs.RowLeaves.{Holds, Meets, IsLeafAt}

-- each leaf at or below n is in the row
abbrev pub IsFullNode : Layout → List ℕ → ℕ → Type 0
IsFullNode f row n = (x : ℕ) → IsLeafAt f x → IsAtOrAbove f.slots n x → 1 ≤ occurs row x

-- the leaves of the row are those at or below these nodes
pub record AreBelow (f : Layout) (row : List ℕ) (ks : List ℕ) : Type 0 where
  pub filled : (k : ℕ) → 1 ≤ occurs ks k → IsFullNode f row k
  pub covers : (x : ℕ) → 1 ≤ occurs row x → (k : ℕ) × (1 ≤ occurs ks k) × IsAtOrAbove f.slots k x

-- the leaves of the row are those at or below one node, or below a run of children of a Q-node
pub data IsRowKept (f : Layout) (row : List ℕ) : Type 0 where
  one_node : (n : ℕ) → IsFullNode f row n → Holds f row n → IsRowKept f row
  one_run : (q : ℕ) (us ks vs : List ℕ) → shape_at f q ≡ Some Q → children_at f q ≡ us ++ (ks ++ vs) → AreBelow f row ks → IsRowKept f row

-- The leaves of the row are those at or below the members, which are some children of the P-node p, each once, two or
-- more and not all. No leaf of the row is at or below another child.
pub record IsGroup (f : Layout) (row : List ℕ) (p : ℕ) (members : List ℕ) : Type 0 where
  pub is_p : shape_at f p ≡ Some P
  pub once : (k : ℕ) → occurs members k ≤ 1
  pub child : (k : ℕ) → 1 ≤ occurs members k → 1 ≤ occurs (children_at f p) k
  pub below : AreBelow f row members
  pub others : (k : ℕ) → 1 ≤ occurs (children_at f p) k → Meets f row k → 1 ≤ occurs members k
  pub two : 2 ≤ length members
  pub not_all : length members < length (children_at f p)

-- Some children of the P-node n, each once, one or more and not all: all their leaves are in the row, and none below
-- another child.
pub record IsFilledPart (f : Layout) (row : List ℕ) (n : ℕ) (members : List ℕ) : Type 0 where
  pub is_p : shape_at f n ≡ Some P
  pub once : (k : ℕ) → occurs members k ≤ 1
  pub child : (k : ℕ) → 1 ≤ occurs members k → 1 ≤ occurs (children_at f n) k
  pub some : 1 ≤ length members
  pub not_all : length members < length (children_at f n)
  pub filled : (k : ℕ) → 1 ≤ occurs members k → IsFullNode f row k
  pub others : (k : ℕ) → 1 ≤ occurs (children_at f n) k → Meets f row k → 1 ≤ occurs members k

-- The leaves of the row are those below the run ks of children of the Q-node q, and those below some children of the
-- P-node n beside an end of the run. t is the neighbour of n in the run, and n has another neighbour.
pub record IsBesideRun (f : Layout) (row : List ℕ) (n t : ℕ) (members : List ℕ) : Type 0 where
  pub part : IsFilledPart f row n members
  pub q : ℕ
  pub us : List ℕ
  pub ks : List ℕ
  pub vs : List ℕ
  pub is_q : shape_at f q ≡ Some Q
  pub some : 1 ≤ length ks
  pub place : ((children_at f q ≡ us ++ (n ∷ (ks ++ vs))) × (t ≡ head_or ks none) × (1 ≤ length us))
      ⊎ ((children_at f q ≡ us ++ (ks ++ (n ∷ vs))) × (t ≡ last_or ks none) × (1 ≤ length vs))
  pub filled : (k : ℕ) → 1 ≤ occurs ks k → IsFullNode f row k
  pub covers : (x : ℕ) → 1 ≤ occurs row x → (k : ℕ) × (1 ≤ occurs (members ++ ks) k) × IsAtOrAbove f.slots k x

-- The leaves of the row are those below the run ks of children of the Q-node q, and those below some children of the
-- P-nodes n and o, which stand beside its ends. t is the neighbour of n in the run and u that of o; both P-nodes have
-- another neighbour.
pub record IsBetween (f : Layout) (row : List ℕ) (n t : ℕ) (members : List ℕ) (o u : ℕ) (others : List ℕ) : Type 0 where
  pub part : IsFilledPart f row n members
  pub other_part : IsFilledPart f row o others
  pub q : ℕ
  pub us : List ℕ
  pub ks : List ℕ
  pub vs : List ℕ
  pub is_q : shape_at f q ≡ Some Q
  pub some : 1 ≤ length ks
  pub outer : (1 ≤ length us) × (1 ≤ length vs)
  pub place : ((children_at f q ≡ us ++ (n ∷ (ks ++ (o ∷ vs)))) × (t ≡ head_or ks none) × (u ≡ last_or ks none))
      ⊎ ((children_at f q ≡ us ++ (o ∷ (ks ++ (n ∷ vs)))) × (u ≡ head_or ks none) × (t ≡ last_or ks none))
  pub filled : (k : ℕ) → 1 ≤ occurs ks k → IsFullNode f row k
  pub covers : (x : ℕ) → 1 ≤ occurs row x → (k : ℕ) × (1 ≤ occurs (members ++ (others ++ ks)) k) × IsAtOrAbove f.slots k x

-- what each answer says, with the members of the first P-node that it names, and those of the second
abbrev pub IsSettled : Layout → List ℕ → List ℕ → List ℕ → Settled → Type 0
IsSettled f row members others Kept = IsRowKept f row
IsSettled f row members others (Group p) = IsGroup f row p.index members
IsSettled f row members others (Beside e) = IsBesideRun f row e.node.index e.beside.index members
IsSettled f row members others (Between d e) = IsBetween f row d.node.index d.beside.index members e.node.index e.beside.index others
IsSettled f row members others Open = Unit {0}

-- distinct leaves below the root
pub record AreLeaves (f : Layout) (row : List ℕ) : Type 0 where
  pub once : (x : ℕ) → occurs row x ≤ 1
  pub leaf : (x : ℕ) → 1 ≤ occurs row x → IsLeafAt f x
  pub below : (x : ℕ) → 1 ≤ occurs row x → IsAtOrAbove f.slots f.root x
