-- The tree and the order that a reply tells depend on the set of orders alone.
use Rattle.std.specs.Prelude.{◌≡◌, ◌↔◌, ◌++◌, ℕ, List}
use Rattle.row_model.specs.Rows.{RowList}
use Rattle.pq_tree.specs.Outline.{Outline, leaves}
use Rattle.tree_theory.specs.CanonicalLaws.{IsCanonicalOver, HasOrdersOf}
use Rattle.core_text.specs.Told.{IsOrderWithout}
use Rattle.verdict_text.specs.Verdict.{SideValue}
use Rattle.verdict_text.specs.Text.{side_text}
use Rattle.instance_model.specs.Instance.{InstanceValue, IsTextbookOrder}
use Rattle.instance_model.specs.Laws.{IsValidFor}
use Rattle.verdict_judge.specs.Exact.{IsLinear}
use Rattle.one_text.specs.Told.{Spot, on_side, RepliesFor, SolvesSide, TellsAt}

-- the tree is a canonical tree whose frontiers are exactly the valid orders of the matrix
abbrev pub IsTreeFor : RowList → Outline → Type 0
IsTreeFor m t = IsCanonicalOver m.columns t × HasOrdersOf m.columns m.rows t

-- a tree, and its leaves from left to right
abbrev pub side_of : Outline → SideValue
side_of t = record { tree = t; order = leaves t }

-- each canonical tree for the orders that a reply is about is the tree that it tells, with its leaves as the order
abbrev pub CanonicalTextLaw : Type 0
CanonicalTextLaw = (text : List ℕ) (spot : Spot) (m : RowList) (t : Outline) → RepliesFor text spot m → IsTreeFor m t → TellsAt text spot (side_of t)

-- the text has these lines in it
abbrev pub HasLines : List ℕ → List ℕ → Type 0
HasLines text lines = (before : List ℕ) × (after : List ℕ) × (text ≡ before ++ (lines ++ after))

-- where a text tells a tree and an order, it has their lines in it
abbrev pub ToldLinesLaw : Type 0
ToldLinesLaw = (text : List ℕ) (spot : Spot) (side : SideValue) → TellsAt text spot side → HasLines text (side_text side)

-- the matrices have the same valid orders
abbrev pub HaveSameOrders : RowList → RowList → Type 0
HaveSameOrders m n = (o : List ℕ) → IsValidFor m o ↔ IsValidFor n o

-- both texts tell one tree and one order, each at its spot
abbrev pub TellTheSame : List ℕ → Spot → List ℕ → Spot → Type 0
TellTheSame text here other there = (side : SideValue) × TellsAt text here side × TellsAt other there side

-- two replies about the same orders tell the same tree and the same order
abbrev pub SameTextLaw : Type 0
SameTextLaw =
    (text other : List ℕ) (here there : Spot) (m n : RowList) →
    RepliesFor text here m →
    RepliesFor other there n →
    HaveSameOrders m n →
    TellTheSame text here other there

-- Of one matrix, for one core and one of its rows there is one order that the core may tell of the others.
abbrev pub OneOrderLaw : Type 0
OneOrderLaw = (m : RowList) (core : List ℕ) (k : ℕ) (o p : List ℕ) → IsOrderWithout m core k o → IsOrderWithout m core k p → o ≡ p

-- sides of two instances have the same textbook orders
abbrev pub HaveSameTextbookOrders : InstanceValue → ℕ → InstanceValue → ℕ → Type 0
HaveSameTextbookOrders i s j t = (o : List ℕ) → IsTextbookOrder i s o ↔ IsTextbookOrder j t o

-- Two replies to `solve` tell the same tree and the same order for sides with the same textbook orders. Circular orders
-- are left out, since a tree tells them up to rotation.
abbrev pub TextbookTextLaw : Type 0
TextbookTextLaw =
    (text other : List ℕ) (s t : ℕ) (m n : RowList) (one : SolvesSide text s m) (two : SolvesSide other t n) →
    IsLinear one.value →
    IsLinear two.value →
    HaveSameTextbookOrders one.value s two.value t →
    TellTheSame text (on_side s) other (on_side t)
