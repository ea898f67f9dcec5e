-- The verdicts that the grammar of the text has.
use Rattle.std.specs.Prelude.{◌≡◌, ◌≤◌, ℕ, List, [], ◌∷◌, length}
use Rattle.std.specs.List.{AllByRecursion, AllZip}
use Rattle.row_model.specs.declared.kind.Kind.{Kind}
use Rattle.row_model.specs.declared.kind.Kind.TheVariants.{Doubly, Proper, Clones}
use Rattle.row_model.specs.declared.lists.Interval.{Interval}
use Rattle.row_model.specs.declared.lists.Place.{Place}
use Rattle.row_model.specs.declared.lists.Place.TheVariants.{Nowhere, At}
use Rattle.row_model.specs.declared.lists.Span.{Span}
use Rattle.pq_tree.specs.Proper.{IsProper}
use Rattle.verdict_text.specs.Verdict.{SideValue, AddedValue, Claim, yes_claim, no_claim, VerdictValue}
use Rattle.text_parts.specs.Grammar.{Fits32, IsColumnCount, IsLine}

-- the greatest end of an interval: the greatest number of 64 bits
abbrev pub max_end : ℕ
max_end = 18446744073709551615

-- two sides for `doubly`, one for every other kind
abbrev pub side_count : Kind → ℕ
side_count Doubly = 2
side_count kind = 1

-- numbers of columns
abbrev pub AreColumnCounts : List ℕ → Type 0
AreColumnCounts columns = AllByRecursion IsColumnCount columns

-- a tree over 1 to c, and one number or more
abbrev pub IsSide : ℕ → SideValue → Type 0
IsSide c side = IsProper c side.tree × (1 ≤ length side.order) × AllByRecursion Fits32 side.order

-- one side for each number of columns
abbrev pub AreSides : List ℕ → List SideValue → Type 0
AreSides columns sides = AllZip IsSide columns sides

-- an interval whose ends fit the grammar
abbrev pub IsInterval : Interval → Type 0
IsInterval v = (v.left ≤ max_end) × (v.right ≤ max_end)

-- a place that is nowhere, or whose positions fit the grammar
abbrev pub IsPlace : Place → Type 0
IsPlace Nowhere = Unit {0}
IsPlace (At first last) = Fits32 first × Fits32 last

-- a span whose ends fit the grammar
abbrev pub HasFittingEnds : Span → Type 0
HasFittingEnds span = Fits32 span.first × Fits32 span.last

-- what a kind adds: an interval for each column, or places and contigs, or nothing
abbrev pub HasAdded : Kind → List ℕ → AddedValue → Type 0
HasAdded Proper columns added = (length added.intervals ∷ [] ≡ columns) × AllByRecursion IsInterval added.intervals × (added.places ≡ []) × (added.contigs ≡ [])
HasAdded Clones columns added = (added.intervals ≡ []) × Fits32 (length added.places) × AllByRecursion IsPlace added.places × Fits32 (length added.contigs) × AllByRecursion HasFittingEnds added.contigs
HasAdded kind columns added = (added.intervals ≡ []) × (added.places ≡ []) × (added.contigs ≡ [])

-- a yes with a side for each number of columns and what the kind adds, or a no with one of the kind's sides
abbrev pub IsClaim : Kind → List ℕ → Claim → Type 0
IsClaim kind columns (yes_claim value) = AllZip IsSide columns value.sides × HasAdded kind columns value.added
IsClaim kind columns (no_claim side lines) = (1 ≤ side) × (side ≤ side_count kind) × Fits32 (length lines) × AllByRecursion IsLine lines

-- a verdict that the grammar has
pub record IsVerdict (v : VerdictValue) : Type 0 where
  pub sides : length v.columns ≡ side_count v.kind
  pub columns : AllByRecursion IsColumnCount v.columns
  pub claim : IsClaim v.kind v.columns v.claim
