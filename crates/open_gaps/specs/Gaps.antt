-- The gaps between neighbouring positions of an order, and what leaves them open.
use Rattle.std.specs.Prelude.{◌≡◌, ◌⊎◌, ℕ, ◌+◌, ◌<◌, ◌≤◌, List, length, slice_index, slice_index_or, IsTrue, IsFalse}
use Rattle.column_order.specs.Orders.{has, place}
use Rattle.row_model.specs.declared.graph.Line.{Line}
use Rattle.row_model.specs.declared.graph.Pair.{Pair}
use Rattle.row_model.specs.declared.graph.Why.TheVariants.{Row}
use Rattle.row_model.specs.Graph.{pair, row_at}
use Rattle.open_gaps.specs.declared.gap.Gap.{Gap}

-- row k has the columns on both sides of the gap behind position q, and lacks the column b
pub record Opens (rows : List (List ℕ)) (o : List ℕ) (k q b : ℕ) : Type 0 where
  pub from : 1 ≤ k
  pub to : k ≤ length rows
  pub low : IsTrue (has (row_at rows k) (slice_index o q))
  pub high : IsTrue (has (row_at rows k) (slice_index o (q + 1)))
  pub lacks : IsFalse (has (row_at rows k) b)

-- the line leads from the pair (a,b) to b and the column at position d, by a row that opens the gap behind position q for b
pub record LeadsOver (rows : List (List ℕ)) (o : List ℕ) (q d : ℕ) (v : Pair) (line : Line) : Type 0 where
  pub k : ℕ
  pub opens : Opens rows o k q v.b
  pub by_row : line.why ≡ Row k
  pub to : line.pair ≡ pair v.b (slice_index o d)

-- some row has the columns on both sides of the gap behind position q, and lacks the column at position p
abbrev pub IsOpen : List (List ℕ) → List ℕ → ℕ → ℕ → Type 0
IsOpen rows o q p = (k : ℕ) × Opens rows o k q (slice_index o p)

-- the gap behind position q is open for some column
abbrev pub IsOpenAtAll : List (List ℕ) → List ℕ → ℕ → Type 0
IsOpenAtAll rows o q = (p : ℕ) × (p < length o) × IsOpen rows o q p

-- the column stands beside a gap that is open for some column
abbrev pub IsAtOpenGap : List (List ℕ) → List ℕ → ℕ → Type 0
IsAtOpenGap rows o a = (q : ℕ) × (q + 1 < length o) × IsOpenAtAll rows o q × ((q ≡ place o a) ⊎ (q + 1 ≡ place o a))

-- the gap behind position q is open for the columns at the positions past `last` and for no others to its right, and row k opens it
pub record IsRightEnd (rows : List (List ℕ)) (o : List ℕ) (q last k : ℕ) : Type 0 where
  pub opens : (p : ℕ) → q + 1 < p → last < p → p < length o → Opens rows o k q (slice_index o p)
  pub no_other : (j p : ℕ) → q + 1 < p → p < length o → Opens rows o j q (slice_index o p) → last < p

-- the gap behind position q is open for the columns at the positions before `first` and for no others to its left, and row k opens it
pub record IsLeftEnd (rows : List (List ℕ)) (o : List ℕ) (q first k : ℕ) : Type 0 where
  pub opens : (p : ℕ) → p < q → p < first → Opens rows o k q (slice_index o p)
  pub no_other : (j p : ℕ) → p < q → Opens rows o j q (slice_index o p) → p < first

-- the gap says how far these rows leave the gap behind position q open
pub record IsGap (rows : List (List ℕ)) (o : List ℕ) (q : ℕ) (g : Gap) : Type 0 where
  pub right : IsRightEnd rows o q g.last g.last_row
  pub left : IsLeftEnd rows o q g.first g.first_row

-- and so for each gap of the order
abbrev pub AreGaps : List (List ℕ) → List ℕ → List Gap → Type 0
AreGaps rows o gaps = (q : ℕ) (d : Gap) → q + 1 < length o → IsGap rows o q (slice_index_or gaps q d)
