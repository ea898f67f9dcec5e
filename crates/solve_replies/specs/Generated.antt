-- Generated matrices: each row is a run of an order that a linear congruential generator has drawn. The generator is
-- that of Knuth's MMIX (Knuth, 1997); the order is shuffled as Fisher and Yates do (Knuth's algorithm P).
use Rattle.std.specs.Prelude.{ℕ, zero, suc, ◌+◌, ◌*◌, ◌/◌, ◌%◌, ◌&&◌, nat_le, min, max, List, [], ◌∷◌, length, swap}
use Rattle.std.specs.List.{filter, range_with_len}
use Rattle.column_order.specs.Orders.{place, HasValidOrder}
use Rattle.row_model.specs.Rows.{RowList}
use Rattle.row_model.specs.Positions.{position_of}

-- the state of the generator after a draw
abbrev pub next_state : ℕ → ℕ
next_state state = (6364136223846793005 * state + 1442695040888963407) % 18446744073709551616

-- what a state has drawn, one of 0 to m - 1
abbrev pub drawn : ℕ → ℕ → ℕ
drawn m state = (state / 8589934592) % m

-- an order, and the state of the generator that drew it
pub record Shuffled : Type 0 where
  pub order : List ℕ
  pub state : ℕ

-- the column at the i-th position, from 1, is exchanged with that at a drawn one of the first i
abbrev pub exchanged : ℕ → Shuffled → Shuffled
exchanged zero s = s
exchanged (suc i) s = record { order = swap s.order i (drawn (suc i) (next_state s.state)); state = next_state s.state }

-- the same for each position from the i-th down to the second
abbrev pub shuffled : ℕ → Shuffled → Shuffled
shuffled zero s = s
shuffled (suc zero) s = s
shuffled (suc (suc i)) s = shuffled (suc i) (exchanged (suc (suc i)) s)

-- the order that a number draws
abbrev pub hidden : ℕ → ℕ → Shuffled
hidden seed c = shuffled c (record { order = range_with_len 1 c; state = seed })

-- the columns at the positions of an order from the first to the last, which count from 0, in ascending order
abbrev pub run_between : List ℕ → ℕ → ℕ → List ℕ
run_between order first last = filter (λ column. nat_le first (place order column) && nat_le (place order column) last) (range_with_len 1 (length order))

-- the same by the positions of the columns, which count from 1
abbrev pub run_at : List ℕ → ℕ → ℕ → ℕ → List ℕ
run_at positions first last c = filter (λ column. nat_le first (position_of positions column) && nat_le (position_of positions column) last) (range_with_len 1 c)

-- the run between two positions, whichever comes first
abbrev pub run_of : List ℕ → ℕ → ℕ → List ℕ
run_of order p q = run_between order (min p q) (max p q)

-- so many rows, each the run between two positions that are drawn
abbrev pub drawn_rows : ℕ → List ℕ → ℕ → List (List ℕ)
drawn_rows zero order state = []
drawn_rows (suc n) order state =
    run_of order (drawn (length order) (next_state state)) (drawn (length order) (next_state (next_state state))) ∷ drawn_rows n order (next_state (next_state state))

-- the matrix of a number, with so many columns and rows
abbrev pub generated : ℕ → ℕ → ℕ → RowList
generated seed c rows = record { columns = c; rows = drawn_rows rows (hidden seed c).order (hidden seed c).state }

-- a generated matrix has a valid order, that in which its rows are runs
abbrev pub GeneratedLaw : Type 0
GeneratedLaw = (seed c rows : ℕ) → HasValidOrder c (generated seed c rows).rows
