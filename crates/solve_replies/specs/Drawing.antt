-- What is kept while rows are drawn.
use Rattle.std.specs.Prelude.{◌≡◌, ℕ, List, length}
use Rattle.column_order.specs.Orders.{IsOrder}
use Rattle.row_model.specs.Positions.{ArePositions}
use Rattle.solve_replies.specs.Generated.{next_state, drawn, run_of}

-- an order of c columns, the positions of the columns in it, and room for a row
pub record CanDraw (c : ℕ) (order positions row : List ℕ) : Type 0 where
  pub is_order : IsOrder c order
  pub are : ArePositions order positions
  pub room : length row ≡ c

-- the run that a state draws: between the next two positions
abbrev pub drawn_row : List ℕ → ℕ → List ℕ
drawn_row order state = run_of order (drawn (length order) (next_state state)) (drawn (length order) (next_state (next_state state)))
