-- What the balls say of the Robinson orders.
use Rattle.std.specs.Prelude.{◌≡◌, ◌⊎◌, ◌↔◌, ◌*◌, ◌<◌, ◌≤◌, List, ℕ, length, map, Contains, AllPairs}
use Rattle.column_order.specs.Orders.{IsValidOrder}
use Rattle.graph_model.specs.Distances.{DistancesValue, IsDistances}
use Rattle.robinson_balls.specs.Balls.{between, ball, balls_to, balls_of, IsRobinsonOrder}

-- a centre and a radius
pub record Round : Type 0 where
  pub centre : ℕ
  pub radius : ℕ

-- the centre is an item, and the radius is its distance from some item
pub record IsRound (d : DistancesValue) (r : Round) : Type 0 where
  pub centre : (1 ≤ r.centre) × (r.centre ≤ d.items)
  pub item : ℕ
  pub within : (1 ≤ item) × (item ≤ d.items)
  pub radius : between d r.centre item ≡ r.radius

-- the first centre is below the second, or the centres are equal and the first radius is below the second
abbrev pub IsRoundBefore : Round → Round → Type 0
IsRoundBefore a b = (a.centre < b.centre) ⊎ ((a.centre ≡ b.centre) × (a.radius < b.radius))

-- all centres with all their radii, each once, centre after centre and for each centre in rising order of the radii
pub record AreRounds (d : DistancesValue) (rounds : List Round) : Type 0 where
  pub order : AllPairs IsRoundBefore rounds
  pub every : (r : Round) → Contains rounds r ↔ IsRound d r

-- the rows are the balls of these centres and radii
abbrev pub BallsLaw : Type 0
BallsLaw =
    (d : DistancesValue) →
    (rounds : List Round) × (AreRounds d rounds × ((balls_of d).rows ≡ map (λ (r : Round). ball d r.centre r.radius) rounds))

-- there are at most as many balls as pairs of items
abbrev pub FewBallsLaw : Type 0
FewBallsLaw = (d : DistancesValue) → length (balls_of d).rows ≤ d.items * d.items

-- an order of the items is a Robinson order exactly where it is a valid order of the balls
abbrev pub RobinsonLaw : Type 0
RobinsonLaw =
    (d : DistancesValue) (o : List ℕ) →
    IsDistances d →
    IsRobinsonOrder d o ↔ IsValidOrder d.items (balls_to d d.items) o
