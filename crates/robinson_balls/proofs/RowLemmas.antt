-- How many balls there are.
use Rattle.std.proofs.Common.{◌≡◌, ◌∙◌, ℕ, zero, suc, ◌+◌, ◌-◌, ◌*◌, ◌<◌, ◌≤◌, List, [], ◌∷◌, ◌++◌, length, map, sym, ap, arith, append_assoc, length-append}
use Rattle.std.proofs.lemmas.Nat.{mul-le}
use Rattle.std.proofs.lemmas.List.{length-map}
use Rattle.row_model.specs.declared.TheConstants.{ROW_BOUND}
use Rattle.row_model.specs.Rows.{RowList}
use Rattle.graph_model.specs.declared.TheConstants.{ITEM_BOUND}
use Rattle.graph_model.specs.Distances.{DistancesValue}
use Rattle.robinson_balls.specs.Balls.{ball, radii, balls_round, balls_to}
use Rattle.robinson_balls.specs.Laws.{FewBallsLaw}
use Rattle.robinson_balls.proofs.Radii.{few_radii}

pub few_balls : (d : DistancesValue) (n : ℕ) → length (balls_to d n) ≤ n * d.items
few_balls d zero = omega arith
few_balls d (suc n) =
    omega (arith, length-append (balls_to d n) (balls_round d (suc n)), length-map (radii d (suc n)) (ball d (suc n)), few_radii d (suc n), few_balls d n)

pub few_of_all : FewBallsLaw
few_of_all d = few_balls d d.items

-- the balls of one centre more fit a matrix
pub room_for : (before n : ℕ) → before < n → n ≤ ITEM_BOUND → before * n + n ≤ ROW_BOUND
room_for before n l u = omega (arith, mul-le before n (ITEM_BOUND - 1) ITEM_BOUND (omega (arith, l, u)) u, u)

-- a row more is the first of those that are left
pub pushed : (before after : RowList) (f : ℕ → List ℕ) (row : List ℕ) (s : ℕ) (left rest : List ℕ) (all : List (List ℕ)) → after ≡ record before { rows = before.rows ++ row ∷ [] } →
    row ≡ f s → left ≡ s ∷ rest → before.rows ++ map f left ≡ all → after.rows ++ map f rest ≡ all
pushed before after f row s left rest all e is first h =
    ap (λ (m : RowList). m.rows ++ map f rest) e ∙ append_assoc before.rows (row ∷ []) (map f rest) ∙ ap (λ r. before.rows ++ (r ∷ map f rest)) is ∙
    sym (ap (λ l. before.rows ++ map f l) first) ∙ h

pub same_matrix : (m : RowList) (columns : ℕ) (rows : List (List ℕ)) → m.columns ≡ columns → m.rows ≡ rows → m ≡ record { columns = columns; rows = rows }
same_matrix m columns rows c r =
    let named : RowList → ℕ → List (List ℕ) → RowList = λ m c r. record { columns = c; rows = r } in
    ap (λ c. named m c m.rows) c ∙ ap (λ r. named m columns r) r
