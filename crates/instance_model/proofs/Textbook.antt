-- The textbook orders and the valid orders of the derived matrices, by the laws of the kinds.
use Rattle.std.proofs.Common.{◌↔◌, ◌≤◌, ℕ, zero, suc, List, arith}
use Rattle.circular_ones.specs.Laws as circle
use Rattle.convex_bipartite.specs.Convex.{RightLaw, LeftLaw}
use Rattle.proper_interval.specs.Laws.{UmbrellaLaw}
use Rattle.robinson_balls.specs.Laws.{RobinsonLaw}
use Rattle.graph_model.specs.Graphs.{BigraphValue, IsBigraph}
use Rattle.instance_model.specs.Instance.{plain, circular, convex, doubly, proper, robinson, IsOrderOfSide, rows_of_side}
use Rattle.instance_model.specs.Laws.{IsValidFor, DerivedLaw, ValidLaw, ExistsLaw}

-- the laws of the kinds
pub record KindLaws : Type 0 where
  pub cut : circle.CutLaw
  pub turned : circle.TurnedLaw
  pub round : circle.CircularExistsLaw
  pub right : RightLaw
  pub left : LeftLaw
  pub umbrella : UmbrellaLaw
  pub robinson : RobinsonLaw

-- the same, the other way round
turn_round : {A B : Type 0} → A ↔ B → B ↔ A
turn_round h = (h.1, h.0)

-- an order of the one kind exists where one of the other does, where they are the same orders
same_exists : {P Q : List ℕ → Type 0} → ((o : List ℕ) → P o ↔ Q o) → ((o : List ℕ) × P o) ↔ ((o : List ℕ) × Q o)
same_exists h = (λ p. (p.0, (h p.0).0 p.1), λ q. (q.0, (h q.0).1 q.1))

module _ (laws : KindLaws) where
  -- the two sides of a bipartite graph
  side_exactly : (g : BigraphValue) (s : ℕ) (o : List ℕ) → IsBigraph g → 1 ≤ s → IsOrderOfSide g s o ↔ IsValidFor (rows_of_side g s) o
  side_exactly g zero o h from = absurd (omega (arith, from))
  side_exactly g (suc zero) o h from = turn_round (laws.right g o h)
  side_exactly g (suc (suc s)) o h from = turn_round (laws.left g o h)

  pub derived_exactly : DerivedLaw
  derived_exactly (plain kind m) s h side = λ o. (λ p. p, λ p. p)
  derived_exactly (circular m) s h side = (laws.cut m.columns m.rows, laws.turned m.columns m.rows)
  derived_exactly (convex g) s h side = λ o. turn_round (laws.right g o h)
  derived_exactly (doubly g) s h side = λ o. side_exactly g s o h side.0
  derived_exactly (proper g) s h side = λ o. laws.umbrella g o h
  derived_exactly (robinson d) s h side = λ o. laws.robinson d o h

  pub valid_textbook : ValidLaw
  valid_textbook (plain kind m) s o h side valid = valid
  valid_textbook (circular m) s o h side valid = laws.cut m.columns m.rows o valid
  valid_textbook (convex g) s o h side valid = (laws.right g o h).0 valid
  valid_textbook (doubly g) s o h side valid = (side_exactly g s o h side.0).1 valid
  valid_textbook (proper g) s o h side valid = (laws.umbrella g o h).1 valid
  valid_textbook (robinson d) s o h side valid = (laws.robinson d o h).1 valid

  pub exists_textbook : ExistsLaw
  exists_textbook (plain kind m) s h side = (λ p. p, λ p. p)
  exists_textbook (circular m) s h side = laws.round m.columns m.rows
  exists_textbook (convex g) s h side = same_exists (λ o. turn_round (laws.right g o h))
  exists_textbook (doubly g) s h side = same_exists (λ o. side_exactly g s o h side.0)
  exists_textbook (proper g) s h side = same_exists (λ o. laws.umbrella g o h)
  exists_textbook (robinson d) s h side = same_exists (λ o. laws.robinson d o h)
