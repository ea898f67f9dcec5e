-- The sides of a yes, beside those of the instance.
use Rattle.std.proofs.Common.{◌≡◌, ℕ, zero, suc, ◌-◌, ◌≤◌, List, [], ◌∷◌, length, Some, None, slice_get, refl, sym, ap, subst, arith}
use Rattle.std.specs.Prelude.{IsSomeAnd}
use Rattle.std.proofs.lemmas.Option.{none-some, same_Some}
use Rattle.row_model.specs.Rows.{RowList}
use Rattle.graph_model.specs.Graphs.{BigraphValue}
use Rattle.pq_tree.specs.Outline.{Outline}
use Rattle.pq_tree.specs.Proper.{IsProper}
use Rattle.verdict_text.specs.Grammar.{IsSide, AreSides}
use Rattle.verdict_text.specs.Verdict.{SideValue, YesValue}
use Rattle.instance_model.specs.Instance.{InstanceValue, plain, circular, convex, doubly, proper, robinson, instance_columns, IsSideOf, rows_of_side, derived_matrix}
use Rattle.verdict_judge.specs.YesTests.{HasSide}

-- each instance has a side
pub first_side : (i : InstanceValue) → IsSideOf i 1
first_side (plain kind m) = (omega arith, omega arith)
first_side (circular m) = (omega arith, omega arith)
first_side (convex g) = (omega arith, omega arith)
first_side (doubly g) = (omega arith, omega arith)
first_side (proper g) = (omega arith, omega arith)
first_side (robinson d) = (omega arith, omega arith)

only_columns : (c s : ℕ) → 1 ≤ s → s ≤ 1 → slice_get (c ∷ []) (s - 1) ≡ Some c
only_columns c zero l u = absurd (omega (arith, l))
only_columns c (suc zero) l u = refl
only_columns c (suc (suc s)) l u = absurd (omega (arith, u))

both_columns : (g : BigraphValue) (s : ℕ) → 1 ≤ s → s ≤ 2 → slice_get (g.right ∷ g.left ∷ []) (s - 1) ≡ Some (rows_of_side g s).columns
both_columns g zero l u = absurd (omega (arith, l))
both_columns g (suc zero) l u = refl
both_columns g (suc (suc zero)) l u = refl
both_columns g (suc (suc (suc s))) l u = absurd (omega (arith, u))

-- the columns of a side are those of its derived matrix
pub derived_columns : (i : InstanceValue) (s : ℕ) → IsSideOf i s → slice_get (instance_columns i) (s - 1) ≡ Some (derived_matrix i s).columns
derived_columns (plain kind m) s is = only_columns m.columns s is.0 is.1
derived_columns (circular m) s is = only_columns m.columns s is.0 is.1
derived_columns (convex g) s is = only_columns g.right s is.0 is.1
derived_columns (doubly g) s is = both_columns g s is.0 is.1
derived_columns (proper g) s is = only_columns g.vertices s is.0 is.1
derived_columns (robinson d) s is = only_columns d.items s is.0 is.1

-- sides as many as numbers of columns
pub as_many_sides : (columns : List ℕ) (sides : List SideValue) → AreSides columns sides → length sides ≡ length columns
as_many_sides [] [] h = refl
as_many_sides [] (side ∷ sides) h = absurd h
as_many_sides (c ∷ columns) [] h = absurd h
as_many_sides (c ∷ columns) (side ∷ sides) h = ap suc (as_many_sides columns sides h.1)

-- the side with a number of columns
side_there : (columns : List ℕ) (sides : List SideValue) (n c : ℕ) → AreSides columns sides → slice_get columns n ≡ Some c → IsSomeAnd (slice_get sides n) (IsSide c)
side_there [] sides n c h e = absurd (none-some c e)
side_there (d ∷ columns) [] n c h e = absurd h
side_there (d ∷ columns) (side ∷ sides) zero c h e = subst (λ x. IsSide x side) (same_Some d c e) h.0
side_there (d ∷ columns) (side ∷ sides) (suc n) c h e = side_there columns sides n c h.1 e

-- a side of a yes, over the columns of the derived matrix
pub side_of : (i : InstanceValue) (value : YesValue) (s : ℕ) → IsSideOf i s → AreSides (instance_columns i) value.sides → HasSide value s (IsSide (derived_matrix i s).columns)
side_of i value s is h = side_there (instance_columns i) value.sides (s - 1) (derived_matrix i s).columns h (derived_columns i s is)

-- its tree is over these columns
pub side_tree : (i : InstanceValue) (value : YesValue) (s : ℕ) (m : RowList) (t : Outline) → IsSideOf i s → m ≡ derived_matrix i s → AreSides (instance_columns i) value.sides →
    HasSide value s (λ side. side.tree ≡ t) → IsProper m.columns t
side_tree i value s m t is e h tree = subst (λ (x : RowList). IsProper x.columns t) (sym e) (tree_there (slice_get value.sides (s - 1)) (side_of i value s is h) tree)
  where
    tree_there : (o : _) → IsSomeAnd o (IsSide (derived_matrix i s).columns) → IsSomeAnd o (λ (side : SideValue). side.tree ≡ t) → IsProper (derived_matrix i s).columns t
    tree_there None g k = absurd g
    tree_there (Some side) g k = subst (IsProper (derived_matrix i s).columns) k g.0
