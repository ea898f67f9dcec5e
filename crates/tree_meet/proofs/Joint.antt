-- The common frontiers of two trees are the valid orders of the rows of both.
use Rattle.std.proofs.Common.{◌≡◌, ◌↔◌, ◌∙◌, ℕ, List, ◌++◌, All, sym, subst, ap}
use Rattle.std.proofs.lemmas.List.Elements.{All-from_recursion, recursion_from_All, All-append}
use Rattle.column_order.specs.Orders.{IsOrder, IsValidOrder, HasValidOrder, Keeps}
use Rattle.row_model.specs.Rows.{RowList}
use Rattle.row_model.specs.declared.graph.Line.{Line}
use Rattle.row_model.specs.Cycles.{IsOddCycle}
use Rattle.pq_tree.specs.Outline.{Outline, IsFrontier}
use Rattle.pq_tree.specs.Proper.{IsProper}
use Rattle.pq_tree.specs.declared.PqTree.{PqTree}
use Rattle.pq_tree.proofs.Frontiers.{frontier_occurs}
use Rattle.pq_tree.proofs.AllOrders.{all_orders}
use Rattle.tree_theory.specs.CanonicalLaws.{CanonicalTreeLaw, OneShapeLaw}
use Rattle.row_judge.specs.Judges.{IsTreeOfOrders}
use Rattle.tree_meet.specs.TreeRows.{rows_of_tree}
use Rattle.odd_cycle.specs.Short.{IsShort}
use Rattle.tree_meet.specs.Meets.{IsCommon, IsMeet, joint_rows}
use Rattle.tree_meet.specs.Laws.{EitherFirstLaw, UniversalMeetLaw}
use Rattle.tree_meet.proofs.Groups.{left_all, right_all}
use Rattle.tree_meet.proofs.Tied.{rows_exact}

all_left : (P : List ℕ → Type 0) (xs ys : List (List ℕ)) → All P (xs ++ ys) → All P xs
all_left P xs ys h = All-from_recursion P xs (left_all P xs ys (recursion_from_All P (xs ++ ys) h))

all_right : (P : List ℕ → Type 0) (xs ys : List (List ℕ)) → All P (xs ++ ys) → All P ys
all_right P xs ys h = All-from_recursion P ys (right_all P xs ys (recursion_from_All P (xs ++ ys) h))

module _ (c : ℕ) (t u : Outline) (first : IsProper c t) (second : IsProper c u) where
  pub common_valid : (o : List ℕ) → IsCommon t u o ↔ IsValidOrder c (joint_rows c t u) o
  common_valid o =
      let a : IsFrontier t o ↔ IsValidOrder c (rows_of_tree c t) o = rows_exact c t first o in
      let b : IsFrontier u o ↔ IsValidOrder c (rows_of_tree c u) o = rows_exact c u second o in (
        λ h. record {
          order = (a.0 h.0).order;
          kept = All-append (Keeps o) (rows_of_tree c t) (rows_of_tree c u) (a.0 h.0).kept (b.0 h.1).kept;
        },
        λ v. (
          a.1 (record { order = v.order; kept = all_left (Keeps o) (rows_of_tree c t) (rows_of_tree c u) v.kept }),
          b.1 (record { order = v.order; kept = all_right (Keeps o) (rows_of_tree c t) (rows_of_tree c u) v.kept }),
        ),
      )

  module _ (m : RowList) (columns : m.columns ≡ c) (rows : m.rows ≡ joint_rows c t u) where
    valid : (o : List ℕ) → IsValidOrder m.columns m.rows o ↔ IsCommon t u o
    valid o =
        let k : IsCommon t u o ↔ IsValidOrder m.columns m.rows o =
        subst (λ n. IsCommon t u o ↔ IsValidOrder n m.rows o) (sym columns) (subst (λ (x : List (List ℕ)). IsCommon t u o ↔ IsValidOrder c x o) (sym rows) (common_valid o)) in
        (k.1, k.0)

    -- a judge's tree is that of the common frontiers, of which there is one
    pub met_tree : (v : PqTree) → IsTreeOfOrders m v × HasValidOrder m.columns m.rows → IsMeet c t u v × ((o : List ℕ) × IsCommon t u o)
    met_tree v h = (
      record {
        columns = h.0.columns ∙ columns;
        canonical = h.0.canonical;
        common = λ o. (λ f. (valid o).0 ((h.0.orders o).0 f), λ k. (h.0.orders o).1 ((valid o).1 k));
      },
      (h.1.0, (valid h.1.0).0 h.1.1),
    )

    -- a judge's cycle is one of the rows of both trees, which share no frontier
    pub met_apart : (cycle : List Line) → IsOddCycle m.columns m.rows cycle × (HasValidOrder m.columns m.rows → ⊥) → IsShort m.columns cycle →
        IsOddCycle c (joint_rows c t u) cycle × ((o : List ℕ) → IsCommon t u o → ⊥) × IsShort c cycle
    met_apart cycle h short = (
      subst (λ n. IsOddCycle n (joint_rows c t u) cycle) columns (subst (λ (x : List (List ℕ)). IsOddCycle m.columns x cycle) rows h.0),
      λ o k. h.1 (o, (valid o).1 k),
      subst (λ n. IsShort n cycle) columns short,
    )

pub either_first : CanonicalTreeLaw → EitherFirstLaw
either_first one c t u v w cv cw mv mw =
    one c v w cv cw (λ o. (
      λ f. let k = (mv o).0 f in (mw o).1 (k.1, k.0),
      λ f. let k = (mw o).0 f in (mv o).1 (k.1, k.0),
    ))

pub universal_meet : OneShapeLaw → UniversalMeetLaw
universal_meet shape c t v h p cv m =
    let order : (o : List ℕ) → IsFrontier t o → IsOrder c o = λ o f a. frontier_occurs t o a f ∙ p.1 a in
    shape c t v p cv.0 (λ o. (λ f. (m o).1 (f, (all_orders c h o).1 (order o f)), λ f. ((m o).0 f).0))

-- the matrix of the rows of one tree, to which those of another were added
pub joined_columns : (c d : ℕ) (t u : Outline) (m n : RowList) → m ≡ record { columns = c; rows = rows_of_tree c t } → n ≡ record m { rows = m.rows ++ rows_of_tree d u } → n.columns ≡ c
joined_columns c d t u m n e f = ap (λ (x : RowList). x.columns) f ∙ ap (λ (x : RowList). x.columns) e

pub joined_rows : (c d : ℕ) (t u : Outline) (m n : RowList) → d ≡ c → m ≡ record { columns = c; rows = rows_of_tree c t } → n ≡ record m { rows = m.rows ++ rows_of_tree d u } →
    n.rows ≡ joint_rows c t u
joined_rows c d t u m n same e f =
    ap (λ (x : RowList). x.rows) f ∙ ap (λ (x : RowList). x.rows ++ rows_of_tree d u) e ∙ ap (λ (k : ℕ). rows_of_tree c t ++ rows_of_tree k u) same
