-- One row of a matrix, reduced.
use Rattle.std.proofs.Common.{◌≡◌, ◌∙◌, ◌+◌, ◌-◌, ◌≤◌, ℕ, List, [], ◌∷◌, ◌++◌, Some, Result, Ok, Err, IfOk, OnErr, take, length, refl, sym, ap, subst, arith, IsTrue}
use Rattle.std.specs.Prelude.{slice_get}
use Rattle.std.specs.List.{list_all}
use Rattle.std.proofs.lemmas.Bool.{both_ways}
use Rattle.std.proofs.lemmas.List.{take_more}
use Rattle.std.proofs.lemmas.Option.{get_or_from_slice_get}
use Rattle.column_order.specs.Orders.{has, occurs, HasValidOrder}
use Rattle.row_model.specs.Rows.{IsRow}
use Rattle.row_model.specs.Graph.{row_at, HasConflict}
use Rattle.row_model.proofs.Ascending.{row_once, row_within}
use Rattle.row_model.proofs.Walks.{conflict_none}
use Rattle.pq_tree.specs.Outline.{Outline, leaves}
use Rattle.pq_tree.specs.Proper.{IsProper}
use Rattle.pq_tree.proofs.Frontiers.{leaves_are_frontier}
use Rattle.tree_theory.specs.Tied.{IsTied}
use Rattle.column_order.proofs.Counts.{order_once}
use Rattle.tree_theory.proofs.Exact.{tied_law}
use Rattle.pq_plain.specs.Found.{IsStep, IsFound}
use Rattle.tree_theory.specs.Refused.{IsRefused}
use Rattle.tree_theory.proofs.Finding.{replaced_node}
use Rattle.pq_tree.specs.Nodes.{holds}
use Rattle.tree_theory.specs.Reduced.{IsReduced, no_column, by_template}
use Rattle.tree_theory.specs.declared.reducer.Step.{Step}
use Rattle.tree_theory.specs.declared.reducer.Step.TheVariants.{Taken, Refused}
use Rattle.pq_plain.specs.declared.search.Found.{Found}
use Rattle.pq_plain.specs.declared.search.Found.TheVariants.{Columns, Root}
use Rattle.tree_theory.proofs.Steps.{row_held, kept, reduce_refused}
use Rattle.pq_tree.proofs.Turnings.{equivalent_refl}
use Rattle.pq_plain.proofs.Hits.{hits_part}

-- what a reducer tells of the tree t, which the row k made u
pub record IsRowStep (c : ℕ) (rows : List (List ℕ)) (k : ℕ) (t u : Outline) (step : Step) : Type 0 where
  pub reduced : step ≡ Taken → IsReduced (row_at rows k) t u
  pub taken : step ≡ Taken → IsTied c (take k rows) u
  pub order : step ≡ Taken → HasValidOrder c (take k rows)
  pub refused : step ≡ Refused → HasValidOrder c (take k rows) → ⊥
  pub conflict : step ≡ Refused → HasConflict c (take k rows)

module _ (c n : ℕ) (rows : List (List ℕ)) (k : ℕ) (row : List ℕ) (t : Outline) (width : n ≡ c) (proper : IsProper n t) (tied : IsTied c (take (k - 1) rows) t)
    (within : (1 ≤ k) × (k ≤ length rows)) (at : slice_get rows (k - 1) ≡ Some row) (ascending : IsRow c row) where
  next : take k rows ≡ take (k - 1) rows ++ row ∷ []
  next =
      let e : k ≡ k - 1 + 1 = omega (arith, within.0) in
      ap (λ i. take i rows) e ∙
      take_more rows (k - 1) row (omega (arith, within.0, within.1)) ∙
      ap (λ x. take (k - 1) rows ++ x ∷ []) (get_or_from_slice_get rows (k - 1) row row at)

  is_proper : IsProper c t
  is_proper = subst (λ m. IsProper m t) width proper

  row_is : row_at rows k ≡ row
  row_is = get_or_from_slice_get rows (k - 1) row [] at

  -- the tree reduced by the row
  pub step_kept : (u : Outline) → IsReduced row t u → IsProper c u × IsTied c (take k rows) u
  step_kept u r =
      subst (λ rs. IsProper c u × IsTied c rs u) (sym next) (kept c (take (k - 1) rows) row t u is_proper tied (row_within c row ascending) r)

  row_whole : IsTrue (holds row t)
  row_whole = row_held c row t is_proper (row_within c row ascending)

  step_reached : (u : Outline) → IsStep row t u Taken → IsReduced row t u
  step_reached u r = by_template r.x r.y u (record { node = replaced_node r.replaced; whole = r.lowest.0; smallest = r.lowest.1 }) r.made r.replaced (equivalent_refl u)

  step_taken : (u : Outline) → IsStep row t u Taken → IsProper c u × IsTied c (take k rows) u
  step_taken u r = step_kept u (step_reached u r)

  step_refused : IsRefused row t → HasConflict c (take k rows)
  step_refused h = subst (HasConflict c) (sym next) (reduce_refused c (take (k - 1) rows) row t is_proper tied (row_within c row ascending) h)

  order_of : (u : Outline) → IsProper c u × IsTied c (take k rows) u → HasValidOrder c (take k rows)
  order_of u w = (leaves u, (tied_law c (take k rows) u w.0.1 w.1 (leaves u)).0 (leaves_are_frontier u))

  -- an empty row
  empty_reduced : length row ≡ 0 → IsReduced row t t
  empty_reduced e = no_column (no_elements row e) (equivalent_refl t)
    where
      no_elements : (xs : List ℕ) → length xs ≡ 0 → xs ≡ []
      no_elements [] e = refl
      no_elements (x ∷ xs) e = absurd (omega arith)

  pub empty_step : length row ≡ 0 → IsRowStep c rows k t t Taken
  empty_step e =
      record {
        reduced = λ s. subst (λ r. IsReduced r t t) (sym row_is) (empty_reduced e);
        taken = λ s. (step_kept t (empty_reduced e)).1;
        order = λ s. order_of t (step_kept t (empty_reduced e));
        refused = λ s. absurd (cc);
        conflict = λ s. absurd (cc);
      }

  tree_once : (a : ℕ) → occurs (leaves t) a ≤ 1
  tree_once a = order_once n (leaves t) proper.1 a

  -- a row with a column
  module _ (u : Outline) (found : Found) (is : IsFound row t u found) where
    pub not_outside : (m : ℕ) → found ≡ Columns m → ⊥
    not_outside m e =
        let w : IsFound row t u (Columns m) = subst (IsFound row t u) e is in
        both_ways (list_all (λ a. has (leaves t) a) row)
        (hits_part row (leaves t) (row_once c row ascending) tree_once (omega (arith, w.1, w.2)))
        row_whole

    module _ (step : Step) (e : found ≡ Root step) where
      told : IsFound row t u (Root step)
      told = subst (IsFound row t u) e is

      reached : step ≡ Taken → IsReduced row t u
      reached s = step_reached u (subst (λ x. IsFound row t u (Root x)) s told)

      conflict : step ≡ Refused → HasConflict c (take k rows)
      conflict s = step_refused (subst (λ x. IsFound row t u (Root x)) s told).0

      pub root_step : IsRowStep c rows k t u step
      root_step =
          record {
            reduced = λ s. subst (λ r. IsReduced r t u) (sym row_is) (reached s);
            taken = λ s. (step_kept u (reached s)).1;
            order = λ s. order_of u (step_kept u (reached s));
            refused = λ s. conflict_none c (take k rows) (conflict s);
            conflict = conflict;
          }

  found_proper : (u : Outline) (found : Found) → IsFound row t u found → IsProper n u
  found_proper u (Columns m) h = subst (IsProper n) (sym h.0) proper
  found_proper u (Root Taken) h = subst (λ m. IsProper m u) (sym width) ((step_taken u h).0)
  found_proper u (Root Refused) h = subst (IsProper n) (sym h.1) proper

  pub still_proper : {E : Type 0} (r : Result Found E) (u : Outline) → IfOk r (IsFound row t u) → OnErr r (u ≡ t) → IsProper n u
  still_proper (Ok found) u h e = found_proper u found h
  still_proper (Err x) u h e = subst (IsProper n) (sym e) proper
