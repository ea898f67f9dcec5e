use Rattle.std.proofs.Common.{◌≡◌, ◌↔◌, ◌∙◌, ℕ, ◌≤◌, List, length, take, sum_by, IsTrue, ap, sym, subst, arith}
use Rattle.std.specs.Prelude.{All}
use Rattle.std.proofs.Math.Seq.{take-length}
use Rattle.std.proofs.lemmas.Result.{IfOk-weaker}
use Rattle.column_order.specs.Orders.{IsOrder, IsValidOrder, Keeps}
use Rattle.column_order.proofs.Counts.{order_length}
use Rattle.pq_tree.specs.Outline.{leaves}
use Rattle.pq_tree.specs.Proper.{IsProper}
use Rattle.pq_tree.specs.PqTree.{column_count, outline}
use Rattle.open_gaps.specs.Gaps.{AreGaps}
use Rattle.bound_tree.specs.declared.stretch.Stretch.{Stretch}
use Rattle.bound_tree.specs.Free.{IsRoundGap, IsFree}
use Rattle.bound_tree.specs.Stretches.{stretches}
use Rattle.bound_tree.proofs.Exact.{exact}
use Rattle.bound_tree.proofs.Looks.{count_of_stretches, looks_of_tree}
use Rattle.bound_tree.proofs.Within.{tree_within}
use Rattle.bound_tree.proofs.is_complete_counted.Given as given
use Rattle.bound_tree.proofs.is_complete_counted.Goals as goal
use Rattle.bound_tree.proofs.is_complete_counted.Goals.{After-rows, After-deref_mut}

-- all rows are taken
all_rows : (g : given.Over) (c : After-rows g) → take c.rows.result c.args.m.now.rows ≡ c.args.m.now.rows
all_rows g c = ap (λ n. take n c.args.m.now.rows) c.rows.ensures ∙ take-length c.args.m.now.rows

-- the gaps are those of the leaves, and the stretches those of the tree
module _ (g : given.Over) (c : After-deref_mut g) where
  pub of_leaves : c.in_ok-gaps.gaps.order ≡ leaves (outline c.args.tree.now)
  of_leaves = c.in_ok-gaps.ensures.order ∙ c.deref.ensures.value ∙ c.in_ok-order.ensures.leaves

  pub of_tree : c.deref_mut.result.now ≡ stretches 0 (outline c.args.tree.now)
  of_tree = c.deref_mut.ensures.value ∙ c.in_ok-stretches.ensures

pub new-requires-clause-order : goal.new-requires-clause-order
new-requires-clause-order g c =
    subst (λ rs. IsValidOrder c.args.m.now.columns rs c.deref.result.now) (sym (all_rows g (goal.at.new-requires-clause-order g c).After-rows))
    (subst (IsValidOrder c.args.m.now.columns c.args.m.now.rows) (sym c.deref.ensures.value)
    (record { order = subst (λ n. IsOrder n c.in_ok-order.order.items) c.requires.columns c.in_ok-order.ensures.order; kept = subst (λ (l : List ℕ). All (Keeps l) c.args.m.now.rows) (sym c.in_ok-order.ensures.leaves) c.requires.kept }))

pub are_free-requires : goal.are_free-requires
are_free-requires g c =
    let proper : IsProper (column_count c.args.tree.now) (outline c.args.tree.now) = c.args.tree.now.proper in
    let place = goal.at.are_free-requires g c in
    subst (All (IsRoundGap (length c.in_ok-gaps.gaps.order))) (sym (of_tree g place.After-deref_mut))
    (tree_within (length c.in_ok-gaps.gaps.order) (outline c.args.tree.now) 0 proper.0 (omega (arith, ap (λ (l : List ℕ). length l) (of_leaves g place.After-deref_mut))))

pub returns-clause-complete : goal.returns-clause-complete
returns-clause-complete g c =
    let place = goal.at.returns-clause-complete g c in
    let rows = c.args.m.now.rows in
    let t = outline c.args.tree.now in
    let proper : IsProper (column_count c.args.tree.now) t = c.args.tree.now.proper in
    let o = of_leaves g place.After-deref_mut in
    let ss = of_tree g place.After-deref_mut in
    let valid : IsValidOrder c.args.m.now.columns rows (leaves t) = record { order = subst (λ n. IsOrder n (leaves t)) c.requires.columns proper.1; kept = c.requires.kept } in
    let whole = all_rows g place.After-rows in
    let are : AreGaps rows c.in_ok-gaps.gaps.order c.in_ok-gaps.gaps.gaps =
    subst (λ l. AreGaps rows l c.in_ok-gaps.gaps.gaps) (sym c.in_ok-gaps.ensures.order) (subst (λ rs. AreGaps rs c.deref.result.now c.in_ok-gaps.gaps.gaps) whole c.in_ok-gaps.ensures.gaps) in
    let tied = exact c.args.m.now.columns rows t c.in_ok-gaps.gaps.gaps proper.0 valid (subst (λ l. AreGaps rows l c.in_ok-gaps.gaps.gaps) o are) in
    IfOk-weaker c.are_free.result _ _
    (λ yes free.
    let all : IsTrue yes ↔ All (IsFree rows (leaves t)) (stretches 0 t) =
    subst (λ (l : List ℕ). IsTrue yes ↔ All (IsFree rows l) (stretches 0 t)) o
    (subst (λ (l : List Stretch). IsTrue yes ↔ All (IsFree rows c.in_ok-gaps.gaps.order) l) ss (free rows are)) in
    (λ h. tied.0 (all.0 h), λ h. all.1 (tied.1 h)))
    c.are_free.ensures.free

pub returns-clause-ticks : goal.returns-clause-ticks
returns-clause-ticks g c =
    let place = goal.at.returns-clause-ticks g c in
    let t = outline c.args.tree.now in
    let proper : IsProper (column_count c.args.tree.now) t = c.args.tree.now.proper in
    let n : length (leaves t) ≡ c.args.m.now.columns = order_length (column_count c.args.tree.now) (leaves t) proper.1 ∙ c.requires.columns in
    let few : length c.deref_mut.result.now ≤ c.args.m.now.columns = omega (arith, ap (λ l. length l) (of_tree g place.After-deref_mut), count_of_stretches t 0 proper.0, n) in
    omega (
      arith,
      c.in_ok-gaps.ensures.ticks,
      ap (λ (rs : List (List ℕ)). sum_by length rs) (all_rows g place.After-rows),
      c.are_free.ensures.ticks,
      looks_of_tree c.args.m.now.columns (length c.deref_mut.result.now) (length c.in_ok-gaps.gaps.order) few (ap (λ (l : List ℕ). length l) (of_leaves g place.After-deref_mut) ∙ n),
    )
