use Rattle.std.proofs.Common.{◌≡◌, ◌↔◌, ◌∙◌, ℕ, ◌+◌, ◌-◌, Some, Bool, List, length, slice_get, get_or, IsTrue, arith, subst, sym, refl, ap, below_more}
use Rattle.std.proofs.lemmas.Bool.{both_ways}
use Rattle.std.proofs.lemmas.Option.{get_or_from_slice_get}
use Rattle.column_order.specs.Orders.{IsOrder, Keeps}
use Rattle.column_order.proofs.Counts.{order_length}
use Rattle.row_model.specs.Rows.{IsRow}
use Rattle.row_model.specs.Positions.{ArePositions}
use Rattle.row_model.proofs.matrix.Matrix.keeps.Goals as goal

-- positions that are read again
module _ (columns : ℕ) (order positions now : List ℕ) (is : IsOrder columns order) (are : ArePositions order positions) (same : now ≡ positions) where
  are_now : ArePositions order now
  are_now = subst (ArePositions order) (sym same) are

  long : columns ≡ length now
  long = sym (are_now.columns ∙ order_length columns order is)

  kept_at : (rows : List (List ℕ)) (k : ℕ) (row d : List ℕ) (kept : Bool) → ((o : List ℕ) → IsOrder (length now) o → ArePositions o now → IsTrue kept ↔ Keeps o row)
      → slice_get rows (k + 1 - 1) ≡ Some row → IsTrue kept ↔ Keeps order (get_or rows k d)
  kept_at rows k row d kept h e =
      let found : get_or rows k d ≡ row = ap (λ n. get_or rows n d) (omega arith) ∙ get_or_from_slice_get rows (k + 1 - 1) row d e in
      rw found (h order (subst (λ n. IsOrder n order) long is) are_now)

pub positions-requires-clause-order : goal.positions-requires-clause-order
positions-requires-clause-order c = subst (λ n. IsOrder n c.args.order.now) (sym (order_length c.args.self.now.columns c.args.order.now c.requires)) c.requires

pub positions-requires-clause-few : goal.positions-requires-clause-few
positions-requires-clause-few c =
    let columns : c.self.inside.column_count ≡ c.args.self.now.columns = ap (λ v. v.columns) c.self.view_is in
    omega (arith, columns, c.self.invariant.columns.1, order_length c.args.self.now.columns c.args.order.now c.requires)

pub is_kept-requires : goal.is_kept-requires
is_kept-requires c =
    subst (λ n. IsRow n c.row.result.now) (long c.args.self.now.columns c.args.order.now c.in_ok-positions.positions.items c.deref.result.now c.requires c.in_ok-positions.ensures c.deref.ensures.value) c.row.ensures.ascending

pub returns-then-not-is_kept : goal.returns-then-not-is_kept
returns-then-not-is_kept c =
    let k = kept_at c.args.self.now.columns c.args.order.now c.in_ok-positions.positions.items c.deref.result.now c.requires c.in_ok-positions.ensures c.deref.ensures.value
    c.args.self.now.rows c.loop-k.k c.row.result.now c.row.result.now c.is_kept.result c.is_kept.ensures c.row.ensures.row in
    (λ h. absurd (both_ways _ refl h), λ all. absurd (both_ways c.is_kept.result c.if-not-is_kept.true (k.1 (all c.loop-k.k c.row.result.now (omega (arith, c.rows-k-end.ensures))))))

pub loop-k-preserved : goal.loop-k-preserved
loop-k-preserved c =
    let here : (d : List ℕ) → Keeps c.args.order.now (get_or c.args.self.now.rows c.loop-k.k d) =
    λ d. (kept_at c.args.self.now.columns c.args.order.now c.in_ok-positions.positions.items c.deref.result.now c.requires c.in_ok-positions.ensures c.deref.ensures.value
    c.args.self.now.rows c.loop-k.k c.row.result.now d c.is_kept.result c.is_kept.ensures c.row.ensures.row).0 c.if-not-is_kept.false in
    λ k d. below_more (λ n. Keeps c.args.order.now (get_or c.args.self.now.rows n d)) c.loop-k.k (λ n. c.loop-k.invariant n d) (here d) k

pub returns : goal.returns
returns c = (λ _ k d l. c.loop-k.invariant k d (omega (arith, c.rows-k-end.ensures)), λ _. refl)
