use Rattle.std.proofs.Common.{◌≡◌, ◌∙◌, ◌∷◌, ◌++◌, ℕ, List, [], ap, sym, refl, arith, length, length-append}
use Rattle.std.proofs.lemmas.Result.{IfOk-from_err}
use Rattle.row_model.specs.Rows.{RowList}
use Rattle.graph_read.specs.Edges.{lists_from}
use Rattle.graph_read.proofs.ListLemmas.{lists_more}
use Rattle.graph_read.proofs.PlaceLemmas.{row_fits, row_taken, rest_left}
use Rattle.graph_read.proofs.places.lists_at.Goals as goal

pub loop-x-preserved : goal.loop-x-preserved
loop-x-preserved c =
    let places = c.args.places.now in
    let left = c.args.left in
    let right = c.args.right in
    let x = c.loop-x.x in
    let was = c.loop-x.invariant in
    let list = c.take_row.new.list.items in
    let taken = c.in_ok-at.ensures in
    record {
      columns = ap (λ (m : RowList). m.columns) c.in_ok-push_row.ensures.ok ∙ was.columns;
      count = omega (arith, ap (λ (m : RowList). length m.rows) c.in_ok-push_row.ensures.ok, length-append c.loop-x.lists.rows (c.deref.result.now ∷ []), was.count);
      within = taken.range.1;
      above = λ k le lt. omega (arith, taken.further k le lt);
      left_over = λ p le. rest_left right x c.loop-x.at c.in_ok-at.at places list taken.row was.left_over taken.further taken.list p (omega arith);
      rows = λ edges are.
          ap (λ (m : RowList). m.rows) c.in_ok-push_row.ensures.ok
          ∙ ap (λ rows. rows ++ c.deref.result.now ∷ []) (was.rows edges are)
          ∙ ap (λ last. lists_from 1 x right edges ++ last ∷ [])
          (c.deref.ensures.value ∙ row_taken right x c.loop-x.at c.in_ok-at.at places list taken.row was.left_over taken.further taken.list left edges c.loop-x-test.true are)
          ∙ sym (lists_more x right edges);
    }

pub with_room-requires : goal.with_room-requires
with_room-requires c = c.requires.right

pub loop-x-init : goal.loop-x-init
loop-x-init c =
    let none = c.in_ok-lists.ensures in
    record {
      columns = ap (λ (m : RowList). m.columns) none;
      count = ap (λ (m : RowList). length m.rows) none;
      within = omega arith;
      above = λ k le lt. omega arith;
      left_over = λ p le. refl;
      rows = λ edges are. ap (λ (m : RowList). m.rows) none;
    }

pub take_row-requires-clause-from : goal.take_row-requires-clause-from
take_row-requires-clause-from c = c.loop-x.invariant.within

pub take_row-requires-clause-above : goal.take_row-requires-clause-above
take_row-requires-clause-above c = c.loop-x.invariant.above

pub take_row-requires-clause-ascending : goal.take_row-requires-clause-ascending
take_row-requires-clause-ascending c = c.requires.ascending

pub push_row-requires-clause-row : goal.push_row-requires-clause-row
push_row-requires-clause-row c = rw (c.loop-x.invariant.columns, c.deref.ensures.value) c.in_ok-at.ensures.row

pub push_row-requires-clause-room : goal.push_row-requires-clause-room
push_row-requires-clause-room c = omega (arith, c.loop-x.invariant.count, c.loop-x-test.true, c.requires.left)

pub returns-in_err-lists : goal.returns-in_err-lists
returns-in_err-lists c = IfOk-from_err c.from_residual.result _ c.from_residual.ensures.0

pub returns-in_err-at : goal.returns-in_err-at
returns-in_err-at c = IfOk-from_err c.from_residual-in_err-at.result _ c.from_residual-in_err-at.ensures.0

pub returns-in_err-push_row : goal.returns-in_err-push_row
returns-in_err-push_row c = IfOk-from_err c.from_residual-in_err-push_row.result _ c.from_residual-in_err-push_row.ensures.0

pub returns : goal.returns
returns c edges are =
    let done : c.loop-x.x ≡ c.args.left = omega (arith, c.loop-x-test.false, c.loop-x.auto.x-end) in
    let made : ℕ → List (List ℕ) → RowList = λ columns rows. record { columns = columns; rows = rows } in
    ap (λ columns. made columns c.loop-x.lists.rows) c.loop-x.invariant.columns
    ∙ ap (made c.args.right) (c.loop-x.invariant.rows edges are ∙ ap (λ n. lists_from 1 n c.args.right edges) done)

pub overflow_mul-x : goal.overflow_mul-x
overflow_mul-x c =
    let fits = row_fits c.args.left c.args.right c.loop-x.x c.loop-x-test.true c.requires.left c.requires.right.1 in
    omega (arith, fits, c.requires.right.0)

pub take_row-requires-clause-small : goal.take_row-requires-clause-small
take_row-requires-clause-small c = (row_fits c.args.left c.args.right c.loop-x.x c.loop-x-test.true c.requires.left c.requires.right.1, c.requires.right.1)
