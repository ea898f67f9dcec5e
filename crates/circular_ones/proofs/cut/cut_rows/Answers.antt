use Rattle.std.proofs.Common.{◌≡◌, ◌∙◌, ◌-◌, ◌+◌, [], sym, ap, arith}
use Rattle.std.proofs.lemmas.Grind.{common_steps}
use Rattle.std.proofs.lemmas.Bool.{cond-true, cond-false}
use Rattle.std.proofs.lemmas.Option.{get_or_from_slice_get}
use Rattle.column_order.specs.Orders.{has}
use Rattle.circular_ones.specs.Circular.{complement, cut_row}
use Rattle.circular_ones.proofs.Complements.{complement_row}
use Rattle.circular_ones.proofs.CutRows.{cut_next}
use Rattle.circular_ones.proofs.cut.cut_rows.Goals as goal
use Rattle.circular_ones.proofs.cut.cut_rows.Goals.{then-is_cut+in_ok-list_outside+in_ok-push_row, else-is_cut+in_ok-push_row-2}

pub push_row-requires-clause-row : goal.push_row-requires-clause-row
push_row-requires-clause-row c =
    rw (c.loop-k.invariant.0, c.deref.ensures.value, c.in_ok-list_outside.ensures, c.columns-then-is_cut.ensures.columns) (complement_row c.args.m.now.columns c.row-row.result.now)

pub loop-k-preserved : goal.loop-k-preserved
loop-k-preserved c =
    let m = c.args.m.now in
    let row = c.row-row.result.now in
    let k = c.loop-k.k in
    let same : c.has-is_cut.result ≡ has row 1 = c.has-is_cut.ensures ∙ ap (λ r. has r 1) (get_or_from_slice_get m.rows (k + 1 - 1) row [] c.row-row.ensures.row) in
    elim c.if-is_cut.branch [
      | then-is_cut+in_ok-list_outside+in_ok-push_row w ↦
          let next = w.deref.result.now in
          let turns : next ≡ cut_row m.columns row =
          w.deref.ensures.value ∙ w.in_ok-list_outside.ensures ∙ ap (λ n. complement n row) w.columns-then-is_cut.ensures.columns
          ∙ sym (cond-true (has row 1) (complement m.columns row) row (sym same ∙ w.if-is_cut.true)) in
          rw w.rows-is (cut_next w.push_row.new.self c.loop-k.rows m.columns k m.rows row next w.in_ok-push_row.ensures.ok turns c.loop-k.invariant c.row-row.ensures.row)
      | else-is_cut+in_ok-push_row-2 w ↦
          let stays : row ≡ cut_row m.columns row = sym (cond-false (has row 1) (complement m.columns row) row (sym same ∙ w.if-is_cut.false)) in
          rw w.rows-is (cut_next w.push_row-else-is_cut.new.self c.loop-k.rows m.columns k m.rows row row w.in_ok-push_row-2.ensures.ok stays c.loop-k.invariant c.row-row.ensures.row)
    ]

pub push_row-requires-clause-room : goal.push_row-requires-clause-room
push_row-requires-clause-room c = grind (arith, common_steps)

pub push_row-requires-else-is_cut-clause-room : goal.push_row-requires-else-is_cut-clause-room
push_row-requires-else-is_cut-clause-room c = grind (arith, common_steps)

pub returns : goal.returns
returns c = grind (arith, common_steps)
