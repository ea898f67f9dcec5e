use Rattle.std.proofs.Common.{◌≡◌, ◌∙◌, ◌+◌, ◌-◌, ◌≤◌, ℕ, true, ap, sym, refl, arith, get_or}
use Rattle.column_order.specs.Orders.{has}
use Rattle.row_model.proofs.Ascending.{ascends_longer, ascends_wider}
use Rattle.graph_read.proofs.PlaceLemmas.{has_last, take_new, take_known}
use Rattle.graph_read.proofs.places.take_row.Goals as goal
use Rattle.graph_read.proofs.places.take_row.Goals.{then-number-last+in_ok-push, else-number-last}

pub loop-at-preserved : goal.loop-at-preserved
loop-at-preserved c =
    let places = c.args.places.now in
    let at = c.loop-at.at in
    let last = c.loop-at.last in
    let list = c.loop-at.list.items in
    let first = c.args.first in
    let was = c.loop-at.invariant in
    let number : ℕ = get_or places at 0 - first + 1 in
    let above : first ≤ get_or places at 0 = was.above at (omega arith) c.loop-at-test.true in
    elim c.if-number-last.branch [
      | then-number-last+in_ok-push w ↦
          let more = w.in_ok-push.ensures.items in
          rw (w.list-is, w.last-is) (record {
            range = (omega (arith, was.range.0), omega (arith, c.loop-at-test.true));
            last = omega (arith, c.if-places-at.true);
            row = rw more (ascends_longer last 0 number list (omega arith) w.if-number-last.true was.row);
            known = λ some. rw more (has_last list number);
            later = λ k le lt. omega (arith, c.requires.ascending at k 0 (omega arith) lt);
            above = λ k le lt. was.above k (omega arith) lt;
            so_far = λ j. take_new places list at first number c.loop-at-test.true above refl j _ more ∙ was.so_far j;
          })
      | else-number-last w ↦
          let least : first + last ≤ get_or places at 0 + 1 = was.later at (omega arith) c.loop-at-test.true in
          let same : last ≡ number = omega (arith, w.if-number-last.false) in
          let known : has list number ≡ true = ap (has list) (sym same) ∙ was.known (omega arith) in
          rw (w.list-is, w.last-is) (record {
            range = (omega (arith, was.range.0), omega (arith, c.loop-at-test.true));
            last = was.last;
            row = was.row;
            known = was.known;
            later = λ k le lt. was.later k (omega arith) lt;
            above = λ k le lt. was.above k (omega arith) lt;
            so_far = λ j. take_known places list at first number c.loop-at-test.true above refl j known ∙ was.so_far j;
          })
    ]

pub returns-else-places-at-clause-row : goal.returns-else-places-at-clause-row
returns-else-places-at-clause-row c = ascends_wider c.loop-at.last c.args.right 0 c.loop-at.list.items c.loop-at.invariant.last c.loop-at.invariant.row

pub returns-after-loop-at-clause-row : goal.returns-after-loop-at-clause-row
returns-after-loop-at-clause-row c = ascends_wider c.loop-at.last c.args.right 0 c.loop-at.list.items c.loop-at.invariant.last c.loop-at.invariant.row
