use Rattle.std.proofs.Common.{◌≡◌, ◌∙◌, ◌+◌, ◌*◌, get_or, length, ap, arith}
use Rattle.others_kept.specs.Counts.{sum_below, begins}
use Rattle.others_kept.proofs.Squares.{counted_more}
use Rattle.others_kept.proofs.Tables.{none, begins_few}
use Rattle.others_kept.proofs.square.beginnings.Goals as goal

pub begin-requires-clause-room : goal.begin-requires-clause-room
begin-requires-clause-room c a b u v =
    omega (arith, c.loop-span.invariant.cells a b none u v, begins_few c.loop-span.span-index a b c.args.spans.now, c.loop-span-test.true, c.requires.few)

pub loop-span-preserved : goal.loop-span-preserved
loop-span-preserved c =
    let i = c.loop-span.span-index in
    record {
      square = c.begin.ensures.square;
      cells = λ a b d u v. counted_more i a b c.args.spans.now d _ (get_or c.begin.new.counts.items (a * c.args.columns + b) 0) (get_or c.loop-span.counts.items (a * c.args.columns + b) 0)
          c.loop-span-test.true (c.begin.ensures.cells a b u v) (c.loop-span.invariant.cells a b d u v);
    }

pub returns-clause-cells : goal.returns-clause-cells
returns-clause-cells c a b d u v =
    let all : c.loop-span.span-index ≡ length c.args.spans.now = omega (arith, c.loop-span-test.false, c.loop-span.auto.span-index-end) in
    c.loop-span.invariant.cells a b d u v ∙ ap (λ n. sum_below n (λ j. begins a b (get_or c.args.spans.now j d))) all
