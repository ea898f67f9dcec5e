use Rattle.std.proofs.Common.{◌≡◌, length, subst, arith}
use Rattle.order_list.specs.Coming.{outlines}
use Rattle.order_list.specs.Next.{IsNextAmong}
use Rattle.order_list.proofs.Children.{lent_arities, next_lent}
use Rattle.order_list.proofs.search.next_among.Goals as goal

pub next_first-requires : goal.next_first-requires
next_first-requires c =
    lent_arities c.args.trees.now c.loop-place.place c.index-trees-place.result c.requires c.loop-place-test.true c.index-trees-place.is

pub loop-place-preserved : goal.loop-place-preserved
loop-place-preserved c =
    next_lent c.args.trees.now c.loop-place.place c.args.from c.index-trees-place.result c.loop-place.next c.nearer-next.result c.next_first.result c.loop-place-test.true c.index-trees-place.is
    c.nearer-next.ensures c.loop-place.invariant c.next_first.ensures

pub returns : goal.returns
returns c =
    let all : c.loop-place.place ≡ length c.args.trees.now = omega (arith, c.loop-place-test.false, c.loop-place.auto.place-end) in
    subst (λ n. IsNextAmong (outlines c.args.trees.now) n c.args.from c.loop-place.next) all c.loop-place.invariant
