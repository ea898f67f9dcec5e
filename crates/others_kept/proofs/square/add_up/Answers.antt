use Rattle.std.proofs.Common.{◌≡◌, ◌∙◌, ◌+◌, ◌-◌, ◌<◌, ◌*◌, get_or, set, sym, subst, arith}
use Rattle.others_kept.proofs.Squares.{AddedUp, added_none, added_few, added_more, item_is}
use Rattle.others_kept.proofs.square.add_up.Goals as goal

pub loop-i-init : goal.loop-i-init
loop-i-init c = added_none c.args.columns c.args.counts.now.items c.requires.square

pub overflow_add-index_mut : goal.overflow_add-index_mut
overflow_add-index_mut c =
    let items = c.loop-i.counts.items in
    let i = c.loop-i.i in
    let inside : i < c.args.columns * c.args.columns = omega (arith, c.loop-i-test.true, c.len-i-end.ensures, c.requires.square) in
    let few = added_few c.args.columns i c.args.counts.now.items items c.requires.columns.0 inside c.loop-i.invariant 16777216 c.requires.room in
    let here = c.index_mut.ensures.value ∙ item_is items i c.index_mut.result.now 0 (omega (arith, inside, c.loop-i.invariant.square)) in
    let above = c.index.ensures ∙ item_is items (i - c.args.columns) c.index.result.now 0 (omega (arith, inside, c.loop-i.invariant.square)) in
    omega (arith, few, here, above)

pub loop-i-preserved : goal.loop-i-preserved
loop-i-preserved c =
    let items = c.loop-i.counts.items in
    let i = c.loop-i.i in
    let inside : i < c.args.columns * c.args.columns = omega (arith, c.loop-i-test.true, c.len-i-end.ensures, c.requires.square) in
    let more = added_more c.args.columns i c.args.counts.now.items items c.requires.columns.0 inside c.loop-i.invariant in
    let here = c.index_mut.ensures.value ∙ item_is items i c.index_mut.result.now 0 (omega (arith, inside, c.loop-i.invariant.square)) in
    let above = c.index.ensures ∙ item_is items (i - c.args.columns) c.index.result.now 0 (omega (arith, inside, c.loop-i.invariant.square)) in
    let value : c.index_mut.result.now + c.index.result.now ≡ get_or items i 0 + get_or items (i - c.args.columns) 0 = omega (arith, here, above) in
    subst (λ v. AddedUp c.args.columns (i + 1) c.args.counts.now.items (set items i v)) (sym value) more
