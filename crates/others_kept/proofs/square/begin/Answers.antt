use Rattle.std.proofs.Common.{◌≡◌, ◌∙◌, ◌+◌, ◌-◌, ◌<◌, ◌*◌, get_or, set, sym, subst, arith}
use Rattle.std.proofs.lemmas.Nat.{mul-add-lt}
use Rattle.others_kept.proofs.Squares.{Begun, begun_more, item_is}
use Rattle.others_kept.proofs.square.begin.Goals as goal

pub loop-place-preserved : goal.loop-place-preserved
loop-place-preserved c =
    let items = c.loop-place.counts.items in
    let n = c.args.columns in
    let first = c.args.span.first in
    let at = (first - 1) * n + c.loop-place.place in
    let lies = c.requires.within in
    let within : c.loop-place.place < n = omega (arith, c.loop-place-test.true, lies.inside) in
    let inside : at < n * n = mul-add-lt (first - 1) n c.loop-place.place n (omega (arith, within, c.loop-place.auto.place)) within in
    let more = begun_more n first c.loop-place.place c.args.counts.now.items items lies.from_1 (omega (arith, c.loop-place.auto.place)) within c.loop-place.invariant in
    let here : c.index_mut.result.now ≡ get_or items at 0 = c.index_mut.ensures.value ∙ item_is items at c.index_mut.result.now 0 (omega (arith, inside, c.loop-place.invariant.square)) in
    subst (λ v. Begun n first (c.loop-place.place + 1) c.args.counts.now.items (set items at (v + 1))) (sym here) more
