use Rattle.std.proofs.Common.{◌≡◌, ◌∙◌, ◌-◌, Less, get_or, sym, subst, arith}
use Rattle.std.proofs.lemmas.List.{get_or_default}
use Rattle.std.proofs.lemmas.List.Sorted.{all_adjacent_more}
use Rattle.row_model.specs.declared.graph.Pair.{Pair}
use Rattle.odd_cycle.proofs.RisingLaws.{pair_cmp, less_from_not_le, apart_from_rising}
use Rattle.odd_cycle.proofs.sorted.is_rising.Goals as goal

pub loop-i-preserved : goal.loop-i-preserved
loop-i-preserved c =
    let pairs = c.args.pairs.now in
    let i = c.loop-i.i in
    let none : Pair = record { a = 0; b = 0 } in
    let up : pair_cmp (get_or pairs (i - 1) none) (get_or pairs i none) ≡ Less = less_from_not_le (get_or pairs i none) (get_or pairs (i - 1) none) (sym c.le.ensures ∙ c.if-le.false) in
    all_adjacent_more pairs (λ v w. pair_cmp v w ≡ Less) i c.loop-i.auto.i c.loop-i.invariant
    (λ d. subst (λ v. pair_cmp v (get_or pairs i d) ≡ Less) (get_or_default pairs (i - 1) none d (omega (arith, c.loop-i-test.true)))
    (subst (λ w. pair_cmp (get_or pairs (i - 1) none) w ≡ Less) (get_or_default pairs i none d c.loop-i-test.true) up))

pub returns : goal.returns
returns c t =
    let pairs = c.args.pairs.now in
    apart_from_rising pairs (λ k d l. c.loop-i.invariant k d (omega (arith, l, c.loop-i-test.false)))
