use Rattle.std.proofs.Common.{◌≡◌, ◌+◌, ◌++◌, length, None, refl, sym, ap, subst, ◌∙◌, arith}
use Rattle.std.proofs.lemmas.List.{append-nil}
use Rattle.arena_model.specs.Layout.{children_at}
use Rattle.arena_model.specs.NamedTree.{outline_below}
use Rattle.bubble_pass.specs.declared.labels.Label.TheVariants.{Full}
use Rattle.bubble_pass.specs.Marks.{fulls_at}
use Rattle.templates_q.specs.Walk.{AreAll, EndsWithout}
use Rattle.templates_q.proofs.Walks.{front_gap, next_none, gap_none, none_tested, tested_none}
use Rattle.templates_q.proofs.Lines.{fulls_in, fulls_append, count_full, all_last, full_end}
use Rattle.templates_q.proofs.Runs.{full_sorted, sorted_full}
use Rattle.templates_q.proofs.q1.fits_q1.Goals as goal

pub pass-requires-clause-place : goal.pass-requires-clause-place
pass-requires-clause-place g c = (c.args.node.index, _, _, front_gap c.args.arena.now c.args.node.index c.look-view.result c.look-view.ensures.shows c.in-Q.is)

pub returns-in-Q-clause-fits : goal.returns-in-Q-clause-fits
returns-in-Q-clause-fits g c =
    let f = c.args.arena.now in let w = c.args.work.now in let n = c.args.node.index in
    let start = front_gap f n c.look-view.result c.look-view.ensures.shows c.in-Q.is in
    let p = c.pass.ensures.passed n _ _ start in
    let stops : EndsWithout Full w p.rest = c.pass.ensures.stops n _ _ p.gap in λ ps m. (
      (λ t. let e : p.rest ≡ _ = next_none f n _ p.rest c.pass.result.gap c.layout_law.ensures p.gap (none_tested c.pass.result.gap.next c.is_none.result c.is_none.ensures t) in
          (start.is_q, full_sorted (outline_below f) w (children_at f n) ps m (subst (AreAll Full w) (sym (p.is ∙ ap (λ z. p.ks ++ z) e ∙ append-nil p.ks)) p.marked))),
      (λ r. let a : AreAll Full w (children_at f n) = sorted_full w (children_at f n) r.1 refl refl m in
          let e : p.rest ≡ _ = full_end w p.rest (all_last Full w p.ks p.rest (subst (AreAll Full w) p.is a)) stops in
          let z : c.pass.result.gap.next ≡ None = gap_none f n _ p.rest c.pass.result.gap p.gap e in tested_none c.pass.result.gap.next c.is_none.result c.is_none.ensures z),
    )

pub returns-in-Q-clause-few : goal.returns-in-Q-clause-few
returns-in-Q-clause-few g c =
    let f = c.args.arena.now in let w = c.args.work.now in let n = c.args.node.index in
    let p = c.pass.ensures.passed n _ _ (front_gap f n c.look-view.result c.look-view.ensures.shows c.in-Q.is) in
    let x : fulls_in w p.ks ≡ length p.ks = (count_full w p.ks p.marked).0 in
    let k : length p.ks ≡ c.pass.result.count = p.count in
    let e : fulls_at w n ≡ fulls_in w (p.ks ++ p.rest) = c.requires.right.full ∙ ap (fulls_in w) p.is in
    let t : c.pass.new.steps ≡ c.look-view.new.steps + c.pass.result.count = c.pass.ensures.ticks in
    let s : c.look-view.new.steps ≡ c.args.steps.now + 1 = c.look-view.ensures.ticks in
    omega (arith, fulls_append w p.ks p.rest)

pub returns-in-Q-clause-ticks : goal.returns-in-Q-clause-ticks
returns-in-Q-clause-ticks g c = let few = returns-in-Q-clause-few g c in omega (arith, few)
