use Rattle.std.proofs.Common.{◌≡◌, true, false, inl, inr, refl, sym, ◌∙◌, reverse}
use Rattle.arena_model.specs.Layout.{children_at}
use Rattle.bubble_pass.specs.declared.labels.Label.TheVariants.{Empty}
use Rattle.templates_q.specs.Walk.{AreAll}
use Rattle.templates_q.proofs.Walks.{front_gap, back_gap}
use Rattle.templates_q.proofs.Lines.{none_counted, all_empty_counts, counted_reverse}
use Rattle.templates_q.proofs.Fitting.{line_fits, fitting_line, fitting_some, counted_at}
use Rattle.templates_q.proofs.q2.has_q2.Goals as goal

pub returns-then-are_counts-clause-fits : goal.returns-then-are_counts-clause-fits
returns-then-are_counts-clause-fits g c = λ ps m.
    let w = c.args.work.now in let n = c.args.node.index in let ks = children_at c.args.arena.now n in
    let s = c.are_counts.ensures.0 c.if-are_counts.true in
    let e : AreAll Empty w ks = none_counted w ks (sym c.requires.ready.right.full ∙ sym c.counts-counts.ensures.full ∙ s.0) (sym c.requires.ready.right.partial ∙ sym c.counts-counts.ensures.partial ∙ s.1) in (
      (λ t. absurd (let z : false ≡ true = t in cc)),
      (λ fits. absurd (fitting_some c.args.arena.now w n ps m fits e)),
    )

pub returns-then-is_run_from-clause-fits : goal.returns-then-is_run_from-clause-fits
returns-then-is_run_from-clause-fits g c = λ ps m.
    let f = c.args.arena.now in let w = c.args.work.now in let n = c.args.node.index in let ks = children_at f n in
    let counted = counted_at f w n _ _ c.requires.ready c.counts-counts.ensures.full c.counts-counts.ensures.partial in
    let gap = front_gap f n c.args.view.now c.requires.shown c.requires.q in
    let no : c.are_counts.result ≡ false = c.if-are_counts.false in (
      (λ t. line_fits f w n ps gap.is_q m
          (λ e. let z = all_empty_counts w ks c.counts-counts.result.full c.counts-counts.result.partial counted e in
          let y : c.are_counts.result ≡ true = c.are_counts.ensures.1 z in cc)
          (inl (let r = c.is_run_from.ensures.run n ks gap counted in r.0 c.if-is_run_from.true))),
      (λ fits. refl),
    )

pub is_run_from-requires-2-clause-place : goal.is_run_from-requires-2-clause-place
is_run_from-requires-2-clause-place g c =
    let f = c.args.arena.now in let w = c.args.work.now in let n = c.args.node.index in let ks = children_at f n in
    let counted = counted_at f w n _ _ c.requires.ready c.counts-counts.ensures.full c.counts-counts.ensures.partial in
    (n, reverse ks, back_gap f n c.args.view.now c.requires.shown c.requires.q, counted_reverse w ks _ _ counted)

pub returns-clause-fits : goal.returns-clause-fits
returns-clause-fits g c = λ ps m.
    let f = c.args.arena.now in let w = c.args.work.now in let n = c.args.node.index in let ks = children_at f n in
    let counted = counted_at f w n _ _ c.requires.ready c.counts-counts.ensures.full c.counts-counts.ensures.partial in
    let front = front_gap f n c.args.view.now c.requires.shown c.requires.q in
    let back = back_gap f n c.args.view.now c.requires.shown c.requires.q in
    let no : c.are_counts.result ≡ false = c.if-are_counts.false in
    let run1 = c.is_run_from.ensures.run n ks front counted in
    let run2 = c.is_run_from-2.ensures.run n (reverse ks) back (counted_reverse w ks _ _ counted) in (
      (λ t. line_fits f w n ps front.is_q m
          (λ e. let z = all_empty_counts w ks c.counts-counts.result.full c.counts-counts.result.partial counted e in
          let y : c.are_counts.result ≡ true = c.are_counts.ensures.1 z in cc)
          (inr (run2.0 t))),
      (λ fits. elim (fitting_line f w n ps m fits) [
        | inl r ↦ absurd (let a : c.is_run_from.result ≡ true = run1.1 r in let b : c.is_run_from.result ≡ false = c.if-is_run_from.false in cc)
        | inr r ↦ run2.1 r
      ]),
    )
