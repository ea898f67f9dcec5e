use Rattle.std.proofs.Common.{◌≡◌, ◌<◌, ◌+◌, ◌++◌, ◌∷◌, [], length, get_or, max, subst, sym, ◌∙◌, ap, arith, refl}
use Rattle.std.proofs.lemmas.Grind.{get_or_default_zero}
use Rattle.row_model.specs.declared.lists.Span.{Span}
use Rattle.clone_map.proofs.SweepLaws.{IsSwept, swept_on, swept_end}
use Rattle.clone_map.proofs.contigs.contigs_of.Goals as goal
use Rattle.clone_map.proofs.contigs.contigs_of.Goals.{then-reach-position+in_ok-push, else-reach-position}

pub loop-i-preserved : goal.loop-i-preserved
loop-i-preserved c =
    let places = c.args.places.now in
    let i = c.loop-i.i in
    let reaches = c.in_ok-reaches.reaches.items in
    let are = c.in_ok-reaches.ensures in
    let lt : i < length reaches = omega (arith, are.size) in
    let next : c.max-reach.result ≡ max c.loop-i.reach (get_or reaches i 0) = c.max-reach.ensures ∙ ap (max c.loop-i.reach) (c.index.ensures ∙ get_or_default_zero reaches i c.index.result.now lt) in
    elim c.if-reach-position.branch [
      | then-reach-position+in_ok-push w ↦
          let span : Span = record { first = c.loop-i.before + 1; last = i + 1 } in
          let contigs : c.if-reach-position.contigs ≡ c.loop-i.contigs ++ span ∷ [] = w.contigs-is ∙ w.in_ok-push.ensures.ok in
          subst (λ spans. IsSwept places (i + 1) c.if-reach-position.before c.max-reach.result spans) (sym contigs)
          (subst (λ before. IsSwept places (i + 1) before c.max-reach.result (c.loop-i.contigs ++ span ∷ [])) (sym w.before-is)
          (subst (λ reach. IsSwept places (i + 1) (i + 1) reach (c.loop-i.contigs ++ span ∷ [])) (sym next)
          (swept_end c.args.count places c.requires i c.loop-i.before c.loop-i.reach c.loop-i.contigs reaches c.loop-i.invariant are span refl refl (omega (arith, next, w.if-reach-position.true)))))
      | else-reach-position w ↦
          subst (λ spans. IsSwept places (i + 1) c.if-reach-position.before c.max-reach.result spans) (sym w.contigs-is)
          (subst (λ before. IsSwept places (i + 1) before c.max-reach.result c.loop-i.contigs) (sym w.before-is)
          (subst (λ reach. IsSwept places (i + 1) c.loop-i.before reach c.loop-i.contigs) (sym next)
          (swept_on c.args.count places c.requires i c.loop-i.before c.loop-i.reach c.loop-i.contigs reaches c.loop-i.invariant are (omega (arith, next, w.if-reach-position.false)))))
    ]
