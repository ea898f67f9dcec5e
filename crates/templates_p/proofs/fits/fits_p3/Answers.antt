use Rattle.templates_p.proofs.Deciding.{p3_decided}
use Rattle.templates_p.proofs.fits.fits_p3.Goals as goal

pub returns-clause-fits : goal.returns-clause-fits
returns-clause-fits g c = λ ps m.
    let d = p3_decided c.args.arena.now c.args.work.now c.args.node.index c.args.root c.survey-seen.result ps c.requires c.survey-seen.ensures.seen m in
    (λ z. let q = c.below_root.ensures.0 z in d.0 (q.0, c.is_full_and_empty.ensures.0 q.1), λ y. let q = d.1 y in c.below_root.ensures.1 (q.0, c.is_full_and_empty.ensures.1 q.1))
