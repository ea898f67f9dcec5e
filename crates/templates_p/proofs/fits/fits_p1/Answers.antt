use Rattle.templates_p.proofs.Deciding.{p1_decided}
use Rattle.templates_p.proofs.fits.fits_p1.Goals as goal

pub returns-clause-fits : goal.returns-clause-fits
returns-clause-fits g c = λ ps m.
    let d = p1_decided c.args.arena.now c.args.work.now c.args.node.index c.survey-seen.result ps c.requires c.survey-seen.ensures.seen m in
    (λ z. d.0 (c.is_all_full.ensures.0 z), λ y. c.is_all_full.ensures.1 (d.1 y))
