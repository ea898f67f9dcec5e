use Rattle.std.proofs.Common.{rules}
use Rattle.verdict_text.specs.Value.{yes_value}
use Rattle.verdict_judge.proofs.ClonesTests.{places_fail, contigs_fail}
use Rattle.verdict_judge.proofs.clones.clones_fault.Goals as goal

pub returns-then-not-same_places : goal.returns-then-not-same_places
returns-then-not-same_places c =
    places_fail c.args.m.now (yes_value c.args.yes.now) c.order.result.now c.order.ensures c.in_ok-placed.placed.places c.in_ok-placed.placed.contigs c.in_ok-placed.ensures.places c.in_ok-placed.ensures.contigs c.place_laws.ensures.places (search rules)

pub returns-then-not-same_contigs : goal.returns-then-not-same_contigs
returns-then-not-same_contigs c =
    contigs_fail c.args.m.now (yes_value c.args.yes.now) c.order.result.now c.order.ensures c.in_ok-placed.placed.places c.in_ok-placed.placed.contigs c.in_ok-placed.ensures.places c.in_ok-placed.ensures.contigs c.place_laws.ensures.contigs (search rules) (search rules)
