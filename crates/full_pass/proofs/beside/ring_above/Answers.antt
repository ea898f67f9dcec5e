use Rattle.std.proofs.Common.{length, ◌∙◌, arith}
use Rattle.std.proofs.lemmas.Grind.{common_steps}
use Rattle.full_pass.proofs.Joining.{ring_used, run_within}
use Rattle.full_pass.proofs.RunEnds.{end_of_run}
use Rattle.full_pass.specs.Tallies.{full_in, hits_in}
use Rattle.full_pass.proofs.beside.ring_above.Goals as goal

pub look-above-requires : goal.look-above-requires
look-above-requires g c = ring_used c.args.arena.now c.args.x.index c.in-Ring.p c.look-view.result c.layout_law.ensures c.look-view.ensures.shows c.in-Ring.ensures

pub labelled_near-requires : goal.labelled_near-requires
labelled_near-requires g c =
    run_within c.args.arena.now c.in-Ring.p.index (length c.args.labels.now) c.look-above.result c.layout_law.ensures c.look-above.ensures.shows c.in-Run.ensures c.requires.ready.labels_size

pub returns-in-Some-clause-above : goal.returns-in-Some-clause-above
returns-in-Some-clause-above g c = λ row n pass held.
    end_of_run c.args.arena.now row (full_in c.args.labels.now c.args.stamp) (hits_in c.args.tallies.now c.args.stamp) c.args.x.index n c.in-Ring.p c.in-Some.beside c.look-view.result c.look-above.result
    c.layout_law.ensures pass held c.look-view.ensures.shows c.in-Ring.ensures c.look-above.ensures.shows c.in-Run.ensures
    (λ e. c.if-hits_at-above.false (c.hits_at.ensures ∙ e)) c.in-Some.ensures

pub hits_at-requires : goal.hits_at-requires
hits_at-requires g c = grind (arith, common_steps)
