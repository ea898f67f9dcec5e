use Rattle.std.proofs.Common.{◌≡◌, None, sym, ◌∙◌}
use Rattle.templates_q.specs.Span.{BeginsEmpty}
use Rattle.templates_q.proofs.Walks.{stops_wanted, next_room, none_tested, tested_none}
use Rattle.templates_q.proofs.Stretches.{begins_empty, stopped_labelled}
use Rattle.templates_q.proofs.Spanning.{run_marked, run_block, run_not2, block_alone, alone_begins, stretch_line, line_stretch, line_fits3, fits3_line}
use Rattle.templates_q.specs.Walk.{wanted_one}
use Rattle.templates_q.specs.declared.walk.Wanted.TheVariants.{Labelled}
use Rattle.templates_q.proofs.q3.has_q3_around.Goals as goal

pub stretch_around-seen-requires-clause-child : goal.stretch_around-seen-requires-clause-child
stretch_around-seen-requires-clause-child g c = (c.requires.q, run_marked c.args.arena.now c.args.work.now c.requires.q c.args.node.index c.requires.run)

pub wanted_at-requires : goal.wanted_at-requires
wanted_at-requires g c =
    let f = c.args.arena.now in let w = c.args.work.now in let q = c.requires.q in
    let r = c.stretch_around-seen.ensures.stretch q (run_marked f w q c.args.node.index c.requires.run) in
    next_room f w q _ r.passed.rest c.stretch_around-seen.result.last.gap c.layout_law.ensures c.requires.room r.passed.end

pub returns-clause-fits : goal.returns-clause-fits
returns-clause-fits g c = λ q run ps m.
    let f = c.args.arena.now in let w = c.args.work.now in let s = c.stretch_around-seen.result in
    let r = c.stretch_around-seen.ensures.stretch q (run_marked f w q c.args.node.index run) in (
      (λ t. let z : wanted_one Labelled w s.last.gap.next ≡ None = sym c.wanted_at.ensures ∙ none_tested c.wanted_at.result c.is_none.result c.is_none.ensures t in
          let e : BeginsEmpty w r.passed.rest = begins_empty w r.passed.rest (stops_wanted Labelled f w q _ r.passed.rest s.last.gap c.layout_law.ensures r.passed.end z) in
          line_fits3 f w q ps run.is_q m (stretch_line f w q s r (block_alone f w q s r (run_block f w q c.args.node.index run) e)) (run_not2 f w q c.args.node.index ps run m)),
      (λ fits. let alone = line_stretch f w q s r (fits3_line f w q ps m fits) in
          let e : BeginsEmpty w r.passed.rest = alone_begins w r.us r.passed.rest alone in
          let z : wanted_one Labelled w s.last.gap.next ≡ None = stopped_labelled f w q _ r.passed.rest s.last.gap c.layout_law.ensures r.passed.end e in
          tested_none c.wanted_at.result c.is_none.result c.is_none.ensures (c.wanted_at.ensures ∙ z)),
    )

pub returns-clause-ticks : goal.returns-clause-ticks
returns-clause-ticks g c = λ q run. c.stretch_around-seen.ensures.ticks q (run_marked c.args.arena.now c.args.work.now q c.args.node.index run)
