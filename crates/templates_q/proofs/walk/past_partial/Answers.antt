use Rattle.std.proofs.Common.{sym, arith}
use Rattle.std.proofs.lemmas.Grind.{common_steps}
use Rattle.templates_q.specs.declared.walk.Wanted.TheVariants.{Partials}
use Rattle.templates_q.proofs.Walks.{next_is, next_room, wanted_known, passed_none, passed_more}
use Rattle.templates_q.proofs.walk.past_partial.Goals as goal

pub wanted_at-requires : goal.wanted_at-requires
wanted_at-requires g c = let r = c.requires.place in next_room c.args.arena.now c.args.work.now r.0 r.1 r.2 c.args.from c.layout_law.ensures c.requires.room r.3

pub past-requires : goal.past-requires
past-requires g c = let r = c.requires.place in
    (next_is c.args.arena.now r.0 r.1 r.2 c.args.from c.in-Some.x c.layout_law.ensures r.3 (wanted_known Partials c.args.work.now c.args.from.next c.in-Some.x (sym c.in-Some.ensures)).0).used

pub returns-in-Some-clause-passed : goal.returns-in-Some-clause-passed
returns-in-Some-clause-passed g c = λ q us vs first. let k = wanted_known Partials c.args.work.now c.args.from.next c.in-Some.x (sym c.in-Some.ensures) in
    passed_more Partials c.args.arena.now c.args.work.now q us vs 0 c.args.from c.past.result c.in-Some.x c.layout_law.ensures (passed_none Partials c.args.arena.now c.args.work.now q us vs c.args.from first) k.0 k.1 c.past.ensures.passed

pub returns-in-None-clause-stops : goal.returns-in-None-clause-stops
returns-in-None-clause-stops g c = grind (arith, common_steps)
