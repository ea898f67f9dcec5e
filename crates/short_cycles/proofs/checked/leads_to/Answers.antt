use Rattle.short_cycles.proofs.CheckedLaws.{joined_within, paid}
use Rattle.short_cycles.proofs.checked.leads_to.Goals as goal

pub returns-then-is_within-clause-joined : goal.returns-then-is_within-clause-joined
returns-then-is_within-clause-joined g c t =
    let line = c.args.line in
    joined_within c.args.m.now.columns c.args.m.now.rows c.args.rows line.pair c.args.to line.why c.requires (c.is_within.ensures c.if-is_within.true) (c.joined_counted.ensures.joined.0 t)

pub returns-then-is_within-clause-turns : goal.returns-then-is_within-clause-turns
returns-then-is_within-clause-turns g c t = paid c.args.line.why c.args.steps.now c.joined_counted.new.steps (c.joined_counted.ensures.looks t) c.joined_counted.ensures.flip
