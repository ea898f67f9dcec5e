use Rattle.c1p_solve.proofs.Growth.{refused_answer, refused_in_turn, refused_total, refused_within}
use Rattle.c1p_solve.proofs.growing.cycle_of_refused.Goals as goal

pub conflict-requires-clause-row : goal.conflict-requires-clause-row
conflict-requires-clause-row g c = (c.requires.refused.1.from, c.requires.refused.1.to)

pub conflict-requires-clause-columns : goal.conflict-requires-clause-columns
conflict-requires-clause-columns g c = c.requires.refused.1.columns

pub conflict-requires-clause-tied : goal.conflict-requires-clause-tied
conflict-requires-clause-tied g c = c.requires.refused.1.tied

pub conflict-requires-clause-conflict : goal.conflict-requires-clause-conflict
conflict-requires-clause-conflict g c = c.requires.refused.1.conflict

pub returns-clause-answer : goal.returns-clause-answer
returns-clause-answer g c =
    refused_answer c.conflict.result c.args.m.now c.args.k c.args.reducer.now c.requires.refused.0 c.args.steps.now c.requires.refused.1 c.conflict.ensures.cycle c.conflict.ensures.short

pub returns-clause-in_turn : goal.returns-clause-in_turn
returns-clause-in_turn g c =
    refused_in_turn c.conflict.result c.args.m.now c.args.k c.args.reducer.now c.requires.refused.0 c.args.steps.now c.requires.refused.1 c.conflict.ensures.first_rows

pub returns-clause-total : goal.returns-clause-total
returns-clause-total g c = λ s h. refused_total c.args.m.now c.args.k c.args.reducer.now s c.args.steps.now c.conflict.new.steps h c.conflict.ensures.ticks

pub returns-clause-most : goal.returns-clause-most
returns-clause-most g c = λ s h. refused_within c.args.m.now c.args.k c.args.reducer.now s c.args.steps.now c.conflict.new.steps h c.conflict.ensures.ticks

pub returns-clause-ticks : goal.returns-clause-ticks
returns-clause-ticks g c = c.conflict.ensures.ticks
