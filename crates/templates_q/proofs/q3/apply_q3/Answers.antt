use Rattle.std.proofs.Common.{◌∙◌, refl, sym}
use Rattle.templates_q.proofs.q3.apply_q3.Goals as goal

-- Inside a Q-node the pattern of its run is meant, so these clauses say nothing.
pub returns-then-inside-clause-answer : goal.returns-then-inside-clause-answer
returns-then-inside-clause-answer g c = λ h. absurd (h (sym c.inside.ensures ∙ c.if-inside.true, refl))

pub returns-then-inside-clause-ticks : goal.returns-then-inside-clause-ticks
returns-then-inside-clause-ticks g c = λ h. absurd (h (sym c.inside.ensures ∙ c.if-inside.true, refl))

pub returns-then-inside-clause-few : goal.returns-then-inside-clause-few
returns-then-inside-clause-few g c = λ h. absurd (h (sym c.inside.ensures ∙ c.if-inside.true, refl))
