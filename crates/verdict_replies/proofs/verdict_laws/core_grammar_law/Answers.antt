use Rattle.verdict_replies.proofs.CoreSizes.{grammar_law}
use Rattle.verdict_replies.proofs.verdict_laws.core_grammar_law.Goals as goal

pub returns : goal.returns
returns c = grammar_law c.cycle_length_law.ensures
