use Rattle.std.proofs.lemmas.Bool.Decides.{Decides-eqb}
use Rattle.std.proofs.lemmas.Slice.Eq.{strip_prefix_is}
use Rattle.plain_text.proofs.WordLaws.{word_found, word_none}
use Rattle.plain_text.proofs.read.after_word.Goals as goal

pub returns-clause-found : goal.returns-clause-found
returns-clause-found c = word_found _ _ _ (strip_prefix_is Decides-eqb _ _ _ c.strip_prefix.ensures.cases)

pub returns-clause-none : goal.returns-clause-none
returns-clause-none c = word_none _ _ _ (strip_prefix_is Decides-eqb _ _ _ c.strip_prefix.ensures.cases)
