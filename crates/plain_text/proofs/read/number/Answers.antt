use Rattle.plain_text.proofs.NumberLaws.{number_found, number_none}
use Rattle.plain_text.proofs.read.number.Goals as goal

pub returns-clause-found : goal.returns-clause-found
returns-clause-found c = number_found _ _ _ c.ranges.limit.fits c.first_number.ensures.value

pub returns-clause-none : goal.returns-clause-none
returns-clause-none c = number_none _ _ _ c.ranges.limit.fits c.first_number.ensures.value
