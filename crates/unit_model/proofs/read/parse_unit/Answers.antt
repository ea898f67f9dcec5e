use Rattle.unit_model.proofs.TextLaws.{parsed_within, parsed_found, parsed_none}
use Rattle.unit_model.proofs.read.parse_unit.Goals as goal

pub returns-clause-within : goal.returns-clause-within
returns-clause-within c = parsed_within c.args.bytes.now c.in_ok-unit.unit c.in_ok-unit.ensures

pub returns-clause-found : goal.returns-clause-found
returns-clause-found c = parsed_found c.args.bytes.now c.in_ok-unit.unit c.in_ok-unit.ensures

pub returns-clause-none : goal.returns-clause-none
returns-clause-none c = parsed_none c.args.bytes.now c.in_ok-unit.unit c.in_ok-unit.ensures
