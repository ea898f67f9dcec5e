use Rattle.command_input.proofs.Reading.{only_graph}
use Rattle.command_input.proofs.instance_laws.graph_law.Goals as goal

pub returns : goal.returns
returns c = only_graph
