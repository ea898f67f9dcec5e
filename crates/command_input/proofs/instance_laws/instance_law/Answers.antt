use Rattle.command_input.proofs.Reading.{instance_read}
use Rattle.command_input.proofs.instance_laws.instance_law.Goals as goal

pub returns : goal.returns
returns c = let edges = c.edge_laws.ensures in instance_read c.limits_law.ensures edges.bigraph edges.graph edges.distances
