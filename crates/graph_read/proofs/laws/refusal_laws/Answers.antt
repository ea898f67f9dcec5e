use Rattle.graph_read.proofs.RefusalLaws.{bigraph_refusals, graph_refusals}
use Rattle.graph_read.proofs.TableRefusals.{distances_refusals}
use Rattle.graph_read.proofs.laws.refusal_laws.Goals as goal

pub returns : goal.returns
returns c = record { bigraph = bigraph_refusals; graph = graph_refusals; distances = distances_refusals }
