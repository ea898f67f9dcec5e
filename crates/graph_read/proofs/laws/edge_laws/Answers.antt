use Rattle.graph_read.proofs.FileLaws.{bigraph_law, graph_law, distances_law}
use Rattle.graph_read.proofs.laws.edge_laws.Goals as goal

pub returns : goal.returns
returns c = record { bigraph = bigraph_law; graph = graph_law; distances = distances_law }
