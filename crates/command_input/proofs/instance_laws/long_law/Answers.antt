use Rattle.command_input.proofs.Reading.{long_law}
use Rattle.command_input.proofs.instance_laws.long_law.Goals as goal

pub returns : goal.returns
returns c =
    let rows = c.refusal_laws.ensures in
    let graphs = c.refusal_laws-2.ensures in
    long_law (record {
      dense = rows.dense.refused.too_long;
      rows = rows.rows.refused.too_long;
      table = rows.table.too_long;
      clones = rows.clones.too_long;
      bigraph = λ limit. (graphs.bigraph.refused limit).too_long;
      graph = graphs.graph.refused.too_long;
      distances = graphs.distances.refused.too_long;
    })
