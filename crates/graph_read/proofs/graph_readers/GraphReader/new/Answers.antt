use Rattle.std.proofs.Common.{◌∙◌, ap}
use Rattle.graph_read.specs.Pieces.{graph_of_lists}
use Rattle.graph_read.proofs.HeadedLemmas.{graph_file}
use Rattle.graph_read.proofs.graph_readers.GraphReader.new.Goals as goal

pub returns : goal.returns
returns c bytes = ap graph_of_lists (c.new.ensures.lists bytes) ∙ graph_file bytes
