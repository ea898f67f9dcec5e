use Rattle.std.proofs.Common.{◌∙◌, ap}
use Rattle.graph_read.specs.Pieces.{bigraph_of_lists}
use Rattle.graph_read.proofs.HeadedLemmas.{bigraph_file}
use Rattle.graph_read.proofs.graph_readers.BigraphReader.new.Goals as goal

pub returns : goal.returns
returns c bytes = ap bigraph_of_lists (c.new.ensures.lists bytes) ∙ bigraph_file c.args.left_limit bytes c.requires
