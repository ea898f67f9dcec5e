use Rattle.graph_model.specs.Graphs.{IsGraph}
use Rattle.proper_interval.specs.Umbrellas.{closed_of}
use Rattle.instance_model.specs.Instance.{proper}
use Rattle.instance_model.specs.Laws.{IsValidFor}
use Rattle.verdict_replies.proofs.Sizes.{first_side}
use Rattle.verdict_replies.proofs.additions.added.Goals as goal

pub intervals-requires : goal.intervals-requires
intervals-requires c =
    let g = c.in-Proper.graph in
    let formed : IsGraph g = rw c.in-Proper.is at c.requires.formed in
    let valid : IsValidFor (closed_of g) c.args.order.now = rw c.in-Proper.is at c.requires.order in
    c.textbook_law.ensures.valid (proper g) 1 c.args.order.now formed (first_side (proper g)) valid
