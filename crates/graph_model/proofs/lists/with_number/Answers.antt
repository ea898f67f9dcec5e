use Rattle.graph_model.proofs.GraphLemmas.{parts_joined}
use Rattle.graph_model.proofs.lists.with_number.Goals as goal

pub returns : goal.returns
returns c =
    parts_joined c.args.y c.count_below-place.result c.args.row.now c.in_ok-longer.longer.items c.extend_from_slice.new.self.items c.push.new.self.items c.extend_from_slice-2.new.self.items
    c.count_below-place.ensures.count c.in_ok-longer.ensures.items c.in_ok-extend_from_slice.ensures.items c.in_ok-push.ensures.items c.in_ok-extend_from_slice-2.ensures.items
