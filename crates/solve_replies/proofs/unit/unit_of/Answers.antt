use Rattle.std.proofs.Common.{◌∙◌, ap}
use Rattle.unit_model.specs.Models.{lefts_of}
use Rattle.solve_replies.proofs.Units.{made_model}
use Rattle.solve_replies.proofs.unit.unit_of.Goals as goal

pub model-requires : goal.model-requires
model-requires c = (c.umbrella_law.ensures c.args.graph.now c.args.order.now c.vertices-vertices.ensures.graph).1 c.requires.order

pub returns : goal.returns
returns c =
    let made = c.in_ok-intervals.ensures in
    made_model c.args.graph.now c.args.order.now c.in_ok-intervals.intervals c.in_ok-lefts.lefts.items c.vertices-vertices.result c.from.result c.new.result c.vertices-vertices.ensures.graph c.requires.few
    made.left_ends made.model made.right_ends made.within (c.in_ok-lefts.ensures ∙ ap lefts_of c.as_slice.ensures) c.vertices-vertices.ensures.vertices c.from.ensures c.new.ensures
