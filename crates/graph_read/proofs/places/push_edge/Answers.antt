use Rattle.std.proofs.Common.{◌≤◌, ap, sym, arith}
use Rattle.std.proofs.lemmas.Result.{IfOk-from_err}
use Rattle.graph_read.specs.Edges.{left_of, right_of}
use Rattle.graph_read.proofs.PlaceLemmas.{one_way_placed, both_ways_placed, put_within}
use Rattle.graph_read.proofs.places.push_edge.Goals as goal

pub returns-in_ok-push-2-clause-places : goal.returns-in_ok-push-2-clause-places
returns-in_ok-push-2-clause-places c =
    both_ways_placed c.args.shape c.in-Plain.vertices c.right.result c.args.edge c.place.result c.place-in-Plain.result c.args.places.now.items c.push.new.self.items c.push-in-Plain.new.self.items
    c.in-Plain.is c.right.ensures c.place.ensures c.in_ok-push.ensures.items c.place-in-Plain.ensures c.in_ok-push-2.ensures.items c.requires.from.0 c.requires.from.1 c.requires.to.0 c.requires.to.1

pub returns-in_default-clause-places : goal.returns-in_default-clause-places
returns-in_default-clause-places c =
    one_way_placed c.args.shape _ _ c.right.result c.args.edge c.place.result c.args.places.now.items c.push.new.self.items
    c.in_default.is c.right.ensures c.place.ensures c.in_ok-push.ensures.items c.requires.from.0 c.requires.to.0 c.requires.to.1

pub place-requires-clause-small : goal.place-requires-clause-small
place-requires-clause-small c = (omega (arith, c.requires.small.0, c.requires.from.1), omega (arith, c.requires.small.1, c.right.ensures))

pub place-requires-clause-from : goal.place-requires-clause-from
place-requires-clause-from c = c.requires.from.0

pub place-requires-clause-to : goal.place-requires-clause-to
place-requires-clause-to c = (c.requires.to.0, omega (arith, c.requires.to.1, c.right.ensures))

pub place-requires-in-Plain-clause-small : goal.place-requires-in-Plain-clause-small
place-requires-in-Plain-clause-small c =
    let rights = ap right_of c.in-Plain.is in
    let lefts = ap left_of c.in-Plain.is in
    (omega (arith, c.requires.small.0, c.requires.to.1, lefts, rights), omega (arith, c.requires.small.1, rights))

pub place-requires-in-Plain-clause-from : goal.place-requires-in-Plain-clause-from
place-requires-in-Plain-clause-from c = c.requires.to.0

pub place-requires-in-Plain-clause-to : goal.place-requires-in-Plain-clause-to
place-requires-in-Plain-clause-to c = (c.requires.from.0, omega (arith, c.requires.from.1, ap left_of c.in-Plain.is))

pub returns-in_err-push-clause-places : goal.returns-in_err-push-clause-places
returns-in_err-push-clause-places c = IfOk-from_err c.from_residual.result _ c.from_residual.ensures.0

pub returns-in_err-push-clause-within : goal.returns-in_err-push-clause-within
returns-in_err-push-clause-within c = IfOk-from_err c.from_residual.result _ c.from_residual.ensures.0

pub returns-in_err-push-2-clause-places : goal.returns-in_err-push-2-clause-places
returns-in_err-push-2-clause-places c = IfOk-from_err c.from_residual-in_err-push-2.result _ c.from_residual-in_err-push-2.ensures.0

pub returns-in_err-push-2-clause-within : goal.returns-in_err-push-2-clause-within
returns-in_err-push-2-clause-within c = IfOk-from_err c.from_residual-in_err-push-2.result _ c.from_residual-in_err-push-2.ensures.0

pub returns-in_default-clause-within : goal.returns-in_default-clause-within
returns-in_default-clause-within c =
    put_within (left_of c.args.shape) (right_of c.args.shape) c.right.result c.place.result c.args.edge c.args.places.now.items c.push.new.self.items
    c.right.ensures c.place.ensures c.requires.from.0 c.requires.from.1 c.requires.to.0 c.requires.to.1 c.in_ok-push.ensures.items

pub returns-in_ok-push-2-clause-within : goal.returns-in_ok-push-2-clause-within
returns-in_ok-push-2-clause-within c old =
    let rights = ap right_of c.in-Plain.is in
    let lefts = ap left_of c.in-Plain.is in
    let to_left : c.args.edge.to ≤ left_of c.args.shape = omega (arith, c.requires.to.1, lefts, rights) in
    let from_right : c.args.edge.from ≤ right_of c.args.shape = omega (arith, c.requires.from.1, lefts, rights) in
    put_within (left_of c.args.shape) (right_of c.args.shape) c.in-Plain.vertices c.place-in-Plain.result (record { from = c.args.edge.to; to = c.args.edge.from }) c.push.new.self.items c.push-in-Plain.new.self.items
    (sym rights) c.place-in-Plain.ensures c.requires.to.0 to_left c.requires.from.0 from_right c.in_ok-push-2.ensures.items
    (put_within (left_of c.args.shape) (right_of c.args.shape) c.right.result c.place.result c.args.edge c.args.places.now.items c.push.new.self.items
    c.right.ensures c.place.ensures c.requires.from.0 c.requires.from.1 c.requires.to.0 c.requires.to.1 c.in_ok-push.ensures.items old)
