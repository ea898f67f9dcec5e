use Rattle.std.proofs.Common.{◌≡◌, ◌≤◌, Some, length, slice_get, refl, arith}
use Rattle.std.proofs.lemmas.Option.{slice_get_read}
use Rattle.std.proofs.lemmas.Result.{IfOk-weaker}
use Rattle.walk_search.specs.declared.forest.Node.{Node}
use Rattle.odd_cycle.proofs.Items.{none_of}
use Rattle.walk_search.proofs.LeavingLaws.{flips, left_none, left_found}
use Rattle.walk_search.proofs.neighbours.leave.Goals as goal

pub returns-in-Some : goal.returns-in-Some
returns-in-Some c n front rows h within gaps more =
    let f = c.args.forest.now in
    let node : Node = c.index.result.now in
    let there : slice_get f.nodes.items c.args.from ≡ Some node = slice_get_read f.nodes.items (length f.nodes.items) c.args.from node refl c.requires.from c.index.ensures in
    rw c.in-Some.is at (c.in_ok-conflict.ensures.stepped n rows h within (flips n front rows f c.args.from node there h))

pub cross-requires-clause-gaps : goal.cross-requires-clause-gaps
cross-requires-clause-gaps c = (c.requires.gaps c.in-Some-gaps.gaps c.in-Some-gaps.is).1

pub returns-in-None : goal.returns-in-None
returns-in-None c n front rows h within gaps more =
    let f = c.args.forest.now in
    let node : Node = c.index.result.now in
    let there : slice_get f.nodes.items c.args.from ≡ Some node = slice_get_read f.nodes.items (length f.nodes.items) c.args.from node refl c.requires.from c.index.ensures in
    let none = none_of c.in_ok-conflict.field-0 c.in_default.not-Some in
    let first = rw none at (c.in_ok-conflict.ensures.stepped n rows h within (flips n front rows f c.args.from node there h)) in
    left_none n front rows f c.args.from node there c.step.new.self c.args.gaps.now c.in-None.is first

pub returns-in-Some-gaps : goal.returns-in-Some-gaps
returns-in-Some-gaps c n front rows h within gaps more =
    let f = c.args.forest.now in
    let node : Node = c.index.result.now in
    let there : slice_get f.nodes.items c.args.from ≡ Some node = slice_get_read f.nodes.items (length f.nodes.items) c.args.from node refl c.requires.from c.index.ensures in
    let none = none_of c.in_ok-conflict.field-0 c.in_default.not-Some in
    let first = rw none at (c.in_ok-conflict.ensures.stepped n rows h within (flips n front rows f c.args.from node there h)) in
    let g = c.step.new.self in
    let within' : g.root ≤ c.args.from = omega (arith, within, first.grown.root) in
    IfOk-weaker c.cross.result _ _
    (λ found. left_found n front rows f c.args.from node there g c.cross.new.forest c.args.gaps.now c.in-Some-gaps.gaps found c.in-Some-gaps.is first)
    (c.cross.ensures n front rows first.grown.is_forest within' (gaps c.in-Some-gaps.gaps c.in-Some-gaps.is) more)
