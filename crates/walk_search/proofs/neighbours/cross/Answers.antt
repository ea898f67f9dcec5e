use Rattle.std.proofs.Common.{◌≡◌, ◌∙◌, ◌≤◌, Some, length, slice_get, refl, sym, subst, arith}
use Rattle.std.proofs.lemmas.Option.{slice_get_read}
use Rattle.std.proofs.lemmas.Result.{IfOk-weaker}
use Rattle.row_model.specs.Graph.{IsPair}
use Rattle.walk_search.specs.declared.forest.Node.{Node}
use Rattle.odd_cycle.proofs.Items.{none_of}
use Rattle.walk_search.proofs.ForestLaws.{grown_there}
use Rattle.walk_search.proofs.LeavingLaws.{line_pair, line_from, crossed_found}
use Rattle.walk_search.proofs.neighbours.cross.Goals as goal

pub step_to-requires-clause-pair : goal.step_to-requires-clause-pair
step_to-requires-clause-pair c =
    line_pair (length c.args.gaps.now.order) c.args.forest.now.numbers.columns c.requires.gaps.0 c.before-2.result c.index.result.now.pair c.requires.columns (c.before-2.ensures.joined c.requires.gaps.0 c.requires.gaps.1)

pub returns-in-Some : goal.returns-in-Some
returns-in-Some c n front rows h within gaps more =
    let f = c.args.forest.now in
    let node : Node = c.index.result.now in
    let there : slice_get f.nodes.items c.args.from ≡ Some node = slice_get_read f.nodes.items (length f.nodes.items) c.args.from node refl c.requires.from c.index.ensures in
    let joined = line_from (length c.args.gaps.now.order) n front rows f c.args.from node c.before-2.result (c.requires.columns ∙ h.columns) more there (c.before-2.ensures.joined front gaps) in
    rw c.in-Some.is at (c.in_ok-conflict.ensures.stepped n rows h within joined)

pub behind-requires : goal.behind-requires
behind-requires c =
    let f = c.args.forest.now in
    let node : Node = c.index.result.now in
    let there : slice_get f.nodes.items c.args.from ≡ Some node = slice_get_read f.nodes.items (length f.nodes.items) c.args.from node refl c.requires.from c.index.ensures in
    subst (λ k. IsPair k node.pair) (sym c.requires.columns) (c.requires.indexed.pairs c.args.from node there).0

pub step_to-requires-2-clause-pair : goal.step_to-requires-2-clause-pair
step_to-requires-2-clause-pair c =
    line_pair (length c.args.gaps.now.order) c.step_to.new.forest.numbers.columns c.requires.gaps.0 c.behind.result c.index.result.now.pair (c.requires.columns ∙ sym c.in_ok-conflict.ensures.kept.columns) (c.behind.ensures.joined c.requires.gaps.0 c.requires.gaps.1)

pub returns : goal.returns
returns c n front rows h within gaps more =
    let f = c.args.forest.now in
    let node : Node = c.index.result.now in
    let there : slice_get f.nodes.items c.args.from ≡ Some node = slice_get_read f.nodes.items (length f.nodes.items) c.args.from node refl c.requires.from c.index.ensures in
    let joined = line_from (length c.args.gaps.now.order) n front rows f c.args.from node c.before-2.result (c.requires.columns ∙ h.columns) more there (c.before-2.ensures.joined front gaps) in
    let none = none_of c.in_ok-conflict.field-0 c.in_default.not-Some in
    let first = rw none at (c.in_ok-conflict.ensures.stepped n rows h within joined) in
    let g = c.step_to.new.forest in
    let now : slice_get g.nodes.items c.args.from ≡ Some node = grown_there n rows f g c.args.from node first.0 there in
    let joined' = line_from (length c.args.gaps.now.order) n front rows g c.args.from node c.behind.result (c.requires.columns ∙ h.columns) more now (c.behind.ensures.joined front gaps) in
    let within' : g.root ≤ c.args.from = omega (arith, within, first.0.root) in
    IfOk-weaker c.step_to-2.result _ _
    (λ found. crossed_found n front rows f c.args.from node there c.args.gaps.now.order g c.step_to-2.new.forest c.before-2.result c.behind.result found (c.before-2.ensures.whole front gaps) (c.behind.ensures.whole front gaps) first)
    (c.step_to-2.ensures.stepped n rows first.0.is_forest within' joined')
