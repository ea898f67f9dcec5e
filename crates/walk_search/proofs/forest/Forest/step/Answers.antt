use Rattle.std.proofs.Common.{◌≡◌, Some, length, slice_get, refl, subst}
use Rattle.std.proofs.lemmas.Option.{slice_get_read}
use Rattle.walk_search.specs.Search.{Reaches}
use Rattle.walk_search.proofs.ForestLaws.{line_node, stepped_none, stepped_some}
use Rattle.walk_search.proofs.forest.Forest.step.Goals as goal
use Rattle.walk_search.proofs.forest.Forest.step.Goals.{After-reach}

-- the node that is read stands at the index
parent_there : (c : After-reach) → slice_get c.args.self.now.nodes.items c.args.from ≡ Some c.index.result.now
parent_there c = slice_get_read c.args.self.now.nodes.items (length c.args.self.now.nodes.items) c.args.from c.index.result.now refl c.requires.from c.index.ensures

pub returns-in-None-clause-stepped : goal.returns-in-None-clause-stepped
returns-in-None-clause-stepped c n rows h within joined =
    let reached = subst (Reaches c.args.self.now c.reach.new.self (line_node c.args.line c.args.from c.index.result.now)) c.in-None.is c.in_ok-reach.ensures in
    stepped_none c.args.self.now c.reach.new.self c.args.from c.args.line c.index.result.now (parent_there (goal.at.returns-in-None-clause-stepped c).After-reach) n rows h within joined reached

pub returns-in-Some-clause-stepped : goal.returns-in-Some-clause-stepped
returns-in-Some-clause-stepped c n rows h within joined =
    let reached = subst (Reaches c.args.self.now c.reach.new.self (line_node c.args.line c.args.from c.index.result.now)) c.in-Some.is c.in_ok-reach.ensures in
    stepped_some c.args.self.now c.reach.new.self c.args.from c.args.line c.index.result.now (parent_there (goal.at.returns-in-Some-clause-stepped c).After-reach) n rows h within joined c.in-Some.to reached
