use Rattle.std.proofs.Common.{◌≡◌, ◌∙◌, List, [], ◌∷◌, ◌++◌, ap, sym, subst, arith}
use Rattle.std.proofs.lemmas.Grind.{common_steps}
use Rattle.std.proofs.lemmas.List.{append-nil, append_assoc}
use Rattle.row_model.specs.declared.graph.Line.{Line}
use Rattle.walk_search.specs.Closing.{IsWay}
use Rattle.walk_search.specs.declared.forest.Node.{Node}
use Rattle.odd_cycle.proofs.Items.{item_at}
use Rattle.walk_search.proofs.ClosingLaws.{way_none, way_on}
use Rattle.walk_search.proofs.closing.add_way_up.Goals as goal

pub loop-at-init : goal.loop-at-init
loop-at-init c =
    let node = item_at c.args.forest.now.nodes.items c.args.from c.requires.node.1 in
    record {
      within = c.requires.node;
      added = record { way = []; appended = sym (append-nil c.args.lines.now.items); leads = way_none c.args.forest.now c.args.from node.0 node.1 };
    }

pub loop-at-preserved : goal.loop-at-preserved
loop-at-preserved c =
    let node : Node = c.node_below_root-node.result in
    let line : Line = record { pair = node.pair; why = node.why } in
    let was = c.loop-at.invariant.added in
    let parent = item_at c.args.forest.now.nodes.items node.parent (omega arith) in
    let pushed : c.push.new.self.items ≡ c.loop-at.lines.items ++ line ∷ [] = grind (arith, common_steps) in
    record {
      within = omega arith;
      added = record {
        way = was.way ++ line ∷ [];
        appended = pushed ∙ ap (λ (ls : List Line). ls ++ line ∷ []) was.appended ∙ append_assoc c.args.lines.now.items was.way (line ∷ []);
        leads = way_on c.args.forest.now c.loop-at.at node parent.0 c.requires.tree c.loop-at-test.true c.node_below_root-node.ensures.there parent.1 c.args.from was.way was.leads;
      };
    }

pub returns : goal.returns
returns c =
    let added = c.loop-at.invariant.added in
    let root : c.loop-at.at ≡ c.args.forest.now.root = omega arith in
    (added.way, added.appended, subst (λ n. IsWay c.args.forest.now c.args.from n added.way) root added.leads)
