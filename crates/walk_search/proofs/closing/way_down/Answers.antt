use Rattle.std.proofs.Common.{◌≡◌, [], ◌∷◌, ◌++◌, length, reverse, slice_get, Some, refl, sym, ap, subst, ◌∙◌, arith}
use Rattle.std.proofs.lemmas.Grind.{common_steps}
use Rattle.std.proofs.lemmas.List.{reverse-append}
use Rattle.std.proofs.lemmas.Option.{slice_get_read}
use Rattle.row_model.specs.declared.graph.Line.{Line}
use Rattle.walk_search.specs.Closing.{IsWay}
use Rattle.walk_search.specs.declared.forest.Node.{Node}
use Rattle.odd_cycle.proofs.Items.{item_at}
use Rattle.walk_search.proofs.ClosingLaws.{way_none, way_before}
use Rattle.walk_search.proofs.closing.way_down.Goals as goal

pub loop-at-init : goal.loop-at-init
loop-at-init c =
    let node = item_at c.args.forest.now.nodes.items c.args.to c.requires.node.1 in
    record { within = c.requires.node; way = rw c.new-lines.ensures.items (way_none c.args.forest.now c.args.to node.0 node.1) }

pub loop-at-preserved : goal.loop-at-preserved
loop-at-preserved c =
    let nodes = c.args.forest.now.nodes.items in
    let node : Node = c.node_below_root-node.result in
    let parent : Node = c.index-parent.result.now in
    let line : Line = record { pair = parent.pair; why = node.why } in
    let up : slice_get nodes node.parent ≡ Some parent = slice_get_read nodes (length nodes) node.parent parent refl (omega arith) c.index-parent.ensures in
    let pushed : c.push.new.self.items ≡ c.loop-at.lines.items ++ line ∷ [] = grind (arith, common_steps) in
    let back : line ∷ reverse c.loop-at.lines.items ≡ reverse c.push.new.self.items = sym (ap reverse pushed ∙ reverse-append c.loop-at.lines.items (line ∷ [])) in
    record {
      within = omega arith;
      way = subst (IsWay c.args.forest.now node.parent c.args.to) back
          (way_before c.args.forest.now c.loop-at.at node parent c.requires.tree c.loop-at-test.true c.node_below_root-node.ensures.there up c.args.to (reverse c.loop-at.lines.items) c.loop-at.invariant.way);
    }

pub returns : goal.returns
returns c =
    let root : c.loop-at.at ≡ c.args.forest.now.root = omega arith in
    subst (λ n. IsWay c.args.forest.now n c.args.to c.reverse.new.self.items) root (subst (IsWay c.args.forest.now c.loop-at.at c.args.to) (sym c.reverse.ensures.items) c.loop-at.invariant.way)
