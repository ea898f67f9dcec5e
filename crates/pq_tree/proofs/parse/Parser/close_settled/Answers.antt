use Rattle.std.proofs.Common.{◌≡◌, ◌≤◌, length, refl, rules, arith, map, true}
use Rattle.std.proofs.lemmas.Grind.{common_steps}
use Rattle.pq_tree.specs.Proper.{outline_of}
use Rattle.pq_tree.specs.Reading.{node_of, same_shape, least_count}
use Rattle.pq_tree.proofs.Moves.{moved_closed, same_from}
use Rattle.pq_tree.proofs.parse.Parser.close_settled.Goals as goal

pub returns-in_ok-push-in-Some : goal.returns-in_ok-push-in-Some
returns-in_ok-push-in-Some c =
    let plan : outline_of c.node_over.result ≡ node_of c.args.round (map outline_of c.args.self.now.children.items) =
    rw c.replace-children.ensures.value at c.node_over.ensures in
    let shape : same_shape c.args.round c.in-Some.node.round ≡ true = same_from c.args.round c.in-Some.node.round (search rules) in
    let enough : least_count c.args.round ≤ length c.args.self.now.children.items = omega (arith, c.len.ensures, c.least_children.ensures, c.args.self.now.children.ok.0) in
    moved_closed c.args.self.now _ c.in-Some.node c.args.round c.pop.new.self.items c.node_over.result c.requires refl refl refl c.in-Some.ensures.items refl (grind (arith, common_steps)) plan shape enough
