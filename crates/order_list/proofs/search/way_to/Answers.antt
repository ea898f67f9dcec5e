use Rattle.std.proofs.Common.{◌≡◌, refl, subst, arith}
use Rattle.pq_tree.specs.Proper.{outline_of, forest}
use Rattle.pq_tree.specs.Outline.{p_node}
use Rattle.order_list.specs.Coming.{outlines}
use Rattle.order_list.specs.Reading.{tree_at, CanBegin}
use Rattle.order_list.proofs.Begins.{lent_at}
use Rattle.order_list.proofs.Children.{lent_arities, outlines_length}
use Rattle.order_list.proofs.Ways.{found_way, p_pushed}
use Rattle.order_list.proofs.search.way_to.Goals as goal

pub find_way-requires-clause-arities : goal.find_way-requires-clause-arities
find_way-requires-clause-arities c = lent_arities c.args.trees.now c.args.next.place c.index-trees-next.result c.requires.arities c.requires.place c.index-trees-next.is

pub returns : goal.returns
returns c =
    let ts = outlines c.args.trees.now in
    let v = outline_of c.index-trees-next.result.now in
    let at : tree_at ts c.args.next.place ≡ v = lent_at c.args.trees.now c.args.next.place c.index-trees-next.result c.requires.place c.index-trees-next.is in
    p_pushed (p_node (forest ts)) v ts c.args.next.place c.find_way.new.way.items c.push.new.self.items c.args.next.column at c.in_ok-push.ensures.items
    (found_way v c.args.next.column _ c.find_way.new.way.items (subst (λ t. CanBegin t c.args.next.column) at c.requires.begins) c.in_ok-find_way.ensures)
    refl (omega (arith, c.requires.place, outlines_length c.args.trees.now))
