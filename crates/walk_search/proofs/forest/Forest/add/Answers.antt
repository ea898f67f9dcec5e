use Rattle.std.proofs.Common.{◌≡◌, ◌+◌, ◌∷◌, [], ◌++◌, length, refl, arith}
use Rattle.std.proofs.lemmas.Grind.{common_steps}
use Rattle.walk_search.specs.Search.{pair_of_node}
use Rattle.odd_cycle.proofs.NumberLaws.{indexed_push, indexed_few}
use Rattle.walk_search.proofs.forest.Forest.add.Goals as goal

pub returns : goal.returns
returns c =
    let items : c.push.new.self.items ≡ c.args.self.now.nodes.items ++ c.args.node ∷ [] = grind (arith, common_steps) in
    let long : c.len.result ≡ length c.args.self.now.nodes.items + 1 = grind (arith, common_steps) in
    record {
      columns = c.set.ensures.columns;
      indexed = rw items (indexed_push pair_of_node c.args.self.now.numbers c.set.new.self c.args.self.now.nodes.items c.args.node c.len.result c.requires.indexed c.requires.pair c.requires.fresh long c.set.ensures);
      root = refl;
      nodes = items;
    }

pub overflow_cast-len : goal.overflow_cast-len
overflow_cast-len c =
    let long : c.len.result ≡ length c.args.self.now.nodes.items + 1 = grind (arith, common_steps) in
    let few = indexed_few pair_of_node c.args.self.now.numbers c.args.self.now.nodes.items c.requires.indexed in
    omega (arith, few, long)
