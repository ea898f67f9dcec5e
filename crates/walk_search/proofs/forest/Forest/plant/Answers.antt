use Rattle.std.proofs.Common.{◌≡◌, length, arith}
use Rattle.std.proofs.lemmas.Grind.{common_steps}
use Rattle.walk_search.specs.Search.{pair_of_node}
use Rattle.odd_cycle.proofs.NumberLaws.{indexed_few}
use Rattle.walk_search.proofs.forest.Forest.plant.Goals as goal

pub overflow_cast-root : goal.overflow_cast-root
overflow_cast-root c =
    let long : c.len-root.result ≡ length c.args.self.now.nodes.items = grind (arith, common_steps) in
    let few = indexed_few pair_of_node c.args.self.now.numbers c.args.self.now.nodes.items c.requires.indexed in
    omega (arith, few, long)
