use Rattle.std.proofs.Common.{◌≡◌, ◌+◌, ◌∷◌, [], ◌++◌, length, arith}
use Rattle.std.proofs.lemmas.Grind.{common_steps}
use Rattle.odd_cycle.specs.Short.{columns_of}
use Rattle.odd_cycle.proofs.NumberLaws.{indexed_push, indexed_few}
use Rattle.odd_cycle.proofs.PairLaws.{lesser_pair}
use Rattle.odd_cycle.proofs.fold.extend.Goals as goal

pub returns : goal.returns
returns c =
    let items : c.push.new.self.items ≡ c.args.path.now.items ++ c.args.line ∷ [] = grind (arith, common_steps) in
    let long : c.len.result ≡ length c.args.path.now.items + 1 = grind (arith, common_steps) in
    (rw items (indexed_push columns_of c.args.numbers.now c.set.new.self c.args.path.now.items c.args.line c.len.result c.requires.indexed (lesser_pair c.args.numbers.now.columns c.args.line.pair c.requires.pair) c.requires.fresh long (rw c.lesser_first.ensures at c.set.ensures)), c.set.ensures.columns, items)

pub overflow_cast-len : goal.overflow_cast-len
overflow_cast-len c =
    let long : c.len.result ≡ length c.args.path.now.items + 1 = grind (arith, common_steps) in
    let few = indexed_few columns_of c.args.numbers.now c.args.path.now.items c.requires.indexed in
    omega (arith, few, long)
