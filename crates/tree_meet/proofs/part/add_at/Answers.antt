use Rattle.std.proofs.Common.{◌≡◌, ◌<◌, ◌++◌, ◌∷◌, [], length, set, refl, arith}
use Rattle.std.proofs.lemmas.Grind.{common_steps}
use Rattle.tree_meet.proofs.Parts.{adds_one}
use Rattle.tree_meet.proofs.part.add_at.Goals as goal

pub returns : goal.returns
returns c =
    let lt : c.args.at < length c.args.lists.now.items = omega arith in
    let pushed : c.push.new.self.items ≡ c.index_mut-list.result.now.items ++ c.args.column ∷ [] = grind (arith, common_steps) in
    adds_one c.args.lists.now.items (set c.args.lists.now.items c.args.at c.push.new.self) c.args.at c.args.column c.index_mut-list.result.now c.push.new.self lt c.index_mut-list.ensures.value pushed refl
