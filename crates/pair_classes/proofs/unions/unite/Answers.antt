use Rattle.std.proofs.Common.{refl, inl, inr, arith}
use Rattle.pair_classes.proofs.UnionLaws.{united}
use Rattle.pair_classes.proofs.unions.unite.Goals as goal

pub returns-then-from-to : goal.returns-then-from-to
returns-then-from-to c =
    let first = c.root_of-from.ensures.climbs in
    let second = c.root_of-to.ensures.climbs in
    united c.args.parents.now c.root_of-from.new.parents c.root_of-to.new.parents c.args.x c.args.y c.root_of-from.result c.root_of-to.result first second c.root_of-to.result c.root_of-from.result c.root_of-to.ensures.root (omega arith) second.within (inl (refl, refl))

pub returns-else-from-to : goal.returns-else-from-to
returns-else-from-to c =
    let first = c.root_of-from.ensures.climbs in
    let second = c.root_of-to.ensures.climbs in
    united c.args.parents.now c.root_of-from.new.parents c.root_of-to.new.parents c.args.x c.args.y c.root_of-from.result c.root_of-to.result first second c.root_of-from.result c.root_of-to.result (second.roots c.root_of-from.result c.root_of-from.ensures.root) (omega arith) (omega (arith, first.within, c.root_of-to.auto.parents)) (inr (refl, refl))
