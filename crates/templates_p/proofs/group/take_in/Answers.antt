use Rattle.std.proofs.Common.{sym, subst}
use Rattle.arena_model.specs.Layout.{Layout, StandsAlone, IsAtOrAbove}
use Rattle.templates_p.proofs.Moving.{ready_to_put}
use Rattle.templates_p.proofs.group.take_in.Goals as goal

pub attach-requires-clause-n : goal.attach-requires-clause-n
attach-requires-clause-n g c =
    let r = ready_to_put c.args.arena.now c.args.node.index c.args.group.index c.args.child.index c.layout_law.ensures c.requires.moves in
    subst (λ z. StandsAlone z c.args.child.index) (sym (c.detach.ensures.changed c.args.node.index c.requires.moves.from c.requires.moves.child)) r.alone

pub attach-requires-clause-apart : goal.attach-requires-clause-apart
attach-requires-clause-apart g c =
    let r = ready_to_put c.args.arena.now c.args.node.index c.args.group.index c.args.child.index c.layout_law.ensures c.requires.moves in
    subst (λ (z : Layout). IsAtOrAbove z.slots c.args.child.index c.args.group.index → ⊥) (sym (c.detach.ensures.changed c.args.node.index c.requires.moves.from c.requires.moves.child)) r.no_way
