use Rattle.std.proofs.Common.{◌≡◌, Some, sym, subst, ap, ◌∙◌}
use Rattle.arena_model.specs.declared.Shape.TheVariants.{Q}
use Rattle.arena_model.specs.ChildLists.{put_on}
use Rattle.arena_model.specs.Layout.{Layout, StandsAlone, IsAtOrAbove, children_at, shape_at, with_children}
use Rattle.templates_p.proofs.Absorbing.{ready_to_end}
use Rattle.templates_p.proofs.line.put_at_end.Goals as goal

pub detach-requires : goal.detach-requires
detach-requires g c = (c.args.node.index, c.requires.can.is_p, c.requires.can.child)

pub put_end-requires-clause-q : goal.put_end-requires-clause-q
put_end-requires-clause-q g c = subst (λ z. shape_at z c.args.line.index ≡ Some Q) (sym (c.detach.ensures.changed c.args.node.index c.requires.can.is_p c.requires.can.child))
    (ready_to_end c.args.arena.now c.args.node.index c.args.line.index c.args.child.index c.layout_law.ensures c.requires.can).shape

pub put_end-requires-clause-n : goal.put_end-requires-clause-n
put_end-requires-clause-n g c = subst (λ z. StandsAlone z c.args.child.index) (sym (c.detach.ensures.changed c.args.node.index c.requires.can.is_p c.requires.can.child))
    (ready_to_end c.args.arena.now c.args.node.index c.args.line.index c.args.child.index c.layout_law.ensures c.requires.can).alone

pub put_end-requires-clause-apart : goal.put_end-requires-clause-apart
put_end-requires-clause-apart g c = subst (λ (z : Layout). IsAtOrAbove z.slots c.args.child.index c.args.line.index → ⊥) (sym (c.detach.ensures.changed c.args.node.index c.requires.can.is_p c.requires.can.child))
    (ready_to_end c.args.arena.now c.args.node.index c.args.line.index c.args.child.index c.layout_law.ensures c.requires.can).no_way

pub returns-clause-put : goal.returns-clause-put
returns-clause-put g c = c.put_end.ensures.changed
    ∙ ap (λ z. with_children z c.args.line.index (put_on c.args.end c.args.child.index (children_at z c.args.line.index))) (c.detach.ensures.changed c.args.node.index c.requires.can.is_p c.requires.can.child)
