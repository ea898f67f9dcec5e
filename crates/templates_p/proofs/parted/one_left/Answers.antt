use Rattle.std.proofs.Common.{inl, inr, refl, ap, arith, ◌∙◌}
use Rattle.arena_model.specs.declared.Shape.TheVariants.{P}
use Rattle.arena_model.specs.Layout.{given_back}
use Rattle.arena_model.proofs.Slots.{used_by}
use Rattle.templates_p.proofs.Settling.{shown_length}
use Rattle.templates_p.proofs.Lifting.{only_shown, some_shown, may_give}
use Rattle.templates_p.proofs.parted.one_left.Goals as goal

pub look-view-requires : goal.look-view-requires
look-view-requires g c = used_by c.args.arena.now c.args.node.index P c.requires.is_p

pub returns-then-stays-clause-left : goal.returns-then-stays-clause-left
returns-then-stays-clause-left g c = inl (
  refl,
  omega (arith, shown_length c.args.arena.now c.args.node.index c.look-view.result c.look-view.ensures.shows c.requires.is_p, c.if-stays.true),
  refl,
)

pub unreachable-requires : goal.unreachable-requires
unreachable-requires g c = some_shown c.args.arena.now c.args.node.index c.look-view.result c.layout_law.ensures c.look-view.ensures.shows c.requires.is_p c.requires.some c.in_default.is

pub detach-requires : goal.detach-requires
detach-requires g c = (c.args.node.index, c.requires.is_p, (only_shown c.args.arena.now c.args.node.index c.look-view.result c.in-Some.child c.look-view.ensures.shows c.requires.is_p c.in-Some.is c.requires.some c.if-stays.false).child)

pub give_back-requires-clause-alone : goal.give_back-requires-clause-alone
give_back-requires-clause-alone g c = (may_give c.args.arena.now c.detach.new.self c.args.node.index c.in-Some.child.index c.requires.alone c.requires.is_p
    (only_shown c.args.arena.now c.args.node.index c.look-view.result c.in-Some.child c.look-view.ensures.shows c.requires.is_p c.in-Some.is c.requires.some c.if-stays.false) (c.detach.ensures.changed c.args.node.index c.requires.is_p)).alone

pub give_back-requires-clause-empty : goal.give_back-requires-clause-empty
give_back-requires-clause-empty g c = (may_give c.args.arena.now c.detach.new.self c.args.node.index c.in-Some.child.index c.requires.alone c.requires.is_p
    (only_shown c.args.arena.now c.args.node.index c.look-view.result c.in-Some.child c.look-view.ensures.shows c.requires.is_p c.in-Some.is c.requires.some c.if-stays.false) (c.detach.ensures.changed c.args.node.index c.requires.is_p)).bare

pub give_back-requires-clause-inner : goal.give_back-requires-clause-inner
give_back-requires-clause-inner g c = (may_give c.args.arena.now c.detach.new.self c.args.node.index c.in-Some.child.index c.requires.alone c.requires.is_p
    (only_shown c.args.arena.now c.args.node.index c.look-view.result c.in-Some.child c.look-view.ensures.shows c.requires.is_p c.in-Some.is c.requires.some c.if-stays.false) (c.detach.ensures.changed c.args.node.index c.requires.is_p)).inner

pub returns-clause-left : goal.returns-clause-left
returns-clause-left g c =
    let only = only_shown c.args.arena.now c.args.node.index c.look-view.result c.in-Some.child c.look-view.ensures.shows c.requires.is_p c.in-Some.is c.requires.some c.if-stays.false in
    inr (only.is, c.give_back.ensures.changed ∙ ap (λ z. given_back z c.args.node.index) (c.detach.ensures.changed c.args.node.index c.requires.is_p only.child))
