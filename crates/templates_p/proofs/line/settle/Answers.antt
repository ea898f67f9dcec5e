use Rattle.std.proofs.Common.{inl, inr, refl, subst, arith}
use Rattle.arena_model.specs.declared.Shape.TheVariants.{P}
use Rattle.arena_model.proofs.Slots.{used_by, in_range, child_used}
use Rattle.bubble_pass.specs.Marks.{IsPut}
use Rattle.templates_p.proofs.Settling.{shown_length, none_left, handed_on, inner_node}
use Rattle.templates_p.proofs.line.settle.Goals as goal

pub look-view-requires : goal.look-view-requires
look-view-requires g c = used_by c.args.arena.now c.args.node.index P c.requires.hand.is_p

pub returns-then-view-gt1-clause-settled : goal.returns-then-view-gt1-clause-settled
returns-then-view-gt1-clause-settled g c = inl (
  refl,
  refl,
  refl,
  omega (arith, shown_length c.args.arena.now c.args.node.index c.look-view.result c.look-view.ensures.shows c.requires.hand.is_p, c.if-view-gt1.true),
)

pub give_back-requires-clause-alone : goal.give_back-requires-clause-alone
give_back-requires-clause-alone g c = c.hand_over.ensures.handed.alone

pub give_back-requires-clause-empty : goal.give_back-requires-clause-empty
give_back-requires-clause-empty g c = none_left c.args.arena.now c.hand_over.new.arena c.args.node.index c.args.line.index c.requires.hand c.hand_over.ensures.handed
    (omega (arith, shown_length c.args.arena.now c.args.node.index c.look-view.result c.look-view.ensures.shows c.requires.hand.is_p, c.if-view-gt1.false))

pub give_back-requires-clause-inner : goal.give_back-requires-clause-inner
give_back-requires-clause-inner g c = inner_node c.args.arena.now c.hand_over.new.arena c.args.node.index c.args.line.index c.requires.hand c.hand_over.ensures.handed

pub label-label-requires : goal.label-label-requires
label-label-requires g c = omega (arith, in_range c.args.arena.now c.args.node.index (used_by c.args.arena.now c.args.node.index P c.requires.hand.is_p), c.requires.room)

pub put-requires-clause-old : goal.put-requires-clause-old
put-requires-clause-old g c = omega (arith, in_range c.args.arena.now c.args.node.index (used_by c.args.arena.now c.args.node.index P c.requires.hand.is_p), c.requires.room)

pub put-requires-clause-new : goal.put-requires-clause-new
put-requires-clause-new g c = omega (arith, in_range c.args.arena.now c.args.line.index (child_used c.args.arena.now c.args.node.index c.args.line.index c.layout_law.ensures c.requires.hand.child), c.requires.room)

pub returns-clause-settled : goal.returns-clause-settled
returns-clause-settled g c = inr (
  refl,
  handed_on c.args.arena.now c.hand_over.new.arena c.give_back.new.self c.args.work.now c.put.new.self c.args.node c.args.line c.requires.hand c.hand_over.ensures.handed
      (omega (arith, shown_length c.args.arena.now c.args.node.index c.look-view.result c.look-view.ensures.shows c.requires.hand.is_p, c.if-view-gt1.false))
      c.give_back.ensures.changed (subst (λ l. IsPut c.args.work.now c.put.new.self c.args.node c.args.line l) c.label-label.ensures c.put.ensures),
)
