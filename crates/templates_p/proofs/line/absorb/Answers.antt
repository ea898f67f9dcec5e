use Rattle.std.proofs.Common.{length, sym, subst, ap, ◌∙◌}
use Rattle.arena_model.specs.Layout.{Layout}
use Rattle.templates_p.specs.Lines.{CanHandOver, IsSettled}
use Rattle.templates_p.proofs.Absorbing.{is_put_in}
use Rattle.templates_p.proofs.Settling.{absorbed, put_in_length}
use Rattle.templates_p.proofs.line.absorb.Goals as goal

pub put_at_end-requires-clause-can : goal.put_at_end-requires-clause-can
put_at_end-requires-clause-can g c = c.requires.can.put

pub settle-top-requires-clause-hand : goal.settle-top-requires-clause-hand
settle-top-requires-clause-hand g c =
    subst (λ z. CanHandOver z c.args.node.index c.args.line.index) (sym c.put_at_end.ensures.put)
    (is_put_in c.args.arena.now c.args.node.index c.args.line.index c.args.child.index c.args.end c.layout_law.ensures c.requires.can.put).can

pub settle-top-requires-clause-room : goal.settle-top-requires-clause-room
settle-top-requires-clause-room g c =
    c.requires.can.room ∙ sym (ap (λ (z : Layout). length z.slots) c.put_at_end.ensures.put ∙ put_in_length c.args.arena.now c.args.node.index c.args.line.index c.args.end c.args.child.index)

pub returns-clause-treated : goal.returns-clause-treated
returns-clause-treated g c =
    (absorbed c.args.arena.now c.settle-top.new.arena c.args.work.now c.settle-top.new.work c.args.node.index c.args.line.index c.args.child.index c.args.end c.settle-top.result.index
    c.layout_law.ensures c.layout_law-2.ensures c.requires.can
    (subst (λ z. IsSettled z c.settle-top.new.arena c.args.work.now c.settle-top.new.work c.args.node.index c.args.line.index c.settle-top.result.index) c.put_at_end.ensures.put c.settle-top.ensures.settled)).0

pub returns-clause-absorbed : goal.returns-clause-absorbed
returns-clause-absorbed g c =
    (absorbed c.args.arena.now c.settle-top.new.arena c.args.work.now c.settle-top.new.work c.args.node.index c.args.line.index c.args.child.index c.args.end c.settle-top.result.index
    c.layout_law.ensures c.layout_law-2.ensures c.requires.can
    (subst (λ z. IsSettled z c.settle-top.new.arena c.args.work.now c.settle-top.new.work c.args.node.index c.args.line.index c.settle-top.result.index) c.put_at_end.ensures.put c.settle-top.ensures.settled)).1
