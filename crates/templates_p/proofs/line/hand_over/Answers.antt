use Rattle.std.proofs.Common.{◌≡◌, ◌≤◌, ℕ, sym, subst, ap, ◌∙◌}
use Rattle.column_order.specs.Orders.{occurs}
use Rattle.arena_model.specs.ChildLists.{with_replaced}
use Rattle.arena_model.specs.Layout.{Layout, StandsAlone, IsAtOrAbove, IsInUse, children_at, with_children}
use Rattle.templates_p.proofs.Handing.{taken_off, taken_child, handed_over}
use Rattle.templates_p.proofs.line.hand_over.Goals as goal

pub replace-requires-clause-used : goal.replace-requires-clause-used
replace-requires-clause-used g c = subst (λ z. IsInUse z c.args.node.index) (sym (c.detach.ensures.changed c.args.node.index c.requires.is_p c.requires.child))
    (taken_child c.args.arena.now c.args.node.index c.args.line.index c.layout_law.ensures c.requires).used

pub replace-requires-clause-alone : goal.replace-requires-clause-alone
replace-requires-clause-alone g c = subst (λ z. StandsAlone z c.args.line.index) (sym (c.detach.ensures.changed c.args.node.index c.requires.is_p c.requires.child))
    (taken_child c.args.arena.now c.args.node.index c.args.line.index c.layout_law.ensures c.requires).alone

pub replace-requires-clause-apart : goal.replace-requires-clause-apart
replace-requires-clause-apart g c = subst (λ (z : Layout). IsAtOrAbove z.slots c.args.line.index c.args.node.index → ⊥) (sym (c.detach.ensures.changed c.args.node.index c.requires.is_p c.requires.child))
    (taken_child c.args.arena.now c.args.node.index c.args.line.index c.layout_law.ensures c.requires).no_way

pub returns-clause-handed : goal.returns-clause-handed
returns-clause-handed g c =
    let n : ℕ = c.args.node.index in
    let h : ℕ = c.args.line.index in
    let e : c.detach.new.self ≡ taken_off c.args.arena.now n h = c.detach.ensures.changed n c.requires.is_p c.requires.child in
    handed_over c.args.arena.now c.replace.new.self n h c.layout_law.ensures c.requires
    (λ p o. c.replace.ensures.child p (subst (λ z. 1 ≤ occurs (children_at z p) n) (sym e) o) ∙ ap (λ z. with_children z p (with_replaced (children_at z p) n h)) e)
    (λ q. c.replace.ensures.root (q ∙ ap (λ z. z.root) (sym e)) ∙ ap (λ z. let y : Layout = record z { root = h } in y) e)
