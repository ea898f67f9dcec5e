use Rattle.std.proofs.Common.{◌≡◌, ◌<◌, ℕ, true, false, length, sym, arith, ◌∙◌}
use Rattle.arena_model.specs.declared.Shape.TheVariants.{Q}
use Rattle.arena_model.specs.ChildLists.{head_or, none}
use Rattle.arena_model.specs.Layout.{Layout, children_at}
use Rattle.arena_model.proofs.Slots.{used_by, in_range, child_used}
use Rattle.templates_p.proofs.Siding.{first_is, first_child, first_shown, first_full, first_empty}
use Rattle.templates_p.proofs.line.full_end.Goals as goal

pub look-view-requires : goal.look-view-requires
look-view-requires g c = used_by c.args.arena.now c.args.line.index Q c.requires.shape.1.is_q

pub unreachable-requires : goal.unreachable-requires
unreachable-requires g c = first_shown c.args.arena.now c.args.work.now c.args.line.index c.requires.shape.0 c.look-view.result c.layout_law.ensures c.look-view.ensures.shows c.requires.shape.1 c.in_default.is

pub is_full-full-requires : goal.is_full-full-requires
is_full-full-requires g c =
    let f : Layout = c.args.arena.now in
    let k : ℕ = c.args.line.index in
    let e : c.in-Some.first.index ≡ head_or (children_at f k) none = first_is f k c.look-view.result c.in-Some.first c.look-view.ensures.shows c.requires.shape.1.is_q c.in-Some.is in
    let l : head_or (children_at f k) none < length f.slots = in_range f (head_or (children_at f k) none)
    (child_used f k (head_or (children_at f k) none) c.layout_law.ensures (first_child f c.args.work.now k c.requires.shape.0 c.requires.shape.1)) in
    omega (arith, c.requires.room)

pub returns-then-full-clause-end : goal.returns-then-full-clause-end
returns-then-full-clause-end g c = λ h x. first_full c.args.arena.now c.args.work.now c.args.line.index h c.in-Some.first.index
    (first_is c.args.arena.now c.args.line.index c.look-view.result c.in-Some.first c.look-view.ensures.shows x.is_q c.in-Some.is)
    (c.is_full-full.ensures.0 c.if-full.true) x

pub returns-else-full-clause-end : goal.returns-else-full-clause-end
returns-else-full-clause-end g c = λ h x. first_empty c.args.arena.now c.args.work.now c.args.line.index h c.in-Some.first.index
    (first_is c.args.arena.now c.args.line.index c.look-view.result c.in-Some.first c.look-view.ensures.shows x.is_q c.in-Some.is)
    (λ e. let z : true ≡ false = sym (c.is_full-full.ensures.1 e) ∙ c.if-full.false in cc) x
