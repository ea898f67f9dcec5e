use Rattle.std.proofs.Common.{subst, Some, None, sym, ap, ◌∙◌, arith}
use Rattle.std.proofs.lemmas.Grind.{common_steps}
use Rattle.pq_arena.specs.Looks.{shown_ends, shown_count}
use Rattle.arena_model.specs.Layout.{children_at}
use Rattle.bubble_pass.specs.Moves.{near0}
use Rattle.bubble_pass.specs.Sweep.{Judging}
use Rattle.bubble_pass.proofs.Judges.{judge_start, judge_step, next_in, next_used, judge_none, judge_more, judge_all, judge_in, count_kids, full_by, partial_from, p_full, p_partial, leaf_full, judge_ticks, one_look, full_some, partial_some}
use Rattle.bubble_pass.proofs.labels.Labels.judge.Goals as goal

pub full_of-requires : goal.full_of-requires
full_of-requires g c = judge_in c.args.arena.now g.leaves c.args.climber.now c.args.chains.now c.args.self.now c.args.x c.args.done c.requires.1

pub full_of-left-requires : goal.full_of-left-requires
full_of-left-requires g c = judge_in c.args.arena.now g.leaves c.args.climber.now c.args.chains.now c.args.self.now c.args.x c.args.done c.requires.1

pub loop-left-init : goal.loop-left-init
loop-left-init g c =
    subst (λ n. Judging c.args.arena.now c.args.self.now c.args.x.index n None (near0 c.look-view.result.ends) c.args.steps.now c.look-view.new.steps) (sym c.full_of-left.ensures)
    (judge_start c.args.arena.now c.args.self.now c.args.x.index (near0 c.look-view.result.ends) c.args.steps.now c.look-view.new.steps c.requires.1.swept.sizes.0
    (ap near0 (c.look-view.ensures.shows.ends ∙ ap (λ s. shown_ends s (children_at c.args.arena.now c.args.x.index)) c.in-Q.is)) c.look-view.ensures.ticks)

pub full_at-requires : goal.full_at-requires
full_at-requires g c = next_in c.args.arena.now c.args.self.now c.args.x.index c.loop-left.left c.loop-left.before c.loop-left.next c.args.steps.now c.loop-left.steps c.layout_law.ensures c.loop-left.invariant

pub look-requires : goal.look-requires
look-requires g c = next_used c.args.arena.now c.args.self.now c.args.x.index c.loop-left.left c.loop-left.before c.loop-left.next c.in-Some.y c.args.steps.now c.loop-left.steps c.layout_law.ensures c.loop-left.invariant (sym c.full_at.ensures ∙ c.in-Some.is)

pub loop-left-preserved : goal.loop-left-preserved
loop-left-preserved g c =
    judge_step c.args.arena.now c.args.self.now c.args.x.index c.loop-left.left c.loop-left.before c.loop-left.next c.other_near-after.result c.in-Some.y c.look.result c.args.steps.now c.loop-left.steps c.look.new.steps c.layout_law.ensures (c.look-view.ensures.shows.shape_is ∙ ap (λ s. Some s) c.in-Q.is) c.loop-left.invariant c.loop-left-test.true
    (sym c.full_at.ensures ∙ c.in-Some.is) c.look.ensures.shows c.other_near-after.ensures c.look.ensures.ticks

pub returns-in-None-clause-right : goal.returns-in-None-clause-right
returns-in-None-clause-right g c =
    partial_from c.args.arena.now g.leaves c.args.climber.now c.args.chains.now c.args.self.now c.args.x c.args.done c.layout_law.ensures c.requires.1 (judge_none c.args.arena.now c.args.self.now c.args.x.index c.loop-left.left c.loop-left.before c.loop-left.next c.args.steps.now c.loop-left.steps c.layout_law.ensures c.loop-left.invariant c.loop-left-test.true (count_kids c.args.arena.now g.leaves c.args.climber.now c.args.chains.now c.args.self.now c.args.x c.args.done c.layout_law.ensures c.requires.1) (sym c.full_at.ensures ∙ c.in-None.is))

pub returns-in-None-next-clause-right : goal.returns-in-None-next-clause-right
returns-in-None-next-clause-right g c =
    full_by c.args.arena.now g.leaves c.args.climber.now c.args.chains.now c.args.self.now c.args.x c.args.done c.requires.1 (λ a s. let z = sym (c.look-view.ensures.shows.shape_is ∙ ap (λ s. Some s) c.in-Q.is) ∙ s in cc) (judge_all c.args.arena.now c.args.self.now c.args.x.index c.loop-left.left c.loop-left.before c.loop-left.next c.args.steps.now c.loop-left.steps c.layout_law.ensures c.loop-left.invariant c.in-None-next.is)

pub returns-in-Some-next-clause-right : goal.returns-in-Some-next-clause-right
returns-in-Some-next-clause-right g c =
    partial_from c.args.arena.now g.leaves c.args.climber.now c.args.chains.now c.args.self.now c.args.x c.args.done c.layout_law.ensures c.requires.1 (judge_more c.args.arena.now c.args.self.now c.args.x.index c.loop-left.left c.loop-left.before c.loop-left.next c.in-Some-next.field-0 c.args.steps.now c.loop-left.steps c.layout_law.ensures c.loop-left.invariant c.loop-left-test.false (count_kids c.args.arena.now g.leaves c.args.climber.now c.args.chains.now c.args.self.now c.args.x c.args.done c.layout_law.ensures c.requires.1) c.in-Some-next.is)

pub returns-in-Leaf-clause-right : goal.returns-in-Leaf-clause-right
returns-in-Leaf-clause-right g c = leaf_full c.args.arena.now g.leaves c.args.climber.now c.args.chains.now c.args.self.now c.args.x c.args.done _ c.layout_law.ensures c.requires.1 (c.look-view.ensures.shows.shape_is ∙ ap (λ s. Some s) c.in-Leaf.is)

pub returns-then-full_of-view-clause-right : goal.returns-then-full_of-view-clause-right
returns-then-full_of-view-clause-right g c =
    p_full c.args.arena.now g.leaves c.args.climber.now c.args.chains.now c.args.self.now c.args.x c.args.done c.layout_law.ensures c.requires.1 (c.look-view.ensures.shows.shape_is ∙ ap (λ s. Some s) c.in-P.is)
    (sym c.full_of.ensures ∙ c.if-full_of-view.true ∙ (c.look-view.ensures.shows.children ∙ ap (λ s. shown_count s (children_at c.args.arena.now c.args.x.index)) c.in-P.is))

pub returns-else-full_of-view-clause-right : goal.returns-else-full_of-view-clause-right
returns-else-full_of-view-clause-right g c =
    p_partial c.args.arena.now g.leaves c.args.climber.now c.args.chains.now c.args.self.now c.args.x c.args.done c.layout_law.ensures c.requires.1 (λ e. c.if-full_of-view.false (c.full_of.ensures ∙ e ∙ sym (c.look-view.ensures.shows.children ∙ ap (λ s. shown_count s (children_at c.args.arena.now c.args.x.index)) c.in-P.is)))

pub returns-in-None-clause-some : goal.returns-in-None-clause-some
returns-in-None-clause-some g c = partial_some

pub returns-in-None-clause-ticks : goal.returns-in-None-clause-ticks
returns-in-None-clause-ticks g c = judge_ticks c.args.arena.now c.args.self.now c.args.x.index c.loop-left.left c.loop-left.before c.loop-left.next c.args.steps.now c.loop-left.steps c.loop-left.invariant

pub returns-in-None-next-clause-some : goal.returns-in-None-next-clause-some
returns-in-None-next-clause-some g c = full_some

pub returns-in-None-next-clause-ticks : goal.returns-in-None-next-clause-ticks
returns-in-None-next-clause-ticks g c = judge_ticks c.args.arena.now c.args.self.now c.args.x.index c.loop-left.left c.loop-left.before c.loop-left.next c.args.steps.now c.loop-left.steps c.loop-left.invariant

pub returns-in-Some-next-clause-some : goal.returns-in-Some-next-clause-some
returns-in-Some-next-clause-some g c = partial_some

pub returns-in-Some-next-clause-ticks : goal.returns-in-Some-next-clause-ticks
returns-in-Some-next-clause-ticks g c = judge_ticks c.args.arena.now c.args.self.now c.args.x.index c.loop-left.left c.loop-left.before c.loop-left.next c.args.steps.now c.loop-left.steps c.loop-left.invariant

pub returns-in-Leaf-clause-some : goal.returns-in-Leaf-clause-some
returns-in-Leaf-clause-some g c = full_some

pub returns-in-Leaf-clause-ticks : goal.returns-in-Leaf-clause-ticks
returns-in-Leaf-clause-ticks g c = one_look _ _ _ c.look-view.ensures.ticks

pub returns-then-full_of-view-clause-some : goal.returns-then-full_of-view-clause-some
returns-then-full_of-view-clause-some g c = full_some

pub returns-then-full_of-view-clause-ticks : goal.returns-then-full_of-view-clause-ticks
returns-then-full_of-view-clause-ticks g c = one_look _ _ _ c.look-view.ensures.ticks

pub returns-else-full_of-view-clause-some : goal.returns-else-full_of-view-clause-some
returns-else-full_of-view-clause-some g c = partial_some

pub returns-else-full_of-view-clause-ticks : goal.returns-else-full_of-view-clause-ticks
returns-else-full_of-view-clause-ticks g c = one_look _ _ _ c.look-view.ensures.ticks

pub look-view-requires : goal.look-view-requires
look-view-requires g c = grind (arith, common_steps)
