use Rattle.std.proofs.Common.{◌-◌, ℕ, List, None, sym, subst, ◌∙◌}
use Rattle.arena_model.specs.Layout.{children_at, IsSpliceAt}
use Rattle.pq_arena.specs.Looks.{IsBeside}
use Rattle.templates_p.proofs.Splicing.{at_end, end_place, merged_in, merged_occurs}
use Rattle.templates_p.proofs.Merging.{merged}
use Rattle.templates_p.proofs.merge.merge.Goals as goal

pub put_at_end-requires-clause-can : goal.put_at_end-requires-clause-can
put_at_end-requires-clause-can g c = c.requires.can.absorb.put

pub splice-requires-clause-place : goal.splice-requires-clause-place
splice-requires-clause-place g c =
    subst (λ z. (q : ℕ) × (us : List ℕ) × (vs : List ℕ) × IsSpliceAt z q c.args.other.node.index us vs × IsBeside None us vs) (sym c.put_at_end.ensures.put)
    (end_place _ c.args.line.node.index c.args.other.node.index c.args.line.full_end (children_at c.args.arena.now c.args.line.node.index)
    (at_end c.args.arena.now c.args.work.now c.args.node.index c.args.line.node.index c.args.other.node.index c.args.line.full_end c.layout_law.ensures c.requires.can c.requires.end))

pub settle-top-requires-clause-hand : goal.settle-top-requires-clause-hand
settle-top-requires-clause-hand g c =
    (merged_in c.args.arena.now c.args.work.now c.args.node.index c.args.line.node.index c.args.other.node.index c.args.line.full_end c.layout_law.ensures c.requires.can c.requires.end
    c.put_at_end.new.arena c.splice.new.self (1 - c.args.other.full_end) c.put_at_end.ensures.put c.splice.ensures.before c.splice.ensures.behind).can

pub settle-top-requires-clause-room : goal.settle-top-requires-clause-room
settle-top-requires-clause-room g c = c.requires.can.absorb.room ∙ sym
    (merged_in c.args.arena.now c.args.work.now c.args.node.index c.args.line.node.index c.args.other.node.index c.args.line.full_end c.layout_law.ensures c.requires.can c.requires.end
    c.put_at_end.new.arena c.splice.new.self (1 - c.args.other.full_end) c.put_at_end.ensures.put c.splice.ensures.before c.splice.ensures.behind).size

pub returns-clause-treated : goal.returns-clause-treated
returns-clause-treated g c =
    (merged _ _ _ _ _ _ _ _ _ _ c.layout_law.ensures c.layout_law-2.ensures c.requires.can
    (merged_occurs c.args.arena.now c.args.line.node.index c.args.other.node.index c.args.line.full_end (1 - c.args.other.full_end))
    (merged_in _ _ _ _ _ _ c.layout_law.ensures c.requires.can c.requires.end _ _ _ c.put_at_end.ensures.put c.splice.ensures.before c.splice.ensures.behind) c.settle-top.ensures.settled).0

pub returns-clause-merged : goal.returns-clause-merged
returns-clause-merged g c =
    (merged _ _ _ _ _ _ _ _ _ _ c.layout_law.ensures c.layout_law-2.ensures c.requires.can
    (merged_occurs c.args.arena.now c.args.line.node.index c.args.other.node.index c.args.line.full_end (1 - c.args.other.full_end))
    (merged_in _ _ _ _ _ _ c.layout_law.ensures c.requires.can c.requires.end _ _ _ c.put_at_end.ensures.put c.splice.ensures.before c.splice.ensures.behind) c.settle-top.ensures.settled).1
