use Rattle.std.proofs.Common.{◌≡◌, ℕ, ◌+◌, ◌*◌, ◌≤◌, List, length, sym, ap, subst, ◌∙◌}
use Rattle.std.specs.List.{length_refill}
use Rattle.tree_theory.specs.Reduced.{IsReduced}
use Rattle.tree_theory.specs.Frugal.{IsFrugal}
use Rattle.tree_theory.specs.declared.reducer.Step.TheVariants.{Taken}
use Rattle.row_model.specs.Graph.{row_at}
use Rattle.arena_model.specs.Layout.{Layout}
use Rattle.arena_model.specs.NamedTree.{outline_at}
use Rattle.pq_tree.specs.Amortised.{nodes_met, nodes_met_below_root}
use Rattle.pq_tree.specs.Proper.{IsProper}
use Rattle.pq_tree.proofs.Equivalent.{tree_from_proper}
use Rattle.pq_arena.specs.RowNodes.{column_leaves}
use Rattle.full_pass.specs.Answer.{IsRowKept}
use Rattle.tree_theory.specs.Tied.{IsTied}
use Rattle.row_reduce.specs.InPlace.{IsInPlace}
use Rattle.row_reduce.proofs.Frugality.{row_frugal}
use Rattle.row_reduce.proofs.InPlace.{row_in_place}
use Rattle.row_reduce.proofs.RowDone.{row_ascends}
use Rattle.row_reduce.proofs.Staying.{StaysTree, row_reduced, row_refused, reducer_kept}
use Rattle.row_reduce.proofs.Taking.{AtRow, row_kept, row_order, row_conflict, row_none}
use Rattle.row_reduce.proofs.reducer.ArenaReducer.reduce_after.Given.{Over}
use Rattle.row_reduce.proofs.reducer.ArenaReducer.reduce_after.Goals as goal

-- the arena is the one that was given
same : (g : Over) (c : goal.After-layout_law-2 g) → c.self.inside.arena ≡ c.args.self.now
same g c = cc

-- the row, and the tree with some rows to which it is tied
at_row : (g : Over) (c : goal.After-layout_law-2 g) (rows : List (List ℕ)) → IsTied c.args.m.now.columns rows (outline_at c.args.self.now) → AtRow c.args.m.now.columns rows (row_at c.args.m.now.rows c.args.k) (outline_at c.self.inside.arena)
at_row g c rows tied =
    let e : c.self.inside.arena ≡ c.args.self.now = cc in
    let columns : c.self.inside.arena.columns ≡ c.args.m.now.columns = ap (λ (z : Layout). z.columns) e ∙ c.requires.columns in
    record {
      is_row = row_ascends c.args.m.now.columns c.args.m.now.rows c.args.k c.row-row.result.now c.row-row.ensures.row c.row-row.ensures.ascending;
      proper = subst (λ n. IsProper n (outline_at c.self.inside.arena)) columns c.self.invariant.proper;
      tied = subst (λ (z : Layout). IsTied c.args.m.now.columns rows (outline_at z)) (sym e) tied;
    }

-- the reduced tree is one proper tree over the same columns
stays : (g : Over) (c : goal.After-layout_law-2 g) → StaysTree c.self.inside.arena c.reduce_arena-step.new.arena
stays g c =
    let e : c.self.inside.arena ≡ c.args.self.now = cc in
    reducer_kept c.self.inside.arena c.reduce_arena-step.new.arena c.reduce_arena-step.result c.reduce_law.ensures.kept (at_row g c c.requires.tied.0 c.requires.tied.1) c.layout_law.ensures c.layout_law-2.ensures
    (ap (λ (z : Layout). z.columns) e ∙ c.requires.columns) c.self.invariant.one c.self.invariant.proper c.reduce_arena-step.ensures.outcome

pub invariant_of-self : goal.invariant_of-self
invariant_of-self g c =
    let s = stays g c in
    record {
      one = s.one;
      proper = s.proper;
      full = c.reduce_arena-step.ensures.full ∙ c.self.invariant.full ∙ sym s.slots;
      room = c.reduce_arena-step.ensures.room ∙ c.self.invariant.room ∙ sym s.slots;
      chosen = sym (length_refill c.self.inside.chosen.len c.self.inside.chosen.items c.reduce_arena-step.new.chosen c.self.inside.chosen.ok.0)
          ∙ c.self.inside.chosen.ok.0 ∙ c.self.invariant.chosen ∙ sym s.slots;
    }

pub returns-clause-proper : goal.returns-clause-proper
returns-clause-proper g c = (stays g c).proper

pub reduce_arena-step-requires-clause-tree : goal.reduce_arena-step-requires-clause-tree
reduce_arena-step-requires-clause-tree g c =
    let e : c.self.inside.arena ≡ c.args.self.now = cc in
    let columns : c.self.inside.arena.columns ≡ c.args.m.now.columns = ap (λ (z : Layout). z.columns) e ∙ c.requires.columns in
    record {
      one = c.self.invariant.one;
      columns = columns;
      proper = subst (λ n. IsProper n (outline_at c.self.inside.arena)) columns c.self.invariant.proper;
      within = c.requires.row;
      before = c.requires.tied.0;
      tied = subst (λ (z : Layout). IsTied c.args.m.now.columns c.requires.tied.0 (outline_at z)) (sym e) c.requires.tied.1;
    }

pub returns-clause-reduced : goal.returns-clause-reduced
returns-clause-reduced g c =
    let e : c.self.inside.arena ≡ c.args.self.now = cc in
    subst (λ (z : Layout). c.reduce_arena-step.result ≡ Taken → IsReduced (row_at c.args.m.now.rows c.args.k) (outline_at z) (outline_at c.reduce_arena-step.new.arena)) e
    (row_reduced (row_at c.args.m.now.rows c.args.k) c.self.inside.arena c.reduce_arena-step.new.arena c.reduce_arena-step.result c.reduce_arena-step.ensures.outcome)

pub returns-clause-taken : goal.returns-clause-taken
returns-clause-taken g c = λ t rows tied.
    (row_kept c.reduce_law.ensures.kept (at_row g c rows tied) (outline_at c.reduce_arena-step.new.arena)
    (row_reduced (row_at c.args.m.now.rows c.args.k) c.self.inside.arena c.reduce_arena-step.new.arena c.reduce_arena-step.result c.reduce_arena-step.ensures.outcome t)).1

pub returns-clause-order : goal.returns-clause-order
returns-clause-order g c = λ t rows tied.
    row_order c.reduce_law.ensures.kept (at_row g c rows tied) (outline_at c.reduce_arena-step.new.arena)
    (row_reduced (row_at c.args.m.now.rows c.args.k) c.self.inside.arena c.reduce_arena-step.new.arena c.reduce_arena-step.result c.reduce_arena-step.ensures.outcome t)

pub returns-clause-refused : goal.returns-clause-refused
returns-clause-refused g c = λ t rows tied.
    row_none c.reduce_law.ensures.refused (at_row g c rows tied)
    (row_refused (row_at c.args.m.now.rows c.args.k) c.self.inside.arena c.reduce_arena-step.new.arena c.reduce_arena-step.result c.reduce_arena-step.ensures.outcome t).0

pub returns-clause-conflict : goal.returns-clause-conflict
returns-clause-conflict g c = λ t rows tied.
    row_conflict c.reduce_law.ensures.refused (at_row g c rows tied)
    (row_refused (row_at c.args.m.now.rows c.args.k) c.self.inside.arena c.reduce_arena-step.new.arena c.reduce_arena-step.result c.reduce_arena-step.ensures.outcome t).0

pub returns-clause-unchanged : goal.returns-clause-unchanged
returns-clause-unchanged g c = λ t.
    let e : c.self.inside.arena ≡ c.args.self.now = cc in
    (row_refused (row_at c.args.m.now.rows c.args.k) c.self.inside.arena c.reduce_arena-step.new.arena c.reduce_arena-step.result c.reduce_arena-step.ensures.outcome t).1 ∙ e

pub returns-clause-amortised : goal.returns-clause-amortised
returns-clause-amortised g c =
    let e : c.self.inside.arena ≡ c.args.self.now = cc in
    let f = c.self.inside.arena in
    let h = c.reduce_arena-step.new.arena in
    let row = row_at c.args.m.now.rows c.args.k in
    let paid : IsFrugal row (outline_at f) (outline_at h) c.args.steps.now c.reduce_arena-step.new.steps c.reduce_arena-step.result =
    row_frugal c.ticks_law.ensures.taken c.ticks_law.ensures.refused row (outline_at f) (outline_at h) c.args.steps.now c.reduce_arena-step.new.steps c.reduce_arena-step.result
    (tree_from_proper f.columns (outline_at f) c.self.invariant.proper)
    (row_reduced row f h c.reduce_arena-step.result c.reduce_arena-step.ensures.outcome)
    c.reduce_arena-step.ensures.ticks c.reduce_arena-step.ensures.below in
    subst (λ (z : Layout). IsFrugal row (outline_at z) (outline_at h) c.args.steps.now c.reduce_arena-step.new.steps c.reduce_arena-step.result) e paid

pub returns-clause-kept : goal.returns-clause-kept
returns-clause-kept g c =
    let e : c.self.inside.arena ≡ c.args.self.now = cc in
    subst (λ (z : Layout). IsRowKept z (column_leaves (row_at c.args.m.now.rows c.args.k)) → (c.reduce_arena-step.result ≡ Taken) × (c.reduce_arena-step.new.arena ≡ z)) e c.reduce_arena-step.ensures.kept

pub returns-clause-in_place : goal.returns-clause-in_place
returns-clause-in_place g c =
    let e : c.self.inside.arena ≡ c.args.self.now = cc in
    let row = row_at c.args.m.now.rows c.args.k in
    subst (λ (z : Layout). IsInPlace (column_leaves row) z c.reduce_arena-step.new.arena) e
    (row_in_place row c.self.inside.arena c.reduce_arena-step.new.arena c.reduce_arena-step.result c.reduce_arena-step.ensures.outcome)

pub row-row-requires : goal.row-row-requires
row-row-requires g c = c.requires.row

pub reduce_arena-step-requires-clause-room : goal.reduce_arena-step-requires-clause-room
reduce_arena-step-requires-clause-room g c = c.self.invariant.room

pub reduce_arena-step-requires-clause-full : goal.reduce_arena-step-requires-clause-full
reduce_arena-step-requires-clause-full g c = c.self.invariant.full

pub returns-clause-columns : goal.returns-clause-columns
returns-clause-columns g c = (stays g c).columns ∙ ap (λ (z : Layout). z.columns) (same g c)

pub returns-clause-ticks : goal.returns-clause-ticks
returns-clause-ticks g c =
    let row = row_at c.args.m.now.rows c.args.k in
    subst (λ (z : Layout). c.reduce_arena-step.new.steps ≤ c.args.steps.now + 256 * (nodes_met row (outline_at z) + 1)) (same g c)
    c.reduce_arena-step.ensures.ticks

pub returns-clause-below : goal.returns-clause-below
returns-clause-below g c =
    let row = row_at c.args.m.now.rows c.args.k in
    subst (λ (z : Layout). c.reduce_arena-step.result ≡ Taken → c.reduce_arena-step.new.steps ≤ c.args.steps.now + 4 * length row + 252 * (nodes_met_below_root row (outline_at z) + 1)) (same g c)
    c.reduce_arena-step.ensures.below

pub returns-clause-few : goal.returns-clause-few
returns-clause-few g c =
    let row = row_at c.args.m.now.rows c.args.k in
    subst (λ (z : Layout). c.reduce_arena-step.new.steps ≤ c.args.steps.now + 8 * length row + 36 * nodes_met row (outline_at z) + 6) (same g c)
    c.reduce_arena-step.ensures.few

pub returns-clause-root_few : goal.returns-clause-root_few
returns-clause-root_few g c =
    let row = row_at c.args.m.now.rows c.args.k in
    subst (λ (z : Layout). c.reduce_arena-step.result ≡ Taken → c.reduce_arena-step.new.steps ≤ c.args.steps.now + 8 * length row + 38 * nodes_met_below_root row (outline_at z) + 8) (same g c)
    c.reduce_arena-step.ensures.root_few

pub returns-clause-empty : goal.returns-clause-empty
returns-clause-empty g c = λ none.
    let done = c.reduce_arena-step.ensures.empty none in
    (done.0, done.1 ∙ same g c, done.2)
