use Rattle.std.proofs.Common.{refl, sym, subst, ◌∙◌, arith}
use Rattle.pq_tree.specs.Proper.{IsProper}
use Rattle.arena_model.specs.Layout.{Layout}
use Rattle.arena_model.specs.NamedTree.{outline_at}
use Rattle.row_model.specs.Graph.{row_at}
use Rattle.pq_arena.specs.RowNodes.{column_leaves}
use Rattle.full_pass.specs.Answer.{IsRowKept}
use Rattle.tree_theory.specs.declared.reducer.Step.TheVariants.{Refused}
use Rattle.row_reduce.specs.Outcome.{IsOutcome}
use Rattle.row_reduce.proofs.Unmoved.{taken_kept}
use Rattle.row_reduce.proofs.Taking.{split_refused}
use Rattle.row_reduce.proofs.Finding.{at_found_root, at_found_inside}
use Rattle.row_reduce.proofs.RowDone.{row_over, marked_row, nodes_room, at_row, met_most, root_found, inside_found, root_total, inside_total, root_below, inside_below}
use Rattle.row_reduce.proofs.rows.reduce_by_templates.Goals as goal

pub reduce_root-requires-clause-found : goal.reduce_root-requires-clause-found
reduce_root-requires-clause-found g c = (row_at c.args.m.now.rows c.args.k, root_found _ (marked_row (row_over c.layout_law.ensures c.requires.tree c.row-row.ensures.row c.row-row.ensures.ascending) c.bubble.new.work c.arities_law.ensures c.requires.some (c.bubble.ensures.room ∙ c.requires.room)) c.bubble.ensures.arena _ c.in-Root.ensures.answer)

pub reduce_root-requires-clause-chosen : goal.reduce_root-requires-clause-chosen
reduce_root-requires-clause-chosen g c =
    let found = at_found_root (marked_row (row_over c.layout_law.ensures c.requires.tree c.row-row.ensures.row c.row-row.ensures.ascending) c.bubble.new.work c.arities_law.ensures c.requires.some (c.bubble.ensures.room ∙ c.requires.room)) _ c.in-Root.ensures.answer in
    let few = nodes_room found.ground in
    omega (arith, few, c.requires.chosen)

pub reduce_inside-requires-clause-found : goal.reduce_inside-requires-clause-found
reduce_inside-requires-clause-found g c = (row_at c.args.m.now.rows c.args.k, inside_found _ (marked_row (row_over c.layout_law.ensures c.requires.tree c.row-row.ensures.row c.row-row.ensures.ascending) c.bubble.new.work c.arities_law.ensures c.requires.some (c.bubble.ensures.room ∙ c.requires.room)) c.bubble.ensures.arena c.in-Inside.ensures.answer)

pub reduce_inside-requires-clause-chosen : goal.reduce_inside-requires-clause-chosen
reduce_inside-requires-clause-chosen g c =
    let found = at_found_inside (marked_row (row_over c.layout_law.ensures c.requires.tree c.row-row.ensures.row c.row-row.ensures.ascending) c.bubble.new.work c.arities_law.ensures c.requires.some (c.bubble.ensures.room ∙ c.requires.room)) c.in-Inside.ensures.answer in
    let few = nodes_room found.ground in
    omega (arith, few, c.requires.chosen)

pub returns-in-Root-clause-outcome : goal.returns-in-Root-clause-outcome
returns-in-Root-clause-outcome g c =
    let row = row_at c.args.m.now.rows c.args.k in
    subst (λ (z : Layout). IsOutcome row z c.reduce_root.new.arena c.reduce_root.result) c.bubble.ensures.arena
    (c.reduce_root.ensures.outcome row (root_found _ (marked_row (row_over c.layout_law.ensures c.requires.tree c.row-row.ensures.row c.row-row.ensures.ascending) c.bubble.new.work c.arities_law.ensures c.requires.some (c.bubble.ensures.room ∙ c.requires.room)) c.bubble.ensures.arena _ c.in-Root.ensures.answer))

pub returns-in-Root-clause-ticks : goal.returns-in-Root-clause-ticks
returns-in-Root-clause-ticks g c =
    root_total _ (at_found_root (marked_row (row_over c.layout_law.ensures c.requires.tree c.row-row.ensures.row c.row-row.ensures.ascending) c.bubble.new.work c.arities_law.ensures c.requires.some (c.bubble.ensures.room ∙ c.requires.room)) _ c.in-Root.ensures.answer) (met_most c.met_law.ensures (row_over c.layout_law.ensures c.requires.tree c.row-row.ensures.row c.row-row.ensures.ascending)) _ _ _ c.bubble.ensures.few c.reduce_root.ensures.ticks

pub arities_law-requires-clause-one : goal.arities_law-requires-clause-one
arities_law-requires-clause-one g c = c.requires.tree.one

pub returns-in-Inside-clause-outcome : goal.returns-in-Inside-clause-outcome
returns-in-Inside-clause-outcome g c =
    let row = row_at c.args.m.now.rows c.args.k in
    subst (λ (z : Layout). IsOutcome row z c.reduce_inside.new.arena c.reduce_inside.result) c.bubble.ensures.arena
    (c.reduce_inside.ensures.outcome row (inside_found _ (marked_row (row_over c.layout_law.ensures c.requires.tree c.row-row.ensures.row c.row-row.ensures.ascending) c.bubble.new.work c.arities_law.ensures c.requires.some (c.bubble.ensures.room ∙ c.requires.room)) c.bubble.ensures.arena c.in-Inside.ensures.answer))

pub arities_law-requires-clause-proper : goal.arities_law-requires-clause-proper
arities_law-requires-clause-proper g c = subst (λ n. IsProper n (outline_at c.args.arena.now)) (sym c.requires.tree.columns) c.requires.tree.proper

pub returns-in-Inside-clause-ticks : goal.returns-in-Inside-clause-ticks
returns-in-Inside-clause-ticks g c =
    inside_total _ (at_found_inside (marked_row (row_over c.layout_law.ensures c.requires.tree c.row-row.ensures.row c.row-row.ensures.ascending) c.bubble.new.work c.arities_law.ensures c.requires.some (c.bubble.ensures.room ∙ c.requires.room)) c.in-Inside.ensures.answer) (met_most c.met_law.ensures (row_over c.layout_law.ensures c.requires.tree c.row-row.ensures.row c.row-row.ensures.ascending)) _ _ _ c.bubble.ensures.few
    (let t = c.reduce_inside.ensures.ticks in omega (arith, t))

pub row-row-requires : goal.row-row-requires
row-row-requires g c = c.requires.tree.within

pub returns-in-Split-clause-outcome : goal.returns-in-Split-clause-outcome
returns-in-Split-clause-outcome g c = (split_refused c.reduce_law.ensures.kept c.reduce_law.ensures.decided (at_row (row_over c.layout_law.ensures c.requires.tree c.row-row.ensures.row c.row-row.ensures.ascending)) (c.in-Split.ensures.split refl), c.bubble.ensures.arena)

pub bubble-requires-clause-tree : goal.bubble-requires-clause-tree
bubble-requires-clause-tree g c = c.requires.tree.one

pub returns-in-Root-clause-below : goal.returns-in-Root-clause-below
returns-in-Root-clause-below g c = λ e.
    root_below c.met_law.ensures (row_over c.layout_law.ensures c.requires.tree c.row-row.ensures.row c.row-row.ensures.ascending) (at_found_root (marked_row (row_over c.layout_law.ensures c.requires.tree c.row-row.ensures.row c.row-row.ensures.ascending) c.bubble.new.work c.arities_law.ensures c.requires.some (c.bubble.ensures.room ∙ c.requires.room)) _ c.in-Root.ensures.answer) _ _ _ (c.in-Root.ensures.root_few tt) c.reduce_root.ensures.ticks

pub bubble-requires-clause-inner : goal.bubble-requires-clause-inner
bubble-requires-clause-inner g c = c.arities_law.ensures

pub returns-in-Inside-clause-below : goal.returns-in-Inside-clause-below
returns-in-Inside-clause-below g c = λ e.
    inside_below c.met_law.ensures (row_over c.layout_law.ensures c.requires.tree c.row-row.ensures.row c.row-row.ensures.ascending) (at_found_inside (marked_row (row_over c.layout_law.ensures c.requires.tree c.row-row.ensures.row c.row-row.ensures.ascending) c.bubble.new.work c.arities_law.ensures c.requires.some (c.bubble.ensures.room ∙ c.requires.room)) c.in-Inside.ensures.answer) _ _ _ (c.in-Inside.ensures.root_few tt)
    (let t = c.reduce_inside.ensures.ticks in omega (arith, t))

pub bubble-requires-clause-columns : goal.bubble-requires-clause-columns
bubble-requires-clause-columns g c = c.requires.tree.columns

pub returns-in-Root-clause-kept : goal.returns-in-Root-clause-kept
returns-in-Root-clause-kept g c = λ kept.
    let s = (row_over c.layout_law.ensures c.requires.tree c.row-row.ensures.row c.row-row.ensures.ascending) in
    let row = row_at c.args.m.now.rows c.args.k in
    let found = root_found _ (marked_row s c.bubble.new.work c.arities_law.ensures c.requires.some (c.bubble.ensures.room ∙ c.requires.room)) c.bubble.ensures.arena _ c.in-Root.ensures.answer in
    let same = c.reduce_root.ensures.kept row found (subst (λ (z : Layout). IsRowKept z (column_leaves row)) (sym c.bubble.ensures.arena) kept) in
    (taken_kept c.reduce_law.ensures.kept c.reduce_law.ensures.refused s c.arities_law.ensures kept c.reduce_root.new.arena c.reduce_root.result (returns-in-Root-clause-outcome g c), same ∙ c.bubble.ensures.arena)

pub bubble-requires-clause-room : goal.bubble-requires-clause-room
bubble-requires-clause-room g c = c.requires.room

pub returns-in-Inside-clause-kept : goal.returns-in-Inside-clause-kept
returns-in-Inside-clause-kept g c = λ kept.
    let s = (row_over c.layout_law.ensures c.requires.tree c.row-row.ensures.row c.row-row.ensures.ascending) in
    let row = row_at c.args.m.now.rows c.args.k in
    let found = inside_found _ (marked_row s c.bubble.new.work c.arities_law.ensures c.requires.some (c.bubble.ensures.room ∙ c.requires.room)) c.bubble.ensures.arena c.in-Inside.ensures.answer in
    let same = c.reduce_inside.ensures.kept row found (subst (λ (z : Layout). IsRowKept z (column_leaves row)) (sym c.bubble.ensures.arena) kept) in
    (taken_kept c.reduce_law.ensures.kept c.reduce_law.ensures.refused s c.arities_law.ensures kept c.reduce_inside.new.arena c.reduce_inside.result (returns-in-Inside-clause-outcome g c), same ∙ c.bubble.ensures.arena)

pub bubble-requires-clause-row : goal.bubble-requires-clause-row
bubble-requires-clause-row g c = c.requires.tree.within

pub returns-in-Split-clause-kept : goal.returns-in-Split-clause-kept
returns-in-Split-clause-kept g c = λ kept.
    (taken_kept c.reduce_law.ensures.kept c.reduce_law.ensures.refused (row_over c.layout_law.ensures c.requires.tree c.row-row.ensures.row c.row-row.ensures.ascending) c.arities_law.ensures kept c.bubble.new.arena Refused (returns-in-Split-clause-outcome g c), c.bubble.ensures.arena)

pub bubble-requires-clause-some : goal.bubble-requires-clause-some
bubble-requires-clause-some g c = c.requires.some

pub returns-in-Root-clause-room : goal.returns-in-Root-clause-room
returns-in-Root-clause-room g c = c.reduce_root.ensures.room ∙ c.bubble.ensures.room

pub returns-in-Inside-clause-room : goal.returns-in-Inside-clause-room
returns-in-Inside-clause-room g c = c.reduce_inside.ensures.room ∙ c.bubble.ensures.room

pub returns-in-Split-clause-room : goal.returns-in-Split-clause-room
returns-in-Split-clause-room g c = c.bubble.ensures.room

pub returns-in-Split-clause-ticks : goal.returns-in-Split-clause-ticks
returns-in-Split-clause-ticks g c = let few = c.bubble.ensures.few in omega (arith, few)

pub returns-in-Split-clause-below : goal.returns-in-Split-clause-below
returns-in-Split-clause-below g c = λ e. absurd (cc)
