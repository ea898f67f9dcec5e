use Rattle.std.proofs.Common.{ℕ, ◌+◌, ◌-◌, ◌*◌, ◌≤◌, [], sym, subst, arith}
use Rattle.std.proofs.lemmas.Option.{get_or_from_slice_get}
use Rattle.row_model.specs.Graph.{row_at}
use Rattle.row_model.specs.Rows.{IsRow}
use Rattle.pq_arena.specs.RowNodes.{column_leaves}
use Rattle.bubble_pass.specs.Ends.{AreLeaves}
use Rattle.arena_model.specs.RowLeaves.{Holds}
use Rattle.bubble_pass.specs.Fair.{AtMost}
use Rattle.bubble_pass.specs.Pass.{IsAnswer, IsHeld}
use Rattle.bubble_pass.proofs.Outlines.{row_leaves}
use Rattle.bubble_pass.proofs.Frontiers.{split_outline}
use Rattle.bubble_pass.proofs.Answering.{split_found, whole_bound, root_bound}
use Rattle.bubble_pass.proofs.pass.bubble.Goals as goal

pub find-requires-clause-leaves : goal.find-requires-clause-leaves
find-requires-clause-leaves g c =
    subst (λ r. AreLeaves c.args.arena.now (column_leaves r)) (get_or_from_slice_get c.args.m.now.rows (c.args.k - 1) c.row.result.now [] c.row.ensures.row)
    (row_leaves c.args.arena.now (row_at c.args.m.now.rows c.args.k) c.layout_law.ensures c.requires.tree (subst (λ n. IsRow n (row_at c.args.m.now.rows c.args.k)) (sym c.requires.columns) (subst (λ r. IsRow c.args.m.now.columns r) (sym (get_or_from_slice_get c.args.m.now.rows (c.args.k - 1) c.row.result.now [] c.row.ensures.row)) c.row.ensures.ascending)) c.requires.some)

pub returns-clause-answer : goal.returns-clause-answer
returns-clause-answer g c = subst (λ r. IsAnswer c.args.arena.now (column_leaves r) c.find.new.self c.find.result) (sym (get_or_from_slice_get c.args.m.now.rows (c.args.k - 1) c.row.result.now [] c.row.ensures.row)) c.find.ensures.answer

pub returns-clause-split : goal.returns-clause-split
returns-clause-split g c = λ e o frontier keeps.
    split_outline c.args.arena.now (row_at c.args.m.now.rows c.args.k) o c.layout_law.ensures (subst (λ n. IsRow n (row_at c.args.m.now.rows c.args.k)) (sym c.requires.columns) (subst (λ r. IsRow c.args.m.now.columns r) (sym (get_or_from_slice_get c.args.m.now.rows (c.args.k - 1) c.row.result.now [] c.row.ensures.row)) c.row.ensures.ascending))
    (split_found c.args.arena.now (column_leaves (row_at c.args.m.now.rows c.args.k)) c.find.new.self c.find.result (subst (λ r. IsAnswer c.args.arena.now (column_leaves r) c.find.new.self c.find.result) (sym (get_or_from_slice_get c.args.m.now.rows (c.args.k - 1) c.row.result.now [] c.row.ensures.row)) c.find.ensures.answer) e) frontier keeps

pub returns-clause-few : goal.returns-clause-few
returns-clause-few g c =
    whole_bound c.args.arena.now (row_at c.args.m.now.rows c.args.k) c.args.steps.now c.find.new.steps c.layout_law.ensures (subst (λ n. IsRow n (row_at c.args.m.now.rows c.args.k)) (sym c.requires.columns) (subst (λ r. IsRow c.args.m.now.columns r) (sym (get_or_from_slice_get c.args.m.now.rows (c.args.k - 1) c.row.result.now [] c.row.ensures.row)) c.row.ensures.ascending))
    (subst (λ r. (a : ℕ) → AtMost c.args.arena.now (column_leaves r) c.args.arena.now.root a → c.find.new.steps ≤ c.args.steps.now + 5 * a) (sym (get_or_from_slice_get c.args.m.now.rows (c.args.k - 1) c.row.result.now [] c.row.ensures.row)) c.find.ensures.ticks)

pub returns-clause-root_few : goal.returns-clause-root_few
returns-clause-root_few g c =
    root_bound c.args.arena.now (row_at c.args.m.now.rows c.args.k) c.find.new.self c.find.result c.args.steps.now c.find.new.steps c.layout_law.ensures c.requires.tree (subst (λ n. IsRow n (row_at c.args.m.now.rows c.args.k)) (sym c.requires.columns) (subst (λ r. IsRow c.args.m.now.columns r) (sym (get_or_from_slice_get c.args.m.now.rows (c.args.k - 1) c.row.result.now [] c.row.ensures.row)) c.row.ensures.ascending)) c.requires.some
    (subst (λ r. IsAnswer c.args.arena.now (column_leaves r) c.find.new.self c.find.result) (sym (get_or_from_slice_get c.args.m.now.rows (c.args.k - 1) c.row.result.now [] c.row.ensures.row)) c.find.ensures.answer)
    (subst (λ r. (q a : ℕ) → IsHeld c.find.result → Holds c.args.arena.now (column_leaves r) q → AtMost c.args.arena.now (column_leaves r) q a → c.find.new.steps ≤ c.args.steps.now + 7 * a + 2) (sym (get_or_from_slice_get c.args.m.now.rows (c.args.k - 1) c.row.result.now [] c.row.ensures.row)) c.find.ensures.fair)

pub returns-clause-steps : goal.returns-clause-steps
returns-clause-steps g c = omega (arith, returns-clause-few g c)

pub returns-clause-root_steps : goal.returns-clause-root_steps
returns-clause-root_steps g c = λ held. omega (arith, returns-clause-root_few g c held)
