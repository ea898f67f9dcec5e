use Rattle.std.proofs.Common.{◌≡◌, ◌≢◌, [], length, refl, sym, subst, rules, arith}
use Rattle.pq_tree.specs.Proper.{IsProper}
use Rattle.arena_model.specs.NamedTree.{outline_at}
use Rattle.pq_arena.specs.RowNodes.{indices}
use Rattle.row_model.specs.Graph.{row_at}
use Rattle.row_reduce.proofs.GroupDone.{asked, group_members, group_moves, group_named, group_taken, group_total, group_below}
use Rattle.row_reduce.proofs.BesideDone.{beside_moves, beside_some, beside_place, beside_named, beside_taken, beside_total, beside_below}
use Rattle.row_reduce.specs.Outcome.{AtFoundBetween}
use Rattle.row_reduce.proofs.BetweenDone.{between_moves, between_total, between_below}
use Rattle.row_reduce.proofs.RowDone.{row_over, row_over_arena, some_column, empty_taken, kept_taken, open_few, open_root_few, wide_total, wide_below}
use Rattle.row_reduce.proofs.rows.reduce_arena.Goals as goal

pub returns-then-is_empty-clause-outcome : goal.returns-then-is_empty-clause-outcome
returns-then-is_empty-clause-outcome g c =
    let none : length c.row.result.now ≡ 0 = search rules in
    empty_taken (row_over c.layout_law.ensures c.requires.tree c.row.ensures.row c.row.ensures.ascending) none

pub returns-in-Kept-clause-outcome : goal.returns-in-Kept-clause-outcome
returns-in-Kept-clause-outcome g c =
    kept_taken (row_over c.layout_law.ensures c.requires.tree c.row.ensures.row c.row.ensures.ascending) c.arities_law.ensures [] [] c.in-Kept.ensures.settled

pub returns-in-Kept-clause-few : goal.returns-in-Kept-clause-few
returns-in-Kept-clause-few g c = let all = c.settle.ensures.steps in omega (arith, all)

pub returns-in-Kept-clause-root_few : goal.returns-in-Kept-clause-root_few
returns-in-Kept-clause-root_few g c = λ e. let all = c.settle.ensures.steps in omega (arith, all)

pub returns-in-Open : goal.returns-in-Open
returns-in-Open g c = record {
  outcome = c.reduce_by_templates.ensures.outcome;
  room = c.reduce_by_templates.ensures.room;
  full = c.settle.ensures.room;
  kept = c.reduce_by_templates.ensures.kept;
  ticks = wide_total c.met_law.ensures (row_over c.layout_law.ensures c.requires.tree c.row.ensures.row c.row.ensures.ascending) _ _ (open_few c.args.arena.now (row_at c.args.m.now.rows c.args.k) _ _ _ c.settle.ensures.steps c.reduce_by_templates.ensures.ticks);
  below = λ e. wide_below (row_over c.layout_law.ensures c.requires.tree c.row.ensures.row c.row.ensures.ascending) _ _ (open_root_few c.args.arena.now (row_at c.args.m.now.rows c.args.k) _ _ _ c.settle.ensures.steps (c.reduce_by_templates.ensures.below e));
  few = open_few c.args.arena.now (row_at c.args.m.now.rows c.args.k) _ _ _ c.settle.ensures.steps c.reduce_by_templates.ensures.ticks;
  root_few = λ e. open_root_few c.args.arena.now (row_at c.args.m.now.rows c.args.k) _ _ _ c.settle.ensures.steps (c.reduce_by_templates.ensures.below e);
  empty = λ none. absurd (some_column (row_over c.layout_law.ensures c.requires.tree c.row.ensures.row c.row.ensures.ascending) (search rules) none);
}

pub returns-in-Group-clause-outcome : goal.returns-in-Group-clause-outcome
returns-in-Group-clause-outcome g c =
    let s = (row_over c.layout_law.ensures c.requires.tree c.row.ensures.row c.row.ensures.ascending) in
    let some : row_at c.args.m.now.rows c.args.k ≢ [] = some_column s (search rules) in
    group_taken s c.arities_law.ensures some c.turned_law.ensures.root c.in-Group.node.index (indices c.members.result.now) (group_named c.members.ensures c.in-Group.ensures.settled)
    c.apply_p2_to.new.arena c.layout_law-in-Group.ensures c.apply_p2_to.ensures.replaced c.apply_p2_to.ensures.becomes

pub returns-in-Group-clause-few : goal.returns-in-Group-clause-few
returns-in-Group-clause-few g c =
    let s = (row_over c.layout_law.ensures c.requires.tree c.row.ensures.row c.row.ensures.ascending) in
    let some : row_at c.args.m.now.rows c.args.k ≢ [] = some_column s (search rules) in
    group_total c.met_law.ensures s c.arities_law.ensures some c.in-Group.node.index c.members.result.now (group_named c.members.ensures c.in-Group.ensures.settled) _ _ _
    c.settle.ensures.steps c.apply_p2_to.ensures.ticks

pub returns-in-Group-clause-root_few : goal.returns-in-Group-clause-root_few
returns-in-Group-clause-root_few g c = λ e.
    let s = (row_over c.layout_law.ensures c.requires.tree c.row.ensures.row c.row.ensures.ascending) in
    let some : row_at c.args.m.now.rows c.args.k ≢ [] = some_column s (search rules) in
    group_below c.met_law.ensures s c.arities_law.ensures some c.in-Group.node.index c.members.result.now (group_named c.members.ensures c.in-Group.ensures.settled) _ _ _ c.settle.ensures.steps c.apply_p2_to.ensures.ticks

pub divide-requires-clause-place : goal.divide-requires-clause-place
divide-requires-clause-place g c =
    beside_place c.args.arena.now _ c.in-Beside.end.node.index c.in-Beside.end.beside.index (indices c.settle.new.work.members) c.in-Beside.ensures.settled

pub divide-requires-clause-members : goal.divide-requires-clause-members
divide-requires-clause-members g c =
    beside_some c.args.arena.now _ c.in-Beside.end.node.index c.in-Beside.end.beside.index (indices c.members-in-Beside.result.now) (beside_named c.members-in-Beside.ensures c.in-Beside.ensures.settled)

pub reduce_by_templates-requires-clause-some : goal.reduce_by_templates-requires-clause-some
reduce_by_templates-requires-clause-some g c = some_column (row_over c.layout_law.ensures c.requires.tree c.row.ensures.row c.row.ensures.ascending) (search rules)

pub returns-in-Beside-clause-outcome : goal.returns-in-Beside-clause-outcome
returns-in-Beside-clause-outcome g c =
    let s = (row_over c.layout_law.ensures c.requires.tree c.row.ensures.row c.row.ensures.ascending) in
    let some : row_at c.args.m.now.rows c.args.k ≢ [] = some_column s (search rules) in
    beside_taken s c.arities_law.ensures some c.turned_law-in-Beside.ensures.root c.in-Beside.end.node.index c.in-Beside.end.beside.index (indices c.members-in-Beside.result.now)
    (beside_named c.members-in-Beside.ensures c.in-Beside.ensures.settled) c.divide.new.arena c.layout_law-in-Beside.ensures (record { before = c.divide.ensures.before; behind = c.divide.ensures.behind })

pub returns-in-Beside-clause-few : goal.returns-in-Beside-clause-few
returns-in-Beside-clause-few g c =
    let s = (row_over c.layout_law.ensures c.requires.tree c.row.ensures.row c.row.ensures.ascending) in
    let some : row_at c.args.m.now.rows c.args.k ≢ [] = some_column s (search rules) in
    beside_total c.met_law.ensures s c.arities_law.ensures some c.in-Beside.end.node.index c.in-Beside.end.beside.index c.members-in-Beside.result.now (beside_named c.members-in-Beside.ensures c.in-Beside.ensures.settled)
    _ _ _ c.settle.ensures.steps c.divide.ensures.ticks

pub returns-in-Beside-clause-root_few : goal.returns-in-Beside-clause-root_few
returns-in-Beside-clause-root_few g c = λ e.
    let s = (row_over c.layout_law.ensures c.requires.tree c.row.ensures.row c.row.ensures.ascending) in
    let some : row_at c.args.m.now.rows c.args.k ≢ [] = some_column s (search rules) in
    beside_below c.met_law.ensures s c.arities_law.ensures some c.in-Beside.end.node.index c.in-Beside.end.beside.index c.members-in-Beside.result.now (beside_named c.members-in-Beside.ensures c.in-Beside.ensures.settled)
    _ _ _ c.settle.ensures.steps c.divide.ensures.ticks

pub returns-in-Kept-clause-empty : goal.returns-in-Kept-clause-empty
returns-in-Kept-clause-empty g c = λ none. absurd (some_column (row_over c.layout_law.ensures c.requires.tree c.row.ensures.row c.row.ensures.ascending) (search rules) none)

pub returns-in-Group-clause-empty : goal.returns-in-Group-clause-empty
returns-in-Group-clause-empty g c = λ none. absurd (some_column (row_over c.layout_law.ensures c.requires.tree c.row.ensures.row c.row.ensures.ascending) (search rules) none)

pub returns-in-Beside-clause-empty : goal.returns-in-Beside-clause-empty
returns-in-Beside-clause-empty g c = λ none. absurd (some_column (row_over c.layout_law.ensures c.requires.tree c.row.ensures.row c.row.ensures.ascending) (search rules) none)

pub divide_both-requires-clause-found : goal.divide_both-requires-clause-found
divide_both-requires-clause-found g c =
    let s = (row_over c.layout_law.ensures c.requires.tree c.row.ensures.row c.row.ensures.ascending) in
    let some : row_at c.args.m.now.rows c.args.k ≢ [] = some_column s (search rules) in
    (row_at c.args.m.now.rows c.args.k, record { is_row = row_over_arena s; some = some; found = c.in-Between.ensures.settled })

pub returns-in-Between-clause-outcome : goal.returns-in-Between-clause-outcome
returns-in-Between-clause-outcome g c =
    let s = (row_over c.layout_law.ensures c.requires.tree c.row.ensures.row c.row.ensures.ascending) in
    let some : row_at c.args.m.now.rows c.args.k ≢ [] = some_column s (search rules) in
    c.divide_both.ensures.outcome (row_at c.args.m.now.rows c.args.k) (record { is_row = row_over_arena s; some = some; found = c.in-Between.ensures.settled })

pub returns-in-Between-clause-few : goal.returns-in-Between-clause-few
returns-in-Between-clause-few g c =
    let s = (row_over c.layout_law.ensures c.requires.tree c.row.ensures.row c.row.ensures.ascending) in
    let some : row_at c.args.m.now.rows c.args.k ≢ [] = some_column s (search rules) in
    let b : AtFoundBetween c.args.arena.now (row_at c.args.m.now.rows c.args.k) c.in-Between.first (indices c.settle.new.work.members) c.in-Between.second (indices c.settle.new.work.others) =
    record { is_row = row_over_arena s; some = some; found = c.in-Between.ensures.settled } in
    between_total c.met_law.ensures s c.arities_law.ensures c.settle.new.work.members c.settle.new.work.others b _ _ _ c.settle.ensures.steps c.divide_both.ensures.ticks

pub returns-in-Between-clause-root_few : goal.returns-in-Between-clause-root_few
returns-in-Between-clause-root_few g c = λ e.
    let s = (row_over c.layout_law.ensures c.requires.tree c.row.ensures.row c.row.ensures.ascending) in
    let some : row_at c.args.m.now.rows c.args.k ≢ [] = some_column s (search rules) in
    let b : AtFoundBetween c.args.arena.now (row_at c.args.m.now.rows c.args.k) c.in-Between.first (indices c.settle.new.work.members) c.in-Between.second (indices c.settle.new.work.others) =
    record { is_row = row_over_arena s; some = some; found = c.in-Between.ensures.settled } in
    between_below c.met_law.ensures s c.arities_law.ensures c.settle.new.work.members c.settle.new.work.others b _ _ _ c.settle.ensures.steps c.divide_both.ensures.ticks

pub returns-in-Between-clause-empty : goal.returns-in-Between-clause-empty
returns-in-Between-clause-empty g c = λ none. absurd (some_column (row_over c.layout_law.ensures c.requires.tree c.row.ensures.row c.row.ensures.ascending) (search rules) none)

pub returns-in-Group-clause-kept : goal.returns-in-Group-clause-kept
returns-in-Group-clause-kept g c = λ kept.
    let s = (row_over c.layout_law.ensures c.requires.tree c.row.ensures.row c.row.ensures.ascending) in
    let some : row_at c.args.m.now.rows c.args.k ≢ [] = some_column s (search rules) in
    let a = asked s c.arities_law.ensures some in
    absurd (group_moves c.args.arena.now (row_at c.args.m.now.rows c.args.k) c.in-Group.node.index (indices c.settle.new.work.members) a c.in-Group.ensures.settled kept)

pub returns-in-Beside-clause-kept : goal.returns-in-Beside-clause-kept
returns-in-Beside-clause-kept g c = λ kept.
    let s = (row_over c.layout_law.ensures c.requires.tree c.row.ensures.row c.row.ensures.ascending) in
    let some : row_at c.args.m.now.rows c.args.k ≢ [] = some_column s (search rules) in
    let a = asked s c.arities_law.ensures some in
    absurd (beside_moves c.args.arena.now (row_at c.args.m.now.rows c.args.k) c.in-Beside.end.node.index c.in-Beside.end.beside.index (indices c.settle.new.work.members) a c.in-Beside.ensures.settled kept)

pub returns-in-Between-clause-kept : goal.returns-in-Between-clause-kept
returns-in-Between-clause-kept g c = λ kept.
    let s = (row_over c.layout_law.ensures c.requires.tree c.row.ensures.row c.row.ensures.ascending) in
    let some : row_at c.args.m.now.rows c.args.k ≢ [] = some_column s (search rules) in
    let a = asked s c.arities_law.ensures some in
    absurd (between_moves a c.in-Between.ensures.settled kept)

pub returns-in-Kept-clause-ticks : goal.returns-in-Kept-clause-ticks
returns-in-Kept-clause-ticks g c = wide_total c.met_law.ensures (row_over c.layout_law.ensures c.requires.tree c.row.ensures.row c.row.ensures.ascending) _ _ (returns-in-Kept-clause-few g c)

pub returns-in-Kept-clause-below : goal.returns-in-Kept-clause-below
returns-in-Kept-clause-below g c = λ e. wide_below (row_over c.layout_law.ensures c.requires.tree c.row.ensures.row c.row.ensures.ascending) _ _ (returns-in-Kept-clause-root_few g c e)

pub returns-in-Group-clause-ticks : goal.returns-in-Group-clause-ticks
returns-in-Group-clause-ticks g c = wide_total c.met_law.ensures (row_over c.layout_law.ensures c.requires.tree c.row.ensures.row c.row.ensures.ascending) _ _ (returns-in-Group-clause-few g c)

pub returns-in-Group-clause-below : goal.returns-in-Group-clause-below
returns-in-Group-clause-below g c = λ e. wide_below (row_over c.layout_law.ensures c.requires.tree c.row.ensures.row c.row.ensures.ascending) _ _ (returns-in-Group-clause-root_few g c e)

pub returns-in-Beside-clause-ticks : goal.returns-in-Beside-clause-ticks
returns-in-Beside-clause-ticks g c = wide_total c.met_law.ensures (row_over c.layout_law.ensures c.requires.tree c.row.ensures.row c.row.ensures.ascending) _ _ (returns-in-Beside-clause-few g c)

pub returns-in-Beside-clause-below : goal.returns-in-Beside-clause-below
returns-in-Beside-clause-below g c = λ e. wide_below (row_over c.layout_law.ensures c.requires.tree c.row.ensures.row c.row.ensures.ascending) _ _ (returns-in-Beside-clause-root_few g c e)

pub returns-in-Between-clause-ticks : goal.returns-in-Between-clause-ticks
returns-in-Between-clause-ticks g c = wide_total c.met_law.ensures (row_over c.layout_law.ensures c.requires.tree c.row.ensures.row c.row.ensures.ascending) _ _ (returns-in-Between-clause-few g c)

pub returns-in-Between-clause-below : goal.returns-in-Between-clause-below
returns-in-Between-clause-below g c = λ e. wide_below (row_over c.layout_law.ensures c.requires.tree c.row.ensures.row c.row.ensures.ascending) _ _ (returns-in-Between-clause-root_few g c e)

pub arities_law-requires-clause-one : goal.arities_law-requires-clause-one
arities_law-requires-clause-one g c = c.requires.tree.one

pub arities_law-requires-clause-proper : goal.arities_law-requires-clause-proper
arities_law-requires-clause-proper g c = subst (λ n. IsProper n (outline_at c.args.arena.now)) (sym c.requires.tree.columns) c.requires.tree.proper

pub row-requires : goal.row-requires
row-requires g c = c.requires.tree.within

pub returns-then-is_empty-clause-room : goal.returns-then-is_empty-clause-room
returns-then-is_empty-clause-room g c = refl

pub returns-then-is_empty-clause-full : goal.returns-then-is_empty-clause-full
returns-then-is_empty-clause-full g c = refl

pub returns-then-is_empty-clause-ticks : goal.returns-then-is_empty-clause-ticks
returns-then-is_empty-clause-ticks g c = omega arith

pub returns-then-is_empty-clause-below : goal.returns-then-is_empty-clause-below
returns-then-is_empty-clause-below g c = λ e. omega arith

pub returns-then-is_empty-clause-few : goal.returns-then-is_empty-clause-few
returns-then-is_empty-clause-few g c = omega arith

pub returns-then-is_empty-clause-root_few : goal.returns-then-is_empty-clause-root_few
returns-then-is_empty-clause-root_few g c = λ e. omega arith

pub returns-then-is_empty-clause-empty : goal.returns-then-is_empty-clause-empty
returns-then-is_empty-clause-empty g c = λ none. (refl, refl, refl)

pub returns-then-is_empty-clause-kept : goal.returns-then-is_empty-clause-kept
returns-then-is_empty-clause-kept g c = λ kept. (refl, refl)

pub settle-requires-clause-tree : goal.settle-requires-clause-tree
settle-requires-clause-tree g c = c.requires.tree.one

pub settle-requires-clause-columns : goal.settle-requires-clause-columns
settle-requires-clause-columns g c = c.requires.tree.columns

pub settle-requires-clause-room : goal.settle-requires-clause-room
settle-requires-clause-room g c = c.requires.full

pub settle-requires-clause-row : goal.settle-requires-clause-row
settle-requires-clause-row g c = c.requires.tree.within

pub apply_p2_to-requires-clause-one : goal.apply_p2_to-requires-clause-one
apply_p2_to-requires-clause-one g c = c.requires.tree.one

pub apply_p2_to-requires-clause-two : goal.apply_p2_to-requires-clause-two
apply_p2_to-requires-clause-two g c = c.arities_law.ensures

pub apply_p2_to-requires-clause-members : goal.apply_p2_to-requires-clause-members
apply_p2_to-requires-clause-members g c =
    group_members c.args.arena.now _ _ _ (group_named c.members.ensures c.in-Group.ensures.settled)

pub divide-requires-clause-one : goal.divide-requires-clause-one
divide-requires-clause-one g c = c.requires.tree.one

pub divide-requires-clause-two : goal.divide-requires-clause-two
divide-requires-clause-two g c = c.arities_law.ensures

pub divide_both-requires-clause-one : goal.divide_both-requires-clause-one
divide_both-requires-clause-one g c = c.requires.tree.one

pub divide_both-requires-clause-two : goal.divide_both-requires-clause-two
divide_both-requires-clause-two g c = c.arities_law.ensures

pub reduce_by_templates-requires-clause-tree : goal.reduce_by_templates-requires-clause-tree
reduce_by_templates-requires-clause-tree g c = c.requires.tree

pub reduce_by_templates-requires-clause-room : goal.reduce_by_templates-requires-clause-room
reduce_by_templates-requires-clause-room g c = c.requires.room

pub reduce_by_templates-requires-clause-chosen : goal.reduce_by_templates-requires-clause-chosen
reduce_by_templates-requires-clause-chosen g c = c.requires.chosen

pub returns-in-Kept-clause-room : goal.returns-in-Kept-clause-room
returns-in-Kept-clause-room g c = refl

pub returns-in-Kept-clause-full : goal.returns-in-Kept-clause-full
returns-in-Kept-clause-full g c = c.settle.ensures.room

pub returns-in-Kept-clause-kept : goal.returns-in-Kept-clause-kept
returns-in-Kept-clause-kept g c = λ kept. (refl, refl)

pub returns-in-Group-clause-room : goal.returns-in-Group-clause-room
returns-in-Group-clause-room g c = refl

pub returns-in-Group-clause-full : goal.returns-in-Group-clause-full
returns-in-Group-clause-full g c = c.settle.ensures.room

pub returns-in-Beside-clause-room : goal.returns-in-Beside-clause-room
returns-in-Beside-clause-room g c = refl

pub returns-in-Beside-clause-full : goal.returns-in-Beside-clause-full
returns-in-Beside-clause-full g c = c.settle.ensures.room

pub returns-in-Between-clause-room : goal.returns-in-Between-clause-room
returns-in-Between-clause-room g c = refl

pub returns-in-Between-clause-full : goal.returns-in-Between-clause-full
returns-in-Between-clause-full g c = c.settle.ensures.room
