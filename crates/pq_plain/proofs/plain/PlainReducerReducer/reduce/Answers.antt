use Rattle.std.proofs.Common.{◌≡◌, length, rules}
use Rattle.row_model.proofs.Ascending.{row_once}
use Rattle.row_model.proofs.PieceLemmas.{ascends_rises}
use Rattle.pq_plain.proofs.Reducing.{empty_step, root_step, not_outside, still_proper}
use Rattle.pq_plain.proofs.plain.PlainReducerReducer.reduce.Goals as goal

pub returns-then-is_empty : goal.returns-then-is_empty
returns-then-is_empty g c =
    let none : length c.row-row.result.now ≡ 0 = search rules in
    let told = empty_step _ _ c.args.m.now.rows c.args.k _ _ c.requires.columns c.args.self.now.proper c.requires.tied c.requires.row c.row-row.ensures.row c.row-row.ensures.ascending none in
    search (rules, told.reduced, told.taken, told.order, told.refused, told.conflict)

pub reduce_tree-requires-clause-row : goal.reduce_tree-requires-clause-row
reduce_tree-requires-clause-row g c =
    record { ascending = λ i j d le lt. ascends_rises c.args.m.now.columns 0 c.row-row.result.now i j d c.row-row.ensures.ascending le lt; distinct = row_once c.args.m.now.columns c.row-row.result.now c.row-row.ensures.ascending; some = search rules }

pub invariant_of-self : goal.invariant_of-self
invariant_of-self g c =
    record { proper = still_proper _ _ c.args.m.now.rows c.args.k _ _ c.requires.columns c.args.self.now.proper c.requires.tied c.requires.row c.row-row.ensures.row c.row-row.ensures.ascending c.reduce_tree.result _ c.reduce_tree.ensures.found c.reduce_tree.ensures.err }

pub unreachable-requires : goal.unreachable-requires
unreachable-requires g c =
    not_outside _ _ c.args.m.now.rows c.args.k _ _ c.requires.columns c.args.self.now.proper c.requires.tied c.requires.row c.row-row.ensures.row c.row-row.ensures.ascending
    _ _ c.in-Ok-Columns.ensures.found _ c.in-Ok-Columns.field-0-is

pub returns-in-Ok-Root : goal.returns-in-Ok-Root
returns-in-Ok-Root g c =
    let told = root_step _ _ c.args.m.now.rows c.args.k _ _ c.requires.columns c.args.self.now.proper c.requires.tied c.requires.row c.row-row.ensures.row c.row-row.ensures.ascending
    _ _ c.in-Ok-Root.ensures.found _ c.in-Ok-Root.field-0-is in
    record { reduced = told.reduced; taken = told.taken; order = told.order; refused = told.refused; conflict = told.conflict; unchanged = search rules; err = tt; proper = search rules; columns = search rules; frugal = search rules; frugal_err = search rules }
