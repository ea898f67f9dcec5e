use Rattle.std.proofs.Common.{◌≡◌, ℕ, ◌+◌, ◌<◌, ◌≤◌, List, [], ◌∷◌, ◌++◌, length, sum_by, take, ◌∙◌, refl, sym, ap, subst, append-nil, arith}
use Rattle.std.proofs.lemmas.List.{length-take-le, take_all}
use Rattle.std.proofs.lemmas.List.Sums.{sum_by_push, sum_by-take-le}
use Rattle.pq_tree.specs.Amortised.{weight}
use Rattle.row_model.specs.Rows.{IsRow}
use Rattle.row_model.proofs.Pushed.{take_next}
use Rattle.solve_replies.specs.Taking.{HasTaken}
use Rattle.solve_replies.proofs.MetNodes.{met_after}
use Rattle.solve_replies.proofs.Sessions.{taken_more, on_the_way}
use Rattle.solve_replies.proofs.Charges.{IsCharged, charged_more, charged_failed, charged_all, charged_most, charged_none}
use Rattle.solve_replies.proofs.session.print_outcomes.Goals as goal

-- the ones of the rows so far and of the next are some of all
room : (rows : List (List ℕ)) (n : ℕ) (row : List ℕ) → take n rows ++ row ∷ [] ≡ take (n + 1) rows → sum_by length (take n rows) + length row ≤ sum_by length rows
room rows n row e = omega (arith, sum_by_push length (take n rows) row, ap (sum_by length) e, sum_by-take-le length rows (n + 1))

pub loop-taken-preserved : goal.loop-taken-preserved
loop-taken-preserved g c =
    let start = c.args.session.now.matrix in
    let rows = c.args.further.now.rows in
    let n = c.loop-taken.taken in
    let row = c.row-row.result.now in
    let after = c.take_one.new.session.matrix in
    let count = c.in_ok-refusals.refusals in
    let text = c.take_one.new.text.items in
    let at : n + 1 ≡ length (take n rows) + 1 = omega (arith, length-take-le n rows (omega (arith, c.loop-taken-test.true, c.loop-taken.auto.taken-end, c.rows-taken-end.ensures))) in
    let next = take_next rows n row c.row-row.ensures.row in
    let one = c.in_ok-refusals.ensures.one in
    let before = c.loop-taken.invariant.so_far in
    let met = met_after before.0 row c.loop-taken.session.tree one.outcome in
    record {
      way = on_the_way start c.loop-taken.session.matrix after c.loop-taken.refusals n (n + 1) row count c.loop-taken.text.items text c.loop-taken.invariant.way one;
      so_far = (
        met,
        subst (λ done. HasTaken start done after count met c.args.text.now.items text) next
            (taken_more start (take n rows) c.loop-taken.session.matrix c.loop-taken.refusals before.0 c.loop-taken.session.tree c.args.text.now.items c.loop-taken.text.items (n + 1) row after count text before.1 at one c.in_ok-refusals.ensures.tree),
        subst (λ done. IsCharged start rows done after count met (weight c.args.session.now.tree) (weight c.take_one.new.session.tree) c.args.steps.now c.take_one.new.steps) next
            (charged_more start rows (take n rows) c.loop-taken.session.matrix after row c.loop-taken.refusals before.0 (weight c.args.session.now.tree) c.args.steps.now c.loop-taken.steps c.loop-taken.session.tree
            c.take_one.new.session.tree (room rows n row next) before.2 one.outcome count c.take_one.new.steps one.count_is one.matrix_is c.in_ok-refusals.ensures.charged),
      );
    }

pub returns-clause-taken : goal.returns-clause-taken
returns-clause-taken g c =
    let whole = take_all c.loop-taken.taken c.args.further.now.rows (omega arith) in
    let so_far = c.loop-taken.invariant.so_far in
    let costs = charged_all c.args.session.now.matrix c.args.further.now.rows c.loop-taken.session.matrix c.loop-taken.refusals so_far.0
    (weight c.args.session.now.tree) (weight c.loop-taken.session.tree) c.args.steps.now c.loop-taken.steps (rw whole at so_far.2) in
    (c.loop-taken.refusals, so_far.0, rw whole at so_far.1, costs.0, costs.1)

pub returns-clause-most : goal.returns-clause-most
returns-clause-most g c =
    let whole = take_all c.loop-taken.taken c.args.further.now.rows (omega arith) in
    let so_far = c.loop-taken.invariant.so_far in
    charged_most c.args.session.now.matrix c.args.further.now.rows c.loop-taken.session.matrix c.loop-taken.refusals so_far.0 (weight c.args.session.now.tree) (weight c.loop-taken.session.tree) c.args.steps.now
    c.loop-taken.steps (rw whole at so_far.2)

pub returns-in_err-refusals-clause-most : goal.returns-in_err-refusals-clause-most
returns-in_err-refusals-clause-most g c =
    let rows = c.args.further.now.rows in
    let n = c.loop-taken.taken in
    let row = c.row-row.result.now in
    let inside : n < length rows = omega (arith, c.loop-taken-test.true, c.loop-taken.auto.taken-end, c.rows-taken-end.ensures) in
    charged_failed c.args.session.now.matrix rows (take n rows) c.loop-taken.session.matrix c.take_one.new.session.matrix row c.loop-taken.refusals c.loop-taken.invariant.so_far.0 (weight c.args.session.now.tree)
    c.args.steps.now c.loop-taken.steps c.loop-taken.session.tree c.take_one.new.session.tree (room rows n row (take_next rows n row c.row-row.ensures.row)) c.loop-taken.invariant.so_far.2
    c.take_one.new.steps (omega (arith, inside, length-take-le n rows (omega (arith, inside)))) c.take_one.ensures.most

pub take_one-requires : goal.take_one-requires
take_one-requires g c =
    let way = c.loop-taken.invariant.way in
    record {
      row = subst (λ n. IsRow n c.row-row.result.now) (c.requires.columns ∙ sym way.columns) c.row-row.ensures.ascending;
      room = omega (arith, way.rows, c.requires.room, c.loop-taken-test.true, c.rows-taken-end.ensures);
      few = omega (arith, way.few);
    }

pub loop-taken-init : goal.loop-taken-init
loop-taken-init g c =
    let m = c.args.session.now.matrix in
    let text = c.args.text.now.items in
    record {
      way = record { columns = refl; rows = omega arith; few = omega arith };
      so_far = (
        0,
        record { outcomes = []; in_turn = tt; matrix_is = refl; count_is = refl; are_met = refl; text_is = sym (append-nil text) },
        charged_none m c.args.further.now.rows (weight c.args.session.now.tree) c.args.steps.now,
      );
    }
