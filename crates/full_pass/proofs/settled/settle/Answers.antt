use Rattle.std.proofs.Common.{◌+◌, ◌-◌, ◌*◌, ◌≤◌, [], length, sym, subst}
use Rattle.std.proofs.lemmas.Option.{get_or_from_slice_get}
use Rattle.column_order.specs.Orders.{Keeps}
use Rattle.full_pass.proofs.settled.settle.Goals as goal

pub returns-clause-kept : goal.returns-clause-kept
returns-clause-kept g c = λ e o frontier.
    subst (λ r. Keeps o r) (sym (get_or_from_slice_get c.args.m.now.rows (c.args.k - 1) c.row.result.now [] c.row.ensures.row)) (c.pass.ensures.kept e o frontier)

pub returns-clause-steps : goal.returns-clause-steps
returns-clause-steps g c =
    subst (λ r. c.pass.new.steps ≤ c.args.steps.now + 8 * length r)
    (sym (get_or_from_slice_get c.args.m.now.rows (c.args.k - 1) c.row.result.now [] c.row.ensures.row)) c.pass.ensures.steps
