use Rattle.std.proofs.Common.{◌≡◌, ◌∙◌, ◌-◌, [], length, ap, sym, subst, arith}
use Rattle.std.proofs.lemmas.Option.{get_or_from_slice_get}
use Rattle.column_order.specs.Orders.{IsWithin}
use Rattle.row_model.specs.Graph.{row_at}
use Rattle.row_model.proofs.Ascending.{row_within}
use Rattle.row_model.proofs.counted.CountedRows.span_counted.Goals as goal

pub span_of-requires : goal.span_of-requires
span_of-requires g c =
    subst (λ n. IsWithin n c.row-row.result.now) (ap (λ v. v.columns) c.self.view_is ∙ sym c.requires.positions) (row_within c.self.inside.matrix.now.columns c.row-row.result.now c.row-row.ensures.ascending)

pub returns-clause-ticks : goal.returns-clause-ticks
returns-clause-ticks g c =
    let read : row_at c.self.inside.matrix.now.rows c.args.k ≡ c.row-row.result.now = get_or_from_slice_get c.self.inside.matrix.now.rows (c.args.k - 1) c.row-row.result.now [] c.row-row.ensures.row in
    let long : length (row_at c.args.self.now.rows c.args.k) ≡ length c.row-row.result.now = ap (λ v. length (row_at v.rows c.args.k)) (sym c.self.view_is) ∙ ap length read in
    omega (arith, long, c.loop.invariant)

pub returns-clause-least : goal.returns-clause-least
returns-clause-least g c = rw (ap (λ v. row_at v.rows c.args.k) (sym c.self.view_is) ∙ get_or_from_slice_get c.self.inside.matrix.now.rows (c.args.k - 1) c.row-row.result.now [] c.row-row.ensures.row) c.span_of.ensures.least

pub returns-clause-spans : goal.returns-clause-spans
returns-clause-spans g c = rw (ap (λ v. row_at v.rows c.args.k) (sym c.self.view_is) ∙ get_or_from_slice_get c.self.inside.matrix.now.rows (c.args.k - 1) c.row-row.result.now [] c.row-row.ensures.row) c.span_of.ensures.spans
