use Rattle.std.proofs.Common.{◌≡◌, length, ap, sym, arith}
use Rattle.row_model.specs.Pieces.{pieces}
use Rattle.row_model.proofs.PieceLemmas.{length-pieces}
use Rattle.row_model.proofs.matrix.Matrix.columns.Goals as goal

pub returns-clause-few_rows : goal.returns-clause-few_rows
returns-clause-few_rows c =
    let seen : length c.args.self.now.rows ≡ length (pieces c.self.inside.members.items c.self.inside.bounds.items) = ap (λ v. length v.rows) (sym c.self.view_is) in
    omega (arith, length-pieces c.self.inside.members.items c.self.inside.bounds.items, c.self.invariant.few)
