use Rattle.std.proofs.Common.{◌≡◌, length, sum_by, ap, sym, ◌∙◌, arith}
use Rattle.row_model.proofs.PieceLemmas.{sum_by-pieces}
use Rattle.row_model.proofs.matrix.Matrix.ones.Goals as goal

pub returns : goal.returns
returns c =
    let seen : sum_by length c.args.self.now.rows ≡ length c.self.inside.members.items =
    ap (λ m. sum_by length m.rows) (sym c.self.view_is) ∙ sum_by-pieces c.self.inside.members.items c.self.inside.bounds.items c.self.invariant.bounds in
    omega (arith, seen, c.self.inside.members.ok.0)
