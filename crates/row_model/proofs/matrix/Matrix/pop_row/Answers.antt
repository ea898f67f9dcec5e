use Rattle.std.proofs.Common.{◌≡◌, ◌-◌, length, ap, take, ◌∙◌, arith}
use Rattle.row_model.specs.Pieces.{pieces}
use Rattle.row_model.specs.Rows.{RowList}
use Rattle.row_model.proofs.PieceLemmas.{length-pieces}
use Rattle.row_model.proofs.matrix.Matrix.pop_row.Goals as goal

pub returns : goal.returns
returns c =
    let bounds = c.self.inside.bounds.items in
    let old = pieces c.self.inside.members.items bounds in
    let fewer : length bounds - 2 ≡ length old - 1 = omega (arith, length-pieces c.self.inside.members.items bounds) in
    let remain : RowList → RowList = λ m. record { columns = m.columns; rows = take (length m.rows - 1) m.rows } in
    ap (λ rows. record { columns = c.self.inside.column_count; rows = rows }) (c.pop_piece.ensures.rest ∙ ap (λ n. take n old) fewer)
    ∙ ap remain c.self.view_is
