use Rattle.std.proofs.Common.{◌≡◌, ◌-◌, [], length, ap, sym, arith, slice_get, Some}
use Rattle.std.proofs.lemmas.Option.{get_or_from_slice_get}
use Rattle.row_model.specs.Pieces.{pieces}
use Rattle.row_model.specs.Rows.{IsRow}
use Rattle.row_model.proofs.Ascending.{ascends_few}
use Rattle.row_model.proofs.PieceLemmas.{length-pieces, AllByRecursion-at}
use Rattle.row_model.proofs.matrix.Matrix.row_len.Goals as goal

pub piece-requires-clause-within : goal.piece-requires-clause-within
piece-requires-clause-within c =
    let seen : length c.args.self.now.rows ≡ length (pieces c.self.inside.members.items c.self.inside.bounds.items) = ap (λ v. length v.rows) (sym c.self.view_is) in
    omega (arith, length-pieces c.self.inside.members.items c.self.inside.bounds.items, c.self.inside.bounds.ok.0, c.deref-2.ensures.len)

pub overflow_cast-result : goal.overflow_cast-result
overflow_cast-result c =
    let found : slice_get (pieces c.self.inside.members.items c.self.inside.bounds.items) (c.args.k - 1) ≡ Some c.piece.result.now = rw (c.deref.ensures.value, c.deref-2.ensures.value) at c.piece.ensures in
    let row : IsRow c.self.inside.column_count c.piece.result.now = AllByRecursion-at (IsRow c.self.inside.column_count) (pieces c.self.inside.members.items c.self.inside.bounds.items) (c.args.k - 1) c.piece.result.now c.self.invariant.rows found in
    omega (arith, ascends_few c.self.inside.column_count 0 c.piece.result.now row, c.self.invariant.columns.1)

pub returns : goal.returns
returns c =
    let found : slice_get (pieces c.self.inside.members.items c.self.inside.bounds.items) (c.args.k - 1) ≡ Some c.piece.result.now = rw (c.deref.ensures.value, c.deref-2.ensures.value) at c.piece.ensures in
    let seen : slice_get c.args.self.now.rows (c.args.k - 1) ≡ Some c.piece.result.now = rw (ap (λ v. v.rows) c.self.view_is) at found in
    ap length (sym (get_or_from_slice_get c.args.self.now.rows (c.args.k - 1) c.piece.result.now [] seen))
