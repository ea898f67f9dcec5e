use Rattle.std.proofs.Common.{◌≡◌, length, ap, sym, arith}
use Rattle.row_model.specs.Pieces.{pieces_from}
use Rattle.row_model.proofs.PieceLemmas.{length-pieces_from}
use Rattle.core_text.proofs.orders.Orders.get.Goals as goal

pub piece-requires-clause-within : goal.piece-requires-clause-within
piece-requires-clause-within c =
    let seen : length c.args.self.now ≡ length (pieces_from c.self.inside.columns.items 0 c.self.inside.ends.items) = ap length (sym c.self.view_is) in
    omega (arith, length-pieces_from c.self.inside.columns.items 0 c.self.inside.ends.items, c.deref-2.ensures.len, c.self.inside.ends.ok.0)
