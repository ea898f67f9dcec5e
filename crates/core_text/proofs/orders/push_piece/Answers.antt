use Rattle.std.proofs.Common.{◌≡◌, ◌++◌, ◌∷◌, [], length, arith, length-append}
use Rattle.std.proofs.lemmas.Grind.{common_steps}
use Rattle.row_model.proofs.PieceLemmas.{pieces_from-push, AreBoundsFrom-push}
use Rattle.core_text.proofs.orders.push_piece.Goals as goal

pub returns-clause-kept : goal.returns-clause-kept
returns-clause-kept c =
    let one : c.push.new.self.items ≡ c.args.ends.now.items ++ (length c.extend_from_slice.new.self.items) ∷ [] = grind (arith, common_steps) in
    let more : c.extend_from_slice.new.self.items ≡ c.args.columns.now.items ++ c.args.order.now = grind (arith, common_steps) in
    rw one (AreBoundsFrom-push (length c.args.columns.now.items) 0 c.args.ends.now.items (length c.extend_from_slice.new.self.items) c.requires (rw more (omega (arith, length-append c.args.columns.now.items c.args.order.now))))

pub returns-clause-ok : goal.returns-clause-ok
returns-clause-ok c =
    let one : c.push.new.self.items ≡ c.args.ends.now.items ++ (length c.extend_from_slice.new.self.items) ∷ [] = grind (arith, common_steps) in
    let more : c.extend_from_slice.new.self.items ≡ c.args.columns.now.items ++ c.args.order.now = grind (arith, common_steps) in
    rw (one, more) (pieces_from-push c.args.columns.now.items c.args.order.now 0 c.args.ends.now.items c.requires)
