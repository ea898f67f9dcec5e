use Rattle.std.proofs.Common.{◌≡◌, ◌++◌, ◌∷◌, [], length}
use Rattle.std.proofs.Common.{arith}
use Rattle.std.proofs.lemmas.Grind.{common_steps}
use Rattle.row_model.proofs.PieceLemmas.{pieces_pushed, bounds_pushed}
use Rattle.row_model.proofs.pieces.push_piece.Goals as goal

pub returns-clause-kept : goal.returns-clause-kept
returns-clause-kept c =
    let one : c.push.new.self.items ≡ c.args.bounds.now.items ++ (length c.extend_from_slice.new.self.items) ∷ [] = grind (arith, common_steps) in
    let more : c.extend_from_slice.new.self.items ≡ c.args.members.now.items ++ c.args.piece.now = grind (arith, common_steps) in
    bounds_pushed c.args.members.now.items _ c.args.piece.now c.args.bounds.now.items _ more one c.requires

pub returns-clause-ok : goal.returns-clause-ok
returns-clause-ok c =
    let one : c.push.new.self.items ≡ c.args.bounds.now.items ++ (length c.extend_from_slice.new.self.items) ∷ [] = grind (arith, common_steps) in
    let more : c.extend_from_slice.new.self.items ≡ c.args.members.now.items ++ c.args.piece.now = grind (arith, common_steps) in
    pieces_pushed c.args.members.now.items _ c.args.piece.now c.args.bounds.now.items _ more one c.requires
