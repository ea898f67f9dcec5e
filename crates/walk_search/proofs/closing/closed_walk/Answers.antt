use Rattle.std.proofs.Common.{◌≡◌, ◌∙◌, ◌<◌, List, [], ◌∷◌, ◌++◌, length, slice_get, Some, refl, ap, sym, arith}
use Rattle.std.proofs.lemmas.Grind.{common_steps}
use Rattle.std.proofs.lemmas.Option.{same_Some, slice_get_read, slice_get_within}
use Rattle.row_model.specs.declared.graph.Line.{Line}
use Rattle.walk_search.specs.declared.forest.Node.{Node}
use Rattle.walk_search.proofs.ClosingLaws.{closing_odd, closing_walk}
use Rattle.walk_search.proofs.closing.closed_walk.Goals as goal

pub from_lines-requires : goal.from_lines-requires
from_lines-requires c =
    let line : Line = record { pair = c.index.result.now.pair; why = c.args.conflict.why } in
    let pushed : c.push.new.self.items ≡ c.in_ok-lines.lines.items ++ line ∷ [] = grind (arith, common_steps) in
    let up = c.in_ok-add_way_up.ensures in
    let all : c.add_way_up.new.lines.items ≡ (c.in_ok-lines.lines.items ++ line ∷ []) ++ up.0 = up.1 ∙ ap (λ (ls : List Line). ls ++ up.0) pushed in
    let odd = closing_odd c.args.forest.now c.args.conflict c.in_ok-lines.lines.items up.0 c.add_way_up.new.lines.items line c.in_ok-lines.ensures up.2 all c.requires.ends in
    odd

pub returns : goal.returns
returns c =
    let line : Line = record { pair = c.index.result.now.pair; why = c.args.conflict.why } in
    let pushed : c.push.new.self.items ≡ c.in_ok-lines.lines.items ++ line ∷ [] = grind (arith, common_steps) in
    let up = c.in_ok-add_way_up.ensures in
    let all : c.add_way_up.new.lines.items ≡ (c.in_ok-lines.lines.items ++ line ∷ []) ++ up.0 = up.1 ∙ ap (λ (ls : List Line). ls ++ up.0) pushed in
    let odd = closing_odd c.args.forest.now c.args.conflict c.in_ok-lines.lines.items up.0 c.add_way_up.new.lines.items line c.in_ok-lines.ensures up.2 all c.requires.ends in
    let nodes = c.args.forest.now.nodes.items in
    let down = c.in_ok-lines.ensures in
    let lt : c.args.conflict.from < length nodes = slice_get_within nodes c.args.conflict.from down.last down.last_there in
    let there : slice_get nodes c.args.conflict.from ≡ Some c.index.result.now = slice_get_read nodes (length nodes) c.args.conflict.from c.index.result.now refl lt c.index.ensures in
    let same : c.index.result.now ≡ down.last = same_Some c.index.result.now down.last (sym there ∙ down.last_there) in
    let is : line ≡ record { pair = down.last.pair; why = c.args.conflict.why } = ap (λ (n : Node). record { pair = n.pair; why = c.args.conflict.why }) same in
    λ k rows s. rw c.from_lines.ensures (closing_walk c.args.forest.now c.args.conflict c.in_ok-lines.lines.items up.0 c.add_way_up.new.lines.items line down up.2 all k rows s is odd)

pub way_down-requires-clause-node : goal.way_down-requires-clause-node
way_down-requires-clause-node c =
    let ends = c.requires.ends in
    (ends.from_in, slice_get_within c.args.forest.now.nodes.items c.args.conflict.from ends.from ends.from_there)

pub add_way_up-requires-clause-node : goal.add_way_up-requires-clause-node
add_way_up-requires-clause-node c =
    let ends = c.requires.ends in
    (ends.to_in, slice_get_within c.args.forest.now.nodes.items c.args.conflict.to ends.to ends.to_there)
