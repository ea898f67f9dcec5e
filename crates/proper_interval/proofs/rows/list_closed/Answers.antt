use Rattle.std.proofs.Common.{◌≡◌, ◌∙◌, ◌++◌, ap}
use Rattle.std.specs.List.{insert}
use Rattle.proper_interval.proofs.ClosedLemmas.{closed_made}
use Rattle.proper_interval.proofs.rows.list_closed.Goals as goal

pub returns : goal.returns
returns c =
    let neighbours = c.neighbours-neighbours.result.now in
    let place = c.count_below.result in
    let copied : c.extend_from_slice.new.self.items ≡ neighbours = c.in_ok-extend_from_slice.ensures.items ∙ ap (λ xs. xs ++ neighbours) c.clear.ensures.items in
    c.in_ok-insert.ensures.items ∙ ap (λ xs. insert xs place c.args.v) copied
    ∙ closed_made c.args.g.now c.args.v place neighbours c.requires.graph c.requires.vertex.0 c.requires.vertex.1 c.neighbours-neighbours.ensures.list c.neighbours-neighbours.ensures.ascending c.count_below.ensures.count
