use Rattle.std.proofs.Common.{List, ℕ, slice_index}
use Rattle.open_gaps.specs.Gaps.{Opens}
use Rattle.open_gaps.proofs.Places.{found, Kept, kept}
use Rattle.open_gaps.proofs.table.OpenGaps.is_open.Goals as goal

pub returns : goal.returns
returns c =
    let o : List ℕ = c.args.self.now.order in
    let table : Kept c.args.self.now c.deref.result.now = kept c.self.inside c.args.self.now c.deref.result.now c.self.invariant c.self.view_is c.deref.ensures.value in
    λ rows are.
    found c.opener.result (λ k. Opens rows o k c.args.q (slice_index o c.args.p)) c.is_some.result c.is_some.ensures
    (c.opener.ensures rows o table.long (table.are rows are))
