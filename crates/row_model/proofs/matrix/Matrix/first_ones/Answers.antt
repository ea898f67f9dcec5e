use Rattle.std.proofs.Common.{◌≡◌, ◌<◌, length, take, sum_by, ap, sym, refl, ◌∙◌, arith}
use Rattle.std.proofs.lemmas.Option.{slice_get_read, get_or_from_slice_get}
use Rattle.row_model.specs.Pieces.{pieces}
use Rattle.row_model.proofs.PieceLemmas.{length-pieces, some_bound, sum_by-first-pieces}
use Rattle.row_model.proofs.matrix.Matrix.first_ones.Goals as goal

pub index-requires : goal.index-requires
index-requires c =
    let bounds = c.self.inside.bounds.items in
    let seen : length c.args.self.now.rows ≡ length (pieces c.self.inside.members.items bounds) = ap (λ v. length v.rows) (sym c.self.view_is) in
    omega (arith, seen, length-pieces c.self.inside.members.items bounds, some_bound (length c.self.inside.members.items) bounds c.self.invariant.bounds)

pub returns : goal.returns
returns c =
    let members = c.self.inside.members.items in
    let bounds = c.self.inside.bounds.items in
    let k = c.args.k in
    let seen : length c.args.self.now.rows ≡ length (pieces members bounds) = ap (λ v. length v.rows) (sym c.self.view_is) in
    let within : k < length bounds = omega (arith, seen, length-pieces members bounds, some_bound (length members) bounds c.self.invariant.bounds) in
    sym (get_or_from_slice_get bounds k c.index.result.now 0 (slice_get_read bounds (length bounds) k c.index.result.now refl within c.index.ensures))
    ∙ sym (sum_by-first-pieces members bounds k c.self.invariant.bounds within)
    ∙ ap (λ v. sum_by length (take k v.rows)) c.self.view_is
