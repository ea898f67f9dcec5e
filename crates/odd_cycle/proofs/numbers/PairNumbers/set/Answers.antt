use Rattle.std.proofs.Common.{◌≡◌, set, ap, sym, subst}
use Rattle.row_model.specs.Graph.{IsPair}
use Rattle.odd_cycle.proofs.NumberLaws.{renumbered}
use Rattle.odd_cycle.proofs.numbers.PairNumbers.set.Goals as goal

pub returns : goal.returns
returns c =
    let columns : c.args.self.now.columns ≡ c.self.inside.columns = ap (λ v. v.columns) (sym c.self.view_is) in
    let is_pair : IsPair c.self.inside.columns c.args.v = subst (λ n. IsPair n c.args.v) columns c.requires in
    rw (← c.self.view_is)
    (renumbered
    c.self.inside.columns
    c.self.inside.numbers.items
    _
    c.args.v
    c.args.number
    c.self.invariant.places
    is_pair
    (ap (λ place. set c.self.inside.numbers.items place c.args.number) c.cell-place.ensures))
