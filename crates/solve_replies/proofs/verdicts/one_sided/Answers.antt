-- A yes about the only side.
use Rattle.std.specs.Prelude.{◌≡◌, ◌-◌, List, [], ◌∷◌, length, slice_get, IsSomeAnd}
use Rattle.std.proofs.Common.{ℕ, sym, subst, arith}
use Rattle.pq_tree.specs.PqTree.{outline}
use Rattle.verdict_text.specs.Verdict.{SideValue, AddedValue}
use Rattle.verdict_text.specs.Value.{yes_value}
use Rattle.instance_model.specs.Instance.{InstanceValue, instance_columns, derived_matrix}
use Rattle.instance_model.specs.Value.{instance_value}
use Rattle.verdict_replies.specs.Verdicts.{ShowsAllOrders, ShowsSides, AddsToOrder}
use Rattle.solve_replies.proofs.Sessions.{shows_all}
use Rattle.solve_replies.proofs.verdicts.one_sided.Goals as goal

only_side : (i : InstanceValue) (side : SideValue) → length (instance_columns i) ≡ 1 → ShowsAllOrders (derived_matrix i 1) side → ShowsSides i (side ∷ [])
only_side i side one shows =
    record {
      count = sym one;
      each = λ s is.
          let first : 1 ≡ s = omega (arith, is.0, is.1, one) in
          subst (λ t. IsSomeAnd (slice_get (side ∷ []) (t - 1)) (ShowsAllOrders (derived_matrix i t))) first shows;
    }

adds_the_same : (i : InstanceValue) (o : List ℕ) (a b : AddedValue) → b.intervals ≡ a.intervals → b.places ≡ a.places → b.contigs ≡ a.contigs → AddsToOrder i o a → AddsToOrder i o b
adds_the_same i o a b intervals places contigs =
    subst (λ b. AddsToOrder i o b) (λ k. record { intervals = sym intervals k; places = sym places k; contigs = sym contigs k })

pub returns : goal.returns
returns c =
    let i = instance_value c.args.instance.now in
    let order = c.in_ok-order.order.items in
    let side : SideValue = record { tree = outline c.args.tree; order = order } in
    let shows = shows_all (derived_matrix i 1) c.args.tree order c.requires.orders.0 c.in_ok-order.ensures.leaves in
    let value = yes_value c.one.result in
    let added : AddedValue = record { intervals = c.in_ok-added.added.intervals; places = c.in_ok-added.added.placed.places; contigs = c.in_ok-added.added.placed.contigs } in
    let adds = adds_the_same i order added value.added c.one.ensures.intervals c.one.ensures.places c.one.ensures.contigs (subst (λ o. AddsToOrder i o added) c.deref.ensures.value c.in_ok-added.ensures) in (
      subst (λ sides. ShowsSides i sides) (sym c.one.ensures.sides) (only_side i side c.requires.sides shows),
      subst (λ sides. IsSomeAnd (slice_get sides 0) (λ side. AddsToOrder i side.order value.added)) (sym c.one.ensures.sides) adds,
    )
