use Rattle.std.proofs.Common.{◌≡◌, ◌∙◌, ℕ, List, length, ap, arith}
use Rattle.column_order.specs.Orders.{place}
use Rattle.open_gaps.proofs.Places.{place_is}
use Rattle.open_gaps.proofs.table.OpenGaps.place.Goals as goal

pub overflow_sub-result : goal.overflow_sub-result
overflow_sub-result c =
    let same : c.self.inside.order.items ≡ c.args.self.now.order = ap (λ t. t.order) c.self.view_is in
    let kept = c.self.invariant in
    (place_is c.self.inside.order.items c.self.inside.positions.items c.args.column c.index.result.now kept.order kept.positions c.requires.0 (omega (arith, c.requires.1, ap (λ (o : List ℕ). length o) same)) c.index.ensures).0

pub returns : goal.returns
returns c =
    let same : c.self.inside.order.items ≡ c.args.self.now.order = ap (λ t. t.order) c.self.view_is in
    let kept = c.self.invariant in
    let r = place_is c.self.inside.order.items c.self.inside.positions.items c.args.column c.index.result.now kept.order kept.positions c.requires.0 (omega (arith, c.requires.1, ap (λ (o : List ℕ). length o) same)) c.index.ensures in
    (r.1 ∙ ap (λ (o : List ℕ). place o c.args.column) same, omega (arith, r.2, ap (λ (o : List ℕ). length o) same))
