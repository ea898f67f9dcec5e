use Rattle.std.proofs.Common.{◌≡◌, ◌∙◌, true, false, length, take, refl, sym, subst, inl, inr, arith, length}
use Rattle.std.proofs.lemmas.Bool.{both_ways}
use Rattle.std.proofs.Math.Seq.{take-length}
use Rattle.column_order.specs.Orders.{IsOrder}
use Rattle.column_order.proofs.Counts.{order_length, order_from}
use Rattle.row_model.proofs.SeenLemmas.{IsSeen, seen_more, seen_twice, out_of_range, seen_at}
use Rattle.row_model.proofs.order.is_order.Goals as goal
use Rattle.row_model.proofs.order.is_order.Goals.{then-column-lt1-via-then-column-lt1, then-column-lt1-via-else-column-lt1+then-column-c, then-column-lt1-via-else-column-lt1+else-column-c+then-index}

pub returns-then-list-c : goal.returns-then-list-c
returns-then-list-c c = (λ h. absurd (both_ways _ refl h), λ order. absurd (c.if-list-c.true (order_length c.args.c c.args.list.now order)))

pub returns-then-column-lt1 : goal.returns-then-column-lt1
returns-then-column-lt1 c =
    let i = c.loop-column.column-index in
    let list = c.args.list.now in
    let seen = c.loop-column.seen.items in
    let out = out_of_range c.args.c seen list i c.loop-column-test.true c.loop-column.invariant in
    let refused : IsOrder c.args.c list → ⊥ =
    λ order. elim c.then-column-lt1.branch [
      | then-column-lt1-via-then-column-lt1 w ↦ out (inl w.if-column-lt1.true) order
      | then-column-lt1-via-else-column-lt1+then-column-c w ↦ out (inr w.if-column-c.true) order
      | then-column-lt1-via-else-column-lt1+else-column-c+then-index w ↦
          seen_twice c.args.c seen list i c.loop-column-test.true c.loop-column.invariant w.if-column-lt1.false w.if-column-c.false
          (seen_at c.args.c seen list i c.loop-column-test.true c.loop-column.invariant w.if-column-lt1.false w.if-column-c.false w.index.result.now true (sym w.if-index.true ∙ w.index.ensures)) order
    ] in
    (λ h. absurd (both_ways _ refl h), λ order. absurd (refused order))

pub loop-column-preserved : goal.loop-column-preserved
loop-column-preserved c =
    let i = c.loop-column.column-index in
    let list = c.args.list.now in
    let seen = c.loop-column.seen.items in
    let low = c.if-column-lt1.false in
    let high = c.if-column-c.false in
    seen_more c.args.c seen list i c.loop-column-test.true c.loop-column.invariant low high
    (seen_at c.args.c seen list i c.loop-column-test.true c.loop-column.invariant low high c.index.result.now false (sym c.if-index.false ∙ c.index.ensures))

pub returns : goal.returns
returns c =
    let list = c.args.list.now in
    let all : c.loop-column.column-index ≡ length list = omega arith in
    let h : IsSeen c.args.c c.loop-column.seen.items list =
    subst (IsSeen c.args.c c.loop-column.seen.items) (take-length list) (subst (λ n. IsSeen c.args.c c.loop-column.seen.items (take n list)) all c.loop-column.invariant) in
    (λ _. order_from c.args.c list h.inside h.once c.if-list-c.false, λ _. refl)
