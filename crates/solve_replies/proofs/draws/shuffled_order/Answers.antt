use Rattle.std.proofs.Common.{◌≡◌, ◌∙◌, ◌+◌, ◌-◌, ◌<◌, ◌≤◌, ◌++◌, ◌∷◌, [], length, sym, ap, subst, arith}
use Rattle.std.specs.Prelude.{swap}
use Rattle.std.specs.List.{range_with_len}
use Rattle.std.proofs.lemmas.List.Edits.{length-swap}
use Rattle.std.proofs.lemmas.List.FromFn.{length-range_with_len}
use Rattle.column_order.specs.Orders.{IsOrder}
use Rattle.row_model.proofs.Filtered.{range_more}
use Rattle.solve_replies.specs.Generated.{next_state, drawn, Shuffled, shuffled}
use Rattle.solve_replies.proofs.Drawn.{range_order, swapped_order, shuffled_done, shuffled_next, drawn_below}
use Rattle.solve_replies.proofs.draws.shuffled_order.Goals as goal

pub loop-before-preserved : goal.loop-before-preserved
loop-before-preserved c =
    let n = c.loop-before.before in
    let next : n + 1 ≡ 1 + n = omega arith in
    c.in_ok-push.ensures.items ∙ ap (λ xs. xs ++ (n + 1) ∷ []) c.loop-before.invariant ∙ ap (λ m. range_with_len 1 n ++ m ∷ []) next ∙ sym (range_more n 1)

pub loop-i-init : goal.loop-i-init
loop-i-init c =
    let whole : c.loop-before.before ≡ c.args.columns = omega (arith, c.loop-before.auto.before-end, c.loop-before-test.false) in
    let listed : c.loop-before.order.items ≡ range_with_len 1 c.args.columns = c.loop-before.invariant ∙ ap (range_with_len 1) whole in
    let count : length c.loop-before.order.items ≡ c.args.columns = ap length listed ∙ length-range_with_len 1 c.args.columns in
    let len : c.args.columns ≡ c.len-i.result = omega (arith, count, c.len-i.ensures, c.loop-before.order.ok.0) in (
      ap (λ xs. shuffled c.args.columns (record { order = xs; state = c.args.draws.now.state })) (sym listed) ∙ ap (λ n. shuffled n (record { order = c.loop-before.order.items; state = c.args.draws.now.state })) len,
      count,
      subst (IsOrder c.args.columns) (sym listed) (range_order c.args.columns),
    )

pub swap-requires-clause-j_in_bounds : goal.swap-requires-clause-j_in_bounds
swap-requires-clause-j_in_bounds c =
    let low : drawn (c.loop-i.i - 1 + 1) c.below-j.new.self.state < c.loop-i.i - 1 + 1 = drawn_below (c.loop-i.i - 1 + 1) c.below-j.new.self.state (omega arith) in
    omega (arith, low, c.below-j.ensures.drawn, c.loop-i.auto.i, c.len-i.ensures, c.loop-i-test.true, c.loop-i.invariant.1, c.loop-i.order.ok.0, c.loop-before.order.ok.0, ap length c.loop-before.invariant, length-range_with_len 1 c.loop-before.before, c.loop-before.auto.before-end, c.loop-before-test.false)

pub loop-i-preserved : goal.loop-i-preserved
loop-i-preserved c =
    let o = c.loop-i.order.items in
    let i = c.loop-i.i in
    let x = c.loop-i.draws.state in
    let same : i - 1 + 1 ≡ i = omega (arith, c.loop-i-test.true) in
    let j : c.below-j.result ≡ drawn i (next_state x) = c.below-j.ensures.drawn ∙ ap (λ m. drawn m c.below-j.new.self.state) same ∙ ap (drawn i) c.below-j.ensures.state in
    let swapped : c.swap.new.self.items ≡ swap o (i - 1) c.below-j.result = c.swap.ensures.items in
    let within : i ≤ length o = omega (arith, c.loop-i.auto.i, c.len-i.ensures, c.loop-i.invariant.1, c.loop-before.order.ok.0, ap length c.loop-before.invariant, length-range_with_len 1 c.loop-before.before, c.loop-before.auto.before-end, c.loop-before-test.false) in
    let low : drawn i (next_state x) < i = drawn_below i (next_state x) (omega (arith, c.loop-i-test.true)) in (
      c.loop-i.invariant.0 ∙ shuffled_next i (record { order = o; state = x }) (omega (arith, c.loop-i-test.true)) ∙
          ap (λ k. shuffled (i - 1) (record { order = swap o (i - 1) k; state = next_state x })) (sym j) ∙
          ap (λ xs. shuffled (i - 1) (record { order = xs; state = next_state x })) (sym swapped) ∙
          ap (λ y. shuffled (i - 1) (record { order = c.swap.new.self.items; state = y })) (sym c.below-j.ensures.state),
      ap length swapped ∙ length-swap o (i - 1) c.below-j.result ∙ c.loop-i.invariant.1,
      subst (IsOrder c.args.columns) (sym swapped) (swapped_order c.args.columns o (i - 1) c.below-j.result (omega (arith, within, c.loop-i-test.true)) (omega (arith, within, low, j)) c.loop-i.invariant.2),
    )

pub returns-clause-order : goal.returns-clause-order
returns-clause-order c = ap (λ (s : Shuffled). s.order) (sym (c.loop-i.invariant.0 ∙ shuffled_done c.loop-i.i _ c.loop-i-test.false))

pub returns-clause-state : goal.returns-clause-state
returns-clause-state c = ap (λ (s : Shuffled). s.state) (sym (c.loop-i.invariant.0 ∙ shuffled_done c.loop-i.i _ c.loop-i-test.false))

pub returns-clause-whole : goal.returns-clause-whole
returns-clause-whole c = c.loop-i.invariant.2

pub below-j-requires : goal.below-j-requires
below-j-requires c = omega arith
