use Rattle.std.proofs.Common.{◌≡◌, ◌∙◌, ℕ, suc, ◌+◌, ◌-◌, List, [], ◌∷◌, ◌++◌, length, take, refl, sym, ap, subst, arith}
use Rattle.std.specs.Prelude.{sum_by}
use Rattle.std.proofs.lemmas.Result.{IfOk-from_err}
use Rattle.column_order.specs.Orders.{HasValidOrder}
use Rattle.column_order.proofs.Counts.{order_length}
use Rattle.row_model.specs.Rows.{RowList}
use Rattle.c1p_solve.specs.Answers.{HasAllOrders}
use Rattle.c1p_solve.specs.Growing.{HasTaken}
use Rattle.solve_replies.specs.Drawing.{CanDraw, drawn_row}
use Rattle.solve_replies.specs.Generated.{next_state, Shuffled, drawn_rows, generated}
use Rattle.solve_replies.proofs.Drawn.{generated_law}
use Rattle.solve_replies.proofs.Grown.{IsGrown, run_few, grown_more, next_order, done_steps, all_done, taken_within, made_within}
use Rattle.solve_replies.proofs.summaries.grow.Goals as goal

pub loop-k-init : goal.loop-k-init
loop-k-init g c =
    let o = c.in_ok-drawn.drawn.order.items in
    let x = c.in_ok-drawn.drawn.draws.state in
    let all : c.args.rows ≡ c.args.rows - 0 = omega arith in
    record {
      columns = ap (λ (m : RowList). m.columns) c.in_ok-row.ensures;
      none = ap (λ (m : RowList). m.rows) c.in_ok-row.ensures;
      ready = c.in_ok-drawn.ensures.ready;
      grown = record {
        done = [];
        whole = ap (λ (s : Shuffled). drawn_rows c.args.rows s.order s.state) (sym c.in_ok-drawn.ensures.hidden) ∙ ap (λ n. drawn_rows n o x) all;
        holds = c.in_ok-reducer.ensures c.args.steps.now;
        counted = refl;
        few = omega arith;
      };
    }

pub push_next-requires-clause-ready : goal.push_next-requires-clause-ready
push_next-requires-clause-ready g c = subst (λ n. CanDraw n c.loop-k.drawn.order.items c.loop-k.drawn.positions.items c.loop-k.drawn.row.items) (sym c.loop-k.invariant.columns) c.loop-k.invariant.ready

-- the steps so far are within those of all rows
pub returns-in_err-push_next-clause-steps : goal.returns-in_err-push_next-clause-steps
returns-in_err-push_next-clause-steps g c =
    let so = c.loop-k.invariant.grown in
    made_within (λ made. 0) (λ made. refl) c.from_residual-in_err-push_next.result (generated c.args.seed c.args.columns c.args.rows) c.args.steps.now c.loop-k.steps
    (omega (arith, so.holds.total, done_steps _ c.args.columns _ _ _ _ _ _ so))

pub returns-in_err-tree-clause-steps : goal.returns-in_err-tree-clause-steps
returns-in_err-tree-clause-steps g c =
    let so = c.loop-k.invariant.grown in
    made_within (λ made. 0) (λ made. refl) c.from_residual-in_err-tree.result (generated c.args.seed c.args.columns c.args.rows) c.args.steps.now c.loop-k.steps
    (omega (arith, so.holds.total, done_steps _ c.args.columns _ _ _ _ _ _ so))

-- the matrix has the row that is drawn alone
one_row : (m : RowList) (rows : List (List ℕ)) (columns : ℕ) (row : List ℕ) → rows ≡ [] → m ≡ record { columns = columns; rows = rows ++ row ∷ [] } → m.rows ≡ row ∷ []
one_row m rows columns row none is = ap (λ (n : RowList). n.rows) is ∙ ap (λ rs. rs ++ row ∷ []) none

-- and the row has so many ones
row_ones : (m : RowList) (row : List ℕ) (ones : ℕ) → m.rows ≡ row ∷ [] → ones ≡ sum_by length m.rows → ones ≡ length row
row_ones m row ones one is = is ∙ ap (sum_by length) one ∙ omega arith

pub overflow_add-ones : goal.overflow_add-ones
overflow_add-ones g c =
    let so = c.loop-k.invariant.grown in
    let o = c.loop-k.drawn.order.items in
    let row = drawn_row o c.loop-k.drawn.draws.state in
    let one = one_row c.push_next.new.m c.loop-k.row.rows c.loop-k.row.columns row c.loop-k.invariant.none c.in_ok-push_next.ensures.ok in
    omega (
      arith,
      so.few,
      row_ones c.push_next.new.m row c.ones-ones.result one c.ones-ones.ensures,
      run_few o c.loop-k.drawn.draws.state,
      order_length c.args.columns o c.loop-k.invariant.ready.is_order,
      c.requires.columns,
      c.requires.rows,
      c.loop-k-test.true,
    )

pub take_next-requires-clause-taken : goal.take_next-requires-clause-taken
take_next-requires-clause-taken g c =
    let so = c.loop-k.invariant.grown in
    let columns : c.push_next.new.m.columns ≡ c.args.columns = ap (λ (m : RowList). m.columns) c.in_ok-push_next.ensures.ok ∙ c.loop-k.invariant.columns in
    (so.done, c.args.steps.now, subst (λ n. HasTaken n so.done c.loop-k.reducer c.args.steps.now c.loop-k.steps) (sym columns) so.holds)

pub unreachable-requires : goal.unreachable-requires
unreachable-requires g c =
    let so = c.loop-k.invariant.grown in
    let row = drawn_row c.loop-k.drawn.order.items c.loop-k.drawn.draws.state in
    let one = one_row c.push_next.new.m c.loop-k.row.rows c.loop-k.row.columns row c.loop-k.invariant.none c.in_ok-push_next.ensures.ok in
    let columns : c.push_next.new.m.columns ≡ c.args.columns = ap (λ (m : RowList). m.columns) c.in_ok-push_next.ensures.ok ∙ c.loop-k.invariant.columns in
    let left : c.args.rows - c.loop-k._k ≡ suc (c.args.rows - (c.loop-k._k + 1)) = omega (arith, c.loop-k-test.true) in
    let order : HasValidOrder c.args.columns (so.done ++ row ∷ []) =
    next_order _ c.args.columns _ _ (c.args.rows - (c.loop-k._k + 1)) _ _ _ _ so left (generated_law c.args.seed c.args.columns c.args.rows) in
    c.take_next.ensures.refused c.in-Refused.is so.done c.args.steps.now
    (subst (λ n. HasTaken n so.done c.loop-k.reducer c.args.steps.now c.loop-k.steps) (sym columns) so.holds)
    (subst (λ n. HasValidOrder n (so.done ++ c.push_next.new.m.rows)) (sym columns) (subst (λ (rs : List (List ℕ)). HasValidOrder c.args.columns (so.done ++ rs)) (sym one) order))

pub loop-k-preserved : goal.loop-k-preserved
loop-k-preserved g c =
    let so = c.loop-k.invariant.grown in
    let o = c.loop-k.drawn.order.items in
    let x = c.loop-k.drawn.draws.state in
    let row = drawn_row o x in
    let less = c.args.rows - (c.loop-k._k + 1) in
    let all = (generated c.args.seed c.args.columns c.args.rows).rows in
    let one = one_row c.push_next.new.m c.loop-k.row.rows c.loop-k.row.columns row c.loop-k.invariant.none c.in_ok-push_next.ensures.ok in
    let columns : c.push_next.new.m.columns ≡ c.args.columns = ap (λ (m : RowList). m.columns) c.in_ok-push_next.ensures.ok ∙ c.loop-k.invariant.columns in
    let left : c.args.rows - c.loop-k._k ≡ suc less = omega (arith, c.loop-k-test.true) in
    let taken : HasTaken c.args.columns (so.done ++ row ∷ []) c.take_next.new.reducer c.args.steps.now c.take_next.new.steps =
    subst (λ (rs : List (List ℕ)). HasTaken c.args.columns (so.done ++ rs) c.take_next.new.reducer c.args.steps.now c.take_next.new.steps) one
    (subst (λ n. HasTaken n (so.done ++ c.push_next.new.m.rows) c.take_next.new.reducer c.args.steps.now c.take_next.new.steps) columns
    (c.take_next.ensures.taken c.in-Taken.is so.done c.args.steps.now (subst (λ n. HasTaken n so.done c.loop-k.reducer c.args.steps.now c.loop-k.steps) (sym columns) so.holds))) in
    let more : IsGrown (λ done. HasTaken c.args.columns done c.take_next.new.reducer c.args.steps.now c.take_next.new.steps) (c.loop-k._k + 1) less all (c.loop-k.ones + c.ones-ones.result) o (next_state (next_state x)) =
    grown_more _ (λ done. HasTaken c.args.columns done c.take_next.new.reducer c.args.steps.now c.take_next.new.steps) _ _ less _ _ c.ones-ones.result _ _ so left taken
    (row_ones c.push_next.new.m row c.ones-ones.result one c.ones-ones.ensures) (omega (arith, order_length c.args.columns o c.loop-k.invariant.ready.is_order, c.requires.columns)) in
    record {
      columns = ap (λ (m : RowList). m.columns) c.pop_row.ensures ∙ columns;
      none = ap (λ (m : RowList). m.rows) c.pop_row.ensures ∙ ap (λ (rs : List (List ℕ)). take (length rs - 1) rs) one;
      ready = subst (λ n. CanDraw n c.push_next.new.self.order.items c.push_next.new.self.positions.items c.push_next.new.self.row.items) c.loop-k.invariant.columns c.in_ok-push_next.ensures.ready;
      grown = subst (λ y. IsGrown (λ done. HasTaken c.args.columns done c.take_next.new.reducer c.args.steps.now c.take_next.new.steps) (c.loop-k._k + 1) less all (c.loop-k.ones + c.ones-ones.result) c.push_next.new.self.order.items y)
          (sym c.in_ok-push_next.ensures.state)
          (subst (λ z. IsGrown (λ done. HasTaken c.args.columns done c.take_next.new.reducer c.args.steps.now c.take_next.new.steps) (c.loop-k._k + 1) less all (c.loop-k.ones + c.ones-ones.result) z (next_state (next_state x)))
          (sym c.in_ok-push_next.ensures.order) more);
    }

pub returns-clause-tree : goal.returns-clause-tree
returns-clause-tree g c =
    let so = c.loop-k.invariant.grown in
    let none : c.args.rows - c.loop-k._k ≡ 0 = omega (arith, c.loop-k.auto._k-end, c.loop-k-test.false) in
    subst (λ (rs : List (List ℕ)). HasAllOrders (record { columns = c.args.columns; rows = rs }) c.in_ok-tree.tree) (all_done _ _ _ _ _ _ _ so none)
    (c.in_ok-tree.ensures c.args.columns so.done c.args.steps.now c.loop-k.steps so.holds)

pub returns-clause-ones : goal.returns-clause-ones
returns-clause-ones g c =
    let so = c.loop-k.invariant.grown in
    let none : c.args.rows - c.loop-k._k ≡ 0 = omega (arith, c.loop-k.auto._k-end, c.loop-k-test.false) in
    so.counted ∙ ap (sum_by length) (all_done _ _ _ _ _ _ _ so none)

pub returns-clause-steps : goal.returns-clause-steps
returns-clause-steps g c =
    let so = c.loop-k.invariant.grown in
    taken_within (generated c.args.seed c.args.columns c.args.rows) c.args.steps.now c.loop-k.steps (omega (arith, so.holds.total, done_steps _ c.args.columns _ _ _ _ _ _ so))

-- before a row is taken
pub returns-in_err-drawn : goal.returns-in_err-drawn
returns-in_err-drawn g c =
    let made = c.from_residual.result in
    let none = c.from_residual.ensures.0 in
    record { tree = IfOk-from_err made _ none; ones = IfOk-from_err made _ none; steps = made_within (λ made. 0) (λ made. refl) made (generated c.args.seed c.args.columns c.args.rows) c.args.steps.now c.args.steps.now (omega arith) }

pub returns-in_err-reducer : goal.returns-in_err-reducer
returns-in_err-reducer g c =
    let made = c.from_residual-in_err-reducer.result in
    let none = c.from_residual-in_err-reducer.ensures.0 in
    record { tree = IfOk-from_err made _ none; ones = IfOk-from_err made _ none; steps = made_within (λ made. 0) (λ made. refl) made (generated c.args.seed c.args.columns c.args.rows) c.args.steps.now c.args.steps.now (omega arith) }

pub returns-in_err-row : goal.returns-in_err-row
returns-in_err-row g c =
    let made = c.from_residual-in_err-row.result in
    let none = c.from_residual-in_err-row.ensures.0 in
    record { tree = IfOk-from_err made _ none; ones = IfOk-from_err made _ none; steps = made_within (λ made. 0) (λ made. refl) made (generated c.args.seed c.args.columns c.args.rows) c.args.steps.now c.args.steps.now (omega arith) }
