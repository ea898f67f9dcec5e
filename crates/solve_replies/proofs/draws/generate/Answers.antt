use Rattle.std.proofs.Common.{◌≡◌, ◌∙◌, suc, ◌+◌, ◌-◌, ◌++◌, ◌∷◌, [], length, refl, sym, ap, subst, arith, append-nil, length-append}
use Rattle.row_model.specs.Rows.{RowList}
use Rattle.solve_replies.specs.Drawing.{CanDraw, drawn_row}
use Rattle.solve_replies.specs.Generated.{next_state, Shuffled, drawn_rows, generated}
use Rattle.solve_replies.proofs.Drawn.{rows_next}
use Rattle.solve_replies.proofs.draws.generate.Goals as goal

pub loop-k-init : goal.loop-k-init
loop-k-init c =
    let o = c.in_ok-drawn.drawn.order.items in
    let x = c.in_ok-drawn.drawn.draws.state in
    let none : [] ≡ c.in_ok-matrix.matrix.rows = ap (λ (m : RowList). m.rows) (sym c.in_ok-matrix.ensures) in
    let all : c.args.rows ≡ c.args.rows - 0 = omega arith in (
      ap (λ (m : RowList). m.columns) c.in_ok-matrix.ensures,
      ap length (sym none),
      c.in_ok-drawn.ensures.ready,
      ap (λ (s : Shuffled). drawn_rows c.args.rows s.order s.state) (sym c.in_ok-drawn.ensures.hidden) ∙ ap (λ n. drawn_rows n o x) all ∙ ap (λ rs. rs ++ drawn_rows (c.args.rows - 0) o x) none,
    )

pub push_next-requires-clause-ready : goal.push_next-requires-clause-ready
push_next-requires-clause-ready c = subst (λ n. CanDraw n c.loop-k.drawn.order.items c.loop-k.drawn.positions.items c.loop-k.drawn.row.items) (sym c.loop-k.invariant.0) c.loop-k.invariant.2

pub loop-k-preserved : goal.loop-k-preserved
loop-k-preserved c =
    let o = c.loop-k.drawn.order.items in
    let x = c.loop-k.drawn.draws.state in
    let pushed = c.in_ok-push_next.ensures.ok in
    let rows : c.push_next.new.m.rows ≡ c.loop-k.matrix.rows ++ drawn_row o x ∷ [] = ap (λ (m : RowList). m.rows) pushed in
    let left : c.args.rows - c.loop-k._k ≡ suc (c.args.rows - (c.loop-k._k + 1)) = omega (arith, c.loop-k-test.true) in (
      ap (λ (m : RowList). m.columns) pushed ∙ c.loop-k.invariant.0,
      omega (arith, ap length rows, length-append c.loop-k.matrix.rows (drawn_row o x ∷ []), c.loop-k.invariant.1),
      subst (λ n. CanDraw n c.push_next.new.self.order.items c.push_next.new.self.positions.items c.push_next.new.self.row.items) c.loop-k.invariant.0 c.in_ok-push_next.ensures.ready,
      c.loop-k.invariant.3 ∙ rows_next (c.args.rows - (c.loop-k._k + 1)) o (drawn_row o x) x c.loop-k.matrix.rows (c.args.rows - c.loop-k._k) left refl ∙
          ap (λ rs. rs ++ drawn_rows (c.args.rows - (c.loop-k._k + 1)) o (next_state (next_state x))) (sym rows) ∙
          ap (λ y. c.push_next.new.m.rows ++ drawn_rows (c.args.rows - (c.loop-k._k + 1)) o y) (sym c.in_ok-push_next.ensures.state) ∙
          ap (λ z. c.push_next.new.m.rows ++ drawn_rows (c.args.rows - (c.loop-k._k + 1)) z c.push_next.new.self.draws.state) (sym c.in_ok-push_next.ensures.order),
    )

pub returns : goal.returns
returns c =
    let done : c.args.rows - c.loop-k._k ≡ 0 = omega (arith, c.loop-k.auto._k-end, c.loop-k-test.false) in
    let all : (generated c.args.seed c.args.columns c.args.rows).rows ≡ c.loop-k.matrix.rows =
    c.loop-k.invariant.3 ∙ ap (λ n. c.loop-k.matrix.rows ++ drawn_rows n c.loop-k.drawn.order.items c.loop-k.drawn.draws.state) done ∙ append-nil c.loop-k.matrix.rows in
    ap (λ n. record { columns = n; rows = c.loop-k.matrix.rows }) c.loop-k.invariant.0 ∙ ap (λ rows. record { columns = c.args.columns; rows = rows }) (sym all)
