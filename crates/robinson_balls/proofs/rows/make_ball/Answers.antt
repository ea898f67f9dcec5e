use Rattle.std.proofs.Common.{◌∙◌, ℕ, Bool, ◌+◌, ◌≤◌, ◌<◌, ◌++◌, List, [], ◌∷◌, leb, cond, sym, ap, append-nil, arith}
use Rattle.std.proofs.lemmas.Bool.{le-leb, lt-leb}
use Rattle.row_model.specs.Rows.{columns_where}
use Rattle.row_model.proofs.Filtered.{filtered_more}
use Rattle.robinson_balls.specs.Balls.{between}
use Rattle.robinson_balls.proofs.rows.make_ball.Goals as goal
use Rattle.robinson_balls.proofs.rows.make_ball.Goals.{then-at-radius+in_ok-push, else-at-radius}

pub loop-before-preserved : goal.loop-before-preserved
loop-before-preserved c =
    let n = c.loop-before.before in
    let far : ℕ = between c.args.d.now c.args.x (n + 1) in
    let near : ℕ → Bool = λ y. leb (between c.args.d.now c.args.x y) c.args.radius in
    let before : List ℕ = columns_where n near in
    elim c.if-at-radius.branch [
      | then-at-radius+in_ok-push w ↦
          let within : far ≤ c.args.radius = omega (arith, c.at.ensures, w.if-at-radius.true) in
          rw w.items-is (w.in_ok-push.ensures.items ∙ ap (λ (l : List ℕ). l ++ (n + 1) ∷ []) c.loop-before.invariant ∙
          sym (filtered_more near n ∙ ap (λ (b : Bool). before ++ cond b ((n + 1) ∷ []) []) (le-leb far c.args.radius within)))
      | else-at-radius w ↦
          let beyond : c.args.radius < far = omega (arith, c.at.ensures, w.if-at-radius.false) in
          rw w.items-is (c.loop-before.invariant ∙ sym (append-nil before) ∙
          sym (filtered_more near n ∙ ap (λ (b : Bool). before ++ cond b ((n + 1) ∷ []) []) (lt-leb far c.args.radius beyond)))
    ]
