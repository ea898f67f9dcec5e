use Rattle.std.proofs.Common.{◌≡◌, ◌+◌, ◌∷◌, ◌++◌, [], ℕ, Vec, Global, sym, ap, subst, arith}
use Rattle.std.proofs.lemmas.Grind.{common_steps}
use Rattle.row_model.specs.Rows.{IsRow}
use Rattle.row_model.proofs.Ascending.{ascends_longer, ascends_wider}
use Rattle.reducer_tests.proofs.tests.marks.marked_columns.Goals as goal
use Rattle.reducer_tests.proofs.tests.marks.marked_columns.Goals.{then-marked+in_ok-push, else-marked}

pub loop-before-preserved : goal.loop-before-preserved
loop-before-preserved c =
    let last = c.loop-before.before in
    let row = c.loop-before.row.items in
    elim c.if-marked.branch [
      | then-marked+in_ok-push w ↦
          let e : c.if-marked.row.items ≡ row ++ (last + 1) ∷ [] = grind (arith, common_steps) in
          subst (IsRow (last + 1)) (sym e) (ascends_longer last 0 (last + 1) row (omega arith) (omega arith) c.loop-before.invariant)
      | else-marked w ↦
          let e : c.if-marked.row.items ≡ row = ap (λ (v : Vec ℕ Global). v.items) w.row-is in
          subst (IsRow (last + 1)) (sym e) (ascends_wider last (last + 1) 0 row (omega arith) c.loop-before.invariant)
    ]
