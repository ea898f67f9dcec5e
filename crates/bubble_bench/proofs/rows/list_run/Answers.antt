use Rattle.std.proofs.Common.{◌≡◌, ◌∙◌, ◌+◌, ◌-◌, ◌≤◌, ℕ, [], ◌∷◌, ◌++◌, sym, ap, subst, arith}
use Rattle.row_model.specs.Rows.{IsRow}
use Rattle.row_model.proofs.Ascending.{ascends_longer, ascends_wider}
use Rattle.bubble_bench.specs.declared.rows.TheConstants.{COLUMNS}
use Rattle.bubble_bench.proofs.rows.list_run.Goals as goal

pub loop-i-preserved : goal.loop-i-preserved
loop-i-preserved c =
    let k : ℕ = c.args.first - 1 + c.loop-i.i in
    let next : c.args.first + c.loop-i.i ≡ k + 1 = omega (arith, c.requires.from) in
    let pushed : c.push.new.self.items ≡ c.loop-i.row.items ++ (k + 1) ∷ [] = c.in_ok-push.ensures.items ∙ ap (λ x. c.loop-i.row.items ++ x ∷ []) next in
    let longer : IsRow (k + 1) c.push.new.self.items = subst (IsRow (k + 1)) (sym pushed) (ascends_longer k 0 (k + 1) c.loop-i.row.items (omega arith) (omega arith) c.loop-i.invariant) in
    let same : k + 1 ≡ c.args.first - 1 + (c.loop-i.i + 1) = omega arith in
    subst (λ n. IsRow n c.push.new.self.items) same longer

pub returns : goal.returns
returns c =
    let few : c.args.first - 1 + c.loop-i.i ≤ COLUMNS = omega (arith, c.loop-i.auto.i-end, c.loop-i-test.false, c.requires.from, c.requires.to) in
    ascends_wider (c.args.first - 1 + c.loop-i.i) COLUMNS 0 c.loop-i.row.items few c.loop-i.invariant
