use Rattle.std.proofs.Common.{◌≡◌, ◌∙◌, ◌+◌, ◌∷◌, [], ◌++◌, ap, sym, arith}
use Rattle.std.proofs.lemmas.Grind.{common_steps}
use Rattle.std.specs.List.{range_with_len}
use Rattle.row_model.proofs.Filtered.{range_more}
use Rattle.row_core.proofs.find.all_rows.Goals as goal

pub loop-before-preserved : goal.loop-before-preserved
loop-before-preserved c =
    let e : 1 + c.loop-before.before ≡ c.loop-before.before + 1 = omega arith in
    let pushed : c.push.new.self.items ≡ c.loop-before.all.items ++ (c.loop-before.before + 1) ∷ [] = grind (arith, common_steps) in
    pushed ∙ ap (λ xs. xs ++ (c.loop-before.before + 1) ∷ []) c.loop-before.invariant ∙ sym (range_more c.loop-before.before 1 ∙ ap (λ k. range_with_len 1 c.loop-before.before ++ k ∷ []) e)
