use Rattle.std.proofs.Common.{◌≡◌, ◌∙◌, ◌++◌, [], ◌∷◌, ap}
use Rattle.row_model.specs.Rows.{RowList}
use Rattle.arena_tests.proofs.Stars.{star_bound}
use Rattle.arena_tests.proofs.tests.bounds.ask_star.Goals as goal

pub returns : goal.returns
returns g c =
    let row = c.args.row.now in
    let only : c.push_row.new.self.rows ≡ row ∷ [] =
    ap (λ (m : RowList). m.rows) c.in_ok-push_row.ensures.ok ∙ ap (λ (m : RowList). m.rows ++ row ∷ []) c.in_ok-m.ensures in
    star_bound c.push_row.new.self.rows row c.args.columns _ _ _ only c.in_ok-arena.ensures.tree c.requires.from c.bubble-found.ensures.steps
