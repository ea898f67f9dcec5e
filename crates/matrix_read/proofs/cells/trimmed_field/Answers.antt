use Rattle.std.proofs.Common.{◌∷◌, ◌+◌, map, drop, sym, ap, ◌∙◌}
use Rattle.csv.specs.Records.{fields_of}
use Rattle.matrix_read.specs.Cells.{trimmed}
use Rattle.matrix_read.proofs.TableLemmas.{cells_step}
use Rattle.matrix_read.proofs.cells.trimmed_field.Goals as goal

pub returns : goal.returns
returns c =
    let fields = fields_of c.args.fields.now in
    cells_step fields c.args.place c.field.result.now c.field.ensures
    ∙ ap (λ cell. cell ∷ map trimmed (drop (c.args.place + 1) fields)) (sym c.trimmed.ensures)
