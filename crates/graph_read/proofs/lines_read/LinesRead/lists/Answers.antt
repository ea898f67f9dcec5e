use Rattle.std.proofs.Common.{◌≡◌, ◌∙◌, ◌+◌, [], Some, ap, sym, refl}
use Rattle.row_model.specs.declared.refusal.Read.TheVariants as read
use Rattle.text_lines.specs.Lines.{filled_lines}
use Rattle.text_lines.proofs.LineLemmas.{filled_none}
use Rattle.graph_read.specs.Placed.{lists_then}
use Rattle.graph_read.specs.Pieces.{begun_then, lists_headed}
use Rattle.graph_read.proofs.lines_read.LinesRead.lists.Goals as goal

pub returns-in-None-clause-lists : goal.returns-in-None-clause-lists
returns-in-None-clause-lists c =
    let self = c.args.self in
    ap (λ refusal. read.Refused refusal) c.refusal.ensures
    ∙ ap (lists_headed self.heading) (sym (filled_none (self.passed + 1) [] refl))
    ∙ ap (λ edges. begun_then self.heading edges (filled_lines (self.passed + 1) [])) (sym c.in-None.is)

pub returns-in_ok-lists-in-Some-Ok-clause-lists : goal.returns-in_ok-lists-in-Some-Ok-clause-lists
returns-in_ok-lists-in-Some-Ok-clause-lists c =
    let self = c.args.self in
    let edges = c.in-Some-Ok.edges in
    let read_ok : c.in-Some-Ok.field-0 ≡ read.Ok edges = c.in-Some-Ok.field-0-is in
    c.in_ok-lists-in-Some-Ok.ensures.lists
    ∙ ap (lists_then edges.shape edges.places.items) (sym (filled_none (self.passed + 1) [] refl))
    ∙ ap (λ edges. begun_then self.heading edges (filled_lines (self.passed + 1) [])) (sym (c.in-Some-Ok.is ∙ ap (λ r. Some r) read_ok))
