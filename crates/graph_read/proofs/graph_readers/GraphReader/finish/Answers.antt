use Rattle.std.proofs.Common.{◌∙◌, ap, sym}
use Rattle.std.proofs.lemmas.Result.{IfOk-from_err}
use Rattle.row_model.specs.declared.refusal.Read.TheVariants as read
use Rattle.graph_read.specs.Pieces.{graph_of_lists}
use Rattle.graph_read.proofs.graph_readers.GraphReader.finish.Goals as goal

pub returns-in_err-refusal : goal.returns-in_err-refusal
returns-in_err-refusal c = IfOk-from_err c.from_residual.result _ c.from_residual.ensures.0

pub of_lists-requires : goal.of_lists-requires
of_lists-requires c = c.in_ok-refusal.ensures.vertices c.args.self.vertices c.in-Ok.lists c.in-Ok.is

pub returns-in-Refused : goal.returns-in-Refused
returns-in-Refused c = ap graph_of_lists (sym c.in-Refused.is ∙ c.in_ok-refusal.ensures.lists)

pub returns-in-Ok : goal.returns-in-Ok
returns-in-Ok c = ap (λ made. read.Ok made) c.of_lists.ensures ∙ ap graph_of_lists (sym c.in-Ok.is ∙ c.in_ok-refusal.ensures.lists)
