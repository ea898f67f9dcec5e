use Rattle.std.proofs.Common.{sym, ◌∙◌}
use Rattle.matrix_read.proofs.CloneLemmas.{some_if, many_probes}
use Rattle.matrix_read.proofs.clones.matrix_of.Goals as goal

pub returns-then-probes : goal.returns-then-probes
returns-then-probes c = c.refused-then-probes.ensures ∙ sym (many_probes c.args.probes.now c.args.clones.now (some_if _ c.if-is_empty.ensures) c.if-probes.true)

pub matrix_over-requires-clause-some : goal.matrix_over-requires-clause-some
matrix_over-requires-clause-some c = some_if _ c.if-is_empty.ensures
