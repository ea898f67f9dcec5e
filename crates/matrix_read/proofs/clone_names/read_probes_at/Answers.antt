use Rattle.std.proofs.Common.{◌≡◌, codes, true, sym, ◌∙◌}
use Rattle.std.specs.Str.{bytes_eq}
use Rattle.std.proofs.lemmas.Result.{IfOk-from_err}
use Rattle.json.proofs.Grammar.{left_some, left_none}
use Rattle.matrix_read.specs.JsonSteps.{value_at}
use Rattle.matrix_read.specs.CloneNames.{array_strings}
use Rattle.matrix_read.proofs.FileLemmas.{mapped_some, probes_put, probes_kept}
use Rattle.matrix_read.proofs.clone_names.read_probes_at.Goals as goal

pub returns-then-eq-clause-ok : goal.returns-then-eq-clause-ok
returns-then-eq-clause-ok c =
    let k = c.args.key.now in
    let named : bytes_eq k (codes "probes") ≡ true = sym c.if-eq.ensures in
    let m = mapped_some array_strings (value_at c.args.depth c.args.reader.now) _ _ c.in_ok-probes.ensures.ok in
    record { value = m.0; is = m.1; names = λ found same. probes_put k m.0 found named ∙ m.2 }

pub returns-clause-ok : goal.returns-clause-ok
returns-clause-ok c =
    let k = c.args.key.now in
    let x = left_some (value_at c.args.depth c.args.reader.now) _ c.in_ok-pass.ensures.value in
    record { value = x.0; is = x.1; names = λ found same. probes_kept k x.0 found (sym c.if-eq.ensures) ∙ same }

pub returns-in_err-pass-clause-err : goal.returns-in_err-pass-clause-err
returns-in_err-pass-clause-err c refused = left_none (value_at c.args.depth c.args.reader.now) c.in_err-pass.ensures.value

pub returns-in_err-pass-clause-shorter : goal.returns-in_err-pass-clause-shorter
returns-in_err-pass-clause-shorter c = IfOk-from_err c.from_residual-in_err-pass.result _ c.from_residual-in_err-pass.ensures.0

pub read_names-requires : goal.read_names-requires
read_names-requires c = c.requires

pub returns-in_err-probes-clause-ok : goal.returns-in_err-probes-clause-ok
returns-in_err-probes-clause-ok c = IfOk-from_err c.from_residual.result _ c.from_residual.ensures.0

pub returns-then-eq-clause-shorter : goal.returns-then-eq-clause-shorter
returns-then-eq-clause-shorter c = c.in_ok-probes.ensures.shorter

pub returns-in_err-pass-clause-ok : goal.returns-in_err-pass-clause-ok
returns-in_err-pass-clause-ok c = IfOk-from_err c.from_residual-in_err-pass.result _ c.from_residual-in_err-pass.ensures.0

pub returns-in_err-probes-clause-shorter : goal.returns-in_err-probes-clause-shorter
returns-in_err-probes-clause-shorter c = IfOk-from_err c.from_residual.result _ c.from_residual.ensures.0

pub returns-clause-shorter : goal.returns-clause-shorter
returns-clause-shorter c = c.in_ok-pass.ensures.shorter
