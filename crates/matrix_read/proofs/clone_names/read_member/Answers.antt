use Rattle.std.proofs.Common.{◌≡◌, codes, true, ap, ap₂, sym, ◌∙◌, arith}
use Rattle.std.specs.Str.{bytes_eq}
use Rattle.std.proofs.lemmas.Result.{IfOk-from_err, on_ok_weaker}
use Rattle.matrix_read.specs.JsonSteps.{value_at}
use Rattle.matrix_read.specs.CloneNames.{NamesValue, array_clones}
use Rattle.matrix_read.proofs.FileLemmas.{mapped_some, probes_kept, clones_put, clones_kept, not_probes}
use Rattle.matrix_read.proofs.clone_names.read_member.Goals as goal

pub returns-then-eq-clause-ok : goal.returns-then-eq-clause-ok
returns-then-eq-clause-ok c =
    let k = c.args.key.now in
    let named : bytes_eq k (codes "clones") ≡ true = sym c.if-eq.ensures in
    let m = mapped_some array_clones (value_at c.args.depth c.args.reader.now) _ _ c.in_ok-names.ensures.ok in
    record {
      value = m.0;
      is = m.1;
      names = λ found same. ap₂ (λ p q. (p, q)) (probes_kept k m.0 found (not_probes k named) ∙ ap (λ (n : NamesValue). n.0) same) (clones_put k m.0 found named ∙ m.2);
    }

pub returns-clause-ok : goal.returns-clause-ok
returns-clause-ok c = on_ok_weaker c.read_probes_at.result (λ m. record {
  value = m.value;
  is = m.is;
  names = λ found same. ap₂ (λ p q. (p, q)) (m.names found (ap (λ (n : NamesValue). n.0) same)) (clones_kept c.args.key.now m.value found (sym c.if-eq.ensures) ∙ ap (λ (n : NamesValue). n.1) same);
}) c.read_probes_at.ensures.ok

pub returns-clause-err : goal.returns-clause-err
returns-clause-err c = c.read_probes_at.ensures.err

pub returns-clause-shorter : goal.returns-clause-shorter
returns-clause-shorter c = c.read_probes_at.ensures.shorter

pub read_clones-requires : goal.read_clones-requires
read_clones-requires c = c.requires

pub read_probes_at-requires : goal.read_probes_at-requires
read_probes_at-requires c = omega (arith, c.requires)

pub returns-in_err-names-clause-shorter : goal.returns-in_err-names-clause-shorter
returns-in_err-names-clause-shorter c = IfOk-from_err c.from_residual.result _ c.from_residual.ensures.0

pub returns-in_err-names-clause-ok : goal.returns-in_err-names-clause-ok
returns-in_err-names-clause-ok c = IfOk-from_err c.from_residual.result _ c.from_residual.ensures.0

pub returns-then-eq-clause-shorter : goal.returns-then-eq-clause-shorter
returns-then-eq-clause-shorter c = c.in_ok-names.ensures.shorter
