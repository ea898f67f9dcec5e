use Rattle.std.proofs.Common.{codes, Some, option_and_then, ap, ◌∙◌}
use Rattle.json.specs.Json.{parse_map}
use Rattle.serde_json.specs.Data.{object}
use Rattle.serde_json.specs.Find.{as_array}
use Rattle.matrix_read.specs.CloneSteps.{strings_of, probes_of}
use Rattle.matrix_read.proofs.FileLemmas.{made_of}
use Rattle.matrix_read.proofs.clone_names.read_clone.Goals as goal

pub returns-then-not-branch-clause-ok : goal.returns-then-not-branch-clause-ok
returns-then-not-branch-clause-ok c =
    let x = c.in_ok-enters_object.ensures.passed c.if-not-branch.true in
    ap (parse_map probes_of) x.is
    ∙ ap (λ found. Some (option_and_then strings_of (option_and_then as_array found), c.enters_object.new.reader)) (x.members (codes "probes"))

pub returns-clause-ok : goal.returns-clause-ok
returns-clause-ok c = rw (made_of object probes_of _ _ (c.in_ok-enters_object.ensures.entered c.if-not-branch.false)) c.read_probes.ensures.ok

pub returns-clause-err : goal.returns-clause-err
returns-clause-err c refused = c.in_ok-enters_object.ensures.entered c.if-not-branch.false ∙ ap (parse_map object) (c.read_probes.ensures.err refused)

pub returns-in_err-enters_object-clause-err : goal.returns-in_err-enters_object-clause-err
returns-in_err-enters_object-clause-err c refused = c.in_err-enters_object.ensures.err

pub returns-then-not-branch-clause-shorter : goal.returns-then-not-branch-clause-shorter
returns-then-not-branch-clause-shorter c = c.in_ok-enters_object.ensures.shorter
