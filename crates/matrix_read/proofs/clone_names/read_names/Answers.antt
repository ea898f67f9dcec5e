use Rattle.std.proofs.Common.{Some, option_and_then, ap, ◌∙◌}
use Rattle.json.specs.Json.{parse_map}
use Rattle.serde_json.specs.Data.{array}
use Rattle.matrix_read.specs.CloneSteps.{strings_of}
use Rattle.matrix_read.specs.CloneNames.{array_strings}
use Rattle.matrix_read.proofs.FileLemmas.{made_of}
use Rattle.matrix_read.proofs.clone_names.read_names.Goals as goal

pub returns-clause-err : goal.returns-clause-err
returns-clause-err c refused = c.in_ok-enters_array.ensures.entered c.if-not-branch.false ∙ ap (parse_map array) (c.read_strings.ensures.err refused)

pub returns-then-not-branch-clause-ok : goal.returns-then-not-branch-clause-ok
returns-then-not-branch-clause-ok c =
    let x = c.in_ok-enters_array.ensures.passed c.if-not-branch.true in
    ap (parse_map array_strings) x.is ∙ ap (λ list. Some (option_and_then strings_of list, c.enters_array.new.reader)) x.list

pub returns-clause-ok : goal.returns-clause-ok
returns-clause-ok c = rw (made_of array array_strings _ _ (c.in_ok-enters_array.ensures.entered c.if-not-branch.false)) c.read_strings.ensures.ok

pub returns-in_err-enters_array-clause-err : goal.returns-in_err-enters_array-clause-err
returns-in_err-enters_array-clause-err c refused = c.in_err-enters_array.ensures.err

pub returns-then-not-branch-clause-shorter : goal.returns-then-not-branch-clause-shorter
returns-then-not-branch-clause-shorter c = c.in_ok-enters_array.ensures.shorter
