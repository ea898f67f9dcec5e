use Rattle.std.proofs.Common.{Some, option_map, sym, ap, ◌∙◌, arith}
use Rattle.json.specs.Json.{parse_map}
use Rattle.serde_json.specs.Data.{array}
use Rattle.matrix_read.specs.CloneNames.{clone_names, array_clones}
use Rattle.matrix_read.proofs.FileLemmas.{fused}
use Rattle.matrix_read.proofs.clone_names.read_clones.Goals as goal

pub returns-then-not-branch-clause-ok : goal.returns-then-not-branch-clause-ok
returns-then-not-branch-clause-ok c =
    let x = c.in_ok-enters_array.ensures.passed c.if-not-branch.true in
    ap (parse_map array_clones) x.is ∙ ap (λ list. Some (option_map clone_names list, c.enters_array.new.reader)) x.list

pub returns-in_err-clones-clause-err : goal.returns-in_err-clones-clause-err
returns-in_err-clones-clause-err c refused =
    c.in_ok-enters_array.ensures.entered c.if-not-branch.false ∙ ap (parse_map array) (c.read_clone_items.ensures.err (grind (arith, refused)))

pub returns-clause-ok : goal.returns-clause-ok
returns-clause-ok c =
    ap (parse_map array_clones) (c.in_ok-enters_array.ensures.entered c.if-not-branch.false)
    ∙ fused array array_clones _
    ∙ sym (fused clone_names (λ names. Some names) _)
    ∙ ap (parse_map (λ names. Some names)) c.in_ok-clones.ensures.ok

pub returns-in_err-enters_array-clause-err : goal.returns-in_err-enters_array-clause-err
returns-in_err-enters_array-clause-err c refused = c.in_err-enters_array.ensures.err

pub returns-then-not-branch-clause-shorter : goal.returns-then-not-branch-clause-shorter
returns-then-not-branch-clause-shorter c = c.in_ok-enters_array.ensures.shorter

pub returns-clause-shorter : goal.returns-clause-shorter
returns-clause-shorter c = omega (arith, c.in_ok-clones.ensures.shorter, c.in_ok-enters_array.ensures.shorter)
