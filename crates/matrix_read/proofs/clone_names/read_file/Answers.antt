use Rattle.std.proofs.Common.{◌≡◌, codes, Some, None, option_map, option_and_then, ap, ap₂, ◌∙◌}
use Rattle.json.specs.Json.{parse_map}
use Rattle.serde_json.specs.Data.{object}
use Rattle.serde_json.specs.Find.{as_array}
use Rattle.matrix_read.specs.CloneSteps.{strings_of, probes_of}
use Rattle.matrix_read.specs.CloneNames.{clone_names, clones_of, file_names}
use Rattle.matrix_read.proofs.FileLemmas.{made_of}
use Rattle.matrix_read.proofs.clone_names.read_file.Goals as goal

pub returns-then-not-branch-clause-ok : goal.returns-then-not-branch-clause-ok
returns-then-not-branch-clause-ok c =
    let x = c.in_ok-enters_object.ensures.passed c.if-not-branch.true in
    let probes : probes_of x.value ≡ None = ap (λ found. option_and_then strings_of (option_and_then as_array found)) (x.members (codes "probes")) in
    let clones : clones_of x.value ≡ None = ap (λ found. option_map clone_names (option_and_then as_array found)) (x.members (codes "clones")) in
    ap (parse_map file_names) x.is ∙ ap₂ (λ p q. Some ((p, q), c.enters_object.new.reader)) probes clones

pub returns-clause-ok : goal.returns-clause-ok
returns-clause-ok c = rw (made_of object file_names _ _ (c.in_ok-enters_object.ensures.entered c.if-not-branch.false)) c.read_members.ensures.ok

pub returns-clause-err : goal.returns-clause-err
returns-clause-err c refused = c.in_ok-enters_object.ensures.entered c.if-not-branch.false ∙ ap (parse_map object) (c.read_members.ensures.err refused)
