use Rattle.std.proofs.Common.{◌≡◌, ap, sym, ◌∙◌, option_map}
use Rattle.matrix_read.specs.Clones.{reading, clones}
use Rattle.matrix_read.specs.CloneSteps.{if_read}
use Rattle.matrix_read.specs.CloneNames.{file_view}
use Rattle.matrix_read.proofs.CloneLemmas.{clones_long, clones_short}
use Rattle.matrix_read.proofs.FileLemmas.{not_named, named_as}
use Rattle.matrix_read.proofs.clones.read_clones.Goals as goal

pub returns-then-bytes-gt-MAX_FILE_BYTES : goal.returns-then-bytes-gt-MAX_FILE_BYTES
returns-then-bytes-gt-MAX_FILE_BYTES c = c.refused.ensures ∙ sym (clones_long c.args.bytes.now c.if-bytes-gt-MAX_FILE_BYTES.true)

pub returns-in-None : goal.returns-in-None
returns-in-None c =
    let whole : clones c.args.bytes.now ≡ if_read (reading c.without_mark.result.now) =
    clones_short c.args.bytes.now c.if-bytes-gt-MAX_FILE_BYTES.false ∙ ap (λ text. if_read (reading text)) (sym c.without_mark.ensures.text) in
    c.refused-in-None.ensures ∙ sym (whole ∙ not_named (reading c.without_mark.result.now) (ap (option_map file_view) (sym c.in-None.is) ∙ c.in_ok-names_in.ensures))

pub returns : goal.returns
returns c =
    let whole : clones c.args.bytes.now ≡ if_read (reading c.without_mark.result.now) =
    clones_short c.args.bytes.now c.if-bytes-gt-MAX_FILE_BYTES.false ∙ ap (λ text. if_read (reading text)) (sym c.without_mark.ensures.text) in
    let known = named_as (reading c.without_mark.result.now) (file_view c.in-Some.file) (ap (option_map file_view) (sym c.in-Some.is) ∙ c.in_ok-names_in.ensures) in
    rw (whole, known) c.matrix_in.ensures
