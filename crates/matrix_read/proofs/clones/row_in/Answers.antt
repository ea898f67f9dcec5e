use Rattle.std.proofs.Common.{◌≡◌, ◌∙◌, if◌then◌else◌, Bool, Some, None, sym, ap, map, length}
use Rattle.row_model.specs.declared.code.TheConstants.{RANGE}
use Rattle.text_lines.specs.Rows.{columns_among}
use Rattle.matrix_read.specs.Clones.{column_of, names_code}
use Rattle.matrix_read.specs.CloneNames.{names_view, row_of_clone}
use Rattle.matrix_read.specs.Names.{bytes_of}
use Rattle.matrix_read.proofs.RowLemmas.{marked_is}
use Rattle.matrix_read.proofs.CloneLemmas.{length-bytes}
use Rattle.matrix_read.proofs.clones.row_in.Goals as goal

pub returns-clause-row : goal.returns-clause-row
returns-clause-row c =
    let keys = c.args.names.now.keys in
    let probes = bytes_of keys in
    let marks = c.mark_names.new.marks in
    let list = c.deref.result.now in
    let view : names_view c.args.clone.now ≡ Some (bytes_of list) = ap names_view c.in-Some.is ∙ ap (λ items. Some (bytes_of items)) (sym c.deref.ensures.value) in
    let numbers = map (column_of probes) (bytes_of list) in
    let same : length marks ≡ length c.args.marks.now = c.mark_names.auto.marks in
    let width : length marks ≡ length probes = same ∙ c.requires.marks ∙ sym (length-bytes keys) in (
      ap (names_code probes) view ∙ ap (λ (b : Bool). if b then None else Some RANGE) c.in_ok-count.ensures.named,
      c.take_listed.ensures.columns
          ∙ marked_is marks numbers (λ j lt. c.in_ok-count.ensures.marks j (rw same at lt))
          ∙ ap (λ n. columns_among n numbers) width
          ∙ sym (ap (row_of_clone probes) view),
    )
