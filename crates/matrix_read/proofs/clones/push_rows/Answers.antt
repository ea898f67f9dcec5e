use Rattle.std.proofs.Common.{◌≡◌, ◌∷◌, ◌++◌, ◌+◌, [], length, drop, sym, ◌∙◌, ap, length-append}
use Rattle.std.proofs.Math.ListN.{drop_of_length-le}
use Rattle.row_model.specs.Rows.{RowList}
use Rattle.matrix_read.specs.CloneNames.{names_view, clones_view, row_of_clone}
use Rattle.matrix_read.specs.Names.{bytes_of}
use Rattle.matrix_read.proofs.CloneLemmas.{clones_drop, matrix_after, clone_stop, clone_step, clone_end, names_row_ascends, length-bytes}
use Rattle.matrix_read.proofs.clones.push_rows.Goals as goal

pub returns-in-Err : goal.returns-in-Err
returns-in-Err c =
    let probes = bytes_of c.args.names.now.keys in
    let step = clones_drop c.args.clones.now c.loop-i.i c.index-clones-i.result c.loop-i-test.true c.index-clones-i.is in
    sym (clone_stop probes c.loop-i.matrix.rows (c.loop-i.i + 1) _ _ _ step c.in-Err.code c.in-Err.ensures.refused) ∙ c.loop-i.invariant.so_far

pub push_row-requires-clause-row : goal.push_row-requires-clause-row
push_row-requires-clause-row c =
    let probes = bytes_of c.args.names.now.keys in
    let width : c.loop-i.matrix.columns ≡ length probes = c.loop-i.invariant.columns ∙ c.requires.width ∙ sym (length-bytes c.args.names.now.keys) in
    rw (c.in-Ok.ensures.row.1, width) (names_row_ascends probes (names_view c.index-clones-i.result))

pub loop-i-preserved : goal.loop-i-preserved
loop-i-preserved c =
    let probes = bytes_of c.args.names.now.keys in
    let m = c.loop-i.matrix in
    let clone = names_view c.index-clones-i.result in
    let rest = clones_view (drop (c.loop-i.i + 1) c.args.clones.now) in
    let step = clones_drop c.args.clones.now c.loop-i.i c.index-clones-i.result c.loop-i-test.true c.index-clones-i.is in
    let pushed : c.push_row.new.self ≡ record { columns = m.columns; rows = m.rows ++ row_of_clone probes clone ∷ [] } =
    c.in_ok-push_row-in-Ok.ensures.ok ∙ ap (λ row. record { columns = m.columns; rows = m.rows ++ row ∷ [] }) c.in-Ok.ensures.row.1 in
    record {
      columns = ap (λ (x : RowList). x.columns) pushed ∙ c.loop-i.invariant.columns;
      count = ap (λ (x : RowList). length x.rows) pushed ∙ length-append m.rows (row_of_clone probes clone ∷ []) ∙ ap (λ n. n + 1) c.loop-i.invariant.count;
      clear = c.in-Ok.ensures.clear;
      so_far =
          ap (λ (x : RowList). matrix_after probes x.rows (c.loop-i.i + 1 + 1) rest) pushed
          ∙ clone_step probes m.rows (c.loop-i.i + 1) clone _ rest step c.in-Ok.ensures.row.0
          ∙ c.loop-i.invariant.so_far;
    }

pub returns : goal.returns
returns c =
    let probes = bytes_of c.args.names.now.keys in
    let width : c.loop-i.matrix.columns ≡ length probes = c.loop-i.invariant.columns ∙ c.requires.width ∙ sym (length-bytes c.args.names.now.keys) in
    sym (clone_end probes c.loop-i.matrix (c.loop-i.i + 1) width)
    ∙ ap (λ values. matrix_after probes c.loop-i.matrix.rows (c.loop-i.i + 1) (clones_view values)) (sym (drop_of_length-le c.args.clones.now c.loop-i-test.false))
    ∙ c.loop-i.invariant.so_far
