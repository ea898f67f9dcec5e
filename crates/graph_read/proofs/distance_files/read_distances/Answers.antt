use Rattle.std.proofs.Common.{◌∙◌, Ok, Err, ap, sym, arith}
use Rattle.row_model.specs.declared.refusal.Read.TheVariants as read
use Rattle.graph_read.specs.DistanceFiles.{distances_lines, distances}
use Rattle.graph_read.specs.DistanceSteps.{distances_with}
use Rattle.graph_read.proofs.DistanceLemmas.{are_distances}
use Rattle.graph_read.proofs.HeadLemmas.{distances_reads, headless, rest_of, distances_at}
use Rattle.graph_read.proofs.TableSteps.{read_behind}
use Rattle.graph_read.proofs.distance_files.read_distances.Goals as goal

pub returns-in-Err : goal.returns-in-Err
returns-in-Err c = headless distances distances_lines distances_reads c.args.bytes.now c.in-Err.refusal c.in-Err.ensures.refused

pub returns-in-Err-size_in : goal.returns-in-Err-size_in
returns-in-Err-size_in c = ap (λ r. read.Refused r) c.refusal.ensures ∙ sym (distances_at _ _ _ _ _ (Err c.in-Err-size_in.code) c.in-Ok.ensures.head c.in-Err-size_in.ensures.size)

pub of_values-requires : goal.of_values-requires
of_values-requires c =
    let n = c.in-Ok-size_in.n in
    let table = rw c.in-None.is at c.in_ok-refusal.ensures.table in
    are_distances n _ c.push_rows.new.values.items c.in-Ok-size_in.ensures.range.0 (omega (arith, c.in-Ok-size_in.ensures.range.1)) table

pub returns-in-Some : goal.returns-in-Some
returns-in-Some c =
    let n = c.in-Ok-size_in.n in
    let head = c.in-Ok.head in
    let refused = rw c.in-Some.is at c.in_ok-refusal.ensures.refused in
    sym (distances_at _ _ _ _ _ (Ok n) c.in-Ok.ensures.head c.in-Ok-size_in.ensures.size ∙ read_behind n (rest_of head.text.now head.number head.next) head.number ∙ ap (distances_with n) refused)

pub returns-in-None : goal.returns-in-None
returns-in-None c =
    let n = c.in-Ok-size_in.n in
    let head = c.in-Ok.head in
    let table = rw c.in-None.is at c.in_ok-refusal.ensures.table in
    ap (λ d. read.Ok d) c.of_values.ensures
    ∙ sym (distances_at _ _ _ _ _ (Ok n) c.in-Ok.ensures.head c.in-Ok-size_in.ensures.size ∙ read_behind n (rest_of head.text.now head.number head.next) head.number ∙ ap (distances_with n) table)
