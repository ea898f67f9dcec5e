use Rattle.std.proofs.Common.{◌≡◌, ◌∷◌, ◌+◌, ◌-◌, ◌<◌, ◌||◌, ◌&&◌, sym, ◌∙◌, ap, true, false, drop, map, get_or, length, List, ℕ, refl, arith}
use Rattle.std.specs.List.{list_all}
use Rattle.std.specs.Str.{bytes_eq}
use Rattle.column_order.specs.Orders.{has}
use Rattle.matrix_read.specs.Clones.{is_probe, column_of}
use Rattle.matrix_read.specs.Names.{bytes_of}
use Rattle.matrix_read.proofs.RowLemmas.{mark_step}
use Rattle.matrix_read.proofs.CloneLemmas.{column_found}
use Rattle.matrix_read.proofs.NameLemmas.{list_any-bytes}
use Rattle.matrix_read.proofs.clones.mark_names.Goals as goal

pub returns-in-None-clause-refused : goal.returns-in-None-clause-refused
returns-in-None-clause-refused c =
    let probes = bytes_of c.args.names.now.keys in
    let name = c.name_at.result.now in
    let rest = bytes_of (drop (c.loop-place.place + 1) c.args.list.now) in
    let unknown : is_probe probes name ≡ false = sym (c.in-None.ensures.found ∙ list_any-bytes (bytes_eq name) c.args.names.now.keys) in
    let step : bytes_of (drop c.loop-place.place c.args.list.now) ≡ name ∷ rest = c.name_at.ensures in
    (refl, sym c.loop-place.invariant.named ∙ ap (list_all (is_probe probes)) step ∙ ap (λ b. b && list_all (is_probe probes) rest) unknown)

pub loop-place-preserved : goal.loop-place-preserved
loop-place-preserved c =
    let probes = bytes_of c.args.names.now.keys in
    let name = c.name_at.result.now in
    let index = c.in-Some.index in
    let rest = bytes_of (drop (c.loop-place.place + 1) c.args.list.now) in
    let whole = bytes_of c.args.list.now in
    let known : is_probe probes name ≡ true = sym (c.in-Some.ensures.found ∙ list_any-bytes (bytes_eq name) c.args.names.now.keys) in
    let step : bytes_of (drop c.loop-place.place c.args.list.now) ≡ name ∷ rest = c.name_at.ensures in
    let column : index + 1 ≡ column_of probes name = column_found c.args.names.now.keys name index (sym c.in-Some.ensures.index) in
    let before : (j : ℕ) → j < length c.args.marks.now → (get_or c.loop-place.marks j false || has ((index + 1) ∷ map (column_of probes) rest) (j + 1)) ≡ has (map (column_of probes) whole) (j + 1) =
    λ j lt. ap (λ (ns : List ℕ). get_or c.loop-place.marks j false || has ns (j + 1)) (ap (λ n. n ∷ map (column_of probes) rest) column ∙ ap (map (column_of probes)) (sym step)) ∙ c.loop-place.invariant.marks j lt in
    let same : length c.loop-place.marks ≡ length c.args.marks.now = c.loop-place.auto.marks in
    let back : index + 1 - 1 ≡ index = omega arith in
    record {
      named = sym (ap (list_all (is_probe probes)) step ∙ ap (λ b. b && list_all (is_probe probes) rest) known) ∙ c.loop-place.invariant.named;
      marks = rw (c.mark_column-count.ensures.marks, back) (mark_step c.loop-place.marks index (length c.args.marks.now) (map (column_of probes) rest) (map (column_of probes) whole) (omega (arith, c.in-Some.ensures.within, c.loop-place.auto.marks, c.requires.marks)) before);
      listed = c.mark_column-count.ensures.listed;
      few = omega (arith, c.mark_column-count.ensures.within, same);
    }
