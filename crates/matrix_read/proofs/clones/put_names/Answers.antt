use Rattle.std.proofs.Common.{◌≡◌, ◌∷◌, ◌++◌, ◌+◌, refl, sym, ◌∙◌, ap, true, drop, not}
use Rattle.std.specs.List.{list_any}
use Rattle.std.specs.Str.{bytes_eq}
use Rattle.matrix_read.specs.Names.{bytes_of, has_twice}
use Rattle.matrix_read.proofs.NameLemmas.{twice_found, added_once, added_whole, list_any-bytes, found_if}
use Rattle.matrix_read.proofs.clones.put_names.Goals as goal

pub returns-in-Ok-false-clause-twice : goal.returns-in-Ok-false-clause-twice
returns-in-Ok-false-clause-twice c same =
    let keys = c.loop-place.names.keys in
    let name = c.name_at.result.now in
    let rest = bytes_of (drop (c.loop-place.place + 1) c.args.list.now) in
    let found : list_any (bytes_eq name) (bytes_of keys) ≡ true = found_if _ (sym c.in-Ok-false.field-0-test ∙ c.in-Ok-false.ensures.added ∙ ap not (list_any-bytes (bytes_eq name) keys)) in
    let step : bytes_of (drop c.loop-place.place c.args.list.now) ≡ name ∷ rest = c.name_at.ensures in
    ap has_twice (sym c.loop-place.invariant.whole ∙ ap (λ names. bytes_of keys ++ names) step) ∙ twice_found name (bytes_of keys) rest found

pub loop-place-preserved : goal.loop-place-preserved
loop-place-preserved c =
    let keys = c.loop-place.names.keys in
    let name = c.name_at.result.now in
    let rest = bytes_of (drop (c.loop-place.place + 1) c.args.list.now) in
    let fresh : true ≡ not (list_any (bytes_eq name) (bytes_of keys)) = sym c.in-Ok-true.field-0-test ∙ c.in-Ok-true.ensures.added ∙ ap not (list_any-bytes (bytes_eq name) keys) in
    let step : bytes_of (drop c.loop-place.place c.args.list.now) ≡ name ∷ rest = c.name_at.ensures in
    record {
      whole = added_whole keys _ c.name_at.result fresh c.in-Ok-true.ensures.keys _ rest refl ∙ ap (λ names. bytes_of keys ++ names) (sym step) ∙ c.loop-place.invariant.whole;
      once = added_once keys _ c.name_at.result fresh c.in-Ok-true.ensures.keys c.loop-place.invariant.once;
    }
