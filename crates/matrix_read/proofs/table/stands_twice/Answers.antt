use Rattle.std.proofs.Common.{◌≡◌, ℕ, ◌∷◌, ◌++◌, ◌+◌, List, Bool, map, drop, not, sym, ap, ◌∙◌, refl, true}
use Rattle.std.specs.List.{list_any, filter}
use Rattle.std.specs.Str.{bytes_eq}
use Rattle.csv.specs.Records.{fields_of}
use Rattle.matrix_read.specs.Cells.{trimmed, is_empty}
use Rattle.matrix_read.specs.Names.{has_twice, bytes_of}
use Rattle.matrix_read.proofs.NameLemmas.{twice_found, found_if, list_any-bytes, added_once, added_whole}
use Rattle.matrix_read.proofs.TableLemmas.{filter_kept}
use Rattle.matrix_read.proofs.table.stands_twice.Goals as goal

abbrev is_name : List ℕ → Bool
is_name name = not (is_empty name)

pub returns-then-not-branch : goal.returns-then-not-branch
returns-then-not-branch c =
    let keys = c.loop-place.names.keys in
    let name = c.trimmed_field-name.result.now in
    let cells = map trimmed (drop c.loop-place.place (fields_of c.args.header.now)) in
    let rest = map trimmed (drop (c.loop-place.place + 1) (fields_of c.args.header.now)) in
    let found : list_any (bytes_eq name) (bytes_of keys) ≡ true = found_if _ (sym c.if-not-branch.true ∙ c.in_ok-insert.ensures.added ∙ ap not (list_any-bytes (bytes_eq name) keys)) in
    let filled : is_name name ≡ true = ap not (sym c.is_empty.ensures ∙ c.if-is_empty.false) in
    let first : filter is_name cells ≡ name ∷ filter is_name rest = filter_kept is_name cells rest name c.trimmed_field-name.ensures filled in
    sym (twice_found name (bytes_of keys) (filter is_name rest) found) ∙ ap (λ l. has_twice (bytes_of keys ++ l)) (sym first) ∙ c.loop-place.invariant.so_far

pub loop-place-preserved : goal.loop-place-preserved
loop-place-preserved c =
    let keys = c.loop-place.names.keys in
    let key = c.trimmed_field-name.result in
    let cells = map trimmed (drop c.loop-place.place (fields_of c.args.header.now)) in
    let rest = map trimmed (drop (c.loop-place.place + 1) (fields_of c.args.header.now)) in
    let fresh : true ≡ not (list_any (bytes_eq key.now) (bytes_of keys)) = sym c.if-not-branch.false ∙ c.in_ok-insert.ensures.added ∙ ap not (list_any-bytes (bytes_eq key.now) keys) in
    let filled : is_name key.now ≡ true = ap not (sym c.is_empty.ensures ∙ c.if-is_empty.false) in
    let first : filter is_name cells ≡ key.now ∷ filter is_name rest = filter_kept is_name cells rest key.now c.trimmed_field-name.ensures filled in
    record {
      distinct = added_once keys _ key fresh c.in_ok-insert.ensures.keys c.loop-place.invariant.distinct;
      so_far =
          ap has_twice (added_whole keys _ key fresh c.in_ok-insert.ensures.keys key.now (filter is_name rest) refl ∙ ap (λ l. bytes_of keys ++ l) (sym first))
          ∙ c.loop-place.invariant.so_far;
    }
