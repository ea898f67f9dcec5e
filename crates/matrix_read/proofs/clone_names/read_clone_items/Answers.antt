use Rattle.std.proofs.Common.{◌≡◌, [], ◌∷◌, ◌++◌, Some, None, sym, ap, ap₂, ◌∙◌, arith}
use Rattle.std.proofs.lemmas.List.{map-append}
use Rattle.json.specs.Json.{parse_map, after_end_array}
use Rattle.serde_json.specs.Data.{no_items, item}
use Rattle.matrix_read.specs.CloneSteps.{probes_of}
use Rattle.matrix_read.specs.JsonSteps.{value_at}
use Rattle.matrix_read.specs.CloneNames.{clone_names, names_view, clones_view}
use Rattle.matrix_read.proofs.ItemLemmas.{none_read, no_item, one_item, all_items}
use Rattle.matrix_read.proofs.FileLemmas.{mapped_some, joined, names_more}
use Rattle.matrix_read.proofs.clone_names.read_clone_items.Goals as goal

pub loop-alloc-init : goal.loop-alloc-init
loop-alloc-init c = (no_items, none_read c.args.depth c.args.reader.now, ap clones_view (sym c.new-clones.ensures.items))

pub returns-in_err-clone-clause-err : goal.returns-in_err-clone-clause-err
returns-in_err-clone-clause-err c refused =
    let s = c.loop-alloc.invariant in
    let going : (after_end_array c.loop-alloc.reader ≡ None) × (c.take_end_array.new.self ≡ c.loop-alloc.reader) = c.loop-alloc-test.ensures in
    no_item _ _ _ s.0 s.1 going.0 (ap (value_at c.args.depth) (sym going.1) ∙ c.read_clone.ensures.err (grind (arith, refused)))

pub loop-alloc-preserved : goal.loop-alloc-preserved
loop-alloc-preserved c =
    let d = c.args.depth in
    let l = c.loop-alloc in
    let s = l.invariant in
    let rest = c.read_clone.new.reader in
    let clone = c.in_ok-clone.clone in
    let going : (after_end_array l.reader ≡ None) × (c.take_end_array.new.self ≡ l.reader) = c.loop-alloc-test.ensures in
    let m = mapped_some probes_of (value_at d l.reader) (names_view clone) rest (ap (λ ts. parse_map probes_of (value_at d ts)) (sym going.1) ∙ c.in_ok-clone.ensures.ok) in (
      joined s.0 (item m.0 no_items),
      one_item _ _ _ s.0 s.1 rest m.0 going.0 m.1 (rw (← going.1) c.in_ok-clone.ensures.shorter),
      names_more s.0 m.0 ∙ ap₂ (λ all last. all ++ last ∷ []) s.2 m.2 ∙ sym (map-append names_view l.clones.items (clone ∷ [])) ∙ ap clones_view (sym c.in_ok-push.ensures.items),
    )

pub returns-clause-ok : goal.returns-clause-ok
returns-clause-ok c =
    let s = c.loop-alloc.invariant in
    let rest = c.take_end_array.new.self in
    ap (parse_map clone_names) (all_items _ _ _ s.0 s.1 rest c.loop-alloc-test.ensures) ∙ ap (λ names. Some (names, rest)) s.2
