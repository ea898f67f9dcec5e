use Rattle.std.proofs.Common.{◌≡◌, [], ◌∷◌, length, Some, None, sym, ap, ap₂, ◌∙◌, arith}
use Rattle.json.specs.Json.{parse_map, after_end_array}
use Rattle.json.specs.Reads.{token_of}
use Rattle.json.proofs.Grammar.{left_some, left_none}
use Rattle.serde_json.specs.Data.{no_items, item}
use Rattle.matrix_read.specs.CloneSteps.{strings_of}
use Rattle.matrix_read.specs.JsonSteps.{value_at, behind}
use Rattle.matrix_read.specs.CloneNames.{with_string}
use Rattle.matrix_read.specs.Names.{bytes_of}
use Rattle.matrix_read.proofs.JsonLemmas.{nothing_at_front}
use Rattle.matrix_read.proofs.ItemLemmas.{none_read, no_item, one_item, all_items}
use Rattle.matrix_read.proofs.FileLemmas.{joined, kind_at_front, strings_more}
use Rattle.matrix_read.proofs.clone_names.read_strings.Goals as goal

pub loop-reader-init : goal.loop-reader-init
loop-reader-init c = (no_items, none_read c.args.depth c.args.reader.now, ap (λ names. Some (bytes_of names)) (sym c.new.ensures.items))

pub returns-in_err-token-clause-err : goal.returns-in_err-token-clause-err
returns-in_err-token-clause-err c refused =
    let s = c.loop-reader.invariant in
    let going : (after_end_array c.loop-reader.reader ≡ None) × (c.take_end_array.new.self ≡ c.loop-reader.reader) = c.loop-reader-test.ensures in
    let empty : c.take_end_array.new.self ≡ [] = (rw c.in_err-token.ensures.ok_part at c.next.ensures.value).0 in
    no_item _ _ _ s.0 s.1 going.0 (ap (value_at c.args.depth) (sym going.1 ∙ empty) ∙ nothing_at_front c.args.depth)

pub returns-in_err-pass_value-clause-err : goal.returns-in_err-pass_value-clause-err
returns-in_err-pass_value-clause-err c refused =
    let d = c.args.depth in
    let left = c.loop-reader.reader in
    let s = c.loop-reader.invariant in
    let first : left ≡ token_of c.in_ok-token.token ∷ c.next.new.self = sym c.loop-reader-test.ensures.1 ∙ (rw c.in_ok-token.ensures.ok_part at c.next.ensures.value) in
    no_item _ _ _ s.0 s.1 c.loop-reader-test.ensures.0 (left_none (value_at d left) (ap (λ ts. behind (value_at d ts)) first ∙ c.in_err-pass_value.ensures.value))

pub loop-reader-preserved : goal.loop-reader-preserved
loop-reader-preserved c =
    let d = c.args.depth in
    let left = c.loop-reader.reader in
    let s = c.loop-reader.invariant in
    let rest = c.pass_value.new.reader in
    let first : left ≡ token_of c.in_ok-token.token ∷ c.next.new.self = sym c.loop-reader-test.ensures.1 ∙ (rw c.in_ok-token.ensures.ok_part at c.next.ensures.value) in
    let x = left_some (value_at d left) rest (ap (λ ts. behind (value_at d ts)) first ∙ c.in_ok-pass_value.ensures.value) in
    let kind = kind_at_front d (token_of c.in_ok-token.token) c.next.new.self rest x.0 (ap (value_at d) (sym first) ∙ x.1) in (
      joined s.0 (item x.0 no_items),
      one_item _ _ _ s.0 s.1 rest x.0 c.loop-reader-test.ensures.0 x.1 (omega (arith, ap length first, c.in_ok-pass_value.ensures.shorter)),
      strings_more s.0 x.0 ∙ ap₂ with_string s.2 (kind.text ∙ sym c.string_in.ensures) ∙ sym c.in_ok-names.ensures,
    )

pub returns-clause-ok : goal.returns-clause-ok
returns-clause-ok c =
    let s = c.loop-reader.invariant in
    let rest = c.take_end_array.new.self in
    ap (parse_map strings_of) (all_items _ _ _ s.0 s.1 rest c.loop-reader-test.ensures) ∙ ap (λ names. Some (names, rest)) s.2
