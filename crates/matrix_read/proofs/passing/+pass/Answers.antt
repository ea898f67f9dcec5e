use Rattle.std.proofs.Common.{◌≡◌, ◌-◌, [], ◌∷◌, length, Some, None, sym, ap, ap₂, ◌∙◌, arith}
use Rattle.json.specs.Json.{read_key, value}
use Rattle.json.specs.Reads.{token_of}
use Rattle.json.proofs.Grammar.{left-parse_map, left_some, left_none, value_is, after_end_array-shorter, read_key-shorter}
use Rattle.serde_json.specs.Data.{array, object, no_items, item, no_members, put}
use Rattle.matrix_read.specs.JsonSteps.{value_at, items_at, members_at, behind}
use Rattle.matrix_read.proofs.JsonLemmas.{nothing_at_front, number_passed, number_refused, array_at_front, object_at_front}
use Rattle.matrix_read.proofs.ItemLemmas.{none_read, no_item, one_item, all_items}
use Rattle.matrix_read.proofs.MemberLemmas.{none_found, no_key, no_value, one_more, no_more}
use Rattle.matrix_read.proofs.FileLemmas.{joined}
use Rattle.matrix_read.proofs.passing.+pass.Goals as goal

pub pass_items-loop-reader-init : goal.pass_items-loop-reader-init
pass_items-loop-reader-init t c = (no_items, none_read c.args.depth c.args.reader.now)

pub pass_items-loop-reader-smaller : goal.pass_items-loop-reader-smaller
pass_items-loop-reader-smaller t c = omega (arith, ap length c.loop-reader-test.ensures.1, c.in_ok-pass.ensures.shorter)

pub pass_items-loop-reader-preserved : goal.pass_items-loop-reader-preserved
pass_items-loop-reader-preserved t c =
    let d = c.args.depth in
    let left = c.loop-reader.reader in
    let s = c.loop-reader.invariant in
    let same : c.take_end_array.new.self ≡ left = c.loop-reader-test.ensures.1 in
    let x = left_some (value_at d left) _ (ap (λ ts. behind (value_at d ts)) (sym same) ∙ c.in_ok-pass.ensures.value) in
    (joined s.0 (item x.0 no_items), one_item _ _ _ s.0 s.1 _ x.0 c.loop-reader-test.ensures.0 x.1 (omega (arith, ap length same, c.in_ok-pass.ensures.shorter)))

pub pass_items-returns-in_err-pass-clause-value : goal.pass_items-returns-in_err-pass-clause-value
pass_items-returns-in_err-pass-clause-value t c =
    let d = c.args.depth in
    let left = c.loop-reader.reader in
    let s = c.loop-reader.invariant in
    let same : c.take_end_array.new.self ≡ left = c.loop-reader-test.ensures.1 in
    let none = ap behind (no_item _ _ _ s.0 s.1 c.loop-reader-test.ensures.0 (left_none (value_at d left) (ap (λ ts. behind (value_at d ts)) (sym same) ∙ c.in_err-pass.ensures.value))) in
    grind (arith, none)

pub pass_items-returns-clause-value : goal.pass_items-returns-clause-value
pass_items-returns-clause-value t c = let s = c.loop-reader.invariant in ap behind (all_items _ _ _ s.0 s.1 c.take_end_array.new.self c.loop-reader-test.ensures)

pub pass_items-returns-clause-shorter : goal.pass_items-returns-clause-shorter
pass_items-returns-clause-shorter t c =
    omega (arith, after_end_array-shorter c.loop-reader.reader c.take_end_array.new.self c.loop-reader-test.ensures, c.loop-reader.invariant.1.shorter)

pub pass_members-loop-reader-init : goal.pass_members-loop-reader-init
pass_members-loop-reader-init t c = (no_members, none_found c.args.depth c.args.reader.now)

pub pass_members-returns-in_err-next_key-clause-value : goal.pass_members-returns-in_err-next_key-clause-value
pass_members-returns-in_err-next_key-clause-value t c =
    let s = c.loop-reader.invariant in
    let none = ap behind (no_key _ _ _ s.0 s.1 c.in_err-next_key.ensures.value) in
    grind (arith, none)

pub pass_members-loop-reader-smaller : goal.pass_members-loop-reader-smaller
pass_members-loop-reader-smaller t c =
    let k = c.in-Some.field-0.now in
    let next = c.next_key.new.self in
    let key : read_key c.loop-reader.reader ≡ Some (Some k, next) = (rw c.in-Some.is at c.in_ok-next_key.ensures.value) in
    omega (arith, read_key-shorter c.loop-reader.reader (Some k) next key, c.in_ok-pass.ensures.shorter)

pub pass_members-loop-reader-preserved : goal.pass_members-loop-reader-preserved
pass_members-loop-reader-preserved t c =
    let s = c.loop-reader.invariant in
    let k = c.in-Some.field-0.now in
    let next = c.next_key.new.self in
    let x = left_some (value_at c.args.depth next) _ c.in_ok-pass.ensures.value in
    (put k x.0 s.0, one_more _ _ _ next s.0 s.1 k _ x.0 (rw c.in-Some.is at c.in_ok-next_key.ensures.value) x.1 c.in_ok-pass.ensures.shorter)

pub pass_members-returns-in_err-pass-clause-value : goal.pass_members-returns-in_err-pass-clause-value
pass_members-returns-in_err-pass-clause-value t c =
    let s = c.loop-reader.invariant in
    let next = c.next_key.new.self in
    let nothing = left_none (value_at c.args.depth next) c.in_err-pass.ensures.value in
    let none = ap behind (no_value _ _ _ next s.0 s.1 c.in-Some.field-0.now (rw c.in-Some.is at c.in_ok-next_key.ensures.value) nothing) in
    grind (arith, none)

pub pass_members-returns-clause-value : goal.pass_members-returns-clause-value
pass_members-returns-clause-value t c = let s = c.loop-reader.invariant in ap behind (no_more _ _ _ c.next_key.new.self s.0 s.1 (rw c.in_default.is at c.in_ok-next_key.ensures.value))

pub pass_members-returns-clause-shorter : goal.pass_members-returns-clause-shorter
pass_members-returns-clause-shorter t c =
    omega (arith, read_key-shorter c.loop-reader.reader None c.next_key.new.self (rw c.in_default.is at c.in_ok-next_key.ensures.value), c.loop-reader.invariant.1.shorter)

pub pass_value-returns-then-depth-eq0-clause-value : goal.pass_value-returns-then-depth-eq0-clause-value
unfolding value
pass_value-returns-then-depth-eq0-clause-value t c =
    let none : c.args.depth ≡ 0 = omega arith in
    ap₂ (λ d token. behind (value_at d (token_of token ∷ c.args.reader.now))) none c.in-BeginArray.is

pub pass_value-returns-then-depth-eq0-2-clause-value : goal.pass_value-returns-then-depth-eq0-2-clause-value
unfolding value
pass_value-returns-then-depth-eq0-2-clause-value t c =
    let none : c.args.depth ≡ 0 = omega arith in
    ap₂ (λ d token. behind (value_at d (token_of token ∷ c.args.reader.now))) none c.in-BeginObject.is

pub pass_value-returns-in-String-clause-value : goal.pass_value-returns-in-String-clause-value
pass_value-returns-in-String-clause-value t c = rw (value_is c.args.depth (token_of c.args.token ∷ c.args.reader.now)) (grind arith)

pub pass_value-returns-then-has_value-clause-value : goal.pass_value-returns-then-has_value-clause-value
pass_value-returns-then-has_value-clause-value t c =
    ap (λ token. behind (value_at c.args.depth (token_of token ∷ c.args.reader.now))) c.in-Number.is ∙ number_passed c.args.depth c.in-Number.text.now c.args.reader.now (sym c.if-has_value.ensures)

pub pass_value-returns-else-has_value-clause-value : goal.pass_value-returns-else-has_value-clause-value
pass_value-returns-else-has_value-clause-value t c =
    ap (λ token. behind (value_at c.args.depth (token_of token ∷ c.args.reader.now))) c.in-Number.is ∙ number_refused c.args.depth c.in-Number.text.now c.args.reader.now (sym c.if-has_value.ensures)

pub pass_value-returns-in-EndObject-clause-value : goal.pass_value-returns-in-EndObject-clause-value
pass_value-returns-in-EndObject-clause-value t c = rw (value_is c.args.depth (token_of c.args.token ∷ c.args.reader.now)) (grind arith)

pub pass_value-returns-else-depth-eq0-clause-value : goal.pass_value-returns-else-depth-eq0-clause-value
pass_value-returns-else-depth-eq0-clause-value t c =
    let d = c.args.depth in
    let r = c.args.reader.now in
    let same : behind (value_at d (token_of c.args.token ∷ r)) ≡ behind (items_at (d - 1) (length r) r) =
    ap (λ token. behind (value_at d (token_of token ∷ r))) c.in-BeginArray.is ∙ ap behind (array_at_front d r (omega arith)) ∙ left-parse_map array (items_at (d - 1) (length r) r) in
    rw same c.pass_items.ensures.value

pub pass_value-returns-else-depth-eq0-2-clause-value : goal.pass_value-returns-else-depth-eq0-2-clause-value
pass_value-returns-else-depth-eq0-2-clause-value t c =
    let d = c.args.depth in
    let r = c.args.reader.now in
    let same : behind (value_at d (token_of c.args.token ∷ r)) ≡ behind (members_at (d - 1) (length r) no_members r) =
    ap (λ token. behind (value_at d (token_of token ∷ r))) c.in-BeginObject.is ∙ ap behind (object_at_front d r (omega arith)) ∙ left-parse_map object (members_at (d - 1) (length r) no_members r) in
    rw same c.pass_members.ensures.value

pub pass-returns-in_err-token-clause-value : goal.pass-returns-in_err-token-clause-value
pass-returns-in_err-token-clause-value t c =
    let d = c.args.depth in
    let empty : c.args.reader.now ≡ [] = (rw c.in_err-token.ensures.ok_part at c.next.ensures.value).0 in
    let none : behind (value_at d c.args.reader.now) ≡ None = ap (λ ts. behind (value_at d ts)) empty ∙ ap behind (nothing_at_front d) in
    grind (arith, none)
