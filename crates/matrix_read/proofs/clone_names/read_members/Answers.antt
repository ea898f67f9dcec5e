use Rattle.std.proofs.Common.{Some, refl, ap, ◌∙◌, arith}
use Rattle.json.specs.Json.{parse_map}
use Rattle.serde_json.specs.Data.{no_members, put}
use Rattle.matrix_read.specs.CloneNames.{member_names}
use Rattle.matrix_read.proofs.MemberLemmas.{fewer_left, none_found, no_key, no_value, one_more, no_more}
use Rattle.matrix_read.proofs.clone_names.read_members.Goals as goal

pub loop-names-init : goal.loop-names-init
loop-names-init c = (no_members, none_found c.args.depth c.args.reader.now, refl)

pub returns-in_err-key-clause-err : goal.returns-in_err-key-clause-err
returns-in_err-key-clause-err c refused =
    let s = c.loop-names.invariant in
    no_key _ _ _ s.0 s.1 c.in_err-key.ensures.value

pub returns-in_err-read_member-clause-err : goal.returns-in_err-read_member-clause-err
returns-in_err-read_member-clause-err c refused =
    let s = c.loop-names.invariant in
    no_value _ _ _ c.next_key.new.self s.0 s.1 c.in-Some.key.now (rw c.in-Some.is at c.in_ok-key.ensures.value) (c.read_member.ensures.err (grind (arith, refused)))

pub loop-names-preserved : goal.loop-names-preserved
loop-names-preserved c =
    let s = c.loop-names.invariant in
    let k = c.in-Some.key.now in
    let m = c.in_ok-read_member.ensures.ok in
    (put k m.value s.0, one_more _ _ _ c.next_key.new.self s.0 s.1 k _ m.value (rw c.in-Some.is at c.in_ok-key.ensures.value) m.is c.in_ok-read_member.ensures.shorter, m.names s.0 s.2)

pub returns-clause-ok : goal.returns-clause-ok
returns-clause-ok c =
    let s = c.loop-names.invariant in
    let rest = c.next_key.new.self in
    ap (parse_map member_names) (no_more _ _ _ rest s.0 s.1 (rw c.in_default.is at c.in_ok-key.ensures.value)) ∙ ap (λ names. Some (names, rest)) s.2

pub loop-names-smaller : goal.loop-names-smaller
loop-names-smaller c =
    fewer_left c.loop-names.reader c.next_key.new.self c.read_member.new.reader c.in-Some.key.now (rw c.in-Some.is at c.in_ok-key.ensures.value) c.in_ok-read_member.ensures.shorter
