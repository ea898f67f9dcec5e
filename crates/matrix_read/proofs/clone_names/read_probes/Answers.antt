use Rattle.std.proofs.Common.{Some, refl, ap, ◌∙◌, arith}
use Rattle.json.specs.Json.{parse_map}
use Rattle.serde_json.specs.Data.{no_members, put}
use Rattle.matrix_read.specs.CloneNames.{member_probes}
use Rattle.matrix_read.proofs.MemberLemmas.{fewer_left, none_found, no_key, no_value, one_more, no_more}
use Rattle.matrix_read.proofs.clone_names.read_probes.Goals as goal

pub loop-probes-init : goal.loop-probes-init
loop-probes-init c = (no_members, none_found c.args.depth c.args.reader.now, refl)

pub returns-in_err-key-clause-err : goal.returns-in_err-key-clause-err
returns-in_err-key-clause-err c refused =
    let s = c.loop-probes.invariant in
    no_key _ _ _ s.0 s.1 c.in_err-key.ensures.value

pub returns-in_err-read_probes_at-clause-err : goal.returns-in_err-read_probes_at-clause-err
returns-in_err-read_probes_at-clause-err c refused =
    let s = c.loop-probes.invariant in
    no_value _ _ _ c.next_key.new.self s.0 s.1 c.in-Some.key.now (rw c.in-Some.is at c.in_ok-key.ensures.value) (c.read_probes_at.ensures.err (grind (arith, refused)))

pub loop-probes-preserved : goal.loop-probes-preserved
loop-probes-preserved c =
    let s = c.loop-probes.invariant in
    let k = c.in-Some.key.now in
    let m = c.in_ok-read_probes_at.ensures.ok in
    (put k m.value s.0, one_more _ _ _ c.next_key.new.self s.0 s.1 k _ m.value (rw c.in-Some.is at c.in_ok-key.ensures.value) m.is c.in_ok-read_probes_at.ensures.shorter, m.names s.0 s.2)

pub returns-clause-ok : goal.returns-clause-ok
returns-clause-ok c =
    let s = c.loop-probes.invariant in
    let rest = c.next_key.new.self in
    ap (parse_map member_probes) (no_more _ _ _ rest s.0 s.1 (rw c.in_default.is at c.in_ok-key.ensures.value)) ∙ ap (λ names. Some (names, rest)) s.2

pub loop-probes-smaller : goal.loop-probes-smaller
loop-probes-smaller c =
    fewer_left c.loop-probes.reader c.next_key.new.self c.read_probes_at.new.reader c.in-Some.key.now (rw c.in-Some.is at c.in_ok-key.ensures.value) c.in_ok-read_probes_at.ensures.shorter
