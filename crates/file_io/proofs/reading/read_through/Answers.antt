use Rattle.std.proofs.Common.{◌≡◌, ◌+◌, ◌≤◌, ◌++◌, ◌∙◌, [], length, true, false, ℕ, List, take, refl, ap, sym, subst, arith, rules}
use Rattle.std.proofs.lemmas.List.{length-take-le, with_items_is}
use Rattle.std.proofs.lemmas.Result.{err_from_is_err_and}
use Rattle.std.specs.Vec.{with_items}
use Rattle.file_io.proofs.Handed.{fails_within, no_memory_within}
use Rattle.file_io.proofs.Through.{begin_through, through_more, part_end, made_end, through_over}
use Rattle.file_io.proofs.reading.read_through.Goals as goal

pub loop-total-init : goal.loop-total-init
loop-total-init g c = record {
  within = omega arith;
  few = omega arith;
  small = c.requires.limit;
  told = refl;
  chosen = c.requires.chosen;
  content = λ other. refl;
  through = ([], begin_through _ _ _);
}

pub returns-in_err-finish-clause-taken : goal.returns-in_err-finish-clause-taken
returns-in_err-finish-clause-taken g c =
    let before = c.loop-total.invariant.through in
    let part = part_end _ _ _ _ _ _ _ before.0 _ _ _ _ before.1 c.read_on.ensures.front _ _ c.in_ok-n.ensures.read c.in_ok-n.ensures.taken c.if-n-eq0.true c.in_ok-n.ensures.end in
    let p = err_from_is_err_and c.from_residual-in_err-finish.result c.from_residual-in_err-finish.ensures.1 in
    (before.0, true, part, rw p.1 tt, no_memory_within _ _ _ _ p)

pub returns-then-n-eq0-clause-taken : goal.returns-then-n-eq0-clause-taken
returns-then-n-eq0-clause-taken g c =
    let before = c.loop-total.invariant.through in
    let part = part_end _ _ _ _ _ _ _ before.0 _ _ _ _ before.1 c.read_on.ensures.front _ _ c.in_ok-n.ensures.read c.in_ok-n.ensures.taken c.if-n-eq0.true c.in_ok-n.ensures.end in
    let finished : g.T.Taker.makes c.loop-total.taker (take c.loop-total.filled c.read_on.new.bytes.items) c.in_ok-finish.field-0 =
    subst (λ text. g.T.Taker.makes c.loop-total.taker (take c.loop-total.filled text) c.in_ok-finish.field-0) c.deref.ensures.value c.in_ok-finish.ensures in
    let made = made_end _ _ _ _ _ _ _ before.0 _ _ _ _ before.1 c.read_on.ensures.front _ _ c.in_ok-n.ensures.read c.in_ok-n.ensures.taken c.args.limit c.in_ok-finish.field-0 c.loop-total-test.true finished in
    (before.0, true, part, made, tt)

pub returns-in_err-next-clause-taken : goal.returns-in_err-next-clause-taken
returns-in_err-next-clause-taken g c =
    let before = c.loop-total.invariant.through in
    let room : c.loop-total.filled + c.in_ok-n.n ≤ length c.read_on.new.bytes.items = omega (arith, c.in_ok-n.ensures.room, c.read_on.new.bytes.ok) in
    let more = through_more _ _ _ _ _ _ _ before.0 _ _ _ _ before.1 c.read_on.ensures.front _ _ c.in_ok-n.ensures.read c.in_ok-n.ensures.taken c.if-n-eq0.false room in
    let p = err_from_is_err_and c.from_residual-in_err-next.result c.from_residual-in_err-next.ensures.1 in
    (_, false, more.part, rw p.1 tt, no_memory_within _ _ _ _ p)

pub loop-total-preserved-then-filled-full : goal.loop-total-preserved-then-filled-full
loop-total-preserved-then-filled-full g c =
    let before = c.loop-total.invariant.through in
    let room : c.loop-total.filled + c.in_ok-n.n ≤ length c.read_on.new.bytes.items = omega (arith, c.in_ok-n.ensures.room, c.read_on.new.bytes.ok) in
    let more = through_more _ _ _ _ _ _ _ before.0 _ _ _ _ before.1 c.read_on.ensures.front _ _ c.in_ok-n.ensures.read c.in_ok-n.ensures.taken c.if-n-eq0.false room in
    let kept : length c.hand_over.new.window ≡ c.read_on.new.bytes.len = omega (arith, c.hand_over.auto.window, c.read_on.new.bytes.ok, ap length c.deref_mut.ensures.value) in
    let moved = with_items_is c.read_on.new.bytes c.hand_over.new.window kept in
    let on = λ (rest : List ℕ) (made : g.row.T-Made.Denot)
    (h : g.T.Taker.makes c.in_ok-next.next (take c.in_ok-next.left (with_items c.read_on.new.bytes c.hand_over.new.window).items ++ rest) made).
    subst (λ text. g.T.Taker.makes c.loop-total.taker (take (c.loop-total.filled + c.in_ok-n.n) text ++ rest) made) c.deref_mut.ensures.value
    (c.in_ok-next.ensures.makes rest made (subst (λ text. g.T.Taker.makes c.in_ok-next.next (take c.in_ok-next.left text ++ rest) made) moved h)) in
    record {
      within = omega (arith, c.in_ok-next.ensures.left, c.in_ok-n.ensures.room);
      few = omega (arith, c.loop-total.invariant.few, c.in_ok-next.ensures.left);
      small = c.loop-total.invariant.small;
      told = c.in_ok-n.ensures.told ∙ c.loop-total.invariant.told;
      chosen = c.read_on.ensures.chosen;
      content = λ other. c.read_on.ensures.content other ∙ c.loop-total.invariant.content other;
      through = (_, through_over _ _ _ _ _ _ _ _ _ _ _ more on);
    }

pub loop-total-preserved : goal.loop-total-preserved
loop-total-preserved g c =
    let before = c.loop-total.invariant.through in
    let room : c.loop-total.filled + c.in_ok-n.n ≤ length c.read_on.new.bytes.items = omega (arith, c.in_ok-n.ensures.room, c.read_on.new.bytes.ok) in
    record {
      within = c.in_ok-n.ensures.room;
      few = omega (arith, c.loop-total.invariant.few);
      small = c.loop-total.invariant.small;
      told = c.in_ok-n.ensures.told ∙ c.loop-total.invariant.told;
      chosen = c.read_on.ensures.chosen;
      content = λ other. c.read_on.ensures.content other ∙ c.loop-total.invariant.content other;
      through = (_, through_more _ _ _ _ _ _ _ before.0 _ _ _ _ before.1 c.read_on.ensures.front _ _ c.in_ok-n.ensures.read c.in_ok-n.ensures.taken c.if-n-eq0.false room);
    }

pub read_on-requires-clause-small : goal.read_on-requires-clause-small
read_on-requires-clause-small g c =
    omega (arith, c.loop-total.invariant.few, c.loop-total.invariant.small, c.loop-total-test.true)

pub returns-in_err-n-clause-content : goal.returns-in_err-n-clause-content
returns-in_err-n-clause-content g c =
    λ other. c.read_on.ensures.content other ∙ c.loop-total.invariant.content other

pub returns-in_err-finish-clause-content : goal.returns-in_err-finish-clause-content
returns-in_err-finish-clause-content g c =
    λ other. c.read_on.ensures.content other ∙ c.loop-total.invariant.content other

pub returns-then-n-eq0-clause-content : goal.returns-then-n-eq0-clause-content
returns-then-n-eq0-clause-content g c =
    λ other. c.read_on.ensures.content other ∙ c.loop-total.invariant.content other

pub returns-in_err-next-clause-content : goal.returns-in_err-next-clause-content
returns-in_err-next-clause-content g c =
    λ other. c.read_on.ensures.content other ∙ c.loop-total.invariant.content other

pub slice_bounds-finish-end : goal.slice_bounds-finish-end
slice_bounds-finish-end g c =
    sym (length-take-le _ _ (omega (arith, c.deref.ensures.len, c.in_ok-n.ensures.room)))

pub returns-then-n-eq0-clause-told : goal.returns-then-n-eq0-clause-told
returns-then-n-eq0-clause-told g c =
    c.in_ok-n.ensures.told ∙ c.loop-total.invariant.told

pub returns-then-n-eq0-clause-cause : goal.returns-then-n-eq0-clause-cause
returns-then-n-eq0-clause-cause g c =
    record { later = omega (arith, c.in_ok-n.ensures.told, c.loop-total.invariant.told); failed = tt }

pub hand_over-requires : goal.hand_over-requires
hand_over-requires g c =
    omega (arith, c.deref_mut.ensures.len, c.in_ok-n.ensures.room)

pub overflow_add-filled : goal.overflow_add-filled
overflow_add-filled g c =
    omega (arith, c.in_ok-n.ensures.room, c.read_on.new.bytes.small)

pub loop-total-smaller : goal.loop-total-smaller
loop-total-smaller g c =
    omega (arith, c.if-n-eq0.false, c.loop-total-test.true)

pub loop-total-smaller-then-filled-full : goal.loop-total-smaller-then-filled-full
loop-total-smaller-then-filled-full g c =
    omega (arith, c.if-n-eq0.false, c.loop-total-test.true)

pub overflow_mul-filled : goal.overflow_mul-filled
overflow_mul-filled g c =
    omega (arith, c.in_ok-next.ensures.left, c.in_ok-n.ensures.room, c.read_on.new.bytes.small)

pub overflow_add-total : goal.overflow_add-total
overflow_add-total g c =
    omega (arith, c.in_ok-n.ensures.room, c.read_on.new.bytes.small, c.loop-total-test.true, c.requires.limit)

pub returns-clause-cause : goal.returns-clause-cause
returns-clause-cause g c =
    record { later = omega (arith, c.loop-total.invariant.told); failed = tt }

pub returns-clause-taken : goal.returns-clause-taken
returns-clause-taken g c =
    let before = c.loop-total.invariant.through in
    (before.0, false, before.1.part, omega (arith, before.1.count, c.loop-total-test.false), tt)

pub returns-in_err-n-clause-taken : goal.returns-in_err-n-clause-taken
returns-in_err-n-clause-taken g c =
    let before = c.loop-total.invariant.through in
    let fails = fails_within c.args.limit before.0 c.from_residual.result (omega (arith, before.1.count, c.loop-total-test.true)) in
    search (rules, fails, before.1.part)
