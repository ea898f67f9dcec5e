use Rattle.std.proofs.Common.{◌≡◌, List, length, map, slice_index_or, sym, subst, arith}
use Rattle.std.specs.Prelude.{All}
use Rattle.std.proofs.lemmas.List.Elements.{All-map}
use Rattle.std.proofs.lemmas.List.Sorted.{All-permutation}
use Rattle.std.proofs.lemmas.Result.{IfOk-weaker}
use Rattle.std.specs.List.Sorted.{IsPermutation}
use Rattle.bound_tree.specs.declared.side.Side.TheVariants.{Left}
use Rattle.bound_tree.specs.declared.stretch.Stretch.{Stretch}
use Rattle.bound_tree.specs.Free.{IsRoundGap, IsFree}
use Rattle.bound_tree.specs.Sides.{IsFreeFrom, turned_stretch}
use Rattle.bound_tree.proofs.Looks.{looks_on_one_side, looks_on_either_side}
use Rattle.bound_tree.proofs.Loops.{refuted}
use Rattle.bound_tree.proofs.Turned.{free_left, free_right, free_both, round_turned}
use Rattle.bound_tree.proofs.free.are_free.Goals as goal

pub are_free_from-requires-clause-round : goal.are_free_from-requires-clause-round
are_free_from-requires-clause-round g c =
    All-permutation (IsRoundGap (length c.args.gaps.now.order)) c.args.stretches.now c.sort_by_gap.new.stretches c.sort_by_gap.ensures.moved c.requires

pub returns-then-not-branch-clause-free : goal.returns-then-not-branch-clause-free
returns-then-not-branch-clause-free g c =
    λ rows are.
    let o = c.args.gaps.now.order in
    let left = free_left rows o c.args.stretches.now c.sort_by_gap.new.stretches c.sort_by_gap.ensures.moved c.requires in
    refuted c.in_ok-are_free_from.field-0 (All (IsFreeFrom Left rows o) c.sort_by_gap.new.stretches) (All (IsFree rows o) c.args.stretches.now) c.if-not-branch.true
    (c.in_ok-are_free_from.ensures.free rows are) (λ all. left.1 (λ k d l. (all k d l).before))

pub returns-then-not-branch-clause-ticks : goal.returns-then-not-branch-clause-ticks
returns-then-not-branch-clause-ticks g c =
    let ss = c.sort_by_gap.new.stretches in
    omega (arith, c.in_ok-are_free_from.ensures.ticks, looks_on_one_side (length c.args.gaps.now.order) c.args.stretches.now ss ss c.requires c.sort_by_gap.ensures.moved)

pub returns-in_err-are_free_from-clause-ticks : goal.returns-in_err-are_free_from-clause-ticks
returns-in_err-are_free_from-clause-ticks g c =
    let ss = c.sort_by_gap.new.stretches in
    omega (arith, c.in_err-are_free_from.ensures.ticks, looks_on_one_side (length c.args.gaps.now.order) c.args.stretches.now ss ss c.requires c.sort_by_gap.ensures.moved)

pub turn-requires : goal.turn-requires
turn-requires g c =
    subst (λ n. All (IsRoundGap n) c.sort_by_gap.new.stretches) (sym c.columns.ensures.columns)
    (All-permutation (IsRoundGap (length c.args.gaps.now.order)) c.args.stretches.now c.sort_by_gap.new.stretches c.sort_by_gap.ensures.moved c.requires)

pub are_free_from-requires-2-clause-round : goal.are_free_from-requires-2-clause-round
are_free_from-requires-2-clause-round g c =
    let n = length c.args.gaps.now.order in
    let turned : c.turn.new.stretches ≡ map (turned_stretch n) c.sort_by_gap.new.stretches =
    subst (λ m. c.turn.new.stretches ≡ map (turned_stretch m) c.sort_by_gap.new.stretches) c.columns.ensures.columns c.turn.ensures in
    let round = All-permutation (IsRoundGap n) c.args.stretches.now c.sort_by_gap.new.stretches c.sort_by_gap.ensures.moved c.requires in
    All-permutation (IsRoundGap n) c.turn.new.stretches c.sort_by_gap-2.new.stretches c.sort_by_gap-2.ensures.moved
    (subst (All (IsRoundGap n)) (sym turned)
    (All-map (IsRoundGap n) (turned_stretch n) c.sort_by_gap.new.stretches (λ k d l. round_turned n (slice_index_or c.sort_by_gap.new.stretches k d) (round k d l))))

pub returns-clause-ticks : goal.returns-clause-ticks
returns-clause-ticks g c =
    let n = length c.args.gaps.now.order in
    let turned : c.turn.new.stretches ≡ map (turned_stretch n) c.sort_by_gap.new.stretches =
    subst (λ m. c.turn.new.stretches ≡ map (turned_stretch m) c.sort_by_gap.new.stretches) c.columns.ensures.columns c.turn.ensures in
    let moved : IsPermutation (map (turned_stretch n) c.sort_by_gap.new.stretches) c.sort_by_gap-2.new.stretches =
    subst (λ (l : List Stretch). IsPermutation l c.sort_by_gap-2.new.stretches) turned c.sort_by_gap-2.ensures.moved in
    omega (
      arith,
      c.in_ok-are_free_from.ensures.ticks,
      c.are_free_from-2.ensures.ticks,
      looks_on_either_side n c.args.stretches.now c.sort_by_gap.new.stretches c.sort_by_gap-2.new.stretches c.requires c.sort_by_gap.ensures.moved moved,
    )

pub returns-clause-free : goal.returns-clause-free
returns-clause-free g c =
    let o = c.args.gaps.now.order in
    let n = length o in
    let turned : c.turn.new.stretches ≡ map (turned_stretch n) c.sort_by_gap.new.stretches =
    subst (λ m. c.turn.new.stretches ≡ map (turned_stretch m) c.sort_by_gap.new.stretches) c.columns.ensures.columns c.turn.ensures in
    let moved : IsPermutation (map (turned_stretch n) c.sort_by_gap.new.stretches) c.sort_by_gap-2.new.stretches =
    subst (λ (l : List Stretch). IsPermutation l c.sort_by_gap-2.new.stretches) turned c.sort_by_gap-2.ensures.moved in
    IfOk-weaker c.are_free_from-2.result _ _
    (λ yes exact rows are.
    let left = free_left rows o c.args.stretches.now c.sort_by_gap.new.stretches c.sort_by_gap.ensures.moved c.requires in
    let right = free_right rows o c.args.stretches.now c.sort_by_gap.new.stretches c.sort_by_gap-2.new.stretches c.sort_by_gap.ensures.moved c.requires moved in
    let first = (c.in_ok-are_free_from.ensures.free rows are).0 c.if-not-branch.false in (
      λ t. free_both rows o c.args.stretches.now (left.0 first) (right.0 ((exact rows are).0 t)),
      λ all. (exact rows are).1 (right.1 (λ k d l. (all k d l).behind)),
    ))
    c.are_free_from-2.ensures.free
