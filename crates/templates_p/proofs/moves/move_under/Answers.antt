use Rattle.std.proofs.Common.{◌≡◌, ◌+◌, ℕ, List, [], ◌∷◌, take, get_or, ap, sym, subst, ◌∙◌, arith}
use Rattle.std.proofs.lemmas.List.{take_all}
use Rattle.arena_model.specs.declared.Shape.TheVariants.{P}
use Rattle.arena_model.specs.Layout.{Layout, StandsAlone, children_at, taken, with_children}
use Rattle.pq_arena.specs.declared.node.NodeId.{NodeId}
use Rattle.pq_arena.specs.RowNodes.{indices}
use Rattle.templates_p.specs.Steps.{Moved, moved_under}
use Rattle.templates_p.proofs.Moving.{moved_none}
use Rattle.templates_p.proofs.Members.{next_moves, next_moved, member_ready}
use Rattle.templates_p.proofs.moves.move_under.Goals as goal

pub loop-member-init : goal.loop-member-init
loop-member-init g c =
    let f : Layout = c.args.arena.now in
    let n : ℕ = c.args.node.index in
    let x : ℕ = c.take-group.result.index in
    let m : Moved f (taken f x P) n x [] = moved_none f n x c.layout_law.ensures c.requires.members.is_p c.requires.above c.requires.some
    c.take-group.ensures.first (subst (λ z. StandsAlone z x) c.take-group.ensures.taken c.take-group.ensures.alone) in
    record {
      moved = subst (λ z. Moved f z n x []) (sym c.take-group.ensures.taken) m;
      ticks = omega (arith, c.take-group.ensures.ticks);
    }

pub detach-requires : goal.detach-requires
detach-requires g c =
    let can = next_moves c.args.arena.now c.loop-member.arena c.args.node.index c.take-group.result.index c.args.members.now c.loop-member.member-index (record { index = 0 })
    c.loop-member-test.true c.requires.members c.loop-member.invariant.moved in
    (c.args.node.index, can.from, can.child)

pub attach-requires-clause-p : goal.attach-requires-clause-p
attach-requires-clause-p g c =
    (member_ready _ _ _ c.args.node.index c.take-group.result.index c.args.members.now c.loop-member.member-index (record { index = 0 }) c.layout_law-in-loop-member.ensures c.loop-member-test.true c.requires.members
    c.loop-member.invariant.moved c.detach.ensures.changed).to

pub attach-requires-clause-n : goal.attach-requires-clause-n
attach-requires-clause-n g c =
    (member_ready _ _ _ c.args.node.index c.take-group.result.index c.args.members.now c.loop-member.member-index (record { index = 0 }) c.layout_law-in-loop-member.ensures c.loop-member-test.true c.requires.members
    c.loop-member.invariant.moved c.detach.ensures.changed).alone

pub attach-requires-clause-apart : goal.attach-requires-clause-apart
attach-requires-clause-apart g c =
    (member_ready _ _ _ c.args.node.index c.take-group.result.index c.args.members.now c.loop-member.member-index (record { index = 0 }) c.layout_law-in-loop-member.ensures c.loop-member-test.true c.requires.members
    c.loop-member.invariant.moved c.detach.ensures.changed).no_way

pub loop-member-preserved : goal.loop-member-preserved
loop-member-preserved g c =
    let f : Layout = c.args.arena.now in
    let n : ℕ = c.args.node.index in
    let x : ℕ = c.take-group.result.index in
    let ms : List NodeId = c.args.members.now in
    let i : ℕ = c.loop-member.member-index in
    let y : NodeId = get_or ms i (record { index = 0 }) in
    let can = next_moves f c.loop-member.arena n x ms i (record { index = 0 }) c.loop-member-test.true c.requires.members c.loop-member.invariant.moved in
    let e : c.attach.new.self ≡ moved_under c.loop-member.arena n x y.index =
    c.attach.ensures.changed ∙ ap (λ z. with_children z x (y.index ∷ children_at z x)) (c.detach.ensures.changed n can.from can.child) in
    record {
      moved = subst (λ z. Moved f z n x (indices (take (i + 1) ms))) (sym e)
          (next_moved f c.loop-member.arena n x ms i (record { index = 0 }) c.loop-member-test.true c.requires.members c.layout_law-in-loop-member.ensures c.loop-member.invariant.moved);
      ticks = omega (arith, c.loop-member.invariant.ticks, c.detach.ensures.ticks, c.attach.ensures.ticks);
    }

pub returns-clause-moved : goal.returns-clause-moved
returns-clause-moved g c = subst (λ ks. Moved c.args.arena.now c.loop-member.arena c.args.node.index c.take-group.result.index (indices ks))
    (take_all c.loop-member.member-index c.args.members.now c.loop-member-test.false) c.loop-member.invariant.moved
