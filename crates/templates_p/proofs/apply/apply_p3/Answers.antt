use Rattle.std.proofs.Common.{ℕ, sym, arith, ◌∙◌}
use Rattle.arena_model.specs.Layout.{Layout}
use Rattle.bubble_pass.specs.Marks.{Marks}
use Rattle.template_model.proofs.Spare.{five_spare}
use Rattle.templates_p.proofs.Composing.{composed}
use Rattle.templates_p.proofs.FullEnd.{same_room}
use Rattle.templates_p.proofs.Starting.{p3_can_gather, p3_full, p3_no_partial, can_start, started_can_lift, p3_treated, p3_becomes, same_slots}
use Rattle.templates_p.proofs.apply.apply_p3.Goals as goal

pub gather-requires : goal.gather-requires
gather-requires g c = p3_can_gather c.args.arena.now c.args.work.now c.args.node.index c.requires.ready c.requires.stands

pub unreachable-requires : goal.unreachable-requires
unreachable-requires g c = p3_full c.args.arena.now c.args.work.now c.args.node.index c.requires.stands c.in_default.ensures.gathered.0

pub start_line-line-requires-clause-child : goal.start_line-line-requires-clause-child
start_line-line-requires-clause-child g c = can_start c.args.arena.now c.gather.new.arena c.args.work.now c.gather.new.work c.args.node.index c.in-Some.full.index
    c.gather.ensures.treated c.in-Some.ensures.gathered

pub start_line-line-requires-clause-some : goal.start_line-line-requires-clause-some
start_line-line-requires-clause-some g c = omega (arith, five_spare c.gather.new.arena c.layout_law-2.ensures c.gather.ensures.treated.arena.one c.gather.ensures.treated.arena.two)

pub lift_line-requires-clause-can : goal.lift_line-requires-clause-can
lift_line-requires-clause-can g c =
    let f : Layout = c.args.arena.now in
    let h : Layout = c.gather.new.arena in
    let i : Layout = c.start_line-line.new.arena in
    let w : Marks = c.gather.new.work in
    let n : ℕ = c.args.node.index in
    started_can_lift f h i c.args.work.now w n c.in-Some.full.index c.start_line-line.result.index c.layout_law-2.ensures c.in-Some.ensures.gathered
    (p3_no_partial f c.args.work.now n c.requires.stands) c.start_line-line.ensures.started c.gather.ensures.treated.arena.two
    (same_room f h c.args.work.now w n n c.layout_law.ensures c.layout_law-2.ensures c.requires.ready.room c.gather.ensures.treated
    ∙ sym (same_slots h i c.layout_law-2.ensures c.layout_law-3.ensures c.start_line-line.ensures.started.columns))

pub returns-clause-treated : goal.returns-clause-treated
returns-clause-treated g c =
    let f : Layout = c.args.arena.now in
    let h : Layout = c.gather.new.arena in
    let i : Layout = c.start_line-line.new.arena in
    let j : Layout = c.lift_line.new.arena in
    let v : Marks = c.args.work.now in
    let w : Marks = c.gather.new.work in
    let x : Marks = c.lift_line.new.work in
    let n : ℕ = c.args.node.index in
    let q : ℕ = c.start_line-line.result.index in
    composed f h j v w x n q c.layout_law.ensures c.layout_law-2.ensures c.layout_law-4.ensures c.gather.ensures.treated
    (p3_treated f h i v w n c.in-Some.full.index q c.layout_law-2.ensures c.in-Some.ensures.gathered (p3_no_partial f v n c.requires.stands) c.start_line-line.ensures.started
    j x 0 c.layout_law-4.ensures c.gather.ensures.treated.arena.one c.gather.ensures.treated.arena.two c.lift_line.ensures.parted)

pub returns-clause-becomes : goal.returns-clause-becomes
returns-clause-becomes g c = λ ps z marked shapes three.
    let f : Layout = c.args.arena.now in
    let h : Layout = c.gather.new.arena in
    let v : Marks = c.args.work.now in
    let w : Marks = c.gather.new.work in
    let n : ℕ = c.args.node.index in
    p3_becomes f h c.start_line-line.new.arena v w n c.in-Some.full.index c.start_line-line.result.index c.layout_law-2.ensures c.in-Some.ensures.gathered
    (p3_no_partial f v n c.requires.stands) c.start_line-line.ensures.started c.lift_line.new.arena c.lift_line.new.work ps z c.layout_law-4.ensures c.lift_line.ensures.parted
    marked three
