use Rattle.std.proofs.Common.{◌≡◌, sym, ◌∙◌, arith}
use Rattle.std.proofs.lemmas.Grind.{common_steps}
use Rattle.bubble_pass.specs.Marks.{partials_at}
use Rattle.template_model.proofs.Unchanged.{unchanged}
use Rattle.templates_q.proofs.Splicing.{spliced_treated}
use Rattle.templates_q.proofs.Making.{line_shape, line_spliced, spliced_becomes, plain_becomes, stands_for}
use Rattle.templates_q.proofs.Plain.{plain_count}
use Rattle.templates_q.proofs.q2.apply_q2.Goals as goal

pub splice_in-requires : goal.splice_in-requires
splice_in-requires g c =
    let f = c.args.arena.now in let w = c.args.work.now in let n = c.args.node.index in
    let l = c.find_line-line.ensures.line in
    let x = line_shape f w n c.find_line-line.result c.requires.stands.0 c.requires.stands.1 c.requires.stands.2 l in
    record { two = c.requires.ready.two; room = c.requires.ready.room; q = n; us = l.us; vs = l.vs; place = l.place; h = x.0; shape = x.1 }

pub returns-clause-treated : goal.returns-clause-treated
returns-clause-treated g c =
    let f = c.args.arena.now in let w = c.args.work.now in let n = c.args.node.index in
    let l = c.find_line-line.ensures.line in
    let x = line_shape f w n c.find_line-line.result c.requires.stands.0 c.requires.stands.1 c.requires.stands.2 l in
    spliced_treated f c.splice_in.new.arena n c.find_line-line.result.child.index l.us _ l.vs
    (line_spliced f c.splice_in.new.arena w n c.find_line-line.result c.layout_law.ensures c.layout_law-2.ensures c.requires.ready.two l c.splice_in.ensures.spliced x.0 x.1) w
    c.requires.ready.one c.requires.ready.two

pub returns-clause-becomes : goal.returns-clause-becomes
returns-clause-becomes g c = λ ps x m s i.
    let f = c.args.arena.now in let w = c.args.work.now in let n = c.args.node.index in
    stands_for c.splice_in.new.arena w n x
    (spliced_becomes f c.splice_in.new.arena w n c.find_line-line.result c.layout_law.ensures c.layout_law-2.ensures c.requires.ready.two c.find_line-line.ensures.line c.splice_in.ensures.spliced ps x m s i)

pub returns-then-counts-eq0-clause-treated : goal.returns-then-counts-eq0-clause-treated
returns-then-counts-eq0-clause-treated g c =
    unchanged c.args.arena.now c.args.work.now c.args.node.index c.layout_law.ensures c.requires.ready.one c.requires.ready.two c.requires.ready.used

pub returns-then-counts-eq0-clause-becomes : goal.returns-then-counts-eq0-clause-becomes
returns-then-counts-eq0-clause-becomes g c = λ ps x m s i.
    let f = c.args.arena.now in let w = c.args.work.now in let n = c.args.node.index in
    let none : partials_at w n ≡ 0 = sym c.counts.ensures.partial ∙ c.if-counts-eq0.true in
    stands_for f w n x (plain_becomes f w n ps x c.requires.stands.3.0 (sym c.requires.ready.right.partial ∙ none) m s i)

pub returns-clause-unchanged : goal.returns-clause-unchanged
returns-clause-unchanged g c = λ plain.
    let none = plain_count c.args.arena.now c.args.work.now c.args.node.index c.requires.ready.right plain in
    absurd (c.if-counts-eq0.false (c.counts.ensures.partial ∙ none))

pub counts-requires : goal.counts-requires
counts-requires g c = grind (arith, common_steps)
