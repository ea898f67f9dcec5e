use Rattle.templates_p.proofs.Becoming.{p2_can_gather, p2_becomes}
use Rattle.templates_p.proofs.apply.apply_p2.Goals as goal

pub gather-group-requires : goal.gather-group-requires
gather-group-requires g c = p2_can_gather c.args.arena.now c.args.work.now c.args.node.index c.requires.ready c.requires.stands

pub returns-clause-becomes : goal.returns-clause-becomes
returns-clause-becomes g c = λ ps u m s t.
    p2_becomes c.args.arena.now c.gather-group.new.arena c.args.work.now c.gather-group.new.work c.args.node.index c.gather-group.result ps u
    c.layout_law.ensures c.gather-group.ensures.gathered m t
