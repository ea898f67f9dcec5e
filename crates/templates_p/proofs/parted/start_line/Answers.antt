use Rattle.templates_p.proofs.Starting.{may_stand, stands_placed}
use Rattle.templates_p.proofs.parted.start_line.Goals as goal

pub replace-requires-clause-used : goal.replace-requires-clause-used
replace-requires-clause-used g c = (may_stand c.args.arena.now c.take-line.new.self c.args.node.index c.args.full.index c.take-line.result.index c.layout_law.ensures c.layout_law-2.ensures
    c.requires.child c.requires.some c.take-line.ensures.first c.take-line.ensures.taken c.take-line.ensures.alone).used

pub replace-requires-clause-apart : goal.replace-requires-clause-apart
replace-requires-clause-apart g c = (may_stand c.args.arena.now c.take-line.new.self c.args.node.index c.args.full.index c.take-line.result.index c.layout_law.ensures c.layout_law-2.ensures
    c.requires.child c.requires.some c.take-line.ensures.first c.take-line.ensures.taken c.take-line.ensures.alone).no_way

pub put_end-requires-clause-q : goal.put_end-requires-clause-q
put_end-requires-clause-q g c = (stands_placed c.args.arena.now c.take-line.new.self c.replace.new.self c.args.node.index c.args.full.index c.take-line.result.index c.layout_law.ensures c.layout_law-2.ensures
    c.requires.child c.requires.some c.take-line.ensures.first c.take-line.ensures.taken c.take-line.ensures.alone
    (c.replace.ensures.child c.args.node.index) c.layout_law-3.ensures).shape

pub put_end-requires-clause-n : goal.put_end-requires-clause-n
put_end-requires-clause-n g c = (stands_placed c.args.arena.now c.take-line.new.self c.replace.new.self c.args.node.index c.args.full.index c.take-line.result.index c.layout_law.ensures c.layout_law-2.ensures
    c.requires.child c.requires.some c.take-line.ensures.first c.take-line.ensures.taken c.take-line.ensures.alone
    (c.replace.ensures.child c.args.node.index) c.layout_law-3.ensures).alone

pub put_end-requires-clause-apart : goal.put_end-requires-clause-apart
put_end-requires-clause-apart g c = (stands_placed c.args.arena.now c.take-line.new.self c.replace.new.self c.args.node.index c.args.full.index c.take-line.result.index c.layout_law.ensures c.layout_law-2.ensures
    c.requires.child c.requires.some c.take-line.ensures.first c.take-line.ensures.taken c.take-line.ensures.alone
    (c.replace.ensures.child c.args.node.index) c.layout_law-3.ensures).no_way

pub returns-clause-started : goal.returns-clause-started
returns-clause-started g c = (stands_placed c.args.arena.now c.take-line.new.self c.replace.new.self c.args.node.index c.args.full.index c.take-line.result.index c.layout_law.ensures c.layout_law-2.ensures
    c.requires.child c.requires.some c.take-line.ensures.first c.take-line.ensures.taken c.take-line.ensures.alone
    (c.replace.ensures.child c.args.node.index) c.layout_law-3.ensures).started
    c.put_end.new.self c.put_end.ensures.changed
