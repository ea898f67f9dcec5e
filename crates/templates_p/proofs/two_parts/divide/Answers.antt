use Rattle.std.proofs.Common.{inl, inr, arith}
use Rattle.pq_arena.specs.RowNodes.{indices}
use Rattle.template_model.proofs.Spare.{five_spare}
use Rattle.templates_p.proofs.Dividing.{CanOpen, can_open, can_part, is_child, line_hangs, node_leaves, part_joins, group_joins, both_joined, can_splice, divided_before, divided_behind}
use Rattle.templates_p.proofs.two_parts.divide.Goals as goal

pub take-line-requires-clause-some : goal.take-line-requires-clause-some
take-line-requires-clause-some g c =
    omega (arith, five_spare c.args.arena.now c.layout_law.ensures c.requires.one c.requires.two)

pub part_off-group-requires-clause-members : goal.part_off-group-requires-clause-members
part_off-group-requires-clause-members g c =
    let p = c.requires.place in
    let o : CanOpen c.args.arena.now p.q c.args.node.index c.take-line.result.index (indices c.args.members.now) = can_open c.args.arena.now p.q c.args.node.index c.take-line.result.index (indices c.args.members.now) c.layout_law.ensures
    c.requires.one c.requires.two c.requires.members p.is_q (is_child c.args.arena.now p.q c.args.node.index c.args.beside.index p.us p.vs p.place) c.take-line.ensures.first in
    (can_part c.args.arena.now c.take-line.new.self p.q c.args.node.index c.take-line.result.index (indices c.args.members.now) o c.requires.one c.requires.two c.take-line.ensures.taken).some

pub part_off-group-requires-clause-above : goal.part_off-group-requires-clause-above
part_off-group-requires-clause-above g c =
    let p = c.requires.place in
    let o : CanOpen c.args.arena.now p.q c.args.node.index c.take-line.result.index (indices c.args.members.now) = can_open c.args.arena.now p.q c.args.node.index c.take-line.result.index (indices c.args.members.now) c.layout_law.ensures
    c.requires.one c.requires.two c.requires.members p.is_q (is_child c.args.arena.now p.q c.args.node.index c.args.beside.index p.us p.vs p.place) c.take-line.ensures.first in
    (can_part c.args.arena.now c.take-line.new.self p.q c.args.node.index c.take-line.result.index (indices c.args.members.now) o c.requires.one c.requires.two c.take-line.ensures.taken).above

pub part_off-group-requires-clause-some : goal.part_off-group-requires-clause-some
part_off-group-requires-clause-some g c =
    let p = c.requires.place in
    let o : CanOpen c.args.arena.now p.q c.args.node.index c.take-line.result.index (indices c.args.members.now) = can_open c.args.arena.now p.q c.args.node.index c.take-line.result.index (indices c.args.members.now) c.layout_law.ensures
    c.requires.one c.requires.two c.requires.members p.is_q (is_child c.args.arena.now p.q c.args.node.index c.args.beside.index p.us p.vs p.place) c.take-line.ensures.first in
    (can_part c.args.arena.now c.take-line.new.self p.q c.args.node.index c.take-line.result.index (indices c.args.members.now) o c.requires.one c.requires.two c.take-line.ensures.taken).spare

pub replace-requires-clause-alone : goal.replace-requires-clause-alone
replace-requires-clause-alone g c =
    let p = c.requires.place in
    let o : CanOpen c.args.arena.now p.q c.args.node.index c.take-line.result.index (indices c.args.members.now) = can_open c.args.arena.now p.q c.args.node.index c.take-line.result.index (indices c.args.members.now) c.layout_law.ensures
    c.requires.one c.requires.two c.requires.members p.is_q (is_child c.args.arena.now p.q c.args.node.index c.args.beside.index p.us p.vs p.place) c.take-line.ensures.first in
    (line_hangs o c.layout_law-3.ensures c.take-line.ensures.taken c.part_off-group.ensures.off).alone

pub replace-requires-clause-apart : goal.replace-requires-clause-apart
replace-requires-clause-apart g c =
    let p = c.requires.place in
    let o : CanOpen c.args.arena.now p.q c.args.node.index c.take-line.result.index (indices c.args.members.now) = can_open c.args.arena.now p.q c.args.node.index c.take-line.result.index (indices c.args.members.now) c.layout_law.ensures
    c.requires.one c.requires.two c.requires.members p.is_q (is_child c.args.arena.now p.q c.args.node.index c.args.beside.index p.us p.vs p.place) c.take-line.ensures.first in
    (line_hangs o c.layout_law-3.ensures c.take-line.ensures.taken c.part_off-group.ensures.off).no_way

pub one_left-rest-requires-clause-alone : goal.one_left-rest-requires-clause-alone
one_left-rest-requires-clause-alone g c =
    let p = c.requires.place in
    let o : CanOpen c.args.arena.now p.q c.args.node.index c.take-line.result.index (indices c.args.members.now) = can_open c.args.arena.now p.q c.args.node.index c.take-line.result.index (indices c.args.members.now) c.layout_law.ensures
    c.requires.one c.requires.two c.requires.members p.is_q (is_child c.args.arena.now p.q c.args.node.index c.args.beside.index p.us p.vs p.place) c.take-line.ensures.first in
    (node_leaves o c.layout_law-3.ensures c.take-line.ensures.taken c.part_off-group.ensures.off c.layout_law-4.ensures c.replace.ensures.child).alone

pub one_left-rest-requires-clause-is_p : goal.one_left-rest-requires-clause-is_p
one_left-rest-requires-clause-is_p g c =
    let p = c.requires.place in
    let o : CanOpen c.args.arena.now p.q c.args.node.index c.take-line.result.index (indices c.args.members.now) = can_open c.args.arena.now p.q c.args.node.index c.take-line.result.index (indices c.args.members.now) c.layout_law.ensures
    c.requires.one c.requires.two c.requires.members p.is_q (is_child c.args.arena.now p.q c.args.node.index c.args.beside.index p.us p.vs p.place) c.take-line.ensures.first in
    (node_leaves o c.layout_law-3.ensures c.take-line.ensures.taken c.part_off-group.ensures.off c.layout_law-4.ensures c.replace.ensures.child).is_p

pub one_left-rest-requires-clause-some : goal.one_left-rest-requires-clause-some
one_left-rest-requires-clause-some g c =
    let p = c.requires.place in
    let o : CanOpen c.args.arena.now p.q c.args.node.index c.take-line.result.index (indices c.args.members.now) = can_open c.args.arena.now p.q c.args.node.index c.take-line.result.index (indices c.args.members.now) c.layout_law.ensures
    c.requires.one c.requires.two c.requires.members p.is_q (is_child c.args.arena.now p.q c.args.node.index c.args.beside.index p.us p.vs p.place) c.take-line.ensures.first in
    (node_leaves o c.layout_law-3.ensures c.take-line.ensures.taken c.part_off-group.ensures.off c.layout_law-4.ensures c.replace.ensures.child).some

pub put_end-requires-clause-q : goal.put_end-requires-clause-q
put_end-requires-clause-q g c =
    let p = c.requires.place in
    let o : CanOpen c.args.arena.now p.q c.args.node.index c.take-line.result.index (indices c.args.members.now) = can_open c.args.arena.now p.q c.args.node.index c.take-line.result.index (indices c.args.members.now) c.layout_law.ensures
    c.requires.one c.requires.two c.requires.members p.is_q (is_child c.args.arena.now p.q c.args.node.index c.args.beside.index p.us p.vs p.place) c.take-line.ensures.first in
    (part_joins o c.layout_law-3.ensures c.take-line.ensures.taken c.part_off-group.ensures.off c.layout_law-4.ensures c.replace.ensures.child c.layout_law-5.ensures c.one_left-rest.ensures.left).shape

pub put_end-requires-clause-n : goal.put_end-requires-clause-n
put_end-requires-clause-n g c =
    let p = c.requires.place in
    let o : CanOpen c.args.arena.now p.q c.args.node.index c.take-line.result.index (indices c.args.members.now) = can_open c.args.arena.now p.q c.args.node.index c.take-line.result.index (indices c.args.members.now) c.layout_law.ensures
    c.requires.one c.requires.two c.requires.members p.is_q (is_child c.args.arena.now p.q c.args.node.index c.args.beside.index p.us p.vs p.place) c.take-line.ensures.first in
    (part_joins o c.layout_law-3.ensures c.take-line.ensures.taken c.part_off-group.ensures.off c.layout_law-4.ensures c.replace.ensures.child c.layout_law-5.ensures c.one_left-rest.ensures.left).alone

pub put_end-requires-clause-apart : goal.put_end-requires-clause-apart
put_end-requires-clause-apart g c =
    let p = c.requires.place in
    let o : CanOpen c.args.arena.now p.q c.args.node.index c.take-line.result.index (indices c.args.members.now) = can_open c.args.arena.now p.q c.args.node.index c.take-line.result.index (indices c.args.members.now) c.layout_law.ensures
    c.requires.one c.requires.two c.requires.members p.is_q (is_child c.args.arena.now p.q c.args.node.index c.args.beside.index p.us p.vs p.place) c.take-line.ensures.first in
    (part_joins o c.layout_law-3.ensures c.take-line.ensures.taken c.part_off-group.ensures.off c.layout_law-4.ensures c.replace.ensures.child c.layout_law-5.ensures c.one_left-rest.ensures.left).no_way

pub put_end-requires-2-clause-q : goal.put_end-requires-2-clause-q
put_end-requires-2-clause-q g c =
    let p = c.requires.place in
    let o : CanOpen c.args.arena.now p.q c.args.node.index c.take-line.result.index (indices c.args.members.now) = can_open c.args.arena.now p.q c.args.node.index c.take-line.result.index (indices c.args.members.now) c.layout_law.ensures
    c.requires.one c.requires.two c.requires.members p.is_q (is_child c.args.arena.now p.q c.args.node.index c.args.beside.index p.us p.vs p.place) c.take-line.ensures.first in
    (group_joins o c.layout_law-3.ensures c.take-line.ensures.taken c.part_off-group.ensures.off c.layout_law-4.ensures c.replace.ensures.child c.layout_law-5.ensures c.one_left-rest.ensures.left c.layout_law-6.ensures c.put_end.ensures.changed).shape

pub put_end-requires-2-clause-n : goal.put_end-requires-2-clause-n
put_end-requires-2-clause-n g c =
    let p = c.requires.place in
    let o : CanOpen c.args.arena.now p.q c.args.node.index c.take-line.result.index (indices c.args.members.now) = can_open c.args.arena.now p.q c.args.node.index c.take-line.result.index (indices c.args.members.now) c.layout_law.ensures
    c.requires.one c.requires.two c.requires.members p.is_q (is_child c.args.arena.now p.q c.args.node.index c.args.beside.index p.us p.vs p.place) c.take-line.ensures.first in
    (group_joins o c.layout_law-3.ensures c.take-line.ensures.taken c.part_off-group.ensures.off c.layout_law-4.ensures c.replace.ensures.child c.layout_law-5.ensures c.one_left-rest.ensures.left c.layout_law-6.ensures c.put_end.ensures.changed).alone

pub put_end-requires-2-clause-apart : goal.put_end-requires-2-clause-apart
put_end-requires-2-clause-apart g c =
    let p = c.requires.place in
    let o : CanOpen c.args.arena.now p.q c.args.node.index c.take-line.result.index (indices c.args.members.now) = can_open c.args.arena.now p.q c.args.node.index c.take-line.result.index (indices c.args.members.now) c.layout_law.ensures
    c.requires.one c.requires.two c.requires.members p.is_q (is_child c.args.arena.now p.q c.args.node.index c.args.beside.index p.us p.vs p.place) c.take-line.ensures.first in
    (group_joins o c.layout_law-3.ensures c.take-line.ensures.taken c.part_off-group.ensures.off c.layout_law-4.ensures c.replace.ensures.child c.layout_law-5.ensures c.one_left-rest.ensures.left c.layout_law-6.ensures c.put_end.ensures.changed).no_way

pub splice-requires-clause-place : goal.splice-requires-clause-place
splice-requires-clause-place g c =
    let p = c.requires.place in
    let o : CanOpen c.args.arena.now p.q c.args.node.index c.take-line.result.index (indices c.args.members.now) = can_open c.args.arena.now p.q c.args.node.index c.take-line.result.index (indices c.args.members.now) c.layout_law.ensures
    c.requires.one c.requires.two c.requires.members p.is_q (is_child c.args.arena.now p.q c.args.node.index c.args.beside.index p.us p.vs p.place) c.take-line.ensures.first in
    can_splice _ _ _ _ _ _ _ _ _ _ c.args.beside p.us p.vs o (both_joined o c.layout_law-3.ensures c.take-line.ensures.taken c.part_off-group.ensures.off c.layout_law-4.ensures c.replace.ensures.child c.layout_law-5.ensures c.one_left-rest.ensures.left c.layout_law-6.ensures c.put_end.ensures.changed c.layout_law-7.ensures c.put_end-2.ensures.changed) p.place

pub returns-clause-before : goal.returns-clause-before
returns-clause-before g c = λ q us vs is_q e.
    let o : CanOpen c.args.arena.now q c.args.node.index c.take-line.result.index (indices c.args.members.now) = can_open c.args.arena.now q c.args.node.index c.take-line.result.index (indices c.args.members.now) c.layout_law.ensures
    c.requires.one c.requires.two c.requires.members is_q (is_child c.args.arena.now q c.args.node.index c.args.beside.index us vs (inl e)) c.take-line.ensures.first in
    divided_before _ _ _ _ _ _ _ _ _ _ _ c.args.beside us vs o (both_joined o c.layout_law-3.ensures c.take-line.ensures.taken c.part_off-group.ensures.off c.layout_law-4.ensures c.replace.ensures.child c.layout_law-5.ensures c.one_left-rest.ensures.left c.layout_law-6.ensures c.put_end.ensures.changed c.layout_law-7.ensures c.put_end-2.ensures.changed)
    c.layout_law-8.ensures c.requires.one c.requires.two e c.splice.ensures.behind

pub returns-clause-behind : goal.returns-clause-behind
returns-clause-behind g c = λ q us vs is_q e.
    let o : CanOpen c.args.arena.now q c.args.node.index c.take-line.result.index (indices c.args.members.now) = can_open c.args.arena.now q c.args.node.index c.take-line.result.index (indices c.args.members.now) c.layout_law.ensures
    c.requires.one c.requires.two c.requires.members is_q (is_child c.args.arena.now q c.args.node.index c.args.beside.index us vs (inr e)) c.take-line.ensures.first in
    divided_behind _ _ _ _ _ _ _ _ _ _ _ c.args.beside us vs o (both_joined o c.layout_law-3.ensures c.take-line.ensures.taken c.part_off-group.ensures.off c.layout_law-4.ensures c.replace.ensures.child c.layout_law-5.ensures c.one_left-rest.ensures.left c.layout_law-6.ensures c.put_end.ensures.changed c.layout_law-7.ensures c.put_end-2.ensures.changed)
    c.layout_law-8.ensures c.requires.one c.requires.two e c.splice.ensures.before
