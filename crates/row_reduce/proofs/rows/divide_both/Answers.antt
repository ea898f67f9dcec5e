use Rattle.std.proofs.Common.{refl}
use Rattle.row_reduce.proofs.BetweenDone.{asked_between, between_named, between_some, between_place, first_replaced, second_some, second_place, between_taken}
use Rattle.row_reduce.proofs.rows.divide_both.Goals as goal

pub divide-requires-clause-members : goal.divide-requires-clause-members
divide-requires-clause-members g c = between_some (between_named {js = c.args.full.now.others} c.members.ensures refl c.requires.found.1).found

pub divide-requires-clause-place : goal.divide-requires-clause-place
divide-requires-clause-place g c = between_place c.requires.found.1.found

pub divide-requires-2-clause-one : goal.divide-requires-2-clause-one
divide-requires-2-clause-one g c =
    let b = between_named c.members.ensures c.others.ensures c.requires.found.1 in
    (first_replaced (asked_between c.layout_law.ensures c.requires.one c.requires.two b) b.found (record { before = c.divide.ensures.before; behind = c.divide.ensures.behind })).one

pub divide-requires-2-clause-two : goal.divide-requires-2-clause-two
divide-requires-2-clause-two g c =
    let b = between_named c.members.ensures c.others.ensures c.requires.found.1 in
    (first_replaced (asked_between c.layout_law.ensures c.requires.one c.requires.two b) b.found (record { before = c.divide.ensures.before; behind = c.divide.ensures.behind })).two

pub divide-requires-2-clause-members : goal.divide-requires-2-clause-members
divide-requires-2-clause-members g c =
    let b = between_named c.members.ensures c.others.ensures c.requires.found.1 in
    second_some (asked_between c.layout_law.ensures c.requires.one c.requires.two b) b.found c.layout_law-2.ensures (record { before = c.divide.ensures.before; behind = c.divide.ensures.behind })

pub divide-requires-2-clause-place : goal.divide-requires-2-clause-place
divide-requires-2-clause-place g c =
    let b = between_named c.members.ensures c.others.ensures c.requires.found.1 in
    second_place (asked_between c.layout_law.ensures c.requires.one c.requires.two b) b.found (record { before = c.divide.ensures.before; behind = c.divide.ensures.behind })

pub returns-clause-outcome : goal.returns-clause-outcome
returns-clause-outcome g c = λ row found.
    between_taken c.layout_law.ensures c.requires.one c.requires.two c.turned_law.ensures.root (between_named c.members.ensures c.others.ensures found) c.layout_law-2.ensures c.layout_law-3.ensures
    (record { before = c.divide.ensures.before; behind = c.divide.ensures.behind }) (record { before = c.divide-2.ensures.before; behind = c.divide-2.ensures.behind })
