use Rattle.std.proofs.Common.{◌≡◌, subst, ◌∙◌}
use Rattle.templates_q.specs.Opening.{CanOpenCounted}
use Rattle.templates_q.proofs.Opening.{open_one, open_some, open_is_one, opened_one, opened_none}
use Rattle.templates_q.proofs.q3.open_counted.Goals as goal

pub open_next-requires : goal.open_next-requires
open_next-requires g c = let f = c.args.arena.now in let w = c.args.work.now in
    let e : c.args.count ≡ 1 = open_is_one f w c.args.from c.args.count c.requires c.if-count-eq0.false in
    open_one f w c.args.from c.in-Some.x c.layout_law.ensures (subst (λ n. CanOpenCounted f w c.args.from n) e c.requires) c.in-Some.is

pub returns-clause-opened : goal.returns-clause-opened
returns-clause-opened g c = λ q us xs vs gap n. let f = c.args.arena.now in let w = c.args.work.now in
    let e : c.args.count ≡ 1 = open_is_one f w c.args.from c.args.count c.requires c.if-count-eq0.false in
    opened_one f c.open_next.new.arena w q us xs vs c.args.from c.in-Some.x c.layout_law.ensures c.in-Some.is gap (n ∙ e) c.open_next.ensures.opened

pub returns-then-count-eq0-clause-opened : goal.returns-then-count-eq0-clause-opened
returns-then-count-eq0-clause-opened g c = λ q us xs vs gap n. opened_none c.args.arena.now c.args.work.now q xs c.args.from (n ∙ c.if-count-eq0.true)

pub unreachable-requires : goal.unreachable-requires
unreachable-requires g c = let f = c.args.arena.now in let w = c.args.work.now in
    let e : c.args.count ≡ 1 = open_is_one f w c.args.from c.args.count c.requires c.if-count-eq0.false in
    open_some f w c.args.from c.layout_law.ensures (subst (λ n. CanOpenCounted f w c.args.from n) e c.requires) c.in_default.is
