use Rattle.std.proofs.Common.{◌++◌, reverse}
use Rattle.templates_q.proofs.Opening.{front_place, front_part, front_step, can_first, can_last, back_place, same_room}
use Rattle.templates_q.proofs.Twice.{step_treated}
use Rattle.templates_q.proofs.q3.open_ends.Goals as goal

pub open_counted-requires : goal.open_counted-requires
open_counted-requires g c = let t = c.requires.stretch in can_first c.args.arena.now c.args.work.now t.0 c.args.seen t.1 c.requires.two c.requires.room t.2

pub open_counted-requires-2 : goal.open_counted-requires-2
open_counted-requires-2 g c = let t = c.requires.stretch in let r = t.1 in let p = r.passed in
    let f = c.args.arena.now in let e = c.open_counted.new.arena in let w = c.args.work.now in let q = t.0 in let s = c.args.seen in
    let h = front_part f w q s r t.2 in
    let o = c.open_counted.ensures.opened q r.us p.ps (p.fs ++ (p.ls ++ p.rest)) (λ some. front_place f w q s r) p.firsts in
    let step = front_step f e w q s r h.0 c.layout_law.ensures c.layout_law-2.ensures o h.1 in
    let kept = step_treated f e w q r.us p.ps (p.fs ++ (p.ls ++ p.rest)) s.from h.0 c.layout_law.ensures c.layout_law-2.ensures p.from.is_q (λ some. front_place f w q s r) o h.1 c.requires.one c.requires.two in
    can_last f e w q s r h.0 step kept.treated.arena.two (same_room f e w c.layout_law.ensures c.layout_law-2.ensures kept.treated.arena.columns c.requires.room) t.2

pub returns-clause-opened : goal.returns-clause-opened
returns-clause-opened g c = λ q r shaped. let p = r.passed in
    let f = c.args.arena.now in let e = c.open_counted.new.arena in let w = c.args.work.now in let s = c.args.seen in
    let h = front_part f w q s r shaped in
    let o = c.open_counted.ensures.opened q r.us p.ps (p.fs ++ (p.ls ++ p.rest)) (λ some. front_place f w q s r) p.firsts in
    let step = front_step f e w q s r h.0 c.layout_law.ensures c.layout_law-2.ensures o h.1 in
    record {
      g = e;
      layout = c.layout_law-2.ensures;
      first = o;
      last = c.open_counted-2.ensures.opened q (reverse p.rest) p.ls (reverse (r.us ++ (step.ms ++ p.fs))) (λ some. back_place f e w q s r h.0 step some) p.lasts;
    }
