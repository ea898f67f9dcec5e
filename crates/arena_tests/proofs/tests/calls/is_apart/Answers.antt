use Rattle.std.proofs.Common.{◌≡◌, IsTrue, rules, arith}
use Rattle.arena_model.proofs.Paths.{top_alone}
use Rattle.arena_tests.proofs.Conditions.{childless_alone}
use Rattle.arena_tests.proofs.tests.calls.is_apart.Goals as goal

pub returns-then-is_top : goal.returns-then-is_top
returns-then-is_top g c = λ _ l.
    let t : IsTrue c.is_top.result = search rules in
    let r = c.is_top.ensures.top.0 t in
    let e : c.args.n.index ≡ c.args.p.index = top_alone c.args.arena.now c.args.n.index c.args.p.index r.1 l in
    omega arith

pub returns : goal.returns
returns g c = λ t l.
    let e : c.args.n.index ≡ c.args.p.index = childless_alone c.args.arena.now c.args.n.index c.args.p.index (c.is_childless.ensures t) l in
    omega arith
