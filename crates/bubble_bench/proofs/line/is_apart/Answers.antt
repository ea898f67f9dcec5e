use Rattle.std.proofs.Common.{◌≡◌, arith}
use Rattle.arena_model.proofs.Paths.{top_alone}
use Rattle.bubble_bench.proofs.line.is_apart.Goals as goal

pub returns : goal.returns
returns g c = λ t.
    let r = c.is_top.ensures.top.0 t in (
      r.0,
      λ l.
          let e : c.args.n.index ≡ c.args.p.index = top_alone c.args.arena.now c.args.n.index c.args.p.index r.1 l in
          omega arith,
    )
