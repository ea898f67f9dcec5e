use Rattle.std.proofs.Common.{max, arith}
use Rattle.std.proofs.lemmas.Bool.{leb-true, le-leb}
use Rattle.proper_interval.proofs.model.meet.Goals as goal

pub returns : goal.returns
returns c =
    let a = c.args.a in
    let b = c.args.b in (
      λ t.
          let most = leb-true _ _ t in
          (max a.left b.left, ((omega (arith, most), omega (arith, most)), (omega (arith, most), omega (arith, most)))),
      λ s. le-leb _ _ (omega (arith, s.1.0.0, s.1.0.1, s.1.1.0, s.1.1.1)),
    )
