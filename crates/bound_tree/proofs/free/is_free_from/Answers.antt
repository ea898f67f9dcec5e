use Rattle.std.proofs.Common.{◌-◌, ◌<◌, inl, inr, arith}
use Rattle.std.proofs.lemmas.Bool.{cases_lt}
use Rattle.bound_tree.proofs.Passing.{opens_before}
use Rattle.bound_tree.proofs.free.is_free_from.Goals as goal

pub returns-clause-free : goal.returns-clause-free
returns-clause-free g c =
    λ rows are skips.
    let p = c.nearest-p.result in
    let near : p < c.args.stretch.from = omega (arith, c.nearest-p.ensures.range, c.if-stretch-eq0.false) in (
      λ yes x l.
          elim (cases_lt p x) [
            | inl a ↦ inr (c.nearest-p.ensures.passed rows are skips x a (omega arith))
            | inr a ↦
                inl (opens_before rows c.args.gaps.now.order c.args.gaps.now.gaps are c.args.side (c.args.stretch.at - 1) p x
                (omega (arith, c.requires.round.before, c.requires.round.behind, c.requires.round.inside)) (omega (arith, near, c.requires.round.before)) a
                ((c.is_open.ensures.opens rows are).0 yes))
          ],
      λ free.
          elim (free p near) [
            | inl w ↦ (c.is_open.ensures.opens rows are).1 w
            | inr w ↦ absurd (c.nearest-p.ensures.nearest rows are w)
          ],
    )
