use Rattle.std.proofs.Common.{◌≡◌, true, false, refl, arith}
use Rattle.std.proofs.lemmas.List.{length-map}
use Rattle.pq_arena.proofs.Closing.{opened}
use Rattle.pq_arena.proofs.Whole.{none_alone, one_alone}
use Rattle.pq_arena.proofs.arena.Arena.is_one_tree.Goals as goal

pub returns : goal.returns
returns c =
    let h = opened c.self.inside c.args.self.now c.self.view_is c.self.invariant in (
      λ _. none_alone c.args.self.now h.layout (λ k l. c.loop-n.invariant k (omega (arith, h.heads_few, length-map c.self.inside.nodes.items (λ n. n.head), c.len-n-end.ensures))),
      λ _. refl,
    )

pub returns-then-is_alone : goal.returns-then-is_alone
returns-then-is_alone c = (
  λ t. absurd (let z : false ≡ true = t in cc),
  λ one. absurd (one_alone c.args.self.now c.loop-n.n (c.is_alone.ensures.0 c.if-is_alone.true) one),
)
