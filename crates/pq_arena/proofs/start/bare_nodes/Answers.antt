use Rattle.std.proofs.Common.{◌≡◌, ◌∙◌, ◌+◌, ◌*◌, ◌++◌, ◌∷◌, [], map, ap, arith}
use Rattle.std.proofs.lemmas.List.{map-append}
use Rattle.pq_arena.specs.Start.{numbers, first_head}
use Rattle.pq_arena.specs.Wiring.{links, heads, no_link}
use Rattle.pq_arena.proofs.Starting.{over_more}
use Rattle.pq_arena.proofs.start.bare_nodes.Goals as goal

pub loop-i-preserved : goal.loop-i-preserved
loop-i-preserved c =
    let xs = c.loop-i.nodes.items in (
      ap links c.in_ok-push.ensures.items ∙ map-append (λ n. n.link) xs (_ ∷ []) ∙ over_more (λ i. no_link) (links xs) c.loop-i.i c.loop-i.invariant.0,
      ap heads c.in_ok-push.ensures.items ∙ map-append (λ n. n.head) xs (_ ∷ []) ∙ ap (λ z. heads xs ++ z ∷ []) c.head_of.ensures
          ∙ over_more (first_head c.args.c c.args.used) (heads xs) c.loop-i.i c.loop-i.invariant.1,
    )

pub returns : goal.returns
returns c =
    let e : c.loop-i.i ≡ 2 * c.args.c + 4 = omega arith in record {
      links = c.loop-i.invariant.0 ∙ ap (λ k. map (λ i. no_link) (numbers k)) e;
      heads = c.loop-i.invariant.1 ∙ ap (λ k. map (first_head c.args.c c.args.used) (numbers k)) e;
    }
