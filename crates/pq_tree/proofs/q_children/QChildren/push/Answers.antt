use Rattle.std.proofs.Common.{◌≡◌, ◌≤◌, ◌∙◌, map, length, sym, ap, arith}
use Rattle.std.proofs.lemmas.Grind.{common_steps}
use Rattle.std.proofs.lemmas.List.{length-map}
use Rattle.pq_tree.specs.Proper.{outline_of}
use Rattle.pq_tree.proofs.QNodes.{children_more, canonical_more, first_alone, first_stays, last_more, least_alone, least_more}
use Rattle.pq_tree.proofs.q_children.QChildren.push.Goals.{then-is_empty, else-is_empty}
use Rattle.pq_tree.proofs.q_children.QChildren.push.Goals as goal

pub invariant_of-self-2-clause-canonical : goal.invariant_of-self-2-clause-canonical
invariant_of-self-2-clause-canonical c =
    rw (children_more c.args.self.now.trees.items _ c.args.child.tree c.in_ok-push.ensures.items) (canonical_more _ _ c.args.self.now.canonical c.args.child.canonical)

pub invariant_of-self-2-clause-is_first : goal.invariant_of-self-2-clause-is_first
invariant_of-self-2-clause-is_first c =
    let us = map outline_of c.args.self.now.trees.items in
    let u = outline_of c.args.child.tree in
    let n : length us ≡ length c.args.self.now.trees.items = length-map c.args.self.now.trees.items outline_of in
    rw (children_more c.args.self.now.trees.items _ c.args.child.tree c.in_ok-push.ensures.items)
    (elim c.if-is_empty.branch [
      | then-is_empty w ↦
          let z : length us ≡ 0 = grind (arith, common_steps) in
          ap (λ p. p.0) w.first-is ∙ c.args.child.is_least ∙ sym (first_alone us u z)
      | else-is_empty w ↦
          let z : 1 ≤ length us = grind (arith, common_steps) in
          ap (λ p. p.0) w.first-is ∙ c.args.self.now.is_first ∙ sym (first_stays us u z)
    ])

pub invariant_of-self-2-clause-is_last : goal.invariant_of-self-2-clause-is_last
invariant_of-self-2-clause-is_last c =
    rw (children_more c.args.self.now.trees.items _ c.args.child.tree c.in_ok-push.ensures.items)
    (c.args.child.is_least ∙ sym (last_more (map outline_of c.args.self.now.trees.items) (outline_of c.args.child.tree)))

pub invariant_of-self-2-clause-is_least : goal.invariant_of-self-2-clause-is_least
invariant_of-self-2-clause-is_least c =
    let us = map outline_of c.args.self.now.trees.items in
    let u = outline_of c.args.child.tree in
    let n : length us ≡ length c.args.self.now.trees.items = length-map c.args.self.now.trees.items outline_of in
    rw (children_more c.args.self.now.trees.items _ c.args.child.tree c.in_ok-push.ensures.items)
    (elim c.if-is_empty.branch [
      | then-is_empty w ↦
          let z : length us ≡ 0 = grind (arith, common_steps) in
          ap (λ p. p.1) w.first-is ∙ c.args.child.is_least ∙ sym (least_alone us u z)
      | else-is_empty w ↦
          let z : 1 ≤ length us = grind (arith, common_steps) in
          omega (arith, ap (λ p. p.1) w.first-is, w.min.ensures, c.args.self.now.is_least, c.args.child.is_least, least_more us u z)
    ])
