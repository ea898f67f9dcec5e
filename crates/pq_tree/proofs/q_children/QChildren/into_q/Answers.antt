use Rattle.std.proofs.Common.{◌∙◌, ap, sym, inl, inr}
use Rattle.pq_tree.specs.Arranged.{children_in}
use Rattle.pq_tree.specs.Proper.{outline_of}
use Rattle.pq_tree.specs.declared.Tree.{Q}
use Rattle.pq_tree.proofs.QNodes.{IsTurnedUp, turned_up}
use Rattle.pq_tree.proofs.q_children.QChildren.into_q.Goals.{then-last-first, else-last-first, Joined-last-first}
use Rattle.pq_tree.proofs.q_children.QChildren.into_q.Goals as goal

-- the children as they come out are those that went in, in the order or turned
turned : (c : Joined-last-first) → IsTurnedUp (children_in c.args.self) (outline_of (Q c.if-last-first.trees))
turned c =
    turned_up c.args.self c.if-last-first.trees
    (elim c.if-last-first.branch [
      | then-last-first w ↦ inl (w.if-last-first.true, ap (λ v. v.items) w.trees-is ∙ w.reverse.ensures.items)
      | else-last-first w ↦ inr (w.if-last-first.false, ap (λ v. v.items) w.trees-is)
    ])

pub invariant_of-result : goal.invariant_of-result
invariant_of-result c = record { canonical = (turned c).canonical; is_least = c.args.self.is_least ∙ sym (turned c).is_least }

pub returns : goal.returns
returns c = (turned (goal.at.returns c).Joined-last-first).equivalent
