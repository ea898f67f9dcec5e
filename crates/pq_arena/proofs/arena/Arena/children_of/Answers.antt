use Rattle.std.proofs.Common.{◌≡◌, ◌≤◌, ◌<◌, ℕ, length, Some, List, IfOk, ap, subst, ◌∙◌}
use Rattle.std.proofs.lemmas.List.{length-map}
use Rattle.column_order.specs.Orders.{occurs}
use Rattle.arena_model.specs.ChildLists.{none}
use Rattle.arena_model.specs.Layout.{Layout, shape_at, children_at}
use Rattle.pq_arena.specs.declared.node.Node.{Node}
use Rattle.pq_arena.specs.declared.node.Head.{Head}
use Rattle.arena_model.specs.declared.Shape.TheVariants.{Q}
use Rattle.pq_arena.specs.StandsFor.{run_read, StandsFor}
use Rattle.pq_arena.specs.Wiring.{links, heads, head}
use Rattle.pq_arena.proofs.Closing.{opened}
use Rattle.pq_arena.proofs.Read.{p_children, q_children, child_linked}
use Rattle.pq_arena.proofs.arena.Arena.children_of.Goals as goal

-- the run of a Q-node's children is listed whole
q_listed : (nodes : List Node) (root spare count columns : ℕ) (f : Layout) (n : ℕ) (k : Head) →
    StandsFor (links nodes) (heads nodes) root spare count columns f → shape_at f n ≡ Some Q → k ≡ head (heads nodes) n →
    run_read (links nodes) (length nodes) none k.first ≡ children_at f n
q_listed nodes root spare count columns f n k h sh e =
    subst (λ m. run_read (links nodes) m none k.first ≡ children_at f n) (length-map nodes (λ z. z.link)) (q_children _ _ _ _ _ _ f n k h sh e)

linked : (nodes : List Node) (root spare count columns : ℕ) (f : Layout) (n x : ℕ) →
    StandsFor (links nodes) (heads nodes) root spare count columns f → 1 ≤ occurs (children_at f n) x → x < length nodes
linked nodes root spare count columns f n x h o = subst (λ m. x < m) (length-map nodes (λ z. z.link)) (child_linked _ _ _ _ _ _ f n x h o)

pub ring_children-requires : goal.ring_children-requires
ring_children-requires c x o =
    let h = opened c.self.inside c.args.self.now c.self.view_is c.self.invariant in
    linked _ _ _ _ _ c.args.self.now c.args.n x h
    (subst (λ z. 1 ≤ occurs z x) (p_children _ _ _ _ _ _ c.args.self.now c.args.n c.head_at-head.result h (c.shape_of.ensures.shape ∙ ap (λ s. Some s) c.in-P.is) c.head_at-head.ensures) o)

pub run_children-requires : goal.run_children-requires
run_children-requires c x o =
    let h = opened c.self.inside c.args.self.now c.self.view_is c.self.invariant in
    linked _ _ _ _ _ c.args.self.now c.args.n x h
    (subst (λ z. 1 ≤ occurs z x) (q_listed _ _ _ _ _ c.args.self.now c.args.n c.head_at-head.result h (c.shape_of.ensures.shape ∙ ap (λ s. Some s) c.in-Q.is) c.head_at-head.ensures) o)

pub returns-in-P : goal.returns-in-P
returns-in-P c =
    let h = opened c.self.inside c.args.self.now c.self.view_is c.self.invariant in
    subst (λ z. IfOk c.ring_children.result (λ v. v.items ≡ z))
    (p_children _ _ _ _ _ _ c.args.self.now c.args.n c.head_at-head.result h (c.shape_of.ensures.shape ∙ ap (λ s. Some s) c.in-P.is) c.head_at-head.ensures) c.ring_children.ensures

pub returns-in-Q : goal.returns-in-Q
returns-in-Q c =
    let h = opened c.self.inside c.args.self.now c.self.view_is c.self.invariant in
    subst (λ z. IfOk c.run_children.result (λ v. v.items ≡ z))
    (q_listed _ _ _ _ _ c.args.self.now c.args.n c.head_at-head.result h (c.shape_of.ensures.shape ∙ ap (λ s. Some s) c.in-Q.is) c.head_at-head.ensures) c.run_children.ensures
