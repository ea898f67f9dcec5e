-- The frontiers of a child are told by those of the tree.
use Rattle.std.proofs.Common.{◌≡◌, ◌∙◌, ℕ, List, ◌∷◌, ◌++◌, sym, ap, subst, arith, append_assoc}
use Rattle.std.specs.List.{concat}
use Rattle.column_order.specs.Orders.{has, occurs, place}
use Rattle.column_order.proofs.Lists.{place-inj, occurs-append}
use Rattle.pq_tree.specs.Outline.{Outline, Forest, no_tree, tree_and, leaves, leaves_of, IsFrontier, AreFrontiers}
use Rattle.tree_theory.proofs.Frontiers.{frontier_has}
use Rattle.tree_theory.proofs.Bound.{IsBound, AreBound}
use Rattle.tree_theory.proofs.Sorted.{Rises, rises_same}
use Rattle.tree_theory.proofs.Law.{Found, found}
use Rattle.tree_theory.proofs.Alike.{Alike}
use Rattle.tree_theory.proofs.Mirror.{leaves_are_frontier, lists, lists_are}
use Rattle.tree_theory.proofs.Ends.{IsOnce}
use Rattle.tree_theory.proofs.Flip.{first_rises, once_shift}
use Rattle.tree_theory.proofs.Aligned.{IsAligned}

-- each frontier of t is one of u
abbrev pub IsSub : Outline → Outline → Type 0
IsSub t u = (f : List ℕ) → IsFrontier t f → IsFrontier u f

-- and so for the trees at each place
abbrev pub AreSub : Forest → Forest → Type 0
AreSub no_tree us = Unit {0}
AreSub (tree_and t ts) no_tree = Unit {0}
AreSub (tree_and t ts) (tree_and u us) = IsSub t u × AreSub ts us

-- a frontier of t rises in a list, and u is bound in that list
child_frontier : (t u : Outline) (f g : List ℕ) → leaves t ≡ leaves u → IsOnce (leaves u) → IsFrontier t g → Rises (place f) g → IsBound (Alike (place f)) u → IsFrontier u g
child_frontier t u f g e once h r b =
    let k : Found (Alike (place f)) (place f) (place-inj f) (λ v w s. s.0) u = found (Alike (place f)) (place f) (place-inj f) (λ v w s. s.0) u b once in
    let same : k.order ≡ g =
    rises_same (place f) k.order g k.rises r (λ x. frontier_has u k.order x k.frontier ∙ ap (λ l. has l x) (sym e) ∙ sym (frontier_has t g x h)) in
    subst (IsFrontier u) same k.frontier

once_other : (pre : List ℕ) (t u : Outline) (ts : Forest) → leaves t ≡ leaves u → IsOnce (pre ++ (leaves t ++ leaves_of ts)) → IsOnce (leaves u)
once_other pre t u ts e once a =
    omega (arith, once a, occurs-append pre (leaves t ++ leaves_of ts) a, occurs-append (leaves t) (leaves_of ts) a, ap (λ l. occurs l a) e)

pub child_frontiers : (pre : List ℕ) (ts us : Forest) → IsAligned ts us → IsOnce (pre ++ leaves_of ts) →
    ((fs : List (List ℕ)) → AreFrontiers ts fs → AreBound (Alike (place (pre ++ concat fs))) us) → AreSub ts us
child_frontiers pre no_tree us al once bound = tt
child_frontiers pre (tree_and t ts) no_tree al once bound = tt
child_frontiers pre (tree_and t ts) (tree_and u us) al once bound = (
  λ g h. child_frontier t u (pre ++ (g ++ concat (lists ts))) g al.0 (once_other pre t u ts al.0 once) h (first_rises pre t ts g h once) (bound (g ∷ lists ts) (h, lists_are ts)).0,
  child_frontiers (pre ++ leaves t) ts us al.1 (once_shift pre t ts once)
      (λ fs h. subst (λ f. AreBound (Alike (place f)) us) (sym (append_assoc pre (leaves t) (concat fs))) (bound (leaves t ∷ fs) (leaves_are_frontier t, h)).1),
)
