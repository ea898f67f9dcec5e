-- Two P-nodes, children of one Q-node, divided one after the other.
use Rattle.std.proofs.Common.{◌≡◌, ◌≢◌, ℕ, ◌≤◌, ◌<◌, length, eqb, List, [], ◌∷◌, Some, refl, sym, subst, ◌∙◌}
use Rattle.column_order.specs.Orders.{occurs}
use Rattle.pq_tree.specs.Outline.{Forest, p_node}
use Rattle.pq_tree.specs.Equivalent.{AreEquivalent}
use Rattle.tree_theory.specs.Templates.{IsSorted}
use Rattle.arena_model.specs.declared.Shape.TheVariants.{P, Q}
use Rattle.arena_model.specs.Layout.{Layout, shape_at, children_at, IsLayout, here}
use Rattle.arena_model.specs.NamedTree.{outline_below}
use Rattle.arena_model.proofs.Slots.{used_by}
use Rattle.template_model.specs.Standing.{child_trees}
use Rattle.template_model.specs.Treated.{IsOutside, IsReplacedAt}
use Rattle.template_model.proofs.Replaced.{replaced_self}
use Rattle.templates_p.specs.Dividing.{AreSome, IsDivided}
use Rattle.templates_p.specs.Members.{member_labels}
use Rattle.row_reduce.proofs.Divided.{sibling_kept}
use Rattle.row_reduce.proofs.Ending.{IsExchanged, same_root}
use Rattle.row_reduce.proofs.Labelling.{below_p}

-- what is outside of q stays, twice
pub exchanged_twice : (f g h : Layout) (q : ℕ) → IsLayout f → IsLayout h → shape_at f q ≡ Some Q → IsReplacedAt f g q q → IsReplacedAt g h q q → IsExchanged f h q q
exchanged_twice f g h q fl hl is_q a b = record {
  f_layout = fl;
  h_layout = hl;
  used = used_by f q Q is_q;
  root = b.root ∙ same_root (eqb g.root q) g.root q refl ∙ a.root;
  outside = λ m out.
      let x = a.outside m out in
      let still : IsOutside g q m = ((λ e. out.0 (sym x.0 ∙ e)), a.apart m out) in
      let y = b.outside m still in
      (y.0 ∙ x.0, y.1 ∙ replaced_self (children_at g m) q ∙ x.1);
}

-- the P-node o is as it was where n is divided
module _ {f g : Layout} {q n : ℕ} {ms : List ℕ} {list : ℕ → ℕ → List ℕ} (fl : IsLayout f) (gl : IsLayout g) (d : IsDivided f g q n ms list) (o : ℕ) (o_in : 1 ≤ occurs (children_at f q) o) (ne : o ≢ n) where
  same_children : children_at g o ≡ children_at f o
  same_children = (d.kept o o o_in ne (here o)).1

  -- with the trees below it
  same_trees : shape_at f o ≡ Some P → child_trees g o ≡ child_trees f o
  same_trees is_p =
      let e : p_node (child_trees g o) ≡ p_node (child_trees f o) = sym (below_p g o gl ((d.kept o o o_in ne (here o)).0 ∙ is_p)) ∙ sibling_kept fl gl d o o_in ne ∙ below_p f o fl is_p in
      cc

  pub still_some : (xs : List ℕ) → AreSome f o xs → AreSome g o xs
  still_some xs s = record {
    is_p = (d.kept o o o_in ne (here o)).0 ∙ s.is_p;
    once = s.once;
    child = λ k i. subst (λ z. 1 ≤ occurs z k) (sym same_children) (s.child k i);
    some = s.some;
    not_all = subst (λ z. length xs < length z) (sym same_children) s.not_all;
  }

  pub still_sorted : (xs : List ℕ) (es fs : Forest) → shape_at f o ≡ Some P → IsSorted (child_trees f o) (member_labels xs (children_at f o)) es fs [] →
      IsSorted (child_trees g o) (member_labels xs (children_at g o)) es fs []
  still_sorted xs es fs is_p s =
      subst (λ z. IsSorted z (member_labels xs (children_at g o)) es fs []) (sym (same_trees is_p))
      (subst (λ z. IsSorted (child_trees f o) (member_labels xs z) es fs []) (sym same_children) s)

-- a tree at another child stays, whatever it stands for
pub still_there : {g h : Layout} {q o : ℕ} {xs : List ℕ} {list : ℕ → ℕ → List ℕ} → IsLayout g → IsLayout h → IsDivided g h q o xs list → (k : ℕ) (ts : Forest) → 1 ≤ occurs (children_at g q) k → k ≢ o →
    AreEquivalent ts (outline_below g k ∷ []) → AreEquivalent ts (outline_below h k ∷ [])
still_there gl hl d k ts i ne a = subst (λ z. AreEquivalent ts (z ∷ [])) (sym (sibling_kept gl hl d k i ne)) a
