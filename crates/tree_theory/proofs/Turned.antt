-- What a template makes of a node may be turned: children of a P-node in another order, those of a Q-node from the other end.
use Rattle.std.proofs.Common.{◌≡◌, ◌∙◌, ℕ, List, [], ◌∷◌, ◌++◌, sym, ap, subst}
use Rattle.column_order.specs.Orders.{has, occurs}
use Rattle.pq_tree.specs.Outline.{Outline, Forest, no_tree, tree_and, leaves, leaves_of}
use Rattle.pq_tree.specs.Forests.{forest, join}
use Rattle.column_order.proofs.Lists.{has_same}
use Rattle.pq_tree.specs.Equivalent.{IsEquivalent, AreEquivalent}
use Rattle.pq_tree.proofs.Equivalent.{equivalent_occurs, equivalent_occur_all}
use Rattle.tree_theory.specs.Tied.{IsForward}
use Rattle.tree_theory.proofs.Bound.{IsClosed, IsInLine, IsBound, AreBound}
use Rattle.tree_theory.proofs.Turn.{turned_forward, unturned_forward, turned_bound, unturned_bound, all_turned_bound, all_unturned_bound}
use Rattle.tree_theory.proofs.BelowRoot.{Treated, outside_within}
use Rattle.tree_theory.proofs.AtRoot.{Rooted}
use Rattle.pq_tree.proofs.Forests.{forest_append}

module _ (row : List ℕ) where
  has_alike : (s t : Outline) → IsEquivalent s t → (a : ℕ) → has (leaves t) a ≡ has (leaves s) a
  has_alike s t h a = has_same (leaves t) (leaves s) a (equivalent_occurs s t a h)

  -- the new tree turned
  pub rooted_turned : (t u v : Outline) → Rooted row t u → IsEquivalent u v → Rooted row t v
  rooted_turned t u v r h =
      record {
        same = λ a. equivalent_occurs u v a h ∙ r.same a;
        up = λ R eq b. r.up R eq (unturned_bound R eq u v h b);
        down = λ R eq b c. turned_bound R eq u v h (r.down R eq b c);
      }

  -- the old tree turned
  pub turned_rooted : (s t u : Outline) → IsEquivalent s t → Rooted row t u → Rooted row s u
  turned_rooted s t u h r =
      record {
        same = λ a. r.same a ∙ equivalent_occurs s t a h;
        up = λ R eq b.
            let k : IsBound R t × IsClosed R (leaves t) row = r.up R eq b in
            (unturned_bound R eq s t h k.0, λ a d e i j l n. k.1 a d e i j (has_alike s t h e ∙ l) n);
        down = λ R eq b c. r.down R eq (turned_bound R eq s t h b) (λ a d e i j l n. c a d e i j (sym (has_alike s t h e) ∙ l) n);
      }

  -- the node turned
  pub turned_treated : (s t : Outline) (es fs : Forest) → IsEquivalent s t → Treated row t es fs → Treated row s es fs
  turned_treated s t es fs h r =
      record {
        same = λ a. r.same a ∙ equivalent_occurs s t a h;
        empty = r.empty;
        full = r.full;
        some_empty = r.some_empty;
        some_full = r.some_full;
        up = λ R eq l b. unturned_bound R eq s t h (r.up R eq l b);
        down_line = λ R eq k o b v f a sa.
            r.down_line R eq k (outside_within R row (leaves s) (leaves t) k (λ d i. sym (has_alike s t h d) ∙ i) o) (turned_bound R eq s t h b) v f a (has_alike s t h a ∙ sa);
        down_each = λ R eq k o b. r.down_each R eq k (outside_within R row (leaves s) (leaves t) k (λ d i. sym (has_alike s t h d) ∙ i) o) (turned_bound R eq s t h b);
      }

  join_equivalent : (es fs : Forest) (us vs : List Outline) → AreEquivalent es us → AreEquivalent fs vs → AreEquivalent (join es fs) (us ++ vs)
  join_equivalent no_tree fs [] vs h k = k
  join_equivalent no_tree fs (u ∷ us) vs h k = absurd h
  join_equivalent (tree_and e es) fs [] vs h k = absurd h
  join_equivalent (tree_and e es) fs (u ∷ us) vs h k = (h.0, join_equivalent es fs us vs h.1 k)

  list_has : (ts : Forest) (us : List Outline) → AreEquivalent ts us → (a : ℕ) → has (leaves_of (forest us)) a ≡ has (leaves_of ts) a
  list_has ts us h a = has_same (leaves_of (forest us)) (leaves_of ts) a (equivalent_occur_all ts us a h)

  -- the trees of the partial turned
  pub treated_turned : (t : Outline) (es fs : Forest) (us vs : List Outline) → Treated row t es fs → AreEquivalent es us → AreEquivalent fs vs → Treated row t (forest us) (forest vs)
  treated_turned t es fs us vs r h k =
      let both : AreEquivalent (join es fs) (us ++ vs) = join_equivalent es fs us vs h k in
      let j : forest (us ++ vs) ≡ join (forest us) (forest vs) = forest_append us vs in
      record {
        same = λ a. ap (λ ws. occurs (leaves_of ws) a) (sym j) ∙ equivalent_occur_all (join es fs) (us ++ vs) a both ∙ r.same a;
        empty = λ a i. r.empty a (sym (list_has es us h a) ∙ i);
        full = λ a i. r.full a (sym (list_has fs vs k a) ∙ i);
        some_empty = (r.some_empty.0, list_has es us h r.some_empty.0 ∙ r.some_empty.1);
        some_full = (r.some_full.0, list_has fs vs k r.some_full.0 ∙ r.some_full.1);
        up = λ R eq l b.
            let l2 : IsInLine R (forest (us ++ vs)) = subst (IsInLine R) (sym j) l in
            r.up R eq (λ v w m n. l2 v w (unturned_forward (join es fs) (us ++ vs) both v m) (unturned_forward (join es fs) (us ++ vs) both w n))
            (all_unturned_bound R eq (join es fs) (us ++ vs) both (subst (AreBound R) (sym j) b));
        down_line = λ R eq s o b v f a ta. r.down_line R eq s o b v (turned_forward (join es fs) (us ++ vs) both v (subst (λ ws. IsForward ws v) (sym j) f)) a ta;
        down_each = λ R eq s o b. subst (AreBound R) j (all_turned_bound R eq (join es fs) (us ++ vs) both (r.down_each R eq s o b));
      }
