-- The whole walk: it begins with the tree itself, and what it gains is the first of the tree's frontiers.
use Rattle.std.proofs.Common.{◌≡◌, ◌∙◌, ◌↔◌, ℕ, zero, suc, false, List, [], ◌∷◌, ◌++◌, length, Bor, IsTrue, refl, sym, ap, subst, arith, append-nil, length-append}
use Rattle.std.proofs.lemmas.List.Sorted.{length_permutation}
use Rattle.column_order.proofs.Counts.{order_once}
use Rattle.column_order.proofs.Lists.{occurs-append}
use Rattle.pq_tree.specs.Outline.{Outline, p_node, leaves, IsFrontier}
use Rattle.pq_tree.specs.Proper.{outline_of, forest, columns, IsProper, AreTrees}
use Rattle.pq_tree.specs.declared.Tree.{Tree}
use Rattle.pq_tree.proofs.AllOrders.{permutation_from_occurs}
use Rattle.pq_tree.specs.Equivalent.{IsEquivalent}
use Rattle.pq_tree.proofs.Equivalent.{equivalent_proper}
use Rattle.pq_tree.proofs.Frontiers.{frontier_occurs, same_frontiers}
use Rattle.pq_tree.proofs.Universal.{columns_order}
use Rattle.order_list.specs.Coming.{outlines, coming_trees, trees_within}
use Rattle.order_list.specs.First.{AreFirst, HasOther}
use Rattle.order_list.specs.Gains.{IsReady, Gains}
use Rattle.order_list.specs.Listed.{OrderList}
use Rattle.order_list.specs.Low.{StandsLow, StandLow}
use Rattle.order_list.specs.Reading.{Reads}
use Rattle.order_list.specs.declared.walk.Bag.{Bag}
use Rattle.order_list.specs.declared.walk.Coming.{Coming, Nothing, InAnyOrder}
use Rattle.order_list.proofs.Firsts.{first_orders, more_orders}
use Rattle.order_list.proofs.Gaining.{gains_same}
use Rattle.order_list.proofs.LeastFirst.{low_same}
use Rattle.order_list.proofs.Links.{trees-Nothing, within-Nothing, trees-InAnyOrder, within-InAnyOrder}
use Rattle.order_list.proofs.Steps.{SameSet, ready_moved}
use Rattle.order_list.proofs.Taking.{one_taken, one_untaken, sound_same}

length-columns : (n : ℕ) → length (columns n) ≡ n
length-columns zero = refl
length-columns (suc n) = omega (arith, length-append (columns n) (suc n ∷ []), length-columns n)

-- a frontier of a tree over 1 to c has c columns
frontier_long : (c : ℕ) (u : Outline) (f : List ℕ) → IsProper c u → IsFrontier u f → length f ≡ c
frontier_long c u f h fr =
    sym (length_permutation f (columns c) (permutation_from_occurs f (columns c) (λ a. frontier_occurs u f a fr ∙ h.1 a ∙ sym (columns_order c a)))) ∙ length-columns c

frontier_same : (u : Outline) → SameSet (IsFrontier u) (Reads (p_node (forest (u ∷ [])) ∷ []))
frontier_same u = (
  λ f fr. one_untaken u [] f (f, [], fr, refl, sym (append-nil f)),
  λ f r.
      let s = one_taken u [] f r in
      let e : s.0 ≡ f = sym (append-nil s.0) ∙ ap (λ g. s.0 ++ g) (sym s.3) ∙ sym s.4 in
      subst (IsFrontier u) e s.2,
)

module _ (c : ℕ) (t u : Outline) (root : Bor Tree) (bag : Bag) (nothing : Bor Coming) (moved : IsEquivalent t u) (whole : IsProper c t) (is : outline_of root.now ≡ u) (one : bag.trees.now ≡ root ∷ []) (last : nothing.now ≡ Nothing) where
  proper : IsProper c u
  proper = equivalent_proper c t u moved whole

  root_trees : coming_trees (InAnyOrder bag nothing) ≡ p_node (forest (u ∷ [])) ∷ []
  root_trees =
      trees-InAnyOrder bag nothing ∙ ap (λ ts. p_node (forest (outlines ts)) ∷ coming_trees nothing.now) one ∙
      ap (λ k. p_node (forest (outline_of root.now ∷ [])) ∷ coming_trees k) last ∙
      ap (λ ts. p_node (forest (outline_of root.now ∷ [])) ∷ ts) trees-Nothing ∙
      ap (λ v. p_node (forest (v ∷ [])) ∷ []) is

  root_within : trees_within (InAnyOrder bag nothing) ≡ u ∷ []
  root_within =
      within-InAnyOrder bag nothing ∙ ap (λ ts. outlines ts ++ trees_within nothing.now) one ∙
      ap (λ k. outline_of root.now ∷ trees_within k) last ∙
      ap (λ ts. outline_of root.now ∷ ts) within-Nothing ∙
      ap (λ v. v ∷ []) is

  pub root_sound : AreTrees (forest (trees_within (InAnyOrder bag nothing)))
  root_sound =
      sound_same (u ∷ []) (trees_within (InAnyOrder bag nothing)) (sym root_within)
      ((proper.0, tt), λ a. omega (arith, order_once c (leaves u) proper.1 a, occurs-append (leaves u) [] a))

  pub root_low : StandsLow u → StandLow (forest (coming_trees (InAnyOrder bag nothing)))
  root_low low = low_same (p_node (forest (u ∷ [])) ∷ []) (coming_trees (InAnyOrder bag nothing)) (sym root_trees) (((tt, tt), (low, tt)), tt)

  root_same : SameSet (IsFrontier t) (Reads (coming_trees (InAnyOrder bag nothing)))
  root_same =
      let same : SameSet (IsFrontier u) (Reads (coming_trees (InAnyOrder bag nothing))) = subst (λ us. SameSet (IsFrontier u) (Reads us)) (sym root_trees) (frontier_same u) in
      ((λ f fr. same.0 f ((same_frontiers t u moved f).0 fr)), (λ f r. (same_frontiers t u moved f).1 (same.1 f r)))

  module _ (taken : List ℕ) (limit : ℕ) (a : OrderList) (none : taken ≡ []) (start : a ≡ record { columns = c; orders = []; more = false }) where
    pub root_ready : IsReady (Reads (coming_trees (InAnyOrder bag nothing))) taken limit a
    root_ready =
        ready_moved (Reads (coming_trees (InAnyOrder bag nothing))) (IsFrontier t) taken limit a (root_same.1, root_same.0)
        (record {
          fresh = ap (λ (l : OrderList). l.more) start;
          few = omega (arith, ap (λ (l : OrderList). length l.orders) start);
          wide = λ f fr. omega (arith, frontier_long c t f whole fr, ap (λ (l : List ℕ). length l) none, ap (λ (l : OrderList). l.columns) start);
        })

    module _ (b : OrderList) (g : Gains (Reads (coming_trees (InAnyOrder bag nothing))) taken limit a b) where
      whole_gains : Gains (IsFrontier t) [] limit a b
      whole_gains =
          subst (λ l. Gains (IsFrontier t) l limit a b) none
          (gains_same (Reads (coming_trees (InAnyOrder bag nothing))) (IsFrontier t) taken limit a b root_same.1 root_same.0 g)

      pub whole_first : AreFirst (IsFrontier t) limit b.orders
      whole_first = first_orders (IsFrontier t) limit a b (ap (λ (l : OrderList). l.orders) start) whole_gains

      pub whole_more : IsTrue b.more ↔ HasOther (IsFrontier t) b.orders
      whole_more = more_orders (IsFrontier t) limit a b (ap (λ (l : OrderList). l.orders) start) whole_gains
