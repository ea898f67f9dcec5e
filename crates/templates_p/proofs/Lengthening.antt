-- What the full children have become is put at the full end of a partial child, where another partial child is left.
use Rattle.std.proofs.Common.{◌≡◌, ◌≢◌, inl, inr, ℕ, ◌+◌, ◌≤◌, true, false, cond, eqb, List, [], ◌∷◌, ◌++◌, length, map, Option, Some, None, refl, sym, ap, subst, ◌∙◌, arith}
use Rattle.std.proofs.lemmas.Bool.{cases_eq}
use Rattle.std.proofs.lemmas.List.{append-nil}
use Rattle.std.specs.Prelude.{if◌then◌else◌, ◌==◌}
use Rattle.column_order.specs.Orders.{occurs}
use Rattle.pq_tree.specs.Proper.{forest}
use Rattle.pq_tree.specs.Equivalent.{AreEquivalent}
use Rattle.arena_model.specs.declared.Shape.TheVariants.{P, Q}
use Rattle.arena_model.specs.Layout.{Layout, shape_at, children_at, IsLayout}
use Rattle.arena_model.specs.NamedTree.{outline_below, IsOneTree, HasTwoEach}
use Rattle.arena_model.proofs.Lists.{occurs_here, only_one}
use Rattle.arena_model.proofs.Slots.{used_by}
use Rattle.pq_arena.specs.declared.node.NodeId.{NodeId}
use Rattle.bubble_pass.specs.declared.labels.Label.TheVariants.{Partial as Partly, Full}
use Rattle.bubble_pass.specs.Marks.{Marks, label_at, size_of}
use Rattle.tree_theory.specs.Templates.{star}
use Rattle.template_model.specs.Treated.{IsTreated}
use Rattle.template_model.proofs.Unchanged.{unchanged}
use Rattle.templates_p.specs.Sorts.{full_nodes, empty_nodes, partial_nodes}
use Rattle.templates_p.specs.Steps.{IsSameAt, IsGathered}
use Rattle.templates_p.specs.Lines.{put_in, CanAbsorb, IsAbsorbed}
use Rattle.templates_p.specs.Merging.{put_in_if, CanPutInIf}
use Rattle.templates_p.proofs.Sorting.{all_sorted, not_full_partial}
use Rattle.templates_p.proofs.Absorbing.{IsPutIn, is_put_in, stay_treated, stay_absorbed}
use Rattle.templates_p.proofs.Moving.{without_kept}
use Rattle.templates_p.proofs.Merging.{child_other}

-- the node, if there is one
abbrev pub listed : Option NodeId → List ℕ
listed None = []
listed (Some c) = c.index ∷ []

pub same_self : (f : Layout) (w : Marks) (k : ℕ) → IsSameAt f w f w k
same_self f w k = record { label = refl; tree = refl; shape = λ h x. x }

pub same_then : (f g i : Layout) (u v w : Marks) (k : ℕ) → IsSameAt f u g v k → IsSameAt g v i w k → IsSameAt f u i w k
same_then f g i u v w k s t = record { label = t.label ∙ s.label; tree = t.tree ∙ s.tree; shape = λ h x. t.shape h (s.shape h x) }

-- what the full children of n have become, whether there was none or some
pub record AreGathered (f : Layout) (v : Marks) (g : Layout) (w : Marks) (n : ℕ) (y : Option NodeId) : Type 0 where
  pub shape : shape_at g n ≡ Some P
  pub children : (k : ℕ) → occurs (children_at g n) k ≡ occurs (listed y) k + occurs (empty_nodes v (children_at f n)) k + occurs (partial_nodes v (children_at f n)) k
  pub full : (k : ℕ) → 1 ≤ occurs (listed y) k → label_at w k ≡ Full
  pub trees : AreEquivalent (star (forest (map (outline_below f) (full_nodes v (children_at f n))))) (map (outline_below g) (listed y))
  pub others : (k : ℕ) → 1 ≤ occurs (empty_nodes v (children_at f n)) k + occurs (partial_nodes v (children_at f n)) k → IsSameAt f v g w k

none_gathered : (f : Layout) (v : Marks) (n : ℕ) → shape_at f n ≡ Some P → full_nodes v (children_at f n) ≡ [] → AreGathered f v f v n None
none_gathered f v n is_p none = record {
  shape = is_p;
  children = λ k. let z : occurs (full_nodes v (children_at f n)) k ≡ 0 = ap (λ xs. occurs xs k) none in omega (arith, all_sorted v (children_at f n) k);
  full = λ k o. absurd (omega arith);
  trees = subst (λ xs. AreEquivalent (star (forest (map (outline_below f) xs))) []) (sym none) tt;
  others = λ k o. same_self f v k;
}

pub are_gathered : (f g : Layout) (v w : Marks) (n : ℕ) (y : Option NodeId) → shape_at f n ≡ Some P → IsGathered f v g w n y → AreGathered f v g w n y
are_gathered f g v w n None is_p s = subst (λ z. AreGathered f v z w n None) (sym s.1) (subst (λ z. AreGathered f v f z n None) (sym s.2) (none_gathered f v n is_p s.0))
are_gathered f g v w n (Some y) is_p s = record {
  shape = s.shape;
  children = s.children;
  full = λ k o. ap (label_at w) (only_one k y.index o) ∙ s.label;
  trees = s.tree;
  others = s.others;
}

pub two_members : (xs : List ℕ) (a b : ℕ) → 1 ≤ occurs xs a → 1 ≤ occurs xs b → a ≢ b → 2 ≤ length xs
two_members [] a b o p ne = absurd (omega arith)
two_members (x ∷ []) a b o p ne = absurd (ne (only_one a x o ∙ sym (only_one b x p)))
two_members (x ∷ y ∷ xs) a b o p ne = omega arith

-- the list with all of cs, at most one, put on at an end
abbrev pub put_on_all : ℕ → List ℕ → List ℕ → List ℕ
put_on_all end cs ks = if end == 0 then cs ++ ks else ks ++ cs

put_on_none : (end : ℕ) (ks : List ℕ) → ks ≡ put_on_all end [] ks
put_on_none end ks = elim (eqb end 0) as (λ b. ks ≡ cond b ks (ks ++ [])) [ true ↦ refl | false ↦ sym (append-nil ks) ]

-- c, where there is one, was put at an end of h
pub record IsLengthened (f g : Layout) (w : Marks) (n h end : ℕ) (c : Option NodeId) : Type 0 where
  pub treated : IsTreated f g w w n n
  pub node : shape_at g n ≡ Some P
  pub bag : (k : ℕ) → occurs (children_at g n) k + occurs (listed c) k ≡ occurs (children_at f n) k
  pub shape : shape_at g h ≡ Some Q
  pub line : children_at g h ≡ put_on_all end (listed c) (children_at f h)
  pub same : (k : ℕ) → 1 ≤ occurs (children_at f n) k → k ≢ h → IsSameAt f w g w k
  pub inner : (k : ℕ) → 1 ≤ occurs (children_at f h) k → IsSameAt f w g w k

-- the partial child h of the P-node n may be lengthened: q is another partial child, and c is full
pub record CanLengthen (f : Layout) (w : Marks) (n h q : ℕ) (c : Option NodeId) : Type 0 where
  pub one : IsOneTree f
  pub two : HasTwoEach f
  pub room : size_of w ≡ length f.slots
  pub is_p : shape_at f n ≡ Some P
  pub is_q : shape_at f h ≡ Some Q
  pub line : 1 ≤ occurs (children_at f n) h
  pub partial : label_at w h ≡ Partly
  pub other : 1 ≤ occurs (children_at f n) q
  pub other_partial : label_at w q ≡ Partly
  pub apart : h ≢ q
  pub child : (k : ℕ) → 1 ≤ occurs (listed c) k → (1 ≤ occurs (children_at f n) k) × (label_at w k ≡ Full)

can_absorb_one : (f : Layout) (w : Marks) (n h q : ℕ) (c : NodeId) → CanLengthen f w n h q (Some c) → CanAbsorb f w n h c.index
can_absorb_one f w n h q c can =
    let k = can.child c.index (occurs_here c.index []) in
    record {
      one = can.one;
      two = can.two;
      room = can.room;
      put = record {
        is_p = can.is_p;
        is_q = can.is_q;
        line = can.line;
        child = k.0;
        apart = λ e. not_full_partial (label_at w h) (ap (label_at w) e ∙ k.1) can.partial;
        above = can.one n (used_by f n P can.is_p);
      };
      partial = can.partial;
    }

pub can_put_in_if : (f : Layout) (w : Marks) (n h q : ℕ) (c : Option NodeId) → CanLengthen f w n h q c → CanPutInIf f n h c
can_put_in_if f w n h q None can = tt
can_put_in_if f w n h q (Some c) can = (can_absorb_one f w n h q c can).put

none_lengthened : (f : Layout) (w : Marks) (n h q end : ℕ) → IsLayout f → CanLengthen f w n h q None → IsLengthened f f w n h end None
none_lengthened f w n h q end lay can = record {
  treated = unchanged f w n lay can.one can.two (used_by f n P can.is_p);
  node = can.is_p;
  bag = λ k. omega arith;
  shape = can.is_q;
  line = put_on_none end (children_at f h);
  same = λ k o ne. same_self f w k;
  inner = λ k o. same_self f w k;
}

one_lengthened : (f : Layout) (w : Marks) (n h q end : ℕ) (c : NodeId) → IsLayout f → IsLayout (put_in f n h end c.index) → CanLengthen f w n h q (Some c) → IsLengthened f (put_in f n h end c.index) w n h end (Some c)
one_lengthened f w n h q end c lay hg can =
    let g : Layout = put_in f n h end c.index in
    let a : CanAbsorb f w n h c.index = can_absorb_one f w n h q c can in
    let i : IsPutIn f g n h c.index end = is_put_in f n h c.index end lay a.put in
    let full = (can.child c.index (occurs_here c.index [])).1 in
    let qc : q ≢ c.index = (λ e. not_full_partial (label_at w q) (ap (label_at w) e ∙ full) can.other_partial) in
    let left : 1 ≤ occurs (children_at g n) q = subst (λ z. 1 ≤ occurs z q) (sym i.node) (subst (λ z. 1 ≤ z) (sym (without_kept (children_at f n) c.index q qc)) can.other) in
    let long : 2 ≤ length (children_at g n) = two_members (children_at g n) h q i.can.child left can.apart in
    let b : IsAbsorbed f w g w n h c.index end n = stay_absorbed f w n h c.index end lay a g i hg long in
    elim b.place [
      | inl p ↦ record {
        treated = stay_treated f w n h c.index end lay a g i hg long;
        node = p.1;
        bag = p.3;
        shape = b.shape;
        line = b.children;
        same = λ k o ne. elim (cases_eq k c.index) [
          | inl e ↦ subst (λ z. IsSameAt f w g w z) (sym e) b.added
          | inr nc ↦ p.4 k o ne nc
        ];
        inner = b.inner;
      }
      | inr p ↦ absurd (child_other f n h lay can.line (sym p.0))
    ]

pub lengthened : (f g : Layout) (w : Marks) (n h q end : ℕ) (c : Option NodeId) → IsLayout f → IsLayout g → CanLengthen f w n h q c → g ≡ put_in_if f n h end c → IsLengthened f g w n h end c
lengthened f g w n h q end None lay hg can e = subst (λ z. IsLengthened f z w n h end None) (sym e) (none_lengthened f w n h q end lay can)
lengthened f g w n h q end (Some c) lay hg can e =
    subst (λ z. IsLengthened f z w n h end (Some c)) (sym e) (one_lengthened f w n h q end c lay (subst IsLayout e hg) can)
