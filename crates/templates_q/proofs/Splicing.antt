-- Q-shapes, and what it makes to put their children in their place.
use Rattle.std.proofs.Common.{◌≡◌, ◌≢◌, ◌⊎◌, inl, inr, ℕ, ◌+◌, ◌≤◌, List, [], ◌∷◌, ◌++◌, map, length, Option, Some, None, refl, sym, ap, subst, ◌∙◌, arith, reverse, length-append}
use Rattle.std.specs.Prelude.{All, slice_index_or}
use Rattle.std.proofs.lemmas.Bool.{cases_eq}
use Rattle.std.proofs.lemmas.List.{reverse-reverse, reverse-append, length-reverse}
use Rattle.std.proofs.lemmas.List.Elements.{All-nil, All-cons, All-head, All-tail}
use Rattle.column_order.specs.Orders.{occurs}
use Rattle.column_order.proofs.Lists.{occurs-append}
use Rattle.arena_model.specs.declared.Shape.TheVariants.{Q}
use Rattle.arena_model.specs.ChildLists.{head_or, last_or, none, oriented}
use Rattle.arena_model.specs.Layout.{Layout, slot, shape_at, children_at, IsInUse, IsAtOrAbove, here, down, IsLayout, spliced, IsSpliceAt}
use Rattle.arena_model.specs.NamedTree.{outline_below, IsOneTree, HasTwoEach}
use Rattle.arena_model.proofs.Lists.{occurs_here, occurs_other, last_reverse}
use Rattle.arena_model.proofs.Slots.{some_inj, child_used}
use Rattle.arena_model.proofs.Paths.{one_parent}
use Rattle.arena_model.proofs.Trees.{no_circle}
use Rattle.pq_tree.specs.Forests.{forest}
use Rattle.tree_theory.specs.Templates.{Partial}
use Rattle.pq_arena.specs.declared.node.NodeId.{NodeId}
use Rattle.pq_arena.specs.declared.node.NodeView.{NodeView}
use Rattle.pq_arena.specs.Looks.{node_named, ShowsNode, IsBeside}
use Rattle.bubble_pass.specs.declared.labels.Label.{Label as Mark}
use Rattle.bubble_pass.specs.declared.labels.Label.TheVariants.{Empty, Full}
use Rattle.bubble_pass.specs.Marks.{Marks, label_at}
use Rattle.template_model.specs.Standing.{IsShapeAt}
use Rattle.template_model.specs.Treated.{IsTreated}
use Rattle.templates_q.specs.Walk.{AreChildren, AreAll, IsChildGap, EndsWithout}
use Rattle.templates_q.specs.Splicing.{IsLineIn, IsSplicedIn}
use Rattle.templates_q.proofs.Lists.{occurs_reverse, reverse_split}
use Rattle.templates_q.proofs.Lines.{all_reverse, reverse_three}
use Rattle.templates_q.proofs.Walks.{children_occur, front_gap}
use Rattle.templates_q.proofs.Splices.{IsSpliced, c_child, apart_nodes, at_other, new_children, new_shape, below_on, used_kept, tree_kept, spliced_at, marks_kept}

-- labels of a list, one by one
pub all_of : (l : Mark) (w : Marks) (ks : List ℕ) → All (λ x. label_at w x ≡ l) ks → AreAll l w ks
all_of l w [] a = tt
all_of l w (x ∷ xs) a = (All-head (λ x. label_at w x ≡ l) x xs a, all_of l w xs (All-tail (λ x. label_at w x ≡ l) x xs a))

pub all_from : (l : Mark) (w : Marks) (ks : List ℕ) → AreAll l w ks → All (λ x. label_at w x ≡ l) ks
all_from l w [] a = All-nil (λ x. label_at w x ≡ l)
all_from l w (x ∷ xs) a = All-cons (λ x. label_at w x ≡ l) x xs a.0 (all_from l w xs a.1)

-- each of the list has the label
pub all_has : (l : Mark) (w : Marks) (ks : List ℕ) (k : ℕ) → AreAll l w ks → 1 ≤ occurs ks k → label_at w k ≡ l
all_has l w [] k a o = absurd (omega arith)
all_has l w (x ∷ xs) k a o = elim (cases_eq k x) [
  | inl e ↦ ap (label_at w) e ∙ a.0
  | inr ne ↦ all_has l w xs k a.1 (subst (λ z. 1 ≤ z) (occurs_other x k xs ne) o)
]

-- which end of a Q-shape is full
no_full_first : (w : Marks) (es fs : List ℕ) (x : ℕ) (rest : List ℕ) → AreAll Empty w es → 1 ≤ length es → es ++ fs ≡ x ∷ rest → label_at w x ≡ Full → ⊥
no_full_first w [] fs x rest a l e f = absurd (omega arith)
no_full_first w (y ∷ es) fs x rest a l e f = let i : y ≡ x = cc in let k : Empty ≡ Full = sym a.0 ∙ ap (label_at w) i ∙ f in cc

full_first : (w : Marks) (fs es : List ℕ) → AreAll Full w fs → 1 ≤ length fs → EndsWithout Full w (fs ++ es) → ⊥
full_first w [] es a l n = absurd (omega arith)
full_first w (x ∷ fs) es a l n = n a.0

pub full_in_front : (f : Layout) (w : Marks) (c : ℕ) (h : Partial) (s : IsShapeAt f w c h) (x : ℕ) (rest : List ℕ) → children_at f c ≡ x ∷ rest → label_at w x ≡ Full →
    children_at f c ≡ reverse (s.es ++ s.fs)
full_in_front f w c h s x rest e l = elim s.children [
  | inl k ↦ absurd (no_full_first w s.es s.fs x rest (all_of Empty w s.es s.empty) s.some_empty (sym k ∙ e) l)
  | inr k ↦ k
]

pub full_behind : (f : Layout) (w : Marks) (c : ℕ) (h : Partial) (s : IsShapeAt f w c h) → EndsWithout Full w (children_at f c) → reverse (children_at f c) ≡ reverse (s.es ++ s.fs)
full_behind f w c h s n = elim s.children [
  | inl k ↦ ap reverse k
  | inr k ↦ absurd (full_first w (reverse s.fs) (reverse s.es) (all_reverse Full w s.fs (all_of Full w s.fs s.full))
      (let l : 1 ≤ length s.fs = s.some_full in omega (arith, length-reverse s.fs)) (subst (EndsWithout Full w) (k ∙ reverse-append s.es s.fs) n))
]

-- the place in front of its first child
pub shape_gap : (f : Layout) (w : Marks) (c : ℕ) (h : Partial) (view : NodeView) → ShowsNode f c view → IsShapeAt f w c h → IsChildGap f c [] (children_at f c) (record { before = None; next = slice_index_or view.ends 0 None })
shape_gap f w c h view sh s = front_gap f c view sh (some_inj view.shape Q (sym sh.shape_is ∙ s.is_q))

-- its children, two or more
pub shape_long : (f : Layout) (w : Marks) (c : ℕ) (h : Partial) (s : IsShapeAt f w c h) → 2 ≤ length (s.es ++ s.fs)
shape_long f w c h s = let a : 1 ≤ length s.es = s.some_empty in let b : 1 ≤ length s.fs = s.some_full in omega (arith, length-append s.es s.fs)

shape_two : (f : Layout) (w : Marks) (c : ℕ) (h : Partial) → IsShapeAt f w c h → 2 ≤ length (children_at f c)
shape_two f w c h s = elim s.children [
  | inl k ↦ subst (λ z. 2 ≤ length z) (sym k) (shape_long f w c h s)
  | inr k ↦ subst (λ z. 2 ≤ length z) (sym k) (subst (λ n. 2 ≤ n) (sym (length-reverse (s.es ++ s.fs))) (shape_long f w c h s))
]

-- the call that puts them in its place
turned_at : (f : Layout) (q c : ℕ) (us vs : List ℕ) → children_at f q ≡ reverse (us ++ c ∷ vs) → children_at f q ≡ reverse vs ++ c ∷ reverse us
turned_at f q c us vs e = e ∙ reverse_split us vs c

turned_near : (vs : List ℕ) (near : Option NodeId) → near ≡ node_named (head_or vs none) → near ≡ node_named (last_or (reverse vs) none)
turned_near vs near e = e ∙ ap node_named (sym (last_reverse vs none))

pub can_splice : (f : Layout) (w : Marks) (q c : ℕ) (us vs : List ℕ) (near : Option NodeId) (h : Partial) → IsLineIn f q c us vs near → IsShapeAt f w c h →
    (q : ℕ) × (us : List ℕ) × (vs : List ℕ) × IsSpliceAt f q c us vs × IsBeside near us vs
can_splice f w q c us vs near h l s = elim l.children [
  | inl e ↦ (q, us, vs, record { q_shape = l.is_q; child_shape = s.is_q; at = e; some = shape_two f w c h s }, inr l.towards_is)
  | inr e ↦ (q, reverse vs, reverse us, record { q_shape = l.is_q; child_shape = s.is_q; at = turned_at f q c us vs e; some = shape_two f w c h s }, inl (turned_near vs near l.towards_is))
]

pub spliced_in : (f g : Layout) (w : Marks) (c end : ℕ) (near : Option NodeId) → HasTwoEach f →
    ((q : ℕ) (us vs : List ℕ) → IsSpliceAt f q c us vs → near ≡ node_named (last_or us none) → g ≡ spliced f q c (us ++ (oriented end (children_at f c) ++ vs))) →
    ((q : ℕ) (us vs : List ℕ) → IsSpliceAt f q c us vs → near ≡ node_named (head_or vs none) → 1 ≤ length us + length vs → g ≡ spliced f q c (us ++ (reverse (oriented end (children_at f c)) ++ vs))) →
    ((h : Partial) (s : IsShapeAt f w c h) → oriented end (children_at f c) ≡ reverse (s.es ++ s.fs)) →
    (q : ℕ) (us vs : List ℕ) (h : Partial) → IsLineIn f q c us vs near → (s : IsShapeAt f w c h) → IsSplicedIn f g q c us (s.es ++ s.fs) vs
spliced_in f g w c end near two fore aft at q us vs h l s = elim l.children [
  | inl e ↦ inl (
    e,
    aft q us vs (record { q_shape = l.is_q; child_shape = s.is_q; at = e; some = shape_two f w c h s }) l.towards_is
        (let n : 2 ≤ length (children_at f q) = two q (inr l.is_q) in let k : length (children_at f q) ≡ length (us ++ c ∷ vs) = ap length e in omega (arith, length-append us (c ∷ vs)))
        ∙ ap (λ z. spliced f q c (us ++ (z ++ vs))) (ap reverse (at h s) ∙ reverse-reverse (s.es ++ s.fs)),
  )
  | inr e ↦ inr (
    e,
    fore q (reverse vs) (reverse us) (record { q_shape = l.is_q; child_shape = s.is_q; at = turned_at f q c us vs e; some = shape_two f w c h s }) (turned_near vs near l.towards_is)
        ∙ ap (λ z. spliced f q c (reverse vs ++ (z ++ reverse us))) (at h s)
        ∙ ap (spliced f q c) (sym (reverse_three us (s.es ++ s.fs) vs)),
  )
]

-- The nodes ms, the children of c, stand in its place: as the arena has them, and as they are read.
pub record AreSplicedIn (f g : Layout) (q c : ℕ) (us ms vs : List ℕ) : Type 0 where
  pub left : List ℕ
  pub middle : List ℕ
  pub right : List ℕ
  pub is : IsSpliced f g q c left middle right
  pub new : AreChildren g q (us ++ (ms ++ vs))

pub are_spliced : (f g : Layout) (w : Marks) (q c : ℕ) (us vs : List ℕ) (h : Partial) → IsLayout f → IsLayout g → shape_at f q ≡ Some Q → (s : IsShapeAt f w c h) →
    IsSplicedIn f g q c us (s.es ++ s.fs) vs → AreSplicedIn f g q c us (s.es ++ s.fs) vs
are_spliced f g w q c us vs h lf lg iq s (inl i) =
    let r : IsSpliced f g q c us (s.es ++ s.fs) vs = record {
      before = lf;
      after = lg;
      q_is = iq;
      c_is = s.is_q;
      at = i.0;
      some = shape_long f w c h s;
      same = λ k. sym (children_occur f c (s.es ++ s.fs) k s.children);
      becomes = i.1;
    } in
    record { left = us; middle = s.es ++ s.fs; right = vs; is = r; new = inl (new_children f g q c us (s.es ++ s.fs) vs r) }
are_spliced f g w q c us vs h lf lg iq s (inr i) =
    let ms : List ℕ = s.es ++ s.fs in
    let r : IsSpliced f g q c (reverse vs) (reverse ms) (reverse us) = record {
      before = lf;
      after = lg;
      q_is = iq;
      c_is = s.is_q;
      at = turned_at f q c us vs i.0;
      some = subst (λ n. 2 ≤ n) (sym (length-reverse ms)) (shape_long f w c h s);
      same = λ k. occurs_reverse ms k ∙ sym (children_occur f c ms k s.children);
      becomes = i.1 ∙ ap (spliced f q c) (reverse_three us ms vs);
    } in
    record {
      left = reverse vs;
      middle = reverse ms;
      right = reverse us;
      is = r;
      new = inr (new_children f g q c (reverse vs) (reverse ms) (reverse us) r ∙ sym (reverse_three us ms vs));
    }

-- trees that stay
pub map_same : (f g : Layout) (ks : List ℕ) → ((k : ℕ) → 1 ≤ occurs ks k → outline_below g k ≡ outline_below f k) → map (outline_below f) ks ≡ map (outline_below g) ks
map_same f g [] same = refl
map_same f g (x ∷ xs) same =
    ap (λ z. z ∷ map (outline_below f) xs) (sym (same x (occurs_first x xs))) ∙ ap (λ z. outline_below g x ∷ z) (map_same f g xs (λ k o. same k (occurs_later x xs k o)))
  where
    occurs_first : (x : ℕ) (xs : List ℕ) → 1 ≤ occurs (x ∷ xs) x
    occurs_first x xs = occurs_here x xs

    occurs_later : (x : ℕ) (xs : List ℕ) (k : ℕ) → 1 ≤ occurs xs k → 1 ≤ occurs (x ∷ xs) k
    occurs_later x xs k o = elim (cases_eq k x) [
      | inl e ↦ subst (λ z. 1 ≤ occurs (z ∷ xs) k) e (occurs_here k xs)
      | inr ne ↦ subst (λ z. 1 ≤ z) (sym (occurs_other x k xs ne)) o
    ]

-- the children of a Q-shape
pub shape_empty : (f : Layout) (w : Marks) (k : ℕ) (h : Partial) (s : IsShapeAt f w k h) (m : ℕ) → 1 ≤ occurs s.es m → 1 ≤ occurs (children_at f k) m
shape_empty f w k h s m o = omega (arith, children_occur f k (s.es ++ s.fs) m s.children, occurs-append s.es s.fs m)

pub shape_full : (f : Layout) (w : Marks) (k : ℕ) (h : Partial) (s : IsShapeAt f w k h) (m : ℕ) → 1 ≤ occurs s.fs m → 1 ≤ occurs (children_at f k) m
shape_full f w k h s m o = omega (arith, children_occur f k (s.es ++ s.fs) m s.children, occurs-append s.es s.fs m)

module _ (f g : Layout) (q c : ℕ) (us ms vs : List ℕ) (a : AreSplicedIn f g q c us ms vs) where
  pub spliced_shape : shape_at g q ≡ Some Q
  spliced_shape = new_shape f g q c a.left a.middle a.right a.is

  -- q stays, with all that holds of it from outside
  pub spliced_treated : (w : Marks) → IsOneTree f → HasTwoEach f → IsTreated f g w w q q
  spliced_treated w one two = record {
    arena = spliced_at f g q c a.left a.middle a.right a.is one two;
    marks = marks_kept f g q c a.left a.middle a.right a.is w;
  }

  -- a child of q is a node as it was: not above q, and not c
  off_q : (k : ℕ) → 1 ≤ occurs (children_at g q) k → (k ≢ c) × IsInUse f k
  off_q k o = used_kept f g q c a.left a.middle a.right a.is k (child_used g q k a.is.after o)

  not_above : (k : ℕ) → 1 ≤ occurs (children_at g q) k → IsAtOrAbove f.slots k q → ⊥
  not_above k o l = no_circle g.slots q k (a.is.after.grounds q) o
      (below_on f g q c a.left a.middle a.right a.is k q (off_q k o).0 (apart_nodes f g q c a.left a.middle a.right a.is) l)

  pub spliced_tree : (k : ℕ) → 1 ≤ occurs (children_at g q) k → outline_below g k ≡ outline_below f k
  spliced_tree k o = tree_kept f g q c a.left a.middle a.right a.is k (off_q k o).1 (not_above k o) (off_q k o).0

  pub spliced_slot : (k : ℕ) → 1 ≤ occurs (children_at g q) k → slot g.slots k ≡ slot f.slots k
  spliced_slot k o = at_other f g q c a.left a.middle a.right a.is k
      (λ e. not_above k o (subst (λ z. IsAtOrAbove f.slots k z) e (here k))) (off_q k o).0

  -- so is what is below it
  pub spliced_below : (k m : ℕ) → 1 ≤ occurs (children_at g q) k → 1 ≤ occurs (children_at f k) m → outline_below g m ≡ outline_below f m
  spliced_below k m o i = tree_kept f g q c a.left a.middle a.right a.is m (child_used f k m a.is.before i)
      (λ l. not_above k o (down k m q i l))
      (λ e. not_above k o (subst (λ z. IsAtOrAbove f.slots k z)
      (one_parent f k q c a.is.before (subst (λ z. 1 ≤ occurs (children_at f k) z) e i) (c_child f g q c a.left a.middle a.right a.is)) (here k)))

  -- another child of q that is a Q-shape is the same one
  pub shape_kept : (w : Marks) (k : ℕ) (h : Partial) → 1 ≤ occurs (children_at g q) k → IsShapeAt f w k h → IsShapeAt g w k h
  shape_kept w k h o s = record {
    es = s.es;
    fs = s.fs;
    is_q = ap (λ z. z.shape) (spliced_slot k o) ∙ s.is_q;
    children = subst (λ z. (z ≡ s.es ++ s.fs) ⊎ (z ≡ reverse (s.es ++ s.fs))) (sym (ap (λ z. z.children) (spliced_slot k o))) s.children;
    some_empty = s.some_empty;
    some_full = s.some_full;
    empty = s.empty;
    full = s.full;
    empty_trees = s.empty_trees ∙ ap forest (map_same f g s.es (λ m i. spliced_below k m o (shape_empty f w k h s m i)));
    full_trees = s.full_trees ∙ ap forest (map_same f g s.fs (λ m i. spliced_below k m o (shape_full f w k h s m i)));
  }
