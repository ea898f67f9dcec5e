-- P3: a Q-node over what the full children became, in its place; and then what is left of the node is put before it.
use Rattle.std.proofs.Common.{◌≡◌, ◌≢◌, inl, inr, ℕ, ◌+◌, ◌*◌, ◌≤◌, ◌<◌, false, cond, List, [], ◌∷◌, map, length, Some, None, refl, sym, ap, subst, ◌∙◌, arith, eq-eqb}
use Rattle.std.proofs.lemmas.Bool.{cases_eq, cases_lt, ne_eqb}
use Rattle.std.proofs.lemmas.List.Elements.{All-nil, All-cons}
use Rattle.std.specs.Prelude.{if◌then◌else◌, ◌==◌}
use Rattle.column_order.specs.Orders.{occurs}
use Rattle.pq_tree.specs.Outline.{Outline, Forest, no_tree, tree_and}
use Rattle.pq_tree.specs.Forests.{join}
use Rattle.pq_tree.specs.Proper.{forest, count}
use Rattle.arena_model.specs.declared.Shape.TheVariants.{Leaf, P, Q}
use Rattle.arena_model.specs.ChildLists.{head_or, none, all_but_first, without, with_replaced, put_on}
use Rattle.arena_model.specs.Layout.{Layout, shape_at, children_at, times_child, with_children, taken, IsAtOrAbove, here, down, IsLayout, IsInUse, StandsAlone}
use Rattle.arena_model.specs.NamedTree.{outline_below, IsOneTree, HasTwoEach}
use Rattle.arena_model.proofs.Lists.{occurs_here, only_one}
use Rattle.arena_model.proofs.Bare.{bare_children, bare_other, bare_shape, fresh}
use Rattle.arena_model.proofs.Paths.{above_step, above_kept, other_top}
use Rattle.arena_model.proofs.Slots.{some_none, in_range, used_by, children_same, children_other, shape_same, times_with, children_times, child_used}
use Rattle.arena_model.proofs.Trees.{no_circle}
use Rattle.bubble_pass.specs.declared.labels.Label.TheVariants.{Empty, Full}
use Rattle.bubble_pass.specs.Marks.{Marks, label_at, size_of}
use Rattle.tree_theory.specs.Templates.{Partial, Label, star, p3, IsP3}
use Rattle.template_model.specs.Standing.{child_trees, AreMarkedAs, IsReady}
use Rattle.template_model.specs.Treated.{IsTreated, StandsForPartial}
use Rattle.templates_p.specs.Fits.{StandsP3}
use Rattle.templates_p.specs.Sorts.{full_nodes, empty_nodes, partial_nodes}
use Rattle.templates_p.specs.Steps.{HasGroup, CanGather}
use Rattle.templates_p.specs.Lines.{CanHandOver}
use Rattle.templates_p.specs.Parts.{IsParted, IsStarted, IsLineFor, CanLift}
use Rattle.templates_p.proofs.Rebuilt.{none_child, replaced_has, replaced_length}
use Rattle.templates_p.proofs.Sorting.{sorted_unique, sort, held_length, count_map, sorted_label, empties}
use Rattle.templates_p.proofs.Becoming.{can_gather, no_trees, occurs_none}
use Rattle.templates_p.proofs.Chaining.{child_once}
use Rattle.templates_p.proofs.Grouping.{neither}
use Rattle.templates_p.proofs.Handing.{gone_replaced}
use Rattle.templates_p.proofs.Moving.{spare_head, without_kept, without_less}
use Rattle.templates_p.proofs.Parting.{IsLineOf, parted_treated}
use Rattle.templates_p.proofs.Lining.{parted_line, rest_bag}
use Rattle.pq_tree.proofs.Forests.{join_no_tree}

no_child : (f : Layout) (n q : ℕ) → IsLayout f → shape_at f q ≡ None → occurs (children_at f n) q ≡ 0
no_child f n q lf e = elim (cases_lt 0 (occurs (children_at f n) q)) [
  | inl o ↦ absurd (child_used f n q lf o e)
  | inr o ↦ omega arith
]

-- one node for another, and then without it
without_replaced : (xs : List ℕ) (y q : ℕ) → occurs xs q ≡ 0 → without (with_replaced xs y q) q ≡ without xs y
without_replaced [] y q o = refl
without_replaced (x ∷ xs) y q o =
    let ne : x ≢ q = (λ e. let z : occurs (x ∷ xs) x ≡ 0 = subst (λ z. occurs (x ∷ xs) z ≡ 0) (sym e) o in omega (arith, occurs_here x xs)) in
    let r : without (with_replaced xs y q) q ≡ without xs y = without_replaced xs y q (omega arith) in
    elim (cases_eq x y) [
      | inl e ↦ ap (λ b. without (cond b q x ∷ with_replaced xs y q) q) (eq-eqb x y e)
          ∙ ap (λ b. cond b (without (with_replaced xs y q) q) (q ∷ without (with_replaced xs y q) q)) (eq-eqb q q refl) ∙ r
          ∙ sym (ap (λ b. cond b (without xs y) (x ∷ without xs y)) (eq-eqb x y e))
      | inr d ↦ ap (λ b. without (cond b q x ∷ with_replaced xs y q) q) (ne_eqb x y d)
          ∙ ap (λ b. cond b (without (with_replaced xs y q) q) (x ∷ without (with_replaced xs y q) q)) (ne_eqb x q ne) ∙ ap (λ ys. x ∷ ys) r
          ∙ sym (ap (λ b. cond b (without xs y) (x ∷ without xs y)) (ne_eqb x y d))
    ]

-- what is known of q once it was taken as a Q-node
pub record IsNew (f : Layout) (q : ℕ) : Type 0 where
  pub spare : shape_at f q ≡ None
  pub shape : shape_at (taken f q Q) q ≡ Some Q
  pub shapes : (m : ℕ) → m ≢ q → shape_at (taken f q Q) m ≡ shape_at f m
  pub children : (m : ℕ) → children_at (taken f q Q) m ≡ children_at f m
  pub none : children_at f q ≡ []

new_line : (f : Layout) (q : ℕ) → IsLayout f → 1 ≤ length f.spares → q ≡ head_or f.spares none → IsNew f q
new_line f q lf some e =
    let ys : List ℕ = all_but_first f.spares in
    let new = fresh f q ys lf (spare_head f.spares some ∙ ap (λ z. z ∷ ys) (sym e)) in
    record {
      spare = new.0;
      shape = bare_shape f q (Some Q) ys new.1;
      shapes = λ m ne. bare_other f q m (Some Q) ys ne;
      children = λ m. bare_children f q m (Some Q) ys new.1 new.2;
      none = new.2;
    }

-- q in the place of the child y of n
abbrev pub in_place : Layout → ℕ → ℕ → ℕ → Layout
in_place f n y q = with_children (taken f q Q) n (with_replaced (children_at (taken f q Q) n) y q)

-- what putting q there asks for
pub record IsReadyToStand (g : Layout) (n y q : ℕ) : Type 0 where
  pub used : IsInUse g y
  pub child : 1 ≤ occurs (children_at g n) y
  pub no_way : IsAtOrAbove g.slots q y → ⊥

-- what holds once it stands there: y may be its child
pub record IsPlaced (f g : Layout) (n y q : ℕ) : Type 0 where
  pub shape : shape_at g q ≡ Some Q
  pub alone : StandsAlone g y
  pub no_way : IsAtOrAbove g.slots y q → ⊥
  pub started : (i : Layout) → i ≡ with_children g q (put_on 1 y (children_at g q)) → IsStarted f i n y q

module _ (f : Layout) (n y q : ℕ) (lf : IsLayout f) (can : CanHandOver f n y) (new : IsNew f q) (lt : IsLayout (taken f q Q)) (alone : StandsAlone (taken f q Q) q) where
  n_q : n ≢ q
  n_q e = some_none P (sym can.is_p ∙ subst (λ z. shape_at f z ≡ None) (sym e) new.spare)

  y_q : y ≢ q
  y_q e = child_used f n y lf can.child (subst (λ z. shape_at f z ≡ None) (sym e) new.spare)

  above_n : IsAtOrAbove (taken f q Q).slots f.root n
  above_n = above_kept f.slots (taken f q Q).slots n (λ m k ne o. subst (λ z. 1 ≤ occurs z k) (sym (new.children m)) o) f.root can.above

  child_y : 1 ≤ occurs (children_at (taken f q Q) n) y
  child_y = subst (λ z. 1 ≤ occurs z y) (sym (new.children n)) can.child

  pub ready_to_stand : IsReadyToStand (taken f q Q) n y q
  ready_to_stand = record {
    used = lt.used y (let a : occurs (children_at (taken f q Q) n) y ≤ times_child (taken f q Q).slots y = children_times (taken f q Q) n y in let b : 1 ≤ occurs (children_at (taken f q Q) n) y = child_y in omega arith);
    child = child_y;
    no_way = λ w. other_top (taken f q Q) f.root q y lt lt.root_top alone.apart (λ e. alone.other (sym e)) (above_step (taken f q Q).slots f.root n y above_n child_y) w;
  }

  n_in : n < length (taken f q Q).slots
  n_in = in_range (taken f q Q) n (used_by (taken f q Q) n P (new.shapes n n_q ∙ can.is_p))

  placed_q : 1 ≤ occurs (children_at (in_place f n y q) n) q
  placed_q = subst (λ z. 1 ≤ occurs z q) (sym (children_same (taken f q Q) n (with_replaced (children_at (taken f q Q) n) y q) n_in))
      (replaced_has (children_at (taken f q Q) n) y q child_y)

  above_placed : IsAtOrAbove (in_place f n y q).slots f.root n
  above_placed = above_kept (taken f q Q).slots (in_place f n y q).slots n
      (λ m k ne o. subst (λ z. 1 ≤ occurs z k) (sym (children_other (taken f q Q) n m (with_replaced (children_at (taken f q Q) n) y q) ne)) o) f.root above_n

  placed_shape : shape_at (in_place f n y q) q ≡ Some Q
  placed_shape = shape_same (taken f q Q) n q (with_replaced (children_at (taken f q Q) n) y q) n_in ∙ new.shape

  placed_alone : StandsAlone (in_place f n y q) y
  placed_alone = record {
    used = λ e. child_used f n y lf can.child (sym (shape_same (taken f q Q) n y (with_replaced (children_at (taken f q Q) n) y q) n_in ∙ new.shapes y y_q) ∙ e);
    apart =
        let a : times_child (taken f q Q).slots y ≤ 1 = lt.once y in
        let b : occurs (with_replaced (children_at (taken f q Q) n) y q) y ≡ 0 = gone_replaced (children_at (taken f q Q) n) y q y_q in
        let d : 1 ≤ occurs (children_at (taken f q Q) n) y = child_y in
        omega (arith, times_with (taken f q Q) n (with_replaced (children_at (taken f q Q) n) y q) y n_in);
    other = λ e.
        let a : times_child (taken f q Q).slots f.root ≡ 0 = lt.root_top in
        let b : times_child (taken f q Q).slots y ≡ 0 = subst (λ z. times_child (taken f q Q).slots z ≡ 0) (sym e) a in
        let c : occurs (children_at (taken f q Q) n) y ≤ times_child (taken f q Q).slots y = children_times (taken f q Q) n y in
        let d : 1 ≤ occurs (children_at (taken f q Q) n) y = child_y in omega arith;
  }

  placed_no_way : IsLayout (in_place f n y q) → IsAtOrAbove (in_place f n y q).slots y q → ⊥
  placed_no_way lp w = other_top (in_place f n y q) f.root y q lp lp.root_top placed_alone.apart (λ e. placed_alone.other (sym e))
      (above_step (in_place f n y q).slots f.root n q above_placed placed_q) w

  bare_q : children_at (in_place f n y q) q ≡ []
  bare_q = children_other (taken f q Q) n q (with_replaced (children_at (taken f q Q) n) y q) (λ e. n_q (sym e)) ∙ new.children q ∙ new.none

  q_in : q < length (in_place f n y q).slots
  q_in = in_range (in_place f n y q) q (used_by (in_place f n y q) q Q placed_shape)

  placed_others : (m : ℕ) → m ≢ n → children_at (in_place f n y q) m ≡ children_at f m
  placed_others m a = children_other (taken f q Q) n m (with_replaced (children_at (taken f q Q) n) y q) a ∙ new.children m

  started : (g : Layout) → g ≡ with_children (in_place f n y q) q (put_on 1 y (children_at (in_place f n y q) q)) → IsStarted f g n y q
  started g is = subst (λ z. IsStarted f z n y q) (sym is) (record {
    spare = new.spare;
    columns = refl;
    root = refl;
    is_q = shape_same (in_place f n y q) q q (put_on 1 y (children_at (in_place f n y q) q)) q_in ∙ placed_shape;
    shapes = λ m ne. shape_same (in_place f n y q) q m (put_on 1 y (children_at (in_place f n y q) q)) q_in
        ∙ shape_same (taken f q Q) n m (with_replaced (children_at (taken f q Q) n) y q) n_in ∙ new.shapes m ne;
    node = children_other (in_place f n y q) q n (put_on 1 y (children_at (in_place f n y q) q)) n_q
        ∙ children_same (taken f q Q) n (with_replaced (children_at (taken f q Q) n) y q) n_in ∙ ap (λ ks. with_replaced ks y q) (new.children n);
    line = children_same (in_place f n y q) q (put_on 1 y (children_at (in_place f n y q) q)) q_in ∙ ap (λ ks. put_on 1 y ks) bare_q;
    others = λ m a b. children_other (in_place f n y q) q m (put_on 1 y (children_at (in_place f n y q) q)) b ∙ placed_others m a;
    above = above_kept (in_place f n y q).slots (with_children (in_place f n y q) q (put_on 1 y (children_at (in_place f n y q) q))).slots n
        (λ m k ne o. elim (cases_eq m q) [
          | inl e ↦ absurd (let z : 1 ≤ occurs [] k = subst (λ ks. 1 ≤ occurs ks k) bare_q (subst (λ j. 1 ≤ occurs (children_at (in_place f n y q) j) k) e o) in omega arith)
          | inr b ↦ subst (λ z. 1 ≤ occurs z k) (sym (children_other (in_place f n y q) q m (put_on 1 y (children_at (in_place f n y q) q)) b)) o
        ]) f.root above_placed;
  })

  pub placed : IsLayout (in_place f n y q) → IsPlaced f (in_place f n y q) n y q
  placed lp = record { shape = placed_shape; alone = placed_alone; no_way = placed_no_way lp; started = started }

pub may_stand : (f g : Layout) (n y q : ℕ) → IsLayout f → IsLayout g → CanHandOver f n y → 1 ≤ length f.spares → q ≡ head_or f.spares none → g ≡ taken f q Q →
    StandsAlone g q → IsReadyToStand g n y q
may_stand f g n y q lf lg can some first e alone = subst (λ z. IsReadyToStand z n y q) (sym e)
    (ready_to_stand f n y q lf can (new_line f q lf some first) (subst IsLayout e lg) (subst (λ z. StandsAlone z q) e alone))

pub stands_placed : (f g h : Layout) (n y q : ℕ) → IsLayout f → IsLayout g → CanHandOver f n y → 1 ≤ length f.spares → q ≡ head_or f.spares none → g ≡ taken f q Q →
    StandsAlone g q → (1 ≤ occurs (children_at g n) y → h ≡ with_children g n (with_replaced (children_at g n) y q)) → IsLayout h → IsPlaced f h n y q
stands_placed f g h n y q lf lg can some first e alone put lh =
    let r : IsReadyToStand g n y q = may_stand f g n y q lf lg can some first e alone in
    let d : h ≡ in_place f n y q = put r.child ∙ ap (λ z. with_children z n (with_replaced (children_at z n) y q)) e in
    subst (λ z. IsPlaced f z n y q) (sym d)
    (placed f n y q lf can (new_line f q lf some first) (subst IsLayout e lg) (subst (λ z. StandsAlone z q) e alone) (subst IsLayout d lh))

-- the whole change, from before the line was started
pub started_parted : (f g i : Layout) (v w : Marks) (n y q end : ℕ) (rest line : List ℕ) → IsStarted f g n y q → IsParted g i v w n q end rest line → IsParted f i v w n q end rest line
started_parted f g i v w n y q end rest line s p = record {
  e = p.e;
  columns = p.columns ∙ s.columns;
  root = p.root ∙ ap (λ r. if r == n then q else r) s.root;
  is_q = p.is_q;
  shapes = λ m a b. p.shapes m a b ∙ s.shapes m b;
  children = λ m a b. p.children m a b ∙ ap (λ xs. with_replaced xs n q) (s.others m a b);
  over = p.over;
  part = p.part;
  marks = p.marks;
}

module _ (f g : Layout) (n y q : ℕ) (lf : IsLayout f) (is_p : shape_at f n ≡ Some P) (child : 1 ≤ occurs (children_at f n) y) (s : IsStarted f g n y q) where
  apart : n ≢ q
  apart e = some_none P (sym is_p ∙ subst (λ z. shape_at f z ≡ None) (sym e) s.spare)

  child_n : (k : ℕ) → 1 ≤ occurs (children_at f n) k → k ≢ n
  child_n k o e = no_circle f.slots n k (lf.grounds n) o (subst (λ z. IsAtOrAbove f.slots k z) e (here k))

  child_q : (k : ℕ) → 1 ≤ occurs (children_at f n) k → k ≢ q
  child_q k o e = child_used f n k lf o (subst (λ z. shape_at f z ≡ None) (sym e) s.spare)

  -- the children that stay
  pub rest_is : without (children_at g n) q ≡ without (children_at f n) y
  rest_is = ap (λ ks. without ks q) s.node ∙ without_replaced (children_at f n) y q (no_child f n q lf s.spare)

  in_rest : (k : ℕ) → 1 ≤ occurs (without (children_at g n) q) k → 1 ≤ occurs (children_at f n) k
  in_rest k o = let o' : 1 ≤ occurs (without (children_at f n) y) k = subst (λ z. 1 ≤ occurs z k) rest_is o in omega (arith, without_less (children_at f n) y k)

  only_y : (k : ℕ) → 1 ≤ occurs (children_at g q) k → k ≡ y
  only_y k o = only_one k y (subst (λ z. 1 ≤ occurs z k) s.line o)

  pub started_line : IsLineOf f n q (without (children_at g n) q) (children_at g q)
  started_line = record {
    is_p = is_p;
    mine = inr s.spare;
    closed = λ j o. absurd (child_used f j q lf o s.spare);
    no_leaf = λ b e. (let z : None ≡ Some (Leaf b) = sym s.spare ∙ e in cc);
    some = let z : length (children_at g q) ≡ 1 = ap (λ ks. length ks) s.line in omega arith;
    own = λ k o. absurd (none_child f q k lf s.spare o);
    below = λ k o. subst (λ z. IsAtOrAbove f.slots n z) (sym (only_y k o)) (down n y y child (here y));
    inner = λ k o. subst (λ z. occurs (n ∷ q ∷ []) z ≡ 0) (sym (only_y k o)) (neither n q y (child_n y child) (child_q y child));
    child = in_rest;
    other = λ k o. neither n q k (child_n k (in_rest k o)) (child_q k (in_rest k o));
    covers = λ k o. inr (elim (cases_eq k y) [
      | inl e ↦ let z : 1 ≤ occurs (children_at g q) k = subst (λ j. 1 ≤ occurs (children_at g q) j) (sym e) (subst (λ ks. 1 ≤ occurs ks y) (sym s.line) (occurs_here y [])) in omega arith
      | inr ne ↦ let z : 1 ≤ occurs (without (children_at g n) q) k = subst (λ ks. 1 ≤ occurs ks k) (sym rest_is) (subst (λ j. 1 ≤ j) (sym (without_kept (children_at f n) y k ne)) o) in omega arith
    ]);
  }

pub p3_can_gather : (f : Layout) (w : Marks) (n : ℕ) → IsReady f w n → StandsP3 f w n → CanGather f w n
p3_can_gather f w n r s =
    let o : ℕ → Outline = outline_below f in
    let ks : List ℕ = children_at f n in
    let three = s.3.1.1 in
    let u = sorted_unique (sort o w ks s.0 s.1) three.pattern in
    let a : length (empty_nodes w ks) ≡ count (tree_and three.e three.es) = sym (count_map o (empty_nodes w ks)) ∙ ap count u.0 in
    can_gather f w n r s.3.0 (omega arith)

-- some child is full
pub p3_full : (f : Layout) (w : Marks) (n : ℕ) → StandsP3 f w n → full_nodes w (children_at f n) ≡ [] → ⊥
p3_full f w n s none =
    let three = s.3.1.1 in
    let u = sorted_unique (sort (outline_below f) w (children_at f n) s.0 s.1) three.pattern in
    no_trees (outline_below f) (full_nodes w (children_at f n)) three.f three.fs none u.1

-- no child is partial
pub p3_no_partial : (f : Layout) (w : Marks) (n : ℕ) → StandsP3 f w n → (k : ℕ) → occurs (partial_nodes w (children_at f n)) k ≡ 0
p3_no_partial f w n s k =
    let u = sorted_unique (sort (outline_below f) w (children_at f n) s.0 s.1) s.3.1.1.pattern in
    occurs_none (partial_nodes w (children_at f n)) k (sym (held_length w (children_at f n) s.0 s.1) ∙ ap (λ hs. length hs) u.2)

pub can_start : (f g : Layout) (v w : Marks) (n y : ℕ) → IsTreated f g v w n n → HasGroup f v g w n y → CanHandOver g n y
can_start f g v w n y t grp = record {
  is_p = grp.shape;
  child = omega (arith, grp.children y, occurs_here y []);
  above = t.arena.one n (used_by g n P grp.shape);
}

module _ (f g g' : Layout) (v w : Marks) (n y q : ℕ) (lg : IsLayout g) (grp : HasGroup f v g w n y) (no_partial : (k : ℕ) → occurs (partial_nodes v (children_at f n)) k ≡ 0) (s : IsStarted g g' n y q) where
  in_node : 1 ≤ occurs (children_at g n) y
  in_node = omega (arith, grp.children y, occurs_here y [])

  bag : (k : ℕ) → occurs (children_at g n) k ≡ occurs (y ∷ empty_nodes v (children_at f n)) k
  bag k = omega (arith, grp.children k, no_partial k)

  line : IsLineOf g n q (without (children_at g' n) q) (children_at g' q)
  line = started_line g g' n y q lg grp.shape in_node s

  rest_of : (k : ℕ) → occurs (empty_nodes v (children_at f n)) k ≡ occurs (without (children_at g' n) q) k
  rest_of k = rest_bag (children_at g n) (empty_nodes v (children_at f n)) y bag (child_once g n y lg) k ∙ ap (λ zs. occurs zs k) (sym (rest_is g g' n y q lg grp.shape in_node s))

  in_empty : (k : ℕ) → 1 ≤ occurs (without (children_at g' n) q) k → 1 ≤ occurs (empty_nodes v (children_at f n)) k
  in_empty k o = omega (arith, rest_of k)

  rest_empty : (k : ℕ) → 1 ≤ occurs (without (children_at g' n) q) k → label_at w k ≡ Empty
  rest_empty k o = let i : 1 ≤ occurs (empty_nodes v (children_at f n)) k = in_empty k o in (grp.others k (omega arith)).label ∙ sorted_label empties v (children_at f n) k i

  pub started_can_lift : HasTwoEach g → size_of w ≡ length g'.slots → CanLift g' w n q
  started_can_lift two room = record {
    hand = record {
      is_p = s.shapes n (apart g g' n y q lg grp.shape in_node s) ∙ grp.shape;
      child = subst (λ ks. 1 ≤ occurs ks q) (sym s.node) (replaced_has (children_at g n) y q in_node);
      above = s.above;
    };
    is_q = s.is_q;
    more = subst (λ ks. 2 ≤ length ks) (sym s.node) (let l : 2 ≤ length (children_at g n) = two n (inl grp.shape) in omega (arith, replaced_length (children_at g n) y q));
    room = room;
  }

  pub p3_treated : (i : Layout) (x : Marks) (end : ℕ) → IsLayout i → IsOneTree g → HasTwoEach g → IsParted g' i w x n q end (without (children_at g' n) q) (children_at g' q) → IsTreated g i w x n q
  p3_treated i x end li one two p = parted_treated g i w x n q end (without (children_at g' n) q) (children_at g' q) lg li line
      (started_parted g g' i w x n y q end (without (children_at g' n) q) (children_at g' q) s p) rest_empty one two

  line_for : IsLineFor g w (children_at g' q) 1 no_tree (star (forest (map (outline_below f) (full_nodes v (children_at f n)))))
  line_for = record {
    es = [];
    fs = y ∷ [];
    sides = inl (refl, s.line);
    some = omega arith;
    empty = All-nil (λ k. label_at w k ≡ Empty);
    full = All-cons (λ k. label_at w k ≡ Full) y [] grp.label (All-nil (λ k. label_at w k ≡ Full));
    empty_trees = tt;
    full_trees = grp.tree;
  }

  pub p3_becomes : (i : Layout) (x : Marks) (ps : List Label) (z : Partial) → IsLayout i → IsParted g' i w x n q 0 (without (children_at g' n) q) (children_at g' q) →
      AreMarkedAs f v n ps → IsP3 false (child_trees f n) ps z → StandsForPartial i x q z
  p3_becomes i x ps z li p marked three =
      let o : ℕ → Outline = outline_below f in
      let ks : List ℕ = children_at f n in
      let u = sorted_unique (sort o v ks ps marked) three.pattern in
      let es : Forest = forest (map o (empty_nodes v ks)) in
      let fs : Forest = forest (map o (full_nodes v ks)) in
      let base : StandsForPartial i x q (record { e = join (star es) no_tree; f = star fs }) =
      parted_line g i w x n q 0 1 (without (children_at g' n) q) (children_at g' q) lg li line (started_parted g g' i w x n y q 0 (without (children_at g' n) q) (children_at g' q) s p) rest_empty
      o (empty_nodes v ks) rest_of (λ k r. let c : 1 ≤ occurs (empty_nodes v ks) k = in_empty k r in (grp.others k (omega arith)).tree) no_tree (star fs) line_for (inl (refl, refl)) in
      let plain : StandsForPartial i x q (p3 es fs) = subst (λ ts. StandsForPartial i x q (record { e = ts; f = star fs })) (join_no_tree (star es)) base in
      subst (λ t. StandsForPartial i x q t) (sym three.becomes)
      (subst (λ ts. StandsForPartial i x q (p3 ts (tree_and three.f three.fs))) u.0 (subst (λ ts. StandsForPartial i x q (p3 es ts)) u.1 plain))

pub same_slots : (f g : Layout) → IsLayout f → IsLayout g → g.columns ≡ f.columns → length g.slots ≡ length f.slots
same_slots f g lf lg e =
    let a : length f.slots ≡ 2 * f.columns + 4 = lf.size in let b : length g.slots ≡ 2 * g.columns + 4 = lg.size in omega arith
