-- The pertinent root, once the templates below it are decided or applied.
use Rattle.std.proofs.Common.{◌≡◌, ◌≢◌, inl, inr, ℕ, zero, suc, ◌-◌, ◌≤◌, ◌<◌, true, false, cond, eqb, List, [], ◌∷◌, map, length, take, Some, None, refl, sym, ap, subst, ◌∙◌, arith, eq-eqb}
use Rattle.std.proofs.lemmas.Bool.{cases_eq, cases_lt, ne_eqb}
use Rattle.column_order.specs.Orders.{occurs}
use Rattle.pq_tree.specs.Forests.{forest}
use Rattle.pq_tree.specs.Nodes.{IsPertinentRoot}
use Rattle.tree_theory.specs.Reduced.{IsReduced}
use Rattle.tree_theory.specs.Refused.{IsRefused, IsStuck, IsUnfitRoot}
use Rattle.tree_theory.specs.Laws.{RootTurnedLaw}
use Rattle.arena_model.specs.ChildLists.{with_replaced}
use Rattle.arena_model.specs.Layout.{Layout, children_at, IsInUse, IsLayout, IsAtOrAbove, here}
use Rattle.arena_model.specs.NamedTree.{outline_below, outline_at}
use Rattle.arena_model.proofs.Lists.{occurs_here}
use Rattle.arena_model.proofs.Paths.{above_ends, one_parent, at_once, by}
use Rattle.arena_model.proofs.Trees.{no_circle}
use Rattle.pq_arena.specs.declared.node.NodeId.{NodeId}
use Rattle.pq_arena.specs.RowNodes.{column_leaves}
use Rattle.bubble_pass.specs.declared.labels.Label.TheVariants.{Empty}
use Rattle.bubble_pass.specs.Marks.{Marks, label_at}
use Rattle.bubble_pass.specs.Pass.{IsRightAt, node_in}
use Rattle.bubble_pass.specs.Sweep.{IsRight}
use Rattle.template_model.specs.Standing.{mark_of, child_trees, AreShapesAt, IsReady}
use Rattle.template_model.specs.Treated.{IsTreated, IsReplacedAt}
use Rattle.template_model.proofs.Replaced.{join_paths}
use Rattle.arena_model.proofs.Slots.{child_used}
use Rattle.row_reduce.specs.declared.template.Template.{Template}
use Rattle.row_reduce.specs.Fits.{IsFit, IsChoice}
use Rattle.row_reduce.specs.Becomes.{Becomes, Stands}
use Rattle.row_reduce.specs.Applying.{IsStanding}
use Rattle.row_reduce.specs.Deciding.{IsLabelled}
use Rattle.row_reduce.specs.Ground.{IsGround}
use Rattle.row_reduce.specs.Decided.{is_top, template_in, labelled_at, AreDecided, IsStopped, AreChosen}
use Rattle.row_reduce.specs.Outcome.{AtFoundRoot}
use Rattle.row_reduce.proofs.Agree.{Agree}
use Rattle.row_reduce.proofs.Leaves.{full_leaf}
use Rattle.row_reduce.proofs.Loops.{counts_kept}
use Rattle.row_reduce.proofs.Marking.{AreRight}
use Rattle.row_reduce.proofs.Labelling.{AtNode, labelled, unfit, unfit_root, Labels, labels_built, missed, leaf_fits}
use Rattle.row_reduce.proofs.Answering.{ChildrenNow, map_fixed}
use Rattle.row_reduce.proofs.Grounds.{is_empty, right_child, right_at, row_leaf, node_labelled, labelled_below, places_down, once_at, taken_at, child_done, done_labelled}
use Rattle.row_reduce.proofs.Applied.{AtStep, children_now, stands_now, ready_at}
use Rattle.row_reduce.proofs.Rooting.{RootMade, AtRoot, IsLeafIn, root_made}
use Rattle.arena_model.proofs.Nodes.{root_is, node_below_it}
use Rattle.row_model.proofs.Ascending.{row_within}
use Rattle.row_reduce.proofs.Ending.{IsExchanged, replaced_whole}

-- labels of the children of a node of which the labelled ones have labels
pub kids : {f : Layout} {v : Marks} {row : List ℕ} {q : ℕ} → IsGround f v row q → (n : ℕ) → IsAtOrAbove f.slots q n → ((k : ℕ) → 1 ≤ occurs (children_at f n) k → label_at v k ≢ Empty → IsLabelled f v row k) →
    Labels f v row (children_at f n)
kids {f = f} {v = v} {row = row} s n l of = labels_built f v row (children_at f n) (λ k o. elim (is_empty (label_at v k)) [
  | inl e ↦ missed f v row k s.layout s.is_row (child_used f n k s.layout o) (right_child s n k l o) e
  | inr some ↦ of k o some
])

pub at_node : {f : Layout} {v : Marks} {row : List ℕ} {q : ℕ} → IsGround f v row q → (n : ℕ) → label_at v n ≢ Empty → AreRight f (column_leaves row) (label_at v) n → (c : Labels f v row (children_at f n)) → AtNode f v row n c.ps
at_node s n some right c = record {
  layout = s.layout;
  two = s.two;
  is_row = s.is_row;
  leaves = λ x o. row_leaf s x o;
  right = right;
  some = some;
  labels = c.labels;
  marked = c.marked;
}

-- a template that stands at a node gives it a label, where those below it have theirs
labels_next : {f : Layout} {v : Marks} {row : List ℕ} {q : ℕ} → IsGround f v row q → (i : ℕ) → i < length v.nodes → node_in v i ≢ q → (t : Template) → IsFit f v (node_in v i) false t →
    ((j : ℕ) → j < i → IsLabelled f v row (node_in v j)) → IsLabelled f v row (node_in v i)
labels_next {f = f} {v = v} {row = row} s i l ne t fit earlier = labelled t (at_node s (node_in v i) some (right_at s (node_in v i) some ne) c) (fit c.ps c.marked)
  where
    some : label_at v (node_in v i) ≢ Empty
    some = node_labelled s i l

    c : Labels f v row (children_at f (node_in v i))
    c = kids s (node_in v i) (labelled_below s (node_in v i) some) (λ k o ok. let b = s.marked.order i k l o ok in subst (λ z. IsLabelled f v row z) b.2 (earlier b.0 b.1))

-- where templates stand at the first i nodes, their trees have labels
pub labels_up : {f : Layout} {v : Marks} {row : List ℕ} {q : ℕ} → IsGround f v row q → (i : ℕ) → i ≤ length v.nodes → ((j : ℕ) → j < i → node_in v j ≢ q) → ((j : ℕ) → j < i → (t : Template) × IsFit f v (node_in v j) false t) →
    (j : ℕ) → j < i → IsLabelled f v row (node_in v j)
labels_up s zero few below fits j l = absurd (omega arith)
labels_up {f = f} {v = v} {row = row} s (suc i) few below fits j l =
    let earlier : (j : ℕ) → j < i → IsLabelled f v row (node_in v j) = labels_up s i (omega arith) (λ j l. below j (omega arith)) (λ j l. fits j (omega arith)) in
    let fit = fits i (omega arith) in
    elim (cases_eq j i) [
      | inl e ↦ subst (λ z. IsLabelled f v row (node_in v z)) (sym e) (labels_next s i (omega arith) (below i (omega arith)) fit.0 fit.1 earlier)
      | inr ne ↦ earlier j (omega arith)
    ]

-- the labelled children of the node at place i have labels
pub kids_at : {f : Layout} {v : Marks} {row : List ℕ} {q : ℕ} → IsGround f v row q → (i : ℕ) → i < length v.nodes → ((j : ℕ) → j < i → node_in v j ≢ q) → ((j : ℕ) → j < i → (t : Template) × IsFit f v (node_in v j) false t) →
    Labels f v row (children_at f (node_in v i))
kids_at {f = f} {v = v} {row = row} s i l below fits =
    kids s (node_in v i) (labelled_below s (node_in v i) (node_labelled s i l)) (λ k o ok. let b = s.marked.order i k l o ok in
    subst (λ z. IsLabelled f v row z) b.2 (labels_up s i (omega arith) below fits b.0 b.1))

-- the pertinent root holds the row, and no child of it does
pub least : {f : Layout} {v : Marks} {row : List ℕ} {q : ℕ} → AtFoundRoot f v row q → IsPertinentRoot row (outline_at f) (outline_below f q)
least {f = f} {row = row} {q = q} s = root_is f row q s.ground.layout s.ground.one (row_within f.columns row s.ground.is_row) s.ground.used s.found.root.holds
    (λ k o h. no_circle f.slots q k (s.ground.layout.grounds q) o (s.found.root.least k h))

pub first_leaf : (row : List ℕ) → row ≢ [] → (x : ℕ) × (1 ≤ occurs (column_leaves row) x)
first_leaf [] n = absurd (n refl)
first_leaf (a ∷ row) n = (a - 1, occurs_here (a - 1) (column_leaves row))

pub root_some : {f : Layout} {v : Marks} {row : List ℕ} {q : ℕ} → AtFoundRoot f v row q → label_at v q ≢ Empty
root_some {f = f} {row = row} {q = q} s e =
    let x = first_leaf row s.some in
    let miss : IsRight f (column_leaves row) q Empty = subst (λ z. IsRight f (column_leaves row) q z) e s.found.top in
    miss x.0 (s.found.root.holds x.0 x.1) x.1

pub root_right : {f : Layout} {v : Marks} {row : List ℕ} {q : ℕ} → AtFoundRoot f v row q → AreRight f (column_leaves row) (label_at v) q
root_right {q = q} s = record { used = s.ground.used; own = s.found.top; of_children = λ k o. right_child s.ground q k (here q) o }

-- the root is the last of the nodes
pub record LastIs (v : Marks) (q : ℕ) : Type 0 where
  pub some : 1 ≤ length v.nodes
  pub is : node_in v (length v.nodes - 1) ≡ q

pub root_last : {f : Layout} {v : Marks} {row : List ℕ} {q : ℕ} → AtFoundRoot f v row q → LastIs v q
root_last {f = f} {v = v} {row = row} {q = q} s = by place
  where
    place : (j : ℕ) × (j < length v.nodes) × (node_in v j ≡ q)
    place = let t = taken_at v.nodes (length v.nodes) q (subst (λ z. 1 ≤ occurs z q) (sym (whole v.nodes)) (s.ground.marked.all q (root_some s))) in (t.0, t.1, t.3)
      where
        whole : (xs : List ℕ) → take (length xs) xs ≡ xs
        whole [] = refl
        whole (x ∷ xs) = ap (λ z. x ∷ z) (whole xs)

    by : (j : ℕ) × (j < length v.nodes) × (node_in v j ≡ q) → LastIs v q
    by p =
        let last : ℕ = length v.nodes - 1 in
        let lt : p.0 < length v.nodes = p.1 in
        elim (cases_eq (node_in v last) q) [
          | inl e ↦ record { some = omega arith; is = e }
          | inr ne ↦
              let some : label_at v (node_in v last) ≢ Empty = node_labelled s.ground last (omega arith) in
              let r = places_down s.ground q (node_in v last) (labelled_below s.ground (node_in v last) some) p.0 lt p.2 ne some in
              let le : r.0 ≤ p.0 = r.1 in
              let e : r.0 ≡ last = once_at v.nodes r.0 last s.ground.marked.once (omega arith) (omega arith) r.2 in
              let e' : p.0 ≡ last = omega arith in
              absurd (ne (ap (node_in v) (sym e') ∙ p.2))
        ]

not_last : {f : Layout} {v : Marks} {row : List ℕ} {q : ℕ} → AtFoundRoot f v row q → (i : ℕ) → i < length v.nodes - 1 → node_in v i ≢ q
not_last {v = v} s i l e =
    let r : LastIs v _ = root_last s in
    let some : 1 ≤ length v.nodes = r.some in
    let z : i ≡ length v.nodes - 1 = once_at v.nodes i (length v.nodes - 1) s.ground.marked.once (omega arith) (omega arith) (e ∙ sym r.is) in
    absurd (omega arith)

top_not : (root : NodeId) (n : ℕ) → n ≢ root.index → is_top (Some root) n ≡ false
top_not root n ne = ne_eqb n root.index ne

pub top_is : (root : NodeId) (n : ℕ) → n ≡ root.index → is_top (Some root) n ≡ true
top_is root n e = eq-eqb n root.index e

pub chosen_below : {f : Layout} {v : Marks} {row : List ℕ} (root : NodeId) (ts : List Template) → AtFoundRoot f v row root.index → length v.nodes ≤ length ts → AreDecided f v (Some root) ts (length v.nodes) →
    AreChosen f v row root.index ts (length v.nodes - 1)
chosen_below {f = f} {v = v} root ts s room d = record {
  ground = s.ground;
  few = omega arith;
  room = omega arith;
  below = λ i l. not_last s i l;
  fits = λ i l. subst (λ z. IsFit f v (node_in v i) z (template_in ts i)) (top_not root (node_in v i) (not_last s i l)) (d.fits i (omega arith));
}

-- where no template stands at some node, no template reduces the tree
pub refused : {f : Layout} {v : Marks} {row : List ℕ} (root : NodeId) → AtFoundRoot f v row root.index → IsStopped f v (Some root) → IsRefused row (outline_at f)
refused {f = f} {v = v} {row = row} root s stop = (outline_below f root.index, least s, stuck)
  where
    before_last : (j : ℕ) → j < stop.i → j < length v.nodes - 1
    before_last j l = let some : stop.i < length v.nodes = stop.some in omega arith

    below : (j : ℕ) → j < stop.i → node_in v j ≢ root.index
    below j l = not_last s j (before_last j l)

    fits : (j : ℕ) → j < stop.i → (t : Template) × IsFit f v (node_in v j) false t
    fits j l = let b = stop.before j l in (b.0, subst (λ z. IsFit f v (node_in v j) z b.0) (top_not root (node_in v j) (below j l)) b.1)

    c : Labels f v row (children_at f (node_in v stop.i))
    c = kids_at s.ground stop.i stop.some below fits

    stuck : IsStuck row (outline_below f root.index)
    stuck = elim (cases_eq (node_in v stop.i) root.index) [
      | inl e ↦
          let some : label_at v (node_in v stop.i) ≢ Empty = node_labelled s.ground stop.i stop.some in
          let right : AreRight f (column_leaves row) (label_at v) (node_in v stop.i) = subst (λ z. AreRight f (column_leaves row) (label_at v) z) (sym e) (root_right s) in
          inl (subst (λ z. IsUnfitRoot row (outline_below f z)) e
          (unfit_root (at_node s.ground (node_in v stop.i) some right c) (subst (λ z. IsChoice f v (node_in v stop.i) z None) (top_is root (node_in v stop.i) e) stop.none)))
      | inr ne ↦
          let some : label_at v (node_in v stop.i) ≢ Empty = node_labelled s.ground stop.i stop.some in
          let l : IsAtOrAbove f.slots root.index (node_in v stop.i) = labelled_below s.ground (node_in v stop.i) some in
          inr (
            outline_below f (node_in v stop.i),
            node_below_it f root.index (node_in v stop.i) s.ground.layout s.ground.used l ne,
            unfit (at_node s.ground (node_in v stop.i) some (right_at s.ground (node_in v stop.i) some ne) c)
                (subst (λ z. IsChoice f v (node_in v stop.i) z None) (top_not root (node_in v stop.i) ne) stop.none),
          )
    ]

-- a node that is not below the pertinent root stands, and so does the root, while the nodes below it are done
pub outer_stands : {f g : Layout} {v w : Marks} {row : List ℕ} {q i : ℕ} {place : ℕ → ℕ} → AtStep f v row q i place g w → (x : ℕ) → IsInUse f x → (IsAtOrAbove f.slots q x → x ≡ q) → IsStanding f (take i v.nodes) x
outer_stands {f = f} {v = v} {q = q} {i = i} s x used top = record {
  used = used;
  clear = λ y o l.
      let ly : IsAtOrAbove f.slots q y = labelled_below s.ground y (done_labelled s.ground i y o) in
      let e : x ≡ q = top (join_paths f.slots q y x ly l) in
      elim (above_ends f.slots y q (subst (λ z. IsAtOrAbove f.slots y z) e l)) [
        | at_once z ↦ s.below y o z
        | by m lm om ↦ no_circle f.slots m q (s.ground.layout.grounds m) om (join_paths f.slots q y m ly lm)
      ];
}

-- what is outside of the pertinent root stays, but for the answer at the root
pub exchanged : {f g : Layout} {v w : Marks} {row : List ℕ} {q i : ℕ} {place : ℕ → ℕ} (h : Layout) (a : ℕ) → AtStep f v row q i place g w → IsLayout h → IsReplacedAt g h q a → IsExchanged f h q a
exchanged {f = f} {g = g} {v = v} {q = q} {i = i} {place = place} h a s hl r = record {
  f_layout = s.ground.layout;
  h_layout = hl;
  used = s.ground.used;
  root = r.root ∙ ap (λ z. cond (eqb z q) a z) s.applied.root;
  outside = λ m out.
      let sm : IsStanding f (take i v.nodes) m = outer_stands s m out.0 (λ l. absurd (out.1 l)) in
      let sq : IsStanding f (take i v.nodes) q = outer_stands s q s.ground.used (λ l. refl) in
      let o = r.outside m ((λ e. out.0 (sym (s.applied.shapes m sm) ∙ e)), λ l. out.1 (s.applied.paths m q sm sq l)) in
      let own : map place (children_at f m) ≡ children_at f m = map_fixed place (children_at f m) (λ k ok. s.applied.fixed k (elim (cases_lt 0 (occurs (take i v.nodes) k)) [
        | inl d ↦ absurd (
            let lk : IsAtOrAbove f.slots q k = labelled_below s.ground k (done_labelled s.ground i k d) in
            elim (above_ends f.slots q k lk) [
              | at_once e ↦ s.below k d (sym e)
              | by p lp op ↦ out.1 (subst (λ z. IsAtOrAbove f.slots q z) (one_parent f p m k s.ground.layout op ok) lp)
            ])
        | inr d ↦ omega arith
      ])) in
      (o.0 ∙ s.applied.shapes m sm, o.1 ∙ ap (λ z. with_replaced z q a) (s.applied.children m sm ∙ own));
}

-- the root while all nodes below it are done
pub record RootNow (f g : Layout) (v w : Marks) (row : List ℕ) (q : ℕ) (place : ℕ → ℕ) : Type 0 where
  pub found : AtFoundRoot f v row q
  pub step : AtStep f v row q (length v.nodes - 1) place g w

root_standing : {f g : Layout} {v w : Marks} {row : List ℕ} {q : ℕ} {place : ℕ → ℕ} → RootNow f g v w row q place → IsStanding f (take (length v.nodes - 1) v.nodes) q
root_standing {q = q} r = outer_stands r.step q r.found.ground.used (λ l. refl)

root_children : {f g : Layout} {v w : Marks} {row : List ℕ} {q : ℕ} {place : ℕ → ℕ} → RootNow f g v w row q place → ChildrenNow f v row g w (children_at f q) (map place (children_at f q))
root_children {f = f} {v = v} {q = q} r =
    let last : LastIs v q = root_last r.found in
    let some : 1 ≤ length v.nodes = last.some in
    children_now r.step q (root_standing r) (here q)
    (λ k o ok. child_done r.found.ground (length v.nodes - 1) k (omega arith) (subst (λ z. 1 ≤ occurs (children_at f z) k) (sym last.is) o) ok)

root_chain : {f g : Layout} {v w : Marks} {row : List ℕ} {q : ℕ} {place : ℕ → ℕ} → RootNow f g v w row q place → IsRightAt f v q
root_chain {q = q} r = r.found.ground.marked.chains q (root_some r.found)

pub root_ready : {f g : Layout} {v w : Marks} {row : List ℕ} {q : ℕ} {place : ℕ → ℕ} → RootNow f g v w row q place → IsReady g w q
root_ready {q = q} r = ready_at r.step q (root_standing r) (root_chain r)

pub root_stands : (t : Template) {f g : Layout} {v w : Marks} {row : List ℕ} {q : ℕ} {place : ℕ → ℕ} → RootNow f g v w row q place → IsFit f v q true t → Stands t g w q true
root_stands t {q = q} r fit = stands_now t true r.step q (root_standing r) (root_children r) fit

pub root_counts : {f g : Layout} {v w : Marks} {row : List ℕ} {q : ℕ} {place : ℕ → ℕ} → RootNow f g v w row q place → labelled_at w q ≡ labelled_at v q
root_counts {f = f} {g = g} {v = v} {w = w} {row = row} {q = q} {place = place} r =
    counts_kept f g v w row q place (root_chain r) (r.step.applied.chains q (root_standing r) (root_chain r)) (r.step.applied.children q (root_standing r)) (root_children r)

-- the template at the root makes the reduced tree
pub reduced : (t : Template) {f g : Layout} {v w : Marks} {row : List ℕ} {q : ℕ} {place : ℕ → ℕ} (h : Layout) (u : Marks) (a : ℕ) → RootTurnedLaw → RootNow f g v w row q place → IsFit f v q true t → IsLayout h →
    IsTreated g h w u q a → Becomes t g h w u q a → IsReduced row (outline_at f) (outline_at h)
reduced t {f = f} {g = g} {v = v} {w = w} {row = row} {q = q} {place = place} h u a law r fit hl treated becomes =
    law row (outline_at f) (outline_below f q) m.tree (outline_below h a) (outline_at h) (least r.found) m.made m.stands
    (replaced_whole (exchanged h a r.step hl treated.arena) (r.found.ground.one q r.found.ground.used))
  where
    c : ChildrenNow f v row g w (children_at f q) (map place (children_at f q))
    c = root_children r

    e : map place (children_at f q) ≡ children_at g q
    e = sym (r.step.applied.children q (root_standing r))

    kids_now : Labels f v row (children_at f q)
    kids_now = record { ps = c.ps; labels = c.labels; marked = c.marked }

    node : AtNode f v row q c.ps
    node = at_node r.found.ground q (root_some r.found) (root_right r.found) kids_now

    leaf : IsLeafIn row f q
    leaf b e = full_leaf f row q b r.found.ground.layout r.found.ground.is_row e (subst (λ z. IsRight f (column_leaves row) q z) (leaf_fits node b e) r.found.found.top)

    root : AtRoot f g h v w u row q a c.ps
    root = record {
      f_layout = r.found.ground.layout;
      g_layout = r.step.g_layout;
      h_layout = hl;
      shape = r.step.applied.shapes q (root_standing r);
      labels = c.labels;
      agree = subst (λ z. Agree (child_trees f q) (forest (map (outline_below g) z)) c.ps) (sym (r.step.applied.children q (root_standing r))) c.agree;
    }

    m : RootMade f row q h a
    m = root_made t root leaf (fit c.ps c.marked) (becomes c.ps (subst (λ z. map mark_of c.ps ≡ map (label_at w) z) e c.marked_now) (subst (λ z. AreShapesAt g w z c.ps) e c.shapes))
