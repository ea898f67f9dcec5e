-- The full children of a P-node stand under a new one, and all else is as it was.
use Rattle.std.proofs.Common.{◌≡◌, ◌≢◌, ◌⊎◌, inl, inr, ℕ, ◌+◌, ◌*◌, ◌≤◌, ◌<◌, List, [], ◌∷◌, ◌++◌, length, map, set, Option, Some, None, refl, sym, ap, subst, ◌∙◌, arith, length-append}
use Rattle.std.proofs.lemmas.Bool.{cases_eq, cases_lt}
use Rattle.std.proofs.lemmas.List.{get_or-set_other, get_or-set_same, length-set, map-append}
use Rattle.column_order.specs.Orders.{occurs}
use Rattle.column_order.proofs.Lists.{occurs-append}
use Rattle.pq_tree.specs.Outline.{Outline, p_node, no_tree, tree_and}
use Rattle.pq_tree.specs.Proper.{forest}
use Rattle.pq_tree.specs.Equivalent.{AreEquivalent}
use Rattle.arena_model.specs.declared.Shape.TheVariants.{Leaf, P}
use Rattle.arena_model.specs.Layout.{Layout, spare_slot, slot, shape_at, children_at, IsAtOrAbove, here, down, IsLayout, StandsAlone, MayHaveChildren, IsInUse, with_children}
use Rattle.arena_model.specs.NamedTree.{outline_below, IsOneTree, HasTwoEach}
use Rattle.arena_model.proofs.Lists.{occurs_here, occurs_other, only_one}
use Rattle.arena_model.proofs.Slots.{some_none, in_range, used_by, children_same, children_other, shape_same, child_used}
use Rattle.arena_model.proofs.Paths.{other_top}
use Rattle.arena_model.proofs.Trees.{no_circle}
use Rattle.pq_arena.specs.declared.node.NodeId.{NodeId}
use Rattle.bubble_pass.specs.declared.labels.Label.TheVariants.{Empty, Partial as Partly, Full}
use Rattle.pq_arena.specs.RowNodes.{indices}
use Rattle.bubble_pass.specs.Marks.{Marks, label_at, fulls_at, partials_at, size_of, first_of, next_of, IsFollowed}
use Rattle.tree_theory.specs.Templates.{star}
use Rattle.template_model.specs.Standing.{IsReady}
use Rattle.template_model.specs.Treated.{IsTreated}
use Rattle.templates_p.specs.Sorts.{full_nodes, empty_nodes, partial_nodes, full_then}
use Rattle.templates_p.specs.Steps.{CanMove, Moved, moved_under, without_all, onto, Gathering, HasGroup, CanGather, IsSameAt, HasChildWith}
use Rattle.templates_p.proofs.Rebuilt.{IsRebuilt, IsWritten, root_kept}
use Rattle.template_model.proofs.Replaced.{replaced_self}
use Rattle.templates_p.proofs.Remarked.{AreRemarked, is_answer, is_full, swapped_self, treated}
use Rattle.templates_p.proofs.Sorting.{all_sorted, all_counted, fulls_length, sorted_label, fulls, sorted_times, sorted_none, empties, partials, not_full_empty, not_full_partial, AreMarked}
use Rattle.templates_p.proofs.Framing.{p_stands, are_same, same_at, same_length}
use Rattle.templates_p.proofs.Moving.{all_kept, all_less, all_gone, onto_has, can_move, ready_to_put, moved_one}
use Rattle.templates_p.proofs.Chaining.{chain_times, chain_length, child_once, ahead, ahead_of, some_same, never_none}
use Rattle.bubble_pass.specs.declared.labels.Label.{Label as Mark}

pub gather_start : (f g : Layout) (w : Marks) (n x left : ℕ) (next : Option NodeId) (start now : ℕ) → IsLayout f → IsReady f w n → Moved f g n x [] →
    left ≡ fulls_at w n + partials_at w n → next ≡ first_of w n → now ≡ start + 1 → Gathering f g w n x left next start now
gather_start f g w n x left next start now h r m e q t = record {
  passed = [];
  rest = r.right.chain;
  followed = subst (λ o. IsFollowed w o r.right.chain) (sym q) r.right.is;
  count = e ∙ sym (chain_length f w n h r.right);
  all = λ k. omega (arith, chain_times f w n k h r.right);
  moved = m;
  ticks = omega arith;
  length = omega (arith, chain_length f w n h r.right);
}

fulls_snoc : (w : Marks) (xs : List ℕ) (x : ℕ) → full_nodes w (xs ++ x ∷ []) ≡ full_nodes w xs ++ full_then (label_at w x) x []
fulls_snoc w [] x = refl
fulls_snoc w (y ∷ xs) x = ap (full_then (label_at w y) y) (fulls_snoc w xs x) ∙ front (label_at w y)
  where
    front : (l : _) → full_then l y (full_nodes w xs ++ full_then (label_at w x) x []) ≡ full_then l y (full_nodes w xs) ++ full_then (label_at w x) x []
    front Empty = refl
    front Partly = refl
    front Full = refl

pub indices_snoc : (xs : List NodeId) (x : NodeId) → indices (xs ++ x ∷ []) ≡ indices xs ++ x.index ∷ []
indices_snoc xs x = map-append (λ n. n.index) xs (x ∷ [])

-- the next child of the chain is a child, and was not passed
pub record IsNext (f : Layout) (w : Marks) (n : ℕ) (passed : List NodeId) (x : NodeId) : Type 0 where
  pub child : 1 ≤ occurs (children_at f n) x.index
  pub new : occurs (full_nodes w (indices passed)) x.index ≡ 0

fulls_less : (w : Marks) (xs : List ℕ) (k : ℕ) → occurs (full_nodes w xs) k ≤ occurs xs k
fulls_less w xs k = omega (arith, all_sorted w xs k)

pub gather_next : (f g : Layout) (w : Marks) (n x left : ℕ) (next : Option NodeId) (start now : ℕ) (y : NodeId) → IsLayout f →
    (s : Gathering f g w n x left next start now) → 1 ≤ left → next ≡ Some y → IsNext f w n s.passed y
gather_next f g w n x left next start now y h s l e = elim (ahead_of w next s.rest s.followed (let c : left ≡ length s.rest = s.count in omega arith)) [
  | ahead z zs r p i ↦
      let same : z ≡ y = some_same z y (sym p ∙ e) in
      let o : 1 ≤ occurs (indices s.rest) y.index = subst (λ rs. 1 ≤ occurs (indices rs) y.index) (sym r)
      (subst (λ t. 1 ≤ occurs (indices (z ∷ zs)) t) (ap (λ t. t.index) same) (occurs_here z.index (indices zs))) in
      let ks : List ℕ = children_at f n in
      let a : occurs (indices s.passed) y.index + occurs (indices s.rest) y.index ≡ occurs (full_nodes w ks) y.index + occurs (partial_nodes w ks) y.index = s.all y.index in
      let once : occurs ks y.index ≤ 1 = child_once f n y.index h in
      record {
        child = omega (arith, all_sorted w ks y.index);
        new = omega (arith, all_sorted w ks y.index, fulls_less w (indices s.passed) y.index);
      }
]

pub gather_on : (f g g' : Layout) (w : Marks) (n x left left' : ℕ) (next next' : Option NodeId) (start now now' : ℕ) (y : NodeId) →
    (s : Gathering f g w n x left next start now) → 1 ≤ left → next ≡ Some y → left' + 1 ≡ left → next' ≡ next_of w y → now' ≤ now + 2 →
    Moved f g' n x (full_nodes w (indices (s.passed ++ y ∷ []))) → Gathering f g' w n x left' next' start now'
gather_on f g g' w n x left left' next next' start now now' y s l e m q t moved = elim (ahead_of w next s.rest s.followed (let c : left ≡ length s.rest = s.count in omega arith)) [
  | ahead z zs r p i ↦
      let same : z ≡ y = some_same z y (sym p ∙ e) in
      let len : length s.rest ≡ length (z ∷ zs) = ap length r in
      record {
        passed = s.passed ++ y ∷ [];
        rest = zs;
        followed = subst (λ o. IsFollowed w o zs) (ap (next_of w) same ∙ sym q) i;
        count = let c : left ≡ length s.rest = s.count in omega arith;
        all = λ k. let a : occurs (indices s.passed) k + occurs (indices s.rest) k ≡ occurs (full_nodes w (children_at f n)) k + occurs (partial_nodes w (children_at f n)) k = s.all k in
            let b : occurs (indices s.rest) k ≡ occurs (y.index ∷ indices zs) k = ap (λ rs. occurs (indices rs) k) r ∙ ap (λ t. occurs (t.index ∷ indices zs) k) same in
            let c : occurs (indices (s.passed ++ y ∷ [])) k ≡ occurs (indices s.passed) k + occurs (y.index ∷ []) k =
            ap (λ zs. occurs zs k) (indices_snoc s.passed y) ∙ occurs-append (indices s.passed) (y.index ∷ []) k in
            omega arith;
        moved = moved;
        ticks = let a : now ≤ start + 2 * length s.passed + 1 = s.ticks in omega (arith, length-append s.passed (y ∷ []));
        length = let a : length s.passed + length s.rest ≡ fulls_at w n + partials_at w n = s.length in omega (arith, length-append s.passed (y ∷ []));
      }
]

-- a full child was passed: it has moved
pub passed_full : (f g : Layout) (w : Marks) (n x : ℕ) (passed : List NodeId) (y : NodeId) → IsLayout g → shape_at f n ≡ Some P →
    Moved f g n x (full_nodes w (indices passed)) → IsNext f w n passed y → label_at w y.index ≡ Full →
    Moved f (moved_under g n x y.index) n x (full_nodes w (indices (passed ++ y ∷ [])))
passed_full f g w n x passed y h is_p m i e =
    let can : CanMove g n x y.index = can_move f g n x (full_nodes w (indices passed)) y.index is_p m i.child i.new in
    subst (λ ds. Moved f (moved_under g n x y.index) n x ds)
    (sym (ap (full_nodes w) (indices_snoc passed y) ∙ fulls_snoc w (indices passed) y.index ∙ ap (λ l. full_nodes w (indices passed) ++ full_then l y.index []) e))
    (moved_one f g n x (full_nodes w (indices passed)) y.index m can (ready_to_put g n x y.index h can))

append_nil : (xs : List ℕ) → xs ++ [] ≡ xs
append_nil [] = refl
append_nil (x ∷ xs) = ap (λ ys. x ∷ ys) (append_nil xs)

-- another child was passed: nothing moves
pub passed_other : (f g : Layout) (w : Marks) (n x : ℕ) (passed : List NodeId) (y : NodeId) →
    Moved f g n x (full_nodes w (indices passed)) → (label_at w y.index ≡ Full → ⊥) → Moved f g n x (full_nodes w (indices (passed ++ y ∷ [])))
passed_other f g w n x passed y m ne = subst (λ ds. Moved f g n x ds)
    (sym (ap (full_nodes w) (indices_snoc passed y) ∙ fulls_snoc w (indices passed) y.index ∙ ap (λ zs. full_nodes w (indices passed) ++ zs) (none (label_at w y.index) refl) ∙ append_nil (full_nodes w (indices passed)))) m
  where
    none : (l : _) → label_at w y.index ≡ l → full_then l y.index [] ≡ []
    none Empty e = refl
    none Partly e = refl
    none Full e = absurd (ne e)

-- at the end of the walk the full children have moved
pub record AllMoved (f g : Layout) (w : Marks) (n x : ℕ) (ds : List ℕ) : Type 0 where
  pub moved : Moved f g n x ds
  pub all : (k : ℕ) → occurs ds k ≡ occurs (full_nodes w (children_at f n)) k

pub gather_end : (f g : Layout) (w : Marks) (n x left : ℕ) (next : Option NodeId) (start now : ℕ) → (s : Gathering f g w n x left next start now) → left ≡ 0 →
    AllMoved f g w n x (full_nodes w (indices s.passed))
gather_end f g w n x left next start now s e = record {
  moved = s.moved;
  all = λ k.
      let ks : List ℕ = children_at f n in
      let none : occurs (indices s.rest) k ≡ 0 = nil s.rest k (let c : left ≡ length s.rest = s.count in omega arith) in
      let a : occurs (indices s.passed) k + occurs (indices s.rest) k ≡ occurs (full_nodes w ks) k + occurs (partial_nodes w ks) k = s.all k in
      elim (cases_lt 0 (occurs (full_nodes w ks) k)) [
        | inl l ↦
            let is : label_at w k ≡ Full = sorted_label fulls w ks k l in
            let b : occurs (full_nodes w (indices s.passed)) k ≡ occurs (indices s.passed) k = sorted_times fulls w (indices s.passed) k is in
            let c : occurs (partial_nodes w ks) k ≡ 0 = sorted_none partials w ks k (not_full_partial (label_at w k) is) in omega arith
        | inr l ↦ elim (cases_lt 0 (occurs (full_nodes w (indices s.passed)) k)) [
          | inl m ↦
              let is : label_at w k ≡ Full = sorted_label fulls w (indices s.passed) k m in
              let b : occurs (full_nodes w (indices s.passed)) k ≡ occurs (indices s.passed) k = sorted_times fulls w (indices s.passed) k is in
              let c : occurs (partial_nodes w ks) k ≡ 0 = sorted_none partials w ks k (not_full_partial (label_at w k) is) in omega arith
          | inr m ↦ omega arith
        ]
      ];
}
  where
    nil : (rs : List NodeId) (k : ℕ) → length rs ≡ 0 → occurs (indices rs) k ≡ 0
    nil [] k e = refl
    nil (r ∷ rs) k e = absurd (omega arith)

some_member : (xs : List ℕ) → 1 ≤ length xs → (k : ℕ) × (1 ≤ occurs xs k)
some_member [] l = absurd (omega arith)
some_member (x ∷ xs) l = (x, occurs_here x xs)

pub gathering_some : (f g : Layout) (w : Marks) (n x left : ℕ) (next : Option NodeId) (start now : ℕ) → Gathering f g w n x left next start now → 1 ≤ left → next ≡ None → ⊥
gathering_some f g w n x left next start now s l e = never_none w s.rest (subst (λ o. IsFollowed w o s.rest) e s.followed) (let c : left ≡ length s.rest = s.count in omega arith)

-- whatever the label, a child was passed
pub passed_one : (f g g' : Layout) (w : Marks) (n x : ℕ) (passed : List NodeId) (y : NodeId) → IsLayout g → shape_at f n ≡ Some P →
    Moved f g n x (full_nodes w (indices passed)) → IsNext f w n passed y → (label_at w y.index ≡ Full → g' ≡ moved_under g n x y.index) → (label_at w y.index ≢ Full → g' ≡ g) →
    Moved f g' n x (full_nodes w (indices (passed ++ y ∷ [])))
passed_one f g g' w n x passed y h is_p m i full other = go (label_at w y.index) refl
  where
    kept : label_at w y.index ≢ Full → Moved f g' n x (full_nodes w (indices (passed ++ y ∷ [])))
    kept ne = subst (λ z. Moved f z n x (full_nodes w (indices (passed ++ y ∷ [])))) (sym (other ne)) (passed_other f g w n x passed y m ne)

    go : (l : _) → label_at w y.index ≡ l → Moved f g' n x (full_nodes w (indices (passed ++ y ∷ [])))
    go Empty e = kept (λ q. not_full_empty (label_at w y.index) q e)
    go Partly e = kept (λ q. not_full_partial (label_at w y.index) q e)
    go Full e = subst (λ z. Moved f z n x (full_nodes w (indices (passed ++ y ∷ [])))) (sym (full e)) (passed_full f g w n x passed y h is_p m i e)

-- a child among those with a mark
pub marked_child : {l : Mark} {sorted : Marks → List ℕ → List ℕ} → AreMarked l sorted → l ≢ Empty → (f : Layout) (w : Marks) (n a k : ℕ) → IsReady f w n → 1 ≤ occurs (sorted w (children_at f n)) k → k ≢ a →
    HasChildWith f w n l a
marked_child s marked f w n a k r o other =
    let is = sorted_label s w (children_at f n) k o in
    record { ready = r; k = k; child = subst (λ z. 1 ≤ z) (sorted_times s w (children_at f n) k is) o; labelled = is; other = other; marked = marked }

-- the first of them is no child of itself
pub first_marked : {l : Mark} {sorted : Marks → List ℕ → List ℕ} → AreMarked l sorted → l ≢ Empty → (f : Layout) (w : Marks) (n : ℕ) → IsLayout f → IsReady f w n → 1 ≤ length (sorted w (children_at f n)) →
    HasChildWith f w n l n
first_marked {sorted = sorted} s marked f w n h r l =
    let k = some_member (sorted w (children_at f n)) l in
    let child : 1 ≤ occurs (children_at f n) k.0 = subst (λ z. 1 ≤ z) (sorted_times s w (children_at f n) k.0 (sorted_label s w (children_at f n) k.0 k.1)) k.1 in
    marked_child s marked f w n n k.0 r k.1 (λ q. no_circle f.slots n k.0 (h.grounds n) child (subst (λ z. IsAtOrAbove f.slots k.0 z) q (here k.0)))

-- one full child
pub one_full : (f : Layout) (w : Marks) (n : ℕ) → IsLayout f → IsReady f w n → fulls_at w n ≡ 1 → HasChildWith f w n Full n
one_full f w n h r e =
    let a : length (full_nodes w (children_at f n)) ≡ fulls_at w n = fulls_length w (children_at f n) ∙ sym r.right.full in
    first_marked fulls (λ q. cc) f w n h r (omega arith)

pub only_member : (xs : List ℕ) (y : ℕ) → length xs ≡ 1 → 1 ≤ occurs xs y → xs ≡ y ∷ []
only_member [] y e o = absurd (omega arith)
only_member (x ∷ []) y e o = ap (λ z. z ∷ []) (sym (only_one y x o))
only_member (x ∷ z ∷ xs) y e o = absurd (omega arith)

star_many : (o : ℕ → Outline) (xs : List ℕ) → 2 ≤ length xs → star (forest (map o xs)) ≡ tree_and (p_node (forest (map o xs))) no_tree
star_many o [] l = absurd (omega arith)
star_many o (x ∷ []) l = absurd (omega arith)
star_many o (x ∷ y ∷ xs) l = refl

-- y is the only one of the nodes ys, or a P-node over them, which are two or more: it stands for them in any order
pub one_stands : (g : Layout) (y : ℕ) (o : ℕ → Outline) (xs ys : List ℕ) → IsLayout g →
    (ys ≡ y ∷ []) ⊎ ((shape_at g y ≡ Some P) × ((k : ℕ) → occurs (children_at g y) k ≡ occurs ys k) × (2 ≤ length ys)) →
    ((k : ℕ) → occurs xs k ≡ occurs ys k) → ((k : ℕ) → 1 ≤ occurs ys k → outline_below g k ≡ o k) → AreEquivalent (star (forest (map o xs))) (outline_below g y ∷ [])
one_stands g y o xs ys h (inl q) same tree =
    let one : length xs ≡ 1 = (let b : length ys ≡ length xs = same_length xs ys same in let c : length ys ≡ 1 = ap (λ z. length z) q in omega arith) in
    let in_ys : 1 ≤ occurs ys y = subst (λ z. 1 ≤ occurs z y) (sym q) (occurs_here y []) in
    let is : xs ≡ y ∷ [] = only_member xs y one (subst (λ z. 1 ≤ z) (sym (same y)) in_ys) in
    subst (λ zs. AreEquivalent (star (forest (map o zs))) (outline_below g y ∷ [])) (sym is)
    (are_same o (outline_below g) (y ∷ []) (λ k i. tree k (subst (λ z. 1 ≤ z) (same k) (subst (λ zs. 1 ≤ occurs zs k) (sym is) i))))
one_stands g y o xs ys h (inr q) same tree =
    let many : 2 ≤ length xs = (let a : 2 ≤ length ys = q.2 in let b : length ys ≡ length xs = same_length xs ys same in omega arith) in
    subst (λ ts. AreEquivalent ts (outline_below g y ∷ [])) (sym (star_many o xs many))
    (p_stands g y xs (forest (map o xs)) h q.0 (λ k. same k ∙ sym (q.1 k)) (are_same o (outline_below g) xs (λ k i. tree k (subst (λ z. 1 ≤ z) (same k) i))), tt)

pub no_full_child : (f : Layout) (w : Marks) (n : ℕ) → IsReady f w n → fulls_at w n ≡ 0 → full_nodes w (children_at f n) ≡ []
no_full_child f w n r e = nil (full_nodes w (children_at f n)) (fulls_length w (children_at f n) ∙ sym r.right.full ∙ e)
  where
    nil : (xs : List ℕ) → length xs ≡ 0 → xs ≡ []
    nil [] e = refl
    nil (x ∷ xs) e = absurd (omega arith)

pub one_made : (f : Layout) (w : Marks) (n y : ℕ) → IsReady f w n → shape_at f n ≡ Some P → fulls_at w n ≡ 1 → 1 ≤ occurs (children_at f n) y → label_at w y ≡ Full →
    HasGroup f w f w n y
one_made f w n y r is_p e o l =
    let a : length (full_nodes w (children_at f n)) ≡ 1 = fulls_length w (children_at f n) ∙ sym r.right.full ∙ e in
    let in_full : 1 ≤ occurs (full_nodes w (children_at f n)) y = subst (λ z. 1 ≤ z) (sym (sorted_times fulls w (children_at f n) y l)) o in
    let is : full_nodes w (children_at f n) ≡ y ∷ [] = only_member (full_nodes w (children_at f n)) y a in_full in
    record {
      shape = is_p;
      children = λ k. all_sorted w (children_at f n) k ∙ ap (λ xs. occurs xs k + occurs (empty_nodes w (children_at f n)) k + occurs (partial_nodes w (children_at f n)) k) is;
      label = l;
      tree = subst (λ xs. AreEquivalent (star (forest (map (outline_below f) xs))) (outline_below f y ∷ [])) (sym is)
          (are_same (outline_below f) (outline_below f) (y ∷ []) (λ k q. refl));
      others = λ k q. record { label = refl; tree = refl; shape = λ h x. x };
    }

pub two_kinds : (n x m : ℕ) → occurs (n ∷ x ∷ []) m ≡ 0 → (m ≢ n) × (m ≢ x)
two_kinds n x m z = (
  λ e. let o : 1 ≤ occurs (n ∷ x ∷ []) m = subst (λ y. 1 ≤ occurs (n ∷ x ∷ []) y) (sym e) (occurs_here n (x ∷ [])) in omega arith,
  λ e. let o : 1 ≤ occurs (x ∷ []) m = subst (λ y. 1 ≤ occurs (x ∷ []) y) (sym e) (occurs_here x []) in omega arith,
)

pub neither : (n x m : ℕ) → m ≢ n → m ≢ x → occurs (n ∷ x ∷ []) m ≡ 0
neither n x m a b = let p : occurs (n ∷ x ∷ []) m ≡ occurs (x ∷ []) m = occurs_other n m (x ∷ []) a in
    let q : occurs (x ∷ []) m ≡ 0 = occurs_other x m [] b in omega arith

some_length : (xs : List ℕ) (k : ℕ) → 1 ≤ occurs xs k → 1 ≤ length xs
some_length [] k o = absurd (omega arith)
some_length (x ∷ xs) k o = omega arith

-- the group y is put in front of the other children
abbrev pub grouped : Layout → ℕ → ℕ → Layout
grouped g n x = with_children g n (x ∷ children_at g n)

-- and is marked as full
abbrev pub full_marked : Marks → ℕ → Marks
full_marked v x = record v { labels = set v.labels x Full }

-- what may be put in front of the other children of n
pub record IsReadyToGroup (g : Layout) (n x : ℕ) : Type 0 where
  pub shape : shape_at g n ≡ Some P
  pub alone : StandsAlone g x
  pub no_way : IsAtOrAbove g.slots x n → ⊥

pub ready_to_group : (f g : Layout) (n x : ℕ) (ds : List ℕ) → IsLayout g → Moved f g n x ds → IsReadyToGroup g n x
ready_to_group f g n x ds h m = record {
  shape = m.node_shape;
  alone = m.alone;
  no_way = λ l. other_top g g.root x n h h.root_top m.alone.apart (λ e. m.alone.other (sym e)) m.below l;
}

-- the full children of the P-node n may come under a new node: they are two or more, and not all
pub record CanGroup (f : Layout) (v : Marks) (n : ℕ) : Type 0 where
  pub one : IsOneTree f
  pub two : HasTwoEach f
  pub room : size_of v ≡ length f.slots
  pub used : IsInUse f n
  pub is_p : shape_at f n ≡ Some P
  pub many : 2 ≤ length (full_nodes v (children_at f n))
  pub more : length (full_nodes v (children_at f n)) < length (children_at f n)

pub can_group : (f : Layout) (v : Marks) (n : ℕ) → CanGather f v n → 2 ≤ fulls_at v n → CanGroup f v n
can_group f v n c many =
    let e : fulls_at v n ≡ length (full_nodes v (children_at f n)) = c.ready.right.full ∙ sym (fulls_length v (children_at f n)) in
    record {
      one = c.ready.one;
      two = c.ready.two;
      room = c.ready.room;
      used = c.ready.used;
      is_p = c.is_p;
      many = omega (arith, many);
      more = omega (arith, c.more);
    }

module _ (f g : Layout) (v : Marks) (n x : ℕ) (ds : List ℕ) (h : IsLayout f) (hg : IsLayout (grouped g n x)) (c : CanGroup f v n) (a : AllMoved f g v n x ds) where
  node_in : n < length g.slots
  node_in = in_range g n (used_by g n P a.moved.node_shape)

  apart : n ≢ x
  apart e = some_none P (sym c.is_p ∙ subst (λ z. shape_at f z ≡ None) (sym e) a.moved.fresh)

  node_children : children_at (grouped g n x) n ≡ x ∷ without_all (children_at f n) ds
  node_children = children_same g n (x ∷ children_at g n) node_in ∙ ap (λ ks. x ∷ ks) a.moved.node_children

  group_children : children_at (grouped g n x) x ≡ onto ds []
  group_children = children_other g n x (x ∷ children_at g n) (λ e. apart (sym e)) ∙ a.moved.group_children

  node_shape : shape_at (grouped g n x) n ≡ Some P
  node_shape = shape_same g n n (x ∷ children_at g n) node_in ∙ a.moved.node_shape

  group_shape : shape_at (grouped g n x) x ≡ Some P
  group_shape = shape_same g n x (x ∷ children_at g n) node_in ∙ a.moved.group_shape

  other_slot : (m : ℕ) → m ≢ n → m ≢ x → slot (grouped g n x).slots m ≡ slot f.slots m
  other_slot m p q = get_or-set_other g.slots n m _ spare_slot p ∙ a.moved.others m p q

  in_group : (k : ℕ) → occurs (children_at (grouped g n x) x) k ≡ occurs (full_nodes v (children_at f n)) k
  in_group k = ap (λ ks. occurs ks k) group_children ∙ (let z : occurs (onto ds []) k ≡ occurs ds k + 0 = onto_has ds [] k in
      let y : occurs ds k ≡ occurs (full_nodes v (children_at f n)) k = a.all k in omega arith)

  full_child : (k : ℕ) → 1 ≤ occurs (full_nodes v (children_at f n)) k → 1 ≤ occurs (children_at f n) k
  full_child k o = omega (arith, all_sorted v (children_at f n) k)

  not_group : (k : ℕ) → 1 ≤ occurs (children_at f n) k → k ≢ x
  not_group k o e = child_used f n k h o (subst (λ z. shape_at f z ≡ None) (sym e) a.moved.fresh)

  left_children : (k : ℕ) → occurs (without_all (children_at f n) ds) k ≡ occurs (empty_nodes v (children_at f n)) k + occurs (partial_nodes v (children_at f n)) k
  left_children k =
      let ks : List ℕ = children_at f n in
      elim (cases_lt 0 (occurs (full_nodes v ks) k)) [
        | inl l ↦
            let is = sorted_label fulls v ks k l in
            let z : occurs (without_all ks ds) k ≡ 0 = all_gone ks ds k (subst (λ y. 1 ≤ y) (sym (a.all k)) l) in
            let e : occurs (empty_nodes v ks) k ≡ 0 = sorted_none empties v ks k (not_full_empty (label_at v k) is) in
            let p : occurs (partial_nodes v ks) k ≡ 0 = sorted_none partials v ks k (not_full_partial (label_at v k) is) in
            omega arith
        | inr l ↦ let y : occurs (full_nodes v ks) k ≡ 0 = omega arith in
            let z : occurs (without_all ks ds) k ≡ occurs ks k = all_kept ks ds k (a.all k ∙ y) in
            omega (arith, all_sorted v ks k)
      ]

  -- some child stays
  some_left : 1 ≤ length (without_all (children_at f n) ds)
  some_left =
      let ks : List ℕ = children_at f n in
      let l : length (full_nodes v ks) < length ks = c.more in
      let m : 1 ≤ length (empty_nodes v ks ++ partial_nodes v ks) = omega (arith, all_counted v ks, length-append (empty_nodes v ks) (partial_nodes v ks)) in
      let k = some_member (empty_nodes v ks ++ partial_nodes v ks) m in
      some_length (without_all ks ds) k.0 (omega (arith, k.1, left_children k.0, occurs-append (empty_nodes v ks) (partial_nodes v ks) k.0))

  group_length : 2 ≤ length (children_at (grouped g n x) x)
  group_length =
      let q : length (full_nodes v (children_at f n)) ≡ length (children_at (grouped g n x) x) = same_length (children_at (grouped g n x) x) (full_nodes v (children_at f n)) in_group in
      omega (arith, c.many)

  under_node : (k : ℕ) → 1 ≤ occurs (children_at f n) k → IsAtOrAbove (grouped g n x).slots n k
  under_node k o = elim (cases_lt 0 (occurs (full_nodes v (children_at f n)) k)) [
    | inl l ↦ down n x k (subst (λ ks. 1 ≤ occurs ks x) (sym node_children) (occurs_here x (without_all (children_at f n) ds)))
        (down x k k (subst (λ y. 1 ≤ y) (sym (in_group k)) l) (here k))
    | inr l ↦ down n k k (subst (λ ks. 1 ≤ occurs ks k) (sym node_children)
        (let z : 1 ≤ occurs (without_all (children_at f n) ds) k = omega (arith, left_children k, all_sorted v (children_at f n) k) in omega arith)) (here k)
  ]

  node_written : IsWritten f (grouped g n x) n n (n ∷ x ∷ []) n
  node_written = record {
    mine = inl (here n);
    closed = λ j o. inl refl;
    no_leaf = λ b e. (let z : Some P ≡ Some (Leaf b) = sym c.is_p ∙ e in cc);
    two = λ s. subst (λ ks. 2 ≤ length ks) (sym node_children) (let z : 1 ≤ length (without_all (children_at f n) ds) = some_left in omega arith);
    down = λ k o u. under_node k o;
    up = λ k o. let o' : 1 ≤ occurs (x ∷ without_all (children_at f n) ds) k = subst (λ ks. 1 ≤ occurs ks k) node_children o in
        elim (cases_eq k x) [
          | inl e ↦ inr (subst (λ z. shape_at f z ≡ None) (sym e) a.moved.fresh)
          | inr ne ↦ inl (down n k k (let z : 1 ≤ occurs (without_all (children_at f n) ds) k = subst (λ y. 1 ≤ y) (occurs_other x k (without_all (children_at f n) ds) ne) o' in
              omega (arith, all_less (children_at f n) ds k)) (here k))
        ];
    all = λ u. here n;
  }

  group_written : IsWritten f (grouped g n x) n n (n ∷ x ∷ []) x
  group_written = record {
    mine = inr a.moved.fresh;
    closed = λ j o. absurd (child_used f j x h o a.moved.fresh);
    no_leaf = λ b e. (let z : None ≡ Some (Leaf b) = sym a.moved.fresh ∙ e in cc);
    two = λ s. group_length;
    down = λ k o u. absurd (let z : children_at f x ≡ [] = subst (λ s. MayHaveChildren s (children_at f x)) a.moved.fresh (h.children_fit x) in
        let y : 1 ≤ occurs [] k = subst (λ ks. 1 ≤ occurs ks k) z o in omega arith);
    up = λ k o. inl (down n k k (full_child k (subst (λ y. 1 ≤ y) (in_group k) o)) (here k));
    all = λ u. down n x x (subst (λ ks. 1 ≤ occurs ks x) (sym node_children) (occurs_here x (without_all (children_at f n) ds))) (here x);
  }

  pub group_rebuilt : IsRebuilt f (grouped g n x) n n (n ∷ x ∷ [])
  group_rebuilt = record {
    before = h;
    after = hg;
    columns = a.moved.columns;
    root = a.moved.root ∙ root_kept f.root n;
    used = c.used;
    answer = used_by (grouped g n x) n P node_shape;
    n_in = occurs_here n (x ∷ []);
    a_in = occurs_here n (x ∷ []);
    shapes = λ m z. let t = two_kinds n x m z in ap (λ s. s.shape) (other_slot m t.0 t.1);
    children = λ m z. let t = two_kinds n x m z in ap (λ s. s.children) (other_slot m t.0 t.1) ∙ sym (replaced_self (children_at f m) n);
    written = (node_written, (group_written, tt));
  }

  group_room : x < length v.labels
  group_room = let l : x < length (grouped g n x).slots = in_range (grouped g n x) x (used_by (grouped g n x) x P group_shape) in
      let s : length (grouped g n x).slots ≡ 2 * (grouped g n x).columns + 4 = hg.size in
      let t : length f.slots ≡ 2 * f.columns + 4 = h.size in
      let u : (grouped g n x).columns ≡ f.columns = a.moved.columns in
      let r : size_of v ≡ length f.slots = c.room in omega arith

  group_label : label_at (full_marked v x) x ≡ Full
  group_label = get_or-set_same v.labels x Full Empty group_room

  other_label : (m : ℕ) → m ≢ x → label_at (full_marked v x) m ≡ label_at v m
  other_label m ne = get_or-set_other v.labels x m Full Empty ne

  pub group_remarked : AreRemarked f (grouped g n x) v (full_marked v x) n n (n ∷ x ∷ [])
  group_remarked = record {
    alike = record { room = length-set v.labels x Full; nodes = refl; inside = refl; full = refl; partial = refl };
    label = other_label n apart;
    labels = λ m z. other_label m (two_kinds n x m z).1;
    chains = λ m xs i. (xs, i, swapped_self n (indices xs));
    judged = (
      is_answer refl,
      (
        is_full group_label (λ k o.
            let l : 1 ≤ occurs (full_nodes v (children_at f n)) k = subst (λ y. 1 ≤ y) (in_group k) o in
            let o' : 1 ≤ occurs (children_at f n) k = full_child k l in
            (neither n x k (λ e. not_self k o' e) (not_group k o'), sorted_label fulls v (children_at f n) k l)),
        tt,
      ),
    );
  }
    where
      not_self : (k : ℕ) → 1 ≤ occurs (children_at f n) k → k ≢ n
      not_self k o e = no_circle f.slots n k (h.grounds n) o (subst (λ z. IsAtOrAbove f.slots k z) e (here k))

  pub group_treated : IsTreated f (grouped g n x) v (full_marked v x) n n
  group_treated = treated f (grouped g n x) n n (n ∷ x ∷ []) group_rebuilt v (full_marked v x) group_remarked c.one c.two

  not_node : (k : ℕ) → 1 ≤ occurs (children_at f n) k → k ≢ n
  not_node k o e = no_circle f.slots n k (h.grounds n) o (subst (λ z. IsAtOrAbove f.slots k z) e (here k))

  child_same : (k : ℕ) → 1 ≤ occurs (children_at f n) k → IsSameAt f v (grouped g n x) (full_marked v x) k
  child_same k o = same_at f (grouped g n x) n n (n ∷ x ∷ []) group_rebuilt v (full_marked v x) group_remarked k
      (child_used f n k h o) (down n k k o (here k)) (neither n x k (not_node k o) (not_group k o))

  pub group_made : HasGroup f v (grouped g n x) (full_marked v x) n x
  group_made = record {
    shape = node_shape;
    children = λ k. ap (λ ks. occurs ks k) node_children ∙ (let z = left_children k in omega (arith, left_children k));
    label = group_label;
    tree = one_stands (grouped g n x) x (outline_below f) (full_nodes v (children_at f n)) (full_nodes v (children_at f n)) hg
        (inr (group_shape, in_group, c.many)) (λ k. refl) (λ k o. (child_same k (full_child k o)).tree);
    others = λ k o. child_same k (omega (arith, all_sorted v (children_at f n) k));
  }

-- so once the group is put below n and marked as full
pub group_done : (f h g : Layout) (v w : Marks) (n x : ℕ) (xs : List ℕ) → IsLayout f → IsLayout g → g ≡ grouped h n x → w ≡ full_marked v x → CanGroup f v n → AllMoved f h v n x xs →
    IsTreated f g v w n n × HasGroup f v g w n x
group_done f h g v w n x xs lf lg e m can moved =
    subst (λ z. IsTreated f z v w n n × HasGroup f v z w n x) (sym e) (subst (λ z. IsTreated f (grouped h n x) v z n n × HasGroup f v (grouped h n x) z n x) (sym m)
    (group_treated f h v n x xs lf (subst IsLayout e lg) can moved, group_made f h v n x xs lf (subst IsLayout e lg) can moved))
