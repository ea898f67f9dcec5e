-- A forest in which the children of one node change.
use Rattle.std.proofs.Common.{◌*◌, ◌≡◌, ◌≢◌, ◌⊎◌, inl, inr, ℕ, zero, ◌+◌, ◌≤◌, ◌<◌, Bool, true, false, cond, eqb, List, [], ◌∷◌, ◌++◌, length, set, Some, None, refl, sym, ap, subst, ◌∙◌, arith, suc}
use Rattle.arena_model.specs.declared.TheConstants.{NODE_BOUND}
use Rattle.arena_model.specs.ChildLists.{none}
use Rattle.arena_model.proofs.Lists.{occurs_here, only_one}
use Rattle.arena_model.specs.Layout.{Slot, Layout, spare_slot, slot, shape_at, children_at, times_child, IsGrounded, grounded, IsInUse, MayHaveChildren, IsLayout, StandsAlone, IsAtOrAbove, here, down, with_children}
use Rattle.column_order.specs.Orders.{occurs}
use Rattle.column_order.proofs.Lists.{occurs-append}
use Rattle.std.proofs.lemmas.Bool.{cases_eq, cases_lt}
use Rattle.std.proofs.lemmas.List.{get_or_past, get_or-set_same, get_or-set_other, length-set}
use Rattle.std.proofs.lemmas.List.Sums.{sum_by-set, get_or-le-sum_by, sum_by-cons}
use Rattle.arena_model.specs.declared.Shape.{Shape}

pub some_none : {A : Type 0} (x : A) → Some x ≢ None
some_none x e = cc

pub few_slots : (f : Layout) → IsLayout f → length f.slots ≤ NODE_BOUND
few_slots f h = let s : length f.slots ≡ 2 * f.columns + 4 = h.size in let c : f.columns ≤ 32768 = h.few in omega arith

-- a node in use has a place in the list
pub in_range : (f : Layout) (p : ℕ) → IsInUse f p → p < length f.slots
in_range f p u = elim (cases_lt p (length f.slots)) [
  | inl h ↦ h
  | inr h ↦ absurd (u (ap (λ c. c.shape) (get_or_past f.slots p spare_slot h)))
]

pub used_by : (f : Layout) (p : ℕ) (s : Shape) → shape_at f p ≡ Some s → IsInUse f p
used_by f p s e n = some_none s (sym e ∙ n)

-- a node in use has no number that means none
pub not_none : (f : Layout) (n : ℕ) → IsLayout f → IsInUse f n → n ≢ none
not_none f n h u e = let l : n < length f.slots = in_range f n u in let k : length f.slots ≤ NODE_BOUND = few_slots f h in omega arith

pub set_set : (slots : List Slot) (p : ℕ) (a b : Slot) → set (set slots p a) p b ≡ set slots p b
set_set [] p a b = refl
set_set (c ∷ cs) zero a b = refl
set_set (c ∷ cs) (suc p) a b = ap (λ z. c ∷ z) (set_set cs p a b)

pub children_past : (f : Layout) (m : ℕ) → length f.slots ≤ m → children_at f m ≡ []
children_past f m h = ap (λ c. c.children) (get_or_past f.slots m spare_slot h)

pub children_same : (f : Layout) (p : ℕ) (ks : List ℕ) → p < length f.slots → children_at (with_children f p ks) p ≡ ks
children_same f p ks h = ap (λ c. c.children) (get_or-set_same f.slots p _ spare_slot h)

pub children_other : (f : Layout) (p m : ℕ) (ks : List ℕ) → m ≢ p → children_at (with_children f p ks) m ≡ children_at f m
children_other f p m ks ne = ap (λ c. c.children) (get_or-set_other f.slots p m _ spare_slot ne)

pub shape_same : (f : Layout) (p m : ℕ) (ks : List ℕ) → p < length f.slots → shape_at (with_children f p ks) m ≡ shape_at f m
shape_same f p m ks h = elim (cases_eq m p) [
  | inl e ↦ subst (λ x. shape_at (with_children f p ks) x ≡ shape_at f x) (sym e) (ap (λ c. c.shape) (get_or-set_same f.slots p _ spare_slot h))
  | inr ne ↦ ap (λ c. c.shape) (get_or-set_other f.slots p m _ spare_slot ne)
]

-- how often a node is a child, before and after
pub times_with : (f : Layout) (p : ℕ) (ks : List ℕ) (x : ℕ) → p < length f.slots →
    times_child (with_children f p ks).slots x + occurs (children_at f p) x ≡ times_child f.slots x + occurs ks x
times_with f p ks x h = sum_by-set (λ c. occurs c.children x) f.slots p _ spare_slot h

pub children_times : (f : Layout) (m x : ℕ) → occurs (children_at f m) x ≤ times_child f.slots x
children_times f m x = elim (cases_lt m (length f.slots)) [
  | inl h ↦ get_or-le-sum_by (λ c. occurs c.children x) f.slots m spare_slot h
  | inr h ↦ subst (λ ks. occurs ks x ≤ times_child f.slots x) (sym (children_past f m h)) (omega arith)
]

pub child_at : (f : Layout) (m n : ℕ) (us vs : List ℕ) → children_at f m ≡ us ++ n ∷ vs → 1 ≤ occurs (children_at f m) n
child_at f m n us vs e = subst (λ ks. 1 ≤ occurs ks n) (sym e) (omega (arith, occurs-append us (n ∷ vs) n, occurs_here n vs))

pub parent_used : (f : Layout) (m n : ℕ) → 1 ≤ occurs (children_at f m) n → IsLayout f → IsInUse f m
parent_used f m n o h = λ e. let z : 1 ≤ occurs [] n = subst (λ ks. 1 ≤ occurs ks n) (subst (λ s. MayHaveChildren s (children_at f m)) e (h.children_fit m)) o in absurd (omega arith)

-- a child is in use
pub child_used : (f : Layout) (m k : ℕ) → IsLayout f → 1 ≤ occurs (children_at f m) k → IsInUse f k
child_used f m k h o = h.used k (let a : occurs (children_at f m) k ≤ times_child f.slots k = children_times f m k in omega arith)

pub children_apart : (f : Layout) (m p x : ℕ) → m ≢ p → p < length f.slots →
    occurs (children_at f m) x + occurs (children_at f p) x ≤ times_child f.slots x
children_apart f m p x ne h =
    let a : times_child (with_children f p []).slots x + occurs (children_at f p) x ≡ times_child f.slots x + 0 = times_with f p [] x h in
    let b : occurs (children_at f m) x ≤ times_child (with_children f p []).slots x =
    subst (λ ks. occurs ks x ≤ times_child (with_children f p []).slots x) (children_other f p m [] ne) (children_times (with_children f p []) m x) in
    omega arith

-- fewer children leave a forest
pub less_grounded : (slots slots' : List Slot) →
    ((m k : ℕ) → 1 ≤ occurs (slot slots' m).children k → 1 ≤ occurs (slot slots m).children k) → (m : ℕ) → IsGrounded slots m → IsGrounded slots' m
less_grounded slots slots' h _ (grounded n below) = grounded n (λ k o. less_grounded slots slots' h k (below k (h n k o)))

-- a forest in which the children of p change, with what has to hold of the new ones
with_layout : (f : Layout) (p : ℕ) (ks : List ℕ) → IsLayout f → p < length f.slots → MayHaveChildren (shape_at f p) ks →
    ((x : ℕ) → times_child (with_children f p ks).slots x ≤ 1) → ((x : ℕ) → 1 ≤ times_child (with_children f p ks).slots x → IsInUse f x) →
    ((m : ℕ) → IsGrounded (with_children f p ks).slots m) → times_child (with_children f p ks).slots f.root ≡ 0 → IsLayout (with_children f p ks)
with_layout f p ks h lt may once used grounds top =
    let len : length (with_children f p ks).slots ≡ length f.slots = length-set f.slots p _ in
    record {
      once = once;
      used = λ x o. subst (λ s. s ≢ None) (sym (shape_same f p x ks lt)) (used x o);
      children_fit = λ m. subst (λ s. MayHaveChildren s (children_at (with_children f p ks) m)) (sym (shape_same f p m ks lt))
          (elim (cases_eq m p) [
            | inl e ↦ subst (λ x. MayHaveChildren (shape_at f x) (children_at (with_children f p ks) x)) (sym e)
                (subst (λ z. MayHaveChildren (shape_at f p) z) (sym (children_same f p ks lt)) may)
            | inr ne ↦ subst (λ z. MayHaveChildren (shape_at f m) z) (sym (children_other f p m ks ne)) (h.children_fit m)
          ]);
      grounds = grounds;
      root_used = subst (λ s. s ≢ None) (sym (shape_same f p f.root ks lt)) h.root_used;
      root_top = top;
      leaves = λ a l. shape_same f p a ks lt ∙ h.leaves a l;
      no_other_leaf = λ m a e. h.no_other_leaf m a (sym (shape_same f p m ks lt) ∙ e);
      some = h.some;
      few = h.few;
      size = len ∙ h.size;
      spare_once = h.spare_once;
      spare_free = λ x o. (shape_same f p x ks lt ∙ (h.spare_free x o).0, subst (λ n. x < n) (sym len) (h.spare_free x o).1);
      spare_all = λ x l e. h.spare_all x (subst (λ n. x < n) len l) (sym (shape_same f p x ks lt) ∙ e);
    }

pub fewer_layout : (f : Layout) (p : ℕ) (ks : List ℕ) → IsLayout f → p < length f.slots → MayHaveChildren (shape_at f p) ks →
    ((x : ℕ) → occurs ks x ≤ occurs (children_at f p) x) → IsLayout (with_children f p ks)
fewer_layout f p ks h lt may less =
    let fewer : (x : ℕ) → times_child (with_children f p ks).slots x ≤ times_child f.slots x =
    (λ x. let l : occurs ks x ≤ occurs (children_at f p) x = less x in omega (arith, times_with f p ks x lt)) in
    with_layout f p ks h lt may
    (λ x. let a : times_child f.slots x ≤ 1 = h.once x in let b : times_child (with_children f p ks).slots x ≤ times_child f.slots x = fewer x in omega arith)
    (λ x o. h.used x (let b : times_child (with_children f p ks).slots x ≤ times_child f.slots x = fewer x in omega arith))
    (λ m. less_grounded f.slots (with_children f p ks).slots
    (λ n k o. elim (cases_eq n p) [
      | inl e ↦ let i : 1 ≤ occurs (children_at (with_children f p ks) p) k = subst (λ z. 1 ≤ occurs (children_at (with_children f p ks) z) k) e o in
          let j : 1 ≤ occurs ks k = subst (λ z. 1 ≤ occurs z k) (children_same f p ks lt) i in
          let l : occurs ks k ≤ occurs (children_at f p) k = less k in
          let r : 1 ≤ occurs (children_at f p) k = omega arith in
          subst (λ z. 1 ≤ occurs (children_at f z) k) (sym e) r
      | inr ne ↦ subst (λ z. 1 ≤ occurs z k) (children_other f p n ks ne) o
    ]) m (h.grounds m))
    (let b : times_child (with_children f p ks).slots f.root ≤ times_child f.slots f.root = fewer f.root in let a : times_child f.slots f.root ≡ 0 = h.root_top in omega arith)

-- one child more leaves a forest
pub off_grounded : (slots slots' : List Slot) (p : ℕ) →
    ((m k : ℕ) → m ≢ p → 1 ≤ occurs (slot slots' m).children k → 1 ≤ occurs (slot slots m).children k) →
    (m : ℕ) → IsGrounded slots m → (IsAtOrAbove slots m p → ⊥) → IsGrounded slots' m
off_grounded slots slots' p h _ (grounded n below) no_way =
    grounded n (λ k o.
    let ne : n ≢ p = (λ e. no_way (subst (λ x. IsAtOrAbove slots n x) e (here n))) in
    let o' : 1 ≤ occurs (slot slots n).children k = h n k ne o in
    off_grounded slots slots' p h k (below k o') (λ l. no_way (down n k p o' l)))

pub on_grounded : (slots slots' : List Slot) (n : ℕ) →
    ((m k : ℕ) → 1 ≤ occurs (slot slots' m).children k → (k ≡ n) ⊎ (1 ≤ occurs (slot slots m).children k)) → IsGrounded slots' n →
    (m : ℕ) → IsGrounded slots m → IsGrounded slots' m
on_grounded slots slots' n h gn _ (grounded m below) =
    grounded m (λ k o. elim (h m k o) [
      | inl e ↦ subst (λ x. IsGrounded slots' x) (sym e) gn
      | inr o' ↦ on_grounded slots slots' n h gn k (below k o')
    ])

pub more_layout : (f : Layout) (p n : ℕ) (ks : List ℕ) → IsLayout f → p < length f.slots → MayHaveChildren (shape_at f p) ks →
    StandsAlone f n → (IsAtOrAbove f.slots n p → ⊥) → ((x : ℕ) → occurs ks x ≡ occurs (n ∷ []) x + occurs (children_at f p) x) → IsLayout (with_children f p ks)
more_layout f p n ks h lt may alone no_way more =
    let g : Layout = with_children f p ks in
    let now : (x : ℕ) → times_child g.slots x ≡ occurs (n ∷ []) x + times_child f.slots x =
    (λ x. let m : occurs ks x ≡ occurs (n ∷ []) x + occurs (children_at f p) x = more x in omega (arith, times_with f p ks x lt)) in
    let apart : times_child f.slots n ≡ 0 = alone.apart in
    let children_now : (m k : ℕ) → 1 ≤ occurs (children_at g m) k → (k ≡ n) ⊎ (1 ≤ occurs (children_at f m) k) =
    (λ m k o. elim (cases_eq m p) [
      | inl e ↦
          let o' : 1 ≤ occurs ks k = subst (λ z. 1 ≤ occurs z k) (children_same f p ks lt) (subst (λ z. 1 ≤ occurs (children_at g z) k) e o) in
          let mk : occurs ks k ≡ occurs (n ∷ []) k + occurs (children_at f p) k = more k in
          elim (cases_lt 0 (occurs (children_at f p) k)) [
            | inl l ↦ inr (subst (λ z. 1 ≤ occurs (children_at f z) k) (sym e) l)
            | inr l ↦ inl (only_one k n (omega arith))
          ]
      | inr ne ↦ inr (subst (λ z. 1 ≤ occurs z k) (children_other f p m ks ne) o)
    ]) in
    with_layout f p ks h lt may
    (λ x. elim (cases_lt 0 (occurs (n ∷ []) x)) [
      | inl o ↦ let e : x ≡ n = only_one x n o in let z : times_child f.slots x ≡ 0 = subst (λ y. times_child f.slots y ≡ 0) (sym e) apart in
          let m : times_child g.slots x ≡ occurs (n ∷ []) x + times_child f.slots x = now x in
          let c : occurs (n ∷ []) x ≤ 1 = bound (eqb n x) in omega arith
      | inr o ↦ let m : times_child g.slots x ≡ occurs (n ∷ []) x + times_child f.slots x = now x in let a : times_child f.slots x ≤ 1 = h.once x in omega arith
    ])
    (λ x o. elim (cases_lt 0 (occurs (n ∷ []) x)) [
      | inl l ↦ subst (λ y. shape_at f y ≢ None) (sym (only_one x n l)) alone.used
      | inr l ↦ h.used x (let m : times_child g.slots x ≡ occurs (n ∷ []) x + times_child f.slots x = now x in omega arith)
    ])
    (λ m. on_grounded f.slots g.slots n children_now
    (off_grounded f.slots g.slots p (λ k x ne o. subst (λ z. 1 ≤ occurs z x) (children_other f p k ks ne) o) n (h.grounds n) no_way) m (h.grounds m))
    (elim (cases_lt 0 (occurs (n ∷ []) f.root)) [
      | inl l ↦ absurd (alone.other (sym (only_one f.root n l)))
      | inr l ↦ let m : times_child g.slots f.root ≡ occurs (n ∷ []) f.root + times_child f.slots f.root = now f.root in
          let a : times_child f.slots f.root ≡ 0 = h.root_top in omega arith
    ])
  where
    bound : (b : Bool) → cond {A = ℕ} b 1 0 + 0 ≤ 1
    bound true = omega arith
    bound false = omega arith

pub some_inj : {A : Type 0} (x y : A) → Some x ≡ Some y → x ≡ y
some_inj x y e = cc

pub placed_in : (slots : List Slot) (x : ℕ) → 1 ≤ times_child slots x → (m : ℕ) × (1 ≤ occurs (slot slots m).children x)
placed_in [] x o = absurd (let e : times_child [] x ≡ 0 = refl in omega arith)
placed_in (c ∷ cs) x o = elim (cases_lt 0 (occurs c.children x)) [
  | inl l ↦ (0, l)
  | inr l ↦ let e : times_child (c ∷ cs) x ≡ occurs c.children x + times_child cs x = sum_by-cons (λ z. occurs z.children x) c cs in
      let r = placed_in cs x (omega arith) in (suc r.0, r.1)
]
