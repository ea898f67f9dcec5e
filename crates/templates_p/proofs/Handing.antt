-- A child of a P-node stands in its place.
use Rattle.std.proofs.Common.{◌≡◌, ◌≢◌, inl, inr, ℕ, ◌+◌, ◌≤◌, ◌<◌, cond, eqb, List, [], ◌∷◌, length, refl, sym, ap, subst, ◌∙◌, arith, eq-eqb}
use Rattle.std.proofs.lemmas.Bool.{cases_eq, cases_lt, ne_eqb}
use Rattle.column_order.specs.Orders.{occurs}
use Rattle.arena_model.specs.declared.Shape.TheVariants.{P}
use Rattle.arena_model.specs.ChildLists.{without, with_replaced}
use Rattle.arena_model.specs.Layout.{Layout, children_at, times_child, IsAtOrAbove, here, down, IsLayout, StandsAlone, IsInUse, with_children}
use Rattle.arena_model.proofs.Slots.{in_range, used_by, children_same, children_other, shape_same, times_with, children_times, parent_used}
use Rattle.arena_model.proofs.Paths.{above_step, above_kept, above_ends, at_once, by, one_parent, other_top}
use Rattle.arena_model.proofs.Trees.{no_circle}
use Rattle.templates_p.specs.Lines.{CanHandOver, IsHandedOver}
use Rattle.templates_p.proofs.Rebuilt.{replaced_none, replaced_has}
use Rattle.templates_p.proofs.Moving.{IsLoose, loose, without_less}

-- the child h taken from n
abbrev pub taken_off : Layout → ℕ → ℕ → Layout
taken_off f n h = with_children f n (without (children_at f n) h)

-- what holds once it was taken
pub record IsOff (f : Layout) (n h : ℕ) : Type 0 where
  pub layout : IsLayout (taken_off f n h)
  pub used : IsInUse (taken_off f n h) n
  pub alone : StandsAlone (taken_off f n h) h
  pub above : IsAtOrAbove (taken_off f n h).slots f.root n
  pub no_way : IsAtOrAbove (taken_off f n h).slots h n → ⊥
  pub apart : n ≢ h

pub taken_child : (f : Layout) (n h : ℕ) → IsLayout f → CanHandOver f n h → IsOff f n h
taken_child f n h lay can =
    let ks : List ℕ = without (children_at f n) h in
    let g : Layout = taken_off f n h in
    let lt : n < length f.slots = in_range f n (used_by f n P can.is_p) in
    let l : IsLoose f n h = loose f n h lay can.is_p can.child in
    let above : IsAtOrAbove g.slots f.root n = above_kept f.slots g.slots n
    (λ m k ne o. subst (λ z. 1 ≤ occurs z k) (sym (children_other f n m ks ne)) o) f.root can.above in
    record {
      layout = l.layout;
      used = used_by g n P (shape_same f n n ks lt ∙ can.is_p);
      alone = l.alone;
      above = above;
      no_way = λ w. other_top g g.root h n l.layout l.layout.root_top l.alone.apart (λ e. l.alone.other (sym e)) above w;
      apart = λ e. no_circle f.slots n h (lay.grounds n) can.child (subst (λ z. IsAtOrAbove f.slots h z) (sym e) (here h));
    }

handed_root : (f g : Layout) (n h : ℕ) → IsLayout f → CanHandOver f n h → n ≡ f.root → g ≡ record (taken_off f n h) { root = h } → IsHandedOver f g n h
handed_root f g n h lay can e q = subst (λ z. IsHandedOver f z n h) (sym q) (record {
  columns = refl;
  root = sym (ap (λ b. cond b h f.root) (eq-eqb f.root n (sym e)));
  shapes = λ m. shape_same f n m (without (children_at f n) h) lt;
  node_children = children_same f n (without (children_at f n) h) lt;
  children = λ m ne. children_other f n m (without (children_at f n) h) ne ∙ sym (replaced_none (children_at f m) n h
      (let a : occurs (children_at f m) n ≤ times_child f.slots n = children_times f m n in omega (arith, top)));
  alone = record {
    used = (taken_child f n h lay can).used;
    apart = let s : occurs (without (children_at f n) h) n ≤ occurs (children_at f n) n = without_less (children_at f n) h n in omega (arith, times_with f n (without (children_at f n) h) n lt, top);
    other = (taken_child f n h lay can).apart;
  };
  above = here h;
})
  where
    lt : n < length f.slots
    lt = in_range f n (used_by f n P can.is_p)

    top : times_child f.slots n ≡ 0
    top = subst (λ z. times_child f.slots z ≡ 0) (sym e) lay.root_top

-- what is no longer there once it was replaced
pub gone_replaced : (xs : List ℕ) (n h : ℕ) → n ≢ h → occurs (with_replaced xs n h) n ≡ 0
gone_replaced [] n h ne = refl
gone_replaced (x ∷ xs) n h ne = elim (cases_eq x n) [
  | inl e ↦ let q : occurs (cond (eqb x n) h x ∷ with_replaced xs n h) n ≡ occurs (h ∷ with_replaced xs n h) n = ap (λ b. occurs (cond b h x ∷ with_replaced xs n h) n) (eq-eqb x n e) in
      let z : occurs (h ∷ []) n ≡ 0 = other h (λ y. ne (sym y)) in omega (arith, gone_replaced xs n h ne)
  | inr d ↦ let q : occurs (cond (eqb x n) h x ∷ with_replaced xs n h) n ≡ occurs (x ∷ with_replaced xs n h) n = ap (λ b. occurs (cond b h x ∷ with_replaced xs n h) n) (ne_eqb x n d) in
      let z : occurs (x ∷ []) n ≡ 0 = other x d in omega (arith, gone_replaced xs n h ne)
]
  where
    other : (y : ℕ) → y ≢ n → occurs (y ∷ []) n ≡ 0
    other y d = ap (λ b. cond {A = ℕ} b 1 0 + 0) (ne_eqb y n d)

handed_child : (f g : Layout) (n h p : ℕ) → IsLayout f → CanHandOver f n h → f.root ≢ n → 1 ≤ occurs (children_at f p) n → IsAtOrAbove f.slots f.root p →
    g ≡ with_children (taken_off f n h) p (with_replaced (children_at (taken_off f n h) p) n h) → IsHandedOver f g n h
handed_child f g n h p lay can ne o above q = subst (λ z. IsHandedOver f z n h) (sym q) (record {
  columns = refl;
  root = sym (ap (λ b. cond b h f.root) (ne_eqb f.root n ne));
  shapes = λ m. shape_same (taken_off f n h) p m (with_replaced (children_at (taken_off f n h) p) n h) lt1 ∙ shape_same f n m (without (children_at f n) h) lt;
  node_children = children_other (taken_off f n h) p n (with_replaced (children_at (taken_off f n h) p) n h) pn ∙ children_same f n (without (children_at f n) h) lt;
  children = each;
  alone = record {
    used = used_by (with_children (taken_off f n h) p (with_replaced (children_at (taken_off f n h) p) n h)) n P (shape_same (taken_off f n h) p n (with_replaced (children_at (taken_off f n h) p) n h) lt1 ∙ shape_same f n n (without (children_at f n) h) lt ∙ can.is_p);
    apart =
        let a : times_child (taken_off f n h).slots n ≤ 1 = off.layout.once n in
        let b : occurs (with_replaced (children_at (taken_off f n h) p) n h) n ≡ 0 = gone_replaced (children_at (taken_off f n h) p) n h off.apart in
        let d : 1 ≤ occurs (children_at (taken_off f n h) p) n = subst (λ z. 1 ≤ occurs z n) (sym (children_other f n p (without (children_at f n) h) (λ e. pn (sym e)))) o in
        omega (arith, times_with (taken_off f n h) p (with_replaced (children_at (taken_off f n h) p) n h) n lt1);
    other = λ e. ne (sym e);
  };
  above = above_step (with_children (taken_off f n h) p (with_replaced (children_at (taken_off f n h) p) n h)).slots f.root p h
      (above_kept (taken_off f n h).slots (with_children (taken_off f n h) p (with_replaced (children_at (taken_off f n h) p) n h)).slots p (λ m k d i. subst (λ z. 1 ≤ occurs z k) (sym (children_other (taken_off f n h) p m (with_replaced (children_at (taken_off f n h) p) n h) d)) i) f.root up1)
      (subst (λ z. 1 ≤ occurs z h) (sym (children_same (taken_off f n h) p (with_replaced (children_at (taken_off f n h) p) n h) lt1))
      (replaced_has (children_at (taken_off f n h) p) n h (subst (λ z. 1 ≤ occurs z n) (sym (children_other f n p (without (children_at f n) h) (λ e. pn (sym e)))) o)));
})
  where
    lt : n < length f.slots
    lt = in_range f n (used_by f n P can.is_p)

    off : IsOff f n h
    off = taken_child f n h lay can

    pn : n ≢ p
    pn e = no_circle f.slots p n (lay.grounds p) o (subst (λ z. IsAtOrAbove f.slots n z) e (here n))

    lt1 : p < length (taken_off f n h).slots
    lt1 = in_range (taken_off f n h) p (λ e. parent_used f p n o lay (sym (shape_same f n p (without (children_at f n) h) lt) ∙ e))

    up1 : IsAtOrAbove (taken_off f n h).slots f.root p
    up1 = up f.root above
      where
        up : (m : ℕ) → IsAtOrAbove f.slots m p → IsAtOrAbove (taken_off f n h).slots m p
        up _ (here m) = here m
        up _ (down m k x i l) = elim (cases_eq m n) [
          | inl e ↦ absurd (no_circle f.slots p n (lay.grounds p) o (subst (λ z. IsAtOrAbove f.slots z p) e (down m k p i l)))
          | inr d ↦ down m k p (subst (λ z. 1 ≤ occurs z k) (sym (children_other f n m (without (children_at f n) h) d)) i) (up k l)
        ]

    each : (m : ℕ) → m ≢ n → children_at (with_children (taken_off f n h) p (with_replaced (children_at (taken_off f n h) p) n h)) m ≡ with_replaced (children_at f m) n h
    each m d = elim (cases_eq m p) [
      | inl e ↦ subst (λ z. children_at (with_children (taken_off f n h) p (with_replaced (children_at (taken_off f n h) p) n h)) z ≡ with_replaced (children_at f z) n h) (sym e)
          (children_same (taken_off f n h) p (with_replaced (children_at (taken_off f n h) p) n h) lt1 ∙ ap (λ xs. with_replaced xs n h) (children_other f n p (without (children_at f n) h) (λ e. pn (sym e))))
      | inr dp ↦ children_other (taken_off f n h) p m (with_replaced (children_at (taken_off f n h) p) n h) dp ∙ children_other f n m (without (children_at f n) h) d
          ∙ sym (replaced_none (children_at f m) n h (elim (cases_lt 0 (occurs (children_at f m) n)) [
            | inl i ↦ absurd (dp (one_parent f m p n lay i o))
            | inr i ↦ omega arith
          ]))
    ]

pub handed_over : (f g : Layout) (n h : ℕ) → IsLayout f → CanHandOver f n h →
    ((p : ℕ) → 1 ≤ occurs (children_at (taken_off f n h) p) n → g ≡ with_children (taken_off f n h) p (with_replaced (children_at (taken_off f n h) p) n h)) →
    (n ≡ f.root → g ≡ record (taken_off f n h) { root = h }) → IsHandedOver f g n h
handed_over f g n h lay can child root = elim (cases_eq f.root n) [
  | inl e ↦ handed_root f g n h lay can (sym e) (root (sym e))
  | inr ne ↦ elim (above_ends f.slots f.root n can.above) [
    | at_once e ↦ absurd (ne e)
    | by p l o ↦
        let pn : p ≢ n = (λ e. no_circle f.slots p n (lay.grounds p) o (subst (λ z. IsAtOrAbove f.slots n z) (sym e) (here n))) in
        handed_child f g n h p lay can ne o l
        (child p (subst (λ z. 1 ≤ occurs z n) (sym (children_other f n p (without (children_at f n) h) pn)) o))
  ]
]
