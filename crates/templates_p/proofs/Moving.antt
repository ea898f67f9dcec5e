-- Full children move under a new P-node.
use Rattle.std.proofs.Common.{◌≡◌, ◌≢◌, inl, inr, ℕ, ◌+◌, ◌≤◌, ◌<◌, true, false, cond, eqb, List, [], ◌∷◌, ◌++◌, length, Some, None, refl, sym, ap, subst, ◌∙◌, arith, eq-eqb}
use Rattle.std.proofs.lemmas.Bool.{cases_eq, ne_eqb}
use Rattle.std.proofs.lemmas.List.{get_or-set_other}
use Rattle.column_order.specs.Orders.{occurs}
use Rattle.arena_model.specs.declared.Shape.TheVariants.{P}
use Rattle.arena_model.specs.ChildLists.{head_or, none, without, all_but_first}
use Rattle.arena_model.specs.Layout.{Layout, spare_slot, shape_at, children_at, times_child, IsAtOrAbove, IsLayout, StandsAlone, MayHaveChildren, with_children, taken}
use Rattle.arena_model.proofs.Lists.{occurs_here, occurs_other}
use Rattle.arena_model.proofs.Slots.{some_none, in_range, used_by, children_same, children_other, shape_same, times_with, children_times, fewer_layout}
use Rattle.arena_model.proofs.Paths.{top_alone, above_kept}
use Rattle.arena_model.proofs.Bare.{bare_children, bare_other, bare_shape, fresh}
use Rattle.templates_p.specs.Steps.{CanMove, Moved, moved_under, without_all, onto}

pub without_gone : (ks : List ℕ) (n : ℕ) → occurs (without ks n) n ≡ 0
without_gone [] n = refl
without_gone (k ∷ ks) n =
    (elim (eqb k n) as (λ b. eqb k n ≡ b → occurs (cond b (without ks n) (k ∷ without ks n)) n ≡ 0) [
      | true ↦ λ e. without_gone ks n
      | false ↦ λ e. ap (λ b. cond {A = ℕ} b 1 0 + occurs (without ks n) n) e ∙ (let r : occurs (without ks n) n ≡ 0 = without_gone ks n in omega arith)
    ]) refl

pub without_kept : (ks : List ℕ) (n x : ℕ) → x ≢ n → occurs (without ks n) x ≡ occurs ks x
without_kept [] n x ne = refl
without_kept (k ∷ ks) n x ne = elim (cases_eq k n) [
  | inl e ↦ subst (λ z. occurs (without (k ∷ ks) z) x ≡ occurs (k ∷ ks) x) e
      (ap (λ b. occurs (cond b (without ks k) (k ∷ without ks k)) x) (eq-eqb k k refl)
      ∙ without_kept ks k x (λ q. ne (q ∙ e)) ∙ sym (occurs_other k x ks (λ q. ne (q ∙ e))))
  | inr d ↦ ap (λ b. occurs (cond b (without ks n) (k ∷ without ks n)) x) (ne_eqb k n d)
      ∙ ap (λ m. cond {A = ℕ} (eqb k x) 1 0 + m) (without_kept ks n x ne)
]

pub without_less : (ks : List ℕ) (n x : ℕ) → occurs (without ks n) x ≤ occurs ks x
without_less ks n x = elim (cases_eq x n) [
  | inl e ↦ subst (λ z. occurs (without ks n) z ≤ occurs ks z) (sym e) (omega (arith, without_gone ks n))
  | inr ne ↦ omega (arith, without_kept ks n x ne)
]

pub all_kept : (ks ns : List ℕ) (x : ℕ) → occurs ns x ≡ 0 → occurs (without_all ks ns) x ≡ occurs ks x
all_kept ks [] x o = refl
all_kept ks (n ∷ ns) x o =
    let ne : x ≢ n = (λ e. let z : occurs (n ∷ ns) n ≡ 0 = subst (λ y. occurs (n ∷ ns) y ≡ 0) e o in omega (arith, occurs_here n ns)) in
    all_kept (without ks n) ns x (omega arith) ∙ without_kept ks n x ne

pub all_less : (ks ns : List ℕ) (x : ℕ) → occurs (without_all ks ns) x ≤ occurs ks x
all_less ks [] x = omega arith
all_less ks (n ∷ ns) x = omega (arith, all_less (without ks n) ns x, without_less ks n x)

pub all_gone : (ks ns : List ℕ) (x : ℕ) → 1 ≤ occurs ns x → occurs (without_all ks ns) x ≡ 0
all_gone ks [] x o = absurd (omega arith)
all_gone ks (n ∷ ns) x o = elim (cases_eq x n) [
  | inl e ↦ let z : occurs (without ks n) x ≡ 0 = subst (λ y. occurs (without ks n) y ≡ 0) (sym e) (without_gone ks n) in omega (arith, all_less (without ks n) ns x)
  | inr ne ↦ all_gone (without ks n) ns x (subst (λ z. 1 ≤ z) (occurs_other n x ns ne) o)
]

pub all_snoc : (ks ns : List ℕ) (n : ℕ) → without_all ks (ns ++ n ∷ []) ≡ without (without_all ks ns) n
all_snoc ks [] n = refl
all_snoc ks (m ∷ ns) n = all_snoc (without ks m) ns n

pub onto_snoc : (ns ys : List ℕ) (n : ℕ) → onto (ns ++ n ∷ []) ys ≡ n ∷ onto ns ys
onto_snoc [] ys n = refl
onto_snoc (m ∷ ns) ys n = onto_snoc ns (m ∷ ys) n

pub onto_has : (ns ys : List ℕ) (k : ℕ) → occurs (onto ns ys) k ≡ occurs ns k + occurs ys k
onto_has [] ys k = omega arith
onto_has (n ∷ ns) ys k = omega (arith, onto_has ns (n ∷ ys) k)

-- a child that was taken from the P-node p stands alone
pub record IsLoose (f : Layout) (p c : ℕ) : Type 0 where
  pub layout : IsLayout (with_children f p (without (children_at f p) c))
  pub alone : StandsAlone (with_children f p (without (children_at f p) c)) c

pub loose : (f : Layout) (p c : ℕ) → IsLayout f → shape_at f p ≡ Some P → 1 ≤ occurs (children_at f p) c → IsLoose f p c
loose f p c h is_p o =
    let ks : List ℕ = without (children_at f p) c in
    let g : Layout = with_children f p ks in
    let lt : p < length f.slots = in_range f p (used_by f p P is_p) in
    let place : occurs (children_at f p) c ≤ times_child f.slots c = children_times f p c in
    let at_most : times_child f.slots c ≤ 1 = h.once c in
    let may : MayHaveChildren (shape_at f p) ks = subst (λ z. MayHaveChildren z ks) (sym is_p) tt in
    record {
      layout = fewer_layout f p ks h lt may (λ x. without_less (children_at f p) c x);
      alone = record {
        used = subst (λ s. s ≢ None) (sym (shape_same f p c ks lt)) (h.used c (omega arith));
        apart = let z : occurs ks c ≡ 0 = without_gone (children_at f p) c in omega (arith, times_with f p ks c lt);
        other = λ e. let z : times_child f.slots f.root ≡ 0 = h.root_top in
            let z' : times_child f.slots c ≡ 0 = subst (λ y. times_child f.slots y ≡ 0) (sym e) z in omega arith;
      };
    }

-- what holds between the two calls that move a child
pub record IsReadyToPut (f : Layout) (p q c : ℕ) : Type 0 where
  pub other : c ≢ q
  pub to : shape_at (with_children f p (without (children_at f p) c)) q ≡ Some P
  pub alone : StandsAlone (with_children f p (without (children_at f p) c)) c
  pub no_way : IsAtOrAbove (with_children f p (without (children_at f p) c)).slots c q → ⊥
  pub top : times_child (with_children f p (without (children_at f p) c)).slots q ≡ 0

pub ready_to_put : (f : Layout) (p q c : ℕ) → IsLayout f → CanMove f p q c → IsReadyToPut f p q c
ready_to_put f p q c h m =
    let ks : List ℕ = without (children_at f p) c in
    let g : Layout = with_children f p ks in
    let lt : p < length f.slots = in_range f p (used_by f p P m.from) in
    let l : IsLoose f p c = loose f p c h m.from m.child in
    let place : occurs (children_at f p) c ≤ times_child f.slots c = children_times f p c in
    let o : 1 ≤ occurs (children_at f p) c = m.child in
    let t : times_child f.slots q ≡ 0 = m.alone in
    let other : c ≢ q = (λ e. let z : times_child f.slots c ≡ 0 = subst (λ y. times_child f.slots y ≡ 0) (sym e) t in omega arith) in
    let top : times_child g.slots q ≡ 0 = (let s : occurs ks q ≤ occurs (children_at f p) q = without_less (children_at f p) c q in
    let s' : occurs (children_at f p) q ≤ times_child f.slots q = children_times f p q in omega (arith, times_with f p ks q lt)) in
    record {
      other = other;
      to = shape_same f p q ks lt ∙ m.to;
      alone = l.alone;
      no_way = λ w. other (top_alone g c q top w);
      top = top;
    }

pub can_move : (f g : Layout) (n x : ℕ) (done : List ℕ) (c : ℕ) → shape_at f n ≡ Some P → Moved f g n x done →
    1 ≤ occurs (children_at f n) c → occurs done c ≡ 0 → CanMove g n x c
can_move f g n x done c is_p m o new = record {
  apart = λ e. some_none P (sym is_p ∙ subst (λ z. shape_at f z ≡ None) (sym e) m.fresh);
  from = m.node_shape;
  to = m.group_shape;
  alone = m.alone.apart;
  child = subst (λ z. 1 ≤ occurs z c) (sym m.node_children) (subst (λ k. 1 ≤ k) (sym (all_kept (children_at f n) done c new)) o);
}

pub moved_one : (f g : Layout) (n x : ℕ) (done : List ℕ) (c : ℕ) → Moved f g n x done → CanMove g n x c → IsReadyToPut g n x c →
    Moved f (moved_under g n x c) n x (done ++ c ∷ [])
moved_one f g n x done c m can r =
    let ks : List ℕ = without (children_at g n) c in
    let g1 : Layout = with_children g n ks in
    let lt : n < length g.slots = in_range g n (used_by g n P m.node_shape) in
    let lt1 : x < length g1.slots = in_range g1 x (used_by g1 x P r.to) in
    let ks2 : List ℕ = c ∷ children_at g1 x in
    let g2 : Layout = with_children g1 x ks2 in
    record {
      fresh = m.fresh;
      node_shape = shape_same g1 x n ks2 lt1 ∙ shape_same g n n ks lt ∙ m.node_shape;
      group_shape = shape_same g1 x x ks2 lt1 ∙ r.to;
      node_children = children_other g1 x n ks2 can.apart ∙ children_same g n ks lt ∙ ap (λ z. without z c) m.node_children ∙ sym (all_snoc (children_at f n) done c);
      group_children = children_same g1 x ks2 lt1 ∙ ap (λ z. c ∷ z) (children_other g n x ks (λ e. can.apart (sym e)) ∙ m.group_children) ∙ sym (onto_snoc done [] c);
      others = λ y a b. get_or-set_other g1.slots x y _ spare_slot b ∙ get_or-set_other g.slots n y _ spare_slot a ∙ m.others y a b;
      alone = record {
        used = used_by g2 x P (shape_same g1 x x ks2 lt1 ∙ r.to);
        apart =
            let t1 : times_child g1.slots x ≡ 0 = r.top in
            let e : occurs ks2 x ≡ occurs (children_at g1 x) x = occurs_other c x (children_at g1 x) (λ q. r.other (sym q)) in
            omega (arith, times_with g1 x ks2 x lt1);
        other = m.alone.other;
      };
      root = m.root;
      columns = m.columns;
      below = above_kept g.slots g2.slots n
          (λ y k ne o. let o1 : 1 ≤ occurs (children_at g1 y) k = subst (λ z. 1 ≤ occurs z k) (sym (children_other g n y ks ne)) o in
          elim (cases_eq y x) [
            | inl e ↦ let o2 : 1 ≤ occurs (children_at g1 x) k = subst (λ z. 1 ≤ occurs (children_at g1 z) k) e o1 in
                subst (λ z. 1 ≤ occurs (children_at g2 z) k) (sym e)
                (subst (λ z. 1 ≤ occurs z k) (sym (children_same g1 x ks2 lt1)) (let q : 1 ≤ occurs ks2 k = omega arith in q))
            | inr d ↦ subst (λ z. 1 ≤ occurs z k) (sym (children_other g1 x y ks2 d)) o1
          ]) g.root m.below;
    }

pub spare_head : (xs : List ℕ) → 1 ≤ length xs → xs ≡ head_or xs none ∷ all_but_first xs
spare_head [] l = absurd (omega arith)
spare_head (x ∷ xs) l = refl

pub moved_none : (f : Layout) (n x : ℕ) → IsLayout f → shape_at f n ≡ Some P → IsAtOrAbove f.slots f.root n → 1 ≤ length f.spares → x ≡ head_or f.spares none →
    StandsAlone (taken f x P) x → Moved f (taken f x P) n x []
moved_none f n x h is_p below some e alone =
    let ys : List ℕ = all_but_first f.spares in
    let new = fresh f x ys h (spare_head f.spares some ∙ ap (λ z. z ∷ ys) (sym e)) in
    let none_x : shape_at f x ≡ None = new.0 in
    let lt : x < length f.slots = new.1 in
    let empty : children_at f x ≡ [] = new.2 in
    let ne : n ≢ x = (λ q. some_none P (sym is_p ∙ subst (λ z. shape_at f z ≡ None) (sym q) none_x)) in
    record {
      fresh = none_x;
      node_shape = bare_other f x n (Some P) ys ne ∙ is_p;
      group_shape = bare_shape f x (Some P) ys lt;
      node_children = bare_children f x n (Some P) ys lt empty;
      group_children = bare_children f x x (Some P) ys lt empty ∙ empty;
      others = λ m a b. get_or-set_other f.slots x m _ spare_slot b;
      alone = alone;
      root = refl;
      columns = refl;
      below = above_kept f.slots (taken f x P).slots n
          (λ m k d o. subst (λ z. 1 ≤ occurs z k) (sym (bare_children f x m (Some P) ys lt empty)) o) f.root below;
    }
