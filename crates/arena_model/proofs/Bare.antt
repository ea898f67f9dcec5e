use Rattle.std.proofs.Common.{◌≡◌, ◌≢◌, inl, inr, ℕ, ◌+◌, ◌≤◌, ◌<◌, List, [], ◌∷◌, length, set, Option, Some, None, sym, ap, subst, ◌∙◌, arith}
use Rattle.std.proofs.lemmas.Bool.{cases_eq, cases_lt}
use Rattle.std.proofs.lemmas.List.{get_or-set_same, get_or-set_other}
use Rattle.std.proofs.lemmas.List.Sums.{sum_by-set}
use Rattle.arena_model.specs.declared.Shape.{Shape}
use Rattle.arena_model.proofs.Lists.{occurs_here}
use Rattle.arena_model.proofs.Slots.{some_none}
use Rattle.arena_model.specs.ChildLists.{all_but_first}
use Rattle.arena_model.specs.Layout.{Layout, spare_slot, shape_at, children_at, times_child, MayHaveChildren, IsLayout, StandsAlone, taken}
use Rattle.column_order.specs.Orders.{occurs}

-- node x has this shape and no children, and the spare nodes are ys
abbrev pub bare : Layout → ℕ → Option Shape → List ℕ → Layout
bare f x s ys = record f { slots = set f.slots x (record { shape = s; children = [] }); spares = ys }

pub bare_children : (f : Layout) (x m : ℕ) (s : Option Shape) (ys : List ℕ) → x < length f.slots → children_at f x ≡ [] → children_at (bare f x s ys) m ≡ children_at f m
bare_children f x m s ys lt e = elim (cases_eq m x) [
  | inl q ↦ subst (λ z. children_at (bare f x s ys) z ≡ children_at f z) (sym q) (ap (λ c. c.children) (get_or-set_same f.slots x _ spare_slot lt) ∙ sym e)
  | inr ne ↦ ap (λ c. c.children) (get_or-set_other f.slots x m _ spare_slot ne)
]

pub bare_shape : (f : Layout) (x : ℕ) (s : Option Shape) (ys : List ℕ) → x < length f.slots → shape_at (bare f x s ys) x ≡ s
bare_shape f x s ys lt = ap (λ c. c.shape) (get_or-set_same f.slots x _ spare_slot lt)

pub bare_other : (f : Layout) (x m : ℕ) (s : Option Shape) (ys : List ℕ) → m ≢ x → shape_at (bare f x s ys) m ≡ shape_at f m
bare_other f x m s ys ne = ap (λ c. c.shape) (get_or-set_other f.slots x m _ spare_slot ne)

pub bare_times : (f : Layout) (x m : ℕ) (s : Option Shape) (ys : List ℕ) → x < length f.slots → children_at f x ≡ [] → times_child (bare f x s ys).slots m ≡ times_child f.slots m
bare_times f x m s ys lt e =
    let a : times_child (bare f x s ys).slots m + occurs (children_at f x) m ≡ times_child f.slots m + occurs [] m =
    sum_by-set (λ c. occurs c.children m) f.slots x (record { shape = s; children = [] }) spare_slot lt in
    let b : occurs (children_at f x) m ≡ 0 = ap (λ z. occurs z m) e in omega arith

-- take
pub fresh : (f : Layout) (x : ℕ) (ys : List ℕ) → IsLayout f → f.spares ≡ x ∷ ys →
    (shape_at f x ≡ None) × (x < length f.slots) × (children_at f x ≡ []) × (times_child f.slots x ≡ 0) × (x ≢ f.root)
fresh f x ys h e =
    let o : 1 ≤ occurs f.spares x = subst (λ z. 1 ≤ occurs z x) (sym e) (occurs_here x ys) in
    let s : shape_at f x ≡ None = (h.spare_free x o).0 in (
      s,
      (h.spare_free x o).1,
      subst (λ t. MayHaveChildren t (children_at f x)) s (h.children_fit x),
      elim (cases_lt 0 (times_child f.slots x)) [ inl l ↦ absurd (h.used x l s) | inr l ↦ omega arith ],
      (λ q. h.root_used (subst (λ z. shape_at f z ≡ None) q s)),
    )

pub taken_alone : (f : Layout) (x : ℕ) (ys : List ℕ) (t : Shape) → IsLayout f → f.spares ≡ x ∷ ys → StandsAlone (taken f x t) x
taken_alone f x ys t h e =
    let new = fresh f x ys h e in
    record {
      used = λ q. some_none t (sym (bare_shape f x (Some t) (all_but_first f.spares) new.1) ∙ q);
      apart = bare_times f x x (Some t) (all_but_first f.spares) new.1 new.2 ∙ new.3;
      other = new.4;
    }
