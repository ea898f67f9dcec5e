-- Where a node stands, by what a look at it shows.
use Rattle.std.proofs.Common.{Bool, List, [], None, Option, Some, ap, arith, cond, eqb, false, get_or, inl, inr, length, refl, subst, sym, true, ℕ, ◌++◌, ◌<◌, ◌||◌, ◌∙◌, ◌∷◌, ◌≡◌, ◌≢◌, ◌≤◌, ◌⊎◌}
use Rattle.std.proofs.lemmas.Bool.{cases_eq, cases_lt, ne_eqb}
use Rattle.arena_model.specs.declared.Shape.TheVariants.{P, Q}
use Rattle.pq_arena.specs.declared.node.NodeId.{NodeId}
use Rattle.pq_arena.specs.declared.node.NodeView.{NodeView}
use Rattle.arena_model.specs.ChildLists.{end_parent, head_or, last_or, none}
use Rattle.arena_model.specs.Layout.{IsLayout, Layout, children_at, shape_at, times_child}
use Rattle.pq_arena.specs.Looks.{ShowsNode, node_named, shown_count}
use Rattle.arena_model.proofs.Lists.{SplitAt, occurs_here, occurs_last, split_at, occurs_behind, occurs_before}
use Rattle.arena_model.proofs.Slots.{children_times, in_range, placed_in, some_inj, used_by, few_slots}
use Rattle.full_pass.specs.declared.joins.Place.{Place}
use Rattle.full_pass.specs.declared.joins.Place.TheVariants.{Ring as PlaceRing, Run as PlaceRun, Top as PlaceTop}
use Rattle.full_pass.specs.Passing.{place_shown}
use Rattle.full_pass.specs.Tallies.{HasPlace, mark_in}
use Rattle.full_pass.proofs.Marks.{bit}
use Rattle.column_order.specs.Orders.{occurs}
use Rattle.column_order.proofs.Lists.{occurs-append}
use Rattle.arena_model.specs.declared.TheConstants.{NODE_BOUND}
use Rattle.full_pass.proofs.Shapes.{children_within, has_children}

abbrev pub id_of : ℕ → NodeId
id_of x = record { index = x }

pub named_some : (x : ℕ) → x ≢ none → node_named x ≡ Some (id_of x)
named_some x ne = ap (λ b. cond b None (Some (id_of x))) (ne_eqb x none ne)

-- x is a child of the P-node p
pub record Ringed (f : Layout) (x p : ℕ) : Type 0 where
  pub us : List ℕ
  pub vs : List ℕ
  pub sh : shape_at f p ≡ Some P
  pub is : children_at f p ≡ us ++ x ∷ vs

-- x is a child of a Q-node, beside these neighbours
pub record Running (f : Layout) (x : ℕ) (a b : Option NodeId) : Type 0 where
  pub q : ℕ
  pub us : List ℕ
  pub vs : List ℕ
  pub sh : shape_at f q ≡ Some Q
  pub is : children_at f q ≡ us ++ x ∷ vs
  pub near : ((a ≡ node_named (last_or us none)) × (b ≡ node_named (head_or vs none))) ⊎ ((a ≡ node_named (head_or vs none)) × (b ≡ node_named (last_or us none)))

-- a node that is named has a number in the range where the number has
named_within : (y n : ℕ) → (y ≢ none → y < n) → HasPlace (node_named y) n
named_within y n lt = elim (cases_eq y none) [
  | inl e ↦ subst (λ z. HasPlace (node_named z) n) (sym e) tt
  | inr ne ↦ subst (λ z. HasPlace z n) (sym (named_some y ne)) (lt ne)
]

-- the neighbours in a run are nodes of the layout
pub near_within : (f : Layout) (x : ℕ) (a b : Option NodeId) → IsLayout f → Running f x a b → HasPlace a (length f.slots) × HasPlace b (length f.slots)
near_within f x a b h r =
    let last : HasPlace (node_named (last_or r.us none)) (length f.slots) = named_within (last_or r.us none) (length f.slots) (λ ne. child (last_or r.us none) (last_in r.us ne)) in
    let head : HasPlace (node_named (head_or r.vs none)) (length f.slots) = named_within (head_or r.vs none) (length f.slots) (λ ne. child (head_or r.vs none) (head_in r.us r.vs ne)) in
    elim r.near [
      | inl e ↦ (subst (λ z. HasPlace z (length f.slots)) (sym e.0) last, subst (λ z. HasPlace z (length f.slots)) (sym e.1) head)
      | inr e ↦ (subst (λ z. HasPlace z (length f.slots)) (sym e.0) head, subst (λ z. HasPlace z (length f.slots)) (sym e.1) last)
    ]
  where
    child : (y : ℕ) → 1 ≤ occurs (r.us ++ x ∷ r.vs) y → y < length f.slots
    child y o = in_range f y (h.used y
        (let k : occurs (children_at f r.q) y ≤ times_child f.slots y = children_times f r.q y in
        let e : occurs (children_at f r.q) y ≡ occurs (r.us ++ x ∷ r.vs) y = ap (λ z. occurs z y) r.is in omega arith))

    last_in : (us : List ℕ) → last_or us none ≢ none → 1 ≤ occurs (us ++ x ∷ r.vs) (last_or us none)
    last_in [] ne = absurd (ne refl)
    last_in (u ∷ us) ne = omega (arith, occurs_last us u, occurs-append (u ∷ us) (x ∷ r.vs) (last_or us u))

    head_in : (us vs : List ℕ) → head_or vs none ≢ none → 1 ≤ occurs (us ++ x ∷ vs) (head_or vs none)
    head_in us [] ne = absurd (ne refl)
    head_in us (v ∷ vs) ne = omega (arith, occurs_here v vs, occurs-append us (x ∷ v ∷ vs) v)

-- what each place_shown says
abbrev pub Says : Layout → ℕ → Option NodeId → Option NodeId → Place → Type 0
Says f x a b PlaceTop = times_child f.slots x ≡ 0
Says f x a b PlaceRun = Running f x a b
Says f x a b (PlaceRing p) = Ringed f x p.index

ring_says : (f : Layout) (x p : ℕ) (a b parent : Option NodeId) (u v : ℕ) → Ringed f x p → p ≢ none → u ≢ none → v ≢ none →
    parent ≡ node_named p → a ≡ node_named u → b ≡ node_named v → Says f x a b (place_shown parent a b)
ring_says f x p a b parent u v r np nu nv ep ea eb =
    subst (λ z. Says f x a b z)
    (sym (ap (λ z. place_shown z a b) (ep ∙ named_some p np) ∙ ap (λ z. place_shown (Some (id_of p)) z b) (ea ∙ named_some u nu)
    ∙ ap (λ z. place_shown (Some (id_of p)) (Some (id_of u)) z) (eb ∙ named_some v nv))) r

-- a place_shown in a run: the parent is shown at an end alone
run_says : (f : Layout) (x q u v : ℕ) (a b parent : Option NodeId) → Running f x a b → q ≢ none →
    parent ≡ node_named (end_parent q u v) → ((a ≡ node_named u) × (b ≡ node_named v)) ⊎ ((a ≡ node_named v) × (b ≡ node_named u)) → Says f x a b (place_shown parent a b)
run_says f x q u v a b parent r nq ep near = elim (cases_eq u none) [
  | inl eu ↦
      let par : parent ≡ Some (id_of q) = ep ∙ ap (λ w. node_named (end_parent q w v)) eu ∙ named_some q nq in
      let nu : node_named u ≡ None = ap node_named eu in
      elim near [
        | inl e ↦ as_run (ap (λ z. place_shown z a b) par ∙ ap (λ z. place_shown (Some (id_of q)) z b) (e.0 ∙ nu))
        | inr e ↦ as_run (ap (λ z. place_shown z a b) par ∙ ap (λ z. place_shown (Some (id_of q)) a z) (e.1 ∙ nu) ∙ none_last a)
      ]
  | inr nu ↦ elim (cases_eq v none) [
    | inl ev ↦
        let par : parent ≡ Some (id_of q) = ep ∙ ap (λ w. node_named (end_parent q u w)) ev ∙ ap (λ t. node_named (cond (t || true) q none)) (ne_eqb u none nu) ∙ named_some q nq in
        let nv : node_named v ≡ None = ap node_named ev in
        elim near [
          | inl e ↦ as_run (ap (λ z. place_shown z a b) par ∙ ap (λ z. place_shown (Some (id_of q)) a z) (e.1 ∙ nv) ∙ none_last a)
          | inr e ↦ as_run (ap (λ z. place_shown z a b) par ∙ ap (λ z. place_shown (Some (id_of q)) z b) (e.0 ∙ nv))
        ]
    | inr nv ↦
        let par : parent ≡ None = ep ∙ ap (λ t. node_named (cond (t || eqb v none) q none)) (ne_eqb u none nu) ∙ ap (λ t. node_named (cond (false || t) q none)) (ne_eqb v none nv) in
        elim near [
          | inl e ↦ as_run (ap (λ z. place_shown z a b) par ∙ ap (λ z. place_shown None z b) (e.0 ∙ named_some u nu))
          | inr e ↦ as_run (ap (λ z. place_shown z a b) par ∙ ap (λ z. place_shown None z b) (e.0 ∙ named_some v nv))
        ]
  ]
]
  where
    as_run : place_shown parent a b ≡ PlaceRun → Says f x a b (place_shown parent a b)
    as_run e = subst (λ z. Says f x a b z) (sym e) r

    none_last : (a : Option NodeId) → place_shown (Some (id_of q)) a None ≡ PlaceRun
    none_last None = refl
    none_last (Some y) = refl

abbrev pub side : NodeView → ℕ → Option NodeId
side view i = get_or view.near i None

pub says : (f : Layout) (x : ℕ) (view : NodeView) → IsLayout f → ShowsNode f x view →
    Says f x (side view 0) (side view 1) (place_shown view.parent (side view 0) (side view 1))
says f x view h shows =
    let a : Option NodeId = side view 0 in
    let b : Option NodeId = side view 1 in
    elim (cases_lt 0 (times_child f.slots x)) [
      | inl l ↦
          let r = placed_in f.slots x l in
          let s : SplitAt (children_at f r.0) x = split_at (children_at f r.0) x r.1 in
          let real : (y : ℕ) → y < length f.slots → y ≢ none = (λ y lt e. let few : length f.slots ≤ NODE_BOUND = few_slots f h in let q : y ≡ none = e in omega arith) in
          let child : (y : ℕ) → 1 ≤ occurs (s.us ++ x ∷ s.vs) y → y ≢ none = (λ y o. real y (in_range f y (h.used y
          (let k : occurs (children_at f r.0) y ≤ times_child f.slots y = children_times f r.0 y in
          let e : occurs (children_at f r.0) y ≡ occurs (s.us ++ x ∷ s.vs) y = ap (λ z. occurs z y) s.is in omega arith)))) in
          let nx : x ≢ none = child x (omega (arith, occurs-append s.us (x ∷ s.vs) x, occurs_here x s.vs)) in
          elim (has_children (shape_at f r.0) (children_at f r.0) x (h.children_fit r.0) r.1) [
            | inl sh ↦
                let np : r.0 ≢ none = real r.0 (in_range f r.0 (used_by f r.0 P sh)) in
                let e = shows.ring r.0 s.us s.vs sh s.is in
                ring_says f x r.0 a b view.parent (head_or s.vs (head_or s.us x)) (last_or s.us (last_or s.vs x))
                (record { us = s.us; vs = s.vs; sh = sh; is = s.is }) np
                (child _ (occurs_behind s.us s.vs x)) (child _ (occurs_before s.us s.vs x)) e.0
                (ap (λ z. get_or z 0 None) e.1) (ap (λ z. get_or z 1 None) e.1)
            | inr sh ↦
                let nq : r.0 ≢ none = real r.0 (in_range f r.0 (used_by f r.0 Q sh)) in
                let e = shows.run r.0 s.us s.vs sh s.is in
                let n2 : ((a ≡ node_named (last_or s.us none)) × (b ≡ node_named (head_or s.vs none))) ⊎ ((a ≡ node_named (head_or s.vs none)) × (b ≡ node_named (last_or s.us none))) =
                elim e.1 [
                  | inl i ↦ inl (ap (λ z. get_or z 0 None) i, ap (λ z. get_or z 1 None) i)
                  | inr i ↦ inr (ap (λ z. get_or z 0 None) i, ap (λ z. get_or z 1 None) i)
                ] in
                run_says f x r.0 (last_or s.us none) (head_or s.vs none) a b view.parent
                (record { q = r.0; us = s.us; vs = s.vs; sh = sh; is = s.is; near = n2 }) nq e.0 n2
          ]
      | inr l ↦
          let e = shows.top (omega arith) in
          subst (λ z. Says f x a b z) (sym (ap (λ z. place_shown z a b) e.0 ∙ ap (λ z. place_shown None z b) (ap (λ z. get_or z 0 None) e.1))) (omega arith)
    ]

pub mark_named : (l : ℕ → Bool) (y : ℕ) → l none ≡ false → mark_in l (node_named y) ≡ bit (l y)
mark_named l y e = elim (cases_eq y none) [
  | inl q ↦ ap (λ z. mark_in l (node_named z)) q ∙ sym (ap bit e) ∙ ap (λ z. bit (l z)) (sym q)
  | inr ne ↦ ap (λ z. mark_in l z) (named_some y ne)
]

-- the number of children that a look shows
pub shown_count_is : (f : Layout) (p : ℕ) (view : NodeView) → ShowsNode f p view → shape_at f p ≡ Some P → view.children ≡ length (children_at f p)
shown_count_is f p view shows sh =
    shows.children ∙ ap (λ s. shown_count s (children_at f p)) (some_inj view.shape P (sym shows.shape_is ∙ sh))

-- a node has few children
pub children_few : (f : Layout) (p : ℕ) → IsLayout f → length (children_at f p) ≤ NODE_BOUND
children_few f p h =
    let n : length (children_at f p) ≤ length f.slots = children_within f p h in
    let few : length f.slots ≤ NODE_BOUND = few_slots f h in omega arith
