-- A P-node with a part beside a run of labelled children of a Q-node.
use Rattle.std.proofs.Common.{Bool, List, None, Some, [], ap, append_assoc, arith, inl, inr, length, refl, subst, sym, true, ℕ, ◌++◌, ◌+◌, ◌<◌, ◌∙◌, ◌∷◌, ◌≡◌, ◌≢◌, ◌≤◌, ◌⊎◌}
use Rattle.std.proofs.lemmas.Bool.{cases_eq, cases_lt, cases_Bool}
use Rattle.std.proofs.lemmas.List.{append-nil, append_cancel_left, append_cancel_right}
use Rattle.column_order.specs.Orders.{occurs}
use Rattle.column_order.proofs.Lists.{occurs-append}
use Rattle.arena_model.specs.declared.Shape.TheVariants.{P}
use Rattle.arena_model.specs.ChildLists.{head_or, last_or, none}
use Rattle.arena_model.specs.Layout.{IsLayout, Layout, children_at, shape_at, times_child}
use Rattle.arena_model.proofs.Lists.{SplitAt, last_or-append, occurs_here, occurs_last, split_at}
use Rattle.arena_model.proofs.Slots.{child_at, children_times, some_inj, some_none}
use Rattle.pq_arena.specs.declared.node.NodeId.{NodeId}
use Rattle.pq_arena.specs.declared.node.NodeView.{NodeView}
use Rattle.pq_arena.specs.Looks.{ShowsNode, node_named}
use Rattle.full_pass.specs.declared.joins.Place.TheVariants.{Ring as PlaceRing, Run as PlaceRun}
use Rattle.full_pass.specs.Passing.{HasPart, InRing, IsEndOfRun, IsLabelledNear, Pass, marks, place_shown}
use Rattle.full_pass.proofs.Ends.{row_labelled}
use Rattle.full_pass.proofs.Joining.{rings_at, runs_at}
use Rattle.full_pass.proofs.Links.{one_split}
use Rattle.full_pass.proofs.Marks.{OneRun, marks_each, marks_le, true_false}
use Rattle.full_pass.proofs.Places.{Ringed, Running, id_of, named_some, shown_count_is, side}

-- x, outside the run rs, is before it or behind it
sides : (x : ℕ) (us vs ps rs ws : List ℕ) → us ++ x ∷ vs ≡ ps ++ (rs ++ ws) → occurs (us ++ x ∷ vs) x ≤ 1 → occurs rs x ≡ 0 →
    ((ds : List ℕ) × (vs ≡ ds ++ (rs ++ ws))) ⊎ ((ds : List ℕ) × (us ≡ ps ++ (rs ++ ds)))
sides x us vs ps rs ws e once out = elim (cases_lt 0 (occurs ps x)) [
  | inl o ↦
      let s : SplitAt ps x = split_at ps x o in
      let k : us ++ x ∷ vs ≡ s.us ++ x ∷ (s.vs ++ (rs ++ ws)) = e ∙ ap (λ z. z ++ (rs ++ ws)) s.is ∙ append_assoc s.us (x ∷ s.vs) (rs ++ ws) in
      inl (s.vs, (one_split x us s.us vs (s.vs ++ (rs ++ ws)) k once).1)
  | inr o ↦
      let a : 1 ≤ occurs (us ++ x ∷ vs) x = omega (arith, occurs-append us (x ∷ vs) x, occurs_here x vs) in
      let b : occurs (us ++ x ∷ vs) x ≡ occurs (ps ++ (rs ++ ws)) x = ap (λ z. occurs z x) e in
      let s : SplitAt ws x = split_at ws x (omega (arith, occurs-append ps (rs ++ ws) x, occurs-append rs ws x)) in
      let k : us ++ x ∷ vs ≡ (ps ++ (rs ++ s.us)) ++ x ∷ s.vs =
      e ∙ ap (λ z. ps ++ (rs ++ z)) s.is ∙ ap (λ z. ps ++ z) (sym (append_assoc rs s.us (x ∷ s.vs))) ∙ sym (append_assoc ps (rs ++ s.us) (x ∷ s.vs)) in
      inr (s.us, (one_split x us (ps ++ (rs ++ s.us)) vs s.vs k once).0)
]

-- x is outside the run rs, of which the node before x or behind it is one
record NextTo (x : ℕ) (us vs ps rs ws : List ℕ) : Type 0 where
  is : us ++ x ∷ vs ≡ ps ++ (rs ++ ws)
  once : (y : ℕ) → occurs (us ++ x ∷ vs) y ≤ 1
  out : occurs rs x ≡ 0

-- what is in the run is neither before it nor behind it
twice : {x : ℕ} {us vs ps rs ws : List ℕ} → NextTo x us vs ps rs ws → (y : ℕ) → 1 ≤ occurs rs y → 2 ≤ occurs us y + occurs vs y → ⊥
twice {x = x} {us = us} {vs = vs} n y o two =
    let a : occurs (us ++ x ∷ vs) y ≤ 1 = n.once y in omega (arith, occurs-append us (x ∷ vs) y)

head_held : (ys : List ℕ) → 1 ≤ length ys → 1 ≤ occurs ys (head_or ys none)
head_held [] l = absurd (omega arith)
head_held (y ∷ ys) l = occurs_here y ys

last_held : (ys : List ℕ) → 1 ≤ length ys → 1 ≤ occurs ys (last_or ys none)
last_held [] l = absurd (omega arith)
last_held (y ∷ ys) l = occurs_last ys y

-- where the node behind x is in the run, the run begins there
run_behind : {x : ℕ} {us vs ps rs ws : List ℕ} → NextTo x us vs ps rs ws → 1 ≤ length vs → 1 ≤ occurs rs (head_or vs none) → vs ≡ rs ++ ws
run_behind {x = x} {us = us} {vs = vs} {ps = ps} {rs = rs} {ws = ws} n some o = elim (sides x us vs ps rs ws n.is (n.once x) n.out) [
  | inl d ↦ first d.0 d.1
  | inr d ↦ absurd (
      let i : occurs us t ≡ occurs (ps ++ (rs ++ d.0)) t = ap (λ z. occurs z t) d.1 in
      let j : 1 ≤ occurs vs t = head_held vs some in
      twice n t o (omega (arith, occurs-append ps (rs ++ d.0) t, occurs-append rs d.0 t)))
]
  where
    t : ℕ
    t = head_or vs none

    first : (ds : List ℕ) → vs ≡ ds ++ (rs ++ ws) → vs ≡ rs ++ ws
    first [] e = e
    first (d ∷ ds) e = absurd (
        let h : head_or vs none ≡ d = ap (λ z. head_or z none) e in
        let a : 1 ≤ occurs rs d = subst (λ z. 1 ≤ occurs rs z) h o in
        let i : occurs vs d ≡ occurs (d ∷ (ds ++ (rs ++ ws))) d = ap (λ z. occurs z d) e in
        let j : 1 ≤ occurs (d ∷ []) d = occurs_here d [] in
        twice n d a (omega (arith, occurs-append ds (rs ++ ws) d, occurs-append rs ws d)))

-- where the node before x is, the run ends there
run_before : {x : ℕ} {us vs ps rs ws : List ℕ} → NextTo x us vs ps rs ws → 1 ≤ length us → 1 ≤ occurs rs (last_or us none) → us ≡ ps ++ rs
run_before {x = x} {us = us} {vs = vs} {ps = ps} {rs = rs} {ws = ws} n some o = elim (sides x us vs ps rs ws n.is (n.once x) n.out) [
  | inl d ↦ absurd (
      let i : occurs vs t ≡ occurs (d.0 ++ (rs ++ ws)) t = ap (λ z. occurs z t) d.1 in
      let j : 1 ≤ occurs us t = last_held us some in
      twice n t o (omega (arith, occurs-append d.0 (rs ++ ws) t, occurs-append rs ws t)))
  | inr d ↦ last d.0 d.1
]
  where
    t : ℕ
    t = last_or us none

    last : (ds : List ℕ) → us ≡ ps ++ (rs ++ ds) → us ≡ ps ++ rs
    last [] e = e ∙ ap (λ z. ps ++ z) (append-nil rs)
    last (d ∷ ds) e = absurd (
        let y : ℕ = last_or ds d in
        let h : last_or us none ≡ y = ap (λ z. last_or z none) e ∙ last_or-append ps (rs ++ d ∷ ds) none ∙ last_or-append rs (d ∷ ds) (last_or ps none) in
        let a : 1 ≤ occurs rs y = subst (λ z. 1 ≤ occurs rs z) h o in
        let i : occurs us y ≡ occurs (ps ++ (rs ++ d ∷ ds)) y = ap (λ z. occurs z y) e in
        let j : 1 ≤ occurs (d ∷ ds) y = occurs_last ds d in
        twice n y a (omega (arith, occurs-append ps (rs ++ d ∷ ds) y, occurs-append rs (d ∷ ds) y)))

some_in : (xs : List ℕ) (x : ℕ) → 1 ≤ occurs xs x → 1 ≤ length xs
some_in [] x o = absurd (omega arith)
some_in (y ∷ ys) x o = omega arith

head_of : (rs ws : List ℕ) → 1 ≤ length rs → head_or (rs ++ ws) none ≡ head_or rs none
head_of [] ws l = absurd (omega arith)
head_of (r ∷ rs) ws l = refl

last_of : (ps rs : List ℕ) → 1 ≤ length rs → last_or (ps ++ rs) none ≡ last_or rs none
last_of ps [] l = absurd (omega arith)
last_of ps (r ∷ rs) l = last_or-append ps (r ∷ rs) none

named_is : (y : ℕ) (t : NodeId) → node_named y ≡ Some t → t.index ≡ y
named_is y t e = elim (cases_eq y none) [
  | inl q ↦ absurd (some_none t (sym e ∙ ap node_named q))
  | inr ne ↦ ap (λ (z : NodeId). z.index) (some_inj t (id_of y) (sym e ∙ named_some y ne))
]

last_there : (us : List ℕ) → node_named (last_or us none) ≢ None → 1 ≤ length us
last_there [] ne = absurd (ne refl)
last_there (u ∷ us) ne = omega arith

head_there : (vs : List ℕ) → node_named (head_or vs none) ≢ None → 1 ≤ length vs
head_there [] ne = absurd (ne refl)
head_there (v ∷ vs) ne = omega arith

-- what the labels and tallies say of the P-node p, of whose children x is one
open_ring : (f : Layout) (row : List ℕ) (l : ℕ → Bool) (h : ℕ → ℕ) (x p n : ℕ) → Pass f row l h [] n → shape_at f p ≡ Some P →
    1 ≤ occurs (children_at f p) x → l x ≡ true → h p ≢ length (children_at f p) → InRing f l [] p × (marks l (children_at f p) < length (children_at f p))
open_ring f row l h x p n pass sp o t ne =
    let count : h p ≡ marks l (children_at f p) = pass.counts p sp in
    let most : marks l (children_at f p) ≤ length (children_at f p) = marks_le l (children_at f p) in
    let few : marks l (children_at f p) < length (children_at f p) = omega arith in (
      record {
        is_p = sp;
        part = record {
          not_full = elim (cases_Bool (l p)) [
            | inl lp ↦ absurd (let all : length (children_at f p) ≤ marks l (children_at f p) = marks_each l (children_at f p) (λ k ok. pass.labels.filled_children p k lp ok) in omega arith)
            | inr lp ↦ lp
          ];
          not_waiting = refl;
          child = x;
          is_child = o;
          labelled = t;
        };
      },
      few,
    )

-- the P-node p, above the leaf x of the row, and its neighbour t are found by two looks
pub end_of_run : (f : Layout) (row : List ℕ) (l : ℕ → Bool) (h : ℕ → ℕ) (x n : ℕ) (p t : NodeId) (view above : NodeView) → IsLayout f → Pass f row l h [] n → 1 ≤ occurs row x →
    ShowsNode f x view → PlaceRing p ≡ place_shown view.parent (side view 0) (side view 1) →
    ShowsNode f p.index above → PlaceRun ≡ place_shown above.parent (side above 0) (side above 1) → h p.index ≢ above.children →
    IsLabelledNear l (side above 0) (side above 1) (Some t) → IsEndOfRun f l p.index t.index
end_of_run f row l h x n p t view above layout pass o shows at shows' at' ne near =
    let r : Ringed f x p.index = rings_at f x p view layout shows at in
    let s : Running f p.index (side above 0) (side above 1) = runs_at f p.index above layout shows' at' in
    let ring = open_ring f row l h x p.index n pass r.sh (child_at f p.index x r.us r.vs r.is) (row_labelled f row l h n x pass o)
    (λ e. ne (e ∙ sym (shown_count_is f p.index above shows' r.sh))) in
    let there : (1 ≤ length s.us) × (1 ≤ length s.vs) × ((t.index ≡ last_or s.us none) ⊎ (t.index ≡ head_or s.vs none)) =
    elim s.near [
      | inl e ↦ (
        last_there s.us (subst (λ z. z ≢ None) e.0 near.1),
        head_there s.vs (subst (λ z. z ≢ None) e.1 near.2),
        elim near.3 [ inl i ↦ inl (named_is (last_or s.us none) t (sym e.0 ∙ i)) | inr i ↦ inr (named_is (head_or s.vs none) t (sym e.1 ∙ i)) ],
      )
      | inr e ↦ (
        last_there s.us (subst (λ z. z ≢ None) e.1 near.2),
        head_there s.vs (subst (λ z. z ≢ None) e.0 near.1),
        elim near.3 [ inl i ↦ inr (named_is (head_or s.vs none) t (sym e.0 ∙ i)) | inr i ↦ inl (named_is (last_or s.us none) t (sym e.1 ∙ i)) ],
      )
    ] in
    record {
      ring = ring.0;
      few = ring.1;
      q = s.q;
      us = s.us;
      vs = s.vs;
      is_q = s.sh;
      place = s.is;
      some_before = there.0;
      some_behind = there.1;
      labelled = near.0;
      beside = there.2;
    }

pub end_held : {f : Layout} {l : ℕ → Bool} {p t : ℕ} → (e : IsEndOfRun f l p t) → 1 ≤ occurs (children_at f e.q) t
end_held {f = f} {l = l} {p = p} {t = t} e = subst (λ z. 1 ≤ occurs z t) (sym e.place) (elim e.beside [
  | inl i ↦ let a : 1 ≤ occurs e.us t = subst (λ z. 1 ≤ occurs e.us z) (sym i) (last_held e.us e.some_before) in omega (arith, occurs-append e.us (p ∷ e.vs) t)
  | inr i ↦ let a : 1 ≤ occurs e.vs t = subst (λ z. 1 ≤ occurs e.vs z) (sym i) (head_held e.vs e.some_behind) in omega (arith, occurs-append e.us (p ∷ e.vs) t)
])

-- the Q-node has a part too
pub run_has_part : {f : Layout} {row : List ℕ} {l : ℕ → Bool} {h : ℕ → ℕ} {n p t : ℕ} → Pass f row l h [] n → (e : IsEndOfRun f l p t) → HasPart f l [] e.q
run_has_part {f = f} {l = l} {p = p} {t = t} pass e = record {
  not_full = elim (cases_Bool (l e.q)) [
    | inl lq ↦ absurd (true_false (l p) (pass.labels.filled_children e.q p lq (child_at f e.q p e.us e.vs e.place)) e.ring.part.not_full)
    | inr lq ↦ lq
  ];
  not_waiting = refl;
  child = t;
  is_child = end_held e;
  labelled = e.labelled;
}

-- p is the last before the run rs, and t the first of it
pub record LastBefore (ps rs : List ℕ) (p t : ℕ) : Type 0 where
  pub rest : List ℕ
  pub is : ps ≡ rest ++ p ∷ []
  pub some : 1 ≤ length rest
  pub beside : t ≡ head_or rs none

-- p is the first behind the run rs, and t the last of it
pub record FirstBehind (rs ws : List ℕ) (p t : ℕ) : Type 0 where
  pub rest : List ℕ
  pub is : ws ≡ p ∷ rest
  pub some : 1 ≤ length rest
  pub beside : t ≡ last_or rs none

-- the labelled children of q are one run, and p stands beside an end of it
pub stands_at_run : {f : Layout} {l : ℕ → Bool} {p t : ℕ} → IsLayout f → (e : IsEndOfRun f l p t) → (q : ℕ) → e.q ≡ q → (run : OneRun l (children_at f q)) →
    (1 ≤ length run.rs) × (LastBefore run.us run.rs p t ⊎ FirstBehind run.rs run.vs p t)
stands_at_run {f = f} {l = l} {p = p} {t = t} layout e q same run =
    let is : children_at f q ≡ e.us ++ p ∷ e.vs = ap (λ z. children_at f z) (sym same) ∙ e.place in
    let once : (y : ℕ) → occurs (e.us ++ p ∷ e.vs) y ≤ 1 = (λ y. subst (λ z. occurs z y ≤ 1) is
    (let a : occurs (children_at f q) y ≤ times_child f.slots y = children_times f q y in let b : times_child f.slots y ≤ 1 = layout.once y in omega arith)) in
    let out : occurs run.rs p ≡ 0 = elim (cases_lt 0 (occurs run.rs p)) [
      | inl o ↦ absurd (true_false (l p) (run.inside p o) e.ring.part.not_full)
      | inr o ↦ let z : occurs run.rs p ≡ 0 = omega arith in z
    ] in
    let next : NextTo p e.us e.vs run.us run.rs run.vs = record { is = sym is ∙ run.is; once = once; out = out } in
    let held : 1 ≤ occurs run.rs t = run.all t (subst (λ z. 1 ≤ occurs (children_at f z) t) same (end_held e)) e.labelled in
    let long : 1 ≤ length run.rs = some_in run.rs t held in (
      long,
      elim e.beside [
        | inl i ↦ let ends : e.us ≡ run.us ++ run.rs = run_before next e.some_before (subst (λ z. 1 ≤ occurs run.rs z) i held) in inr (record {
          rest = e.vs;
          is = sym (append_cancel_left (run.us ++ run.rs) (p ∷ e.vs) run.vs (ap (λ z. z ++ p ∷ e.vs) (sym ends) ∙ next.is ∙ sym (append_assoc run.us run.rs run.vs)));
          some = e.some_behind;
          beside = i ∙ ap (λ z. last_or z none) ends ∙ last_of run.us run.rs long;
        })
        | inr i ↦ let begins : e.vs ≡ run.rs ++ run.vs = run_behind next e.some_behind (subst (λ z. 1 ≤ occurs run.rs z) i held) in inl (record {
          rest = e.us;
          is = sym (append_cancel_right (e.us ++ p ∷ []) run.us (run.rs ++ run.vs) (append_assoc e.us (p ∷ []) (run.rs ++ run.vs) ∙ ap (λ z. e.us ++ p ∷ z) (sym begins) ∙ next.is));
          some = e.some_before;
          beside = i ∙ ap (λ z. head_or z none) begins ∙ head_of run.rs run.vs long;
        })
      ],
    )
