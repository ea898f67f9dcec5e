-- A Q-node whose run goes from end to end: all its children are labelled.
use Rattle.std.proofs.Common.{Bool, List, None, Option, Some, [], ap, append_assoc, arith, cond, eqb, false, inl, inr, length, refl, subst, sym, true, ℕ, ◌++◌, ◌+◌, ◌<◌, ◌||◌, ◌∙◌, ◌∷◌, ◌≡◌, ◌≢◌, ◌≤◌}
use Rattle.std.proofs.lemmas.Bool.{cases_eq, cases_lt, ne_eqb}
use Rattle.std.proofs.lemmas.List.{append-nil}
use Rattle.arena_model.specs.declared.Shape.TheVariants.{Q}
use Rattle.pq_arena.specs.declared.node.NodeId.{NodeId}
use Rattle.arena_model.specs.ChildLists.{end_parent, head_or, last_or, none}
use Rattle.pq_arena.specs.Looks.{node_named}
use Rattle.arena_model.specs.Layout.{IsLayout, Layout, children_at, shape_at}
use Rattle.arena_model.proofs.Lists.{SplitAt, last_or-append, occurs_here, occurs_last, occurs_other, split_at}
use Rattle.arena_model.proofs.Slots.{child_at, child_used, not_none, in_range, some_inj, used_by}
use Rattle.full_pass.specs.Passing.{Runs, runs}
use Rattle.full_pass.specs.Entries.{both}
use Rattle.full_pass.proofs.Marks.{OneMore, bit}
use Rattle.full_pass.proofs.Steps.{stays}
use Rattle.full_pass.proofs.Links.{Prefix, Suffix, prefix, suffix}
use Rattle.full_pass.proofs.Linked.{Spot, left_is, right_is}
use Rattle.full_pass.proofs.Places.{id_of, named_some}
use Rattle.column_order.specs.Orders.{occurs}
use Rattle.column_order.proofs.Lists.{occurs-append}

-- both showed a node
pub record Both (a b : Option NodeId) (q : NodeId) : Type 0 where
  pub a_is : a ≡ Some q
  pub b_is : b ≢ None

pub both_are : (a b : Option NodeId) (q : NodeId) → both a b ≡ Some q → Both a b q
both_are None b q e = absurd (no_some q e)
  where
    no_some : (q : NodeId) → None ≢ Some q
    no_some q e = cc
both_are (Some a) None q e = absurd (no_some q e)
  where
    no_some : (q : NodeId) → None ≢ Some q
    no_some q e = cc
both_are (Some a) (Some b) q e = record { a_is = e; b_is = λ n. some_some b n }
  where
    some_some : (b : NodeId) → Some b ≢ None
    some_some b n = cc

-- a parent is shown at an end alone
shown_end : (q u v : ℕ) → node_named (end_parent q u v) ≢ None → v ≢ none → u ≡ none
shown_end q u v some nv = elim (cases_eq u none) [
  | inl e ↦ e
  | inr ne ↦ absurd (some (ap (λ t. node_named (cond (t || eqb v none) q none)) (ne_eqb u none ne) ∙ ap (λ t. node_named (cond (false || t) q none)) (ne_eqb v none nv)))
]

shown_start : (q u v : ℕ) → node_named (end_parent q u v) ≢ None → u ≢ none → v ≡ none
shown_start q u v some nu = elim (cases_eq v none) [
  | inl e ↦ e
  | inr ne ↦ absurd (some (ap (λ t. node_named (cond (t || eqb v none) q none)) (ne_eqb u none nu) ∙ ap (λ t. node_named (cond (false || t) q none)) (ne_eqb v none ne)))
]

last_split : (y : ℕ) (ys : List ℕ) → (init : List ℕ) × (y ∷ ys ≡ init ++ last_or ys y ∷ [])
last_split y [] = ([], refl)
last_split y (z ∷ zs) = let r = last_split z zs in (y ∷ r.0, ap (λ w. y ∷ w) r.1)

real_end : (ks : List ℕ) → ((k : ℕ) → 1 ≤ occurs ks k → k ≢ none) → last_or ks none ≡ none → ks ≡ []
real_end [] real e = refl
real_end (k ∷ ks) real e = absurd (real (last_or ks k) (occurs_last ks k) e)

real_start : (ks : List ℕ) → ((k : ℕ) → 1 ≤ occurs ks k → k ≢ none) → head_or ks none ≡ none → ks ≡ []
real_start [] real e = refl
real_start (k ∷ ks) real e = absurd (real k (occurs_here k ks) e)

-- a run from end to end is all children
pub all_labelled : (f : Layout) (l l' : ℕ → Bool) (far : ℕ → ℕ) (up up' : ℕ → Option NodeId) (x q a b : ℕ) (us vs : List ℕ) → Spot f x q us vs →
    OneMore l l' x → l none ≡ false → Runs f l far up →
    a ≡ cond (l (last_or us none)) (far (last_or us none)) x → b ≡ cond (l (head_or vs none)) (far (head_or vs none)) x →
    ((m y : ℕ) (ps ws : List ℕ) → shape_at f m ≡ Some Q → children_at f m ≡ ps ++ y ∷ ws → l' y ≡ true → up' y ≡ node_named (end_parent m (last_or ps none) (head_or ws none))) →
    up' a ≢ None → up' b ≢ None → 1 ≤ bit (l (last_or us none)) + bit (l (head_or vs none)) →
    (k : ℕ) → 1 ≤ occurs (children_at f q) k → l' k ≡ true
all_labelled f l l' far up up' x q a b us vs s more ln runs ea eb ups na nb some k ok =
    let S : Suffix l us = suffix l us ln in
    let T : Prefix l vs = prefix l vs ln in
    let is_a : a ≡ head_or S.run x = left_is f l far up x q a us vs S.rest S.run s runs more.before S.is S.inside S.before ea in
    let is_b : b ≡ last_or T.run x = right_is f l far up x q b us vs T.run T.rest s runs more.before T.is T.inside T.after eb in
    let e1 : S.rest ≡ [] = left_end S.rest S.run S.is S.inside S.before is_a in
    let e2 : T.rest ≡ [] = right_end T.run T.rest T.is T.inside T.after is_b in
    let is : children_at f q ≡ S.run ++ x ∷ T.run =
    s.is ∙ ap (λ z. z ++ x ∷ vs) (S.is ∙ ap (λ z. z ++ S.run) e1) ∙ ap (λ z. S.run ++ x ∷ z) (T.is ∙ ap (λ z. T.run ++ z) e2 ∙ append-nil T.run) in
    let o : occurs (children_at f q) k ≡ occurs S.run k + occurs (x ∷ T.run) k = ap (λ z. occurs z k) is ∙ occurs-append S.run (x ∷ T.run) k in
    elim (cases_eq k x) [
      | inl e ↦ subst (λ z. l' z ≡ true) (sym e) more.after
      | inr ne ↦
          let ot : occurs (x ∷ T.run) k ≡ occurs T.run k = occurs_other x k T.run ne in
          elim (cases_lt 0 (occurs S.run k)) [
            | inl i ↦ stays l l' x k more (S.inside k i)
            | inr i ↦ stays l l' x k more (T.inside k (omega arith))
          ]
    ]
  where
    real : (k : ℕ) → 1 ≤ occurs (children_at f q) k → k ≢ none
    real k o = not_none f k s.layout (child_used f q k s.layout o)

    in_us : (k : ℕ) → 1 ≤ occurs us k → 1 ≤ occurs (children_at f q) k
    in_us k o = subst (λ z. 1 ≤ occurs z k) (sym s.is) (omega (arith, occurs-append us (x ∷ vs) k))

    in_vs : (k : ℕ) → 1 ≤ occurs vs k → 1 ≤ occurs (children_at f q) k
    in_vs k o = subst (λ z. 1 ≤ occurs z k) (sym s.is) (let m : occurs vs k ≤ occurs (x ∷ vs) k = omega arith in omega (arith, occurs-append us (x ∷ vs) k))

    x_real : x ≢ none
    x_real = real x (child_at f q x us vs s.is)

    head_real : (ps ws : List ℕ) (d : ℕ) → d ≢ none → ((k : ℕ) → 1 ≤ occurs ps k → k ≢ none) → head_or (ps ++ d ∷ ws) none ≢ none
    head_real [] ws d nd h = nd
    head_real (p ∷ ps) ws d nd h = h p (occurs_here p ps)

    last_real : (ps : List ℕ) (d : ℕ) → d ≢ none → ((k : ℕ) → 1 ≤ occurs ps k → k ≢ none) → last_or ps d ≢ none
    last_real [] d nd h = nd
    last_real (p ∷ ps) d nd h = h (last_or ps p) (occurs_last ps p)

    left_end : (rest run : List ℕ) → us ≡ rest ++ run → ((k : ℕ) → 1 ≤ occurs run k → l k ≡ true) → l (last_or rest none) ≡ false → a ≡ head_or run x → rest ≡ []
    left_end rest [] is inside stop e =
        let lu : l (last_or us none) ≡ false = ap (λ z. l (last_or z none)) is ∙ ap l (last_or-append rest [] none) ∙ stop in
        let z : bit (l (last_or us none)) ≡ 0 = ap bit lu in
        let v : head_or vs none ≢ none = (λ e. let z2 : bit (l (head_or vs none)) ≡ 0 = ap bit (ap l e ∙ ln) in omega arith) in
        let k1 : children_at f q ≡ rest ++ x ∷ vs = s.is ∙ ap (λ z. z ++ x ∷ vs) (is ∙ append-nil rest) in
        real_end rest (λ k o. real k (in_us k (subst (λ z. 1 ≤ occurs z k) (sym (is ∙ append-nil rest)) o)))
        (shown_end q (last_or rest none) (head_or vs none) (λ n. na (ap up' e ∙ ups q x rest vs s.sh k1 more.after ∙ n)) v)
    left_end rest (y ∷ ys) is inside stop e =
        let k1 : children_at f q ≡ rest ++ y ∷ (ys ++ x ∷ vs) = s.is ∙ ap (λ z. z ++ x ∷ vs) is ∙ append_assoc rest (y ∷ ys) (x ∷ vs) in
        let in_run : (k : ℕ) → 1 ≤ occurs (y ∷ ys) k → 1 ≤ occurs us k = (λ k o. subst (λ z. 1 ≤ occurs z k) (sym is) (omega (arith, occurs-append rest (y ∷ ys) k))) in
        let in_rest : (k : ℕ) → 1 ≤ occurs rest k → 1 ≤ occurs us k = (λ k o. subst (λ z. 1 ≤ occurs z k) (sym is) (omega (arith, occurs-append rest (y ∷ ys) k))) in
        let ly : l' y ≡ true = stays l l' x y more (inside y (occurs_here y ys)) in
        real_end rest (λ k o. real k (in_us k (in_rest k o)))
        (shown_end q (last_or rest none) (head_or (ys ++ x ∷ vs) none) (λ n. na (ap up' e ∙ ups q y rest (ys ++ x ∷ vs) s.sh k1 ly ∙ n))
        (head_real ys vs x x_real (λ k o. real k (in_us k (in_run k (omega arith))))))

    right_end : (run rest : List ℕ) → vs ≡ run ++ rest → ((k : ℕ) → 1 ≤ occurs run k → l k ≡ true) → l (head_or rest none) ≡ false → b ≡ last_or run x → rest ≡ []
    right_end [] rest is inside stop e =
        let lv : l (head_or vs none) ≡ false = ap (λ z. l (head_or z none)) is ∙ stop in
        let z : bit (l (head_or vs none)) ≡ 0 = ap bit lv in
        let v : last_or us none ≢ none = (λ e. let z2 : bit (l (last_or us none)) ≡ 0 = ap bit (ap l e ∙ ln) in omega arith) in
        let k1 : children_at f q ≡ us ++ x ∷ rest = s.is ∙ ap (λ z. us ++ x ∷ z) is in
        real_start rest (λ k o. real k (in_vs k (subst (λ z. 1 ≤ occurs z k) (sym is) o)))
        (shown_start q (last_or us none) (head_or rest none) (λ n. nb (ap up' e ∙ ups q x us rest s.sh k1 more.after ∙ n)) v)
    right_end (y ∷ ys) rest is inside stop e =
        let w = last_split y ys in
        let c : ℕ = last_or ys y in
        let k1 : children_at f q ≡ (us ++ x ∷ w.0) ++ c ∷ rest =
        s.is ∙ ap (λ z. us ++ x ∷ z) (is ∙ ap (λ z. z ++ rest) w.1 ∙ append_assoc w.0 (c ∷ []) rest) ∙ sym (append_assoc us (x ∷ w.0) (c ∷ rest)) in
        let in_run : (k : ℕ) → 1 ≤ occurs w.0 k → 1 ≤ occurs vs k = (λ k o. subst (λ z. 1 ≤ occurs z k) (sym (is ∙ ap (λ z. z ++ rest) w.1))
        (omega (arith, occurs-append (w.0 ++ c ∷ []) rest k, occurs-append w.0 (c ∷ []) k))) in
        let in_rest : (k : ℕ) → 1 ≤ occurs rest k → 1 ≤ occurs vs k = (λ k o. subst (λ z. 1 ≤ occurs z k) (sym is) (omega (arith, occurs-append (y ∷ ys) rest k))) in
        let lc : l' c ≡ true = stays l l' x c more (inside c (occurs_last ys y)) in
        let nl : last_or (us ++ x ∷ w.0) none ≢ none = (λ z. last_real w.0 x x_real (λ k o. real k (in_vs k (in_run k o))) (sym (last_or-append us (x ∷ w.0) none) ∙ z)) in
        real_start rest (λ k o. real k (in_vs k (in_rest k o)))
        (shown_start q (last_or (us ++ x ∷ w.0) none) (head_or rest none) (λ n. nb (ap up' e ∙ ups q c (us ++ x ∷ w.0) rest s.sh k1 lc ∙ n)) nl)

pub shown_name : (q u v : ℕ) (p : NodeId) → node_named (end_parent q u v) ≡ Some p → q ≢ none → p.index ≡ q
shown_name q u v p e nq = by (eqb u none || eqb v none) e
  where
    no_some : (q : NodeId) → None ≢ Some q
    no_some q e = cc

    by : (t : Bool) → node_named (cond t q none) ≡ Some p → p.index ≡ q
    by true e = ap (λ (z : NodeId). z.index) (some_inj p (id_of q) (sym e ∙ named_some q nq))
    by false e = absurd (no_some p e)

-- the ends of the run of x are labelled children
pub record EndChild (f : Layout) (l' : ℕ → Bool) (q a : ℕ) : Type 0 where
  pub child : 1 ≤ occurs (children_at f q) a
  pub is_labelled : l' a ≡ true

pub left_child : (f : Layout) (l l' : ℕ → Bool) (far : ℕ → ℕ) (up : ℕ → Option NodeId) (x q a : ℕ) (us vs : List ℕ) → Spot f x q us vs →
    OneMore l l' x → l none ≡ false → Runs f l far up → a ≡ cond (l (last_or us none)) (far (last_or us none)) x → EndChild f l' q a
left_child f l l' far up x q a us vs s more ln runs ea =
    let S : Suffix l us = suffix l us ln in
    subst (λ z. EndChild f l' q z) (sym (left_is f l far up x q a us vs S.rest S.run s runs more.before S.is S.inside S.before ea)) (by S.rest S.run S.is S.inside)
  where
    by : (rest run : List ℕ) → us ≡ rest ++ run → ((k : ℕ) → 1 ≤ occurs run k → l k ≡ true) → EndChild f l' q (head_or run x)
    by rest [] is inside = record { child = child_at f q x us vs s.is; is_labelled = more.after }
    by rest (y ∷ ys) is inside = record {
      child = subst (λ z. 1 ≤ occurs z y) (sym (s.is ∙ ap (λ z. z ++ x ∷ vs) is))
          (omega (arith, occurs-append (rest ++ y ∷ ys) (x ∷ vs) y, occurs-append rest (y ∷ ys) y, occurs_here y ys));
      is_labelled = stays l l' x y more (inside y (occurs_here y ys));
    }

pub right_child : (f : Layout) (l l' : ℕ → Bool) (far : ℕ → ℕ) (up : ℕ → Option NodeId) (x q b : ℕ) (us vs : List ℕ) → Spot f x q us vs →
    OneMore l l' x → l none ≡ false → Runs f l far up → b ≡ cond (l (head_or vs none)) (far (head_or vs none)) x → EndChild f l' q b
right_child f l l' far up x q b us vs s more ln runs eb =
    let T : Prefix l vs = prefix l vs ln in
    subst (λ z. EndChild f l' q z) (sym (right_is f l far up x q b us vs T.run T.rest s runs more.before T.is T.inside T.after eb)) (by T.run T.rest T.is T.inside)
  where
    by : (run rest : List ℕ) → vs ≡ run ++ rest → ((k : ℕ) → 1 ≤ occurs run k → l k ≡ true) → EndChild f l' q (last_or run x)
    by [] rest is inside = record { child = child_at f q x us vs s.is; is_labelled = more.after }
    by (y ∷ ys) rest is inside = record {
      child = subst (λ z. 1 ≤ occurs z (last_or ys y)) (sym (s.is ∙ ap (λ z. us ++ x ∷ z) is))
          (omega (arith, occurs-append us (x ∷ ((y ∷ ys) ++ rest)) (last_or ys y), occurs-append (y ∷ ys) rest (last_or ys y), occurs_last ys y));
      is_labelled = stays l l' x (last_or ys y) more (inside (last_or ys y) (occurs_last ys y));
    }

-- the node that an end showed is the Q-node
pub child_shows : (f : Layout) (l' : ℕ → Bool) (far' : ℕ → ℕ) (up' : ℕ → Option NodeId) (q a : ℕ) (p : NodeId) → IsLayout f → shape_at f q ≡ Some Q →
    Runs f l' far' up' → EndChild f l' q a → up' a ≡ Some p → p.index ≡ q
child_shows f l' far' up' q a p h sh runs k e =
    let c : SplitAt (children_at f q) a = split_at (children_at f q) a k.child in
    let lt : q < length f.slots = in_range f q (used_by f q Q sh) in
    shown_name q (last_or c.us none) (head_or c.vs none) p (sym (runs.ups q a c.us c.vs sh c.is k.is_labelled) ∙ e)
    (not_none f q h (used_by f q Q sh))
