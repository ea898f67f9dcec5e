-- The ends of runs know each other still when one more child is labelled.
use Rattle.std.proofs.Common.{Bool, List, Option, Some, [], ap, append_assoc, arith, cond, false, inl, inr, refl, subst, sym, true, ℕ, ◌++◌, ◌+◌, ◌∙◌, ◌∷◌, ◌≡◌, ◌≢◌, ◌≤◌}
use Rattle.std.proofs.lemmas.Bool.{cases_eq, cases_lt, cases_Bool}
use Rattle.arena_model.specs.declared.Shape.TheVariants.{P, Q}
use Rattle.pq_arena.specs.declared.node.NodeId.{NodeId}
use Rattle.arena_model.specs.ChildLists.{end_parent, head_or, last_or, none}
use Rattle.pq_arena.specs.Looks.{node_named}
use Rattle.arena_model.specs.Layout.{IsLayout, Layout, children_at, shape_at, times_child}
use Rattle.arena_model.proofs.Lists.{SplitAt, head_or-append, last_or-append, occurs_here, occurs_last, occurs_other, occurs_same, split_at}
use Rattle.arena_model.proofs.Slots.{child_at, children_times}
use Rattle.arena_model.proofs.Paths.{one_parent}
use Rattle.full_pass.specs.Passing.{Runs}
use Rattle.full_pass.proofs.Marks.{OneMore, true_false}
use Rattle.full_pass.proofs.Shapes.{shapes_apart}
use Rattle.full_pass.proofs.Steps.{no_child, stays}
use Rattle.full_pass.proofs.Links.{Prefix, Suffix, one_split, prefix, runs_back, runs_on, suffix}
use Rattle.column_order.specs.Orders.{occurs}
use Rattle.column_order.proofs.Lists.{occurs-append}

-- two ends name each other
pub record Tied (far far' : ℕ → ℕ) (a b : ℕ) : Type 0 where
  pub at_a : far' a ≡ b
  pub at_b : far' b ≡ a
  pub others : (y : ℕ) → y ≢ a → y ≢ b → far' y ≡ far y

pub tied_back : (far far' : ℕ → ℕ) (a b : ℕ) → Tied far far' a b → Tied far far' b a
tied_back far far' a b t = record { at_a = t.at_b; at_b = t.at_a; others = λ y na nb. t.others y nb na }

-- the place of x among the children of q
pub record Spot (f : Layout) (x q : ℕ) (us vs : List ℕ) : Type 0 where
  pub layout : IsLayout f
  pub sh : shape_at f q ≡ Some Q
  pub is : children_at f q ≡ us ++ x ∷ vs

child_once : (f : Layout) (q y : ℕ) → IsLayout f → occurs (children_at f q) y ≤ 1
child_once f q y h = let a : occurs (children_at f q) y ≤ times_child f.slots y = children_times f q y in let b : times_child f.slots y ≤ 1 = h.once y in omega arith

unlabelled : (l l' : ℕ → Bool) (x y : ℕ) → OneMore l l' x → l' y ≡ false → l y ≡ false
unlabelled l l' x y h e = elim (cases_Bool (l y)) [
  | inl t ↦ absurd (true_false (l' y) (stays l l' x y h t) e)
  | inr f ↦ f
]

labelled : (l l' : ℕ → Bool) (x y : ℕ) → OneMore l l' x → y ≢ x → l' y ≡ true → l y ≡ true
labelled l l' x y h ne e = sym (h.others y ne) ∙ e

pub left_is : (f : Layout) (l : ℕ → Bool) (far : ℕ → ℕ) (up : ℕ → Option NodeId) (x q a : ℕ) (us vs rest run : List ℕ) → Spot f x q us vs → Runs f l far up →
    l x ≡ false → us ≡ rest ++ run → ((k : ℕ) → 1 ≤ occurs run k → l k ≡ true) → l (last_or rest none) ≡ false →
    a ≡ cond (l (last_or us none)) (far (last_or us none)) x → a ≡ head_or run x
left_is f l far up x q a us vs rest [] s r lx is inside before e =
    let n : l (last_or us none) ≡ false = ap (λ z. l (last_or z none)) is ∙ ap l (last_or-append rest [] none) ∙ before in
    e ∙ ap (λ b. cond b (far (last_or us none)) x) n
left_is f l far up x q a us vs rest (y ∷ ys) s r lx is inside before e =
    let at : last_or us none ≡ last_or ys y = ap (λ z. last_or z none) is ∙ last_or-append rest (y ∷ ys) none in
    let n : l (last_or us none) ≡ true = ap l at ∙ inside (last_or ys y) (occurs_last ys y) in
    let k : children_at f q ≡ rest ++ ((y ∷ ys) ++ x ∷ vs) = s.is ∙ ap (λ z. z ++ x ∷ vs) is ∙ append_assoc rest (y ∷ ys) (x ∷ vs) in
    e ∙ ap (λ b. cond b (far (last_or us none)) x) n ∙ ap far at ∙ (r.ends q y rest ys (x ∷ vs) s.sh k inside before lx).1

pub right_is : (f : Layout) (l : ℕ → Bool) (far : ℕ → ℕ) (up : ℕ → Option NodeId) (x q b : ℕ) (us vs run rest : List ℕ) → Spot f x q us vs → Runs f l far up →
    l x ≡ false → vs ≡ run ++ rest → ((k : ℕ) → 1 ≤ occurs run k → l k ≡ true) → l (head_or rest none) ≡ false →
    b ≡ cond (l (head_or vs none)) (far (head_or vs none)) x → b ≡ last_or run x
right_is f l far up x q b us vs [] rest s r lx is inside after e =
    let n : l (head_or vs none) ≡ false = ap (λ z. l (head_or z none)) is ∙ after in
    e ∙ ap (λ t. cond t (far (head_or vs none)) x) n
right_is f l far up x q b us vs (y ∷ ys) rest s r lx is inside after e =
    let at : head_or vs none ≡ y = ap (λ z. head_or z none) is in
    let n : l (head_or vs none) ≡ true = ap l at ∙ inside y (occurs_here y ys) in
    let k : children_at f q ≡ (us ++ x ∷ []) ++ ((y ∷ ys) ++ rest) = s.is ∙ ap (λ z. us ++ x ∷ z) is ∙ sym (append_assoc us (x ∷ []) ((y ∷ ys) ++ rest)) in
    let before : l (last_or (us ++ x ∷ []) none) ≡ false = ap l (last_or-append us (x ∷ []) none) ∙ lx in
    e ∙ ap (λ t. cond t (far (head_or vs none)) x) n ∙ ap far at ∙ (r.ends q y (us ++ x ∷ []) ys rest s.sh k inside before after).0

-- a run that holds the left end of the run of x holds x
touch_left : (f : Layout) (l' : ℕ → Bool) (x q : ℕ) (us vs rest run : List ℕ) → Spot f x q us vs → us ≡ rest ++ run →
    ((k : ℕ) → 1 ≤ occurs run k → l' k ≡ true) → l' x ≡ true → (us' rs vs' : List ℕ) → children_at f q ≡ us' ++ (rs ++ vs') → l' (head_or vs' none) ≡ false →
    1 ≤ occurs rs (head_or run x) → 1 ≤ occurs rs x
touch_left f l' x q us vs rest [] s is inside lx us' rs vs' k stop o = o
touch_left f l' x q us vs rest (a ∷ ps) s is inside lx us' rs vs' k stop o =
    let p : SplitAt rs a = split_at rs a o in
    let k1 : children_at f q ≡ (us' ++ p.us) ++ a ∷ (p.vs ++ vs') =
    k ∙ ap (λ z. us' ++ (z ++ vs')) p.is ∙ ap (λ z. us' ++ z) (append_assoc p.us (a ∷ p.vs) vs') ∙ sym (append_assoc us' p.us (a ∷ (p.vs ++ vs'))) in
    let k2 : children_at f q ≡ rest ++ a ∷ (ps ++ x ∷ vs) = s.is ∙ ap (λ z. z ++ x ∷ vs) is ∙ append_assoc rest (a ∷ ps) (x ∷ vs) in
    let c = one_split a (us' ++ p.us) rest (p.vs ++ vs') (ps ++ x ∷ vs) (sym k1 ∙ k2) (subst (λ z. occurs z a ≤ 1) k1 (child_once f q a s.layout)) in
    let i : 1 ≤ occurs p.vs x = runs_on l' x p.vs vs' ps vs c.1 (λ y oy. inside y (omega arith)) lx stop in
    let e : occurs rs x ≡ occurs (p.us ++ a ∷ p.vs) x = ap (λ z. occurs z x) p.is in
    omega (arith, occurs-append p.us (a ∷ p.vs) x)

touch_right : (f : Layout) (l' : ℕ → Bool) (x q : ℕ) (us vs run rest : List ℕ) → Spot f x q us vs → vs ≡ run ++ rest →
    ((k : ℕ) → 1 ≤ occurs run k → l' k ≡ true) → l' x ≡ true → (us' rs vs' : List ℕ) → children_at f q ≡ us' ++ (rs ++ vs') → l' (last_or us' none) ≡ false →
    1 ≤ occurs rs (last_or run x) → 1 ≤ occurs rs x
touch_right f l' x q us vs [] rest s is inside lx us' rs vs' k stop o = o
touch_right f l' x q us vs (t ∷ ts) rest s is inside lx us' rs vs' k stop o =
    let b : ℕ = last_or ts t in
    let p : SplitAt rs b = split_at rs b o in
    let w : SplitAt (t ∷ ts) b = split_at (t ∷ ts) b (occurs_last ts t) in
    let k1 : children_at f q ≡ (us' ++ p.us) ++ b ∷ (p.vs ++ vs') =
    k ∙ ap (λ z. us' ++ (z ++ vs')) p.is ∙ ap (λ z. us' ++ z) (append_assoc p.us (b ∷ p.vs) vs') ∙ sym (append_assoc us' p.us (b ∷ (p.vs ++ vs'))) in
    let k2 : children_at f q ≡ (us ++ x ∷ w.us) ++ b ∷ (w.vs ++ rest) =
    s.is ∙ ap (λ z. us ++ x ∷ z) (is ∙ ap (λ z. z ++ rest) w.is ∙ append_assoc w.us (b ∷ w.vs) rest) ∙ sym (append_assoc us (x ∷ w.us) (b ∷ (w.vs ++ rest))) in
    let c = one_split b (us' ++ p.us) (us ++ x ∷ w.us) (p.vs ++ vs') (w.vs ++ rest) (sym k1 ∙ k2) (subst (λ z. occurs z b ≤ 1) k1 (child_once f q b s.layout)) in
    let inside' : (y : ℕ) → 1 ≤ occurs (x ∷ w.us) y → l' y ≡ true = (λ y oy. elim (cases_eq y x) [
      | inl e ↦ subst (λ z. l' z ≡ true) (sym e) lx
      | inr ne ↦ inside y (let a : 1 ≤ occurs w.us y = subst (λ z. 1 ≤ z) (occurs_other x y w.us ne) oy in
          let e : occurs (t ∷ ts) y ≡ occurs (w.us ++ b ∷ w.vs) y = ap (λ z. occurs z y) w.is in
          let d : occurs (w.us ++ b ∷ w.vs) y ≡ occurs w.us y + occurs (b ∷ w.vs) y = occurs-append w.us (b ∷ w.vs) y in omega arith)
    ]) in
    let i : 1 ≤ occurs p.us x = runs_back l' x us' p.us us w.us c.0 inside' stop in
    let e : occurs rs x ≡ occurs (p.us ++ b ∷ p.vs) x = ap (λ z. occurs z x) p.is in
    omega (arith, occurs-append p.us (b ∷ p.vs) x)

-- the runs of another node, and those of this one without x, stay
old_ends : (f : Layout) (l l' : ℕ → Bool) (far far' : ℕ → ℕ) (up : ℕ → Option NodeId) (x q r a b : ℕ) (us rs vs : List ℕ) → Runs f l far up → OneMore l l' x →
    Tied far far' a b → shape_at f q ≡ Some Q → children_at f q ≡ us ++ ((r ∷ rs) ++ vs) → ((k : ℕ) → 1 ≤ occurs (r ∷ rs) k → l' k ≡ true) →
    l' (last_or us none) ≡ false → l' (head_or vs none) ≡ false → occurs (r ∷ rs) x ≡ 0 →
    ((y : ℕ) → 1 ≤ occurs (r ∷ rs) y → (y ≢ a) × (y ≢ b)) → (far' r ≡ last_or rs r) × (far' (last_or rs r) ≡ r)
old_ends f l l' far far' up x q r a b us rs vs runs more tied sh is inside before after no_x off =
    let e = runs.ends q r us rs vs sh is (λ k o. labelled l l' x k more (λ q. let i : 1 ≤ occurs (r ∷ rs) x = subst (λ z. 1 ≤ occurs (r ∷ rs) z) q o in omega arith) (inside k o))
    (unlabelled l l' x (last_or us none) more before) (unlabelled l l' x (head_or vs none) more after) in
    let o1 = off r (occurs_here r rs) in
    let o2 = off (last_or rs r) (occurs_last rs r) in
    (tied.others r o1.0 o1.1 ∙ e.0, tied.others (last_or rs r) o2.0 o2.1 ∙ e.1)

pub runs_linked : (f : Layout) (l l' : ℕ → Bool) (far far' : ℕ → ℕ) (up up' : ℕ → Option NodeId) (x q a b : ℕ) (us vs : List ℕ) → Spot f x q us vs →
    OneMore l l' x → l none ≡ false → Runs f l far up →
    a ≡ cond (l (last_or us none)) (far (last_or us none)) x → b ≡ cond (l (head_or vs none)) (far (head_or vs none)) x → Tied far far' a b →
    ((y : ℕ) → y ≢ x → up' y ≡ up y) →
    ((m : ℕ) (ps ws : List ℕ) → shape_at f m ≡ Some Q → children_at f m ≡ ps ++ x ∷ ws → up' x ≡ node_named (end_parent m (last_or ps none) (head_or ws none))) →
    Runs f l' far' up'
runs_linked f l l' far far' up up' x q a b us vs s more ln runs ea eb tied ups up_x =
    let S : Suffix l us = suffix l us ln in
    let T : Prefix l vs = prefix l vs ln in
    let is_a : a ≡ head_or S.run x = left_is f l far up x q a us vs S.rest S.run s runs more.before S.is S.inside S.before ea in
    let is_b : b ≡ last_or T.run x = right_is f l far up x q b us vs T.run T.rest s runs more.before T.is T.inside T.after eb in
    let kid_x : 1 ≤ occurs (children_at f q) x = child_at f q x us vs s.is in
    let kid_a : 1 ≤ occurs (children_at f q) a = subst (λ z. 1 ≤ occurs (children_at f q) z) (sym is_a) (left_in S.rest S.run S.is) in
    let kid_b : 1 ≤ occurs (children_at f q) b = subst (λ z. 1 ≤ occurs (children_at f q) z) (sym is_b) (right_in T.run T.rest T.is) in
    record {
      ends = λ m r ps rs ws sh is inside before after. elim (cases_eq m q) [
        | inr ne ↦
            let far_kid : (y : ℕ) → 1 ≤ occurs (r ∷ rs) y → 1 ≤ occurs (children_at f m) y = (λ y o. subst (λ z. 1 ≤ occurs z y) (sym is)
            (let e1 : occurs (ps ++ ((r ∷ rs) ++ ws)) y ≡ occurs ps y + occurs ((r ∷ rs) ++ ws) y = occurs-append ps ((r ∷ rs) ++ ws) y in
            let e2 : occurs ((r ∷ rs) ++ ws) y ≡ occurs (r ∷ rs) y + occurs ws y = occurs-append (r ∷ rs) ws y in omega arith)) in
            let off : (y z : ℕ) → 1 ≤ occurs (r ∷ rs) y → 1 ≤ occurs (children_at f q) z → y ≢ z = (λ y z o oz e.
            ne (one_parent f m q z s.layout (subst (λ w. 1 ≤ occurs (children_at f m) w) e (far_kid y o)) oz)) in
            old_ends f l l' far far' up x m r a b ps rs ws runs more tied sh is inside before after
            (elim (cases_lt 0 (occurs (r ∷ rs) x)) [ inl o ↦ absurd (off x x o kid_x refl) | inr o ↦ let z : occurs (r ∷ rs) x ≡ 0 = omega arith in z ])
            (λ y o. (off y a o kid_a, off y b o kid_b))
        | inl eq ↦
            let is' : children_at f q ≡ ps ++ ((r ∷ rs) ++ ws) = subst (λ z. children_at f z ≡ ps ++ ((r ∷ rs) ++ ws)) eq is in
            elim (cases_lt 0 (occurs (r ∷ rs) x)) [
              | inl o ↦
                  let p : SplitAt (r ∷ rs) x = split_at (r ∷ rs) x o in
                  let k1 : children_at f q ≡ (ps ++ p.us) ++ x ∷ (p.vs ++ ws) =
                  is' ∙ ap (λ z. ps ++ (z ++ ws)) p.is ∙ ap (λ z. ps ++ z) (append_assoc p.us (x ∷ p.vs) ws) ∙ sym (append_assoc ps p.us (x ∷ (p.vs ++ ws))) in
                  let c = one_split x us (ps ++ p.us) vs (p.vs ++ ws) (sym s.is ∙ k1) (subst (λ z. occurs z x ≤ 1) s.is (child_once f q x s.layout)) in
                  let split : (y : ℕ) → occurs (r ∷ rs) y ≡ occurs p.us y + occurs (x ∷ p.vs) y = (λ y. ap (λ z. occurs z y) p.is ∙ occurs-append p.us (x ∷ p.vs) y) in
                  let one : occurs (r ∷ rs) x ≤ 1 = let k : occurs (children_at f q) x ≤ 1 = child_once f q x s.layout in
                  let e0 : occurs (children_at f q) x ≡ occurs (ps ++ ((r ∷ rs) ++ ws)) x = ap (λ z. occurs z x) is' in
                  let e1 : occurs (ps ++ ((r ∷ rs) ++ ws)) x ≡ occurs ps x + occurs ((r ∷ rs) ++ ws) x = occurs-append ps ((r ∷ rs) ++ ws) x in
                  let e2 : occurs ((r ∷ rs) ++ ws) x ≡ occurs (r ∷ rs) x + occurs ws x = occurs-append (r ∷ rs) ws x in omega arith in
                  let sx : occurs (r ∷ rs) x ≡ occurs p.us x + occurs (x ∷ p.vs) x = split x in
                  let same_x : occurs (x ∷ p.vs) x ≡ 1 + occurs p.vs x = occurs_same x p.vs in
                  let in_l : (y : ℕ) → 1 ≤ occurs p.us y → l y ≡ true = (λ y oy. labelled l l' x y more
                  (λ e. let i : 1 ≤ occurs p.us x = subst (λ z. 1 ≤ occurs p.us z) e oy in omega arith)
                  (inside y (let sy : occurs (r ∷ rs) y ≡ occurs p.us y + occurs (x ∷ p.vs) y = split y in omega arith))) in
                  let in_r : (y : ℕ) → 1 ≤ occurs p.vs y → l y ≡ true = (λ y oy. labelled l l' x y more
                  (λ e. let i : 1 ≤ occurs p.vs x = subst (λ z. 1 ≤ occurs p.vs z) e oy in omega arith)
                  (inside y (let sy : occurs (r ∷ rs) y ≡ occurs p.us y + occurs (x ∷ p.vs) y = split y in
                  let m : occurs p.vs y ≤ occurs (x ∷ p.vs) y = omega arith in omega arith))) in
                  let la : a ≡ head_or p.us x = left_is f l far up x q a us vs ps p.us s runs more.before c.0 in_l (unlabelled l l' x (last_or ps none) more before) ea in
                  let lb : b ≡ last_or p.vs x = right_is f l far up x q b us vs p.vs ws s runs more.before c.1 in_r (unlabelled l l' x (head_or ws none) more after) eb in
                  let ra : r ≡ a = ap (λ z. head_or z 0) p.is ∙ head_or-append p.us (x ∷ p.vs) 0 ∙ sym la in
                  let rb : last_or rs r ≡ b = ap (λ z. last_or z 0) p.is ∙ last_or-append p.us (x ∷ p.vs) 0 ∙ sym lb in
                  (ap far' ra ∙ tied.at_a ∙ sym rb, ap far' rb ∙ tied.at_b ∙ sym ra)
              | inr nx ↦
                  let zero_x : occurs (r ∷ rs) x ≡ 0 = omega arith in
                  old_ends f l l' far far' up x q r a b ps rs ws runs more tied s.sh is' inside before after zero_x
                  (λ y o. (
                    λ e. let i : 1 ≤ occurs (r ∷ rs) x = touch_left f l' x q us vs S.rest S.run s S.is (λ k ok. stays l l' x k more (S.inside k ok)) more.after
                        ps (r ∷ rs) ws is' after (subst (λ z. 1 ≤ occurs (r ∷ rs) z) (e ∙ is_a) o) in omega arith,
                    λ e. let i : 1 ≤ occurs (r ∷ rs) x = touch_right f l' x q us vs T.run T.rest s T.is (λ k ok. stays l l' x k more (T.inside k ok)) more.after
                        ps (r ∷ rs) ws is' before (subst (λ z. 1 ≤ occurs (r ∷ rs) z) (e ∙ is_b) o) in omega arith,
                  ))
            ]
      ];
      ups = λ m y ps ws sh is t. elim (cases_eq y x) [
        | inl e ↦ ap up' e ∙ up_x m ps ws sh (subst (λ z. children_at f m ≡ ps ++ z ∷ ws) e is)
        | inr ne ↦ ups y ne ∙ runs.ups m y ps ws sh is (labelled l l' x y more ne t)
      ];
    }
  where
    left_in : (rest run : List ℕ) → us ≡ rest ++ run → 1 ≤ occurs (children_at f q) (head_or run x)
    left_in rest [] e = child_at f q x us vs s.is
    left_in rest (y ∷ ys) e = subst (λ z. 1 ≤ occurs z y) (sym (s.is ∙ ap (λ z. z ++ x ∷ vs) e))
        (omega (arith, occurs-append (rest ++ y ∷ ys) (x ∷ vs) y, occurs-append rest (y ∷ ys) y, occurs_here y ys))

    right_in : (run rest : List ℕ) → vs ≡ run ++ rest → 1 ≤ occurs (children_at f q) (last_or run x)
    right_in [] rest e = child_at f q x us vs s.is
    right_in (y ∷ ys) rest e = subst (λ z. 1 ≤ occurs z (last_or ys y)) (sym (s.is ∙ ap (λ z. us ++ x ∷ z) e))
        (omega (arith, occurs-append us (x ∷ ((y ∷ ys) ++ rest)) (last_or ys y), occurs-append (y ∷ ys) rest (last_or ys y), occurs_last ys y))

-- a child of a P-node is labelled: no run of a Q-node changes
pub runs_apart : (f : Layout) (l l' : ℕ → Bool) (far far' : ℕ → ℕ) (up up' : ℕ → Option NodeId) (x p : ℕ) → IsLayout f → shape_at f p ≡ Some P → 1 ≤ occurs (children_at f p) x →
    OneMore l l' x → Runs f l far up → ((y : ℕ) → far' y ≡ far y) → ((y : ℕ) → y ≢ x → up' y ≡ up y) → Runs f l' far' up'
runs_apart f l l' far far' up up' x p h sp o more runs fars ups = record {
  ends = λ m r ps rs ws sh is inside before after.
      let off_x : occurs (children_at f m) x ≡ 0 = off m sh in
      let part : (y : ℕ) → occurs (children_at f m) y ≡ occurs ps y + (occurs (r ∷ rs) y + occurs ws y) = (λ y. ap (λ z. occurs z y) is ∙ occurs-append ps ((r ∷ rs) ++ ws) y
      ∙ ap (λ z. occurs ps y + z) (occurs-append (r ∷ rs) ws y)) in
      let px : occurs (children_at f m) x ≡ occurs ps x + (occurs (r ∷ rs) x + occurs ws x) = part x in
      let e = runs.ends m r ps rs ws sh is
      (λ k ok. labelled l l' x k more (λ q. let i : 1 ≤ occurs (r ∷ rs) x = subst (λ z. 1 ≤ occurs (r ∷ rs) z) q ok in omega arith) (inside k ok))
      (unlabelled l l' x (last_or ps none) more before) (unlabelled l l' x (head_or ws none) more after) in
      (fars r ∙ e.0, fars (last_or rs r) ∙ e.1);
  ups = λ m y ps ws sh is t.
      let off_x : occurs (children_at f m) x ≡ 0 = off m sh in
      let ne : y ≢ x = (λ q. let i : 1 ≤ occurs (children_at f m) x = subst (λ z. 1 ≤ occurs z x) (sym is) (subst (λ z. 1 ≤ occurs (ps ++ y ∷ ws) z) q
      (omega (arith, occurs-append ps (y ∷ ws) y, occurs_here y ws))) in omega arith) in
      ups y ne ∙ runs.ups m y ps ws sh is (labelled l l' x y more ne t);
}
  where
    off : (m : ℕ) → shape_at f m ≡ Some Q → occurs (children_at f m) x ≡ 0
    off m sh = no_child f p m x h o (λ e. shapes_apart f p m sp sh (sym e))
