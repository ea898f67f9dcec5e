-- The gaps of the children of a node, one child more at a time.
use Rattle.std.proofs.Common.{◌≡◌, ◌∙◌, ℕ, zero, suc, ◌+◌, ◌^◌, ◌<◌, ◌≤◌, List, [], ◌∷◌, ◌++◌, length, length-append, map, take, get_or, Result, Ok, Err, refl, sym, ap, subst, arith, add-one}
use Rattle.std.proofs.lemmas.List.{append_assoc, append-nil, length-map, map_more, take_all}
use Rattle.std.proofs.Math.ListN.{get_or-map}
use Rattle.std.specs.Prelude.{OnOk}
use Rattle.std.specs.declared.vec.Vec.{Vec}
use Rattle.std.specs.declared.alloc.Global.{Global}
use Rattle.pq_tree.specs.Outline.{Outline, p_node, q_node, leaves, leaves_of}
use Rattle.pq_tree.specs.Proper.{outline_of, forest, count, HasArities, HaveArities}
use Rattle.pq_tree.specs.declared.Tree.{Tree, P, Q}
use Rattle.verdict_judge.specs.declared.gaps.LeafGap.{LeafGap}
use Rattle.verdict_judge.specs.declared.gaps.LeafGap.TheVariants.{P as gap_P, Q as gap_Q}
use Rattle.verdict_judge.specs.Gaps.{gaps, gaps_of}
use Rattle.pq_tree.proofs.Forests.{leaves_some, leaves_count}
use Rattle.pq_tree.proofs.Shown.{outline_p, outline_q}

-- the gap before the child of an index
abbrev pub gap_before : ℕ → LeafGap → LeafGap → LeafGap
gap_before zero g s = g
gap_before (suc i) g s = s

front : List Outline → LeafGap → LeafGap → LeafGap
front [] g s = g
front (u ∷ us) g s = s

front_same : (us : List Outline) (s : LeafGap) → front us s s ≡ s
unfolding front
front_same [] s = refl
front_same (u ∷ us) s = refl

gaps_more : (g s : LeafGap) (d : ℕ) (us : List Outline) (u : Outline) → gaps_of g s d (forest (us ++ u ∷ [])) ≡ gaps_of g s d (forest us) ++ gaps (front us g s) d u
unfolding front
gaps_more g s d [] u = append-nil (gaps g d u)
gaps_more g s d (x ∷ us) u =
    ap (λ z. gaps g d x ++ z) (gaps_more s s d us u ∙ ap (λ y. gaps_of s s d (forest us) ++ gaps y d u) (front_same us s)) ∙
    sym (append_assoc (gaps g d x) (gaps_of s s d (forest us)) (gaps s d u))

front_at : (ts : List Tree) (i : ℕ) (g s : LeafGap) → i < length ts → front (map outline_of (take i ts)) g s ≡ gap_before i g s
unfolding front
front_at [] i g s h = absurd (omega (arith, h))
front_at (t ∷ ts) zero g s h = refl
front_at (t ∷ ts) (suc i) g s h = refl

pub push_gaps_step : (old all new : List LeafGap) (g s gap : LeafGap) (d : ℕ) (ts : List Tree) (i : ℕ) (child : Tree) → i < length ts → child ≡ get_or ts i child →
    gap ≡ gap_before i g s → all ≡ old ++ gaps_of g s d (forest (map outline_of (take i ts))) → new ≡ all ++ gaps gap d (outline_of child) →
    new ≡ old ++ gaps_of g s d (forest (map outline_of (take (i + 1) ts)))
push_gaps_step old all new g s gap d ts i child h r b e k =
    let us = map outline_of (take i ts) in
    k ∙ ap (λ z. z ++ gaps gap d (outline_of child)) e ∙ append_assoc old (gaps_of g s d (forest us)) (gaps gap d (outline_of child)) ∙
    ap (λ z. old ++ z)
    (ap (λ y. gaps_of g s d (forest us) ++ gaps y d (outline_of child)) (b ∙ sym (front_at ts i g s h)) ∙
    ap (λ c. gaps_of g s d (forest us) ++ gaps (front us g s) d (outline_of c)) r ∙
    sym (ap (λ x. gaps_of g s d (forest x)) (map_more outline_of ts i child h) ∙ gaps_more g s d us (outline_of (get_or ts i child))))

pub gap_before_next : (i : ℕ) (g s : LeafGap) → s ≡ gap_before (i + 1) g s
gap_before_next i g s = rw (add-one) refl

pub push_gaps_all : (old all : List LeafGap) (g s : LeafGap) (d : ℕ) (ts : List Tree) (i : ℕ) → length ts ≤ i → all ≡ old ++ gaps_of g s d (forest (map outline_of (take i ts))) →
    all ≡ old ++ gaps_of g s d (forest (map outline_of ts))
push_gaps_all old all g s d ts i l e = e ∙ ap (λ x. old ++ gaps_of g s d (forest (map outline_of x))) (take_all i ts l)

count_forest : (us : List Outline) → count (forest us) ≡ length us
count_forest [] = refl
count_forest (u ∷ us) = omega (arith, count_forest us)

one_of : (us : List Outline) (i : ℕ) (d : Outline) → i < length us → HaveArities (forest us) → HasArities (get_or us i d) × (length (leaves (get_or us i d)) + length us ≤ 1 + length (leaves_of (forest us)))
one_of [] i d l h = absurd (omega (arith, l))
one_of (u ∷ us) zero d l h = (h.0, omega (arith, leaves_count (forest us) h.1, count_forest us, length-append (leaves u) (leaves_of (forest us))))
one_of (u ∷ us) (suc i) d l h =
    let r = one_of us i d (omega (arith, l)) h.1 in
    (r.0, omega (arith, r.1, leaves_some u h.0, length-append (leaves u) (leaves_of (forest us))))

pub child_of : (ts : List Tree) (i : ℕ) (child : Tree) (depth : ℕ) → i < length ts → child ≡ get_or ts i child → 2 ≤ length ts → HaveArities (forest (map outline_of ts)) →
    depth + length (leaves_of (forest (map outline_of ts))) ≤ 2 ^ 32 → HasArities (outline_of child) × (depth + length (leaves (outline_of child)) < 2 ^ 32)
child_of ts i child depth l e two h short =
    let n : length (map outline_of ts) ≡ length ts = length-map ts outline_of in
    let r = one_of (map outline_of ts) i (outline_of child) (omega (arith, n, l)) h in
    let same : get_or (map outline_of ts) i (outline_of child) ≡ outline_of child = get_or-map outline_of ts i child ∙ ap outline_of (sym e) in
    let m : length (leaves (get_or (map outline_of ts) i (outline_of child))) ≡ length (leaves (outline_of child)) = ap (λ x. length (leaves x)) same in
    (subst HasArities same r.0, omega (arith, m, n, r.1, two, short))

swapped : (d : ℕ) → d + 1 ≡ 1 + d
swapped d = omega arith

-- a node over its children
count_trees : (ts : List Tree) → count (forest (map outline_of ts)) ≡ length ts
count_trees ts = count_forest (map outline_of ts) ∙ length-map ts outline_of

node_children : (t : Tree) (ts : List Tree) (depth : ℕ) → 2 ≤ count (forest (map outline_of ts)) → HaveArities (forest (map outline_of ts)) → leaves (outline_of t) ≡ leaves_of (forest (map outline_of ts)) →
    depth + length (leaves (outline_of t)) < 2 ^ 32 → (2 ≤ length ts) × (HaveArities (forest (map outline_of ts)) × (depth + 1 + length (leaves_of (forest (map outline_of ts))) ≤ 2 ^ 32))
node_children t ts depth two h e l = (omega (arith, two, count_trees ts), (h, omega (arith, ap length e, l)))

pub node_children_P : (t : Tree) (v : Vec Tree Global) (ts : List Tree) (depth : ℕ) → t ≡ P v → ts ≡ v.items → HasArities (outline_of t) → depth + length (leaves (outline_of t)) < 2 ^ 32 →
    (2 ≤ length ts) × (HaveArities (forest (map outline_of ts)) × (depth + 1 + length (leaves_of (forest (map outline_of ts))) ≤ 2 ^ 32))
node_children_P t v ts depth e s h l =
    let a : HasArities (p_node (forest (map outline_of ts))) = subst HasArities (outline_p t v ts e s) h in
    node_children t ts depth a.0 a.1 (ap leaves (outline_p t v ts e s)) l

pub node_children_Q : (t : Tree) (v : Vec Tree Global) (ts : List Tree) (depth : ℕ) → t ≡ Q v → ts ≡ v.items → HasArities (outline_of t) → depth + length (leaves (outline_of t)) < 2 ^ 32 →
    (2 ≤ length ts) × (HaveArities (forest (map outline_of ts)) × (depth + 1 + length (leaves_of (forest (map outline_of ts))) ≤ 2 ^ 32))
node_children_Q t v ts depth e s h l =
    let a : HasArities (q_node (forest (map outline_of ts))) = subst HasArities (outline_q t v ts e s) h in
    node_children t ts depth (omega (arith, a.0)) a.1 (ap leaves (outline_q t v ts e s)) l

pub depth_of : (t : Tree) (depth : ℕ) → HasArities (outline_of t) → depth + length (leaves (outline_of t)) < 2 ^ 32 → depth + 1 < 2 ^ 32
depth_of t depth h l = omega (arith, l, leaves_some (outline_of t) h)

over : {E : Type 0} (t : Tree) (ts : List Tree) (g s : LeafGap) (d : ℕ) (old new : List LeafGap) (r : Result (Unit {0}) E) → gaps g d (outline_of t) ≡ gaps_of g s (1 + d) (forest (map outline_of ts)) →
    OnOk r (new ≡ old ++ gaps_of g s (d + 1) (forest (map outline_of ts))) → OnOk r (new ≡ old ++ gaps g d (outline_of t))
over t ts g s d old new (Ok u) e h = h ∙ ap (λ n. old ++ gaps_of g s n (forest (map outline_of ts))) (swapped d) ∙ ap (λ x. old ++ x) (sym e)
over t ts g s d old new (Err u) e h = tt

pub over_P : {E : Type 0} (t : Tree) (v : Vec Tree Global) (ts : List Tree) (g : LeafGap) (d : ℕ) (old new : List LeafGap) (r : Result (Unit {0}) E) → t ≡ P v → ts ≡ v.items →
    OnOk r (new ≡ old ++ gaps_of g (gap_P d) (d + 1) (forest (map outline_of ts))) → OnOk r (new ≡ old ++ gaps g d (outline_of t))
over_P t v ts g d old new r e s h = over t ts g (gap_P d) d old new r (ap (gaps g d) (outline_p t v ts e s)) h

pub over_Q : {E : Type 0} (t : Tree) (v : Vec Tree Global) (ts : List Tree) (g : LeafGap) (d : ℕ) (old new : List LeafGap) (r : Result (Unit {0}) E) → t ≡ Q v → ts ≡ v.items →
    OnOk r (new ≡ old ++ gaps_of g (gap_Q d) (d + 1) (forest (map outline_of ts))) → OnOk r (new ≡ old ++ gaps g d (outline_of t))
over_Q t v ts g d old new r e s h = over t ts g (gap_Q d) d old new r (ap (gaps g d) (outline_q t v ts e s)) h
