-- What is known of the least columns of a Q-node's children, put one by one.
use Rattle.std.proofs.Common.{◌≡◌, ◌≢◌, ◌⊎◌, ◌∙◌, ◌<◌, ◌≤◌, ◌-◌, ℕ, suc, min, List, [], ◌∷◌, ◌++◌, reverse, map, length, get_or, IsFalse, refl, sym, ap, subst, inl, inr, arith}
use Rattle.std.proofs.lemmas.List.{length-reverse, length-append, get_or-reverse, map-append, reverse-append}
use Rattle.std.specs.declared.vec.Vec.{Vec}
use Rattle.std.specs.declared.alloc.Global.{Global}
use Rattle.column_order.specs.Orders.{has}
use Rattle.pq_tree.specs.Outline.{Outline, q_node, leaves, leaves_of}
use Rattle.pq_tree.specs.Proper.{outline_of, forest, count, HaveArities, AreTrees}
use Rattle.pq_tree.specs.Equivalent.{IsEquivalent, AreEquivalent}
use Rattle.pq_tree.specs.Canonical.{least, least_of, leasts, CanonicalIfTree, AreCanonicalIfTrees, EndsRise}
use Rattle.pq_tree.specs.Arranged.{children_in}
use Rattle.pq_tree.specs.declared.Tree.{Tree, Q}
use Rattle.pq_tree.specs.declared.q_children.QChildren.{QChildren}
use Rattle.pq_tree.proofs.Canonical.{not_least, lacks_first, lacks_others, others_lack, all_canonical}
use Rattle.pq_tree.proofs.Forests.{map-reverse, trees-forest, count_forest}
use Rattle.pq_tree.proofs.Shown.{outline_of-Q}
use Rattle.pq_tree.proofs.Turnings.{are_equivalent_refl}

-- one child more
pub children_more : (ts new : List Tree) (t : Tree) → new ≡ ts ++ t ∷ [] → map outline_of new ≡ map outline_of ts ++ outline_of t ∷ []
children_more ts new t e = ap (map outline_of) e ∙ map-append outline_of ts (t ∷ [])

pub canonical_more : (us : List Outline) (u : Outline) → AreCanonicalIfTrees (forest us) → CanonicalIfTree u → AreCanonicalIfTrees (forest (us ++ u ∷ []))
canonical_more [] u h k = (k, tt)
canonical_more (t ∷ us) u h k = (h.0, canonical_more us u h.1 k)

pub first_alone : (us : List Outline) (u : Outline) → length us ≡ 0 → get_or (leasts (forest (us ++ u ∷ []))) 0 0 ≡ least u
first_alone [] u h = refl
first_alone (t ∷ us) u h = absurd (omega (arith, h))

pub first_stays : (us : List Outline) (u : Outline) → 1 ≤ length us → get_or (leasts (forest (us ++ u ∷ []))) 0 0 ≡ get_or (leasts (forest us)) 0 0
first_stays [] u h = absurd (omega arith)
first_stays (t ∷ us) u h = refl

leasts_long : (us : List Outline) → length (leasts (forest us)) ≡ length us
leasts_long [] = refl
leasts_long (u ∷ us) = omega (arith, leasts_long us)

last_at : (us : List Outline) (u : Outline) → get_or (leasts (forest (us ++ u ∷ []))) (length us) 0 ≡ least u
last_at [] u = refl
last_at (t ∷ us) u = last_at us u

pub last_more : (us : List Outline) (u : Outline) → get_or (leasts (forest (us ++ u ∷ []))) (length (leasts (forest (us ++ u ∷ []))) - 1) 0 ≡ least u
last_more us u =
    let n : length (leasts (forest (us ++ u ∷ []))) - 1 ≡ length us = omega (arith, leasts_long (us ++ u ∷ []), length-append us (u ∷ [])) in
    ap (λ i. get_or (leasts (forest (us ++ u ∷ []))) i 0) n ∙ last_at us u

pub least_alone : (us : List Outline) (u : Outline) → length us ≡ 0 → least_of (forest (us ++ u ∷ [])) ≡ least u
least_alone [] u h = refl
least_alone (t ∷ us) u h = absurd (omega (arith, h))

pub least_more : (us : List Outline) (u : Outline) → 1 ≤ length us → least_of (forest (us ++ u ∷ [])) ≡ min (least_of (forest us)) (least u)
least_more [] u h = absurd (omega arith)
least_more (t ∷ []) u h = refl
least_more (t ∷ s ∷ us) u h = omega (arith, least_more (s ∷ us) u (omega arith))

-- the children the other way round
canonical_back : (us : List Outline) → AreCanonicalIfTrees (forest us) → AreCanonicalIfTrees (forest (reverse us))
canonical_back [] h = tt
canonical_back (u ∷ us) h =
    subst (λ vs. AreCanonicalIfTrees (forest vs)) (sym (reverse-append (u ∷ []) us)) (canonical_more (reverse us) u (canonical_back us h.1) h.0)

least_back : (us : List Outline) → least_of (forest (reverse us)) ≡ least_of (forest us)
least_back [] = refl
least_back (u ∷ []) = refl
least_back (t ∷ u ∷ us) =
    ap (λ vs. least_of (forest vs)) (reverse-append (t ∷ []) (u ∷ us)) ∙
    omega (arith, least_more (reverse (u ∷ us)) t (omega (arith, length-reverse (u ∷ us))), least_back (u ∷ us))

leasts_back : (us : List Outline) → leasts (forest (reverse us)) ≡ reverse (leasts (forest us))
leasts_back us = ap (map least) (trees-forest (reverse us)) ∙ map-reverse least us ∙ ap (λ vs. reverse (map least vs)) (sym (trees-forest us))

-- the least columns of the first and the last of two or more trees differ
last_differs : (m : ℕ) (u : Outline) (us : List Outline) → HaveArities (forest (u ∷ us)) → IsFalse (has (leaves_of (forest (u ∷ us))) m) →
    m ≢ get_or (leasts (forest (u ∷ us))) (length us) 0
last_differs m u [] h lacks e = not_least m u h.0 (lacks_first (leaves u) [] m lacks) e
last_differs m u (v ∷ us) h lacks e = last_differs m v us h.1 (lacks_others (leaves u) (leaves_of (forest (v ∷ us))) m lacks) e

ends_apart : (us : List Outline) → 2 ≤ length us → AreTrees (forest us) → get_or (leasts (forest us)) 0 0 ≢ get_or (leasts (forest us)) (length (leasts (forest us)) - 1) 0
ends_apart [] two h e = absurd (omega arith)
ends_apart (u ∷ []) two h e = absurd (omega arith)
ends_apart (u ∷ v ∷ us) two h e =
    let ms = leasts (forest (u ∷ v ∷ us)) in
    let n : length ms - 1 ≡ suc (length us) = omega (arith, leasts_long (u ∷ v ∷ us)) in
    last_differs (least u) v us h.0.1 (others_lack u (forest (v ∷ us)) h) (e ∙ ap (λ i. get_or ms i 0) n)

ends_turned : (ms : List ℕ) → 2 ≤ length ms → get_or ms (length ms - 1) 0 < get_or ms 0 0 → EndsRise (reverse ms)
ends_turned ms two h =
    let n = length ms - 1 in
    let long : length (reverse ms) ≡ length ms = length-reverse ms in
    let zero_end : length ms - 1 - 0 ≡ n = omega arith in
    let last_end : length ms - 1 - n ≡ 0 = omega arith in
    let first : get_or (reverse ms) 0 0 ≡ get_or ms n 0 = get_or-reverse ms 0 0 (omega arith) ∙ ap (λ i. get_or ms i 0) zero_end in
    let last : get_or (reverse ms) n 0 ≡ get_or ms 0 0 = get_or-reverse ms n 0 (omega arith) ∙ ap (λ i. get_or ms i 0) last_end in
    rw (long, first, last) h

canonical_Q : (us : List Outline) → (AreTrees (forest us) → 2 ≤ count (forest us) → EndsRise (leasts (forest us))) → AreCanonicalIfTrees (forest us) → CanonicalIfTree (q_node (forest us))
canonical_Q us e k t = let ts : AreTrees (forest us) = (t.0.1, t.1) in (e ts (omega (arith, t.0.0)), all_canonical (forest us) k ts)

-- What is known of the Q-node u over children us that may have been reversed.
pub record IsTurnedUp (us : List Outline) (u : Outline) : Type 0 where
  pub equivalent : IsEquivalent (q_node (forest us)) u
  pub canonical : CanonicalIfTree u
  pub is_least : least u ≡ least_of (forest us)

each_itself : (us : List Outline) → AreEquivalent (forest us) us
each_itself us = subst (AreEquivalent (forest us)) (trees-forest us) (are_equivalent_refl (forest us))

left_alone : (us : List Outline) (first last : ℕ) → AreCanonicalIfTrees (forest us) → first ≡ get_or (leasts (forest us)) 0 0 →
    last ≡ get_or (leasts (forest us)) (length (leasts (forest us)) - 1) 0 → first ≤ last → IsTurnedUp us (q_node (forest us))
left_alone us first last k f l h =
    record {
      equivalent = (us, each_itself us, inl refl);
      canonical = canonical_Q us (λ ts two. omega (arith, f, l, h, ends_apart us (omega (arith, two, count_forest us)) ts)) k;
      is_least = refl;
    }

turned_over : (us : List Outline) (first last : ℕ) → AreCanonicalIfTrees (forest us) → first ≡ get_or (leasts (forest us)) 0 0 →
    last ≡ get_or (leasts (forest us)) (length (leasts (forest us)) - 1) 0 → last < first → IsTurnedUp us (q_node (forest (reverse us)))
turned_over us first last k f l h =
    record {
      equivalent = (us, each_itself us, inr refl);
      canonical =
          canonical_Q (reverse us)
          (λ ts two. subst EndsRise (sym (leasts_back us)) (ends_turned (leasts (forest us)) (omega (arith, two, count_forest (reverse us), length-reverse us, leasts_long us)) (omega (arith, f, l, h))))
          (canonical_back us k);
      is_least = least_back us;
    }

pub turned_up : (q : QChildren) (v : Vec Tree Global) → ((q.last < q.first) × (v.items ≡ reverse q.trees.items)) ⊎ ((q.first ≤ q.last) × (v.items ≡ q.trees.items)) →
    IsTurnedUp (children_in q) (outline_of (Q v))
turned_up q v h =
    let us = children_in q in
    elim h [
      | inl k ↦
          let e : outline_of (Q v) ≡ q_node (forest (reverse us)) = outline_of-Q v ∙ ap (λ ts. q_node (forest ts)) (ap (map outline_of) k.1 ∙ map-reverse outline_of q.trees.items) in
          subst (IsTurnedUp us) (sym e) (turned_over us q.first q.last q.canonical q.is_first q.is_last k.0)
      | inr k ↦
          let e : outline_of (Q v) ≡ q_node (forest us) = outline_of-Q v ∙ ap (λ ts. q_node (forest (map outline_of ts))) k.1 in
          subst (IsTurnedUp us) (sym e) (left_alone us q.first q.last q.canonical q.is_first q.is_last k.0)
    ]
