-- Which templates fit, by the numbers of full and of partial children.
use Rattle.std.proofs.Common.{◌≡◌, ◌↔◌, ℕ, ◌+◌, ◌≤◌, ◌<◌, Bool, List, [], ◌∷◌, map, length, Option, Some, None, refl, sym, ap, subst, ◌∙◌, arith}
use Rattle.std.specs.Prelude.{IsTrue, IsFalse}
use Rattle.pq_tree.specs.Outline.{Outline, Forest, no_tree, tree_and}
use Rattle.pq_tree.specs.Proper.{forest, count}
use Rattle.arena_model.specs.declared.Shape.TheVariants.{P}
use Rattle.arena_model.specs.Layout.{Layout, shape_at, children_at}
use Rattle.arena_model.specs.NamedTree.{outline_below}
use Rattle.bubble_pass.specs.Marks.{Marks}
use Rattle.tree_theory.specs.Templates.{Partial, Label, IsSorted, none_sorted, to_full, p2, p3, p4, p5, p6}
use Rattle.template_model.specs.Standing.{child_trees, AreMarkedAs, IsReady}
use Rattle.templates_p.specs.declared.sight.Sight.{Sight}
use Rattle.templates_p.specs.Sorts.{full_nodes, empty_nodes, partial_nodes, IsSeenAs, AllAreFull, AreFullAndEmpty, HasPartials}
use Rattle.templates_p.specs.Fits.{FitsP1, FitsP2, FitsP3, FitsP4, FitsP5, FitsP6}
use Rattle.templates_p.proofs.Sorting.{held, sorted_unique, sort, count_map, held_length, fulls_length, partials_length, all_counted}

-- children that are all full are the full ones
full_is : {ts fs : Forest} {ps : List Label} → IsSorted ts ps no_tree fs [] → fs ≡ ts
full_is none_sorted = refl
full_is (to_full {t = t} s) = ap (tree_and t) (full_is s)

none_of : (o : ℕ → Outline) (xs : List ℕ) → length xs ≡ 0 → forest (map o xs) ≡ no_tree
none_of o [] e = refl
none_of o (x ∷ xs) e = absurd (omega arith)

nothing : {A : Type 0} (xs : List A) → length xs ≡ 0 → xs ≡ []
nothing [] e = refl
nothing (x ∷ xs) e = absurd (omega arith)

some_of : (o : ℕ → Outline) (xs : List ℕ) → 1 ≤ length xs → (t : Outline) × (ts : Forest) × (forest (map o xs) ≡ tree_and t ts)
some_of o [] l = absurd (omega arith)
some_of o (x ∷ xs) l = (o x, forest (map o xs), refl)

single : {A : Type 0} (xs : List A) → length xs ≡ 1 → (x : A) × (xs ≡ x ∷ [])
single [] e = absurd (omega arith)
single (x ∷ []) e = (x, refl)
single (x ∷ y ∷ xs) e = absurd (omega arith)

double : {A : Type 0} (xs : List A) → length xs ≡ 2 → (x : A) × (y : A) × (xs ≡ x ∷ y ∷ [])
double [] e = absurd (omega arith)
double (x ∷ []) e = absurd (omega arith)
double (x ∷ y ∷ []) e = (x, y, refl)
double (x ∷ y ∷ z ∷ xs) e = absurd (omega arith)

-- what is known of the children of a P-node
record Known (f : Layout) (w : Marks) (n : ℕ) (s : Sight) (ps : List Label) : Type 0 where
  shape : shape_at f n ≡ Some P
  sorted : IsSorted (child_trees f n) ps (forest (map (outline_below f) (empty_nodes w (children_at f n)))) (forest (map (outline_below f) (full_nodes w (children_at f n)))) (held ps)
  full : s.full ≡ length (full_nodes w (children_at f n))
  partial : s.partial ≡ length (held ps)
  empty : s.children ≡ s.full + length (empty_nodes w (children_at f n)) + s.partial

known : (f : Layout) (w : Marks) (n : ℕ) (s : Sight) (ps : List Label) → IsReady f w n → IsSeenAs f w n (Some s) → AreMarkedAs f w n ps → Known f w n s ps
known f w n s ps h seen marked =
    let ks : List ℕ = children_at f n in
    let a : s.full ≡ length (full_nodes w ks) = seen.1 ∙ h.right.full ∙ sym (fulls_length w ks) in
    let b : s.partial ≡ length (partial_nodes w ks) = seen.2 ∙ h.right.partial ∙ sym (partials_length w ks) in
    let c : length (held ps) ≡ length (partial_nodes w ks) = held_length w ks ps marked in
    let d : s.children ≡ length ks = seen.3 in
    record {
      shape = seen.0;
      sorted = sort (outline_below f) w ks ps marked;
      full = a;
      partial = b ∙ sym c;
      empty = omega (arith, all_counted w ks);
    }

-- decided by what is known of the children, where the node is seen as a P-node
seen_decided : (f : Layout) (w : Marks) (n : ℕ) (s : Option Sight) (ps : List Label) → IsReady f w n → IsSeenAs f w n s → AreMarkedAs f w n ps →
    (D : Option Sight → Type 0) (F : Type 0) → (D None → ⊥) → (F → shape_at f n ≡ Some P) → ((t : Sight) → Known f w n t ps → D (Some t) ↔ F) → D s ↔ F
seen_decided f w n None ps h seen m D F none is_p by = (λ z. absurd (none z), λ z. absurd (seen (is_p z)))
seen_decided f w n (Some s) ps h seen m D F none is_p by = by s (known f w n s ps h seen m)

pub p1_decided : (f : Layout) (w : Marks) (n : ℕ) (s : Option Sight) (ps : List Label) → IsReady f w n → IsSeenAs f w n s → AreMarkedAs f w n ps →
    AllAreFull s ↔ FitsP1 f n ps
p1_decided f w n s ps h seen m = seen_decided f w n s ps h seen m AllAreFull (FitsP1 f n ps) (λ z. z) (λ z. z.0) (λ s k.
    let ts : Forest = child_trees f n in
    let o : ℕ → Outline = outline_below f in
    let ks : List ℕ = children_at f n in (
      λ z. (
        k.shape,
        let a : length (empty_nodes w ks) ≡ 0 = (let b : s.partial ≡ 0 = z.0 in let c : s.full ≡ s.children = z.1 in omega (arith, k.empty)) in
            let c : held ps ≡ [] = nothing (held ps) (sym k.partial ∙ z.0) in
            let d : IsSorted ts ps no_tree (forest (map o (full_nodes w ks))) [] =
            subst (λ es. IsSorted ts ps es (forest (map o (full_nodes w ks))) []) (none_of o (empty_nodes w ks) a)
            (subst (λ hs. IsSorted ts ps (forest (map o (empty_nodes w ks))) (forest (map o (full_nodes w ks))) hs) c k.sorted) in
            subst (λ fs. IsSorted ts ps no_tree fs []) (full_is d) d,
      ),
      λ z. let u = sorted_unique k.sorted z.1 in (
        k.partial ∙ ap (λ hs. length hs) u.2,
        let a : length (empty_nodes w ks) ≡ 0 = sym (count_map o (empty_nodes w ks)) ∙ ap count u.0 in
            let b : s.partial ≡ 0 = k.partial ∙ ap (λ hs. length hs) u.2 in
            omega (arith, k.empty),
      ),
    ))

-- where a pattern and a place say when a template fits
placed : {Z S T F : Type 0} → (S ↔ T) → (Z → T → F) → (F → Z × T) → (Z × S) ↔ F
placed d made back = (λ x. made x.0 (d.0 x.1), λ y. let b = back y in (b.0, d.1 b.1))

-- full and empty children and no other: the two patterns that say so
pub two_decided : (f : Layout) (w : Marks) (n : ℕ) (s : Option Sight) (ps : List Label) → IsReady f w n → IsSeenAs f w n s → AreMarkedAs f w n ps →
    AreFullAndEmpty s ↔ ((shape_at f n ≡ Some P) × (e : Outline) × (es : Forest) × (t : Outline) × (fs : Forest) × IsSorted (child_trees f n) ps (tree_and e es) (tree_and t fs) [])
two_decided f w n s ps h seen m = seen_decided f w n s ps h seen m AreFullAndEmpty _ (λ z. z) (λ z. z.0) (λ s k.
    let ts : Forest = child_trees f n in
    let o : ℕ → Outline = outline_below f in
    let ks : List ℕ = children_at f n in (
      λ z.
          let a : 1 ≤ length (full_nodes w ks) = (let c : 1 ≤ s.full = z.1 in omega (arith, k.full)) in
          let b : 1 ≤ length (empty_nodes w ks) = (let c : s.full < s.children = z.2 in let d : s.partial ≡ 0 = z.0 in omega (arith, k.empty)) in
          let c : held ps ≡ [] = nothing (held ps) (sym k.partial ∙ z.0) in
          let e = some_of o (empty_nodes w ks) b in
          let t = some_of o (full_nodes w ks) a in (
            k.shape,
            e.0,
            e.1,
            t.0,
            t.1,
            subst (λ x. IsSorted ts ps (tree_and e.0 e.1) x []) t.2 (subst (λ x. IsSorted ts ps x (forest (map o (full_nodes w ks))) []) e.2
                (subst (λ hs. IsSorted ts ps (forest (map o (empty_nodes w ks))) (forest (map o (full_nodes w ks))) hs) c k.sorted)),
          ),
      λ z.
          let u = sorted_unique k.sorted z.5 in
          let a : length (empty_nodes w ks) ≡ count (tree_and z.1 z.2) = sym (count_map o (empty_nodes w ks)) ∙ ap count u.0 in
          let b : length (full_nodes w ks) ≡ count (tree_and z.3 z.4) = sym (count_map o (full_nodes w ks)) ∙ ap count u.1 in
          let c : s.partial ≡ 0 = k.partial ∙ ap (λ hs. length hs) u.2 in
          (c, omega (arith, k.full), omega (arith, k.empty)),
    ))

pub p2_decided : (f : Layout) (w : Marks) (n : ℕ) (root : Bool) (s : Option Sight) (ps : List Label) → IsReady f w n → IsSeenAs f w n s → AreMarkedAs f w n ps →
    (IsTrue root × AreFullAndEmpty s) ↔ FitsP2 f n root ps
p2_decided f w n root s ps h seen m =
    placed (two_decided f w n s ps h seen m) (λ z t. (t.0, (p2 (tree_and t.1 t.2) (tree_and t.3 t.4), record { at = z; e = t.1; es = t.2; f = t.3; fs = t.4; pattern = t.5; becomes = refl }))) (λ y. (y.1.1.at, (y.0, y.1.1.e, y.1.1.es, y.1.1.f, y.1.1.fs, y.1.1.pattern)))

pub p3_decided : (f : Layout) (w : Marks) (n : ℕ) (root : Bool) (s : Option Sight) (ps : List Label) → IsReady f w n → IsSeenAs f w n s → AreMarkedAs f w n ps →
    (IsFalse root × AreFullAndEmpty s) ↔ FitsP3 f n root ps
p3_decided f w n root s ps h seen m =
    placed (two_decided f w n s ps h seen m) (λ z t. (t.0, (p3 (tree_and t.1 t.2) (tree_and t.3 t.4), record { below = z; e = t.1; es = t.2; f = t.3; fs = t.4; pattern = t.5; becomes = refl }))) (λ y. (y.1.1.below, (y.0, y.1.1.e, y.1.1.es, y.1.1.f, y.1.1.fs, y.1.1.pattern)))

-- one partial child
pub one_decided : (f : Layout) (w : Marks) (n : ℕ) (s : Option Sight) (ps : List Label) → IsReady f w n → IsSeenAs f w n s → AreMarkedAs f w n ps →
    HasPartials 1 s ↔ ((shape_at f n ≡ Some P) × (es : Forest) × (x : Partial) × (fs : Forest) × IsSorted (child_trees f n) ps es fs (x ∷ []))
one_decided f w n s ps h seen m = seen_decided f w n s ps h seen m (HasPartials 1) _ (λ z. z) (λ z. z.0) (λ s k.
    let o : ℕ → Outline = outline_below f in
    let ks : List ℕ = children_at f n in (
      λ z. let x = single (held ps) (sym k.partial ∙ z) in (
        k.shape,
        forest (map o (empty_nodes w ks)),
        x.0,
        forest (map o (full_nodes w ks)),
        subst (λ hs. IsSorted (child_trees f n) ps (forest (map o (empty_nodes w ks))) (forest (map o (full_nodes w ks))) hs) x.1 k.sorted,
      ),
      λ z. k.partial ∙ ap (λ hs. length hs) (sorted_unique k.sorted z.4).2,
    ))

pub p4_decided : (f : Layout) (w : Marks) (n : ℕ) (root : Bool) (s : Option Sight) (ps : List Label) → IsReady f w n → IsSeenAs f w n s → AreMarkedAs f w n ps →
    (IsTrue root × HasPartials 1 s) ↔ FitsP4 f n root ps
p4_decided f w n root s ps h seen m =
    placed (one_decided f w n s ps h seen m) (λ z t. (t.0, (p4 t.1 t.2 t.3, record { at = z; es = t.1; h = t.2; fs = t.3; pattern = t.4; becomes = refl }))) (λ y. (y.1.1.at, (y.0, y.1.1.es, y.1.1.h, y.1.1.fs, y.1.1.pattern)))

pub p5_decided : (f : Layout) (w : Marks) (n : ℕ) (root : Bool) (s : Option Sight) (ps : List Label) → IsReady f w n → IsSeenAs f w n s → AreMarkedAs f w n ps →
    (IsFalse root × HasPartials 1 s) ↔ FitsP5 f n root ps
p5_decided f w n root s ps h seen m =
    placed (one_decided f w n s ps h seen m) (λ z t. (t.0, (p5 t.1 t.2 t.3, record { below = z; es = t.1; h = t.2; fs = t.3; pattern = t.4; becomes = refl }))) (λ y. (y.1.1.below, (y.0, y.1.1.es, y.1.1.h, y.1.1.fs, y.1.1.pattern)))

pub p6_decided : (f : Layout) (w : Marks) (n : ℕ) (root : Bool) (s : Option Sight) (ps : List Label) → IsReady f w n → IsSeenAs f w n s → AreMarkedAs f w n ps →
    (IsTrue root × HasPartials 2 s) ↔ FitsP6 f n root ps
p6_decided f w n root s ps h seen m = seen_decided f w n s ps h seen m (λ s. IsTrue root × HasPartials 2 s) (FitsP6 f n root ps) (λ z. z.1) (λ z. z.0) (λ s k.
    let o : ℕ → Outline = outline_below f in
    let ks : List ℕ = children_at f n in
    let es : Forest = forest (map o (empty_nodes w ks)) in
    let fs : Forest = forest (map o (full_nodes w ks)) in (
      λ z. let x = double (held ps) (sym k.partial ∙ z.1) in (
        k.shape,
        (
          p6 es x.0 fs x.1,
          record {
            at = z.0;
            es = es;
            h = x.0;
            fs = fs;
            k = x.1;
            pattern = subst (λ hs. IsSorted (child_trees f n) ps es fs hs) x.2 k.sorted;
            becomes = refl;
          },
        ),
      ),
      λ z. (z.1.1.at, k.partial ∙ ap (λ hs. length hs) (sorted_unique k.sorted z.1.1.pattern).2),
    ))
