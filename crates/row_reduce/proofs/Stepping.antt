-- One template more is applied.
use Rattle.std.proofs.Common.{◌≡◌, ◌≢◌, ◌⊎◌, inl, inr, ℕ, zero, suc, ◌≤◌, ◌<◌, cond, List, [], ◌∷◌, ◌++◌, map, length, reverse, get_or, refl, sym, ap, subst, ◌∙◌, arith, eq-eqb}
use Rattle.std.proofs.lemmas.Bool.{cases_eq, cases_lt, ne_eqb}
use Rattle.column_order.specs.Orders.{occurs}
use Rattle.column_order.proofs.Lists.{occurs-append}
use Rattle.pq_tree.specs.Forests.{forest}
use Rattle.pq_tree.specs.Outline.{tree_and}
use Rattle.tree_theory.specs.Templates.{Partial}
use Rattle.arena_model.specs.ChildLists.{with_replaced}
use Rattle.arena_model.specs.Layout.{Layout, children_at, IsLayout, IsAtOrAbove, here, down}
use Rattle.arena_model.specs.NamedTree.{outline_below}
use Rattle.arena_model.proofs.Lists.{occurs_here, occurs_other, reverse_cons}
use Rattle.arena_model.proofs.Paths.{above_ends, one_parent, at_once, by}
use Rattle.bubble_pass.specs.Marks.{Marks}
use Rattle.template_model.specs.Standing.{IsShapeAt}
use Rattle.template_model.specs.Treated.{IsOutside, IsTreated}
use Rattle.template_model.proofs.Replaced.{IsApart, apart_below, tree_same, slot_same, below_was}
use Rattle.arena_model.proofs.Slots.{child_used}
use Rattle.row_reduce.specs.Applying.{IsStanding, IsAnswered, placed, AreApplied}

-- the nodes es are the nodes ds and n
pub record IsNext (ds : List ℕ) (n : ℕ) (es : List ℕ) : Type 0 where
  pub new : 1 ≤ occurs es n
  pub old : (x : ℕ) → 1 ≤ occurs ds x → 1 ≤ occurs es x
  pub only : (x : ℕ) → 1 ≤ occurs es x → (x ≡ n) ⊎ (1 ≤ occurs ds x)

-- the template at n has been applied too, and a is its answer
pub record Stepping (f g h : Layout) (v w u : Marks) (row ds es : List ℕ) (place : ℕ → ℕ) (n a : ℕ) : Type 0 where
  pub f_layout : IsLayout f
  pub g_layout : IsLayout g
  pub h_layout : IsLayout h
  pub before : AreApplied f v row ds place g w
  pub standing : IsStanding f ds n
  pub inner : f.root ≢ n
  pub treated : IsTreated g h w u n a
  pub next : IsNext ds n es
  pub answered : IsAnswered f v row h u n a

pub placed_here : (place : ℕ → ℕ) (n a : ℕ) → placed place n a n ≡ a
placed_here place n a = ap (λ b. cond b a (place n)) (eq-eqb n n refl)

placed_other : (place : ℕ → ℕ) (n a k : ℕ) → k ≢ n → placed place n a k ≡ place k
placed_other place n a k ne = ap (λ b. cond b a (place k)) (ne_eqb k n ne)

pub map_has : (place : ℕ → ℕ) (ks : List ℕ) (k : ℕ) → 1 ≤ occurs ks k → 1 ≤ occurs (map place ks) (place k)
map_has place [] k o = absurd (omega arith)
map_has place (j ∷ ks) k o = elim (cases_eq k j) [
  | inl e ↦ subst (λ z. 1 ≤ occurs (place z ∷ map place ks) (place k)) e (occurs_here (place k) (map place ks))
  | inr ne ↦ let r : 1 ≤ occurs (map place ks) (place k) = map_has place ks k (subst (λ z. 1 ≤ z) (occurs_other j k ks ne) o) in omega arith
]

pub map_of : (place : ℕ → ℕ) (ks : List ℕ) (x : ℕ) → 1 ≤ occurs (map place ks) x → (k : ℕ) × (1 ≤ occurs ks k) × (x ≡ place k)
map_of place [] x o = absurd (omega arith)
map_of place (j ∷ ks) x o = elim (cases_eq x (place j)) [
  | inl e ↦ (j, occurs_here j ks, e)
  | inr ne ↦ let r = map_of place ks x (subst (λ z. 1 ≤ z) (occurs_other (place j) x (map place ks) ne) o) in
      let l : 1 ≤ occurs ks r.0 = r.1 in (r.0, omega arith, r.2)
]

replaced_map : (place : ℕ → ℕ) (n a : ℕ) → place n ≡ n → (ks : List ℕ) → ((k : ℕ) → 1 ≤ occurs ks k → k ≢ n → place k ≢ n) →
    with_replaced (map place ks) n a ≡ map (placed place n a) ks
replaced_map place n a pn [] ne = refl
replaced_map place n a pn (k ∷ ks) ne =
    let rest : with_replaced (map place ks) n a ≡ map (placed place n a) ks = replaced_map place n a pn ks (λ x o. ne x (omega arith)) in
    elim (cases_eq k n) [
      | inl e ↦ ap (λ b. cond b a (place k) ∷ with_replaced (map place ks) n a) (eq-eqb (place k) n (ap place e ∙ pn))
          ∙ ap (λ z. a ∷ z) rest ∙ ap (λ z. z ∷ map (placed place n a) ks) (sym (ap (placed place n a) e ∙ placed_here place n a))
      | inr nq ↦ ap (λ b. cond b a (place k) ∷ with_replaced (map place ks) n a) (ne_eqb (place k) n (ne k (occurs_here k ks) nq))
          ∙ ap (λ z. place k ∷ z) rest ∙ ap (λ z. z ∷ map (placed place n a) ks) (sym (placed_other place n a k nq))
    ]

occurs_get : (xs : List ℕ) (i d : ℕ) → i < length xs → 1 ≤ occurs xs (get_or xs i d)
occurs_get [] i d l = absurd (omega arith)
occurs_get (x ∷ xs) zero d l = occurs_here x xs
occurs_get (x ∷ xs) (suc i) d l = let r : 1 ≤ occurs xs (get_or xs i d) = occurs_get xs i d (omega arith) in omega arith

forest_same : (F G : ℕ → _) (ks : List ℕ) → ((k : ℕ) → 1 ≤ occurs ks k → F k ≡ G k) → forest (map F ks) ≡ forest (map G ks)
forest_same F G [] e = refl
forest_same F G (k ∷ ks) e = ap (λ z. tree_and z (forest (map F ks))) (e k (occurs_here k ks)) ∙ ap (tree_and (G k)) (forest_same F G ks (λ x o. e x (omega arith)))

pub occurs_back : (xs : List ℕ) (x : ℕ) → occurs (reverse xs) x ≡ occurs xs x
occurs_back [] x = refl
occurs_back (y ∷ ys) x = ap (λ z. occurs z x) (reverse_cons y ys) ∙ omega (arith, occurs-append (reverse ys) (y ∷ []) x, occurs_back ys x)

-- what stands still stood before
earlier : {f g h : Layout} {v w u : Marks} {row ds es : List ℕ} {place : ℕ → ℕ} {n a : ℕ} (s : Stepping f g h v w u row ds es place n a) (x : ℕ) → IsStanding f es x → IsStanding f ds x
earlier s x i = record { used = i.used; clear = λ y o l. i.clear y (s.next.old y o) l }

-- and is an outer node
outer : {f g h : Layout} {v w u : Marks} {row ds es : List ℕ} {place : ℕ → ℕ} {n a : ℕ} (s : Stepping f g h v w u row ds es place n a) (x : ℕ) → IsStanding f es x → IsOutside g n x
outer {n = n} s x i = (
  (λ e. i.used (sym (s.before.shapes x (earlier s x i)) ∙ e)),
  λ l. i.clear n s.next.new (s.before.paths x n (earlier s x i) s.standing l),
)

-- n has its own place
own : {f g h : Layout} {v w u : Marks} {row ds es : List ℕ} {place : ℕ → ℕ} {n a : ℕ} (s : Stepping f g h v w u row ds es place n a) → occurs ds n ≡ 0
own {ds = ds} {n = n} s = elim (cases_lt 0 (occurs ds n)) [ inl l ↦ absurd (s.standing.clear n l (here n)) | inr l ↦ omega arith ]

elsewhere : {f g h : Layout} {v w u : Marks} {row ds es : List ℕ} {place : ℕ → ℕ} {n a : ℕ} (s : Stepping f g h v w u row ds es place n a)
    (p k : ℕ) → IsStanding f ds p → 1 ≤ occurs (children_at f p) k → k ≢ n → place k ≢ n
elsewhere {g = g} {ds = ds} {place = place} {n = n} s p k ip o ne e = elim (cases_lt 0 (occurs ds k)) [
  | inl l ↦ s.before.apart n p k s.standing ip o l (subst (λ z. IsAtOrAbove g.slots z n) (sym e) (here n))
  | inr l ↦ ne (sym (s.before.fixed k (omega arith)) ∙ e)
]

children_now : {f g h : Layout} {v w u : Marks} {row ds es : List ℕ} {place : ℕ → ℕ} {n a : ℕ} (s : Stepping f g h v w u row ds es place n a)
    (x : ℕ) → IsStanding f es x → children_at h x ≡ map (placed place n a) (children_at f x)
children_now {f = f} {place = place} {n = n} {a = a} s x i =
    (s.treated.arena.outside x (outer s x i)).1
    ∙ ap (λ z. with_replaced z n a) (s.before.children x (earlier s x i))
    ∙ replaced_map place n a (s.before.fixed n (own s)) (children_at f x) (λ k o ne. elsewhere s x k (earlier s x i) o ne)

-- what stands in the place of a node that was done before is apart from n
apart_place : {f g h : Layout} {v w u : Marks} {row ds es : List ℕ} {place : ℕ → ℕ} {n a : ℕ} (s : Stepping f g h v w u row ds es place n a)
    (p k : ℕ) → IsStanding f es p → 1 ≤ occurs (children_at f p) k → 1 ≤ occurs ds k → k ≢ n → IsApart g n (place k)
apart_place {f = f} {g = g} {place = place} {n = n} s p k ip o od ne =
    let jp : IsStanding f _ p = earlier s p ip in
    record {
      outside = (
        (s.before.answers p k jp o od).used,
        λ l. elim (above_ends g.slots n (place k) l) [
          | at_once e ↦ elsewhere s p k jp o ne (sym e)
          | by m lm om ↦
              let op : 1 ≤ occurs (children_at g p) (place k) = subst (λ z. 1 ≤ occurs z (place k)) (sym (s.before.children p jp)) (map_has place (children_at f p) k o) in
              (outer s p ip).1 (subst (λ z. IsAtOrAbove g.slots n z) (one_parent g m p (place k) s.g_layout om op) lm)
        ],
      );
      not_above = λ l. s.before.apart n p k s.standing jp o od l;
    }

-- an answer that is apart from n stays
answer_stays : {f g h : Layout} {v w u : Marks} {row ds es : List ℕ} {place : ℕ → ℕ} {n a : ℕ} (s : Stepping f g h v w u row ds es place n a)
    (k b : ℕ) → IsApart g n b → IsAnswered f v row g w k b → IsAnswered f v row h u k b
answer_stays {f = f} {g = g} {h = h} {w = w} {u = u} {n = n} {a = a} s k b p r =
    let out = s.treated.arena.outside b p.outside in
    record {
      used = λ e. r.used (sym out.0 ∙ e);
      kept = s.treated.marks.outside b p.outside ∙ r.kept;
      label = r.label;
      is = r.is;
      marked = r.marked;
      shape = λ e is. shape_stays e (r.shape e is);
      same = λ e. tree_same g h n a b s.g_layout s.h_layout s.treated.arena p ∙ r.same e;
    }
  where
    no_child : occurs (children_at g b) n ≡ 0
    no_child = elim (cases_lt 0 (occurs (children_at g b) n)) [
      | inl l ↦ absurd (p.not_above (down b n n l (here n)))
      | inr l ↦ omega arith
    ]

    children_same : children_at h b ≡ children_at g b
    children_same = ap (λ c. c.children) (slot_same g h n a b s.treated.arena p.outside no_child)

    below : (x : ℕ) → 1 ≤ occurs (children_at g b) x → IsApart g n x
    below x o = apart_below g n b x s.g_layout p (down b x x o (here x))

    among : (es fs : List ℕ) (x : ℕ) → (children_at g b ≡ es ++ fs) ⊎ (children_at g b ≡ reverse (es ++ fs)) → 1 ≤ occurs (es ++ fs) x → 1 ≤ occurs (children_at g b) x
    among es fs x (inl e) o = subst (λ z. 1 ≤ occurs z x) (sym e) o
    among es fs x (inr e) o = subst (λ z. 1 ≤ occurs z x) (sym e) (subst (λ z. 1 ≤ z) (sym (occurs_back (es ++ fs) x)) o)

    shape_stays : (e : Partial) → IsShapeAt g w b e → IsShapeAt h u b e
    shape_stays e i =
        let in_es : (x : ℕ) → 1 ≤ occurs i.es x → IsApart g n x = (λ x o. below x (among i.es i.fs x i.children (omega (arith, occurs-append i.es i.fs x)))) in
        let in_fs : (x : ℕ) → 1 ≤ occurs i.fs x → IsApart g n x = (λ x o. below x (among i.es i.fs x i.children (omega (arith, occurs-append i.es i.fs x)))) in
        record {
          es = i.es;
          fs = i.fs;
          is_q = (s.treated.arena.outside b p.outside).0 ∙ i.is_q;
          children = elim i.children [ inl q ↦ inl (children_same ∙ q) | inr q ↦ inr (children_same ∙ q) ];
          some_empty = i.some_empty;
          some_full = i.some_full;
          empty = λ j d l. s.treated.marks.outside (get_or i.es j d) (in_es (get_or i.es j d) (occurs_get i.es j d l)).outside ∙ i.empty j d l;
          full = λ j d l. s.treated.marks.outside (get_or i.fs j d) (in_fs (get_or i.fs j d) (occurs_get i.fs j d l)).outside ∙ i.full j d l;
          empty_trees = i.empty_trees ∙ sym (forest_same (outline_below h) (outline_below g) i.es (λ x o. tree_same g h n a x s.g_layout s.h_layout s.treated.arena (in_es x o)));
          full_trees = i.full_trees ∙ sym (forest_same (outline_below h) (outline_below g) i.fs (λ x o. tree_same g h n a x s.g_layout s.h_layout s.treated.arena (in_fs x o)));
        }

-- a child that was not done stands, where the node above it does
pub child_stands : (f : Layout) (ds : List ℕ) (p k : ℕ) → IsLayout f → IsStanding f ds p → 1 ≤ occurs (children_at f p) k → occurs ds k ≡ 0 → IsStanding f ds k
child_stands f ds p k h i o none = record {
  used = child_used f p k h o;
  clear = λ y oy l. elim (above_ends f.slots y k l) [
    | at_once e ↦ absurd (let z : 1 ≤ occurs ds k = subst (λ z. 1 ≤ occurs ds z) e oy in omega arith)
    | by m lm om ↦ i.clear y oy (subst (λ z. IsAtOrAbove f.slots y z) (one_parent f m p k h om o) lm)
  ];
}

-- no answer is above a node that stands
apart_now : {f g h : Layout} {v w u : Marks} {row ds es : List ℕ} {place : ℕ → ℕ} {n a : ℕ} (s : Stepping f g h v w u row ds es place n a)
    (x p k : ℕ) → IsStanding f es x → IsStanding f es p → 1 ≤ occurs (children_at f p) k → 1 ≤ occurs es k → IsAtOrAbove h.slots (placed place n a k) x → ⊥
apart_now {f = f} {g = g} {h = h} {place = place} {n = n} {a = a} s x p k ix ip o oe l = elim (cases_eq k n) [
  | inl e ↦ s.treated.arena.apart x (outer s x ix) (subst (λ z. IsAtOrAbove h.slots z x) (ap (placed place n a) e ∙ placed_here place n a) l)
  | inr ne ↦ elim (s.next.only k oe) [
    | inl e ↦ ne e
    | inr od ↦
        let q : IsApart g n (place k) = apart_place s p k ip o od ne in
        let l' : IsAtOrAbove h.slots (place k) x = subst (λ z. IsAtOrAbove h.slots z x) (placed_other place n a k ne) l in
        s.before.apart x p k (earlier s x ix) (earlier s p ip) o od (below_was g h n a (place k) x s.g_layout s.treated.arena q l')
  ]
]

-- a node that is not done has its own place
fixed_now : {f g h : Layout} {v w u : Marks} {row ds es : List ℕ} {place : ℕ → ℕ} {n a : ℕ} (s : Stepping f g h v w u row ds es place n a) (k : ℕ) → occurs es k ≡ 0 → placed place n a k ≡ k
fixed_now {ds = ds} {es = es} {place = place} {n = n} {a = a} s k none =
    let ne : k ≢ n = (λ e. let l : 1 ≤ occurs es k = subst (λ z. 1 ≤ occurs es z) (sym e) s.next.new in omega arith) in
    placed_other place n a k ne ∙ s.before.fixed k (elim (cases_lt 0 (occurs ds k)) [
      | inl l ↦ absurd (let z : 1 ≤ occurs es k = s.next.old k l in omega arith)
      | inr l ↦ omega arith
    ])

-- a path between nodes that stand is one of the first arena
paths_now : {f g h : Layout} {v w u : Marks} {row ds es : List ℕ} {place : ℕ → ℕ} {n a : ℕ} (s : Stepping f g h v w u row ds es place n a)
    (y x : ℕ) → IsStanding f es x → IsStanding f es y → IsAtOrAbove h.slots y x → IsAtOrAbove f.slots y x
paths_now s _ _ ix iy (here y) = here y
paths_now {f = f} {h = h} {es = es} {place = place} {n = n} {a = a} s _ _ ix iy (down y k' x o l) =
    let m = map_of (placed place n a) (children_at f y) k' (subst (λ z. 1 ≤ occurs z k') (children_now s y iy) o) in
    elim (cases_lt 0 (occurs es m.0)) [
      | inl done ↦ absurd (apart_now s x y m.0 ix iy m.1 done (subst (λ z. IsAtOrAbove h.slots z x) m.2 l))
      | inr not ↦
          let none : occurs es m.0 ≡ 0 = omega arith in
          let e : k' ≡ m.0 = m.2 ∙ fixed_now s m.0 none in
          let i : IsStanding f es m.0 = child_stands f es y m.0 s.f_layout iy m.1 none in
          let i' : IsStanding f es k' = subst (λ z. IsStanding f es z) (sym e) i in
          down y k' x (subst (λ z. 1 ≤ occurs (children_at f y) z) (sym e) m.1) (paths_now s k' x ix i' l)
    ]

pub applied_step : {f g h : Layout} {v w u : Marks} {row ds es : List ℕ} {place : ℕ → ℕ} {n a : ℕ} → Stepping f g h v w u row ds es place n a → AreApplied f v row es (placed place n a) h u
applied_step {f = f} {g = g} {h = h} {v = v} {w = w} {u = u} {row = row} {ds = ds} {es = es} {place = place} {n = n} {a = a} s = record {
  one = s.treated.arena.one;
  two = s.treated.arena.two;
  columns = s.treated.arena.columns ∙ s.before.columns;
  root = s.treated.arena.root ∙ ap (λ b. cond b a g.root) (ne_eqb g.root n (λ e. s.inner (sym s.before.root ∙ e))) ∙ s.before.root;
  room = s.treated.marks.room ∙ s.before.room;
  nodes = s.treated.marks.nodes ∙ s.before.nodes;
  inside = s.treated.marks.inside ∙ s.before.inside;
  fixed = λ k none. fixed_now s k none;
  shapes = λ x i. (s.treated.arena.outside x (outer s x i)).0 ∙ s.before.shapes x (earlier s x i);
  children = λ x i. children_now s x i;
  labels = λ x i. s.treated.marks.outside x (outer s x i) ∙ s.before.labels x (earlier s x i);
  chains = λ x i r. s.treated.marks.chains x (outer s x i) (s.before.chains x (earlier s x i) r);
  paths = λ x y ix iy l. paths_now s y x ix iy l;
  apart = λ x p k ix ip o oe l. apart_now s x p k ix ip o oe l;
  answers = λ p k ip o oe. elim (cases_eq k n) [
    | inl e ↦ subst (λ z. IsAnswered f v row h u z (placed place n a z)) (sym e) (subst (λ z. IsAnswered f v row h u n z) (sym (placed_here place n a)) s.answered)
    | inr ne ↦ elim (s.next.only k oe) [
      | inl e ↦ absurd (ne e)
      | inr od ↦ subst (λ z. IsAnswered f v row h u k z) (sym (placed_other place n a k ne))
          (answer_stays s k (place k) (apart_place s p k ip o od ne) (s.before.answers p k (earlier s p ip) o od))
    ]
  ];
}
