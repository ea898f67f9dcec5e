-- The labels and the chains once a part of the arena was built anew in place.
use Rattle.std.proofs.Common.{◌≡◌, ◌≢◌, ◌⊎◌, ◌↔◌, inl, inr, ℕ, ◌+◌, ◌≤◌, ◌<◌, true, false, cond, eqb, List, [], ◌∷◌, map, sum_by, Some, None, refl, sym, ap, subst, ◌∙◌, arith, eq-eqb}
use Rattle.std.proofs.lemmas.Bool.{ne_eqb, cases_eq, cases_lt}
use Rattle.std.proofs.lemmas.List.Sums.{sum_by-cons}
use Rattle.column_order.specs.Orders.{occurs}
use Rattle.arena_model.specs.declared.Shape.TheVariants.{Leaf}
use Rattle.arena_model.specs.ChildLists.{with_replaced}
use Rattle.arena_model.specs.Layout.{Layout, shape_at, children_at, IsAtOrAbove, here, down, IsLayout}
use Rattle.arena_model.specs.NamedTree.{IsOneTree, HasTwoEach}
use Rattle.arena_model.proofs.Lists.{occurs_here, occurs_other, occurs_same}
use Rattle.arena_model.proofs.Paths.{above_step}
use Rattle.pq_arena.specs.declared.node.NodeId.{NodeId}
use Rattle.bubble_pass.specs.declared.labels.Label.{Label}
use Rattle.bubble_pass.specs.declared.labels.Label.TheVariants.{Empty, Partial, Full}
use Rattle.pq_arena.specs.RowNodes.{indices}
use Rattle.bubble_pass.specs.Marks.{Marks, label_at, fulls_at, partials_at, IsChain, exchange}
use Rattle.bubble_pass.specs.Pass.{IsRightAt}
use Rattle.bubble_pass.specs.Sweep.{IsRight, full_one, partial_one}
use Rattle.template_model.specs.Treated.{IsOutside, AreKeptAt, IsTreated}
use Rattle.templates_p.specs.Parts.{AreAlike}
use Rattle.template_model.proofs.Replaced.{replaced_self}
use Rattle.templates_p.proofs.Rebuilt.{IsRebuilt, Each, each_at, written_at, outside_kept, replaced_keeps, replaced_has, answer_mine, ways_kept, ways_back, below_used, leaves_again, replaced_at}

-- n and a exchanged
abbrev pub swap_one : ℕ → ℕ → ℕ → ℕ
swap_one n a x = cond (eqb x n) a (cond (eqb x a) n x)

abbrev pub swapped : ℕ → ℕ → List ℕ → List ℕ
swapped n a [] = []
swapped n a (x ∷ xs) = swap_one n a x ∷ swapped n a xs

-- a for n
abbrev pub replaced_one : ℕ → ℕ → ℕ → ℕ
replaced_one n a x = cond (eqb x n) a x

-- why the label of a written node is right
pub data IsJudged (f g : Layout) (v w : Marks) (n a : ℕ) (ts : List ℕ) (m : ℕ) : Type 0 where
  is_answer : m ≡ a → IsJudged f g v w n a ts m
  is_gone : shape_at g m ≡ None → IsJudged f g v w n a ts m
  is_empty : label_at w m ≡ Empty → ((k : ℕ) → 1 ≤ occurs (children_at g m) k → (occurs ts k ≡ 0) × (label_at v k ≡ Empty)) → IsJudged f g v w n a ts m
  is_full : label_at w m ≡ Full → ((k : ℕ) → 1 ≤ occurs (children_at g m) k → (occurs ts k ≡ 0) × (label_at v k ≡ Full)) → IsJudged f g v w n a ts m
  is_partial : label_at w m ≡ Partial → label_at v m ≡ Partial → IsAtOrAbove f.slots n m →
      ((k : ℕ) → 1 ≤ occurs (children_at f m) k → (1 ≤ occurs (children_at g m) k) × (occurs ts k ≡ 0)) → IsJudged f g v w n a ts m

-- the chains of w are those of v with n and a exchanged
abbrev pub AreSwapped : Marks → Marks → ℕ → ℕ → Type 0
AreSwapped v w n a = (m : ℕ) (xs : List NodeId) → IsChain v m xs → (ys : List NodeId) × IsChain w m ys × (indices ys ≡ swapped n a (indices xs))

-- the marks v became w while the nodes ts were written
pub record AreRemarked (f g : Layout) (v w : Marks) (n a : ℕ) (ts : List ℕ) : Type 0 where
  pub alike : AreAlike v w
  pub label : label_at w a ≡ label_at v n
  pub labels : (m : ℕ) → occurs ts m ≡ 0 → label_at w m ≡ label_at v m
  pub chains : AreSwapped v w n a
  pub judged : Each (IsJudged f g v w n a ts) ts

swapped_replaced : (n a : ℕ) (xs : List ℕ) → (a ≡ n) ⊎ (occurs xs a ≡ 0) → swapped n a xs ≡ with_replaced xs n a
swapped_replaced n a [] h = refl
swapped_replaced n a (x ∷ xs) (inl e) = ap (λ z. z ∷ swapped n a xs) (subst (λ b. cond (eqb x n) b (cond (eqb x b) n x) ≡ cond (eqb x n) b x) (sym e)
    (elim (eqb x n) as (λ b. cond b n (cond b n x) ≡ cond b n x) [ true ↦ refl | false ↦ refl ]))
    ∙ ap (λ zs. replaced_one n a x ∷ zs) (swapped_replaced n a xs (inl e))
swapped_replaced n a (x ∷ xs) (inr o) =
    let ne : x ≢ a = (λ e. let k : occurs (x ∷ xs) x ≡ 0 = subst (λ z. occurs (x ∷ xs) z ≡ 0) (sym e) o in omega (arith, occurs_here x xs)) in
    ap (λ b. cond (eqb x n) a (cond b n x) ∷ swapped n a xs) (ne_eqb x a ne)
    ∙ ap (λ zs. replaced_one n a x ∷ zs) (swapped_replaced n a xs (inr (let z : occurs xs a ≡ 0 = omega arith in z)))

pub swapped_self : (n : ℕ) (xs : List ℕ) → xs ≡ swapped n n xs
swapped_self n [] = refl
swapped_self n (x ∷ xs) = ap (λ z. z ∷ xs) (elim (cases_eq x n) [
  | inl e ↦ e ∙ sym (ap (λ b. cond b n (cond b n x)) (eq-eqb x n e))
  | inr ne ↦ sym (ap (λ b. cond b n (cond b n x)) (ne_eqb x n ne))
]) ∙ ap (λ zs. swap_one n n x ∷ zs) (swapped_self n xs)

pub exchanged_indices : (n a : NodeId) (xs : List NodeId) → indices (map (exchange n a) xs) ≡ swapped n.index a.index (indices xs)
exchanged_indices n a [] = refl
exchanged_indices n a (x ∷ xs) = ap (λ z. z ∷ indices (map (exchange n a) xs)) (one (eqb x.index n.index) (eqb x.index a.index))
    ∙ ap (λ zs. swap_one n.index a.index x.index ∷ zs) (exchanged_indices n a xs)
  where
    one : (b c : _) → (cond b a (cond c n x)).index ≡ cond b a.index (cond c n.index x.index)
    one true c = refl
    one false true = refl
    one false false = refl

-- where old and new were exchanged, which are n and a
pub exchanged : (v w : Marks) (n a : ℕ) (old new : NodeId) → old.index ≡ n → new.index ≡ a → ((m : ℕ) (xs : List NodeId) → IsChain v m xs → IsChain w m (map (exchange old new) xs)) → AreSwapped v w n a
exchanged v w n a old new old_is new_is chains = λ m xs x. (
  (map (exchange old new) xs),
  chains m xs x,
  subst (λ z. indices ((map (exchange old new) xs)) ≡ swapped z a (indices xs)) old_is
      (subst (λ z. indices ((map (exchange old new) xs)) ≡ swapped old.index z (indices xs)) new_is (exchanged_indices old new xs)),
)

-- nothing was marked
pub unmarked : (f g : Layout) (v : Marks) (n : ℕ) (ts : List ℕ) → Each (IsJudged f g v v n n ts) ts → AreRemarked f g v v n n ts
unmarked f g v n ts judged = record {
  alike = record { room = refl; nodes = refl; inside = refl; full = refl; partial = refl };
  label = refl;
  labels = λ m z. refl;
  chains = λ m xs x. (xs, x, swapped_self n (indices xs));
  judged = judged;
}

pub replaced_member : (xs : List ℕ) (n a y : ℕ) → 1 ≤ occurs (with_replaced xs n a) y → (k : ℕ) × (1 ≤ occurs xs k) × (y ≡ replaced_one n a k)
replaced_member [] n a y o = absurd (omega arith)
replaced_member (x ∷ xs) n a y o = elim (cases_eq y (replaced_one n a x)) [
  | inl e ↦ (x, occurs_here x xs, e)
  | inr ne ↦ let r = replaced_member xs n a y (subst (λ z. 1 ≤ z) (occurs_other (replaced_one n a x) y (with_replaced xs n a) ne) o) in
      (r.0, (let q : 1 ≤ occurs xs r.0 = r.1 in omega arith), r.2)
]

pub replaced_back : (xs : List ℕ) (n a k : ℕ) → 1 ≤ occurs xs k → 1 ≤ occurs (with_replaced xs n a) (replaced_one n a k)
replaced_back xs n a k o = elim (cases_eq k n) [
  | inl e ↦ subst (λ z. 1 ≤ occurs (with_replaced xs n a) z) (sym (ap (λ b. cond b a k) (eq-eqb k n e)))
      (replaced_has xs n a (subst (λ z. 1 ≤ occurs xs z) e o))
  | inr ne ↦ subst (λ z. 1 ≤ occurs (with_replaced xs n a) z) (sym (ap (λ b. cond b a k) (ne_eqb k n ne))) (replaced_keeps xs n a k ne o)
]

other_times : (xs : List ℕ) (n a k : ℕ) → k ≢ a → occurs (with_replaced xs n a) k ≤ occurs xs k
other_times [] n a k ne = omega arith
other_times (x ∷ xs) n a k ne = elim (cases_eq x n) [
  | inl e ↦ let q : occurs (replaced_one n a x ∷ with_replaced xs n a) k ≡ occurs (with_replaced xs n a) k =
      ap (λ b. occurs (cond b a x ∷ with_replaced xs n a) k) (eq-eqb x n e) ∙ occurs_other a k (with_replaced xs n a) ne in
      omega (arith, other_times xs n a k ne)
  | inr d ↦ let q : occurs (replaced_one n a x ∷ with_replaced xs n a) k ≡ occurs (x ∷ with_replaced xs n a) k =
      ap (λ b. occurs (cond b a x ∷ with_replaced xs n a) k) (ne_eqb x n d) in
      omega (arith, other_times xs n a k ne)
]

answer_times : (xs : List ℕ) (n a : ℕ) → a ≢ n → occurs (with_replaced xs n a) a ≡ occurs xs n + occurs xs a
answer_times [] n a ne = refl
answer_times (x ∷ xs) n a ne = elim (cases_eq x n) [
  | inl e ↦
      let q : occurs (replaced_one n a x ∷ with_replaced xs n a) a ≡ 1 + occurs (with_replaced xs n a) a =
      ap (λ b. occurs (cond b a x ∷ with_replaced xs n a) a) (eq-eqb x n e) ∙ occurs_same a (with_replaced xs n a) in
      let p : occurs (x ∷ xs) n ≡ 1 + occurs xs n = subst (λ z. occurs (z ∷ xs) n ≡ 1 + occurs xs n) (sym e) (occurs_same n xs) in
      let s : occurs (x ∷ xs) a ≡ occurs xs a = occurs_other x a xs (λ z. ne (z ∙ e)) in
      omega (arith, answer_times xs n a ne)
  | inr d ↦
      let q : occurs (replaced_one n a x ∷ with_replaced xs n a) a ≡ occurs (x ∷ with_replaced xs n a) a =
      ap (λ b. occurs (cond b a x ∷ with_replaced xs n a) a) (ne_eqb x n d) in
      let p : occurs (x ∷ xs) n ≡ occurs xs n = occurs_other x n xs (λ z. d (sym z)) in
      omega (arith, answer_times xs n a ne)
]

self_once : (xs : List ℕ) (n a k : ℕ) → a ≡ n → ((x : ℕ) → occurs xs x ≤ 1) → occurs (with_replaced xs n a) k ≤ 1
self_once xs n a k e once = subst (λ z. occurs (with_replaced xs n z) k ≤ 1) (sym e)
    (subst (λ zs. occurs zs k ≤ 1) (sym (replaced_self xs n)) (once k))

pub replaced_once : (xs : List ℕ) (n a k : ℕ) → (a ≡ n) ⊎ (occurs xs a ≡ 0) → ((x : ℕ) → occurs xs x ≤ 1) → occurs (with_replaced xs n a) k ≤ 1
replaced_once xs n a k (inl e) once = self_once xs n a k e once
replaced_once xs n a k (inr o) once = elim (cases_eq k a) [
  | inl e ↦ elim (cases_eq a n) [
    | inl q ↦ self_once xs n a k q once
    | inr ne ↦ subst (λ z. occurs (with_replaced xs n a) z ≤ 1) (sym e) (let t : occurs xs n ≤ 1 = once n in omega (arith, answer_times xs n a ne))
  ]
  | inr ne ↦ let t : occurs xs k ≤ 1 = once k in omega (arith, other_times xs n a k ne)
]

pub replaced_sum : (F G : ℕ → ℕ) (xs : List ℕ) (n a : ℕ) → ((k : ℕ) → 1 ≤ occurs xs k → G (replaced_one n a k) ≡ F k) →
    sum_by G (with_replaced xs n a) ≡ sum_by F xs
replaced_sum F G [] n a h = refl
replaced_sum F G (x ∷ xs) n a h =
    let e : G (replaced_one n a x) ≡ F x = h x (occurs_here x xs) in
    let r : sum_by G (with_replaced xs n a) ≡ sum_by F xs = replaced_sum F G xs n a (λ k o. h k (omega arith)) in
    omega (arith, sum_by-cons F x xs, sum_by-cons G (replaced_one n a x) (with_replaced xs n a))

-- a row of leaves
abbrev pub AreAllLeaves : Layout → List ℕ → Type 0
AreAllLeaves f row = (x : ℕ) → 1 ≤ occurs row x → (c : ℕ) × (shape_at f x ≡ Some (Leaf c))

pub leaf_before : (f g : Layout) (x c : ℕ) → IsLayout f → IsLayout g → g.columns ≡ f.columns → shape_at g x ≡ Some (Leaf c) → shape_at f x ≡ Some (Leaf c)
leaf_before f g x c hf hg cs e =
    let r = hg.no_other_leaf x c e in
    let l : x < f.columns = (let q : x < g.columns = r.1 in omega arith) in
    subst (λ z. shape_at f x ≡ Some (Leaf z)) (sym r.0) (hf.leaves x l)

-- the same leaves below, so the same labels right
pub right_moved : (f g : Layout) (row : List ℕ) (m y : ℕ) → IsLayout f → IsLayout g → g.columns ≡ f.columns → AreAllLeaves f row →
    ((x c : ℕ) → shape_at f x ≡ Some (Leaf c) → IsAtOrAbove f.slots m x ↔ IsAtOrAbove g.slots y x) →
    (l : Label) → IsRight f row m l → IsRight g row y l
right_moved f g row m y hf hg cs lv same Empty h = λ x p o. let c = lv x o in h x ((same x c.0 c.1).1 p) o
right_moved f g row m y hf hg cs lv same Full h = λ x c p e.
    let e' : shape_at f x ≡ Some (Leaf c) = leaf_before f g x c hf hg cs e in h x c ((same x c e').1 p) e'
right_moved f g row m y hf hg cs lv same Partial h =
    let c = lv h.0.0 h.0.2 in (
      (h.0.0, (same h.0.0 c.0 c.1).0 h.0.1, h.0.2),
      (h.1.0, h.1.1, (same h.1.0 h.1.1 h.1.3).0 h.1.2, leaf_before g f h.1.0 h.1.1 hg hf (sym cs) h.1.3, h.1.4),
    )

first_step : (f : Layout) (n x : ℕ) → IsAtOrAbove f.slots n x → (x ≡ n) ⊎ ((k : ℕ) × (1 ≤ occurs (children_at f n) k) × IsAtOrAbove f.slots k x)
first_step f _ _ (here n) = inl refl
first_step f _ _ (down n k x o l) = inr (k, o, l)

module _ (f g : Layout) (n a : ℕ) (ts : List ℕ) (r : IsRebuilt f g n a ts) (v w : Marks) (s : AreRemarked f g v w n a ts) where
  answer_apart : (m : ℕ) → IsOutside f n m → (a ≡ n) ⊎ (occurs (children_at f m) a ≡ 0)
  answer_apart m out = elim (cases_lt 0 (occurs (children_at f m) a)) [
    | inl o ↦ elim ((written_at f g n a ts r a r.a_in).closed m o) [
      | inl e ↦ inl e
      | inr t ↦ absurd (let z : occurs ts m ≡ 0 = outside_kept f g n a ts r m out in omega arith)
    ]
    | inr o ↦ inr (let z : occurs (children_at f m) a ≡ 0 = omega arith in z)
  ]

  label_moved : (m : ℕ) → IsOutside f n m → (k : ℕ) → 1 ≤ occurs (children_at f m) k → label_at w (replaced_one n a k) ≡ label_at v k
  label_moved m out k o = elim (cases_eq k n) [
    | inl e ↦ ap (λ b. label_at w (cond b a k)) (eq-eqb k n e) ∙ s.label ∙ ap (label_at v) (sym e)
    | inr ne ↦ ap (λ b. label_at w (cond b a k)) (ne_eqb k n ne) ∙ s.labels k (elim (cases_lt 0 (occurs ts k)) [
      | inl l ↦ elim ((written_at f g n a ts r k l).closed m o) [
        | inl e ↦ absurd (ne e)
        | inr t ↦ absurd (let z : occurs ts m ≡ 0 = outside_kept f g n a ts r m out in omega arith)
      ]
      | inr l ↦ omega arith
    ])
  ]

  chain_again : (m : ℕ) → IsOutside f n m → IsRightAt f v m → IsRightAt g w m
  chain_again m out x =
      let t = s.chains m x.chain x.is in
      let ks : List ℕ = children_at f m in
      let xs : List ℕ = indices x.chain in
      let kids : children_at g m ≡ with_replaced ks n a = r.children m (outside_kept f g n a ts r m out) in
      let apart : (a ≡ n) ⊎ (occurs xs a ≡ 0) = elim (answer_apart m out) [
        | inl e ↦ inl e
        | inr z ↦ inr (elim (cases_lt 0 (occurs xs a)) [
          | inl l ↦ absurd (let q : 1 ≤ occurs ks a = x.child a l in omega arith)
          | inr l ↦ omega arith
        ])
      ] in
      let e : indices t.0 ≡ with_replaced xs n a = t.2 ∙ swapped_replaced n a xs apart in
      record {
        chain = t.0;
        is = t.1;
        once = λ k. subst (λ zs. occurs zs k ≤ 1) (sym e) (replaced_once xs n a k apart x.once);
        child = λ k o. let q = replaced_member xs n a k (subst (λ zs. 1 ≤ occurs zs k) e o) in
            subst (λ zs. 1 ≤ occurs zs k) (sym kids) (subst (λ z. 1 ≤ occurs (with_replaced ks n a) z) (sym q.2) (replaced_back ks n a q.0 (x.child q.0 q.1)));
        labelled = λ k o. let q = replaced_member xs n a k (subst (λ zs. 1 ≤ occurs zs k) e o) in
            λ b. x.labelled q.0 q.1 (sym (label_moved m out q.0 (x.child q.0 q.1)) ∙ ap (label_at w) (sym q.2) ∙ b);
        all = λ k o b. let q = replaced_member ks n a k (subst (λ zs. 1 ≤ occurs zs k) kids o) in
            let c : 1 ≤ occurs xs q.0 = x.all q.0 q.1 (λ z. b (ap (label_at w) q.2 ∙ label_moved m out q.0 q.1 ∙ z)) in
            subst (λ zs. 1 ≤ occurs zs k) (sym e) (subst (λ z. 1 ≤ occurs (with_replaced xs n a) z) (sym q.2) (replaced_back xs n a q.0 c));
        full = ap (λ fs. fulls_at (record w { full = fs }) m) s.alike.full ∙ x.full
            ∙ sym (ap (sum_by (λ k. full_one (label_at w k))) kids
            ∙ replaced_sum (λ k. full_one (label_at v k)) (λ k. full_one (label_at w k)) ks n a (λ k o. ap full_one (label_moved m out k o)));
        partial = ap (λ fs. partials_at (record w { partial = fs }) m) s.alike.partial ∙ x.partial
            ∙ sym (ap (sum_by (λ k. partial_one (label_at w k))) kids
            ∙ replaced_sum (λ k. partial_one (label_at v k)) (λ k. partial_one (label_at w k)) ks n a (λ k o. ap partial_one (label_moved m out k o)));
      }

  -- a child below a in g that was not written was below n in f
  was_below : (m : ℕ) → IsAtOrAbove g.slots a m → occurs ts m ≡ 0 → IsAtOrAbove f.slots n m
  was_below m l z = elim (answer_mine f g n a ts r m l) [
    | inl q ↦ q
    | inr e ↦ absurd (below_used g a m r.after r.answer l (r.shapes m z ∙ e))
  ]

  right_untouched : (row : List ℕ) → AreAllLeaves f row → ((m : ℕ) → IsAtOrAbove f.slots n m → IsRight f row m (label_at v m)) →
      (m : ℕ) → IsAtOrAbove g.slots a m → occurs ts m ≡ 0 → IsRight g row m (label_at w m)
  right_untouched row lv h m l z =
      let b : IsAtOrAbove f.slots n m = was_below m l z in
      subst (λ t. IsRight g row m t) (sym (s.labels m z))
      (right_moved f g row m m r.before r.after r.columns lv
      (λ x c e. (λ p. ways_kept f g n a ts r m x p b z, λ p. ways_back f g n a ts r m x p b z)) (label_at v m) (h m b))

  right_child : (row : List ℕ) → ((m : ℕ) → IsAtOrAbove f.slots n m → IsRight f row m (label_at v m)) → (t : Label) →
      (m k : ℕ) → IsAtOrAbove g.slots a m → 1 ≤ occurs (children_at g m) k → occurs ts k ≡ 0 → label_at v k ≡ t → IsRight f row k t
  right_child row h t m k l o z e = subst (λ u. IsRight f row k u) e (h k (was_below k (above_step g.slots a m k l o) z))

  back_child : (m k x : ℕ) → IsAtOrAbove g.slots a m → 1 ≤ occurs (children_at g m) k → occurs ts k ≡ 0 → IsAtOrAbove g.slots k x → IsAtOrAbove f.slots k x
  back_child m k x l o z p = ways_back f g n a ts r k x p (was_below k (above_step g.slots a m k l o) z) z

  right_empty : (row : List ℕ) → AreAllLeaves f row → ((m : ℕ) → IsAtOrAbove f.slots n m → IsRight f row m (label_at v m)) →
      (m : ℕ) → IsAtOrAbove g.slots a m → 1 ≤ occurs ts m →
      ((k : ℕ) → 1 ≤ occurs (children_at g m) k → (occurs ts k ≡ 0) × (label_at v k ≡ Empty)) → IsRight g row m Empty
  right_empty row lv h m l t c = λ x p o. let f1 = lv x o in elim (first_step g m x p) [
    | inl e ↦ (written_at f g n a ts r m t).no_leaf f1.0 (subst (λ y. shape_at f y ≡ Some (Leaf f1.0)) e f1.1)
    | inr q ↦ let d = c q.0 q.1 in right_child row h Empty m q.0 l q.1 d.0 d.1 x (back_child m q.0 x l q.1 d.0 q.2) o
  ]

  right_full : (row : List ℕ) → ((m : ℕ) → IsAtOrAbove f.slots n m → IsRight f row m (label_at v m)) →
      (m : ℕ) → IsAtOrAbove g.slots a m → 1 ≤ occurs ts m →
      ((k : ℕ) → 1 ≤ occurs (children_at g m) k → (occurs ts k ≡ 0) × (label_at v k ≡ Full)) → IsRight g row m Full
  right_full row h m l t c = λ x b p e.
      let e' : shape_at f x ≡ Some (Leaf b) = leaf_before f g x b r.before r.after r.columns e in elim (first_step g m x p) [
        | inl q ↦ absurd ((written_at f g n a ts r m t).no_leaf b (subst (λ y. shape_at f y ≡ Some (Leaf b)) q e'))
        | inr q ↦ let d = c q.0 q.1 in right_child row h Full m q.0 l q.1 d.0 d.1 x b (back_child m q.0 x l q.1 d.0 q.2) e'
      ]

  ways_partial : (m x : ℕ) → IsAtOrAbove f.slots n m → ((k : ℕ) → 1 ≤ occurs (children_at f m) k → (1 ≤ occurs (children_at g m) k) × (occurs ts k ≡ 0)) →
      IsAtOrAbove f.slots m x → IsAtOrAbove g.slots m x
  ways_partial m x b c p = elim (first_step f m x p) [
    | inl e ↦ subst (λ y. IsAtOrAbove g.slots m y) (sym e) (here m)
    | inr q ↦ let d = c q.0 q.1 in down m q.0 x d.0 (ways_kept f g n a ts r q.0 x q.2 (above_step f.slots n m q.0 b q.1) d.1)
  ]

  right_partial : (row : List ℕ) → (m : ℕ) → IsAtOrAbove f.slots n m → ((k : ℕ) → 1 ≤ occurs (children_at f m) k → (1 ≤ occurs (children_at g m) k) × (occurs ts k ≡ 0)) →
      IsRight f row m Partial → IsRight g row m Partial
  right_partial row m b c h = (
    (h.0.0, ways_partial m h.0.0 b c h.0.1, h.0.2),
    (h.1.0, h.1.1, ways_partial m h.1.0 b c h.1.2, leaf_before g f h.1.0 h.1.1 r.after r.before (sym r.columns) h.1.3, h.1.4),
  )

  right_touched : (row : List ℕ) → AreAllLeaves f row → ((m : ℕ) → IsAtOrAbove f.slots n m → IsRight f row m (label_at v m)) →
      (m : ℕ) → IsAtOrAbove g.slots a m → 1 ≤ occurs ts m → IsJudged f g v w n a ts m → IsRight g row m (label_at w m)
  right_touched row lv h m l t (is_answer e) = subst (λ z. IsRight g row z (label_at w z)) (sym e) (subst (λ u. IsRight g row a u) (sym s.label)
      (right_moved f g row n a r.before r.after r.columns lv (leaves_again f g n a ts r) (label_at v n) (h n (here n))))
  right_touched row lv h m l t (is_gone e) = absurd (below_used g a m r.after r.answer l e)
  right_touched row lv h m l t (is_empty e c) = subst (λ u. IsRight g row m u) (sym e) (right_empty row lv h m l t c)
  right_touched row lv h m l t (is_full e c) = subst (λ u. IsRight g row m u) (sym e) (right_full row h m l t c)
  right_touched row lv h m l t (is_partial e e' b c) = subst (λ u. IsRight g row m u) (sym e)
      (right_partial row m b c (subst (λ u. IsRight f row m u) e' (h m b)))

  right_again : (row : List ℕ) → AreAllLeaves f row → ((m : ℕ) → IsAtOrAbove f.slots n m → IsRight f row m (label_at v m)) →
      (m : ℕ) → IsAtOrAbove g.slots a m → IsRight g row m (label_at w m)
  right_again row lv h m l = elim (cases_lt 0 (occurs ts m)) [
    | inl t ↦ right_touched row lv h m l t (each_at (IsJudged f g v w n a ts) ts m s.judged t)
    | inr t ↦ right_untouched row lv h m l (let z : occurs ts m ≡ 0 = omega arith in z)
  ]

  pub kept_at : AreKeptAt f g v w n a
  kept_at = record {
    room = s.alike.room;
    nodes = s.alike.nodes;
    inside = s.alike.inside;
    label = s.label;
    outside = λ m out. s.labels m (outside_kept f g n a ts r m out);
    chains = chain_again;
    right = right_again;
  }

  pub treated : IsOneTree f → HasTwoEach f → IsTreated f g v w n a
  treated one two = record { arena = replaced_at f g n a ts r one two; marks = kept_at }
