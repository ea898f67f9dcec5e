-- Sets of places: what a write of a parent changes.
use Rattle.std.proofs.Common.{◌≡◌, ◌≢◌, ◌⊎◌, ◌∙◌, ℕ, ◌+◌, ◌<◌, ◌≤◌, List, length, set, get_or, slice_index, refl, sym, ap, subst, inl, inr, arith, get_or-set_same, get_or-set_other}
use Rattle.std.proofs.lemmas.Bool.{cases_eq}
use Rattle.std.proofs.lemmas.List.{length-set}
use Rattle.row_model.specs.declared.graph.Pair.{Pair}
use Rattle.row_model.specs.Graph.{Joined, Evenly}
use Rattle.row_model.proofs.Walks.{evenly-refl, evenly-trans}
use Rattle.pair_classes.proofs.EvenLaws.{evenly_back}
use Rattle.pair_classes.specs.Unions.{AreParents, AgreesInSets, AreEvenSets, Climbs, Unites, Flattens}

-- one place is given a parent
module _ (ps : List ℕ) (i v : ℕ) (within : i < length ps) where
  here : get_or (set ps i v) i 0 ≡ v
  here = get_or-set_same ps i v 0 within

  elsewhere : (j : ℕ) → j ≢ i → get_or (set ps i v) j 0 ≡ get_or ps j 0
  elsewhere j n = get_or-set_other ps i j v 0 n

  pub set_parents : AreParents ps → v ≤ i → AreParents (set ps i v)
  set_parents h l j m =
      elim (cases_eq j i) [
        | inl e ↦ omega (arith, ap (slice_index (set ps i v)) e, here, l, e)
        | inr n ↦ omega (arith, elsewhere j n, h j (omega (arith, m, length-set ps i v)))
      ]

  pub set_even : (c : ℕ) (rows : List (List ℕ)) (f : ℕ → Pair) → AreEvenSets c rows f ps → Evenly c rows (f i) (f v) → AreEvenSets c rows f (set ps i v)
  set_even c rows f h k j m =
      elim (cases_eq j i) [
        | inl e ↦ subst (λ n. Evenly c rows (f n) (f (slice_index (set ps i v) n))) (sym e) (subst (λ n. Evenly c rows (f i) (f n)) (sym here) k)
        | inr n ↦ subst (λ n. Evenly c rows (f j) (f n)) (sym (elsewhere j n)) (h j (omega (arith, m, length-set ps i v)))
      ]

  module _ (label : ℕ → ℕ) (h : AgreesInSets label (set ps i v)) where
    pub label_here : label v ≡ label i
    label_here = ap label (sym here) ∙ h i (omega (arith, within, length-set ps i v))

    pub label_elsewhere : (j : ℕ) → j < length ps → j ≢ i → label (slice_index ps j) ≡ label j
    label_elsewhere j m n = ap label (sym (elsewhere j n)) ∙ h j (omega (arith, m, length-set ps i v))

  pub set_roots : slice_index ps i ≢ i → (j : ℕ) → slice_index ps j ≡ j → slice_index (set ps i v) j ≡ j
  set_roots n j e = elsewhere j (λ s. n (subst (λ k. slice_index ps k ≡ k) s e)) ∙ e

-- the parent's parent
abbrev pub above : List ℕ → ℕ → ℕ
above ps i = slice_index ps (slice_index ps i)

-- a place is given its parent's parent
module _ (ps : List ℕ) (i : ℕ) (h : AreParents ps) (within : i < length ps) where
  parent_within : slice_index ps i < length ps
  parent_within = omega (arith, h i within, within)

  pub above_le : above ps i ≤ slice_index ps i
  above_le = h (slice_index ps i) parent_within

  pub halved_parents : AreParents (set ps i (above ps i))
  halved_parents = set_parents ps i (above ps i) within h (omega (arith, above_le, h i within))

  pub halved_labels : (label : ℕ → ℕ) → AgreesInSets label (set ps i (above ps i)) → AgreesInSets label ps × (label i ≡ label (above ps i))
  halved_labels label k =
      let there : label (above ps i) ≡ label i = label_here ps i (above ps i) within label k in
      let others = label_elsewhere ps i (above ps i) within label k in
      let parent : label (slice_index ps i) ≡ label i = elim (cases_eq (slice_index ps i) i) [
        | inl s ↦ ap label s
        | inr n ↦ sym (others (slice_index ps i) parent_within n) ∙ there
      ] in (
        λ j m. elim (cases_eq j i) [
          | inl e ↦ subst (λ n. label (slice_index ps n) ≡ label n) (sym e) parent
          | inr n ↦ others j m n
        ],
        sym there,
      )

  pub halved_even : (c : ℕ) (rows : List (List ℕ)) (f : ℕ → Pair) → AreEvenSets c rows f ps → AreEvenSets c rows f (set ps i (above ps i)) × Evenly c rows (f i) (f (above ps i))
  halved_even c rows f k =
      let two : Evenly c rows (f i) (f (above ps i)) =
      evenly-trans (Joined c rows) (f i) (f (slice_index ps i)) (f (above ps i)) (k i within) (k (slice_index ps i) parent_within) in
      (set_even ps i (above ps i) within c rows f k two, two)

-- no step up
pub climbs_none : (ps : List ℕ) (place : ℕ) → AreParents ps → place < length ps → Climbs ps ps place place
climbs_none ps place h l =
    record {
      parents = h;
      within = l;
      roots = λ i e. e;
      labels = λ label k. (k, refl);
      even = λ c rows f k. (k, evenly-refl (Joined c rows) (f place));
    }

-- one step more, to the parent's parent, which is now the parent
pub climbs_more : (old ps : List ℕ) (place here : ℕ) → Climbs old ps place here → slice_index ps here < here → Climbs old (set ps here (above ps here)) place (above ps here)
climbs_more old ps place here h l =
    record {
      parents = halved_parents ps here h.parents h.within;
      within = omega (arith, above_le ps here h.parents h.within, h.within, length-set ps here (above ps here));
      roots = λ i e. set_roots ps here (above ps here) h.within (λ s. omega (arith, s, l)) i (h.roots i e);
      labels = λ label k.
          let was = halved_labels ps here h.parents h.within label k in
          let first = h.labels label was.0 in
          (first.0, first.1 ∙ was.1);
      even = λ c rows f k.
          let first = h.even c rows f k in
          let next = halved_even ps here h.parents h.within c rows f first.0 in
          (next.0, evenly-trans (Joined c rows) (f place) (f here) (f (above ps here)) first.1 next.1);
    }

-- of the roots of two sets the one is given the other as its parent
module _ (old mid ps : List ℕ) (x y from to : ℕ) (g : Climbs old mid x from) (h : Climbs mid ps y to) (high low : ℕ) (root : slice_index ps high ≡ high) (order : low ≤ high) (within : high < length ps)
    (these : ((from ≡ low) × (to ≡ high)) ⊎ ((from ≡ high) × (to ≡ low))) where
  labels : (label : ℕ → ℕ) → AgreesInSets label (set ps high low) → AgreesInSets label old × (label x ≡ label y)
  labels label k =
      let there : label low ≡ label high = label_here ps high low within label k in
      let roots : label from ≡ label to = elim these [
        | inl e ↦ ap label e.0 ∙ there ∙ ap label (sym e.1)
        | inr e ↦ ap label e.0 ∙ sym there ∙ ap label (sym e.1)
      ] in
      let last : AgreesInSets label ps = λ j m. elim (cases_eq j high) [
        | inl e ↦ subst (λ n. label (slice_index ps n) ≡ label n) (sym e) (ap label root)
        | inr n ↦ label_elsewhere ps high low within label k j m n
      ] in
      let second = h.labels label last in
      let first = g.labels label second.0 in
      (first.0, first.1 ∙ roots ∙ sym second.1)

  even : (c : ℕ) (rows : List (List ℕ)) (f : ℕ → Pair) → AreEvenSets c rows f old → Evenly c rows (f x) (f y) → AreEvenSets c rows f (set ps high low)
  even c rows f k e =
      let first = g.even c rows f k in
      let second = h.even c rows f first.0 in
      let J = Joined c rows in
      let roots : Evenly c rows (f from) (f to) =
      evenly-trans J (f from) (f x) (f to) (evenly_back c rows (f x) (f from) first.1) (evenly-trans J (f x) (f y) (f to) e second.1) in
      set_even ps high low within c rows f second.0 (elim these [
        | inl s ↦ evenly_back c rows (f low) (f high) (subst (λ n. Evenly c rows (f low) (f n)) s.1 (subst (λ n. Evenly c rows (f n) (f to)) s.0 roots))
        | inr s ↦ subst (λ n. Evenly c rows (f high) (f n)) s.1 (subst (λ n. Evenly c rows (f n) (f to)) s.0 roots)
      ])

  pub united : Unites old (set ps high low) x y
  united = record { parents = set_parents ps high low within h.parents order; labels = labels; even = even }

-- the parents of the first places are roots
pub record IsFlattening (old new : List ℕ) (done : ℕ) : Type 0 where
  pub parents : AreParents new
  pub flat : (i : ℕ) → i < done → slice_index new (slice_index new i) ≡ slice_index new i
  pub labels : (label : ℕ → ℕ) → AgreesInSets label new → AgreesInSets label old
  pub even : (c : ℕ) (rows : List (List ℕ)) (f : ℕ → Pair) → AreEvenSets c rows f old → AreEvenSets c rows f new

pub flattening_none : (ps : List ℕ) → AreParents ps → IsFlattening ps ps 0
flattening_none ps h = record { parents = h; flat = λ i l. absurd (omega arith); labels = λ label k. k; even = λ c rows f k. k }

-- the parent's parent is a root, where the parents of all places before are
above_root : (ps : List ℕ) (i : ℕ) → AreParents ps → i < length ps → ((j : ℕ) → j < i → slice_index ps (slice_index ps j) ≡ slice_index ps j) →
    slice_index (set ps i (above ps i)) (above ps i) ≡ above ps i
above_root ps i h l flat =
    elim (cases_eq (slice_index ps i) i) [
      | inl s ↦
          let t : above ps i ≡ i = ap (slice_index ps) s ∙ s in
          ap (slice_index (set ps i (above ps i))) t ∙ here ps i (above ps i) l
      | inr n ↦
          let lower : slice_index ps i < i = omega (arith, h i l, n) in
          let k : above ps i ≢ i = λ s. omega (arith, s, above_le ps i h l, lower) in
          elsewhere ps i (above ps i) l (above ps i) k ∙ flat (slice_index ps i) lower
    ]

pub flattening_more : (old ps : List ℕ) (i : ℕ) → IsFlattening old ps i → i < length ps → IsFlattening old (set ps i (above ps i)) (i + 1)
flattening_more old ps i h l =
    let next = set ps i (above ps i) in
    let now : slice_index next i ≡ above ps i = here ps i (above ps i) l in
    record {
      parents = halved_parents ps i h.parents l;
      flat = λ j m. elim (cases_eq j i) [
        | inl e ↦ subst (λ n. slice_index next (slice_index next n) ≡ slice_index next n) (sym e) (ap (slice_index next) now ∙ above_root ps i h.parents l h.flat ∙ sym now)
        | inr n ↦
            let same : slice_index next j ≡ slice_index ps j = elsewhere ps i (above ps i) l j n in
            let k : slice_index ps j ≢ i = λ s. omega (arith, s, h.parents j (omega (arith, m, l)), m, n) in
            ap (slice_index next) same ∙ elsewhere ps i (above ps i) l (slice_index ps j) k ∙ h.flat j (omega (arith, m, n)) ∙ sym same
      ];
      labels = λ label k. h.labels label (halved_labels ps i h.parents l label k).0;
      even = λ c rows f k. (halved_even ps i h.parents l c rows f (h.even c rows f k)).0;
    }

pub flattening_all : (old ps : List ℕ) → IsFlattening old ps (length ps) → Flattens old ps
flattening_all old ps h = record { parents = h.parents; flat = h.flat; labels = h.labels; even = h.even }
