-- Every frontier of a proper tree keeps a row exactly where no node splits it, and exactly where it has the columns of a stretch.
use Rattle.std.proofs.Common.{◌≡◌, ◌⊎◌, ◌↔◌, ◌∙◌, ℕ, ◌<◌, ◌≤◌, Bool, true, false, not, cond, ◌&&◌, leb, List, [], ◌∷◌, IsTrue, IsFalse, refl, sym, ap, subst, inl, inr, arith, le-leb}
use Rattle.std.proofs.lemmas.Bool.{cases_Bool, both_ways, and_from, not-true, false_from_ne_true}
use Rattle.column_order.specs.Orders.{has, occurs, IsOrder, Keeps}
use Rattle.column_order.proofs.Lists.{has_cases, has_head, has_from_occurs}
use Rattle.row_model.specs.Rows.{Ascends, IsRow}
use Rattle.pq_tree.specs.Outline.{Outline, leaves, IsFrontier}
use Rattle.pq_tree.specs.Proper.{IsProper}
use Rattle.pq_tree.proofs.Frontiers.{frontier_occurs}
use Rattle.verdict_judge.specs.Holds.{IsStretch, IsStretchRow}
use Rattle.pq_tree.specs.Nodes.{meets}
use Rattle.verdict_judge.specs.HoldsWalk.{is_split}
use Rattle.verdict_judge.proofs.HoldsLists.{meets_has, meets_same, none_whole, whole_keeps, segment_whole, breaks_not_keeps}
use Rattle.verdict_judge.proofs.HoldsFrontiers.{frontier_has}
use Rattle.verdict_judge.proofs.HoldsSplit.{Broken, split_breaks}
use Rattle.verdict_judge.proofs.HoldsStretch.{Held, held, stretch_within}
use Rattle.verdict_judge.proofs.HoldsSegments.{stretch_segment}

at_most_one : (b : Bool) → cond {A = ℕ} b 1 0 ≤ 1
at_most_one true = omega arith
at_most_one false = omega arith

order_once : (c : ℕ) (o : List ℕ) → IsOrder c o → (a : ℕ) → occurs o a ≤ 1
order_once c o h a = omega (arith, h a, at_most_one (leb 1 a && leb a c))

order_has : (c : ℕ) (o : List ℕ) → IsOrder c o → (a : ℕ) → 1 ≤ a → a ≤ c → IsTrue (has o a)
order_has c o h a l k =
    let one : occurs o a ≡ 1 = h a ∙ ap (λ b. cond {A = ℕ} b 1 0) (and_from (leb 1 a) (leb a c) (le-leb 1 a l) (le-leb a c k)) in
    has_from_occurs o a (omega (arith, one))

ascends_within : (c low : ℕ) (row : List ℕ) (a : ℕ) → Ascends c low row → IsTrue (has row a) → (low < a) × (a ≤ c)
ascends_within c low [] a h k = absurd (both_ways false refl k)
ascends_within c low (x ∷ row) a h k =
    elim (has_cases x a row k) [
      | inl e ↦ (subst (λ y. low < y) e h.0, subst (λ y. y ≤ c) e h.1)
      | inr t ↦ let r = ascends_within c x row a h.2 t in (omega (arith, h.0, r.0), r.1)
    ]

-- the columns of the row are leaves of the tree
row_in : (c : ℕ) (t : Outline) (row : List ℕ) → IsProper c t → IsRow c row → (a : ℕ) → IsTrue (has row a) → IsTrue (has (leaves t) a)
row_in c t row proper ascends a h =
    let r = ascends_within c 0 row a ascends h in order_has c (leaves t) proper.1 a (omega (arith, r.0)) r.1

frontier_once : (c : ℕ) (t : Outline) (o : List ℕ) → IsProper c t → IsFrontier t o → (a : ℕ) → occurs o a ≤ 1
frontier_once c t o proper f a = omega (arith, frontier_occurs t o a f, order_once c (leaves t) proper.1 a)

stretch_keeps : (c : ℕ) (t : Outline) (row xs : List ℕ) → IsProper c t → IsStretch xs t → ((a : ℕ) → IsTrue (has (leaves t) a) → has row a ≡ has xs a) → (o : List ℕ) → IsFrontier t o → Keeps o row
stretch_keeps c t row xs proper s same o f =
    whole_keeps row o
    (segment_whole row o xs (frontier_once c t o proper f)
    (λ a h. same a (sym (frontier_has t o a f) ∙ h))
    (stretch_segment xs t o s f))

none_keeps : (t : Outline) (row : List ℕ) → IsFalse (meets row (leaves t)) → (o : List ℕ) → IsFrontier t o → Keeps o row
none_keeps t row n o f =
    whole_keeps row o
    (none_whole row o (false_from_ne_true (meets row o) (λ m. both_ways (meets row (leaves t)) n (meets_same row o (leaves t) (λ a. frontier_has t o a f) m))))

unsplit_keeps : (c : ℕ) (t : Outline) (row : List ℕ) → IsProper c t → IsFalse (is_split row t) → (o : List ℕ) → IsFrontier t o → Keeps o row
unsplit_keeps c t row proper s =
    elim (cases_Bool (meets row (leaves t))) [
      | inl m ↦
          let h : Held row t = held row t (order_once c (leaves t) proper.1) m s in
          stretch_keeps c t row h.columns proper h.stretch h.same
      | inr n ↦ none_keeps t row n
    ]

split_not : (c : ℕ) (t : Outline) (row : List ℕ) → IsProper c t → IsTrue (is_split row t) → ((o : List ℕ) → IsFrontier t o → Keeps o row) → ⊥
split_not c t row proper s keeps = let b : Broken row t = split_breaks row t proper.0 s in breaks_not_keeps row b.order b.breaks (keeps b.order b.frontier)

keeps_unsplit : (c : ℕ) (t : Outline) (row : List ℕ) → IsProper c t → ((o : List ℕ) → IsFrontier t o → Keeps o row) → IsFalse (is_split row t)
keeps_unsplit c t row proper keeps = false_from_ne_true (is_split row t) (λ s. split_not c t row proper s keeps)

pub split_law : (c : ℕ) (t : Outline) (row : List ℕ) → IsProper c t → ((o : List ℕ) → IsFrontier t o → Keeps o row) ↔ IsFalse (is_split row t)
split_law c t row proper = (keeps_unsplit c t row proper, unsplit_keeps c t row proper)

-- what the walk answers
pub holds_exactly : (c : ℕ) (t : Outline) (row : List ℕ) (split : Bool) → IsProper c t → split ≡ is_split row t → IsTrue (not split) ↔ ((o : List ℕ) → IsFrontier t o → Keeps o row)
holds_exactly c t row split proper e = (
  λ h. unsplit_keeps c t row proper (sym e ∙ not-true split h),
  λ keeps. ap not (e ∙ keeps_unsplit c t row proper keeps),
)

empty_row : (c : ℕ) (t : Outline) (row : List ℕ) → IsProper c t → IsRow c row → IsFalse (meets row (leaves t)) → row ≡ []
empty_row c t [] proper ascends n = refl
empty_row c t (x ∷ row) proper ascends n =
    absurd (both_ways (meets (x ∷ row) (leaves t)) n
    (meets_has (x ∷ row) (leaves t) x (row_in c t (x ∷ row) proper ascends x (has_head x row)) (has_head x row)))

stretch_row : (c : ℕ) (t : Outline) (row : List ℕ) → IsProper c t → IsRow c row → Held row t → IsStretchRow row t
stretch_row c t row proper ascends h = (
  h.columns,
  h.stretch,
  λ a. elim (cases_Bool (has (leaves t) a)) [
    | inl y ↦ h.same a y
    | inr n ↦
        false_from_ne_true (has row a) (λ y. both_ways (has (leaves t) a) n (row_in c t row proper ascends a y)) ∙
        sym (false_from_ne_true (has h.columns a) (λ y. both_ways (has (leaves t) a) n (stretch_within h.columns t h.stretch a y)))
  ],
)

none_of_empty : (xs : List ℕ) → IsFalse (meets [] xs)
none_of_empty [] = refl
none_of_empty (x ∷ xs) = none_of_empty xs

pub holds_law : (c : ℕ) (t : Outline) (row : List ℕ) → IsProper c t → IsRow c row → ((o : List ℕ) → IsFrontier t o → Keeps o row) ↔ ((row ≡ []) ⊎ IsStretchRow row t)
holds_law c t row proper ascends = (
  λ keeps. elim (cases_Bool (meets row (leaves t))) [
    | inl m ↦ inr (stretch_row c t row proper ascends (held row t (order_once c (leaves t) proper.1) m (keeps_unsplit c t row proper keeps)))
    | inr n ↦ inl (empty_row c t row proper ascends n)
  ],
  λ h. elim h [
    | inl e ↦ none_keeps t row (subst (λ x. IsFalse (meets x (leaves t))) (sym e) (none_of_empty (leaves t)))
    | inr s ↦ stretch_keeps c t row s.0 proper s.1 (λ a k. s.2 a)
  ],
)
