-- What is above a node, up to a top.
use Rattle.std.proofs.Common.{◌≡◌, inl, inr, ℕ, zero, suc, ◌+◌, ◌≤◌, ◌<◌, List, [], ◌∷◌, length, sym, subst, arith}
use Rattle.std.proofs.lemmas.Bool.{cases_eq, cases_lt}
use Rattle.column_order.specs.Orders.{occurs}
use Rattle.arena_model.specs.Layout.{Layout, times_child, IsAtOrAbove, here, down, IsInUse, StandsAlone, IsLayout}
use Rattle.arena_model.specs.NamedTree.{IsOneTree}
use Rattle.arena_model.proofs.Lists.{occurs_other, occurs_same, few_once}
use Rattle.arena_model.proofs.Paths.{top_alone}
use Rattle.arena_model.proofs.Slots.{in_range, placed_in, parent_used}
use Rattle.arena_model.proofs.Trees.{no_circle}

-- a node in use that is no child, at or above x
pub record TopOver (f : Layout) (x : ℕ) : Type 0 where
  pub node : ℕ
  pub used : IsInUse f node
  pub top : times_child f.slots node ≡ 0
  pub above : IsAtOrAbove f.slots node x

-- from x upwards, xs being the nodes on the way
upwards : (f : Layout) (fuel x y : ℕ) (xs : List ℕ) → IsLayout f → ((z : ℕ) → occurs (x ∷ xs) z ≤ 1) → ((z : ℕ) → 1 ≤ occurs (x ∷ xs) z → IsInUse f z × IsAtOrAbove f.slots x z) →
    1 ≤ occurs (x ∷ xs) y → length f.slots ≤ length xs + fuel → TopOver f y
upwards f zero x y xs h once each oy enough =
    absurd (let few : length (x ∷ xs) ≤ length f.slots = few_once (x ∷ xs) (length f.slots) once (λ z o. in_range f z (each z o).0) in omega arith)
upwards f (suc fuel) x y xs h once each oy enough = elim (cases_lt 0 (times_child f.slots x)) [
  | inr l ↦ record { node = x; used = (each x (omega (arith, occurs_same x xs))).0; top = omega arith; above = (each y oy).1 }
  | inl l ↦
      let m = placed_in f.slots x l in
      let new : occurs (x ∷ xs) m.0 ≡ 0 = (elim (cases_lt 0 (occurs (x ∷ xs) m.0)) [
        | inl o ↦ absurd (no_circle f.slots m.0 x (h.grounds m.0) m.1 (each m.0 o).1)
        | inr o ↦ omega arith
      ]) in
      upwards f fuel m.0 y (x ∷ xs) h
      (λ z. elim (cases_eq z m.0) [
        | inl e ↦ subst (λ v. occurs (m.0 ∷ x ∷ xs) v ≤ 1) (sym e) (omega (arith, occurs_same m.0 (x ∷ xs)))
        | inr ne ↦ let o : occurs (x ∷ xs) z ≤ 1 = once z in omega (arith, occurs_other m.0 z (x ∷ xs) ne)
      ])
      (λ z o. elim (cases_eq z m.0) [
        | inl e ↦ (subst (λ v. IsInUse f v) (sym e) (parent_used f m.0 x m.1 h), subst (λ v. IsAtOrAbove f.slots m.0 v) (sym e) (here m.0))
        | inr ne ↦ let p = each z (subst (λ v. 1 ≤ v) (occurs_other m.0 z (x ∷ xs) ne) o) in (p.0, down m.0 x z m.1 p.1)
      ])
      (let k : 1 ≤ occurs (x ∷ xs) y = oy in omega arith) (omega arith)
]

pub top_over : (f : Layout) (x : ℕ) → IsLayout f → IsInUse f x → TopOver f x
top_over f x h used = upwards f (length f.slots) x x [] h (λ z. elim (cases_eq z x) [
  | inl e ↦ subst (λ v. occurs (x ∷ []) v ≤ 1) (sym e) (omega (arith, occurs_same x []))
  | inr ne ↦ omega (arith, occurs_other x z [] ne)
])
    (λ z o. elim (cases_eq z x) [
      | inl e ↦ (subst (λ v. IsInUse f v) (sym e) used, subst (λ v. IsAtOrAbove f.slots x v) (sym e) (here x))
      | inr ne ↦ absurd (let q : occurs (x ∷ []) z ≡ 0 = occurs_other x z [] ne in omega arith)
    ])
    (omega (arith, occurs_same x [])) (omega arith)

-- where all are at or below the root, no node stands alone
pub one_alone : (f : Layout) (n : ℕ) → StandsAlone f n → IsOneTree f → ⊥
one_alone f n a one = a.other (sym (top_alone f f.root n a.apart (one n a.used)))

-- where no node stands alone, all are at or below the root
pub none_alone : (f : Layout) → IsLayout f → ((k : ℕ) → k < length f.slots → StandsAlone f k → ⊥) → IsOneTree f
none_alone f h no_one = λ n used.
    let t : TopOver f n = top_over f n h used in
    elim (cases_eq t.node f.root) [
      | inl e ↦ subst (λ v. IsAtOrAbove f.slots v n) e t.above
      | inr ne ↦ absurd (no_one t.node (in_range f t.node t.used) (record { used = t.used; apart = t.top; other = ne }))
    ]
