-- What is around the smallest node that holds the row stays, and so does what is around the others.
use Rattle.std.proofs.Common.{◌≡◌, ◌≢◌, inl, inr, ℕ, ◌≤◌, cond, eqb, List, refl, sym, ap, subst, ◌∙◌, arith}
use Rattle.std.proofs.lemmas.Bool.{cases_eq, cases_lt, ne_eqb}
use Rattle.column_order.specs.Orders.{occurs}
use Rattle.tree_theory.specs.declared.reducer.Step.{Step}
use Rattle.tree_theory.specs.declared.reducer.Step.TheVariants.{Taken, Refused}
use Rattle.arena_model.specs.Layout.{Layout, children_at, IsLayout, IsAtOrAbove, here, down}
use Rattle.arena_model.specs.RowLeaves.{Holds}
use Rattle.arena_model.proofs.Lists.{replaced_none}
use Rattle.arena_model.proofs.Paths.{above_ends, at_once, by, one_parent, one_path, top_alone}
use Rattle.pq_arena.specs.RowNodes.{column_leaves}
use Rattle.template_model.specs.Treated.{IsOutside}
use Rattle.template_model.proofs.Replaced.{join_paths, replaced_self}
use Rattle.row_reduce.specs.InPlace.{StaysAround, IsInPlace}
use Rattle.row_reduce.specs.Outcome.{IsOutcome}
use Rattle.row_reduce.proofs.Ending.{IsExchanged, same_root}

-- nothing changed
pub unmoved : (f : Layout) (row : List ℕ) → IsInPlace row f f
unmoved f row = λ q holds. (q, record { root = sym (same_root (eqb f.root q) f.root q refl); outside = λ m out. (refl, sym (replaced_self (children_at f m) q)) })

-- a node that is not at or below n has no node for a child that is below n
not_child : {f : Layout} {q n : ℕ} → IsLayout f → IsAtOrAbove f.slots n q → n ≢ q → (m : ℕ) → IsOutside f n m → occurs (children_at f m) q ≡ 0
not_child {f = f} {q = q} {n = n} layout l ne m out = elim (cases_lt 0 (occurs (children_at f m) q)) [
  | inl o ↦ absurd (elim (above_ends f.slots n q l) [
    | at_once e ↦ ne e
    | by p lp op ↦ out.1 (subst (λ z. IsAtOrAbove f.slots n z) (one_parent f p m q layout op o) lp)
  ])
  | inr o ↦ omega arith
]

-- what is around a node above q stays, and so does that node's place
above : {f h : Layout} {q a : ℕ} → IsExchanged f h q a → (n : ℕ) → IsAtOrAbove f.slots n q → n ≢ q → StaysAround f h n n
above {f = f} {h = h} {q = q} {a = a} r n l ne =
    let not_root : f.root ≢ q = (λ e. ne (top_alone f n f.root r.f_layout.root_top (subst (λ z. IsAtOrAbove f.slots n z) (sym e) l) ∙ e)) in
    record {
      root = r.root ∙ ap (λ b. cond b a f.root) (ne_eqb f.root q not_root) ∙ sym (same_root (eqb f.root n) f.root n refl);
      outside = λ m out.
          let s = r.outside m (out.0, λ lq. out.1 (join_paths f.slots n q m l lq)) in
          (s.0, s.1 ∙ replaced_none (children_at f m) q a (not_child r.f_layout l ne m out) ∙ sym (replaced_self (children_at f m) n));
    }

-- where the pertinent root has been replaced, the row was reduced in place
pub in_place : {f h : Layout} {q a : ℕ} (row : List ℕ) → IsExchanged f h q a → ((n : ℕ) → Holds f row n → IsAtOrAbove f.slots n q) → IsInPlace row f h
in_place {f = f} {h = h} {q = q} {a = a} row r least = λ n holds. elim (cases_eq n q) [
  | inl e ↦ (a, subst (λ z. StaysAround f h z a) (sym e) (record { root = r.root; outside = r.outside }))
  | inr ne ↦ (n, above r n (least n holds) ne)
]

-- a node that holds the row is above q, where q holds it and none of its children does
pub least_of : {f : Layout} {q : ℕ} (row : List ℕ) (x : ℕ) → IsLayout f → 1 ≤ occurs row x → Holds f row q → ((k : ℕ) → 1 ≤ occurs (children_at f q) k → Holds f row k → ⊥) →
    (n : ℕ) → Holds f row n → IsAtOrAbove f.slots n q
least_of {f = f} {q = q} row x layout o holds none n hn = elim (one_path f n q x layout (hn x o) (holds x o)) [
  | inl l ↦ l
  | inr l ↦ first q n l none hn
]
  where
    first : (q n : ℕ) → IsAtOrAbove f.slots q n → ((k : ℕ) → 1 ≤ occurs (children_at f q) k → Holds f row k → ⊥) → Holds f row n → IsAtOrAbove f.slots n q
    first _ _ (here n) none hn = here n
    first _ _ (down q k n ok l) none hn = absurd (none k ok (λ y oy. join_paths f.slots k n y l (hn y oy)))

-- whatever came of the row
pub row_in_place : (row : List ℕ) (f g : Layout) (step : Step) → IsOutcome row f g step → IsInPlace (column_leaves row) f g
row_in_place row f g Taken o = o.3
row_in_place row f g Refused o = subst (λ z. IsInPlace (column_leaves row) f z) (sym o.1) (unmoved f (column_leaves row))
