-- Pairs of columns: when two are one.
use Rattle.std.proofs.Common.{◌≡◌, ◌≢◌, ◌⊎◌, ◌∙◌, ap, inl, inr}
use Rattle.std.proofs.lemmas.Bool.{cases_eq}
use Rattle.row_model.specs.declared.graph.Pair.{Pair}
use Rattle.row_model.specs.Graph.{pair}

pub same_pair : (v w : Pair) → v.a ≡ w.a → v.b ≡ w.b → v ≡ w
same_pair v w e f = ap (λ x. pair x v.b) e ∙ ap (λ y. pair w.a y) f

pub cases_pair : (v w : Pair) → (v ≡ w) ⊎ (v ≢ w)
cases_pair v w =
    elim (cases_eq v.a w.a) [
      | inl e ↦ elim (cases_eq v.b w.b) [ inl f ↦ inl (same_pair v w e f) | inr n ↦ inr (λ g. n (ap (λ (x : Pair). x.b) g)) ]
      | inr n ↦ inr (λ g. n (ap (λ (x : Pair). x.a) g))
    ]
