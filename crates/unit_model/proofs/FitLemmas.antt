-- A unit model fits at each vertex, and left ends that do are one.
use Rattle.std.proofs.Common.{◌≡◌, ◌↔◌, ◌∙◌, ℕ, ◌+◌, ◌-◌, ◌<◌, ◌≤◌, Some, slice_get, List, [], length, get_or, IsTrue, sym, ap, subst, arith}
use Rattle.std.proofs.lemmas.Bool.{both_ways}
use Rattle.std.proofs.lemmas.Option.{get_or_from_slice_get}
use Rattle.column_order.specs.Orders.{has}
use Rattle.graph_model.specs.Graphs.{GraphValue, IsGraph}
use Rattle.unit_model.specs.Models.{IsUnitModel, DifferByAtMost, at_vertex}
use Rattle.unit_model.specs.Fitting.{EndFits}

pub model_fits : (g : GraphValue) (m : ℕ) (lefts : List ℕ) → IsUnitModel g m lefts → (k : ℕ) → k < g.vertices → EndFits lefts m k (get_or g.neighbours k [])
model_fits g m lefts u k l i a n =
    let at_k : k + 1 - 1 ≡ k = omega arith in
    let at_i : i + 1 - 1 ≡ i = omega arith in
    let one = u.near (k + 1) (i + 1) (omega arith, omega arith) (omega arith, omega (arith, a, u.count)) (λ e. n (omega (arith, e))) in
    subst (λ x. DifferByAtMost m (get_or lefts x 0) (get_or lefts i 0) ↔ IsTrue (has (get_or g.neighbours x []) (i + 1))) at_k
    (subst (λ y. DifferByAtMost m (get_or lefts (k + 1 - 1) 0) (get_or lefts y 0) ↔ IsTrue (has (get_or g.neighbours (k + 1 - 1) []) (i + 1))) at_i one)

pub model_from : (g : GraphValue) (m : ℕ) (lefts : List ℕ) → 1 ≤ m → length lefts ≡ g.vertices → ((k : ℕ) → k < g.vertices → EndFits lefts m k (get_or g.neighbours k [])) → IsUnitModel g m lefts
model_from g m lefts some count fits = record {
  positive = some;
  count = count;
  near = λ u v vu vv ne.
      let at_v : v - 1 + 1 ≡ v = omega (arith, vv.0) in
      let one = fits (u - 1) (omega (arith, vu.0, vu.1)) (v - 1) (omega (arith, vv.0, vv.1, count)) (λ e. ne (omega (arith, e, vu.0, vv.0))) in
      subst (λ y. DifferByAtMost m (at_vertex lefts u) (at_vertex lefts v) ↔ IsTrue (has (get_or g.neighbours (u - 1) []) y)) at_v one;
}

-- the neighbours of the vertex at a place
pub row_there : (lists : List (List ℕ)) (k : ℕ) (row : List ℕ) → slice_get lists (k + 1 - 1) ≡ Some row → row ≡ get_or lists k []
row_there lists k row e =
    let at : k + 1 - 1 ≡ k = omega arith in
    sym (get_or_from_slice_get lists k row [] (ap (slice_get lists) (sym at) ∙ e))

-- what holds of the row that a call gives holds of the neighbours, both ways
pub fits_there : (lefts : List ℕ) (m k : ℕ) (lists : List (List ℕ)) (row : List ℕ) → slice_get lists (k + 1 - 1) ≡ Some row → EndFits lefts m k row ↔ EndFits lefts m k (get_or lists k [])
fits_there lefts m k lists row e = let same = row_there lists k row e in (subst (EndFits lefts m k) same, subst (EndFits lefts m k) (sym same))

-- it is none of them
pub lacks_self : (g : GraphValue) (k : ℕ) (row : List ℕ) → IsGraph g → slice_get g.neighbours (k + 1 - 1) ≡ Some row → IsTrue (has row (k + 1)) → ⊥
lacks_self g k row graph e t =
    let there : row ≡ get_or g.neighbours (k + 1 - 1) [] = sym (get_or_from_slice_get g.neighbours (k + 1 - 1) row [] e) in
    both_ways (has row (k + 1)) (ap (λ r. has r (k + 1)) there ∙ graph.loopless (k + 1) (omega arith)) t
