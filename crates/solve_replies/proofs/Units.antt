-- The unit model of a graph that an order gives.
use Rattle.std.proofs.Common.{◌≡◌, ◌∙◌, ℕ, suc, ◌+◌, ◌^◌, ◌<◌, ◌≤◌, All, List, [], ◌∷◌, Option, Some, None, refl, sym, ap, subst, arith}
use Rattle.std.specs.Prelude.{IsSomeAnd}
use Rattle.std.specs.List.{AllByRecursion}
use Rattle.column_order.specs.Orders.{IsValidOrder}
use Rattle.row_model.specs.declared.lists.Interval.{Interval}
use Rattle.row_model.specs.declared.TheConstants.{MAX_COLUMNS}
use Rattle.graph_model.specs.Graphs.{GraphValue, IsGraph}
use Rattle.proper_interval.specs.Umbrellas.{closed_to, closed_of}
use Rattle.unit_model.specs.Models.{IsUnitModel, lefts_of}
use Rattle.unit_model.specs.Rule.{AreLeftEnds}
use Rattle.unit_model.specs.Text.{UnitValue, IsEnd}
use Rattle.verdict_text.specs.Verdict.{SideValue}
use Rattle.instance_model.specs.Instance.{proper}
use Rattle.verdict_replies.specs.Verdicts.{ShowsSide, ShownOrderLaw}
use Rattle.solve_replies.specs.Models.{IsModelOf}

-- the unit model that is made of intervals
ends_low : (n : ℕ) (list : List Interval) → All (λ (a : Interval). a.right ≡ a.left + n) list → All (λ (a : Interval). a.right < 2 ^ 64) list → AllByRecursion IsEnd (lefts_of list)
ends_low n [] rights within = tt
ends_low n (a ∷ list) rights within =
    let right : a.right ≡ a.left + n = rights 0 a (omega arith) in
    let low : a.right < 2 ^ 64 = within 0 a (omega arith) in
    (omega (arith, right, low), ends_low n list (λ k d l. rights (suc k) d (omega arith)) (λ k d l. within (suc k) d (omega arith)))

pub made_model : (g : GraphValue) (order : List ℕ) (list : List Interval) (lefts : List ℕ) (n m : ℕ) (t : UnitValue) → IsGraph g → g.vertices ≤ MAX_COLUMNS → AreLeftEnds g order (lefts_of list)
    → IsUnitModel g g.vertices (lefts_of list) → All (λ (a : Interval). a.right ≡ a.left + g.vertices) list → All (λ (a : Interval). a.right < 2 ^ 64) list → lefts ≡ lefts_of list → n ≡ g.vertices → m ≡ n
    → t ≡ record { vertices = n; size = m; lefts = lefts } → IsModelOf g order t
made_model g order list lefts n m t h few rule model rights within is vertices size made =
    let of : ℕ → ℕ → List ℕ → UnitValue = λ k l ls. record { vertices = k; size = l; lefts = ls } in
    let whole : t ≡ record { vertices = g.vertices; size = g.vertices; lefts = lefts_of list } = made ∙ ap (λ k. of k m lefts) vertices ∙ ap (λ l. of g.vertices l lefts) (size ∙ vertices) ∙ ap (of g.vertices g.vertices) is in
    subst (IsModelOf g order) (sym whole) (record {
      vertices = refl;
      size = refl;
      rule = rule;
      model = model;
      grammar = record { vertices = (h.vertices.0, few); size = omega (arith, few); count = model.count; each = ends_low g.vertices list rights within };
    })

-- the order of a yes is a valid order of the closed rows
pub shown_valid : ShownOrderLaw → (g : GraphValue) (side : Option SideValue) (order : List ℕ) → IsSomeAnd side (ShowsSide (proper g) 1) → IsSomeAnd side (λ s. s.order ≡ order) → IsValidOrder g.vertices (closed_to g g.vertices) order
shown_valid shown g None order shows is = absurd shows
shown_valid shown g (Some side) order shows is = subst (λ o. IsValidOrder g.vertices (closed_to g g.vertices) o) is (shown (closed_of g) side shows)
