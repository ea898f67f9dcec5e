-- A unit model is a proper model by intervals of one length.
use Rattle.std.proofs.Common.{◌≡◌, ◌∙◌, ℕ, ◌+◌, ◌-◌, List, map, sym, ap, inl, inr, arith}
use Rattle.std.proofs.lemmas.Bool.{cases_lt}
use Rattle.std.proofs.lemmas.List.{get_or-map, length-map}
use Rattle.row_model.specs.declared.lists.Interval.{Interval}
use Rattle.graph_model.specs.Graphs.{GraphValue}
use Rattle.proper_interval.specs.Models.{IsVertex, IsProperModel, ShareNumber, ContainsInterval, interval_of}
use Rattle.proper_interval.specs.Laws.{ModelLaw}
use Rattle.unit_model.specs.Models.{IsUnitModel, DifferByAtMost, at_vertex}
use Rattle.unit_model.specs.Laws.{UnitLaw}

-- the interval of a length with a left end
abbrev interval_from : ℕ → ℕ → Interval
interval_from m left = record { left = left; right = left + m }

module _ (g : GraphValue) (m : ℕ) (lefts : List ℕ) (u : IsUnitModel g m lefts) where
  model_of : List Interval
  model_of = map (interval_from m) lefts

  its : (v : ℕ) → IsVertex g v → interval_of (map (interval_from m) lefts) v ≡ interval_from m (at_vertex lefts v)
  its v vv = get_or-map (interval_from m) lefts (v - 1) 0 (record { left = 0; right = 0 }) (omega (arith, vv.0, vv.1, u.count))

  -- two intervals of one length share a number where their left ends differ by at most the length
  share : (a b : ℕ) → DifferByAtMost m a b → ShareNumber (interval_from m a) (interval_from m b)
  share a b d = elim (cases_lt a b) [
    | inl l ↦ (b, ((omega arith, d.1), (omega arith, omega arith)))
    | inr l ↦ (a, ((omega arith, omega arith), (l, d.0)))
  ]

  differ : (a b : ℕ) → ShareNumber (interval_from m a) (interval_from m b) → DifferByAtMost m a b
  differ a b s = (omega (arith, s.1.0.0, s.1.1.1), omega (arith, s.1.1.0, s.1.0.1))

  -- and none contains another
  contain : (a b : ℕ) → ContainsInterval (interval_from m a) (interval_from m b) → interval_from m a ≡ interval_from m b
  contain a b c =
      let low = c b (omega arith, omega arith) in
      let high = c (b + m) (omega arith, omega arith) in
      let same : a ≡ b = omega (arith, low.0, high.1) in
      ap (interval_from m) same

  proper : IsProperModel g (map (interval_from m) lefts)
  proper = record {
    count = length-map lefts (interval_from m) ∙ u.count;
    ends = λ v vv. let e = its v vv in rw e (omega arith);
    meet = λ v w vv vw ne.
        let ev = its v vv in
        let ew = its w vw in
        rw (ev, ew) (
          λ s. (u.near v w vv vw ne).0 (differ (at_vertex lefts v) (at_vertex lefts w) s),
          λ e. share (at_vertex lefts v) (at_vertex lefts w) ((u.near v w vv vw ne).1 e),
        );
    proper = λ v w vv vw c.
        let ev = its v vv in
        let ew = its w vw in
        let there : ContainsInterval (interval_from m (at_vertex lefts v)) (interval_from m (at_vertex lefts w)) = rw (ev, ew) at c in
        ev ∙ contain (at_vertex lefts v) (at_vertex lefts w) there ∙ sym ew;
  }

pub unit_from : ModelLaw → UnitLaw
unit_from law g m lefts h u = law g (map (interval_from m) lefts) h (proper g m lefts u)
