-- The intervals of an umbrella order are a proper model.
use Rattle.std.proofs.Common.{◌≡◌, ◌≢◌, ◌↔◌, ◌∙◌, ℕ, ◌+◌, ◌-◌, ◌*◌, ◌<◌, ◌≤◌, List, length, get_or, IsTrue, sym, ap, subst, inl, inr, arith}
use Rattle.std.proofs.lemmas.Bool.{cases_eq, cases_lt, cases_order}
use Rattle.std.proofs.lemmas.List.{ext_get_or}
use Rattle.std.proofs.Math.Nat.{mul-le-mul_left}
use Rattle.row_model.specs.declared.lists.Interval.{Interval}
use Rattle.column_order.specs.Orders.{place}
use Rattle.column_order.proofs.Lists.{at_place}
use Rattle.column_order.proofs.Counts.{order_has, order_length}
use Rattle.graph_model.specs.Graphs.{GraphValue, IsGraph, has_edge}
use Rattle.proper_interval.specs.Umbrellas.{IsUmbrellaOrder}
use Rattle.proper_interval.specs.Models.{IsVertex, interval_of, EndsInOrder, ShareNumber, ContainsInterval}
use Rattle.proper_interval.specs.Formula.{vertex_at, IsReach, AreIntervals, interval_at}
use Rattle.proper_interval.specs.Laws.{IntervalsLaw}
use Rattle.proper_interval.proofs.IntervalLemmas.{shares}

-- a multiple that passes another by at most n is no more than it
no_more : (n j r i : ℕ) → (n + 1) * j ≤ (n + 1) * r + i → i ≤ n → j ≤ r
no_more n j r i l u = elim (cases_lt r j) [
  | inl lt ↦
      let next : (n + 1) * (r + 1) ≤ (n + 1) * j = mul-le-mul_left (n + 1) (omega arith) in
      let more : (n + 1) * (r + 1) ≡ (n + 1) * r + (n + 1) = omega arith in
      absurd (omega arith)
  | inr le ↦ le
]

-- a number shared by two is shared both ways
turn : {a b : Interval} → ShareNumber a b → ShareNumber b a
turn s = (s.0, (s.1.1, s.1.0))

-- two positions i before j, which reach to r and to s
module _ (n i j r s : ℕ) (ij : i < j) (jn : j ≤ n) (ir : i ≤ r) (js : j ≤ s) (rs : r ≤ s) where
  a_first : (n + 1) * i ≤ (n + 1) * j
  a_first = mul-le-mul_left (n + 1) (omega arith)

  a_ends : (n + 1) * i ≤ (n + 1) * r
  a_ends = mul-le-mul_left (n + 1) ir

  b_ends : (n + 1) * j ≤ (n + 1) * s
  b_ends = mul-le-mul_left (n + 1) js

  ends_rise : (n + 1) * r ≤ (n + 1) * s
  ends_rise = mul-le-mul_left (n + 1) rs

  share_within : ShareNumber (interval_at n i r) (interval_at n j s) → j ≤ r
  share_within t = no_more n j r i (omega (arith, t.1.0.1, t.1.1.0)) (omega arith)

  within_share : j ≤ r → ShareNumber (interval_at n i r) (interval_at n j s)
  within_share l =
      let b_first : (n + 1) * j ≤ (n + 1) * r = mul-le-mul_left (n + 1) l in
      shares (interval_at n i r) (interval_at n j s) (omega (arith, a_ends)) (omega (arith, b_ends)) (omega (arith, a_first, b_ends)) (omega (arith, b_first))

  first_lacks : ContainsInterval (interval_at n i r) (interval_at n j s) → ⊥
  first_lacks t =
      let end = t ((n + 1) * s + j) (omega (arith, b_ends), omega arith) in
      omega (arith, end.1, ends_rise)

  second_lacks : ContainsInterval (interval_at n j s) (interval_at n i r) → ⊥
  second_lacks t =
      let start = t ((n + 1) * i) (omega arith, omega (arith, a_ends)) in
      let back : j ≤ i = no_more n j i 0 (omega (arith, start.0)) (omega arith) in
      omega (arith, back)

module _ (g : GraphValue) (o : List ℕ) (list : List Interval) (h : IsGraph g) (u : IsUmbrellaOrder g o) (f : AreIntervals g o list) where
  long : length o ≡ g.vertices
  long = order_length g.vertices o u.order

  -- an edge covers the positions between its ends
  under : (i j k : ℕ) → 1 ≤ i → i < j → j < k → k ≤ g.vertices → IsTrue (has_edge g.neighbours (vertex_at o i) (vertex_at o k)) →
      IsTrue (has_edge g.neighbours (vertex_at o i) (vertex_at o j)) × IsTrue (has_edge g.neighbours (vertex_at o j) (vertex_at o k))
  under i j k l ij jk m e = u.under (i - 1) (j - 1) (k - 1) (omega arith) (omega arith) (omega (arith, long)) e

  -- a later position is reached exactly where there is an edge to it
  reach_edge : (i j r : ℕ) → 1 ≤ i → i < j → j ≤ g.vertices → IsReach g o i r → j ≤ r → IsTrue (has_edge g.neighbours (vertex_at o i) (vertex_at o j))
  reach_edge i j r l ij jn reach jr = elim reach.reached [
    | inl e ↦ absurd (omega arith)
    | inr e ↦ elim (cases_eq j r) [
      | inl s ↦ subst (λ x. IsTrue (has_edge g.neighbours (vertex_at o i) (vertex_at o x))) (sym s) e
      | inr n ↦ (under i j r l ij (omega arith) reach.to e).0
    ]
  ]

  edge_reach : (i j r : ℕ) → i < j → j ≤ g.vertices → IsReach g o i r → IsTrue (has_edge g.neighbours (vertex_at o i) (vertex_at o j)) → j ≤ r
  edge_reach i j r ij jn reach e = reach.whole j (omega arith) jn (inr e)

  -- a later position reaches as far
  rises : (i j r s : ℕ) → 1 ≤ i → i < j → j ≤ g.vertices → IsReach g o i r → IsReach g o j s → r ≤ s
  rises i j r s l ij jn first second = elim (cases_lt j r) [
    | inl jr ↦ elim first.reached [
      | inl e ↦ absurd (omega arith)
      | inr e ↦ second.whole r (omega arith) first.to (inr (under i j r l ij jr first.to e).1)
    ]
    | inr le ↦ omega (arith, second.from)
  ]

  there : ℕ → Interval
  there i = interval_of list (vertex_at o i)

  ends_there : (i : ℕ) → 1 ≤ i → i ≤ g.vertices → EndsInOrder (there i)
  unfolding there
  ends_there i l m =
      let at = f.each i l m in
      let up : (g.vertices + 1) * i ≤ (g.vertices + 1) * at.0 = mul-le-mul_left (g.vertices + 1) at.1.0.from in
      subst EndsInOrder (sym at.1.1) (omega (arith, up))

  -- two intervals meet exactly where there is an edge, and neither contains the other
  two_there : (i j : ℕ) → 1 ≤ i → i < j → j ≤ g.vertices → (ShareNumber (there i) (there j) ↔ IsTrue (has_edge g.neighbours (vertex_at o i) (vertex_at o j))) ×
      (ContainsInterval (there i) (there j) → ⊥) × (ContainsInterval (there j) (there i) → ⊥)
  unfolding there
  two_there i j l ij jn =
      let a = f.each i l (omega arith) in
      let b = f.each j (omega arith) jn in
      let n = g.vertices in
      let rise = rises i j a.0 b.0 l ij jn a.1.0 b.1.0 in
      rw (a.1.1, b.1.1) (
        (
          λ t. reach_edge i j a.0 l ij jn a.1.0 (share_within n i j a.0 b.0 ij jn a.1.0.from b.1.0.from rise t),
          λ e. within_share n i j a.0 b.0 ij jn a.1.0.from b.1.0.from rise (edge_reach i j a.0 ij jn a.1.0 e),
        ),
        first_lacks n i j a.0 b.0 ij jn a.1.0.from b.1.0.from rise,
        second_lacks n i j a.0 b.0 ij jn a.1.0.from b.1.0.from rise,
      )

  -- each vertex stands at a position
  record Stands (v : ℕ) : Type 0 where
    at : ℕ
    from : 1 ≤ at
    to : at ≤ g.vertices
    is : vertex_at o at ≡ v

  stands : (v : ℕ) → IsVertex g v → Stands v
  stands v r =
      let found = at_place o v (order_has g.vertices o u.order v r.0 r.1) in
      let at : place o v + 1 - 1 ≡ place o v = omega arith in
      record { at = place o v + 1; from = omega arith; to = omega (arith, found.0, long); is = ap (λ i. get_or o i 0) at ∙ found.1 }

  meets_at : (a b : ℕ) → IsVertex g a → IsVertex g b → a ≢ b → ShareNumber (interval_of list a) (interval_of list b) ↔ IsTrue (has_edge g.neighbours a b)
  unfolding there
  meets_at a b ra rb n =
      let p = stands a ra in
      let q = stands b rb in
      rw (← p.is, ← q.is) (elim (cases_order p.at q.at) [
        | inl e ↦ absurd (n (sym p.is ∙ ap (vertex_at o) e ∙ q.is))
        | inr c ↦ elim c [
          | inl before ↦ (two_there p.at q.at p.from before q.to).0
          | inr after ↦
              let back = (two_there q.at p.at q.from after p.to).0 in
              let turned = h.symmetric (vertex_at o p.at) (vertex_at o q.at) (omega (arith, ra.0, p.is)) (omega (arith, rb.0, q.is)) in
              (λ t. turned ∙ back.0 (turn t), λ e. turn (back.1 (sym turned ∙ e)))
        ]
      ])

  proper_at : (a b : ℕ) → IsVertex g a → IsVertex g b → ContainsInterval (interval_of list a) (interval_of list b) → interval_of list a ≡ interval_of list b
  unfolding there
  proper_at a b ra rb =
      let p = stands a ra in
      let q = stands b rb in
      rw (← p.is, ← q.is) (λ t. elim (cases_order p.at q.at) [
        | inl e ↦ ap (λ i. interval_of list (vertex_at o i)) e
        | inr c ↦ elim c [
          | inl before ↦ absurd ((two_there p.at q.at p.from before q.to).1 t)
          | inr after ↦ absurd ((two_there q.at p.at q.from after p.to).2 t)
        ]
      ])

  ends_at : (v : ℕ) → IsVertex g v → EndsInOrder (interval_of list v)
  unfolding there
  ends_at v r = let p = stands v r in rw (← p.is) (ends_there p.at p.from p.to)

pub intervals_fit : IntervalsLaw
intervals_fit g o list h u f = record {
  count = f.count;
  ends = ends_at g o list h u f;
  meet = meets_at g o list h u f;
  proper = proper_at g o list h u f;
}

-- a position reaches to one last position
one_reach : (g : GraphValue) (o : List ℕ) (i r s : ℕ) → IsReach g o i r → IsReach g o i s → r ≡ s
one_reach g o i r s a b = omega (arith, a.whole s b.from b.to b.reached, b.whole r a.from a.to a.reached)

-- two lists of intervals of an umbrella order are equal
pub same_intervals : (g : GraphValue) (o : List ℕ) (list other : List Interval) → IsGraph g → IsUmbrellaOrder g o → AreIntervals g o list → AreIntervals g o other → list ≡ other
same_intervals g o list other h u f e =
    let none : Interval = record { left = 0; right = 0 } in
    ext_get_or none list other (f.count ∙ sym e.count) (λ k l.
    let p = stands g o list h u f (k + 1) (omega arith, omega (arith, f.count)) in
    let a = f.each p.at p.from p.to in
    let b = e.each p.at p.from p.to in
    let same = a.1.1 ∙ ap (interval_at g.vertices p.at) (one_reach g o p.at a.0 b.0 a.1.0 b.1.0) ∙ sym b.1.1 in
    let same_here : interval_of list (k + 1) ≡ interval_of other (k + 1) = subst (λ v. interval_of list v ≡ interval_of other v) p.is same in
    let at : k + 1 - 1 ≡ k = omega arith in
    subst (λ i. get_or list i none ≡ get_or other i none) at same_here)
