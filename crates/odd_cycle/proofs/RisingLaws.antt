-- Pairs that rise, and lines whose pairs do.
use Rattle.std.proofs.Common.{◌≡◌, ◌≢◌, ◌∙◌, ℕ, ◌<◌, true, false, List, length, map, get_or, AllPairs, Ordering, Less, Equal, Greater, Some, refl, sym, ap, subst, arith}
use Rattle.std.specs.Bool.{Decides}
use Rattle.std.specs.Cmp.{IsTotalOrder}
use Rattle.std.specs.List.{AllAdjacentBelow, IsDistinct}
use Rattle.std.specs.List.Sorted.{IsPermutation, IsStrictlySortedBy}
use Rattle.std.specs.Ordering.{MatchOrdering, nat_cmp, ordering_then, partial_ordering_then, ordering_reverse, is_le, is_eq, is_some_and, eq_by_cmp}
use Rattle.std.proofs.lemmas.Cmp.{ranked, then_total, on_total, nat_cmp_total, tied_itself, eq_by_cmp_equiv}
use Rattle.std.proofs.lemmas.List.{get_or-map, length-map}
use Rattle.std.proofs.lemmas.List.Sorted.{IsPermutation-sym}
use Rattle.std.proofs.lemmas.Map.Keys.{sorted_from_all_adjacent, Less-from_sorted, IsDistinct-IsPermutation}
use Rattle.std.proofs.lemmas.Map.Made.{AllPairs-from_IsDistinct, IsDistinct-from_AllPairs}
use Rattle.row_model.specs.declared.graph.Pair.{Pair}
use Rattle.row_model.specs.declared.graph.Line.{Line}
use Rattle.row_model.proofs.Pairs.{same_pair}
use Rattle.odd_cycle.specs.Short.{columns_of}

-- the order of pairs: by their first columns, and by their second ones where these are the same
abbrev pub pair_cmp : Pair → Pair → Ordering
pair_cmp v w = ordering_then (nat_cmp v.a w.a) (nat_cmp v.b w.b)

pair_order : IsTotalOrder pair_cmp
pair_order = then_total (on_total (λ (v : Pair). v.a) nat_cmp_total) (on_total (λ (v : Pair). v.b) nat_cmp_total)

both_tied : (a b c d : ℕ) (r s : Ordering) → MatchOrdering r (a < b) (a ≡ b) (b < a) → MatchOrdering s (c < d) (c ≡ d) (d < c) →
    is_eq (ordering_then r s) ≡ true → (a ≡ b) × (c ≡ d)
both_tied a b c d Less s p q e = absurd (cc)
both_tied a b c d Equal Less p q e = absurd (cc)
both_tied a b c d Equal Equal p q e = (p, q)
both_tied a b c d Equal Greater p q e = absurd (cc)
both_tied a b c d Greater s p q e = absurd (cc)

-- the order tells all pairs apart
tied_are_same : (v w : Pair) → Decides (eq_by_cmp pair_cmp v w) (v ≡ w)
tied_are_same v w = (
  λ e.
      let parts = both_tied v.a w.a v.b w.b (nat_cmp v.a w.a) (nat_cmp v.b w.b) (ranked v.a w.a (nat_cmp v.a w.a) refl) (ranked v.b w.b (nat_cmp v.b w.b) refl) e in
      same_pair v w parts.0 parts.1,
  λ e. subst (λ (x : Pair). eq_by_cmp pair_cmp v x ≡ true) e (ap is_eq (tied_itself pair_order v)),
)

below_by : (r s : Ordering) → s ≡ ordering_reverse r → is_le r ≡ false → s ≡ Less
below_by Less s e f = absurd (cc)
below_by Equal s e f = absurd (cc)
below_by Greater s e f = e

le_by : (r s : Ordering) → is_some_and is_le (partial_ordering_then (Some r) (Some s)) ≡ is_le (ordering_then r s)
le_by Less s = refl
le_by Equal s = refl
le_by Greater s = refl

-- of two pairs of which the first is not at most the second, as `<=` tests it, the second is less
pub less_from_not_le : (v w : Pair) → is_some_and is_le (partial_ordering_then (Some (nat_cmp v.a w.a)) (Some (nat_cmp v.b w.b))) ≡ false → pair_cmp w v ≡ Less
less_from_not_le v w f = below_by (pair_cmp v w) (pair_cmp w v) (pair_order.antisymm w v) (sym (le_by (nat_cmp v.a w.a) (nat_cmp v.b w.b)) ∙ f)

-- pairs each of which is less than the next are distinct
pub apart_from_rising : (pairs : List Pair) → AllAdjacentBelow (λ v w. pair_cmp v w ≡ Less) pairs (length pairs) → AllPairs (λ v w. v ≢ w) pairs
apart_from_rising pairs up i j d low m same =
    let sorted : IsStrictlySortedBy pair_cmp pairs = sorted_from_all_adjacent pair_order pairs d (λ k l. up k d l) in
    let less : pair_cmp (get_or pairs i d) (get_or pairs j d) ≡ Less = Less-from_sorted pair_cmp pairs i j d sorted low m in
    let tied : pair_cmp (get_or pairs i d) (get_or pairs j d) ≡ Equal = subst (λ (x : Pair). pair_cmp (get_or pairs i d) x ≡ Equal) same (tied_itself pair_order (get_or pairs i d)) in
    let never : Less ≡ Equal = sym less ∙ tied in
    absurd (cc)

-- lines whose columns are distinct in some order have distinct columns
pub apart_by_columns : (lines : List Line) (pairs : List Pair) → IsPermutation (map columns_of lines) pairs → AllPairs (λ v w. v ≢ w) pairs →
    AllPairs (λ (x : Line) (y : Line). columns_of x ≢ columns_of y) lines
apart_by_columns lines pairs p apart i j d low m same =
    let own = map columns_of lines in
    let moved : IsDistinct (eq_by_cmp pair_cmp) pairs = IsDistinct-from_AllPairs tied_are_same pairs apart in
    let distinct : IsDistinct (eq_by_cmp pair_cmp) own = IsDistinct-IsPermutation (eq_by_cmp pair_cmp) (eq_by_cmp_equiv pair_order).symm pairs own (IsPermutation-sym own pairs p) moved in
    AllPairs-from_IsDistinct tied_are_same own distinct i j d.pair low (omega (arith, m, length-map lines columns_of))
    (get_or-map columns_of lines i d d.pair (omega arith) ∙ same ∙ sym (get_or-map columns_of lines j d d.pair m))
