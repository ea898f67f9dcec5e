-- The intervals of a graph are within the grammar, and their text is short.
use Rattle.std.proofs.Common.{◌≡◌, ℕ, suc, ◌+◌, ◌*◌, ◌<◌, ◌≤◌, List, [], ◌∷◌, ◌++◌, length, get_or, codes, sym, subst, arith}
use Rattle.std.specs.List.{AllByRecursion}
use Rattle.std.specs.Fmt.{decimal}
use Rattle.std.proofs.lemmas.List.{length-append}
use Rattle.std.proofs.Math.Nat.{mul-le-mul_left}
use Rattle.column_order.specs.Orders.{IsOrder, place}
use Rattle.column_order.proofs.Lists.{at_place}
use Rattle.column_order.proofs.Counts.{order_has, order_length}
use Rattle.row_model.specs.declared.TheConstants.{MAX_COLUMNS}
use Rattle.row_model.specs.declared.lists.Interval.{Interval}
use Rattle.graph_model.specs.Graphs.{GraphValue}
use Rattle.proper_interval.specs.Models.{interval_of}
use Rattle.proper_interval.specs.Formula.{vertex_at, interval_at, AreIntervals}
use Rattle.text_parts.specs.Numbered.{numbered}
use Rattle.verdict_text.specs.Grammar.{IsInterval}
use Rattle.text_parts.specs.Text.{number_word}
use Rattle.verdict_text.specs.Text.{interval_line}
use Rattle.verdict_replies.proofs.Lengths.{four_digits, seven_digits}

-- an interval of the greatest graph
abbrev pub IsNearInterval : Interval → Type 0
IsNearInterval v = (v.left ≤ 4196352) × (v.right ≤ 4198400)

-- the interval of a position of the greatest graph
near_at : (n i r : ℕ) → n ≤ MAX_COLUMNS → i ≤ n → r ≤ n → IsNearInterval (interval_at n i r)
near_at n i r few at reach = (
  omega (arith, mul-le-mul_left (n + 1) at, mul-le-mul_left (n + 1) few),
  omega (arith, mul-le-mul_left (n + 1) reach, mul-le-mul_left (n + 1) few),
)

module _ (g : GraphValue) (o : List ℕ) (list : List Interval) (few : g.vertices ≤ MAX_COLUMNS) (order : IsOrder g.vertices o) (are : AreIntervals g o list) where
  -- each vertex has a position, and the interval of that position
  near_vertex : (k : ℕ) → k < length list → IsNearInterval (get_or list k (record { left = 0; right = 0 }))
  near_vertex k lt =
      let v = k + 1 in
      let inside : v ≤ g.vertices = omega (arith, lt, are.count) in
      let at = at_place o v (order_has g.vertices o order v (omega arith) inside) in
      let i = place o v + 1 in
      let to : i ≤ g.vertices = omega (arith, at.0, order_length g.vertices o order) in
      let found = are.each i (omega arith) to in
      let same : vertex_at o i ≡ v = subst (λ (p : ℕ). get_or o p 0 ≡ v) (omega arith) at.1 in
      let is : interval_of list v ≡ interval_at g.vertices i found.0 = subst (λ (w : ℕ). interval_of list w ≡ interval_at g.vertices i found.0) same found.1.1 in
      let near : IsNearInterval (interval_of list v) = subst IsNearInterval (sym is) (near_at g.vertices i found.0 few to found.1.0.to) in
      subst (λ (p : ℕ). IsNearInterval (get_or list p (record { left = 0; right = 0 }))) (omega arith) near

-- what holds at each place of a list holds of each item
each_place : {A : Type 0} (P : A → Type 0) (d : A) (xs : List A) → ((k : ℕ) → k < length xs → P (get_or xs k d)) → AllByRecursion P xs
each_place P d [] h = tt
each_place P d (x ∷ xs) h = (h 0 (omega arith), each_place P d xs (λ k lt. h (suc k) (omega arith)))

pub near_intervals : (g : GraphValue) (o : List ℕ) (list : List Interval) → g.vertices ≤ MAX_COLUMNS → IsOrder g.vertices o → AreIntervals g o list → AllByRecursion IsNearInterval list
near_intervals g o list few order are = each_place IsNearInterval (record { left = 0; right = 0 }) list (near_vertex g o list few order are)

-- within the grammar
pub intervals_fit : (list : List Interval) → AllByRecursion IsNearInterval list → AllByRecursion IsInterval list
intervals_fit [] h = tt
intervals_fit (v ∷ list) h = ((omega (arith, h.0.0), omega (arith, h.0.1)), intervals_fit list h.1)

-- the line of an interval has at most 30 bytes
interval_length : (i : ℕ) (v : Interval) → i ≤ MAX_COLUMNS → IsNearInterval v → length (interval_line i v) ≤ 30
interval_length i v le h =
    omega (
      arith,
      four_digits i le,
      seven_digits v.left (omega (arith, h.0)),
      seven_digits v.right (omega (arith, h.1)),
      length-append (codes "interval ") (decimal i ++ (number_word v.left ++ (number_word v.right ++ 10 ∷ []))),
      length-append (decimal i) (number_word v.left ++ (number_word v.right ++ 10 ∷ [])),
      length-append (number_word v.left) (number_word v.right ++ 10 ∷ []),
      length-append (number_word v.right) (10 ∷ []),
    )

pub intervals_length : (i : ℕ) (list : List Interval) → i + length list ≤ MAX_COLUMNS + 1 → AllByRecursion IsNearInterval list → length (numbered interval_line i list) ≤ 30 * length list
intervals_length i [] le h = omega arith
intervals_length i (v ∷ list) le h =
    omega (
      arith,
      interval_length i v (omega (arith, le)) h.0,
      intervals_length (i + 1) list (omega (arith, le)) h.1,
      length-append (interval_line i v) (numbered interval_line (i + 1) list),
    )
