-- The two ways of a search: all rows one by one, or along an order that is valid for the rows before the last.
use Rattle.std.proofs.Common.{◌≡◌, ℕ, ◌+◌, ◌-◌, ◌*◌, ◌≤◌, Vec, Global, List, [], Some, None, length, take, drop, sum_by, refl, sym, subst, arith}
use Rattle.std.proofs.lemmas.List.Sums.{sum_by_more}
use Rattle.std.proofs.lemmas.Nat.{mul-le}
use Rattle.std.proofs.lemmas.Option.{none-some, same_Some}
use Rattle.column_order.specs.Orders.{IsValidOrder}
use Rattle.row_model.specs.Graph.{row_at}
use Rattle.row_model.specs.Rows.{RowList}
use Rattle.open_gaps.specs.Gaps.{AreGaps}
use Rattle.open_gaps.specs.Tables.{GapTable}
use Rattle.odd_cycle.specs.Marks.{Marking}
use Rattle.walk_search.specs.declared.neighbours.Neighbours.{Neighbours}
use Rattle.walk_search.specs.MarkedOnes.{marked_ones, sum_to}
use Rattle.walk_search.specs.Weights.{weight, most_weight}
use Rattle.walk_search.specs.Holders.{AreHolders, without}
use Rattle.walk_search.specs.Neighbours.{AreOpenGaps, AreNeighbours}
use Rattle.walk_search.proofs.HolderLaws.{lists_of, ones_split}
use Rattle.walk_search.proofs.WeightLaws.{one_more, weight_sum, most_ones}
use Rattle.walk_search.proofs.MarkedOnes.{marked_within}

-- all rows are further rows
pub near_none : (m : RowList) (rows : ℕ) (holders : Vec (Vec ℕ Global) Global) → AreHolders (without 0 m) rows (lists_of holders.items) → AreNeighbours m rows (record { first = 0; gaps = None; holders = holders })
near_none m rows holders h = record { gaps = λ t e. absurd (none-some t e); none = λ e. refl; holders = h }

-- only the last row is one
pub near_along : (m : RowList) (k : ℕ) (order : List ℕ) (t : GapTable) (holders : Vec (Vec ℕ Global) Global) → IsValidOrder m.columns (take (k - 1) m.rows) order → t.order ≡ order → AreGaps (take (k - 1) m.rows) order t.gaps →
    AreHolders (without (k - 1) m) 1 (lists_of holders.items) → AreNeighbours m 1 (record { first = k - 1; gaps = Some t; holders = holders })
near_along m k order t holders valid same gaps h =
    let opened : AreOpenGaps m.columns (take (k - 1) m.rows) t = record {
      valid = subst (IsValidOrder m.columns (take (k - 1) m.rows)) (sym same) valid;
      gaps = subst (λ o. AreGaps (take (k - 1) m.rows) o t.gaps) (sym same) gaps;
    } in
    record { gaps = λ u e. subst (AreOpenGaps m.columns (take (k - 1) m.rows)) (same_Some t u e) opened; none = λ e. absurd (none-some t (sym e)); holders = h }

-- the ones of the first rows are some of those of the rows up to row k
pub first_ones : (rows : List (List ℕ)) (k : ℕ) → 1 ≤ k → sum_by length (take (k - 1) rows) + sum_by length (take 1 (drop (k - 1) rows)) ≡ sum_by length (take k rows)
first_ones rows k from =
    let last = sum_by length (take 1 (drop (k - 1) rows)) in
    let up : k - 1 + 1 ≡ k = omega arith in
    subst (λ n. sum_by length (take (k - 1) rows) + last ≡ sum_by length (take n rows)) up (ones_split rows (k - 1) 1)

-- the ones of row k
pub last_ones : (rows : List (List ℕ)) (k : ℕ) → 1 ≤ k → k ≤ length rows → sum_by length (take 1 (drop (k - 1) rows)) ≡ length (row_at rows k)
last_ones rows k from to =
    omega (arith, ones_split rows (k - 1) 1, sum_by_more length rows (k - 1) [] (omega arith))

-- a step for each column that has its turn and one, for each pair from which a tree is tried, for each marked one, and for each node
-- as its first column weighs
pub all_bound : (c ones marked tried weighed before after : ℕ) → 1 ≤ c → marked ≤ c * ones → weighed ≤ (c - 1) * ones → after ≤ before + (c + 1) + tried + marked + weighed →
    after + ones ≤ before + 2 * (c * ones) + tried + c + 1
all_bound c ones marked tried weighed before after some few light h =
    omega (arith, h, few, light, one_more c ones some)

-- the same along an order
pub along_bound : (c ones last marked weighed before after : ℕ) → 1 ≤ c → marked ≤ c * last → weighed ≤ (c - 1) * ones → after ≤ before + 1 + c + marked + weighed →
    after + ones ≤ before + c * ones + c * last + c + 1
along_bound c ones last marked weighed before after some few light h =
    omega (arith, h, few, light, one_more c ones some)

-- three for each one at each column are within the bound of the search
pub record AreWithin (c ones before after : ℕ) : Type 0 where
  pub ticks : after ≤ before + 8 * c * (ones + 1)
  pub few : after ≤ before + 3 * c * (ones + 1) + 1
  pub square : after ≤ before + c * (2 * ones + c + 3) + 1

pub are_within : (c ones before after : ℕ) → 1 ≤ c → after ≤ before + 3 * (c * ones) + 3 * c + 1 → after ≤ before + 2 * (c * ones) + c * c + 3 * c + 1 → AreWithin c ones before after
are_within c ones before after some few square =
    let wide : 8 * c * (ones + 1) ≡ 8 * (c * ones) + 8 * c = grind arith in
    let narrow : 3 * c * (ones + 1) ≡ 3 * (c * ones) + 3 * c = grind arith in
    let all : c * (2 * ones + c + 3) ≡ 2 * (c * ones) + c * c + 3 * c = grind arith in
    record { ticks = omega (arith, few, wide); few = omega (arith, few, narrow); square = omega (arith, square, all) }

-- along an order, where each one of the first rows was counted before
pub across_bound : (rows : List (List ℕ)) (c k before held after : ℕ) → 1 ≤ k → held ≤ before + c + sum_by length (take 1 (drop (k - 1) rows)) →
    after + sum_by length (take k rows) ≤ held + c * sum_by length (take k rows) + c * sum_by length (take 1 (drop (k - 1) rows)) + c + 1 →
    after + sum_by length (take (k - 1) rows) ≤ before + 2 * c * (sum_by length (take k rows) + 1) + 1
across_bound rows c k before held after from h a =
    let last = sum_by length (take 1 (drop (k - 1) rows)) in
    let ones = sum_by length (take k rows) in
    let all = first_ones rows k from in
    let few : c * last ≤ c * ones = mul-le c last c ones (omega arith) (omega (arith, all)) in
    let bound : 2 * c * (ones + 1) ≡ 2 * (c * ones) + 2 * c = grind arith in
    omega (arith, h, a, all, few, bound)

-- and where memory was refused before
pub across_early : (c ones first last before held : ℕ) → 1 ≤ c → first + last ≡ ones → held ≤ before + c + last → held + first ≤ before + 2 * c * (ones + 1) + 1
across_early c ones first last before held some all h =
    let bound : 2 * c * (ones + 1) ≡ 2 * (c * ones) + 2 * c = grind arith in
    let once : 1 * ones ≤ c * ones = mul-le 1 ones c ones some (omega arith) in
    omega (arith, h, all, bound, once)

-- the bounds of a search that was not handed an order, by what was counted when it ended
module _ (m : RowList) (near : Neighbours) (further : ℕ) (near_is : AreNeighbours m further near) (fits : near.first + further ≤ length m.rows) (some : 1 ≤ m.columns) (marks : Marking) (count : marks.rows ≡ further)
    (columns : marks.columns ≡ m.columns) (before after : ℕ) where
  few_marks : marked_ones (drop near.first m.rows) marks ≤ m.columns * sum_by length (take (near.first + further) m.rows)
  few_marks =
      let last = sum_by length (take further (drop near.first m.rows)) in
      let ones = sum_by length (take (near.first + further) m.rows) in
      let all : m.columns * last ≤ m.columns * ones = mul-le m.columns last m.columns ones (omega arith) (omega (arith, ones_split m.rows near.first further)) in
      omega (arith, all, marked_within m.rows near.first further m.columns marks fits count columns)

  pub bounded : after ≤ before + (m.columns + 1) + (m.columns + m.columns * sum_to (weight m near) m.columns) + marked_ones (drop near.first m.rows) marks + most_weight m near →
      after + sum_by length (take (near.first + further) m.rows) ≤ before + 3 * (m.columns * sum_by length (take (near.first + further) m.rows)) + 2 * m.columns + 1
  bounded h =
      let ones = sum_by length (take (near.first + further) m.rows) in
      let w = sum_to (weight m near) m.columns in
      let tried : m.columns * w ≤ m.columns * ones = mul-le m.columns w m.columns ones (omega arith) (weight_sum m near further near_is) in
      omega (arith, tried, all_bound m.columns ones (marked_ones (drop near.first m.rows) marks) (m.columns + m.columns * w) (most_weight m near) before after some few_marks (most_ones m near further near_is) h)

  pub squared : after ≤ before + (m.columns + 1) + (m.columns * m.columns + m.columns) + marked_ones (drop near.first m.rows) marks + most_weight m near →
      after + sum_by length (take (near.first + further) m.rows) ≤ before + 2 * (m.columns * sum_by length (take (near.first + further) m.rows)) + m.columns * m.columns + 2 * m.columns + 1
  squared h =
      let ones = sum_by length (take (near.first + further) m.rows) in
      omega (arith, all_bound m.columns ones (marked_ones (drop near.first m.rows) marks) (m.columns * m.columns + m.columns) (most_weight m near) before after some few_marks (most_ones m near further near_is) h)

  -- and of one that was
  pub followed : after ≤ before + 1 + m.columns + marked_ones (drop near.first m.rows) marks + most_weight m near →
      after + sum_by length (take (near.first + further) m.rows) ≤ before + m.columns * sum_by length (take (near.first + further) m.rows) + m.columns * sum_by length (take further (drop near.first m.rows)) + m.columns + 1
  followed h =
      along_bound m.columns (sum_by length (take (near.first + further) m.rows)) (sum_by length (take further (drop near.first m.rows))) (marked_ones (drop near.first m.rows) marks) (most_weight m near) before after some
      (marked_within m.rows near.first further m.columns marks fits count columns) (most_ones m near further near_is) h

-- the ones, where there is a column
pub fewer : (columns ones : ℕ) → 1 ≤ columns → ones ≤ columns * ones
fewer columns ones some = (let once : 1 * ones ≤ columns * ones = mul-le 1 ones columns ones some (omega arith) in omega (arith, once))
