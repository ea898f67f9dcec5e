-- The place of a column, by the positions that are kept, and whether a row is found.
use Rattle.std.proofs.Common.{◌≡◌, ◌↔◌, ◌∙◌, ℕ, ◌+◌, ◌-◌, ◌<◌, ◌≤◌, Bool, IsTrue, Option, None, Some, List, length, get_or, slice_get, refl, sym, ap, subst, arith}
use Rattle.std.specs.Prelude.{MatchOption}
use Rattle.std.specs.Option.{is_some}
use Rattle.std.proofs.lemmas.Bool.{both_ways}
use Rattle.std.proofs.lemmas.Option.{slice_get_read, get_or_from_slice_get}
use Rattle.column_order.specs.Orders.{place, IsOrder}
use Rattle.column_order.proofs.Counts.{order_has}
use Rattle.column_order.proofs.Lists.{at_place}
use Rattle.row_model.specs.Positions.{ArePositions}
use Rattle.open_gaps.specs.declared.gap.Gap.{Gap}
use Rattle.open_gaps.specs.declared.table.OpenGaps.TheInside.{Inside}
use Rattle.open_gaps.specs.Gaps.{AreGaps}
use Rattle.open_gaps.specs.Tables.{GapTable, table_within, HasEachGap}

pub place_is : (order positions : List ℕ) (column value : ℕ) → IsOrder (length order) order → ArePositions order positions → 1 ≤ column → column ≤ length order
    → value ≡ get_or positions (column - 1) value → (1 ≤ value) × (value - 1 ≡ place order column) × (value - 1 < length order)
place_is order positions column value is are low high read =
    let there : slice_get positions (column - 1) ≡ Some value =
    slice_get_read positions (length positions) (column - 1) value refl (omega (arith, are.columns, low, high)) read in
    let at : get_or positions (column - 1) 0 ≡ value = get_or_from_slice_get positions (column - 1) value 0 there in
    let has = order_has (length order) order is column low high in
    let position : value ≡ place order column + 1 = sym at ∙ are.places column has in
    (omega (arith, position), omega (arith, position), omega (arith, position, (at_place order column has).0))

-- some number has the property exactly where one is given that has it
pub found : (r : Option ℕ) (P : ℕ → Type 0) (some : Bool) → some ≡ is_some r → MatchOption r ((k : ℕ) → P k → ⊥) P → IsTrue some ↔ ((k : ℕ) × P k)
found None P some e none = (λ t. absurd (both_ways some e t), λ h. absurd (none h.0 h.1))
found (Some k) P some e is = (λ t. (k, is), λ h. e)

-- what a table keeps, told of what contracts see of it
pub record Kept (t : GapTable) (gaps : List Gap) : Type 0 where
  pub order : IsOrder (length t.order) t.order
  pub long : length t.order ≡ length gaps
  pub are : (rows : List (List ℕ)) → AreGaps rows t.order t.gaps → AreGaps rows t.order gaps

pub kept : (inside : Inside) (t : GapTable) (gaps : List Gap) → HasEachGap inside → table_within inside ≡ t → gaps ≡ inside.gaps.items → Kept t gaps
kept inside t gaps h e g =
    record {
      order = subst (λ (l : List ℕ). IsOrder (length l) l) (ap (λ x. x.order) e) h.order;
      long = omega (arith, h.gaps, ap (λ x. length x.order) e, ap (λ (l : List Gap). length l) g);
      are = λ rows. subst (AreGaps rows t.order) (sym (g ∙ ap (λ x. x.gaps) e));
    }
