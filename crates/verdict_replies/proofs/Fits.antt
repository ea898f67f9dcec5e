-- A verdict that is true of an instance is within the grammar.
use Rattle.std.proofs.Common.{◌≡◌, ◌∙◌, ℕ, ◌≤◌, IsTrue, List, [], ◌∷◌, length, refl, sym, ap, inl, inr, subst, arith}
use Rattle.std.specs.Prelude.{slice_get, IsSomeAnd}
use Rattle.std.specs.List.{AllByRecursion}
use Rattle.column_order.specs.Orders.{has}
use Rattle.column_order.proofs.Lists.{has_head, has_tail}
use Rattle.column_order.proofs.Counts.{order_length, order_within}
use Rattle.row_model.specs.declared.graph.Pair.{Pair}
use Rattle.row_model.specs.declared.graph.Line.{Line}
use Rattle.row_model.specs.declared.graph.Why.{Why}
use Rattle.row_model.specs.declared.graph.Why.TheVariants.{Flip, Row}
use Rattle.row_model.specs.Graph.{IsPair, Fits}
use Rattle.row_model.specs.Cycles.{LeadTo, IsClosedWalk, IsOddCycle}
use Rattle.row_model.specs.declared.TheConstants.{MAX_COLUMNS, MAX_ROWS}
use Rattle.row_model.specs.Rows.{RowList}
use Rattle.instance_model.specs.Laws.{FewColumnsLaw, FewRowsLaw}
use Rattle.odd_cycle.specs.Laws.{CycleLengthLaw}
use Rattle.clone_map.specs.Laws.{SpansLaw}
use Rattle.verdict_text.specs.Verdict.{SideValue, Claim, yes_claim, no_claim, VerdictValue}
use Rattle.text_parts.specs.Grammar.{Fits32, IsColumnCount, IsLine}
use Rattle.verdict_text.specs.Grammar.{AreColumnCounts, IsSide, AreSides, HasAdded, IsClaim, IsVerdict, side_count}
use Rattle.instance_model.specs.Instance.{InstanceValue, instance_kind, instance_columns, IsSideOf, derived_matrix, IsInstance, IsWellFormed}
use Rattle.verdict_replies.specs.Verdicts.{ShowsAllOrders, ShowsSides, AddsToOrder, IsClaimOf, IsVerdictOf}
use Rattle.verdict_replies.proofs.Lengths.{IsColumn, IsCycleLine, IsRowReason, few_lines}
use Rattle.verdict_replies.proofs.Sizes.{first_side}
use Rattle.verdict_replies.proofs.ShownOrders.{shown_order}
use Rattle.verdict_replies.proofs.Shown.{sides_of_kind, one_or_two, one_shown, two_shown}
use Rattle.verdict_replies.proofs.AddedFits.{adds_fit}

-- a list of columns of the greatest matrix
pub columns_within : (row : List ℕ) → ((a : ℕ) → IsTrue (has row a) → IsColumn a) → AllByRecursion IsColumn row
columns_within [] h = tt
columns_within (x ∷ xs) h = (h x (has_head x xs), columns_within xs (λ a k. h a (has_tail x a xs k)))

pub columns_fit : (row : List ℕ) → AllByRecursion IsColumn row → AllByRecursion Fits32 row
columns_fit [] h = tt
columns_fit (x ∷ xs) h = (omega (arith, h.0), columns_fit xs h.1)

-- the lines of a closed walk are lines of a cycle of a matrix within the limits
wider : (c : ℕ) (v : Pair) → IsPair c v → c ≤ MAX_COLUMNS → IsPair MAX_COLUMNS v
wider c v p le = record { a_from = p.a_from; a_to = omega (arith, p.a_to); b_from = p.b_from; b_to = omega (arith, p.b_to); distinct = p.distinct }

row_reason : (rows : List (List ℕ)) (why : Why) (v w : Pair) → Fits rows why v w → length rows ≤ MAX_ROWS → IsRowReason why
row_reason rows Flip v w h le = tt
row_reason rows (Row k) v w h le = omega (arith, h.1)

lead_lines : (c : ℕ) (rows : List (List ℕ)) (lines : List Line) (end : Pair) → c ≤ MAX_COLUMNS → length rows ≤ MAX_ROWS → LeadTo c rows lines end → AllByRecursion IsCycleLine lines
lead_lines c rows [] end cl rl h = tt
lead_lines c rows (line ∷ lines) end cl rl h = ((wider c line.pair h.0.from cl, row_reason rows line.why line.pair _ h.0.fits rl), lead_lines c rows lines end cl rl h.1)

pub cycle_lines : (c : ℕ) (rows : List (List ℕ)) (lines : List Line) → c ≤ MAX_COLUMNS → length rows ≤ MAX_ROWS → IsClosedWalk c rows lines → AllByRecursion IsCycleLine lines
cycle_lines c rows [] cl rl h = tt
cycle_lines c rows (line ∷ lines) cl rl h = lead_lines c rows (line ∷ lines) line.pair cl rl h

line_fits : (line : Line) (why : Why) → line.why ≡ why → IsCycleLine line → IsLine line
line_fits line Flip e h = (omega (arith, h.0.a_to), omega (arith, h.0.b_to), rw e tt)
line_fits line (Row k) e h = let few : k ≤ MAX_ROWS = rw e at h.1 in (omega (arith, h.0.a_to), omega (arith, h.0.b_to), rw e (omega (arith, few)))

pub lines_fit : (lines : List Line) → AllByRecursion IsCycleLine lines → AllByRecursion IsLine lines
lines_fit [] h = tt
lines_fit (line ∷ lines) h = (line_fits line line.why refl h.0, lines_fit lines h.1)

-- the order of a side that shows the orders of a matrix
pub order_columns : (m : RowList) (side : SideValue) → m.columns ≤ MAX_COLUMNS → ShowsAllOrders m side → AllByRecursion IsColumn side.order
order_columns m side few shows = columns_within side.order (λ a k. let inside = order_within m.columns side.order (shown_order m side shows).order a k in omega (arith, inside.1, few))

side_fits : (m : RowList) (side : SideValue) → IsColumnCount m.columns → ShowsAllOrders m side → IsSide m.columns side
side_fits m side count shows =
    (shows.proper, omega (arith, order_length m.columns side.order (shown_order m side shows).order, count.0), columns_fit side.order (order_columns m side count.1 shows))

module _ (few_columns : FewColumnsLaw) (few_rows : FewRowsLaw) (cycle_length : CycleLengthLaw) (spans : SpansLaw) (i : InstanceValue) (h : IsInstance i) (formed : IsWellFormed i) where
  sides_fit : (sides : List SideValue) → AreColumnCounts (instance_columns i) → ShowsSides i sides → AreSides (instance_columns i) sides
  sides_fit sides counts shows = elim (one_or_two i) [
    | inl one ↦
        let only = one_shown i sides (ap length one.columns) shows in
        let count : AreColumnCounts ((derived_matrix i 1).columns ∷ []) = subst AreColumnCounts one.columns counts in
        subst (λ cs. AreSides cs sides) (sym one.columns) (subst (AreSides ((derived_matrix i 1).columns ∷ [])) (sym only.is) (side_fits (derived_matrix i 1) only.side count.0 only.shows, tt))
    | inr two ↦
        let both = two_shown i sides (ap length two.columns) shows in
        let columns = (derived_matrix i 1).columns ∷ (derived_matrix i 2).columns ∷ [] in
        let count : AreColumnCounts columns = subst AreColumnCounts two.columns counts in
        let fit : AreSides columns (both.first ∷ both.second ∷ []) =
        (side_fits (derived_matrix i 1) both.first count.0 both.shows_first, (side_fits (derived_matrix i 2) both.second count.1.0 both.shows_second, tt)) in
        subst (λ cs. AreSides cs sides) (sym two.columns) (subst (AreSides columns) (sym both.is) fit)
  ]

  -- the lines of an odd cycle of the derived matrix of a side
  pub cycle_of_side : (s : ℕ) (lines : List Line) → IsSideOf i s → IsClosedWalk (derived_matrix i s).columns (derived_matrix i s).rows lines → AllByRecursion IsCycleLine lines
  cycle_of_side s lines side closed = cycle_lines (derived_matrix i s).columns (derived_matrix i s).rows lines (few_columns i s h side) (few_rows i s h formed side) closed

  -- how many they are at most
  pub few_cycle : (s : ℕ) (lines : List Line) → IsSideOf i s → IsOddCycle (derived_matrix i s).columns (derived_matrix i s).rows lines → length lines ≤ 4192256
  few_cycle s lines side odd = few_lines (derived_matrix i s).columns (length lines) (few_columns i s h side) (cycle_length (derived_matrix i s).columns (derived_matrix i s).rows lines odd)

  claim_fits : (claim : Claim) → AreColumnCounts (instance_columns i) → IsClaimOf i claim → IsClaim (instance_kind i) (instance_columns i) claim
  claim_fits (yes_claim value) counts true = (sides_fit value.sides counts true.0, added_fits value.sides true.0 true.1)
    where
      added_fits : (sides : List SideValue) → ShowsSides i sides → IsSomeAnd (slice_get sides 0) (λ side. AddsToOrder i side.order value.added) → HasAdded (instance_kind i) (instance_columns i) value.added
      added_fits [] shows adds = absurd adds
      added_fits (side ∷ sides) shows adds = let first = shows.each 1 (first_side i) in adds_fit few_columns spans i side.order value.added h (shown_order (derived_matrix i 1) side first).order adds
  claim_fits (no_claim s lines) counts true =
      let each = cycle_of_side s lines true.0.side true.1.closed in
      (true.0.side.0, omega (arith, true.0.side.1, sides_of_kind i h), omega (arith, few_cycle s lines true.0.side true.1), lines_fit lines each)

  pub in_grammar : (v : VerdictValue) → AreColumnCounts v.columns → IsVerdictOf i v → IsVerdict v
  in_grammar v counts true =
      let counts' : AreColumnCounts (instance_columns i) = subst AreColumnCounts true.columns counts in
      let claim : IsClaim v.kind v.columns v.claim =
      subst (λ k. IsClaim k v.columns v.claim) (sym true.kind) (subst (λ cs. IsClaim (instance_kind i) cs v.claim) (sym true.columns) (claim_fits v.claim counts' true.claim)) in
      record { sides = ap length true.columns ∙ sides_of_kind i h ∙ ap side_count (sym true.kind); columns = counts; claim = claim }
