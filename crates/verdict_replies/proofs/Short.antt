-- The text of a verdict that is true of an instance is within the limit of bytes.
use Rattle.std.proofs.Common.{ℕ, ◌≤◌, List, [], ◌∷◌, ◌++◌, length, codes, sym, ap, inl, inr, subst, arith}
use Rattle.std.specs.Prelude.{flat_map, slice_get, IsSomeAnd}
use Rattle.std.specs.List.{AllByRecursion}
use Rattle.std.specs.Fmt.{decimal}
use Rattle.std.proofs.lemmas.List.{length-append}
use Rattle.column_order.proofs.Counts.{order_length}
use Rattle.row_model.specs.declared.TheConstants.{MAX_COLUMNS}
use Rattle.row_model.specs.Rows.{RowList}
use Rattle.instance_model.specs.Laws.{FewColumnsLaw, FewRowsLaw}
use Rattle.odd_cycle.specs.Laws.{CycleLengthLaw}
use Rattle.clone_map.specs.Laws.{SpansLaw}
use Rattle.verdict_replies.specs.declared.TheConstants.{MAX_VERDICT_BYTES}
use Rattle.pq_tree.specs.Text.{tree_text}
use Rattle.verdict_text.specs.Verdict.{SideValue, AddedValue, Claim, yes_claim, no_claim, VerdictValue}
use Rattle.verdict_text.specs.declared.verdict.Version.{Version}
use Rattle.verdict_text.specs.declared.verdict.Version.TheVariants.{One, Two}
use Rattle.verdict_text.specs.Grammar.{AreColumnCounts, IsVerdict}
use Rattle.verdict_text.specs.Text.{version_line, kind_line, columns_line, side_text, cycle_text, added_text, claim_text, head_text, verdict_text}
use Rattle.text_parts.specs.Text.{kind_word, number_word, cycle_line}
use Rattle.instance_model.specs.Instance.{InstanceValue, instance_kind, IsSideOf, derived_matrix, IsInstance, IsWellFormed}
use Rattle.verdict_replies.specs.Verdicts.{ShowsAllOrders, ShowsSides, AddsToOrder, IsClaimOf, IsVerdictOf}
use Rattle.verdict_replies.proofs.Lengths.{IsColumn, four_digits, seven_digits, words_length, tree_length, lines_length, small_kind}
use Rattle.verdict_replies.proofs.Sizes.{first_side}
use Rattle.verdict_replies.proofs.ShownOrders.{shown_order}
use Rattle.verdict_replies.proofs.Shown.{one_or_two, one_shown, two_shown}
use Rattle.verdict_replies.proofs.AddedFits.{adds_short}
use Rattle.verdict_replies.proofs.Fits.{order_columns, cycle_of_side, few_cycle}

counted_columns : (columns : List ℕ) → AreColumnCounts columns → AllByRecursion IsColumn columns
counted_columns [] h = tt
counted_columns (c ∷ columns) h = (h.0.1, counted_columns columns h.1)

short_line : (version : Version) → length (version_line version) ≤ 13
short_line One = omega arith
short_line Two = omega arith

head_short : (v : VerdictValue) → IsVerdict v → length (head_text v.version v.kind v.columns) ≤ 100
head_short v within =
    omega (
      arith,
      short_line v.version,
      small_kind v.kind,
      within.sides,
      words_length v.columns (counted_columns v.columns within.columns),
      length-append (version_line v.version) (kind_line v.kind ++ columns_line v.columns),
      length-append (kind_line v.kind) (columns_line v.columns),
      length-append (codes "kind ") (kind_word v.kind ++ 10 ∷ []),
      length-append (kind_word v.kind) (10 ∷ []),
      length-append (codes "columns") (flat_map number_word v.columns ++ 10 ∷ []),
      length-append (flat_map number_word v.columns) (10 ∷ []),
    )

side_short : (m : RowList) (side : SideValue) → m.columns ≤ MAX_COLUMNS → ShowsAllOrders m side → length (side_text side) ≤ 30000
side_short m side few shows =
    let columns = order_columns m side few shows in
    let leaves = subst (AllByRecursion IsColumn) shows.leaves columns in
    let tree = tree_length side.tree shows.proper.0 leaves in
    let same = ap length shows.leaves in
    omega (
      arith,
      tree,
      same,
      order_length m.columns side.order (shown_order m side shows).order,
      few,
      words_length side.order columns,
      length-append (codes "tree ") (tree_text side.tree ++ (codes "\norder" ++ (flat_map number_word side.order ++ 10 ∷ []))),
      length-append (tree_text side.tree) (codes "\norder" ++ (flat_map number_word side.order ++ 10 ∷ [])),
      length-append (codes "\norder") (flat_map number_word side.order ++ 10 ∷ []),
      length-append (flat_map number_word side.order) (10 ∷ []),
    )

module _ (few_columns : FewColumnsLaw) (few_rows : FewRowsLaw) (cycle_length : CycleLengthLaw) (spans : SpansLaw) (i : InstanceValue) (h : IsInstance i) (formed : IsWellFormed i) where
  sides_short : (sides : List SideValue) → ShowsSides i sides → length (flat_map side_text sides) ≤ 60000
  sides_short sides shows = elim (one_or_two i) [
    | inl one ↦
        let only = one_shown i sides (ap length one.columns) shows in
        let first = side_short (derived_matrix i 1) only.side (few_columns i 1 h (first_side i)) only.shows in
        omega (arith, first, ap (λ ss. length (flat_map side_text ss)) only.is, length-append (side_text only.side) [])
    | inr two ↦
        let both = two_shown i sides (ap length two.columns) shows in
        let count = ap length two.columns in
        let first = side_short (derived_matrix i 1) both.first (few_columns i 1 h (first_side i)) both.shows_first in
        let second = side_short (derived_matrix i 2) both.second (few_columns i 2 h (omega arith, omega (arith, count))) both.shows_second in
        omega (
          arith,
          first,
          second,
          ap (λ ss. length (flat_map side_text ss)) both.is,
          length-append (side_text both.first) (flat_map side_text (both.second ∷ [])),
          length-append (side_text both.second) [],
        )
  ]

  added_short : (sides : List SideValue) (added : AddedValue) → ShowsSides i sides → IsSomeAnd (slice_get sides 0) (λ side. AddsToOrder i side.order added) → length (added_text (instance_kind i) added) ≤ 3100000
  added_short [] added shows adds = absurd adds
  added_short (side ∷ sides) added shows adds = let first = shows.each 1 (first_side i) in adds_short few_columns spans i side.order added h (shown_order (derived_matrix i 1) side first).order adds

  claim_short : (claim : Claim) → IsClaimOf i claim → length (claim_text (instance_kind i) claim) ≤ 88100000
  claim_short (yes_claim value) true =
      omega (
        arith,
        sides_short value.sides true.0,
        added_short value.sides value.added true.0 true.1,
        length-append (codes "answer yes\n") (flat_map side_text value.sides ++ added_text (instance_kind i) value.added),
        length-append (flat_map side_text value.sides) (added_text (instance_kind i) value.added),
      )
  claim_short (no_claim s lines) true =
      let each = cycle_of_side few_columns few_rows cycle_length spans i h formed s lines true.0.side true.1.closed in
      let few = few_cycle few_columns few_rows cycle_length spans i h formed s lines true.0.side true.1 in
      let tail = 10 ∷ flat_map cycle_line lines in
      omega (
        arith,
        few,
        lines_length lines each,
        four_digits s (few_side s true.0.side),
        seven_digits (length lines) (omega (arith, few)),
        length-append (codes "answer no\n") (cycle_text s lines),
        length-append (codes "side ") (decimal s ++ (codes "\ncycle " ++ (decimal (length lines) ++ tail))),
        length-append (decimal s) (codes "\ncycle " ++ (decimal (length lines) ++ tail)),
        length-append (codes "\ncycle ") (decimal (length lines) ++ tail),
        length-append (decimal (length lines)) tail,
      )
    where
      few_side : (s : ℕ) → IsSideOf i s → s ≤ MAX_COLUMNS
      few_side s side = elim (one_or_two i) [ inl one ↦ omega (arith, side.1, ap length one.columns) | inr two ↦ omega (arith, side.1, ap length two.columns) ]

  pub short_text : (v : VerdictValue) → IsVerdict v → IsVerdictOf i v → length (verdict_text v) ≤ MAX_VERDICT_BYTES
  unfolding verdict_text
  short_text v within true =
      let claim : length (claim_text v.kind v.claim) ≤ 88100000 = subst (λ k. length (claim_text k v.claim) ≤ 88100000) (sym true.kind) (claim_short v.claim true.claim) in
      omega (arith, head_short v within, claim, length-append (head_text v.version v.kind v.columns) (claim_text v.kind v.claim ++ codes "end\n"), length-append (claim_text v.kind v.claim) (codes "end\n"))
