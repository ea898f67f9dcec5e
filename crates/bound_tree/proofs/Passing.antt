-- Open gaps seen from one side, and the table of ways over passed positions.
use Rattle.std.proofs.Common.{◌≡◌, ◌≢◌, ℕ, ◌+◌, ◌-◌, ◌<◌, ◌≤◌, List, length, set, slice_index, slice_index_or, ap, sym, subst, inl, inr, arith, get_or-set_same, get_or-set_other}
use Rattle.std.proofs.lemmas.Bool.{cases_eq, cases_order}
use Rattle.std.proofs.lemmas.List.{length-set}
use Rattle.open_gaps.specs.declared.gap.Gap.{Gap}
use Rattle.open_gaps.specs.Gaps.{IsOpen, IsGap, AreGaps}
use Rattle.bound_tree.specs.declared.side.Side.{Side}
use Rattle.bound_tree.specs.declared.side.Side.TheVariants.{Left, Right}
use Rattle.bound_tree.specs.Sides.{IsOpenFrom, IsPassed, GoesDown, SkipsOnly}

no_gap : Gap
no_gap = record { last = 0; last_row = 0; first = 0; first_row = 0 }

module _ (rows : List (List ℕ)) (o : List ℕ) (gaps : List Gap) (are : AreGaps rows o gaps) where
  -- what is open for a column on one side of it is open for each column farther on that side
  opens_right : (q p r : ℕ) → q + 1 < p → p ≤ r → r < length o → IsOpen rows o q p → IsOpen rows o q r
  opens_right q p r l m u h =
      let gap : IsGap rows o q (slice_index_or gaps q no_gap) = are q no_gap (omega arith) in
      let past = gap.right.no_other h.0 p l (omega arith) h.1 in
      ((slice_index_or gaps q no_gap).last_row, gap.right.opens r (omega arith) (omega (arith, past, m)) u)

  opens_left : (q p r : ℕ) → q + 1 < length o → p < q → r ≤ p → IsOpen rows o q p → IsOpen rows o q r
  opens_left q p r w l m h =
      let gap : IsGap rows o q (slice_index_or gaps q no_gap) = are q no_gap w in
      let past = gap.left.no_other h.0 p l h.1 in
      ((slice_index_or gaps q no_gap).first_row, gap.left.opens r (omega arith) (omega (arith, past, m)))

  -- and so from each side
  pub opens_before : (side : Side) (q p r : ℕ) → q + 1 < length o → p < q → r ≤ p → IsOpenFrom side rows o q p → IsOpenFrom side rows o q r
  opens_before Left q p r w l m h = opens_left q p r w l m h
  opens_before Right q p r w l m h = opens_right (length o - 2 - q) (length o - 1 - p) (length o - 1 - r) (omega arith) (omega arith) (omega arith) h

  opens_behind : (side : Side) (q p r : ℕ) → q + 1 < p → p ≤ r → r < length o → IsOpenFrom side rows o q p → IsOpenFrom side rows o q r
  opens_behind Left q p r l m u h = opens_right q p r l m u h
  opens_behind Right q p r l m u h = opens_left (length o - 2 - q) (length o - 1 - p) (length o - 1 - r) (omega arith) (omega arith) (omega arith) h

  -- what a gap passes, each later gap passes
  pub passed_later : (side : Side) (at to p : ℕ) → at ≤ to → to ≤ length o → IsPassed side rows o at p → IsPassed side rows o to p
  passed_later side at to p l u h =
      record {
        some = h.some;
        apart = omega (arith, l, h.apart);
        opens = opens_behind side (p - 1) (at - 1) (to - 1) (omega (arith, h.some, h.apart)) (omega arith) (omega (arith, h.apart)) h.opens;
      }

-- a table over more positions
pub skips_more : (P Q : ℕ → Type 0) (before : List ℕ) → ((p : ℕ) → P p → Q p) → SkipsOnly P before → SkipsOnly Q before
skips_more P Q before more h i p l a b = more p (h i p l a b)

-- a table that has for each position the one before it
pub skips_none : (P : ℕ → Type 0) (before : List ℕ) (n : ℕ) → length before ≡ n → ((i : ℕ) → i < n → slice_index before i ≡ i - 1) → SkipsOnly P before
skips_none P before n e h i p l a b = absurd (omega (arith, h i (omega (arith, l, e)), a, b))

pub down_none : (before : List ℕ) (n : ℕ) → length before ≡ n → ((i : ℕ) → i < n → slice_index before i ≡ i - 1) → GoesDown before
down_none before n e h i l u = omega (arith, h i (omega (arith, u, e)), l)

-- position p, for which the table has q, is given the one that the table has for q
module _ (before : List ℕ) (p q : ℕ) (within : p < length before) (is : slice_index before p ≡ q) where
  here : slice_index (set before p (slice_index before q)) p ≡ slice_index before q
  here = get_or-set_same before p (slice_index before q) 0 within

  elsewhere : (j : ℕ) → j ≢ p → slice_index (set before p (slice_index before q)) j ≡ slice_index before j
  elsewhere j n = get_or-set_other before p j (slice_index before q) 0 n

  pub shorter_down : q < p → 1 ≤ q → GoesDown before → GoesDown (set before p (slice_index before q))
  shorter_down l s h i a b =
      elim (cases_eq i p) [
        | inl e ↦ omega (arith, ap (slice_index (set before p (slice_index before q))) e, here, h q s (omega arith), e, l)
        | inr n ↦ omega (arith, elsewhere i n, h i a (omega (arith, b, length-set before p (slice_index before q))))
      ]

  pub shorter_skips : (P : ℕ → Type 0) → q < p → P q → SkipsOnly P before → SkipsOnly P (set before p (slice_index before q))
  shorter_skips P l known h i x a b c =
      elim (cases_eq i p) [
        | inr n ↦ h i x (omega (arith, a, length-set before p (slice_index before q))) (omega (arith, elsewhere i n, b)) c
        | inl e ↦
            elim (cases_order x q) [
              | inl s ↦ subst P (sym s) known
              | inr (inl s) ↦ h q x (omega arith) (omega (arith, ap (slice_index (set before p (slice_index before q))) e, here, b)) s
              | inr (inr s) ↦ h p x within (omega (arith, is, s)) (omega (arith, c, e))
            ]
      ]

-- more positions are passed on the way down
pub passed_more : (P : ℕ → Type 0) (before : List ℕ) (from p q : ℕ) → p < length before → q ≡ slice_index before p → SkipsOnly P before → P p →
    ((x : ℕ) → p < x → x ≤ from → P x) → (x : ℕ) → q < x → x ≤ from → P x
passed_more P before from p q within is h known all x a b =
    elim (cases_order x p) [
      | inl e ↦ subst P (sym e) known
      | inr (inl l) ↦ h p x within (omega (arith, is, a)) l
      | inr (inr l) ↦ all x l b
    ]
