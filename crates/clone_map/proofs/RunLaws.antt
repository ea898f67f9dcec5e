-- Spans from left to right, and the runs between the gaps that no place covers.
use Rattle.std.proofs.Common.{◌≡◌, ◌⊎◌, ◌∙◌, ◌↔◌, ℕ, zero, suc, ◌+◌, ◌<◌, ◌≤◌, List, [], ◌∷◌, length, All, refl, sym, ap, subst, inl, inr, arith}
use Rattle.std.specs.List.{slice_index_or}
use Rattle.std.proofs.lemmas.Bool.{cases_lt}
use Rattle.std.proofs.lemmas.List.Elements.{All-contains, All-nil, All-cons}
use Rattle.row_model.specs.declared.lists.Place.{Place}
use Rattle.row_model.specs.declared.lists.Span.{Span}
use Rattle.clone_map.specs.Contigs.{Cover, InOneSpan}
use Rattle.clone_map.specs.Laws.{IsWithinOrder, SpansLaw}
use Rattle.clone_map.specs.Runs.{IsCovered, IsRun, AreRuns}
use Rattle.clone_map.proofs.ChainLaws.{IsBetween}

cover_le : (before end : ℕ) (spans : List Span) → Cover before end spans → before ≤ end
cover_le before end [] h = omega arith
cover_le before end (s ∷ spans) h = omega (arith, h.0, h.1, cover_le s.last end spans h.2)

-- the span has both positions
abbrev HasTwo : Span → ℕ → ℕ → Type 0
HasTwo s i j = (s.first ≤ i) × (i ≤ s.last) × (s.first ≤ j) × (j ≤ s.last)

in_first : (s : Span) (spans : List Span) (i j : ℕ) → s.first ≤ i → i ≤ s.last → s.first ≤ j → j ≤ s.last → InOneSpan (s ∷ spans) i j
in_first s spans i j a b d e = record { span = s; among = (zero, omega arith, refl); has_one = (a, b); has_other = (d, e) }

in_further : (s : Span) (spans : List Span) (i j : ℕ) → InOneSpan spans i j → InOneSpan (s ∷ spans) i j
in_further s spans i j h = record { span = h.span; among = (suc h.among.0, omega (arith, h.among.1), h.among.2); has_one = h.has_one; has_other = h.has_other }

in_cases : (s : Span) (spans : List Span) (i j : ℕ) → InOneSpan (s ∷ spans) i j → HasTwo s i j ⊎ InOneSpan spans i j
in_cases s spans i j h = at h.among.0 h.among.1 h.among.2
  where
    at : (k : ℕ) → k < length (s ∷ spans) → slice_index_or (s ∷ spans) k h.span ≡ h.span → HasTwo s i j ⊎ InOneSpan spans i j
    at zero l e =
        inl (subst (λ (x : Span). (x.first ≤ i) × (i ≤ x.last) × (x.first ≤ j) × (j ≤ x.last)) (sym e) (h.has_one.0, h.has_one.1, h.has_other.0, h.has_other.1))
    at (suc k) l e = inr (record { span = h.span; among = (k, omega arith, e); has_one = h.has_one; has_other = h.has_other })

-- the positions of a span lie after the beginning and up to the end
in_cover : (before end : ℕ) (spans : List Span) (i j : ℕ) → Cover before end spans → InOneSpan spans i j → (before < i) × (before < j) × (i ≤ end) × (j ≤ end)
in_cover before end [] i j h k = absurd (omega (arith, k.among.1))
in_cover before end (s ∷ spans) i j h k =
    elim (in_cases s spans i j k) [
      | inl t ↦ (let u = cover_le s.last end spans h.2 in (omega (arith, t.0, h.0), omega (arith, t.2, h.0), omega (arith, t.1), omega (arith, t.3)))
      | inr t ↦ (let r = in_cover s.last end spans i j h.2 t in (omega (arith, r.0, h.0, h.1), omega (arith, r.1, h.0, h.1), r.2, r.3))
    ]

-- each position between is in some span
span_at : (before end : ℕ) (spans : List Span) (i : ℕ) → Cover before end spans → before < i → i ≤ end → InOneSpan spans i i
span_at before end [] i h l u = absurd (omega arith)
span_at before end (s ∷ spans) i h l u =
    elim (cases_lt s.last i) [
      | inl k ↦ in_further s spans i i (span_at s.last end spans i h.2 k u)
      | inr k ↦ in_first s spans i i (omega (arith, h.0)) k (omega (arith, h.0)) k
    ]

span_same : (s t : Span) → s.first ≡ t.first → s.last ≡ t.last → s ≡ t
span_same s t e f =
    let make : ℕ → ℕ → Span = λ first last. record { first = first; last = last } in
    ap (λ n. make n s.last) e ∙ ap (make t.first) f

-- the first span of the one list does not end before that of the other
no_shorter : (before end : ℕ) (s : Span) (spans : List Span) (t : Span) (others : List Span) → Cover before end (s ∷ spans) → Cover before end (t ∷ others) →
    ((i j : ℕ) → InOneSpan (t ∷ others) i j → InOneSpan (s ∷ spans) i j) → t.last ≤ s.last
no_shorter before end s spans t others h k same =
    elim (cases_lt s.last t.last) [
      | inl l ↦
          let both : InOneSpan (t ∷ others) s.last (s.last + 1) = in_first t others s.last (s.last + 1) (omega (arith, h.0, h.1, k.0)) (omega arith) (omega (arith, h.0, h.1, k.0)) (omega arith) in
          absurd (elim (in_cases s spans s.last (s.last + 1) (same s.last (s.last + 1) both)) [
            | inl two ↦ omega (arith, two.3)
            | inr one ↦ omega (arith, (in_cover s.last end spans s.last (s.last + 1) h.2 one).0)
          ])
      | inr l ↦ l
    ]

-- two lists that cover the same positions, and have the same positions in one span, are equal
pub cover_only : (before end : ℕ) (spans others : List Span) → Cover before end spans → Cover before end others → ((i j : ℕ) → InOneSpan spans i j ↔ InOneSpan others i j) → spans ≡ others
cover_only before end [] [] h k same = refl
cover_only before end [] (t ∷ others) h k same = absurd (omega (arith, h, k.0, k.1, cover_le t.last end others k.2))
cover_only before end (s ∷ spans) [] h k same = absurd (omega (arith, k, h.0, h.1, cover_le s.last end spans h.2))
cover_only before end (s ∷ spans) (t ∷ others) h k same =
    let first : s.first ≡ t.first = omega (arith, h.0, k.0) in
    let le : t.last ≤ s.last = no_shorter before end s spans t others h k (λ i j. (same i j).1) in
    let ge : s.last ≤ t.last = no_shorter before end t others s spans k h (λ i j. (same i j).0) in
    let last : s.last ≡ t.last = omega arith in
    let rest : Cover s.last end others = subst (λ n. Cover n end others) (sym last) k.2 in
    let right : (i j : ℕ) → InOneSpan spans i j → InOneSpan others i j = λ i j one.
    elim (in_cases t others i j ((same i j).0 (in_further s spans i j one))) [
      | inl two ↦ absurd (omega (arith, two.1, (in_cover s.last end spans i j h.2 one).0))
      | inr other ↦ other
    ] in
    let left : (i j : ℕ) → InOneSpan others i j → InOneSpan spans i j = λ i j one.
    elim (in_cases s spans i j ((same i j).1 (in_further t others i j one))) [
      | inl two ↦ absurd (omega (arith, two.1, (in_cover s.last end others i j rest one).0))
      | inr other ↦ other
    ] in
    ap (λ x. x ∷ spans) (span_same s t first last) ∙ ap (λ xs. t ∷ xs) (cover_only s.last end spans others h.2 rest (λ i j. (right i j, left i j)))

-- the positions of a span are those of the order
pub in_range : (end : ℕ) (spans : List Span) (i j : ℕ) → Cover 0 end spans → InOneSpan spans i j → (1 ≤ i) × (i ≤ end) × (1 ≤ j) × (j ≤ end)
in_range end spans i j h one = (let r = in_cover 0 end spans i j h one in (omega (arith, r.0), r.2, omega (arith, r.1), r.3))

pub in_swapped : (spans : List Span) (i j : ℕ) → InOneSpan spans i j → InOneSpan spans j i
in_swapped spans i j h = record { span = h.span; among = h.among; has_one = h.has_other; has_other = h.has_one }

module _ (count : ℕ) (places : List Place) (spans : List Span) (are : AreRuns count places spans) where
  -- two positions with only covered gaps between them are in one span
  pub in_one_run : (i j : ℕ) → 1 ≤ i → i ≤ j → j ≤ count → ((gap : ℕ) → i ≤ gap → gap < j → IsCovered places gap) → InOneSpan spans i j
  in_one_run i j a b d gaps =
      let s : InOneSpan spans i i = span_at 0 count spans i are.cover (omega arith) (omega arith) in
      let run : IsRun places s.span = All-contains (IsRun places) spans s.span are.runs s.among in
      elim (cases_lt s.span.last j) [
        | inl l ↦ absurd (run.ends (gaps s.span.last s.has_one.1 l))
        | inr l ↦ record { span = s.span; among = s.among; has_one = s.has_one; has_other = (omega (arith, s.has_one.0), l) }
      ]

  -- the gaps between two positions of one span are covered
  pub covered_between : (i j gap : ℕ) → InOneSpan spans i j → IsBetween i j gap → IsCovered places gap
  covered_between i j gap one between =
      let run : IsRun places one.span = All-contains (IsRun places) spans one.span are.runs one.among in
      elim between [
        | inl h ↦ run.within gap (omega (arith, one.has_one.0, h.0)) (omega (arith, one.has_other.1, h.1))
        | inr h ↦ run.within gap (omega (arith, one.has_other.0, h.0)) (omega (arith, one.has_one.1, h.1))
      ]

-- each span of a cover lies after the beginning and up to the end
within_cover : (o : List ℕ) (before end : ℕ) (spans : List Span) → end ≤ length o → Cover before end spans → All (IsWithinOrder o) spans
within_cover o before end [] l h = All-nil (IsWithinOrder o)
within_cover o before end (s ∷ spans) l h =
    let last : s.last ≤ end = cover_le s.last end spans h.2 in
    All-cons (IsWithinOrder o) s spans (record { from = omega (arith, h.0); rise = h.1; to = omega (arith, last, l) }) (within_cover o s.last end spans l h.2)

few_spans : (before end : ℕ) (spans : List Span) → Cover before end spans → before + length spans ≤ end
few_spans before end [] h = omega (arith, h)
few_spans before end (s ∷ spans) h = omega (arith, h.0, h.1, few_spans s.last end spans h.2)

pub spans_within : SpansLaw
spans_within clones o spans h = (within_cover o 0 (length o) spans (omega arith) h.cover, omega (arith, few_spans 0 (length o) spans h.cover))
