-- The runs of a valid order are its contigs, and the contigs of an order are unique.
use Rattle.std.proofs.Common.{◌≡◌, ℕ, ◌-◌, ◌≤◌, List, length, All, subst, inl, inr, arith}
use Rattle.std.specs.List.{Contains}
use Rattle.std.proofs.lemmas.Bool.{cases_lt}
use Rattle.column_order.specs.Orders.{IsValidOrder, IsWithin}
use Rattle.row_model.specs.declared.lists.Place.{Place}
use Rattle.row_model.specs.declared.lists.Place.TheVariants.{Nowhere, At}
use Rattle.row_model.specs.declared.lists.Span.{Span}
use Rattle.clone_map.specs.Places.{probe_at, StandsAt, IsPlaceOf, ArePlaces}
use Rattle.clone_map.specs.Contigs.{InOneContig, InOneSpan, AreContigs}
use Rattle.clone_map.specs.Runs.{IsCovered, AreRuns}
use Rattle.clone_map.proofs.ChainLaws.{IsBridged, IsBetween, contig_bridges, bridged_contig}
use Rattle.clone_map.proofs.PlaceLaws.{has_place, has_clone, none_stands}
use Rattle.clone_map.proofs.RunLaws.{in_one_run, covered_between, in_range, in_swapped, cover_only}

-- two lists of the contigs of an order are equal
pub contigs_only : (clones : List (List ℕ)) (o : List ℕ) (spans others : List Span) → AreContigs clones o spans → AreContigs clones o others → spans ≡ others
contigs_only clones o spans others h k =
    cover_only 0 (length o) spans others h.cover k.cover (λ i j. (
      λ one. (let r = in_range (length o) spans i j h.cover one in (k.exact i j r.0 r.1 r.2 r.3).1 ((h.exact i j r.0 r.1 r.2 r.3).0 one)),
      λ one. (let r = in_range (length o) others i j k.cover one in (h.exact i j r.0 r.1 r.2 r.3).1 ((k.exact i j r.0 r.1 r.2 r.3).0 one)),
    ))

module _ (clones : List (List ℕ)) (o : List ℕ) (places : List Place) (are : ArePlaces o clones places) where
  -- a gap is covered by the place of a clone exactly where the clone bridges it
  bridged_covered : (gap : ℕ) → IsBridged clones o gap → IsCovered places gap
  bridged_covered gap b = let h = has_place o clones places b.clone are b.among in covers h.place h.among h.is_place
    where
      covers : (place : Place) → Contains places place → IsPlaceOf o b.clone place → IsCovered places gap
      covers Nowhere among is = absurd (none_stands o b.first (subst (λ c. StandsAt o c b.first) is b.one))
      covers (At first last) among is =
          record {
            first = first;
            last = last;
            among = among;
            before = omega (arith, is.none_before b.first b.one, b.before);
            after = omega (arith, is.none_after b.last b.other, b.after);
          }

  covered_bridged : (gap : ℕ) → IsCovered places gap → IsBridged clones o gap
  covered_bridged gap h =
      let k = has_clone o clones places (At h.first h.last) are h.among in
      record { clone = k.clone; among = k.among; first = h.first; last = h.last; one = k.is_place.at_first; other = k.is_place.at_last; before = h.before; after = h.after }

  -- in a valid order the runs are the contigs
  pub runs_are_contigs : (c : ℕ) (spans : List Span) → All (IsWithin c) clones → IsValidOrder c clones o → AreRuns (length o) places spans → AreContigs clones o spans
  runs_are_contigs c spans within valid runs =
      record { cover = runs.cover; exact = λ i j a b d e. (sound i j, whole i j a b d e) }
    where
      sound : (i j : ℕ) → InOneSpan spans i j → InOneContig clones (probe_at o i) (probe_at o j)
      sound i j one =
          elim (cases_lt j i) [
            | inl l ↦ (bridged_contig clones o valid.kept (i - j) j i (omega arith) (λ gap p q. covered_bridged gap (covered_between (length o) places spans runs i j gap one (inr (p, q))))).1
            | inr l ↦ (bridged_contig clones o valid.kept (j - i) i j (omega arith) (λ gap p q. covered_bridged gap (covered_between (length o) places spans runs i j gap one (inl (p, q))))).0
          ]

      whole : (i j : ℕ) → 1 ≤ i → i ≤ length o → 1 ≤ j → j ≤ length o → InOneContig clones (probe_at o i) (probe_at o j) → InOneSpan spans i j
      whole i j a b d e one =
          let covered : (gap : ℕ) → IsBetween i j gap → IsCovered places gap = λ gap between. bridged_covered gap (contig_bridges clones o c valid.order within i j gap a b d e one between) in
          elim (cases_lt j i) [
            | inl l ↦ in_swapped spans j i (in_one_run (length o) places spans runs j i d (omega arith) b (λ gap p q. covered gap (inr (p, q))))
            | inr l ↦ in_one_run (length o) places spans runs i j a l e (λ gap p q. covered gap (inl (p, q)))
          ]
