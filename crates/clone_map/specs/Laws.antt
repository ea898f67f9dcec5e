-- The places and the contigs of an order are unique, and in a valid order each contig is a run of positions.
use Rattle.std.specs.Prelude.{◌≡◌, ◌↔◌, ℕ, ◌+◌, ◌≤◌, List, length, All, Contains}
use Rattle.column_order.specs.Orders.{IsValidOrder, IsWithin}
use Rattle.row_model.specs.declared.lists.Place.{Place}
use Rattle.row_model.specs.declared.lists.Span.{Span}
use Rattle.clone_map.specs.Places.{probe_at, StandsAt, ArePlaces}
use Rattle.clone_map.specs.Contigs.{InOneContig, AreContigs}

-- two lists of the clones' places are equal
abbrev pub PlacesLaw : Type 0
PlacesLaw =
    (clones : List (List ℕ)) (o : List ℕ) (places others : List Place) →
    ArePlaces o clones places →
    ArePlaces o clones others →
    places ≡ others

-- two lists of an order's contigs are equal
abbrev pub ContigsLaw : Type 0
ContigsLaw =
    (clones : List (List ℕ)) (o : List ℕ) (spans others : List Span) →
    AreContigs clones o spans →
    AreContigs clones o others →
    spans ≡ others

-- the span goes from a position of the order to the same or a later one
pub record IsWithinOrder (o : List ℕ) (span : Span) : Type 0 where
  pub from : 1 ≤ span.first
  pub rise : span.first ≤ span.last
  pub to : span.last ≤ length o

-- the contigs of an order lie within its positions, and are no more than these
abbrev pub SpansLaw : Type 0
SpansLaw =
    (clones : List (List ℕ)) (o : List ℕ) (spans : List Span) →
    AreContigs clones o spans →
    All (IsWithinOrder o) spans × (length spans ≤ length o)

-- some clone has the probes at both positions
pub record HasBoth (clones : List (List ℕ)) (o : List ℕ) (i j : ℕ) : Type 0 where
  pub clone : List ℕ
  pub among : Contains clones clone
  pub one : StandsAt o clone i
  pub other : StandsAt o clone j

-- in a valid order two neighbouring probes lie in one contig exactly where some clone has both
abbrev pub NeighboursLaw : Type 0
NeighboursLaw =
    (c : ℕ) (clones : List (List ℕ)) (o : List ℕ) (i : ℕ) →
    All (IsWithin c) clones →
    IsValidOrder c clones o →
    1 ≤ i →
    i + 1 ≤ length o →
    InOneContig clones (probe_at o i) (probe_at o (i + 1)) ↔ HasBoth clones o i (i + 1)

-- in a valid order each contig is a run of positions: a probe between two probes of a contig lies in it
abbrev pub RunsLaw : Type 0
RunsLaw =
    (c : ℕ) (clones : List (List ℕ)) (o : List ℕ) (i j k : ℕ) →
    All (IsWithin c) clones →
    IsValidOrder c clones o →
    1 ≤ i →
    i ≤ j →
    j ≤ k →
    k ≤ length o →
    InOneContig clones (probe_at o i) (probe_at o k) →
    InOneContig clones (probe_at o i) (probe_at o j)
