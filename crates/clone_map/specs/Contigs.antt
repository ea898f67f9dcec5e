-- The contigs of clones: the probes that chains of clones with common probes tie together.
use Rattle.std.specs.Prelude.{◌≡◌, ◌⊎◌, ◌↔◌, ℕ, ◌+◌, ◌≤◌, List, [], ◌∷◌, length, IsTrue, Contains}
use Rattle.column_order.specs.Orders.{has}
use Rattle.row_model.specs.declared.lists.Span.{Span}
use Rattle.clone_map.specs.Places.{probe_at}

-- both clones hold some probe
pub record Share (clone other : List ℕ) : Type 0 where
  pub probe : ℕ
  pub in_one : IsTrue (has clone probe)
  pub in_other : IsTrue (has other probe)

-- the clone and then the chain are among the clones, each shares a probe with the next, and the last holds the probe
abbrev pub LeadsTo : List (List ℕ) → List ℕ → List (List ℕ) → ℕ → Type 0
LeadsTo clones clone [] probe = Contains clones clone × IsTrue (has clone probe)
LeadsTo clones clone (next ∷ chain) probe = Contains clones clone × Share clone next × LeadsTo clones next chain probe

-- a chain of clones, each sharing a probe with the next, leads from a clone that holds the one to a clone that holds the other
pub record AreChained (clones : List (List ℕ)) (probe other : ℕ) : Type 0 where
  pub clone : List ℕ
  pub chain : List (List ℕ)
  pub begins : IsTrue (has clone probe)
  pub leads : LeadsTo clones clone chain other

-- two probes lie in one contig: they are equal, or a chain leads from the one to the other
abbrev pub InOneContig : List (List ℕ) → ℕ → ℕ → Type 0
InOneContig clones probe other = (probe ≡ other) ⊎ AreChained clones probe other

-- the spans stand from left to right: the first begins after a position, each further one after the end of the one before, and the last ends at the end
abbrev pub Cover : ℕ → ℕ → List Span → Type 0
Cover before end [] = before ≡ end
Cover before end (span ∷ spans) = (span.first ≡ before + 1) × (span.first ≤ span.last) × Cover span.last end spans

-- some span has both positions
pub record InOneSpan (spans : List Span) (i j : ℕ) : Type 0 where
  pub span : Span
  pub among : Contains spans span
  pub has_one : (span.first ≤ i) × (i ≤ span.last)
  pub has_other : (span.first ≤ j) × (j ≤ span.last)

-- the contigs of an order: spans from left to right over its positions, such that two positions lie in one span exactly where their probes lie in one contig
pub record AreContigs (clones : List (List ℕ)) (o : List ℕ) (spans : List Span) : Type 0 where
  pub cover : Cover 0 (length o) spans
  pub exact : (i j : ℕ) → 1 ≤ i → i ≤ length o → 1 ≤ j → j ≤ length o → InOneSpan spans i j ↔ InOneContig clones (probe_at o i) (probe_at o j)
