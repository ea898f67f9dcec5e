-- When the rows take the leaves next to a gap for alike with each leaf outside its stretch.
use Rattle.std.specs.Prelude.{◌⊎◌, ℕ, ◌+◌, ◌-◌, ◌<◌, ◌≤◌, List, length}
use Rattle.open_gaps.specs.Gaps.{IsOpen}
use Rattle.bound_tree.specs.declared.stretch.Stretch.{Stretch}

-- the stretch has the positions on both sides of its gap, and lies within n positions
pub record IsRoundGap (n : ℕ) (s : Stretch) : Type 0 where
  pub before : s.from < s.at
  pub behind : s.at < s.to
  pub inside : s.to ≤ n

-- the gap before a position is open for the column at p behind it, or the gap behind p is open for the column at the position
abbrev pub LeadsBehind : List (List ℕ) → List ℕ → ℕ → ℕ → Type 0
LeadsBehind rows o at p = IsOpen rows o (at - 1) p ⊎ ((p + 1 < length o) × IsOpen rows o p at)

-- the gap before a position is open for the column at p before it, or the gap before p is open for the column before the position
abbrev pub LeadsBefore : List (List ℕ) → List ℕ → ℕ → ℕ → Type 0
LeadsBefore rows o at p = IsOpen rows o (at - 1) p ⊎ ((1 ≤ p) × IsOpen rows o (p - 1) (at - 1))

-- this holds of each position behind the stretch and of each before it
pub record IsFree (rows : List (List ℕ)) (o : List ℕ) (s : Stretch) : Type 0 where
  pub behind : (p : ℕ) → s.to ≤ p → p < length o → LeadsBehind rows o s.at p
  pub before : (p : ℕ) → p < s.from → LeadsBefore rows o s.at p
