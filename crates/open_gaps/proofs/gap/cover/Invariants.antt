use Rattle.std.proofs.Common.{◌≡◌, ℕ, ◌<◌, ◌≤◌, ◌⊎◌, get_or}
use Rattle.open_gaps.specs.declared.gap.Gap.{Gap}
use Rattle.open_gaps.specs.Tables.{covered}
use Rattle.open_gaps.proofs.gap.cover.Given as goal

abbrev pub invariant-loop-q : goal.invariant-loop-q
invariant-loop-q l = record {
  inside : (q : ℕ) (d : Gap) → l.left ≤ q → q < l.q → get_or l.gaps q d ≡ covered (get_or l.initial.gaps q d) l.left l.right l.row;
  outside : (q : ℕ) (d : Gap) → (q < l.left) ⊎ (l.q ≤ q) → get_or l.gaps q d ≡ get_or l.initial.gaps q d;
}
