-- Which trees are tied to rows (Booth and Lueker, 1976).
use Rattle.std.specs.Prelude.{ℕ, List}
use Rattle.pq_tree.specs.Outline.{Outline}
use Rattle.pq_tree.specs.Proper.{IsProper}
use Rattle.tree_theory.specs.Tied.{IsTied}
use Rattle.tree_theory.specs.CanonicalLaws.{HasOrdersOf}

-- a proper tree over 1 to c whose frontiers are exactly the valid orders of some rows is tied to these rows
abbrev pub ExactLaw : Type 0
ExactLaw = (c : ℕ) (rows : List (List ℕ)) (t : Outline) → IsProper c t → HasOrdersOf c rows t → IsTied c rows t
