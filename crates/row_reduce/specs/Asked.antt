-- How many patterns are asked at a node.
use Rattle.std.specs.Prelude.{ℕ, Option, Some, None}
use Rattle.arena_model.specs.declared.Shape.{Shape}
use Rattle.arena_model.specs.declared.Shape.TheVariants.{Leaf, P, Q}
use Rattle.row_reduce.specs.declared.template.Template.{Template}
use Rattle.row_reduce.specs.declared.template.Template.TheVariants.{P1, P2, P3, P4, P5, Q1, Q2}

-- how many patterns are asked at a P-node until this answer: P1 to P6 in order, and all where none stands
abbrev pub asked_p : Option Template → ℕ
asked_p (Some P1) = 1
asked_p (Some P2) = 2
asked_p (Some P3) = 3
asked_p (Some P4) = 4
asked_p (Some P5) = 5
asked_p t = 6

-- how many are asked at a Q-node until this answer: Q1 to Q3 in order, and all where none stands
abbrev pub asked_q : Option Template → ℕ
asked_q (Some Q1) = 1
asked_q (Some Q2) = 2
asked_q t = 3

-- how many are asked at a node of this shape until this answer; at a leaf only L1 is asked
abbrev pub asked : Option Shape → Option Template → ℕ
asked None t = 0
asked (Some (Leaf a)) t = 1
asked (Some P) t = asked_p t
asked (Some Q) t = asked_q t
