-- How the labels of the children of a Q-node stand in line.
use Rattle.std.specs.Prelude.{◌≡◌, ℕ, ◌+◌, ◌≤◌, List, ◌++◌, length, sum_by}
use Rattle.bubble_pass.specs.declared.labels.Label.TheVariants.{Empty, Partial, Full}
use Rattle.bubble_pass.specs.Marks.{Marks, label_at}
use Rattle.bubble_pass.specs.Sweep.{full_one, partial_one}
use Rattle.templates_q.specs.Walk.{AreAll}

-- so many of these nodes are full, and so many partial
pub record AreCounted (w : Marks) (ks : List ℕ) (a b : ℕ) : Type 0 where
  pub full : a ≡ sum_by (λ k. full_one (label_at w k)) ks
  pub partial : b ≡ sum_by (λ k. partial_one (label_at w k)) ks

-- full nodes, at most one partial one, and empty ones
pub record IsFullFirst (w : Marks) (ks : List ℕ) : Type 0 where
  pub fulls : List ℕ
  pub parts : List ℕ
  pub empties : List ℕ
  pub is : ks ≡ fulls ++ (parts ++ empties)
  pub full : AreAll Full w fulls
  pub partial : AreAll Partial w parts
  pub one : length parts ≤ 1
  pub empty : AreAll Empty w empties

-- so they stand, and not all are full
pub record IsRunFrom (w : Marks) (ks : List ℕ) : Type 0 where
  pub line : IsFullFirst w ks
  pub others : 1 ≤ length line.parts + length line.empties
