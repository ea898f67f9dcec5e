-- What two trees share, and the text that tells it.
use Rattle.std.specs.Prelude.{◌≡◌, ◌⊎◌, ◌↔◌, ℕ, List, ◌++◌, length, codes}
use Rattle.std.specs.Fmt.{decimal}
use Rattle.row_model.specs.Cycles.{IsOddCycle}
use Rattle.row_model.specs.declared.graph.Line.{Line}
use Rattle.pq_tree.specs.Outline.{Outline, leaves, IsFrontier}
use Rattle.pq_tree.specs.Proper.{IsProper}
use Rattle.pq_tree.specs.Canonical.{IsCanonical}
use Rattle.verdict_text.specs.Text.{side_text}
use Rattle.text_parts.specs.Text.{counted_cycle}
use Rattle.verdict_text.specs.Verdict.{SideValue}
use Rattle.tree_meet.specs.TreeRows.{rows_of_tree}
use Rattle.odd_cycle.specs.Short.{IsShort}
use Rattle.tree_meet.specs.Meets.{IsCommon, joint_rows}

-- the first three lines: the number of columns, and the numbers of rows of both trees over 1 to c
abbrev pub meet_head : ℕ → Outline → Outline → List ℕ
meet_head c t u =
    codes "pq-meet 1\ncolumns " ++ (decimal c ++
    (codes "\nrows " ++ (decimal (length (rows_of_tree c t)) ++ (codes " " ++ (decimal (length (rows_of_tree c u)) ++ codes "\n")))))

-- a canonical tree over 1 to c with exactly the common frontiers of two trees, and its leaves from left to right
pub record ShowsCommon (c : ℕ) (t u : Outline) (side : SideValue) : Type 0 where
  pub proper : IsProper c side.tree
  pub canonical : IsCanonical side.tree
  pub common : (o : List ℕ) → IsFrontier side.tree o ↔ IsCommon t u o
  pub order : side.order ≡ leaves side.tree

-- Yes: some frontier is common, and the text tells the tree of them and an order.
pub record TellsCommon (c : ℕ) (t u : Outline) (text : List ℕ) : Type 0 where
  pub some : (o : List ℕ) × IsCommon t u o
  pub side : SideValue
  pub shows : ShowsCommon c t u side
  pub text_is : text ≡ meet_head c t u ++ (codes "answer yes\n" ++ (side_text side ++ codes "end\n"))

-- No: no frontier is common, and the text tells a short odd cycle of the rows of the first tree followed by those of
-- the second.
pub record TellsApart (c : ℕ) (t u : Outline) (text : List ℕ) : Type 0 where
  pub none : (o : List ℕ) → IsCommon t u o → ⊥
  pub lines : List Line
  pub cycle : IsOddCycle c (joint_rows c t u) lines
  pub short : IsShort c lines
  pub text_is : text ≡ meet_head c t u ++ (codes "answer no\n" ++ (counted_cycle lines ++ codes "end\n"))

-- the status and the text tell what two trees share
abbrev pub IsMeetingReply : ℕ → Outline → Outline → ℕ → List ℕ → Type 0
IsMeetingReply c t u status text = ((status ≡ 0) × TellsCommon c t u text) ⊎ ((status ≡ 1) × TellsApart c t u text)
