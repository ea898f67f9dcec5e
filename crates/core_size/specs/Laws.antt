-- How many rows a core has at most.
use Rattle.std.specs.Prelude.{◌⊎◌, ℕ, ◌+◌, ◌*◌, ◌≤◌, List, length, All}
use Rattle.pq_tree.specs.Outline.{Outline}
use Rattle.pq_tree.specs.Proper.{IsTree}
use Rattle.pq_tree.specs.Equivalent.{IsEquivalent}
use Rattle.row_model.specs.Rows.{RowList, IsRow}
use Rattle.tree_theory.specs.Reduced.{IsReduced}
use Rattle.core_text.specs.Cores.{IsCore}
use Rattle.core_size.specs.Slack.{slack}

-- where a row is taken, the slack of the tree falls, or its nodes are turned and no more
abbrev pub NarrowsLaw : Type 0
NarrowsLaw = (row : List ℕ) (t u : Outline) → IsTree t → IsReduced row t u → (slack u + 1 ≤ slack t) ⊎ IsEquivalent t u

-- a core over two columns or more has at most 2c - 3 rows
abbrev pub CoreSizeLaw : Type 0
CoreSizeLaw = (m : RowList) (core : List ℕ) → 2 ≤ m.columns → All (IsRow m.columns) m.rows → IsCore m core → length core + 3 ≤ 2 * m.columns
