-- What contracts see of the plain reducer.
use Rattle.std.specs.Prelude.{ℕ}
use Rattle.pq_tree.specs.Outline.{Outline}
use Rattle.pq_tree.specs.Proper.{outline_of}
use Rattle.pq_plain.specs.declared.plain.PlainReducer.{PlainReducer}

-- the number of its columns
abbrev pub plain_columns : PlainReducer → ℕ
plain_columns r = r.column_count

-- its tree
abbrev pub plain_outline : PlainReducer → Outline
plain_outline r = outline_of r.tree
