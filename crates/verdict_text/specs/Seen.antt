-- What the readers of the program give.
use Rattle.std.specs.Prelude.{ℕ, List}
use Rattle.std.specs.Borrow.{Bor}
use Rattle.row_model.specs.declared.kind.Kind.{Kind}
use Rattle.pq_tree.specs.Outline.{Outline}
use Rattle.pq_tree.specs.PqTree.{outline}
use Rattle.pq_tree.specs.declared.PqTree.{PqTree}
use Rattle.verdict_text.specs.Verdict.{SideValue, AddedValue, YesValue, Claim, no_claim}
use Rattle.verdict_text.specs.Value.{column_counts, side_value, added_value, yes_value, claim_of}
use Rattle.verdict_text.specs.declared.verdict.Columns.{Columns}
use Rattle.verdict_text.specs.declared.verdict.Version.{Version}
use Rattle.verdict_text.specs.declared.verdict.Side.{Side}
use Rattle.verdict_text.specs.declared.verdict.Added.{Added}
use Rattle.verdict_text.specs.declared.verdict.YesPart.{YesPart}
use Rattle.verdict_text.specs.declared.verdict.NoPart.{NoPart}
use Rattle.verdict_text.specs.declared.verdict.Part.{Part}

-- the version, the kind, the numbers of columns, and the bytes after them
abbrev pub head_seen : (Version × Kind × Columns × Bor (List ℕ)) → ((Version × Kind × List ℕ) × List ℕ)
head_seen x = ((x.0, x.1, column_counts x.2), x.3.now)

-- the numbers of columns, and the bytes after them
abbrev pub columns_seen : (Columns × Bor (List ℕ)) → (List ℕ × List ℕ)
columns_seen x = (column_counts x.0, x.1.now)

-- the outline of the tree, and the bytes after it
abbrev pub tree_seen : (PqTree × Bor (List ℕ)) → (Outline × List ℕ)
tree_seen x = (outline x.0, x.1.now)

-- what the side says, and the bytes after it
abbrev pub side_seen : (Side × Bor (List ℕ)) → (SideValue × List ℕ)
side_seen x = (side_value x.0, x.1.now)

-- what the kind adds, and the bytes after it
abbrev pub added_seen : (Added × Bor (List ℕ)) → (AddedValue × List ℕ)
added_seen x = (added_value x.0, x.1.now)

-- what the yes says, and the bytes after it
abbrev pub yes_seen : (YesPart × Bor (List ℕ)) → (YesValue × List ℕ)
yes_seen x = (yes_value x.0, x.1.now)

-- what the no claims, and the bytes after it
abbrev pub no_seen : (NoPart × Bor (List ℕ)) → (Claim × List ℕ)
no_seen x = (no_claim x.0.side x.0.lines, x.1.now)

-- what the yes or the no claims, and the bytes after it
abbrev pub part_seen : (Part × Bor (List ℕ)) → (Claim × List ℕ)
part_seen x = (claim_of x.0, x.1.now)
