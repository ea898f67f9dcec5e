-- What a verdict of the program says.
use Rattle.std.specs.Prelude.{ℕ, List, [], ◌∷◌}
use Rattle.pq_tree.specs.PqTree.{outline}
use Rattle.verdict_text.specs.declared.verdict.Columns.{Columns}
use Rattle.verdict_text.specs.declared.verdict.Columns.TheVariants as columns
use Rattle.verdict_text.specs.declared.verdict.Sides.{Sides}
use Rattle.verdict_text.specs.declared.verdict.Sides.TheVariants as sides
use Rattle.verdict_text.specs.declared.verdict.Side.{Side}
use Rattle.verdict_text.specs.declared.verdict.Added.{Added}
use Rattle.verdict_text.specs.declared.verdict.YesPart.{YesPart}
use Rattle.verdict_text.specs.declared.verdict.Part.{Part}
use Rattle.verdict_text.specs.declared.verdict.Part.TheVariants as part
use Rattle.verdict_text.specs.declared.verdict.Verdict.{Verdict}
use Rattle.verdict_text.specs.Verdict.{SideValue, AddedValue, no_added, YesValue, Claim, yes_claim, no_claim, VerdictValue}

-- the numbers of columns, side by side
abbrev pub column_counts : Columns → List ℕ
column_counts (columns.One c) = c ∷ []
column_counts (columns.Two c d) = c ∷ d ∷ []

-- a side's tree and order
unfoldable pub side_value : Side → SideValue
side_value s = record { tree = outline s.tree; order = s.order.items }

-- what a kind adds
abbrev pub added_value : Added → AddedValue
added_value added = record { intervals = added.intervals; places = added.places; contigs = added.contigs }

-- one side with what its kind adds, or two sides
abbrev pub sides_value : Sides → YesValue
sides_value (sides.One s added) = record { sides = side_value s ∷ []; added = added_value added }
sides_value (sides.Two s t) = record { sides = side_value s ∷ side_value t ∷ []; added = no_added }

-- what a yes says
abbrev pub yes_value : YesPart → YesValue
yes_value y = sides_value y.sides

-- what an answer says
abbrev pub claim_of : Part → Claim
claim_of (part.Yes y) = yes_claim (yes_value y)
claim_of (part.No n) = no_claim n.side n.lines

-- what a verdict says
abbrev pub verdict_value : Verdict → VerdictValue
verdict_value v = record { version = v.version; kind = v.kind; columns = column_counts v.columns; claim = claim_of v.part }
