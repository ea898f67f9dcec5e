-- The text of a verdict, line by line. Each line ends with a line feed (byte 10), and one space (byte 32) stands between its entries.
use Rattle.std.specs.Prelude.{ℕ, List, [], ◌∷◌, ◌++◌, length, flat_map, codes}
use Rattle.std.specs.Fmt.{decimal}
use Rattle.row_model.specs.declared.kind.Kind.{Kind}
use Rattle.row_model.specs.declared.kind.Kind.TheVariants.{Proper, Clones}
use Rattle.row_model.specs.declared.graph.Line.{Line}
use Rattle.row_model.specs.declared.lists.Interval.{Interval}
use Rattle.row_model.specs.declared.lists.Place.{Place}
use Rattle.row_model.specs.declared.lists.Place.TheVariants.{Nowhere, At}
use Rattle.row_model.specs.declared.lists.Span.{Span}
use Rattle.pq_tree.specs.Text.{tree_text}
use Rattle.text_parts.specs.Numbered.{numbered}
use Rattle.verdict_text.specs.declared.verdict.Version.{Version}
use Rattle.verdict_text.specs.declared.verdict.Version.TheVariants as versions
use Rattle.verdict_text.specs.Verdict.{SideValue, AddedValue, Claim, yes_claim, no_claim, VerdictValue}
use Rattle.text_parts.specs.Text.{kind_word, number_word, counted_cycle}

-- `pq-verdict 1` or `pq-verdict 2`
abbrev pub version_line : Version → List ℕ
version_line versions.One = codes "pq-verdict 1\n"
version_line versions.Two = codes "pq-verdict 2\n"

-- `kind K`
abbrev pub kind_line : Kind → List ℕ
kind_line kind = codes "kind " ++ (kind_word kind ++ 10 ∷ [])

-- `columns C`, or `columns C D` where there are two sides
abbrev pub columns_line : List ℕ → List ℕ
columns_line columns = codes "columns" ++ (flat_map number_word columns ++ 10 ∷ [])

-- `tree T` and `order N1 N2` and so on
abbrev pub side_text : SideValue → List ℕ
side_text side = codes "tree " ++ (tree_text side.tree ++ (codes "\norder" ++ (flat_map number_word side.order ++ 10 ∷ [])))

-- `interval I L R`
abbrev pub interval_line : ℕ → Interval → List ℕ
interval_line i v = codes "interval " ++ (decimal i ++ (number_word v.left ++ (number_word v.right ++ 10 ∷ [])))

-- the two ends of a span, and the end of the line
abbrev pub ends_text : ℕ → ℕ → List ℕ
ends_text first last = number_word first ++ (number_word last ++ 10 ∷ [])

-- the rest of a place's line
abbrev pub place_text : Place → List ℕ
place_text Nowhere = codes " none\n"
place_text (At first last) = ends_text first last

-- `place I F L` or `place I none`
abbrev pub place_line : ℕ → Place → List ℕ
place_line i place = codes "place " ++ (decimal i ++ place_text place)

-- `contig F L`
abbrev pub contig_line : Span → List ℕ
contig_line contig = codes "contig" ++ ends_text contig.first contig.last

-- `places M` and M lines
abbrev pub places_text : List Place → List ℕ
places_text places = codes "places " ++ (decimal (length places) ++ (10 ∷ numbered place_line 1 places))

-- `contigs Q` and Q lines
abbrev pub contigs_text : List Span → List ℕ
contigs_text contigs = codes "contigs " ++ (decimal (length contigs) ++ (10 ∷ flat_map contig_line contigs))

-- what a kind adds to a yes
abbrev pub added_text : Kind → AddedValue → List ℕ
added_text Proper added = numbered interval_line 1 added.intervals
added_text Clones added = places_text added.places ++ contigs_text added.contigs
added_text kind added = []

-- `answer yes`, the sides and what the kind adds; or `answer no`, `side S`, `cycle L` and L lines
abbrev pub claim_text : Kind → Claim → List ℕ
claim_text kind (yes_claim value) = codes "answer yes\n" ++ (flat_map side_text value.sides ++ added_text kind value.added)
claim_text kind (no_claim side lines) = codes "answer no\n" ++ (codes "side " ++ (decimal side ++ (10 ∷ counted_cycle lines)))

-- the whole text: `pq-verdict V`, `kind K`, `columns C`, the answer and what follows it, `end`
unfoldable pub verdict_text : VerdictValue → List ℕ
verdict_text v = (version_line v.version ++ (kind_line v.kind ++ columns_line v.columns)) ++ (claim_text v.kind v.claim ++ codes "end\n")

-- its first three lines
abbrev pub head_text : Version → Kind → List ℕ → List ℕ
head_text version kind columns = version_line version ++ (kind_line kind ++ columns_line columns)

-- what a no tells: `side S`, `cycle L` and L lines
abbrev pub cycle_text : ℕ → List Line → List ℕ
cycle_text side lines = codes "side " ++ (decimal side ++ (10 ∷ counted_cycle lines))
