-- A verdict read from the front of bytes. Each function gives what it reads and the bytes after it, and none where that does not stand there.
use Rattle.std.specs.Prelude.{ℕ, zero, suc, ◌==◌, if◌then◌else◌, List, [], ◌∷◌, length, take, drop, codes, Option, Some, None}
use Rattle.plain_text.specs.Numbers.{number_at}
use Rattle.plain_text.specs.Words.{word_at}
use Rattle.row_model.specs.declared.kind.Kind.{Kind}
use Rattle.row_model.specs.declared.kind.Kind.TheVariants.{Proper, Clones}
use Rattle.row_model.specs.declared.lists.Interval.{Interval}
use Rattle.row_model.specs.declared.lists.Place.{Place}
use Rattle.row_model.specs.declared.lists.Place.TheVariants.{Nowhere, At}
use Rattle.row_model.specs.declared.lists.Span.{Span}
use Rattle.pq_tree.specs.Outline.{Outline}
use Rattle.pq_tree.specs.Reading.{tree_of}
use Rattle.verdict_text.specs.Verdict.{SideValue, AddedValue, no_added, YesValue, Claim, yes_claim, no_claim, VerdictValue}
use Rattle.verdict_text.specs.Text.{version_line}
use Rattle.text_parts.specs.Grammar.{max_number}
use Rattle.verdict_text.specs.Grammar.{max_end, side_count}
use Rattle.text_parts.specs.Numbered.{numbered_at, with_first}
use Rattle.verdict_text.specs.declared.verdict.Version.{Version}
use Rattle.verdict_text.specs.declared.verdict.Version.TheVariants as versions
use Rattle.text_parts.specs.Reading.{◌>>=◌, or_else, kind_at, column_count_at, numbers_at, counted_at, line_at}

-- the version, and the bytes after its line
abbrev pub with_version : Version → List ℕ → Option (Version × List ℕ)
with_version version rest = Some (version, rest)

-- the version whose line stands at the front
unfoldable pub version_at : List ℕ → Option (Version × List ℕ)
version_at bytes = or_else (word_at (version_line versions.One) bytes >>= with_version versions.One) (word_at (version_line versions.Two) bytes >>= with_version versions.Two)

-- so many numbers of columns
unfoldable pub columns_at : ℕ → List ℕ → Option (List ℕ × List ℕ)
columns_at zero bytes = Some ([], bytes)
columns_at (suc n) bytes = column_count_at bytes >>= λ c. columns_at n c.1 >>= with_first c.0

-- the version, the kind and the columns
unfoldable pub head_at : List ℕ → Option ((Version × Kind × List ℕ) × List ℕ)
head_at bytes = do
  version ← version_at bytes
  first ← word_at (codes "kind ") version.1
  kind ← kind_at first
  next ← word_at (codes "\ncolumns") kind.1
  columns ← columns_at (side_count kind.0) next
  rest ← word_at (10 ∷ []) columns.1
  Some ((version.0, kind.0, columns.0), rest)

-- how many bytes stand before the first line feed
abbrev pub line_len : List ℕ → ℕ
line_len [] = 0
line_len (b ∷ bytes) = if b == 10 then 0 else suc (line_len bytes)

-- the tree, and the bytes after it
abbrev pub with_bytes : List ℕ → Outline → Option (Outline × List ℕ)
with_bytes rest tree = Some (tree, rest)

-- the tree over 1 to c that stands before the first line feed
unfoldable pub tree_at : ℕ → List ℕ → Option (Outline × List ℕ)
tree_at c bytes = tree_of c (take (line_len bytes) bytes) >>= with_bytes (drop (line_len bytes) bytes)

-- a side's order, one number or more
unfoldable pub order_at : List ℕ → Option (List ℕ × List ℕ)
order_at bytes = do
  next ← word_at (codes "\norder") bytes
  order ← numbers_at (length next) next
  rest ← word_at (10 ∷ []) order.1
  if length order.0 == 0 then None else Some (order.0, rest)

-- a side's tree and order
unfoldable pub side_at : ℕ → List ℕ → Option (SideValue × List ℕ)
side_at c bytes = do
  first ← word_at (codes "tree ") bytes
  tree ← tree_at c first
  order ← order_at tree.1
  Some (record { tree = tree.0; order = order.0 }, order.1)

-- a word, and a given number
unfoldable pub index_at : List ℕ → ℕ → List ℕ → Option (List ℕ)
index_at word i bytes = do
  first ← word_at word bytes
  n ← number_at max_number first
  if n.0 == i then Some n.1 else None

-- two numbers up to a limit, each behind a space, and the end of the line
unfoldable pub two_at : ℕ → List ℕ → Option ((ℕ × ℕ) × List ℕ)
two_at limit bytes = do
  space ← word_at (32 ∷ []) bytes
  first ← number_at limit space
  space ← word_at (32 ∷ []) first.1
  second ← number_at limit space
  rest ← word_at (10 ∷ []) second.1
  Some ((first.0, second.0), rest)

-- the line of the interval of this number
unfoldable pub interval_at : ℕ → List ℕ → Option (Interval × List ℕ)
interval_at i bytes = do
  index ← index_at (codes "interval ") i bytes
  ends ← two_at max_end index
  Some (record { left = ends.0.0; right = ends.0.1 }, ends.1)

-- the two ends of a span, and the end of the line
unfoldable pub ends_at : List ℕ → Option (Span × List ℕ)
ends_at bytes = two_at max_number bytes >>= λ ends. Some (record { first = ends.0.0; last = ends.0.1 }, ends.1)

-- no place, and the bytes after it
abbrev pub as_nowhere : List ℕ → Option (Place × List ℕ)
as_nowhere rest = Some (Nowhere, rest)

-- the ends as a place, and the bytes after them
abbrev pub as_place : (Span × List ℕ) → Option (Place × List ℕ)
as_place ends = Some (At ends.0.first ends.0.last, ends.1)

-- the rest of a place's line
abbrev pub where_at : List ℕ → Option (Place × List ℕ)
where_at bytes = or_else (word_at (codes " none\n") bytes >>= as_nowhere) (ends_at bytes >>= as_place)

-- the line of the place of this number
unfoldable pub place_at : ℕ → List ℕ → Option (Place × List ℕ)
place_at i bytes = index_at (codes "place ") i bytes >>= where_at

-- a contig, which has no number
unfoldable pub contig_at : ℕ → List ℕ → Option (Span × List ℕ)
contig_at i bytes = word_at (codes "contig") bytes >>= ends_at

-- the places and the contigs
unfoldable pub placed_at : List ℕ → Option (AddedValue × List ℕ)
placed_at bytes = do
  places ← counted_at (codes "places ") place_at bytes
  contigs ← counted_at (codes "contigs ") contig_at places.1
  Some (record { intervals = []; places = places.0; contigs = contigs.0 }, contigs.1)

-- what a kind with one side of c columns adds
abbrev pub added_at : Kind → ℕ → List ℕ → Option (AddedValue × List ℕ)
added_at Proper c bytes = numbered_at interval_at 1 c bytes >>= λ x. Some (record { intervals = x.0; places = []; contigs = [] }, x.1)
added_at Clones c bytes = placed_at bytes
added_at kind c bytes = Some (no_added, bytes)

-- one side and what its kind adds, or two sides
unfoldable pub yes_at : Kind → List ℕ → List ℕ → Option (YesValue × List ℕ)
yes_at kind [] bytes = None
yes_at kind (c ∷ []) bytes = do
  side ← side_at c bytes
  added ← added_at kind c side.1
  Some (record { sides = side.0 ∷ []; added = added.0 }, added.1)
yes_at kind (c ∷ d ∷ columns) bytes = do
  first ← side_at c bytes
  second ← side_at d first.1
  Some (record { sides = first.0 ∷ second.0 ∷ []; added = no_added }, second.1)

-- a side of so many, and a cycle
unfoldable pub no_at : ℕ → List ℕ → Option (Claim × List ℕ)
no_at sides bytes = do
  first ← word_at (codes "side ") bytes
  side ← number_at sides first
  lines ← counted_at (codes "\ncycle ") line_at side.1
  if side.0 == 0 then None else Some (no_claim side.0 lines.0, lines.1)

-- a yes as the claim, and the bytes after it
abbrev pub as_yes : (YesValue × List ℕ) → Option (Claim × List ℕ)
as_yes x = Some (yes_claim x.0, x.1)

-- a yes, where its word stood at the front, and else a no
abbrev pub yes_or_no : Kind → List ℕ → Option (List ℕ) → List ℕ → Option (Claim × List ℕ)
yes_or_no kind columns (Some rest) bytes = yes_at kind columns rest >>= as_yes
yes_or_no kind columns None bytes = word_at (codes "answer no\n") bytes >>= no_at (side_count kind)

-- the answer and all that it claims
unfoldable pub claim_at : Kind → List ℕ → List ℕ → Option (Claim × List ℕ)
claim_at kind columns bytes = yes_or_no kind columns (word_at (codes "answer yes\n") bytes) bytes

-- the verdict that all of the bytes are the text of
unfoldable pub verdict_of : List ℕ → Option VerdictValue
verdict_of bytes = do
  head ← head_at bytes
  claim ← claim_at head.0.1 head.0.2 head.1
  rest ← word_at (codes "end\n") claim.1
  if length rest == 0 then Some (record { version = head.0.0; kind = head.0.1; columns = head.0.2; claim = claim.0 }) else None
