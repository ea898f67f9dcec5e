-- A unit model read from bytes. Each function gives what it reads and the bytes after it, and none where that does not stand there.
use Rattle.std.specs.Prelude.{ℕ, zero, suc, ◌+◌, ◌==◌, if◌then◌else◌, List, [], ◌∷◌, length, codes, Option, Some, None, option_and_then}
use Rattle.std.specs.Borrow.{Bor}
use Rattle.std.specs.declared.vec.Vec.{Vec}
use Rattle.std.specs.declared.alloc.Global.{Global}
use Rattle.plain_text.specs.Numbers.{number_at}
use Rattle.plain_text.specs.Words.{word_at}
use Rattle.row_model.specs.declared.TheConstants.{MAX_COLUMNS}
use Rattle.unit_model.specs.Text.{UnitValue, max_end}

-- what is read next, where the first is there
infixl 10 ◌>>=◌
abbrev pub ◌>>=◌ : {A B : Type 0} → Option A → (A → Option B) → Option B
o >>= f = option_and_then f o

-- the left end in the line of the vertex of this number
unfoldable pub left_at : ℕ → List ℕ → Option (ℕ × List ℕ)
left_at i bytes = do
  first ← word_at (codes "unit ") bytes
  index ← number_at MAX_COLUMNS first
  space ← word_at (32 ∷ []) index.1
  left ← number_at max_end space
  rest ← word_at (10 ∷ []) left.1
  if index.0 == i then Some (left.0, rest) else None

-- a left end before those that were read
abbrev pub with_first : ℕ → (List ℕ × List ℕ) → Option (List ℕ × List ℕ)
with_first left y = Some (left ∷ y.0, y.1)

-- so many left ends, with numbers from i on
unfoldable pub lefts_at : ℕ → ℕ → List ℕ → Option (List ℕ × List ℕ)
lefts_at i zero bytes = Some ([], bytes)
lefts_at i (suc n) bytes = option_and_then (λ x. option_and_then (with_first x.0) (lefts_at (i + 1) n x.1)) (left_at i bytes)

-- the number of vertices and the length
unfoldable pub head_at : List ℕ → Option (ℕ × ℕ × List ℕ)
head_at bytes = do
  first ← word_at (codes "pq-unit 1\nvertices ") bytes
  vertices ← number_at MAX_COLUMNS first
  next ← word_at (codes "\nlength ") vertices.1
  size ← number_at max_end next
  rest ← word_at (10 ∷ []) size.1
  if vertices.0 == 0 then None else Some (vertices.0, size.0, rest)

-- the unit model of which all of the bytes are the text
unfoldable pub unit_of : List ℕ → Option UnitValue
unit_of bytes = do
  head ← head_at bytes
  lefts ← lefts_at 1 head.0 head.2
  rest ← word_at (codes "end\n") lefts.1
  if length rest == 0 then Some (record { vertices = head.0; size = head.1; lefts = lefts.0 }) else None

-- the numbers, and the bytes after them
abbrev pub head_seen : (ℕ × ℕ × Bor (List ℕ)) → (ℕ × ℕ × List ℕ)
head_seen x = (x.0, x.1, x.2.now)

abbrev pub lefts_seen : (Vec ℕ Global × Bor (List ℕ)) → (List ℕ × List ℕ)
lefts_seen x = (x.0.items, x.1.now)
