-- Parts of texts read from the front of bytes. Each function gives what it reads and the bytes after it, and none where that does not stand there.
use Rattle.std.specs.Prelude.{ℕ, zero, suc, ◌==◌, if◌then◌else◌, List, [], ◌∷◌, codes, Option, Some, None, option_and_then}
use Rattle.plain_text.specs.Numbers.{number_at}
use Rattle.plain_text.specs.Words.{word_at}
use Rattle.row_model.specs.declared.TheConstants.{MAX_COLUMNS}
use Rattle.row_model.specs.declared.kind.Kind.{Kind}
use Rattle.row_model.specs.declared.kind.Kind.TheVariants.{Matrix, Rows, Table, Circular, Convex, Doubly, Proper, Robinson, Clones}
use Rattle.row_model.specs.declared.graph.Line.{Line}
use Rattle.row_model.specs.declared.graph.Why.{Why}
use Rattle.row_model.specs.declared.graph.Why.TheVariants.{Flip, Row}
use Rattle.text_parts.specs.Text.{kind_word}
use Rattle.text_parts.specs.Grammar.{max_number}
use Rattle.text_parts.specs.Numbered.{numbered_at, with_first}

-- what is read next, where the first is there
infixl 10 ◌>>=◌
abbrev pub ◌>>=◌ : {A B : Type 0} → Option A → (A → Option B) → Option B
o >>= f = option_and_then f o

-- the first that is there
abbrev pub or_else : {A : Type 0} → Option A → Option A → Option A
or_else None o = o
or_else (Some x) o = Some x

-- the kinds, in the order in which their words are tried
abbrev pub all_kinds : List Kind
all_kinds = Matrix ∷ Rows ∷ Table ∷ Circular ∷ Convex ∷ Doubly ∷ Proper ∷ Robinson ∷ Clones ∷ []

-- the kind, and the bytes after its word
abbrev pub with_kind : Kind → List ℕ → Option (Kind × List ℕ)
with_kind kind rest = Some (kind, rest)

-- the first of the kinds whose word stands at the front
abbrev pub kind_from : List Kind → List ℕ → Option (Kind × List ℕ)
kind_from [] bytes = None
kind_from (kind ∷ kinds) bytes = or_else (option_and_then (with_kind kind) (word_at (kind_word kind) bytes)) (kind_from kinds bytes)

-- the kind whose word stands at the front
unfoldable pub kind_at : List ℕ → Option (Kind × List ℕ)
kind_at bytes = kind_from all_kinds bytes

-- a number of columns, after a space
unfoldable pub column_count_at : List ℕ → Option (ℕ × List ℕ)
column_count_at bytes = do
  space ← word_at (32 ∷ []) bytes
  c ← number_at MAX_COLUMNS space
  if c.0 == 0 then None else Some c

-- what stands after a space, where one was there; else no number
abbrev pub after_space : Option (List ℕ) → List ℕ → (List ℕ → Option (List ℕ × List ℕ)) → Option (List ℕ × List ℕ)
after_space None bytes more = Some ([], bytes)
after_space (Some space) bytes more = more space

-- the numbers at the front, each after a space; at most so many
unfoldable pub numbers_at : ℕ → List ℕ → Option (List ℕ × List ℕ)
numbers_at zero bytes = Some ([], bytes)
numbers_at (suc n) bytes = after_space (word_at (32 ∷ []) bytes) bytes (λ space. number_at max_number space >>= λ k. numbers_at n k.1 >>= with_first k.0)

-- a word, a count, and so many lines
unfoldable pub counted_at : {A : Type 0} → List ℕ → (ℕ → List ℕ → Option (A × List ℕ)) → List ℕ → Option (List A × List ℕ)
counted_at word read bytes = do
  first ← word_at word bytes
  count ← number_at max_number first
  next ← word_at (10 ∷ []) count.1
  numbered_at read 1 count.0 next

-- a row as the reason, and the end of the line
unfoldable pub row_reason_at : List ℕ → Option (Why × List ℕ)
row_reason_at bytes = do
  row ← word_at (codes " row ") bytes
  k ← number_at max_number row
  rest ← word_at (10 ∷ []) k.1
  Some (Row k.0, rest)

-- a flip, and the bytes after it
abbrev pub as_flip : List ℕ → Option (Why × List ℕ)
as_flip rest = Some (Flip, rest)

-- a flip or a row as the reason, and the end of the line
unfoldable pub why_at : List ℕ → Option (Why × List ℕ)
why_at bytes = or_else (word_at (codes " flip\n") bytes >>= as_flip) (row_reason_at bytes)

-- a line of a cycle, which has no number
unfoldable pub line_at : ℕ → List ℕ → Option (Line × List ℕ)
line_at i bytes = do
  a ← number_at max_number bytes
  space ← word_at (32 ∷ []) a.1
  b ← number_at max_number space
  why ← why_at b.1
  Some (record { pair = record { a = a.0; b = b.0 }; why = why.0 }, why.1)
