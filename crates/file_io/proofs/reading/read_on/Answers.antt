use Rattle.std.proofs.Common.{◌≡◌, ℕ, ◌≤◌, ◌+◌, ◌-◌, ◌==◌, List, ◌++◌, Vec, take, drop, length, ap, sym, subst, ◌∙◌, arith, length-append, length-drop}
use Rattle.std.proofs.lemmas.List.{drop_at, take-append-le, take-take, length-take, length-take-le, with_items_is}
use Rattle.std.proofs.lemmas.Slice.{take-put_mid_below}
use Rattle.std.specs.Io.KnownBytes.{Consumes}
use Rattle.std.specs.Vec.{with_items}
use Rattle.file_io.specs.Taken.{handed_out}
use Rattle.file_io.proofs.reading.read_on.Goals as goal
use Rattle.file_io.proofs.reading.read_on.Goals.{then-filled-len+in_ok-resize, else-filled-len}
use borrow.Rule.Slice.PartMut.{put_mid, post_of}

-- a list that is filled from a place on
module _ {Z : Type 0} (bytes : Vec ℕ Z) (at : ℕ) (xs buf : List ℕ) (is : xs ≡ bytes.items) (within : at ≤ bytes.len) (same : length buf ≡ length (take (length xs - at) (drop at xs))) where
  all : length xs ≡ bytes.len
  all = omega (arith, ap length is, bytes.ok)

  inside : at ≤ length xs
  inside = omega (arith, all, within)

  long : length (put_mid at (length xs - at) xs buf) ≡ bytes.len
  long =
      let filled : length buf ≡ length xs - at = same ∙ length-take-le (length xs - at) (drop at xs) (omega (arith, length-drop at xs)) in
      let rest = drop (length xs - at) (drop at xs) in
      length-append (take at xs) (buf ++ rest)
      ∙ omega (arith, length-append buf rest, length-take-le at xs inside, length-drop (length xs - at) (drop at xs), length-drop at xs, filled, all, inside)

  -- its front stays
  kept : take at (with_items bytes (put_mid at (length xs - at) xs buf)).items ≡ take at bytes.items
  kept = ap (take at) (with_items_is bytes (put_mid at (length xs - at) xs buf) long) ∙ take-put_mid_below at (length xs - at) xs buf at (omega arith) inside ∙ ap (take at) is

  -- behind it stands what it was filled with
  behind : (n : ℕ) → n ≤ length buf → take n (drop at (with_items bytes (put_mid at (length xs - at) xs buf)).items) ≡ take n buf
  behind n few =
      ap (λ items. take n (drop at items)) (with_items_is bytes (put_mid at (length xs - at) xs buf) long)
      ∙ ap (take n) (drop_at (take at xs) (buf ++ post_of at (length xs - at) xs) at (length-take-le at xs inside))
      ∙ take-append-le n buf _ few

-- the front of a list stays where more is put behind it
front : (at more : ℕ) (xs rest : List ℕ) → at ≤ length xs → take at (take (at + more) xs ++ rest) ≡ take at xs
front at more xs rest within = take-append-le at (take (at + more) xs) rest (omega (arith, length-take (at + more) xs)) ∙ take-take at (at + more) xs (omega arith)

-- what was in a list so far stays there, also where the list gets longer
abbrev Stays : {Z : Type 0} → ℕ → Vec ℕ Z → Vec ℕ Z → Type 0
Stays filled old new = (filled ≤ new.len) × (take filled new.items ≡ take filled old.items)

untouched : {Z : Type 0} (filled : ℕ) (old new : Vec ℕ Z) → new ≡ old → filled ≤ old.len → Stays filled old new
untouched filled old new same within = (omega (arith, ap (λ b. b.len) same, within), ap (λ b. take filled b.items) same)

resized : {Z : Type 0} (filled more : ℕ) (rest : List ℕ) (old new longer : Vec ℕ Z) → new ≡ longer → filled ≤ longer.len → longer.items ≡ take (filled + more) old.items ++ rest → filled ≤ old.len → Stays filled old new
resized filled more rest old new longer same few items within =
    (omega (arith, ap (λ b. b.len) same, few), ap (λ b. take filled b.items) same ∙ ap (take filled) items ∙ front filled more old.items rest (omega (arith, within, old.ok)))

pub returns-in_err-n-clause-front : goal.returns-in_err-n-clause-front
returns-in_err-n-clause-front g c =
    let grown : Stays c.args.filled c.args.bytes.now c.if-filled-len.bytes = elim c.if-filled-len.branch as (λ _. Stays c.args.filled c.args.bytes.now c.if-filled-len.bytes) [ then-filled-len+in_ok-resize w ↦ resized c.args.filled _ _ c.args.bytes.now _ _ w.bytes-is (omega (arith, w.in_ok-resize.ensures.len)) w.in_ok-resize.ensures.items c.requires.filled | else-filled-len w ↦ untouched c.args.filled _ _ w.bytes-is c.requires.filled ] in
    kept c.if-filled-len.bytes c.args.filled c.deref_mut.result.now c.read.new.buf c.deref_mut.ensures.value grown.0 c.read.auto.buf ∙ grown.1

pub returns-clause-front : goal.returns-clause-front
returns-clause-front g c =
    let grown : Stays c.args.filled c.args.bytes.now c.if-filled-len.bytes = elim c.if-filled-len.branch as (λ _. Stays c.args.filled c.args.bytes.now c.if-filled-len.bytes) [ then-filled-len+in_ok-resize w ↦ resized c.args.filled _ _ c.args.bytes.now _ _ w.bytes-is (omega (arith, w.in_ok-resize.ensures.len)) w.in_ok-resize.ensures.items c.requires.filled | else-filled-len w ↦ untouched c.args.filled _ _ w.bytes-is c.requires.filled ] in
    kept c.if-filled-len.bytes c.args.filled c.deref_mut.result.now c.read.new.buf c.deref_mut.ensures.value grown.0 c.read.auto.buf ∙ grown.1

pub returns-clause-read : goal.returns-clause-read
returns-clause-read g c =
    let grown : Stays c.args.filled c.args.bytes.now c.if-filled-len.bytes = elim c.if-filled-len.branch as (λ _. Stays c.args.filled c.args.bytes.now c.if-filled-len.bytes) [ then-filled-len+in_ok-resize w ↦ resized c.args.filled _ _ c.args.bytes.now _ _ w.bytes-is (omega (arith, w.in_ok-resize.ensures.len)) w.in_ok-resize.ensures.items c.requires.filled | else-filled-len w ↦ untouched c.args.filled _ _ w.bytes-is c.requires.filled ] in
    let piece = behind c.if-filled-len.bytes c.args.filled c.deref_mut.result.now c.read.new.buf c.deref_mut.ensures.value grown.0 c.read.auto.buf c.in_ok-n.n c.in_ok-n.ensures.bound.0 in
    subst (Consumes (g.F.Shelf.left c.args.shelf.now) (g.F.Shelf.left c.read.new.self)) (sym piece) c.in_ok-n.ensures.bytes.0

pub returns-clause-taken : goal.returns-clause-taken
returns-clause-taken g c =
    let grown : Stays c.args.filled c.args.bytes.now c.if-filled-len.bytes = elim c.if-filled-len.branch as (λ _. Stays c.args.filled c.args.bytes.now c.if-filled-len.bytes) [ then-filled-len+in_ok-resize w ↦ resized c.args.filled _ _ c.args.bytes.now _ _ w.bytes-is (omega (arith, w.in_ok-resize.ensures.len)) w.in_ok-resize.ensures.items c.requires.filled | else-filled-len w ↦ untouched c.args.filled _ _ w.bytes-is c.requires.filled ] in
    let piece = behind c.if-filled-len.bytes c.args.filled c.deref_mut.result.now c.read.new.buf c.deref_mut.ensures.value grown.0 c.read.auto.buf c.in_ok-n.n c.in_ok-n.ensures.bound.0 in
    c.in_ok-n.ensures.taken ∙ ap (λ read. handed_out read (c.in_ok-n.n == 0) (g.F.Shelf.taken c.args.shelf.now)) (sym piece)
