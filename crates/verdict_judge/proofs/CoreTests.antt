-- The tests of the text of a core, one after another, and what they say together.
use Rattle.std.proofs.Common.{◌≡◌, ◌↔◌, ◌∙◌, ℕ, zero, suc, ◌+◌, ◌-◌, ◌<◌, ◌≤◌, List, [], ◌∷◌, ◌++◌, length, map, get_or, slice_get, Option, Some, None, Result, Ok, Err, refl, sym, ap, subst, arith}
use Rattle.std.specs.Prelude.{option_map, IsSomeAnd, IfOk}
use Rattle.std.specs.List.{AllByRecursion}
use Rattle.std.proofs.lemmas.Option.{get_or_from_slice_get}
use Rattle.column_order.specs.Orders.{place, IsValidOrder}
use Rattle.column_order.proofs.Lists.{at_place, place_at}
use Rattle.row_model.specs.declared.kind.Kind.{Kind}
use Rattle.row_model.specs.declared.graph.Line.{Line}
use Rattle.row_model.specs.declared.graph.Pair.{Pair}
use Rattle.row_model.specs.Graph.{JoinedBy}
use Rattle.row_model.specs.Cycles.{IsOddWalk}
use Rattle.row_model.specs.Rows.{RowList}
use Rattle.row_model.proofs.Ascending.{row_once}
use Rattle.others_kept.specs.Others.{IsValidForOthers}
use Rattle.core_text.specs.Parts.{CoreParts}
use Rattle.core_text.specs.Cores.{AreRowNumbers, rows_at, but, IsCore}
use Rattle.core_text.specs.Told.{IsAmong, AreAmong, TellsCore}
use Rattle.core_text.specs.Laws.{BlameLaw}
use Rattle.core_text.specs.Texts.{TextValue}
use Rattle.verdict_judge.specs.Tests.{numbers}
use Rattle.verdict_judge.specs.NoTests.{HasLine, pair_after, PassesLength, PassesPair, PassesRepeat}
use Rattle.verdict_judge.specs.Core.{line_tests, core_tests, order_without, PassesCoreOrder, PassesCoreJoin, PassesCore, IsAcceptedCore, NamesCoreLaw, ToldCoreLaw}
use Rattle.verdict_judge.specs.Found.{IsLeastFailing, Finds}
use Rattle.verdict_judge.specs.declared.core_outcome.CoreReason.{CoreReason}
use Rattle.verdict_judge.specs.declared.core_outcome.CoreReason.TheVariants as reason
use Rattle.verdict_judge.specs.declared.core_outcome.CoreChecked.TheVariants.{Valid, Invalid}
use Rattle.verdict_judge.proofs.First.{finds_here, finds_next, finds_after, finds_part, finds_each, all_parts, all_after, all_each, each_all, Words}
use Rattle.verdict_judge.proofs.Closed.{joins_close, cycle_joins, cycle_pairs, cycle_repeats}
use Rattle.verdict_judge.proofs.Lines.{line_has, has_line}
use Rattle.verdict_judge.proofs.RowTests.{others_are}

-- of tests of the items of a list, the first that fails is known
pub finds_item : {A : Type 0} (P : CoreReason → Type 0) (f : A → CoreReason) (xs : List A) (i : ℕ) (d : A) → i < length xs
    → ((j : ℕ) → j < i → P (f (get_or xs j d))) → (P (f (get_or xs i d)) → ⊥) → Finds P (map f xs) (Some (f (get_or xs i d)))
finds_item P f [] i d l h n = absurd (omega arith)
finds_item P f (x ∷ xs) zero d l h n = finds_here P (f x) (map f xs) n
finds_item P f (x ∷ xs) (suc i) d l h n =
    finds_next P (f x) (map f xs) (Some (f (get_or xs i d))) (h 0 (omega arith)) (finds_item P f xs i d (omega arith) (λ j m. h (suc j) (omega arith)) n)

pub all_items : {A : Type 0} (P : CoreReason → Type 0) (f : A → CoreReason) (xs : List A) (d : A) → ((j : ℕ) → j < length xs → P (f (get_or xs j d))) → AllByRecursion P (map f xs)
all_items P f [] d h = tt
all_items P f (x ∷ xs) d h = (h 0 (omega arith), all_items P f xs d (λ j l. h (suc j) (omega arith)))

item_of_all : {A : Type 0} (P : CoreReason → Type 0) (f : A → CoreReason) (xs : List A) (i : ℕ) (d : A) → AllByRecursion P (map f xs) → i < length xs → P (f (get_or xs i d))
item_of_all P f [] i d h l = absurd (omega arith)
item_of_all P f (x ∷ xs) zero d h l = h.0
item_of_all P f (x ∷ xs) (suc i) d h l = item_of_all P f xs i d h.1 (omega arith)

-- what holds of a line of each number holds of each line
all_lines : (P : Line → Type 0) (lines : List Line) → ((k : ℕ) → 1 ≤ k → k ≤ length lines → HasLine lines k P) → AllByRecursion P lines
all_lines P [] h = tt
all_lines P (line ∷ lines) h = (
  h 1 (omega arith) (omega arith),
  all_lines P lines (λ k l u.
      let e : suc k - 1 ≡ suc (k - 1) = omega arith in
      let there : HasLine (line ∷ lines) (suc k) P = h (suc k) (omega arith) (omega arith) in
      subst (λ n. IsSomeAnd (slice_get (line ∷ lines) n) P) e there),
)

-- what holds of each line holds of the line of a number
line_of_all : (P : Line → Type 0) (lines : List Line) (k : ℕ) → AllByRecursion P lines → 1 ≤ k → k ≤ length lines → HasLine lines k P
line_of_all P [] k h l u = absurd (omega arith)
line_of_all P (line ∷ lines) zero h l u = absurd (omega arith)
line_of_all P (line ∷ lines) (suc zero) h l u = h.0
line_of_all P (line ∷ lines) (suc (suc k)) h l u =
    let e : suc (suc k) - 1 ≡ suc (suc k - 1) = omega arith in
    let there : HasLine lines (suc k) P = line_of_all P lines (suc k) h.1 (omega arith) (omega arith) in
    subst (λ n. IsSomeAnd (slice_get (line ∷ lines) n) P) (sym e) there

-- both of a line, or each by itself
both_parts : {A : Type 0} (o : Option A) (P Q : A → Type 0) → IsSomeAnd o (λ x. P x × Q x) → IsSomeAnd o P × IsSomeAnd o Q
both_parts None P Q h = (h, h)
both_parts (Some x) P Q h = (h.0, h.1)

parts_both : {A : Type 0} (o : Option A) (P Q : A → Type 0) → IsSomeAnd o P → IsSomeAnd o Q → IsSomeAnd o (λ x. P x × Q x)
parts_both None P Q h k = h
parts_both (Some x) P Q h k = (h, k)

module _ (m : RowList) (kind : Kind) (t : TextValue) where
  -- what the tests of an accepted text say of its parts
  module _ (accepted : IsAcceptedCore m kind t) where
    rows : AreRowNumbers (length m.rows) t.parts.rows
    rows = accepted.1.1.0

    split : AllByRecursion (PassesCore m kind t) (map reason.Order t.parts.rows) × AllByRecursion (PassesCore m kind t) (line_tests (length t.parts.lines))
    split = all_parts (PassesCore m kind t) (map reason.Order t.parts.rows) (line_tests (length t.parts.lines)) accepted.1.1.1

    joins : (k : ℕ) → 1 ≤ k → k ≤ length t.parts.lines → PassesCoreJoin m t.parts.rows t.parts.lines k
    joins =
        let n = length t.parts.lines in
        let later = all_parts (PassesCore m kind t) (map reason.Pair (numbers n)) (map reason.Repeat (numbers n) ++ map reason.Join (numbers n)) split.1.1 in
        let last = all_parts (PassesCore m kind t) (map reason.Repeat (numbers n)) (map reason.Join (numbers n)) later.1 in
        each_all (PassesCore m kind t) reason.Join n last.1

    walk : IsOddWalk m.columns m.rows t.parts.lines
    walk = record {
      closed = joins_close m t.parts.lines (λ k l u. (both_parts (slice_get t.parts.lines (k - 1)) (λ (line : Line). IsAmong t.parts.rows line.why)
          (λ (line : Line). JoinedBy m.columns m.rows line.pair (pair_after t.parts.lines k line.pair) line.why) (joins k l u)).1);
      odd = split.1.0.0;
    }

    among : AreAmong t.parts.rows t.parts.lines
    among = all_lines (λ (line : Line). IsAmong t.parts.rows line.why) t.parts.lines (λ k l u. (both_parts (slice_get t.parts.lines (k - 1)) (λ (line : Line). IsAmong t.parts.rows line.why)
        (λ (line : Line). JoinedBy m.columns m.rows line.pair (pair_after t.parts.lines k line.pair) line.why) (joins k l u)).0)

    names : BlameLaw → IsCore m t.parts.rows
    names blame = record {
      rows = rows;
      none = blame m t.parts.rows t.parts.lines walk among;
      others = λ k h.
          let there = at_place t.parts.rows k h in
          let passed : PassesCoreOrder m t.parts (get_or t.parts.rows (place t.parts.rows k) 0) = item_of_all (PassesCore m kind t) reason.Order t.parts.rows (place t.parts.rows k) 0 split.0 there.0 in
          (order_without t.parts k, subst (PassesCoreOrder m t.parts) there.1 passed);
    }

pub names_core : BlameLaw → NamesCoreLaw
names_core blame m kind t accepted = names m kind t accepted blame

-- the order of a row that is told is the one at its place
told_order : (m : RowList) (parts : CoreParts) → TellsCore m parts → (i : ℕ) → i < length parts.rows → PassesCoreOrder m parts (get_or parts.rows i 0)
told_order m parts h i l =
    let at : place parts.rows (get_or parts.rows i 0) ≡ i = place_at parts.rows (row_once (length m.rows) parts.rows h.core.rows) i l in
    subst (λ n. IsValidOrder m.columns (rows_at m.rows (but (get_or parts.rows i 0) parts.rows)) (get_or parts.orders n [])) (sym at) (h.orders i l).valid

pub told_core : ToldCoreLaw
told_core m kind parts h =
    let t : TextValue = record { kind = kind; columns = m.columns; parts = parts } in
    let lines = parts.lines in
    let n = length lines in
    let Q : CoreReason → Type 0 = PassesCore m kind t in (
      refl,
      (
        refl,
        (
          h.core.rows,
          all_after Q (map reason.Order parts.rows) (line_tests n) (all_items Q reason.Order parts.rows 0 (told_order m parts h)) (
            (h.cycle.simple.odd, h.cycle.simple.long),
            all_after Q (map reason.Pair (numbers n)) (map reason.Repeat (numbers n) ++ map reason.Join (numbers n)) (all_each Q reason.Pair n (cycle_pairs m lines h.cycle))
                (all_after Q (map reason.Repeat (numbers n)) (map reason.Join (numbers n)) (all_each Q reason.Repeat n (cycle_repeats m lines h.cycle))
                (all_each Q reason.Join n (λ k l u. parts_both (slice_get lines (k - 1)) (λ (line : Line). IsAmong parts.rows line.why)
                (λ (line : Line). JoinedBy m.columns m.rows line.pair (pair_after lines k line.pair) line.why) (line_of_all (λ (line : Line). IsAmong parts.rows line.why) lines k h.among l u) (cycle_joins m lines h.cycle k l u)))),
          ),
        ),
      ),
    )

-- what is said of the text of a core
pub core_words : Words Valid Invalid
core_words = record { apart = λ r e. absurd (cc); same = λ q r e. cc }

-- the tests of the lines, one after another
module _ (m : RowList) (kind : Kind) (t : TextValue) where
  -- the number of lines fails
  pub length_fails : (PassesLength t.parts.lines → ⊥) → Finds (PassesCore m kind t) (line_tests (length t.parts.lines)) (Some (reason.Length (length t.parts.lines)))
  length_fails h = finds_here (PassesCore m kind t) (reason.Length (length t.parts.lines)) _ h

  -- the pair of a line fails
  pub pair_fails : (c i : ℕ) → c ≡ m.columns → PassesLength t.parts.lines → IsLeastFailing (PassesPair c t.parts.lines) (length t.parts.lines) (Some i)
      → Finds (PassesCore m kind t) (line_tests (length t.parts.lines)) (Some (reason.Pair i))
  pair_fails c i e l h =
      finds_next (PassesCore m kind t) (reason.Length (length t.parts.lines)) _ (Some (reason.Pair i)) l
      (finds_part (PassesCore m kind t) (map reason.Pair (numbers (length t.parts.lines))) _ (reason.Pair i)
      (finds_each (PassesCore m kind t) reason.Pair (length t.parts.lines) (Some i) (subst (λ k. IsLeastFailing (PassesPair k t.parts.lines) (length t.parts.lines) (Some i)) e h)))

  -- the tests of the pairs are passed
  after_pairs : (c : ℕ) (o : Option CoreReason) → c ≡ m.columns → PassesLength t.parts.lines → IsLeastFailing (PassesPair c t.parts.lines) (length t.parts.lines) None
      → Finds (PassesCore m kind t) (map reason.Repeat (numbers (length t.parts.lines)) ++ map reason.Join (numbers (length t.parts.lines))) o
      → Finds (PassesCore m kind t) (line_tests (length t.parts.lines)) o
  after_pairs c o e l h f =
      finds_next (PassesCore m kind t) (reason.Length (length t.parts.lines)) _ o l
      (finds_after (PassesCore m kind t) (map reason.Pair (numbers (length t.parts.lines))) _ o
      (finds_each (PassesCore m kind t) reason.Pair (length t.parts.lines) None (subst (λ k. IsLeastFailing (PassesPair k t.parts.lines) (length t.parts.lines) None) e h)) f)

  -- a pair comes again
  pub repeat_fails : (c i : ℕ) (o : Option ℕ) → c ≡ m.columns → PassesLength t.parts.lines → IsLeastFailing (PassesPair c t.parts.lines) (length t.parts.lines) None → o ≡ Some i
      → IsLeastFailing (PassesRepeat t.parts.lines) (length t.parts.lines) o → Finds (PassesCore m kind t) (line_tests (length t.parts.lines)) (Some (reason.Repeat i))
  repeat_fails c i o e l h is r =
      after_pairs c (Some (reason.Repeat i)) e l h
      (finds_part (PassesCore m kind t) (map reason.Repeat (numbers (length t.parts.lines))) _ (reason.Repeat i)
      (finds_each (PassesCore m kind t) reason.Repeat (length t.parts.lines) (Some i) (subst (IsLeastFailing (PassesRepeat t.parts.lines) (length t.parts.lines)) is r)))

  -- a line does not join its pair to the next, or each does
  pub joins_tested : (c : ℕ) (o j : Option ℕ) → c ≡ m.columns → PassesLength t.parts.lines → IsLeastFailing (PassesPair c t.parts.lines) (length t.parts.lines) None → o ≡ None
      → IsLeastFailing (PassesRepeat t.parts.lines) (length t.parts.lines) o → IsLeastFailing (PassesCoreJoin m t.parts.rows t.parts.lines) (length t.parts.lines) j
      → Finds (PassesCore m kind t) (line_tests (length t.parts.lines)) (option_map reason.Join j)
  joins_tested c o j e l h is r k =
      after_pairs c (option_map reason.Join j) e l h
      (finds_after (PassesCore m kind t) (map reason.Repeat (numbers (length t.parts.lines))) _ (option_map reason.Join j)
      (finds_each (PassesCore m kind t) reason.Repeat (length t.parts.lines) None (subst (IsLeastFailing (PassesRepeat t.parts.lines) (length t.parts.lines)) is r))
      (finds_each (PassesCore m kind t) reason.Join (length t.parts.lines) j k))

-- one more line joins, or does not
pub joins_here : (m : RowList) (rows : List ℕ) (lines : List Line) (i : ℕ) (d : Line) (next : Pair) → i < length lines → ((other : Pair) → next ≡ pair_after lines (i + 1) other)
    → IsAmong rows (get_or lines i d).why → JoinedBy m.columns m.rows (get_or lines i d).pair next (get_or lines i d).why → PassesCoreJoin m rows lines (i + 1)
joins_here m rows lines i d next l e a j =
    line_has lines i d (λ (line : Line). IsAmong rows line.why × JoinedBy m.columns m.rows line.pair (pair_after lines (i + 1) line.pair) line.why) l
    (a, subst (λ v. JoinedBy m.columns m.rows (get_or lines i d).pair v (get_or lines i d).why) (e (get_or lines i d).pair) j)

pub here_among : (m : RowList) (rows : List ℕ) (lines : List Line) (i : ℕ) (d : Line) → i < length lines → PassesCoreJoin m rows lines (i + 1) → IsAmong rows (get_or lines i d).why
here_among m rows lines i d l h =
    (has_line lines i d (λ (line : Line). IsAmong rows line.why × JoinedBy m.columns m.rows line.pair (pair_after lines (i + 1) line.pair) line.why) l h).0

pub here_joined : (m : RowList) (rows : List ℕ) (lines : List Line) (i : ℕ) (d : Line) (next : Pair) → i < length lines → ((other : Pair) → next ≡ pair_after lines (i + 1) other)
    → PassesCoreJoin m rows lines (i + 1) → JoinedBy m.columns m.rows (get_or lines i d).pair next (get_or lines i d).why
here_joined m rows lines i d next l e h =
    let both = has_line lines i d (λ (line : Line). IsAmong rows line.why × JoinedBy m.columns m.rows line.pair (pair_after lines (i + 1) line.pair) line.why) l h in
    subst (λ v. JoinedBy m.columns m.rows (get_or lines i d).pair v (get_or lines i d).why) (sym (e (get_or lines i d).pair)) both.1

-- the order of the row at an index
order_here : (m : RowList) (parts : CoreParts) (i : ℕ) (rows o : List ℕ) → AreRowNumbers (length m.rows) parts.rows → i < length parts.rows → rows ≡ parts.rows
    → slice_get parts.orders (i + 1 - 1) ≡ Some o → IsValidOrder m.columns (rows_at m.rows (but (get_or rows i 0) rows)) o ↔ PassesCoreOrder m parts (get_or parts.rows i 0)
order_here m parts i rows o numbers l e g =
    let at : place parts.rows (get_or parts.rows i 0) ≡ i = place_at parts.rows (row_once (length m.rows) parts.rows numbers) i l in
    let found : get_or parts.orders i [] ≡ o = ap (λ n. get_or parts.orders n []) (omega arith) ∙ get_or_from_slice_get parts.orders (i + 1 - 1) o [] g in
    let same : order_without parts (get_or parts.rows i 0) ≡ o = ap (λ n. get_or parts.orders n []) at ∙ found in (
      λ v. subst (IsValidOrder m.columns (rows_at m.rows (but (get_or parts.rows i 0) parts.rows))) (sym same) (subst (λ xs. IsValidOrder m.columns (rows_at m.rows (but (get_or xs i 0) xs)) o) e v),
      λ v. subst (λ xs. IsValidOrder m.columns (rows_at m.rows (but (get_or xs i 0) xs)) o) (sym e) (subst (IsValidOrder m.columns (rows_at m.rows (but (get_or parts.rows i 0) parts.rows))) same v),
    )

-- the order of the row at an index keeps the other rows exactly where the test of the row is passed
pub order_tested : (m : RowList) (parts : CoreParts) (i : ℕ) (rows o : List ℕ) → AreRowNumbers (length m.rows) parts.rows → i < length rows → rows ≡ parts.rows
    → slice_get parts.orders (i + 1 - 1) ≡ Some o → IsValidForOthers m rows i o ↔ PassesCoreOrder m parts (get_or parts.rows i 0)
order_tested m parts i rows o numbers l e g =
    let here = order_here m parts i rows o numbers (omega (arith, ap length e, l)) e g in
    let others = others_are m rows i o (subst (AreRowNumbers (length m.rows)) (sym e) numbers) l in
    (λ v. here.0 (others.0 v), λ p. others.1 (here.1 p))

-- the tests before those of the lines, one after another
module _ (m : RowList) (kind : Kind) (t : TextValue) where
  pub kind_fails : (t.kind ≡ kind → ⊥) → Finds (PassesCore m kind t) (core_tests t) (Some reason.Kind)
  kind_fails h = finds_here (PassesCore m kind t) reason.Kind _ h

  pub columns_fail : t.kind ≡ kind → (t.columns ≡ m.columns → ⊥) → Finds (PassesCore m kind t) (core_tests t) (Some reason.Columns)
  columns_fail k h = finds_next (PassesCore m kind t) reason.Kind _ (Some reason.Columns) k (finds_here (PassesCore m kind t) reason.Columns _ h)

  pub rows_fail : t.kind ≡ kind → t.columns ≡ m.columns → (AreRowNumbers (length m.rows) t.parts.rows → ⊥) → Finds (PassesCore m kind t) (core_tests t) (Some reason.Rows)
  rows_fail k c h =
      finds_next (PassesCore m kind t) reason.Kind _ (Some reason.Rows) k (finds_next (PassesCore m kind t) reason.Columns _ (Some reason.Rows) c (finds_here (PassesCore m kind t) reason.Rows _ h))

  -- the first three are passed
  after_rows : (o : Option CoreReason) → t.kind ≡ kind → t.columns ≡ m.columns → AreRowNumbers (length m.rows) t.parts.rows
      → Finds (PassesCore m kind t) (map reason.Order t.parts.rows ++ line_tests (length t.parts.lines)) o → Finds (PassesCore m kind t) (core_tests t) o
  after_rows o k c r f =
      let last = map reason.Order t.parts.rows ++ line_tests (length t.parts.lines) in
      finds_next (PassesCore m kind t) reason.Kind (reason.Columns ∷ reason.Rows ∷ last) o k
      (finds_next (PassesCore m kind t) reason.Columns (reason.Rows ∷ last) o c (finds_next (PassesCore m kind t) reason.Rows last o r f))

  pub order_fails : (i : ℕ) → t.kind ≡ kind → t.columns ≡ m.columns → AreRowNumbers (length m.rows) t.parts.rows → Finds (PassesCore m kind t) (map reason.Order t.parts.rows) (Some (reason.Order i))
      → Finds (PassesCore m kind t) (core_tests t) (Some (reason.Order i))
  order_fails i k c r f = after_rows (Some (reason.Order i)) k c r (finds_part (PassesCore m kind t) (map reason.Order t.parts.rows) (line_tests (length t.parts.lines)) (reason.Order i) f)

  pub lines_tested : {E : Type 0} (found : Result (Option CoreReason) E) → t.kind ≡ kind → t.columns ≡ m.columns → AreRowNumbers (length m.rows) t.parts.rows
      → AllByRecursion (PassesCore m kind t) (map reason.Order t.parts.rows) → IfOk found (Finds (PassesCore m kind t) (line_tests (length t.parts.lines)))
      → IfOk found (Finds (PassesCore m kind t) (core_tests t))
  lines_tested (Ok o) k c r orders f = after_rows o k c r (finds_after (PassesCore m kind t) (map reason.Order t.parts.rows) (line_tests (length t.parts.lines)) o orders f)
  lines_tested (Err e) k c r orders f = tt

-- what is read of a text is as it says
pub numbers_read : (count n : ℕ) (rows given : List ℕ) → count ≡ n → given ≡ rows → AreRowNumbers n rows → AreRowNumbers count given
numbers_read count n rows given e f h = rw (e, f) h

pub read_numbers : (count n : ℕ) (rows given : List ℕ) → count ≡ n → given ≡ rows → AreRowNumbers count given → AreRowNumbers n rows
read_numbers count n rows given e f h = rw (sym e, sym f) h
