-- A cycle of a part of a matrix as one of the whole matrix.
use Rattle.std.proofs.Common.{◌≡◌, ◌≢◌, ◌∙◌, ℕ, zero, suc, ◌+◌, ◌-◌, ◌<◌, ◌≤◌, Bool, false, List, [], ◌∷◌, ◌++◌, length, take, drop, map, get_or, IsTrue, refl, sym, ap, subst, inl, inr, arith}
use Rattle.std.proofs.lemmas.List.{length-map, get_or-map, get_or_default, length-append, length-take, length-take-le, length-drop, get_or-take, get_or-drop, take-append-drop, take-map}
use Rattle.column_order.specs.Orders.{has, place, HasValidOrder}
use Rattle.column_order.proofs.Lists.{has_append_cases, has_append_left, has_append_right, has_at, at_place}
use Rattle.row_model.specs.declared.graph.Pair.{Pair}
use Rattle.row_model.specs.declared.graph.Line.{Line}
use Rattle.row_model.specs.declared.graph.Why.{Why}
use Rattle.row_model.specs.declared.graph.Why.TheVariants.{Flip, Row}
use Rattle.row_model.specs.Graph.{row_at, Crosses, JoinedBy}
use Rattle.row_model.specs.Cycles.{first_pair, LeadTo, IsClosedWalk, IsSimpleOdd, IsOddCycle}
use Rattle.row_model.specs.Rows.{RowList}
use Rattle.pq_tree.specs.declared.PqTree.{PqTree}
use Rattle.odd_cycle.specs.Short.{flip_of, flips, IsShort}
use Rattle.row_judge.specs.Judges.{IsTreeOfOrders}
use Rattle.core_text.specs.Cores.{AreRowNumbers, rows_at}
use Rattle.core_text.specs.Told.{IsAmong, AreAmong}
use Rattle.row_core.specs.Blamed.{AreEachWithin, part_at, rotated, whole_why, whole_line, IsReasonWithin, AreReasonsWithin, IsMarked, AreMarked, marked_from, IsBlamed}
use Rattle.row_core.specs.declared.blamed.Blamed.{Blamed}
use Rattle.core_text.specs.Laws.{BlameLaw}
use Rattle.pq_tree.specs.Proper.{columns}
use Rattle.pq_tree.proofs.Universal.{columns_order}
use Rattle.std.specs.List.{range_with_len}
use Rattle.row_core.proofs.Numbers.{within_at, rows_at_all}
use Rattle.row_core.proofs.Marks.{ascends_marked_front, has_marked}
use Rattle.row_core.proofs.Needed.{AreIn, AreMarkedBelow, valid_few}

-- row i of the part is the row of the i-th number
part_row : (rows : List (List ℕ)) (set : List ℕ) (i : ℕ) → i ≤ length set → 1 ≤ i → row_at (rows_at rows set) i ≡ row_at rows (get_or set (i - 1) 0)
part_row rows set i u l = get_or-map (row_at rows) set (i - 1) 0 [] (omega arith)

-- a row that joins two pairs in the part has a number of the part
reason_within : (c : ℕ) (rows : List (List ℕ)) (set : List ℕ) (v w : Pair) (why : Why) → JoinedBy c (rows_at rows set) v w why → IsReasonWithin (length set) why
reason_within c rows set v w Flip j = tt
reason_within c rows set v w (Row i) j = (j.fits.0, omega (arith, j.fits.1, length-map set (row_at rows)))

lead_within : (c : ℕ) (rows : List (List ℕ)) (set : List ℕ) (lines : List Line) (end : Pair) → LeadTo c (rows_at rows set) lines end → AreReasonsWithin (length set) lines
lead_within c rows set [] end h = tt
lead_within c rows set (line ∷ lines) end h = (reason_within c rows set line.pair (first_pair lines end) line.why h.0, lead_within c rows set lines end h.1)

pub reasons_within : (c : ℕ) (rows : List (List ℕ)) (set : List ℕ) (lines : List Line) → IsClosedWalk c (rows_at rows set) lines → AreReasonsWithin (length set) lines
reasons_within c rows set [] h = tt
reasons_within c rows set (line ∷ lines) h = lead_within c rows set (line ∷ lines) line.pair h

-- what a row joins in the part it joins in the whole matrix
joined_whole : (c : ℕ) (rows : List (List ℕ)) (set : List ℕ) (v w : Pair) (why : Why) → AreEachWithin (length rows) set → JoinedBy c (rows_at rows set) v w why → JoinedBy c rows v w (whole_why set why)
joined_whole c rows set v w Flip a j = record { from = j.from; to = j.to; fits = j.fits }
joined_whole c rows set v w (Row i) a j =
    let u : i ≤ length set = omega (arith, j.fits.1, length-map set (row_at rows)) in
    let within = a (i - 1) 0 (omega (arith, u, j.fits.0)) in
    let same : row_at (rows_at rows set) i ≡ row_at rows (get_or set (i - 1) 0) = part_row rows set i u j.fits.0 in
    record {
      from = j.from;
      to = j.to;
      fits = (
        within.0,
        within.1,
        elim j.fits.2 [
          | inl x ↦ inl (subst (λ row. Crosses row v w) same x)
          | inr x ↦ inr (subst (λ row. Crosses row w v) same x)
        ],
      );
    }

first_whole : (set : List ℕ) (lines : List Line) (end : Pair) → first_pair (map (whole_line set) lines) end ≡ first_pair lines end
first_whole set [] end = refl
first_whole set (line ∷ lines) end = refl

lead_whole : (c : ℕ) (rows : List (List ℕ)) (set : List ℕ) (lines : List Line) (end : Pair) → AreEachWithin (length rows) set → LeadTo c (rows_at rows set) lines end → LeadTo c rows (map (whole_line set) lines) end
lead_whole c rows set [] end a h = tt
lead_whole c rows set (line ∷ lines) end a h =
    (subst (λ v. JoinedBy c rows line.pair v (whole_why set line.why)) (sym (first_whole set lines end)) (joined_whole c rows set line.pair (first_pair lines end) line.why a h.0), lead_whole c rows set lines end a h.1)

closed_whole : (c : ℕ) (rows : List (List ℕ)) (set : List ℕ) (lines : List Line) → AreEachWithin (length rows) set → IsClosedWalk c (rows_at rows set) lines → IsClosedWalk c rows (map (whole_line set) lines)
closed_whole c rows set [] a h = tt
closed_whole c rows set (line ∷ lines) a h = lead_whole c rows set (line ∷ lines) line.pair a h

-- the pairs stay
simple_whole : (set : List ℕ) (lines : List Line) → IsSimpleOdd lines → IsSimpleOdd (map (whole_line set) lines)
simple_whole set lines h =
    let long : length (map (whole_line set) lines) ≡ length lines = length-map lines (whole_line set) in
    record {
      odd = rw long h.odd;
      long = rw long h.long;
      distinct = λ i j d l u.
          let j_in : j < length lines = omega (arith, u, long) in
          let i_in : i < length lines = omega (arith, l, j_in) in
          let e : Line = d in
          subst (λ (x : Line). x.pair ≢ (get_or (map (whole_line set) lines) j d).pair) (sym (get_or-map (whole_line set) lines i d d i_in))
          (subst (λ (y : Line). (whole_line set (get_or lines i d)).pair ≢ y.pair) (sym (get_or-map (whole_line set) lines j d d j_in)) (h.distinct i j d l j_in));
    }

-- an odd cycle of the part is one of the whole matrix
pub cycle_whole : (m : RowList) (set : List ℕ) (lines : List Line) → AreEachWithin (length m.rows) set → IsOddCycle m.columns (rows_at m.rows set) lines → IsOddCycle m.columns m.rows (map (whole_line set) lines)
cycle_whole m set lines a h = record { closed = closed_whole m.columns m.rows set lines a h.closed; simple = simple_whole set lines h.simple }

-- no reason becomes a flip, and none that is one ceases to be one
flip_whole : (set : List ℕ) (why : Why) → flip_of (whole_why set why) ≡ flip_of why
flip_whole set Flip = refl
flip_whole set (Row i) = refl

flips_whole : (set : List ℕ) (lines : List Line) → flips (map (whole_line set) lines) ≡ flips lines
flips_whole set [] = refl
flips_whole set (line ∷ lines) = omega (arith, flip_whole set line.why, flips_whole set lines)

-- a short cycle stays one
short_whole : (c : ℕ) (set : List ℕ) (lines : List Line) → IsShort c lines → IsShort c (map (whole_line set) lines)
short_whole c set lines h = record {
  one_flip = omega (arith, flips_whole set lines, h.one_flip);
  half = omega (arith, length-map lines (whole_line set), h.half);
}

-- what is marked is among the first n numbers, or among the marked ones of the others
among_marked : (n : ℕ) (set : List ℕ) (marks : List Bool) (why : Why) → n ≤ length set → IsReasonWithin (length set) why → IsMarked marks why → IsAmong (marked_from marks n (drop n set) ++ take n set) (whole_why set why)
among_marked n set marks Flip l w h = tt
among_marked n set marks (Row i) l w h = elim (i - n) as (λ d. i - n ≡ d → IsTrue (has (marked_from marks n (drop n set) ++ take n set) (get_or set (i - 1) 0))) [
  | zero ↦ λ e.
      let early : i - 1 < length (take n set) = omega (arith, e, w.0, length-take-le n set l) in
      has_append_right (marked_from marks n (drop n set)) (take n set) (get_or set (i - 1) 0)
      (subst (λ k. IsTrue (has (take n set) k)) (get_or-take n set (i - 1) 0 (omega (arith, e, w.0))) (has_at (take n set) (i - 1) early))
  | suc d ↦ λ e.
      let place : n + d ≡ i - 1 = omega (arith, e) in
      let late : d < length (drop n set) = omega (arith, e, w.1, length-drop n set) in
      has_append_left (marked_from marks n (drop n set)) (take n set) (get_or set (i - 1) 0)
      (subst (λ k. IsTrue (has (marked_from marks n (drop n set)) k)) (get_or-drop n set d 0 ∙ ap (λ k. get_or set k 0) place)
      (has_marked marks n d (drop n set) late (ap (λ k. get_or marks k false) place ∙ h)))
] refl

all_among_marked : (n : ℕ) (set : List ℕ) (marks : List Bool) (lines : List Line) → n ≤ length set → AreReasonsWithin (length set) lines → AreMarked marks lines
    → AreAmong (marked_from marks n (drop n set) ++ take n set) (map (whole_line set) lines)
all_among_marked n set marks [] l w h = tt
all_among_marked n set marks (line ∷ lines) l w h = (among_marked n set marks line.why l w.0 h.0, all_among_marked n set marks lines l w.1 h.1)

-- a list and what it is when it is rotated have the same numbers
pub rotated_in : (n : ℕ) (list : List ℕ) → AreIn (rotated n list) list
rotated_in n list k h = subst (λ xs. IsTrue (has xs k)) (take-append-drop n list) (elim (has_append_cases (drop n list) (take n list) k h) [
  | inl f ↦ has_append_right (take n list) (drop n list) k f
  | inr f ↦ has_append_left (take n list) (drop n list) k f
])

pub in_rotated : (n : ℕ) (list : List ℕ) → AreIn list (rotated n list)
in_rotated n list k h = elim (has_append_cases (take n list) (drop n list) k (subst (λ xs. IsTrue (has xs k)) (sym (take-append-drop n list)) h)) [
  | inl f ↦ has_append_right (drop n list) (take n list) k f
  | inr f ↦ has_append_left (drop n list) (take n list) k f
]

pub length-rotated : (n : ℕ) (list : List ℕ) → length (rotated n list) ≡ length list
length-rotated n list = omega (arith, length-append (drop n list) (take n list), length-drop n list, length-take n list)

-- the tree of all valid orders of the rows of a list is that of the rotated list
pub tree_rotated : (m : RowList) (n : ℕ) (list : List ℕ) (t : PqTree) → IsTreeOfOrders (part_at m list) t → IsTreeOfOrders (part_at m (rotated n list)) t
tree_rotated m n list t h = record {
  columns = h.columns;
  canonical = h.canonical;
  orders = λ o. (
    λ f. valid_few m.columns m.rows (rotated n list) list o (rotated_in n list) ((h.orders o).0 f),
    λ v. (h.orders o).1 (valid_few m.columns m.rows list (rotated n list) o (in_rotated n list) v),
  );
}

-- each number of a list that ascends as soon as it is rotated is one of 1 to the bound
pub within_rotated : (bound n : ℕ) (list : List ℕ) → AreRowNumbers bound (rotated n list) → AreEachWithin bound list
within_rotated bound n list a i d l =
    let there = at_place (rotated n list) (get_or list i d) (in_rotated n list (get_or list i d) (subst (λ k. IsTrue (has list k)) (get_or_default list i 0 d l) (has_at list i l))) in
    let within = within_at bound 0 (rotated n list) (place (rotated n list) (get_or list i d)) 0 a there.0 in
    subst (λ k. (1 ≤ k) × (k ≤ bound)) there.1 (omega (arith, within.0), within.1)

-- the rows that are marked, and the first n, are to blame
pub blamed_marked : (m : RowList) (n : ℕ) (list : List ℕ) (marks : List Bool) (lines : List Line) (blamed : Blamed) → n ≤ length list → blamed.rows.items ≡ marked_from marks n (drop n list) ++ take n list
    → blamed.untried ≤ length blamed.rows.items → blamed.lines ≡ map (whole_line list) lines
    → AreReasonsWithin (length list) lines → AreMarked marks lines → AreRowNumbers (length m.rows) (rotated n list) → IsOddCycle m.columns (rows_at m.rows list) lines
    → IsShort m.columns lines → IsBlamed m blamed
blamed_marked m n list marks lines blamed l rows few whole within marked a cycle short =
    record {
      rows = rw rows (ascends_marked_front (length m.rows) 0 n marks (drop n list) (take n list) a);
      few = few;
      cycle = rw whole (cycle_whole m list lines (within_rotated (length m.rows) n list a) cycle);
      short = rw whole (short_whole m.columns list lines short);
      among = rw (rows, whole) (all_among_marked n list marks lines l within marked);
    }

-- no place past the first refused row is marked
pub marked_below : (m : RowList) (list : List ℕ) (lines : List Line) (b : ℕ) (marks : List Bool) → IsOddCycle m.columns (take (b + 1) (rows_at m.rows list)) lines
    → ((n : ℕ) → AreReasonsWithin n lines → (j : ℕ) → n ≤ j → get_or marks j false ≡ false) → AreMarkedBelow marks (b + 1)
marked_below m list lines b marks cycle none j l =
    let there : IsOddCycle m.columns (rows_at m.rows (take (b + 1) list)) lines = subst (λ rows. IsOddCycle m.columns rows lines) (take-map (row_at m.rows) (b + 1) list) cycle in
    none (length (take (b + 1) list)) (reasons_within m.columns m.rows (take (b + 1) list) lines there.closed) j (omega (arith, l, length-take (b + 1) list))

-- some row is to blame: where there is none, the columns as they stand are a valid order
pub some_blamed : BlameLaw → (m : RowList) (rows : List ℕ) (lines : List Line) → IsOddCycle m.columns m.rows lines → AreAmong rows lines → 1 ≤ length rows
some_blamed law m [] lines cycle among =
    absurd (law m [] lines (record { closed = cycle.closed; odd = cycle.simple.odd }) among (columns m.columns, record { order = columns_order m.columns; kept = λ i d l. absurd (omega (arith, l)) }))
some_blamed law m (k ∷ rows) lines cycle among = omega arith

-- and so is one of the rows that have no valid order
pub some_row : (c : ℕ) (rows : List (List ℕ)) → (HasValidOrder c rows → ⊥) → 1 ≤ length rows
some_row c [] none = absurd (none (columns c, record { order = columns_order c; kept = λ i d l. absurd (omega (arith, l)) }))
some_row c (row ∷ rows) none = omega arith

-- all rows make the whole matrix
pub part_all : (m : RowList) → part_at m (range_with_len 1 (length m.rows)) ≡ m
part_all m = ap (λ rows. record { columns = m.columns; rows = rows }) (rows_at_all m.rows)
