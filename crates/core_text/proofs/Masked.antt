-- A closed walk of odd length leaves no valid order of the rows that are its reasons. The other rows are made empty for that:
-- an order keeps an empty row, and the numbers of the rows stay.
use Rattle.std.proofs.Common.{◌≡◌, ◌∙◌, ℕ, zero, suc, ◌+◌, ◌-◌, ◌<◌, ◌≤◌, false, if◌then◌else◌, List, [], ◌∷◌, length, map, get_or, IsTrue, refl, sym, ap, subst, inl, inr, arith}
use Rattle.std.proofs.lemmas.Bool.{both_ways, cases_Bool}
use Rattle.std.proofs.lemmas.List.{length-map, get_or-map, get_or_default}
use Rattle.column_order.specs.Orders.{has, Keeps, IsValidOrder, place}
use Rattle.column_order.proofs.Lists.{at_place}
use Rattle.row_model.specs.declared.graph.Pair.{Pair}
use Rattle.row_model.specs.declared.graph.Line.{Line}
use Rattle.row_model.specs.declared.graph.Why.{Why}
use Rattle.row_model.specs.declared.graph.Why.TheVariants.{Flip, Row}
use Rattle.row_model.specs.Graph.{row_at, Crosses, JoinedBy}
use Rattle.row_model.specs.Cycles.{first_pair, LeadTo, IsClosedWalk}
use Rattle.row_model.proofs.CycleLaws.{odd_walk_from_lines}
use Rattle.row_model.proofs.Walks.{odd_walk_none}
use Rattle.core_text.specs.Cores.{rows_at}
use Rattle.core_text.specs.Told.{IsAmong, AreAmong}
use Rattle.core_text.specs.Laws.{BlameLaw}

-- the rows from number k on, but empty where the set lacks their number
abbrev masked : List ℕ → ℕ → List (List ℕ) → List (List ℕ)
masked set k [] = []
masked set k (row ∷ rows) = (if has set k then row else []) ∷ masked set (k + 1) rows

length-masked : (set : List ℕ) (k : ℕ) (rows : List (List ℕ)) → length (masked set k rows) ≡ length rows
length-masked set k [] = refl
length-masked set k (row ∷ rows) = ap suc (length-masked set (k + 1) rows)

masked_at : (set : List ℕ) (k i : ℕ) (rows : List (List ℕ)) (d : List ℕ) → i < length rows → get_or (masked set k rows) i d ≡ (if has set (k + i) then get_or rows i d else [])
masked_at set k i [] d l = absurd (omega arith)
masked_at set k zero (row ∷ rows) d l = let e : k ≡ k + 0 = omega arith in ap (λ n. if has set n then row else []) e
masked_at set k (suc i) (row ∷ rows) d l =
    let e : k + 1 + i ≡ k + suc i = omega arith in
    masked_at set (k + 1) i rows d (omega arith) ∙ ap (λ n. if has set n then get_or rows i d else []) e

-- a row of the set stays
masked_row : (set : List ℕ) (rows : List (List ℕ)) (k : ℕ) → 1 ≤ k → k ≤ length rows → IsTrue (has set k) → row_at (masked set 1 rows) k ≡ row_at rows k
masked_row set rows k l u h =
    let e : 1 + (k - 1) ≡ k = omega arith in
    masked_at set 1 (k - 1) rows [] (omega arith) ∙ rw (e, h) refl

-- an order keeps an empty row
keeps_empty : (o : List ℕ) → Keeps o []
keeps_empty o i j k l m n h = absurd (both_ways false refl h)

-- an order that is valid for the rows of the set keeps the masked rows
kept_masked : (c : ℕ) (set : List ℕ) (rows : List (List ℕ)) (o : List ℕ) → IsValidOrder c (rows_at rows set) o → IsValidOrder c (masked set 1 rows) o
kept_masked c set rows o h = record { order = h.order; kept = each }
  where
    kept_row : (k : ℕ) → IsTrue (has set k) → Keeps o (row_at rows k)
    kept_row k t =
        let there = at_place set k t in
        let at : get_or (map (row_at rows) set) (place set k) [] ≡ row_at rows k = get_or-map (row_at rows) set (place set k) 0 [] there.0 ∙ ap (row_at rows) there.1 in
        subst (Keeps o) at (h.kept (place set k) [] (omega (arith, there.0, length-map set (row_at rows))))

    each : (i : ℕ) (d : List ℕ) → i < length (masked set 1 rows) → Keeps o (get_or (masked set 1 rows) i d)
    each i d l =
        let in_rows : i < length rows = omega (arith, length-masked set 1 rows) in
        subst (Keeps o) (sym (masked_at set 1 i rows d in_rows))
        (elim (cases_Bool (has set (1 + i))) [
          | inl t ↦ rw t (subst (Keeps o) (at_index i d in_rows) (kept_row (1 + i) t))
          | inr f ↦ rw f (keeps_empty o)
        ])
      where
        at_index : (i : ℕ) (d : List ℕ) → i < length rows → row_at rows (1 + i) ≡ get_or rows i d
        at_index i d l = let back : 1 + i - 1 ≡ i = omega arith in ap (λ n. get_or rows n []) back ∙ get_or_default rows i [] d l

-- what a row of the set joins, the masked row joins
joined_masked : (c : ℕ) (set : List ℕ) (rows : List (List ℕ)) (v w : Pair) (why : Why) → IsAmong set why → JoinedBy c rows v w why → JoinedBy c (masked set 1 rows) v w why
joined_masked c set rows v w Flip a j = record { from = j.from; to = j.to; fits = j.fits }
joined_masked c set rows v w (Row k) a j =
    let same : row_at rows k ≡ row_at (masked set 1 rows) k = sym (masked_row set rows k j.fits.0 j.fits.1 a) in
    record {
      from = j.from;
      to = j.to;
      fits = (
        j.fits.0,
        omega (arith, j.fits.1, length-masked set 1 rows),
        elim j.fits.2 [
          | inl x ↦ inl (subst (λ row. Crosses row v w) same x)
          | inr x ↦ inr (subst (λ row. Crosses row w v) same x)
        ],
      );
    }

lead_masked : (c : ℕ) (set : List ℕ) (rows : List (List ℕ)) (lines : List Line) (end : Pair) → AreAmong set lines → LeadTo c rows lines end → LeadTo c (masked set 1 rows) lines end
lead_masked c set rows [] end a h = tt
lead_masked c set rows (line ∷ lines) end a h =
    (joined_masked c set rows line.pair (first_pair lines end) line.why a.0 h.0, lead_masked c set rows lines end a.1 h.1)

closed_masked : (c : ℕ) (set : List ℕ) (rows : List (List ℕ)) (lines : List Line) → AreAmong set lines → IsClosedWalk c rows lines → IsClosedWalk c (masked set 1 rows) lines
closed_masked c set rows [] a h = tt
closed_masked c set rows (line ∷ lines) a h = lead_masked c set rows (line ∷ lines) line.pair a h

pub blame_law : BlameLaw
blame_law m set lines walk among valid =
    odd_walk_none m.columns (masked set 1 m.rows)
    (odd_walk_from_lines m.columns (masked set 1 m.rows) lines (record { closed = closed_masked m.columns set m.rows lines among walk.closed; odd = walk.odd }))
    (valid.0, kept_masked m.columns set m.rows valid.0 valid.1)
