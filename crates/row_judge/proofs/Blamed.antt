-- An odd cycle of rows that have no valid order blames a row without which they have one.
use Rattle.std.proofs.Common.{◌≡◌, ◌∙◌, ◌⊎◌, inl, inr, ℕ, zero, suc, ◌+◌, ◌-◌, ◌≤◌, List, [], ◌∷◌, ◌++◌, length, take, get_or, refl, sym, ap, subst, arith}
use Rattle.std.proofs.lemmas.Bool.{cases_eq, cases_lt}
use Rattle.std.proofs.lemmas.List.{length-append, get_or_append_left, take_more, take_all, length-take-le}
use Rattle.column_order.specs.Orders.{HasValidOrder}
use Rattle.row_model.specs.declared.graph.Pair.{Pair}
use Rattle.row_model.specs.declared.graph.Line.{Line}
use Rattle.row_model.specs.declared.graph.Why.{Why}
use Rattle.row_model.specs.declared.graph.Why.TheVariants.{Flip, Row}
use Rattle.row_model.specs.Graph.{row_at, Crosses, JoinedBy}
use Rattle.row_model.specs.Cycles.{first_pair, LeadTo, IsClosedWalk, IsOddCycle}
use Rattle.row_model.proofs.Walks.{odd_walk_none}
use Rattle.row_model.proofs.CycleLaws.{odd_walk_from_lines}
use Rattle.row_judge.specs.Blamed.{IsReason, LastRowLaw, FirstConflictLaw}

module _ (c : ℕ) (rows : List (List ℕ)) (row : List ℕ) where
  front_row : (k : ℕ) → 1 ≤ k → k ≤ length rows → row_at (rows ++ row ∷ []) k ≡ row_at rows k
  front_row k from to = get_or_append_left rows (row ∷ []) [] (k - 1) (omega (arith, from, to))

  -- a reason is the last row, or one without it
  reason : (v w : Pair) (why : Why) → JoinedBy c (rows ++ row ∷ []) v w why → (why ≡ Row (length rows + 1)) ⊎ JoinedBy c rows v w why
  reason v w Flip join = inr (record { from = join.from; to = join.to; fits = join.fits })
  reason v w (Row k) join =
      elim (cases_eq k (length rows + 1)) [
        | inl last ↦ inl (ap Row last)
        | inr other ↦
            let most : k ≤ length rows = omega (arith, length-append rows (row ∷ []), join.fits.1, other) in
            let same = front_row k join.fits.0 most in
            inr (record { from = join.from; to = join.to; fits = (join.fits.0, most, subst (λ r. Crosses r v w ⊎ Crosses r w v) same join.fits.2) })
      ]

  later : (line : Line) (lines : List Line) (k : ℕ) → IsReason k lines → IsReason k (line ∷ lines)
  later line lines k (at, (n, lt, is), why) = (at, (suc n, omega (arith, lt), is), why)

  leads : (lines : List Line) (end : Pair) → LeadTo c (rows ++ row ∷ []) lines end → IsReason (length rows + 1) lines ⊎ LeadTo c rows lines end
  leads [] end lead = inr tt
  leads (line ∷ lines) end lead =
      elim (reason line.pair (first_pair lines end) line.why lead.0) [
        | inl last ↦ inl (line, (zero, omega arith, refl), last)
        | inr join ↦ elim (leads lines end lead.1) [
          | inl last ↦ inl (later line lines (length rows + 1) last)
          | inr rest ↦ inr (join, rest)
        ]
      ]

  closes : (lines : List Line) → IsClosedWalk c (rows ++ row ∷ []) lines → IsReason (length rows + 1) lines ⊎ IsClosedWalk c rows lines
  closes [] walk = inr tt
  closes (line ∷ lines) walk = leads (line ∷ lines) line.pair walk

pub last_row_law : LastRowLaw
last_row_law c rows row lines order cycle =
    elim (closes c rows row lines cycle.closed) [
      | inl last ↦ last
      | inr walk ↦ absurd (odd_walk_none c rows (odd_walk_from_lines c rows lines (record { closed = walk; odd = cycle.simple.odd })) order)
    ]

pub first_conflict_law : FirstConflictLaw
first_conflict_law m lines first =
    let before = first.before in
    let none : (rows : List (List ℕ)) → HasValidOrder m.columns rows → IsOddCycle m.columns rows lines → ⊥ =
    λ rows order cycle. odd_walk_none m.columns rows (odd_walk_from_lines m.columns rows lines (record { closed = cycle.closed; odd = cycle.simple.odd })) order in
    elim (cases_lt before (length m.rows)) [
      | inl inside ↦
          let last = last_row_law m.columns (take before m.rows) (get_or m.rows before []) lines first.order (subst (λ rows. IsOddCycle m.columns rows lines) (take_more m.rows before [] inside) first.cycle) in
          subst (λ n. IsReason (n + 1) lines) (length-take-le before m.rows (omega (arith, inside))) last
      | inr past ↦
          let same : take (before + 1) m.rows ≡ take before m.rows = take_all (before + 1) m.rows (omega (arith, past)) ∙ sym (take_all before m.rows past) in
          absurd (none (take before m.rows) first.order (subst (λ rows. IsOddCycle m.columns rows lines) same first.cycle))
    ]
