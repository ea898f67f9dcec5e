-- What rows say of the columns 1 to c is what their parts within 1 to c say.
use Rattle.std.proofs.Common.{◌≡◌, ◌∙◌, inl, inr, ℕ, ◌-◌, ◌<◌, ◌≤◌, List, [], ◌∷◌, length, map, get_or, slice_index, sym, subst, arith}
use Rattle.std.specs.Prelude.{All}
use Rattle.std.proofs.lemmas.List.{get_or-map, length-map}
use Rattle.std.proofs.lemmas.List.Elements.{All-map}
use Rattle.column_order.specs.Orders.{has, IsOrder, IsWithin, Keeps, IsValidOrder}
use Rattle.column_order.proofs.Counts.{order_within}
use Rattle.column_order.proofs.Lists.{has_at}
use Rattle.row_model.specs.Rows.{columns_where}
use Rattle.row_model.specs.Graph.{row_at, IsPair, Crosses, Fits, Joined, IsWalk, Evenly}
use Rattle.row_model.specs.declared.graph.Pair.{Pair}
use Rattle.row_model.specs.declared.graph.Why.{Why}
use Rattle.row_model.specs.declared.graph.Why.TheVariants.{Flip, Row}
use Rattle.row_model.proofs.Ascending.{row_within}
use Rattle.row_model.proofs.Walks.{evenly-mono}
use Rattle.row_model.proofs.Filtered.{has_filtered, ascends_filter}

-- the columns of 1 to c that a row has
abbrev pub inside : ℕ → List ℕ → List ℕ
inside c row = columns_where c (has row)

pub inside_within : (c : ℕ) (rows : List (List ℕ)) → All (IsWithin c) (map (inside c) rows)
inside_within c rows = All-map (IsWithin c) (inside c) rows (λ k d lt. row_within c (inside c (get_or rows k d)) (ascends_filter (has (get_or rows k d)) c c 0 (omega arith)))

module _ (c : ℕ) where
  same_at : (row : List ℕ) (a : ℕ) → 1 ≤ a → a ≤ c → has (inside c row) a ≡ has row a
  same_at row a from to = has_filtered (has row) c a from to

  module _ (o row : List ℕ) (order : IsOrder c o) where
    same_there : (i : ℕ) → i < length o → has (inside c row) (slice_index o i) ≡ has row (slice_index o i)
    same_there i lt = let at = order_within c o order (slice_index o i) (has_at o i lt) in same_at row (slice_index o i) at.0 at.1

    pub keeps_inside : Keeps o row → Keeps o (inside c row)
    keeps_inside keeps i j k below above last first end =
        same_there j (omega (arith, above, last)) ∙ keeps i j k below above last (sym (same_there i (omega (arith, below, above, last))) ∙ first) (sym (same_there k last) ∙ end)

    pub inside_keeps : Keeps o (inside c row) → Keeps o row
    inside_keeps keeps i j k below above last first end =
        sym (same_there j (omega (arith, above, last))) ∙ keeps i j k below above last (same_there i (omega (arith, below, above, last)) ∙ first) (same_there k last ∙ end)

  -- the orders that keep the rows are those that keep the parts
  pub valid_inside : (rows : List (List ℕ)) (o : List ℕ) → IsValidOrder c rows o → IsValidOrder c (map (inside c) rows) o
  valid_inside rows o valid = record { order = valid.order; kept = All-map (Keeps o) (inside c) rows (λ k d lt. keeps_inside o (get_or rows k d) valid.order (valid.kept k d lt)) }

  pub inside_valid : (rows : List (List ℕ)) (o : List ℕ) → IsValidOrder c (map (inside c) rows) o → IsValidOrder c rows o
  inside_valid rows o valid =
      record {
        order = valid.order;
        kept = λ k d lt. inside_keeps o (get_or rows k d) valid.order (subst (Keeps o) (get_or-map (inside c) rows k d d lt) (valid.kept k d (omega (arith, length-map rows (inside c), lt))));
      }

  crosses : (row : List ℕ) (v w : Pair) → IsPair c v → IsPair c w → Crosses (inside c row) v w → Crosses row v w
  crosses row v w from to cross =
      record {
        middle = cross.middle;
        ends = cross.ends;
        has_first = sym (same_at row v.a from.a_from from.a_to) ∙ cross.has_first;
        has_last = sym (same_at row w.b to.b_from to.b_to) ∙ cross.has_last;
        lacks_middle = sym (same_at row v.b from.b_from from.b_to) ∙ cross.lacks_middle;
      }

  module _ (rows : List (List ℕ)) where
    part_at : (k : ℕ) → 1 ≤ k → k ≤ length rows → row_at (map (inside c) rows) k ≡ inside c (row_at rows k)
    part_at k from to = get_or-map (inside c) rows (k - 1) [] [] (omega (arith, from, to))

    fits : (why : Why) (v w : Pair) → IsPair c v → IsPair c w → Fits (map (inside c) rows) why v w → Fits rows why v w
    fits Flip v w from to is = is
    fits (Row k) v w from to is =
        let most : k ≤ length rows = omega (arith, length-map rows (inside c), is.1) in
        let at = part_at k is.0 most in (
          is.0,
          most,
          elim is.2 [
            | inl on ↦ inl (crosses (row_at rows k) v w from to (subst (λ r. Crosses r v w) at on))
            | inr back ↦ inr (crosses (row_at rows k) w v to from (subst (λ r. Crosses r w v) at back))
          ],
        )

    joined : (v w : Pair) → Joined c (map (inside c) rows) v w → Joined c rows v w
    joined v w join = (join.0, record { from = join.1.from; to = join.1.to; fits = fits join.0 v w join.1.from join.1.to join.1.fits })

    -- walks by the parts are walks by the rows
    pub evenly_inside : (v w : Pair) → Evenly c (map (inside c) rows) v w → Evenly c rows v w
    evenly_inside v w even = evenly-mono (Joined c (map (inside c) rows)) (Joined c rows) joined v w even
