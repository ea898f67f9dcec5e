use Rattle.std.proofs.Common.{◌≡◌, ◌<◌, ◌+◌, ◌-◌, ◌++◌, ◌∷◌, [], All, length, take, get_or, slice_get, Some, subst, sym, ◌∙◌, ap, arith}
use Rattle.std.proofs.lemmas.List.{take_more, take_all}
use Rattle.std.proofs.lemmas.List.Elements.{All-push}
use Rattle.std.proofs.lemmas.Option.{get_or_from_slice_get}
use Rattle.row_model.specs.Rows.{IsRow}
use Rattle.column_order.specs.Orders.{IsOrder}
use Rattle.clone_map.specs.Places.{ArePlaces}
use Rattle.clone_map.proofs.PlaceLaws.{places_more}
use Rattle.clone_map.proofs.places.places_of.Goals as goal

pub loop-k-preserved : goal.loop-k-preserved
loop-k-preserved c =
    let k = c.loop-k.k in
    let rows = c.args.m.now.rows in
    let row = c.row.result.now in
    let lt : k < length rows = omega arith in
    let same : k + 1 - 1 ≡ k = omega arith in
    let at : get_or rows k [] ≡ row = get_or_from_slice_get rows k row [] (subst (λ n. slice_get rows n ≡ Some row) same c.row.ensures.row) in
    let more : take (k + 1) rows ≡ take k rows ++ row ∷ [] = take_more rows k [] lt ∙ ap (λ x. take k rows ++ x ∷ []) at in
    record {
      places = λ order is are.
          subst (λ xs. ArePlaces order xs c.push.new.self) (sym more)
          (subst (ArePlaces order (take k rows ++ row ∷ [])) (sym c.in_ok-push.ensures.ok)
          (places_more order (take k rows) c.loop-k.places row c.place_of.result (c.loop-k.invariant.places order is are) (c.place_of.ensures order (subst (λ n. IsOrder n order) (sym c.requires) is) are)));
      rows = subst (All (IsRow c.args.m.now.columns)) (sym more) (All-push (IsRow c.args.m.now.columns) (take k rows) row c.loop-k.invariant.rows c.row.ensures.ascending);
    }

pub returns-clause-rows : goal.returns-clause-rows
returns-clause-rows c =
    subst (All (IsRow c.args.m.now.columns)) (take_all c.loop-k.k c.args.m.now.rows (omega arith)) c.loop-k.invariant.rows
