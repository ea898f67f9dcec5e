-- From one list of rows to the next: what a reduction by one row has to show, for every equality of pairs.
pub use Rattle.column_order.proofs.Lists.{has_at, place_at}
use Rattle.std.proofs.Common.{◌≡◌, ◌≢◌, ◌∙◌, ℕ, suc, ◌+◌, ◌-◌, ◌<◌, ◌≤◌, true, ltb, List, [], ◌∷◌, ◌++◌, length, get_or, IsTrue, All, refl, sym, subst, inl, inr, arith, length-append}
use Rattle.std.proofs.lemmas.Bool.{both_ways, lt-ltb, ltb-true, cases_eq, true_from_ne_false}
use Rattle.std.proofs.lemmas.List.{get_or_push}
use Rattle.std.proofs.lemmas.List.Elements.{All-push}
use Rattle.row_model.specs.declared.graph.Pair.{Pair}
use Rattle.row_model.specs.declared.graph.Why.TheVariants.{Flip, Row}
use Rattle.column_order.specs.Orders.{has, occurs, place, IsOrder, Keeps}
use Rattle.row_model.specs.Graph.{pair, IsPair, Crosses, row_at, Joined, IsWalk, Evenly}
use Rattle.column_order.proofs.Counts.{order_within}
use Rattle.row_model.proofs.Walks.{joined-append, is_pair_turned, turned_joined, evenly-refl, evenly-sym, evenly-trans, evenly-two, evenly-ends, evenly-mono}
use Rattle.pq_tree.specs.Outline.{Outline, leaves, IsFrontier}
use Rattle.tree_theory.specs.Tied.{IsTied}
use Rattle.tree_theory.proofs.Bound.{IsClosed, IsBound, IsPairEq, bound_mono, node_closed, node_in_line}
use Rattle.tree_theory.proofs.Frontiers.{frontier_occurs, frontier_has}
use Rattle.tree_theory.proofs.Exact.{tied_bound, order_rises, order_once}
use Rattle.tree_theory.proofs.Alike.{Alike, frontier_bound, bound_frontier}

-- two such equivalences: to stand alike in an order, and to be joined by a walk of even length
pub alike_eq : (rank : ℕ → ℕ) → IsPairEq (Alike rank)
alike_eq rank =
    record {
      same = λ v. (refl, refl);
      turn = λ v w h. (sym h.0, sym h.1);
      join = λ v w z h k. (h.0 ∙ k.0, h.1 ∙ k.1);
      flip = λ v w h. (h.1, h.0);
    }

joined_sym : (c : ℕ) (rows : List (List ℕ)) (v w : Pair) → Joined c rows v w → Joined c rows w v
joined_sym c rows v w (Flip, j) = (Flip, record { from = j.to; to = j.from; fits = (sym j.fits.1, sym j.fits.0) })
joined_sym c rows v w (Row k, j) =
    (Row k, record { from = j.to; to = j.from; fits = (j.fits.0, j.fits.1, elim j.fits.2 [ inl x ↦ inr x | inr x ↦ inl x ]) })

walk_end : (c : ℕ) (rows : List (List ℕ)) (us : List Pair) (v w : Pair) → IsPair c v → IsWalk (Joined c rows) v us w → IsPair c w
walk_end c rows [] v w h e = subst (IsPair c) e h
walk_end c rows (u ∷ us) v w h k = walk_end c rows us u w k.0.1.to k.1

evenly_flip : (c : ℕ) (rows : List (List ℕ)) (v w : Pair) (us : List Pair) → IsWalk (Joined c rows) v us w → (n : ℕ) → length us ≡ n + n →
    Evenly c rows (pair v.b v.a) (pair w.b w.a)
evenly_flip c rows v w [] e n l = subst (λ x. Evenly c rows (pair v.b v.a) (pair x.b x.a)) e (evenly-refl (Joined c rows) (pair v.b v.a))
evenly_flip c rows v w (u ∷ us) h n l =
    let pv : IsPair c v = h.0.1.from in
    let pw : IsPair c w = walk_end c rows us u w h.0.1.to h.1 in
    evenly-ends (Joined c rows) (pair v.b v.a) v (pair w.b w.a) w (turned_joined c rows v pv)
    (record { steps = u ∷ us; walk = h; half = n; even = l })
    (joined_sym c rows (pair w.b w.a) w (turned_joined c rows w pw))

pub evenly_eq : (c : ℕ) (rows : List (List ℕ)) → IsPairEq (Evenly c rows)
evenly_eq c rows =
    record {
      same = evenly-refl (Joined c rows);
      turn = evenly-sym (Joined c rows) (joined_sym c rows);
      join = evenly-trans (Joined c rows);
      flip = λ v w h. evenly_flip c rows v w h.steps h.walk h.half h.even;
    }

-- the columns of the last row are closed
pub last_row_closed : (c : ℕ) (rows : List (List ℕ)) (row l : List ℕ) → IsOrder c l → ((a : ℕ) → IsTrue (has row a) → IsTrue (has l a)) →
    IsClosed (Evenly c (rows ++ row ∷ [])) l row
last_row_closed c rows row l whole sub a b d ra rb ld rd =
    elim (cases_eq a b) [
      | inl e ↦ rw e (evenly-refl (Joined c (rows ++ row ∷ [])) (pair b d))
      | inr n ↦
          let wa : (1 ≤ a) × (a ≤ c) = order_within c l whole a (sub a ra) in
          let wb : (1 ≤ b) × (b ≤ c) = order_within c l whole b (sub b rb) in
          let wd : (1 ≤ d) × (d ≤ c) = order_within c l whole d ld in
          let ad : a ≢ d = λ e. both_ways (has row d) rd (rw e at ra) in
          let bd : b ≢ d = λ e. both_ways (has row d) rd (rw e at rb) in
          let p1 : IsPair c (pair a d) = record { a_from = wa.0; a_to = wa.1; b_from = wd.0; b_to = wd.1; distinct = ad } in
          let p2 : IsPair c (pair b d) = record { a_from = wb.0; a_to = wb.1; b_from = wd.0; b_to = wd.1; distinct = bd } in
          let e : row_at (rows ++ row ∷ []) (suc (length rows)) ≡ row = get_or_push rows row [] (suc (length rows) - 1) (omega arith) in
          let x : Crosses (row_at (rows ++ row ∷ []) (suc (length rows))) (pair a d) (pair d b) =
          rw e (record { middle = refl; ends = n; has_first = ra; has_last = rb; lacks_middle = rd }) in
          evenly-two (Joined c (rows ++ row ∷ [])) (pair a d) (pair d b) (pair b d)
          (Row (suc (length rows)), record { from = p1; to = is_pair_turned c (pair b d) p2; fits = (omega arith, omega (arith, length-append rows (row ∷ [])), inl x) })
          (Flip, record { from = is_pair_turned c (pair b d) p2; to = p2; fits = (refl, refl) })
    ]

-- an order in which the row's columns are closed keeps the row
pub closed_keeps : (o row : List ℕ) → ((a : ℕ) → occurs o a ≤ 1) → IsClosed (Alike (place o)) o row → Keeps o row
closed_keeps o row once h i j k lij ljk lk ri rk =
    true_from_ne_false (has row (get_or o j 0))
    (λ f.
    let e : Alike (place o) (pair (get_or o i 0) (get_or o j 0)) (pair (get_or o k 0) (get_or o j 0)) =
    h (get_or o i 0) (get_or o k 0) (get_or o j 0) ri rk (has_at o j (omega arith)) f in
    let pi : place o (get_or o i 0) ≡ i = place_at o once i (omega arith) in
    let pj : place o (get_or o j 0) ≡ j = place_at o once j (omega arith) in
    let pk : place o (get_or o k 0) ≡ k = place_at o once k lk in
    let first : ltb (place o (get_or o i 0)) (place o (get_or o j 0)) ≡ true = rw (pi, pj) (lt-ltb i j lij) in
    let l : k < j = ltb-true k j (rw (pk, pj) at (sym e.0 ∙ first)) in
    omega arith)

-- a bound tree whose frontiers keep the rows is tied
pub bound_tied : (c : ℕ) (rows : List (List ℕ)) (t : Outline) → ((f : List ℕ) → IsFrontier t f → All (Keeps f) rows) → IsBound (Evenly c rows) t → IsTied c rows t
bound_tied c rows t kept b =
    record {
      kept = kept;
      together = λ x n.
          node_closed (Evenly c rows) (evenly_eq c rows) (leaves t) t (λ a b d i j k n. absurd (both_ways (has (leaves t) d) n k)) b x n;
      in_line = λ us n. node_in_line (Evenly c rows) t b us n;
    }

-- A tree with the same columns that is bound exactly where the old one is and the row is closed is tied to one row more.
pub tied_more : (c : ℕ) (rows : List (List ℕ)) (row : List ℕ) (t u : Outline) → IsOrder c (leaves t) → IsTied c rows t →
    ((a : ℕ) → IsTrue (has row a) → IsTrue (has (leaves t) a)) →
    ((a : ℕ) → occurs (leaves u) a ≡ occurs (leaves t) a) →
    ((R : Pair → Pair → Type 0) → IsPairEq R → IsBound R t → IsClosed R (leaves t) row → IsBound R u) →
    ((R : Pair → Pair → Type 0) → IsPairEq R → IsBound R u → IsBound R t × IsClosed R (leaves t) row) →
    IsTied c (rows ++ row ∷ []) u
tied_more c rows row t u whole tied sub same down up =
    bound_tied c (rows ++ row ∷ []) u
    (λ f h.
    let once : (a : ℕ) → occurs f a ≤ 1 = λ a. rw (frontier_occurs u f a h ∙ same a) (order_once c (leaves t) whole a) in
    let k : IsBound (Alike (place f)) t × IsClosed (Alike (place f)) (leaves t) row =
    up (Alike (place f)) (alike_eq (place f)) (frontier_bound (place f) u f h (order_rises f once)) in
    let old : IsFrontier t f = bound_frontier t f (order_once c (leaves t) whole) (λ a. frontier_occurs u f a h ∙ same a) k.0 in
    All-push (Keeps f) rows row (tied.kept f old)
    (closed_keeps f row once (λ a b d ra rb fd rd. k.1 a b d ra rb (sym (frontier_has t f d old) ∙ fd) rd)))
    (down (Evenly c (rows ++ row ∷ [])) (evenly_eq c (rows ++ row ∷ []))
    (bound_mono (Evenly c rows) (Evenly c (rows ++ row ∷ [])) (λ v w h. evenly-mono (Joined c rows) (Joined c (rows ++ row ∷ [])) (joined-append c rows (row ∷ [])) v w h) t (tied_bound c rows t tied))
    (last_row_closed c rows row (leaves t) whole sub))
