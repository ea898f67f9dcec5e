-- The universal tree reduced by rows in turn.
use Rattle.std.proofs.Common.{◌≡◌, ◌∙◌, ℕ, zero, suc, ◌+◌, ◌-◌, ◌<◌, ◌≤◌, List, [], ◌∷◌, ◌++◌, length, map, take, get_or, refl, sym, ap, subst, arith}
use Rattle.std.specs.Prelude.{All}
use Rattle.std.proofs.lemmas.List.{take_more, take_all}
use Rattle.std.proofs.lemmas.List.Elements.{All-take}
use Rattle.column_order.specs.Orders.{IsWithin, Keeps, HasValidOrder}
use Rattle.pq_tree.specs.Outline.{Outline, leaves}
use Rattle.pq_tree.specs.Proper.{IsProper, universal}
use Rattle.pq_tree.proofs.Forests.{some_leaf}
use Rattle.column_order.proofs.Counts.{order_within}
use Rattle.tree_theory.specs.Tied.{IsTied}
use Rattle.tree_theory.specs.TiedLaws.{TiedLaw, LeavesLaw, UniversalLaw, EquivalentLaw}
use Rattle.tree_theory.specs.CanonicalLaws.{HasOrdersOf, OneShapeLaw}
use Rattle.tree_theory.specs.Laws.{KeptLaw, ExistsLaw}
use Rattle.row_model.specs.Graph.{pair}
use Rattle.tree_theory.proofs.Inside.{inside, inside_within, valid_inside, inside_valid, evenly_inside}

-- a proper tree that is tied to the rows
pub record HasTree (c : ℕ) (rows : List (List ℕ)) : Type 0 where
  pub tree : Outline
  pub proper : IsProper c tree
  pub tied : IsTied c rows tree

-- the first rows of rows that have a valid order have a tree
first_tree : UniversalLaw → KeptLaw → ExistsLaw → (c : ℕ) (rows : List (List ℕ)) → 1 ≤ c → All (IsWithin c) rows → HasValidOrder c rows → (k : ℕ) → HasTree c (take k rows)
first_tree start kept exists c rows some within valid zero = let u = start c some in record { tree = universal c; proper = u.0; tied = u.1 }
first_tree start kept exists c rows some within valid (suc k) = go (first_tree start kept exists c rows some within valid k) (length rows - k) refl
  where
    go : HasTree c (take k rows) → (d : ℕ) → length rows - k ≡ d → HasTree c (take (suc k) rows)
    go before zero e =
        let same : take k rows ≡ take (suc k) rows = take_all k rows (omega (arith, e)) ∙ sym (take_all (suc k) rows (omega (arith, e))) in
        subst (HasTree c) same before
    go before (suc d) e =
        let inside : k < length rows = omega (arith, e) in
        let next : k + 1 ≡ suc k = omega arith in
        let row : List ℕ = get_or rows k [] in
        let more : take k rows ++ row ∷ [] ≡ take (suc k) rows = sym (take_more rows k [] inside) ∙ ap (λ n. take n rows) next in
        let front : HasValidOrder c (take k rows ++ row ∷ []) =
        (valid.0, record { order = valid.1.order; kept = subst (All (Keeps valid.0)) (sym more) (All-take (Keeps valid.0) (suc k) rows valid.1.kept) }) in
        let reduced = (exists c (take k rows) row before.tree before.proper before.tied (within k [] inside)).1 front in
        let after = kept c (take k rows) row before.tree reduced.0 before.proper before.tied (within k [] inside) reduced.1 in
        subst (HasTree c) more (record { tree = reduced.0; proper = after.0; tied = after.1 })

-- so have all rows
pub tree_of_rows : UniversalLaw → KeptLaw → ExistsLaw → (c : ℕ) (rows : List (List ℕ)) → 1 ≤ c → All (IsWithin c) rows → HasValidOrder c rows → HasTree c rows
tree_of_rows start kept exists c rows some within valid =
    subst (HasTree c) (take_all (length rows) rows (omega arith)) (first_tree start kept exists c rows some within valid (length rows))

-- a proper tree with the frontiers of that tree is tied to the rows, too
exact_within : UniversalLaw → KeptLaw → ExistsLaw → TiedLaw → LeavesLaw → EquivalentLaw → OneShapeLaw → (c : ℕ) (rows : List (List ℕ)) (t : Outline) → 1 ≤ c → All (IsWithin c) rows → IsProper c t → HasOrdersOf c rows t → IsTied c rows t
exact_within start kept exists tied columns turned shape c rows t some within proper orders =
    let valid : HasValidOrder c rows = (leaves t, (orders (leaves t)).0 (columns t)) in
    let there = tree_of_rows start kept exists c rows some within valid in
    let frontiers = tied c rows there.tree there.proper.1 there.tied in
    let alike = shape c there.tree t there.proper proper (λ o. (λ f. (orders o).1 ((frontiers o).0 f), λ f. (frontiers o).1 ((orders o).0 f))) in
    (turned c rows there.tree t alike).1.0 there.tied

-- and so it is where rows have other numbers than those of the columns
pub exact : UniversalLaw → KeptLaw → ExistsLaw → TiedLaw → LeavesLaw → EquivalentLaw → OneShapeLaw → (c : ℕ) (rows : List (List ℕ)) (t : Outline) → IsProper c t → HasOrdersOf c rows t → IsTied c rows t
exact start kept exists tied columns turned shape c rows t proper orders =
    let first = some_leaf t proper.0 in
    let at = order_within c (leaves t) proper.1 first.0 first.1 in
    let some : 1 ≤ c = omega (arith, at.0, at.1) in
    let parts = exact_within start kept exists tied columns turned shape c (map (inside c) rows) t some (inside_within c rows) proper
    (λ o. (λ f. valid_inside c rows o ((orders o).0 f), λ v. (orders o).1 (inside_valid c rows o v))) in
    record {
      kept = λ f frontier. ((orders f).0 frontier).kept;
      together = λ x node a b d in_a in_b in_d out_d. evenly_inside c rows (pair a d) (pair b d) (parts.together x node a b d in_a in_b in_d out_d);
      in_line = λ ts node v w forward other. evenly_inside c rows v w (parts.in_line ts node v w forward other);
    }
