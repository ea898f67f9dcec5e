-- The balls of a table of distances, centre after centre.
use Rattle.std.proofs.Common.{◌≡◌, ◌∙◌, ℕ, zero, suc, ◌+◌, ◌-◌, ◌<◌, ◌≤◌, List, [], ◌++◌, Option, Some, None, length, take, drop, refl, sym, ap, subst, inl, inr, arith, append-nil, append_assoc, length-append}
use Rattle.std.proofs.lemmas.Bool.{cases_lt}
use Rattle.std.specs.Prelude.{Result, Ok, Err, IsErrAnd}
use Rattle.std.proofs.lemmas.List.{take-append-le, take-append-drop}
use Rattle.column_order.specs.Orders.{HasValidOrder}
use Rattle.row_model.specs.Graph.{HasConflict}
use Rattle.row_model.specs.Rows.{RowList}
use Rattle.row_model.specs.declared.TheConstants.{MAX_ITEMS, MAX_ROWS}
use Rattle.graph_model.specs.Distances.{DistancesValue, IsDistances}
use Rattle.pq_tree.proofs.Frontiers.{leaves_are_frontier}
use Rattle.pq_tree.specs.Outline.{leaves}
use Rattle.pq_tree.specs.PqTree.{outline}
use Rattle.pq_tree.specs.declared.PqTree.{PqTree}
use Rattle.robinson_balls.specs.Balls.{balls_round, balls_to, balls_of}
use Rattle.instance_model.specs.Instance.{robinson}
use Rattle.instance_model.specs.Laws.{FewRowsLaw}
use Rattle.tree_theory.specs.Tied.{IsTied}
use Rattle.c1p_solve.specs.Answers.{HasAllOrders}
use Rattle.c1p_solve.specs.Growing.{Layout, outline_at, HasRefused, HasTaken, TakesRows}
use Rattle.c1p_solve.specs.Totals.{reduction_steps, answer_steps}
use Rattle.solve_replies.specs.Steps.{made_status, taking_steps, SolvesMatrixWithin}
use Rattle.solve_replies.proofs.Grown.{front_steps}

-- the balls of one centre more
pub next_centre : (d : DistancesValue) (x : ℕ) → balls_to d (x + 1) ≡ balls_to d x ++ balls_round d (x + 1)
next_centre d x =
    let more : suc x ≡ x + 1 = omega arith in
    subst (λ y. balls_to d y ≡ balls_to d x ++ balls_round d y) more refl

-- the balls of the first centres are the first balls
pub first_centres : (d : DistancesValue) (x n : ℕ) → x ≤ n → (rest : List (List ℕ)) × (balls_to d n ≡ balls_to d x ++ rest)
first_centres d x zero l =
    let same : zero ≡ x = omega (arith, l) in
    ([], ap (balls_to d) same ∙ sym (append-nil (balls_to d x)))
first_centres d x (suc n) l =
    elim (cases_lt x (suc n)) [
      | inl u ↦
          let front = first_centres d x n (omega (arith, u)) in
          (front.0 ++ balls_round d (suc n), ap (λ rows. rows ++ balls_round d (suc n)) front.1 ∙ append_assoc (balls_to d x) front.0 (balls_round d (suc n)))
      | inr u ↦
          let same : suc n ≡ x = omega (arith, l, u) in
          ([], ap (balls_to d) same ∙ sym (append-nil (balls_to d x)))
    ]

-- there are no more of them than a matrix within the limits has rows
pub few_to : (d : DistancesValue) (x : ℕ) → FewRowsLaw → IsDistances d → d.items ≤ MAX_ITEMS → x ≤ d.items → length (balls_to d x) ≤ MAX_ROWS
few_to d x few table small l =
    let front = first_centres d x d.items l in
    omega (arith, few (robinson d) 1 small table (omega arith, omega arith), ap length front.1, length-append (balls_to d x) front.0)

-- and they cost no more than all
pub steps_to : (d : DistancesValue) (x : ℕ) → x ≤ d.items → reduction_steps d.items (balls_to d x) ≤ taking_steps (balls_of d)
steps_to d x l =
    let front = first_centres d x d.items l in
    subst (λ (rows : List (List ℕ)). reduction_steps d.items (balls_to d x) ≤ reduction_steps d.items rows) (sym front.1) (front_steps d.items (balls_to d x) front.0)

-- a row that is refused among the first rows is refused among all
refused_of_all : (c k : ℕ) (front further : List (List ℕ)) (f : Layout) (s n : ℕ) → HasRefused (record { columns = c; rows = front }) k f s n → HasRefused (record { columns = c; rows = front ++ further }) k f s n
refused_of_all c k front further f s n h =
    let upto : take k front ≡ take k (front ++ further) = sym (take-append-le k front further h.to) in
    let before : take (k - 1) front ≡ take (k - 1) (front ++ further) = sym (take-append-le (k - 1) front further (omega (arith, h.to))) in
    record {
      from = h.from;
      to = omega (arith, h.to, length-append front further);
      columns = h.columns;
      tied = subst (λ (rows : List (List ℕ)). IsTied c rows (outline_at f)) before h.tied;
      before = subst (HasValidOrder c) before h.before;
      refused = λ o. h.refused (subst (HasValidOrder c) (sym upto) o);
      conflict = subst (HasConflict c) upto h.conflict;
      total = subst (λ (rows : List (List ℕ)). n ≤ s + reduction_steps c rows) upto h.total;
    }

-- so is a ball that is refused among those of the first centres
refused_ball : (d : DistancesValue) (x k : ℕ) (f : Layout) (s n : ℕ) → x < d.items → HasRefused (record { columns = d.items; rows = balls_to d x ++ balls_round d (x + 1) }) k f s n → HasRefused (balls_of d) k f s n
refused_ball d x k f s n l h =
    let rest = first_centres d (x + 1) d.items (omega (arith, l)) in
    let whole : balls_to d d.items ≡ (balls_to d x ++ balls_round d (x + 1)) ++ rest.0 = rest.1 ∙ ap (λ rows. rows ++ rest.0) (next_centre d x) in
    subst (λ (rows : List (List ℕ)). HasRefused (record { columns = d.items; rows = rows }) k f s n) (sym whole)
    (refused_of_all d.items k (balls_to d x ++ balls_round d (x + 1)) rest.0 f s n h)

-- the reducer is ready for the balls of the next centre
pub ready_for : (d : DistancesValue) (x : ℕ) (round : RowList) (f : Layout) (s n : ℕ) → round ≡ record { columns = d.items; rows = balls_round d (x + 1) } → HasTaken d.items (balls_to d x) f s n →
    HasTaken round.columns (balls_to d x) f s n
ready_for d x round f s n is held = subst (λ (m : RowList). HasTaken m.columns (balls_to d x) f s n) (sym is) held

-- and takes all of them, or refuses one
module _ (d : DistancesValue) (x : ℕ) (round : RowList) (f g : Layout) (s n p : ℕ) (r : Option ℕ) (is : round ≡ record { columns = d.items; rows = balls_round d (x + 1) }) (held : HasTaken d.items (balls_to d x) f s n)
    (takes : (rows : List (List ℕ)) (s : ℕ) → HasTaken round.columns rows f s n → TakesRows round.columns rows round.rows g s p r) where
  came : TakesRows d.items (balls_to d x) (balls_round d (x + 1)) g s p r
  came = subst (λ (m : RowList). TakesRows m.columns (balls_to d x) m.rows g s p r) is (takes (balls_to d x) s (ready_for d x round f s n is held))

  pub centre_taken : r ≡ None → HasTaken d.items (balls_to d (x + 1)) g s p
  centre_taken e =
      subst (λ (rows : List (List ℕ)). HasTaken d.items rows g s p) (sym (next_centre d x))
      (subst (λ (k : Option ℕ). TakesRows d.items (balls_to d x) (balls_round d (x + 1)) g s p k) e came)

  pub centre_refused : (k : ℕ) → x < d.items → r ≡ Some k → HasRefused (balls_of d) (length (balls_to d x) + k) g s p
  centre_refused k l e =
      refused_ball d x (length (balls_to d x) + k) g s p l (subst (λ (k : Option ℕ). TakesRows d.items (balls_to d x) (balls_round d (x + 1)) g s p k) e came)

-- the steps up to a refused row are within those of an answer
pub refused_steps : (m : RowList) (k : ℕ) (f : Layout) (s n : ℕ) → HasRefused m k f s n → n ≤ s + answer_steps m
refused_steps m k f s n h =
    let some : reduction_steps m.columns (take k m.rows) ≤ reduction_steps m.columns m.rows =
    subst (λ (rows : List (List ℕ)). reduction_steps m.columns (take k m.rows) ≤ reduction_steps m.columns rows) (take-append-drop k m.rows) (front_steps m.columns (take k m.rows) (drop k m.rows)) in
    omega (arith, h.total, some)

-- memory was refused within them
pub unmade_within : {A E : Type 0} (status : A → ℕ) (made : Result A E) (P : E → Type 0) (m : RowList) (s n : ℕ) → IsErrAnd made P → n ≤ s + answer_steps m → SolvesMatrixWithin m (made_status status made) s n
unmade_within status (Ok a) P m s n is most = absurd is
unmade_within status (Err e) P m s n is most = record { yes = λ none. absurd (omega (arith, none)); no = λ none. absurd (omega (arith, none)); most = most }

-- there is no valid order, as is told within them
pub none_within : (m : RowList) (s n : ℕ) → (HasValidOrder m.columns m.rows → ⊥) → n ≤ s + answer_steps m → SolvesMatrixWithin m 1 s n
none_within m s n none most = record { yes = λ e. absurd (omega (arith, e)); no = λ e. none; most = most }

-- rows have a valid order where a tree has all of them
pub all_orders_some : (m : RowList) (t : PqTree) → HasAllOrders m t → HasValidOrder m.columns m.rows
all_orders_some m t h = (leaves (outline t), (h.orders (leaves (outline t))).0 (leaves_are_frontier (outline t)))
