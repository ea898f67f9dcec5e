-- The tests of a side, one after another.
use Rattle.std.proofs.Common.{◌≡◌, ◌↔◌, ◌∙◌, ℕ, ◌-◌, Bool, false, List, [], length, map, Option, Some, None, Result, Ok, Err, slice_get, sym, ap, subst, get_or, arith, ◌+◌, ◌≤◌}
use Rattle.std.specs.Prelude.{IsTrue, IsSomeAnd, IfOk, All, option_map}
use Rattle.std.proofs.lemmas.Bool.{both_ways}
use Rattle.std.proofs.lemmas.Option.{get_or_from_slice_get}
use Rattle.std.proofs.lemmas.List.{get_or_default}
use Rattle.column_order.specs.Orders.{Keeps}
use Rattle.column_order.proofs.Counts.{order_unique}
use Rattle.row_model.specs.Graph.{row_at}
use Rattle.row_model.specs.Rows.{RowList}
use Rattle.pq_tree.specs.Outline.{Outline, leaves, IsFrontier}
use Rattle.pq_tree.specs.Proper.{IsProper}
use Rattle.tree_theory.specs.Tied.{AreTogether, AreInLine, IsTied}
use Rattle.verdict_text.specs.declared.verdict.Version.{Version}
use Rattle.verdict_text.specs.declared.verdict.Version.TheVariants.{Two}
use Rattle.verdict_text.specs.Verdict.{SideValue, YesValue}
use Rattle.verdict_judge.specs.Tests.{numbers, complete_tests, side_tests}
use Rattle.instance_model.specs.Instance.{InstanceValue, IsTextbookOrder, derived_matrix}
use Rattle.verdict_judge.specs.YesTests.{HasSide, AllKeep, PassesYes}
use Rattle.verdict_judge.specs.Found.{IsLeastFailing, Finds}
use Rattle.verdict_judge.specs.declared.outcome.Reason.{Reason}
use Rattle.verdict_judge.specs.declared.outcome.Reason.TheVariants as reason
use Rattle.verdict_judge.proofs.First.{finds_here, finds_next, finds_after, finds_part, finds_each, least_same}

-- what a test tells of a row it tells of row k
pub row_kept : (P : List ℕ → Type 0) (rows : List (List ℕ)) (k : ℕ) (row : List ℕ) (b : Bool) → slice_get rows (k - 1) ≡ Some row → IsTrue b ↔ P row → IsTrue b → P (row_at rows k)
row_kept P rows k row b e h t = subst P (sym (get_or_from_slice_get rows (k - 1) row [] e)) (h.0 t)

pub row_broken : (P : List ℕ → Type 0) (rows : List (List ℕ)) (k : ℕ) (row : List ℕ) (b : Bool) → slice_get rows (k - 1) ≡ Some row → IsTrue b ↔ P row → b ≡ false → P (row_at rows k) → ⊥
row_broken P rows k row b e h f p = both_ways b f (h.1 (subst P (get_or_from_slice_get rows (k - 1) row [] e) p))

-- what holds of a part of what is there
pub part_has : {A B : Type 0} (o : Option A) (part : A → B) (x : B) (P : B → Type 0) → IsSomeAnd o (λ a. part a ≡ x) → P x → IsSomeAnd o (λ a. P (part a))
part_has None part x P e p = absurd e
part_has (Some a) part x P e p = subst P (sym e) p

pub has_part : {A B : Type 0} (o : Option A) (part : A → B) (x : B) (P : B → Type 0) → IsSomeAnd o (λ a. part a ≡ x) → IsSomeAnd o (λ a. P (part a)) → P x
has_part None part x P e p = absurd e
has_part (Some a) part x P e p = subst P e p

-- the columns of a tree
pub proper_columns : (c d : ℕ) (t : Outline) → IsProper c t → IsProper d t → c ≡ d
proper_columns c d t h k = order_unique c d (leaves t) h.1 k.1

-- rows that are kept one by one
pub all_rows : (o : List ℕ) (rows : List (List ℕ)) → ((k : ℕ) → 1 ≤ k → k ≤ length rows → Keeps o (row_at rows k)) → All (Keeps o) rows
all_rows o rows h = λ k d l.
    let same : row_at rows (k + 1) ≡ get_or rows k d = ap (λ j. get_or rows j []) (omega arith) ∙ get_or_default rows k [] d l in
    subst (Keeps o) same (h (k + 1) (omega arith) (omega arith))

-- each frontier keeps all rows, where it keeps each of them
pub kept_by_all : (t : Outline) (rows : List (List ℕ)) → IsLeastFailing (λ k. AllKeep t (row_at rows k)) (length rows) None → (f : List ℕ) → IsFrontier t f → All (Keeps f) rows
kept_by_all t rows h f fr = all_rows f rows (λ k l u. h k l u f fr)

module _ (version : Version) (i : InstanceValue) (value : YesValue) (s : ℕ) where
  abbrev P : Reason → Type 0
  P = PassesYes i value

  -- the order fails
  pub order_fails : (o : List ℕ) → HasSide value s (λ side. side.order ≡ o) → (IsTextbookOrder i s o → ⊥) → Finds P (side_tests version s (derived_matrix i s)) (Some (reason.Order s))
  order_fails o e f = finds_here P (reason.Order s) _ (λ h. f (has_part (slice_get value.sides (s - 1)) (λ (side : SideValue). side.order) o (IsTextbookOrder i s) e h))

  -- the order passes
  order_passes : (o : List ℕ) → HasSide value s (λ side. side.order ≡ o) → IsTextbookOrder i s o → P (reason.Order s)
  order_passes o e v = part_has (slice_get value.sides (s - 1)) (λ (side : SideValue). side.order) o (IsTextbookOrder i s) e v

  -- a row is broken, or none is
  rows_tested : (m : RowList) (t : Outline) (r : Option ℕ) → m ≡ derived_matrix i s → HasSide value s (λ side. side.tree ≡ t) → IsLeastFailing (λ k. AllKeep t (row_at m.rows k)) (length m.rows) r →
      Finds P (map (reason.Tree s) (numbers (length (derived_matrix i s).rows))) (option_map (reason.Tree s) r)
  rows_tested m t r same f h =
      let rows = (derived_matrix i s).rows in
      finds_each P (reason.Tree s) (length rows) r
      (least_same (λ k. AllKeep t (row_at rows k)) (λ k. P (reason.Tree s k)) (length rows) r
      (λ k p. part_has (slice_get value.sides (s - 1)) (λ (side : SideValue). side.tree) t (λ u. AllKeep u (row_at rows k)) f p)
      (λ k p. has_part (slice_get value.sides (s - 1)) (λ (side : SideValue). side.tree) t (λ u. AllKeep u (row_at rows k)) f p)
      (subst (λ (x : RowList). IsLeastFailing (λ k. AllKeep t (row_at x.rows k)) (length x.rows) r) same h))

  -- a row is broken
  pub row_fails : (m : RowList) (o : List ℕ) (t : Outline) (k : ℕ) → m ≡ derived_matrix i s → HasSide value s (λ side. side.order ≡ o) → HasSide value s (λ side. side.tree ≡ t) →
      IsTextbookOrder i s o → IsLeastFailing (λ k. AllKeep t (row_at m.rows k)) (length m.rows) (Some k) → Finds P (side_tests version s (derived_matrix i s)) (Some (reason.Tree s k))
  row_fails m o t k same e f v h =
      finds_next P (reason.Order s) _ (Some (reason.Tree s k)) (order_passes o e v)
      (finds_part P (map (reason.Tree s) (numbers (length (derived_matrix i s).rows))) (complete_tests version s) (reason.Tree s k) (rows_tested m t (Some k) same f h))

  -- no row is broken, and then comes what version 2 asks
  pub rows_pass : (m : RowList) (o : List ℕ) (t : Outline) (r : Option Reason) → m ≡ derived_matrix i s → HasSide value s (λ side. side.order ≡ o) → HasSide value s (λ side. side.tree ≡ t) →
      IsTextbookOrder i s o → IsLeastFailing (λ k. AllKeep t (row_at m.rows k)) (length m.rows) None → Finds P (complete_tests version s) r → Finds P (side_tests version s (derived_matrix i s)) r
  rows_pass m o t r same e f v h g =
      finds_next P (reason.Order s) _ r (order_passes o e v)
      (finds_after P (map (reason.Tree s) (numbers (length (derived_matrix i s).rows))) (complete_tests version s) r (rows_tested m t None same f h) g)

-- the same of what the judge returned
pub rows_pass_ok : {E : Type 0} (version : Version) (i : InstanceValue) (value : YesValue) (s : ℕ) (m : RowList) (o : List ℕ) (t : Outline) (r : Result (Option Reason) E) → m ≡ derived_matrix i s →
    HasSide value s (λ side. side.order ≡ o) → HasSide value s (λ side. side.tree ≡ t) → IsTextbookOrder i s o → IsLeastFailing (λ k. AllKeep t (row_at m.rows k)) (length m.rows) None →
    IfOk r (λ found. (j : InstanceValue) (w : YesValue) → m ≡ derived_matrix j s → HasSide w s (λ side. side.tree ≡ t) → Finds (PassesYes j w) (complete_tests version s) found) →
    IfOk r (Finds (PassesYes i value) (side_tests version s (derived_matrix i s)))
rows_pass_ok version i value s m o t (Ok found) same e f v h g = rows_pass version i value s m o t found same e f v h (g i value same f)
rows_pass_ok version i value s m o t (Err x) same e f v h g = tt

-- the tree does not stand for every order
pub complete_fails : (i : InstanceValue) (value : YesValue) (s : ℕ) (m : RowList) (t : Outline) (b : Bool) → m ≡ derived_matrix i s → HasSide value s (λ side. side.tree ≡ t) →
    IsTrue b ↔ (AreTogether m.columns m.rows t × AreInLine m.columns m.rows t) → b ≡ false → Finds (PassesYes i value) (complete_tests Two s) (Some (reason.Complete s))
complete_fails i value s m t b same there tells fails =
    finds_here (PassesYes i value) (reason.Complete s) [] (λ h.
    let tied : IsTied (derived_matrix i s).columns (derived_matrix i s).rows t = has_part (slice_get value.sides (s - 1)) (λ (side : SideValue). side.tree) t (IsTied (derived_matrix i s).columns (derived_matrix i s).rows) there h in
    let here : IsTied m.columns m.rows t = subst (λ (x : RowList). IsTied x.columns x.rows t) (sym same) tied in
    both_ways b fails (tells.1 (here.together, here.in_line)))

-- the tree stands for every order
pub complete_passes : (i : InstanceValue) (value : YesValue) (s : ℕ) (m : RowList) (t : Outline) (b : Bool) → m ≡ derived_matrix i s → HasSide value s (λ side. side.tree ≡ t) →
    ((f : List ℕ) → IsFrontier t f → All (Keeps f) m.rows) → IsTrue b ↔ (AreTogether m.columns m.rows t × AreInLine m.columns m.rows t) → IsTrue b → Finds (PassesYes i value) (complete_tests Two s) None
complete_passes i value s m t b same there kept tells holds =
    let parts = tells.0 holds in
    let tied : IsTied m.columns m.rows t = record { kept = kept; together = parts.0; in_line = parts.1 } in
    (part_has (slice_get value.sides (s - 1)) (λ (side : SideValue). side.tree) t (IsTied (derived_matrix i s).columns (derived_matrix i s).rows) there (subst (λ (x : RowList). IsTied x.columns x.rows t) same tied), tt)
