-- One row and the tree that is tied to the rows before it.
use Rattle.std.proofs.Common.{◌≡◌, ℕ, suc, ◌+◌, ◌-◌, ◌≤◌, List, [], ◌∷◌, ◌++◌, All, length, take, inl, inr, sym, ap, subst, ◌∙◌, arith}
use Rattle.std.proofs.lemmas.List.{take_more}
use Rattle.std.proofs.lemmas.List.Elements.{All-take}
use Rattle.std.proofs.Math.Seq.{take-append_seam}
use Rattle.column_order.specs.Orders.{Keeps, HasValidOrder}
use Rattle.row_model.specs.Graph.{row_at, HasConflict}
use Rattle.row_model.specs.Rows.{IsRow}
use Rattle.row_model.proofs.Ascending.{row_within}
use Rattle.row_model.proofs.Walks.{conflict_none}
use Rattle.pq_tree.specs.Outline.{Outline, leaves, IsFrontier}
use Rattle.pq_tree.specs.Proper.{IsProper}
use Rattle.pq_tree.proofs.Frontiers.{leaves_are_frontier}
use Rattle.tree_theory.specs.Tied.{IsTied}
use Rattle.tree_theory.proofs.Exact.{tied_law}
use Rattle.tree_theory.specs.Laws.{KeptLaw, DecidedLaw, RefusedLaw}
use Rattle.tree_theory.specs.Reduced.{IsReduced}
use Rattle.tree_theory.specs.Refused.{IsRefused}

-- a row, and a proper tree over its columns that is tied to the rows before it
pub record AtRow (c : ℕ) (before : List (List ℕ)) (row : List ℕ) (t : Outline) : Type 0 where
  pub is_row : IsRow c row
  pub proper : IsProper c t
  pub tied : IsTied c before t

-- the rows up to row k
pub next_rows : (rows : List (List ℕ)) (k : ℕ) → 1 ≤ k → k ≤ length rows → take (k - 1) rows ++ row_at rows k ∷ [] ≡ take k rows
next_rows rows k from to =
    let e : k ≡ k - 1 + 1 = omega arith in
    sym (ap (λ i. take i rows) e ∙ take_more rows (k - 1) [] (omega arith))

-- the reduced tree is proper, and tied to one row more
pub row_kept : {c : ℕ} {before : List (List ℕ)} {row : List ℕ} {t : Outline} → KeptLaw → AtRow c before row t → (u : Outline) → IsReduced row t u → IsProper c u × IsTied c (before ++ row ∷ []) u
row_kept {c = c} {before = before} {row = row} {t = t} law s u r = law c before row t u s.proper s.tied (row_within c row s.is_row) r

-- and the rows have a valid order
pub row_order : {c : ℕ} {before : List (List ℕ)} {row : List ℕ} {t : Outline} → KeptLaw → AtRow c before row t → (u : Outline) → IsReduced row t u → HasValidOrder c (before ++ row ∷ [])
row_order {c = c} {before = before} {row = row} law s u r =
    let w = row_kept law s u r in (leaves u, (tied_law c (before ++ row ∷ []) u w.0.1 w.1 (leaves u)).0 (leaves_are_frontier u))

-- where no template fits, they have a conflict, and no valid order
pub row_conflict : {c : ℕ} {before : List (List ℕ)} {row : List ℕ} {t : Outline} → RefusedLaw → AtRow c before row t → IsRefused row t → HasConflict c (before ++ row ∷ [])
row_conflict {c = c} {before = before} {row = row} {t = t} law s r = law c before row t s.proper s.tied (row_within c row s.is_row) r

pub row_none : {c : ℕ} {before : List (List ℕ)} {row : List ℕ} {t : Outline} → RefusedLaw → AtRow c before row t → IsRefused row t → HasValidOrder c (before ++ row ∷ []) → ⊥
row_none {c = c} {before = before} {row = row} law s r = conflict_none c (before ++ row ∷ []) (row_conflict law s r)

all_first : (P : List ℕ → Type 0) (xs ys : List (List ℕ)) → All P (xs ++ ys) → All P xs
all_first P xs ys a = subst (λ z. All P z) (take-append_seam xs ys) (All-take P (length xs) (xs ++ ys) a)

all_last : (P : List ℕ → Type 0) (xs : List (List ℕ)) (y : List ℕ) → All P (xs ++ y ∷ []) → P y
all_last P [] y a = a 0 [] (omega arith)
all_last P (x ∷ xs) y a = all_last P xs y (λ i d l. a (suc i) d (omega arith))

-- where no frontier keeps the row, no template fits
pub split_refused : {c : ℕ} {before : List (List ℕ)} {row : List ℕ} {t : Outline} → KeptLaw → DecidedLaw → AtRow c before row t → ((o : List ℕ) → IsFrontier t o → Keeps o row → ⊥) → IsRefused row t
split_refused {c = c} {before = before} {row = row} {t = t} kept decided s split = elim (decided c row t s.proper (row_within c row s.is_row)) [
  | inl r ↦
      let o = row_order kept s r.0 r.1 in
      absurd (split o.0 ((tied_law c before t s.proper.1 s.tied o.0).1 (record { order = o.1.order; kept = all_first (Keeps o.0) before (row ∷ []) o.1.kept })) (all_last (Keeps o.0) before row o.1.kept))
  | inr r ↦ r
]
