-- The row of a matrix over an arena.
use Rattle.std.proofs.Common.{◌≡◌, ◌≢◌, ℕ, ◌+◌, ◌-◌, ◌*◌, ◌≤◌, ◌==◌, Bool, true, false, List, [], ◌∷◌, length, Some, IsTrue, refl, sym, ap, subst, ◌∙◌, arith, eq-eqb}
use Rattle.std.specs.Prelude.{slice_get}
use Rattle.std.proofs.lemmas.Option.{get_or_from_slice_get}
use Rattle.column_order.specs.Orders.{has}
use Rattle.column_order.proofs.Counts.{order_once}
use Rattle.column_order.proofs.Lists.{has_from_occurs}
use Rattle.row_model.specs.Graph.{row_at}
use Rattle.row_model.specs.Rows.{IsRow}
use Rattle.pq_tree.specs.Amortised.{nodes_met, nodes_met_below_root}
use Rattle.pq_tree.specs.Nodes.{IsPertinentRoot, pertinent_root}
use Rattle.pq_tree.specs.Outline.{Outline, leaves}
use Rattle.pq_tree.proofs.Nodes.{holds_above, pertinent_root_is, pertinent_root_unique}
use Rattle.pq_tree.specs.Proper.{IsProper}
use Rattle.pq_tree.proofs.Turnings.{equivalent_refl}
use Rattle.tree_theory.specs.Reduced.{no_column}
use Rattle.tree_theory.specs.declared.reducer.Step.TheVariants.{Taken}
use Rattle.arena_model.specs.Layout.{Layout, IsLayout, IsInUse}
use Rattle.arena_model.specs.NamedTree.{HasTwoEach, outline_at, outline_below}
use Rattle.arena_model.proofs.Lists.{few_once, occurs_here}
use Rattle.arena_model.proofs.Slots.{in_range}
use Rattle.pq_arena.specs.RowNodes.{column_leaves}
use Rattle.bubble_pass.specs.Fair.{AtMost}
use Rattle.bubble_pass.specs.Marks.{Marks, size_of}
use Rattle.bubble_pass.specs.Pass.{FoundRoot, FoundInside}
use Rattle.template_model.proofs.Replaced.{below_used}
use Rattle.row_reduce.specs.Ground.{IsGround}
use Rattle.row_reduce.specs.Outcome.{IsOutcome, AtFoundRoot, AtFoundInside, CanTakeRow}
use Rattle.row_reduce.proofs.Finding.{IsMarkedRow, at_found_root, at_found_inside, root_few, root_few_below, inside_few, inside_few_below}
use Rattle.row_reduce.proofs.AtRoot.{least}
use Rattle.row_reduce.proofs.AtInside.{inside_least}
use Rattle.row_reduce.proofs.Grounds.{labelled_below}
use Rattle.row_reduce.proofs.InPlace.{unmoved}
use Rattle.row_reduce.proofs.Kept.{kept_reduced}
use Rattle.row_reduce.proofs.RowLength.{row_few, row_few_below}
use Rattle.full_pass.specs.Answer.{IsSettled}
use Rattle.full_pass.specs.declared.settled.Settled.TheVariants.{Kept}
use Rattle.row_reduce.proofs.Taking.{AtRow}

-- row k of a matrix over the columns of the arena, whose tree is tied to some rows
pub record IsRowOver (f : Layout) (c : ℕ) (rows : List (List ℕ)) (k : ℕ) (row : List ℕ) : Type 0 where
  pub layout : IsLayout f
  pub can : CanTakeRow f c rows k
  pub at : slice_get rows (k - 1) ≡ Some row
  pub is_row : IsRow c row

pub row_over : {f : Layout} {c : ℕ} {rows : List (List ℕ)} {k : ℕ} {row : List ℕ} → IsLayout f → CanTakeRow f c rows k → slice_get rows (k - 1) ≡ Some row → IsRow c row → IsRowOver f c rows k row
row_over layout can at is_row = record { layout = layout; can = can; at = at; is_row = is_row }

pub row_is : {f : Layout} {c : ℕ} {rows : List (List ℕ)} {k : ℕ} {row : List ℕ} → IsRowOver f c rows k row → row_at rows k ≡ row
row_is {rows = rows} {k = k} {row = row} s = get_or_from_slice_get rows (k - 1) row [] s.at

is_row_at : {f : Layout} {c : ℕ} {rows : List (List ℕ)} {k : ℕ} {row : List ℕ} → IsRowOver f c rows k row → IsRow c (row_at rows k)
is_row_at {c = c} s = subst (λ z. IsRow c z) (sym (row_is s)) s.is_row

pub at_row : {f : Layout} {c : ℕ} {rows : List (List ℕ)} {k : ℕ} {row : List ℕ} → (s : IsRowOver f c rows k row) → AtRow c s.can.before (row_at rows k) (outline_at f)
at_row s = record { is_row = is_row_at s; proper = s.can.proper; tied = s.can.tied }

-- row k is one over the columns
pub row_ascends : (c : ℕ) (rows : List (List ℕ)) (k : ℕ) (row : List ℕ) → slice_get rows (k - 1) ≡ Some row → IsRow c row → IsRow c (row_at rows k)
row_ascends c rows k row at is_row = subst (λ z. IsRow c z) (sym (get_or_from_slice_get rows (k - 1) row [] at)) is_row

no_elements : (xs : List ℕ) → length xs ≡ 0 → xs ≡ []
no_elements [] e = refl
no_elements (x ∷ xs) e = absurd (omega arith)

-- an empty row leaves the tree as it is
pub empty_taken : {f : Layout} {c : ℕ} {rows : List (List ℕ)} {k : ℕ} {row : List ℕ} → IsRowOver f c rows k row → length row ≡ 0 → IsOutcome (row_at rows k) f f Taken
empty_taken {f = f} {rows = rows} {k = k} {row = row} s e = (no_column (row_is s ∙ no_elements row e) (equivalent_refl (outline_at f)), s.can.one, refl, unmoved f (column_leaves (row_at rows k)))

pub not_zero : (b : Bool) (n : ℕ) → b ≡ (n == 0) → b ≡ false → n ≡ 0 → ⊥
not_zero b n e f z = let t : (n == 0) ≡ true = eq-eqb n 0 z in let w : false ≡ true = sym f ∙ e ∙ t in cc

pub some_column : {f : Layout} {c : ℕ} {rows : List (List ℕ)} {k : ℕ} {row : List ℕ} → IsRowOver f c rows k row → (length row ≡ 0 → ⊥) → row_at rows k ≢ []
some_column s ne e = ne (ap length (sym (row_is s) ∙ e))

pub marked_row : {f : Layout} {c : ℕ} {rows : List (List ℕ)} {k : ℕ} {row : List ℕ} → IsRowOver f c rows k row → (v : Marks) → HasTwoEach f → row_at rows k ≢ [] → size_of v ≡ length f.slots →
    IsMarkedRow f v (row_at rows k)
marked_row {f = f} {rows = rows} {k = k} s v two some room = record {
  layout = s.layout;
  one = s.can.one;
  two = two;
  is_row = subst (λ z. IsRow z (row_at rows k)) (sym s.can.columns) (is_row_at s);
  some = some;
  room = room;
}

-- the nodes of a pass have room
pub nodes_room : {f : Layout} {v : Marks} {row : List ℕ} {q : ℕ} → IsGround f v row q → length v.nodes ≤ length f.slots
nodes_room {f = f} {v = v} {q = q} s = few_once v.nodes (length f.slots) s.marked.once (λ x o. in_range f x (below_used f q x s.layout s.used (labelled_below s x (s.marked.listed x o))))

-- no more nodes meet a row than the tree counts
abbrev pub MetLaw : Type 0
MetLaw = (f : Layout) (row : List ℕ) (n : ℕ) → IsLayout f → IsInUse f n → IsRow f.columns row → AtMost f (column_leaves row) n (nodes_met row (outline_below f n))

pub met_most : {f : Layout} {c : ℕ} {rows : List (List ℕ)} {k : ℕ} {row : List ℕ} → MetLaw → IsRowOver f c rows k row →
    AtMost f (column_leaves (row_at rows k)) f.root (nodes_met (row_at rows k) (outline_at f))
met_most {f = f} {rows = rows} {k = k} law s = law f (row_at rows k) f.root s.layout s.layout.root_used (subst (λ z. IsRow z (row_at rows k)) (sym s.can.columns) (is_row_at s))

pub row_over_arena : {f : Layout} {c : ℕ} {rows : List (List ℕ)} {k : ℕ} {row : List ℕ} → IsRowOver f c rows k row → IsRow f.columns (row_at rows k)
row_over_arena {rows = rows} {k = k} s = subst (λ z. IsRow z (row_at rows k)) (sym s.can.columns) (is_row_at s)

first_column : (row : List ℕ) → row ≢ [] → (a : ℕ) × IsTrue (has row a)
first_column [] n = absurd (n refl)
first_column (a ∷ row) n = (a, has_from_occurs (a ∷ row) a (occurs_here a row))

-- the smallest node that holds the row is the one that the tree counts below
pertinent_is : (c : ℕ) (row : List ℕ) (t x : Outline) → IsProper c t → row ≢ [] → IsPertinentRoot row t x → pertinent_root row t ≡ x
pertinent_is c row t x proper some r =
    let a = first_column row some in
    pertinent_root_unique row a.0 a.1 t (pertinent_root row t) x (order_once c (leaves t) proper.1) (pertinent_root_is row t (holds_above row x t r.node r.whole)) r

-- no more nodes at or below the pertinent root meet the row than the tree counts there
pub met_below : {f : Layout} {c : ℕ} {rows : List (List ℕ)} {k : ℕ} {row : List ℕ} → MetLaw → IsRowOver f c rows k row → row_at rows k ≢ [] → (q : ℕ) → IsInUse f q →
    IsPertinentRoot (row_at rows k) (outline_at f) (outline_below f q) → AtMost f (column_leaves (row_at rows k)) q (nodes_met_below_root (row_at rows k) (outline_at f))
met_below {f = f} {c = c} {rows = rows} {k = k} law s some q used r =
    subst (λ z. AtMost f (column_leaves (row_at rows k)) q (nodes_met (row_at rows k) z)) (sym (pertinent_is c (row_at rows k) (outline_at f) (outline_below f q) s.can.proper some r))
    (law f (row_at rows k) q s.layout used (row_over_arena s))

pub root_below : {f : Layout} {v : Marks} {c : ℕ} {rows : List (List ℕ)} {k : ℕ} {row : List ℕ} {q : ℕ} → MetLaw → IsRowOver f c rows k row → AtFoundRoot f v (row_at rows k) q → (s0 s1 s2 : ℕ) →
    s1 ≤ s0 + 7 * nodes_met_below_root (row_at rows k) (outline_at f) + 2 → s2 ≤ s1 + 31 * length v.nodes → s2 ≤ s0 + 38 * nodes_met_below_root (row_at rows k) (outline_at f) + 8
root_below {f = f} {v = v} {rows = rows} {k = k} {q = q} law s found s0 s1 s2 x y =
    let few : length v.nodes ≤ nodes_met_below_root (row_at rows k) (outline_at f) =
    root_few_below (nodes_met_below_root (row_at rows k) (outline_at f)) found (met_below law s found.some q found.ground.used (least found)) in
    omega arith

pub inside_below : {f : Layout} {v : Marks} {c : ℕ} {rows : List (List ℕ)} {k : ℕ} {row : List ℕ} → MetLaw → IsRowOver f c rows k row → AtFoundInside f v (row_at rows k) → (s0 s1 s2 : ℕ) →
    s1 ≤ s0 + 7 * nodes_met_below_root (row_at rows k) (outline_at f) + 2 → s2 ≤ s1 + 31 * length v.nodes + 6 → s2 ≤ s0 + 38 * nodes_met_below_root (row_at rows k) (outline_at f) + 8
inside_below {f = f} {v = v} {rows = rows} {k = k} law s found s0 s1 s2 x y =
    let few : length v.nodes ≤ nodes_met_below_root (row_at rows k) (outline_at f) =
    inside_few_below (nodes_met_below_root (row_at rows k) (outline_at f)) found (met_below law s found.some found.found.run.q found.ground.used (inside_least found)) in
    omega arith

-- what the pass has found in the arena, which it leaves as it is
pub root_found : {f : Layout} {v : Marks} {row : List ℕ} (g : Layout) → IsMarkedRow f v row → g ≡ f → (q : ℕ) → FoundRoot f (column_leaves row) v q → AtFoundRoot g v row q
root_found {v = v} {row = row} g s e q found = subst (λ z. AtFoundRoot z v row q) (sym e) (at_found_root s q found)

pub inside_found : {f : Layout} {v : Marks} {row : List ℕ} (g : Layout) → IsMarkedRow f v row → g ≡ f → FoundInside f (column_leaves row) v → AtFoundInside g v row
inside_found {v = v} {row = row} g s e found = subst (λ z. AtFoundInside z v row) (sym e) (at_found_inside s found)

pub root_total : {f : Layout} {v : Marks} {row : List ℕ} {q : ℕ} (a : ℕ) → AtFoundRoot f v row q → AtMost f (column_leaves row) f.root a → (s0 s1 s2 : ℕ) → s1 ≤ s0 + 5 * a → s2 ≤ s1 + 31 * length v.nodes →
    s2 ≤ s0 + 36 * a + 6
root_total {v = v} a s most s0 s1 s2 x y = let few : length v.nodes ≤ a = root_few a s most in omega arith

pub inside_total : {f : Layout} {v : Marks} {row : List ℕ} (a : ℕ) → AtFoundInside f v row → AtMost f (column_leaves row) f.root a → (s0 s1 s2 : ℕ) → s1 ≤ s0 + 5 * a → s2 ≤ s1 + 31 * length v.nodes + 6 →
    s2 ≤ s0 + 36 * a + 6
inside_total {v = v} a s most s0 s1 s2 x y = let few : length v.nodes ≤ a = inside_few a s most in omega arith

-- a row that the full pass says to keep leaves the tree as it is
pub kept_taken : {f : Layout} {c : ℕ} {rows : List (List ℕ)} {k : ℕ} {row : List ℕ} → IsRowOver f c rows k row → HasTwoEach f → (members others : List ℕ) → IsSettled f (column_leaves (row_at rows k)) members others Kept →
    IsOutcome (row_at rows k) f f Taken
kept_taken {f = f} {rows = rows} {k = k} s two members others settled =
    (kept_reduced f (row_at rows k) members others s.layout s.can.one two (row_over_arena s) settled, s.can.one, refl, unmoved f (column_leaves (row_at rows k)))

-- a row has no more columns than nodes that meet it
pub few_columns : {f : Layout} {c : ℕ} {rows : List (List ℕ)} {k : ℕ} {row : List ℕ} → MetLaw → IsRowOver f c rows k row → length (row_at rows k) ≤ nodes_met (row_at rows k) (outline_at f)
few_columns {f = f} {rows = rows} {k = k} law s = row_few f (row_at rows k) (nodes_met (row_at rows k) (outline_at f)) s.layout s.can.one (row_over_arena s) (met_most law s)

-- counted at and below the pertinent root
pub few_below : {f : Layout} {c : ℕ} {rows : List (List ℕ)} {k : ℕ} {row : List ℕ} → IsRowOver f c rows k row → length (row_at rows k) ≤ nodes_met_below_root (row_at rows k) (outline_at f)
few_below {f = f} {c = c} {rows = rows} {k = k} s = row_few_below c (row_at rows k) (outline_at f) (is_row_at s) s.can.proper

-- the steps of a row at most, by the nodes that it meets, and by those at or below the pertinent root
abbrev pub Few : Layout → List ℕ → ℕ → ℕ → Type 0
Few f row s0 s1 = s1 ≤ s0 + 8 * length row + 36 * nodes_met row (outline_at f) + 6

abbrev pub FewBelow : Layout → List ℕ → ℕ → ℕ → Type 0
FewBelow f row s0 s1 = s1 ≤ s0 + 8 * length row + 38 * nodes_met_below_root row (outline_at f) + 8

-- the steps of the full pass and of the templates behind it
pub open_few : (f : Layout) (row : List ℕ) (s0 s1 s2 : ℕ) → s1 ≤ s0 + 8 * length row → s2 ≤ s1 + 36 * nodes_met row (outline_at f) + 6 → Few f row s0 s2
open_few f row s0 s1 s2 x y = omega arith

pub open_root_few : (f : Layout) (row : List ℕ) (s0 s1 s2 : ℕ) → s1 ≤ s0 + 8 * length row → s2 ≤ s1 + 38 * nodes_met_below_root row (outline_at f) + 8 → FewBelow f row s0 s2
open_root_few f row s0 s1 s2 x y = omega arith

-- the wide bounds
pub wide_total : {f : Layout} {c : ℕ} {rows : List (List ℕ)} {k : ℕ} {row : List ℕ} → MetLaw → IsRowOver f c rows k row → (s0 s1 : ℕ) → Few f (row_at rows k) s0 s1 →
    s1 ≤ s0 + 256 * (nodes_met (row_at rows k) (outline_at f) + 1)
wide_total law s s0 s1 x = omega (arith, few_columns law s)

pub wide_below : {f : Layout} {c : ℕ} {rows : List (List ℕ)} {k : ℕ} {row : List ℕ} → IsRowOver f c rows k row → (s0 s1 : ℕ) → FewBelow f (row_at rows k) s0 s1 →
    s1 ≤ s0 + 4 * length (row_at rows k) + 252 * (nodes_met_below_root (row_at rows k) (outline_at f) + 1)
wide_below s s0 s1 x = omega (arith, few_below s)
