-- What the pass has found, and how many nodes it has labelled.
use Rattle.std.proofs.Common.{◌≡◌, ◌≢◌, inl, inr, ℕ, ◌≤◌, List, [], length, Some, None, sym, subst, ◌∙◌, ap}
use Rattle.std.proofs.lemmas.Bool.{cases_eq}
use Rattle.column_order.specs.Orders.{occurs}
use Rattle.row_model.specs.Rows.{IsRow}
use Rattle.arena_model.specs.Layout.{Layout, IsInUse, IsLayout, IsAtOrAbove, here, down}
use Rattle.arena_model.specs.declared.Shape.TheVariants.{Q}
use Rattle.arena_model.specs.NamedTree.{IsOneTree, HasTwoEach}
use Rattle.pq_arena.specs.RowNodes.{column_leaves}
use Rattle.bubble_pass.specs.declared.labels.Label.TheVariants.{Empty}
use Rattle.bubble_pass.specs.Fair.{AtMost}
use Rattle.bubble_pass.specs.Marks.{Marks, label_at, size_of}
use Rattle.bubble_pass.specs.Pass.{AreMarked, FoundRoot, FoundInside}
use Rattle.bubble_pass.specs.Sweep.{IsRight}
use Rattle.template_model.specs.Standing.{IsReady}
use Rattle.arena_model.proofs.Slots.{parent_used}
use Rattle.template_model.proofs.Replaced.{join_paths, below_used}
use Rattle.row_reduce.specs.Ground.{IsGround}
use Rattle.row_reduce.specs.Outcome.{AtFoundRoot, AtFoundInside}
use Rattle.row_reduce.proofs.Grounds.{labelled_below, row_leaf_at}
use Rattle.row_reduce.proofs.AtRoot.{first_leaf}
use Rattle.row_reduce.proofs.Ticks.{nodes_few}

-- one tree with the marks of a row that has a column
pub record IsMarkedRow (f : Layout) (v : Marks) (row : List ℕ) : Type 0 where
  pub layout : IsLayout f
  pub one : IsOneTree f
  pub two : HasTwoEach f
  pub is_row : IsRow f.columns row
  pub some : row ≢ []
  pub room : size_of v ≡ length f.slots

used_above : (f : Layout) (n x : ℕ) → IsLayout f → IsAtOrAbove f.slots n x → IsInUse f x → IsInUse f n
used_above f _ _ h (here n) used = used
used_above f _ _ h (down n k x o l) used = parent_used f n k o h

ground_at : {f : Layout} {v : Marks} {row : List ℕ} → IsMarkedRow f v row → (q : ℕ) → IsInUse f q → AreMarked f (column_leaves row) v q → IsGround f v row q
ground_at s q used marked = record { layout = s.layout; one = s.one; two = s.two; is_row = s.is_row; room = s.room; used = used; marked = marked }

pub at_found_root : {f : Layout} {v : Marks} {row : List ℕ} → IsMarkedRow f v row → (q : ℕ) → FoundRoot f (column_leaves row) v q → AtFoundRoot f v row q
at_found_root {f = f} {row = row} s q found = record {
  ground =
      let x = first_leaf row s.some in
      ground_at s q (used_above f q x.0 s.layout (found.root.holds x.0 x.1) (leaf_used x.0 x.1)) found.marked;
  found = found;
  some = s.some;
}
  where
    leaf_used : (x : ℕ) → 1 ≤ occurs (column_leaves row) x → IsInUse f x
    leaf_used x o e = let l = row_leaf_at f row s.layout s.is_row x o in let z : None ≡ Some _ = sym e ∙ l.1 in cc

pub at_found_inside : {f : Layout} {v : Marks} {row : List ℕ} → IsMarkedRow f v row → FoundInside f (column_leaves row) v → AtFoundInside f v row
at_found_inside s found = record {
  found = found;
  ground = ground_at s found.run.q (λ e. let z : None ≡ Some Q = sym e ∙ found.run.is_q in cc) found.marked;
  some = s.some;
}

-- the templates may be asked for at a labelled node
pub labelled_ready : {f : Layout} {v : Marks} {row : List ℕ} {q : ℕ} → IsGround f v row q → (n : ℕ) → label_at v n ≢ Empty → IsReady f v n
labelled_ready {f = f} {q = q} s n some = record {
  one = s.one;
  two = s.two;
  room = s.room;
  used = below_used f q n s.layout s.used (labelled_below s n some);
  right = s.marked.chains n some;
}

most_below : (f : Layout) (row : List ℕ) (q a : ℕ) → IsAtOrAbove f.slots f.root q → AtMost f row f.root a → AtMost f row q a
most_below f row q a l most = λ xs once these. most xs once (λ x o. let t = these x o in (t.0, join_paths f.slots f.root q x l t.1))

-- no more nodes are labelled than meet the row at or below the pertinent root
pub root_few_below : {f : Layout} {v : Marks} {row : List ℕ} {q : ℕ} (a : ℕ) → AtFoundRoot f v row q → AtMost f (column_leaves row) q a → length v.nodes ≤ a
root_few_below {f = f} {v = v} {row = row} {q = q} a s most = nodes_few a s.ground right most
  where
    right : (n : ℕ) → label_at v n ≢ Empty → IsRight f (column_leaves row) n (label_at v n)
    right n some = elim (cases_eq n q) [
      | inl e ↦ subst (λ z. IsRight f (column_leaves row) z (label_at v z)) (sym e) s.found.top
      | inr ne ↦ s.ground.marked.right n (labelled_below s.ground n some) ne
    ]

pub root_few : {f : Layout} {v : Marks} {row : List ℕ} {q : ℕ} (a : ℕ) → AtFoundRoot f v row q → AtMost f (column_leaves row) f.root a → length v.nodes ≤ a
root_few {f = f} {row = row} {q = q} a s most = root_few_below a s (most_below f (column_leaves row) q a (s.ground.one q s.ground.used) most)

pub inside_few_below : {f : Layout} {v : Marks} {row : List ℕ} (a : ℕ) (s : AtFoundInside f v row) → AtMost f (column_leaves row) s.found.run.q a → length v.nodes ≤ a
inside_few_below {f = f} {v = v} {row = row} a s most = nodes_few a s.ground right most
  where
    right : (n : ℕ) → label_at v n ≢ Empty → IsRight f (column_leaves row) n (label_at v n)
    right n some = s.ground.marked.right n (labelled_below s.ground n some) (λ e. some (ap (label_at v) e ∙ s.found.top))

pub inside_few : {f : Layout} {v : Marks} {row : List ℕ} (a : ℕ) → AtFoundInside f v row → AtMost f (column_leaves row) f.root a → length v.nodes ≤ a
inside_few {f = f} {row = row} a s most = inside_few_below a s (most_below f (column_leaves row) s.found.run.q a (s.ground.one s.found.run.q s.ground.used) most)
