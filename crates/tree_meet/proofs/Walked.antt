-- The parts of a node's row are the rows of its children and of their neighbours, and the rows of the children follow one another.
use Rattle.std.proofs.Common.{◌≡◌, ◌∙◌, ℕ, zero, suc, ◌+◌, ◌-◌, ◌<◌, ◌≤◌, Bool, true, false, cond, ◌&&◌, List, [], ◌∷◌, ◌++◌, length, map, get_or, IsTrue, refl, sym, ap, subst, arith, append_assoc, append-nil}
use Rattle.std.specs.List.{filter, range_with_len, AllByRecursion}
use Rattle.std.proofs.lemmas.List.{ext_get_or, get_or-map, length-map}
use Rattle.std.specs.declared.vec.Vec.{Vec}
use Rattle.std.specs.declared.alloc.Global.{Global}
use Rattle.column_order.specs.Orders.{has, occurs}
use Rattle.column_order.proofs.Lists.{occurs-append}
use Rattle.row_model.specs.Rows.{IsRow}
use Rattle.row_model.proofs.Columns.{columns_same}
use Rattle.row_model.proofs.Filtered.{filtered_row}
use Rattle.pq_tree.specs.Outline.{Outline, leaf, leaves, leaves_of}
use Rattle.pq_tree.specs.Forests.{forest}
use Rattle.tree_meet.specs.TreeRows.{pairs_from, neighbours, groups, groups_of, row_of_group}
use Rattle.tree_meet.specs.Marks.{AreMarkedByTree, lists_of, is_at, is_near, ArePartsBy}
use Rattle.tree_meet.proofs.Groups.{has_in_row}
use Rattle.tree_meet.proofs.Marked.{marks_range, marks_tell_one, marks_tell_pair}

filter_filter : (p q : ℕ → Bool) (xs : List ℕ) → filter p (filter q xs) ≡ filter (λ a. q a && p a) xs
filter_filter p q [] = refl
filter_filter p q (x ∷ xs) =
    elim (q x) as (λ b. filter p (cond b (x ∷ filter q xs) (filter q xs)) ≡ cond (b && p x) (x ∷ filter (λ a. q a && p a) xs) (filter (λ a. q a && p a) xs)) [
      | true ↦ ap (λ ys. cond (p x) (x ∷ ys) ys) (filter_filter p q xs)
      | false ↦ filter_filter p q xs
    ]

-- the columns of a row that pass a test are the row of a group, where the test tells them
part_row : (c : ℕ) (all group row : List ℕ) (p : ℕ → Bool) → row ≡ row_of_group c all → ((a : ℕ) → (has all a && p a) ≡ has group a) → filter p row ≡ row_of_group c group
part_row c all group row p e tell =
    ap (filter p) e ∙ filter_filter p (has all) (range_with_len 1 c) ∙ columns_same c (λ a. has all a && p a) (has group) (λ j _. tell (j + 1))

pairs_count : (t : Outline) (us : List Outline) → length (pairs_from t (forest us)) ≡ length us
pairs_count t [] = refl
pairs_count t (u ∷ us) = omega (arith, pairs_count u us)

pub neighbours_count : (ts : List Outline) → length (neighbours (forest ts)) ≡ length ts - 1
neighbours_count [] = refl
neighbours_count (t ∷ ts) = omega (arith, pairs_count t ts)

pairs_from_at : (d t : Outline) (us : List Outline) (i : ℕ) → i < length us → get_or (pairs_from t (forest us)) i [] ≡ leaves (get_or (t ∷ us) i d) ++ leaves (get_or us i d)
pairs_from_at d t [] i h = absurd (omega arith)
pairs_from_at d t (u ∷ us) zero h = refl
pairs_from_at d t (u ∷ us) (suc i) h = pairs_from_at d u us i (omega arith)

neighbours_at : (d : Outline) (ts : List Outline) (i : ℕ) → i + 1 < length ts → get_or (neighbours (forest ts)) i [] ≡ leaves (get_or ts i d) ++ leaves (get_or ts (i + 1) d)
neighbours_at d [] i h = absurd (omega arith)
neighbours_at d (t ∷ us) i h =
    let e : suc i ≡ i + 1 = omega arith in
    subst (λ n. get_or (pairs_from t (forest us)) i [] ≡ leaves (get_or (t ∷ us) i d) ++ leaves (get_or (t ∷ us) n d)) e (pairs_from_at d t us i (omega arith))

module _ (c : ℕ) (marks row : List ℕ) (ts : List Outline) (is : row ≡ row_of_group c (leaves_of (forest ts)))
    (marked : AreMarkedByTree marks 0 (forest ts)) (once : (a : ℕ) → occurs (leaves_of (forest ts)) a ≤ 1) where
  d : Outline
  d = leaf 0

  -- the parts are the rows of the trees
  pub parts_rows : (lists : List (Vec ℕ Global)) → ArePartsBy is_at marks row (length ts) lists → lists_of lists ≡ map (λ t. row_of_group c (leaves t)) ts
  parts_rows lists h =
      ext_get_or [] (lists_of lists) (map (λ t. row_of_group c (leaves t)) ts)
      (length-map lists (λ (list : Vec ℕ Global). list.items) ∙ h.0 ∙ sym (length-map ts (λ t. row_of_group c (leaves t))))
      (λ i l.
      let within : i < length ts = omega (arith, l, length-map lists (λ (list : Vec ℕ Global). list.items), h.0) in
      h.1 i within ∙
      part_row c (leaves_of (forest ts)) (leaves (get_or ts i d)) row (λ a. is_at (get_or marks a 0) i) is (marks_tell_one marks ts d marked once i within) ∙
      sym (get_or-map (λ t. row_of_group c (leaves t)) ts i d [] within))

  -- and the pairs those of each two neighbours
  pub pairs_rows : (lists : List (Vec ℕ Global)) → ArePartsBy is_near marks row (length ts - 1) lists → lists_of lists ≡ map (row_of_group c) (neighbours (forest ts))
  pairs_rows lists h =
      ext_get_or [] (lists_of lists) (map (row_of_group c) (neighbours (forest ts)))
      (length-map lists (λ (list : Vec ℕ Global). list.items) ∙ h.0 ∙ sym (length-map (neighbours (forest ts)) (row_of_group c) ∙ neighbours_count ts))
      (λ i l.
      let within : i < length ts - 1 = omega (arith, l, length-map lists (λ (list : Vec ℕ Global). list.items), h.0) in
      h.1 i within ∙
      part_row c (leaves_of (forest ts)) (leaves (get_or ts i d) ++ leaves (get_or ts (i + 1) d)) row (λ a. is_near (get_or marks a 0) i) is (marks_tell_pair marks ts d marked once i (omega arith)) ∙
      sym (
      get_or-map (row_of_group c) (neighbours (forest ts)) i [] [] (omega (arith, within, neighbours_count ts)) ∙
      ap (row_of_group c) (neighbours_at d ts i (omega arith))
      ))

  -- the marks of the columns of the row are those of the trees
  pub row_marks : ((a : ℕ) → IsTrue (has (leaves_of (forest ts)) a) → a < length marks) →
      (a : ℕ) → IsTrue (has row a) → (a < length marks) × (get_or marks a 0 < length ts)
  row_marks within a h =
      let k : IsTrue (has (leaves_of (forest ts)) a) = has_in_row c (leaves_of (forest ts)) a (rw is at h) in
      (within a k, omega (arith, (marks_range marks 0 ts marked a k).1))

-- each row of a group is a row
pub group_rows : (c : ℕ) (gs : List (List ℕ)) → AllByRecursion (IsRow c) (map (row_of_group c) gs)
group_rows c [] = tt
group_rows c (g ∷ gs) = (filtered_row (has g) c, group_rows c gs)

-- the groups of one tree more
pub groups_push : (ts : List Outline) (t : Outline) → groups_of (forest (ts ++ t ∷ [])) ≡ groups_of (forest ts) ++ groups t
groups_push [] t = append-nil (groups t)
groups_push (u ∷ us) t = ap (λ x. groups u ++ x) (groups_push us t) ∙ sym (append_assoc (groups u) (groups_of (forest us)) (groups t))

-- the leaves of one of the trees are among those of all
pub tree_part : (ts : List Outline) (i : ℕ) (d : Outline) → i < length ts → (a : ℕ) → occurs (leaves (get_or ts i d)) a ≤ occurs (leaves_of (forest ts)) a
tree_part [] i d h a = absurd (omega arith)
tree_part (t ∷ ts) zero d h a = omega (arith, occurs-append (leaves t) (leaves_of (forest ts)) a)
tree_part (t ∷ ts) (suc i) d h a = omega (arith, occurs-append (leaves t) (leaves_of (forest ts)) a, tree_part ts i d (omega arith) a)
