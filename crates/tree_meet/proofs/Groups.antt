-- The groups of a tree: each of their columns is one of the tree, and a row has the columns of its group.
use Rattle.std.proofs.Common.{ℕ, ◌≤◌, inl, inr, List, [], ◌∷◌, ◌++◌, map, IsTrue, IsFalse, sym, ◌∙◌}
use Rattle.std.specs.List.{AllByRecursion}
use Rattle.column_order.specs.Orders.{has, IsWithin}
use Rattle.column_order.proofs.Lists.{has_append_left, has_append_right, has_append_cases}
use Rattle.row_model.proofs.Filtered.{has_filtered, filtered_row}
use Rattle.row_model.proofs.Ascending.{row_within}
use Rattle.pq_tree.specs.Outline.{Outline, Forest, leaf, p_node, q_node, no_tree, tree_and, leaves, leaves_of}
use Rattle.tree_meet.specs.TreeRows.{pairs_from, neighbours, groups, groups_of, row_of_group}

-- each column of the one list is in the other
abbrev pub IsPart : List ℕ → List ℕ → Type 0
IsPart xs l = (a : ℕ) → IsTrue (has xs a) → IsTrue (has l a)

pub each : {A : Type 0} (P Q : A → Type 0) → ((x : A) → P x → Q x) → (xs : List A) → AllByRecursion P xs → AllByRecursion Q xs
each P Q f [] h = tt
each P Q f (x ∷ xs) h = (f x h.0, each P Q f xs h.1)

pub both_all : {A : Type 0} (P : A → Type 0) (xs ys : List A) → AllByRecursion P xs → AllByRecursion P ys → AllByRecursion P (xs ++ ys)
both_all P [] ys h k = k
both_all P (x ∷ xs) ys h k = (h.0, both_all P xs ys h.1 k)

pub left_all : {A : Type 0} (P : A → Type 0) (xs ys : List A) → AllByRecursion P (xs ++ ys) → AllByRecursion P xs
left_all P [] ys h = tt
left_all P (x ∷ xs) ys h = (h.0, left_all P xs ys h.1)

pub right_all : {A : Type 0} (P : A → Type 0) (xs ys : List A) → AllByRecursion P (xs ++ ys) → AllByRecursion P ys
right_all P [] ys h = h
right_all P (x ∷ xs) ys h = right_all P xs ys h.1

pub all_map : {A B : Type 0} (P : B → Type 0) (f : A → B) (xs : List A) → AllByRecursion P (map f xs) → AllByRecursion (λ x. P (f x)) xs
all_map P f [] h = tt
all_map P f (x ∷ xs) h = (h.0, all_map P f xs h.1)

pub map_all : {A B : Type 0} (P : B → Type 0) (f : A → B) (xs : List A) → AllByRecursion (λ x. P (f x)) xs → AllByRecursion P (map f xs)
map_all P f [] h = tt
map_all P f (x ∷ xs) h = (h.0, map_all P f xs h.1)

module _ (l : List ℕ) where
  pairs_part : (t : Outline) (us : Forest) → IsPart (leaves t) l → IsPart (leaves_of us) l → AllByRecursion (λ g. IsPart g l) (pairs_from t us)
  pairs_part t no_tree h k = tt
  pairs_part t (tree_and u us) h k = (
    λ a i. elim (has_append_cases (leaves t) (leaves u) a i) [ inl j ↦ h a j | inr j ↦ k a (has_append_left (leaves u) (leaves_of us) a j) ],
    pairs_part u us (λ a i. k a (has_append_left (leaves u) (leaves_of us) a i)) (λ a i. k a (has_append_right (leaves u) (leaves_of us) a i)),
  )

  neighbours_part : (ts : Forest) → IsPart (leaves_of ts) l → AllByRecursion (λ g. IsPart g l) (neighbours ts)
  neighbours_part no_tree h = tt
  neighbours_part (tree_and t ts) h =
      pairs_part t ts (λ a i. h a (has_append_left (leaves t) (leaves_of ts) a i)) (λ a i. h a (has_append_right (leaves t) (leaves_of ts) a i))

  mutual
    -- the columns of the groups of a tree are among those of the tree
    pub groups_part : (t : Outline) → IsPart (leaves t) l → AllByRecursion (λ g. IsPart g l) (groups t)
    groups_part (leaf a) h = tt
    groups_part (p_node ts) h = (h, groups_of_part ts h)
    groups_part (q_node ts) h = (h, both_all (λ g. IsPart g l) (neighbours ts) (groups_of ts) (neighbours_part ts h) (groups_of_part ts h))

    pub groups_of_part : (ts : Forest) → IsPart (leaves_of ts) l → AllByRecursion (λ g. IsPart g l) (groups_of ts)
    groups_of_part no_tree h = tt
    groups_of_part (tree_and t ts) h =
        both_all (λ g. IsPart g l) (groups t) (groups_of ts)
        (groups_part t (λ a i. h a (has_append_left (leaves t) (leaves_of ts) a i)))
        (groups_of_part ts (λ a i. h a (has_append_right (leaves t) (leaves_of ts) a i)))

-- the row of a group has exactly its columns
pub row_has : (c : ℕ) (g : List ℕ) (a : ℕ) → IsWithin c g → IsTrue (has g a) → IsTrue (has (row_of_group c g) a)
row_has c g a within h = let w = within a h in has_filtered (has g) c a w.0 w.1 ∙ h

pub row_lacks : (c : ℕ) (g : List ℕ) (a : ℕ) → 1 ≤ a → a ≤ c → IsFalse (has g a) → IsFalse (has (row_of_group c g) a)
row_lacks c g a from to h = has_filtered (has g) c a from to ∙ h

pub has_in_row : (c : ℕ) (g : List ℕ) (a : ℕ) → IsTrue (has (row_of_group c g) a) → IsTrue (has g a)
has_in_row c g a h = let w = row_within c (row_of_group c g) (filtered_row (has g) c) a h in sym (has_filtered (has g) c a w.0 w.1) ∙ h
