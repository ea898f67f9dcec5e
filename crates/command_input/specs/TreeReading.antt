-- The tree that a text writes.
use Rattle.std.specs.Prelude.{ℕ, ◌+◌, ◌-◌, ◌*◌, ◌==◌, ◌&&◌, Bool, if◌then◌else◌, nat_le, List, [], ◌∷◌, length, reverse, Option, Some, None}
use Rattle.std.specs.Char.{is_ascii_digit}
use Rattle.std.specs.List.{fold, list_all, range_with_len}
use Rattle.std.specs.Str.{bytes_eq}
use Rattle.column_order.specs.Orders.{occurs}
use Rattle.pq_tree.specs.Outline.{Outline, Forest, leaf, p_node, q_node, leaves}
use Rattle.pq_tree.specs.Forests.{forest}
use Rattle.pq_tree.specs.Text.{tree_text}

-- What the bytes so far have of a tree is lists of trees, the innermost open list first and in each the last tree first.
-- A tree that has just begun is the leaf 0.

-- a digit goes on with the number of the last tree
abbrev pub with_digit : ℕ → List (List Outline) → List (List Outline)
with_digit d ((leaf n ∷ ts) ∷ lists) = (leaf (n * 10 + d) ∷ ts) ∷ lists
with_digit d lists = []

-- a space begins a tree more
abbrev pub with_space : List (List Outline) → List (List Outline)
with_space (ts ∷ lists) = (leaf 0 ∷ ts) ∷ lists
with_space [] = []

-- a closing bracket makes a node of the innermost list, where it is long enough
abbrev pub with_node : (Forest → Outline) → ℕ → List (List Outline) → List (List Outline)
with_node node least (ts ∷ (u ∷ us) ∷ lists) = if nat_le least (length ts) then (node (forest (reverse ts)) ∷ us) ∷ lists else []
with_node node least lists = []

-- one byte more; an opening bracket opens a list
abbrev pub with_byte : List (List Outline) → ℕ → List (List Outline)
with_byte lists b =
    if is_ascii_digit b then with_digit (b - 48) lists
    else if b == 32 then with_space lists
    else if b == 41 then with_node p_node 2 lists
    else if b == 93 then with_node q_node 3 lists
    else (leaf 0 ∷ []) ∷ lists

-- whether a tree has this text, and each of 1 to c at exactly one leaf, and no other column
abbrev pub is_written : ℕ → List ℕ → Outline → Bool
is_written c text t =
    bytes_eq (tree_text t) text && (list_all (λ a. occurs (leaves t) a == 1) (range_with_len 1 c) && list_all (λ a. nat_le 1 a && nat_le a c) (leaves t))

-- the tree over 1 to c, where it is the only one in the only list and has this text
abbrev pub only_tree : ℕ → List ℕ → List (List Outline) → Option Outline
only_tree c text ((t ∷ []) ∷ []) = if is_written c text t then Some t else None
only_tree c text lists = None

-- the tree over 1 to c that a text writes
unfoldable pub tree_in_text : ℕ → List ℕ → Option Outline
tree_in_text c text = only_tree c text (fold with_byte ((leaf 0 ∷ []) ∷ []) text)
