-- Frontiers of a tree read backwards, and frontiers in which a row begins or ends late.
use Rattle.std.proofs.Common.{◌≡◌, ◌⊎◌, ◌∙◌, ℕ, List, [], ◌∷◌, ◌++◌, reverse, map, IsTrue, refl, sym, ap, inl, inr, append-nil}
use Rattle.std.proofs.lemmas.List.{reverse-append, reverse-reverse}
use Rattle.std.proofs.lemmas.List.Folds.{concat-append}
use Rattle.std.proofs.lemmas.List.Sorted.{IsPermutation-trans, IsPermutation-map, IsPermutation-reverse}
use Rattle.std.specs.List.{concat}
use Rattle.column_order.specs.Orders.{has}
use Rattle.pq_tree.specs.Outline.{Outline, Forest, leaf, p_node, q_node, no_tree, tree_and, leaves, leaves_of, IsFrontier, AreFrontiers}
use Rattle.pq_tree.proofs.Frontiers.{frontier_occurs, leaves_are_frontier}
use Rattle.pq_tree.specs.Nodes.{meets}
use Rattle.verdict_judge.specs.HoldsWalk.{misses}
use Rattle.verdict_judge.proofs.HoldsLists.{Rises, Falls, mixed, rises_turned, falls_turned, has_same}

pub frontier_has : (t : Outline) (f : List ℕ) (a : ℕ) → IsFrontier t f → has f a ≡ has (leaves t) a
frontier_has t f a h = has_same f (leaves t) a (frontier_occurs t f a h)

-- the leaves of each tree, tree by tree
abbrev pub own : Forest → List (List ℕ)
own no_tree = []
own (tree_and t ts) = leaves t ∷ own ts

pub own_joined : (ts : Forest) → leaves_of ts ≡ concat (own ts)
own_joined no_tree = refl
own_joined (tree_and t ts) = ap (λ x. leaves t ++ x) (own_joined ts)

pub own_frontiers : (ts : Forest) → AreFrontiers ts (own ts)
own_frontiers no_tree = tt
own_frontiers (tree_and t ts) = (leaves_are_frontier t, own_frontiers ts)

map-reverse : (f : List ℕ → List ℕ) (xs : List (List ℕ)) → map f (reverse xs) ≡ reverse (map f xs)
map-reverse f [] = refl
map-reverse f (x ∷ xs) =
    ap (map f) (reverse-append (x ∷ []) xs) ∙ mapped (reverse xs) ∙ ap (λ y. y ++ f x ∷ []) (map-reverse f xs) ∙ sym (reverse-append (f x ∷ []) (map f xs))
  where
    mapped : (ys : List (List ℕ)) → map f (ys ++ x ∷ []) ≡ map f ys ++ f x ∷ []
    mapped [] = refl
    mapped (y ∷ ys) = ap (λ z. f y ∷ z) (mapped ys)

reverse-concat : (fs : List (List ℕ)) → reverse (concat fs) ≡ concat (reverse (map reverse fs))
reverse-concat [] = refl
reverse-concat (f ∷ fs) =
    let joined : concat (reverse (map reverse fs) ++ reverse f ∷ []) ≡ concat (reverse (map reverse fs)) ++ reverse f =
    concat-append (reverse (map reverse fs)) (reverse f ∷ []) ∙ ap (λ x. concat (reverse (map reverse fs)) ++ x) (append-nil (reverse f)) in
    reverse-append f (concat fs) ∙ ap (λ x. x ++ reverse f) (reverse-concat fs) ∙ sym joined ∙ ap concat (sym (reverse-append (reverse f ∷ []) (map reverse fs)))

other_way : (f : List ℕ) (fs : List (List ℕ)) → (f ≡ concat fs) ⊎ (f ≡ concat (reverse fs)) → (reverse f ≡ concat (map reverse fs)) ⊎ (reverse f ≡ concat (reverse (map reverse fs)))
other_way f fs h =
    elim h [
      | inl e ↦ inr (ap reverse e ∙ reverse-concat fs)
      | inr e ↦ inl (ap reverse e ∙ reverse-concat (reverse fs) ∙ ap (λ x. concat (reverse x)) (map-reverse reverse fs) ∙ ap concat (reverse-reverse (map reverse fs)))
    ]

-- a frontier read backwards is a frontier
mutual
  pub turned : (t : Outline) (f : List ℕ) → IsFrontier t f → IsFrontier t (reverse f)
  turned (leaf a) f h = ap reverse h
  turned (p_node ts) f h = (
    map reverse h.0,
    reverse (map reverse h.1),
    all_turned ts h.0 h.2,
    IsPermutation-trans (map reverse h.0) (map reverse h.1) (reverse (map reverse h.1)) (IsPermutation-map reverse h.0 h.1 h.3) (IsPermutation-reverse (map reverse h.1)),
    ap reverse h.4 ∙ reverse-concat h.1,
  )
  turned (q_node ts) f h = (map reverse h.0, all_turned ts h.0 h.1, other_way f h.0 h.2)

  all_turned : (ts : Forest) (fs : List (List ℕ)) → AreFrontiers ts fs → AreFrontiers ts (map reverse fs)
  all_turned no_tree [] h = tt
  all_turned no_tree (f ∷ fs) h = absurd h
  all_turned (tree_and t ts) [] h = absurd h
  all_turned (tree_and t ts) (f ∷ fs) h = (turned t f h.0, all_turned ts fs h.1)

-- a frontier with a column that the row misses before one that it has
pub record Rising (row : List ℕ) (t : Outline) : Type 0 where
  pub order : List ℕ
  pub frontier : IsFrontier t order
  pub rises : Rises row order

-- a frontier with a column that the row has before one that it misses
pub record Falling (row : List ℕ) (t : Outline) : Type 0 where
  pub order : List ℕ
  pub frontier : IsFrontier t order
  pub falls : Falls row order

-- a tree of which the row has one column and misses another has frontiers of both kinds
pub rising : (row : List ℕ) (t : Outline) → IsTrue (meets row (leaves t)) → IsTrue (misses row (leaves t)) → Rising row t
rising row t h k =
    elim (mixed row (leaves t) h k) [
      | inl r ↦ record { order = leaves t; frontier = leaves_are_frontier t; rises = r }
      | inr r ↦ record { order = reverse (leaves t); frontier = turned t (leaves t) (leaves_are_frontier t); rises = falls_turned row (leaves t) r }
    ]

pub falling : (row : List ℕ) (t : Outline) → IsTrue (meets row (leaves t)) → IsTrue (misses row (leaves t)) → Falling row t
falling row t h k =
    elim (mixed row (leaves t) h k) [
      | inl r ↦ record { order = reverse (leaves t); frontier = turned t (leaves t) (leaves_are_frontier t); falls = rises_turned row (leaves t) r }
      | inr r ↦ record { order = leaves t; frontier = leaves_are_frontier t; falls = r }
    ]
