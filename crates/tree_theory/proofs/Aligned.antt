-- The children of two trees with the same leaves and the same frontiers have, one by one, the same leaves.
use Rattle.std.proofs.Common.{◌≡◌, ◌⊎◌, ℕ, false, List, [], ◌∷◌, ◌++◌, IsTrue, refl, sym, subst, inl, inr}
use Rattle.std.proofs.lemmas.Bool.{both_ways}
use Rattle.row_model.specs.Graph.{pair}
use Rattle.column_order.specs.Orders.{has}
use Rattle.column_order.proofs.Lists.{has_head, has_append_left, has_append_right}
use Rattle.pq_tree.specs.Outline.{Outline, Forest, no_tree, tree_and, leaves, leaves_of}
use Rattle.pq_tree.specs.Proper.{HaveArities}
use Rattle.pq_tree.proofs.Forests.{some_leaf}
use Rattle.tree_theory.specs.Tied.{IsForward}
use Rattle.tree_theory.proofs.Flip.{IsParted}

-- as many trees, and each has the leaves of the one at its place
abbrev pub IsAligned : Forest → Forest → Type 0
IsAligned no_tree no_tree = Unit {0}
IsAligned no_tree (tree_and u us) = ⊥
IsAligned (tree_and t ts) no_tree = ⊥
IsAligned (tree_and t ts) (tree_and u us) = (leaves t ≡ leaves u) × IsAligned ts us

pub aligned_sym : (ts us : Forest) → IsAligned ts us → IsAligned us ts
aligned_sym no_tree no_tree h = tt
aligned_sym no_tree (tree_and u us) h = absurd h
aligned_sym (tree_and t ts) no_tree h = absurd h
aligned_sym (tree_and t ts) (tree_and u us) h = (sym h.0, aligned_sym ts us h.1)

-- the first list goes on behind the second with ys, which the other rest begins with
record GoesOn (xs vs ws : List ℕ) : Type 0 where
  more : ℕ
  rest : List ℕ
  behind : List ℕ
  longer : xs ≡ vs ++ more ∷ rest
  begins : ws ≡ (more ∷ rest) ++ behind

-- one list, cut in two ways
cut : (xs vs ys ws : List ℕ) → xs ++ ys ≡ vs ++ ws → ((xs ≡ vs) × (ys ≡ ws)) ⊎ (GoesOn xs vs ws ⊎ GoesOn vs xs ys)
cut [] [] ys ws e = inl (refl, e)
cut [] (v ∷ vs) ys ws e = inr (inr (record { more = v; rest = vs; behind = ws; longer = refl; begins = e }))
cut (x ∷ xs) [] ys ws e = inr (inl (record { more = x; rest = xs; behind = ys; longer = refl; begins = sym e }))
cut (x ∷ xs) (v ∷ vs) ys ws e =
    let heads : x ≡ v = cc in
    let tails : xs ++ ys ≡ vs ++ ws = cc in
    elim (cut xs vs ys ws tails) [
      | inl k ↦ inl (rw (heads, k.0) refl, k.1)
      | inr k ↦ elim k [
        | inl g ↦ inr (inl (record { more = g.more; rest = g.rest; behind = g.behind; longer = rw (heads, g.longer) refl; begins = g.begins }))
        | inr g ↦ inr (inr (record { more = g.more; rest = g.rest; behind = g.behind; longer = rw (heads, g.longer) refl; begins = g.begins }))
      ]
    ]

-- then the first tree would have a column of the second's rest
longer_not : (t u : Outline) (us : Forest) (x : ℕ) → IsTrue (has (leaves u) x) → GoesOn (leaves t) (leaves u) (leaves_of us) →
    ((a b : ℕ) → IsForward (tree_and u us) (pair a b) → IsTrue (has (leaves t) a) → IsTrue (has (leaves t) b) → ⊥) → ⊥
longer_not t u us x h g never =
    never x g.more (inl (h, subst (λ l. IsTrue (has l g.more)) (sym g.begins) (has_head g.more (g.rest ++ g.behind))))
    (subst (λ l. IsTrue (has l x)) (sym g.longer) (has_append_left (leaves u) (g.more ∷ g.rest) x h))
    (subst (λ l. IsTrue (has l g.more)) (sym g.longer) (has_append_right (leaves u) (g.more ∷ g.rest) g.more (has_head g.more g.rest)))

some_leaves : (t : Outline) (ts : Forest) (x : ℕ) → IsTrue (has (leaves t) x) → leaves t ++ leaves_of ts ≡ [] → ⊥
some_leaves t ts x h e = both_ways false refl (subst (λ l. IsTrue (has l x)) e (has_append_left (leaves t) (leaves_of ts) x h))

-- what goes forward in the one stands in no tree of the other
abbrev pub IsCrossed : Forest → Forest → Type 0
IsCrossed ts us = (a b : ℕ) → IsForward ts (pair a b) → IsParted us a b

pub aligned : (ts us : Forest) → HaveArities ts → HaveArities us → leaves_of ts ≡ leaves_of us → IsCrossed ts us → IsCrossed us ts → IsAligned ts us
aligned no_tree no_tree ht hu e p q = tt
aligned no_tree (tree_and u us) ht hu e p q = let x = some_leaf u hu.0 in some_leaves u us x.0 x.1 (sym e)
aligned (tree_and t ts) no_tree ht hu e p q = let x = some_leaf t ht.0 in some_leaves t ts x.0 x.1 e
aligned (tree_and t ts) (tree_and u us) ht hu e p q =
    elim (cut (leaves t) (leaves u) (leaves_of ts) (leaves_of us) e) [
      | inl k ↦ (k.0, aligned ts us ht.1 hu.1 k.1 (λ a b f. (p a b (inr f)).1) (λ a b f. (q a b (inr f)).1))
      | inr k ↦ absurd
          (elim k [
            | inl g ↦ let x = some_leaf u hu.0 in longer_not t u us x.0 x.1 g (λ a b f. (q a b f).0)
            | inr g ↦ let x = some_leaf t ht.0 in longer_not u t ts x.0 x.1 g (λ a b f. (p a b f).0)
          ])
    ]
