-- What the pass finds, in words of the forest alone.
use Rattle.std.specs.Prelude.{◌≡◌, ℕ, ◌+◌, ◌≤◌, List, [], ◌∷◌, ◌++◌, Some, length, reverse}
use Rattle.arena_model.specs.declared.Shape.TheVariants.{Leaf, P, Q}
use Rattle.column_order.specs.Orders.{occurs}
use Rattle.arena_model.specs.Layout.{Layout, shape_at, children_at}
use Rattle.arena_model.specs.RowLeaves.{Holds, Meets}

-- only inner children of the Q-node q meet the row, in one run of two or more, and it holds the row
pub record Inside (f : Layout) (row : List ℕ) : Type 0 where
  pub q : ℕ
  pub us : List ℕ
  pub ks : List ℕ
  pub vs : List ℕ
  pub is_q : shape_at f q ≡ Some Q
  pub kids_are : children_at f q ≡ us ++ (ks ++ vs)
  pub left : 1 ≤ length us
  pub right : 1 ≤ length vs
  pub some : 2 ≤ length ks
  pub meet : (x : ℕ) → 1 ≤ occurs ks x → Meets f row x
  pub miss : (x : ℕ) → 1 ≤ occurs us x + occurs vs x → Meets f row x → ⊥
  pub holds : Holds f row q

mutual
  -- the orders of the leaves below n
  pub data Fronts (f : Layout) : ℕ → List ℕ → Type 0 where
    front_leaf : (n a : ℕ) → shape_at f n ≡ Some (Leaf a) → Fronts f n (n ∷ [])
    front_p : (n : ℕ) (ks o : List ℕ) → shape_at f n ≡ Some P → ((x : ℕ) → occurs ks x ≡ occurs (children_at f n) x) → FrontsOf f ks o → Fronts f n o
    front_q : (n : ℕ) (o : List ℕ) → shape_at f n ≡ Some Q → FrontsOf f (children_at f n) o → Fronts f n o
    front_back : (n : ℕ) (o : List ℕ) → shape_at f n ≡ Some Q → FrontsOf f (reverse (children_at f n)) o → Fronts f n o

  -- joins of one order of the leaves below each of these nodes, in their order
  pub data FrontsOf (f : Layout) : List ℕ → List ℕ → Type 0 where
    no_fronts : FrontsOf f [] []
    and_fronts : (k : ℕ) (ks o os w : List ℕ) → Fronts f k o → FrontsOf f ks os → w ≡ o ++ os → FrontsOf f (k ∷ ks) w

-- no leaf outside the row stands between two of it
abbrev pub StandsTogether : List ℕ → List ℕ → Type 0
StandsTogether o row = (ws xs ys zs : List ℕ) (a b c : ℕ) → o ≡ ws ++ a ∷ (xs ++ b ∷ (ys ++ c ∷ zs)) → 1 ≤ occurs row a → 1 ≤ occurs row c → 1 ≤ occurs row b

-- no order of the leaves keeps the row
abbrev pub Split : Layout → List ℕ → Type 0
Split f row = (o : List ℕ) → Fronts f f.root o → StandsTogether o row → ⊥
