-- What the whole walk gains is the first orders.
use Rattle.std.proofs.Common.{◌≡◌, ◌∙◌, ◌<◌, ◌⊎◌, ◌↔◌, ℕ, zero, suc, true, false, List, [], ◌∷◌, ◌++◌, map, length, Contains, AllPairs, IsTrue, refl, sym, ap, subst, inl, inr, arith}
use Rattle.std.proofs.lemmas.Bool.{cases_lt, both_ways}
use Rattle.std.proofs.lemmas.List.Elements.{All-from_recursion, All-contains}
use Rattle.order_list.specs.First.{IsBefore, AreFirst, HasOther}
use Rattle.order_list.specs.Listed.{OrderList}
use Rattle.order_list.specs.Gains.{AreRising, IsAmong, Gains}

-- no list stands before itself
before_irreflexive : (f : List ℕ) → IsBefore f f → ⊥
before_irreflexive [] h = h
before_irreflexive (x ∷ f) h = elim h [ inl l ↦ (let m : x < x = l in omega arith) | inr k ↦ before_irreflexive f k.1 ]

contains_among : (f : List ℕ) (rs : List (List ℕ)) → IsAmong f rs → Contains rs f
contains_among f [] h = absurd h
contains_among f (r ∷ rs) h =
    elim h [
      | inl e ↦ (zero, omega arith, e)
      | inr k ↦ (let c : Contains rs f = contains_among f rs k in (suc c.0, (let l : c.0 < length rs = c.1 in omega arith), c.2))
    ]

pairs_rising : (rs : List (List ℕ)) → AreRising rs → AllPairs IsBefore rs
pairs_rising [] h i j d l m = absurd (omega arith)
pairs_rising (r ∷ rs) h zero zero d l m = absurd (omega arith)
pairs_rising (r ∷ rs) h zero (suc j) d l m = All-from_recursion (IsBefore r) rs h.0 j d (omega arith)
pairs_rising (r ∷ rs) h (suc i) zero d l m = absurd (omega arith)
pairs_rising (r ∷ rs) h (suc i) (suc j) d l m = pairs_rising rs h.1 i j d (omega arith) (omega arith)

map-nothing : (rs : List (List ℕ)) → map (λ (f : List ℕ). [] ++ f) rs ≡ rs
map-nothing [] = refl
map-nothing (r ∷ rs) = ap (λ l. r ∷ l) (map-nothing rs)

module _ (S : List ℕ → Type 0) (limit : ℕ) (a b : OrderList) (empty : a.orders ≡ []) (g : Gains S [] limit a b) where
  same : b.orders ≡ g.rests
  same = g.orders ∙ ap (λ l. l ++ map (λ (f : List ℕ). [] ++ f) g.rests) empty ∙ map-nothing g.rests

  each_contained : b.more ≡ false → (f : List ℕ) → S f → Contains g.rests f
  each_contained fresh f s = elim (g.each f s) [ inl h ↦ contains_among f g.rests h | inr h ↦ absurd (both_ways b.more fresh h.0) ]

  number : (length g.rests ≡ limit) ⊎ ((length g.rests < limit) × ((f : List ℕ) → S f → Contains g.rests f))
  number =
      elim (cases_lt (length g.rests) limit) [
        | inl l ↦ inr (l, each_contained (fresh l))
        | inr l ↦ inl (omega (arith, g.few, ap (λ (x : List (List ℕ)). length x) same))
      ]
    where
      fresh : length g.rests < limit → b.more ≡ false
      fresh l =
          (elim b.more as (λ v. b.more ≡ v → v ≡ false) [
            | true ↦ λ e. absurd (let o = g.other e in let n : length b.orders ≡ limit = o.0 in omega (arith, ap (λ (x : List (List ℕ)). length x) same))
            | false ↦ λ e. refl
          ]) refl

  first_of_rests : AreFirst S limit g.rests
  first_of_rests =
      record {
        members = All-from_recursion S g.rests g.members;
        rising = pairs_rising g.rests g.rising;
        first = λ f s. elim (g.each f s) [
          | inl h ↦ inl (contains_among f g.rests h)
          | inr h ↦ inr (All-from_recursion (λ r. IsBefore r f) g.rests h.1)
        ];
        number = number;
      }

  pub first_orders : AreFirst S limit b.orders
  first_orders = subst (AreFirst S limit) (sym same) first_of_rests

  other_of_rests : IsTrue b.more ↔ HasOther S g.rests
  other_of_rests = (
    λ more.
        let o = g.other more in
        (o.1, o.2, λ c. before_irreflexive o.1 (All-contains (λ r. IsBefore r o.1) g.rests o.1 (All-from_recursion (λ r. IsBefore r o.1) g.rests o.3) c)),
    λ other.
        (elim b.more as (λ v. b.more ≡ v → IsTrue v) [
          | true ↦ λ e. refl
          | false ↦ λ e. absurd (other.2 (each_contained e other.0 other.1))
        ]) refl,
  )

  pub more_orders : IsTrue b.more ↔ HasOther S b.orders
  more_orders = subst (λ l. IsTrue b.more ↔ HasOther S l) (sym same) other_of_rests
