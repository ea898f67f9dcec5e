-- How the orders that parts of the walk add are joined.
use Rattle.std.proofs.Common.{◌≡◌, ◌∙◌, ◌+◌, ◌<◌, ◌≤◌, ◌⊎◌, ℕ, true, false, List, [], ◌∷◌, ◌++◌, map, length, nat_lt, if◌then◌else◌, IsTrue, refl, sym, ap, subst, inl, inr, arith, append_assoc, append-nil, length-append}
use Rattle.std.proofs.lemmas.Bool.{cases_lt, both_ways, ltb-true, ltb-false}
use Rattle.std.specs.List.{AllByRecursion}
use Rattle.order_list.specs.First.{IsBefore}
use Rattle.order_list.specs.Listed.{OrderList, added}
use Rattle.order_list.specs.Gains.{AreRising, IsAmong, AllBefore, from_column, IsReady, Gains}

-- the first column is below a bound
abbrev pub BeginsBelow : ℕ → List ℕ → Type 0
BeginsBelow from [] = ⊥
BeginsBelow from (x ∷ f) = x < from

-- of the lists of a set, those whose first column is below a bound
abbrev pub Below : (List ℕ → Type 0) → ℕ → List ℕ → Type 0
Below S from f = BeginsBelow from f × S f

all_weaker : (P Q : List ℕ → Type 0) → ((f : List ℕ) → P f → Q f) → (rs : List (List ℕ)) → AllByRecursion P rs → AllByRecursion Q rs
all_weaker P Q h [] k = tt
all_weaker P Q h (r ∷ rs) k = (h r k.0, all_weaker P Q h rs k.1)

all_joined : (P : List ℕ → Type 0) (rs qs : List (List ℕ)) → AllByRecursion P rs → AllByRecursion P qs → AllByRecursion P (rs ++ qs)
all_joined P [] qs h k = k
all_joined P (r ∷ rs) qs h k = (h.0, all_joined P rs qs h.1 k)

-- a column in front of each list
abbrev pub behind : ℕ → List (List ℕ) → List (List ℕ)
behind x rs = map (λ f. x ∷ f) rs

all_behind : (P : List ℕ → Type 0) (x : ℕ) (rs : List (List ℕ)) → AllByRecursion (λ f. P (x ∷ f)) rs → AllByRecursion P (behind x rs)
all_behind P x [] h = tt
all_behind P x (r ∷ rs) h = (h.0, all_behind P x rs h.1)

rising_behind : (x : ℕ) (rs : List (List ℕ)) → AreRising rs → AreRising (behind x rs)
rising_behind x [] h = tt
rising_behind x (r ∷ rs) h =
    (all_behind (IsBefore (x ∷ r)) x rs (all_weaker (IsBefore r) (λ f. IsBefore (x ∷ r) (x ∷ f)) (λ f k. inr (refl, k)) rs h.0), rising_behind x rs h.1)

rising_joined : (rs qs : List (List ℕ)) → AreRising rs → AreRising qs → AllByRecursion (λ r. AllByRecursion (IsBefore r) qs) rs → AreRising (rs ++ qs)
rising_joined [] qs h k m = k
rising_joined (r ∷ rs) qs h k m = (all_joined (IsBefore r) rs qs h.0 m.0, rising_joined rs qs h.1 k m.1)

among_left : (f : List ℕ) (rs qs : List (List ℕ)) → IsAmong f rs → IsAmong f (rs ++ qs)
among_left f [] qs h = absurd h
among_left f (r ∷ rs) qs h = elim h [ inl e ↦ inl e | inr k ↦ inr (among_left f rs qs k) ]

among_right : (f : List ℕ) (rs qs : List (List ℕ)) → IsAmong f qs → IsAmong f (rs ++ qs)
among_right f [] qs h = h
among_right f (r ∷ rs) qs h = inr (among_right f rs qs h)

among_behind : (x : ℕ) (f : List ℕ) (rs : List (List ℕ)) → IsAmong f rs → IsAmong (x ∷ f) (behind x rs)
among_behind x f [] h = absurd h
among_behind x f (r ∷ rs) h = elim h [ inl e ↦ inl (ap (λ g. x ∷ g) e) | inr k ↦ inr (among_behind x f rs k) ]

-- lists that begin below a bound stand before those that don't
below_before : (from y : ℕ) (r g : List ℕ) → from ≤ y → BeginsBelow from r → IsBefore r (y ∷ g)
below_before from y [] g l h = absurd h
below_before from y (x ∷ r) g l h = inl (omega arith)

before_later : (S : List ℕ → Type 0) (from y : ℕ) (g : List ℕ) → from ≤ y → (rs : List (List ℕ)) → AllByRecursion (Below S from) rs → AllBefore rs (y ∷ g)
before_later S from y g l rs h = all_weaker (Below S from) (λ r. IsBefore r (y ∷ g)) (λ r k. below_before from y r g l k.0) rs h

before_behind : (x : ℕ) (f : List ℕ) (rs : List (List ℕ)) → AllBefore rs f → AllBefore (behind x rs) (x ∷ f)
before_behind x f rs h = all_behind (λ r. IsBefore r (x ∷ f)) x rs (all_weaker (λ r. IsBefore r f) (λ r. IsBefore (x ∷ r) (x ∷ f)) (λ r k. inr (refl, k)) rs h)

each_before : (S T : List ℕ → Type 0) (from x : ℕ) → from ≤ x → (rs qs : List (List ℕ)) → AllByRecursion (Below S from) rs → AllByRecursion (λ r. AllByRecursion (IsBefore r) (behind x qs)) rs
each_before S T from x l rs qs h =
    all_weaker (Below S from) (λ r. AllByRecursion (IsBefore r) (behind x qs)) (λ r k. all_behind (IsBefore r) x qs (every r k.0 qs)) rs h
  where
    every : (r : List ℕ) → BeginsBelow from r → (qs : List (List ℕ)) → AllByRecursion (λ f. IsBefore r (x ∷ f)) qs
    every r k [] = tt
    every r k (q ∷ qs) = (below_before from x r q l k, every r k qs)

joined_rests : (columns : List ℕ) (x : ℕ) (rs qs : List (List ℕ)) →
    map (λ f. columns ++ f) rs ++ map (λ f. (columns ++ x ∷ []) ++ f) qs ≡ map (λ f. columns ++ f) (rs ++ behind x qs)
joined_rests columns x [] [] = refl
joined_rests columns x [] (q ∷ qs) = ap (λ f. f ∷ map (λ g. (columns ++ x ∷ []) ++ g) qs) (append_assoc columns (x ∷ []) q) ∙ ap (λ z. (columns ++ x ∷ q) ∷ z) (joined_rests columns x [] qs)
joined_rests columns x (r ∷ rs) qs = ap (λ z. (columns ++ r) ∷ z) (joined_rests columns x rs qs)

-- a set with more members, where each of these is among the lists or comes later
gains_wider : (S T : List ℕ → Type 0) (columns : List ℕ) (limit : ℕ) (a b : OrderList) → ((f : List ℕ) → S f → T f) → (g : Gains S columns limit a b) →
    ((f : List ℕ) → T f → IsAmong f g.rests ⊎ (IsTrue b.more × AllBefore g.rests f)) → Gains T columns limit a b
gains_wider S T columns limit a b there g each =
    record {
      rests = g.rests;
      width = g.width;
      orders = g.orders;
      few = g.few;
      members = all_weaker S T there g.rests g.members;
      rising = g.rising;
      each = each;
      other = λ more. let o = g.other more in (o.0, o.1, there o.1 o.2, o.3);
    }

-- the same set in other words
pub gains_same : (S T : List ℕ → Type 0) (columns : List ℕ) (limit : ℕ) (a b : OrderList) → ((f : List ℕ) → S f → T f) → ((f : List ℕ) → T f → S f) →
    Gains S columns limit a b → Gains T columns limit a b
gains_same S T columns limit a b there back g = gains_wider S T columns limit a b there g (λ f t. g.each f (back f t))

pub ready_same : (S T : List ℕ → Type 0) (columns : List ℕ) (limit : ℕ) (a : OrderList) → ((f : List ℕ) → T f → S f) → IsReady S columns limit a → IsReady T columns limit a
ready_same S T columns limit a back r = record { fresh = r.fresh; few = r.few; wide = λ f t. r.wide f (back f t) }

-- nothing comes: the columns are an order, which is added or seen
pub gains_one : (columns : List ℕ) (limit : ℕ) (a b : OrderList) → a.more ≡ false → length a.orders ≤ limit → b ≡ added limit columns a → Gains (λ f. f ≡ []) columns limit a b
gains_one columns limit a b fresh few e =
    (elim (nat_lt (length a.orders) limit) as (λ v. nat_lt (length a.orders) limit ≡ v →
    b ≡ (if v then record a { orders = a.orders ++ columns ∷ [] } else record a { more = true }) → Gains (λ f. f ≡ []) columns limit a b) [
      | true ↦ λ t k. record {
        rests = [] ∷ [];
        width = ap (λ l. l.columns) k;
        orders = ap (λ l. l.orders) k ∙ ap (λ f. a.orders ++ f ∷ []) (sym (append-nil columns));
        few = omega (arith, ltb-true (length a.orders) limit t, ap (λ l. length l.orders) k, length-append a.orders (columns ∷ []));
        members = (refl, tt);
        rising = (tt, tt);
        each = λ f s. inl (inl (sym s));
        other = λ more. absurd (both_ways a.more fresh (sym (ap (λ l. l.more) k) ∙ more));
      }
      | false ↦ λ t k. record {
        rests = [];
        width = ap (λ l. l.columns) k;
        orders = ap (λ l. l.orders) k ∙ sym (append-nil a.orders);
        few = omega (arith, few, ap (λ l. length l.orders) k);
        members = tt;
        rising = tt;
        each = λ f s. inr (ap (λ l. l.more) k, tt);
        other = λ more. (omega (arith, few, ltb-false (length a.orders) limit t, ap (λ l. length l.orders) k), [], refl, tt);
      }
    ]) refl e

-- the loop over the columns that can come next: nothing yet
pub gains_none : (S : List ℕ → Type 0) (columns : List ℕ) (limit : ℕ) (a : OrderList) → a.more ≡ false → length a.orders ≤ limit → Gains (Below S 0) columns limit a a
gains_none S columns limit a fresh few =
    record {
      rests = [];
      width = refl;
      orders = sym (append-nil a.orders);
      few = few;
      members = tt;
      rising = tt;
      each = λ f s. absurd (nothing f s.0);
      other = λ more. absurd (both_ways a.more fresh more);
    }
  where
    nothing : (f : List ℕ) → BeginsBelow 0 f → ⊥
    nothing [] h = h
    nothing (x ∷ f) h = omega arith

-- one column more: the least that is not below the bound
module _ (S : List ℕ → Type 0) (columns : List ℕ) (limit from x : ℕ) (a b c : OrderList) (low : from ≤ x) (first : Gains (Below S from) columns limit a b) (fresh : b.more ≡ false)
    (second : Gains (from_column x S) (columns ++ x ∷ []) limit b c) (least : (y : ℕ) (f : List ℕ) → S (y ∷ f) → from ≤ y → x ≤ y) where
  abbrev rests : List (List ℕ)
  rests = first.rests ++ behind x second.rests

  all_orders : c.orders ≡ a.orders ++ map (λ f. columns ++ f) rests
  all_orders =
      second.orders ∙
      ap (λ l. l ++ map (λ f. (columns ++ x ∷ []) ++ f) second.rests) first.orders ∙
      append_assoc a.orders (map (λ f. columns ++ f) first.rests) (map (λ f. (columns ++ x ∷ []) ++ f) second.rests) ∙
      ap (λ l. a.orders ++ l) (joined_rests columns x first.rests second.rests)

  wider : (f : List ℕ) → Below S from f → Below S (x + 1) f
  wider [] s = s
  wider (y ∷ f) s = ((let l : y < from = s.0 in omega arith), s.1)

  at_column : (f : List ℕ) → S (x ∷ f) → Below S (x + 1) (x ∷ f)
  at_column f s = (omega arith, s)

  members : AllByRecursion (Below S (x + 1)) rests
  members =
      all_joined (Below S (x + 1)) first.rests (behind x second.rests)
      (all_weaker (Below S from) (Below S (x + 1)) wider first.rests first.members)
      (all_behind (Below S (x + 1)) x second.rests (all_weaker (from_column x S) (λ f. Below S (x + 1) (x ∷ f)) at_column second.rests second.members))

  rising : AreRising rests
  rising =
      rising_joined first.rests (behind x second.rests) first.rising (rising_behind x second.rests second.rising)
      (each_before S S from x low first.rests second.rests first.members)

  all_before : (f : List ℕ) → AllBefore second.rests f → AllBefore rests (x ∷ f)
  all_before f h =
      all_joined (λ r. IsBefore r (x ∷ f)) first.rests (behind x second.rests) (before_later S from x f low first.rests first.members) (before_behind x f second.rests h)

  each_here : (f : List ℕ) → S (x ∷ f) → IsAmong (x ∷ f) rests ⊎ (IsTrue c.more × AllBefore rests (x ∷ f))
  each_here f s =
      elim (second.each f s) [
        | inl h ↦ inl (among_right (x ∷ f) first.rests (behind x second.rests) (among_behind x f second.rests h))
        | inr h ↦ inr (h.0, all_before f h.1)
      ]

  each : (f : List ℕ) → Below S (x + 1) f → IsAmong f rests ⊎ (IsTrue c.more × AllBefore rests f)
  each [] s = absurd s.0
  each (y ∷ f) s =
      elim (cases_lt y from) [
        | inl l ↦
            elim (first.each (y ∷ f) (l, s.1)) [
              | inl h ↦ inl (among_left (y ∷ f) first.rests (behind x second.rests) h)
              | inr h ↦ absurd (both_ways b.more fresh h.0)
            ]
        | inr l ↦
            let above : x ≤ y = least y f s.1 l in
            let below : y < x + 1 = s.0 in
            let same : x ≡ y = omega arith in
            subst (λ z. IsAmong (z ∷ f) rests ⊎ (IsTrue c.more × AllBefore rests (z ∷ f))) same (each_here f (subst (λ z. S (z ∷ f)) (sym same) s.1))
      ]

  pub gains_more : Gains (Below S (x + 1)) columns limit a c
  gains_more =
      record {
        rests = rests;
        width = second.width ∙ first.width;
        orders = all_orders;
        few = second.few;
        members = members;
        rising = rising;
        each = each;
        other = λ more. let o = second.other more in (o.0, x ∷ o.1, at_column o.1 o.2, all_before o.1 o.3);
      }

-- no column is left: the whole set
pub gains_all : (S : List ℕ → Type 0) (columns : List ℕ) (limit from : ℕ) (a b : OrderList) → ((f : List ℕ) → S f → BeginsBelow from f) → Gains (Below S from) columns limit a b →
    Gains S columns limit a b
gains_all S columns limit from a b all g = gains_same (Below S from) S columns limit a b (λ f s. s.1) (λ f s. (all f s, s)) g

-- the list is full: what is left comes later
pub gains_stopped : (S : List ℕ → Type 0) (columns : List ℕ) (limit from : ℕ) (a b : OrderList) → (S [] → ⊥) → IsTrue b.more → Gains (Below S from) columns limit a b → Gains S columns limit a b
gains_stopped S columns limit from a b some full g = gains_wider (Below S from) S columns limit a b (λ f s. s.1) g each
  where
    each : (f : List ℕ) → S f → IsAmong f g.rests ⊎ (IsTrue b.more × AllBefore g.rests f)
    each [] s = absurd (some s)
    each (y ∷ f) s =
        elim (cases_lt y from) [
          | inl l ↦ g.each (y ∷ f) (l, s)
          | inr l ↦ inr (full, before_later S from y f l g.rests g.members)
        ]

-- the walk may go on behind one column more
pub ready_pushed : (S : List ℕ → Type 0) (columns pushed : List ℕ) (limit x : ℕ) (a b : OrderList) → pushed ≡ columns ++ x ∷ [] → IsReady S columns limit a → b.columns ≡ a.columns → b.more ≡ false →
    length b.orders ≤ limit → IsReady (from_column x S) pushed limit b
ready_pushed S columns pushed limit x a b e r width fresh few =
    record {
      fresh = fresh;
      few = few;
      wide = λ f s. omega (arith, r.wide (x ∷ f) s, width, ap (λ (l : List ℕ). length l) e, length-append columns (x ∷ []));
    }

-- a set of which each list begins with one column
pub gains_only : (S : List ℕ → Type 0) (columns pushed : List ℕ) (limit x : ℕ) (a b : OrderList) → a.more ≡ false → length a.orders ≤ limit → pushed ≡ columns ++ x ∷ [] →
    ((f : List ℕ) → S f → (g : List ℕ) × (f ≡ x ∷ g)) → Gains (from_column x S) pushed limit a b → Gains S columns limit a b
gains_only S columns pushed limit x a b fresh few e only g =
    gains_all S columns limit (x + 1) a b all
    (gains_more S columns limit 0 x a a b (omega arith) (gains_none S columns limit a fresh few) fresh (subst (λ l. Gains (from_column x S) l limit a b) e g) least)
  where
    least : (y : ℕ) (f : List ℕ) → S (y ∷ f) → 0 ≤ y → x ≤ y
    least y f s l =
        let r : (g : List ℕ) × (y ∷ f ≡ x ∷ g) = only (y ∷ f) s in
        let h : y ∷ f ≡ x ∷ r.0 = r.1 in
        let k : y ≡ x = cc in
        omega arith

    all : (f : List ℕ) → S f → BeginsBelow (x + 1) f
    all f s = subst (BeginsBelow (x + 1)) (sym (only f s).1) (omega arith)
