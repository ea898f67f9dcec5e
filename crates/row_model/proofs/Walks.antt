-- Laws of walks. Nothing above opens the definitions of a walk.
use Rattle.std.proofs.Common.{◌≡◌, ◌≢◌, ◌⊎◌, ◌↔◌, ◌∙◌, ℕ, zero, suc, ◌+◌, ◌-◌, ◌≤◌, Bool, true, false, not, List, [], ◌∷◌, ◌++◌, length, IsTrue, refl, sym, ap, subst, inl, inr, arith, length-append}
use Rattle.std.proofs.lemmas.Bool.{both_ways, cases_Bool, lt-ltb, ltb-true}
use Rattle.std.proofs.lemmas.List.{get_or_append_left}
use Rattle.row_model.specs.declared.graph.Pair.{Pair}
use Rattle.row_model.specs.declared.graph.Why.TheVariants.{Flip, Row}
use Rattle.row_model.specs.Graph.{pair, turned, row_at, IsPair, Joined, IsWalk, IsEvenly, IsOddly, Evenly, HasOddWalk, HasConflict}
use Rattle.row_model.specs.Laws.{IsBefore}
use Rattle.column_order.specs.Orders.{place, IsValidOrder, HasValidOrder}
use Rattle.row_model.proofs.Sides.{side, joined_side}

pub walk-append : (J : Pair → Pair → Type 0) (us vs : List Pair) (v w z : Pair) → IsWalk J v us w → IsWalk J w vs z → IsWalk J v (us ++ vs) z
walk-append J [] vs v w z e h = subst (λ x. IsWalk J x vs z) (sym e) h
walk-append J (u ∷ us) vs v w z g h = (g.0, walk-append J us vs u w z g.1 h)

-- a walk turned round
back : List Pair → Pair → List Pair
back [] v = []
back (u ∷ us) v = back us u ++ v ∷ []

back-length : (us : List Pair) (v : Pair) → length (back us v) ≡ length us
unfolding back
back-length [] v = refl
back-length (u ∷ us) v = omega (arith, length-append (back us u) (v ∷ []), back-length us u)

back-walk : (J : Pair → Pair → Type 0) → ((v w : Pair) → J v w → J w v) → (us : List Pair) (v w : Pair) → IsWalk J v us w → IsWalk J w (back us v) v
unfolding back
back-walk J sy [] v w e = sym e
back-walk J sy (u ∷ us) v w h = walk-append J (back us u) (v ∷ []) w u v (back-walk J sy us u w h.1) (sy v u h.0, refl)

pub evenly-refl : (J : Pair → Pair → Type 0) (v : Pair) → IsEvenly J v v
evenly-refl J v = record { steps = []; walk = refl; half = 0; even = refl }

pub evenly-two : (J : Pair → Pair → Type 0) (v u w : Pair) → J v u → J u w → IsEvenly J v w
evenly-two J v u w g h = record { steps = u ∷ w ∷ []; walk = (g, (h, refl)); half = 1; even = refl }

pub evenly-trans : (J : Pair → Pair → Type 0) (v w z : Pair) → IsEvenly J v w → IsEvenly J w z → IsEvenly J v z
evenly-trans J v w z g h =
    record {
      steps = g.steps ++ h.steps;
      walk = walk-append J g.steps h.steps v w z g.walk h.walk;
      half = g.half + h.half;
      even = omega (arith, length-append g.steps h.steps, g.even, h.even);
    }

pub evenly-sym : (J : Pair → Pair → Type 0) → ((v w : Pair) → J v w → J w v) → (v w : Pair) → IsEvenly J v w → IsEvenly J w v
evenly-sym J sy v w h =
    record { steps = back h.steps v; walk = back-walk J sy h.steps v w h.walk; half = h.half; even = back-length h.steps v ∙ h.even }

walk-mono : (J K : Pair → Pair → Type 0) → ((v w : Pair) → J v w → K v w) → (us : List Pair) (v w : Pair) → IsWalk J v us w → IsWalk K v us w
walk-mono J K m [] v w e = e
walk-mono J K m (u ∷ us) v w h = (m v u h.0, walk-mono J K m us u w h.1)

pub evenly-mono : (J K : Pair → Pair → Type 0) → ((v w : Pair) → J v w → K v w) → (v w : Pair) → IsEvenly J v w → IsEvenly K v w
evenly-mono J K m v w h = record { steps = h.steps; walk = walk-mono J K m h.steps v w h.walk; half = h.half; even = h.even }

-- one step at each end
pub evenly-ends : (J : Pair → Pair → Type 0) (v v' w w' : Pair) → J v v' → IsEvenly J v' w' → J w' w → IsEvenly J v w
evenly-ends J v v' w w' g h k =
    record {
      steps = v' ∷ (h.steps ++ w ∷ []);
      walk = (g, walk-append J h.steps (w ∷ []) v' w' w h.walk (k, refl));
      half = suc h.half;
      even = omega (arith, length-append h.steps (w ∷ []), h.even);
    }

turn : ℕ → Bool → Bool
turn zero b = b
turn (suc n) b = not (turn n b)

turn-not : (n : ℕ) (b : Bool) → turn n (not b) ≡ not (turn n b)
unfolding turn
turn-not zero b = refl
turn-not (suc n) b = ap not (turn-not n b)

turn-twice : (n m : ℕ) (b : Bool) → m ≡ n + n → turn m b ≡ b
unfolding turn
turn-twice zero zero b e = refl
turn-twice zero (suc m) b e = absurd (omega arith)
turn-twice (suc n) zero b e = absurd (omega arith)
turn-twice (suc n) (suc zero) b e = absurd (omega arith)
turn-twice (suc n) (suc (suc m)) b e = twice (turn m b) ∙ turn-twice n m b (omega arith)
  where
    twice : (c : Bool) → not (not c) ≡ c
    twice true = refl
    twice false = refl

module _ (J : Pair → Pair → Type 0) (S : Pair → Bool) (flips : (v w : Pair) → J v w → S w ≡ not (S v)) where
  walk-side : (us : List Pair) (v w : Pair) → IsWalk J v us w → S w ≡ turn (length us) (S v)
  unfolding turn
  walk-side [] v w e = ap S (sym e)
  walk-side (u ∷ us) v w h =
      walk-side us u w h.1 ∙ ap (turn (length us)) (flips v u h.0) ∙ turn-not (length us) (S v)

  pub evenly-side : (v w : Pair) → IsEvenly J v w → S w ≡ S v
  evenly-side v w h = walk-side h.steps v w h.walk ∙ turn-twice h.half (length h.steps) (S v) h.even

  pub oddly-side : (v w : Pair) → IsOddly J v w → S w ≡ not (S v)
  unfolding turn
  oddly-side v w h =
      let e : length h.steps ≡ suc (h.half + h.half) = omega (arith, h.odd) in
      walk-side h.steps v w h.walk ∙
      ap (λ n. turn n (S v)) e ∙
      ap not (turn-twice h.half (h.half + h.half) (S v) refl)

-- a valid order has all pairs of an even walk on one side
pub evenly_one_side : (c : ℕ) (rows : List (List ℕ)) (o : List ℕ) → IsValidOrder c rows o → (v w : Pair) → IsEvenly (Joined c rows) v w → side o w ≡ side o v
evenly_one_side c rows o valid = evenly-side (Joined c rows) (side o) (joined_side c rows o valid)

never : (b : Bool) → b ≡ not b → ⊥
never true e = cc
never false e = cc

-- a closed walk of odd length leaves no valid order
pub odd_walk_none : (c : ℕ) (rows : List (List ℕ)) → HasOddWalk c rows → HasValidOrder c rows → ⊥
odd_walk_none c rows h o = never (side o.0 h.start) (oddly-side (Joined c rows) (side o.0) (joined_side c rows o.0 o.1) h.start h.start h.walk)

pub joined-append : (c : ℕ) (rows more : List (List ℕ)) (v w : Pair) → Joined c rows v w → Joined c (rows ++ more) v w
joined-append c rows more v w (Flip, j) = (Flip, record { from = j.from; to = j.to; fits = j.fits })
joined-append c rows more v w (Row k, j) =
    let e : row_at (rows ++ more) k ≡ row_at rows k = get_or_append_left rows more [] (k - 1) (omega arith) in (
      Row k,
      record {
        from = j.from;
        to = j.to;
        fits = (
          j.fits.0,
          omega (arith, length-append rows more),
          elim j.fits.2 [ inl x ↦ inl (rw e x) | inr x ↦ inr (rw e x) ],
        );
      },
    )

pub is_pair_turned : (c : ℕ) (v : Pair) → IsPair c v → IsPair c (turned v)
is_pair_turned c v h = record { a_from = h.b_from; a_to = h.b_to; b_from = h.a_from; b_to = h.a_to; distinct = λ e. h.distinct (sym e) }

-- a pair is joined to itself with its columns exchanged, and the other way round
pub joined_turned : (c : ℕ) (rows : List (List ℕ)) (v : Pair) → IsPair c v → Joined c rows v (turned v)
joined_turned c rows v h = (Flip, record { from = h; to = is_pair_turned c v h; fits = (refl, refl) })

pub turned_joined : (c : ℕ) (rows : List (List ℕ)) (v : Pair) → IsPair c v → Joined c rows (turned v) v
turned_joined c rows v h = (Flip, record { from = is_pair_turned c v h; to = h; fits = (refl, refl) })

odd_from_conflict : (c : ℕ) (rows : List (List ℕ)) → HasConflict c rows → HasOddWalk c rows
odd_from_conflict c rows h =
    record {
      start = h.start;
      walk = record {
        steps = h.walk.steps ++ h.start ∷ [];
        walk = walk-append (Joined c rows) h.walk.steps (h.start ∷ []) h.start (turned h.start) h.start h.walk.walk (turned_joined c rows h.start h.is_pair, refl);
        half = h.walk.half;
        odd = omega (arith, length-append h.walk.steps (h.start ∷ []), h.walk.even);
      };
    }

-- the first pair of a walk with a step has distinct columns in range
walk_start : (c : ℕ) (rows : List (List ℕ)) (us : List Pair) (v w : Pair) → IsWalk (Joined c rows) v us w → 1 ≤ length us → IsPair c v
walk_start c rows [] v w h l = absurd (omega arith)
walk_start c rows (u ∷ us) v w h l = h.0.1.from

conflict_from_odd : (c : ℕ) (rows : List (List ℕ)) → HasOddWalk c rows → HasConflict c rows
conflict_from_odd c rows h =
    let p : IsPair c h.start = walk_start c rows h.walk.steps h.start h.start h.walk.walk (omega (arith, h.walk.odd)) in
    record {
      start = h.start;
      is_pair = p;
      walk = record {
        steps = h.walk.steps ++ turned h.start ∷ [];
        walk = walk-append (Joined c rows) h.walk.steps (turned h.start ∷ []) h.start h.start (turned h.start) h.walk.walk (joined_turned c rows h.start p, refl);
        half = suc h.walk.half;
        even = omega (arith, length-append h.walk.steps (turned h.start ∷ []), h.walk.odd);
      };
    }

pub conflict_odd : (c : ℕ) (rows : List (List ℕ)) → HasOddWalk c rows ↔ HasConflict c rows
conflict_odd c rows = (conflict_from_odd c rows, odd_from_conflict c rows)

pub conflict_none : (c : ℕ) (rows : List (List ℕ)) → HasConflict c rows → HasValidOrder c rows → ⊥
conflict_none c rows h o = odd_walk_none c rows (odd_from_conflict c rows h) o

-- distinct columns with a walk of even length from the pair to the pair exchanged
pub conflict_from : (c : ℕ) (rows : List (List ℕ)) (a b : ℕ) → a ≢ b → Evenly c rows (pair a b) (pair b a) → HasConflict c rows
conflict_from c rows a b n h = record { start = pair a b; is_pair = start h.steps h.walk; walk = h }
  where
    start : (us : List Pair) → IsWalk (Joined c rows) (pair a b) us (pair b a) → IsPair c (pair a b)
    start [] e = absurd (n (ap (λ (x : Pair). x.a) e))
    start (u ∷ us) k = k.0.1.from

pub conflict_more : (c : ℕ) (rows more : List (List ℕ)) → HasConflict c rows → HasConflict c (rows ++ more)
conflict_more c rows more h =
    record { start = h.start; is_pair = h.is_pair; walk = evenly-mono (Joined c rows) (Joined c (rows ++ more)) (joined-append c rows more) h.start (turned h.start) h.walk }

side_before : (o : List ℕ) (v : Pair) → IsTrue (side o v) → IsBefore o v
side_before o v h = ltb-true (place o v.a) (place o v.b) h

before_side : (o : List ℕ) (v : Pair) → IsBefore o v → IsTrue (side o v)
before_side o v h = lt-ltb (place o v.a) (place o v.b) h

-- exactly one of two joined pairs has its first column before its second
pub joined_before : (c : ℕ) (rows : List (List ℕ)) (o : List ℕ) (v w : Pair) → IsValidOrder c rows o → Joined c rows v w →
    (IsBefore o v × (IsBefore o w → ⊥)) ⊎ (IsBefore o w × (IsBefore o v → ⊥))
joined_before c rows o v w valid j =
    let e : side o w ≡ not (side o v) = joined_side c rows o valid v w j in
    elim (cases_Bool (side o v)) [
      | inl k ↦ inl (side_before o v k, λ h. both_ways (side o w) (e ∙ ap not k) (before_side o w h))
      | inr k ↦ inr (side_before o w (e ∙ ap not k), λ h. both_ways (side o v) k (before_side o v h))
    ]

pub evenly_before : (c : ℕ) (rows : List (List ℕ)) (o : List ℕ) (v w : Pair) → IsValidOrder c rows o → Evenly c rows v w → IsBefore o v ↔ IsBefore o w
evenly_before c rows o v w valid h =
    let e : side o w ≡ side o v = evenly_one_side c rows o valid v w h in
    (λ k. side_before o w (e ∙ before_side o v k), λ k. side_before o v (sym e ∙ before_side o w k))
