-- Which ball is whose: the centres with their radii, in order.
use Rattle.std.proofs.Common.{◌≡◌, ◌↔◌, ◌∙◌, ℕ, zero, suc, ◌<◌, ◌≤◌, List, [], ◌∷◌, ◌++◌, length, map, get_or, slice_index_or, All, AllPairs, IsTrue, refl, sym, ap, subst, inl, inr, arith}
use Rattle.std.proofs.lemmas.Bool.{cases_eq}
use Rattle.std.proofs.lemmas.List.{map-append}
use Rattle.std.proofs.lemmas.List.Elements.{All-append, All-map, All-nil, All-cons, Contains-append_left, Contains-append_right, Contains-append_cases}
use Rattle.std.proofs.lemmas.List.Kept.{AllPairs-cons}
use Rattle.std.specs.List.{Contains}
use Rattle.column_order.specs.Orders.{has}
use Rattle.column_order.proofs.Lists.{has_head, has_tail}
use Rattle.graph_model.specs.Distances.{DistancesValue}
use Rattle.robinson_balls.specs.Balls.{ball, radii, balls_round, balls_to}
use Rattle.robinson_balls.specs.Laws.{Round, IsRound, IsRoundBefore, BallsLaw}
use Rattle.robinson_balls.proofs.BallLaws.{map_has}
use Rattle.robinson_balls.proofs.Radii.{radii_rise, radii_have, radii_only}
use Rattle.robinson_balls.proofs.Rising.{Rises, rises_lower}

abbrev round : ℕ → ℕ → Round
round x s = record { centre = x; radius = s }

abbrev ball_of : DistancesValue → Round → List ℕ
ball_of d r = ball d r.centre r.radius

-- the centres 1 to n, with their radii
abbrev rounds_to : DistancesValue → ℕ → List Round
rounds_to d zero = []
rounds_to d (suc x) = rounds_to d x ++ map (round (suc x)) (radii d (suc x))

map_round : (d : DistancesValue) (x : ℕ) (ss : List ℕ) → map (ball d x) ss ≡ map (ball_of d) (map (round x) ss)
map_round d x [] = refl
map_round d x (s ∷ ss) = ap (λ rows. ball d x s ∷ rows) (map_round d x ss)

balls_are : (d : DistancesValue) (n : ℕ) → balls_to d n ≡ map (ball_of d) (rounds_to d n)
balls_are d zero = refl
balls_are d (suc n) =
    ap (λ rows. rows ++ balls_round d (suc n)) (balls_are d n) ∙ ap (λ rows. map (ball_of d) (rounds_to d n) ++ rows) (map_round d (suc n) (radii d (suc n)))
    ∙ sym (map-append (ball_of d) (rounds_to d n) (map (round (suc n)) (radii d (suc n))))

-- what holds of each pair of two lists, and of each one of the first with each one of the second
pairs_append : {X : Type 0} (R : X → X → Type 0) (xs ys : List X) → AllPairs R xs → AllPairs R ys → All (λ x. All (R x) ys) xs → AllPairs R (xs ++ ys)
pairs_append R [] ys h k c = k
pairs_append R (x ∷ xs) ys h k c =
    AllPairs-cons R x (xs ++ ys)
    (All-append (R x) xs ys (λ j d l. h 0 (suc j) d (omega arith) (omega (arith, l))) (c 0 x (omega arith)))
    (pairs_append R xs ys (λ i j d l u. h (suc i) (suc j) d (omega (arith, l)) (omega (arith, u))) k (λ i d l. c (suc i) d (omega (arith, l))))

later : (x s : ℕ) (ss : List ℕ) → Rises (suc s) ss → All (IsRoundBefore (round x s)) (map (round x) ss)
later x s [] h = All-nil (IsRoundBefore (round x s))
later x s (t ∷ ss) h = All-cons (IsRoundBefore (round x s)) (round x t) (map (round x) ss) (inr (refl, omega (arith, h.0))) (later x s ss (rises_lower (suc s) (suc t) ss (omega (arith, h.0)) h.1))

one_centre : (x low : ℕ) (ss : List ℕ) → Rises low ss → AllPairs IsRoundBefore (map (round x) ss)
one_centre x low [] h = λ i j d l u. absurd (omega (arith, u))
one_centre x low (s ∷ ss) h = AllPairs-cons IsRoundBefore (round x s) (map (round x) ss) (later x s ss h.1) (one_centre x (suc s) ss h.1)

low_centres : (d : DistancesValue) (n m : ℕ) → n ≤ m → All (λ (r : Round). r.centre ≤ m) (rounds_to d n)
low_centres d zero m l = All-nil (λ (r : Round). r.centre ≤ m)
low_centres d (suc n) m l =
    All-append (λ (r : Round). r.centre ≤ m) (rounds_to d n) (map (round (suc n)) (radii d (suc n))) (low_centres d n m (omega (arith, l)))
    (All-map (λ (r : Round). r.centre ≤ m) (round (suc n)) (radii d (suc n)) (λ k s u. l))

in_order : (d : DistancesValue) (n : ℕ) → AllPairs IsRoundBefore (rounds_to d n)
in_order d zero = λ i j e l u. absurd (omega (arith, u))
in_order d (suc n) =
    pairs_append IsRoundBefore (rounds_to d n) (map (round (suc n)) (radii d (suc n))) (in_order d n) (one_centre (suc n) 0 (radii d (suc n)) (radii_rise d (suc n)))
    (λ i r l. All-map (IsRoundBefore (get_or (rounds_to d n) i r)) (round (suc n)) (radii d (suc n)) (λ k s u. inl (omega (arith, low_centres d n n (omega arith) i r l))))

rounds_only : (x : ℕ) (ss : List ℕ) (r : Round) → Contains (map (round x) ss) r → (s : ℕ) × IsTrue (has ss s) × (round x s ≡ r)
rounds_only x [] r h = absurd (omega (arith, h.1))
rounds_only x (s ∷ ss) r h = at (rounds_only x ss r) h.0 h.1 h.2
  where
    at : (Contains (map (round x) ss) r → (t : ℕ) × IsTrue (has ss t) × (round x t ≡ r)) → (k : ℕ) → k < length (map (round x) (s ∷ ss)) → slice_index_or (map (round x) (s ∷ ss)) k r ≡ r → (t : ℕ) × IsTrue (has (s ∷ ss) t) × (round x t ≡ r)
    at rest zero l e = (s, has_head s ss, e)
    at rest (suc k) l e = let found = rest (k, omega (arith, l), e) in (found.0, has_tail s found.0 ss found.1, found.2)

-- what is among the centres 1 to n and their radii
record IsAmong (d : DistancesValue) (n : ℕ) (r : Round) : Type 0 where
  centre : (1 ≤ r.centre) × (r.centre ≤ n)
  radius : IsTrue (has (radii d r.centre) r.radius)

among : (d : DistancesValue) (n : ℕ) (r : Round) → Contains (rounds_to d n) r → IsAmong d n r
among d zero r h = absurd (omega (arith, h.1))
among d (suc n) r h =
    elim (Contains-append_cases (rounds_to d n) (map (round (suc n)) (radii d (suc n))) r h) [
      | inl k ↦ let before = among d n r k in record { centre = (before.centre.0, omega (arith, before.centre.1)); radius = before.radius }
      | inr k ↦ let found = rounds_only (suc n) (radii d (suc n)) r k in
          subst (IsAmong d (suc n)) found.2 (record { centre = (omega arith, omega arith); radius = found.1 })
    ]

has_round : (d : DistancesValue) (n x s : ℕ) → 1 ≤ x → x ≤ n → IsTrue (has (radii d x) s) → Contains (rounds_to d n) (round x s)
has_round d zero x s l u h = absurd (omega (arith, l, u))
has_round d (suc n) x s l u h =
    elim (cases_eq x (suc n)) [
      | inl e ↦ subst (λ a. Contains (rounds_to d (suc n)) (round a s)) (sym e)
          (Contains-append_right (rounds_to d n) (map (round (suc n)) (radii d (suc n))) (round (suc n) s) (map_has (round (suc n)) (radii d (suc n)) s (subst (λ a. IsTrue (has (radii d a) s)) e h)))
      | inr k ↦ Contains-append_left (rounds_to d n) (map (round (suc n)) (radii d (suc n))) (round x s) (has_round d n x s l (omega (arith, u, k)) h)
    ]

every_round : (d : DistancesValue) (r : Round) → Contains (rounds_to d d.items) r ↔ IsRound d r
every_round d r = (told, there)
  where
    told : Contains (rounds_to d d.items) r → IsRound d r
    told h =
        let k = among d d.items r h in
        let found = radii_only d r.centre r.radius k.radius in
        record { centre = k.centre; item = found.0; within = (found.1, found.2); radius = found.3 }

    there : IsRound d r → Contains (rounds_to d d.items) r
    there h =
        has_round d d.items r.centre r.radius h.centre.0 h.centre.1
        (subst (λ s. IsTrue (has (radii d r.centre) s)) h.radius (radii_have d r.centre h.item h.within.0 h.within.1))

pub balls_of_rounds : BallsLaw
balls_of_rounds d = (rounds_to d d.items, (record { order = in_order d d.items; every = every_round d }, balls_are d d.items))
