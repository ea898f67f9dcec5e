-- Lists of which each has its place between the one before it and the one after it.
use Rattle.std.proofs.Common.{◌≡◌, ◌≢◌, ℕ, ◌≤◌, List, [], ◌∷◌, ◌++◌, sym, subst, ◌∙◌, arith}
use Rattle.std.proofs.lemmas.List.{append-nil}
use Rattle.arena_model.proofs.Lists.{head_or-append, last_or-append, occurs_here, occurs_last, occurs_same}
use Rattle.arena_model.specs.ChildLists.{head_or, last_or, none}
use Rattle.column_order.specs.Orders.{occurs}
use Rattle.pq_arena.specs.StandsFor.{EachBetween}

-- chains
pub chain_map : (S S' : ℕ → ℕ → ℕ → Type 0) (xs : List ℕ) (b a : ℕ) →
    ((x p q : ℕ) → 1 ≤ occurs xs x → S x p q → S' x p q) → EachBetween S b xs a → EachBetween S' b xs a
chain_map S S' [] b a h c = tt
chain_map S S' (x ∷ xs) b a h c =
    (h x b (head_or xs a) (occurs_here x xs) c.0, chain_map S S' xs x a (λ y p q o s. h y p q (omega arith) s) c.1)

pub chain_split : (S : ℕ → ℕ → ℕ → Type 0) (us vs : List ℕ) (b a : ℕ) →
    EachBetween S b (us ++ vs) a → EachBetween S b us (head_or vs a) × EachBetween S (last_or us b) vs a
chain_split S [] vs b a c = (tt, c)
chain_split S (u ∷ us) vs b a c =
    let r = chain_split S us vs u a c.1 in
    ((subst (λ y. S u b y) (head_or-append us vs a) c.0, r.0), r.1)

pub chain_join : (S : ℕ → ℕ → ℕ → Type 0) (us vs : List ℕ) (b a : ℕ) →
    EachBetween S b us (head_or vs a) → EachBetween S (last_or us b) vs a → EachBetween S b (us ++ vs) a
chain_join S [] vs b a c d = d
chain_join S (u ∷ us) vs b a c d =
    (subst (λ y. S u b y) (sym (head_or-append us vs a)) c.0, chain_join S us vs u a c.1 d)

abbrev pub Ring : (ℕ → ℕ → ℕ → Type 0) → List ℕ → Type 0
Ring S ks = EachBetween S (last_or ks none) ks (head_or ks none)

-- a ring may be read from any place
pub ring_turn : (S : ℕ → ℕ → ℕ → Type 0) (us vs : List ℕ) → Ring S (us ++ vs) → Ring S (vs ++ us)
ring_turn S [] vs c = subst (λ xs. Ring S xs) (sym (append-nil vs)) c
ring_turn S (u ∷ us) [] c = subst (λ xs. Ring S xs) (append-nil (u ∷ us)) c
ring_turn S (u ∷ us) (v ∷ vs) c =
    let from : last_or (us ++ v ∷ vs) u ≡ last_or vs v = last_or-append us (v ∷ vs) u in
    let to : last_or (vs ++ u ∷ us) v ≡ last_or us u = last_or-append vs (u ∷ us) v in
    let parts = chain_split S (u ∷ us) (v ∷ vs) (last_or vs v) u (subst (λ b. EachBetween S b (u ∷ us ++ v ∷ vs) u) from c) in
    subst (λ b. EachBetween S b (v ∷ vs ++ u ∷ us) v) (sym to) (chain_join S (v ∷ vs) (u ∷ us) (last_or us u) v parts.1 parts.0)

-- the neighbour past the last one changes
pub chain_right : (S S' : ℕ → ℕ → ℕ → Type 0) (z x : ℕ) (xs : List ℕ) (b a a' : ℕ) →
    z ≡ last_or xs x → ((y : ℕ) → occurs (x ∷ xs) y ≤ 1) →
    ((y p q : ℕ) → 1 ≤ occurs (x ∷ xs) y → y ≢ z → S y p q → S' y p q) → ((p : ℕ) → S z p a → S' z p a') →
    EachBetween S b (x ∷ xs) a → EachBetween S' b (x ∷ xs) a'
chain_right S S' z x [] b a a' e once keep turn c =
    (subst (λ y. S' y b a') e (turn b (subst (λ y. S y b a) (sym e) c.0)), tt)
chain_right S S' z x (y ∷ ys) b a a' e once keep turn c =
    let ne : x ≢ z = λ q. let k : 1 ≤ occurs (y ∷ ys) x = subst (λ w. 1 ≤ occurs (y ∷ ys) w) (sym (q ∙ e)) (occurs_last ys y) in
    let o : occurs (x ∷ y ∷ ys) x ≤ 1 = once x in
    omega (arith, occurs_same x (y ∷ ys)) in (
      keep x b y (occurs_here x (y ∷ ys)) ne c.0,
      chain_right S S' z y ys x a a' e (λ w. let o : occurs (x ∷ y ∷ ys) w ≤ 1 = once w in omega arith)
          (λ w p q o. keep w p q (omega arith)) turn c.1,
    )

-- the neighbour before the first one changes
pub chain_left : (S S' : ℕ → ℕ → ℕ → Type 0) (z : ℕ) (xs : List ℕ) (b b' a : ℕ) →
    ((y : ℕ) → occurs (z ∷ xs) y ≤ 1) →
    ((y p q : ℕ) → 1 ≤ occurs xs y → y ≢ z → S y p q → S' y p q) → ((q : ℕ) → S z b q → S' z b' q) →
    EachBetween S b (z ∷ xs) a → EachBetween S' b' (z ∷ xs) a
chain_left S S' z xs b b' a once keep turn c = (
  turn (head_or xs a) c.0,
  chain_map S S' xs z a (λ y p q o. keep y p q o (λ e. let o' : 1 ≤ occurs xs z = subst (λ w. 1 ≤ occurs xs w) e o in
      let m : occurs (z ∷ xs) z ≤ 1 = once z in omega (arith, occurs_same z xs))) c.1,
)
