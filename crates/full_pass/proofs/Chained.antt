-- The chains of labelled children of P-nodes.
use Rattle.std.proofs.Common.{◌≡◌, ◌≢◌, inl, inr, ℕ, zero, suc, ◌+◌, ◌≤◌, Bool, true, false, cond, ◌∷◌, length, Some, refl, sym, ap, subst, ◌∙◌, arith}
use Rattle.std.proofs.lemmas.Bool.{cases_eq}
use Rattle.column_order.specs.Orders.{occurs}
use Rattle.arena_model.specs.declared.Shape.TheVariants.{P, Q}
use Rattle.arena_model.specs.Layout.{Layout, shape_at, children_at, times_child, IsLayout}
use Rattle.arena_model.proofs.Lists.{occurs_here, occurs_same, occurs_other}
use Rattle.arena_model.proofs.Slots.{children_times}
use Rattle.full_pass.specs.Tallies.{chained}
use Rattle.full_pass.specs.Passing.{Chains}
use Rattle.full_pass.proofs.Marks.{OneMore}
use Rattle.full_pass.proofs.Shapes.{shapes_apart}
use Rattle.full_pass.proofs.Steps.{no_child}

pub chained_length : (n : ℕ) (next : ℕ → ℕ) (x : ℕ) → length (chained n next x) ≡ n
chained_length zero next x = refl
chained_length (suc n) next x = ap suc (chained_length n next (next x))

-- a chain that does not hold x stays where only what follows x changes
chained_same : (n : ℕ) (next next' : ℕ → ℕ) (x y : ℕ) → occurs (chained n next y) x ≡ 0 → ((z : ℕ) → z ≢ x → next' z ≡ next z) → chained n next' y ≡ chained n next y
chained_same zero next next' x y o same = refl
chained_same (suc n) next next' x y o same =
    let ne : y ≢ x = (λ e. let i : 1 ≤ occurs (y ∷ chained n next (next y)) x = subst (λ z. 1 ≤ occurs (y ∷ chained n next (next y)) z) e (occurs_here y (chained n next (next y))) in omega arith) in
    ap (λ z. y ∷ chained n next' z) (same y ne) ∙ ap (λ z. y ∷ z) (chained_same n next next' x (next y) (omega arith) same)

chained_by : (n : ℕ) (next next' : ℕ → ℕ) (y : ℕ) → ((z : ℕ) → next' z ≡ next z) → chained n next' y ≡ chained n next y
chained_by zero next next' y same = refl
chained_by (suc n) next next' y same = ap (λ z. y ∷ chained n next' z) (same y) ∙ ap (λ z. y ∷ z) (chained_by n next next' (next y) same)

cond_zero : (b : Bool) → cond {A = ℕ} b 0 0 ≡ 0
cond_zero true = refl
cond_zero false = refl

pub no_chains : (f : Layout) (l : ℕ → Bool) (h first next : ℕ → ℕ) → ((x : ℕ) → l x ≡ false) → ((x : ℕ) → h x ≡ 0) → Chains f l h first next
no_chains f l h first next none_yet no_hits p k sp =
    ap (λ z. occurs (chained z next (first p)) k) (no_hits p) ∙ sym (ap (λ b. cond b (occurs (children_at f p) k) 0) (none_yet k))

-- what is counted of a node that lacks the child x stays
marked_same : (f : Layout) (l l' : ℕ → Bool) (x p k : ℕ) → OneMore l l' x → occurs (children_at f p) x ≡ 0 →
    cond (l k) (occurs (children_at f p) k) 0 ≡ cond (l' k) (occurs (children_at f p) k) 0
marked_same f l l' x p k more none = elim (cases_eq k x) [
  | inl e ↦
      let z : occurs (children_at f p) k ≡ 0 = subst (λ y. occurs (children_at f p) y ≡ 0) (sym e) none in
      ap (λ n. cond (l k) n 0) z ∙ cond_zero (l k) ∙ sym (cond_zero (l' k)) ∙ sym (ap (λ n. cond (l' k) n 0) z)
  | inr ne ↦ ap (λ b. cond b (occurs (children_at f p) k) 0) (sym (more.others k ne))
]

-- a child of a Q-node is labelled
pub chains_run : (f : Layout) (l l' : ℕ → Bool) (h h' first first' next next' : ℕ → ℕ) (x q : ℕ) → IsLayout f → shape_at f q ≡ Some Q →
    1 ≤ occurs (children_at f q) x → OneMore l l' x → Chains f l h first next →
    ((y : ℕ) → h' y ≡ h y) → ((y : ℕ) → first' y ≡ first y) → ((y : ℕ) → next' y ≡ next y) → Chains f l' h' first' next'
chains_run f l l' h h' first first' next next' x q layout sq o more was hits firsts nexts p k sp =
    let ne : p ≢ q = shapes_apart f p q sp sq in
    ap (λ z. occurs (chained z next' (first' p)) k) (hits p) ∙ ap (λ z. occurs (chained (h p) next' z) k) (firsts p)
    ∙ ap (λ z. occurs z k) (chained_by (h p) next next' (first p) nexts) ∙ was p k sp ∙ marked_same f l l' x p k more (no_child f q p x layout o ne)

-- what the labelling of the child x of the P-node m does to the chains
pub record Hung (h h' first first' next next' : ℕ → ℕ) (x m : ℕ) : Type 0 where
  pub here : h' m ≡ h m + 1
  pub others : (y : ℕ) → y ≢ m → h' y ≡ h y
  pub first_is : first' m ≡ x
  pub first_others : (y : ℕ) → y ≢ m → first' y ≡ first y
  pub next_is : next' x ≡ first m
  pub next_others : (y : ℕ) → y ≢ x → next' y ≡ next y

-- the chain of m has x in front
front : (h h' first first' next next' : ℕ → ℕ) (x m : ℕ) → Hung h h' first first' next next' x m → occurs (chained (h m) next (first m)) x ≡ 0 →
    chained (h' m) next' (first' m) ≡ x ∷ chained (h m) next (first m)
front h h' first first' next next' x m d none =
    ap (λ z. chained z next' (first' m)) (let e : h' m ≡ suc (h m) = (let i : h' m ≡ h m + 1 = d.here in omega arith) in e) ∙
    ap (λ z. chained (suc (h m)) next' z) d.first_is ∙ ap (λ z. x ∷ chained (h m) next' z) d.next_is ∙
    ap (λ z. x ∷ z) (chained_same (h m) next next' x (first m) none d.next_others)

-- a child of a P-node is labelled
pub chains_ring : (f : Layout) (l l' : ℕ → Bool) (h h' first first' next next' : ℕ → ℕ) (x m : ℕ) → IsLayout f → shape_at f m ≡ Some P →
    1 ≤ occurs (children_at f m) x → OneMore l l' x → Chains f l h first next → Hung h h' first first' next next' x m → Chains f l' h' first' next'
chains_ring f l l' h h' first first' next next' x m layout sm o more was d p k sp =
    let none : (y : ℕ) → shape_at f y ≡ Some P → occurs (chained (h y) next (first y)) x ≡ 0 =
    (λ y sy. was y x sy ∙ ap (λ b. cond b (occurs (children_at f y) x) 0) more.before) in
    elim (cases_eq p m) [
      | inl e ↦ subst (λ y. occurs (chained (h' y) next' (first' y)) k ≡ cond (l' k) (occurs (children_at f y) k) 0) (sym e)
          (ap (λ z. occurs z k) (front h h' first first' next next' x m d (none m sm)) ∙ by (none m sm))
      | inr ne ↦
          ap (λ z. occurs (chained z next' (first' p)) k) (d.others p ne) ∙ ap (λ z. occurs (chained (h p) next' z) k) (d.first_others p ne)
          ∙ ap (λ z. occurs z k) (chained_same (h p) next next' x (first p) (none p sp) d.next_others) ∙ was p k sp
          ∙ marked_same f l l' x p k more (no_child f m p x layout o ne)
    ]
  where
    by : occurs (chained (h m) next (first m)) x ≡ 0 → occurs (x ∷ chained (h m) next (first m)) k ≡ cond (l' k) (occurs (children_at f m) k) 0
    by none = elim (cases_eq k x) [
      | inl e ↦
          let one : occurs (children_at f m) x ≡ 1 =
          (let a : occurs (children_at f m) x ≤ times_child f.slots x = children_times f m x in
          let b : times_child f.slots x ≤ 1 = layout.once x in omega arith) in
          let c : occurs (x ∷ chained (h m) next (first m)) x ≡ 1 = omega (arith, occurs_same x (chained (h m) next (first m))) in
          subst (λ z. occurs (x ∷ chained (h m) next (first m)) z ≡ cond (l' z) (occurs (children_at f m) z) 0) (sym e)
          (c ∙ sym one ∙ sym (ap (λ b. cond b (occurs (children_at f m) x) 0) more.after))
      | inr ne ↦ occurs_other x k (chained (h m) next (first m)) ne ∙ was m k sm ∙ ap (λ b. cond b (occurs (children_at f m) k) 0) (sym (more.others k ne))
    ]
