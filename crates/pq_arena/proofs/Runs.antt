-- The children of a child of a Q-node stand in its place.
use Rattle.std.proofs.Common.{◌≡◌, ◌≢◌, ◌⊎◌, inl, inr, ℕ, ◌+◌, ◌≤◌, true, false, cond, eqb, ◌||◌, List, [], ◌∷◌, ◌++◌, length, reverse, refl, sym, ap, subst, ◌∙◌, arith, eq-eqb, eqb-true}
use Rattle.pq_arena.specs.declared.node.Link.{Link}
use Rattle.arena_model.proofs.Lists.{occurs_here, occurs_same, occurs_last, reverse_cons, last_reverse, parent_left, parent_right, parent_inner}
use Rattle.arena_model.specs.ChildLists.{head_or, last_or, end_parent, none}
use Rattle.column_order.proofs.Lists.{occurs-append}
use Rattle.column_order.specs.Orders.{occurs}
use Rattle.pq_arena.proofs.Between.{chain_split, chain_join, chain_right, chain_left}
use Rattle.pq_arena.specs.StandsFor.{EachBetween, IsInRun}
use Rattle.pq_arena.specs.Wiring.{seat, link, redirected}

-- two neighbours in no stated direction
abbrev pub Between : Link → ℕ → ℕ → ℕ → Type 0
Between l k p a = (l ≡ seat k p a) ⊎ (l ≡ seat k a p)

pub turned_between : (l : Link) (k p a : ℕ) → Between l k p a → Between l k a p
turned_between l k p a (inl e) = inr e
turned_between l k p a (inr e) = inl e

-- one neighbour changes; no word is needed on the other one
pub redirect : (l : Link) (k p a a' : ℕ) → Between l k p a → Between (redirected l a a') k p a'
redirect l k p a a' (inl e) =
    (elim (eqb p a) as (λ b. eqb p a ≡ b → Between (redirected l a a') k p a') [
      | true ↦ λ q. inr (ap (λ m. redirected m a a') e ∙ ap (λ b. seat k (cond b a' p) (cond b a a')) q ∙ ap (λ z. seat k a' z) (sym (eqb-true p a q)))
      | false ↦ λ q. inl (ap (λ m. redirected m a a') e ∙ ap (λ b. seat k (cond b a' p) (cond b a a')) q)
    ]) refl
redirect l k p a a' (inr e) = inr (ap (λ m. redirected m a a') e ∙ ap (λ b. seat k (cond b a' a) (cond b p a')) (eq-eqb a a refl))

pub between_parent : (l : Link) (k k' p a : ℕ) → k ≡ k' → Between l k p a → Between l k' p a
between_parent l k k' p a e h = subst (λ z. Between l z p a) e h

-- the writes of splice, node by node, where `child` stands between us and vs, and its children are e, w and ws
pub record Splices (ls ls' : List Link) (q child e g : ℕ) (us vs inner : List ℕ) : Type 0 where
  pub left : 1 ≤ length us → link ls' (last_or us none) ≡ redirected (link ls (last_or us none)) child e
  pub right : 1 ≤ length vs → link ls' (head_or vs none) ≡ redirected (link ls (head_or vs none)) child g
  pub first : link ls' e ≡ record (redirected (link ls e) none (last_or us none)) { parent = cond (eqb (last_or us none) none) q none }
  pub last : link ls' g ≡ record (redirected (link ls g) none (head_or vs none)) { parent = cond (eqb (head_or vs none) none) q none }
  pub same_left : (x : ℕ) → 1 ≤ occurs us x → x ≢ last_or us none → link ls' x ≡ link ls x
  pub same_right : (x : ℕ) → 1 ≤ occurs vs x → x ≢ head_or vs none → link ls' x ≡ link ls x
  pub same_inner : (x : ℕ) → 1 ≤ occurs inner x → x ≢ e → x ≢ g → link ls' x ≡ link ls x

with_parent : Link → ℕ → Link
with_parent l k = record l { parent = k }

reparent : (l : Link) (k k' p a : ℕ) → Between l k p a → Between (record l { parent = k' }) k' p a
reparent l k k' p a (inl e) = inl (ap (λ (z : Link). let r : Link = record z { parent = k' } in r) e)
reparent l k k' p a (inr e) = inr (ap (λ (z : Link). let r : Link = record z { parent = k' } in r) e)

-- the inner children but the first
inner_run : (ls ls' : List Link) (q child r x b : ℕ) (xs : List ℕ) → b ≢ none → ((y : ℕ) → 1 ≤ occurs (x ∷ xs) y → y ≢ none) →
    ((y : ℕ) → occurs (x ∷ xs) y ≤ 1) →
    link ls' (last_or xs x) ≡ record (redirected (link ls (last_or xs x)) none r) { parent = cond (eqb r none) q none } →
    ((y : ℕ) → 1 ≤ occurs (x ∷ xs) y → y ≢ last_or xs x → link ls' y ≡ link ls y) →
    EachBetween (IsInRun ls child) b (x ∷ xs) none → EachBetween (IsInRun ls' q) b (x ∷ xs) r
inner_run ls ls' q child r x b [] nb node_named once last same c = (
  subst (λ l. Between l (end_parent q b r) b r) (sym last)
      (between_parent _ (cond (eqb r none) q none) (end_parent q b r) b r (sym (parent_left q b r nb))
      (reparent (redirected (link ls x) none r) (end_parent child b none) (cond (eqb r none) q none) b r (redirect (link ls x) (end_parent child b none) b none r c.0))),
  tt,
)
inner_run ls ls' q child r x b (y ∷ ys) nb node_named once last same c =
    let ny : y ≢ none = node_named y (omega (arith, occurs_here y ys)) in
    let nx : x ≢ none = node_named x (occurs_here x (y ∷ ys)) in
    let ne : x ≢ last_or ys y = (λ e. let k : 1 ≤ occurs (y ∷ ys) x = subst (λ z. 1 ≤ occurs (y ∷ ys) z) (sym e) (occurs_last ys y) in
    let o : occurs (x ∷ y ∷ ys) x ≤ 1 = once x in omega (arith, occurs_same x (y ∷ ys))) in (
      subst (λ l. Between l (end_parent q b y) b y) (sym (same x (occurs_here x (y ∷ ys)) ne))
          (between_parent (link ls x) (end_parent child b y) (end_parent q b y) b y (parent_inner child b y nb ny ∙ sym (parent_inner q b y nb ny)) c.0),
      inner_run ls ls' q child r y x ys nx (λ z o. node_named z (omega arith)) (λ z. let o : occurs (x ∷ y ∷ ys) z ≤ 1 = once z in omega arith)
          last (λ z o. same z (omega arith)) c.1,
    )

pub spliced_run : (ls ls' : List Link) (q child e w : ℕ) (ws us vs : List ℕ) →
    Splices ls ls' q child e (last_or ws w) us vs (e ∷ w ∷ ws) →
    ((x : ℕ) → occurs (us ++ child ∷ vs) x + occurs (e ∷ w ∷ ws) x ≤ 1) →
    ((x : ℕ) → 1 ≤ occurs (us ++ child ∷ vs) x + occurs (e ∷ w ∷ ws) x → x ≢ none) →
    EachBetween (IsInRun ls q) none (us ++ child ∷ vs) none → EachBetween (IsInRun ls child) none (e ∷ w ∷ ws) none →
    EachBetween (IsInRun ls' q) none (us ++ (e ∷ w ∷ ws ++ vs)) none
spliced_run ls ls' q child e w ws us vs s once node_named run inner =
    let g : ℕ = last_or ws w in
    let l : ℕ = last_or us none in
    let r : ℕ = head_or vs none in
    let parts = chain_split (IsInRun ls q) us (child ∷ vs) none none run in
    let c_named : child ≢ none = node_named child (omega (arith, occurs-append us (child ∷ vs) child, occurs_here child vs)) in
    let e_named : e ≢ none = node_named e (omega (arith, occurs_here e (w ∷ ws))) in
    let w_named : w ≢ none = node_named w (omega (arith, occurs_here w ws)) in
    let g_named : g ≢ none = node_named g (omega (arith, occurs_last ws w)) in
    let once_us : (x : ℕ) → occurs us x ≤ 1 = (λ x. let o : occurs (us ++ child ∷ vs) x + occurs (e ∷ w ∷ ws) x ≤ 1 = once x in omega (arith, occurs-append us (child ∷ vs) x)) in
    let once_vs : (x : ℕ) → occurs vs x ≤ 1 = (λ x. let o : occurs (us ++ child ∷ vs) x + occurs (e ∷ w ∷ ws) x ≤ 1 = once x in omega (arith, occurs-append us (child ∷ vs) x)) in
    let once_ws : (x : ℕ) → occurs (w ∷ ws) x ≤ 1 = (λ x. let o : occurs (us ++ child ∷ vs) x + occurs (e ∷ w ∷ ws) x ≤ 1 = once x in omega arith) in
    let e_off : occurs (w ∷ ws) e ≡ 0 = (let o : occurs (us ++ child ∷ vs) e + occurs (e ∷ w ∷ ws) e ≤ 1 = once e in omega (arith, occurs_same e (w ∷ ws))) in
    let us_run : EachBetween (IsInRun ls' q) none us e = left us c_named e_named once_us s.left s.same_left parts.0 in
    let vs_run : EachBetween (IsInRun ls' q) g vs none = right vs g c_named g_named once_vs s.right s.same_right parts.1.1 in
    let e_run : IsInRun ls' q e l w =
    subst (λ z. Between z (end_parent q l w) l w) (sym s.first)
    (between_parent _ (cond (eqb l none) q none) (end_parent q l w) l w (sym (parent_right q l w w_named))
    (reparent (redirected (link ls e) none l) (end_parent child none w) (cond (eqb l none) q none) l w
    (turned_between _ (end_parent child none w) w l (redirect (link ls e) (end_parent child none w) w none l (turned_between (link ls e) (end_parent child none w) none w inner.0))))) in
    let ws_run : EachBetween (IsInRun ls' q) e (w ∷ ws) r =
    inner_run ls ls' q child r w e ws e_named (λ y o. node_named y (omega arith)) once_ws s.last
    (λ y o ne. s.same_inner y (omega arith) (λ d. let k : 1 ≤ occurs (w ∷ ws) e = subst (λ z. 1 ≤ occurs (w ∷ ws) z) d o in omega arith) ne) inner.1 in
    chain_join (IsInRun ls' q) us (e ∷ w ∷ ws ++ vs) none none us_run
    (chain_join (IsInRun ls' q) (e ∷ w ∷ ws) vs l none (e_run, ws_run) vs_run)
  where
    left : (us : List ℕ) → child ≢ none → e ≢ none → ((x : ℕ) → occurs us x ≤ 1) →
        (1 ≤ length us → link ls' (last_or us none) ≡ redirected (link ls (last_or us none)) child e) →
        ((x : ℕ) → 1 ≤ occurs us x → x ≢ last_or us none → link ls' x ≡ link ls x) →
        EachBetween (IsInRun ls q) none us child → EachBetween (IsInRun ls' q) none us e
    left [] cn en once at same c = tt
    left (u ∷ us) cn en once at same c =
        chain_right (IsInRun ls q) (IsInRun ls' q) (last_or us u) u us none child e refl once
        (λ y p a o ne h. subst (λ z. Between z (end_parent q p a) p a) (sym (same y o ne)) h)
        (λ p h. subst (λ z. Between z (end_parent q p e) p e) (sym (at (omega arith)))
        (between_parent _ (end_parent q p child) (end_parent q p e) p e (parent_right q p child cn ∙ sym (parent_right q p e en))
        (redirect (link ls (last_or us u)) (end_parent q p child) p child e h))) c

    right : (vs : List ℕ) (g : ℕ) → child ≢ none → g ≢ none → ((x : ℕ) → occurs vs x ≤ 1) →
        (1 ≤ length vs → link ls' (head_or vs none) ≡ redirected (link ls (head_or vs none)) child g) →
        ((x : ℕ) → 1 ≤ occurs vs x → x ≢ head_or vs none → link ls' x ≡ link ls x) →
        EachBetween (IsInRun ls q) child vs none → EachBetween (IsInRun ls' q) g vs none
    right [] g cn gn once at same c = tt
    right (v ∷ vs) g cn gn once at same c =
        chain_left (IsInRun ls q) (IsInRun ls' q) v vs child g none once
        (λ y p a o ne h. subst (λ z. Between z (end_parent q p a) p a) (sym (same y (omega arith) ne)) h)
        (λ a h. subst (λ z. Between z (end_parent q g a) g a) (sym (at (omega arith)))
        (between_parent _ (end_parent q child a) (end_parent q g a) g a (parent_left q child a cn ∙ sym (parent_left q g a gn))
        (turned_between _ (end_parent q child a) a g (redirect (link ls v) (end_parent q child a) a child g (turned_between (link ls v) (end_parent q child a) child a h))))) c

or_turned : (a b : _) → (a || b) ≡ (b || a)
or_turned true true = refl
or_turned true false = refl
or_turned false true = refl
or_turned false false = refl

pub in_run_back : (ls : List Link) (q x b a : ℕ) → IsInRun ls q x b a → IsInRun ls q x a b
in_run_back ls q x b a h =
    between_parent (link ls x) (end_parent q b a) (end_parent q a b) a b (ap (λ t. cond t q none) (or_turned (eqb b none) (eqb a none)))
    (turned_between (link ls x) (end_parent q b a) b a h)

pub run_back : (ls : List Link) (q : ℕ) (ks : List ℕ) (b a : ℕ) → EachBetween (IsInRun ls q) b ks a → EachBetween (IsInRun ls q) a (reverse ks) b
run_back ls q [] b a c = tt
run_back ls q (x ∷ xs) b a c =
    subst (λ z. EachBetween (IsInRun ls q) a z b) (sym (reverse_cons x xs))
    (chain_join (IsInRun ls q) (reverse xs) (x ∷ []) a b (run_back ls q xs x a c.1)
    (subst (λ z. IsInRun ls q x z b) (sym (last_reverse xs a)) (in_run_back ls q x b (head_or xs a) c.0), tt))
