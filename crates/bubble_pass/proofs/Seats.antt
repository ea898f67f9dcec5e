-- What a look says of the place of a node.
use Rattle.std.proofs.Common.{◌||◌, ◌≡◌, ◌≢◌, ◌⊎◌, inl, inr, ℕ, ◌≤◌, true, false, cond, eqb, List, [], ◌∷◌, ◌++◌, length, Option, Some, None, refl, sym, ap, subst, ◌∙◌, arith, eq-eqb}
use Rattle.std.proofs.lemmas.Bool.{cases_eq, cases_lt, ne_eqb}
use Rattle.std.proofs.lemmas.List.{append_assoc}
use Rattle.arena_model.proofs.Slots.{child_used, not_none, parent_used, child_at}
use Rattle.arena_model.specs.declared.Shape.{Shape}
use Rattle.arena_model.specs.declared.Shape.TheVariants.{Leaf, P, Q}
use Rattle.pq_arena.specs.declared.node.NodeId.{NodeId}
use Rattle.pq_arena.specs.declared.node.NodeView.{NodeView}
use Rattle.arena_model.specs.ChildLists.{none}
use Rattle.column_order.specs.Orders.{occurs}
use Rattle.arena_model.specs.Layout.{Layout, shape_at, children_at, times_child, IsInUse, IsLayout, MayHaveChildren}
use Rattle.arena_model.specs.ChildLists.{head_or, last_or, end_parent}
use Rattle.pq_arena.specs.Looks.{node_named, ShowsNode}
use Rattle.column_order.proofs.Lists.{occurs-append}
use Rattle.arena_model.proofs.Lists.{last_or-append, occurs_here, occurs_last, SplitAt, split_at}
use Rattle.arena_model.proofs.Slots.{some_inj}
use Rattle.arena_model.proofs.Paths.{one_parent}
use Rattle.arena_model.proofs.Slots.{placed_in}
use Rattle.bubble_pass.specs.Climb.{Inner, Beside, before, behind}
use Rattle.bubble_pass.specs.Moves.{near0, near1, past, beyond_in}

pub data Seat (f : Layout) (n : ℕ) (view : NodeView) : Type 0 where
  seat_top : times_child f.slots n ≡ 0 → Seat f n view
  seat_ring : (p : ℕ) (us vs : List ℕ) → shape_at f p ≡ Some P → children_at f p ≡ us ++ n ∷ vs → Seat f n view
  seat_run : (q : ℕ) (us vs : List ℕ) → shape_at f q ≡ Some Q → children_at f q ≡ us ++ n ∷ vs → Seat f n view

by_shape : (f : Layout) (m n : ℕ) (view : NodeView) (s : Option Shape) → shape_at f m ≡ s → MayHaveChildren s (children_at f m) → 1 ≤ occurs (children_at f m) n → Seat f n view
by_shape f m n view None e k o = absurd (let z : 1 ≤ occurs [] n = subst (λ ks. 1 ≤ occurs ks n) k o in omega arith)
by_shape f m n view (Some (Leaf a)) e k o = absurd (let z : 1 ≤ occurs [] n = subst (λ ks. 1 ≤ occurs ks n) k o in omega arith)
by_shape f m n view (Some P) e k o = let s : SplitAt (children_at f m) n = split_at (children_at f m) n o in seat_ring m s.us s.vs e s.is
by_shape f m n view (Some Q) e k o = let s : SplitAt (children_at f m) n = split_at (children_at f m) n o in seat_run m s.us s.vs e s.is

pub seat : (f : Layout) (n : ℕ) (view : NodeView) → IsLayout f → Seat f n view
seat f n view h = elim (cases_lt 0 (times_child f.slots n)) [
  | inl l ↦ let r = placed_in f.slots n l in by_shape f r.0 n view (shape_at f r.0) refl (h.children_fit r.0) r.1
  | inr l ↦ seat_top (omega arith)
]

pub same_node : (a b : NodeId) → a.index ≡ b.index → a ≡ b
same_node a b e = ap (λ i. let n : NodeId = record { index = i } in n) e

pub named_is : (x : ℕ) → x ≢ none → node_named x ≡ Some (let n : NodeId = record { index = x } in n)
named_is x ne = ap (λ b. cond b None (Some (let n : NodeId = record { index = x } in n))) (ne_eqb x none ne)

pub named_none : node_named none ≡ None
named_none = ap (λ b. cond b None (Some (let n : NodeId = record { index = none } in n))) (eq-eqb none none refl)

pub of_named : (x : ℕ) (y : NodeId) → node_named x ≡ Some y → x ≡ y.index
of_named x y e = elim (cases_eq x none) [
  | inl q ↦ absurd (let z : None ≡ Some y = sym named_none ∙ sym (ap node_named q) ∙ e in cc)
  | inr ne ↦ ap (λ (n : NodeId). n.index) (some_inj _ _ (sym (named_is x ne) ∙ e))
]

-- the node above, where it is shown
pub parent_is : (f : Layout) (n : ℕ) (view : NodeView) (p : NodeId) → IsLayout f → ShowsNode f n view → view.parent ≡ Some p → 1 ≤ occurs (children_at f p.index) n
parent_is f n view p h s e = elim (seat f n view h) [
  | seat_top t ↦ absurd (let k = (s.top t).0 in let z : None ≡ Some p = sym k ∙ e in cc)
  | seat_ring m us vs sh ks ↦ subst (λ z. 1 ≤ occurs (children_at f z) n) (of_named m p (sym (s.ring m us vs sh ks).0 ∙ e)) (child_at f m n us vs ks)
  | seat_run q us vs sh ks ↦ at_end q (eqb (last_or us none) none || eqb (head_or vs none) none) (sym (s.run q us vs sh ks).0 ∙ e) (child_at f q n us vs ks)
]
  where
    at_end : (q : ℕ) (b : _) → node_named (cond b q none) ≡ Some p → 1 ≤ occurs (children_at f q) n → 1 ≤ occurs (children_at f p.index) n
    at_end q true e o = subst (λ z. 1 ≤ occurs (children_at f z) n) (of_named q p e) o
    at_end q false e o = absurd (let z : None ≡ Some p = sym named_none ∙ e in cc)

pub record Last (us : List ℕ) (z : ℕ) : Type 0 where
  pub front : List ℕ
  pub is : us ≡ front ++ z ∷ []

pub last_split : (u : ℕ) (us : List ℕ) → Last (u ∷ us) (last_or us u)
last_split u [] = record { front = []; is = refl }
last_split u (v ∷ vs) = let r : Last (v ∷ vs) (last_or vs v) = last_split v vs in record { front = u ∷ r.front; is = ap (λ z. u ∷ z) r.is }

left_beside : (f : Layout) (q n : ℕ) (us vs : List ℕ) (y : NodeId) → shape_at f q ≡ Some Q → children_at f q ≡ us ++ n ∷ vs → node_named (last_or us none) ≡ Some y → Beside f n y.index
left_beside f q n [] vs y sh ks e = absurd (let z : None ≡ Some y = sym named_none ∙ e in cc)
left_beside f q n (u ∷ us) vs y sh ks e =
    let r : Last (u ∷ us) (last_or us u) = last_split u us in
    let i : last_or us u ≡ y.index = of_named (last_or us u) y e in
    subst (λ z. Beside f n z) i
    (behind q r.front vs sh (ks ∙ ap (λ z. z ++ n ∷ vs) r.is ∙ append_assoc r.front (last_or us u ∷ []) (n ∷ vs)))

right_beside : (f : Layout) (q n : ℕ) (us vs : List ℕ) (y : NodeId) → shape_at f q ≡ Some Q → children_at f q ≡ us ++ n ∷ vs → node_named (head_or vs none) ≡ Some y → Beside f n y.index
right_beside f q n us [] y sh ks e = absurd (let z : None ≡ Some y = sym named_none ∙ e in cc)
right_beside f q n us (v ∷ vs) y sh ks e = subst (λ z. Beside f n z) (of_named v y e) (before q us vs sh ks)

-- the neighbours in view
pub data Near (near : List (Option NodeId)) (y : Option NodeId) : Type 0 where
  first : near0 near ≡ y → Near near y
  second : near1 near ≡ y → Near near y

pub near_beside : (f : Layout) (n q : ℕ) (us vs : List ℕ) (view : NodeView) (y : NodeId) → ShowsNode f n view → shape_at f q ≡ Some Q → children_at f q ≡ us ++ n ∷ vs →
    Near view.near (Some y) → Beside f n y.index
near_beside f n q us vs view y s sh ks (first e) = elim (s.run q us vs sh ks).1 [
  | inl i ↦ left_beside f q n us vs y sh ks (sym (ap near0 i) ∙ e)
  | inr i ↦ right_beside f q n us vs y sh ks (sym (ap near0 i) ∙ e)
]
near_beside f n q us vs view y s sh ks (second e) = elim (s.run q us vs sh ks).1 [
  | inl i ↦ right_beside f q n us vs y sh ks (sym (ap near1 i) ∙ e)
  | inr i ↦ left_beside f q n us vs y sh ks (sym (ap near1 i) ∙ e)
]

pub beside_near : (f : Layout) (n : ℕ) (view : NodeView) (y : NodeId) → ShowsNode f n view → Beside f n y.index → y.index ≢ none → Near view.near (Some y)
beside_near f n view y s (before q us vs sh ks) ne = elim (s.run q us (y.index ∷ vs) sh ks).1 [
  | inl i ↦ second (ap near1 i ∙ named_is y.index ne)
  | inr i ↦ first (ap near0 i ∙ named_is y.index ne)
]
beside_near f n view y s (behind q us vs sh ks) ne =
    let l : last_or (us ++ y.index ∷ []) none ≡ y.index = last_or-append us (y.index ∷ []) none in
    let k : children_at f q ≡ (us ++ y.index ∷ []) ++ n ∷ vs = ks ∙ sym (append_assoc us (y.index ∷ []) (n ∷ vs)) in
    elim (s.run q (us ++ y.index ∷ []) vs sh k).1 [
      | inl i ↦ first (ap near0 i ∙ ap node_named l ∙ named_is y.index ne)
      | inr i ↦ second (ap near1 i ∙ ap node_named l ∙ named_is y.index ne)
    ]

-- the neighbour that is not the one before
pub beyond_is : (near : List (Option NodeId)) (b y : NodeId) → Near near (Some b) → Near near (Some y) → y.index ≢ b.index → beyond_in near b ≡ Some y
beyond_is near b y (first e) (first d) ne = absurd (ne (ap (λ (n : NodeId). n.index) (some_inj y b (sym d ∙ e))))
beyond_is near b y (second e) (second d) ne = absurd (ne (ap (λ (n : NodeId). n.index) (some_inj y b (sym d ∙ e))))
beyond_is near b y (first e) (second d) ne = ap (λ o. past o (near1 near) b) e ∙ ap (λ t. cond t (near1 near) (Some b)) (eq-eqb b.index b.index refl) ∙ d
beyond_is near b y (second e) (first d) ne = ap (λ o. past o (near1 near) b) d ∙ ap (λ t. cond t (near1 near) (Some y)) (ne_eqb y.index b.index ne)

pub beyond_near : (near : List (Option NodeId)) (b : NodeId) → Near near (beyond_in near b)
beyond_near near b = at (near0 near) refl
  where
    at : (o : Option NodeId) → near0 near ≡ o → Near near (past o (near1 near) b)
    at None e = first e
    at (Some y) e = elim (eqb y.index b.index) as (λ t. Near near (cond t (near1 near) (Some y))) [ true ↦ second refl | false ↦ first e ]

pub beside_kids : (f : Layout) (x y : ℕ) → Beside f x y → (q : ℕ) × (shape_at f q ≡ Some Q) × (1 ≤ occurs (children_at f q) x) × (1 ≤ occurs (children_at f q) y)
beside_kids f x y (before q us vs sh ks) = (
  q,
  sh,
  child_at f q x us (y ∷ vs) ks,
  child_at f q y (us ++ x ∷ []) vs (ks ∙ sym (append_assoc us (x ∷ []) (y ∷ vs))),
)
beside_kids f x y (behind q us vs sh ks) = (
  q,
  sh,
  child_at f q x (us ++ y ∷ []) vs (ks ∙ sym (append_assoc us (y ∷ []) (x ∷ vs))),
  child_at f q y us (x ∷ vs) ks,
)

-- a neighbour is a child of the same node
pub beside_parent : (f : Layout) (x y m : ℕ) → IsLayout f → Beside f x y → 1 ≤ occurs (children_at f m) y → 1 ≤ occurs (children_at f m) x
beside_parent f x y m h b o = let r = beside_kids f x y b in subst (λ z. 1 ≤ occurs (children_at f z) x) (one_parent f r.0 m y h r.3 o) r.2

pub beside_back : (f : Layout) (x y : ℕ) → Beside f x y → Beside f y x
beside_back f x y (before q us vs sh ks) = behind q us vs sh ks
beside_back f x y (behind q us vs sh ks) = before q us vs sh ks

in_ring : (f : Layout) (n p : ℕ) (us vs : List ℕ) (view : NodeView) (y : NodeId) → ShowsNode f n view → shape_at f p ≡ Some P → children_at f p ≡ us ++ n ∷ vs →
    Near view.near (Some y) → 1 ≤ occurs (children_at f p) y.index
in_ring f n p us vs view y s sh ks (first e) =
    subst (λ z. 1 ≤ occurs z y.index) (sym ks)
    (subst (λ z. 1 ≤ occurs (us ++ n ∷ vs) z) (of_named (head_or vs (head_or us n)) y (sym (ap near0 (s.ring p us vs sh ks).1) ∙ e)) (fore us vs))
  where
    fore : (us vs : List ℕ) → 1 ≤ occurs (us ++ n ∷ vs) (head_or vs (head_or us n))
    fore [] [] = occurs_here n []
    fore (u ∷ us) [] = omega (arith, occurs_here u us, occurs-append (u ∷ us) (n ∷ []) u)
    fore us (v ∷ vs) = omega (arith, occurs_here v vs, occurs-append us (n ∷ v ∷ vs) v)
in_ring f n p us vs view y s sh ks (second e) =
    subst (λ z. 1 ≤ occurs z y.index) (sym ks)
    (subst (λ z. 1 ≤ occurs (us ++ n ∷ vs) z) (of_named (last_or us (last_or vs n)) y (sym (ap near1 (s.ring p us vs sh ks).1) ∙ e)) (aft us vs))
  where
    aft : (us vs : List ℕ) → 1 ≤ occurs (us ++ n ∷ vs) (last_or us (last_or vs n))
    aft [] vs = occurs_last vs n
    aft (u ∷ us) vs = omega (arith, occurs_last us u, occurs-append (u ∷ us) (n ∷ vs) (last_or us u))

pub no_near : (near : List (Option NodeId)) (y : NodeId) → near ≡ None ∷ None ∷ [] → Near near (Some y) → ⊥
no_near near y e (first i) = let z : None ≡ Some y = sym (ap near0 e) ∙ i in cc
no_near near y e (second i) = let z : None ≡ Some y = sym (ap near1 e) ∙ i in cc

pub near_used : (f : Layout) (n : ℕ) (view : NodeView) (y : NodeId) → IsLayout f → ShowsNode f n view → Near view.near (Some y) → IsInUse f y.index
near_used f n view y h s e = elim (seat f n view h) [
  | seat_top t ↦ absurd (no_near view.near y ((s.top t).1) e)
  | seat_ring p us vs sh ks ↦ child_used f p y.index h (in_ring f n p us vs view y s sh ks e)
  | seat_run q us vs sh ks ↦ let r = beside_kids f n y.index (near_beside f n q us vs view y s sh ks e) in child_used f r.0 y.index h r.3
]

p_not_q : P ≡ Q → ⊥
p_not_q e = cc

-- a neighbour that is an inner child of a Q-node stands beside it there
pub inner_near : (f : Layout) (n : ℕ) (view : NodeView) (y : NodeId) → IsLayout f → ShowsNode f n view → Near view.near (Some y) → Inner f y.index → Beside f n y.index
inner_near f n view y h s e i = elim (seat f n view h) [
  | seat_top t ↦ absurd (no_near view.near y ((s.top t).1) e)
  | seat_ring p us vs sh ks ↦ absurd (p_not_q (some_inj P Q (sym sh ∙ subst (λ z. shape_at f z ≡ Some Q)
      (one_parent f i.q p y.index h (child_at f i.q y.index i.us i.vs i.kids_are) (in_ring f n p us vs view y s sh ks e)) i.is_q)))
  | seat_run q us vs sh ks ↦ near_beside f n q us vs view y s sh ks e
]

-- where no parent is shown, it is an inner child of a Q-node or no child
none_named : (x : ℕ) → node_named x ≡ None → x ≡ none
none_named x e = elim (cases_eq x none) [ inl q ↦ q | inr ne ↦ absurd (let z = sym (named_is x ne) ∙ e in cc) ]

pub no_end : (q : ℕ) (us vs : List ℕ) → q ≢ none → node_named (end_parent q (last_or us none) (head_or vs none)) ≡ None → (1 ≤ length us) × (1 ≤ length vs)
no_end q [] vs ne e = absurd (ne (none_named q (ap (λ b. node_named (cond (b || eqb (head_or vs none) none) q none)) (sym (eq-eqb none none refl)) ∙ e)))
no_end q (u ∷ us) [] ne e = absurd (ne (none_named q (ap (λ b. node_named (cond b q none)) (sym (or_true (eqb (last_or us u) none))) ∙ e)))
  where
    or_true : (b : _) → (b || eqb none none) ≡ true
    or_true true = refl
    or_true false = eq-eqb none none refl
no_end q (u ∷ us) (v ∷ vs) ne e = (omega arith, omega arith)

pub no_parent : (f : Layout) (n : ℕ) (view : NodeView) → IsLayout f → ShowsNode f n view → view.parent ≡ None → Inner f n ⊎ ((times_child f.slots n ≡ 0) × (view.near ≡ None ∷ None ∷ []))
no_parent f n view h s e = elim (seat f n view h) [
  | seat_top t ↦ inr (t, (s.top t).1)
  | seat_ring p us vs sh ks ↦ absurd (not_none f p h (parent_used f p n (child_at f p n us vs ks) h) (none_named p (sym (s.ring p us vs sh ks).0 ∙ e)))
  | seat_run q us vs sh ks ↦
      let r = no_end q us vs (not_none f q h (parent_used f q n (child_at f q n us vs ks) h)) (sym (s.run q us vs sh ks).0 ∙ e) in
      inl (record { q = q; us = us; vs = vs; is_q = sh; kids_are = ks; left = r.0; right = r.1 })
]
