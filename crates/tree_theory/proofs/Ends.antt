-- Columns of different children of the root stand as the first and the last column of some frontier do.
use Rattle.std.proofs.Common.{◌≡◌, ◌⊎◌, ◌∙◌, ℕ, ◌≤◌, false, List, [], ◌∷◌, ◌++◌, length, IsTrue, IsFalse, IsPermutation, refl, sym, ap, subst, inl, inr, arith, append-nil, append_assoc, length-append}
use Rattle.std.proofs.lemmas.Bool.{both_ways, false_from_ne_true}
use Rattle.std.proofs.lemmas.List.Sorted.{IsPermutation-sym, IsPermutation-cons, IsPermutation-trans, IsPermutation-middle, IsPermutation-to_front}
use Rattle.std.specs.List.{concat}
use Rattle.row_model.specs.declared.graph.Pair.{Pair}
use Rattle.row_model.specs.Graph.{pair}
use Rattle.column_order.specs.Orders.{has, occurs, place}
use Rattle.column_order.proofs.Lists.{has_head, has_append_left, has_append_right, has_append_cases, occurs-append, apart}
use Rattle.pq_tree.specs.Outline.{Outline, Forest, leaf, p_node, q_node, no_tree, tree_and, leaves, leaves_of, IsFrontier}
use Rattle.pq_tree.specs.Forests.{count}
use Rattle.pq_tree.specs.Proper.{HasArities, HaveArities}
use Rattle.pq_tree.specs.Nodes.{children}
use Rattle.pq_tree.proofs.Forests.{some_leaf, some_leaf_of, leaves_count}
use Rattle.tree_theory.specs.Tied.{IsForward}
use Rattle.tree_theory.proofs.Frontiers.{frontier_occurs, concat-append}
use Rattle.tree_theory.proofs.Bound.{IsClosed, AreClosed, IsBound}
use Rattle.tree_theory.proofs.Exact.{order_rises}
use Rattle.tree_theory.proofs.Alike.{Alike, frontier_bound}
use Rattle.tree_theory.proofs.Mirror.{leaves_are_frontier, lists, lists_are}

-- no column stands twice
abbrev pub IsOnce : List ℕ → Type 0
IsOnce xs = (a : ℕ) → occurs xs a ≤ 1

pub once_left : (xs ys : List ℕ) → IsOnce (xs ++ ys) → IsOnce xs
once_left xs ys once a = omega (arith, once a, occurs-append xs ys a)

pub once_right : (xs ys : List ℕ) → IsOnce (xs ++ ys) → IsOnce ys
once_right xs ys once a = omega (arith, once a, occurs-append xs ys a)

-- in every frontier of the tree the two pairs stand alike
abbrev pub IsForced : Outline → Pair → Pair → Type 0
IsForced t v w = (f : List ℕ) → IsFrontier t f → Alike (place f) v w

pub bound_at : (t : Outline) → IsOnce (leaves t) → (f : List ℕ) → IsFrontier t f → IsBound (Alike (place f)) t
bound_at t once f h = frontier_bound (place f) t f h (order_rises f (λ a. omega (arith, frontier_occurs t f a h, once a)))

-- the ends of a list
last_in : (xs : List ℕ) (y : ℕ) (ys m : List ℕ) (d : ℕ) → xs ++ y ∷ ys ≡ m ++ d ∷ [] → IsTrue (has (y ∷ ys) d)
last_in [] y ys m d e = subst (λ l. IsTrue (has l d)) (sym e) (has_append_right m (d ∷ []) d (has_head d []))
last_in (x ∷ xs) y ys [] d e =
    let none : xs ++ y ∷ ys ≡ [] = cc in
    absurd (omega (arith, length-append xs (y ∷ ys), ap length none))
last_in (x ∷ xs) y ys (z ∷ m) d e =
    let tails : xs ++ y ∷ ys ≡ m ++ d ∷ [] = cc in
    last_in xs y ys m d tails

snoc : (y : ℕ) (ys : List ℕ) → (m : List ℕ) × (d : ℕ) × (y ∷ ys ≡ m ++ d ∷ [])
snoc y [] = ([], y, refl)
snoc y (z ∷ zs) = let r = snoc z zs in (y ∷ r.0, r.1, ap (λ l. y ∷ l) r.2)

ended_by : (xs : List ℕ) (b : ℕ) → IsTrue (has xs b) → (m : List ℕ) × (d : ℕ) × (xs ≡ m ++ d ∷ [])
ended_by [] b h = absurd (both_ways false refl h)
ended_by (x ∷ xs) b h = snoc x xs

begun_by : (xs : List ℕ) (a : ℕ) → IsTrue (has xs a) → (c : ℕ) × (m : List ℕ) × (xs ≡ c ∷ m)
begun_by [] a h = absurd (both_ways false refl h)
begun_by (x ∷ xs) a h = (x, xs, refl)

-- the first and the last column of two or more trees go forward in them
pub ends_forward : (ts : Forest) → 2 ≤ count ts → HaveArities ts → (c : ℕ) (m : List ℕ) (d : ℕ) → leaves_of ts ≡ c ∷ (m ++ d ∷ []) → IsForward ts (pair c d)
ends_forward no_tree n h c m d e = absurd (omega arith)
ends_forward (tree_and t ts) n h c m d e =
    let x = some_leaf t h.0 in
    let y = some_leaf_of ts (omega arith) h.1 in
    let xs = begun_by (leaves t) x.0 x.1 in
    let ys = begun_by (leaves_of ts) y.0 y.1 in
    let all : (xs.0 ∷ xs.1) ++ (ys.0 ∷ ys.1) ≡ c ∷ (m ++ d ∷ []) = ap (λ l. l ++ (ys.0 ∷ ys.1)) (sym xs.2) ∙ ap (λ l. leaves t ++ l) (sym ys.2) ∙ e in
    let heads : xs.0 ≡ c = cc in
    inl (
      subst (λ l. IsTrue (has l c)) (sym xs.2) (subst (λ k. IsTrue (has (xs.0 ∷ xs.1) k)) heads (has_head xs.0 xs.1)),
      subst (λ l. IsTrue (has l d)) (sym ys.2) (last_in (xs.0 ∷ xs.1) ys.0 ys.1 (c ∷ m) d all),
    )

-- a frontier with its ends, like which a and b stand in every frontier
pub record Ended (t : Outline) (a b : ℕ) : Type 0 where
  pub order : List ℕ
  pub front : ℕ
  pub middle : List ℕ
  pub rear : ℕ
  pub is : order ≡ front ∷ (middle ++ rear ∷ [])
  pub frontier : IsFrontier t order
  pub forced : IsForced t (pair a b) (pair front rear)

-- x is one of the trees
abbrev pub IsChild : Outline → Forest → Type 0
IsChild x no_tree = ⊥
IsChild x (tree_and t ts) = (x ≡ t) ⊎ IsChild x ts

closed_child : (R : Pair → Pair → Type 0) (l : List ℕ) (x : Outline) (ts : Forest) → IsChild x ts → AreClosed R l ts → IsClosed R l (leaves x)
closed_child R l x no_tree h c = absurd h
closed_child R l x (tree_and t ts) h c =
    elim h [
      | inl e ↦ subst (λ y. IsClosed R l (leaves y)) (sym e) c.0
      | inr k ↦ closed_child R l x ts k c.1
    ]

child_within : (x : Outline) (ts : Forest) → IsChild x ts → (a : ℕ) → IsTrue (has (leaves x) a) → IsTrue (has (leaves_of ts) a)
child_within x no_tree h a k = absurd h
child_within x (tree_and t ts) h a k =
    elim h [
      | inl e ↦ has_append_left (leaves t) (leaves_of ts) a (subst (λ y. IsTrue (has (leaves y) a)) e k)
      | inr n ↦ has_append_right (leaves t) (leaves_of ts) a (child_within x ts n a k)
    ]

-- a child with the column b may stand last
record Last (ts : Forest) (b : ℕ) : Type 0 where
  child : Outline
  is_child : IsChild child ts
  has_it : IsTrue (has (leaves child) b)
  others : List (List ℕ)
  moved : IsPermutation (lists ts) (others ++ leaves child ∷ [])

last : (ts : Forest) (b : ℕ) → IsTrue (has (leaves_of ts) b) → Last ts b
last no_tree b h = absurd (both_ways false refl h)
last (tree_and t ts) b h =
    elim (has_append_cases (leaves t) (leaves_of ts) b h) [
      | inl k ↦
          record {
            child = t;
            is_child = inl refl;
            has_it = k;
            others = lists ts;
            moved = IsPermutation-sym (lists ts ++ leaves t ∷ []) (leaves t ∷ lists ts) (IsPermutation-to_front (lists ts) (leaves t));
          }
      | inr k ↦
          let r : Last ts b = last ts b k in
          record {
            child = r.child;
            is_child = inr r.is_child;
            has_it = r.has_it;
            others = leaves t ∷ r.others;
            moved = IsPermutation-cons (leaves t) (lists ts) (r.others ++ leaves r.child ∷ []) r.moved;
          }
    ]

-- a child with a may stand first, and one with b last
record Outer (ts : Forest) (a b : ℕ) : Type 0 where
  first : Outline
  last : Outline
  is_first : IsChild first ts
  is_last : IsChild last ts
  has_first : IsTrue (has (leaves first) a)
  has_last : IsTrue (has (leaves last) b)
  others : List (List ℕ)
  moved : IsPermutation (lists ts) (leaves first ∷ (others ++ leaves last ∷ []))
  disjoint : (d : ℕ) → IsTrue (has (leaves first) d) → IsFalse (has (leaves last) d)

outer : (ts : Forest) → IsOnce (leaves_of ts) → (a b : ℕ) → IsForward ts (pair a b) → Outer ts a b
outer no_tree once a b h = absurd h
outer (tree_and t ts) once a b h =
    elim h [
      | inl k ↦
          let l : Last ts b = last ts b k.1 in
          record {
            first = t;
            last = l.child;
            is_first = inl refl;
            is_last = inr l.is_child;
            has_first = k.0;
            has_last = l.has_it;
            others = l.others;
            moved = IsPermutation-cons (leaves t) (lists ts) (l.others ++ leaves l.child ∷ []) l.moved;
            disjoint =
                λ d x. false_from_ne_true (has (leaves l.child) d)
                (λ y. both_ways (has (leaves_of ts) d) (apart (leaves t) (leaves_of ts) d (once d) x) (child_within l.child ts l.is_child d y));
          }
      | inr k ↦
          let r : Outer ts a b = outer ts (once_right (leaves t) (leaves_of ts) once) a b k in
          let rest : List (List ℕ) = r.others ++ leaves r.last ∷ [] in
          record {
            first = r.first;
            last = r.last;
            is_first = inr r.is_first;
            is_last = inr r.is_last;
            has_first = r.has_first;
            has_last = r.has_last;
            others = leaves t ∷ r.others;
            moved =
                IsPermutation-trans (leaves t ∷ lists ts) (leaves t ∷ leaves r.first ∷ rest) (leaves r.first ∷ leaves t ∷ rest)
                (IsPermutation-cons (leaves t) (lists ts) (leaves r.first ∷ rest) r.moved)
                (IsPermutation-middle (leaves t ∷ []) (leaves r.first) rest);
            disjoint = r.disjoint;
          }
    ]

-- a list between two, whose first begins with c and whose last ends in d
ends_joined : (xs ys zs : List ℕ) (c : ℕ) (l m : List ℕ) (d : ℕ) → xs ≡ c ∷ l → zs ≡ m ++ d ∷ [] → xs ++ (ys ++ (zs ++ [])) ≡ c ∷ ((l ++ (ys ++ m)) ++ d ∷ [])
ends_joined xs ys zs c l m d e k =
    ap (λ x. x ++ (ys ++ (zs ++ []))) e ∙
    ap (λ z. c ∷ (l ++ (ys ++ z))) (append-nil zs ∙ k) ∙
    ap (λ z. c ∷ (l ++ z)) (sym (append_assoc ys m (d ∷ []))) ∙
    ap (λ z. c ∷ z) (sym (append_assoc l (ys ++ m) (d ∷ [])))

p_ended : (ts : Forest) → IsOnce (leaves_of ts) → (a b : ℕ) → IsForward ts (pair a b) → Ended (p_node ts) a b
p_ended ts once a b h =
    let o : Outer ts a b = outer ts once a b h in
    let x = begun_by (leaves o.first) a o.has_first in
    let z = ended_by (leaves o.last) b o.has_last in
    let c : ℕ = x.0 in
    let d : ℕ = z.1 in
    let gs : List (List ℕ) = leaves o.first ∷ (o.others ++ leaves o.last ∷ []) in
    let in_first : IsTrue (has (leaves o.first) c) = subst (λ l. IsTrue (has l c)) (sym x.2) (has_head c x.1) in
    let in_last : IsTrue (has (leaves o.last) d) = subst (λ l. IsTrue (has l d)) (sym z.2) (has_append_right z.0 (d ∷ []) d (has_head d [])) in
    let no_b : IsFalse (has (leaves o.first) b) = false_from_ne_true (has (leaves o.first) b) (λ y. both_ways (has (leaves o.last) b) (o.disjoint b y) o.has_last) in
    record {
      order = concat gs;
      front = c;
      middle = x.1 ++ (concat o.others ++ z.0);
      rear = d;
      is = ap (λ l. leaves o.first ++ l) (concat-append o.others (leaves o.last ∷ [])) ∙ ends_joined (leaves o.first) (concat o.others) (leaves o.last) c x.1 z.0 d x.2 z.2;
      frontier = (lists ts, gs, lists_are ts, o.moved, refl);
      forced =
          λ f k.
          let closed : AreClosed (Alike (place f)) (leaves_of ts) ts = (bound_at (p_node ts) once f k).0 in
          let one : Alike (place f) (pair a b) (pair c b) =
          closed_child (Alike (place f)) (leaves_of ts) o.first ts o.is_first closed a c b o.has_first in_first (child_within o.last ts o.is_last b o.has_last) no_b in
          let two : Alike (place f) (pair b c) (pair d c) =
          closed_child (Alike (place f)) (leaves_of ts) o.last ts o.is_last closed b d c o.has_last in_last (child_within o.first ts o.is_first c in_first) (o.disjoint c in_first) in
          (one.0 ∙ two.1, one.1 ∙ two.0);
    }

q_ended : (ts : Forest) → 3 ≤ count ts → HaveArities ts → IsOnce (leaves_of ts) → (a b : ℕ) → IsForward ts (pair a b) → Ended (q_node ts) a b
q_ended ts n k once a b h = ends (leaves_of ts) refl
  where
    ends : (xs : List ℕ) → leaves_of ts ≡ xs → Ended (q_node ts) a b
    ends [] e = absurd (omega (arith, leaves_count ts k, ap length e))
    ends (x ∷ []) e = absurd (omega (arith, leaves_count ts k, ap length e))
    ends (x ∷ y ∷ ys) e =
        let r = snoc y ys in
        let is : leaves_of ts ≡ x ∷ (r.0 ++ r.1 ∷ []) = e ∙ ap (λ l. x ∷ l) r.2 in
        record {
          order = leaves_of ts;
          front = x;
          middle = r.0;
          rear = r.1;
          is = is;
          frontier = leaves_are_frontier (q_node ts);
          forced = λ f w. (bound_at (q_node ts) once f w).0 (pair a b) (pair x r.1) h (ends_forward ts (omega arith) k x r.0 r.1 is);
        }

pub ended : (t : Outline) → HasArities t → IsOnce (leaves t) → (a b : ℕ) → IsForward (children t) (pair a b) → Ended t a b
ended (leaf x) k once a b h = absurd h
ended (p_node ts) k once a b h = p_ended ts once a b h
ended (q_node ts) k once a b h = q_ended ts k.0 k.1 once a b h
