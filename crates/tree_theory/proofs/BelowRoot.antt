-- A node below the pertinent root, and what its template makes of it.
use Rattle.std.proofs.Common.{◌≡◌, ◌⊎◌, ◌∙◌, ◌+◌, ℕ, List, IsTrue, IsFalse, sym, ap, ap₂, subst, inl, inr, arith}
use Rattle.std.proofs.lemmas.Bool.{both_ways}
use Rattle.row_model.specs.declared.graph.Pair.{Pair}
use Rattle.column_order.specs.Orders.{has, occurs}
use Rattle.row_model.specs.Graph.{pair}
use Rattle.column_order.proofs.Lists.{occurs-append, occurs_from_has, has_from_occurs}
use Rattle.pq_tree.specs.Outline.{Outline, Forest, p_node, leaves, leaves_of}
use Rattle.tree_theory.specs.Tied.{IsForward}
use Rattle.tree_theory.proofs.Bound.{IsClosed, IsInLine, IsBound, AreBound, IsPairEq, closed_through}
use Rattle.tree_theory.specs.Templates.{star}
use Rattle.pq_tree.specs.Forests.{join}
use Rattle.pq_tree.proofs.Forests.{join_assoc, leaves_of-join, has_join_left, has_join_right}
use Rattle.tree_theory.proofs.Lines.{IsParted, leaves_of-star, to_star, from_star, forward_cases, forward_right, forward_across, star_forward, bound_join, bound_left, bound_right, star_bound, star_closed, star_each, closed_within, parted_closed, closed_left, closed_right, parted_bound, parted_bound_left, parted_bound_right, parted_occurs, has_parted_cases}

-- For a column s of the row outside x: any two columns of x are related pairs with s, and s stands to an empty column of x
-- as a full one does.
pub record IsOutside (R : Pair → Pair → Type 0) (row x : List ℕ) (s : ℕ) : Type 0 where
  pub closed : (a b : ℕ) → IsTrue (has x a) → IsTrue (has x b) → R (pair a s) (pair b s)
  pub rowed : (e f : ℕ) → IsTrue (has x e) → IsFalse (has row e) → IsTrue (has x f) → IsTrue (has row f) → R (pair f e) (pair s e)

-- no column of the tree is in the row; each is
abbrev pub IsEmpty : List ℕ → Outline → Type 0
IsEmpty row t = (a : ℕ) → IsTrue (has (leaves t) a) → IsFalse (has row a)

abbrev pub IsFull : List ℕ → Outline → Type 0
IsFull row t = (a : ℕ) → IsTrue (has (leaves t) a) → IsTrue (has row a)

-- so for each of the trees
abbrev pub AreEmpty : List ℕ → Forest → Type 0
AreEmpty row ts = (a : ℕ) → IsTrue (has (leaves_of ts) a) → IsFalse (has row a)

abbrev pub AreFull : List ℕ → Forest → Type 0
AreFull row ts = (a : ℕ) → IsTrue (has (leaves_of ts) a) → IsTrue (has row a)

-- The partial [es fs] may stand in the place of the node t, which isn't the pertinent root: it has the same columns, empty ones in es
-- and full ones in fs, and some of each. For every equivalence R of pairs, t is bound where the partial stands in line and
-- is bound; and where t is bound and s is a column of the row outside t, each pair that goes forward in the partial is
-- related to the pair of any column of t with s, and each tree of the partial is bound.
pub record Treated (row : List ℕ) (t : Outline) (es fs : Forest) : Type 1 where
  pub same : (a : ℕ) → occurs (leaves_of (join es fs)) a ≡ occurs (leaves t) a
  pub empty : AreEmpty row es
  pub full : AreFull row fs
  pub some_empty : (a : ℕ) × IsTrue (has (leaves_of es) a)
  pub some_full : (a : ℕ) × IsTrue (has (leaves_of fs) a)
  pub up : (R : Pair → Pair → Type 0) → IsPairEq R → IsInLine R (join es fs) → AreBound R (join es fs) → IsBound R t
  pub down_line : (R : Pair → Pair → Type 0) → IsPairEq R → (s : ℕ) → IsOutside R row (leaves t) s → IsBound R t →
      (v : Pair) → IsForward (join es fs) v → (a : ℕ) → IsTrue (has (leaves t) a) → R v (pair a s)
  pub down_each : (R : Pair → Pair → Type 0) → IsPairEq R → (s : ℕ) → IsOutside R row (leaves t) s → IsBound R t → AreBound R (join es fs)

-- an empty column with a full one is related to any column of the node with s
pub towards : (R : Pair → Pair → Type 0) → IsPairEq R → (row x : List ℕ) (s : ℕ) → IsOutside R row x s → (e f a : ℕ) →
    IsTrue (has x e) → IsFalse (has row e) → IsTrue (has x f) → IsTrue (has row f) → IsTrue (has x a) → R (pair e f) (pair a s)
towards R eq row x s o e f a xe re xf rf xa =
    eq.join (pair e f) (pair e s) (pair a s) (eq.flip (pair f e) (pair s e) (o.rowed e f xe re xf rf)) (o.closed e a xe xa)

module _ (R : Pair → Pair → Type 0) (eq : IsPairEq R) where
  -- in a line the columns of the first part, of the last part and of any part are closed
  pub first_closed : (l : List ℕ) (xs ys : Forest) → ((d : ℕ) → IsTrue (has l d) → IsTrue (has (leaves_of xs) d) ⊎ IsTrue (has (leaves_of ys) d)) →
      IsInLine R (join xs ys) → IsClosed R l (leaves_of xs)
  first_closed l xs ys c h a b d xa xb ld xd =
      elim (c d ld) [
        | inl k ↦ absurd (both_ways (has (leaves_of xs) d) xd k)
        | inr k ↦ h (pair a d) (pair b d) (forward_across xs ys (pair a d) xa k) (forward_across xs ys (pair b d) xb k)
      ]

  pub last_closed : (l : List ℕ) (xs ys : Forest) → ((d : ℕ) → IsTrue (has l d) → IsTrue (has (leaves_of xs) d) ⊎ IsTrue (has (leaves_of ys) d)) →
      IsInLine R (join xs ys) → IsClosed R l (leaves_of ys)
  last_closed l xs ys c h a b d ya yb ld yd =
      elim (c d ld) [
        | inl k ↦ eq.flip (pair d a) (pair d b) (h (pair d a) (pair d b) (forward_across xs ys (pair d a) k ya) (forward_across xs ys (pair d b) k yb))
        | inr k ↦ absurd (both_ways (has (leaves_of ys) d) yd k)
      ]

  pub middle_closed : (l : List ℕ) (xs ys zs : Forest) →
      ((d : ℕ) → IsTrue (has l d) → IsTrue (has (leaves_of xs) d) ⊎ (IsTrue (has (leaves_of ys) d) ⊎ IsTrue (has (leaves_of zs) d))) →
      IsInLine R (join xs (join ys zs)) → IsClosed R l (leaves_of ys)
  middle_closed l xs ys zs c h a b d ya yb ld yd =
      let la : IsTrue (has (leaves_of (join ys zs)) a) = has_join_left ys zs a ya in
      let lb : IsTrue (has (leaves_of (join ys zs)) b) = has_join_left ys zs b yb in
      elim (c d ld) [
        | inl k ↦ eq.flip (pair d a) (pair d b) (h (pair d a) (pair d b) (forward_across xs (join ys zs) (pair d a) k la) (forward_across xs (join ys zs) (pair d b) k lb))
        | inr k ↦ elim k [
          | inl m ↦ absurd (both_ways (has (leaves_of ys) d) yd m)
          | inr m ↦
              h (pair a d) (pair b d)
              (forward_right xs (join ys zs) (pair a d) (forward_across ys zs (pair a d) ya m))
              (forward_right xs (join ys zs) (pair b d) (forward_across ys zs (pair b d) yb m))
        ]
      ]

  pub end_closed : (l : List ℕ) (xs ys zs : Forest) →
      ((d : ℕ) → IsTrue (has l d) → IsTrue (has (leaves_of xs) d) ⊎ (IsTrue (has (leaves_of ys) d) ⊎ IsTrue (has (leaves_of zs) d))) →
      IsInLine R (join xs (join ys zs)) → IsClosed R l (leaves_of zs)
  end_closed l xs ys zs c h =
      last_closed l (join xs ys) zs
      (λ d ld. elim (c d ld) [
        | inl k ↦ inl (has_join_left xs ys d k)
        | inr k ↦ elim k [ inl m ↦ inl (has_join_right xs ys d m) | inr m ↦ inr m ]
      ])
      (subst (IsInLine R) (sym (join_assoc xs ys zs)) h)

  pub closed_alike : (l x y : List ℕ) → ((a : ℕ) → has x a ≡ has y a) → IsClosed R l x → IsClosed R l y
  closed_alike l x y e h a b d ya yb ld yd = h a b d (e a ∙ ya) (e b ∙ yb) ld (e d ∙ yd)

pub outside_within : (R : Pair → Pair → Type 0) (row x y : List ℕ) (s : ℕ) → ((a : ℕ) → IsTrue (has y a) → IsTrue (has x a)) → IsOutside R row x s → IsOutside R row y s
outside_within R row x y s sub o =
    record {
      closed = λ a b ya yb. o.closed a b (sub a ya) (sub b yb);
      rowed = λ e f ye re yf rf. o.rowed e f (sub e ye) re (sub f yf) rf;
    }

-- P with empty and full children: [P*(E) P*(F)]
module _ (row : List ℕ) (ts es fs : Forest) (parted : IsParted ts es fs) (empty : AreEmpty row es) (full : AreFull row fs)
    (some_e : (a : ℕ) × IsTrue (has (leaves_of es) a)) (some_f : (a : ℕ) × IsTrue (has (leaves_of fs) a)) where
  in_ts_left : (a : ℕ) → IsTrue (has (leaves_of es) a) → IsTrue (has (leaves_of ts) a)
  in_ts_left a h = has_from_occurs (leaves_of ts) a (omega (arith, parted_occurs parted a, occurs_from_has (leaves_of es) a h))

  in_ts_right : (a : ℕ) → IsTrue (has (leaves_of fs) a) → IsTrue (has (leaves_of ts) a)
  in_ts_right a h = has_from_occurs (leaves_of ts) a (omega (arith, parted_occurs parted a, occurs_from_has (leaves_of fs) a h))

  p3_up : (R : Pair → Pair → Type 0) → IsPairEq R → IsInLine R (join (star es) (star fs)) → AreBound R (join (star es) (star fs)) → IsBound R (p_node ts)
  p3_up R eq line b =
      let c : (d : ℕ) → IsTrue (has (leaves_of ts) d) → IsTrue (has (leaves_of (star es)) d) ⊎ IsTrue (has (leaves_of (star fs)) d) =
      λ d h. elim (has_parted_cases parted d h) [ inl k ↦ inl (to_star es d k) | inr k ↦ inr (to_star fs d k) ] in
      let be : AreBound R (star es) = bound_left R (star es) (star fs) b in
      let bf : AreBound R (star fs) = bound_right R (star es) (star fs) b in (
        parted_closed R (leaves_of ts) parted
            (closed_through R (leaves_of ts) (leaves_of es) (rw leaves_of-star at (first_closed R eq (leaves_of ts) (star es) (star fs) c line)) es (λ d h. h) (star_closed R es be))
            (closed_through R (leaves_of ts) (leaves_of fs) (rw leaves_of-star at (last_closed R eq (leaves_of ts) (star es) (star fs) c line)) fs (λ d h. h) (star_closed R fs bf)),
        parted_bound R parted (star_each R es be) (star_each R fs bf),
      )

  p3_each : (R : Pair → Pair → Type 0) → IsBound R (p_node ts) → AreBound R (join (star es) (star fs))
  p3_each R b =
      bound_join R (star es) (star fs)
      (star_bound R es (closed_within R (leaves_of ts) (leaves_of es) es in_ts_left (closed_left R (leaves_of ts) parted b.0)) (parted_bound_left R parted b.1))
      (star_bound R fs (closed_within R (leaves_of ts) (leaves_of fs) fs in_ts_right (closed_right R (leaves_of ts) parted b.0)) (parted_bound_right R parted b.1))

  pub p3_parted : Treated row (p_node ts) (star es) (star fs)
  p3_parted =
      record {
        same = λ a. ap (λ l. occurs l a) (leaves_of-join (star es) (star fs)) ∙
            occurs-append (leaves_of (star es)) (leaves_of (star fs)) a ∙
            ap₂ (λ m n. occurs m a + occurs n a) (leaves_of-star es) (leaves_of-star fs) ∙
            sym (parted_occurs parted a);
        empty = λ a h. empty a (from_star es a h);
        full = λ a h. full a (from_star fs a h);
        some_empty = (some_e.0, to_star es some_e.0 some_e.1);
        some_full = (some_f.0, to_star fs some_f.0 some_f.1);
        up = p3_up;
        down_line = λ R eq s o b v h a ta.
            elim (forward_cases (star es) (star fs) v h) [
              | inl k ↦ absurd (star_forward es v k)
              | inr k ↦ elim k [
                | inl l ↦
                    let e : IsTrue (has (leaves_of es) v.a) = from_star es v.a l.0 in
                    let f : IsTrue (has (leaves_of fs) v.b) = from_star fs v.b l.1 in
                    towards R eq row (leaves_of ts) s o v.a v.b a (in_ts_left v.a e) (empty v.a e) (in_ts_right v.b f) (full v.b f) ta
                | inr l ↦ absurd (star_forward fs v l)
              ]
            ];
        down_each = λ R eq s o b. p3_each R b;
      }
