-- A node that splits a row: some frontier of the tree breaks the row.
use Rattle.std.proofs.Common.{◌≡◌, ◌∙◌, ℕ, ◌+◌, ◌≤◌, false, cond, leb, ◌||◌, ◌&&◌, List, [], ◌∷◌, ◌++◌, IsTrue, IsFalse, IsPermutation, refl, sym, ap, subst, inl, inr, arith}
use Rattle.std.proofs.lemmas.Bool.{cases_Bool, both_ways, or_cases, and_parts, leb-true}
use Rattle.std.proofs.lemmas.List.Folds.{concat-append}
use Rattle.std.proofs.lemmas.List.Sorted.{IsPermutation-refl, IsPermutation-cons, IsPermutation-sym, IsPermutation-middle}
use Rattle.std.specs.List.{concat}
use Rattle.column_order.specs.Orders.{has}
use Rattle.column_order.proofs.Lists.{has_head, has_append_left}
use Rattle.pq_tree.specs.Outline.{Outline, Forest, leaf, p_node, q_node, no_tree, tree_and, leaves, leaves_of, IsFrontier, AreFrontiers}
use Rattle.pq_tree.specs.Proper.{count, HasArities, HaveArities}
use Rattle.pq_tree.proofs.Frontiers.{leaves_are_frontier}
use Rattle.pq_tree.specs.Nodes.{meets}
use Rattle.verdict_judge.specs.HoldsWalk.{misses, meeting, resumes, is_gapped, is_split, are_split}
use Rattle.verdict_judge.proofs.HoldsCases.{resumes_at, resumes_whole, gapped_none, gapped_part, gapped_whole}
use Rattle.verdict_judge.proofs.HoldsLists.{Rises, Breaks, misses_has, none_has, misses_cases, meets_left, meets_right, rises_from, rises_left, rises_right, falls_then, then_rises, breaks_left, breaks_right}
use Rattle.verdict_judge.proofs.HoldsFrontiers.{own, own_joined, own_frontiers, Rising, Falling, rising, falling}

pub split_leaf : (row : List ℕ) (a : ℕ) → is_split row (leaf a) ≡ false
unfolding is_split are_split
split_leaf row a = refl

pub split_p : (row : List ℕ) (ts : Forest) → is_split row (p_node ts) ≡ (are_split row ts || (leb 2 (meeting row ts) && misses row (leaves_of ts)))
unfolding is_split are_split
split_p row ts = refl

pub split_q : (row : List ℕ) (ts : Forest) → is_split row (q_node ts) ≡ (are_split row ts || is_gapped row ts)
unfolding is_split are_split
split_q row ts = refl

pub split_none : (row : List ℕ) → are_split row no_tree ≡ false
unfolding is_split are_split
split_none row = refl

pub split_and : (row : List ℕ) (t : Outline) (ts : Forest) → are_split row (tree_and t ts) ≡ (is_split row t || are_split row ts)
unfolding is_split are_split
split_and row t ts = refl

-- a tree has a leaf
record Leaf (t : Outline) : Type 0 where
  column : ℕ
  within : IsTrue (has (leaves t) column)

mutual
  has_leaf : (t : Outline) → HasArities t → Leaf t
  has_leaf (leaf a) h = record { column = a; within = has_head a [] }
  has_leaf (p_node ts) h = let r = have_leaf ts (omega (arith, h.0)) h.1 in record { column = r.0; within = r.1 }
  has_leaf (q_node ts) h = let r = have_leaf ts (omega (arith, h.0)) h.1 in record { column = r.0; within = r.1 }

  have_leaf : (ts : Forest) → 1 ≤ count ts → HaveArities ts → (a : ℕ) × IsTrue (has (leaves_of ts) a)
  have_leaf no_tree l h = absurd (omega arith)
  have_leaf (tree_and t ts) l h = let r : Leaf t = has_leaf t h.0 in (r.column, has_append_left (leaves t) (leaves_of ts) r.column r.within)

none_misses : (row : List ℕ) (t : Outline) → HasArities t → IsFalse (meets row (leaves t)) → IsTrue (misses row (leaves t))
none_misses row t h n = let r : Leaf t = has_leaf t h in misses_has row (leaves t) r.column r.within (none_has row (leaves t) r.column n r.within)

pub meeting_head : (row : List ℕ) (t : Outline) (ts : Forest) → IsTrue (meets row (leaves t)) → meeting row (tree_and t ts) ≡ 1 + meeting row ts
meeting_head row t ts h = ap (λ b. cond {A = ℕ} b 1 0 + meeting row ts) h

pub meeting_tail : (row : List ℕ) (t : Outline) (ts : Forest) → IsFalse (meets row (leaves t)) → meeting row (tree_and t ts) ≡ meeting row ts
meeting_tail row t ts h = let e : meeting row (tree_and t ts) ≡ 0 + meeting row ts = ap (λ b. cond {A = ℕ} b 1 0 + meeting row ts) h in omega (arith, e)

one_meets : (row : List ℕ) (ts : Forest) → 1 ≤ meeting row ts → IsTrue (meets row (concat (own ts)))
one_meets row no_tree l = absurd (omega arith)
one_meets row (tree_and t ts) l =
    elim (cases_Bool (meets row (leaves t))) [
      | inl k ↦ meets_left row (leaves t) (concat (own ts)) k
      | inr k ↦ meets_right row (leaves t) (concat (own ts)) (one_meets row ts (omega (arith, meeting_tail row t ts k)))
    ]

-- the trees in two groups of which the row has a column each
record TwoMeet (row : List ℕ) (ts : Forest) : Type 0 where
  first : List (List ℕ)
  last : List (List ℕ)
  are : own ts ≡ first ++ last
  first_meets : IsTrue (meets row (concat first))
  last_meets : IsTrue (meets row (concat last))

two_meet : (row : List ℕ) (ts : Forest) → 2 ≤ meeting row ts → TwoMeet row ts
two_meet row no_tree l = absurd (omega arith)
two_meet row (tree_and t ts) l =
    elim (cases_Bool (meets row (leaves t))) [
      | inl k ↦
          record {
            first = leaves t ∷ [];
            last = own ts;
            are = refl;
            first_meets = meets_left row (leaves t) [] k;
            last_meets = one_meets row ts (omega (arith, meeting_head row t ts k));
          }
      | inr k ↦
          let r : TwoMeet row ts = two_meet row ts (omega (arith, meeting_tail row t ts k)) in
          record {
            first = leaves t ∷ r.first;
            last = r.last;
            are = ap (λ x. leaves t ∷ x) r.are;
            first_meets = meets_right row (leaves t) (concat r.first) r.first_meets;
            last_meets = r.last_meets;
          }
    ]

-- a frontier that breaks the row
pub record Broken (row : List ℕ) (t : Outline) : Type 0 where
  pub order : List ℕ
  pub frontier : IsFrontier t order
  pub breaks : Breaks row order

-- one frontier of each tree, of which something holds when they are joined
record Lined (P : List ℕ → Type 0) (ts : Forest) : Type 0 where
  orders : List (List ℕ)
  frontiers : AreFrontiers ts orders
  holds : P (concat orders)

-- one tree more before them
lined_later : (P Q : List ℕ → Type 0) (t : Outline) (ts : Forest) → ((f : List ℕ) → P f → Q (leaves t ++ f)) → Lined P ts → Lined Q (tree_and t ts)
lined_later P Q t ts more l = record { orders = leaves t ∷ l.orders; frontiers = (leaves_are_frontier t, l.frontiers); holds = more (concat l.orders) l.holds }

-- frontiers that joined break the row, or rise
abbrev LineBroken : List ℕ → Forest → Type 0
LineBroken row ts = Lined (Breaks row) ts

abbrev LineRising : List ℕ → Forest → Type 0
LineRising row ts = Lined (Rises row) ts

-- the row misses a column of one of the trees
crowded : (row : List ℕ) (ts : Forest) → HaveArities ts → 2 ≤ meeting row ts → IsTrue (misses row (leaves_of ts)) → Broken row (p_node ts)
crowded row no_tree h l m = absurd (omega arith)
crowded row (tree_and t ts) h l m =
    elim (cases_Bool (meets row (leaves t))) [
      | inl k ↦
          let others : IsTrue (meets row (concat (own ts))) = one_meets row ts (omega (arith, meeting_head row t ts k)) in
          elim (cases_Bool (misses row (leaves t))) [
            | inl n ↦
                let r : Falling row t = falling row t k n in
                record {
                  order = r.order ++ concat (own ts);
                  frontier = (r.order ∷ own ts, r.order ∷ own ts, (r.frontier, own_frontiers ts), IsPermutation-refl (r.order ∷ own ts), refl);
                  breaks = falls_then row r.order (concat (own ts)) r.falls others;
                }
            | inr n ↦
                let later : IsTrue (misses row (leaves_of ts)) =
                elim (misses_cases row (leaves t) (leaves_of ts) m) [ inl y ↦ absurd (both_ways (misses row (leaves t)) n y) | inr y ↦ y ] in
                let r : Rising row (p_node ts) = rising row (p_node ts) (ap (meets row) (own_joined ts) ∙ others) later in
                let f : IsFrontier (p_node ts) r.order = r.frontier in
                record {
                  order = leaves t ++ r.order;
                  frontier = (
                    leaves t ∷ f.0,
                    leaves t ∷ f.1,
                    (leaves_are_frontier t, f.2),
                    IsPermutation-cons (leaves t) f.0 f.1 f.3,
                    ap (λ x. leaves t ++ x) f.4,
                  );
                  breaks = then_rises row (leaves t) r.order k r.rises;
                }
          ]
      | inr k ↦
          let w : TwoMeet row ts = two_meet row ts (omega (arith, meeting_tail row t ts k)) in
          let moved : IsPermutation (leaves t ∷ own ts) (w.first ++ leaves t ∷ w.last) =
          subst (λ x. IsPermutation (leaves t ∷ x) (w.first ++ leaves t ∷ w.last)) (sym w.are)
          (IsPermutation-sym (w.first ++ leaves t ∷ w.last) (leaves t ∷ (w.first ++ w.last)) (IsPermutation-middle w.first (leaves t) w.last)) in
          record {
            order = concat (w.first ++ leaves t ∷ w.last);
            frontier = (leaves t ∷ own ts, w.first ++ leaves t ∷ w.last, (leaves_are_frontier t, own_frontiers ts), moved, refl);
            breaks = record {
              front = concat w.first;
              middle = leaves t;
              rest = concat w.last;
              parts = concat-append w.first (leaves t ∷ w.last);
              front_is = w.first_meets;
              middle_is = none_misses row t h.0 k;
              rest_is = w.last_meets;
            };
          }
    ]

resumes_rises : (row : List ℕ) (ts : Forest) → IsTrue (resumes row ts) → LineRising row ts
resumes_rises row no_tree h = absurd (both_ways false refl h)
resumes_rises row (tree_and t ts) h =
    elim (cases_Bool (misses row (leaves t))) [
      | inl n ↦
          elim (resumes_at row t ts n h) [
            | inl m ↦
                let r : Rising row t = rising row t m n in
                record { orders = r.order ∷ own ts; frontiers = (r.frontier, own_frontiers ts); holds = rises_left row r.order (concat (own ts)) r.rises }
            | inr m ↦
                record {
                  orders = own (tree_and t ts);
                  frontiers = own_frontiers (tree_and t ts);
                  holds = rises_from row (leaves t) (concat (own ts)) n (sym (ap (meets row) (own_joined ts)) ∙ m);
                }
          ]
      | inr n ↦ lined_later (Rises row) (Rises row) t ts (λ f r. rises_right row (leaves t) f r) (resumes_rises row ts (sym (resumes_whole row t ts n) ∙ h))
    ]

gap_breaks : (row : List ℕ) (ts : Forest) → IsTrue (is_gapped row ts) → LineBroken row ts
gap_breaks row no_tree h = absurd (both_ways false refl h)
gap_breaks row (tree_and t ts) h =
    elim (cases_Bool (meets row (leaves t))) [
      | inl m ↦
          elim (cases_Bool (misses row (leaves t))) [
            | inl n ↦
                let k : IsTrue (meets row (leaves_of ts)) = sym (gapped_part row t ts m n) ∙ h in
                let r : Falling row t = falling row t m n in
                record {
                  orders = r.order ∷ own ts;
                  frontiers = (r.frontier, own_frontiers ts);
                  holds = falls_then row r.order (concat (own ts)) r.falls (sym (ap (meets row) (own_joined ts)) ∙ k);
                }
            | inr n ↦ lined_later (Rises row) (Breaks row) t ts (λ f r. then_rises row (leaves t) f m r) (resumes_rises row ts (sym (gapped_whole row t ts m n) ∙ h))
          ]
      | inr m ↦ lined_later (Breaks row) (Breaks row) t ts (λ f r. breaks_right row (leaves t) f r) (gap_breaks row ts (sym (gapped_none row t ts m) ∙ h))
    ]

over_p : (row : List ℕ) (ts : Forest) → LineBroken row ts → Broken row (p_node ts)
over_p row ts r = record { order = concat r.orders; frontier = (r.orders, r.orders, r.frontiers, IsPermutation-refl r.orders, refl); breaks = r.holds }

over_q : (row : List ℕ) (ts : Forest) → LineBroken row ts → Broken row (q_node ts)
over_q row ts r = record { order = concat r.orders; frontier = (r.orders, r.frontiers, inl refl); breaks = r.holds }

-- where a node of the tree splits the row, a frontier breaks it
mutual
  pub split_breaks : (row : List ℕ) (t : Outline) → HasArities t → IsTrue (is_split row t) → Broken row t
  split_breaks row (leaf a) h s = absurd (both_ways (is_split row (leaf a)) (split_leaf row a) s)
  split_breaks row (p_node ts) h s =
      elim (or_cases (are_split row ts) (leb 2 (meeting row ts) && misses row (leaves_of ts)) (sym (split_p row ts) ∙ s)) [
        | inl k ↦ over_p row ts (splits_break row ts h.1 k)
        | inr k ↦
            let e = and_parts (leb 2 (meeting row ts)) (misses row (leaves_of ts)) k in
            crowded row ts h.1 (leb-true 2 (meeting row ts) e.0) e.1
      ]
  split_breaks row (q_node ts) h s =
      elim (or_cases (are_split row ts) (is_gapped row ts) (sym (split_q row ts) ∙ s)) [
        | inl k ↦ over_q row ts (splits_break row ts h.1 k)
        | inr k ↦ over_q row ts (gap_breaks row ts k)
      ]

  splits_break : (row : List ℕ) (ts : Forest) → HaveArities ts → IsTrue (are_split row ts) → LineBroken row ts
  splits_break row no_tree h s = absurd (both_ways (are_split row no_tree) (split_none row) s)
  splits_break row (tree_and t ts) h s =
      elim (or_cases (is_split row t) (are_split row ts) (sym (split_and row t ts) ∙ s)) [
        | inl k ↦
            let r : Broken row t = split_breaks row t h.0 k in
            record { orders = r.order ∷ own ts; frontiers = (r.frontier, own_frontiers ts); holds = breaks_left row r.order (concat (own ts)) r.breaks }
        | inr k ↦ lined_later (Breaks row) (Breaks row) t ts (λ f r. breaks_right row (leaves t) f r) (splits_break row ts h.1 k)
      ]
