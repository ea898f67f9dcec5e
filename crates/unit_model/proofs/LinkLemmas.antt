-- Lists in which each number has the one before it.
use Rattle.std.proofs.Common.{◌≡◌, ◌≢◌, ◌∙◌, ℕ, zero, suc, ◌+◌, ◌-◌, ◌<◌, ◌≤◌, cond, eqb, List, [], ◌∷◌, length, get_or, set, IsTrue, false, true, refl, sym, ap, subst, inl, inr, arith, get_or-set_same, get_or-set_other, eq-eqb}
use Rattle.std.proofs.lemmas.Bool.{both_ways, cases_eq, cases_lt, ne_eqb}
use Rattle.std.proofs.lemmas.List.{length-set, get_or_default}
use Rattle.column_order.specs.Orders.{has, occurs, place}
use Rattle.column_order.proofs.Lists.{has_cases, has_head, has_tail, has_at, at_place, place_at, place-inj, place_head, occurs_from_has, has_from_occurs}
use Rattle.unit_model.specs.Models.{at_vertex}
use Rattle.unit_model.specs.Rule.{put_before}
use Rattle.unit_model.specs.Drawing.{IsLinked, IsLinkedList, IsNumbered}
use Rattle.unit_model.proofs.PutLemmas.{Lacks, put_head, put_tail, put_length, put_occurs, put_has_old, put_has_cases, put_after_it}

-- the number of a vertex after that of one was written
pub vertex_written : (xs : List ℕ) (v y : ℕ) → 1 ≤ v → v ≤ length xs → at_vertex (set xs (v - 1) y) v ≡ y
vertex_written xs v y l u = get_or-set_same xs (v - 1) y 0 (omega arith)

pub vertex_kept : (xs : List ℕ) (v w y : ℕ) → 1 ≤ v → 1 ≤ w → w ≢ v → at_vertex (set xs (v - 1) y) w ≡ at_vertex xs w
vertex_kept xs v w y l u n = get_or-set_other xs (v - 1) (w - 1) y 0 (λ e. n (omega arith))

linked_same : (b c : List ℕ) (prev : ℕ) (xs : List ℕ) → ((x : ℕ) → IsTrue (has xs x) → at_vertex c x ≡ at_vertex b x) → IsLinked b prev xs → IsLinked c prev xs
linked_same b c prev [] same h = tt
linked_same b c prev (x ∷ xs) same h = (same x (has_head x xs) ∙ h.0, linked_same b c x xs (λ y t. same y (has_tail x y xs t)) h.1)

-- a number is put directly before another
linked_put : (b c : List ℕ) (prev v u : ℕ) (xs : List ℕ) → IsTrue (has xs u) → Lacks xs v → ((a : ℕ) → occurs xs a ≤ 1) → ((x : ℕ) → IsTrue (has xs x) → 1 ≤ x) →
    at_vertex c v ≡ at_vertex b u → at_vertex c u ≡ v → ((x : ℕ) → 1 ≤ x → x ≢ v → x ≢ u → at_vertex c x ≡ at_vertex b x) →
    IsLinked b prev xs → IsLinked c prev (put_before v u xs)
linked_put b c prev v u [] i l once some cv cu co h = absurd (both_ways false refl i)
linked_put b c prev v u (x ∷ xs) i l once some cv cu co h =
    let other : (y : ℕ) → IsTrue (has (x ∷ xs) y) → y ≢ v = λ y t e. l (ap (λ a. has (x ∷ xs) a) (sym e) ∙ t) in
    elim (cases_eq x u) [
      | inl e ↦
          let apart : (y : ℕ) → IsTrue (has xs y) → y ≢ u = λ y t s.
          twice x y xs (e ∙ sym s) t (once y) in
          let kept = linked_same b c x xs (λ y t. co y (some y (has_tail x y xs t)) (other y (has_tail x y xs t)) (apart y t)) h.1 in
          subst (IsLinked c prev) (sym (put_head v u x xs e)) (cv ∙ ap (at_vertex b) (sym e) ∙ h.0, (ap (at_vertex c) e ∙ cu, kept))
      | inr n ↦
          let there : IsTrue (has xs u) = elim (has_cases x u xs i) [ inl e ↦ absurd (n e) | inr t ↦ t ] in
          let rest = linked_put b c x v u xs there (λ t. l (has_tail x v xs t)) (λ a. fewer x a xs (once a)) (λ y t. some y (has_tail x y xs t)) cv cu co h.1 in
          subst (IsLinked c prev) (sym (put_tail v u x xs n)) (co x (some x (has_head x xs)) (other x (has_head x xs)) n ∙ h.0, rest)
    ]
  where
    fewer : (x a : ℕ) (xs : List ℕ) → occurs (x ∷ xs) a ≤ 1 → occurs xs a ≤ 1
    fewer x a xs k = omega arith

    first : (x y : ℕ) (xs : List ℕ) → x ≡ y → occurs (x ∷ xs) y ≡ 1 + occurs xs y
    first x y xs e = ap (λ b. cond b 1 0 + occurs xs y) (eq-eqb x y e)

    twice : (x y : ℕ) (xs : List ℕ) → x ≡ y → IsTrue (has xs y) → occurs (x ∷ xs) y ≤ 1 → ⊥
    twice x y xs e t k = omega (arith, occurs_from_has xs y t, first x y xs e)

-- a number has the one before it
linked_at : (b : List ℕ) (prev : ℕ) (xs : List ℕ) (p : ℕ) → suc p < length xs → IsLinked b prev xs → at_vertex b (get_or xs (suc p) 0) ≡ get_or xs p 0
linked_at b prev [] p l h = absurd (omega arith)
linked_at b prev (x ∷ []) p l h = absurd (omega arith)
linked_at b prev (x ∷ y ∷ xs) zero l h = h.1.0
linked_at b prev (x ∷ y ∷ xs) (suc p) l h = linked_at b x (y ∷ xs) p (omega arith) h.1

once_one : (x a : ℕ) → occurs (x ∷ []) a ≤ 1
once_one x a = elim (eqb x a) as (λ b. cond b 1 0 + 0 ≤ 1) [ true ↦ omega arith | false ↦ omega arith ]

-- the list of one number
pub one_linked : (b : List ℕ) (n x : ℕ) → 1 ≤ x → x ≤ n → IsLinkedList b n x 1 (x ∷ [])
one_linked b n x l u = record {
  prev = at_vertex b x;
  linked = (refl, tt);
  many = refl;
  has_last = has_head x [];
  at_last = ap suc (place_head x x [] refl);
  within = λ a t. elim (has_cases x a [] t) [ inl e ↦ (omega (arith, e), omega (arith, e)) | inr f ↦ absurd (both_ways false refl f) ];
  once = once_one x;
}

-- a list with one number more
pub put_linked : (b c : List ℕ) (n last count v u : ℕ) (list : List ℕ) → IsLinkedList b n last count list → 1 ≤ v → v ≤ n → n ≡ length b → IsTrue (has list u) → Lacks list v →
    c ≡ set (set b (v - 1) (at_vertex b u)) (u - 1) v → IsLinkedList c n last (suc count) (put_before v u list)
put_linked b c n last count v u list h lv uv long there new is =
    let some = h.within u there in
    let other : v ≢ u = λ e. new (ap (λ a. has list a) e ∙ there) in
    let turned : u ≢ v = λ e. other (sym e) in
    let mid = set b (v - 1) (at_vertex b u) in
    let long_mid : length mid ≡ length b = length-set b (v - 1) (at_vertex b u) in
    let before_last : place list u ≤ place list last = omega (arith, h.at_last, (at_place list u there).0, h.many) in
    record {
      prev = h.prev;
      linked = linked_put b c h.prev v u list there new h.once (λ x t. (h.within x t).0)
          (ap (λ xs. at_vertex xs v) is ∙ vertex_kept mid u v v some.0 lv other ∙ vertex_written b v (at_vertex b u) lv (omega (arith, long, uv)))
          (ap (λ xs. at_vertex xs u) is ∙ vertex_written mid u v some.0 (omega (arith, long_mid, long, some.1)))
          (λ x lx nv nu. ap (λ xs. at_vertex xs x) is ∙ vertex_kept mid u x v some.0 lx nu ∙ vertex_kept b v x (at_vertex b u) lv lx nv)
          h.linked;
      many = put_length v u list there ∙ ap suc h.many;
      has_last = put_has_old v u last list h.has_last;
      at_last = ap suc (put_after_it v u last list there new h.has_last before_last ∙ h.at_last);
      within = λ a t. elim (put_has_cases v u a list t) [ inl e ↦ (omega (arith, e), omega (arith, e)) | inr s ↦ h.within a s ];
      once = λ a. once_more a (put_occurs v u a list there);
    }
  where
    none : (a : ℕ) → v ≡ a → occurs list a ≡ 0
    none a s = elim (cases_lt 0 (occurs list a)) [
      | inl l ↦ absurd (new (ap (λ x. has list x) s ∙ has_from_occurs list a l))
      | inr l ↦ omega arith
    ]

    once_more : (a : ℕ) → occurs (put_before v u list) a ≡ occurs (v ∷ list) a → occurs (put_before v u list) a ≤ 1
    once_more a e = elim (cases_eq v a) [
      | inl s ↦ omega (arith, e, ap (λ b. cond b 1 0 + occurs list a) (eq-eqb v a s), none a s)
      | inr n ↦ omega (arith, e, ap (λ b. cond b 1 0 + occurs list a) (ne_eqb v a n), h.once a)
    ]

-- what is known while a list is walked from its end: so many of its numbers are done, and the next is v
pub record IsWalked (levels old lefts list : List ℕ) (count done v : ℕ) : Type 0 where
  pub at : (p : ℕ) → p + suc done ≡ count → v ≡ get_or list p 0
  pub long : length lefts ≡ length old
  pub written : (x : ℕ) → IsTrue (has list x) → count ≤ place list x + done → at_vertex lefts x ≡ at_vertex levels x + place list x
  pub kept : (x : ℕ) → 1 ≤ x → (IsTrue (has list x) → ⊥) → at_vertex lefts x ≡ at_vertex old x

pub walk_begun : (b levels old list : List ℕ) (n last count : ℕ) → IsLinkedList b n last count list → IsWalked levels old old list count 0 last
walk_begun b levels old list n last count h = record {
  at = λ p e. sym (at_place list last h.has_last).1 ∙ ap (λ k. get_or list k 0) (omega (arith, h.at_last));
  long = refl;
  written = λ x t l. absurd (omega (arith, (at_place list x t).0, h.many));
  kept = λ x l t. refl;
}

pub walk_there : (b levels old lefts list : List ℕ) (n last count done v : ℕ) → IsLinkedList b n last count list → IsWalked levels old lefts list count done v → done < count →
    IsTrue (has list v) × (place list v + suc done ≡ count)
walk_there b levels old lefts list n last count done v h w l =
    let p = count - suc done in
    let is : v ≡ get_or list p 0 = w.at p (omega arith) in
    let inside : p < length list = omega (arith, h.many) in
    let at : place list v ≡ p = ap (place list) is ∙ place_at list h.once p inside in
    (ap (λ a. has list a) is ∙ has_at list p inside, omega (arith, at))

pub walk_on : (b levels old lefts list : List ℕ) (n last count done v : ℕ) (more : List ℕ) (w : ℕ) → IsLinkedList b n last count list → IsWalked levels old lefts list count done v → done < count →
    length old ≡ n → more ≡ set lefts (v - 1) (at_vertex levels v + (count - 1 - done)) → w ≡ at_vertex b v → IsWalked levels old more list count (done + 1) w
walk_on b levels old lefts list n last count done v more w h k l long is next =
    let there = walk_there b levels old lefts list n last count done v h k l in
    let range = h.within v there.0 in
    let place_v : count - 1 - done ≡ place list v = omega (arith, there.1) in
    record {
      at = λ q e.
          let p_is : suc q + suc done ≡ count = omega arith in
          next ∙ ap (at_vertex b) (k.at (suc q) p_is) ∙ linked_at b h.prev list q (omega (arith, h.many)) h.linked;
      long = ap (λ (xs : List ℕ). length xs) is ∙ length-set lefts (v - 1) (at_vertex levels v + (count - 1 - done)) ∙ k.long;
      written = λ x t le. elim (cases_eq x v) [
        | inl e ↦
            ap (λ xs. at_vertex xs x) is ∙ ap (λ y. at_vertex (set lefts (v - 1) (at_vertex levels v + (count - 1 - done))) y) e
            ∙ vertex_written lefts v (at_vertex levels v + (count - 1 - done)) range.0 (omega (arith, range.1, long, k.long))
            ∙ ap (λ m. at_vertex levels v + m) place_v ∙ ap (λ y. at_vertex levels y + place list y) (sym e)
        | inr ne ↦
            let past : count ≤ place list x + done = omega (arith, le, there.1, place_other x ne) in
            ap (λ xs. at_vertex xs x) is ∙ vertex_kept lefts v x (at_vertex levels v + (count - 1 - done)) range.0 (h.within x t).0 ne ∙ k.written x t past
      ];
      kept = λ x lx t.
          let ne : x ≢ v = λ e. t (ap (λ a. has list a) e ∙ there.0) in
          ap (λ xs. at_vertex xs x) is ∙ vertex_kept lefts v x (at_vertex levels v + (count - 1 - done)) range.0 lx ne ∙ k.kept x lx t;
    }
  where
    place_other : (x : ℕ) → x ≢ v → place list x ≢ place list v
    place_other x ne e = ne (place-inj list x v e)

pub walk_done : (b levels old lefts list : List ℕ) (n last count v : ℕ) → IsLinkedList b n last count list → IsWalked levels old lefts list count count v → IsNumbered levels old lefts list
walk_done b levels old lefts list n last count v h w = record { count = w.long; numbered = λ x t. w.written x t (omega arith); kept = w.kept }

-- the number at hand is one of 1 to n
pub walk_range : (b levels old lefts list : List ℕ) (n last count done v : ℕ) → IsLinkedList b n last count list → IsWalked levels old lefts list count done v → done < count → (1 ≤ v) × (v ≤ n)
walk_range b levels old lefts list n last count done v h w l = h.within v (walk_there b levels old lefts list n last count done v h w l).0

-- the number of a vertex, as it is read
pub vertex_read : (xs ys : List ℕ) (v x : ℕ) → v - 1 < length xs → x ≡ get_or xs (v - 1) x → xs ≡ ys → x ≡ at_vertex ys v
vertex_read xs ys v x l e s = e ∙ get_or_default xs (v - 1) x 0 l ∙ ap (λ zs. at_vertex zs v) s
