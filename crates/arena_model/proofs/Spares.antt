-- Each node is in use or spare.
use Rattle.std.proofs.Common.{◌≡◌, ◌≢◌, ℕ, zero, suc, ◌+◌, ◌*◌, ◌≤◌, ◌<◌, List, [], ◌∷◌, ◌++◌, length, Some, None, refl, sym, ap, subst, ◌∙◌, arith, length-append}
use Rattle.column_order.specs.Orders.{occurs}
use Rattle.column_order.proofs.Lists.{occurs-append}
use Rattle.arena_model.specs.Layout.{Slot, Layout, slot, used_one, used_count, IsLayout}
use Rattle.arena_model.proofs.Lists.{occurs_here, occurs_same, occurs_other, SplitAt, split_at}
use Rattle.arena_model.proofs.Slots.{some_none}

-- xs lists each spare slot of ss once, the slots being numbered from k on
record AreSpares (k : ℕ) (ss : List Slot) (xs : List ℕ) : Type 0 where
  once : (x : ℕ) → occurs xs x ≤ 1
  spare : (x : ℕ) → 1 ≤ occurs xs x → (i : ℕ) × (x ≡ k + i) × (i < length ss) × ((slot ss i).shape ≡ None)
  all : (i : ℕ) → i < length ss → (slot ss i).shape ≡ None → 1 ≤ occurs xs (k + i)

empty : (xs : List ℕ) → ((x : ℕ) → 1 ≤ occurs xs x → ⊥) → length xs ≡ 0
empty [] h = refl
empty (x ∷ xs) h = absurd (h x (occurs_here x xs))

counted : (ss : List Slot) (k : ℕ) (xs : List ℕ) → AreSpares k ss xs → length xs + used_count ss ≡ length ss
counted [] k xs h = let e : length xs ≡ 0 = empty xs (λ x o. let r = h.spare x o in let l : r.0 < 0 = r.2 in omega arith) in omega arith
counted (s ∷ ss) k xs h =
    (elim s.shape as (λ t. s.shape ≡ t → length xs + (used_one t + used_count ss) ≡ suc (length ss)) [
      | None ↦ λ e.
          let o : 1 ≤ occurs xs k = subst (λ z. 1 ≤ occurs xs z) (let q : k + 0 ≡ k = omega arith in q) (h.all 0 (omega arith) e) in
          let p : SplitAt xs k = split_at xs k o in
          let r : length (p.us ++ p.vs) + used_count ss ≡ length ss = counted ss (suc k) (p.us ++ p.vs) (rest p.us p.vs p.is) in
          let l : length xs ≡ length (p.us ++ k ∷ p.vs) = ap length p.is in
          omega (arith, length-append p.us p.vs, length-append p.us (k ∷ p.vs))
      | Some t ↦ λ e.
          let r : length xs + used_count ss ≡ length ss = counted ss (suc k) xs (record {
            once = h.once;
            spare = λ x o. let w = h.spare x o in later x w.0 w.1 w.2 w.3 (λ z. some_none t (sym e ∙ subst (λ i. (slot (s ∷ ss) i).shape ≡ None) z w.3));
            all = λ i l n. subst (λ z. 1 ≤ occurs xs z) (let q : k + suc i ≡ suc k + i = omega arith in q) (h.all (suc i) (omega arith) n);
          }) in omega arith
    ]) refl
  where
    later : (x i : ℕ) → x ≡ k + i → i < suc (length ss) → (slot (s ∷ ss) i).shape ≡ None → i ≢ 0 →
        (j : ℕ) × (x ≡ suc k + j) × (j < length ss) × ((slot ss j).shape ≡ None)
    later x zero e l n ne = absurd (ne refl)
    later x (suc i) e l n ne = (i, omega arith, omega arith, n)

    rest : (us vs : List ℕ) → xs ≡ us ++ k ∷ vs → AreSpares (suc k) ss (us ++ vs)
    rest us vs is = record {
      once = λ x. let o : occurs xs x ≤ 1 = h.once x in let e : occurs xs x ≡ occurs (us ++ k ∷ vs) x = ap (λ z. occurs z x) is in
          omega (arith, occurs-append us vs x, occurs-append us (k ∷ vs) x);
      spare = λ x o.
          let e : occurs xs x ≡ occurs (us ++ k ∷ vs) x = ap (λ z. occurs z x) is in
          let w = h.spare x (omega (arith, occurs-append us vs x, occurs-append us (k ∷ vs) x)) in
          later x w.0 w.1 w.2 w.3 (λ z.
          let q : x ≡ k = w.1 ∙ ap (λ i. k + i) z ∙ (let q : k + 0 ≡ k = omega arith in q) in
          let o' : 1 ≤ occurs (us ++ vs) k = subst (λ y. 1 ≤ occurs (us ++ vs) y) q o in
          let a : occurs xs k ≤ 1 = h.once k in
          let e' : occurs xs k ≡ occurs (us ++ k ∷ vs) k = ap (λ z. occurs z k) is in
          omega (arith, occurs-append us vs k, occurs-append us (k ∷ vs) k, occurs_same k vs));
      all = λ i l n.
          let o : 1 ≤ occurs xs (k + suc i) = h.all (suc i) (omega arith) n in
          let y : ℕ = suc k + i in
          let o' : 1 ≤ occurs (us ++ k ∷ vs) y = subst (λ z. 1 ≤ occurs (us ++ k ∷ vs) z) (let q : k + suc i ≡ suc k + i = omega arith in q) (subst (λ zs. 1 ≤ occurs zs (k + suc i)) is o) in
          let ne : y ≢ k = (λ z. omega arith) in
          omega (arith, occurs-append us vs y, occurs-append us (k ∷ vs) y, occurs_other k y vs ne);
    }

pub spares_counted : (f : Layout) → IsLayout f → length f.spares + used_count f.slots ≡ 2 * f.columns + 4
spares_counted f h = counted f.slots 0 f.spares (record {
  once = h.spare_once;
  spare = λ x o. let r = h.spare_free x o in (x, (let q : x ≡ 0 + x = omega arith in q), r.1, r.0);
  all = λ i l n. subst (λ z. 1 ≤ occurs f.spares z) (let q : i ≡ 0 + i = omega arith in q) (h.spare_all i l n);
}) ∙ h.size
