-- The list of a chain.
use Rattle.std.proofs.Common.{◌≡◌, ℕ, zero, suc, ◌+◌, ◌-◌, ◌≤◌, ◌<◌, List, [], ◌∷◌, ◌++◌, length, take, set, refl, sym, ap, subst, ◌∙◌, append_assoc, arith}
use Rattle.std.proofs.lemmas.List.{append-nil}
use Rattle.column_order.specs.Orders.{occurs}
use Rattle.column_order.proofs.Lists.{occurs-append}
use Rattle.arena_model.proofs.Lists.{occurs_here}
use Rattle.pq_arena.specs.declared.node.NodeId.{NodeId}
use Rattle.pq_arena.specs.RowNodes.{indices}
use Rattle.full_pass.specs.Tallies.{chained}

-- the next node of the chain is one of it
pub listed_here : (c done : List ℕ) (n i : ℕ) (next : ℕ → ℕ) (x : ℕ) → i < n → c ≡ done ++ chained (n - i) next x → 1 ≤ occurs c x
listed_here c done n i next x lt e =
    let k : n - i ≡ suc (n - (i + 1)) = omega arith in
    subst (λ z. 1 ≤ occurs z x) (sym (e ∙ ap (λ z. done ++ chained z next x) k))
    (omega (arith, occurs-append done (x ∷ chained (n - (i + 1)) next (next x)) x, occurs_here x (chained (n - (i + 1)) next (next x))))

written : (ms : List NodeId) (i : ℕ) (x : NodeId) → i < length ms → indices (take (suc i) (set ms i x)) ≡ indices (take i ms) ++ x.index ∷ []
written [] i x lt = absurd (omega arith)
written (m ∷ ms) zero x lt = refl
written (m ∷ ms) (suc i) x lt = ap (λ z. m.index ∷ z) (written ms i x (omega arith))

pub listed_next : (c : List ℕ) (n i : ℕ) (next : ℕ → ℕ) (ms : List NodeId) (x : NodeId) → i < n → i < length ms →
    c ≡ indices (take i ms) ++ chained (n - i) next x.index → c ≡ indices (take (i + 1) (set ms i x)) ++ chained (n - (i + 1)) next (next x.index)
listed_next c n i next ms x lt room e =
    let k : n - i ≡ suc (n - (i + 1)) = omega arith in
    let s : suc i ≡ i + 1 = omega arith in
    let rest : List ℕ = chained (n - (i + 1)) next (next x.index) in
    e ∙ ap (λ z. indices (take i ms) ++ chained z next x.index) k ∙ sym (append_assoc (indices (take i ms)) (x.index ∷ []) rest) ∙
    ap (λ z. z ++ rest) (sym (written ms i x room)) ∙ ap (λ z. indices (take z (set ms i x)) ++ rest) s

pub listed_all : (c : List ℕ) (n i : ℕ) (next : ℕ → ℕ) (ms : List NodeId) (x : ℕ) → n ≤ i → i ≤ n →
    c ≡ indices (take i ms) ++ chained (n - i) next x → indices (take n ms) ≡ c
listed_all c n i next ms x le ge e =
    let z : n - i ≡ 0 = omega arith in
    let same : i ≡ n = omega arith in
    sym (e ∙ ap (λ y. indices (take i ms) ++ chained y next x) z ∙ append-nil (indices (take i ms)) ∙ ap (λ y. indices (take y ms)) same)
