-- The children of a node, listed one by one.
use Rattle.std.proofs.Common.{◌≡◌, ◌≢◌, ◌⊎◌, inl, inr, ℕ, zero, suc, ◌+◌, ◌≤◌, ◌<◌, cond, List, [], ◌∷◌, ◌++◌, refl, sym, ap, subst, ◌∙◌, arith, eq-eqb}
use Rattle.std.proofs.lemmas.Bool.{ne_eqb}
use Rattle.std.proofs.lemmas.List.{append-nil, append_assoc}
use Rattle.column_order.specs.Orders.{occurs}
use Rattle.column_order.proofs.Lists.{occurs-append}
use Rattle.arena_model.specs.ChildLists.{none}
use Rattle.arena_model.proofs.Lists.{occurs_here}
use Rattle.pq_arena.specs.declared.node.Link.{Link}
use Rattle.pq_arena.specs.StandsFor.{ring_read, run_read, other_side}
use Rattle.pq_arena.specs.Wiring.{link}

-- of a ring of `count` children those before `child` are listed, `done` in all
pub record IsRingListed (ls : List Link) (count first : ℕ) (listed : List ℕ) (child done : ℕ) : Type 0 where
  pub left : ℕ
  pub all : done + left ≡ count
  pub are : listed ++ ring_read ls left child ≡ ring_read ls count first

-- of a run those up to `before` are listed, and `child` is the next
pub record IsRunListed (ls : List Link) (count first : ℕ) (listed : List ℕ) (before child done : ℕ) : Type 0 where
  pub left : ℕ
  pub all : done + left ≡ count
  pub are : listed ++ run_read ls left before child ≡ run_read ls count none first

pub ring_begins : (ls : List Link) (count first : ℕ) → IsRingListed ls count first [] first 0
ring_begins ls count first = record { left = count; all = omega arith; are = refl }

pub ring_next : (ls : List Link) (count first : ℕ) (listed listed' : List ℕ) (child child' done : ℕ) → IsRingListed ls count first listed child done → done < count →
    listed' ≡ listed ++ child ∷ [] → child' ≡ (link ls child).near0 → IsRingListed ls count first listed' child' (done + 1)
ring_next ls count first listed listed' child child' done r lt e k = at r.left r.all r.are
  where
    at : (left : ℕ) → done + left ≡ count → listed ++ ring_read ls left child ≡ ring_read ls count first → IsRingListed ls count first listed' child' (done + 1)
    at zero all are = absurd (omega arith)
    at (suc left) all are = record {
      left = left;
      all = omega arith;
      are = ap (λ z. z ++ ring_read ls left child') e ∙ append_assoc listed (child ∷ []) (ring_read ls left child')
          ∙ ap (λ z. listed ++ child ∷ ring_read ls left z) k ∙ are;
    }

pub ring_at : (ls : List Link) (count first : ℕ) (listed : List ℕ) (child done : ℕ) → IsRingListed ls count first listed child done → done < count →
    1 ≤ occurs (ring_read ls count first) child
ring_at ls count first listed child done r lt = at r.left r.all r.are
  where
    at : (left : ℕ) → done + left ≡ count → listed ++ ring_read ls left child ≡ ring_read ls count first → 1 ≤ occurs (ring_read ls count first) child
    at zero all are = absurd (omega arith)
    at (suc left) all are = subst (λ z. 1 ≤ occurs z child) are
        (omega (arith, occurs-append listed (child ∷ ring_read ls left (link ls child).near0) child, occurs_here child (ring_read ls left (link ls child).near0)))

pub ring_listed : (ls : List Link) (count first : ℕ) (listed : List ℕ) (child done : ℕ) → IsRingListed ls count first listed child done → count ≤ done →
    listed ≡ ring_read ls count first
ring_listed ls count first listed child done r le = at r.left r.all r.are
  where
    at : (left : ℕ) → done + left ≡ count → listed ++ ring_read ls left child ≡ ring_read ls count first → listed ≡ ring_read ls count first
    at zero all are = sym (append-nil listed) ∙ are
    at (suc left) all are = absurd (omega arith)

pub run_begins : (ls : List Link) (count first : ℕ) → IsRunListed ls count first [] none first 0
run_begins ls count first = record { left = count; all = omega arith; are = refl }

run_more : (ls : List Link) (left before child : ℕ) → child ≢ none → run_read ls (suc left) before child ≡ child ∷ run_read ls left child (other_side (link ls child) before)
run_more ls left before child ne = ap (λ b. cond b [] (child ∷ run_read ls left child (other_side (link ls child) before))) (ne_eqb child none ne)

run_none : (ls : List Link) (left before child : ℕ) → child ≡ none → run_read ls left before child ≡ []
run_none ls zero before child e = refl
run_none ls (suc left) before child e = ap (λ b. cond b [] (child ∷ run_read ls left child (other_side (link ls child) before))) (eq-eqb child none e)

pub run_next : (ls : List Link) (count first : ℕ) (listed listed' : List ℕ) (before child next done : ℕ) → IsRunListed ls count first listed before child done → done < count →
    child ≢ none → listed' ≡ listed ++ child ∷ [] → next ≡ other_side (link ls child) before → IsRunListed ls count first listed' child next (done + 1)
run_next ls count first listed listed' before child next done r lt ne e k = at r.left r.all r.are
  where
    at : (left : ℕ) → done + left ≡ count → listed ++ run_read ls left before child ≡ run_read ls count none first → IsRunListed ls count first listed' child next (done + 1)
    at zero all are = absurd (omega arith)
    at (suc left) all are = record {
      left = left;
      all = omega arith;
      are = ap (λ z. z ++ run_read ls left child next) e ∙ append_assoc listed (child ∷ []) (run_read ls left child next)
          ∙ ap (λ z. listed ++ child ∷ run_read ls left child z) k ∙ ap (λ z. listed ++ z) (sym (run_more ls left before child ne)) ∙ are;
    }

pub run_at : (ls : List Link) (count first : ℕ) (listed : List ℕ) (before child done : ℕ) → IsRunListed ls count first listed before child done → done < count →
    child ≢ none → 1 ≤ occurs (run_read ls count none first) child
run_at ls count first listed before child done r lt ne = at r.left r.all r.are
  where
    at : (left : ℕ) → done + left ≡ count → listed ++ run_read ls left before child ≡ run_read ls count none first → 1 ≤ occurs (run_read ls count none first) child
    at zero all are = absurd (omega arith)
    at (suc left) all are = subst (λ z. 1 ≤ occurs z child) (ap (λ z. listed ++ z) (sym (run_more ls left before child ne)) ∙ are)
        (omega (arith, occurs-append listed (child ∷ run_read ls left child (other_side (link ls child) before)) child, occurs_here child (run_read ls left child (other_side (link ls child) before))))

pub run_listed : (ls : List Link) (count first : ℕ) (listed : List ℕ) (before child done : ℕ) → IsRunListed ls count first listed before child done →
    (count ≤ done) ⊎ (child ≡ none) → listed ≡ run_read ls count none first
run_listed ls count first listed before child done r (inl le) = at r.left r.all r.are
  where
    at : (left : ℕ) → done + left ≡ count → listed ++ run_read ls left before child ≡ run_read ls count none first → listed ≡ run_read ls count none first
    at zero all are = sym (append-nil listed) ∙ are
    at (suc left) all are = absurd (omega arith)
run_listed ls count first listed before child done r (inr e) =
    sym (append-nil listed) ∙ ap (λ z. listed ++ z) (sym (run_none ls r.left before child e)) ∙ r.are
