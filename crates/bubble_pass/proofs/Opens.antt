-- What is open holds the row.
use Rattle.std.proofs.Common.{◌≡◌, ◌≢◌, ◌⊎◌, inl, inr, ℕ, suc, ◌≤◌, ◌<◌, List, [], ◌∷◌, length, set, sum_by, refl, sym, ap, subst, ◌∙◌, arith}
use Rattle.std.proofs.lemmas.Bool.{cases_eq, cases_lt}
use Rattle.std.proofs.lemmas.List.{length-set}
use Rattle.std.proofs.lemmas.List.Sums.{get_or-le-sum_by, sum_by-cons}
use Rattle.arena_model.proofs.Outlines.{apart_children}
use Rattle.pq_arena.specs.declared.node.NodeId.{NodeId}
use Rattle.column_order.specs.Orders.{occurs}
use Rattle.arena_model.specs.Layout.{Layout, children_at, times_child, IsAtOrAbove, here, down, IsLayout}
use Rattle.arena_model.proofs.Slots.{children_times}
use Rattle.arena_model.proofs.Paths.{one_parent, one_path}
use Rattle.bubble_pass.specs.declared.climber.Stage.{Stage}
use Rattle.bubble_pass.specs.declared.climber.Stage.TheVariants.{Unseen, Queued, Blocked, Top, InRun, Placed}
use Rattle.bubble_pass.specs.Climb.{stage, at, IsSeen, IsOpen, parked_one, Climb, Queue, Reached, at_leaf, from_child}
use Rattle.arena_model.specs.RowLeaves.{Holds, Meets}
use Rattle.bubble_pass.specs.Ends.{AreLeaves}
use Rattle.bubble_pass.proofs.Marks.{seen_by, seen_or, seen_in, sum_set, set_there}

-- an open node between n and x
pub record Below (f : Layout) (st : List Stage) (n x : ℕ) : Type 0 where
  pub y : ℕ
  pub open_is : IsOpen (stage st y)
  pub above : IsAtOrAbove f.slots n y
  pub leads : IsAtOrAbove f.slots y x

pub open_or : (s : Stage) → IsSeen s → IsOpen s ⊎ ((m : NodeId) × (s ≡ Placed m))
open_or Unseen h = absurd h
open_or Queued h = inl tt
open_or Blocked h = inl tt
open_or Top h = inl tt
open_or InRun h = inl tt
open_or (Placed m) h = inr (m, refl)

pub climbed : (f : Layout) (row : List ℕ) (st : List Stage) → IsLayout f → Climb f row st →
    (n x : ℕ) → IsAtOrAbove f.slots n x → IsSeen (stage st x) → Below f st n x ⊎ ((m : NodeId) × (stage st n ≡ Placed m))
climbed f row st h c _ _ (here n) seen = elim (open_or (stage st n) seen) [
  | inl o ↦ inl (record { y = n; open_is = o; above = here n; leads = here n })
  | inr p ↦ inr p
]
climbed f row st h c _ _ (down n k x o l) seen = elim (climbed f row st h c k x l seen) [
  | inl b ↦ inl (record { y = b.y; open_is = b.open_is; above = down n k b.y o b.above; leads = b.leads })
  | inr p ↦ let r = c.above k p.0 p.1 in
      let e : p.0.index ≡ n = one_parent f p.0.index n k h r.0 o in
      elim (open_or (stage st n) (subst (λ z. IsSeen (stage st z)) e r.1)) [
        | inl q ↦ inl (record { y = n; open_is = q; above = here n; leads = down n k x o l })
        | inr q ↦ inr q
      ]
]

pub climbs : (f : Layout) (row : List ℕ) (st : List Stage) → IsLayout f → Climb f row st → AreLeaves f row → (x : ℕ) → 1 ≤ occurs row x → Below f st f.root x
climbs f row st h c w x o = elim (climbed f row st h c f.root x (w.below x o) (c.leaves x o)) [
  | inl b ↦ b
  | inr p ↦ let r = c.above f.root p.0 p.1 in
      absurd (let k : occurs (children_at f p.0.index) f.root ≤ times_child f.slots f.root = children_times f p.0.index f.root in let z : times_child f.slots f.root ≡ 0 = h.root_top in
      let o1 : 1 ≤ occurs (children_at f p.0.index) f.root = r.0 in omega arith)
]

-- one open node
pub one_open : (f : Layout) (row : List ℕ) (st : List Stage) (r : ℕ) → IsLayout f → Climb f row st → AreLeaves f row → ((y : ℕ) → IsOpen (stage st y) → y ≡ r) → Holds f row r
one_open f row st r h c w one = λ x o. let b : Below f st f.root x = climbs f row st h c w x o in subst (λ z. IsAtOrAbove f.slots z x) (one b.y b.open_is) b.leads

pub reached_meets : (f : Layout) (row : List ℕ) (st : List Stage) → Climb f row st → (n : ℕ) → Reached row st n → Meets f row n
reached_meets f row st c _ (at_leaf x o) = (x, o, here x)
reached_meets f row st c _ (from_child k n m e s r) =
    let t = reached_meets f row st c k r in
    (t.0, t.1, down n k t.0 (subst (λ z. 1 ≤ occurs (children_at f z) k) e (c.above k m s).0) t.2)

-- two children of one node have no leaf in common
pub one_child : (f : Layout) (q a b x : ℕ) → IsLayout f → 1 ≤ occurs (children_at f q) a → 1 ≤ occurs (children_at f q) b → IsAtOrAbove f.slots a x → IsAtOrAbove f.slots b x → a ≡ b
one_child f q a b x h oa ob la lb = elim (cases_eq a b) [
  | inl e ↦ e
  | inr ne ↦ elim (one_path f a b x h la lb) [
    | inl l ↦ absurd (apart_children f q a b h oa ob l ne)
    | inr l ↦ absurd (apart_children f q b a h ob oa l (λ e. ne (sym e)))
  ]
]

-- parked nodes and their number
pub parked_seen : (s : Stage) → parked_one s ≡ 1 → IsSeen s
parked_seen s e = seen_or s (λ q. let z : 0 ≡ 1 = sym (ap parked_one q) ∙ e in absurd (omega arith))

pub two_parked : (st : List Stage) (x y : ℕ) → parked_one (stage st x) ≡ 1 → parked_one (stage st y) ≡ 1 → x ≢ y → 2 ≤ sum_by parked_one st
two_parked st x y px py ne =
    let lx : x < length st = parked_in x px in
    let ly : y < length (set st x Queued) = (let l : y < length st = parked_in y py in omega (arith, length-set st x Queued)) in
    let a : parked_one (stage (set st x Queued) y) ≤ sum_by parked_one (set st x Queued) = get_or-le-sum_by parked_one (set st x Queued) y Unseen ly in
    let b : parked_one (stage (set st x Queued) y) ≡ 1 = ap parked_one (set_there st x y Queued (λ e. ne (sym e))) ∙ py in
    let d : parked_one Queued ≡ 0 = refl in
    omega (arith, sum_set parked_one st x Queued lx)
  where
    parked_in : (z : ℕ) → parked_one (stage st z) ≡ 1 → z < length st
    parked_in z e = seen_in st z (parked_seen (stage st z) e)

pub parked_some : (st : List Stage) (x : ℕ) → parked_one (stage st x) ≡ 1 → 1 ≤ sum_by parked_one st
parked_some st x e =
    let a : parked_one (stage st x) ≤ sum_by parked_one st = get_or-le-sum_by parked_one st x Unseen (seen_in st x (parked_seen (stage st x) e)) in
    omega arith

pub some_parked : (st : List Stage) → 1 ≤ sum_by parked_one st → (x : ℕ) × (parked_one (stage st x) ≡ 1)
some_parked [] l = absurd (let z : sum_by parked_one [] ≡ 0 = refl in omega arith)
some_parked (s ∷ ss) l = elim (cases_lt 0 (parked_one s)) [
  | inl p ↦ (0, exactly s p)
  | inr p ↦ let r = some_parked ss (omega (arith, sum_by-cons parked_one s ss)) in (suc r.0, r.1)
]
  where
    exactly : (s : Stage) → 0 < parked_one s → parked_one s ≡ 1
    exactly Unseen l = absurd (omega arith)
    exactly Queued l = absurd (omega arith)
    exactly Blocked l = refl
    exactly Top l = refl
    exactly InRun l = absurd (omega arith)
    exactly (Placed m) l = absurd (omega arith)

-- an open node is queued, parked or in the run
pub open_cases : (s : Stage) → IsOpen s → (s ≡ Queued) ⊎ ((parked_one s ≡ 1) ⊎ (s ≡ InRun))
open_cases Unseen h = absurd h
open_cases Queued h = inl refl
open_cases Blocked h = inr (inl refl)
open_cases Top h = inr (inl refl)
open_cases InRun h = inr (inr refl)
open_cases (Placed m) h = absurd h

-- where a queued node stands
pub queued_at : (st : List Stage) (queue : List NodeId) (head tail x : ℕ) → Queue st queue head tail → stage st x ≡ Queued → (i : ℕ) × (head ≤ i) × (i < tail) × (at queue i ≡ x)
queued_at st queue head tail x q e =
    let r = q.all x (seen_by (stage st x) Queued e tt) in
    elim (cases_lt r.0 head) [
      | inl l ↦ absurd (q.done r.0 l (sym e ∙ ap (λ z. stage st z) (sym r.2)))
      | inr l ↦ (r.0, l, r.1, r.2)
    ]
