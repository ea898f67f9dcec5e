-- Turns above the smallest node that holds the row come singly.
use Rattle.std.proofs.Common.{◌≡◌, ◌≢◌, ◌⊎◌, inl, inr, ℕ, zero, suc, ◌+◌, ◌*◌, ◌≤◌, ◌<◌, List, [], ◌∷◌, length, sum_by, take, refl, sym, ap, subst, ◌∙◌, arith}
use Rattle.std.proofs.lemmas.Bool.{cases_eq, cases_lt}
use Rattle.arena_model.proofs.Outlines.{apart_children}
use Rattle.pq_arena.specs.declared.node.NodeId.{NodeId}
use Rattle.column_order.specs.Orders.{occurs}
use Rattle.arena_model.specs.Layout.{Layout, children_at, IsAtOrAbove, here, down, IsLayout, MayHaveChildren}
use Rattle.column_order.proofs.Lists.{occurs-append}
use Rattle.arena_model.proofs.Lists.{occurs_other, occurs_same}
use Rattle.arena_model.proofs.Paths.{at_once, by, above_ends, one_parent, one_path, top_alone}
use Rattle.arena_model.proofs.Trees.{no_circle}
use Rattle.bubble_pass.specs.declared.climber.Stage.{Stage}
use Rattle.bubble_pass.specs.declared.climber.Stage.TheVariants.{Queued, Blocked, Placed}
use Rattle.bubble_pass.specs.declared.climber.Climber.{Climber}
use Rattle.bubble_pass.specs.declared.climber.End.{End}
use Rattle.bubble_pass.specs.declared.climber.End.TheVariants.{Node, Run, Apart}
use Rattle.bubble_pass.proofs.Linking.{turns_more, turn_of, turn_new, exactly}
use Rattle.pq_arena.specs.RowNodes.{indices}
use Rattle.bubble_pass.specs.Climb.{stage, at, IsSeen, IsOpen, parked_one, unseen_one, Climb, Queue}
use Rattle.bubble_pass.specs.Moves.{Kept, Turned, turned_up, turned_off}
use Rattle.arena_model.specs.RowLeaves.{Holds}
use Rattle.bubble_pass.specs.Ends.{AreLeaves, IsQueueing, IsFlat, IsFound}
use Rattle.bubble_pass.specs.Fair.{IsAbove, Counted, counted_none, counted_above, counted_below, Course, calm, ahead, doomed, Fair, AtMost}
use Rattle.bubble_pass.proofs.Marks.{seen_by}
use Rattle.bubble_pass.proofs.Opens.{reached_meets, one_child, some_parked, parked_seen}
use Rattle.bubble_pass.proofs.Fronts.{join_leads}
use Rattle.bubble_pass.proofs.Splits.{one_way, parked_cases, parked_open, root_above}

-- the node above x is above r where x is r or above it
up_above : (f : Layout) (r x m : ℕ) → IsLayout f → 1 ≤ occurs (children_at f m) x → IsAtOrAbove f.slots x r → IsAbove f r m
up_above f r x m h o l = (down m x r o l, λ e. no_circle f.slots m x (h.grounds m) o (subst (λ z. IsAtOrAbove f.slots x z) (sym e) l))

-- and at or below r where x is below it
up_below : (f : Layout) (r x m : ℕ) → IsLayout f → 1 ≤ occurs (children_at f m) x → IsAtOrAbove f.slots r x → x ≢ r → IsAtOrAbove f.slots r m
up_below f r x m h o l ne = elim (above_ends f.slots r x l) [
  | at_once e ↦ absurd (ne (sym e))
  | by k lk ok ↦ subst (λ z. IsAtOrAbove f.slots r z) (one_parent f k m x h ok o) lk
]

-- each node that was seen is above r, or at or below it
side : (f : Layout) (row : List ℕ) (st : List Stage) (r z : ℕ) → IsLayout f → Holds f row r → Climb f row st → IsSeen (stage st z) → IsAbove f r z ⊎ IsAtOrAbove f.slots r z
side f row st r z h holds c s =
    let m = reached_meets f row st c z (c.reached z s) in
    elim (one_path f z r m.0 h m.2 (holds m.0 m.1)) [
      | inl l ↦ elim (cases_eq z r) [
        | inl e ↦ inr (subst (λ y. IsAtOrAbove f.slots r y) (sym e) (here r))
        | inr ne ↦ inl (l, ne)
      ]
      | inr l ↦ inr l
    ]

abbrev Ladder : Layout → ℕ → List Stage → Type 0
Ladder f r st = (n c : ℕ) → IsSeen (stage st n) → 1 ≤ occurs (children_at f n) c → IsAtOrAbove f.slots c r → (m : NodeId) × (stage st c ≡ Placed m)

-- between a node that was seen and r all are placed
ladder_path : (f : Layout) (r : ℕ) (st : List Stage) → Ladder f r st → (n k : ℕ) → IsAtOrAbove f.slots n k → IsAtOrAbove f.slots k r → k ≢ n → IsSeen (stage st n) → (m : NodeId) × (stage st k ≡ Placed m)
ladder_path f r st la _ _ (here n) kr ne s = absurd (ne refl)
ladder_path f r st la _ _ (down n c k o l) kr ne s =
    let p = la n c s o (join_leads f.slots c k r l kr) in
    elim (cases_eq k c) [
      | inl e ↦ (p.0, subst (λ z. stage st z ≡ Placed p.0) (sym e) p.1)
      | inr nc ↦ ladder_path f r st la c k l kr nc (seen_by (stage st c) (Placed p.0) p.1 tt)
    ]

counted_same : (f : Layout) (r : ℕ) (q q' : List NodeId) (n a b : ℕ) → Counted f r q n a b → ((i : ℕ) → i < n → at q' i ≡ at q i) → Counted f r q' n a b
counted_same f r q q' _ _ _ counted_none same = counted_none
counted_same f r q q' _ _ _ (counted_above n a b n' a' en ea x c) same =
    counted_above n a b n' a' en ea (subst (λ z. IsAbove f r z) (sym (same n (omega arith))) x) (counted_same f r q q' n a b c (λ i l. same i (omega arith)))
counted_same f r q q' _ _ _ (counted_below n a b n' b' en eb x c) same =
    counted_below n a b n' b' en eb (subst (λ z. IsAtOrAbove f.slots r z) (sym (same n (omega arith))) x) (counted_same f r q q' n a b c (λ i l. same i (omega arith)))

pub counted_sum : (f : Layout) (r : ℕ) (q : List NodeId) (n a b : ℕ) → Counted f r q n a b → n ≡ a + b
counted_sum f r q _ _ _ counted_none = refl
counted_sum f r q _ _ _ (counted_above n a b n' a' en ea x c) = let k : n ≡ a + b = counted_sum f r q n a b c in omega arith
counted_sum f r q _ _ _ (counted_below n a b n' b' en eb x c) = let k : n ≡ a + b = counted_sum f r q n a b c in omega arith

-- what one turn is done on
pub record Turning (f : Layout) (row : List ℕ) (r : ℕ) (a b : Climber) : Type 0 where
  pub holds : Holds f row r
  pub old : Kept f row a
  pub new : Kept f row b
  pub some : a.head < a.tail
  pub more : a.head + 1 ≡ a.tail → a.parked ≢ 0
  pub head : b.head ≡ a.head + 1
  pub turned : Turned a b (at a.queue.items a.head)

x_queued : (f : Layout) (row : List ℕ) (r : ℕ) (a b : Climber) → Turning f row r a b → stage a.stages.items (at a.queue.items a.head) ≡ Queued
x_queued f row r a b t = let l : a.head < a.tail = t.some in t.old.queue.waiting a.head (omega arith) l

queued_not : (st : List Stage) (x : ℕ) (m : NodeId) → stage st x ≡ Queued → stage st x ≡ Placed m → ⊥
queued_not st x m q p = let z = sym q ∙ p in cc

ladder_turn : (f : Layout) (row : List ℕ) (r : ℕ) (a b : Climber) → IsLayout f → Turning f row r a b → Ladder f r a.stages.items → Ladder f r b.stages.items
ladder_turn f row r a b h t la = λ n c s o l. by_turn t.turned n c s o l
  where
    x : ℕ
    x = at a.queue.items a.head

    by_turn : Turned a b (at a.queue.items a.head) → (n c : ℕ) → IsSeen (stage b.stages.items n) → 1 ≤ occurs (children_at f n) c → IsAtOrAbove f.slots c r → (m : NodeId) × (stage b.stages.items c ≡ Placed m)
    by_turn (turned_up m px rest news front push) n c s o l = elim (news n s) [
      | inl so ↦ let p = la n c so o l in
          elim (rest c (λ e. queued_not a.stages.items (at a.queue.items a.head) p.0 (x_queued f row r a b t) (subst (λ z. stage a.stages.items z ≡ Placed p.0) e p.1)) (seen_by (stage a.stages.items c) (Placed p.0) p.1 tt)) [
            | inl i ↦ (p.0, i ∙ p.1)
            | inr i ↦ absurd (let z = sym i.0 ∙ p.1 in cc)
          ]
      | inr q ↦
          let ox = t.new.climb.above (at a.queue.items a.head) m px in
          let me = reached_meets f row a.stages.items t.old.climb (at a.queue.items a.head) (t.old.climb.reached (at a.queue.items a.head) (seen_by (stage a.stages.items (at a.queue.items a.head)) Queued (x_queued f row r a b t) tt)) in
          let same : c ≡ at a.queue.items a.head = one_child f n c (at a.queue.items a.head) me.0 h o (subst (λ z. 1 ≤ occurs (children_at f z) (at a.queue.items a.head)) (sym q.0) ox.0)
          (join_leads f.slots c r me.0 l (t.holds me.0 me.1)) me.2 in
          (m, subst (λ z. stage b.stages.items z ≡ Placed m) (sym same) px)
    ]
    by_turn (turned_off pk same queue tail) n c s o l =
        let so : IsSeen (stage a.stages.items n) = (elim (cases_eq n (at a.queue.items a.head)) [
          | inl e ↦ subst (λ z. IsSeen (stage a.stages.items z)) (sym e) (seen_by (stage a.stages.items (at a.queue.items a.head)) Queued (x_queued f row r a b t) tt)
          | inr ne ↦ subst (λ z. IsSeen z) (same n ne) s
        ]) in
        let p = la n c so o l in
        (p.0, same c (λ e. queued_not a.stages.items (at a.queue.items a.head) p.0 (x_queued f row r a b t) (subst (λ z. stage a.stages.items z ≡ Placed p.0) e p.1)) ∙ p.1)

-- a blocked node below r that only turns above r could not free
doom : (f : Layout) (row : List ℕ) (r : ℕ) (a b : Climber) (y ta tb : ℕ) → IsLayout f → Turning f row r a b → Ladder f r a.stages.items → IsAbove f r (at a.queue.items a.head) →
    stage a.stages.items y ≡ Blocked → IsAtOrAbove f.slots r y → y ≢ r → ((i : ℕ) → a.head < i → i < a.tail → IsAbove f r (at a.queue.items i)) → Course f r b ta tb
doom f row r a b y ta tb h t la xa yb ry yr others = by_turn t.turned
  where
    xs : IsSeen (stage a.stages.items (at a.queue.items a.head))
    xs = seen_by (stage a.stages.items (at a.queue.items a.head)) Queued (x_queued f row r a b t) tt

    y_not_x : y ≢ at a.queue.items a.head
    y_not_x e = let z = sym (subst (λ v. stage a.stages.items v ≡ Blocked) e yb) ∙ x_queued f row r a b t in cc

    by_turn : Turned a b (at a.queue.items a.head) → Course f r b ta tb
    by_turn (turned_up m px rest news front push) =
        let ox = t.new.climb.above (at a.queue.items a.head) m px in
        let ma : IsAbove f r m.index = up_above f r (at a.queue.items a.head) m.index h ox.0 xa.0 in
        let yb1 : stage b.stages.items y ≡ Blocked = (elim (rest y y_not_x (seen_by (stage a.stages.items y) Blocked yb tt)) [
          | inl e ↦ e ∙ yb
          | inr e ↦ absurd (apart_children f m.index (at a.queue.items a.head) y h ox.0 (t.new.climb.above y m e.1).0 (join_leads f.slots (at a.queue.items a.head) r y xa.0 ry) (λ q. y_not_x (sym q)))
        ]) in
        let mq : IsOpen (stage b.stages.items m.index) = (elim (news m.index ox.1) [
          | inl s ↦ let p = la m.index (at a.queue.items a.head) s ox.0 xa.0 in absurd (queued_not a.stages.items (at a.queue.items a.head) p.0 (x_queued f row r a b t) p.1)
          | inr q ↦ subst (λ s. IsOpen s) (sym q.1) tt
        ]) in
        doomed y m.index yb1 ry yr mq ma (λ i lo hi. let lo2 : a.head + 1 ≤ i = subst (λ z. z ≤ i) t.head lo in
        elim (cases_lt i a.tail) [
          | inl l ↦ subst (λ z. IsAbove f r z) (sym (front i l)) (others i (omega arith) l)
          | inr g ↦ elim push [
            | inl e ↦ absurd (omega arith)
            | inr e ↦ let et : b.tail ≡ a.tail + 1 = e.0 in
                subst (λ z. IsAbove f r z) (sym (ap (λ k. at b.queue.items k) (let k : i ≡ a.tail = omega arith in k) ∙ e.1)) ma
          ]
        ])
    by_turn (turned_off pk same queue tail) =
        doomed y (at a.queue.items a.head) (same y y_not_x ∙ yb) ry yr (parked_open (stage b.stages.items (at a.queue.items a.head)) pk) xa
        (λ i lo hi. let lo2 : a.head + 1 ≤ i = subst (λ z. z ≤ i) t.head lo in let hi2 : i < a.tail = subst (λ z. i < z) tail hi in
        subst (λ z. IsAbove f r z) (sym (ap (λ z. at z i) queue)) (others i (omega arith) hi2))

-- where a node above r is alone in the queue, a blocked node stands below r
parked_below : (f : Layout) (row : List ℕ) (r x : ℕ) (a : Climber) → IsLayout f → AreLeaves f row → Holds f row r → Kept f row a → Ladder f r a.stages.items → IsAbove f r x → stage a.stages.items x ≡ Queued → a.parked ≢ 0 →
    (y : ℕ) × (stage a.stages.items y ≡ Blocked) × IsAtOrAbove f.slots r y × (y ≢ r)
parked_below f row r x a h rw holds k la xa xq some =
    let st : List Stage = a.stages.items in
    let y = some_parked st (let c : a.parked ≡ sum_by parked_one st = k.count in omega arith) in
    let ys : IsSeen (stage st y.0) = parked_seen (stage st y.0) y.1 in
    let xs : IsSeen (stage st x) = seen_by (stage st x) Queued xq tt in
    let not_placed : (z : ℕ) (m : NodeId) → parked_one (stage st z) ≡ 1 → stage st z ≡ Placed m → ⊥ = (λ z m p e. let q : parked_one (stage st z) ≡ 0 = ap parked_one e in absurd (omega arith)) in
    let yx : y.0 ≢ x = (λ e. let q : parked_one (stage st y.0) ≡ 0 = ap (λ v. parked_one (stage st v)) e ∙ ap parked_one xq in let p : parked_one (stage st y.0) ≡ 1 = y.1 in absurd (omega arith)) in
    elim (side f row st r y.0 h holds k.climb ys) [
      | inl ya ↦ absurd (elim (one_path f x y.0 r h xa.0 ya.0) [
        | inl l ↦ let p = ladder_path f r st la x y.0 l ya.0 yx xs in not_placed y.0 p.0 y.1 p.1
        | inr l ↦ let p = ladder_path f r st la y.0 x l xa.0 (λ e. yx (sym e)) ys in queued_not st x p.0 xq p.1
      ])
      | inr ry ↦
          let yr : y.0 ≢ r = (λ e. let p = ladder_path f r st la x r xa.0 (here r) (λ q. xa.1 (sym q)) xs in not_placed y.0 p.0 y.1 (subst (λ v. stage st v ≡ Placed p.0) (sym e) p.1)) in
          elim (parked_cases (stage st y.0) y.1) [
            | inl b ↦ (y.0, b, ry, yr)
            | inr top ↦ absurd (yr (sym (top_alone f r y.0 (k.climb.tops y.0 top) ry)))
          ]
    ]

-- what is queued after a turn
queue_turn : (f : Layout) (row : List ℕ) (r : ℕ) (a b : Climber) (S : ℕ → Type 0) (i : ℕ) → Turning f row r a b → b.head ≤ i → i < b.tail →
    (a.head < i → i < a.tail → S (at a.queue.items i)) → ((m : NodeId) → stage b.stages.items (at a.queue.items a.head) ≡ Placed m → i ≡ a.tail → S m.index) → S (at b.queue.items i)
queue_turn f row r a b S i t lo hi old new = by_turn t.turned
  where
    by_turn : Turned a b (at a.queue.items a.head) → S (at b.queue.items i)
    by_turn (turned_up m px rest news front push) = elim (cases_lt i a.tail) [
      | inl l ↦ subst (λ z. S z) (sym (front i l)) (old (let e : b.head ≡ a.head + 1 = t.head in omega arith) l)
      | inr g ↦ elim push [
        | inl e ↦ absurd (omega arith)
        | inr e ↦ let et : b.tail ≡ a.tail + 1 = e.0 in let k : i ≡ a.tail = omega arith in
            subst (λ z. S z) (sym (ap (λ j. at b.queue.items j) k ∙ e.1)) (new m px k)
      ]
    ]
    by_turn (turned_off pk same queue tail) =
        let e : b.head ≡ a.head + 1 = t.head in
        subst (λ z. S z) (sym (ap (λ z. at z i) queue)) (old (omega arith) (omega arith))

tail_turn : (f : Layout) (row : List ℕ) (r : ℕ) (a b : Climber) → Turning f row r a b → (b.tail ≡ a.tail) ⊎ (b.tail ≡ a.tail + 1)
tail_turn f row r a b t = by_turn t.turned
  where
    by_turn : Turned a b (at a.queue.items a.head) → (b.tail ≡ a.tail) ⊎ (b.tail ≡ a.tail + 1)
    by_turn (turned_up m px rest news front push) = elim push [ inl e ↦ inl e | inr e ↦ inr e.0 ]
    by_turn (turned_off pk same queue tail) = inl tail

front_turn : (f : Layout) (row : List ℕ) (r : ℕ) (a b : Climber) → Turning f row r a b → (i : ℕ) → i < a.tail → at b.queue.items i ≡ at a.queue.items i
front_turn f row r a b t i l = by_turn t.turned
  where
    by_turn : Turned a b (at a.queue.items a.head) → at b.queue.items i ≡ at a.queue.items i
    by_turn (turned_up m px rest news front push) = front i l
    by_turn (turned_off pk same queue tail) = ap (λ z. at z i) queue

-- the turn of a node at or below r
course_below : (f : Layout) (row : List ℕ) (r : ℕ) (a b : Climber) (ta tb : ℕ) → IsLayout f → Turning f row r a b → Ladder f r a.stages.items → IsAtOrAbove f.slots r (at a.queue.items a.head) →
    Course f r a ta tb → Course f r b ta (tb + 1)
course_below f row r a b ta tb h t la rx (calm le others) =
    let eh : b.head ≡ a.head + 1 = t.head in let lt : a.head < a.tail = t.some in
    elim (cases_eq (at a.queue.items a.head) r) [
      | inl xr ↦ elim (tail_turn f row r a b t) [
        | inl same ↦ calm (omega arith) (λ i lo hi. queue_turn f row r a b (λ z. IsAtOrAbove f.slots r z) i t lo hi (λ l g. others i (omega arith) g) (λ m px e. absurd (omega arith)))
        | inr one ↦ ahead a.tail (omega arith) (omega arith) (omega arith)
            (queue_turn f row r a b (λ z. IsAbove f r z) a.tail t (omega arith) (omega arith) (λ l g. absurd (omega arith))
            (λ m px e. up_above f r (at a.queue.items a.head) m.index h (t.new.climb.above (at a.queue.items a.head) m px).0 (subst (λ z. IsAtOrAbove f.slots z r) (sym xr) (here r))))
            (λ i lo hi ne. queue_turn f row r a b (λ z. IsAtOrAbove f.slots r z) i t lo hi (λ l g. others i (omega arith) g) (λ m px e. absurd (ne e)))
            (inl (omega arith))
      ]
      | inr xn ↦ calm (omega arith) (λ i lo hi. queue_turn f row r a b (λ z. IsAtOrAbove f.slots r z) i t lo hi (λ l g. others i (omega arith) g)
          (λ m px e. up_below f r (at a.queue.items a.head) m.index h (t.new.climb.above (at a.queue.items a.head) m px).0 rx xn))
    ]
course_below f row r a b ta tb h t la rx (ahead p le lo hi ap_is others fair) =
    let eh : b.head ≡ a.head + 1 = t.head in let lt : a.head < a.tail = t.some in
    let pn : p ≢ a.head = (λ e. let xa : IsAbove f r (at a.queue.items a.head) = subst (λ k. IsAbove f r (at a.queue.items k)) e ap_is in
    xa.1 (sym (one_way f r (at a.queue.items a.head) h rx xa.0))) in
    let xn : at a.queue.items a.head ≢ r = (λ e.
    let q = ladder_path f r a.stages.items la (at a.queue.items p) r ap_is.0 (here r) (λ d. ap_is.1 (sym d)) (t.old.queue.seen p hi) in
    queued_not a.stages.items (at a.queue.items a.head) q.0 (x_queued f row r a b t) (subst (λ z. stage a.stages.items z ≡ Placed q.0) (sym e) q.1)) in
    let hi2 : p < b.tail = (elim (tail_turn f row r a b t) [ inl e ↦ omega arith | inr e ↦ omega arith ]) in
    ahead p (omega arith) (omega arith) hi2 (subst (λ z. IsAbove f r z) (sym (front_turn f row r a b t p hi)) ap_is)
    (λ i l2 h2 ne. queue_turn f row r a b (λ z. IsAtOrAbove f.slots r z) i t l2 h2 (λ l g. others i (omega arith) g ne)
    (λ m px e. up_below f r (at a.queue.items a.head) m.index h (t.new.climb.above (at a.queue.items a.head) m px).0 rx xn))
    (elim fair [ inl e ↦ inl (omega arith) | inr e ↦ absurd (omega arith) ])
course_below f row r a b ta tb h t la rx (doomed y n yb ry yr nop na all) =
    let lt : a.head < a.tail = t.some in
    let xa : IsAbove f r (at a.queue.items a.head) = all a.head (omega arith) lt in
    absurd (xa.1 (sym (one_way f r (at a.queue.items a.head) h rx xa.0)))

-- the turn of a node above r
course_above : (f : Layout) (row : List ℕ) (r : ℕ) (a b : Climber) (ta tb : ℕ) → IsLayout f → AreLeaves f row → Turning f row r a b → Ladder f r a.stages.items → IsAbove f r (at a.queue.items a.head) →
    Course f r a ta tb → Course f r b (ta + 1) tb
course_above f row r a b ta tb h rw t la xa (calm le others) =
    let lt : a.head < a.tail = t.some in
    absurd (xa.1 (sym (one_way f r (at a.queue.items a.head) h (others a.head (omega arith) lt) xa.0)))
course_above f row r a b ta tb h rw t la xa (doomed y n yb ry yr nop na all) =
    doom f row r a b y (ta + 1) tb h t la xa yb ry yr (λ i l g. all i (omega arith) g)
course_above f row r a b ta tb h rw t la xa (ahead p le lo hi ap_is others fair) =
    let eh : b.head ≡ a.head + 1 = t.head in let lt : a.head < a.tail = t.some in
    let pe : p ≡ a.head = (elim (cases_eq p a.head) [
      | inl e ↦ e
      | inr ne ↦ absurd (xa.1 (sym (one_way f r (at a.queue.items a.head) h (others a.head (omega arith) lt (λ d. ne (sym d))) xa.0)))
    ]) in
    let next_above : (m : NodeId) → stage b.stages.items (at a.queue.items a.head) ≡ Placed m → IsAbove f r m.index =
    (λ m px. up_above f r (at a.queue.items a.head) m.index h (t.new.climb.above (at a.queue.items a.head) m px).0 xa.0) in
    elim fair [
      | inl e ↦ elim (tail_turn f row r a b t) [
        | inl same ↦ calm (omega arith) (λ i l2 h2. queue_turn f row r a b (λ z. IsAtOrAbove f.slots r z) i t l2 h2 (λ l g. others i (omega arith) g (omega arith)) (λ m px d. absurd (omega arith)))
        | inr one ↦ ahead a.tail (omega arith) (omega arith) (omega arith)
            (queue_turn f row r a b (λ z. IsAbove f r z) a.tail t (omega arith) (omega arith) (λ l g. absurd (omega arith)) (λ m px d. next_above m px))
            (λ i l2 h2 ne. queue_turn f row r a b (λ z. IsAtOrAbove f.slots r z) i t l2 h2 (λ l g. others i (omega arith) g (omega arith)) (λ m px d. absurd (ne d)))
            (elim (cases_eq a.tail (a.head + 1)) [
              | inl d ↦ inr (omega arith)
              | inr d ↦ inl (omega arith)
            ])
      ]
      | inr e ↦
          let y = parked_below f row r (at a.queue.items a.head) a h rw t.holds t.old la xa (x_queued f row r a b t) (t.more (sym e)) in
          doom f row r a b y.0 (ta + 1) tb h t la xa y.1 y.2 y.3 (λ i l g. absurd (omega arith))
    ]

pub fair_turn : (f : Layout) (row : List ℕ) (r : ℕ) (a b : Climber) → IsLayout f → AreLeaves f row → Turning f row r a b → Fair f r a → Fair f r b
fair_turn f row r a b h rw t g =
    let lt : a.head < a.tail = t.some in
    let before : Counted f r b.queue.items a.head g.above g.below = counted_same f r a.queue.items b.queue.items a.head g.above g.below g.counted (λ i l. front_turn f row r a b t i (omega arith)) in
    let same_x : at b.queue.items a.head ≡ at a.queue.items a.head = front_turn f row r a b t a.head lt in
    elim (side f row a.stages.items r (at a.queue.items a.head) h t.holds t.old.climb (t.old.queue.seen a.head lt)) [
      | inl xa ↦ record {
        above = g.above + 1;
        below = g.below;
        counted = counted_above a.head g.above g.below b.head (g.above + 1) t.head refl (subst (λ z. IsAbove f r z) (sym same_x) xa) before;
        course = course_above f row r a b g.above g.below h rw t g.ladder xa g.course;
        ladder = ladder_turn f row r a b h t g.ladder;
      }
      | inr rx ↦ record {
        above = g.above;
        below = g.below + 1;
        counted = counted_below a.head g.above g.below b.head (g.below + 1) t.head refl (subst (λ z. IsAtOrAbove f.slots r z) (sym same_x) rx) before;
        course = course_below f row r a b g.above g.below h t g.ladder rx g.course;
        ladder = ladder_turn f row r a b h t g.ladder;
      }
    ]

-- as the leaves are queued, all is calm
pub fair_begun : (f : Layout) (row : List ℕ) (r : ℕ) (w : Climber) → IsLayout f → AreLeaves f row → Holds f row r → IsQueueing f row w → Fair f r w
fair_begun f row r w h rw holds g =
    let in_row : (x : ℕ) → IsSeen (stage w.stages.items x) → 1 ≤ occurs row x =
    (λ x s. elim (cases_lt 0 (occurs row x)) [
      | inl l ↦ l
      | inr l ↦ absurd (subst (λ z. IsSeen z) (g.rest x (omega arith)) s)
    ]) in
    record {
      above = 0;
      below = 0;
      counted = subst (λ n. Counted f r w.queue.items n 0 0) (sym g.head) counted_none;
      course = calm (omega arith) (λ i lo hi. holds (at w.queue.items i) (in_row (at w.queue.items i) (g.ready.kept.queue.seen i hi)));
      ladder = λ n c s o l.
          let e : children_at f n ≡ [] = subst (λ z. MayHaveChildren z (children_at f n)) (rw.leaf n (in_row n s)).1 (h.children_fit n) in
          let z : 1 ≤ occurs [] c = subst (λ k. 1 ≤ occurs k c) e o in absurd (omega arith);
    }

-- the turns at or below r, as a list
pub record Lower (f : Layout) (r : ℕ) (q : List NodeId) (n b : ℕ) : Type 0 where
  pub xs : List ℕ
  pub long : length xs ≡ b
  pub from : (x : ℕ) → 1 ≤ occurs xs x → ((i : ℕ) × (i < n) × (at q i ≡ x)) × IsAtOrAbove f.slots r x
  pub once : ((i j : ℕ) → i < j → j < n → at q i ≢ at q j) → (x : ℕ) → occurs xs x ≤ 1

lower : (f : Layout) (r : ℕ) (q : List NodeId) (n a b : ℕ) → Counted f r q n a b → Lower f r q n b
lower f r q _ _ _ counted_none = record { xs = []; long = refl; from = λ x o. absurd (omega arith); once = λ d x. omega arith }
lower f r q _ _ _ (counted_above n a b n' a' en ea x c) =
    let l : Lower f r q n b = lower f r q n a b c in
    record {
      xs = l.xs;
      long = l.long;
      from = λ y o. let p = l.from y o in let lt : p.0.0 < n = p.0.1 in ((p.0.0, (let k : p.0.0 < n' = omega arith in k), p.0.2), p.1);
      once = λ d y. l.once (λ i j a b. d i j a (omega arith)) y;
    }
lower f r q _ _ _ (counted_below n a b n' b' en eb x c) =
    let l : Lower f r q n b = lower f r q n a b c in
    record {
      xs = at q n ∷ l.xs;
      long = let k : length l.xs ≡ b = l.long in let e : length (at q n ∷ l.xs) ≡ b' = omega arith in e;
      from = λ y o. elim (cases_eq y (at q n)) [
        | inl e ↦ ((n, omega arith, sym e), subst (λ z. IsAtOrAbove f.slots r z) (sym e) x)
        | inr ne ↦ let p = l.from y (subst (λ v. 1 ≤ v) (occurs_other (at q n) y l.xs ne) o) in let lt : p.0.0 < n = p.0.1 in ((p.0.0, (let k : p.0.0 < n' = omega arith in k), p.0.2), p.1)
      ];
      once = λ d y. elim (cases_eq y (at q n)) [
        | inl e ↦ elim (cases_lt 0 (occurs l.xs y)) [
          | inl o ↦ let p = l.from y o in let lt : p.0.0 < n = p.0.1 in absurd (d p.0.0 n lt (omega arith) (p.0.2 ∙ e))
          | inr o ↦ let k : occurs (at q n ∷ []) y ≤ 1 = one (at q n) y in omega arith
        ]
        | inr ne ↦ subst (λ v. v ≤ 1) (sym (occurs_other (at q n) y l.xs ne)) (l.once (λ i j a b. d i j a (omega arith)) y)
      ];
    }
  where
    one : (z y : ℕ) → occurs (z ∷ []) y ≤ 1
    one z y = elim (cases_eq y z) [
      | inl e ↦ subst (λ v. occurs (z ∷ []) v ≤ 1) (sym e) (omega (arith, occurs_same z []))
      | inr ne ↦ omega (arith, occurs_other z y [] ne)
    ]

-- where no open node is above another, the turns are few
pub few_turns : (f : Layout) (row : List ℕ) (r a : ℕ) (w : Climber) → IsLayout f → Kept f row w → Fair f r w → AtMost f row r a →
    ((y n : ℕ) → IsOpen (stage w.stages.items y) → IsOpen (stage w.stages.items n) → IsAtOrAbove f.slots n y → n ≡ y) → w.head ≤ 2 * a + 1
few_turns f row r a w h k g most flat =
    let l : Lower f r w.queue.items w.head g.below = lower f r w.queue.items w.head g.above g.below g.counted in
    let o : w.head ≤ w.tail = k.queue.order in
    let b : length l.xs ≤ a = most l.xs (l.once (λ i j p q. k.queue.apart i j p (omega arith)))
    (λ x ox. let p = l.from x ox in let lt : p.0.0 < w.head = p.0.1 in
    (reached_meets f row w.stages.items k.climb x (k.climb.reached x (subst (λ z. IsSeen (stage w.stages.items z)) p.0.2 (k.queue.seen p.0.0 (omega arith)))), p.1)) in
    let s : w.head ≡ g.above + g.below = counted_sum f r w.queue.items w.head g.above g.below g.counted in
    let lead : g.above ≤ g.below + 1 = by_course g.course in
    omega (arith, l.long)
  where
    by_course : {ta tb : ℕ} → Course f r w ta tb → ta ≤ tb + 1
    by_course (calm le others) = le
    by_course (ahead p le lo hi ab others fair) = le
    by_course (doomed y n yb ry yr nop na all) =
        absurd (yr (sym (one_way f r y h ry (subst (λ z. IsAtOrAbove f.slots z r) (flat y n (subst (λ s. IsOpen s) (sym yb) tt) nop (join_leads f.slots n r y na.0 ry)) na.0))))

pub turns_once : (st : List Stage) (queue : List NodeId) (head tail : ℕ) → Queue st queue head tail → tail ≤ length queue → (n x : ℕ) → n ≤ tail → occurs (indices (take n queue)) x ≤ 1
turns_once st queue head tail q long zero x l = let e : occurs (indices (take 0 queue)) x ≡ 0 = refl in omega arith
turns_once st queue head tail q long (suc n) x l =
    let s : suc n ≡ n + 1 = omega arith in
    let e : occurs (indices (take (suc n) queue)) x ≡ occurs (indices (take n queue)) x + occurs (at queue n ∷ []) x =
    ap (λ k. occurs (indices (take k queue)) x) s ∙ ap (λ z. occurs z x) (turns_more queue n (omega arith)) ∙ occurs-append (indices (take n queue)) (at queue n ∷ []) x in
    elim (cases_eq x (at queue n)) [
      | inl i ↦ let z : occurs (indices (take n queue)) x ≡ 0 = subst (λ v. occurs (indices (take n queue)) v ≡ 0) (sym i) (turn_new st queue head tail n q long (omega arith)) in
          let o : occurs (at queue n ∷ []) x ≡ 1 = subst (λ v. occurs (at queue n ∷ []) v ≡ 1) (sym i) (omega (arith, occurs_same (at queue n) [])) in omega arith
      | inr ne ↦ let z : occurs (at queue n ∷ []) x ≡ 0 = occurs_other (at queue n) x [] ne in
          let r : occurs (indices (take n queue)) x ≤ 1 = turns_once st queue head tail q long n x (omega arith) in omega arith
    ]

-- no more turns than nodes that meet the row
pub all_turns : (f : Layout) (row : List ℕ) (a : ℕ) (w : Climber) → IsLayout f → AreLeaves f row → Kept f row w → AtMost f row f.root a → w.head ≤ a
all_turns f row a w h rw k most =
    let long : w.tail ≤ length w.queue.items = (let r : w.tail + sum_by unseen_one w.stages.items ≡ length w.stages.items = k.queue.room in let l : length w.queue.items ≡ length w.stages.items = k.queue.long in omega arith) in
    let o : w.head ≤ w.tail = k.queue.order in
    let b : length (indices (take w.head w.queue.items)) ≤ a = most (indices (take w.head w.queue.items))
    (λ x. turns_once w.stages.items w.queue.items w.head w.tail k.queue long w.head x o)
    (λ x ox. let j = turn_of w.queue.items w.head x (omega arith) ox in
    let lt : j.0 < w.head = j.1 in
    let m = reached_meets f row w.stages.items k.climb x (k.climb.reached x (subst (λ z. IsSeen (stage w.stages.items z)) j.2 (k.queue.seen j.0 (omega arith)))) in
    (m, root_above f x m.0 h (rw.below m.0 m.1) m.2)) in
    let e : length (indices (take w.head w.queue.items)) ≡ w.head = exactly w.queue.items w.head (omega arith) in
    omega arith

pub flat_found : (f : Layout) (w : Climber) (e : End) → IsFound e → IsFlat f w e → (y n : ℕ) → IsOpen (stage w.stages.items y) → IsOpen (stage w.stages.items n) → IsAtOrAbove f.slots n y → n ≡ y
flat_found f w Apart h l = absurd h
flat_found f w (Node r) h l = l
flat_found f w Run h l = l
