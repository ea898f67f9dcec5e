-- The tables as nodes are touched and forgotten.
use Rattle.std.proofs.Common.{◌≡◌, ◌≢◌, ◌⊎◌, inl, inr, ℕ, ◌+◌, ◌≤◌, ◌<◌, false, List, zero, suc, length, set, sum_by, take, replicate, get_or, Option, None, unwrap_or, refl, sym, ap, subst, ◌∙◌, arith}
use Rattle.std.proofs.lemmas.Bool.{cases_eq, cases_lt}
use Rattle.std.proofs.lemmas.List.{length-set, length-replicate, get_or-set_same, get_or-set_other, get_or_past, get_or_read}
use Rattle.std.proofs.lemmas.List.Sums.{get_or-le-sum_by}
use Rattle.pq_arena.specs.declared.node.NodeId.{NodeId}
use Rattle.bubble_pass.specs.declared.climber.Stage.{Stage}
use Rattle.bubble_pass.specs.declared.climber.Stage.TheVariants.{Unseen, Queued}
use Rattle.bubble_pass.specs.declared.climber.Climber.{Climber}
use Rattle.bubble_pass.specs.declared.labels.Label.{Label}
use Rattle.bubble_pass.specs.declared.labels.Label.TheVariants.{Empty}
use Rattle.bubble_pass.specs.declared.tables.Tables.{Tables}
use Rattle.pq_arena.specs.RowNodes.{indices}
use Rattle.bubble_pass.specs.Climb.{most_nodes, no_id, stage, at, IsSeen, unseen_one}
use Rattle.bubble_pass.specs.Moves.{Pushed, CanPush}
use Rattle.bubble_pass.specs.Tables.{node_at, seat_of, AreSized, IsBlankAt, KnownFrom, AreKept, Forgot, CanForget, AreClear, TouchedAt}
use Rattle.bubble_pass.specs.Marks.{tables_marks, AreBlank}
use Rattle.bubble_pass.proofs.Marks.{seen_by, seen_or, set_here, set_there, sum_set, at_set, at_new}
use Rattle.bubble_pass.proofs.Clears.{is_unseen}
use Rattle.bubble_pass.proofs.Begins.{all_unseen}

-- a default that was written, or stood there before
pub default_at : {A : Type 0} (l : List A) (x y : ℕ) (d : A) → (y ≡ x) ⊎ (get_or l y d ≡ d) → get_or (set l x d) y d ≡ d
default_at l x y d h = elim (cases_eq y x) [
  | inl e ↦ elim (cases_lt x (length l)) [
    | inl lt ↦ ap (λ v. get_or (set l x d) v d) e ∙ get_or-set_same l x d d lt
    | inr ge ↦ get_or_past (set l x d) y d (let q : length (set l x d) ≡ length l = length-set l x d in omega arith)
  ]
  | inr ne ↦ get_or-set_other l x y d d ne ∙ (elim h [ inl e ↦ absurd (ne e) | inr k ↦ k ])
]

forgot_sized : (a b : Tables) (x : NodeId) (n : ℕ) → AreSized a n → Forgot a b x → AreSized b n
forgot_sized a b x n s t = record {
  stages = ap (λ (v : List Stage). length v) t.stages ∙ length-set a.climber.stages.items x.index Unseen ∙ s.stages;
  queue = ap (λ (v : List NodeId). length v) t.queue ∙ s.queue;
  first = ap (λ (v : List (Option NodeId)). length v) t.first ∙ length-set a.chains.first.items x.index None ∙ s.first;
  next = ap (λ (v : List (Option NodeId)). length v) t.next ∙ length-set a.chains.next.items x.index None ∙ s.next;
  count = ap (λ (v : List ℕ). length v) t.count ∙ length-set a.chains.count.items x.index 0 ∙ s.count;
  labels = ap (λ (v : List Label). length v) t.labels ∙ length-set a.labels.labels.items x.index Empty ∙ s.labels;
  full = ap (λ (v : List ℕ). length v) t.full ∙ length-set a.labels.full.items x.index 0 ∙ s.full;
  partial = ap (λ (v : List ℕ). length v) t.partial ∙ length-set a.labels.partial.items x.index 0 ∙ s.partial;
  nodes = ap (λ (v : List NodeId). length v) t.nodes ∙ s.nodes;
  seat_nodes = ap (λ (v : List (Option NodeId)). length v) t.node ∙ length-set a.seats.nodes.items x.index None ∙ s.seat_nodes;
  seats = ap (λ (v : List (Option NodeId)). length v) t.seat ∙ length-set a.seats.seats.items x.index None ∙ s.seats;
  few = s.few;
}

-- after x was forgotten, nothing is known of it and of what nothing was known of
forgot_blank : (a b : Tables) (x : NodeId) (y : ℕ) → Forgot a b x → (y ≡ x.index) ⊎ IsBlankAt a y → IsBlankAt b y
forgot_blank a b x y t h = record {
  stage = ap (λ v. stage v y) t.stages ∙ default_at a.climber.stages.items x.index y Unseen (elim h [ inl e ↦ inl e | inr k ↦ inr k.stage ]);
  first = ap (λ v. get_or v y None) t.first ∙ default_at a.chains.first.items x.index y None (elim h [ inl e ↦ inl e | inr k ↦ inr k.first ]);
  next = ap (λ v. get_or v y None) t.next ∙ default_at a.chains.next.items x.index y None (elim h [ inl e ↦ inl e | inr k ↦ inr k.next ]);
  count = ap (λ v. get_or v y 0) t.count ∙ default_at a.chains.count.items x.index y 0 (elim h [ inl e ↦ inl e | inr k ↦ inr k.count ]);
  label = ap (λ v. get_or v y Empty) t.labels ∙ default_at a.labels.labels.items x.index y Empty (elim h [ inl e ↦ inl e | inr k ↦ inr k.label ]);
  full = ap (λ v. get_or v y 0) t.full ∙ default_at a.labels.full.items x.index y 0 (elim h [ inl e ↦ inl e | inr k ↦ inr k.full ]);
  partial = ap (λ v. get_or v y 0) t.partial ∙ default_at a.labels.partial.items x.index y 0 (elim h [ inl e ↦ inl e | inr k ↦ inr k.partial ]);
  node = ap (λ v. get_or v y None) t.node ∙ default_at a.seats.nodes.items x.index y None (elim h [ inl e ↦ inl e | inr k ↦ inr k.node ]);
  seat = ap (λ v. get_or v y None) t.seat ∙ default_at a.seats.seats.items x.index y None (elim h [ inl e ↦ inl e | inr k ↦ inr k.seat ]);
}

pub known_read : (t : Tables) (n i : ℕ) (x : NodeId) → KnownFrom t n i → i < t.climber.tail → x ≡ get_or t.climber.queue.items i x → x.index ≡ at t.climber.queue.items i
known_read t n i x k lt e = let r : t.climber.tail ≤ n = k.room in let l : length t.climber.queue.items ≡ n = k.sized.queue in
    ap (λ (v : NodeId). v.index) (get_or_read t.climber.queue.items i x (omega arith) e no_id)

pub can_forget : (t : Tables) (n i : ℕ) (x : NodeId) → KnownFrom t n i → i < t.climber.tail → x.index ≡ at t.climber.queue.items i → CanForget t x.index
can_forget t n i x k lt e = record { n = n; sized = k.sized; x_in = subst (λ v. v < n) (sym e) (k.inside i lt) }

pub forget_more : (a b : Tables) (n i : ℕ) (x : NodeId) → KnownFrom a n i → i < a.climber.tail → x.index ≡ at a.climber.queue.items i → Forgot a b x → KnownFrom b n (i + 1)
forget_more a b n i x k lt e t =
    let lx : x.index < length a.climber.stages.items = (let l : x.index < n = subst (λ v. v < n) (sym e) (k.inside i lt) in let s : length a.climber.stages.items ≡ n = k.sized.stages in omega arith) in
    let here : stage b.climber.stages.items x.index ≡ Unseen = ap (λ v. stage v x.index) t.stages ∙ set_here a.climber.stages.items x.index Unseen lx in
    let there : (y : ℕ) → y ≢ x.index → stage b.climber.stages.items y ≡ stage a.climber.stages.items y = (λ y ne. ap (λ v. stage v y) t.stages ∙ set_there a.climber.stages.items x.index y Unseen ne) in
    let tail : b.climber.tail ≡ a.climber.tail = t.tail in
    record {
      sized = forgot_sized a b x n k.sized t;
      all = λ y seen. elim (cases_eq y x.index) [
        | inl q ↦ absurd (subst (λ v. IsSeen v) here (subst (λ v. IsSeen (stage b.climber.stages.items v)) q seen))
        | inr ne ↦ let p = k.all y (subst (λ v. IsSeen v) (there y ne) seen) in
            let lo : i ≤ p.0 = p.1 in let hi : p.0 < a.climber.tail = p.2 in
            let ni : p.0 ≢ i = (λ q. ne (sym p.3 ∙ ap (λ v. at a.climber.queue.items v) q ∙ sym e)) in
            (p.0, (let q : i + 1 ≤ p.0 = omega arith in q), (let q : p.0 < b.climber.tail = omega arith in q), ap (λ v. at v p.0) t.queue ∙ p.3)
      ];
      inside = λ j l. subst (λ v. at v j < n) (sym t.queue) (k.inside j (omega arith));
      room = let r : a.climber.tail ≤ n = k.room in omega arith;
      blank = λ y u. forgot_blank a b x y t (elim (cases_eq y x.index) [
        | inl q ↦ inl q
        | inr ne ↦ inr (k.blank y (sym (there y ne) ∙ u))
      ]);
      order = omega arith;
      len = let l : a.labels.len ≤ n = k.len in let e : b.labels.len ≡ a.labels.len = t.len in omega arith;
    }

-- nothing is seen any more
pub all_blank : (t : Tables) (n i x : ℕ) → KnownFrom t n i → t.climber.tail ≤ i → IsBlankAt t x
all_blank t n i x k ge = k.blank x (is_unseen (stage t.climber.stages.items x) (λ s. let p = k.all x s in let lo : i ≤ p.0 = p.1 in let hi : p.0 < t.climber.tail = p.2 in absurd (omega arith)))

unseen_sum : (st : List Stage) → ((x : ℕ) → stage st x ≡ Unseen) → sum_by unseen_one st ≡ length st
unseen_sum st h = all_unseen st h

pub clear_kept : (t : Tables) (n : ℕ) → AreClear t n → AreKept t
clear_kept t n c =
    let size : length t.climber.stages.items ≡ n = c.sized.stages in
    let tail : t.climber.tail ≡ 0 = c.tail in let len : t.labels.len ≡ 0 = c.len in
    record {
      known = record {
        sized = subst (λ v. AreSized t v) (sym size) c.sized;
        all = λ x s. absurd (subst (λ v. IsSeen v) (c.blank x).stage s);
        inside = λ j l. absurd (omega arith);
        room = omega arith;
        blank = λ x u. c.blank x;
        order = omega arith;
        len = omega arith;
      };
      room = omega (arith, unseen_sum t.climber.stages.items (λ x. (c.blank x).stage));
      inverse = record {
        there = λ x. ap (λ s. node_at t.seats.nodes.items s) (own t.seats.seats.items x (c.blank x.index).seat) ∙ own t.seats.nodes.items x (c.blank x.index).node;
        back = λ x. ap (λ s. seat_of t.seats.seats.items s) (own t.seats.nodes.items x (c.blank x.index).node) ∙ own t.seats.seats.items x (c.blank x.index).seat;
        inside = λ x l. subst (λ (v : NodeId). v.index < length t.seats.nodes.items) (sym (own t.seats.seats.items x (c.blank x.index).seat))
            (let a : length t.seats.nodes.items ≡ n = c.sized.seat_nodes in let b : length t.seats.seats.items ≡ n = c.sized.seats in omega arith);
      };
    }
  where
    own : (l : List (Option NodeId)) (x : NodeId) → get_or l x.index None ≡ None → node_at l x ≡ x
    own l x e = ap (λ v. unwrap_or v x) e

pub tables_clear : (t u : Tables) (n i : ℕ) → KnownFrom t n i → t.climber.tail ≤ i → u ≡ record t { climber = record t.climber { head = 0; tail = 0; parked = 0 }; labels = record t.labels { len = 0 }; inside = false } → AreClear u n
tables_clear t u n i k ge e = subst (λ v. AreClear v n) (sym e) (record {
  sized = record {
    stages = k.sized.stages;
    queue = k.sized.queue;
    first = k.sized.first;
    next = k.sized.next;
    count = k.sized.count;
    labels = k.sized.labels;
    full = k.sized.full;
    partial = k.sized.partial;
    nodes = k.sized.nodes;
    seat_nodes = k.sized.seat_nodes;
    seats = k.sized.seats;
    few = k.sized.few;
  };
  blank = λ x. let b : IsBlankAt t x = all_blank t n i x k ge in record { stage = b.stage; first = b.first; next = b.next; count = b.count; label = b.label; full = b.full; partial = b.partial; node = b.node; seat = b.seat };
  head = refl;
  tail = refl;
  parked = refl;
  len = refl;
  outside = refl;
})

-- x waits, of which nothing was known
pub pushed_kept : (a : Tables) (w : Climber) (x : NodeId) → AreKept a → x.index < length a.climber.stages.items → stage a.climber.stages.items x.index ≡ Unseen → Pushed a.climber w x →
    TouchedAt a (record a { climber = w }) x
pushed_kept a w x k lx u t =
    let n : ℕ = length a.climber.stages.items in
    let st : List Stage = a.climber.stages.items in
    let z : AreSized a n = k.known.sized in
    let one : unseen_one (stage st x.index) ≡ 1 = ap unseen_one u in
    let some : unseen_one (stage st x.index) ≤ sum_by unseen_one st = get_or-le-sum_by unseen_one st x.index Unseen lx in
    let room : a.climber.tail + sum_by unseen_one st ≡ n = k.room in
    let ql : length a.climber.queue.items ≡ n = z.queue in
    let len : length w.stages.items ≡ n = ap (λ (v : List Stage). length v) t.stages ∙ length-set st x.index Queued in
    let here : stage w.stages.items x.index ≡ Queued = ap (λ v. stage v x.index) t.stages ∙ set_here st x.index Queued lx in
    let there : (y : ℕ) → y ≢ x.index → stage w.stages.items y ≡ stage st y = (λ y ne. ap (λ v. stage v y) t.stages ∙ set_there st x.index y Queued ne) in
    let tail : w.tail ≡ a.climber.tail + 1 = t.tail in
    let old : (j : ℕ) → j < a.climber.tail → at w.queue.items j ≡ at a.climber.queue.items j = (λ j l. ap (λ v. at v j) t.queue ∙ at_set a.climber.queue.items a.climber.tail j x (omega arith)) in
    let new : at w.queue.items a.climber.tail ≡ x.index = ap (λ v. at v a.climber.tail) t.queue ∙ at_new a.climber.queue.items a.climber.tail x (omega arith) in
    record {
      kept = record {
        known = subst (λ v. KnownFrom (record a { climber = w }) v 0) (sym len) (record {
          sized = record {
            stages = len;
            queue = ap (λ (v : List NodeId). length v) t.queue ∙ length-set a.climber.queue.items a.climber.tail x ∙ ql;
            first = z.first;
            next = z.next;
            count = z.count;
            labels = z.labels;
            full = z.full;
            partial = z.partial;
            nodes = z.nodes;
            seat_nodes = z.seat_nodes;
            seats = z.seats;
            few = z.few;
          };
          all = λ y seen. elim (cases_eq y x.index) [
            | inl e ↦ (a.climber.tail, omega arith, omega arith, new ∙ sym e)
            | inr ne ↦ let p = k.known.all y (subst (λ v. IsSeen v) (there y ne) seen) in let hi : p.0 < a.climber.tail = p.2 in
                (p.0, p.1, (let q : p.0 < w.tail = omega arith in q), old p.0 hi ∙ p.3)
          ];
          inside = λ j l. elim (cases_lt j a.climber.tail) [
            | inl lt ↦ subst (λ v. v < n) (sym (old j lt)) (k.known.inside j lt)
            | inr ge ↦ subst (λ v. v < n) (sym (ap (λ v. at w.queue.items v) (let e : j ≡ a.climber.tail = omega arith in e) ∙ new)) lx
          ];
          room = omega arith;
          blank = λ y v. let ne : y ≢ x.index = (λ e. let q = sym (subst (λ i. stage w.stages.items i ≡ Unseen) e v) ∙ here in cc) in
              let b : IsBlankAt a y = k.known.blank y (sym (there y ne) ∙ v) in
              record { stage = v; first = b.first; next = b.next; count = b.count; label = b.label; full = b.full; partial = b.partial; node = b.node; seat = b.seat };
          order = omega arith;
          len = k.known.len;
        });
        room = let s : sum_by unseen_one w.stages.items ≡ sum_by unseen_one (set st x.index Queued) = ap (λ v. sum_by unseen_one v) t.stages in
            let zq : unseen_one Queued ≡ 0 = refl in omega (arith, sum_set unseen_one st x.index Queued lx);
        inverse = k.inverse;
      };
      seen = seen_by (stage w.stages.items x.index) Queued here tt;
      still = λ y s. elim (cases_eq y x.index) [
        | inl e ↦ subst (λ v. IsSeen (stage w.stages.items v)) (sym e) (seen_by (stage w.stages.items x.index) Queued here tt)
        | inr ne ↦ seen_by (stage w.stages.items y) (stage st y) (there y ne) s
      ];
      size = len;
      chains = refl;
      labels = refl;
      seats = refl;
      inside = refl;
    }

pub seen_kept : (a : Tables) (x : NodeId) → AreKept a → stage a.climber.stages.items x.index ≢ Unseen → TouchedAt a a x
seen_kept a x k ne = record { kept = k; seen = seen_or (stage a.climber.stages.items x.index) ne; still = λ y s. s; size = refl; chains = refl; labels = refl; seats = refl; inside = refl }

pub push_can : (a : Tables) (x : NodeId) → AreKept a → x.index < length a.climber.stages.items → stage a.climber.stages.items x.index ≡ Unseen → CanPush a.climber x.index
push_can a x k lx u =
    let st : List Stage = a.climber.stages.items in
    let one : unseen_one (stage st x.index) ≡ 1 = ap unseen_one u in
    let some : unseen_one (stage st x.index) ≤ sum_by unseen_one st = get_or-le-sum_by unseen_one st x.index Unseen lx in
    let room : a.climber.tail + sum_by unseen_one st ≡ length st = k.room in
    let ql : length a.climber.queue.items ≡ length st = k.known.sized.queue in
    let few : length st ≤ most_nodes = k.known.sized.few in
    record { n_in = lx; room = omega arith; few = omega arith }

-- what was seen stays so
pub touched_still : (a b : Tables) (x : NodeId) (y : ℕ) → TouchedAt a b x → IsSeen (stage a.climber.stages.items y) → IsSeen (stage b.climber.stages.items y)
touched_still a b x y t s = t.still y s

-- a table as it was made
fresh : {A : Type 0} (n x : ℕ) (d : A) → get_or (replicate n d) x d ≡ d
fresh zero x d = refl
fresh (suc n) zero d = refl
fresh (suc n) (suc x) d = fresh n x d

-- the tables as they were made
pub record AreFresh (t : Tables) (n : ℕ) : Type 0 where
  pub few : n ≤ most_nodes
  pub stages : t.climber.stages.items ≡ replicate n Unseen
  pub queue : length t.climber.queue.items ≡ n
  pub first : t.chains.first.items ≡ replicate n None
  pub next : t.chains.next.items ≡ replicate n None
  pub count : t.chains.count.items ≡ replicate n 0
  pub labels : t.labels.labels.items ≡ replicate n Empty
  pub full : t.labels.full.items ≡ replicate n 0
  pub partial : t.labels.partial.items ≡ replicate n 0
  pub nodes : length t.labels.nodes.items ≡ n
  pub seat_nodes : t.seats.nodes.items ≡ replicate n None
  pub seats : t.seats.seats.items ≡ replicate n None
  pub head : t.climber.head ≡ 0
  pub tail : t.climber.tail ≡ 0
  pub parked : t.climber.parked ≡ 0
  pub len : t.labels.len ≡ 0
  pub outside : t.inside ≡ false

pub fresh_clear : (t : Tables) (n : ℕ) → AreFresh t n → AreClear t n
fresh_clear t n f = record {
  sized = record {
    stages = ap (λ (v : List Stage). length v) f.stages ∙ length-replicate n Unseen;
    queue = f.queue;
    first = ap (λ (v : List (Option NodeId)). length v) f.first ∙ length-replicate n None;
    next = ap (λ (v : List (Option NodeId)). length v) f.next ∙ length-replicate n None;
    count = ap (λ (v : List ℕ). length v) f.count ∙ length-replicate n 0;
    labels = ap (λ (v : List Label). length v) f.labels ∙ length-replicate n Empty;
    full = ap (λ (v : List ℕ). length v) f.full ∙ length-replicate n 0;
    partial = ap (λ (v : List ℕ). length v) f.partial ∙ length-replicate n 0;
    nodes = f.nodes;
    seat_nodes = ap (λ (v : List (Option NodeId)). length v) f.seat_nodes ∙ length-replicate n None;
    seats = ap (λ (v : List (Option NodeId)). length v) f.seats ∙ length-replicate n None;
    few = f.few;
  };
  blank = λ x. record {
    stage = ap (λ v. stage v x) f.stages ∙ fresh n x Unseen;
    first = ap (λ v. get_or v x None) f.first ∙ fresh n x None;
    next = ap (λ v. get_or v x None) f.next ∙ fresh n x None;
    count = ap (λ v. get_or v x 0) f.count ∙ fresh n x 0;
    label = ap (λ v. get_or v x Empty) f.labels ∙ fresh n x Empty;
    full = ap (λ v. get_or v x 0) f.full ∙ fresh n x 0;
    partial = ap (λ v. get_or v x 0) f.partial ∙ fresh n x 0;
    node = ap (λ v. get_or v x None) f.seat_nodes ∙ fresh n x None;
    seat = ap (λ v. get_or v x None) f.seats ∙ fresh n x None;
  };
  head = f.head;
  tail = f.tail;
  parked = f.parked;
  len = f.len;
  outside = f.outside;
}

-- tables of which nothing is known hold no marks
pub clear_marks : (t : Tables) (n : ℕ) → AreClear t n → AreBlank (tables_marks t)
clear_marks t n c = record {
  labels = λ x. (c.blank x).label;
  nodes = ap (λ k. indices (take k t.labels.nodes.items)) c.len;
  outside = c.outside;
}
