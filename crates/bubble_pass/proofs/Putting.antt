-- Two nodes exchange their times_child in the chains.
use Rattle.std.proofs.Common.{◌≡◌, ◌≢◌, inl, inr, ℕ, ◌≤◌, ◌<◌, cond, eqb, List, [], ◌∷◌, length, set, take, map, get_or, unwrap_or, Option, Some, None, refl, sym, ap, subst, ◌∙◌, arith, eq-eqb}
use Rattle.std.proofs.lemmas.Bool.{cases_eq, ne_eqb}
use Rattle.std.proofs.lemmas.List.{length-set, get_or-set_same, get_or-set_other}
use Rattle.pq_arena.specs.declared.node.NodeId.{NodeId}
use Rattle.bubble_pass.specs.declared.climber.Stage.TheVariants.{Unseen}
use Rattle.bubble_pass.specs.declared.labels.Label.{Label}
use Rattle.bubble_pass.specs.declared.labels.Label.TheVariants.{Empty}
use Rattle.bubble_pass.specs.declared.chains.Chains.{Chains}
use Rattle.bubble_pass.specs.declared.labels.Labels.{Labels}
use Rattle.bubble_pass.specs.declared.tables.Seats.{Seats}
use Rattle.bubble_pass.specs.declared.tables.Tables.{Tables}
use Rattle.pq_arena.specs.RowNodes.{indices}
use Rattle.bubble_pass.specs.Climb.{stage, IsSeen}
use Rattle.bubble_pass.specs.Chains.{entry}
use Rattle.bubble_pass.specs.Sweep.{Noted}
use Rattle.bubble_pass.specs.Tables.{node_at, seat_of, Swapped, CanExchange, AreInverse, AreSized, IsBlankAt, KnownFrom, AreKept, TouchedAt}
use Rattle.bubble_pass.proofs.Seats.{same_node}
use Rattle.bubble_pass.proofs.Marks.{seen_in}
use Rattle.bubble_pass.specs.Marks.{Marks, exchange, placed_node, first_of, next_of, IsFollowed, tables_marks, IsPut}

exchange_old : (old new x : NodeId) → x.index ≡ old.index → exchange old new x ≡ new
exchange_old old new x e = ap (λ b. cond b new (cond (eqb x.index new.index) old x)) (eq-eqb x.index old.index e)

exchange_new : (old new x : NodeId) → x.index ≡ new.index → exchange old new x ≡ old
exchange_new old new x e = elim (cases_eq x.index old.index) [
  | inl q ↦ exchange_old old new x q ∙ same_node new old (sym e ∙ q)
  | inr ne ↦ ap (λ b. cond b new (cond (eqb x.index new.index) old x)) (ne_eqb x.index old.index ne) ∙ ap (λ b. cond b old x) (eq-eqb x.index new.index e)
]

exchange_other : (old new x : NodeId) → x.index ≢ old.index → x.index ≢ new.index → exchange old new x ≡ x
exchange_other old new x not_old not_new = ap (λ b. cond b new (cond (eqb x.index new.index) old x)) (ne_eqb x.index old.index not_old) ∙ ap (λ b. cond b old x) (ne_eqb x.index new.index not_new)

exchange_back : (old new x : NodeId) → exchange old new (exchange old new x) ≡ x
exchange_back old new x = elim (cases_eq x.index old.index) [
  | inl e ↦ ap (λ y. exchange old new y) (exchange_old old new x e) ∙ exchange_new old new new refl ∙ same_node old x (sym e)
  | inr not_old ↦ elim (cases_eq x.index new.index) [
    | inl e ↦ ap (λ y. exchange old new y) (exchange_new old new x e) ∙ exchange_old old new old refl ∙ same_node new x (sym e)
    | inr not_new ↦ ap (λ y. exchange old new y) (exchange_other old new x not_old not_new) ∙ exchange_other old new x not_old not_new
  ]
]

exchange_in : (old new x : NodeId) (n : ℕ) → old.index < n → new.index < n → x.index < n → (exchange old new x).index < n
exchange_in old new x n lo ln lx = elim (cases_eq x.index old.index) [
  | inl e ↦ subst (λ (y : NodeId). y.index < n) (sym (exchange_old old new x e)) ln
  | inr not_old ↦ elim (cases_eq x.index new.index) [
    | inl e ↦ subst (λ (y : NodeId). y.index < n) (sym (exchange_new old new x e)) lo
    | inr not_new ↦ subst (λ (y : NodeId). y.index < n) (sym (exchange_other old new x not_old not_new)) lx
  ]
]

-- the nodes and times_child after the exchange
pub record Exchanged (a b : Seats) (old new : NodeId) : Type 0 where
  pub inverse : AreInverse a
  pub can : CanExchange a old new
  pub swapped : Swapped a b old new

-- the place of a node before the exchange
abbrev was_at : Seats → NodeId → NodeId
was_at a n = seat_of a.seats.items n

node_swapped : (a b : Seats) (old new s : NodeId) → Exchanged a b old new → node_at b.nodes.items s ≡ exchange old new (node_at a.nodes.items s)
node_swapped a b old new s x = elim (cases_eq s.index (was_at a new).index) [
  | inl e ↦ ap (λ l. unwrap_or (get_or l s.index None) s) x.swapped.nodes ∙ ap (λ i. unwrap_or (get_or twice i None) s) e
      ∙ ap (λ o. unwrap_or o s) (get_or-set_same once (was_at a new).index (Some old) None (let l : (was_at a new).index < length a.nodes.items = x.can.new_seat in omega (arith, length-set a.nodes.items (was_at a old).index (Some new))))
      ∙ sym (exchange_new old new (node_at a.nodes.items s) (ap (λ (v : NodeId). v.index) (ap (λ v. node_at a.nodes.items v) (same_node s (was_at a new) e) ∙ x.inverse.there new)))
  | inr ng ↦ elim (cases_eq s.index (was_at a old).index) [
    | inl e ↦ ap (λ l. unwrap_or (get_or l s.index None) s) x.swapped.nodes ∙ ap (λ o. unwrap_or o s) (get_or-set_other once (was_at a new).index s.index (Some old) None ng)
        ∙ ap (λ i. unwrap_or (get_or once i None) s) e ∙ ap (λ o. unwrap_or o s) (get_or-set_same a.nodes.items (was_at a old).index (Some new) None x.can.old_seat)
        ∙ sym (exchange_old old new (node_at a.nodes.items s) (ap (λ (v : NodeId). v.index) (ap (λ v. node_at a.nodes.items v) (same_node s (was_at a old) e) ∙ x.inverse.there old)))
    | inr nf ↦ ap (λ l. unwrap_or (get_or l s.index None) s) x.swapped.nodes ∙ ap (λ o. unwrap_or o s) (get_or-set_other once (was_at a new).index s.index (Some old) None ng)
        ∙ ap (λ o. unwrap_or o s) (get_or-set_other a.nodes.items (was_at a old).index s.index (Some new) None nf)
        ∙ sym (exchange_other old new (node_at a.nodes.items s) (off old nf) (off new ng))
  ]
]
  where
    once : List (Option NodeId)
    once = set a.nodes.items (was_at a old).index (Some new)

    twice : List (Option NodeId)
    twice = set once (was_at a new).index (Some old)

    off : (y : NodeId) → s.index ≢ (seat_of a.seats.items y).index → (node_at a.nodes.items s).index ≢ y.index
    off y ne e = ne (ap (λ (v : NodeId). v.index) (sym (x.inverse.back s) ∙ ap (λ v. seat_of a.seats.items v) (same_node (node_at a.nodes.items s) y e)))

seat_swapped : (a b : Seats) (old new y : NodeId) → Exchanged a b old new → seat_of b.seats.items (exchange old new y) ≡ seat_of a.seats.items y
seat_swapped a b old new y x = elim (cases_eq y.index old.index) [
  | inl e ↦ ap (λ v. seat_of b.seats.items v) (exchange_old old new y e) ∙ new_seat ∙ ap (λ v. seat_of a.seats.items v) (same_node old y (sym e))
  | inr not_old ↦ elim (cases_eq y.index new.index) [
    | inl e ↦ ap (λ v. seat_of b.seats.items v) (exchange_new old new y e) ∙ old_seat ∙ ap (λ v. seat_of a.seats.items v) (same_node new y (sym e))
    | inr not_new ↦ ap (λ v. seat_of b.seats.items v) (exchange_other old new y not_old not_new)
        ∙ ap (λ l. unwrap_or (get_or l y.index None) y) x.swapped.seats
        ∙ ap (λ o. unwrap_or o y) (get_or-set_other once old.index y.index (Some (was_at a new)) None not_old) ∙ ap (λ o. unwrap_or o y) (get_or-set_other a.seats.items new.index y.index (Some (was_at a old)) None not_new)
  ]
]
  where
    once : List (Option NodeId)
    once = set a.seats.items new.index (Some (was_at a old))

    old_seat : seat_of b.seats.items old ≡ was_at a new
    old_seat = ap (λ l. unwrap_or (get_or l old.index None) old) x.swapped.seats
        ∙ ap (λ o. unwrap_or o old) (get_or-set_same once old.index (Some (was_at a new)) None (let l : old.index < length a.seats.items = x.can.old_in in omega (arith, length-set a.seats.items new.index (Some (was_at a old)))))

    new_seat : seat_of b.seats.items new ≡ was_at a old
    new_seat = elim (cases_eq new.index old.index) [
      | inl e ↦ ap (λ v. seat_of b.seats.items v) (same_node new old e) ∙ old_seat ∙ ap (λ v. seat_of a.seats.items v) (same_node new old e)
      | inr ne ↦ ap (λ l. unwrap_or (get_or l new.index None) new) x.swapped.seats ∙ ap (λ o. unwrap_or o new) (get_or-set_other once old.index new.index (Some (was_at a new)) None ne)
          ∙ ap (λ o. unwrap_or o new) (get_or-set_same a.seats.items new.index (Some (was_at a old)) None x.can.new_in)
    ]

nodes_length : (a b : Seats) (old new : NodeId) → Swapped a b old new → length b.nodes.items ≡ length a.nodes.items
nodes_length a b old new t = ap (λ (v : List (Option NodeId)). length v) t.nodes ∙ length-set (set a.nodes.items (seat_of a.seats.items old).index (Some new)) (seat_of a.seats.items new).index (Some old)
    ∙ length-set a.nodes.items (seat_of a.seats.items old).index (Some new)

seats_length : (a b : Seats) (old new : NodeId) → Swapped a b old new → length b.seats.items ≡ length a.seats.items
seats_length a b old new t = ap (λ (v : List (Option NodeId)). length v) t.seats ∙ length-set (set a.seats.items new.index (Some (seat_of a.seats.items old))) old.index (Some (seat_of a.seats.items new))
    ∙ length-set a.seats.items new.index (Some (seat_of a.seats.items old))

inverse_swapped : (a b : Seats) (old new : NodeId) → Exchanged a b old new → AreInverse b
inverse_swapped a b old new x = record {
  there = λ y.
      ap (λ v. node_at b.nodes.items (seat_of b.seats.items v)) (sym (exchange_back old new y))
      ∙ ap (λ v. node_at b.nodes.items v) (seat_swapped a b old new (exchange old new y) x) ∙ node_swapped a b old new (seat_of a.seats.items (exchange old new y)) x
      ∙ ap (λ v. exchange old new v) (x.inverse.there (exchange old new y)) ∙ exchange_back old new y;
  back = λ s. ap (λ v. seat_of b.seats.items v) (node_swapped a b old new s x) ∙ seat_swapped a b old new (node_at a.nodes.items s) x ∙ x.inverse.back s;
  inside = λ y l.
      let e : seat_of b.seats.items y ≡ seat_of a.seats.items (exchange old new y) = ap (λ v. seat_of b.seats.items v) (sym (exchange_back old new y)) ∙ seat_swapped a b old new (exchange old new y) x in
      let ly : y.index < length a.seats.items = subst (λ k. y.index < k) (seats_length a b old new x.swapped) l in
      let r : (seat_of a.seats.items (exchange old new y)).index < length a.nodes.items = x.inverse.inside (exchange old new y) (exchange_in old new y (length a.seats.items) x.can.old_in x.can.new_in ly) in
      subst (λ k. (seat_of b.seats.items y).index < k) (sym (nodes_length a b old new x.swapped)) (subst (λ (v : NodeId). v.index < length a.nodes.items) (sym e) r);
}

-- what follows o in the chains, exchanged
abbrev turned : NodeId → NodeId → Option NodeId → Option NodeId
turned old new None = None
turned old new (Some x) = Some (exchange old new x)

placed_swapped : (a b : Seats) (old new : NodeId) (o : Option NodeId) → Exchanged a b old new → placed_node b.nodes.items o ≡ turned old new (placed_node a.nodes.items o)
placed_swapped a b old new None x = refl
placed_swapped a b old new (Some s) x = ap (λ v. Some v) (node_swapped a b old new s x)

followed_swapped : (a b : Marks) (s t : Seats) (old new : NodeId) (o : Option NodeId) (xs : List NodeId) → Exchanged s t old new → a.seat_nodes ≡ s.nodes.items → a.seats ≡ s.seats.items → b.seat_nodes ≡ t.nodes.items → b.seats ≡ t.seats.items → b.next ≡ a.next →
    IsFollowed a o xs → IsFollowed b (turned old new o) (map (exchange old new) xs)
followed_swapped a b s t old new o [] x an sa bn bs nx h = ap (λ v. turned old new v) h
followed_swapped a b s t old new o (y ∷ ys) x an sa bn bs nx h = (
  ap (λ v. turned old new v) h.0,
  subst (λ v. IsFollowed b v (map (exchange old new) ys)) (sym (next_swapped y)) (followed_swapped a b s t old new (next_of a y) ys x an sa bn bs nx h.1),
)
  where
    next_swapped : (y : NodeId) → next_of b (exchange old new y) ≡ turned old new (next_of a y)
    next_swapped y =
        ap (λ l. placed_node l (entry b.next (seat_of b.seats (exchange old new y)).index)) bn
        ∙ ap (λ l. placed_node t.nodes.items (entry b.next (seat_of l (exchange old new y)).index)) bs
        ∙ ap (λ (v : NodeId). placed_node t.nodes.items (entry b.next v.index)) (seat_swapped s t old new y x)
        ∙ ap (λ l. placed_node t.nodes.items (entry l (seat_of s.seats.items y).index)) nx
        ∙ placed_swapped s t old new (entry a.next (seat_of s.seats.items y).index) x
        ∙ ap (λ l. turned old new (placed_node l (entry a.next (seat_of s.seats.items y).index))) (sym an)
        ∙ ap (λ l. turned old new (placed_node a.seat_nodes (entry a.next (seat_of l y).index))) (sym sa)

-- the tables as two nodes exchange their times_child: a, after old and new were touched a2, b at the end
pub record Putting (a a2 : Tables) (seats : Seats) (labels : Labels) (old new : NodeId) (l : Label) : Type 0 where
  pub kept : AreKept a2
  pub old_seen : IsSeen (stage a2.climber.stages.items old.index)
  pub new_seen : IsSeen (stage a2.climber.stages.items new.index)
  pub chains : a2.chains ≡ a.chains
  pub labels_same : a2.labels ≡ a.labels
  pub seats_same : a2.seats ≡ a.seats
  pub inside : a2.inside ≡ a.inside
  pub exchanged : Exchanged a2.seats seats old new
  pub noted : Noted a2.labels labels new l

put_marks : (a a2 : Tables) (seats : Seats) (labels : Labels) (old new : NodeId) (l : Label) → Putting a a2 seats labels old new l → IsPut (tables_marks a2) (tables_marks (record a2 { seats = seats; labels = labels })) old new l
put_marks a a2 seats labels old new l p =
    let b : Tables = record a2 { seats = seats; labels = labels } in
    record {
      labels = p.noted.labels;
      nodes = ap (λ n. indices (take n labels.nodes.items)) p.noted.len ∙ ap (λ v. indices (take a2.labels.len v)) p.noted.nodes;
      full = p.noted.full;
      partial = p.noted.partial;
      inside = refl;
      chains = λ m xs h.
          subst (λ o. IsFollowed (tables_marks b) o (map (exchange old new) xs)) (sym (placed_swapped a2.seats seats old new (entry a2.chains.first.items m) p.exchanged))
          (followed_swapped (tables_marks a2) (tables_marks b) a2.seats seats old new (first_of (tables_marks a2) m) xs p.exchanged refl refl refl refl refl h);
    }

pub put_is : (a a2 : Tables) (seats : Seats) (labels : Labels) (old new : NodeId) (l : Label) → Putting a a2 seats labels old new l → IsPut (tables_marks a) (tables_marks (record a2 { seats = seats; labels = labels })) old new l
put_is a a2 seats labels old new l p =
    let e : tables_marks a2 ≡ tables_marks a = ap (λ (v : Chains). tables_marks (record a2 { chains = v })) p.chains ∙ ap (λ (v : Labels). tables_marks (record a2 { chains = a.chains; labels = v })) p.labels_same
    ∙ ap (λ (v : Seats). tables_marks (record a2 { chains = a.chains; labels = a.labels; seats = v })) p.seats_same ∙ ap (λ v. tables_marks (record a2 { chains = a.chains; labels = a.labels; seats = a.seats; inside = v })) p.inside in
    subst (λ v. IsPut v (tables_marks (record a2 { seats = seats; labels = labels })) old new l) e (put_marks a a2 seats labels old new l p)

-- a node of which nothing is known is not one of which something is known
unseen_off : (a : Tables) (n : NodeId) (y : ℕ) → IsSeen (stage a.climber.stages.items n.index) → stage a.climber.stages.items y ≡ Unseen → y ≢ n.index
unseen_off a n y seen u e = subst (λ v. IsSeen v) (subst (λ v. stage a.climber.stages.items v ≡ Unseen) e u) seen

-- the places in b are those in a, but of nodes of which something is known
record SameSeats (a : Tables) (b : Seats) : Type 0 where
  nodes : length b.nodes.items ≡ length a.seats.nodes.items
  seats : length b.seats.items ≡ length a.seats.seats.items
  node : (y : ℕ) → IsBlankAt a y → entry b.nodes.items y ≡ None
  seat : (y : ℕ) → IsBlankAt a y → entry b.seats.items y ≡ None
  inverse : AreInverse b

-- the tables are kept where one label is written, of a node of which something is known
kept_noted : (a : Tables) (seats : Seats) (labels : Labels) (n : NodeId) (l : Label) → AreKept a → IsSeen (stage a.climber.stages.items n.index) → Noted a.labels labels n l → SameSeats a seats →
    AreKept (record a { seats = seats; labels = labels })
kept_noted a seats labels n l kept seen p same =
    let k : KnownFrom a (length a.climber.stages.items) 0 = kept.known in let z : AreSized a (length a.climber.stages.items) = k.sized in
    record {
      known = record {
        sized = record {
          stages = refl;
          queue = z.queue;
          first = z.first;
          next = z.next;
          count = z.count;
          labels = ap (λ (v : List Label). length v) p.labels ∙ length-set a.labels.labels.items n.index l ∙ z.labels;
          full = ap (λ (v : List ℕ). length v) p.full ∙ z.full;
          partial = ap (λ (v : List ℕ). length v) p.partial ∙ z.partial;
          nodes = ap (λ (v : List NodeId). length v) p.nodes ∙ z.nodes;
          seat_nodes = same.nodes ∙ z.seat_nodes;
          seats = same.seats ∙ z.seats;
          few = z.few;
        };
        all = k.all;
        inside = k.inside;
        room = k.room;
        blank = λ y u.
            let b : IsBlankAt a y = k.blank y u in
            record {
              stage = u;
              first = b.first;
              next = b.next;
              count = b.count;
              label = ap (λ v. get_or v y Empty) p.labels ∙ get_or-set_other a.labels.labels.items n.index y l Empty (unseen_off a n y seen u) ∙ b.label;
              full = ap (λ v. get_or v y 0) p.full ∙ b.full;
              partial = ap (λ v. get_or v y 0) p.partial ∙ b.partial;
              node = same.node y b;
              seat = same.seat y b;
            };
        order = k.order;
        len = let e : labels.len ≡ a.labels.len = p.len in let l1 : a.labels.len ≤ length a.climber.stages.items = k.len in omega arith;
      };
      room = kept.room;
      inverse = same.inverse;
    }

-- the places stay where old and new, of which something is known, exchange theirs
same_swapped : (a : Tables) (seats : Seats) (old new : NodeId) → Exchanged a.seats seats old new → IsSeen (stage a.climber.stages.items old.index) → IsSeen (stage a.climber.stages.items new.index) → SameSeats a seats
same_swapped a seats old new x old_seen new_seen = record {
  nodes = nodes_length a.seats seats old new x.swapped;
  seats = seats_length a.seats seats old new x.swapped;
  node = λ y b.
      ap (λ v. entry v y) x.swapped.nodes
      ∙ get_or-set_other (set a.seats.nodes.items (seat_of a.seats.seats.items old).index (Some new)) (seat_of a.seats.seats.items new).index y (Some old) None (off y new b (unseen_off a new y new_seen b.stage))
      ∙ get_or-set_other a.seats.nodes.items (seat_of a.seats.seats.items old).index y (Some new) None (off y old b (unseen_off a old y old_seen b.stage)) ∙ b.node;
  seat = λ y b.
      ap (λ v. entry v y) x.swapped.seats
      ∙ get_or-set_other (set a.seats.seats.items new.index (Some (seat_of a.seats.seats.items old))) old.index y (Some (seat_of a.seats.seats.items new)) None (unseen_off a old y old_seen b.stage)
      ∙ get_or-set_other a.seats.seats.items new.index y (Some (seat_of a.seats.seats.items old)) None (unseen_off a new y new_seen b.stage) ∙ b.seat;
  inverse = inverse_swapped a.seats seats old new x;
}
  where
    -- a place of which nothing is known is that of its own node
    off : (y : ℕ) (n : NodeId) → IsBlankAt a y → y ≢ n.index → y ≢ (seat_of a.seats.seats.items n).index
    off y n b ne e =
        let s : NodeId = seat_of a.seats.seats.items n in
        let own : node_at a.seats.nodes.items s ≡ s = ap (λ o. unwrap_or o s) (subst (λ v. entry a.seats.nodes.items v ≡ None) e b.node) in
        ne (e ∙ ap (λ (v : NodeId). v.index) (sym own ∙ x.inverse.there n))

pub put_kept : (a a2 : Tables) (seats : Seats) (labels : Labels) (old new : NodeId) (l : Label) → Putting a a2 seats labels old new l → AreKept (record a2 { seats = seats; labels = labels })
put_kept a a2 seats labels old new l p = kept_noted a2 seats labels new l p.kept p.new_seen p.noted (same_swapped a2 seats old new p.exchanged p.old_seen p.new_seen)

pub put_can : (t : Tables) (old new : NodeId) → AreKept t → IsSeen (stage t.climber.stages.items old.index) → IsSeen (stage t.climber.stages.items new.index) → CanExchange t.seats old new
put_can t old new k so sn =
    let z : AreSized t (length t.climber.stages.items) = k.known.sized in
    let lo : old.index < length t.climber.stages.items = seen_in t.climber.stages.items old.index so in
    let ln : new.index < length t.climber.stages.items = seen_in t.climber.stages.items new.index sn in
    let s : length t.seats.seats.items ≡ length t.climber.stages.items = z.seats in
    let io : old.index < length t.seats.seats.items = omega arith in
    let in_new : new.index < length t.seats.seats.items = omega arith in
    record { old_in = io; new_in = in_new; old_seat = k.inverse.inside old io; new_seat = k.inverse.inside new in_new }

-- one label is written
pub marked_kept : (a a2 : Tables) (labels : Labels) (n : NodeId) (l : Label) → TouchedAt a a2 n → Noted a2.labels labels n l → AreKept (record a2 { labels = labels })
marked_kept a a2 labels n l t p =
    kept_noted a2 a2.seats labels n l t.kept t.seen p (record { nodes = refl; seats = refl; node = λ y b. b.node; seat = λ y b. b.seat; inverse = t.kept.inverse })

pub marked_is : (a a2 : Tables) (labels : Labels) (n : NodeId) (l : Label) → TouchedAt a a2 n → Noted a2.labels labels n l →
    tables_marks (record a2 { labels = labels }) ≡ record (tables_marks a) { labels = set a.labels.labels.items n.index l }
marked_is a a2 labels n l t p =
    let one : tables_marks (record a2 { labels = labels }) ≡ record (tables_marks a2) { labels = set a2.labels.labels.items n.index l } =
    ap (λ v. let m : Marks = record (tables_marks a2) { labels = v; nodes = indices (take labels.len labels.nodes.items); full = labels.full.items; partial = labels.partial.items } in m) p.labels
    ∙ ap (λ v. let m : Marks = record (tables_marks a2) { labels = set a2.labels.labels.items n.index l; nodes = v; full = labels.full.items; partial = labels.partial.items } in m)
    (ap (λ k. indices (take k labels.nodes.items)) p.len ∙ ap (λ v. indices (take a2.labels.len v)) p.nodes)
    ∙ ap (λ v. let m : Marks = record (tables_marks a2) { labels = set a2.labels.labels.items n.index l; full = v; partial = labels.partial.items } in m) p.full
    ∙ ap (λ v. let m : Marks = record (tables_marks a2) { labels = set a2.labels.labels.items n.index l; partial = v } in m) p.partial in
    one ∙ ap (λ (v : Chains). marked (record a2 { chains = v })) t.chains ∙ ap (λ (v : Labels). marked (record a2 { chains = a.chains; labels = v })) t.labels
    ∙ ap (λ (v : Seats). marked (record a2 { chains = a.chains; labels = a.labels; seats = v })) t.seats ∙ ap (λ v. marked (record a2 { chains = a.chains; labels = a.labels; seats = a.seats; inside = v })) t.inside
  where
    marked : Tables → Marks
    marked u = record (tables_marks u) { labels = set u.labels.labels.items n.index l }
