-- What the pass has found, and what it left at the nodes.
use Rattle.std.proofs.Common.{◌≡◌, ◌≢◌, inl, inr, ℕ, zero, suc, ◌+◌, ◌*◌, ◌≤◌, ◌<◌, Bool, true, List, [], ◌∷◌, ◌++◌, length, set, map, sum_by, take, get_or, unwrap_or, Option, Some, None, refl, sym, ap, subst, ◌∙◌, arith}
use Rattle.std.proofs.lemmas.Bool.{cases_eq, cases_lt}
use Rattle.std.proofs.lemmas.List.{length-set}
use Rattle.pq_arena.specs.declared.node.NodeId.{NodeId}
use Rattle.arena_model.specs.ChildLists.{none}
use Rattle.column_order.specs.Orders.{occurs}
use Rattle.arena_model.specs.Layout.{Layout, children_at, times_child, IsAtOrAbove, here, down, IsLayout}
use Rattle.column_order.proofs.Lists.{occurs-append}
use Rattle.arena_model.proofs.Lists.{occurs_here}
use Rattle.arena_model.proofs.Slots.{children_times}
use Rattle.arena_model.proofs.Paths.{above_step, one_path}
use Rattle.arena_model.proofs.Trees.{no_circle}
use Rattle.bubble_pass.specs.declared.climber.Stage.{Stage}
use Rattle.bubble_pass.specs.declared.climber.Stage.TheVariants.{Unseen, InRun}
use Rattle.bubble_pass.specs.declared.climber.Climber.{Climber}
use Rattle.bubble_pass.specs.declared.chains.Chains.{Chains}
use Rattle.bubble_pass.specs.declared.labels.Label.{Label}
use Rattle.bubble_pass.specs.declared.labels.Label.TheVariants.{Empty}
use Rattle.bubble_pass.specs.declared.labels.Labels.{Labels}
use Rattle.bubble_pass.specs.declared.tables.Tables.{Tables}
use Rattle.pq_arena.specs.RowNodes.{indices}
use Rattle.bubble_pass.specs.Climb.{stage, at, IsSeen, unseen_one}
use Rattle.bubble_pass.specs.Moves.{Kept, Staged}
use Rattle.arena_model.specs.RowLeaves.{Holds, Meets}
use Rattle.bubble_pass.specs.Found.{Inside}
use Rattle.bubble_pass.specs.Fair.{AtMost}
use Rattle.bubble_pass.specs.Ends.{AreLeaves, OnlyOpen, OnlyRun}
use Rattle.bubble_pass.specs.Chains.{Linked, AreLinked, entry, number, OnlyCut}
use Rattle.bubble_pass.specs.Roots.{below, Descending, Descent, IsSmallest}
use Rattle.bubble_pass.specs.Sweep.{label, full_one, partial_one, IsRight, IsPertinent, Ground, Place, Swept, IsQuiet, IsBlank}
use Rattle.bubble_pass.specs.Tables.{node_at, seat_of, AreSized, KnownFrom, AreKept, AreClear}
use Rattle.bubble_pass.specs.Marks.{Marks, placed_node, IsFollowed, tables_marks}
use Rattle.bubble_pass.specs.Pass.{IsPertinentNode, IsRightAt, AreMarked, FoundRoot, FoundInside}
use Rattle.bubble_pass.proofs.Marks.{seen_by, seen_in, sum_set, unseen_not}
use Rattle.bubble_pass.proofs.Fronts.{join_leads}
use Rattle.bubble_pass.proofs.Splits.{FirstStep, first_step, root_above}
use Rattle.bubble_pass.proofs.Linking.{turn_of, exactly}
use Rattle.bubble_pass.proofs.Descents.{below_only, turn_in}
use Rattle.bubble_pass.proofs.Sweeping.{empty_or, places_once}
use Rattle.bubble_pass.proofs.Judges.{sum_within}
use Rattle.bubble_pass.proofs.Grounds.{Marked, ground_root, ground_run, marked_here, marked_there, marked_seen, marked_below, marked_leads, holder_seen}
use Rattle.bubble_pass.proofs.Smallest.{not_inside, inside_kid, inside_least}

-- the tables once all labels are set
pub record Done (f : Layout) (row : List ℕ) (t : Tables) : Type 0 where
  pub forest : IsLayout f
  pub is_row : AreLeaves f row
  pub all : (x : ℕ) → IsSeen (stage t.climber.stages.items x) → (j : ℕ) × (0 ≤ j) × (j < t.climber.tail) × (at t.climber.queue.items j ≡ x)
  pub inside : (j : ℕ) → j < t.climber.tail → at t.climber.queue.items j < length f.slots
  pub room : t.climber.tail + sum_by unseen_one t.climber.stages.items ≡ length f.slots
  pub ground : Ground f row t.climber t.chains
  pub swept : Swept f row t.climber t.labels t.labels.len
  pub quiet : IsQuiet t.climber t.labels
  pub complete : (n : ℕ) → IsPertinent f t.climber n → label t.labels.labels.items n ≢ Empty
  pub linked : (n : ℕ) → IsPertinent f t.climber n → AreLinked t.chains.next.items (entry t.chains.first.items n) (below t.climber n)
  pub first_quiet : (x : ℕ) → stage t.climber.stages.items x ≡ Unseen → entry t.chains.first.items x ≡ None
  pub next_quiet : (x : ℕ) → stage t.climber.stages.items x ≡ Unseen → entry t.chains.next.items x ≡ None
  pub count_quiet : (x : ℕ) → stage t.climber.stages.items x ≡ Unseen → number t.chains.count.items x ≡ 0
  pub sized : AreSized t (length f.slots)
  pub seat_nodes : (x : ℕ) → entry t.seats.nodes.items x ≡ None
  pub seats : (x : ℕ) → entry t.seats.seats.items x ≡ None

own : (l : List (Option NodeId)) (x : NodeId) → entry l x.index ≡ None → node_at l x ≡ x
own l x e = ap (λ v. unwrap_or v x) e

-- a labelled node is pertinent
label_pert : (f : Layout) (row : List ℕ) (t : Tables) (n : ℕ) → Done f row t → label t.labels.labels.items n ≢ Empty → IsPertinent f t.climber n
label_pert f row t n d ne = let p : Place t.labels t.labels.len n = d.swept.only n ne in subst (λ v. IsPertinent f t.climber v) p.is (d.swept.pertinent p.i p.lt)

-- so is a node right below one in its chain
chain_pert : (f : Layout) (row : List ℕ) (t : Tables) (n k : ℕ) → Done f row t → IsPertinent f t.climber n → 1 ≤ occurs (below t.climber n) k → IsPertinent f t.climber k
chain_pert f row t n k d p o =
    let q = d.ground.only n k o in
    let kid : 1 ≤ occurs (children_at f n) k = subst (λ v. 1 ≤ occurs (children_at f v) k) q.2 (d.ground.above k q.0 q.1).0 in
    record { seen = subst (λ v. IsSeen v) (sym q.1) tt; top = p.top; marked = p.marked; leads = above_step f.slots p.top n k p.leads kid }

-- a node below a pertinent one that meets the row is pertinent
pert_down : (f : Layout) (row : List ℕ) (t : Tables) (p n : ℕ) → Done f row t → IsAtOrAbove f.slots p n → IsPertinent f t.climber p → Meets f row n → IsPertinent f t.climber n
pert_down f row t _ _ d (here n) p m = p
pert_down f row t _ _ d (down p k n o l) i m =
    pert_down f row t k n d l (chain_pert f row t p k d i (d.ground.all p k i o (m.0, m.1, join_leads f.slots k n m.0 l m.2))) m

pub done_kept : (f : Layout) (row : List ℕ) (t : Tables) → Done f row t → AreKept t
done_kept f row t d =
    let size : length t.climber.stages.items ≡ length f.slots = d.sized.stages in
    record {
      known = subst (λ n. KnownFrom t n 0) (sym size) (record {
        sized = d.sized;
        all = d.all;
        inside = d.inside;
        room = let r : t.climber.tail + sum_by unseen_one t.climber.stages.items ≡ length f.slots = d.room in omega arith;
        blank = λ x u. record {
          stage = u;
          first = d.first_quiet x u;
          next = d.next_quiet x u;
          count = d.count_quiet x u;
          label = elim (empty_or (label t.labels.labels.items x)) [
            | inl e ↦ e
            | inr ne ↦ absurd (subst (λ v. IsSeen v) u (label_pert f row t x d ne).seen)
          ];
          full = d.quiet.fulls x u;
          partial = d.quiet.partials x u;
          node = d.seat_nodes x;
          seat = d.seats x;
        };
        order = omega arith;
        len = let l : t.labels.len ≤ length t.labels.nodes.items = d.swept.fits in let s : length t.labels.nodes.items ≡ length f.slots = d.sized.nodes in omega arith;
      });
      room = d.room ∙ sym size;
      inverse = record {
        there = λ x. ap (λ s. node_at t.seats.nodes.items s) (own t.seats.seats.items x (d.seats x.index)) ∙ own t.seats.nodes.items x (d.seat_nodes x.index);
        back = λ x. ap (λ s. seat_of t.seats.seats.items s) (own t.seats.nodes.items x (d.seat_nodes x.index)) ∙ own t.seats.seats.items x (d.seats x.index);
        inside = λ x l. subst (λ (v : NodeId). v.index < length t.seats.nodes.items) (sym (own t.seats.seats.items x (d.seats x.index)))
            (let a : length t.seats.nodes.items ≡ length f.slots = d.sized.seat_nodes in let b : length t.seats.seats.items ≡ length f.slots = d.sized.seats in omega arith);
      };
    }

node_of : ℕ → NodeId
node_of i = record { index = i }

indices_of : (xs : List ℕ) → indices (map node_of xs) ≡ xs
unfolding node_of
indices_of [] = refl
indices_of (x ∷ xs) = ap (λ ys. x ∷ ys) (indices_of xs)

-- a chain in which each node has its own place
followed : (w : Marks) (o : Option NodeId) (xs : List ℕ) → ((x : ℕ) → entry w.seat_nodes x ≡ None) → ((x : ℕ) → entry w.seats x ≡ None) → AreLinked w.next o xs → IsFollowed w (placed_node w.seat_nodes o) (map node_of xs)
unfolding node_of
followed w o [] nodes seats h = ap (λ v. placed_node w.seat_nodes v) h
followed w o (x ∷ xs) nodes seats h =
    let n : NodeId = record { index = x } in (
      ap (λ v. placed_node w.seat_nodes v) h.0 ∙ ap (λ v. Some v) (own w.seat_nodes n (nodes x)),
      subst (λ (v : NodeId). IsFollowed w (placed_node w.seat_nodes (entry w.next v.index)) (map node_of xs)) (sym (own w.seats n (seats x)))
          (followed w (entry w.next x) xs nodes seats h.1),
    )

kids_once : (f : Layout) (n k : ℕ) → IsLayout f → occurs (children_at f n) k ≤ 1
kids_once f n k h = let a : occurs (children_at f n) k ≤ times_child f.slots k = children_times f n k in let b : times_child f.slots k ≤ 1 = h.once k in omega arith

done_chain : (f : Layout) (row : List ℕ) (t : Tables) (n : ℕ) → Done f row t → label t.labels.labels.items n ≢ Empty → IsRightAt f (tables_marks t) n
done_chain f row t n d ne =
    let p : IsPertinent f t.climber n = label_pert f row t n d ne in
    let is : indices (map node_of (below t.climber n)) ≡ below t.climber n = indices_of (below t.climber n) in
    let sub : (k : ℕ) → 1 ≤ occurs (indices (map node_of (below t.climber n))) k → 1 ≤ occurs (below t.climber n) k = (λ k o. subst (λ v. 1 ≤ occurs v k) is o) in
    let child : (k : ℕ) → 1 ≤ occurs (below t.climber n) k → 1 ≤ occurs (children_at f n) k =
    (λ k o. let q = d.ground.only n k o in subst (λ v. 1 ≤ occurs (children_at f v) k) q.2 (d.ground.above k q.0 q.1).0) in
    let has : (k : ℕ) → 1 ≤ occurs (children_at f n) k → label t.labels.labels.items k ≢ Empty → 1 ≤ occurs (below t.climber n) k =
    (λ k o l. d.ground.all n k p o (d.ground.meets k (label_pert f row t k d l).seen)) in
    let sum : (g : Label → ℕ) → g Empty ≡ 0 → sum_by (λ z. g (label t.labels.labels.items z)) (below t.climber n) ≡ sum_by (λ z. g (label t.labels.labels.items z)) (children_at f n) =
    (λ g g0. sum_within (λ z. g (label t.labels.labels.items z)) (below t.climber n) (children_at f n) (λ z. d.ground.once n z) child (λ z. kids_once f n z d.forest)
    (λ z o off. elim (empty_or (label t.labels.labels.items z)) [
      | inl e ↦ ap g e ∙ g0
      | inr l ↦ absurd (let k : 1 ≤ occurs (below t.climber n) z = has z o l in omega arith)
    ])) in
    record {
      chain = map node_of (below t.climber n);
      is = followed (tables_marks t) (entry t.chains.first.items n) (below t.climber n) d.seat_nodes d.seats (d.linked n p);
      once = λ k. subst (λ v. occurs v k ≤ 1) (sym is) (d.ground.once n k);
      child = λ k o. child k (sub k o);
      labelled = λ k o. d.complete k (chain_pert f row t n k d p (sub k o));
      all = λ k o l. subst (λ v. 1 ≤ occurs v k) (sym is) (has k o l);
      full = d.swept.fulls n p ∙ sum full_one refl;
      partial = d.swept.partials n p ∙ sum partial_one refl;
    }

indices_at : (q : List NodeId) (n i : ℕ) → i < n → n ≤ length q → get_or (indices (take n q)) i none ≡ at q i
indices_at q zero i l m = absurd (omega arith)
indices_at [] (suc n) i l m = absurd (omega arith)
indices_at (x ∷ q) (suc n) zero l m = refl
indices_at (x ∷ q) (suc n) (suc i) l m = indices_at q n i (omega arith) (omega arith)

pub done_marked : (f : Layout) (row : List ℕ) (t : Tables) (q : ℕ) → Done f row t → ((n : ℕ) → IsPertinent f t.climber n → IsAtOrAbove f.slots q n) →
    ((n : ℕ) → IsAtOrAbove f.slots q n → n ≢ q → Meets f row n → IsPertinent f t.climber n) → AreMarked f row (tables_marks t) q
done_marked f row t q d under meets =
    let s : Swept f row t.climber t.labels t.labels.len = d.swept in
    let size : length (indices (take t.labels.len t.labels.nodes.items)) ≡ t.labels.len = exactly t.labels.nodes.items t.labels.len s.fits in
    record {
      right = λ n l ne. elim (empty_or (label t.labels.labels.items n)) [
        | inl e ↦ subst (λ v. IsRight f row n v) (sym e) (λ x lx o. d.complete n (meets n l ne (x, o, lx)) e)
        | inr some ↦ s.right n some
      ];
      outside = λ n off. elim (empty_or (label t.labels.labels.items n)) [
        | inl e ↦ e
        | inr some ↦ absurd (off (under n (label_pert f row t n d some)))
      ];
      listed = λ n o. let j = turn_of t.labels.nodes.items t.labels.len n s.fits o in subst (λ v. label t.labels.labels.items v ≢ Empty) j.2 (s.labelled j.0 j.1);
      all = λ n some. let p : Place t.labels t.labels.len n = s.only n some in
          subst (λ v. 1 ≤ occurs (indices (take t.labels.len t.labels.nodes.items)) v) p.is (turn_in t.labels.nodes.items t.labels.len p.i s.fits p.lt);
      once = λ n. places_once t.labels.nodes.items t.labels.len s.apart s.fits t.labels.len n (omega arith);
      order = λ i k li kid some.
          let lt : i < t.labels.len = omega arith in
          let is : get_or (indices (take t.labels.len t.labels.nodes.items)) i none ≡ at t.labels.nodes.items i = indices_at t.labels.nodes.items t.labels.len i lt s.fits in
          let o : 1 ≤ occurs (below t.climber (at t.labels.nodes.items i)) k = d.ground.all (at t.labels.nodes.items i) k (s.pertinent i lt)
          (subst (λ v. 1 ≤ occurs (children_at f v) k) is kid) (d.ground.meets k (label_pert f row t k d some).seen) in
          let p : Place t.labels i k = s.before i k lt o in
          let lp : p.i < i = p.lt in
          (p.i, lp, indices_at t.labels.nodes.items t.labels.len p.i (omega arith) s.fits ∙ p.is);
      chains = λ n some. done_chain f row t n d some;
    }

-- the labelled nodes are few
pub done_few : (f : Layout) (row : List ℕ) (t : Tables) (q a : ℕ) → Done f row t → ((n : ℕ) → IsPertinent f t.climber n → IsAtOrAbove f.slots q n) → AtMost f row q a → t.labels.len ≤ a
done_few f row t q a d under most =
    let s : Swept f row t.climber t.labels t.labels.len = d.swept in
    let l : length (indices (take t.labels.len t.labels.nodes.items)) ≤ a = most (indices (take t.labels.len t.labels.nodes.items))
    (λ x. places_once t.labels.nodes.items t.labels.len s.apart s.fits t.labels.len x (omega arith))
    (λ x o. let j = turn_of t.labels.nodes.items t.labels.len x s.fits o in
    let p : IsPertinent f t.climber x = subst (λ v. IsPertinent f t.climber v) j.2 (s.pertinent j.0 j.1) in (d.ground.meets x p.seen, under x p)) in
    omega (arith, exactly t.labels.nodes.items t.labels.len s.fits)

pub done_root : (f : Layout) (row : List ℕ) (t : Tables) → Done f row t → (n : ℕ) → IsPertinent f t.climber n → IsAtOrAbove f.slots f.root n
done_root f row t d n p = let m = d.ground.meets n p.seen in root_above f n m.0 d.forest (d.is_row.below m.0 m.1) m.2

-- a node that holds the row while no child of it does is the pertinent root
pub pertinent_of : (f : Layout) (row : List ℕ) (r : ℕ) → IsLayout f → AreLeaves f row → IsSmallest f row r → IsPertinentNode f row r
pertinent_of f row r h w s = record {
  holds = s.holds;
  least = λ n hn. elim (one_path f r n w.some.0 h (s.holds w.some.0 w.some.1) (hn w.some.0 w.some.1)) [
    | inr l ↦ l
    | inl l ↦ elim (cases_eq n r) [
      | inl e ↦ subst (λ v. IsAtOrAbove f.slots n v) e (here n)
      | inr ne ↦ let t : FirstStep f r n = first_step f r n l ne in absurd (s.least t.c t.kid (λ x o. join_leads f.slots t.c n x t.leads (hn x o)))
    ]
  ];
}

chain_none : (f : Layout) (row : List ℕ) (w : Climber) (c : Chains) (m : ℕ) → Kept f row w → Linked w c w.tail → stage w.stages.items m ≡ Unseen → (entry c.first.items m ≡ None) × (number c.count.items m ≡ 0)
chain_none f row w c m k l u =
    let e : below w m ≡ [] = nil (below w m) (λ z o. let p = below_only f row w z m k o in
    subst (λ v. IsSeen v) u (subst (λ v. IsSeen (stage w.stages.items v)) p.2 (k.climb.above z p.0 p.1).1)) in
    (subst (λ xs. AreLinked c.next.items (entry c.first.items m) xs) e (l.chains m), l.counts m ∙ ap (λ (xs : List ℕ). length xs) e)
  where
    nil : (xs : List ℕ) → ((z : ℕ) → 1 ≤ occurs xs z → ⊥) → xs ≡ []
    nil [] h = refl
    nil (x ∷ xs) h = absurd (h x (occurs_here x xs))

-- the state before the labels: the tables were clear, and the climb and the chains were made
pub clear_blank : (f : Layout) (t : Tables) → AreClear t (length f.slots) → IsBlank f t.labels
clear_blank f t c = record {
  labels = λ x. (c.blank x).label;
  fulls = λ x. (c.blank x).full;
  partials = λ x. (c.blank x).partial;
  len = c.len;
  sizes = (c.sized.labels, c.sized.full, c.sized.partial, c.sized.nodes);
}

kept_all : (f : Layout) (row : List ℕ) (w : Climber) → Kept f row w → (x : ℕ) → IsSeen (stage w.stages.items x) → (j : ℕ) × (0 ≤ j) × (j < w.tail) × (at w.queue.items j ≡ x)
kept_all f row w k x s = let q = k.queue.all x s in (q.0, omega arith, q.1, q.2)

kept_inside : (f : Layout) (row : List ℕ) (w : Climber) → Kept f row w → (j : ℕ) → j < w.tail → at w.queue.items j < length f.slots
kept_inside f row w k j l = let i : at w.queue.items j < length w.stages.items = seen_in w.stages.items (at w.queue.items j) (k.queue.seen j l) in let e : length w.stages.items ≡ length f.slots = k.long in omega arith

-- the row is in a run
pub record RanOut (f : Layout) (row : List ℕ) (t : Tables) (w : Climber) (c : Chains) (ls : Labels) : Type 0 where
  pub forest : IsLayout f
  pub is_row : AreLeaves f row
  pub clear : AreClear t (length f.slots)
  pub kept : Kept f row w
  pub left : OnlyRun f row w
  pub linked : Linked w c w.tail
  pub swept : Swept f row w ls ls.len
  pub quiet : IsQuiet w ls
  pub complete : (n : ℕ) → IsPertinent f w n → label ls.labels.items n ≢ Empty

abbrev pub run_tables : Tables → Climber → Chains → Labels → Tables
run_tables t w c ls = record t { climber = w; chains = c; labels = ls; inside = true }

pub run_ground : (f : Layout) (row : List ℕ) (w : Climber) (c : Chains) → IsLayout f → AreLeaves f row → Kept f row w → OnlyRun f row w → Linked w c w.tail → Ground f row w c
run_ground f row w c h r k left linked = ground_run f row w c left.inside.q left.inside.us left.inside.ks left.inside.vs h r k left.run left.only linked

-- each table has an entry for each node: those of the climb and the chains, those of the labels, and those that stayed
sized_found : (f : Layout) (row : List ℕ) (t : Tables) (w : Climber) (c : Chains) (ls : Labels) (is_inside : Bool) → AreClear t (length f.slots) → Swept f row w ls ls.len →
    length w.stages.items ≡ length f.slots → length w.queue.items ≡ length f.slots → length c.first.items ≡ length f.slots → length c.next.items ≡ length f.slots → length c.count.items ≡ length f.slots →
    AreSized (record t { climber = w; chains = c; labels = ls; inside = is_inside }) (length f.slots)
sized_found f row t w c ls is_inside clear swept stages queue first next count = record {
  stages = stages;
  queue = queue;
  first = first;
  next = next;
  count = count;
  labels = swept.sizes.0;
  full = swept.sizes.1;
  partial = swept.sizes.2;
  nodes = swept.sizes.3;
  seat_nodes = clear.sized.seat_nodes;
  seats = clear.sized.seats;
  few = clear.sized.few;
}

pub run_done : (f : Layout) (row : List ℕ) (t : Tables) (w : Climber) (c : Chains) (ls : Labels) → RanOut f row t w c ls → Done f row (run_tables t w c ls)
run_done f row t w c ls r = record {
  forest = r.forest;
  is_row = r.is_row;
  all = kept_all f row w r.kept;
  inside = kept_inside f row w r.kept;
  room = let q : w.tail + sum_by unseen_one w.stages.items ≡ length w.stages.items = r.kept.queue.room in q ∙ r.kept.long;
  ground = run_ground f row w c r.forest r.is_row r.kept r.left r.linked;
  swept = r.swept;
  quiet = r.quiet;
  complete = r.complete;
  linked = λ n p. r.linked.chains n;
  first_quiet = λ x u. (chain_none f row w c x r.kept r.linked u).0;
  next_quiet = r.linked.quiet;
  count_quiet = λ x u. (chain_none f row w c x r.kept r.linked u).1;
  sized = sized_found f row t w c ls true r.clear r.swept r.kept.long (r.kept.queue.long ∙ r.kept.long) (r.linked.firsts ∙ r.kept.long) (r.linked.nexts ∙ r.kept.long) (r.linked.numbers ∙ r.kept.long);
  seat_nodes = λ x. (r.clear.blank x).node;
  seats = λ x. (r.clear.blank x).seat;
}

pub run_under : (f : Layout) (row : List ℕ) (t : Tables) (w : Climber) (c : Chains) (ls : Labels) → (r : RanOut f row t w c ls) → (n : ℕ) → IsPertinent f w n → IsAtOrAbove f.slots r.left.inside.q n
run_under f row t w c ls r n p = down r.left.inside.q p.top n (inside_kid f row r.left.inside p.top (r.left.run.only p.top p.marked)) p.leads

pub run_found : (f : Layout) (row : List ℕ) (t : Tables) (w : Climber) (c : Chains) (ls : Labels) → RanOut f row t w c ls → FoundInside f row (tables_marks (run_tables t w c ls))
run_found f row t w c ls r =
    let i : Inside f row = r.left.inside in
    let d : Done f row (run_tables t w c ls) = run_done f row t w c ls r in
    record {
      run = i;
      marked = done_marked f row (run_tables t w c ls) i.q d (run_under f row t w c ls r) (λ n l ne m.
          let s : FirstStep f i.q n = first_step f i.q n l ne in
          let in_ks : 1 ≤ occurs i.ks s.c = (elim (cases_lt 0 (occurs i.ks s.c)) [
            | inl o ↦ o
            | inr o ↦ absurd (i.miss s.c (let k : 1 ≤ occurs (i.us ++ (i.ks ++ i.vs)) s.c = subst (λ v. 1 ≤ occurs v s.c) i.kids_are s.kid in omega (arith, occurs-append i.us (i.ks ++ i.vs) s.c, occurs-append i.ks i.vs s.c))
                (m.0, m.1, join_leads f.slots s.c n m.0 s.leads m.2))
          ]) in
          let e : stage w.stages.items s.c ≡ InRun = r.left.run.in_run s.c in_ks in
          pert_down f row (run_tables t w c ls) s.c n d s.leads (record { seen = seen_by (stage w.stages.items s.c) InRun e tt; top = s.c; marked = e; leads = here s.c }) m);
      top = elim (empty_or (label ls.labels.items i.q)) [
        | inl e ↦ e
        | inr ne ↦ absurd (let p : IsPertinent f w i.q = label_pert f row (run_tables t w c ls) i.q d ne in
            no_circle f.slots i.q p.top (r.forest.grounds i.q) (inside_kid f row i p.top (r.left.run.only p.top p.marked)) p.leads)
      ];
      inside = refl;
    }

-- one node holds the row, a being the climb before it was marked
pub record RoseTo (f : Layout) (row : List ℕ) (t : Tables) (a w : Climber) (c0 c : Chains) (ls : Labels) (top : ℕ) (r : NodeId) : Type 0 where
  pub marked : Marked f row a w c top r
  pub least : IsSmallest f row r.index
  pub clear : AreClear t (length f.slots)
  pub linked : Linked a c0 a.tail
  pub cuts : OnlyCut c0 c
  pub swept : Swept f row w ls ls.len
  pub quiet : IsQuiet w ls
  pub complete : (n : ℕ) → IsPertinent f w n → label ls.labels.items n ≢ Empty
  pub firsts : length c.first.items ≡ length a.stages.items
  pub numbers : length c.count.items ≡ length a.stages.items

abbrev pub root_tables : Tables → Climber → Chains → Labels → Tables
root_tables t w c ls = record t { climber = w; chains = c; labels = ls }

root_was : (f : Layout) (row : List ℕ) (a w : Climber) (c : Chains) (top : ℕ) (r : NodeId) (x : ℕ) → Marked f row a w c top r → stage w.stages.items x ≡ Unseen → stage a.stages.items x ≡ Unseen
root_was f row a w c top r x m u = elim (cases_eq x r.index) [
  | inl e ↦ absurd (let z = sym (subst (λ v. stage w.stages.items v ≡ Unseen) e u) ∙ marked_here f row a w c top r m in cc)
  | inr ne ↦ sym (marked_there f row a w c top r m x ne) ∙ u
]

pub root_done : (f : Layout) (row : List ℕ) (t : Tables) (a w : Climber) (c0 c : Chains) (ls : Labels) (top : ℕ) (r : NodeId) → RoseTo f row t a w c0 c ls top r → Done f row (root_tables t w c ls)
root_done f row t a w c0 c ls top r o =
    let m : Marked f row a w c top r = o.marked in
    let k : Kept f row a = m.descending.kept in
    let len : length w.stages.items ≡ length f.slots = ap (λ (v : List Stage). length v) m.staged.stages ∙ length-set a.stages.items r.index InRun ∙ k.long in
    let tail : w.tail ≡ a.tail = m.staged.tail in
    let seen : IsSeen (stage a.stages.items r.index) = holder_seen f row a c top r.index m.forest m.is_row m.descending in
    record {
      forest = m.forest;
      is_row = m.is_row;
      all = λ x s. let q = k.queue.all x (marked_seen f row a w c top r m x s) in let l : q.0 < a.tail = q.1 in
          (q.0, omega arith, (let e : q.0 < w.tail = omega arith in e), ap (λ v. at v q.0) m.staged.queue ∙ q.2);
      inside = λ j l. subst (λ v. at v j < length f.slots) (sym m.staged.queue) (kept_inside f row a k j (omega arith));
      room = let q : a.tail + sum_by unseen_one a.stages.items ≡ length a.stages.items = k.queue.room in
          let e : sum_by unseen_one w.stages.items ≡ sum_by unseen_one (set a.stages.items r.index InRun) = ap (λ v. sum_by unseen_one v) m.staged.stages in
          let z : unseen_one InRun ≡ 0 = refl in let y : unseen_one (stage a.stages.items r.index) ≡ 0 = unseen_not (stage a.stages.items r.index) seen in
          let lk : length a.stages.items ≡ length f.slots = k.long in
          omega (arith, sum_set unseen_one a.stages.items r.index InRun m.descending.inside);
      ground = ground_root f row a w c top r m;
      swept = o.swept;
      quiet = o.quiet;
      complete = o.complete;
      linked = λ n p. let l = marked_leads f row a w c top r m n p in subst (λ xs. AreLinked c.next.items (entry c.first.items n) xs) (sym (marked_below f row a w c top r m n l)) (m.descending.linked.chains n l);
      first_quiet = λ x u. o.cuts.firsts x (chain_none f row a c0 x k o.linked (root_was f row a w c top r x m u)).0;
      next_quiet = λ x u. ap (λ v. entry v x) o.cuts.next ∙ o.linked.quiet x (root_was f row a w c top r x m u);
      count_quiet = λ x u. o.cuts.counts x (chain_none f row a c0 x k o.linked (root_was f row a w c top r x m u)).1;
      sized = sized_found f row t w c ls t.inside o.clear o.swept len (ap (λ (v : List NodeId). length v) m.staged.queue ∙ k.queue.long ∙ k.long) (o.firsts ∙ k.long)
          (ap (λ (v : List (Option NodeId)). length v) o.cuts.next ∙ o.linked.nexts ∙ k.long) (o.numbers ∙ k.long);
      seat_nodes = λ x. (o.clear.blank x).node;
      seats = λ x. (o.clear.blank x).seat;
    }

pub root_found : (f : Layout) (row : List ℕ) (t : Tables) (a w : Climber) (c0 c : Chains) (ls : Labels) (top : ℕ) (r : NodeId) → RoseTo f row t a w c0 c ls top r → FoundRoot f row (tables_marks (root_tables t w c ls)) r.index
root_found f row t a w c0 c ls top r o =
    let m : Marked f row a w c top r = o.marked in
    let d : Done f row (root_tables t w c ls) = root_done f row t a w c0 c ls top r o in
    let e : stage w.stages.items r.index ≡ InRun = marked_here f row a w c top r m in
    let p : IsPertinent f w r.index = record { seen = seen_by (stage w.stages.items r.index) InRun e tt; top = r.index; marked = e; leads = here r.index } in
    record {
      root = pertinent_of f row r.index m.forest m.is_row o.least;
      no_run = not_inside f row a c top r.index m.forest m.is_row m.descending o.least;
      marked = done_marked f row (root_tables t w c ls) r.index d (marked_leads f row a w c top r m) (λ n l ne meet. pert_down f row (root_tables t w c ls) r.index n d l p meet);
      top = o.swept.right r.index (o.complete r.index p);
      outside = o.clear.outside;
    }

-- the way down begins
pub descending : (f : Layout) (row : List ℕ) (w : Climber) (c : Chains) (top : ℕ) → Kept f row w → Holds f row top → OnlyOpen f w top → Linked w c w.tail → Descending f row w c top top
descending f row w c top k holds left l = record {
  kept = k;
  holds = holds;
  only = left.only;
  leads = here top;
  linked = record { chains = λ m _. l.chains m; counts = λ m _. l.counts m; firsts = l.firsts; numbers = l.numbers };
  inside = seen_in w.stages.items top left.seen;
}

pub marked_root : (f : Layout) (row : List ℕ) (w w2 : Climber) (c0 c : Chains) (top : ℕ) (r : NodeId) → IsLayout f → AreLeaves f row → OnlyOpen f w top → Descent f row w c0 c top r.index → Staged w w2 r InRun → Marked f row w w2 c top r
marked_root f row w w2 c0 c top r h is_row left d t = record { forest = h; is_row = is_row; descending = d.at; clear = left.clear; staged = t }

pub linked_start : (f : Layout) (row : List ℕ) (t : Tables) (w : Climber) → AreClear t (length f.slots) → Kept f row w → Linked w t.chains 0
linked_start f row t w c k = record {
  chains = λ m. (c.blank m).first;
  counts = λ m. (c.blank m).count;
  firsts = c.sized.first ∙ sym k.long;
  nexts = c.sized.next ∙ sym k.long;
  numbers = c.sized.count ∙ sym k.long;
  quiet = λ x u. (c.blank x).next;
}

-- the looks of the pass
pub pass_ticks : (f : Layout) (row : List ℕ) (t : Tables) (s0 s1 s2 : ℕ) → Done f row t → ((a : ℕ) → AtMost f row f.root a → s1 ≤ s0 + 2 * a) → s2 ≤ s1 + 3 * t.labels.len → (a : ℕ) → AtMost f row f.root a → s2 ≤ s0 + 5 * a
pass_ticks f row t s0 s1 s2 d climb fill a most =
    let k : s1 ≤ s0 + 2 * a = climb a most in let n : t.labels.len ≤ a = done_few f row t f.root a d (done_root f row t d) most in omega arith

pub pass_fair : (f : Layout) (row : List ℕ) (t : Tables) (s0 s1 s2 q : ℕ) → Done f row t → ((n : ℕ) → IsPertinent f t.climber n → IsAtOrAbove f.slots q n) → ((a : ℕ) → AtMost f row q a → s1 ≤ s0 + 2 * (2 * a + 1)) → s2 ≤ s1 + 3 * t.labels.len →
    (a : ℕ) → AtMost f row q a → s2 ≤ s0 + 7 * a + 2
pass_fair f row t s0 s1 s2 q d under climb fill a most =
    let k : s1 ≤ s0 + 2 * (2 * a + 1) = climb a most in let n : t.labels.len ≤ a = done_few f row t q a d under most in omega arith

-- a node that holds the row is at or above the pertinent root
pub under_holder : (f : Layout) (row : List ℕ) (q r n : ℕ) → IsPertinentNode f row r → Holds f row q → IsAtOrAbove f.slots r n → IsAtOrAbove f.slots q n
under_holder f row q r n p h l = join_leads f.slots q r n (p.least q h) l

pub inside_root : (f : Layout) (row : List ℕ) → IsLayout f → AreLeaves f row → (i : Inside f row) → IsPertinentNode f row i.q
inside_root f row h w i = pertinent_of f row i.q h w (record { holds = i.holds; least = λ k o hk. inside_least f row k h i o hk })
