-- The labelling of a node as a look at it shows its place_shown.
use Rattle.std.proofs.Common.{Bool, List, None, Option, Some, ap, arith, cond, eq-eqb, eqb, false, inl, inr, length, refl, subst, sym, true, ℕ, ◌++◌, ◌+◌, ◌-◌, ◌<◌, ◌∙◌, ◌∷◌, ◌≡◌, ◌≢◌, ◌≤◌, ◌⊎◌}
use Rattle.std.proofs.lemmas.Bool.{cases_eq, ne_eqb}
use Rattle.arena_model.specs.declared.Shape.TheVariants.{P, Q}
use Rattle.pq_arena.specs.declared.node.NodeId.{NodeId}
use Rattle.pq_arena.specs.declared.node.NodeView.{NodeView}
use Rattle.arena_model.specs.ChildLists.{end_parent, head_or, last_or, none}
use Rattle.arena_model.specs.Layout.{IsInUse, IsLayout, Layout, children_at, shape_at, times_child}
use Rattle.pq_arena.specs.Looks.{ShowsNode, node_named}
use Rattle.arena_model.proofs.Slots.{child_at, children_times, in_range, some_none, used_by}
use Rattle.arena_model.proofs.Lists.{occurs_here}
use Rattle.full_pass.specs.declared.entries.Entries.{Entries}
use Rattle.full_pass.specs.declared.joins.Joined.{Joined}
use Rattle.full_pass.specs.declared.added.Added.TheVariants.{Run}
use Rattle.full_pass.specs.declared.joins.Joined.TheVariants.{Plain, Wide}
use Rattle.full_pass.specs.declared.joins.Place.TheVariants.{Ring as PlaceRing, Run as PlaceRun, Top as PlaceTop}
use Rattle.full_pass.specs.Passing.{AreLinked, CanJoin, Chains, InRun, IsAdded, IsJoined, Pass, Runs, judged_as, marks, place_shown, run_as}
use Rattle.full_pass.specs.Entries.{AreReady, both, end_at, far, first, is_full, hits, mark_of, next, up}
use Rattle.full_pass.specs.Tallies.{HasPlace, mark_in}
use Rattle.full_pass.specs.Answer.{IsFullNode}
use Rattle.arena_model.specs.NamedTree.{IsOneTree}
use Rattle.arena_model.proofs.Paths.{top_alone}
use Rattle.full_pass.proofs.Chained.{Hung, chains_ring, chains_run}
use Rattle.full_pass.proofs.Linked.{Spot, Tied, runs_apart, runs_linked, tied_back}
use Rattle.full_pass.proofs.Wide.{Both, EndChild, all_labelled, both_are, child_shows, left_child, right_child}
use Rattle.full_pass.proofs.Marks.{OneMore, bit, marks_le, true_false}
use Rattle.full_pass.proofs.Closing.{close}
use Rattle.full_pass.proofs.Steps.{above, pass_ring, pass_run, none_unlabelled}
use Rattle.full_pass.proofs.Places.{Ringed, Running, Says, children_few, mark_named, named_some, near_within, says, shown_count_is, side}
use Rattle.column_order.specs.Orders.{occurs}
use Rattle.arena_model.specs.declared.TheConstants.{NODE_BOUND}

pub one_look : (s t : ℕ) → t ≡ s + 1 → t ≤ s + 2
one_look s t e = omega arith

pub runs_at : (f : Layout) (x : ℕ) (view : NodeView) → IsLayout f → ShowsNode f x view → PlaceRun ≡ place_shown view.parent (side view 0) (side view 1) →
    Running f x (side view 0) (side view 1)
runs_at f x view h shows e = subst (λ z. Says f x (side view 0) (side view 1) z) (sym e) (says f x view h shows)

pub rings_at : (f : Layout) (x : ℕ) (p : NodeId) (view : NodeView) → IsLayout f → ShowsNode f x view → PlaceRing p ≡ place_shown view.parent (side view 0) (side view 1) →
    Ringed f x p.index
rings_at f x p view h shows e = subst (λ z. Says f x (side view 0) (side view 1) z) (sym e) (says f x view h shows)

pub end_named : (w : Entries) (y x : ℕ) → is_full w none ≡ false → end_at w (node_named y) x ≡ cond (is_full w y) (far w y) x
end_named w y x e = elim (cases_eq y none) [
  | inl q ↦ ap (λ z. end_at w (node_named z) x) q ∙ sym (ap (λ b. cond b (far w none) x) e) ∙ ap (λ z. cond (is_full w z) (far w z) x) (sym q)
  | inr ne ↦ ap (λ z. end_at w z x) (named_some y ne)
]

-- what the labelling of a child of a Q-node did to the labels l and the numbers h
pub record CountedRun (f : Layout) (l l' : ℕ → Bool) (h h' : ℕ → ℕ) (x : ℕ) (view : NodeView) : Type 0 where
  pub layout : IsLayout f
  pub shows : ShowsNode f x view
  pub at : PlaceRun ≡ place_shown view.parent (side view 0) (side view 1)
  pub fresh : l x ≡ false
  pub ends_none : l none ≡ false
  pub now : l' x ≡ true
  pub others : (y : ℕ) → y ≢ x → l' y ≡ l y
  pub same : (y : ℕ) → h' y ≡ h y

-- that is what happened to a child of a Q-node that waited
pub counted_as : (f : Layout) (row waiting : List ℕ) (l l' : ℕ → Bool) (h h' : ℕ → ℕ) (x n : ℕ) (view : NodeView) → IsLayout f → ShowsNode f x view →
    PlaceRun ≡ place_shown view.parent (side view 0) (side view 1) → Pass f row l h (x ∷ waiting) n →
    l' x ≡ true → ((y : ℕ) → y ≢ x → l' y ≡ l y) → ((y : ℕ) → h' y ≡ h y) → CountedRun f l l' h h' x view
counted_as f row waiting l l' h h' x n view layout shows at pass now others same = record {
  layout = layout;
  shows = shows;
  at = at;
  fresh = pass.labels.fresh x (occurs_here x waiting);
  ends_none = none_unlabelled f row l (x ∷ waiting) layout pass.labels;
  now = now;
  others = others;
  same = same;
}

-- the neighbours that a look shows in a run have labels
pub run_within : (f : Layout) (x n : ℕ) (view : NodeView) → IsLayout f → ShowsNode f x view → PlaceRun ≡ place_shown view.parent (side view 0) (side view 1) →
    n ≡ length f.slots → HasPlace (side view 0) n × HasPlace (side view 1) n
run_within f x n view layout shows at size =
    subst (λ z. HasPlace (side view 0) z × HasPlace (side view 1) z) (sym size) (near_within f x (side view 0) (side view 1) layout (runs_at f x view layout shows at))

-- and to the runs
pub record FilledRun (f : Layout) (w w' : Entries) (x a b : ℕ) (view : NodeView) : Type 0 where
  pub counted : CountedRun f (is_full w) (is_full w') (hits w) (hits w') x view
  pub chains : Chains f (is_full w) (hits w) (first w) (next w)
  pub firsts : (y : ℕ) → first w' y ≡ first w y
  pub nexts : (y : ℕ) → next w' y ≡ next w y
  pub runs : Runs f (is_full w) (far w) (up w)
  pub a_is : a ≡ end_at w (side view 0) x
  pub b_is : b ≡ end_at w (side view 1) x
  pub up_now : up w' x ≡ view.parent
  pub ups : (y : ℕ) → y ≢ x → up w' y ≡ up w y
  pub tied : Tied (far w) (far w') a b

-- a is the left end, or b is
pub record Side (f : Layout) (w w' : Entries) (x a b q : ℕ) (us vs : List ℕ) : Type 0 where
  pub spot : Spot f x q us vs
  pub more : OneMore (is_full w) (is_full w') x
  pub left : a ≡ cond (is_full w (last_or us none)) (far w (last_or us none)) x
  pub right : b ≡ cond (is_full w (head_or vs none)) (far w (head_or vs none)) x

pub joined_side : (f : Layout) (w w' : Entries) (x a b : ℕ) (view : NodeView) → FilledRun f w w' x a b view →
    (r : Running f x (side view 0) (side view 1)) → Side f w w' x a b r.q r.us r.vs ⊎ Side f w w' x b a r.q r.us r.vs
joined_side f w w' x a b view d r =
    let spot : Spot f x r.q r.us r.vs = record { layout = d.counted.layout; sh = r.sh; is = r.is } in
    let more : OneMore (is_full w) (is_full w') x = record { before = d.counted.fresh; after = d.counted.now; others = d.counted.others } in
    elim r.near [
      | inl e ↦ inl (record {
        spot = spot;
        more = more;
        left = d.a_is ∙ ap (λ z. end_at w z x) e.0 ∙ end_named w (last_or r.us none) x d.counted.ends_none;
        right = d.b_is ∙ ap (λ z. end_at w z x) e.1 ∙ end_named w (head_or r.vs none) x d.counted.ends_none;
      })
      | inr e ↦ inr (record {
        spot = spot;
        more = more;
        left = d.b_is ∙ ap (λ z. end_at w z x) e.1 ∙ end_named w (last_or r.us none) x d.counted.ends_none;
        right = d.a_is ∙ ap (λ z. end_at w z x) e.0 ∙ end_named w (head_or r.vs none) x d.counted.ends_none;
      })
    ]

up_shown : (f : Layout) (w w' : Entries) (x a b : ℕ) (view : NodeView) → FilledRun f w w' x a b view →
    (m : ℕ) (ps ws : List ℕ) → shape_at f m ≡ Some Q → children_at f m ≡ ps ++ x ∷ ws → up w' x ≡ node_named (end_parent m (last_or ps none) (head_or ws none))
up_shown f w w' x a b view d m ps ws sh is = d.up_now ∙ (d.counted.shows.run m ps ws sh is).0

pub joined_runs : (f : Layout) (w w' : Entries) (x a b : ℕ) (view : NodeView) → FilledRun f w w' x a b view → Runs f (is_full w') (far w') (up w')
joined_runs f w w' x a b view d = let r : Running f x (side view 0) (side view 1) = runs_at f x view d.counted.layout d.counted.shows d.counted.at in
    elim (joined_side f w w' x a b view d r) [
      | inl s ↦ runs_linked f (is_full w) (is_full w') (far w) (far w') (up w) (up w') x r.q a b r.us r.vs s.spot s.more d.counted.ends_none d.runs s.left s.right d.tied d.ups
          (up_shown f w w' x a b view d)
      | inr s ↦ runs_linked f (is_full w) (is_full w') (far w) (far w') (up w) (up w') x r.q b a r.us r.vs s.spot s.more d.counted.ends_none d.runs s.left s.right
          (tied_back (far w) (far w') a b d.tied) d.ups (up_shown f w w' x a b view d)
    ]

-- the chains hang together again
pub counted_chains : (f : Layout) (l l' : ℕ → Bool) (h h' first first' next next' : ℕ → ℕ) (x : ℕ) (view : NodeView) → CountedRun f l l' h h' x view →
    Chains f l h first next → ((y : ℕ) → first' y ≡ first y) → ((y : ℕ) → next' y ≡ next y) → Chains f l' h' first' next'
counted_chains f l l' h h' first first' next next' x view d chains firsts nexts =
    let r : Running f x (side view 0) (side view 1) = runs_at f x view d.layout d.shows d.at in
    chains_run f l l' h h' first first' next next' x r.q d.layout r.sh (child_at f r.q x r.us r.vs r.is)
    (record { before = d.fresh; after = d.now; others = d.others }) chains d.same firsts nexts

-- so do the runs
pub joined_linked : (f : Layout) (w w' : Entries) (x a b : ℕ) (view : NodeView) → FilledRun f w w' x a b view → AreReady w' (length f.slots) → AreLinked f w'
joined_linked f w w' x a b view d ready = record {
  ready = ready;
  runs = joined_runs f w w' x a b view d;
  chains = counted_chains f (is_full w) (is_full w') (hits w) (hits w') (first w) (first w') (next w) (next w') x view d.counted d.chains d.firsts d.nexts;
}

two_marks : (f : Layout) (l : ℕ → Bool) (x k : ℕ) (view : NodeView) → l none ≡ false → (r : Running f x (side view 0) (side view 1)) →
    k ≡ mark_in l (side view 0) + mark_in l (side view 1) → bit (l (last_or r.us none)) + bit (l (head_or r.vs none)) ≡ k
two_marks f l x k view ln r ke =
    let last : ℕ = bit (l (last_or r.us none)) in
    let head : ℕ = bit (l (head_or r.vs none)) in
    elim r.near [
      | inl e ↦
          let a : mark_in l (side view 0) ≡ last = ap (mark_in l) e.0 ∙ mark_named l (last_or r.us none) ln in
          let b : mark_in l (side view 1) ≡ head = ap (mark_in l) e.1 ∙ mark_named l (head_or r.vs none) ln in
          omega arith
      | inr e ↦
          let a : mark_in l (side view 0) ≡ head = ap (mark_in l) e.0 ∙ mark_named l (head_or r.vs none) ln in
          let b : mark_in l (side view 1) ≡ last = ap (mark_in l) e.1 ∙ mark_named l (last_or r.us none) ln in
          omega arith
    ]

-- x was labelled beside so many
pub counted_run : (f : Layout) (l l' : ℕ → Bool) (h h' : ℕ → ℕ) (x k : ℕ) (view : NodeView) → CountedRun f l l' h h' x view →
    k ≡ mark_in l (side view 0) + mark_in l (side view 1) →
    (row waiting : List ℕ) (n : ℕ) → Pass f row l h (x ∷ waiting) n → IsAdded f row l' h' waiting n (Run k)
counted_run f l l' h h' x k view d ke row waiting n pass =
    let r : Running f x (side view 0) (side view 1) = runs_at f x view d.layout d.shows d.at in
    subst (λ z. (z ≤ n) × Pass f row l' h' waiting (n - z) × InRun f l' waiting) (two_marks f l x k view d.ends_none r ke)
    (pass_run f row l l' h h' x r.q r.us r.vs waiting n d.layout r.sh r.is (record { before = d.fresh; after = d.now; others = d.others }) d.same pass)

-- all children of q are labelled where both ends of the run of x showed a node above
wide_at : (f : Layout) (w w' : Entries) (x k a b : ℕ) (p : NodeId) (view : NodeView) → (d : FilledRun f w w' x a b view) →
    k ≡ mark_of w (side view 0) + mark_of w (side view 1) → 1 ≤ k → both (up w' a) (up w' b) ≡ Some p →
    (r : Running f x (side view 0) (side view 1)) →
    (p.index ≡ r.q) × ((y : ℕ) → 1 ≤ occurs (children_at f r.q) y → is_full w' y ≡ true)
wide_at f w w' x k a b p view d ke some e r =
    let two : bit (is_full w (last_or r.us none)) + bit (is_full w (head_or r.vs none)) ≡ k = two_marks f (is_full w) x k view d.counted.ends_none r ke in
    let some' : 1 ≤ bit (is_full w (last_or r.us none)) + bit (is_full w (head_or r.vs none)) = omega arith in
    let bo : Both (up w' a) (up w' b) p = both_are (up w' a) (up w' b) p e in
    let na : up w' a ≢ None = (λ n. some_none p (sym bo.a_is ∙ n)) in
    let now : Runs f (is_full w') (far w') (up w') = joined_runs f w w' x a b view d in
    let ups : (m y : ℕ) (ps ws : List ℕ) → shape_at f m ≡ Some Q → children_at f m ≡ ps ++ y ∷ ws → is_full w' y ≡ true → up w' y ≡ node_named (end_parent m (last_or ps none) (head_or ws none)) =
    (λ m y ps ws sh is t. now.ups m y ps ws sh is t) in
    elim (joined_side f w w' x a b view d r) [
      | inl s ↦ (
        child_shows f (is_full w') (far w') (up w') r.q a p d.counted.layout r.sh now
            (left_child f (is_full w) (is_full w') (far w) (up w) x r.q a r.us r.vs s.spot s.more d.counted.ends_none d.runs s.left) bo.a_is,
        all_labelled f (is_full w) (is_full w') (far w) (up w) (up w') x r.q a b r.us r.vs s.spot s.more d.counted.ends_none d.runs s.left s.right ups na bo.b_is some',
      )
      | inr s ↦ (
        child_shows f (is_full w') (far w') (up w') r.q a p d.counted.layout r.sh now
            (right_child f (is_full w) (is_full w') (far w) (up w) x r.q a r.us r.vs s.spot s.more d.counted.ends_none d.runs s.right) bo.a_is,
        all_labelled f (is_full w) (is_full w') (far w) (up w) (up w') x r.q b a r.us r.vs s.spot s.more d.counted.ends_none d.runs s.left s.right ups bo.b_is na some',
      )
    ]

pub joined_run : (f : Layout) (w w' : Entries) (x k a b : ℕ) (view : NodeView) (result : Joined) → FilledRun f w w' x a b view →
    k ≡ mark_of w (side view 0) + mark_of w (side view 1) → result ≡ run_as k (both (up w' a) (up w' b)) →
    (row waiting : List ℕ) (n : ℕ) → Pass f row (is_full w) (hits w) (x ∷ waiting) n → IsJoined f row (is_full w') (hits w') waiting n result
joined_run f w w' x k a b view result d ke re row waiting n pass =
    let r : Running f x (side view 0) (side view 1) = runs_at f x view d.counted.layout d.counted.shows d.counted.at in
    let done = counted_run f (is_full w) (is_full w') (hits w) (hits w') x k view d.counted ke row waiting n pass in
    let o : 1 ≤ occurs (children_at f r.q) x = child_at f r.q x r.us r.vs r.is in
    let u = above f row (is_full w) (is_full w') (hits w) x r.q waiting n pass (record { before = d.counted.fresh; after = d.counted.now; others = d.counted.others }) o in
    subst (λ z. IsJoined f row (is_full w') (hits w') waiting n z) (sym re) (by (both (up w' a) (up w' b)) refl r done o u.not_yet u.rest)
  where
    by : (m : Option NodeId) → both (up w' a) (up w' b) ≡ m → (r : Running f x (side view 0) (side view 1)) →
        (k ≤ n) × Pass f row (is_full w') (hits w') waiting (n - k) × InRun f (is_full w') waiting → 1 ≤ occurs (children_at f r.q) x →
        is_full w' r.q ≡ false → occurs waiting r.q ≡ 0 → IsJoined f row (is_full w') (hits w') waiting n (run_as k m)
    by None e r done o ny nw = done
    by (Some p) e r done o ny nw =
        (elim (eqb k 0) as (λ t. eqb k 0 ≡ t → IsJoined f row (is_full w') (hits w') waiting n (cond t (Plain (Run k)) (Wide k p))) [
          | true ↦ λ _. done
          | false ↦ λ z.
              let nz : k ≢ 0 = (λ q. true_false (eqb k 0) (eq-eqb k 0 q) z) in
              let wide = wide_at f w w' x k a b p view d ke (omega arith) e r in
              let c = close f row (is_full w') (hits w') r.q waiting (n - k) d.counted.layout done.1
              (record { not_full = ny; not_waiting = nw; child = x; is_child = o; labelled = d.counted.now }) wide.1 in
              (done.0, omega arith, subst (λ y. Pass f row (is_full w') (hits w') (y ∷ waiting) (n - k)) (sym wide.0) c)
        ]) refl

-- what the labelling of a child of the P-node p did to the labels l and the numbers h
pub record CountedRing (f : Layout) (l l' : ℕ → Bool) (h h' : ℕ → ℕ) (x : ℕ) (p : NodeId) (view : NodeView) : Type 0 where
  pub layout : IsLayout f
  pub shows : ShowsNode f x view
  pub at : PlaceRing p ≡ place_shown view.parent (side view 0) (side view 1)
  pub now : l' x ≡ true
  pub others : (y : ℕ) → y ≢ x → l' y ≡ l y
  pub hit : h' p.index ≡ h p.index + 1
  pub same : (y : ℕ) → y ≢ p.index → h' y ≡ h y

-- p has so many labelled children of all that a look at it shows
pub joined_ring : (f : Layout) (l l' : ℕ → Bool) (h h' : ℕ → ℕ) (x : ℕ) (p : NodeId) (view view' : NodeView) (k : ℕ) → CountedRing f l l' h h' x p view →
    ShowsNode f p.index view' → k ≡ h p.index + 1 →
    (row waiting : List ℕ) (n : ℕ) → Pass f row l h (x ∷ waiting) n → IsAdded f row l' h' waiting n (judged_as p k view'.children)
joined_ring f l l' h h' x p view view' k d shows' ke row waiting n pass =
    let r : Ringed f x p.index = rings_at f x p view d.layout d.shows d.at in
    let e : judged_as p k view'.children ≡ judged_as p (h p.index + 1) (length (children_at f p.index)) =
    ap (λ z. judged_as p z view'.children) ke ∙ ap (λ z. judged_as p (h p.index + 1) z) (shown_count_is f p.index view' shows' r.sh) in
    subst (λ z. IsAdded f row l' h' waiting n z) (sym e)
    (pass_ring f row l l' h h' x p r.us r.vs waiting n d.layout r.sh r.is
    (record { before = pass.labels.fresh x (occurs_here x waiting); after = d.now; others = d.others }) d.hit d.same pass)

pub ring_used : (f : Layout) (x : ℕ) (p : NodeId) (view : NodeView) → IsLayout f → ShowsNode f x view →
    PlaceRing p ≡ place_shown view.parent (side view 0) (side view 1) → IsInUse f p.index
ring_used f x p view h shows at = let r = rings_at f x p view h shows at in used_by f p.index P r.sh

pub hits_few : (f : Layout) (row : List ℕ) (l : ℕ → Bool) (h : ℕ → ℕ) (waiting : List ℕ) (n x : ℕ) (p : NodeId) (view : NodeView) → IsLayout f → ShowsNode f x view →
    PlaceRing p ≡ place_shown view.parent (side view 0) (side view 1) → Pass f row l h waiting n → h p.index ≤ NODE_BOUND
hits_few f row l h waiting n x p view layout shows at pass =
    let r = rings_at f x p view layout shows at in
    let c : h p.index ≡ marks l (children_at f p.index) = pass.counts p.index r.sh in
    let m : marks l (children_at f p.index) ≤ length (children_at f p.index) = marks_le l (children_at f p.index) in
    let k : length (children_at f p.index) ≤ NODE_BOUND = children_few f p.index layout in
    omega arith

-- the chains hang together again where x was hung
pub ring_chains : (f : Layout) (l l' : ℕ → Bool) (h h' first first' next next' : ℕ → ℕ) (x : ℕ) (p : NodeId) (view : NodeView) → CountedRing f l l' h h' x p view → l x ≡ false →
    Chains f l h first next → Hung h h' first first' next next' x p.index → Chains f l' h' first' next'
ring_chains f l l' h h' first first' next next' x p view d fresh chains hung =
    let r : Ringed f x p.index = rings_at f x p view d.layout d.shows d.at in
    chains_ring f l l' h h' first first' next next' x p.index d.layout r.sh (child_at f p.index x r.us r.vs r.is)
    (record { before = fresh; after = d.now; others = d.others }) chains hung

-- so do the runs
pub joined_ring_linked : (f : Layout) (w w' : Entries) (x : ℕ) (p : NodeId) (view : NodeView) → CountedRing f (is_full w) (is_full w') (hits w) (hits w') x p view →
    is_full w x ≡ false → AreLinked f w → Hung (hits w) (hits w') (first w) (first w') (next w) (next w') x p.index →
    ((y : ℕ) → far w' y ≡ far w y) → ((y : ℕ) → y ≢ x → up w' y ≡ up w y) → AreReady w' (length f.slots) → AreLinked f w'
joined_ring_linked f w w' x p view d fresh linked hung fars ups ready =
    let r : Ringed f x p.index = rings_at f x p view d.layout d.shows d.at in
    record {
      ready = ready;
      runs = runs_apart f (is_full w) (is_full w') (far w) (far w') (up w) (up w') x p.index d.layout r.sh (child_at f p.index x r.us r.vs r.is)
          (record { before = fresh; after = d.now; others = d.others }) linked.runs fars ups;
      chains = ring_chains f (is_full w) (is_full w') (hits w) (hits w') (first w) (first w') (next w) (next w') x p view d fresh linked.chains hung;
    }

-- a full node without a node above it is the root
pub joined_top : (f : Layout) (l : ℕ → Bool) (h : ℕ → ℕ) (x : ℕ) (view : NodeView) → IsLayout f → ShowsNode f x view →
    PlaceTop ≡ place_shown view.parent (side view 0) (side view 1) → IsOneTree f →
    (row waiting : List ℕ) (n : ℕ) → Pass f row l h (x ∷ waiting) n → IsFullNode f row f.root
joined_top f l h x view layout shows at one row waiting n pass =
    let apart : times_child f.slots x ≡ 0 = subst (λ z. Says f x (side view 0) (side view 1) z) (sym at) (says f x view layout shows) in
    let e : f.root ≡ x = top_alone f f.root x apart (one x (pass.labels.used x (occurs_here x waiting))) in
    subst (λ z. IsFullNode f row z) (sym e) (pass.labels.fill x (occurs_here x waiting))

-- an end of the run of x is a child, so it has a place_shown
pub end_few : (f : Layout) (w : Entries) (x a b : ℕ) (view : NodeView) → IsLayout f → ShowsNode f x view → PlaceRun ≡ place_shown view.parent (side view 0) (side view 1) →
    CanJoin f w x → a ≡ end_at w (side view 0) x → b ≡ end_at w (side view 1) x → (a < length f.slots) × (b < length f.slots)
end_few f w x a b view h shows at can ea eb =
    let r : Running f x (side view 0) (side view 1) = runs_at f x view h shows at in
    let ln : is_full w none ≡ false = none_unlabelled f can.row (is_full w) (x ∷ can.waiting) h can.pass.labels in
    let fresh : is_full w x ≡ false = can.pass.labels.fresh x (occurs_here x can.waiting) in
    let l' : ℕ → Bool = λ y. cond (eqb y x) true (is_full w y) in
    let more : OneMore (is_full w) l' x = record {
      before = fresh;
      after = ap (λ t. cond t true (is_full w x)) (eq-eqb x x refl);
      others = λ y ne. ap (λ t. cond t true (is_full w y)) (ne_eqb y x ne);
    } in
    let spot : Spot f x r.q r.us r.vs = record { layout = h; sh = r.sh; is = r.is } in
    let range : (y : ℕ) → EndChild f l' r.q y → y < length f.slots = (λ y k. in_range f y (h.used y
    (let i : 1 ≤ occurs (children_at f r.q) y = k.child in let p : occurs (children_at f r.q) y ≤ times_child f.slots y = children_times f r.q y in omega arith))) in
    elim r.near [
      | inl e ↦ (
        range a (left_child f (is_full w) l' (far w) (up w) x r.q a r.us r.vs spot more ln can.linked.runs (ea ∙ ap (λ z. end_at w z x) e.0 ∙ end_named w (last_or r.us none) x ln)),
        range b (right_child f (is_full w) l' (far w) (up w) x r.q b r.us r.vs spot more ln can.linked.runs (eb ∙ ap (λ z. end_at w z x) e.1 ∙ end_named w (head_or r.vs none) x ln)),
      )
      | inr e ↦ (
        range a (right_child f (is_full w) l' (far w) (up w) x r.q a r.us r.vs spot more ln can.linked.runs (ea ∙ ap (λ z. end_at w z x) e.0 ∙ end_named w (head_or r.vs none) x ln)),
        range b (left_child f (is_full w) l' (far w) (up w) x r.q b r.us r.vs spot more ln can.linked.runs (eb ∙ ap (λ z. end_at w z x) e.1 ∙ end_named w (last_or r.us none) x ln)),
      )
    ]

-- what two writes to the ends make
pub tied_by : (far far' : ℕ → ℕ) (a b : ℕ) → far' b ≡ a → (a ≢ b → far' a ≡ b) → ((y : ℕ) → y ≢ a → y ≢ b → far' y ≡ far y) → Tied far far' a b
tied_by far far' a b eb ea others = record {
  at_b = eb;
  others = others;
  at_a = elim (cases_eq a b) [
    | inl e ↦ ap far' e ∙ eb ∙ e
    | inr ne ↦ ea ne
  ];
}
