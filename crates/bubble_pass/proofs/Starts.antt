-- The leaves of the row come first.
use Rattle.std.proofs.Common.{◌≡◌, ◌≢◌, inl, inr, ℕ, ◌+◌, ◌≤◌, ◌<◌, List, [], ◌∷◌, length, set, sum_by, take, refl, sym, ap, subst, ◌∙◌, arith}
use Rattle.std.proofs.lemmas.Bool.{cases_eq}
use Rattle.std.proofs.lemmas.List.{length-set, length-take-le, get_or-set_same, get_or-set_other, get_or-take}
use Rattle.std.proofs.lemmas.List.Sums.{sum_by-cons}
use Rattle.pq_arena.specs.declared.node.NodeId.{NodeId}
use Rattle.column_order.specs.Orders.{occurs, place}
use Rattle.arena_model.proofs.Slots.{few_slots}
use Rattle.arena_model.specs.Layout.{Layout, IsLayout}
use Rattle.column_order.proofs.Lists.{at_place, has_from_occurs}
use Rattle.arena_model.proofs.Lists.{few_once, occurs_at, occurs_here}
use Rattle.arena_model.proofs.Slots.{in_range}
use Rattle.bubble_pass.specs.declared.climber.Climber.{Climber}
use Rattle.bubble_pass.specs.declared.chains.Chains.{Chains}
use Rattle.bubble_pass.specs.declared.labels.Label.{Label}
use Rattle.bubble_pass.specs.declared.labels.Label.TheVariants.{Empty}
use Rattle.bubble_pass.specs.declared.labels.Labels.{Labels}
use Rattle.bubble_pass.specs.Climb.{most_nodes, no_id, at}
use Rattle.bubble_pass.specs.Chains.{number}
use Rattle.bubble_pass.specs.Roots.{below}
use Rattle.bubble_pass.specs.Ends.{AreLeaves}
use Rattle.bubble_pass.specs.Sweep.{label, full_one, partial_one, Ground, Swept, Added, CanAdd, IsBlank, IsQuiet, Starting}
use Rattle.bubble_pass.proofs.Begins.{row_new}

row_few : (f : Layout) (row : List ℕ) → AreLeaves f row → length row ≤ length f.slots
row_few f row r = few_once row (length f.slots) r.once (λ x o. in_range f x (r.used x o))

pub start_none : (f : Layout) (row : List ℕ) (a : Labels) → IsBlank f a → Starting f row a a 0
start_none f row a b = record { labels = refl; full = refl; partial = refl; len = b.len; nodes = λ j l. absurd (omega arith); size = b.sizes.3; order = omega arith }

pub start_can : (f : Layout) (row : List ℕ) (a b : Labels) (i : ℕ) → IsLayout f → AreLeaves f row → Starting f row a b i → i < length row → CanAdd b
start_can f row a b i h r s l = record {
  room = let k : length row ≤ length f.slots = row_few f row r in let e : b.len ≡ i = s.len in let d : length b.nodes.items ≡ length f.slots = s.size in omega arith;
  few = let d : length b.nodes.items ≡ length f.slots = s.size in let k : length f.slots ≤ most_nodes = few_slots f h in omega arith;
}

pub start_more : (f : Layout) (row : List ℕ) (a b c : Labels) (i : ℕ) (x : NodeId) → IsLayout f → AreLeaves f row → Starting f row a b i → i < length row → x.index ≡ number row i → Added b c x → Starting f row a c (i + 1)
start_more f row a b c i x h r s l e t =
    let ei : b.len ≡ i = s.len in
    let room : b.len < length b.nodes.items = (start_can f row a b i h r s l).room in
    record {
      labels = t.labels ∙ s.labels;
      full = t.full ∙ s.full;
      partial = t.partial ∙ s.partial;
      len = t.len ∙ ap (λ v. v + 1) s.len;
      nodes = λ j lj. elim (cases_eq j b.len) [
        | inl q ↦ ap (λ v. at v j) t.nodes ∙ ap (λ v. at (set b.nodes.items b.len x) v) q ∙ ap (λ (v : NodeId). v.index) (get_or-set_same b.nodes.items b.len x no_id room) ∙ e ∙ ap (λ v. number row v) (let k : i ≡ j = omega arith in k)
        | inr ne ↦ ap (λ v. at v j) t.nodes ∙ ap (λ (v : NodeId). v.index) (get_or-set_other b.nodes.items b.len j x no_id ne) ∙ s.nodes j (omega arith)
      ];
      size = ap (λ (v : List NodeId). length v) t.nodes ∙ length-set b.nodes.items b.len x ∙ s.size;
      order = omega arith;
    }

no_sum : (g : Label → ℕ) (ls : List Label) (xs : List ℕ) → ((x : ℕ) → label ls x ≡ Empty) → g Empty ≡ 0 → sum_by (λ z. g (label ls z)) xs ≡ 0
no_sum g ls [] h e = refl
no_sum g ls (x ∷ xs) h e = let a : g (label ls x) ≡ 0 = ap g (h x) ∙ e in let r : sum_by (λ z. g (label ls z)) xs ≡ 0 = no_sum g ls xs h e in omega (arith, sum_by-cons (λ z. g (label ls z)) x xs)

pub start_end : (f : Layout) (row : List ℕ) (w : Climber) (c : Chains) (a b : Labels) (i : ℕ) → IsLayout f → AreLeaves f row → Ground f row w c → IsBlank f a → Starting f row a b i → length row ≤ i → Swept f row w b 0
start_end f row w c a b i h r g blank s ge =
    let ei : i ≡ length row = (let o : i ≤ length row = s.order in omega arith) in
    let len : b.len ≡ length row = s.len ∙ ei in
    let same : (j : ℕ) → j < b.len → at b.nodes.items j ≡ number row j = (λ j l. s.nodes j (omega arith)) in
    let member : (j : ℕ) → j < b.len → 1 ≤ occurs row (at b.nodes.items j) = (λ j l. subst (λ v. 1 ≤ occurs row v) (sym (same j l)) (occurs_at row j (omega arith))) in
    let empty : (x : ℕ) → label b.labels.items x ≡ Empty = (λ x. ap (λ v. label v x) s.labels ∙ blank.labels x) in
    record {
      order = omega arith;
      fits = let k : length row ≤ length f.slots = row_few f row r in let d : length b.nodes.items ≡ length f.slots = s.size in omega arith;
      apart = λ x y l ly e. apart x y l (omega arith) (sym (same x (omega arith)) ∙ e ∙ same y ly);
      pertinent = λ j l. g.leaves (at b.nodes.items j) (member j l);
      labelled = λ j l. absurd (omega arith);
      only = λ x ne. absurd (ne (empty x));
      after = λ j z l o. absurd (let e : below w (at b.nodes.items j) ≡ [] = g.bare (at b.nodes.items j) (member j l) in
          let k : 1 ≤ occurs [] z = subst (λ v. 1 ≤ occurs v z) e o in omega arith);
      right = λ x ne. absurd (ne (empty x));
      before = λ j z l o. absurd (let e : below w (at b.nodes.items j) ≡ [] = g.bare (at b.nodes.items j) (member j l) in
          let k : 1 ≤ occurs [] z = subst (λ v. 1 ≤ occurs v z) e o in omega arith);
      fulls = λ m p. ap (λ v. number v m) s.full ∙ blank.fulls m ∙ sym (no_sum full_one b.labels.items (below w m) empty refl);
      partials = λ m p. ap (λ v. number v m) s.partial ∙ blank.partials m ∙ sym (no_sum partial_one b.labels.items (below w m) empty refl);
      leaves = λ x o.
          let p = at_place row x (has_from_occurs row x o) in
          let lt : place row x < length row = p.0 in
          record { i = place row x; lt = omega arith; is = same (place row x) (omega arith) ∙ p.1 };
      pushed = λ m p some all. absurd (let z = first (below w m) some in all z.0 z.1 (empty z.0));
      sizes = (ap (λ (v : List Label). length v) s.labels ∙ blank.sizes.0, ap (λ (v : List ℕ). length v) s.full ∙ blank.sizes.1, ap (λ (v : List ℕ). length v) s.partial ∙ blank.sizes.2, s.size);
    }
  where
    first : (xs : List ℕ) → 1 ≤ length xs → (x : ℕ) × (1 ≤ occurs xs x)
    first [] l = absurd (omega arith)
    first (x ∷ xs) l = (x, occurs_here x xs)

    apart : (x y : ℕ) → x < y → y < length row → number row x ≢ number row y
    apart x y l ly e =
        let taken : 1 ≤ occurs (take y row) (number (take y row) x) = occurs_at (take y row) x (let n : length (take y row) ≡ y = length-take-le y row (omega arith) in omega arith) in
        let one : 1 ≤ occurs (take y row) (number row y) = subst (λ v. 1 ≤ occurs (take y row) v) (get_or-take y row x 0 l ∙ e) taken in
        absurd (omega (arith, row_new row y ly r.once))

pub start_quiet : (f : Layout) (row : List ℕ) (w : Climber) (a b : Labels) (i : ℕ) → IsBlank f a → Starting f row a b i → IsQuiet w b
start_quiet f row w a b i blank s = record { fulls = λ x u. ap (λ v. number v x) s.full ∙ blank.fulls x; partials = λ x u. ap (λ v. number v x) s.partial ∙ blank.partials x }
