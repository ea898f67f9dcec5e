-- replace, whatever old is: a child, the root, or a node that stands alone.
use Rattle.std.proofs.Common.{◌≡◌, ◌≢◌, ◌⊎◌, inl, inr, ℕ, ◌≤◌, ◌<◌, List, [], ◌∷◌, ◌++◌, length, set, Some, None, refl, sym, ap, subst, ◌∙◌, arith}
use Rattle.std.proofs.lemmas.Bool.{cases_lt}
use Rattle.std.proofs.lemmas.List.{set-get_or}
use Rattle.arena_model.specs.declared.Shape.TheVariants.{Leaf, P, Q}
use Rattle.pq_arena.specs.declared.node.Link.{Link}
use Rattle.pq_arena.specs.declared.node.Head.{Head}
use Rattle.arena_model.proofs.Lists.{occurs_here, occurs_last, SplitAt, split_at, replaced_split, occurs_behind, occurs_before}
use Rattle.arena_model.proofs.Slots.{in_range, used_by, children_times, placed_in}
use Rattle.arena_model.specs.ChildLists.{with_replaced, head_or, last_or, end_parent, none}
use Rattle.arena_model.specs.Layout.{Layout, shape_at, children_at, times_child, IsAtOrAbove, IsInUse, StandsAlone, MayHaveChildren, with_children}
use Rattle.column_order.proofs.Lists.{occurs-append}
use Rattle.column_order.specs.Orders.{occurs}
use Rattle.pq_arena.proofs.Look.{ring_seat, run_seat}
use Rattle.pq_arena.proofs.Replace.{swap_p, swap_q}
use Rattle.pq_arena.proofs.SpliceAt.{end_parent_cases}
use Rattle.pq_arena.specs.StandsFor.{StandsFor}
use Rattle.pq_arena.specs.Wiring.{seat, no_link, link, relinked_if, swapped, heads_swapped, CanSwap}

-- a node with a child is P or Q
pub has_children : (s : _) (ks : List ℕ) (x : ℕ) → MayHaveChildren s ks → 1 ≤ occurs ks x → (s ≡ Some P) ⊎ (s ≡ Some Q)
has_children None ks x may o = absurd (let k : 1 ≤ occurs [] x = subst (λ z. 1 ≤ occurs z x) may o in omega arith)
has_children (Some (Leaf a)) ks x may o = absurd (let k : 1 ≤ occurs [] x = subst (λ z. 1 ≤ occurs z x) may o in omega arith)
has_children (Some P) ks x may o = inl refl
has_children (Some Q) ks x may o = inr refl

pub replace_child : (ls : List Link) (hs : List Head) (root spare count columns : ℕ) (f : Layout) (p old new : ℕ) →
    StandsFor ls hs root spare count columns f → 1 ≤ occurs (children_at f p) old → StandsAlone f new → (IsAtOrAbove f.slots new old → ⊥) →
    StandsFor (swapped ls old new) (heads_swapped hs (link ls old).parent old new) root spare count columns (with_children f p (with_replaced (children_at f p) old new))
replace_child ls hs root spare count columns f p old new h o alone no_way =
    let s : SplitAt (children_at f p) old = split_at (children_at f p) old o in
    let once : occurs (s.us ++ old ∷ s.vs) old ≤ 1 = subst (λ z. occurs z old ≤ 1) s.is
    (let a : occurs (children_at f p) old ≤ times_child f.slots old = children_times f p old in let b : times_child f.slots old ≤ 1 = h.layout.once old in omega arith) in
    let e : with_replaced (children_at f p) old new ≡ s.us ++ new ∷ s.vs = ap (λ z. with_replaced z old new) s.is ∙ replaced_split s.us s.vs old new once in
    subst (λ z. StandsFor (swapped ls old new) (heads_swapped hs (link ls old).parent old new) root spare count columns (with_children f p z)) (sym e)
    (elim (has_children (shape_at f p) (children_at f p) old (h.layout.children_fit p) o) [
      | inl sh ↦ swap_p ls hs root spare count columns f p old new s.us s.vs h sh s.is alone no_way
      | inr sh ↦ swap_q ls hs root spare count columns f p old new s.us s.vs h sh s.is alone no_way
    ])

pub replace_root : (ls : List Link) (hs : List Head) (root spare count columns : ℕ) (f : Layout) (new : ℕ) →
    StandsFor ls hs root spare count columns f → StandsAlone f new → StandsFor ls hs new spare count columns (record f { root = new })
replace_root ls hs root spare count columns f new h alone =
    record {
      layout = record {
        once = h.layout.once;
        used = h.layout.used;
        children_fit = h.layout.children_fit;
        grounds = h.layout.grounds;
        root_used = alone.used;
        root_top = alone.apart;
        leaves = h.layout.leaves;
        no_other_leaf = h.layout.no_other_leaf;
        some = h.layout.some;
        few = h.layout.few;
        size = h.layout.size;
        spare_once = h.layout.spare_once;
        spare_free = h.layout.spare_free;
        spare_all = h.layout.spare_all;
      };
      links_few = h.links_few;
      heads_few = h.heads_few;
      root_is = refl;
      columns_are = h.columns_are;
      shapes = h.shapes;
      heads_are = h.heads_are;
      seats = h.seats;
      tops = h.tops;
      spares_are = h.spares_are;
      spares_count = h.spares_count;
    }

pub replace_top : (ls : List Link) (hs : List Head) (root spare count columns : ℕ) (f : Layout) (old new : ℕ) →
    StandsFor ls hs root spare count columns f → times_child f.slots old ≡ 0 → StandsAlone f new →
    StandsFor (swapped ls old new) (heads_swapped hs (link ls old).parent old new) root spare count columns f
replace_top ls hs root spare count columns f old new h top_name alone =
    let e : link ls old ≡ no_link = h.tops old top_name in
    let n : link ls new ≡ no_link = h.tops new alone.apart in
    let links : swapped ls old new ≡ ls =
    ap (λ (l : Link). let two = relinked_if (relinked_if ls l.near0 old new) l.near1 old new in set (set two new (link two old)) old no_link) e
    ∙ ap (λ l. set (set ls new l) old no_link) (e ∙ sym n) ∙ ap (λ z. set z old no_link) (set-get_or ls new no_link)
    ∙ ap (λ l. set ls old l) (sym e) ∙ set-get_or ls old no_link in
    let heads : heads_swapped hs (link ls old).parent old new ≡ hs = ap (λ (l : Link). heads_swapped hs l.parent old new) e in
    subst (λ z. StandsFor z (heads_swapped hs (link ls old).parent old new) root spare count columns f) (sym links)
    (subst (λ z. StandsFor ls z root spare count columns f) (sym heads) h)

abbrev Near : List Link → ℕ → Type 0
Near ls old = ((link ls old).parent ≢ none → (link ls old).parent < length ls) × ((link ls old).near0 ≢ none → (link ls old).near0 < length ls) × ((link ls old).near1 ≢ none → (link ls old).near1 < length ls)

-- what replace reads and writes is there
pub can_swap : (ls : List Link) (hs : List Head) (root spare count columns : ℕ) (f : Layout) (old new : ℕ) →
    StandsFor ls hs root spare count columns f → IsInUse f old → StandsAlone f new → CanSwap ls hs old new
can_swap ls hs root spare count columns f old new h used alone =
    let lt : (x : ℕ) → IsInUse f x → x < length ls = (λ x u. subst (λ m. x < m) (sym h.links_few) (in_range f x u)) in
    let near : Near ls old = elim (cases_lt 0 (times_child f.slots old)) [
      | inl l ↦ let r = placed_in f.slots old l in
          let s : SplitAt (children_at f r.0) old = split_at (children_at f r.0) old r.1 in
          let kid : (x : ℕ) → 1 ≤ occurs (s.us ++ old ∷ s.vs) x → x < length ls = (λ x o. lt x (h.layout.used x
          (let k : occurs (children_at f r.0) x ≤ times_child f.slots x = children_times f r.0 x in let e : occurs (children_at f r.0) x ≡ occurs (s.us ++ old ∷ s.vs) x = ap (λ z. occurs z x) s.is in omega arith))) in
          elim (has_children (shape_at f r.0) (children_at f r.0) old (h.layout.children_fit r.0) r.1) [
            | inl sh ↦ near_by (link ls old) r.0 (head_or s.vs (head_or s.us old)) (last_or s.us (last_or s.vs old))
                (ring_seat ls hs root spare count columns f r.0 old s.us s.vs h sh s.is) (λ _. lt r.0 (used_by f r.0 P sh))
                (λ _. kid _ (occurs_behind s.us s.vs old)) (λ _. kid _ (occurs_before s.us s.vs old))
            | inr sh ↦ elim (run_seat ls hs root spare count columns f r.0 old s.us s.vs h sh s.is) [
              | inl e ↦ near_by (link ls old) (end_parent r.0 (last_or s.us none) (head_or s.vs none)) (last_or s.us none) (head_or s.vs none) e
                  (parent_lt r.0 (last_or s.us none) (head_or s.vs none) (lt r.0 (used_by f r.0 Q sh))) (last_up s.us s.vs kid) (head_up s.us s.vs kid)
              | inr e ↦ near_by (link ls old) (end_parent r.0 (last_or s.us none) (head_or s.vs none)) (head_or s.vs none) (last_or s.us none) e
                  (parent_lt r.0 (last_or s.us none) (head_or s.vs none) (lt r.0 (used_by f r.0 Q sh))) (head_up s.us s.vs kid) (last_up s.us s.vs kid)
            ]
          ]
      | inr l ↦ near_by (link ls old) none none none (h.tops old (omega arith)) (λ d. absurd (d refl)) (λ d. absurd (d refl)) (λ d. absurd (d refl))
    ] in
    record { old_in = lt old used; new_in = lt new alone.used; near0_in = near.1; near1_in = near.2; parent_in = near.0 }
  where
    near_by : (l : Link) (k a b : ℕ) → l ≡ seat k a b → (k ≢ none → k < length ls) → (a ≢ none → a < length ls) → (b ≢ none → b < length ls) →
        (l.parent ≢ none → l.parent < length ls) × (l.near0 ≢ none → l.near0 < length ls) × (l.near1 ≢ none → l.near1 < length ls)
    near_by l k a b e hk ha hb = subst (λ (z : Link). (z.parent ≢ none → z.parent < length ls) × (z.near0 ≢ none → z.near0 < length ls) × (z.near1 ≢ none → z.near1 < length ls)) (sym e) (hk, ha, hb)

    last_up : (us vs : List ℕ) → ((x : ℕ) → 1 ≤ occurs (us ++ old ∷ vs) x → x < length ls) → last_or us none ≢ none → last_or us none < length ls
    last_up [] vs kid d = absurd (d refl)
    last_up (u ∷ us) vs kid d = kid (last_or us u) (omega (arith, occurs-append (u ∷ us) (old ∷ vs) (last_or us u), occurs_last us u))

    head_up : (us vs : List ℕ) → ((x : ℕ) → 1 ≤ occurs (us ++ old ∷ vs) x → x < length ls) → head_or vs none ≢ none → head_or vs none < length ls
    head_up us [] kid d = absurd (d refl)
    head_up us (v ∷ vs) kid d = kid v (omega (arith, occurs-append us (old ∷ v ∷ vs) v, occurs_here v vs))

    parent_lt : (q n far : ℕ) → q < length ls → end_parent q n far ≢ none → end_parent q n far < length ls
    parent_lt q n far lt d = elim (end_parent_cases q n far) [
      | inl e ↦ subst (λ z. z < length ls) (sym e) lt
      | inr e ↦ absurd (d e)
    ]

pub replace_any : (ls : List Link) (hs : List Head) (root spare count columns : ℕ) (f : Layout) (old new : ℕ) →
    StandsFor ls hs root spare count columns f → StandsAlone f new → (IsAtOrAbove f.slots new old → ⊥) →
    (g : Layout) × StandsFor (swapped ls old new) (heads_swapped hs (link ls old).parent old new) root spare count columns g
replace_any ls hs root spare count columns f old new h alone no_way = elim (cases_lt 0 (times_child f.slots old)) [
  | inl l ↦ let r = placed_in f.slots old l in (_, replace_child ls hs root spare count columns f r.0 old new h r.1 alone no_way)
  | inr l ↦ (f, replace_top ls hs root spare count columns f old new h (omega arith) alone)
]
