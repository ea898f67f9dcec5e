-- A node that stands alone enters the ring of a P-node.
use Rattle.std.proofs.Common.{◌≡◌, ◌≢◌, inl, inr, ℕ, ◌+◌, ◌≤◌, ◌<◌, cond, List, [], ◌∷◌, length, set, Some, refl, sym, ap, subst, ◌∙◌, arith}
use Rattle.arena_model.specs.declared.TheConstants.{NODE_BOUND}
use Rattle.std.proofs.lemmas.Bool.{cases_eq, ne_eqb}
use Rattle.std.proofs.lemmas.List.{length-set}
use Rattle.arena_model.specs.declared.Shape.TheVariants.{P}
use Rattle.pq_arena.specs.declared.node.Link.{Link}
use Rattle.pq_arena.specs.declared.node.Head.{Head}
use Rattle.arena_model.proofs.Lists.{occurs_here, occurs_same, occurs_other, occurs_last, few_once}
use Rattle.arena_model.proofs.Slots.{in_range, used_by, children_times, more_layout, few_slots}
use Rattle.arena_model.specs.ChildLists.{head_or, last_or, none}
use Rattle.arena_model.specs.Layout.{Layout, shape_at, children_at, times_child, MayHaveChildren, StandsAlone, IsAtOrAbove, with_children}
use Rattle.column_order.specs.Orders.{occurs}
use Rattle.pq_arena.proofs.Between.{chain_map, Ring, chain_right, chain_left}
use Rattle.pq_arena.proofs.Children.{stands_with}
use Rattle.pq_arena.proofs.Detach.{link_set, link_off, p_head_same}
use Rattle.pq_arena.specs.StandsFor.{EachBetween, IsInRing, IsSeated, head_of, StandsFor}
use Rattle.pq_arena.specs.Wiring.{seat, link, head, with_near0, with_near1, ringed, more, CanEnter}

-- what attach does where the ring is ks
abbrev pub wider : List Link → ℕ → ℕ → List ℕ → List Link
wider ls p n [] = set ls n (seat p n n)
wider ls p n (w ∷ ws) = set (with_near1 (with_near0 ls (last_or ws w) n) w n) n (seat p w (last_or ws w))

pub ringed_at : (ls : List Link) (h : Head) (p n : ℕ) (ks : List ℕ) → h ≡ head_of P ks → Ring (IsInRing ls p) ks → ringed ls h p n ≡ wider ls p n ks
ringed_at ls h p n [] e c = ap (λ z. ringed ls z p n) e
ringed_at ls h p n (w ∷ ws) e c =
    ap (λ z. ringed ls z p n) e
    ∙ ap (λ b. cond b (set ls n (seat p n n)) (let back = (link ls w).near1 in set (with_near1 (with_near0 ls back n) w n) n (seat p w back)))
    (ne_eqb (length (w ∷ ws)) 0 (λ q. omega arith))
    ∙ ap (λ l. set (with_near1 (with_near0 ls l.near1 n) w n) n (seat p w l.near1)) c.0

pub wider_len : (ls : List Link) (p n : ℕ) (ks : List ℕ) → length (wider ls p n ks) ≡ length ls
wider_len ls p n [] = length-set ls n _
wider_len ls p n (w ∷ ws) = length-set (with_near1 (with_near0 ls (last_or ws w) n) w n) n _ ∙ length-set (with_near0 ls (last_or ws w) n) w _ ∙ length-set ls _ _

pub wider_off : (ls : List Link) (p n x : ℕ) (ks : List ℕ) → occurs (n ∷ ks) x ≡ 0 → link (wider ls p n ks) x ≡ link ls x
wider_off ls p n x [] o = link_off ls n x _ (λ e. let k : occurs (n ∷ []) n ≡ 0 = subst (λ y. occurs (n ∷ []) y ≡ 0) e o in omega (arith, occurs_here n []))
wider_off ls p n x (w ∷ ws) o =
    let ks : List ℕ = w ∷ ws in
    let a : x ≢ n = (λ e. let k : occurs (n ∷ ks) n ≡ 0 = subst (λ y. occurs (n ∷ ks) y ≡ 0) e o in omega (arith, occurs_here n ks)) in
    let b : x ≢ w = (λ e. let k : occurs (n ∷ ks) w ≡ 0 = subst (λ y. occurs (n ∷ ks) y ≡ 0) e o in omega (arith, occurs_here w ws)) in
    let d : x ≢ last_or ws w = (λ e. let k : occurs (n ∷ ks) (last_or ws w) ≡ 0 = subst (λ y. occurs (n ∷ ks) y ≡ 0) e o in omega (arith, occurs_last ws w)) in
    link_off _ n x _ a ∙ link_off _ w x _ b ∙ link_off ls (last_or ws w) x _ d

pub wider_ring : (ls : List Link) (p n : ℕ) (ks : List ℕ) → Ring (IsInRing ls p) ks → n < length ls →
    ((x : ℕ) → occurs (n ∷ ks) x ≤ 1) → ((x : ℕ) → 1 ≤ occurs ks x → x < length ls) → Ring (IsInRing (wider ls p n ks) p) (n ∷ ks)
wider_ring ls p n [] c lt once inside = (link_set ls n _ lt, tt)
wider_ring ls p n (w ∷ ws) c lt once inside =
    let z : ℕ = last_or ws w in
    let ls1 : List Link = with_near0 ls z n in
    let ls2 : List Link = with_near1 ls1 w n in
    let z_lt : z < length ls = inside z (occurs_last ws w) in
    let len1 : length ls1 ≡ length ls = length-set ls z _ in
    let len2 : length ls2 ≡ length ls = length-set ls1 w _ ∙ len1 in
    let w_lt : w < length ls1 = let k : w < length ls = inside w (occurs_here w ws) in subst (λ m. w < m) (sym len1) k in
    let once' : (x : ℕ) → occurs (w ∷ ws) x ≤ 1 = (λ x. let o : occurs (n ∷ w ∷ ws) x ≤ 1 = once x in omega arith) in
    let step1 : EachBetween (IsInRing ls1 p) z (w ∷ ws) n =
    chain_right (IsInRing ls p) (IsInRing ls1 p) z w ws z w n refl once'
    (λ y a b o ne e. link_off ls z y _ ne ∙ e)
    (λ b e. link_set ls z _ z_lt ∙ ap (λ (l : Link). let k : Link = record l { near0 = n } in k) e) c in
    let step2 : EachBetween (IsInRing ls2 p) n (w ∷ ws) n =
    chain_left (IsInRing ls1 p) (IsInRing ls2 p) w ws z n n once'
    (λ y a b o ne e. link_off ls1 w y _ ne ∙ e)
    (λ b e. link_set ls1 w _ w_lt ∙ ap (λ (l : Link). let k : Link = record l { near1 = n } in k) e) step1 in (
      link_set ls2 n _ (subst (λ m. n < m) (sym len2) lt),
      chain_map (IsInRing ls2 p) (IsInRing (set ls2 n (seat p w z)) p) (w ∷ ws) n n
          (λ x a b o e. link_off ls2 n x _ (λ q. let o1 : 1 ≤ occurs (w ∷ ws) n = subst (λ y. 1 ≤ occurs (w ∷ ws) y) q o in
          let o2 : occurs (n ∷ w ∷ ws) n ≤ 1 = once n in omega (arith, occurs_same n (w ∷ ws))) ∙ e) step2,
    )

pub attach_stands : (ls : List Link) (hs : List Head) (root spare count columns : ℕ) (f : Layout) (p n : ℕ) →
    StandsFor ls hs root spare count columns f → shape_at f p ≡ Some P → StandsAlone f n → (IsAtOrAbove f.slots n p → ⊥) →
    StandsFor (ringed ls (head hs p) p n) (more hs p n) root spare count columns (with_children f p (n ∷ children_at f p))
attach_stands ls hs root spare count columns f p n h sh alone no_way =
    let ks : List ℕ = children_at f p in
    let lt : p < length f.slots = in_range f p (used_by f p P sh) in
    let ring : Ring (IsInRing ls p) ks = subst (λ z. IsSeated ls p z ks) sh (h.seats p) in
    let n_lt : n < length ls = subst (λ m. n < m) (sym h.links_few) (in_range f n alone.used) in
    let at : (x : ℕ) → occurs ks x ≤ times_child f.slots x = (λ x. children_times f p x) in
    let apart : times_child f.slots n ≡ 0 = alone.apart in
    let once : (x : ℕ) → occurs (n ∷ ks) x ≤ 1 = (λ x. elim (cases_eq x n) [
      | inl e ↦ subst (λ y. occurs (n ∷ ks) y ≤ 1) (sym e) (let a : occurs ks n ≤ times_child f.slots n = at n in omega (arith, occurs_same n ks))
      | inr ne ↦ subst (λ k. k ≤ 1) (sym (occurs_other n x ks ne)) (let a : occurs ks x ≤ times_child f.slots x = at x in let b : times_child f.slots x ≤ 1 = h.layout.once x in omega arith)
    ]) in
    let inside : (x : ℕ) → 1 ≤ occurs ks x → x < length ls =
    (λ x o. subst (λ m. x < m) (sym h.links_few) (in_range f x (h.layout.used x (let a : occurs ks x ≤ times_child f.slots x = at x in omega arith)))) in
    let is : ringed ls (head hs p) p n ≡ wider ls p n ks = ringed_at ls (head hs p) p n ks (h.heads_are p P sh) ring in
    subst (λ z. StandsFor z (more hs p n) root spare count columns (with_children f p (n ∷ ks))) (sym is)
    (stands_with ls (wider ls p n ks) hs (more hs p n) root spare count columns f p P (n ∷ ks) h sh
    (more_layout f p n (n ∷ ks) h.layout lt (subst (λ z. MayHaveChildren z (n ∷ ks)) (sym sh) tt) alone no_way (λ x. omega arith))
    (wider_len ls p n ks)
    (ap (λ z. set hs p (record z { first = n; count = z.count + 1 })) (h.heads_are p P sh) ∙ ap (λ z. set hs p z) (p_head_same refl (omega arith)))
    refl
    (λ x o1 o2. wider_off ls p n x ks o2)
    (wider_ring ls p n ks ring n_lt once inside)
    (λ x o1 o2. absurd (omega arith)))

pub enter_bounds : (ls : List Link) (hs : List Head) (root spare count columns : ℕ) (f : Layout) (p n : ℕ) →
    StandsFor ls hs root spare count columns f → shape_at f p ≡ Some P → StandsAlone f n → CanEnter ls hs p n
enter_bounds ls hs root spare count columns f p n h sh alone =
    let ks : List ℕ = children_at f p in
    let lt : p < length f.slots = in_range f p (used_by f p P sh) in
    let ring : Ring (IsInRing ls p) ks = subst (λ z. IsSeated ls p z ks) sh (h.seats p) in
    let n_lt : n < length f.slots = in_range f n alone.used in
    let apart : times_child f.slots n ≡ 0 = alone.apart in
    let at : (x : ℕ) → occurs ks x ≤ times_child f.slots x = (λ x. children_times f p x) in
    let once : (x : ℕ) → occurs (n ∷ ks) x ≤ 1 = (λ x. elim (cases_eq x n) [
      | inl e ↦ subst (λ y. occurs (n ∷ ks) y ≤ 1) (sym e) (let a : occurs ks n ≤ times_child f.slots n = at n in omega (arith, occurs_same n ks))
      | inr ne ↦ subst (λ k. k ≤ 1) (sym (occurs_other n x ks ne)) (let a : occurs ks x ≤ times_child f.slots x = at x in let b : times_child f.slots x ≤ 1 = h.layout.once x in omega arith)
    ]) in
    let inside : (x : ℕ) → 1 ≤ occurs ks x → x < length f.slots =
    (λ x o. in_range f x (h.layout.used x (let a : occurs ks x ≤ times_child f.slots x = at x in omega arith))) in
    let head_is : head hs p ≡ head_of P ks = h.heads_are p P sh in
    let few : length (n ∷ ks) ≤ length f.slots = few_once (n ∷ ks) (length f.slots) once
    (λ x o. elim (cases_eq x n) [ inl e ↦ subst (λ y. y < length f.slots) (sym e) n_lt | inr ne ↦ inside x (subst (λ k. 1 ≤ k) (occurs_other n x ks ne) o) ]) in
    let all : length f.slots ≤ NODE_BOUND = few_slots f h.layout in
    record {
      n_in = subst (λ m. n < m) (sym h.links_few) n_lt;
      p_in = subst (λ m. p < m) (sym h.links_few) lt;
      first_in = subst (λ z. 1 ≤ z.count → z.first < length ls) (sym head_is) (subst (λ m. 1 ≤ length ks → head_or ks none < m) (sym h.links_few) (first_at ks inside));
      back_in = subst (λ z. 1 ≤ z.count → (link ls z.first).near1 < length ls) (sym head_is)
          (subst (λ m. 1 ≤ length ks → (link ls (head_or ks none)).near1 < m) (sym h.links_few) (back_at ks inside ring));
      few = subst (λ z. z.count < NODE_BOUND) (sym head_is) (omega arith);
    }
  where
    first_at : (ks : List ℕ) → ((x : ℕ) → 1 ≤ occurs ks x → x < length f.slots) → 1 ≤ length ks → head_or ks none < length f.slots
    first_at [] inside o = absurd (omega arith)
    first_at (k ∷ ks) inside o = inside k (occurs_here k ks)

    back_at : (ks : List ℕ) → ((x : ℕ) → 1 ≤ occurs ks x → x < length f.slots) → Ring (IsInRing ls p) ks → 1 ≤ length ks →
        (link ls (head_or ks none)).near1 < length f.slots
    back_at [] inside c o = absurd (omega arith)
    back_at (k ∷ ks) inside c o = subst (λ l. l.near1 < length f.slots) (sym c.0) (inside (last_or ks k) (occurs_last ks k))
