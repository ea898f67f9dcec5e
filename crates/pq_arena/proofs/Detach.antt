-- A child leaves its ring.
use Rattle.std.proofs.Common.{◌≡◌, ◌≢◌, inl, inr, ℕ, ◌+◌, ◌-◌, ◌≤◌, ◌<◌, cond, eqb, List, [], ◌∷◌, ◌++◌, length, set, Some, refl, sym, ap, subst, ◌∙◌, arith, eq-eqb, length-append}
use Rattle.std.proofs.lemmas.Bool.{cases_eq, ne_eqb}
use Rattle.std.proofs.lemmas.List.{get_or-set_same, get_or-set_other, length-set}
use Rattle.arena_model.specs.declared.Shape.TheVariants.{P}
use Rattle.pq_arena.specs.declared.node.Link.{Link}
use Rattle.pq_arena.specs.declared.node.Head.{Head}
use Rattle.arena_model.proofs.Lists.{occurs_here, occurs_same, occurs_other, occurs_last, head_or-append, last_or-append, SplitAt, split_at, without_split}
use Rattle.arena_model.proofs.Slots.{in_range, used_by, children_times, fewer_layout}
use Rattle.arena_model.specs.ChildLists.{without, head_or, last_or, none}
use Rattle.arena_model.specs.Layout.{Layout, shape_at, children_at, times_child, MayHaveChildren, with_children}
use Rattle.column_order.proofs.Lists.{occurs-append}
use Rattle.column_order.specs.Orders.{occurs}
use Rattle.pq_arena.proofs.Between.{chain_map, Ring, ring_turn, chain_right, chain_left}
use Rattle.pq_arena.proofs.Children.{stands_with}
use Rattle.pq_arena.specs.StandsFor.{EachBetween, IsInRing, IsSeated, head_of, StandsFor}
use Rattle.pq_arena.specs.Wiring.{seat, no_link, link, head, with_near0, with_near1, unringed, fewer, RingBounds, kind_of}

-- single writes
pub link_set : (ls : List Link) (x : ℕ) (l : Link) → x < length ls → link (set ls x l) x ≡ l
link_set ls x l h = get_or-set_same ls x l no_link h

pub link_off : (ls : List Link) (x y : ℕ) (l : Link) → y ≢ x → link (set ls x l) y ≡ link ls y
link_off ls x y l ne = get_or-set_other ls x y l no_link ne

-- the ring without n, read from the one after n
pub ring_drop : (ls : List Link) (p n w : ℕ) (ws : List ℕ) → Ring (IsInRing ls p) (n ∷ w ∷ ws) →
    ((x : ℕ) → occurs (n ∷ w ∷ ws) x ≤ 1) → ((x : ℕ) → 1 ≤ occurs (n ∷ w ∷ ws) x → x < length ls) →
    Ring (IsInRing (set (with_near1 (with_near0 ls (last_or ws w) w) w (last_or ws w)) n no_link) p) (w ∷ ws)
ring_drop ls p n w ws c once inside =
    let z : ℕ = last_or ws w in
    let ls1 : List Link = with_near0 ls z w in
    let ls2 : List Link = with_near1 ls1 w z in
    let z_in : 1 ≤ occurs (w ∷ ws) z = occurs_last ws w in
    let z_lt : z < length ls = inside z (omega arith) in
    let w_lt : w < length ls1 = let k : w < length ls = inside w (omega (arith, occurs_here w ws)) in omega (arith, length-set ls z (record (link ls z) { near0 = w })) in
    let once' : (x : ℕ) → occurs (w ∷ ws) x ≤ 1 = (λ x. let o : occurs (n ∷ w ∷ ws) x ≤ 1 = once x in omega arith) in
    let step1 : EachBetween (IsInRing ls1 p) n (w ∷ ws) w =
    chain_right (IsInRing ls p) (IsInRing ls1 p) z w ws n n w refl once'
    (λ y a b o ne e. link_off ls z y _ ne ∙ e)
    (λ b e. link_set ls z _ z_lt ∙ ap (λ (l : Link). let k : Link = record l { near0 = w } in k) e) c.1 in
    let step2 : EachBetween (IsInRing ls2 p) z (w ∷ ws) w =
    chain_left (IsInRing ls1 p) (IsInRing ls2 p) w ws n z w once'
    (λ y a b o ne e. link_off ls1 w y _ ne ∙ e)
    (λ b e. link_set ls1 w _ w_lt ∙ ap (λ (l : Link). let k : Link = record l { near1 = z } in k) e) step1 in
    chain_map (IsInRing ls2 p) (IsInRing (set ls2 n no_link) p) (w ∷ ws) z w
    (λ x a b o e. link_off ls2 n x no_link (λ q. let o1 : 1 ≤ occurs (w ∷ ws) n = subst (λ y. 1 ≤ occurs (w ∷ ws) y) q o in
    let o2 : occurs (n ∷ w ∷ ws) n ≤ 1 = once n in omega (arith, occurs_same n (w ∷ ws))) ∙ e) step2

pub once_at : (us vs : List ℕ) (n x : ℕ) → occurs (us ++ n ∷ vs) x ≡ occurs (n ∷ (vs ++ us)) x
once_at us vs n x = omega (arith, occurs-append us (n ∷ vs) x, occurs-append vs us x)

-- what detach does at the links and heads, where the ring is n ∷ ws
pub unringed_at : (ls : List Link) (n p z w : ℕ) → link ls n ≡ seat p w z →
    unringed ls n ≡ set (with_near1 (with_near0 ls z w) w z) n no_link
unringed_at ls n p z w e = ap (λ l. set (with_near1 (with_near0 ls l.near1 l.near0) l.near0 l.near1) n no_link) e

pub ring_without : (ls : List Link) (p n : ℕ) (ws : List ℕ) → Ring (IsInRing ls p) (n ∷ ws) →
    ((x : ℕ) → occurs (n ∷ ws) x ≤ 1) → ((x : ℕ) → 1 ≤ occurs (n ∷ ws) x → x < length ls) →
    Ring (IsInRing (unringed ls n) p) ws
ring_without ls p n [] c once inside = tt
ring_without ls p n (w ∷ ws) c once inside =
    subst (λ z. Ring (IsInRing z p) (w ∷ ws)) (sym (unringed_at ls n p (last_or ws w) w c.0)) (ring_drop ls p n w ws c once inside)

pub unringed_len : (ls : List Link) (n : ℕ) → length (unringed ls n) ≡ length ls
unringed_len ls n =
    length-set (with_near1 (with_near0 ls (link ls n).near1 (link ls n).near0) (link ls n).near0 (link ls n).near1) n no_link
    ∙ length-set (with_near0 ls (link ls n).near1 (link ls n).near0) _ _ ∙ length-set ls _ _

-- other links stay
pub unringed_off : (ls : List Link) (p n x : ℕ) (ws : List ℕ) → Ring (IsInRing ls p) (n ∷ ws) →
    occurs (n ∷ ws) x ≡ 0 → link (unringed ls n) x ≡ link ls x
unringed_off ls p n x ws c o =
    let near0 : 1 ≤ occurs (n ∷ ws) (link ls n).near0 =
    subst (λ l. 1 ≤ occurs (n ∷ ws) l.near0) (sym c.0) (head_in ws) in
    let near1 : 1 ≤ occurs (n ∷ ws) (link ls n).near1 = subst (λ l. 1 ≤ occurs (n ∷ ws) l.near1) (sym c.0) (occurs_last ws n) in
    let a : x ≢ n = (λ e. let k : occurs (n ∷ ws) n ≡ 0 = subst (λ y. occurs (n ∷ ws) y ≡ 0) e o in omega (arith, occurs_here n ws)) in
    let b : x ≢ (link ls n).near0 = (λ e. let k : occurs (n ∷ ws) (link ls n).near0 ≡ 0 = subst (λ y. occurs (n ∷ ws) y ≡ 0) e o in omega arith) in
    let d : x ≢ (link ls n).near1 = (λ e. let k : occurs (n ∷ ws) (link ls n).near1 ≡ 0 = subst (λ y. occurs (n ∷ ws) y ≡ 0) e o in omega arith) in
    link_off _ n x no_link a ∙ link_off _ (link ls n).near0 x _ b ∙ link_off ls (link ls n).near1 x _ d
  where
    head_in : (ws : List ℕ) → 1 ≤ occurs (n ∷ ws) (head_or ws n)
    head_in [] = occurs_here n []
    head_in (w ∷ ws) = omega (arith, occurs_here w ws)

pub p_head_same : {a a' b b' : ℕ} → a ≡ a' → b ≡ b' →
    (let h : Head = record { kind = kind_of (Some P); first = a; last = none; count = b } in h) ≡
    (let h : Head = record { kind = kind_of (Some P); first = a'; last = none; count = b' } in h)
p_head_same {a} {a'} {b} {b'} e f =
    ap (λ x. let h : Head = record { kind = kind_of (Some P); first = x; last = none; count = b } in h) e
    ∙ ap (λ y. let h : Head = record { kind = kind_of (Some P); first = a'; last = none; count = y } in h) f

-- the head of p afterwards
pub fewer_at : (hs : List Head) (l : Link) (p n : ℕ) (us vs : List ℕ) → l ≡ seat p (head_or vs (head_or us n)) (last_or us (last_or vs n)) →
    head hs p ≡ head_of P (us ++ n ∷ vs) → occurs (us ++ n ∷ vs) n ≤ 1 → fewer hs l n ≡ set hs p (head_of P (us ++ vs))
fewer_at hs l p n us vs le he once =
    ap (λ m. fewer hs m n) le ∙ ap (λ h. set hs p (record h {
      first = cond (eqb h.count 1) none (cond (eqb h.first n) (head_or vs (head_or us n)) h.first);
      count = h.count - 1;
    })) he ∙ ap (λ h. set hs p h) (same us vs once)
  where
    same : (us vs : List ℕ) → occurs (us ++ n ∷ vs) n ≤ 1 → record (head_of P (us ++ n ∷ vs)) {
      first = cond (eqb (length (us ++ n ∷ vs)) 1) none (cond (eqb (head_or (us ++ n ∷ vs) none) n) (head_or vs (head_or us n)) (head_or (us ++ n ∷ vs) none));
      count = length (us ++ n ∷ vs) - 1;
    } ≡ head_of P (us ++ vs)
    same [] [] once = refl
    same [] (v ∷ vs) once =
        p_head_same
        (ap (λ b. cond b none (cond (eqb n n) v n)) (ne_eqb (length (n ∷ v ∷ vs)) 1 (λ e. omega arith))
        ∙ ap (λ b. cond b v n) (eq-eqb n n refl))
        (omega arith)
    same (u ∷ us) vs once =
        let ne : u ≢ n = (λ e. let o : 1 ≤ occurs (n ∷ vs) n = occurs_here n vs in
        let o' : occurs (u ∷ us) n ≡ 1 + occurs us n = subst (λ y. occurs (u ∷ us) y ≡ 1 + occurs us y) e (occurs_same u us) in
        omega (arith, occurs-append (u ∷ us) (n ∷ vs) n)) in
        p_head_same
        (ap (λ b. cond b none (cond (eqb u n) (head_or vs u) u))
        (ne_eqb (length (u ∷ us ++ n ∷ vs)) 1 (λ e. let k : length (us ++ n ∷ vs) ≡ length us + length (n ∷ vs) = length-append us (n ∷ vs) in omega arith))
        ∙ ap (λ b. cond b (head_or vs u) u) (ne_eqb u n ne))
        (let k : length (us ++ n ∷ vs) ≡ length us + length (n ∷ vs) = length-append us (n ∷ vs) in
        let k' : length (us ++ vs) ≡ length us + length vs = length-append us vs in omega arith)

-- detach
pub detach_stands : (ls : List Link) (hs : List Head) (root spare count columns : ℕ) (f : Layout) (p n : ℕ) →
    StandsFor ls hs root spare count columns f → shape_at f p ≡ Some P → 1 ≤ occurs (children_at f p) n →
    StandsFor (unringed ls n) (fewer hs (link ls n) n) root spare count columns (with_children f p (without (children_at f p) n))
detach_stands ls hs root spare count columns f p n h sh o =
    let s : SplitAt (children_at f p) n = split_at (children_at f p) n o in
    let lt : p < length f.slots = in_range f p (used_by f p P sh) in
    let once : (x : ℕ) → occurs (s.us ++ n ∷ s.vs) x ≤ 1 =
    (λ x. subst (λ z. occurs z x ≤ 1) s.is (let a : times_child f.slots x ≤ 1 = h.layout.once x in let b : occurs (children_at f p) x ≤ times_child f.slots x = children_times f p x in omega arith)) in
    let gone : without (children_at f p) n ≡ s.us ++ s.vs = ap (λ z. without z n) s.is ∙ without_split s.us s.vs n (once n) in
    let ring : Ring (IsInRing ls p) (children_at f p) = subst (λ z. IsSeated ls p z (children_at f p)) sh (h.seats p) in
    let ring_n : Ring (IsInRing ls p) (n ∷ (s.vs ++ s.us)) = ring_turn (IsInRing ls p) s.us (n ∷ s.vs) (subst (λ z. Ring (IsInRing ls p) z) s.is ring) in
    let once_n : (x : ℕ) → occurs (n ∷ (s.vs ++ s.us)) x ≤ 1 = (λ x. subst (λ k. k ≤ 1) (once_at s.us s.vs n x) (once x)) in
    let inside : (x : ℕ) → 1 ≤ occurs (n ∷ (s.vs ++ s.us)) x → x < length ls =
    (λ x k. subst (λ m. x < m) (sym h.links_few) (in_range f x (h.layout.used x
    (let a : occurs (children_at f p) x ≤ times_child f.slots x = children_times f p x in
    let b : occurs (children_at f p) x ≡ occurs (n ∷ (s.vs ++ s.us)) x = ap (λ z. occurs z x) s.is ∙ once_at s.us s.vs n x in omega arith)))) in
    let seat_n : link ls n ≡ seat p (head_or s.vs (head_or s.us n)) (last_or s.us (last_or s.vs n)) =
    ring_n.0 ∙ ap (λ z. seat p z (last_or (s.vs ++ s.us) n)) (head_or-append s.vs s.us n)
    ∙ ap (λ z. seat p (head_or s.vs (head_or s.us n)) z) (last_or-append s.vs s.us n) in
    let ks : List ℕ = without (children_at f p) n in
    let count_of : (x : ℕ) → occurs (children_at f p) x ≡ occurs (n ∷ []) x + occurs ks x =
    (λ x. ap (λ z. occurs z x) s.is ∙ (let e : occurs ks x ≡ occurs (s.us ++ s.vs) x = ap (λ z. occurs z x) gone in
    omega (arith, occurs-append s.us (n ∷ s.vs) x, occurs-append s.us s.vs x))) in
    stands_with ls (unringed ls n) hs (fewer hs (link ls n) n) root spare count columns f p P ks h sh
    (fewer_layout f p ks h.layout lt (subst (λ z. MayHaveChildren z ks) (sym sh) tt) (λ x. omega (arith, count_of x)))
    (unringed_len ls n)
    (fewer_at hs (link ls n) p n s.us s.vs seat_n (h.heads_are p P sh ∙ ap (λ z. head_of P z) s.is) (once n) ∙ ap (λ z. set hs p (head_of P z)) (sym gone))
    refl
    (λ x o1 o2. unringed_off ls p n x (s.vs ++ s.us) ring_n (sym (once_at s.us s.vs n x) ∙ sym (ap (λ z. occurs z x) s.is) ∙ o1))
    (subst (λ z. Ring (IsInRing (unringed ls n) p) z) (sym gone)
    (ring_turn (IsInRing (unringed ls n) p) s.vs s.us (ring_without ls p n (s.vs ++ s.us) ring_n once_n inside)))
    (λ x o1 o2. let e : x ≡ n = only x n (let c : occurs (children_at f p) x ≡ occurs (n ∷ []) x + occurs ks x = count_of x in omega arith) in
    subst (λ y. link (unringed ls n) y ≡ no_link) (sym e) (link_set _ n no_link
    (subst (λ m. n < m) (sym (length-set (with_near0 ls (link ls n).near1 (link ls n).near0) _ _ ∙ length-set ls _ _)) (inside n (occurs_here n (s.vs ++ s.us))))))
  where
    only : (x n : ℕ) → 1 ≤ occurs (n ∷ []) x → x ≡ n
    only x n o = elim (cases_eq x n) [ inl e ↦ e | inr ne ↦ absurd (let z : occurs (n ∷ []) x ≡ 0 = occurs_other n x [] ne in omega arith) ]

pub ring_bounds : (ls : List Link) (hs : List Head) (root spare count columns : ℕ) (f : Layout) (p n : ℕ) →
    StandsFor ls hs root spare count columns f → shape_at f p ≡ Some P → 1 ≤ occurs (children_at f p) n → RingBounds ls hs n
ring_bounds ls hs root spare count columns f p n h sh o =
    let s : SplitAt (children_at f p) n = split_at (children_at f p) n o in
    let lt : p < length f.slots = in_range f p (used_by f p P sh) in
    let ring : Ring (IsInRing ls p) (children_at f p) = subst (λ z. IsSeated ls p z (children_at f p)) sh (h.seats p) in
    let ring_n : Ring (IsInRing ls p) (n ∷ (s.vs ++ s.us)) = ring_turn (IsInRing ls p) s.us (n ∷ s.vs) (subst (λ z. Ring (IsInRing ls p) z) s.is ring) in
    let inside : (x : ℕ) → 1 ≤ occurs (n ∷ (s.vs ++ s.us)) x → x < length ls =
    (λ x k. subst (λ m. x < m) (sym h.links_few) (in_range f x (h.layout.used x
    (let a : occurs (children_at f p) x ≤ times_child f.slots x = children_times f p x in
    let b : occurs (children_at f p) x ≡ occurs (n ∷ (s.vs ++ s.us)) x = ap (λ z. occurs z x) s.is ∙ once_at s.us s.vs n x in omega arith)))) in
    record {
      n_in = inside n (occurs_here n (s.vs ++ s.us));
      parent_in = subst (λ l. l.parent < length ls) (sym ring_n.0) (subst (λ m. p < m) (sym h.links_few) lt);
      near0_in = subst (λ l. l.near0 < length ls) (sym ring_n.0) (inside _ (head_in (s.vs ++ s.us)));
      near1_in = subst (λ l. l.near1 < length ls) (sym ring_n.0) (inside _ (occurs_last (s.vs ++ s.us) n));
      some = subst (λ l. 1 ≤ (head hs l.parent).count) (sym ring_n.0)
          (subst (λ z. 1 ≤ z.count) (sym (h.heads_are p P sh ∙ ap (λ z. head_of P z) s.is)) (omega (arith, length-append s.us (n ∷ s.vs))));
    }
  where
    head_in : (ws : List ℕ) → 1 ≤ occurs (n ∷ ws) (head_or ws n)
    head_in [] = occurs_here n []
    head_in (w ∷ ws) = omega (arith, occurs_here w ws)
