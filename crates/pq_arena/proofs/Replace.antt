-- replace: new has the place of old.
use Rattle.std.proofs.Common.{◌≡◌, ◌≢◌, inl, inr, ℕ, ◌+◌, ◌≤◌, ◌<◌, true, cond, eqb, ◌||◌, List, [], ◌∷◌, ◌++◌, length, set, Some, None, refl, sym, ap, subst, ◌∙◌, arith, eq-eqb, length-append}
use Rattle.arena_model.specs.declared.TheConstants.{NODE_BOUND}
use Rattle.std.proofs.lemmas.Bool.{cases_eq, ne_eqb}
use Rattle.std.proofs.lemmas.List.{length-set, get_or_past, set-get_or}
use Rattle.arena_model.specs.declared.Shape.{Shape}
use Rattle.arena_model.specs.declared.Shape.TheVariants.{P, Q}
use Rattle.pq_arena.specs.declared.node.Link.{Link}
use Rattle.pq_arena.specs.declared.node.Head.{Head}
use Rattle.arena_model.proofs.Lists.{occurs_here, occurs_same, occurs_other, occurs_last, only_one, head_or-append, last_or-append, parent_right, parent_left}
use Rattle.arena_model.proofs.Paths.{above_step}
use Rattle.arena_model.proofs.Slots.{in_range, used_by, children_same, children_other, shape_same, times_with, children_times, fewer_layout, more_layout, few_slots, set_set}
use Rattle.arena_model.specs.ChildLists.{head_or, last_or, end_parent, none}
use Rattle.arena_model.specs.Layout.{Slot, Layout, slot, shape_at, children_at, times_child, IsAtOrAbove, here, down, StandsAlone, MayHaveChildren, IsLayout, with_children}
use Rattle.column_order.proofs.Lists.{occurs-append}
use Rattle.column_order.specs.Orders.{occurs}
use Rattle.pq_arena.proofs.Between.{chain_split, chain_join, Ring, ring_turn, chain_right, chain_left}
use Rattle.pq_arena.proofs.Children.{stands_with}
use Rattle.pq_arena.proofs.Detach.{link_set, link_off, p_head_same}
use Rattle.pq_arena.proofs.Runs.{Between, turned_between, redirect, between_parent}
use Rattle.pq_arena.proofs.Splice.{rel_off, rel_at, rel_len, differ, end_off, head_off, last_in, head_in}
use Rattle.pq_arena.specs.StandsFor.{EachBetween, IsInRing, IsInRun, IsSeated, head_of, StandsFor}
use Rattle.pq_arena.specs.Wiring.{seat, no_link, no_head, link, head, redirected, relinked_if, moved_to, swapped, end_swapped, heads_swapped, kind_of}

above_less : (slots slots' : List Slot) → ((m k : ℕ) → 1 ≤ occurs (slot slots' m).children k → 1 ≤ occurs (slot slots m).children k) →
    (a b : ℕ) → IsAtOrAbove slots' a b → IsAtOrAbove slots a b
above_less slots slots' h _ _ (here n) = here n
above_less slots slots' h _ _ (down n k x o l) = down n k x (h n k o) (above_less slots slots' h k x l)

pub swap_layout : (f : Layout) (p old new : ℕ) (us vs : List ℕ) → IsLayout f → p < length f.slots → ((ks : List ℕ) → MayHaveChildren (shape_at f p) ks) →
    children_at f p ≡ us ++ old ∷ vs → StandsAlone f new → (IsAtOrAbove f.slots new old → ⊥) → IsLayout (with_children f p (us ++ new ∷ vs))
swap_layout f p old new us vs h lt may is alone no_way =
    let a : List ℕ = us ++ vs in
    let f1 : Layout = with_children f p a in
    let ks : List ℕ = us ++ new ∷ vs in
    let less : (x : ℕ) → occurs a x ≤ occurs (children_at f p) x = (λ x. let e : occurs (children_at f p) x ≡ occurs (us ++ old ∷ vs) x = ap (λ z. occurs z x) is in
    omega (arith, occurs-append us vs x, occurs-append us (old ∷ vs) x)) in
    let old_in : 1 ≤ occurs (children_at f p) old = (let e : occurs (children_at f p) old ≡ occurs (us ++ old ∷ vs) old = ap (λ z. occurs z old) is in
    omega (arith, occurs-append us (old ∷ vs) old, occurs_here old vs)) in
    let h1 : IsLayout f1 = fewer_layout f p a h lt (may a) less in
    let lt1 : p < length f1.slots = subst (λ m. p < m) (sym (length-set f.slots p _)) lt in
    let same_shape : shape_at f1 p ≡ shape_at f p = shape_same f p p a lt in
    let h2 : IsLayout (with_children f1 p ks) =
    more_layout f1 p new ks h1 lt1 (subst (λ s. MayHaveChildren s ks) (sym same_shape) (may ks))
    (record {
      used = subst (λ s. s ≢ None) (sym (shape_same f p new a lt)) alone.used;
      apart = let z : times_child f.slots new ≡ 0 = alone.apart in let l : occurs a new ≤ occurs (children_at f p) new = less new in omega (arith, times_with f p a new lt);
      other = alone.other;
    })
    (λ l. no_way (above_step f.slots new p old
    (above_less f.slots f1.slots (λ m k o. elim (cases_eq m p) [
      | inl e ↦ let o1 : 1 ≤ occurs (children_at f1 p) k = subst (λ z. 1 ≤ occurs (children_at f1 z) k) e o in
          let o2 : 1 ≤ occurs a k = subst (λ z. 1 ≤ occurs z k) (children_same f p a lt) o1 in
          let l2 : occurs a k ≤ occurs (children_at f p) k = less k in
          let o3 : 1 ≤ occurs (children_at f p) k = omega arith in subst (λ z. 1 ≤ occurs (children_at f z) k) (sym e) o3
      | inr ne ↦ subst (λ z. 1 ≤ occurs z k) (children_other f p m a ne) o
    ]) new p l) old_in))
    (λ x. ap (λ k. k) (let e : occurs (children_at f1 p) x ≡ occurs a x = ap (λ z. occurs z x) (children_same f p a lt) in
    let r : occurs ks x ≡ occurs (new ∷ []) x + occurs (children_at f1 p) x = omega (arith, occurs-append us vs x, occurs-append us (new ∷ vs) x) in r)) in
    subst (λ (slots : List Slot). IsLayout (record f { slots = slots }))
    (set_set f.slots p (record { shape = shape_at f p; children = a }) (record { shape = shape_at f1 p; children = ks })
    ∙ ap (λ s. set f.slots p (let c : Slot = record { shape = s; children = ks } in c)) same_shape) h2

-- the links afterwards, node by node
pub record Swapped (ls ls' : List Link) (old new a b : ℕ) : Type 0 where
  pub at_a : a ≢ b → a ≢ none → link ls' a ≡ redirected (link ls a) old new
  pub at_b : a ≢ b → b ≢ none → link ls' b ≡ redirected (link ls b) old new
  pub at_new : a ≢ old → b ≢ old → link ls' new ≡ link ls old
  pub at_old : link ls' old ≡ no_link
  pub off : (x : ℕ) → x ≢ a → x ≢ b → x ≢ new → x ≢ old → link ls' x ≡ link ls x
  pub len : length ls' ≡ length ls

pub record CanSwapLinks (ls : List Link) (old new : ℕ) : Type 0 where
  pub old_in : old < length ls
  pub new_in : new < length ls
  pub apart : old ≢ new
  pub a_in : (link ls old).near0 ≢ none → (link ls old).near0 < length ls
  pub b_in : (link ls old).near1 ≢ none → (link ls old).near1 < length ls
  pub a_old : (link ls old).near0 ≢ old
  pub b_old : (link ls old).near1 ≢ old
  pub a_new : (link ls old).near0 ≢ new
  pub b_new : (link ls old).near1 ≢ new

pub swapped_at : (ls : List Link) (old new : ℕ) → CanSwapLinks ls old new → Swapped ls (swapped ls old new) old new (link ls old).near0 (link ls old).near1
swapped_at ls old new c =
    let a : ℕ = (link ls old).near0 in
    let b : ℕ = (link ls old).near1 in
    let one : List Link = relinked_if ls a old new in
    let two : List Link = relinked_if one b old new in
    let three : List Link = set two new (link two old) in
    let len1 : length one ≡ length ls = rel_len ls a old new in
    let len2 : length two ≡ length ls = rel_len one b old new ∙ len1 in
    let len3 : length three ≡ length ls = length-set two new _ ∙ len2 in
    record {
      at_a = λ ab an. link_off three old a no_link c.a_old ∙ link_off two new a _ c.a_new ∙ rel_off one b old new a ab ∙ rel_at ls a old new an (c.a_in an);
      at_b = λ ab bn. link_off three old b no_link c.b_old ∙ link_off two new b _ c.b_new
          ∙ rel_at one b old new bn (subst (λ m. b < m) (sym len1) (c.b_in bn)) ∙ ap (λ z. redirected z old new) (rel_off ls a old new b (λ e. ab (sym e)));
      at_new = λ ao bo. link_off three old new no_link (λ e. c.apart (sym e)) ∙ link_set two new _ (subst (λ m. new < m) (sym len2) c.new_in)
          ∙ rel_off one b old new old (λ e. bo (sym e)) ∙ rel_off ls a old new old (λ e. ao (sym e));
      at_old = link_set three old no_link (subst (λ m. old < m) (sym len3) c.old_in);
      off = λ x xa xb xn xo. link_off three old x no_link xo ∙ link_off two new x _ xn ∙ rel_off one b old new x xb ∙ rel_off ls a old new x xa;
      len = length-set three old no_link ∙ len3;
    }

-- heads
last_off : (vs : List ℕ) (old new : ℕ) → occurs vs old ≡ 0 → cond (eqb (last_or vs old) old) new (last_or vs old) ≡ last_or vs new
last_off [] old new o = ap (λ b. cond b new old) (eq-eqb old old refl)
last_off (v ∷ vs) old new o = ap (λ b. cond b new (last_or vs v)) (ne_eqb (last_or vs v) old (λ e. differ (v ∷ vs) old (last_or vs v) o (occurs_last vs v) (sym e)))

first_off : (us : List ℕ) (old new : ℕ) → occurs us old ≡ 0 → cond (eqb (head_or us old) old) new (head_or us old) ≡ head_or us new
first_off [] old new o = ap (λ b. cond b new old) (eq-eqb old old refl)
first_off (u ∷ us) old new o = ap (λ b. cond b new u) (ne_eqb u old (λ e. differ (u ∷ us) old u o (occurs_here u us) (sym e)))

head_at : (us vs : List ℕ) (x : ℕ) → head_or (us ++ x ∷ vs) none ≡ head_or us x
head_at us vs x = head_or-append us (x ∷ vs) none

last_at : (us vs : List ℕ) (x : ℕ) → last_or (us ++ x ∷ vs) none ≡ last_or vs x
last_at us vs x = last_or-append us (x ∷ vs) none

q_ends : {a a' b b' : ℕ} → a ≡ a' → b ≡ b' →
    (let h : Head = record { kind = kind_of (Some Q); first = a; last = b; count = 0 } in h) ≡ (let h : Head = record { kind = kind_of (Some Q); first = a'; last = b'; count = 0 } in h)
q_ends {a} {a'} {b} {b'} e f =
    ap (λ x. let h : Head = record { kind = kind_of (Some Q); first = x; last = b; count = 0 } in h) e ∙ ap (λ y. let h : Head = record { kind = kind_of (Some Q); first = a'; last = y; count = 0 } in h) f

pub ends_q : (us vs : List ℕ) (old new : ℕ) → occurs us old ≡ 0 → occurs vs old ≡ 0 → end_swapped (head_of Q (us ++ old ∷ vs)) old new ≡ head_of Q (us ++ new ∷ vs)
ends_q us vs old new o1 o2 =
    q_ends (ap (λ z. cond (eqb z old) new z) (head_at us vs old) ∙ first_off us old new o1 ∙ sym (head_at us vs new))
    (ap (λ z. cond (eqb z old) new z) (last_at us vs old) ∙ last_off vs old new o2 ∙ sym (last_at us vs new))

inner_q : (u v : ℕ) (us vs : List ℕ) (old new : ℕ) → head_of Q (u ∷ us ++ old ∷ v ∷ vs) ≡ head_of Q (u ∷ us ++ new ∷ v ∷ vs)
inner_q u v us vs old new = q_ends {a = u} {a' = u} refl (last_or-append us (old ∷ v ∷ vs) u ∙ sym (last_or-append us (new ∷ v ∷ vs) u))

heads_q : (hs : List Head) (q old new : ℕ) (us vs : List ℕ) → head hs q ≡ head_of Q (us ++ old ∷ vs) → q ≢ none →
    ((x : ℕ) → 1 ≤ occurs us x → x ≢ none) → ((x : ℕ) → 1 ≤ occurs vs x → x ≢ none) → occurs us old ≡ 0 → occurs vs old ≡ 0 →
    heads_swapped hs (end_parent q (last_or us none) (head_or vs none)) old new ≡ set hs q (head_of Q (us ++ new ∷ vs))
heads_q hs q old new us vs is nq un vn o1 o2 = by us vs is un vn o1 o2
  where
    known : (us vs : List ℕ) → head hs q ≡ head_of Q (us ++ old ∷ vs) → occurs us old ≡ 0 → occurs vs old ≡ 0 → (k : ℕ) → k ≡ q →
        heads_swapped hs k old new ≡ set hs q (head_of Q (us ++ new ∷ vs))
    known us vs is o1 o2 k e = ap (λ z. heads_swapped hs z old new) e ∙ ap (λ b. cond b hs (set hs q (end_swapped (head hs q) old new))) (ne_eqb q none nq)
        ∙ ap (λ z. set hs q z) (ap (λ z. end_swapped z old new) is ∙ ends_q us vs old new o1 o2)

    by : (us vs : List ℕ) → head hs q ≡ head_of Q (us ++ old ∷ vs) → ((x : ℕ) → 1 ≤ occurs us x → x ≢ none) → ((x : ℕ) → 1 ≤ occurs vs x → x ≢ none) →
        occurs us old ≡ 0 → occurs vs old ≡ 0 → heads_swapped hs (end_parent q (last_or us none) (head_or vs none)) old new ≡ set hs q (head_of Q (us ++ new ∷ vs))
    by [] vs is un vn o1 o2 = known [] vs is o1 o2 q refl
    by (u ∷ us) [] is un vn o1 o2 = known (u ∷ us) [] is o1 o2 (end_parent q (last_or us u) none)
        (ap (λ b. cond (b || true) q none) (ne_eqb (last_or us u) none (un (last_or us u) (occurs_last us u))))
    by (u ∷ us) (v ∷ vs) is un vn o1 o2 =
        ap (λ z. heads_swapped hs z old new)
        (ap (λ b. cond (b || eqb v none) q none) (ne_eqb (last_or us u) none (un (last_or us u) (occurs_last us u))) ∙ ap (λ b. cond b q none) (ne_eqb v none (vn v (occurs_here v vs))))
        ∙ sym (set-get_or hs q no_head) ∙ ap (λ z. set hs q z) (is ∙ inner_q u v us vs old new)

-- runs
run_left : (ls ls' : List Link) (q c e : ℕ) (us : List ℕ) → c ≢ none → e ≢ none → ((x : ℕ) → occurs us x ≤ 1) →
    (1 ≤ length us → link ls' (last_or us none) ≡ redirected (link ls (last_or us none)) c e) →
    ((x : ℕ) → 1 ≤ occurs us x → x ≢ last_or us none → link ls' x ≡ link ls x) →
    EachBetween (IsInRun ls q) none us c → EachBetween (IsInRun ls' q) none us e
run_left ls ls' q c e [] cn en once at same run = tt
run_left ls ls' q c e (u ∷ us) cn en once at same run =
    chain_right (IsInRun ls q) (IsInRun ls' q) (last_or us u) u us none c e refl once
    (λ y p a o ne h. subst (λ z. Between z (end_parent q p a) p a) (sym (same y o ne)) h)
    (λ p h. subst (λ z. Between z (end_parent q p e) p e) (sym (at (omega arith)))
    (between_parent _ (end_parent q p c) (end_parent q p e) p e (parent_right q p c cn ∙ sym (parent_right q p e en))
    (redirect (link ls (last_or us u)) (end_parent q p c) p c e h))) run

run_right : (ls ls' : List Link) (q c g : ℕ) (vs : List ℕ) → c ≢ none → g ≢ none → ((x : ℕ) → occurs vs x ≤ 1) →
    (1 ≤ length vs → link ls' (head_or vs none) ≡ redirected (link ls (head_or vs none)) c g) →
    ((x : ℕ) → 1 ≤ occurs vs x → x ≢ head_or vs none → link ls' x ≡ link ls x) →
    EachBetween (IsInRun ls q) c vs none → EachBetween (IsInRun ls' q) g vs none
run_right ls ls' q c g [] cn gn once at same run = tt
run_right ls ls' q c g (v ∷ vs) cn gn once at same run =
    chain_left (IsInRun ls q) (IsInRun ls' q) v vs c g none once
    (λ y p a o ne h. subst (λ z. Between z (end_parent q p a) p a) (sym (same y (omega arith) ne)) h)
    (λ a h. subst (λ z. Between z (end_parent q g a) g a) (sym (at (omega arith)))
    (between_parent _ (end_parent q c a) (end_parent q g a) g a (parent_left q c a cn ∙ sym (parent_left q g a gn))
    (turned_between _ (end_parent q c a) a g (redirect (link ls v) (end_parent q c a) a c g (turned_between (link ls v) (end_parent q c a) c a h))))) run

-- the same facts, whichever way round the two neighbours are held
record Sides (ls ls' : List Link) (old new : ℕ) (us vs : List ℕ) : Type 0 where
  at_left : 1 ≤ length us → link ls' (last_or us none) ≡ redirected (link ls (last_or us none)) old new
  at_right : 1 ≤ length vs → link ls' (head_or vs none) ≡ redirected (link ls (head_or vs none)) old new
  at_new : link ls' new ≡ link ls old
  at_old : link ls' old ≡ no_link
  off : (x : ℕ) → x ≢ last_or us none → x ≢ head_or vs none → x ≢ new → x ≢ old → link ls' x ≡ link ls x
  len : length ls' ≡ length ls

sides : (ls : List Link) (old new k : ℕ) (us vs : List ℕ) → Between (link ls old) k (last_or us none) (head_or vs none) →
    old ≢ new → old < length ls → new < length ls → length ls ≤ NODE_BOUND →
    ((x : ℕ) → occurs us x + (occurs (old ∷ []) x + occurs vs x) + occurs (new ∷ []) x ≤ 1) →
    ((x : ℕ) → 1 ≤ occurs us x + occurs vs x → x < length ls) → Sides ls (swapped ls old new) old new us vs
sides ls old new k us vs h apart old_in new_in few all node_named =
    let n : ℕ = last_or us none in
    let far : ℕ = head_or vs none in
    let o_all : occurs us old + (occurs (old ∷ []) old + occurs vs old) + occurs (new ∷ []) old ≤ 1 = all old in
    let n_all : occurs us new + (occurs (old ∷ []) new + occurs vs new) + occurs (new ∷ []) new ≤ 1 = all new in
    let o1 : 1 ≤ occurs (old ∷ []) old = occurs_here old [] in
    let n1 : 1 ≤ occurs (new ∷ []) new = occurs_here new [] in
    let old_n : old ≢ n = end_off us old (λ e. omega arith) (omega arith) in
    let old_far : old ≢ far = head_off vs old (λ e. omega arith) (omega arith) in
    let new_n : new ≢ n = end_off us new (λ e. omega arith) (omega arith) in
    let new_far : new ≢ far = head_off vs new (λ e. omega arith) (omega arith) in
    let n_in : n ≢ none → n < length ls = left_in us (λ x o. node_named x (omega arith)) in
    let far_in : far ≢ none → far < length ls = right_in vs (λ x o. node_named x (omega arith)) in
    let left_far : 1 ≤ length us → (n ≢ far) × (n ≢ none) = (λ l.
    let i : 1 ≤ occurs us n = last_in us l in let a : occurs us n + (occurs (old ∷ []) n + occurs vs n) + occurs (new ∷ []) n ≤ 1 = all n in
    let lt : n < length ls = node_named n (omega arith) in let real : n ≢ none = (λ e. omega arith) in (head_off vs n real (omega arith), real)) in
    let right_far : 1 ≤ length vs → (far ≢ n) × (far ≢ none) = (λ l.
    let i : 1 ≤ occurs vs far = head_in vs l in let a : occurs us far + (occurs (old ∷ []) far + occurs vs far) + occurs (new ∷ []) far ≤ 1 = all far in
    let lt : far < length ls = node_named far (omega arith) in let real : far ≢ none = (λ e. omega arith) in (end_off us far real (omega arith), real)) in
    let can : (a b : ℕ) → (link ls old).near0 ≡ a → (link ls old).near1 ≡ b → (a ≢ none → a < length ls) → (b ≢ none → b < length ls) →
    a ≢ old → b ≢ old → a ≢ new → b ≢ new → Swapped ls (swapped ls old new) old new a b =
    (λ a b ea eb ia ib ao bo an bn. subst (λ x. Swapped ls (swapped ls old new) old new x b) ea
    (subst (λ x. Swapped ls (swapped ls old new) old new (link ls old).near0 x) eb
    (swapped_at ls old new (record {
      old_in = old_in;
      new_in = new_in;
      apart = apart;
      a_in = subst (λ x. x ≢ none → x < length ls) (sym ea) ia;
      b_in = subst (λ x. x ≢ none → x < length ls) (sym eb) ib;
      a_old = subst (λ x. x ≢ old) (sym ea) ao;
      b_old = subst (λ x. x ≢ old) (sym eb) bo;
      a_new = subst (λ x. x ≢ new) (sym ea) an;
      b_new = subst (λ x. x ≢ new) (sym eb) bn;
    })))) in
    elim h [
      | inl e ↦
          let s = can n far (ap (λ (l : Link). l.near0) e) (ap (λ (l : Link). l.near1) e) n_in far_in (λ q. old_n (sym q)) (λ q. old_far (sym q)) (λ q. new_n (sym q)) (λ q. new_far (sym q)) in
          record {
            at_left = λ l. s.at_a (left_far l).0 (left_far l).1;
            at_right = λ l. s.at_b (λ q. (right_far l).0 (sym q)) (right_far l).1;
            at_new = s.at_new (λ q. old_n (sym q)) (λ q. old_far (sym q));
            at_old = s.at_old;
            off = s.off;
            len = s.len;
          }
      | inr e ↦
          let s = can far n (ap (λ (l : Link). l.near0) e) (ap (λ (l : Link). l.near1) e) far_in n_in (λ q. old_far (sym q)) (λ q. old_n (sym q)) (λ q. new_far (sym q)) (λ q. new_n (sym q)) in
          record {
            at_left = λ l. s.at_b (λ q. (left_far l).0 (sym q)) (left_far l).1;
            at_right = λ l. s.at_a (right_far l).0 (right_far l).1;
            at_new = s.at_new (λ q. old_far (sym q)) (λ q. old_n (sym q));
            at_old = s.at_old;
            off = λ x a b c d. s.off x b a c d;
            len = s.len;
          }
    ]
  where
    left_in : (us : List ℕ) → ((x : ℕ) → 1 ≤ occurs us x → x < length ls) → last_or us none ≢ none → last_or us none < length ls
    left_in [] k d = absurd (d refl)
    left_in (u ∷ us) k d = k (last_or us u) (occurs_last us u)

    right_in : (vs : List ℕ) → ((x : ℕ) → 1 ≤ occurs vs x → x < length ls) → head_or vs none ≢ none → head_or vs none < length ls
    right_in [] k d = absurd (d refl)
    right_in (v ∷ vs) k d = k v (occurs_here v vs)

-- what both shapes need of the lists
record Apart (ls : List Link) (f : Layout) (p old new : ℕ) (us vs : List ℕ) : Type 0 where
  p_lt : p < length f.slots
  all : (x : ℕ) → occurs us x + (occurs (old ∷ []) x + occurs vs x) + occurs (new ∷ []) x ≤ 1
  named : (x : ℕ) → 1 ≤ occurs us x + (occurs (old ∷ []) x + occurs vs x) → x < length ls
  in_p : (x : ℕ) → occurs (children_at f p) x ≡ occurs us x + (occurs (old ∷ []) x + occurs vs x)
  in_new : (x : ℕ) → occurs (us ++ new ∷ vs) x ≡ occurs us x + (occurs (new ∷ []) x + occurs vs x)
  new_lt : new < length ls
  few : length ls ≤ NODE_BOUND
  differs : old ≢ new

apart : (ls : List Link) (hs : List Head) (root spare count columns : ℕ) (f : Layout) (p old new : ℕ) (s : Shape) (us vs : List ℕ) →
    StandsFor ls hs root spare count columns f → shape_at f p ≡ Some s → children_at f p ≡ us ++ old ∷ vs → StandsAlone f new → Apart ls f p old new us vs
apart ls hs root spare count columns f p old new s us vs h sh is alone =
    let p_lt : p < length f.slots = in_range f p (used_by f p s sh) in
    let in_p : (x : ℕ) → occurs (children_at f p) x ≡ occurs us x + (occurs (old ∷ []) x + occurs vs x) =
    (λ x. ap (λ z. occurs z x) is ∙ (let r : occurs (us ++ old ∷ vs) x ≡ occurs us x + (occurs (old ∷ []) x + occurs vs x) = omega (arith, occurs-append us (old ∷ vs) x) in r)) in
    let top_name : times_child f.slots new ≡ 0 = alone.apart in
    let old_placed : 1 ≤ times_child f.slots old = (let a : occurs (children_at f p) old ≤ times_child f.slots old = children_times f p old in
    let b : occurs (children_at f p) old ≡ occurs us old + (occurs (old ∷ []) old + occurs vs old) = in_p old in omega (arith, occurs_here old [])) in
    record {
      p_lt = p_lt;
      all = λ x.
          let a : occurs (children_at f p) x ≤ times_child f.slots x = children_times f p x in
          let b : occurs (children_at f p) x ≡ occurs us x + (occurs (old ∷ []) x + occurs vs x) = in_p x in
          let d : times_child f.slots x ≤ 1 = h.layout.once x in
          elim (cases_eq x new) [
            | inl e ↦ let z : times_child f.slots x ≡ 0 = subst (λ y. times_child f.slots y ≡ 0) (sym e) top_name in
                let o : occurs (new ∷ []) x ≤ 1 = subst (λ y. occurs (new ∷ []) y ≤ 1) (sym e) (omega (arith, occurs_same new [])) in omega arith
            | inr ne ↦ let z : occurs (new ∷ []) x ≡ 0 = occurs_other new x [] ne in omega arith
          ];
      named = λ x o. subst (λ m. x < m) (sym h.links_few) (in_range f x (h.layout.used x
          (let a : occurs (children_at f p) x ≤ times_child f.slots x = children_times f p x in let b : occurs (children_at f p) x ≡ occurs us x + (occurs (old ∷ []) x + occurs vs x) = in_p x in omega arith)));
      in_p = in_p;
      in_new = λ x. let r : occurs (us ++ new ∷ vs) x ≡ occurs us x + (occurs (new ∷ []) x + occurs vs x) = omega (arith, occurs-append us (new ∷ vs) x) in r;
      new_lt = subst (λ m. new < m) (sym h.links_few) (in_range f new alone.used);
      few = subst (λ m. m ≤ NODE_BOUND) (sym h.links_few) (few_slots f h.layout);
      differs = λ e. let z : times_child f.slots old ≡ 0 = subst (λ y. times_child f.slots y ≡ 0) (sym e) top_name in omega arith;
    }

-- a child of a Q-node is replaced
pub swap_q : (ls : List Link) (hs : List Head) (root spare count columns : ℕ) (f : Layout) (q old new : ℕ) (us vs : List ℕ) →
    StandsFor ls hs root spare count columns f → shape_at f q ≡ Some Q → children_at f q ≡ us ++ old ∷ vs → StandsAlone f new → (IsAtOrAbove f.slots new old → ⊥) →
    StandsFor (swapped ls old new) (heads_swapped hs (link ls old).parent old new) root spare count columns (with_children f q (us ++ new ∷ vs))
swap_q ls hs root spare count columns f q old new us vs h sh is alone no_way =
    let d : Apart ls f q old new us vs = apart ls hs root spare count columns f q old new Q us vs h sh is alone in
    let ks : List ℕ = us ++ new ∷ vs in
    let n : ℕ = last_or us none in
    let far : ℕ = head_or vs none in
    let run : EachBetween (IsInRun ls q) none (us ++ old ∷ vs) none =
    subst (λ z. EachBetween (IsInRun ls q) none z none) is (subst (λ z. IsSeated ls q z (children_at f q)) sh (h.seats q)) in
    let parts = chain_split (IsInRun ls q) us (old ∷ vs) none none run in
    let old_in : old < length ls = d.named old (omega (arith, occurs_here old [])) in
    let few : length ls ≤ NODE_BOUND = d.few in
    let s : Sides ls (swapped ls old new) old new us vs =
    sides ls old new (end_parent q n far) us vs parts.1.0 d.differs old_in d.new_lt d.few d.all (λ x o. d.named x (omega arith)) in
    let real : (x : ℕ) → 1 ≤ occurs us x + (occurs (old ∷ []) x + occurs vs x) → x ≢ none = (λ x o e. let lt : x < length ls = d.named x o in omega arith) in
    let old_all : occurs us old + (occurs (old ∷ []) old + occurs vs old) + occurs (new ∷ []) old ≤ 1 = d.all old in
    let o1 : 1 ≤ occurs (old ∷ []) old = occurs_here old [] in
    let n1 : 1 ≤ occurs (new ∷ []) new = occurs_here new [] in
    let old_real : old ≢ none = real old (omega arith) in
    let new_real : new ≢ none = (λ e. let lt : new < length ls = d.new_lt in omega arith) in
    let parent_is : (link ls old).parent ≡ end_parent q n far = elim parts.1.0 [ inl e ↦ ap (λ (l : Link). l.parent) e | inr e ↦ ap (λ (l : Link). l.parent) e ] in
    let off_us : (x : ℕ) → 1 ≤ occurs us x → x ≢ n → link (swapped ls old new) x ≡ link ls x = (λ x o ne.
    let a : occurs us x + (occurs (old ∷ []) x + occurs vs x) + occurs (new ∷ []) x ≤ 1 = d.all x in
    s.off x ne (head_off vs x (real x (omega arith)) (omega arith)) (differ (new ∷ []) x new (omega arith) n1) (differ (old ∷ []) x old (omega arith) o1)) in
    let off_vs : (x : ℕ) → 1 ≤ occurs vs x → x ≢ far → link (swapped ls old new) x ≡ link ls x = (λ x o ne.
    let a : occurs us x + (occurs (old ∷ []) x + occurs vs x) + occurs (new ∷ []) x ≤ 1 = d.all x in
    s.off x (end_off us x (real x (omega arith)) (omega arith)) ne (differ (new ∷ []) x new (omega arith) n1) (differ (old ∷ []) x old (omega arith) o1)) in
    stands_with ls (swapped ls old new) hs (heads_swapped hs (link ls old).parent old new) root spare count columns f q Q ks h sh
    (swap_layout f q old new us vs h.layout d.p_lt (λ zs. subst (λ z. MayHaveChildren z zs) (sym sh) tt) is alone no_way)
    s.len
    (ap (λ z. heads_swapped hs z old new) parent_is ∙ heads_q hs q old new us vs (h.heads_are q Q sh ∙ ap (λ z. head_of Q z) is)
    (λ e. let lt : q < length f.slots = d.p_lt in let fw : length f.slots ≤ NODE_BOUND = few_slots f h.layout in omega arith)
    (λ x o. real x (omega arith)) (λ x o. real x (omega arith)) (omega arith) (omega arith))
    refl
    (λ x a b.
    let i : occurs (children_at f q) x ≡ occurs us x + (occurs (old ∷ []) x + occurs vs x) = d.in_p x in
    let j : occurs ks x ≡ occurs us x + (occurs (new ∷ []) x + occurs vs x) = d.in_new x in
    elim (cases_eq x none) [
      | inl e ↦ get_or_past (swapped ls old new) x no_link (let l : length (swapped ls old new) ≡ length ls = s.len in omega arith)
          ∙ sym (get_or_past ls x no_link (omega arith))
      | inr ne ↦ s.off x (end_off us x ne (omega arith)) (head_off vs x ne (omega arith)) (differ (new ∷ []) x new (omega arith) n1) (differ (old ∷ []) x old (omega arith) o1)
    ])
    (chain_join (IsInRun (swapped ls old new) q) us (new ∷ vs) none none
    (run_left ls (swapped ls old new) q old new us old_real new_real
    (λ x. let a : occurs us x + (occurs (old ∷ []) x + occurs vs x) + occurs (new ∷ []) x ≤ 1 = d.all x in omega arith) s.at_left off_us parts.0) (
      subst (λ z. Between z (end_parent q n far) n far) (sym s.at_new) parts.1.0,
      run_right ls (swapped ls old new) q old new vs old_real new_real
          (λ x. let a : occurs us x + (occurs (old ∷ []) x + occurs vs x) + occurs (new ∷ []) x ≤ 1 = d.all x in omega arith) s.at_right off_vs parts.1.1,
    ))
    (λ x a b.
    let i : occurs (children_at f q) x ≡ occurs us x + (occurs (old ∷ []) x + occurs vs x) = d.in_p x in
    let j : occurs ks x ≡ occurs us x + (occurs (new ∷ []) x + occurs vs x) = d.in_new x in
    let e : x ≡ old = only_one x old (omega arith) in
    subst (λ z. link (swapped ls old new) z ≡ no_link) (sym e) s.at_old)

-- rings
swap_off : (ls : List Link) (old new x : ℕ) → x ≢ (link ls old).near0 → x ≢ (link ls old).near1 → x ≢ new → x ≢ old → link (swapped ls old new) x ≡ link ls x
swap_off ls old new x xa xb xn xo =
    let two : List Link = moved_to ls old new in
    link_off (set two new (link two old)) old x no_link xo ∙ link_off two new x _ xn
    ∙ rel_off (relinked_if ls (link ls old).near0 old new) (link ls old).near1 old new x xb ∙ rel_off ls (link ls old).near0 old new x xa

swap_len : (ls : List Link) (old new : ℕ) → length (swapped ls old new) ≡ length ls
swap_len ls old new =
    let two : List Link = moved_to ls old new in
    length-set (set two new (link two old)) old no_link ∙ length-set two new _
    ∙ rel_len (relinked_if ls (link ls old).near0 old new) (link ls old).near1 old new ∙ rel_len ls (link ls old).near0 old new

swap_old : (ls : List Link) (old new : ℕ) → old < length ls → link (swapped ls old new) old ≡ no_link
swap_old ls old new lt =
    let two : List Link = moved_to ls old new in
    let len : length (set two new (link two old)) ≡ length ls = length-set two new _
    ∙ rel_len (relinked_if ls (link ls old).near0 old new) (link ls old).near1 old new ∙ rel_len ls (link ls old).near0 old new in
    link_set (set two new (link two old)) old no_link (subst (λ m. old < m) (sym len) lt)

swap_at : (ls : List Link) (p old new nx pv : ℕ) → link ls old ≡ seat p nx pv →
    swapped ls old new ≡ (let two = relinked_if (relinked_if ls nx old new) pv old new in set (set two new (link two old)) old no_link)
swap_at ls p old new nx pv e = ap (λ (l : Link). let two = relinked_if (relinked_if ls l.near0 old new) l.near1 old new in set (set two new (link two old)) old no_link) e

-- a node all of whose neighbours are old has new on both sides
both_turned : (ls : List Link) (p old new w : ℕ) → link ls w ≡ seat p old old → new ≢ old → w ≢ none → w < length ls →
    link (relinked_if (relinked_if ls w old new) w old new) w ≡ seat p new new
both_turned ls p old new w e ne wn lt =
    rel_at (relinked_if ls w old new) w old new wn (subst (λ m. w < m) (sym (rel_len ls w old new)) lt)
    ∙ ap (λ (l : Link). redirected l old new) (rel_at ls w old new wn lt ∙ ap (λ (l : Link). redirected l old new) e
    ∙ ap (λ b. seat p (cond b new old) (cond b old new)) (eq-eqb old old refl))
    ∙ ap (λ b. seat p (cond b new new) (cond b old new)) (ne_eqb new old ne)

swap_ring : (ls : List Link) (p old new : ℕ) (ws : List ℕ) → Ring (IsInRing ls p) (old ∷ ws) →
    ((x : ℕ) → occurs (old ∷ ws) x + occurs (new ∷ []) x ≤ 1) → ((x : ℕ) → 1 ≤ occurs (old ∷ ws) x → x < length ls) → new < length ls → length ls ≤ NODE_BOUND →
    Ring (IsInRing (swapped ls old new) p) (new ∷ ws)
swap_ring ls p old new [] c all node_named new_lt few =
    let old_lt : old < length ls = node_named old (occurs_here old []) in
    let old_all : occurs (old ∷ []) old + occurs (new ∷ []) old ≤ 1 = all old in
    let ne : old ≢ new = (λ e. let k : 1 ≤ occurs (new ∷ []) old = subst (λ z. 1 ≤ occurs (new ∷ []) z) (sym e) (occurs_here new []) in omega (arith, occurs_here old [])) in
    let two : List Link = relinked_if (relinked_if ls old old new) old old new in
    let len : length two ≡ length ls = rel_len (relinked_if ls old old new) old old new ∙ rel_len ls old old new in (
      ap (λ z. link z new) (swap_at ls p old new old old c.0)
          ∙ link_off (set two new (link two old)) old new no_link (λ e. ne (sym e)) ∙ link_set two new _ (subst (λ m. new < m) (sym len) new_lt)
          ∙ both_turned ls p old new old c.0 (λ e. ne (sym e)) (λ e. omega arith) old_lt,
      tt,
    )
swap_ring ls p old new (w ∷ []) c all node_named new_lt few =
    let old_lt : old < length ls = node_named old (occurs_here old (w ∷ [])) in
    let w_lt : w < length ls = node_named w (omega (arith, occurs_here w [])) in
    let old_all : occurs (old ∷ w ∷ []) old + occurs (new ∷ []) old ≤ 1 = all old in
    let w_all : occurs (old ∷ w ∷ []) w + occurs (new ∷ []) w ≤ 1 = all w in
    let ne : old ≢ new = (λ e. let k : 1 ≤ occurs (new ∷ []) old = subst (λ z. 1 ≤ occurs (new ∷ []) z) (sym e) (occurs_here new []) in omega (arith, occurs_here old (w ∷ []))) in
    let w_new : w ≢ new = (λ e. let k : 1 ≤ occurs (new ∷ []) w = subst (λ z. 1 ≤ occurs (new ∷ []) z) (sym e) (occurs_here new []) in omega (arith, occurs_here w [])) in
    let w_old : w ≢ old = (λ e. let k : 1 ≤ occurs (w ∷ []) old = subst (λ z. 1 ≤ occurs (w ∷ []) z) e (occurs_here w []) in omega (arith, occurs_same old (w ∷ []))) in
    let two : List Link = relinked_if (relinked_if ls w old new) w old new in
    let len : length two ≡ length ls = rel_len (relinked_if ls w old new) w old new ∙ rel_len ls w old new in (
      ap (λ z. link z new) (swap_at ls p old new w w c.0)
          ∙ link_off (set two new (link two old)) old new no_link (λ e. ne (sym e)) ∙ link_set two new _ (subst (λ m. new < m) (sym len) new_lt)
          ∙ rel_off (relinked_if ls w old new) w old new old (λ e. w_old (sym e)) ∙ rel_off ls w old new old (λ e. w_old (sym e)) ∙ c.0,
      (
        ap (λ z. link z w) (swap_at ls p old new w w c.0)
            ∙ link_off (set two new (link two old)) old w no_link w_old ∙ link_off two new w _ w_new
            ∙ both_turned ls p old new w c.1.0 (λ e. ne (sym e)) (λ e. omega arith) w_lt,
        tt,
      ),
    )
swap_ring ls p old new (w ∷ v ∷ vs) c all node_named new_lt few =
    let ws : List ℕ = w ∷ v ∷ vs in
    let z : ℕ = last_or vs v in
    let old_lt : old < length ls = node_named old (occurs_here old ws) in
    let w_lt : w < length ls = node_named w (omega (arith, occurs_here w (v ∷ vs))) in
    let z1 : 1 ≤ occurs (v ∷ vs) z = occurs_last vs v in
    let z_lt : z < length ls = node_named z (omega arith) in
    let old_all : occurs (old ∷ ws) old + occurs (new ∷ []) old ≤ 1 = all old in
    let w_all : occurs (old ∷ ws) w + occurs (new ∷ []) w ≤ 1 = all w in
    let v_all : occurs (old ∷ ws) v + occurs (new ∷ []) v ≤ 1 = all v in
    let z_all : occurs (old ∷ ws) z + occurs (new ∷ []) z ≤ 1 = all z in
    let old_ws : occurs ws old ≡ 0 = omega (arith, occurs_same old ws) in
    let w_vs : occurs (v ∷ vs) w ≡ 0 = omega (arith, occurs_same w (v ∷ vs)) in
    let n1 : 1 ≤ occurs (new ∷ []) new = occurs_here new [] in
    let ne : old ≢ new = differ (new ∷ []) old new (omega (arith, occurs_here old ws)) n1 in
    let w_new : w ≢ new = differ (new ∷ []) w new (omega (arith, occurs_here w (v ∷ vs))) n1 in
    let z_new : z ≢ new = differ (new ∷ []) z new (omega arith) n1 in
    let w_old : w ≢ old = (λ e. differ ws old w old_ws (occurs_here w (v ∷ vs)) (sym e)) in
    let z_old : z ≢ old = (λ e. differ ws old z old_ws (omega arith) (sym e)) in
    let v_old : v ≢ old = (λ e. differ ws old v old_ws (omega (arith, occurs_here v vs)) (sym e)) in
    let w_z : w ≢ z = differ (v ∷ vs) w z w_vs z1 in
    let near0 : (link ls old).near0 ≡ w = ap (λ (l : Link). l.near0) c.0 in
    let near1 : (link ls old).near1 ≡ z = ap (λ (l : Link). l.near1) c.0 in
    let s : Swapped ls (swapped ls old new) old new w z =
    subst (λ x. Swapped ls (swapped ls old new) old new x z) near0 (subst (λ x. Swapped ls (swapped ls old new) old new (link ls old).near0 x) near1
    (swapped_at ls old new (record {
      old_in = old_lt;
      new_in = new_lt;
      apart = ne;
      a_in = λ _. subst (λ x. x < length ls) (sym near0) w_lt;
      b_in = λ _. subst (λ x. x < length ls) (sym near1) z_lt;
      a_old = subst (λ x. x ≢ old) (sym near0) w_old;
      b_old = subst (λ x. x ≢ old) (sym near1) z_old;
      a_new = subst (λ x. x ≢ new) (sym near0) w_new;
      b_new = subst (λ x. x ≢ new) (sym near1) z_new;
    }))) in (
      s.at_new w_old z_old ∙ c.0,
      (
        s.at_a w_z (λ e. omega arith) ∙ ap (λ (l : Link). redirected l old new) c.1.0 ∙ ap (λ b. seat p (cond b new v) (cond b old new)) (ne_eqb v old v_old),
        chain_right (IsInRing ls p) (IsInRing (swapped ls old new) p) z v vs w old new refl
            (λ x. let a : occurs (old ∷ ws) x + occurs (new ∷ []) x ≤ 1 = all x in omega arith)
            (λ y a b o d e. let y_all : occurs (old ∷ ws) y + occurs (new ∷ []) y ≤ 1 = all y in
            s.off y (λ q. differ (v ∷ vs) w y w_vs o (sym q)) d (differ (new ∷ []) y new (omega arith) n1) (λ q. differ ws old y old_ws (omega arith) (sym q)) ∙ e)
            (λ b e. s.at_b w_z (λ q. omega arith) ∙ ap (λ (l : Link). redirected l old new) e ∙ ap (λ t. seat p (cond t new old) (cond t b new)) (eq-eqb old old refl))
            c.1.1,
      ),
    )

ends_p : (us vs : List ℕ) (old new : ℕ) → occurs us old ≡ 0 → old ≢ none → end_swapped (head_of P (us ++ old ∷ vs)) old new ≡ head_of P (us ++ new ∷ vs)
ends_p us vs old new o on =
    ap (λ b. let h : Head = record { kind = kind_of (Some P); first = cond (eqb (head_or (us ++ old ∷ vs) none) old) new (head_or (us ++ old ∷ vs) none); last = cond b new none; count = length (us ++ old ∷ vs) } in h)
    (ne_eqb none old (λ e. on (sym e)))
    ∙ p_head_same (ap (λ z. cond (eqb z old) new z) (head_at us vs old) ∙ first_off us old new o ∙ sym (head_at us vs new))
    (length-append us (old ∷ vs) ∙ sym (length-append us (new ∷ vs)))

-- a child of a P-node is replaced
pub swap_p : (ls : List Link) (hs : List Head) (root spare count columns : ℕ) (f : Layout) (p old new : ℕ) (us vs : List ℕ) →
    StandsFor ls hs root spare count columns f → shape_at f p ≡ Some P → children_at f p ≡ us ++ old ∷ vs → StandsAlone f new → (IsAtOrAbove f.slots new old → ⊥) →
    StandsFor (swapped ls old new) (heads_swapped hs (link ls old).parent old new) root spare count columns (with_children f p (us ++ new ∷ vs))
swap_p ls hs root spare count columns f p old new us vs h sh is alone no_way =
    let d : Apart ls f p old new us vs = apart ls hs root spare count columns f p old new P us vs h sh is alone in
    let ks : List ℕ = us ++ new ∷ vs in
    let ws : List ℕ = vs ++ us in
    let few : length ls ≤ NODE_BOUND = d.few in
    let ring : Ring (IsInRing ls p) (us ++ old ∷ vs) = subst (λ z. Ring (IsInRing ls p) z) is (subst (λ z. IsSeated ls p z (children_at f p)) sh (h.seats p)) in
    let turned : Ring (IsInRing ls p) (old ∷ ws) = ring_turn (IsInRing ls p) us (old ∷ vs) ring in
    let o1 : 1 ≤ occurs (old ∷ []) old = occurs_here old [] in
    let n1 : 1 ≤ occurs (new ∷ []) new = occurs_here new [] in
    let old_lt : old < length ls = d.named old (omega arith) in
    let old_all : occurs us old + (occurs (old ∷ []) old + occurs vs old) + occurs (new ∷ []) old ≤ 1 = d.all old in
    let in_ws : (x : ℕ) → occurs (old ∷ ws) x ≡ occurs us x + (occurs (old ∷ []) x + occurs vs x) = (λ x. let r : occurs (old ∷ ws) x ≡ occurs us x + (occurs (old ∷ []) x + occurs vs x) = omega (arith, occurs-append vs us x) in r) in
    let next : Ring (IsInRing (swapped ls old new) p) (new ∷ ws) =
    swap_ring ls p old new ws turned
    (λ x. let a : occurs us x + (occurs (old ∷ []) x + occurs vs x) + occurs (new ∷ []) x ≤ 1 = d.all x in let i : occurs (old ∷ ws) x ≡ occurs us x + (occurs (old ∷ []) x + occurs vs x) = in_ws x in omega arith)
    (λ x o. d.named x (let i : occurs (old ∷ ws) x ≡ occurs us x + (occurs (old ∷ []) x + occurs vs x) = in_ws x in omega arith)) d.new_lt d.few in
    stands_with ls (swapped ls old new) hs (heads_swapped hs (link ls old).parent old new) root spare count columns f p P ks h sh
    (swap_layout f p old new us vs h.layout d.p_lt (λ zs. subst (λ z. MayHaveChildren z zs) (sym sh) tt) is alone no_way)
    (swap_len ls old new)
    (ap (λ (l : Link). heads_swapped hs l.parent old new) turned.0
    ∙ ap (λ b. cond b hs (set hs p (end_swapped (head hs p) old new))) (ne_eqb p none (λ e. let lt : p < length f.slots = d.p_lt in let fw : length f.slots ≤ NODE_BOUND = few_slots f h.layout in omega arith))
    ∙ ap (λ z. set hs p z) (ap (λ z. end_swapped z old new) (h.heads_are p P sh ∙ ap (λ z. head_of P z) is) ∙ ends_p us vs old new (omega arith) (λ e. omega arith)))
    refl
    (λ x a b.
    let i : occurs (children_at f p) x ≡ occurs us x + (occurs (old ∷ []) x + occurs vs x) = d.in_p x in
    let j : occurs ks x ≡ occurs us x + (occurs (new ∷ []) x + occurs vs x) = d.in_new x in
    let k : occurs (old ∷ ws) x ≡ occurs us x + (occurs (old ∷ []) x + occurs vs x) = in_ws x in
    let z : occurs (old ∷ ws) x ≡ 0 = omega arith in
    swap_off ls old new x
    (differ (old ∷ ws) x (link ls old).near0 z (subst (λ (l : Link). 1 ≤ occurs (old ∷ ws) l.near0) (sym turned.0) (first_in ws)))
    (differ (old ∷ ws) x (link ls old).near1 z (subst (λ (l : Link). 1 ≤ occurs (old ∷ ws) l.near1) (sym turned.0) (occurs_last ws old)))
    (differ (new ∷ []) x new (omega arith) n1) (differ (old ∷ []) x old (omega arith) o1))
    (ring_turn (IsInRing (swapped ls old new) p) (new ∷ vs) us next)
    (λ x a b.
    let i : occurs (children_at f p) x ≡ occurs us x + (occurs (old ∷ []) x + occurs vs x) = d.in_p x in
    let j : occurs ks x ≡ occurs us x + (occurs (new ∷ []) x + occurs vs x) = d.in_new x in
    let e : x ≡ old = only_one x old (omega arith) in
    subst (λ z. link (swapped ls old new) z ≡ no_link) (sym e) (swap_old ls old new old_lt))
  where
    first_in : (ws : List ℕ) → 1 ≤ occurs (old ∷ ws) (head_or ws old)
    first_in [] = occurs_here old []
    first_in (w ∷ ws) = omega (arith, occurs_here w ws)
