-- put_end: a node comes to an end of a run.
use Rattle.std.proofs.Common.{◌≡◌, ◌≢◌, ◌⊎◌, inl, inr, ℕ, ◌+◌, ◌≤◌, ◌<◌, Bool, true, false, ◌||◌, cond, eqb, List, [], ◌∷◌, ◌++◌, length, set, reverse, Some, refl, sym, ap, subst, ◌∙◌, arith, eq-eqb}
use Rattle.arena_model.specs.declared.TheConstants.{NODE_BOUND}
use Rattle.std.proofs.lemmas.Bool.{cases_eq, ne_eqb}
use Rattle.std.proofs.lemmas.List.{length-set, reverse-reverse}
use Rattle.column_order.specs.Orders.{occurs}
use Rattle.column_order.proofs.Lists.{occurs-append}
use Rattle.arena_model.specs.declared.Shape.TheVariants.{Q}
use Rattle.arena_model.specs.ChildLists.{none, head_or, last_or, put_on, end_parent}
use Rattle.arena_model.specs.Layout.{Layout, shape_at, children_at, times_child, with_children, StandsAlone, IsAtOrAbove, MayHaveChildren}
use Rattle.arena_model.proofs.Lists.{occurs_here, occurs_same, occurs_last, last_or-append, reverse_cons, last_reverse}
use Rattle.arena_model.proofs.Slots.{in_range, used_by, children_times, more_layout, few_slots}
use Rattle.pq_arena.specs.declared.node.Link.{Link}
use Rattle.pq_arena.specs.declared.node.Head.{Head}
use Rattle.pq_arena.specs.StandsFor.{EachBetween, IsInRun, IsSeated, head_of, StandsFor}
use Rattle.pq_arena.specs.Wiring.{seat, link, head, redirected, fore, beside_end, extended, new_end, extended_ends, IsNone, CanExtend, kind_of}
use Rattle.pq_arena.proofs.Between.{chain_map}
use Rattle.pq_arena.proofs.Children.{stands_with}
use Rattle.pq_arena.proofs.Detach.{link_set, link_off}
use Rattle.pq_arena.proofs.Runs.{Between, turned_between, redirect, between_parent, run_back}
use Rattle.pq_arena.proofs.SpliceAt.{occurs-reverse}

either_side : (q : ℕ) (l : Link) (k p a : ℕ) → Between l k p a → end_parent q l.near0 l.near1 ≡ end_parent q p a
either_side q l k p a (inl e) = ap (λ (m : Link). end_parent q m.near0 m.near1) e
either_side q l k p a (inr e) = ap (λ (m : Link). end_parent q m.near0 m.near1) e ∙ ap (λ t. cond t q none) (turned (eqb a none) (eqb p none))
  where
    turned : (a b : Bool) → (a || b) ≡ (b || a)
    turned true true = refl
    turned true false = refl
    turned false true = refl
    turned false false = refl

parented : (l : Link) (k k' p a : ℕ) → Between l k p a → Between (record l { parent = k' }) k' p a
parented l k k' p a (inl e) = inl (ap (λ (m : Link). let n : Link = record m { parent = k' } in n) e)
parented l k k' p a (inr e) = inr (ap (λ (m : Link). let n : Link = record m { parent = k' } in n) e)

-- the former end child after n has come beside it
former_seat : (l : Link) (q n a : ℕ) → Between l q none a →
    Between (let m : Link = redirected l none n in record m { parent = end_parent q m.near0 m.near1 }) (end_parent q n a) n a
former_seat l q n a h =
    let b : Between (redirected l none n) q n a = turned_between (redirected l none n) q a n (redirect l q a none n (turned_between l q none a h)) in
    let p : end_parent q (redirected l none n).near0 (redirected l none n).near1 ≡ end_parent q n a = either_side q (redirected l none n) q n a b in
    between_parent _ _ (end_parent q n a) n a p (parented (redirected l none n) q (end_parent q (redirected l none n).near0 (redirected l none n).near1) n a b)

end_is : (q a : ℕ) → end_parent q none a ≡ q
end_is q a = ap (λ t. cond (t || eqb a none) q none) (eq-eqb none none refl)

-- n in front of a run
pub front_run : (ls : List Link) (q n : ℕ) (ks : List ℕ) → n < length ls → ((x : ℕ) → 1 ≤ occurs ks x → (x < length ls) × (x ≢ none)) → occurs ks n ≡ 0 →
    ((x : ℕ) → occurs ks x ≤ 1) → EachBetween (IsInRun ls q) none ks none → EachBetween (IsInRun (extended ls (head_or ks none) q n) q) none (n ∷ ks) none
front_run ls q n [] n_lt inside off once c = (
  subst (λ k. Between (link (extended ls none q n) n) k none none) (sym (end_is q none))
      (inl (link_set (beside_end ls none q n) n (seat q none none) n_lt)),
  tt,
)
front_run ls q n (k ∷ ks) n_lt inside off once c =
    let ne : n ≢ k = (λ e. let o : 1 ≤ occurs (k ∷ ks) n = subst (λ z. 1 ≤ occurs (k ∷ ks) z) (sym e) (occurs_here k ks) in omega arith) in
    let k_in = inside k (occurs_here k ks) in
    let nk : Link = (let l : Link = redirected (link ls k) none n in record l { parent = end_parent q l.near0 l.near1 }) in
    let ls' : List Link = extended ls k q n in
    let is : beside_end ls k q n ≡ set ls k nk = ap (λ t. cond t ls (set ls k nk)) (ne_eqb k none k_in.1) in
    let ls_is : ls' ≡ set (set ls k nk) n (seat q none k) = ap (λ z. set z n (seat q none k)) is in
    let n_lt' : n < length (set ls k nk) = subst (λ m. n < m) (sym (length-set ls k nk)) n_lt in
    let at_n : link ls' n ≡ seat q none k = ap (λ z. link z n) ls_is ∙ link_set (set ls k nk) n (seat q none k) n_lt' in
    let at_k : link ls' k ≡ nk = ap (λ z. link z k) ls_is ∙ link_off (set ls k nk) n k (seat q none k) (λ e. ne (sym e)) ∙ link_set ls k nk k_in.0 in
    let off_both : (x : ℕ) → x ≢ n → x ≢ k → link ls' x ≡ link ls x =
    (λ x xn xk. ap (λ z. link z x) ls_is ∙ link_off (set ls k nk) n x (seat q none k) xn ∙ link_off ls k x nk xk) in
    let k_seat : Between (link ls k) q none (head_or ks none) = between_parent (link ls k) (end_parent q none (head_or ks none)) q none (head_or ks none) (end_is q (head_or ks none)) c.0 in
    let k_once : occurs (k ∷ ks) k ≤ 1 = once k in (
      subst (λ z. Between (link ls' n) z none k) (sym (end_is q k)) (inl at_n),
      (
        subst (λ l. Between l (end_parent q n (head_or ks none)) n (head_or ks none)) (sym at_k) (former_seat (link ls k) q n (head_or ks none) k_seat),
        chain_map (IsInRun ls q) (IsInRun ls' q) ks k none
            (λ x p a o s. subst (λ l. Between l (end_parent q p a) p a)
            (sym (off_both x
            (λ e. let o' : 1 ≤ occurs ks n = subst (λ z. 1 ≤ occurs ks z) e o in omega arith)
            (λ e. let o' : 1 ≤ occurs ks k = subst (λ z. 1 ≤ occurs ks z) e o in omega (arith, occurs_same k ks)))) s) c.1,
      ),
    )

pub extended_len : (ls : List Link) (former q n : ℕ) → length (extended ls former q n) ≡ length ls
extended_len ls former q n = length-set (beside_end ls former q n) n (seat q none former) ∙ len (eqb former none)
  where
    len : (b : Bool) → length (cond b ls (set ls former (let l : Link = redirected (link ls former) none n in record l { parent = end_parent q l.near0 l.near1 }))) ≡ length ls
    len true = refl
    len false = length-set ls former _

pub extended_off : (ls : List Link) (former q n x : ℕ) → x ≢ n → x ≢ former → link (extended ls former q n) x ≡ link ls x
extended_off ls former q n x xn xf = link_off (beside_end ls former q n) n x (seat q none former) xn ∙ at (eqb former none)
  where
    at : (b : Bool) → link (cond b ls (set ls former (let l : Link = redirected (link ls former) none n in record l { parent = end_parent q l.near0 l.near1 }))) x ≡ link ls x
    at true = refl
    at false = link_off ls former x _ xf

-- a run to which n has come at one end
ended : (ls : List Link) (hs : List Head) (root spare count columns : ℕ) (f : Layout) (q n end former : ℕ) (ks' : List ℕ) →
    StandsFor ls hs root spare count columns f → shape_at f q ≡ Some Q → StandsAlone f n → (IsAtOrAbove f.slots n q → ⊥) →
    ((x : ℕ) → occurs ks' x ≡ occurs (n ∷ []) x + occurs (children_at f q) x) → (former ≡ none) ⊎ (1 ≤ occurs (children_at f q) former) →
    extended_ends (head hs q) end n ≡ head_of Q ks' → EachBetween (IsInRun (extended ls former q n) q) none ks' none →
    StandsFor (extended ls former q n) (set hs q (extended_ends (head hs q) end n)) root spare count columns (with_children f q ks')
ended ls hs root spare count columns f q n end former ks' h sh alone no_way more known ends seated =
    let ks : List ℕ = children_at f q in
    let lt : q < length f.slots = in_range f q (used_by f q Q sh) in
    stands_with ls (extended ls former q n) hs (set hs q (extended_ends (head hs q) end n)) root spare count columns f q Q ks' h sh
    (more_layout f q n ks' h.layout lt (subst (λ z. MayHaveChildren z ks') (sym sh) tt) alone no_way more)
    (extended_len ls former q n)
    (ap (λ z. set hs q z) ends)
    refl
    (λ x o1 o2. let m : occurs ks' x ≡ occurs (n ∷ []) x + occurs ks x = more x in
    let xn : x ≢ n = (λ e. let o : 1 ≤ occurs (n ∷ []) x = subst (λ z. 1 ≤ occurs (z ∷ []) x) e (occurs_here x []) in omega arith) in
    elim known [
      | inl e ↦ extended_past ls former q n x e xn
      | inr o ↦ extended_off ls former q n x xn (λ e. let o' : 1 ≤ occurs ks x = subst (λ z. 1 ≤ occurs ks z) (sym e) o in omega arith)
    ])
    seated
    (λ x o1 o2. absurd (let m : occurs ks' x ≡ occurs (n ∷ []) x + occurs ks x = more x in omega arith))
  where
    extended_past : (ls : List Link) (former q n x : ℕ) → former ≡ none → x ≢ n → link (extended ls former q n) x ≡ link ls x
    extended_past ls former q n x e xn = link_off (beside_end ls former q n) n x (seat q none former) xn
        ∙ ap (λ t. link (cond t ls (set ls former (let l : Link = redirected (link ls former) none n in record l { parent = end_parent q l.near0 l.near1 }))) x) (eq-eqb former none e)

last_new : (ks : List ℕ) (n : ℕ) → ((x : ℕ) → 1 ≤ occurs ks x → x ≢ none) → new_end false (last_or ks none) n ≡ last_or ks n
last_new [] n real = ap (λ t. cond t n none) (eq-eqb none none refl)
last_new (k ∷ ks) n real = ap (λ t. cond t n (last_or ks k)) (ne_eqb (last_or ks k) none (real (last_or ks k) (occurs_last ks k)))

head_new : (ks : List ℕ) (n : ℕ) → ((x : ℕ) → 1 ≤ occurs ks x → x ≢ none) → new_end false (head_or ks none) n ≡ head_or (ks ++ n ∷ []) none
head_new [] n real = ap (λ t. cond t n none) (eq-eqb none none refl)
head_new (k ∷ ks) n real = ap (λ t. cond t n k) (ne_eqb k none (real k (occurs_here k ks)))

first_known : (ks : List ℕ) → (head_or ks none ≡ none) ⊎ (1 ≤ occurs ks (head_or ks none))
first_known [] = inl refl
first_known (k ∷ ks) = inr (occurs_here k ks)

last_known : (ks : List ℕ) → (last_or ks none ≡ none) ⊎ (1 ≤ occurs ks (last_or ks none))
last_known [] = inl refl
last_known (k ∷ ks) = inr (occurs_last ks k)

q_ends : {a a' b b' : ℕ} → a ≡ a' → b ≡ b' →
    ◌≡◌ {A = Head} (record { kind = kind_of (Some Q); first = a; last = b; count = 0 }) (record { kind = kind_of (Some Q); first = a'; last = b'; count = 0 })
q_ends e k = cc

head_reverse : (ks : List ℕ) → head_or (reverse ks) none ≡ last_or ks none
head_reverse ks = sym (last_reverse (reverse ks) none) ∙ ap (λ z. last_or z none) (reverse-reverse ks)

pub put_end_stands : (ls : List Link) (hs : List Head) (root spare count columns : ℕ) (f : Layout) (q n end : ℕ) →
    StandsFor ls hs root spare count columns f → end ≤ 1 → shape_at f q ≡ Some Q → StandsAlone f n → (IsAtOrAbove f.slots n q → ⊥) →
    StandsFor (extended ls (fore (head hs q) end) q n) (set hs q (extended_ends (head hs q) end n)) root spare count columns
    (with_children f q (put_on end n (children_at f q)))
put_end_stands ls hs root spare count columns f q n end h le sh alone no_way = elim (cases_eq end 0) [
  | inl e ↦ subst (λ z. StandsFor (extended ls (fore (head hs q) z) q n) (set hs q (extended_ends (head hs q) z n)) root spare count columns (with_children f q (put_on z n ks))) (sym e)
      (subst (λ (k : Head). StandsFor (extended ls k.first q n) (set hs q (extended_ends (head hs q) 0 n)) root spare count columns (with_children f q (n ∷ ks))) (sym head_is)
      (ended ls hs root spare count columns f q n 0 (head_or ks none) (n ∷ ks) h sh alone no_way (λ x. omega arith) (first_known ks)
      (ap (λ z. extended_ends z 0 n) head_is ∙ q_ends refl (last_new ks n (λ x o. (inside x o).1)))
      (front_run ls q n ks n_lt inside off once run)))
  | inr ne ↦ subst (λ z. StandsFor (extended ls (fore (head hs q) z) q n) (set hs q (extended_ends (head hs q) z n)) root spare count columns (with_children f q (put_on z n ks))) (let one : 1 ≡ end = omega arith in one)
      (subst (λ (k : Head). StandsFor (extended ls k.last q n) (set hs q (extended_ends (head hs q) 1 n)) root spare count columns (with_children f q (ks ++ n ∷ []))) (sym head_is)
      (ended ls hs root spare count columns f q n 1 (last_or ks none) (ks ++ n ∷ []) h sh alone no_way (λ x. omega (arith, occurs-append ks (n ∷ []) x)) (last_known ks)
      (ap (λ z. extended_ends z 1 n) head_is ∙ q_ends (head_new ks n (λ x o. (inside x o).1)) (sym (last_or-append ks (n ∷ []) none)))
      back_run))
]
  where
    ks : List ℕ
    ks = children_at f q

    head_is : head hs q ≡ head_of Q ks
    head_is = h.heads_are q Q sh

    run : EachBetween (IsInRun ls q) none ks none
    run = subst (λ z. IsSeated ls q z ks) sh (h.seats q)

    at : (x : ℕ) → occurs ks x ≤ times_child f.slots x
    at x = children_times f q x

    once : (x : ℕ) → occurs ks x ≤ 1
    once x = let a : occurs ks x ≤ times_child f.slots x = at x in let b : times_child f.slots x ≤ 1 = h.layout.once x in omega arith

    n_lt : n < length ls
    n_lt = subst (λ m. n < m) (sym h.links_few) (in_range f n alone.used)

    off : occurs ks n ≡ 0
    off = let a : occurs ks n ≤ times_child f.slots n = at n in let b : times_child f.slots n ≡ 0 = alone.apart in omega arith

    inside : (x : ℕ) → 1 ≤ occurs ks x → (x < length ls) × (x ≢ none)
    inside x o =
        let lt : x < length f.slots = in_range f x (h.layout.used x (let a : occurs ks x ≤ times_child f.slots x = at x in omega arith)) in
        let fw : length f.slots ≤ NODE_BOUND = few_slots f h.layout in
        (subst (λ m. x < m) (sym h.links_few) lt, (λ e. omega arith))

    back_run : EachBetween (IsInRun (extended ls (last_or ks none) q n) q) none (ks ++ n ∷ []) none
    back_run =
        let c : EachBetween (IsInRun ls q) none (reverse ks) none = run_back ls q ks none none run in
        let r : EachBetween (IsInRun (extended ls (head_or (reverse ks) none) q n) q) none (n ∷ reverse ks) none =
        front_run ls q n (reverse ks) n_lt (λ x o. inside x (subst (λ k. 1 ≤ k) (occurs-reverse ks x) o)) (occurs-reverse ks n ∙ off)
        (λ x. subst (λ k. k ≤ 1) (sym (occurs-reverse ks x)) (once x)) c in
        let b = run_back (extended ls (head_or (reverse ks) none) q n) q (n ∷ reverse ks) none none r in
        subst (λ z. EachBetween (IsInRun (extended ls z q n) q) none (ks ++ n ∷ []) none) (head_reverse ks)
        (subst (λ z. EachBetween (IsInRun (extended ls (head_or (reverse ks) none) q n) q) none z none)
        (reverse_cons n (reverse ks) ∙ ap (λ z. z ++ n ∷ []) (reverse-reverse ks)) b)

pub extend_bounds : (ls : List Link) (hs : List Head) (root spare count columns : ℕ) (f : Layout) (q n end : ℕ) →
    StandsFor ls hs root spare count columns f → shape_at f q ≡ Some Q → StandsAlone f n → CanExtend ls hs q end n
extend_bounds ls hs root spare count columns f q n end h sh alone = record {
  q_in = subst (λ m. q < m) (sym h.links_few) (in_range f q (used_by f q Q sh));
  n_in = subst (λ m. n < m) (sym h.links_few) (in_range f n alone.used);
  former_in = subst (λ (k : Head). IsNone (length ls) (fore k end)) (sym (h.heads_are q Q sh)) (at (eqb end 0));
}
  where
    inside : (x : ℕ) → (x ≡ none) ⊎ (1 ≤ occurs (children_at f q) x) → x ≢ none → x < length ls
    inside x (inl e) ne = absurd (ne e)
    inside x (inr o) ne = subst (λ m. x < m) (sym h.links_few)
        (in_range f x (h.layout.used x (let a : occurs (children_at f q) x ≤ times_child f.slots x = children_times f q x in omega arith)))

    at : (b : Bool) → IsNone (length ls) (cond b (head_or (children_at f q) none) (last_or (children_at f q) none))
    at true = inside (head_or (children_at f q) none) (first_known (children_at f q))
    at false = inside (last_or (children_at f q) none) (last_known (children_at f q))
