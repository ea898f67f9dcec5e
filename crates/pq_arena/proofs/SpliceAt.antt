-- splice where `near` stands before child.
use Rattle.std.proofs.Common.{◌≡◌, ◌≢◌, ◌⊎◌, inl, inr, ℕ, ◌+◌, ◌≤◌, ◌<◌, true, false, cond, eqb, ◌||◌, List, [], ◌∷◌, ◌++◌, length, reverse, set, Some, None, refl, sym, ap, subst, ◌∙◌, arith, eq-eqb, eqb-true}
use Rattle.arena_model.specs.declared.TheConstants.{NODE_BOUND}
use Rattle.std.proofs.lemmas.Bool.{ne_eqb}
use Rattle.std.proofs.lemmas.List.{length-set, get_or-set_same, get_or-set_other, length-reverse, reverse-append, reverse-reverse, append_assoc}
use Rattle.arena_model.specs.declared.Shape.TheVariants.{Q}
use Rattle.pq_arena.specs.declared.node.Link.{Link}
use Rattle.pq_arena.specs.declared.node.Head.{Head}
use Rattle.arena_model.proofs.Lists.{occurs_here, occurs_same, occurs_last, head_or-append, last_or-append, reverse_cons, last_reverse, parent_inner}
use Rattle.arena_model.proofs.Slots.{in_range, used_by, children_times, children_apart, few_slots}
use Rattle.arena_model.proofs.Trees.{no_circle}
use Rattle.arena_model.specs.ChildLists.{oriented, head_or, last_or, end_parent, none}
use Rattle.arena_model.specs.Layout.{Layout, children_at, times_child, IsLayout, spliced, IsSpliceAt, IsInUse, IsAtOrAbove, here, shape_at}
use Rattle.column_order.proofs.Lists.{occurs-append}
use Rattle.column_order.specs.Orders.{occurs}
use Rattle.pq_arena.proofs.Look.{run_seat}
use Rattle.pq_arena.proofs.Read.{other_is}
use Rattle.pq_arena.proofs.Runs.{Splices, spliced_run, run_back, in_run_back}
use Rattle.pq_arena.proofs.Splice.{Spliced, splices_are, stands_splice, rel_len}
use Rattle.pq_arena.specs.Looks.{node_named, index_or_none}
use Rattle.pq_arena.specs.StandsFor.{EachBetween, IsInRun, other_side, IsSeated, head_of, StandsFor}
use Rattle.pq_arena.specs.Wiring.{no_link, no_head, link, head, redirected, relinked_if, joined, spliced_links, spliced_heads, fore, aft, CanSplice, IsNone, kind_of, spare_head}

pub occurs-reverse : (xs : List ℕ) (x : ℕ) → occurs (reverse xs) x ≡ occurs xs x
occurs-reverse [] x = refl
occurs-reverse (y ∷ ys) x = ap (λ z. occurs z x) (reverse_cons y ys)
    ∙ (let r : occurs (reverse ys) x ≡ occurs ys x = occurs-reverse ys x in omega (arith, occurs-append (reverse ys) (y ∷ []) x))

pub q_head : ℕ → ℕ → Head
q_head first last = record { kind = kind_of (Some Q); first = first; last = last; count = 0 }

abbrev pub ends : ℕ → ℕ → ℕ → ℕ → Head → Head
ends child n e g h = record h {
  first = cond (eqb h.first child) (cond (eqb n none) e g) h.first;
  last = cond (eqb h.last child) (cond (eqb h.first child) g (cond (eqb n none) e g)) h.last;
}

known_q : (hs : List Head) (q child n e g : ℕ) → q < length hs → q ≢ none →
    head (spliced_heads hs q child n e g) q ≡ ends child n e g (head hs q)
known_q hs q child n e g lt nq =
    ap (λ b. head (cond b hs (set hs q (ends child n e g (head hs q)))) q) (ne_eqb q none nq) ∙ get_or-set_same hs q (ends child n e g (head hs q)) no_head lt

q_head_same : {a a' b b' : ℕ} → a ≡ a' → b ≡ b' → q_head a b ≡ q_head a' b'
q_head_same {a} {a'} {b} {b'} e f = ap (λ x. q_head x b) e ∙ ap (λ y. q_head a' y) f

-- the head of q, in the four cases
pub new_ends : (hs : List Head) (q child e g : ℕ) (us vs mid : List ℕ) →
    head hs q ≡ head_of Q (us ++ child ∷ vs) → q < length hs → q ≢ none →
    ((x : ℕ) → 1 ≤ occurs us x → (x ≢ child) × (x ≢ none)) → ((x : ℕ) → 1 ≤ occurs vs x → (x ≢ child) × (x ≢ none)) →
    ((d : ℕ) → head_or mid d ≡ e) → ((d : ℕ) → last_or mid d ≡ g) →
    head (spliced_heads hs (end_parent q (last_or us none) (head_or vs none)) child (last_or us none) e g) q ≡ head_of Q (us ++ (mid ++ vs))
unfolding q_head
new_ends hs q child e g [] [] mid is lt nq us_off vs_off he la =
    known_q hs q child none e g lt nq ∙ ap (ends child none e g) is
    ∙ q_head_same {a = cond (eqb child child) e child} {a' = head_or (mid ++ []) none} {b = cond (eqb child child) (cond (eqb child child) g e) child} {b' = last_or (mid ++ []) none}
    (ap (λ b. cond b e child) (eq-eqb child child refl) ∙ sym (head_or-append mid [] none ∙ he none))
    (ap (λ b. cond b (cond b g e) child) (eq-eqb child child refl) ∙ sym (last_or-append mid [] none ∙ la none))
new_ends hs q child e g [] (v ∷ vs) mid is lt nq us_off vs_off he la =
    known_q hs q child none e g lt nq ∙ ap (ends child none e g) is
    ∙ q_head_same {a = cond (eqb child child) e child} {a' = head_or (mid ++ v ∷ vs) none}
    {b = cond (eqb (last_or vs v) child) (cond (eqb child child) g e) (last_or vs v)} {b' = last_or (mid ++ v ∷ vs) none}
    (ap (λ b. cond b e child) (eq-eqb child child refl) ∙ sym (head_or-append mid (v ∷ vs) none ∙ he v))
    (ap (λ b. cond b (cond (eqb child child) g e) (last_or vs v)) (ne_eqb (last_or vs v) child (vs_off (last_or vs v) (occurs_last vs v)).0)
    ∙ sym (last_or-append mid (v ∷ vs) none))
new_ends hs q child e g (u ∷ us) [] mid is lt nq us_off vs_off he la =
    let n : ℕ = last_or us u in
    let n_real : n ≢ none = (us_off n (occurs_last us u)).1 in
    let is_q : end_parent q n none ≡ q = ap (λ b. cond (b || true) q none) (ne_eqb n none n_real) in
    ap (λ z. head (spliced_heads hs z child n e g) q) is_q ∙ known_q hs q child n e g lt nq ∙ ap (ends child n e g) is
    ∙ q_head_same {a = cond (eqb u child) (cond (eqb n none) e g) u} {a' = u}
    {b = cond (eqb (last_or (us ++ child ∷ []) u) child) (cond (eqb u child) g (cond (eqb n none) e g)) (last_or (us ++ child ∷ []) u)} {b' = last_or (us ++ (mid ++ [])) u}
    (ap (λ b. cond b (cond (eqb n none) e g) u) (ne_eqb u child (us_off u (occurs_here u us)).0))
    (ap (λ z. cond (eqb z child) (cond (eqb u child) g (cond (eqb n none) e g)) z) (last_or-append us (child ∷ []) u)
    ∙ ap (λ b. cond b (cond (eqb u child) g (cond (eqb n none) e g)) child) (eq-eqb child child refl)
    ∙ ap (λ b. cond b g (cond (eqb n none) e g)) (ne_eqb u child (us_off u (occurs_here u us)).0)
    ∙ ap (λ b. cond b e g) (ne_eqb n none n_real)
    ∙ sym (last_or-append us (mid ++ []) u ∙ last_or-append mid [] (last_or us u) ∙ la (last_or us u)))
new_ends hs q child e g (u ∷ us) (v ∷ vs) mid is lt nq us_off vs_off he la =
    let n : ℕ = last_or us u in
    let n_real : n ≢ none = (us_off n (occurs_last us u)).1 in
    let v_real : v ≢ none = (vs_off v (occurs_here v vs)).1 in
    let is_none : end_parent q n v ≡ none = ap (λ b. cond (b || eqb v none) q none) (ne_eqb n none n_real) ∙ ap (λ b. cond b q none) (ne_eqb v none v_real) in
    ap (λ z. head (spliced_heads hs z child n e g) q) is_none ∙ is
    ∙ q_head_same {a = u} {a' = u} {b = last_or (us ++ child ∷ v ∷ vs) u} {b' = last_or (us ++ (mid ++ v ∷ vs)) u} refl
    (last_or-append us (child ∷ v ∷ vs) u ∙ sym (last_or-append us (mid ++ v ∷ vs) u ∙ last_or-append mid (v ∷ vs) (last_or us u)))

pub heads_off : (hs : List Head) (q k child n e g m : ℕ) → (k ≡ q) ⊎ (k ≡ none) → m ≢ q → head (spliced_heads hs k child n e g) m ≡ head hs m
heads_off hs q k child n e g m (inl e1) ne = elim (eqb k none) as (λ b. head (cond b hs (set hs k (ends child n e g (head hs k)))) m ≡ head hs m) [
  | true ↦ refl
  | false ↦ get_or-set_other hs k m _ no_head (λ d. ne (d ∙ e1))
]
heads_off hs q k child n e g m (inr e1) ne = ap (λ z. head (spliced_heads hs z child n e g) m) e1

pub heads_len : (hs : List Head) (k child n e g : ℕ) → length (spliced_heads hs k child n e g) ≡ length hs
heads_len hs k child n e g = elim (eqb k none) as (λ b. length (cond b hs (set hs k (ends child n e g (head hs k)))) ≡ length hs) [
  | true ↦ refl
  | false ↦ length-set hs k _
]

pub end_parent_cases : (m p a : ℕ) → (end_parent m p a ≡ m) ⊎ (end_parent m p a ≡ none)
end_parent_cases m p a = elim (eqb p none || eqb a none) as (λ b. (cond b m none ≡ m) ⊎ (cond b m none ≡ none)) [ true ↦ inl refl | false ↦ inr refl ]

-- what splice does, read from the side of `near`: mid is the list of child's children with end e in front
-- The children of child, read as e, w and ws from the side of n, stand in its place. The run of q is read as us, child and vs
-- from that side, and `kids` is the run that it becomes, read from the first child of q.
splice_seen : (ls : List Link) (hs : List Head) (root spare count columns : ℕ) (f : Layout) (q child e w : ℕ) (us vs ws kids : List ℕ) →
    StandsFor ls hs root spare count columns f → shape_at f q ≡ Some Q → shape_at f child ≡ Some Q →
    ((x : ℕ) → occurs (children_at f q) x ≡ occurs (us ++ child ∷ vs) x) → EachBetween (IsInRun ls q) none (us ++ child ∷ vs) none →
    EachBetween (IsInRun ls child) none (e ∷ w ∷ ws) none → ((x : ℕ) → occurs (e ∷ w ∷ ws) x ≡ occurs (children_at f child) x) →
    ((x : ℕ) → occurs kids x ≡ occurs (us ++ (e ∷ w ∷ ws ++ vs)) x) →
    ((ls' : List Link) → EachBetween (IsInRun ls' q) none (us ++ (e ∷ w ∷ ws ++ vs)) none → EachBetween (IsInRun ls' q) none kids none) →
    (((x : ℕ) → 1 ≤ occurs us x → (x ≢ child) × (x ≢ none)) → ((x : ℕ) → 1 ≤ occurs vs x → (x ≢ child) × (x ≢ none)) → q < length hs → q ≢ none →
    head (spliced_heads hs (end_parent q (last_or us none) (head_or vs none)) child (last_or us none) e (last_or ws w)) q ≡ head_of Q kids) →
    StandsFor (spliced_links ls child (last_or us none) (head_or vs none) e (last_or ws w) (end_parent q (last_or us none) (head_or vs none)))
    (set (spliced_heads hs (end_parent q (last_or us none) (head_or vs none)) child (last_or us none) e (last_or ws w)) child
    (spare_head spare))
    root child (count + 1) columns (spliced f q child kids)
splice_seen ls hs root spare count columns f q child e w us vs ws kids h q_shape child_shape in_q run inner same count_is run_is ends =
    let n : ℕ = last_or us none in
    let far : ℕ = head_or vs none in
    let g : ℕ = last_or ws w in
    let mid : List ℕ = e ∷ w ∷ ws in
    let k : ℕ = end_parent q n far in
    let q_lt : q < length f.slots = in_range f q (used_by f q Q q_shape) in
    let few : length f.slots ≤ NODE_BOUND = few_slots f h.layout in
    let child_in : 1 ≤ occurs (children_at f q) child = (let i : occurs (children_at f q) child ≡ occurs (us ++ child ∷ vs) child = in_q child in
    omega (arith, occurs-append us (child ∷ vs) child, occurs_here child vs)) in
    let apart : child ≢ q = no_self f q child h.layout child_in in
    let once : (x : ℕ) → occurs (us ++ child ∷ vs) x + occurs mid x ≤ 1 = (λ x.
    let a : occurs (children_at f child) x + occurs (children_at f q) x ≤ times_child f.slots x = children_apart f child q x apart q_lt in
    let b : times_child f.slots x ≤ 1 = h.layout.once x in
    let i : occurs (children_at f q) x ≡ occurs (us ++ child ∷ vs) x = in_q x in
    let j : occurs mid x ≡ occurs (children_at f child) x = same x in omega arith) in
    let placed : (x : ℕ) → 1 ≤ occurs (us ++ child ∷ vs) x + occurs mid x → x < length f.slots = (λ x o.
    let a : occurs (children_at f child) x + occurs (children_at f q) x ≤ times_child f.slots x = children_apart f child q x apart q_lt in
    let i : occurs (children_at f q) x ≡ occurs (us ++ child ∷ vs) x = in_q x in
    let j : occurs mid x ≡ occurs (children_at f child) x = same x in in_range f x (h.layout.used x (omega arith))) in
    let s : Spliced ls (spliced_links ls child n far e g k) k child e g us vs mid =
    splices_are ls k child e w ws us vs once (λ x o. subst (λ m. x < m) (sym h.links_few) (placed x o)) (subst (λ m. m ≤ NODE_BOUND) (sym h.links_few) few) in
    stands_splice ls (spliced_links ls child n far e g k) hs (spliced_heads hs k child n e g) root spare count columns f q child kids h
    (record {
      q_shape = q_shape;
      child_shape = child_shape;
      child_in = child_in;
      apart = apart;
      count = λ x. let i : occurs (children_at f q) x ≡ occurs (us ++ child ∷ vs) x = in_q x in
          let j : occurs mid x ≡ occurs (children_at f child) x = same x in
          let m : occurs kids x ≡ occurs (us ++ (mid ++ vs)) x = count_is x in
          omega (arith, occurs-append us (mid ++ vs) x, occurs-append mid vs x, occurs-append us (child ∷ vs) x);
    })
    s.len (heads_len hs k child n e g)
    (ends
    (λ x o. (
      λ z. let o1 : occurs (us ++ child ∷ vs) x + occurs mid x ≤ 1 = once x in
          let o2 : occurs (us ++ child ∷ vs) x ≡ occurs us x + occurs (child ∷ vs) x = occurs-append us (child ∷ vs) x in
          let o3 : 1 ≤ occurs (child ∷ vs) x = subst (λ y. 1 ≤ occurs (child ∷ vs) y) (sym z) (occurs_here child vs) in omega arith,
      λ z. let lt : x < length f.slots = placed x (omega (arith, occurs-append us (child ∷ vs) x)) in omega arith,
    ))
    (λ x o. (
      λ z. let o1 : occurs (us ++ child ∷ vs) x + occurs mid x ≤ 1 = once x in
          let o2 : occurs (us ++ child ∷ vs) x ≡ occurs us x + occurs (child ∷ vs) x = occurs-append us (child ∷ vs) x in
          let o4 : occurs (child ∷ vs) child ≡ 1 + occurs vs child = occurs_same child vs in
          let o3 : occurs (child ∷ vs) x ≡ 1 + occurs vs x = subst (λ y. occurs (child ∷ vs) y ≡ 1 + occurs vs y) (sym z) o4 in omega arith,
      λ z. let lt : x < length f.slots = placed x (omega (arith, occurs-append us (child ∷ vs) x)) in omega arith,
    ))
    (subst (λ m. q < m) (sym h.heads_few) q_lt) (λ z. omega arith))
    (λ m ne. heads_off hs q k child n e g m (end_parent_cases q n far) ne)
    (λ x o1 o2 nn. s.off x (let i : occurs (children_at f q) x ≡ occurs (us ++ child ∷ vs) x = in_q x in let j : occurs mid x ≡ occurs (children_at f child) x = same x in omega arith) nn)
    s.gone
    (run_is (spliced_links ls child n far e g k) (spliced_run ls (spliced_links ls child n far e g k) q child e w ws us vs
    (with_q s.splices) once (λ x o z. let lt : x < length f.slots = placed x o in omega arith) run inner))
  where
    no_self : (f : Layout) (q child : ℕ) → IsLayout f → 1 ≤ occurs (children_at f q) child → child ≢ q
    no_self f q child h o e = no_circle f.slots q child (h.grounds q) o (subst (λ z. IsAtOrAbove f.slots child z) e (here child))

    with_q : Splices ls (spliced_links ls child (last_or us none) (head_or vs none) e (last_or ws w) (end_parent q (last_or us none) (head_or vs none)))
        (end_parent q (last_or us none) (head_or vs none)) child e (last_or ws w) us vs (e ∷ w ∷ ws) →
        Splices ls (spliced_links ls child (last_or us none) (head_or vs none) e (last_or ws w) (end_parent q (last_or us none) (head_or vs none)))
        q child e (last_or ws w) us vs (e ∷ w ∷ ws)
    with_q s = record {
      left = s.left;
      right = s.right;
      first = s.first ∙ ap (λ z. (let r : Link = record (redirected (link ls e) none (last_or us none)) { parent = z } in r)) (top_left q (last_or us none) (head_or vs none));
      last = s.last ∙ ap (λ z. (let r : Link = record (redirected (link ls (last_or ws w)) none (head_or vs none)) { parent = z } in r)) (top_right q (last_or us none) (head_or vs none));
      same_left = s.same_left;
      same_right = s.same_right;
      same_inner = s.same_inner;
    }
      where
        top_left : (q n far : ℕ) → cond (eqb n none) (end_parent q n far) none ≡ cond (eqb n none) q none
        top_left q n far = elim (eqb n none) as (λ b. cond b (cond (b || eqb far none) q none) none ≡ cond b q none) [ true ↦ refl | false ↦ refl ]

        top_right : (q n far : ℕ) → cond (eqb far none) (end_parent q n far) none ≡ cond (eqb far none) q none
        top_right q n far = elim (eqb far none) as (λ b. cond b (cond (eqb n none || b) q none) none ≡ cond b q none) [
          | true ↦ ap (λ b. cond b q none) (or_true (eqb n none))
          | false ↦ refl
        ]
          where
            or_true : (b : _) → (b || true) ≡ true
            or_true true = refl
            or_true false = refl

pub splice_read : (ls : List Link) (hs : List Head) (root spare count columns : ℕ) (f : Layout) (q child e w : ℕ) (us vs ws : List ℕ) →
    StandsFor ls hs root spare count columns f → IsSpliceAt f q child us vs →
    EachBetween (IsInRun ls child) none (e ∷ w ∷ ws) none → ((x : ℕ) → occurs (e ∷ w ∷ ws) x ≡ occurs (children_at f child) x) →
    StandsFor (spliced_links ls child (last_or us none) (head_or vs none) e (last_or ws w) (end_parent q (last_or us none) (head_or vs none)))
    (set (spliced_heads hs (end_parent q (last_or us none) (head_or vs none)) child (last_or us none) e (last_or ws w)) child
    (spare_head spare))
    root child (count + 1) columns (spliced f q child (us ++ (e ∷ w ∷ ws ++ vs)))
splice_read ls hs root spare count columns f q child e w us vs ws h c inner same =
    splice_seen ls hs root spare count columns f q child e w us vs ws (us ++ (e ∷ w ∷ ws ++ vs)) h c.q_shape c.child_shape
    (λ x. ap (λ z. occurs z x) c.at)
    (subst (λ z. EachBetween (IsInRun ls q) none z none) c.at (subst (λ z. IsSeated ls q z (children_at f q)) c.q_shape (h.seats q)))
    inner same (λ x. refl) (λ ls' r. r)
    (λ us_off vs_off lt nq. new_ends hs q child e (last_or ws w) us vs (e ∷ w ∷ ws) (h.heads_are q Q c.q_shape ∙ ap (λ z. head_of Q z) c.at) lt nq us_off vs_off (λ d. refl) (λ d. refl))

-- the ends of q where the side of n is that behind child
back_ends : (hs : List Head) (q child e g : ℕ) (us vs mid : List ℕ) →
    head hs q ≡ head_of Q (us ++ child ∷ vs) → q < length hs → q ≢ none → 1 ≤ length us + length vs →
    ((x : ℕ) → 1 ≤ occurs us x → (x ≢ child) × (x ≢ none)) → ((x : ℕ) → 1 ≤ occurs vs x → (x ≢ child) × (x ≢ none)) →
    ((d : ℕ) → head_or mid d ≡ g) → ((d : ℕ) → last_or mid d ≡ e) →
    head (spliced_heads hs (end_parent q (head_or vs none) (last_or us none)) child (head_or vs none) e g) q ≡ head_of Q (us ++ (mid ++ vs))
unfolding q_head
back_ends hs q child e g [] [] mid is lt nq some us_off vs_off he la = absurd (omega arith)
back_ends hs q child e g [] (v ∷ vs) mid is lt nq some us_off vs_off he la =
    let v_real : v ≢ none = (vs_off v (occurs_here v vs)).1 in
    let is_q : end_parent q v none ≡ q = ap (λ b. cond (b || true) q none) (ne_eqb v none v_real) in
    ap (λ z. head (spliced_heads hs z child v e g) q) is_q ∙ known_q hs q child v e g lt nq ∙ ap (ends child v e g) is
    ∙ q_head_same {a = cond (eqb child child) (cond (eqb v none) e g) child} {a' = head_or (mid ++ v ∷ vs) none}
    {b = cond (eqb (last_or vs v) child) (cond (eqb child child) g (cond (eqb v none) e g)) (last_or vs v)} {b' = last_or (mid ++ v ∷ vs) none}
    (ap (λ b. cond b (cond (eqb v none) e g) child) (eq-eqb child child refl) ∙ ap (λ b. cond b e g) (ne_eqb v none v_real) ∙ sym (head_or-append mid (v ∷ vs) none ∙ he v))
    (ap (λ b. cond b (cond (eqb child child) g (cond (eqb v none) e g)) (last_or vs v)) (ne_eqb (last_or vs v) child (vs_off (last_or vs v) (occurs_last vs v)).0)
    ∙ sym (last_or-append mid (v ∷ vs) none))
back_ends hs q child e g (u ∷ us) [] mid is lt nq some us_off vs_off he la =
    known_q hs q child none e g lt nq ∙ ap (ends child none e g) is
    ∙ q_head_same {a = cond (eqb u child) e u} {a' = u}
    {b = cond (eqb (last_or (us ++ child ∷ []) u) child) (cond (eqb u child) g e) (last_or (us ++ child ∷ []) u)} {b' = last_or (us ++ (mid ++ [])) u}
    (ap (λ b. cond b e u) (ne_eqb u child (us_off u (occurs_here u us)).0))
    (ap (λ z. cond (eqb z child) (cond (eqb u child) g e) z) (last_or-append us (child ∷ []) u)
    ∙ ap (λ b. cond b (cond (eqb u child) g e) child) (eq-eqb child child refl)
    ∙ ap (λ b. cond b g e) (ne_eqb u child (us_off u (occurs_here u us)).0)
    ∙ sym (last_or-append us (mid ++ []) u ∙ last_or-append mid [] (last_or us u) ∙ la (last_or us u)))
back_ends hs q child e g (u ∷ us) (v ∷ vs) mid is lt nq some us_off vs_off he la =
    let n : ℕ = last_or us u in
    let n_real : n ≢ none = (us_off n (occurs_last us u)).1 in
    let v_real : v ≢ none = (vs_off v (occurs_here v vs)).1 in
    let is_none : end_parent q v n ≡ none = parent_inner q v n v_real n_real in
    ap (λ z. head (spliced_heads hs z child v e g) q) is_none ∙ is
    ∙ q_head_same {a = u} {a' = u} {b = last_or (us ++ child ∷ v ∷ vs) u} {b' = last_or (us ++ (mid ++ v ∷ vs)) u} refl
    (last_or-append us (child ∷ v ∷ vs) u ∙ sym (last_or-append us (mid ++ v ∷ vs) u ∙ last_or-append mid (v ∷ vs) (last_or us u)))

first_back : (ks : List ℕ) (d : ℕ) → head_or (reverse ks) d ≡ last_or ks d
first_back ks d = sym (last_reverse (reverse ks) d) ∙ ap (λ z. last_or z d) (reverse-reverse ks)

reverse_around : (us vs : List ℕ) (x : List ℕ) → reverse (us ++ (x ++ vs)) ≡ reverse vs ++ (reverse x ++ reverse us)
reverse_around us vs x = reverse-append us (x ++ vs) ∙ ap (λ z. z ++ reverse us) (reverse-append x vs) ∙ append_assoc (reverse vs) (reverse x) (reverse us)

pub splice_back : (ls : List Link) (hs : List Head) (root spare count columns : ℕ) (f : Layout) (q child e w : ℕ) (us vs ws : List ℕ) →
    StandsFor ls hs root spare count columns f → IsSpliceAt f q child us vs → 1 ≤ length us + length vs →
    EachBetween (IsInRun ls child) none (e ∷ w ∷ ws) none → ((x : ℕ) → occurs (e ∷ w ∷ ws) x ≡ occurs (children_at f child) x) →
    StandsFor (spliced_links ls child (head_or vs none) (last_or us none) e (last_or ws w) (end_parent q (head_or vs none) (last_or us none)))
    (set (spliced_heads hs (end_parent q (head_or vs none) (last_or us none)) child (head_or vs none) e (last_or ws w)) child
    (spare_head spare))
    root child (count + 1) columns (spliced f q child (us ++ (reverse (e ∷ w ∷ ws) ++ vs)))
splice_back ls hs root spare count columns f q child e w us vs ws h c some inner same =
    let mid : List ℕ = e ∷ w ∷ ws in
    let run : EachBetween (IsInRun ls q) none (us ++ (child ∷ [] ++ vs)) none =
    subst (λ z. EachBetween (IsInRun ls q) none z none) c.at (subst (λ z. IsSeated ls q z (children_at f q)) c.q_shape (h.seats q)) in
    let back : EachBetween (IsInRun ls q) none (reverse vs ++ child ∷ reverse us) none =
    subst (λ z. EachBetween (IsInRun ls q) none z none) (reverse_around us vs (child ∷ [])) (run_back ls q (us ++ (child ∷ [] ++ vs)) none none run) in
    subst (λ n. StandsFor (spliced_links ls child n (last_or us none) e (last_or ws w) (end_parent q n (last_or us none)))
    (set (spliced_heads hs (end_parent q n (last_or us none)) child n e (last_or ws w)) child (spare_head spare))
    root child (count + 1) columns (spliced f q child (us ++ (reverse mid ++ vs)))) (last_reverse vs none)
    (subst (λ far. StandsFor (spliced_links ls child (last_or (reverse vs) none) far e (last_or ws w) (end_parent q (last_or (reverse vs) none) far))
    (set (spliced_heads hs (end_parent q (last_or (reverse vs) none) far) child (last_or (reverse vs) none) e (last_or ws w)) child (spare_head spare))
    root child (count + 1) columns (spliced f q child (us ++ (reverse mid ++ vs)))) (first_back us none)
    (splice_seen ls hs root spare count columns f q child e w (reverse vs) (reverse us) ws (us ++ (reverse mid ++ vs)) h c.q_shape c.child_shape
    (λ x. ap (λ z. occurs z x) c.at ∙ turned_count us vs (child ∷ []) x)
    back inner same
    (λ x. turned_count us vs (reverse mid) x ∙ ap (λ z. occurs (reverse vs ++ (z ++ reverse us)) x) (reverse-reverse mid))
    (λ ls' r. subst (λ z. EachBetween (IsInRun ls' q) none z none)
    (reverse_around (reverse vs) (reverse us) mid ∙ ap (λ z. z ++ (reverse mid ++ reverse (reverse vs))) (reverse-reverse us) ∙ ap (λ z. us ++ (reverse mid ++ z)) (reverse-reverse vs))
    (run_back ls' q (reverse vs ++ (mid ++ reverse us)) none none r))
    (λ us_off vs_off lt nq.
    subst (λ n. head (spliced_heads hs (end_parent q n (head_or (reverse us) none)) child n e (last_or ws w)) q ≡ head_of Q (us ++ (reverse mid ++ vs))) (sym (last_reverse vs none))
    (subst (λ far. head (spliced_heads hs (end_parent q (head_or vs none) far) child (head_or vs none) e (last_or ws w)) q ≡ head_of Q (us ++ (reverse mid ++ vs))) (sym (first_back us none))
    (back_ends hs q child e (last_or ws w) us vs (reverse mid) (h.heads_are q Q c.q_shape ∙ ap (λ z. head_of Q z) c.at) lt nq some
    (λ x o. vs_off x (subst (λ k. 1 ≤ k) (sym (occurs-reverse us x)) o)) (λ x o. us_off x (subst (λ k. 1 ≤ k) (sym (occurs-reverse vs x)) o))
    (λ d. first_back mid d) (λ d. last_reverse mid d))))))
  where
    turned_count : (us vs x : List ℕ) (y : ℕ) → occurs (us ++ (x ++ vs)) y ≡ occurs (reverse vs ++ (reverse x ++ reverse us)) y
    turned_count us vs x y = sym (occurs-reverse (us ++ (x ++ vs)) y) ∙ ap (λ z. occurs z y) (reverse_around us vs x)

-- the list of child's children from the end that is asked for
record Seen (ls : List Link) (child e g : ℕ) (ks : List ℕ) : Type 0 where
  w : ℕ
  ws : List ℕ
  is : ks ≡ e ∷ w ∷ ws
  last : g ≡ last_or ws w
  inner : EachBetween (IsInRun ls child) none (e ∷ w ∷ ws) none

two_seen : (ls : List Link) (child : ℕ) (ks : List ℕ) → 2 ≤ length ks → EachBetween (IsInRun ls child) none ks none →
    Seen ls child (head_or ks none) (last_or ks none) ks
two_seen ls child [] l c = absurd (omega arith)
two_seen ls child (a ∷ []) l c = absurd (omega arith)
two_seen ls child (a ∷ b ∷ bs) l c = record { w = b; ws = bs; is = refl; last = refl; inner = c }

-- the run after a splice, by the list that it makes of child's children in the order in which n sees them
splice_call_at : (ls : List Link) (hs : List Head) (root spare count columns : ℕ) (f : Layout) (q child first n far : ℕ) (make : List ℕ → List ℕ) →
    StandsFor ls hs root spare count columns f → shape_at f child ≡ Some Q → 2 ≤ length (children_at f child) → IsInRun ls q child n far →
    ((e w : ℕ) (ws : List ℕ) → EachBetween (IsInRun ls child) none (e ∷ w ∷ ws) none → ((x : ℕ) → occurs (e ∷ w ∷ ws) x ≡ occurs (children_at f child) x) →
    StandsFor (spliced_links ls child n far e (last_or ws w) (end_parent q n far))
    (set (spliced_heads hs (end_parent q n far) child n e (last_or ws w)) child (spare_head spare))
    root child (count + 1) columns (spliced f q child (make (e ∷ w ∷ ws)))) →
    (let far' = other_side (link ls child) n in let e = fore (head hs child) first in let g = aft (head hs child) first in
    StandsFor (spliced_links ls child n far' e g (link ls child).parent)
    (set (spliced_heads hs (link ls child).parent child n e g) child (spare_head spare))
    root child (count + 1) columns (spliced f q child (make (oriented first (children_at f child)))))
splice_call_at ls hs root spare count columns f q child first n far make h child_shape some seat_c core =
    let far_is : other_side (link ls child) n ≡ far = other_is ls q child n far seat_c in
    let parent_is : (link ls child).parent ≡ end_parent q n far =
    elim seat_c [ inl e ↦ ap (λ (l : Link). l.parent) e | inr e ↦ ap (λ (l : Link). l.parent) e ] in
    let head_is : head hs child ≡ head_of Q (children_at f child) = h.heads_are child Q child_shape in
    let run : EachBetween (IsInRun ls child) none (children_at f child) none = subst (λ z. IsSeated ls child z (children_at f child)) child_shape (h.seats child) in
    subst (λ far'. StandsFor (spliced_links ls child n far' (fore (head hs child) first) (aft (head hs child) first) (link ls child).parent)
    (set (spliced_heads hs (link ls child).parent child n (fore (head hs child) first) (aft (head hs child) first)) child (spare_head spare))
    root child (count + 1) columns (spliced f q child (make (oriented first (children_at f child))))) (sym far_is)
    (subst (λ p. StandsFor (spliced_links ls child n far (fore (head hs child) first) (aft (head hs child) first) p)
    (set (spliced_heads hs p child n (fore (head hs child) first) (aft (head hs child) first)) child (spare_head spare))
    root child (count + 1) columns (spliced f q child (make (oriented first (children_at f child))))) (sym parent_is)
    (subst (λ d. StandsFor (spliced_links ls child n far (fore d first) (aft d first) (end_parent q n far))
    (set (spliced_heads hs (end_parent q n far) child n (fore d first) (aft d first)) child (spare_head spare))
    root child (count + 1) columns (spliced f q child (make (oriented first (children_at f child))))) (sym head_is)
    (by_end (eqb first 0) run)))
  where
    with_seen : (e g : ℕ) (ks : List ℕ) → Seen ls child e g ks → ((x : ℕ) → occurs ks x ≡ occurs (children_at f child) x) →
        StandsFor (spliced_links ls child n far e g (end_parent q n far))
        (set (spliced_heads hs (end_parent q n far) child n e g) child (spare_head spare))
        root child (count + 1) columns (spliced f q child (make ks))
    with_seen e g ks s same =
        subst (λ z. StandsFor (spliced_links ls child n far e z (end_parent q n far))
        (set (spliced_heads hs (end_parent q n far) child n e z) child (spare_head spare))
        root child (count + 1) columns (spliced f q child (make ks))) (sym s.last)
        (subst (λ zs. StandsFor (spliced_links ls child n far e (last_or s.ws s.w) (end_parent q n far))
        (set (spliced_heads hs (end_parent q n far) child n e (last_or s.ws s.w)) child (spare_head spare))
        root child (count + 1) columns (spliced f q child (make zs))) (sym s.is)
        (core e s.w s.ws s.inner (λ x. ap (λ z. occurs z x) (sym s.is) ∙ same x)))

    back : (ks : List ℕ) → 2 ≤ length ks → EachBetween (IsInRun ls child) none ks none → Seen ls child (last_or ks none) (head_or ks none) (reverse ks)
    back ks l run =
        let s : Seen ls child (head_or (reverse ks) none) (last_or (reverse ks) none) (reverse ks) =
        two_seen ls child (reverse ks) (subst (λ m. 2 ≤ m) (sym (length-reverse ks)) l) (run_back ls child ks none none run) in
        subst (λ e. Seen ls child e (head_or ks none) (reverse ks)) (first_back ks none)
        (subst (λ g. Seen ls child (head_or (reverse ks) none) g (reverse ks)) (last_reverse ks none) s)

    by_end : (b : _) → EachBetween (IsInRun ls child) none (children_at f child) none →
        StandsFor (spliced_links ls child n far (cond b (head_or (children_at f child) none) (last_or (children_at f child) none)) (cond b (last_or (children_at f child) none) (head_or (children_at f child) none)) (end_parent q n far))
        (set (spliced_heads hs (end_parent q n far) child n (cond b (head_or (children_at f child) none) (last_or (children_at f child) none)) (cond b (last_or (children_at f child) none) (head_or (children_at f child) none))) child (spare_head spare))
        root child (count + 1) columns (spliced f q child (make (cond b (children_at f child) (reverse (children_at f child)))))
    by_end true run = with_seen (head_or (children_at f child) none) (last_or (children_at f child) none) (children_at f child) (two_seen ls child (children_at f child) some run) (λ x. refl)
    by_end false run = with_seen (last_or (children_at f child) none) (head_or (children_at f child) none) (reverse (children_at f child)) (back (children_at f child) some run) (λ x. occurs-reverse (children_at f child) x)

pub splice_call : (ls : List Link) (hs : List Head) (root spare count columns : ℕ) (f : Layout) (q child first : ℕ) (us vs : List ℕ) →
    StandsFor ls hs root spare count columns f → IsSpliceAt f q child us vs →
    (let n = last_or us none in let far = other_side (link ls child) n in let e = fore (head hs child) first in let g = aft (head hs child) first in
    StandsFor (spliced_links ls child n far e g (link ls child).parent)
    (set (spliced_heads hs (link ls child).parent child n e g) child (spare_head spare))
    root child (count + 1) columns (spliced f q child (us ++ (oriented first (children_at f child) ++ vs))))
splice_call ls hs root spare count columns f q child first us vs h c =
    splice_call_at ls hs root spare count columns f q child first (last_or us none) (head_or vs none) (λ ks. us ++ (ks ++ vs)) h c.child_shape c.some
    (run_seat ls hs root spare count columns f q child us vs h c.q_shape c.at)
    (λ e w ws inner same. splice_read ls hs root spare count columns f q child e w us vs ws h c inner same)

pub splice_call_back : (ls : List Link) (hs : List Head) (root spare count columns : ℕ) (f : Layout) (q child first : ℕ) (us vs : List ℕ) →
    StandsFor ls hs root spare count columns f → IsSpliceAt f q child us vs → 1 ≤ length us + length vs →
    (let n = head_or vs none in let far = other_side (link ls child) n in let e = fore (head hs child) first in let g = aft (head hs child) first in
    StandsFor (spliced_links ls child n far e g (link ls child).parent)
    (set (spliced_heads hs (link ls child).parent child n e g) child (spare_head spare))
    root child (count + 1) columns (spliced f q child (us ++ (reverse (oriented first (children_at f child)) ++ vs))))
splice_call_back ls hs root spare count columns f q child first us vs h c some =
    splice_call_at ls hs root spare count columns f q child first (head_or vs none) (last_or us none) (λ ks. us ++ (reverse ks ++ vs)) h c.child_shape c.some
    (in_run_back ls q child (last_or us none) (head_or vs none) (run_seat ls hs root spare count columns f q child us vs h c.q_shape c.at))
    (λ e w ws inner same. splice_back ls hs root spare count columns f q child e w us vs ws h c some inner same)

-- what splice reads and writes is there, n and far being the neighbours of child
bounds_at : (ls : List Link) (hs : List Head) (root spare count columns : ℕ) (f : Layout) (q child first n far : ℕ) (us vs : List ℕ) →
    StandsFor ls hs root spare count columns f → IsSpliceAt f q child us vs → IsInRun ls q child n far → IsNone (length ls) n → IsNone (length ls) far →
    CanSplice ls hs child n (other_side (link ls child) n) (fore (head hs child) first) (aft (head hs child) first) (link ls child).parent
bounds_at ls hs root spare count columns f q child first n far us vs h c seat_c n_in far_in =
    let far_is : other_side (link ls child) n ≡ far = other_is ls q child n far seat_c in
    let parent_is : (link ls child).parent ≡ end_parent q n far =
    elim seat_c [ inl e ↦ ap (λ (l : Link). l.parent) e | inr e ↦ ap (λ (l : Link). l.parent) e ] in
    let head_is : head hs child ≡ head_of Q (children_at f child) = h.heads_are child Q c.child_shape in
    let lt : (x : ℕ) → IsInUse f x → x < length ls = (λ x u. subst (λ m. x < m) (sym h.links_few) (in_range f x u)) in
    let kid : (x : ℕ) → 1 ≤ occurs (children_at f child) x → x < length ls =
    (λ x o. lt x (h.layout.used x (let k : occurs (children_at f child) x ≤ times_child f.slots x = children_times f child x in omega arith))) in
    record {
      child_in = lt child (used_by f child Q c.child_shape);
      n_in = n_in;
      far_in = subst (λ z. IsNone (length ls) z) (sym far_is) far_in;
      e_in = subst (λ z. fore z first < length ls) (sym head_is) (either (eqb first 0) (children_at f child) c.some kid).0;
      g_in = subst (λ z. aft z first < length ls) (sym head_is) (either (eqb first 0) (children_at f child) c.some kid).1;
      q_in = subst (λ z. IsNone (length ls) z) (sym parent_is) (elim (end_parent_cases q n far) [
        | inl e ↦ λ _. subst (λ z. z < length ls) (sym e) (lt q (used_by f q Q c.q_shape))
        | inr e ↦ λ d. absurd (d e)
      ]);
    }
  where
    either : (b : _) (ks : List ℕ) → 2 ≤ length ks → ((x : ℕ) → 1 ≤ occurs ks x → x < length ls) →
        (cond b (head_or ks none) (last_or ks none) < length ls) × (cond b (last_or ks none) (head_or ks none) < length ls)
    either b [] l k = absurd (omega arith)
    either true (a ∷ rest) l k = (k a (occurs_here a rest), k (last_or rest a) (occurs_last rest a))
    either false (a ∷ rest) l k = (k (last_or rest a) (occurs_last rest a), k a (occurs_here a rest))

-- the neighbours of child are there
beside_in : (ls : List Link) (hs : List Head) (root spare count columns : ℕ) (f : Layout) (q child : ℕ) (us vs : List ℕ) →
    StandsFor ls hs root spare count columns f → children_at f q ≡ us ++ child ∷ vs → IsNone (length ls) (last_or us none) × IsNone (length ls) (head_or vs none)
beside_in ls hs root spare count columns f q child us vs h at = (
  last_in_range us (λ x o. placed x (omega (arith, occurs-append us (child ∷ vs) x))),
  head_in_range vs (λ x o. placed x (omega (arith, occurs-append us (child ∷ vs) x))),
)
  where
    placed : (x : ℕ) → 1 ≤ occurs (us ++ child ∷ vs) x → x < length ls
    placed x o = subst (λ m. x < m) (sym h.links_few) (in_range f x (h.layout.used x
        (let k : occurs (children_at f q) x ≤ times_child f.slots x = children_times f q x in let i : occurs (children_at f q) x ≡ occurs (us ++ child ∷ vs) x = ap (λ z. occurs z x) at in omega arith)))

    last_in_range : (us : List ℕ) → ((x : ℕ) → 1 ≤ occurs us x → x < length ls) → IsNone (length ls) (last_or us none)
    last_in_range [] k d = absurd (d refl)
    last_in_range (u ∷ us) k d = k (last_or us u) (occurs_last us u)

    head_in_range : (vs : List ℕ) → ((x : ℕ) → 1 ≤ occurs vs x → x < length ls) → IsNone (length ls) (head_or vs none)
    head_in_range [] k d = absurd (d refl)
    head_in_range (v ∷ vs) k d = k v (occurs_here v vs)

pub splice_bounds : (ls : List Link) (hs : List Head) (root spare count columns : ℕ) (f : Layout) (q child first n : ℕ) (us vs : List ℕ) →
    StandsFor ls hs root spare count columns f → IsSpliceAt f q child us vs → (n ≡ last_or us none) ⊎ (n ≡ head_or vs none) →
    CanSplice ls hs child n (other_side (link ls child) n) (fore (head hs child) first) (aft (head hs child) first) (link ls child).parent
splice_bounds ls hs root spare count columns f q child first n us vs h c (inl e) =
    let b = beside_in ls hs root spare count columns f q child us vs h c.at in
    subst (λ z. CanSplice ls hs child z (other_side (link ls child) z) (fore (head hs child) first) (aft (head hs child) first) (link ls child).parent) (sym e)
    (bounds_at ls hs root spare count columns f q child first (last_or us none) (head_or vs none) us vs h c
    (run_seat ls hs root spare count columns f q child us vs h c.q_shape c.at) b.0 b.1)
splice_bounds ls hs root spare count columns f q child first n us vs h c (inr e) =
    let b = beside_in ls hs root spare count columns f q child us vs h c.at in
    subst (λ z. CanSplice ls hs child z (other_side (link ls child) z) (fore (head hs child) first) (aft (head hs child) first) (link ls child).parent) (sym e)
    (bounds_at ls hs root spare count columns f q child first (head_or vs none) (last_or us none) us vs h c
    (in_run_back ls q child (last_or us none) (head_or vs none) (run_seat ls hs root spare count columns f q child us vs h c.q_shape c.at)) b.1 b.0)

pub number_named : (x : ℕ) → index_or_none (node_named x) ≡ x
number_named x = (elim (eqb x none) as (λ b. eqb x none ≡ b → index_or_none (cond b None (Some (record { index = x }))) ≡ x) [
  | true ↦ λ e. sym (eqb-true x none e)
  | false ↦ λ e. refl
]) refl

pub spliced_len : (ls : List Link) (child n far e g q : ℕ) → length (spliced_links ls child n far e g q) ≡ length ls
spliced_len ls child n far e g q =
    length-set (joined (joined ls n child e q) far child g q) child no_link ∙ joined_len (joined ls n child e q) far child g q ∙ joined_len ls n child e q
  where
    joined_len : (ls : List Link) (n child e q : ℕ) → length (joined ls n child e q) ≡ length ls
    joined_len ls n child e q = length-set (relinked_if ls n child e) e _ ∙ rel_len ls n child e
