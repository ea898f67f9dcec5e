-- splice: the writes node by node, the forest afterwards, and that the arena stands for it.
use Rattle.std.proofs.Common.{◌≡◌, ◌≢◌, ◌⊎◌, inl, inr, ℕ, ◌+◌, ◌≤◌, ◌<◌, true, false, cond, eqb, List, [], ◌∷◌, ◌++◌, length, set, Some, None, refl, sym, ap, subst, ◌∙◌, arith}
use Rattle.arena_model.specs.declared.TheConstants.{NODE_BOUND}
use Rattle.std.proofs.lemmas.Bool.{cases_eq, cases_lt, ne_eqb}
use Rattle.std.proofs.lemmas.List.{length-set, get_or-set_same, get_or-set_other, get_or_past}
use Rattle.std.proofs.lemmas.List.Sums.{sum_by-set}
use Rattle.arena_model.specs.declared.Shape.{Shape}
use Rattle.arena_model.specs.declared.Shape.TheVariants.{Leaf, Q}
use Rattle.pq_arena.specs.declared.node.Link.{Link}
use Rattle.pq_arena.specs.declared.node.Head.{Head}
use Rattle.arena_model.proofs.Lists.{occurs_here, occurs_same, occurs_other, occurs_last}
use Rattle.arena_model.proofs.Slots.{some_none, in_range, used_by, children_same, children_other, shape_same, times_with, children_times, children_apart, some_inj, few_slots}
use Rattle.arena_model.specs.ChildLists.{head_or, last_or, none}
use Rattle.arena_model.specs.Layout.{Slot, Layout, spare_slot, slot, shape_at, children_at, times_child, IsGrounded, grounded, MayHaveChildren, IsLayout, with_children, given_back, spliced}
use Rattle.column_order.proofs.Lists.{occurs-append}
use Rattle.column_order.specs.Orders.{occurs}
use Rattle.pq_arena.proofs.Children.{seated_map, spare_map}
use Rattle.pq_arena.proofs.Detach.{link_set, link_off}
use Rattle.pq_arena.proofs.Runs.{Splices}
use Rattle.pq_arena.specs.StandsFor.{EachBetween, IsInRun, IsSeated, head_of, AreSpare, StandsFor}
use Rattle.pq_arena.specs.Wiring.{no_link, no_head, link, head, redirected, relinked, relinked_if, spliced_links, spare_head, kind_shape}

pub rel_off : (ls : List Link) (x a b y : ℕ) → y ≢ x → link (relinked_if ls x a b) y ≡ link ls y
rel_off ls x a b y ne = elim (eqb x none) as (λ t. link (cond t ls (relinked ls x a b)) y ≡ link ls y) [
  | true ↦ refl
  | false ↦ link_off ls x y _ ne
]

pub rel_at : (ls : List Link) (x a b : ℕ) → x ≢ none → x < length ls → link (relinked_if ls x a b) x ≡ redirected (link ls x) a b
rel_at ls x a b ne lt = ap (λ t. link (cond t ls (relinked ls x a b)) x) (ne_eqb x none ne) ∙ link_set ls x _ lt

pub rel_len : (ls : List Link) (x a b : ℕ) → length (relinked_if ls x a b) ≡ length ls
rel_len ls x a b = elim (eqb x none) as (λ t. length (cond t ls (relinked ls x a b)) ≡ length ls) [ true ↦ refl | false ↦ length-set ls x _ ]

pub differ : (xs : List ℕ) (y z : ℕ) → occurs xs y ≡ 0 → 1 ≤ occurs xs z → y ≢ z
differ xs y z o p e = let k : 1 ≤ occurs xs y = subst (λ w. 1 ≤ occurs xs w) (sym e) p in omega arith

pub end_off : (us : List ℕ) (y : ℕ) → y ≢ none → occurs us y ≡ 0 → y ≢ last_or us none
end_off [] y ne o = ne
end_off (u ∷ us) y ne o = differ (u ∷ us) y (last_or us u) o (occurs_last us u)

pub head_off : (vs : List ℕ) (y : ℕ) → y ≢ none → occurs vs y ≡ 0 → y ≢ head_or vs none
head_off [] y ne o = ne
head_off (v ∷ vs) y ne o = differ (v ∷ vs) y v o (occurs_here v vs)

pub last_in : (us : List ℕ) → 1 ≤ length us → 1 ≤ occurs us (last_or us none)
last_in [] l = absurd (omega arith)
last_in (u ∷ us) l = occurs_last us u

pub head_in : (vs : List ℕ) → 1 ≤ length vs → 1 ≤ occurs vs (head_or vs none)
head_in [] l = absurd (omega arith)
head_in (v ∷ vs) l = occurs_here v vs

pub record Spliced (ls ls' : List Link) (q child e g : ℕ) (us vs inner : List ℕ) : Type 0 where
  pub splices : Splices ls ls' q child e g us vs inner
  pub off : (x : ℕ) → occurs (us ++ child ∷ vs) x + occurs inner x ≡ 0 → x ≢ none → link ls' x ≡ link ls x
  pub gone : link ls' child ≡ no_link
  pub len : length ls' ≡ length ls

pub splices_are : (ls : List Link) (q child e w : ℕ) (ws us vs : List ℕ) →
    ((x : ℕ) → occurs (us ++ child ∷ vs) x + occurs (e ∷ w ∷ ws) x ≤ 1) →
    ((x : ℕ) → 1 ≤ occurs (us ++ child ∷ vs) x + occurs (e ∷ w ∷ ws) x → x < length ls) → length ls ≤ NODE_BOUND →
    Spliced ls (spliced_links ls child (last_or us none) (head_or vs none) e (last_or ws w) q) q child e (last_or ws w) us vs (e ∷ w ∷ ws)
splices_are ls q child e w ws us vs once inside few =
    let g : ℕ = last_or ws w in
    let n : ℕ = last_or us none in
    let far : ℕ = head_or vs none in
    let one : List Link = relinked_if ls n child e in
    let v1 : Link = record (redirected (link one e) none n) { parent = cond (eqb n none) q none } in
    let two : List Link = set one e v1 in
    let three : List Link = relinked_if two far child g in
    let v2 : Link = record (redirected (link three g) none far) { parent = cond (eqb far none) q none } in
    let four : List Link = set three g v2 in
    let all : (x : ℕ) → occurs us x + (occurs (child ∷ []) x + occurs vs x) + occurs (e ∷ w ∷ ws) x ≤ 1 =
    (λ x. let o : occurs (us ++ child ∷ vs) x + occurs (e ∷ w ∷ ws) x ≤ 1 = once x in omega (arith, occurs-append us (child ∷ vs) x)) in
    let node_named : (x : ℕ) → 1 ≤ occurs us x + (occurs (child ∷ []) x + occurs vs x) + occurs (e ∷ w ∷ ws) x → x < length ls =
    (λ x k. inside x (omega (arith, occurs-append us (child ∷ vs) x))) in
    let real : (x : ℕ) → 1 ≤ occurs us x + (occurs (child ∷ []) x + occurs vs x) + occurs (e ∷ w ∷ ws) x → x ≢ none =
    (λ x k q. let lt : x < length ls = node_named x k in omega arith) in
    let e1 : 1 ≤ occurs (e ∷ w ∷ ws) e = occurs_here e (w ∷ ws) in
    let g1 : 1 ≤ occurs (w ∷ ws) g = occurs_last ws w in
    let c1 : 1 ≤ occurs (child ∷ []) child = occurs_here child [] in
    let e_all : occurs us e + (occurs (child ∷ []) e + occurs vs e) + occurs (e ∷ w ∷ ws) e ≤ 1 = all e in
    let g_all : occurs us g + (occurs (child ∷ []) g + occurs vs g) + occurs (e ∷ w ∷ ws) g ≤ 1 = all g in
    let c_all : occurs us child + (occurs (child ∷ []) child + occurs vs child) + occurs (e ∷ w ∷ ws) child ≤ 1 = all child in
    let e_real : e ≢ none = real e (omega arith) in
    let g_real : g ≢ none = real g (omega arith) in
    let c_real : child ≢ none = real child (omega arith) in
    let e_w : occurs (w ∷ ws) e ≡ 0 = omega (arith, occurs_same e (w ∷ ws)) in
    let e_g : e ≢ g = differ (w ∷ ws) e g e_w g1 in
    let e_n : e ≢ n = end_off us e e_real (omega arith) in
    let e_far : e ≢ far = head_off vs e e_real (omega arith) in
    let e_c : e ≢ child = differ (child ∷ []) e child (omega arith) c1 in
    let g_n : g ≢ n = end_off us g g_real (omega arith) in
    let g_far : g ≢ far = head_off vs g g_real (omega arith) in
    let g_c : g ≢ child = differ (child ∷ []) g child (omega arith) c1 in
    let len1 : length one ≡ length ls = rel_len ls n child e in
    let len2 : length two ≡ length ls = length-set one e v1 ∙ len1 in
    let len3 : length three ≡ length ls = rel_len two far child g ∙ len2 in
    let len4 : length four ≡ length ls = length-set three g v2 ∙ len3 in
    let e_lt : e < length ls = node_named e (omega arith) in
    let g_lt : g < length ls = node_named g (omega arith) in
    let c_lt : child < length ls = node_named child (omega arith) in
    let stays : (x : ℕ) → x ≢ n → x ≢ far → x ≢ e → x ≢ g → x ≢ child → link (set four child no_link) x ≡ link ls x =
    (λ x an af ae ag ac. link_off four child x no_link ac ∙ link_off three g x v2 ag ∙ rel_off two far child g x af ∙ link_off one e x v1 ae ∙ rel_off ls n child e x an) in
    let outer : (x : ℕ) → 1 ≤ occurs us x + occurs vs x → (x ≢ none) × (x ≢ e) × (x ≢ g) × (x ≢ child) =
    (λ x o. let a : occurs us x + (occurs (child ∷ []) x + occurs vs x) + occurs (e ∷ w ∷ ws) x ≤ 1 = all x in
    (real x (omega arith), differ (e ∷ w ∷ ws) x e (omega arith) e1, differ (w ∷ ws) x g (omega arith) g1, differ (child ∷ []) x child (omega arith) c1)) in
    let us_off : (x : ℕ) → 1 ≤ occurs us x → (x ≢ far) × (x ≢ e) × (x ≢ g) × (x ≢ child) =
    (λ x o. let a : occurs us x + (occurs (child ∷ []) x + occurs vs x) + occurs (e ∷ w ∷ ws) x ≤ 1 = all x in
    let k = outer x (omega arith) in (head_off vs x k.0 (omega arith), k.1, k.2, k.3)) in
    let vs_off : (x : ℕ) → 1 ≤ occurs vs x → (x ≢ n) × (x ≢ e) × (x ≢ g) × (x ≢ child) =
    (λ x o. let a : occurs us x + (occurs (child ∷ []) x + occurs vs x) + occurs (e ∷ w ∷ ws) x ≤ 1 = all x in
    let k = outer x (omega arith) in (end_off us x k.0 (omega arith), k.1, k.2, k.3)) in
    record {
      splices = record {
        left = λ l.
            let o = last_in us l in
            let k = us_off n o in
            let a : occurs us n + (occurs (child ∷ []) n + occurs vs n) + occurs (e ∷ w ∷ ws) n ≤ 1 = all n in
            link_off four child n no_link k.3 ∙ link_off three g n v2 k.2 ∙ rel_off two far child g n k.0 ∙ link_off one e n v1 k.1
            ∙ rel_at ls n child e (real n (omega arith)) (node_named n (omega arith));
        right = λ l.
            let o = head_in vs l in
            let k = vs_off far o in
            let lt : far < length ls = node_named far (omega arith) in
            link_off four child far no_link k.3 ∙ link_off three g far v2 k.2
            ∙ rel_at two far child g (real far (omega arith)) (subst (λ m. far < m) (sym len2) lt)
            ∙ ap (λ z. redirected z child g) (link_off one e far v1 k.1 ∙ rel_off ls n child e far k.0);
        first = link_off four child e no_link e_c ∙ link_off three g e v2 e_g ∙ rel_off two far child g e e_far
            ∙ link_set one e v1 (subst (λ m. e < m) (sym len1) e_lt)
            ∙ ap (λ (z : Link). let r : Link = record (redirected z none n) { parent = cond (eqb n none) q none } in r) (rel_off ls n child e e e_n);
        last = link_off four child g no_link g_c ∙ link_set three g v2 (subst (λ m. g < m) (sym len3) g_lt)
            ∙ ap (λ (z : Link). let r : Link = record (redirected z none far) { parent = cond (eqb far none) q none } in r)
            (rel_off two far child g g g_far ∙ link_off one e g v1 (λ d. e_g (sym d)) ∙ rel_off ls n child e g g_n);
        same_left = λ x o ne. let k = us_off x o in stays x ne k.0 k.1 k.2 k.3;
        same_right = λ x o ne. let k = vs_off x o in stays x k.0 ne k.1 k.2 k.3;
        same_inner = λ x o ae ag. let a : occurs us x + (occurs (child ∷ []) x + occurs vs x) + occurs (e ∷ w ∷ ws) x ≤ 1 = all x in
            stays x (end_off us x (real x (omega arith)) (omega arith)) (head_off vs x (real x (omega arith)) (omega arith)) ae ag
            (differ (child ∷ []) x child (omega arith) c1);
      };
      off = λ x o nx. let z : occurs us x + (occurs (child ∷ []) x + occurs vs x) + occurs (e ∷ w ∷ ws) x ≡ 0 = omega (arith, occurs-append us (child ∷ vs) x) in
          stays x (end_off us x nx (omega arith)) (head_off vs x nx (omega arith)) (differ (e ∷ w ∷ ws) x e (omega arith) e1)
          (differ (w ∷ ws) x g (omega arith) g1) (differ (child ∷ []) x child (omega arith) c1);
      gone = link_set four child no_link (subst (λ m. child < m) (sym len4) c_lt);
      len = length-set four child no_link ∙ len4;
    }

-- the forest afterwards
record Both (slots slots' : List Slot) (n : ℕ) : Type 0 where
  itself : IsGrounded slots' n
  below : (k : ℕ) → 1 ≤ occurs (slot slots n).children k → IsGrounded slots' k

lifted_grounded : (slots slots' : List Slot) (q child : ℕ) →
    ((m k : ℕ) → 1 ≤ occurs (slot slots' m).children k → (1 ≤ occurs (slot slots m).children k) ⊎ ((1 ≤ occurs (slot slots m).children child) × (1 ≤ occurs (slot slots child).children k))) →
    (m : ℕ) → IsGrounded slots m → Both slots slots' m
lifted_grounded slots slots' q child h _ (grounded m below) =
    record {
      itself = grounded m (λ k o. elim (h m k o) [
        | inl o1 ↦ (lifted_grounded slots slots' q child h k (below k o1)).itself
        | inr oo ↦ (lifted_grounded slots slots' q child h child (below child oo.0)).below k oo.1
      ]);
      below = λ k o. (lifted_grounded slots slots' q child h k (below k o)).itself;
    }

pub record CanLift (f : Layout) (q child : ℕ) (ks : List ℕ) : Type 0 where
  pub q_shape : shape_at f q ≡ Some Q
  pub child_shape : shape_at f child ≡ Some Q
  pub child_in : 1 ≤ occurs (children_at f q) child
  pub apart : child ≢ q
  pub count : (x : ℕ) → occurs ks x + occurs (child ∷ []) x ≡ occurs (children_at f q) x + occurs (children_at f child) x

pub record Lifted (f : Layout) (q child : ℕ) (ks : List ℕ) : Type 0 where
  pub q_lt : q < length f.slots
  pub child_lt : child < length f.slots
  pub children_q : children_at (spliced f q child ks) q ≡ ks
  pub children_child : children_at (spliced f q child ks) child ≡ []
  pub shape_child : shape_at (spliced f q child ks) child ≡ None
  pub children_off : (m : ℕ) → m ≢ q → m ≢ child → children_at (spliced f q child ks) m ≡ children_at f m
  pub shape_off : (m : ℕ) → m ≢ child → shape_at (spliced f q child ks) m ≡ shape_at f m
  pub times_are : (x : ℕ) → times_child (spliced f q child ks).slots x + occurs (child ∷ []) x ≡ times_child f.slots x
  pub len : length (spliced f q child ks).slots ≡ length f.slots

pub lifted : (f : Layout) (q child : ℕ) (ks : List ℕ) → CanLift f q child ks → Lifted f q child ks
lifted f q child ks c =
    let q_lt : q < length f.slots = in_range f q (used_by f q Q c.q_shape) in
    let c_lt : child < length f.slots = in_range f child (used_by f child Q c.child_shape) in
    let f1 : Layout = with_children f q ks in
    let g : Layout = given_back f1 child in
    let len1 : length f1.slots ≡ length f.slots = length-set f.slots q _ in
    let c_lt1 : child < length f1.slots = subst (λ m. child < m) (sym len1) c_lt in
    record {
      q_lt = q_lt;
      child_lt = c_lt;
      children_q = ap (λ z. z.children) (get_or-set_other f1.slots child q spare_slot spare_slot (λ e. c.apart (sym e))) ∙ children_same f q ks q_lt;
      children_child = ap (λ z. z.children) (get_or-set_same f1.slots child spare_slot spare_slot c_lt1);
      shape_child = ap (λ z. z.shape) (get_or-set_same f1.slots child spare_slot spare_slot c_lt1);
      children_off = λ m a b. ap (λ z. z.children) (get_or-set_other f1.slots child m spare_slot spare_slot b) ∙ children_other f q m ks a;
      shape_off = λ m b. ap (λ z. z.shape) (get_or-set_other f1.slots child m spare_slot spare_slot b) ∙ shape_same f q m ks q_lt;
      times_are = λ x.
          let a : times_child g.slots x + occurs (children_at f1 child) x ≡ times_child f1.slots x + occurs [] x = sum_by-set (λ z. occurs z.children x) f1.slots child spare_slot spare_slot c_lt1 in
          let a' : times_child g.slots x + occurs (children_at f child) x ≡ times_child f1.slots x + occurs [] x =
          subst (λ z. times_child g.slots x + occurs z x ≡ times_child f1.slots x + occurs [] x) (children_other f q child ks c.apart) a in
          let b : times_child f1.slots x + occurs (children_at f q) x ≡ times_child f.slots x + occurs ks x = times_with f q ks x q_lt in
          let d : occurs ks x + occurs (child ∷ []) x ≡ occurs (children_at f q) x + occurs (children_at f child) x = c.count x in omega arith;
      len = length-set f1.slots child spare_slot ∙ len1;
    }

pub spliced_layout : (f : Layout) (q child : ℕ) (ks : List ℕ) → IsLayout f → CanLift f q child ks → IsLayout (spliced f q child ks)
spliced_layout f q child ks h c =
    let g : Layout = spliced f q child ks in
    let d : Lifted f q child ks = lifted f q child ks c in
    let at : (x : ℕ) → times_child g.slots x + occurs (child ∷ []) x ≡ times_child f.slots x = d.times_are in
    let child_placed : 1 ≤ times_child f.slots child = (let k : occurs (children_at f q) child ≤ times_child f.slots child = children_times f q child in let i : 1 ≤ occurs (children_at f q) child = c.child_in in omega arith) in
    let not_root : f.root ≢ child = (λ e. let z : times_child f.slots f.root ≡ 0 = h.root_top in
    let z' : times_child f.slots child ≡ 0 = subst (λ y. times_child f.slots y ≡ 0) e z in omega arith) in
    let spare_apart : (y : ℕ) → 1 ≤ occurs f.spares y → y ≢ child =
    (λ y o e. used_by f child Q c.child_shape (subst (λ z. shape_at f z ≡ None) e (h.spare_free y o).0)) in
    let off : occurs f.spares child ≡ 0 = elim (cases_lt 0 (occurs f.spares child)) [ inl o ↦ absurd (spare_apart child o refl) | inr o ↦ omega arith ] in
    record {
      once = λ x. let a : times_child g.slots x + occurs (child ∷ []) x ≡ times_child f.slots x = at x in let b : times_child f.slots x ≤ 1 = h.once x in omega arith;
      used = λ x o.
          let a : times_child g.slots x + occurs (child ∷ []) x ≡ times_child f.slots x = at x in
          let ne : x ≢ child = (λ e. let o' : 1 ≤ times_child g.slots child = subst (λ y. 1 ≤ times_child g.slots y) e o in
          let a' : times_child g.slots child + occurs (child ∷ []) child ≡ times_child f.slots child = at child in
          let b : times_child f.slots child ≤ 1 = h.once child in omega (arith, occurs_here child [])) in
          subst (λ s. s ≢ None) (sym (d.shape_off x ne)) (h.used x (omega arith));
      children_fit = λ m. elim (cases_eq m child) [
        | inl e ↦ subst (λ z. MayHaveChildren (shape_at g z) (children_at g z)) (sym e)
            (subst (λ z. MayHaveChildren z (children_at g child)) (sym d.shape_child) d.children_child)
        | inr ne ↦ elim (cases_eq m q) [
          | inl e ↦ subst (λ z. MayHaveChildren (shape_at g z) (children_at g z)) (sym e)
              (subst (λ z. MayHaveChildren z (children_at g q)) (sym (d.shape_off q (λ z. c.apart (sym z)) ∙ c.q_shape)) tt)
          | inr nq ↦ subst (λ z. MayHaveChildren z (children_at g m)) (sym (d.shape_off m ne))
              (subst (λ z. MayHaveChildren (shape_at f m) z) (sym (d.children_off m nq ne)) (h.children_fit m))
        ]
      ];
      grounds = λ m. (lifted_grounded f.slots g.slots q child
          (λ x k o. elim (cases_eq x child) [
            | inl e ↦ absurd (let o' : 1 ≤ occurs (children_at g child) k = subst (λ z. 1 ≤ occurs (children_at g z) k) e o in
                let o2 : 1 ≤ occurs [] k = subst (λ z. 1 ≤ occurs z k) d.children_child o' in omega arith)
            | inr ne ↦ elim (cases_eq x q) [
              | inl e ↦
                  let o' : 1 ≤ occurs (children_at g q) k = subst (λ z. 1 ≤ occurs (children_at g z) k) e o in
                  let o2 : 1 ≤ occurs ks k = subst (λ z. 1 ≤ occurs z k) d.children_q o' in
                  let cn : occurs ks k + occurs (child ∷ []) k ≡ occurs (children_at f q) k + occurs (children_at f child) k = c.count k in
                  elim (cases_lt 0 (occurs (children_at f q) k)) [
                    | inl l ↦ inl (subst (λ z. 1 ≤ occurs (children_at f z) k) (sym e) l)
                    | inr l ↦ inr (subst (λ z. 1 ≤ occurs (children_at f z) child) (sym e) c.child_in, (let r : 1 ≤ occurs (children_at f child) k = omega arith in r))
                  ]
              | inr nq ↦ inl (subst (λ z. 1 ≤ occurs z k) (d.children_off x nq ne) o)
            ]
          ]) m (h.grounds m)).itself;
      root_used = subst (λ s. s ≢ None) (sym (d.shape_off f.root not_root)) h.root_used;
      root_top = let a : times_child g.slots f.root + occurs (child ∷ []) f.root ≡ times_child f.slots f.root = at f.root in let z : times_child f.slots f.root ≡ 0 = h.root_top in omega arith;
      leaves = λ a l. d.shape_off a (λ e. leaf_q (a + 1) (sym (h.leaves a l) ∙ subst (λ z. shape_at f z ≡ Some Q) (sym e) c.child_shape)) ∙ h.leaves a l;
      no_other_leaf = λ m a e. elim (cases_eq m child) [
        | inl u ↦ absurd (none_some (Leaf a) (sym d.shape_child ∙ subst (λ z. shape_at g z ≡ Some (Leaf a)) u e))
        | inr ne ↦ h.no_other_leaf m a (sym (d.shape_off m ne) ∙ e)
      ];
      some = h.some;
      few = h.few;
      size = d.len ∙ h.size;
      spare_once = λ y. elim (cases_eq y child) [
        | inl e ↦ subst (λ z. occurs (child ∷ f.spares) z ≤ 1) (sym e) (omega (arith, occurs_same child f.spares))
        | inr ne ↦ subst (λ k. k ≤ 1) (sym (occurs_other child y f.spares ne)) (h.spare_once y)
      ];
      spare_free = λ y o. elim (cases_eq y child) [
        | inl e ↦ (subst (λ z. shape_at g z ≡ None) (sym e) d.shape_child, subst (λ z. z < length g.slots) (sym e) (subst (λ m. child < m) (sym d.len) d.child_lt))
        | inr ne ↦ let k : 1 ≤ occurs f.spares y = subst (λ z. 1 ≤ z) (occurs_other child y f.spares ne) o in
            (d.shape_off y ne ∙ (h.spare_free y k).0, subst (λ m. y < m) (sym d.len) (h.spare_free y k).1)
      ];
      spare_all = λ y l e. elim (cases_eq y child) [
        | inl q1 ↦ subst (λ z. 1 ≤ occurs (child ∷ f.spares) z) (sym q1) (occurs_here child f.spares)
        | inr ne ↦ let k : 1 ≤ occurs f.spares y = h.spare_all y (subst (λ m. y < m) d.len l) (sym (d.shape_off y ne) ∙ e) in omega arith
      ];
    }
  where
    leaf_q : (a : ℕ) → Some (Leaf a) ≡ Some Q → ⊥
    leaf_q a e = cc

    none_some : (s : Shape) → None ≡ Some s → ⊥
    none_some s e = cc

pub stands_splice : (ls ls' : List Link) (hs hs2 : List Head) (root spare count columns : ℕ) (f : Layout) (q child : ℕ) (ks : List ℕ) →
    StandsFor ls hs root spare count columns f → CanLift f q child ks →
    length ls' ≡ length ls → length hs2 ≡ length hs → head hs2 q ≡ head_of Q ks → ((m : ℕ) → m ≢ q → head hs2 m ≡ head hs m) →
    ((x : ℕ) → occurs (children_at f q) x ≡ 0 → occurs (children_at f child) x ≡ 0 → x ≢ none → link ls' x ≡ link ls x) → link ls' child ≡ no_link →
    EachBetween (IsInRun ls' q) none ks none →
    StandsFor ls' (set hs2 child (spare_head spare)) root child (count + 1) columns (spliced f q child ks)
stands_splice ls ls' hs hs2 root spare count columns f q child ks h c len hlen at_q off_q off gone run =
    let g : Layout = spliced f q child ks in
    let d : Lifted f q child ks = lifted f q child ks c in
    let layout : IsLayout g = spliced_layout f q child ks h.layout c in
    let nh : Head = spare_head spare in
    let hs' : List Head = set hs2 child nh in
    let hlt : child < length hs2 = subst (λ m. child < m) (sym (hlen ∙ h.heads_few)) d.child_lt in
    let at_c : head hs' child ≡ nh = get_or-set_same hs2 child nh no_head hlt in
    let off_c : (m : ℕ) → m ≢ child → head hs' m ≡ head hs2 m = (λ m ne. get_or-set_other hs2 child m nh no_head ne) in
    let q_c : q ≢ child = (λ e. c.apart (sym e)) in
    let spare_apart : (y : ℕ) → 1 ≤ occurs f.spares y → (y ≢ child) × (y ≢ q) =
    (λ y o. (
      (λ e. used_by f child Q c.child_shape (subst (λ z. shape_at f z ≡ None) e (h.layout.spare_free y o).0)),
      (λ e. used_by f q Q c.q_shape (subst (λ z. shape_at f z ≡ None) e (h.layout.spare_free y o).0)),
    )) in
    record {
      layout = layout;
      links_few = len ∙ h.links_few ∙ sym d.len;
      heads_few = length-set hs2 child nh ∙ hlen ∙ h.heads_few ∙ sym d.len;
      root_is = h.root_is;
      columns_are = h.columns_are;
      shapes = λ m. elim (cases_eq m child) [
        | inl e ↦ subst (λ z. kind_shape (head hs' z).kind ≡ shape_at g z) (sym e) (ap (λ (z : Head). kind_shape z.kind) at_c ∙ sym d.shape_child)
        | inr ne ↦ elim (cases_eq m q) [
          | inl e ↦ subst (λ z. kind_shape (head hs' z).kind ≡ shape_at g z) (sym e) (ap (λ (z : Head). kind_shape z.kind) (off_c q q_c ∙ at_q) ∙ sym (d.shape_off q q_c ∙ c.q_shape))
          | inr nq ↦ ap (λ (z : Head). kind_shape z.kind) (off_c m ne ∙ off_q m nq) ∙ h.shapes m ∙ sym (d.shape_off m ne)
        ]
      ];
      heads_are = λ m t e. elim (cases_eq m child) [
        | inl u ↦ absurd (some_none t (sym (subst (λ z. shape_at g z ≡ Some t) u e) ∙ d.shape_child))
        | inr ne ↦ elim (cases_eq m q) [
          | inl u ↦ let te : Q ≡ t = some_inj Q t (sym (d.shape_off q q_c ∙ c.q_shape) ∙ subst (λ z. shape_at g z ≡ Some t) u e) in
              subst (λ z. head hs' z ≡ head_of t (children_at g z)) (sym u)
              (off_c q q_c ∙ at_q ∙ ap (λ z. head_of z ks) te ∙ ap (λ z. head_of t z) (sym d.children_q))
          | inr nq ↦ off_c m ne ∙ off_q m nq ∙ h.heads_are m t (sym (d.shape_off m ne) ∙ e) ∙ ap (λ z. head_of t z) (sym (d.children_off m nq ne))
        ]
      ];
      seats = λ m. elim (cases_eq m child) [
        | inl u ↦ subst (λ z. IsSeated ls' z (shape_at g z) (children_at g z)) (sym u) (subst (λ z. IsSeated ls' child z (children_at g child)) (sym d.shape_child) tt)
        | inr ne ↦ elim (cases_eq m q) [
          | inl u ↦ subst (λ z. IsSeated ls' z (shape_at g z) (children_at g z)) (sym u)
              (subst (λ z. IsSeated ls' q z (children_at g q)) (sym (d.shape_off q q_c ∙ c.q_shape)) (subst (λ z. EachBetween (IsInRun ls' q) none z none) (sym d.children_q) run))
          | inr nq ↦ subst (λ z. IsSeated ls' m z (children_at g m)) (sym (d.shape_off m ne))
              (subst (λ z. IsSeated ls' m (shape_at f m) z) (sym (d.children_off m nq ne))
              (seated_map ls ls' m (shape_at f m) (children_at f m)
              (λ x o.
              let b : times_child f.slots x ≤ 1 = h.layout.once x in
              let a1 : occurs (children_at f m) x + occurs (children_at f q) x ≤ times_child f.slots x = children_apart f m q x nq d.q_lt in
              let a2 : occurs (children_at f m) x + occurs (children_at f child) x ≤ times_child f.slots x = children_apart f m child x ne d.child_lt in
              let lt : x < length f.slots = in_range f x (h.layout.used x (omega arith)) in
              let fw : length f.slots ≤ NODE_BOUND = few_slots f h.layout in
              off x (omega arith) (omega arith) (λ e. omega arith))
              (h.seats m)))
        ]
      ];
      tops = λ x e. elim (cases_eq x child) [
        | inl u ↦ subst (λ z. link ls' z ≡ no_link) (sym u) gone
        | inr ne ↦
            let a : times_child g.slots x + occurs (child ∷ []) x ≡ times_child f.slots x = d.times_are x in
            let z : occurs (child ∷ []) x ≡ 0 = occurs_other child x [] ne in
            let t : times_child f.slots x ≡ 0 = omega arith in
            let k1 : occurs (children_at f q) x ≤ times_child f.slots x = children_times f q x in
            let k2 : occurs (children_at f child) x ≤ times_child f.slots x = children_times f child x in
            elim (cases_eq x none) [
              | inl u ↦ get_or_past ls' x no_link (let l : length ls' ≡ length f.slots = len ∙ h.links_few in let fw : length f.slots ≤ NODE_BOUND = few_slots f h.layout in omega arith)
              | inr nn ↦ off x (omega arith) (omega arith) nn ∙ h.tops x t
            ]
      ];
      spares_are = (
        refl,
        subst (λ z. AreSpare hs' z f.spares) (sym (ap (λ z. z.first) at_c))
            (spare_map hs hs' spare f.spares (λ y o. let k = spare_apart y o in ap (λ z. z.first) (off_c y k.0 ∙ off_q y k.1)) h.spares_are),
      );
      spares_count = let n : count ≡ length f.spares = h.spares_count in omega arith;
    }
