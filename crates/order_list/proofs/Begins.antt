-- The columns with which trees can begin, and the least of them.
use Rattle.std.proofs.Common.{◌≡◌, ◌∙◌, ◌+◌, ◌-◌, ◌<◌, ◌≤◌, ◌⊎◌, ℕ, zero, suc, min, true, false, List, [], ◌∷◌, ◌++◌, map, reverse, length, get_or, remove, take, nat_le, if◌then◌else◌, Option, Some, None, Bor, Bool, IsTrue, ◌↔◌, eqb, refl, sym, ap, subst, inl, inr, arith, append_assoc}
use Rattle.std.proofs.lemmas.Bool.{cases_lt, leb-true, leb-false, both_ways}
use Rattle.std.proofs.Common.{eqb-true, eq-eqb}
use Rattle.std.specs.Option.{option_eq}
use Rattle.std.proofs.lemmas.List.{reverse-append, length-reverse}
use Rattle.pq_tree.specs.Outline.{Outline, leaf, p_node, q_node, leaves, leaves_of, IsFrontier}
use Rattle.pq_tree.specs.Proper.{outline_of, forest, HasArities, HaveArities}
use Rattle.pq_tree.specs.declared.Tree.{Tree}
use Rattle.column_order.specs.Orders.{has}
use Rattle.column_order.proofs.Lists.{occurs_from_has}
use Rattle.pq_tree.proofs.Forests.{some_leaf}
use Rattle.pq_tree.proofs.Frontiers.{leaves_are_frontier, frontier_occurs}
use Rattle.order_list.specs.Reading.{Reads, CanBegin, tree_at}
use Rattle.order_list.specs.Coming.{outlines}
use Rattle.order_list.specs.Next.{IsLeastFrom, OneBegins, IsNextAmong, lower_of, nearer_of}
use Rattle.order_list.specs.declared.search.Next.{Next}
use Rattle.order_list.proofs.Readings.{lists_read, tree_head, arities_at}
use Rattle.order_list.proofs.Taking.{IsSplit, p_split, p_joined, q_ways, q_turned}

-- a leaf
pub begins_leaf : (a y : ℕ) → CanBegin (leaf a) y → y ≡ a
begins_leaf a y b =
    let e : y ∷ b.0 ≡ a ∷ [] = b.1 in
    (cc)

pub least_leaf : (a from : ℕ) → from ≤ a → IsLeastFrom (CanBegin (leaf a)) from (Some a)
least_leaf a from h = (([], refl), h, λ y b l. omega (arith, begins_leaf a y b))

pub no_leaf : (a from : ℕ) → a < from → IsLeastFrom (CanBegin (leaf a)) from None
no_leaf a from h = λ y b. omega (arith, begins_leaf a y b)

-- the same set, and the union of two sets
pub least_same : (P Q : ℕ → Type 0) (from : ℕ) (r : Option ℕ) → ((y : ℕ) → P y → Q y) → ((y : ℕ) → Q y → P y) → IsLeastFrom P from r → IsLeastFrom Q from r
least_same P Q from None there back h = λ y q. h y (back y q)
least_same P Q from (Some x) there back h = (there x h.0, h.1, λ y q l. h.2 y (back y q) l)

pub least_either : (P Q : ℕ → Type 0) (from : ℕ) (a b : Option ℕ) → IsLeastFrom P from a → IsLeastFrom Q from b → IsLeastFrom (λ y. P y ⊎ Q y) from (lower_of a b)
least_either P Q from None None h k = λ y e. elim e [ inl p ↦ h y p | inr q ↦ k y q ]
least_either P Q from None (Some z) h k =
    (inr k.0, k.1, λ y e l. elim e [ inl p ↦ (let low : y < from = h y p in absurd (omega arith)) | inr q ↦ k.2 y q l ])
least_either P Q from (Some x) None h k =
    (inl h.0, h.1, λ y e l. elim e [ inl p ↦ h.2 y p l | inr q ↦ (let low : y < from = k y q in absurd (omega arith)) ])
least_either P Q from (Some x) (Some z) h k =
    elim (cases_lt z x) [
      | inl l ↦
          let e : z ≡ min x z = omega arith in
          subst (λ m. IsLeastFrom (λ y. P y ⊎ Q y) from (Some m)) e
          (inr k.0, k.1, λ y u g. elim u [ inl p ↦ (let low : x ≤ y = h.2 y p g in omega arith) | inr q ↦ k.2 y q g ])
      | inr l ↦
          let e : x ≡ min x z = omega arith in
          subst (λ m. IsLeastFrom (λ y. P y ⊎ Q y) from (Some m)) e
          (inl h.0, h.1, λ y u g. elim u [ inl p ↦ h.2 y p g | inr q ↦ (let low : z ≤ y = k.2 y q g in omega arith) ])
    ]

-- one tree more
pub one_more : (ts : List Outline) (i y : ℕ) → OneBegins ts (i + 1) y → OneBegins ts i y ⊎ CanBegin (tree_at ts i) y
one_more ts i y (k, l, b) =
    elim (cases_lt k i) [
      | inl m ↦ inl (k, m, b)
      | inr m ↦ inr (let e : k ≡ i = omega arith in subst (λ j. CanBegin (tree_at ts j) y) e b)
    ]

one_of_more : (ts : List Outline) (i y : ℕ) → OneBegins ts i y ⊎ CanBegin (tree_at ts i) y → OneBegins ts (i + 1) y
one_of_more ts i y h = elim h [ inl r ↦ (r.0, (let l : r.0 < i = r.1 in omega arith), r.2) | inr b ↦ (i, omega arith, b) ]

pub least_none : (ts : List Outline) (from : ℕ) → IsLeastFrom (OneBegins ts 0) from None
least_none ts from = λ y r. (let l : r.0 < 0 = r.1 in absurd (omega arith))

pub least_more : (ts : List Outline) (i from : ℕ) (a b : Option ℕ) → IsLeastFrom (OneBegins ts i) from a → IsLeastFrom (CanBegin (tree_at ts i)) from b →
    IsLeastFrom (OneBegins ts (i + 1)) from (lower_of a b)
least_more ts i from a b h k =
    least_same (λ y. OneBegins ts i y ⊎ CanBegin (tree_at ts i) y) (OneBegins ts (i + 1)) from (lower_of a b)
    (one_of_more ts i) (one_more ts i) (least_either (OneBegins ts i) (CanBegin (tree_at ts i)) from a b h k)

-- the same with the place of the tree
pub next_none : (ts : List Outline) (from : ℕ) → IsNextAmong ts 0 from None
next_none ts from = least_none ts from

next_kept : (ts : List Outline) (i from : ℕ) (next : Next) → IsNextAmong ts i from (Some next) → ((y : ℕ) → CanBegin (tree_at ts i) y → from ≤ y → next.column ≤ y) →
    IsNextAmong ts (i + 1) from (Some next)
next_kept ts i from next h k =
    (omega (arith, h.0), h.1, h.2, λ y r g. elim (one_more ts i y r) [ inl s ↦ h.3 y s g | inr b ↦ k y b g ])

next_new : (ts : List Outline) (i from x : ℕ) → IsLeastFrom (CanBegin (tree_at ts i)) from (Some x) → ((y : ℕ) → OneBegins ts i y → from ≤ y → x ≤ y) →
    IsNextAmong ts (i + 1) from (Some (record { place = i; column = x }))
next_new ts i from x h k =
    (omega arith, h.0, h.1, λ y r g. elim (one_more ts i y r) [ inl s ↦ k y s g | inr b ↦ h.2 y b g ])

pub next_more : (ts : List Outline) (i from : ℕ) (next : Option Next) (r : Option ℕ) → IsNextAmong ts i from next → IsLeastFrom (CanBegin (tree_at ts i)) from r →
    IsNextAmong ts (i + 1) from (nearer_of next i r)
next_more ts i from None None h k = λ y r. elim (one_more ts i y r) [ inl s ↦ h y s | inr b ↦ k y b ]
next_more ts i from (Some next) None h k = next_kept ts i from next h (λ y b g. (let low : y < from = k y b in absurd (omega arith)))
next_more ts i from None (Some x) h k = next_new ts i from x k (λ y s g. (let low : y < from = h y s in absurd (omega arith)))
next_more ts i from (Some next) (Some x) h k =
    (elim (nat_le next.column x) as (λ v. nat_le next.column x ≡ v → IsNextAmong ts (i + 1) from (if v then Some next else Some (record { place = i; column = x }))) [
      | true ↦ λ e. next_kept ts i from next h (λ y b g. (let low : x ≤ y = k.2 y b g in omega (arith, leb-true next.column x e)))
      | false ↦ λ e. next_new ts i from x k (λ y s g. (let low : next.column ≤ y = h.3 y s g in omega (arith, leb-false next.column x e)))
    ]) refl

-- the outline of a tree at a place
pub at_place : {A : Type 0} (F : A → Outline) (ts : List A) (i : ℕ) (t : A) → i < length ts → t ≡ get_or ts i t → tree_at (map F ts) i ≡ F t
at_place F [] i t l e = absurd (omega arith)
at_place F (u ∷ ts) zero t l e = ap F (sym e)
at_place F (u ∷ ts) (suc i) t l e = at_place F ts i t (omega arith) e

pub outline_at : (ts : List Tree) (i : ℕ) (t : Tree) → i < length ts → t ≡ get_or ts i t → tree_at (map outline_of ts) i ≡ outline_of t
outline_at ts i t l e = at_place outline_of ts i t l e

pub lent_at : (ts : List (Bor Tree)) (i : ℕ) (t : Bor Tree) → i < length ts → t ≡ get_or ts i t → tree_at (outlines ts) i ≡ outline_of t.now
lent_at ts i t l e = at_place (λ (u : Bor Tree). outline_of u.now) ts i t l e

-- a P-node
pub p_begins : (ts : List Outline) (y : ℕ) → 1 ≤ length ts → HaveArities (forest ts) → CanBegin (p_node (forest ts)) y → OneBegins ts (length ts) y
p_begins ts y n h b =
    let s : IsSplit ts (y ∷ b.0) = p_split ts (y ∷ b.0) n b.1 in
    let head = tree_head (tree_at ts s.k) s.front s.rest b.0 y (arities_at ts s.k h s.inside) s.first (sym s.whole) in
    (s.k, s.inside, (head.0, subst (IsFrontier (tree_at ts s.k)) head.1 s.first))

pub begins_p : (ts : List Outline) (y : ℕ) → OneBegins ts (length ts) y → CanBegin (p_node (forest ts)) y
begins_p ts y r =
    let others = p_node (forest (remove ts r.0)) in
    let b : CanBegin (tree_at ts r.0) y = r.2 in
    (b.0 ++ leaves others, p_joined ts r.0 (y ∷ b.0) (leaves others) r.1 b.1 (leaves_are_frontier others))

pub least_p : (ts : List Outline) (from : ℕ) (r : Option ℕ) → 1 ≤ length ts → HaveArities (forest ts) → IsLeastFrom (OneBegins ts (length ts)) from r → IsLeastFrom (CanBegin (p_node (forest ts))) from r
least_p ts from r n h k = least_same (OneBegins ts (length ts)) (CanBegin (p_node (forest ts))) from r (begins_p ts) (λ y. p_begins ts y n h) k

-- a list of trees, and its last tree
last_split : (t : Outline) (ts : List Outline) → t ∷ ts ≡ take (length ts) (t ∷ ts) ++ tree_at (t ∷ ts) (length ts) ∷ []
last_split t [] = refl
last_split t (u ∷ us) = ap (λ x. t ∷ x) (last_split u us)

pub reverse_last : (ts : List Outline) → 1 ≤ length ts → reverse ts ≡ tree_at ts (length ts - 1) ∷ reverse (take (length ts - 1) ts)
reverse_last [] n = absurd (omega arith)
reverse_last (t ∷ ts) n =
    let e : length ts ≡ length (t ∷ ts) - 1 = omega arith in
    subst (λ k. reverse (t ∷ ts) ≡ tree_at (t ∷ ts) k ∷ reverse (take k (t ∷ ts))) e
    (ap reverse (last_split t ts) ∙ reverse-append (take (length ts) (t ∷ ts)) (tree_at (t ∷ ts) (length ts) ∷ []))

-- a Q-node
reads_some : (ts : List Outline) → Reads ts (leaves_of (forest ts))
reads_some [] = refl
reads_some (t ∷ ts) = (leaves t, leaves_of (forest ts), leaves_are_frontier t, reads_some ts, refl)

reads_begin : (ts : List Outline) (y : ℕ) (f : List ℕ) → 1 ≤ length ts → HaveArities (forest ts) → Reads ts (y ∷ f) → CanBegin (tree_at ts 0) y
reads_begin [] y f n h r = absurd (omega arith)
reads_begin (t ∷ ts) y f n h r =
    let head = tree_head t r.0 r.1 f y h.0 r.2 (sym r.4) in
    (head.0, subst (IsFrontier t) head.1 r.2)

begins_first : (ts : List Outline) (y : ℕ) → 1 ≤ length ts → CanBegin (tree_at ts 0) y → CanBegin (q_node (forest ts)) y
begins_first [] y n b = absurd (omega arith)
begins_first (t ∷ ts) y n b =
    let l = lists_read (t ∷ ts) (y ∷ (b.0 ++ leaves_of (forest ts))) (y ∷ b.0, leaves_of (forest ts), b.1, reads_some ts, refl) in
    (b.0 ++ leaves_of (forest ts), (l.0, l.1, inl l.2))

last_first : (ts : List Outline) → 1 ≤ length ts → tree_at (reverse ts) 0 ≡ tree_at ts (length ts - 1)
last_first ts n = ap (λ us. tree_at us 0) (reverse_last ts n)

pub q_begins : (ts : List Outline) (y : ℕ) → 1 ≤ length ts → HaveArities (forest ts) → HaveArities (forest (reverse ts)) → CanBegin (q_node (forest ts)) y →
    CanBegin (tree_at ts 0) y ⊎ CanBegin (tree_at ts (length ts - 1)) y
q_begins ts y n h k b =
    elim (q_ways ts (y ∷ b.0) b.1) [
      | inl r ↦ inl (reads_begin ts y b.0 n h r)
      | inr r ↦ inr (subst (λ t. CanBegin t y) (last_first ts n) (reads_begin (reverse ts) y b.0 (omega (arith, n, length-reverse {A = Outline})) k r))
    ]

pub begins_q : (ts : List Outline) (y : ℕ) → 1 ≤ length ts → CanBegin (tree_at ts 0) y ⊎ CanBegin (tree_at ts (length ts - 1)) y → CanBegin (q_node (forest ts)) y
begins_q ts y n h =
    elim h [
      | inl b ↦ begins_first ts y n b
      | inr b ↦
          let r = begins_first (reverse ts) y (omega (arith, n, length-reverse {A = Outline})) (subst (λ t. CanBegin t y) (sym (last_first ts n)) b) in
          (r.0, (q_turned ts (y ∷ r.0)).1 r.1)
    ]

pub least_q : (ts : List Outline) (from : ℕ) (a b : Option ℕ) → 1 ≤ length ts → HaveArities (forest ts) → HaveArities (forest (reverse ts)) →
    IsLeastFrom (CanBegin (tree_at ts 0)) from a → IsLeastFrom (CanBegin (tree_at ts (length ts - 1))) from b → IsLeastFrom (CanBegin (q_node (forest ts))) from (lower_of a b)
least_q ts from a b n h k l m =
    let P : ℕ → Type 0 = CanBegin (tree_at ts 0) in
    let Q : ℕ → Type 0 = CanBegin (tree_at ts (length ts - 1)) in
    least_same (λ y. P y ⊎ Q y) (CanBegin (q_node (forest ts))) from (lower_of a b) (λ y. begins_q ts y n) (λ y. q_begins ts y n h k) (least_either P Q from a b l m)

-- a tree begins with a column where that is the least not below it
pub begins_says : (P : ℕ → Type 0) (from x : ℕ) (r : Option ℕ) (b : Bool) → from ≡ x → b ≡ option_eq eqb r (Some x) → IsLeastFrom P from r → IsTrue b ↔ P x
begins_says P from x None b e s h = (λ t. absurd (both_ways b s t), λ p. (let low : x < from = h x p in absurd (omega arith)))
begins_says P from x (Some y) b e s h = (
  λ t. subst P (eqb-true y x (sym s ∙ t)) h.0,
  λ p.
      let low : y ≤ x = h.2 x p (omega arith) in
      s ∙ eq-eqb y x (omega (arith, h.1)),
)

-- what is read from a P-node and then from other trees begins with a column of the P-node
some_column : (t : Outline) → HasArities t → IsFrontier t [] → ⊥
some_column t h fr =
    let some : (a : ℕ) × IsTrue (has (leaves t) a) = some_leaf t h in
    absurd (omega (arith, frontier_occurs t [] some.0 fr, occurs_from_has (leaves t) some.0 some.1))

nothing_left : (f g : List ℕ) → [] ≡ f ++ g → f ≡ []
nothing_left [] g e = refl
nothing_left (x ∷ f) g e = absurd (cc)

pub p_some : (ts us : List Outline) → 1 ≤ length ts → HaveArities (forest ts) → Reads (p_node (forest ts) ∷ us) [] → ⊥
p_some ts us n h r =
    let s : IsSplit ts r.0 = p_split ts r.0 n r.2 in
    let none : s.front ≡ [] = nothing_left s.front s.rest (sym (nothing_left r.0 r.1 r.4) ∙ s.whole) in
    some_column (tree_at ts s.k) (arities_at ts s.k h s.inside) (subst (IsFrontier (tree_at ts s.k)) none s.first)

pub p_reads : (ts us : List Outline) (y : ℕ) (f : List ℕ) → 1 ≤ length ts → HaveArities (forest ts) → Reads (p_node (forest ts) ∷ us) (y ∷ f) → OneBegins ts (length ts) y
p_reads ts us y f n h r =
    let s : IsSplit ts r.0 = p_split ts r.0 n r.2 in
    let e : s.front ++ (s.rest ++ r.1) ≡ y ∷ f = sym (append_assoc s.front s.rest r.1) ∙ ap (λ g. g ++ r.1) (sym s.whole) ∙ sym r.4 in
    let head = tree_head (tree_at ts s.k) s.front (s.rest ++ r.1) f y (arities_at ts s.k h s.inside) s.first e in
    (s.k, s.inside, (head.0, subst (IsFrontier (tree_at ts s.k)) head.1 s.first))
