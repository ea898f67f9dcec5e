-- What is left to be read once a column is taken.
use Rattle.std.proofs.Common.{◌≡◌, ◌∙◌, ◌<◌, ◌≤◌, ◌⊎◌, ◌↔◌, ℕ, zero, suc, List, [], ◌∷◌, ◌++◌, reverse, length, get_or, remove, IsTrue, IsPermutation, refl, sym, ap, subst, inl, inr, arith, append_assoc}
use Rattle.std.proofs.lemmas.Bool.{both_ways}
use Rattle.std.proofs.lemmas.List.{reverse-append, length-reverse, append-nil, get_or_default}
use Rattle.std.proofs.lemmas.List.Sorted.{IsPermutation-refl, IsPermutation-cons, IsPermutation-reverse, IsPermutation-remove, length_permutation}
use Rattle.std.specs.List.{concat}
use Rattle.column_order.specs.Orders.{has, occurs}
use Rattle.column_order.proofs.Lists.{has_same, occurs-append, apart}
use Rattle.pq_tree.specs.Outline.{Outline, leaf, p_node, q_node, no_tree, leaves, leaves_of, IsFrontier, AreFrontiers}
use Rattle.pq_tree.specs.Proper.{forest, HaveArities, AreTrees}
use Rattle.pq_tree.specs.Equivalent.{IsEquivalent, AreEquivalent}
use Rattle.pq_tree.proofs.Equivalent.{moved_occurs}
use Rattle.pq_tree.proofs.Forests.{arities_back, forest_reverse, trees-forest}
use Rattle.pq_tree.proofs.Frontiers.{same_frontiers}
use Rattle.pq_tree.proofs.Shown.{leaves_of-append}
use Rattle.pq_tree.proofs.Turnings.{p_permuted, are_equivalent_refl}
use Rattle.order_list.specs.Reading.{Reads, CanBegin, tree_at}
use Rattle.order_list.proofs.Permuted.{taken_first}
use Rattle.order_list.proofs.Readings.{reads_append, reads_parted, read_lists, lists_read, read_turned, tree_head, reads_head, begin_leaf, arities_at, once_rest, same_place}

frontier_at : (ts : List Outline) (fs : List (List ℕ)) (k : ℕ) (g : List ℕ) → AreFrontiers (forest ts) fs → k < length fs → IsFrontier (tree_at ts k) (get_or fs k g)
frontier_at [] [] k g h l = absurd (omega arith)
frontier_at [] (f ∷ fs) k g h l = absurd h
frontier_at (t ∷ ts) [] k g h l = absurd h
frontier_at (t ∷ ts) (f ∷ fs) zero g h l = h.0
frontier_at (t ∷ ts) (f ∷ fs) (suc k) g h l = frontier_at ts fs k g h.1 (omega arith)

frontiers_remove : (ts : List Outline) (fs : List (List ℕ)) (k : ℕ) → AreFrontiers (forest ts) fs → k < length fs → AreFrontiers (forest (remove ts k)) (remove fs k)
frontiers_remove [] [] k h l = absurd (omega arith)
frontiers_remove [] (f ∷ fs) k h l = absurd h
frontiers_remove (t ∷ ts) [] k h l = absurd h
frontiers_remove (t ∷ ts) (f ∷ fs) zero h l = h.1
frontiers_remove (t ∷ ts) (f ∷ fs) (suc k) h l = (h.0, frontiers_remove ts fs k h.1 (omega arith))

frontiers_length : (ts : List Outline) (fs : List (List ℕ)) → AreFrontiers (forest ts) fs → length fs ≡ length ts
frontiers_length [] [] h = refl
frontiers_length [] (f ∷ fs) h = absurd h
frontiers_length (t ∷ ts) [] h = absurd h
frontiers_length (t ∷ ts) (f ∷ fs) h = ap suc (frontiers_length ts fs h.1)

-- f is a frontier of the tree at k, and then one of the P-node over the others
pub record IsSplit (ts : List Outline) (f : List ℕ) : Type 0 where
  pub k : ℕ
  pub inside : k < length ts
  pub front : List ℕ
  pub rest : List ℕ
  pub first : IsFrontier (tree_at ts k) front
  pub others : IsFrontier (p_node (forest (remove ts k))) rest
  pub whole : f ≡ front ++ rest

split_by : (ts : List Outline) (f : List ℕ) (fs gs : List (List ℕ)) → 1 ≤ length ts → AreFrontiers (forest ts) fs → IsPermutation fs gs → f ≡ concat gs → IsSplit ts f
split_by ts f fs [] n are moved e = absurd (omega (arith, frontiers_length ts fs are, length_permutation fs [] moved))
split_by ts f fs (g ∷ gs) n are moved e =
    let r = taken_first fs g gs moved in
    record {
      k = r.0;
      inside = omega (arith, frontiers_length ts fs are, r.1);
      front = g;
      rest = concat gs;
      first = subst (IsFrontier (tree_at ts r.0)) r.2 (frontier_at ts fs r.0 g are r.1);
      others = (remove fs r.0, gs, frontiers_remove ts fs r.0 are r.1, r.3, refl);
      whole = e;
    }

pub p_split : (ts : List Outline) (f : List ℕ) → 1 ≤ length ts → IsFrontier (p_node (forest ts)) f → IsSplit ts f
p_split ts f n h = split_by ts f h.0 h.1 n h.2 h.3 h.4

pub p_joined : (ts : List Outline) (k : ℕ) (g h : List ℕ) → k < length ts → IsFrontier (tree_at ts k) g → IsFrontier (p_node (forest (remove ts k))) h →
    IsFrontier (p_node (forest ts)) (g ++ h)
p_joined ts k g h l fr rest =
    let t : Outline = tree_at ts k in
    let m : IsPermutation ts (t ∷ remove ts k) = IsPermutation-remove ts k t l (sym (get_or_default ts k t (leaf 0) l)) in
    (same_frontiers (p_node (forest ts)) (p_node (forest (t ∷ remove ts k))) (p_permuted ts (t ∷ remove ts k) m) (g ++ h)).1
    (g ∷ rest.0, g ∷ rest.1, (fr, rest.2), IsPermutation-cons g rest.0 rest.1 rest.3, ap (λ x. g ++ x) rest.4)

-- a P-node: the tree that begins with the column is read, and then the others in any order
pub p_taken : (ts us : List Outline) (k x : ℕ) (f : List ℕ) → AreTrees (forest ts) → k < length ts → CanBegin (tree_at ts k) x →
    Reads (p_node (forest ts) ∷ us) (x ∷ f) → Reads (tree_at ts k ∷ p_node (forest (remove ts k)) ∷ us) (x ∷ f)
p_taken ts us k x f sound l b r =
    let s : IsSplit ts r.0 = p_split ts r.0 (omega arith) r.2 in
    let e : s.front ++ (s.rest ++ r.1) ≡ x ∷ f = sym (append_assoc s.front s.rest r.1) ∙ ap (λ g. g ++ r.1) (sym s.whole) ∙ sym r.4 in
    let head = tree_head (tree_at ts s.k) s.front (s.rest ++ r.1) f x (arities_at ts s.k sound.0 s.inside) s.first e in
    let there : CanBegin (tree_at ts s.k) x = (head.0, subst (IsFrontier (tree_at ts s.k)) head.1 s.first) in
    let same : s.k ≡ k = same_place ts s.k k x sound.1 s.inside l (begin_leaf (tree_at ts s.k) x there) (begin_leaf (tree_at ts k) x b) in
    subst (λ j. Reads (tree_at ts j ∷ p_node (forest (remove ts j)) ∷ us) (x ∷ f)) same (s.front, s.rest ++ r.1, s.first, (s.rest, r.1, s.others, r.3, refl), sym e)

pub p_untaken : (ts us : List Outline) (k : ℕ) (f : List ℕ) → k < length ts →
    Reads (tree_at ts k ∷ p_node (forest (remove ts k)) ∷ us) f → Reads (p_node (forest ts) ∷ us) f
p_untaken ts us k f l r =
    let s = r.3 in
    (r.0 ++ s.0, s.1, p_joined ts k r.0 s.0 l r.2 s.2, s.3, r.4 ∙ ap (λ z. r.0 ++ z) s.4 ∙ sym (append_assoc r.0 s.0 s.1))

-- a P-node over nothing, and over one tree
none_by : (g : List ℕ) (fs gs : List (List ℕ)) → AreFrontiers no_tree fs → IsPermutation fs gs → g ≡ concat gs → g ≡ []
none_by g [] [] are moved e = e
none_by g [] (h ∷ gs) are moved e = absurd (omega (arith, length_permutation [] (h ∷ gs) moved))
none_by g (f ∷ fs) gs are moved e = absurd are

no_frontier : (g : List ℕ) → IsFrontier (p_node no_tree) g → g ≡ []
no_frontier g h = none_by g h.0 h.1 h.2 h.3 h.4

pub none_taken : (us : List Outline) (f : List ℕ) → Reads (p_node no_tree ∷ us) f → Reads us f
none_taken us f r = subst (Reads us) (sym (r.4 ∙ ap (λ g. g ++ r.1) (no_frontier r.0 r.2))) r.3

pub none_untaken : (us : List Outline) (f : List ℕ) → Reads us f → Reads (p_node no_tree ∷ us) f
none_untaken us f r = ([], f, ([], [], tt, IsPermutation-refl [], refl), r, refl)

pub one_taken : (t : Outline) (us : List Outline) (f : List ℕ) → Reads (p_node (forest (t ∷ [])) ∷ us) f → Reads (t ∷ us) f
one_taken t us f r =
    let s : IsSplit (t ∷ []) r.0 = p_split (t ∷ []) r.0 (omega arith) r.2 in
    let z : s.k ≡ 0 = omega (arith, s.inside) in
    let first : IsFrontier t s.front = subst (λ j. IsFrontier (tree_at (t ∷ []) j) s.front) z s.first in
    let none : s.rest ≡ [] = no_frontier s.rest (subst (λ j. IsFrontier (p_node (forest (remove (t ∷ []) j))) s.rest) z s.others) in
    (s.front, r.1, first, r.3, r.4 ∙ ap (λ g. g ++ r.1) (s.whole ∙ ap (λ g. s.front ++ g) none ∙ append-nil s.front))

pub one_untaken : (t : Outline) (us : List Outline) (f : List ℕ) → Reads (t ∷ us) f → Reads (p_node (forest (t ∷ [])) ∷ us) f
one_untaken t us f r = p_untaken (t ∷ []) us 0 f (omega arith) (r.0, r.1, r.2, none_untaken us r.1 r.3, r.4)

-- a leaf
pub leaf_taken : (a : ℕ) (us : List Outline) (x : ℕ) (f : List ℕ) → Reads (leaf a ∷ us) (x ∷ f) → Reads us f
leaf_taken a us x f r =
    let e : x ∷ f ≡ a ∷ r.1 = r.4 ∙ ap (λ g. g ++ r.1) r.2 in
    let same : r.1 ≡ f = cc in
    subst (Reads us) same r.3

pub leaf_untaken : (a : ℕ) (us : List Outline) (x : ℕ) (f : List ℕ) → CanBegin (leaf a) x → Reads us f → Reads (leaf a ∷ us) (x ∷ f)
leaf_untaken a us x f b r =
    let e : x ∷ b.0 ≡ a ∷ [] = b.1 in
    let same : x ∷ f ≡ a ∷ f = cc in
    (a ∷ [], f, refl, r, same)

-- a Q-node: its children are read from the end at which the column begins
pub reverse_arities : (ts : List Outline) → HaveArities (forest ts) → HaveArities (forest (reverse ts))
reverse_arities ts h = subst HaveArities (sym (forest_reverse ts)) (arities_back (forest ts) h)

pub reverse_sound : (ts : List Outline) → AreTrees (forest ts) → AreTrees (forest (reverse ts))
reverse_sound ts h = (reverse_arities ts h.0, λ a. omega (arith, moved_occurs ts (reverse ts) a (IsPermutation-reverse ts), h.1 a))

other_way : (t : Outline) (rest : List Outline) (g h f : List ℕ) (x : ℕ) → AreTrees (forest (t ∷ rest)) → 1 ≤ length rest → IsTrue (has (leaves t) x) →
    Reads (reverse (t ∷ rest)) g → g ++ h ≡ x ∷ f → ⊥
other_way t rest g h f x sound n here r e =
    let p = reads_parted (reverse rest) (t ∷ []) g (subst (λ z. Reads z g) (reverse-append (t ∷ []) rest) r) in
    let whole : p.0 ++ (p.1 ++ h) ≡ x ∷ f = sym (append_assoc p.0 p.1 h) ∙ ap (λ z. z ++ h) (sym p.4) ∙ e in
    let behind : IsTrue (has (leaves_of (forest (reverse rest))) x) =
    reads_head (reverse rest) p.0 (p.1 ++ h) f x (reverse_arities rest sound.0.1) (omega (arith, length-reverse {A = Outline})) p.2 whole in
    let there : IsTrue (has (leaves_of (forest rest)) x) =
    has_same (leaves_of (forest rest)) (leaves_of (forest (reverse rest))) x (sym (moved_occurs rest (reverse rest) x (IsPermutation-reverse rest))) ∙ behind in
    both_ways (has (leaves_of (forest rest)) x) (apart (leaves t) (leaves_of (forest rest)) x (sound.1 x) here) there

pub q_ways : (ts : List Outline) (g : List ℕ) → IsFrontier (q_node (forest ts)) g → Reads ts g ⊎ Reads (reverse ts) g
q_ways ts g h =
    elim h.2 [
      | inl e ↦ inl (subst (Reads ts) (sym e) (read_lists ts h.0 h.1))
      | inr e ↦ inr (subst (Reads (reverse ts)) (sym e) (read_turned ts h.0 h.1))
    ]

pub q_taken : (t : Outline) (rest us : List Outline) (x : ℕ) (f : List ℕ) → AreTrees (forest (t ∷ rest)) → 1 ≤ length rest → CanBegin t x →
    Reads (q_node (forest (t ∷ rest)) ∷ us) (x ∷ f) → Reads ((t ∷ rest) ++ us) (x ∷ f)
q_taken t rest us x f sound n b r =
    elim (q_ways (t ∷ rest) r.0 r.2) [
      | inl read ↦ subst (Reads ((t ∷ rest) ++ us)) (sym r.4) (reads_append (t ∷ rest) us r.0 r.1 read r.3)
      | inr read ↦ absurd (other_way t rest r.0 r.1 f x sound n (begin_leaf t x b) read (sym r.4))
    ]

pub q_untaken : (ts us : List Outline) (f : List ℕ) → Reads (ts ++ us) f → Reads (q_node (forest ts) ∷ us) f
q_untaken ts us f r =
    let p = reads_parted ts us f r in
    let l = lists_read ts p.0 p.2 in
    (p.0, p.1, (l.0, l.1, inl l.2), p.3, p.4)

pub q_turned : (ts : List Outline) (g : List ℕ) → IsFrontier (q_node (forest ts)) g ↔ IsFrontier (q_node (forest (reverse ts))) g
q_turned ts g =
    let same : IsEquivalent (q_node (forest ts)) (q_node (forest (reverse ts))) =
    (ts, subst (AreEquivalent (forest ts)) (trees-forest ts) (are_equivalent_refl (forest ts)), inr refl) in
    same_frontiers (q_node (forest ts)) (q_node (forest (reverse ts))) same g

pub q_turned_taken : (ts : List Outline) (t : Outline) (rest us : List Outline) (x : ℕ) (f : List ℕ) → reverse ts ≡ t ∷ rest → AreTrees (forest ts) → 1 ≤ length rest →
    CanBegin t x → Reads (q_node (forest ts) ∷ us) (x ∷ f) → Reads (reverse ts ++ us) (x ∷ f)
q_turned_taken ts t rest us x f e sound n b r =
    let turned : Reads (q_node (forest (reverse ts)) ∷ us) (x ∷ f) = (r.0, r.1, (q_turned ts r.0).0 r.2, r.3, r.4) in
    let named : Reads (q_node (forest (t ∷ rest)) ∷ us) (x ∷ f) = subst (λ z. Reads (q_node (forest z) ∷ us) (x ∷ f)) e turned in
    let kept : AreTrees (forest (t ∷ rest)) = subst (λ z. AreTrees (forest z)) e (reverse_sound ts sound) in
    subst (λ z. Reads (z ++ us) (x ∷ f)) (sym e) (q_taken t rest us x f kept n b named)

pub q_turned_untaken : (ts us : List Outline) (f : List ℕ) → Reads (reverse ts ++ us) f → Reads (q_node (forest ts) ∷ us) f
q_turned_untaken ts us f r =
    let s = q_untaken (reverse ts) us f r in
    (s.0, s.1, (q_turned ts s.0).1 s.2, s.3, s.4)

-- the trees of a walk are trees of which no two share a column
pub sound_left : (ts us : List Outline) → AreTrees (forest (ts ++ us)) → AreTrees (forest ts)
sound_left ts us h = (arities_left ts us h.0, λ a. omega (arith, h.1 a, ap (λ l. occurs l a) (leaves_of-append ts us), occurs-append (leaves_of (forest ts)) (leaves_of (forest us)) a))
  where
    arities_left : (ts us : List Outline) → HaveArities (forest (ts ++ us)) → HaveArities (forest ts)
    arities_left [] us h = tt
    arities_left (t ∷ ts) us h = (h.0, arities_left ts us h.1)

pub sound_right : (ts us : List Outline) → AreTrees (forest (ts ++ us)) → AreTrees (forest us)
sound_right [] us h = h
sound_right (t ∷ ts) us h = sound_right ts us (h.0.1, once_rest t (ts ++ us) h.1)

arities_taken : (ts us : List Outline) (k : ℕ) → HaveArities (forest (ts ++ us)) → k < length ts → HaveArities (forest (tree_at ts k ∷ (remove ts k ++ us)))
arities_taken [] us k h l = absurd (omega arith)
arities_taken (t ∷ ts) us zero h l = h
arities_taken (t ∷ ts) us (suc k) h l =
    let r = arities_taken ts us k h.1 (omega arith) in
    (r.0, (h.0, r.1))

occurs_taken : (ts us : List Outline) (k a : ℕ) → k < length ts → occurs (leaves_of (forest (tree_at ts k ∷ (remove ts k ++ us)))) a ≡ occurs (leaves_of (forest (ts ++ us))) a
occurs_taken [] us k a l = absurd (omega arith)
occurs_taken (t ∷ ts) us zero a l = refl
occurs_taken (t ∷ ts) us (suc k) a l =
    omega (
      arith,
      occurs_taken ts us k a (omega arith),
      occurs-append (leaves (tree_at ts k)) (leaves t ++ leaves_of (forest (remove ts k ++ us))) a,
      occurs-append (leaves (tree_at ts k)) (leaves_of (forest (remove ts k ++ us))) a,
      occurs-append (leaves t) (leaves_of (forest (remove ts k ++ us))) a,
      occurs-append (leaves t) (leaves_of (forest (ts ++ us))) a,
    )

pub sound_taken : (ts us : List Outline) (k : ℕ) → AreTrees (forest (ts ++ us)) → k < length ts → AreTrees (forest (tree_at ts k ∷ (remove ts k ++ us)))
sound_taken ts us k h l = (arities_taken ts us k h.0 l, λ a. omega (arith, h.1 a, occurs_taken ts us k a l))

arities_joined : (ts us : List Outline) → HaveArities (forest ts) → HaveArities (forest us) → HaveArities (forest (ts ++ us))
arities_joined [] us h k = k
arities_joined (t ∷ ts) us h k = (h.0, arities_joined ts us h.1 k)

-- the children of a node in its place, forwards and backwards
sound_children : (ts us : List Outline) → HaveArities (forest ts) → HaveArities (forest us) → ((a : ℕ) → occurs (leaves_of (forest ts) ++ leaves_of (forest us)) a ≤ 1) → AreTrees (forest (ts ++ us))
sound_children ts us h k once = (arities_joined ts us h k, λ a. omega (arith, once a, ap (λ l. occurs l a) (leaves_of-append ts us)))

pub sound_p : (ts us : List Outline) → AreTrees (forest (p_node (forest ts) ∷ us)) → AreTrees (forest (ts ++ us))
sound_p ts us h = sound_children ts us h.0.0.1 h.0.1 h.1

pub sound_q : (ts us : List Outline) → AreTrees (forest (q_node (forest ts) ∷ us)) → AreTrees (forest (ts ++ us))
sound_q ts us h = sound_children ts us h.0.0.1 h.0.1 h.1

pub sound_turned : (ts us : List Outline) → AreTrees (forest (ts ++ us)) → AreTrees (forest (reverse ts ++ us))
sound_turned ts us h = (
  arities_joined (reverse ts) us (reverse_arities ts (sound_left ts us h).0) (sound_right ts us h).0,
  λ a. omega (
    arith,
    h.1 a,
    ap (λ l. occurs l a) (leaves_of-append ts us),
    ap (λ l. occurs l a) (leaves_of-append (reverse ts) us),
    occurs-append (leaves_of (forest ts)) (leaves_of (forest us)) a,
    occurs-append (leaves_of (forest (reverse ts))) (leaves_of (forest us)) a,
    moved_occurs ts (reverse ts) a (IsPermutation-reverse ts),
  ),
)

-- a part of the trees, in other words
pub sound_same : (ts us : List Outline) → ts ≡ us → AreTrees (forest ts) → AreTrees (forest us)
sound_same ts us e h = subst (λ vs. AreTrees (forest vs)) e h
