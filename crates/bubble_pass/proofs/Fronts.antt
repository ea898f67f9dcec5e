-- Orders of leaves: blocks, and which leaves stand first and last in them.
use Rattle.std.proofs.Common.{◌≡◌, ◌≢◌, inl, inr, ℕ, ◌≤◌, List, [], ◌∷◌, ◌++◌, length, reverse, Some, refl, sym, ap, subst, ◌∙◌, arith}
use Rattle.std.proofs.lemmas.Bool.{cases_eq, cases_lt}
use Rattle.std.proofs.lemmas.List.{append_assoc, append-nil, length-append, reverse-append, reverse-reverse}
use Rattle.arena_model.specs.declared.Shape.TheVariants.{Leaf, P, Q}
use Rattle.column_order.specs.Orders.{occurs}
use Rattle.arena_model.specs.Layout.{Layout, Slot, shape_at, children_at, times_child, IsAtOrAbove, here, down, IsLayout, MayHaveChildren}
use Rattle.arena_model.specs.ChildLists.{head_or, last_or}
use Rattle.column_order.proofs.Lists.{occurs-append}
use Rattle.arena_model.proofs.Lists.{occurs_here, occurs_last, occurs_other, occurs_same, only_one, last_or-append}
use Rattle.arena_model.proofs.Slots.{children_times, child_at}
use Rattle.arena_model.proofs.Paths.{above_step, one_parent}
use Rattle.arena_model.proofs.Lists.{reverse_cons}
use Rattle.bubble_pass.specs.Climb.{Inner}
use Rattle.bubble_pass.specs.Found.{Fronts, FrontsOf, front_leaf, front_p, front_q, front_back, no_fronts, and_fronts}
use Rattle.bubble_pass.specs.Ends.{IsFull}
use Rattle.bubble_pass.proofs.Opens.{one_child}

pub occurs_back : (xs : List ℕ) (x : ℕ) → occurs (reverse xs) x ≡ occurs xs x
occurs_back [] x = refl
occurs_back (y ∷ ys) x = ap (λ z. occurs z x) (reverse_cons y ys) ∙ occurs-append (reverse ys) (y ∷ []) x ∙ (let r : occurs (reverse ys) x ≡ occurs ys x = occurs_back ys x in omega arith)

some_head : (xs : List ℕ) → 1 ≤ length xs → (x : ℕ) × (1 ≤ occurs xs x)
some_head [] l = absurd (omega arith)
some_head (x ∷ xs) l = (x, occurs_here x xs)

some_length : (xs : List ℕ) (x : ℕ) → 1 ≤ occurs xs x → 1 ≤ length xs
some_length [] x o = absurd (omega arith)
some_length (y ∷ ys) x o = omega arith

below_kid : (f : Layout) (n k : ℕ) → IsAtOrAbove f.slots f.root n → 1 ≤ occurs (children_at f n) k → IsAtOrAbove f.slots f.root k
below_kid f n k l o = above_step f.slots f.root n k l o

-- no order is empty
mutual
  pub front_some : (f : Layout) (n : ℕ) (o : List ℕ) → IsFull f → IsAtOrAbove f.slots f.root n → Fronts f n o → 1 ≤ length o
  front_some f _ _ h l (front_leaf n a s) = omega arith
  front_some f _ _ h l (front_p n ks o s e fs) =
      let k = some_head (children_at f n) (h.of_p n l s) in
      fronts_some f ks o h (λ x ox. below_kid f n x l (subst (λ v. 1 ≤ v) (e x) ox)) (some_length ks k.0 (subst (λ v. 1 ≤ v) (sym (e k.0)) k.1)) fs
  front_some f _ _ h l (front_q n o s fs) = fronts_some f (children_at f n) o h (λ x ox. below_kid f n x l ox) (h.of_q n l s) fs
  front_some f _ _ h l (front_back n o s fs) =
      let k = some_head (children_at f n) (h.of_q n l s) in
      fronts_some f (reverse (children_at f n)) o h (λ x ox. below_kid f n x l (subst (λ v. 1 ≤ v) (occurs_back (children_at f n) x) ox))
      (some_length (reverse (children_at f n)) k.0 (subst (λ v. 1 ≤ v) (sym (occurs_back (children_at f n) k.0)) k.1)) fs

  fronts_some : (f : Layout) (ks o : List ℕ) → IsFull f → ((k : ℕ) → 1 ≤ occurs ks k → IsAtOrAbove f.slots f.root k) → 1 ≤ length ks → FrontsOf f ks o → 1 ≤ length o
  fronts_some f _ _ h below l no_fronts = absurd (omega arith)
  fronts_some f _ _ h below l (and_fronts k ks o os w fk fs e) =
      let a : 1 ≤ length o = front_some f k o h (below k (occurs_here k ks)) fk in
      let b : length w ≡ length (o ++ os) = ap length e in omega (arith, length-append o os)

-- each leaf in an order is below the top
mutual
  pub front_leads : (f : Layout) (n : ℕ) (o : List ℕ) (x : ℕ) → Fronts f n o → 1 ≤ occurs o x → IsAtOrAbove f.slots n x
  front_leads f _ _ x (front_leaf n a s) ox = subst (λ z. IsAtOrAbove f.slots n z) (sym (only_one x n ox)) (here n)
  front_leads f _ _ x (front_p n ks o s e fs) ox = let r = fronts_leads f ks o x fs ox in down n r.0 x (subst (λ v. 1 ≤ v) (e r.0) r.1) r.2
  front_leads f _ _ x (front_q n o s fs) ox = let r = fronts_leads f (children_at f n) o x fs ox in down n r.0 x r.1 r.2
  front_leads f _ _ x (front_back n o s fs) ox = let r = fronts_leads f (reverse (children_at f n)) o x fs ox in down n r.0 x (subst (λ v. 1 ≤ v) (occurs_back (children_at f n) r.0) r.1) r.2

  pub fronts_leads : (f : Layout) (ks o : List ℕ) (x : ℕ) → FrontsOf f ks o → 1 ≤ occurs o x → (k : ℕ) × (1 ≤ occurs ks k) × IsAtOrAbove f.slots k x
  fronts_leads f _ _ x no_fronts ox = absurd (omega arith)
  fronts_leads f _ _ x (and_fronts k ks o os w fk fs e) ox = elim (cases_lt 0 (occurs o x)) [
    | inl l ↦ (k, occurs_here k ks, front_leads f k o x fk l)
    | inr l ↦ let all : occurs w x ≡ occurs (o ++ os) x = ap (λ z. occurs z x) e in
        let r = fronts_leads f ks os x fs (omega (arith, occurs-append o os x)) in
        let m : 1 ≤ occurs ks r.0 = r.1 in (r.0, (let n : 1 ≤ occurs (k ∷ ks) r.0 = omega arith in n), r.2)
  ]

-- the block of one of the list
pub record Block (f : Layout) (n : ℕ) (o : List ℕ) : Type 0 where
  pub left : List ℕ
  pub mid : List ℕ
  pub right : List ℕ
  pub is : o ≡ left ++ (mid ++ right)
  pub front : Fronts f n mid

pub block_of : (f : Layout) (ks o : List ℕ) (c : ℕ) → FrontsOf f ks o → 1 ≤ occurs ks c → Block f c o
block_of f _ _ c no_fronts oc = absurd (omega arith)
block_of f _ _ c (and_fronts k ks o os w fk fs e) oc = elim (cases_eq c k) [
  | inl q ↦ record { left = []; mid = o; right = os; is = e; front = subst (λ z. Fronts f z o) (sym q) fk }
  | inr ne ↦ let b = block_of f ks os c fs (let a : occurs (k ∷ ks) c ≡ occurs ks c = occurs_other k c ks ne in omega arith) in
      record { left = o ++ b.left; mid = b.mid; right = b.right; is = e ∙ ap (λ z. o ++ z) b.is ∙ sym (append_assoc o b.left (b.mid ++ b.right)); front = b.front }
]

kid_block : (f : Layout) (n : ℕ) (o : List ℕ) (c : ℕ) → Fronts f n o → 1 ≤ occurs (children_at f n) c → IsLayout f → Block f c o
kid_block f _ _ c (front_leaf n a s) oc h = absurd (let e : children_at f n ≡ [] = subst (λ z. MayHaveChildren z (children_at f n)) s (h.children_fit n) in
    let z : 1 ≤ occurs [] c = subst (λ k. 1 ≤ occurs k c) e oc in omega arith)
kid_block f _ _ c (front_p n ks o s e fs) oc h = block_of f ks o c fs (subst (λ v. 1 ≤ v) (sym (e c)) oc)
kid_block f _ _ c (front_q n o s fs) oc h = block_of f (children_at f n) o c fs oc
kid_block f _ _ c (front_back n o s fs) oc h = block_of f (reverse (children_at f n)) o c fs (subst (λ v. 1 ≤ v) (sym (occurs_back (children_at f n) c)) oc)

pub block : (f : Layout) (n q : ℕ) (o : List ℕ) → IsLayout f → IsAtOrAbove f.slots n q → Fronts f n o → Block f q o
block f _ _ o h (here n) fr = record { left = []; mid = o; right = []; is = sym (append-nil o); front = fr }
block f _ _ o h (down n c q oc l) fr =
    let b = kid_block f n o c fr oc h in
    let d = block f c q b.mid h l b.front in
    record {
      left = b.left ++ d.left;
      mid = d.mid;
      right = d.right ++ b.right;
      is = b.is ∙ ap (λ z. b.left ++ (z ++ b.right)) d.is ∙ ap (λ z. b.left ++ z) (append_assoc d.left (d.mid ++ d.right) b.right ∙ ap (λ z. d.left ++ z) (append_assoc d.mid d.right b.right))
          ∙ sym (append_assoc b.left d.left (d.mid ++ (d.right ++ b.right)));
      front = d.front;
    }

-- each leaf below the top stands in its orders
pub front_has : (f : Layout) (n x a : ℕ) (o : List ℕ) → IsLayout f → IsAtOrAbove f.slots n x → shape_at f x ≡ Some (Leaf a) → Fronts f n o → 1 ≤ occurs o x
front_has f n x a o h l s fr =
    let b = block f n x o h l fr in
    let m : 1 ≤ occurs b.mid x = leaf_front x b.mid s b.front in
    subst (λ z. 1 ≤ occurs z x) (sym b.is) (omega (arith, occurs-append b.left (b.mid ++ b.right) x, occurs-append b.mid b.right x))
  where
    leaf_front : (x : ℕ) (o : List ℕ) → shape_at f x ≡ Some (Leaf a) → Fronts f x o → 1 ≤ occurs o x
    leaf_front _ _ s (front_leaf n b t) = occurs_here n []
    leaf_front _ _ s (front_p n ks o t e fs) = absurd (let z = sym t ∙ s in cc)
    leaf_front _ _ s (front_q n o t fs) = absurd (let z = sym t ∙ s in cc)
    leaf_front _ _ s (front_back n o t fs) = absurd (let z = sym t ∙ s in cc)

pub record Parts (f : Layout) (xs ys w : List ℕ) : Type 0 where
  pub a : List ℕ
  pub b : List ℕ
  pub is : w ≡ a ++ b
  pub of_xs : FrontsOf f xs a
  pub of_ys : FrontsOf f ys b

pub parts : (f : Layout) (xs ys w : List ℕ) → FrontsOf f (xs ++ ys) w → Parts f xs ys w
parts f [] ys w fs = record { a = []; b = w; is = refl; of_xs = no_fronts; of_ys = fs }
parts f (x ∷ xs) ys _ (and_fronts _ _ o os w fk fs e) =
    let r = parts f xs ys os fs in
    record { a = o ++ r.a; b = r.b; is = e ∙ ap (λ z. o ++ z) r.is ∙ sym (append_assoc o r.a r.b); of_xs = and_fronts x xs o r.a (o ++ r.a) fk r.of_xs refl; of_ys = r.of_ys }

-- an end child is no inner child
pub first_no_inner : (f : Layout) (q k : ℕ) (rest : List ℕ) → IsLayout f → children_at f q ≡ k ∷ rest → Inner f k → ⊥
first_no_inner f q k rest h e i = by_lists i.us i.vs (subst (λ z. children_at f z ≡ i.us ++ k ∷ i.vs) (one_parent f i.q q k h (child_at f i.q k i.us i.vs i.kids_are) (child_at f q k [] rest e)) i.kids_are) i.left
  where
    by_lists : (us vs : List ℕ) → children_at f q ≡ us ++ k ∷ vs → 1 ≤ length us → ⊥
    by_lists [] vs ks l = absurd (omega arith)
    by_lists (u ∷ us) vs ks l =
        let same : u ≡ k = ap (λ z. head_or z u) (sym ks ∙ e) in
        let a : occurs (children_at f q) k ≡ occurs (u ∷ us ++ k ∷ vs) k = ap (λ z. occurs z k) ks in
        let b : occurs (u ∷ us ++ k ∷ vs) k ≡ occurs (k ∷ us ++ k ∷ vs) k = ap (λ z. occurs (z ∷ us ++ k ∷ vs) k) same in
        let c : occurs (children_at f q) k ≤ times_child f.slots k = children_times f q k in let d : times_child f.slots k ≤ 1 = h.once k in
        absurd (omega (arith, occurs_same k (us ++ k ∷ vs), occurs-append us (k ∷ vs) k, occurs_same k vs))

pub last_no_inner : (f : Layout) (q k : ℕ) (pre : List ℕ) → IsLayout f → children_at f q ≡ pre ++ k ∷ [] → Inner f k → ⊥
last_no_inner f q k pre h e i = by_lists i.us i.vs (subst (λ z. children_at f z ≡ i.us ++ k ∷ i.vs) (one_parent f i.q q k h (child_at f i.q k i.us i.vs i.kids_are) (child_at f q k pre [] e)) i.kids_are) i.right
  where
    by_lists : (us vs : List ℕ) → children_at f q ≡ us ++ k ∷ vs → 1 ≤ length vs → ⊥
    by_lists us [] ks l = absurd (omega arith)
    by_lists us (v ∷ vs) ks l =
        let same : last_or vs v ≡ k = sym (last_or-append us (k ∷ v ∷ vs) k) ∙ ap (λ z. last_or z k) (sym ks ∙ e) ∙ last_or-append pre (k ∷ []) k in
        let in_vs : 1 ≤ occurs (v ∷ vs) k = subst (λ z. 1 ≤ occurs (v ∷ vs) z) same (occurs_last vs v) in
        let a : occurs (children_at f q) k ≡ occurs (us ++ k ∷ v ∷ vs) k = ap (λ z. occurs z k) ks in
        let c : occurs (children_at f q) k ≤ times_child f.slots k = children_times f q k in let d : times_child f.slots k ≤ 1 = h.once k in
        absurd (omega (arith, occurs-append us (k ∷ v ∷ vs) k, occurs_same k (v ∷ vs)))

-- no inner child of a Q-node stands between n and the leaf e
pub record Outer (f : Layout) (n e : ℕ) : Type 0 where
  pub leads : IsAtOrAbove f.slots n e
  pub none_is : (y : ℕ) → IsAtOrAbove f.slots n y → IsAtOrAbove f.slots y e → y ≢ n → Inner f y → ⊥

pub join_leads : (slots : List Slot) (a b e : ℕ) → IsAtOrAbove slots a b → IsAtOrAbove slots b e → IsAtOrAbove slots a e
join_leads slots _ _ e (here a) l = l
join_leads slots _ _ e (down a c b oc l) r2 = down a c e oc (join_leads slots c b e l r2)

-- through a child that is no inner one
through : (f : Layout) (n k e : ℕ) → IsLayout f → 1 ≤ occurs (children_at f n) k → (Inner f k → ⊥) → Outer f k e → Outer f n e
through f n k e h ok off r = record {
  leads = down n k e ok r.leads;
  none_is = λ y ny ye ne i. at n y ny ye ne i ok;
}
  where
    at : (m y : ℕ) → IsAtOrAbove f.slots m y → IsAtOrAbove f.slots y e → y ≢ m → Inner f y → 1 ≤ occurs (children_at f m) k → ⊥
    at _ _ (here m) ye ne i o = ne refl
    at _ _ (down m c y oc cy) ye ne i o =
        let same : c ≡ k = one_child f m c k e h oc o (join_leads f.slots c y e cy ye) r.leads in
        let ky : IsAtOrAbove f.slots k y = subst (λ z. IsAtOrAbove f.slots z y) same cy in
        elim (cases_eq y k) [
          | inl q ↦ off (subst (λ z. Inner f z) q i)
          | inr nk ↦ r.none_is y ky ye nk i
        ]

leaf_outer : (f : Layout) (n a : ℕ) → IsLayout f → shape_at f n ≡ Some (Leaf a) → Outer f n n
leaf_outer f n a h s = record { leads = here n; none_is = λ y ny yn ne i. ne (sym (at n y ny s)) }
  where
    at : (m y : ℕ) → IsAtOrAbove f.slots m y → shape_at f m ≡ Some (Leaf a) → m ≡ y
    at _ _ (here m) s = refl
    at _ _ (down m c y oc l) s = absurd (let e : children_at f m ≡ [] = subst (λ z. MayHaveChildren z (children_at f m)) s (h.children_fit m) in
        let z : 1 ≤ occurs [] c = subst (λ k. 1 ≤ occurs k c) e oc in omega arith)

p_no_inner : (f : Layout) (n k : ℕ) → IsLayout f → shape_at f n ≡ Some P → 1 ≤ occurs (children_at f n) k → Inner f k → ⊥
p_no_inner f n k h s o i =
    let e : shape_at f n ≡ Some Q = subst (λ z. shape_at f z ≡ Some Q) (one_parent f i.q n k h (child_at f i.q k i.us i.vs i.kids_are) o) i.is_q in
    let z = sym s ∙ e in cc

pub record FirstKid (f : Layout) (ks : List ℕ) (e : ℕ) : Type 0 where
  pub k : ℕ
  pub rest : List ℕ
  pub is : ks ≡ k ∷ rest
  pub outer : Outer f k e

pub record LastKid (f : Layout) (ks : List ℕ) (e : ℕ) : Type 0 where
  pub pre : List ℕ
  pub k : ℕ
  pub is : ks ≡ pre ++ k ∷ []
  pub outer : Outer f k e

back_first : (xs : List ℕ) (k : ℕ) (rest : List ℕ) → reverse xs ≡ k ∷ rest → xs ≡ reverse rest ++ k ∷ []
back_first xs k rest e = sym (reverse-reverse xs) ∙ ap reverse e ∙ reverse_cons k rest

back_last : (xs pre : List ℕ) (k : ℕ) → reverse xs ≡ pre ++ k ∷ [] → xs ≡ k ∷ reverse pre
back_last xs pre k e = sym (reverse-reverse xs) ∙ ap reverse e ∙ reverse-append pre (k ∷ [])

mutual
  pub first_in : (f : Layout) (n : ℕ) (o w : List ℕ) (e : ℕ) → IsLayout f → IsFull f → IsAtOrAbove f.slots f.root n → Fronts f n o → o ≡ e ∷ w → Outer f n e
  first_in f _ _ w e h u l (front_leaf n a s) i = subst (λ z. Outer f n z) (ap (λ z. head_or z n) i) (leaf_outer f n a h s)
  first_in f _ _ w e h u l (front_p n ks o s eq fs) i =
      let r = first_of f ks o w e h u (λ x ox. below_kid f n x l (subst (λ v. 1 ≤ v) (eq x) ox)) fs i in
      let ok : 1 ≤ occurs (children_at f n) r.k = subst (λ v. 1 ≤ v) (eq r.k) (subst (λ z. 1 ≤ occurs z r.k) (sym r.is) (occurs_here r.k r.rest)) in
      through f n r.k e h ok (p_no_inner f n r.k h s ok) r.outer
  first_in f _ _ w e h u l (front_q n o s fs) i =
      let r = first_of f (children_at f n) o w e h u (λ x ox. below_kid f n x l ox) fs i in
      through f n r.k e h (subst (λ z. 1 ≤ occurs z r.k) (sym r.is) (occurs_here r.k r.rest)) (first_no_inner f n r.k r.rest h r.is) r.outer
  first_in f _ _ w e h u l (front_back n o s fs) i =
      let r = first_of f (reverse (children_at f n)) o w e h u (λ x ox. below_kid f n x l (subst (λ v. 1 ≤ v) (occurs_back (children_at f n) x) ox)) fs i in
      let ks : children_at f n ≡ reverse r.rest ++ r.k ∷ [] = back_first (children_at f n) r.k r.rest r.is in
      through f n r.k e h (child_at f n r.k (reverse r.rest) [] ks) (last_no_inner f n r.k (reverse r.rest) h ks) r.outer

  first_of : (f : Layout) (ks o w : List ℕ) (e : ℕ) → IsLayout f → IsFull f → ((k : ℕ) → 1 ≤ occurs ks k → IsAtOrAbove f.slots f.root k) → FrontsOf f ks o → o ≡ e ∷ w → FirstKid f ks e
  first_of f _ _ w e h u below no_fronts i = absurd (let z : [] ≡ e ∷ w = i in cc)
  first_of f _ _ w e h u below (and_fronts k ks o os v fk fs eq) i =
      let c = cut o (front_some f k o u (below k (occurs_here k ks)) fk) (sym eq ∙ i) in
      record { k = k; rest = ks; is = refl; outer = first_in f k o c.0 e h u (below k (occurs_here k ks)) fk c.1 }
    where
      cut : (o : List ℕ) → 1 ≤ length o → o ++ os ≡ e ∷ w → (w2 : List ℕ) × (o ≡ e ∷ w2)
      cut [] l i = absurd (omega arith)
      cut (x ∷ xs) l i = (xs, ap (λ z. z ∷ xs) (ap (λ z. head_or z x) i))

nothing : (w : List ℕ) (e : ℕ) → [] ≡ w ++ e ∷ [] → ⊥
nothing [] e i = cc
nothing (x ∷ xs) e i = cc

mutual
  pub last_in : (f : Layout) (n : ℕ) (o w : List ℕ) (e : ℕ) → IsLayout f → IsFull f → IsAtOrAbove f.slots f.root n → Fronts f n o → o ≡ w ++ e ∷ [] → Outer f n e
  last_in f _ _ w e h u l (front_leaf n a s) i =
      subst (λ z. Outer f n z) (ap (λ z. last_or z n) i ∙ last_or-append w (e ∷ []) n) (leaf_outer f n a h s)
  last_in f _ _ w e h u l (front_p n ks o s eq fs) i =
      let r = last_of f ks o w e h u (λ x ox. below_kid f n x l (subst (λ v. 1 ≤ v) (eq x) ox)) fs i in
      let ok : 1 ≤ occurs (children_at f n) r.k = subst (λ v. 1 ≤ v) (eq r.k) (subst (λ z. 1 ≤ occurs z r.k) (sym r.is) (omega (arith, occurs-append r.pre (r.k ∷ []) r.k, occurs_here r.k []))) in
      through f n r.k e h ok (p_no_inner f n r.k h s ok) r.outer
  last_in f _ _ w e h u l (front_q n o s fs) i =
      let r = last_of f (children_at f n) o w e h u (λ x ox. below_kid f n x l ox) fs i in
      through f n r.k e h (child_at f n r.k r.pre [] r.is) (last_no_inner f n r.k r.pre h r.is) r.outer
  last_in f _ _ w e h u l (front_back n o s fs) i =
      let r = last_of f (reverse (children_at f n)) o w e h u (λ x ox. below_kid f n x l (subst (λ v. 1 ≤ v) (occurs_back (children_at f n) x) ox)) fs i in
      let ks : children_at f n ≡ r.k ∷ reverse r.pre = back_last (children_at f n) r.pre r.k r.is in
      through f n r.k e h (child_at f n r.k [] (reverse r.pre) ks) (first_no_inner f n r.k (reverse r.pre) h ks) r.outer

  last_of : (f : Layout) (ks o w : List ℕ) (e : ℕ) → IsLayout f → IsFull f → ((k : ℕ) → 1 ≤ occurs ks k → IsAtOrAbove f.slots f.root k) → FrontsOf f ks o → o ≡ w ++ e ∷ [] → LastKid f ks e
  last_of f _ _ w e h u below no_fronts i = absurd (nothing w e i)
  last_of f _ _ w e h u below (and_fronts k ks o os v fk fs eq) i = elim (cases_lt 0 (length ks)) [
    | inl some ↦
        let l : 1 ≤ length os = fronts_some f ks os u (λ x ox. below x (omega arith)) some fs in
        let c = tail os l (sym eq ∙ i) in
        let r = last_of f ks os c.0 e h u (λ x ox. below x (omega arith)) fs c.1 in
        record { pre = k ∷ r.pre; k = r.k; is = ap (λ z. k ∷ z) r.is; outer = r.outer }
    | inr none_is ↦ record {
      pre = [];
      k = k;
      is = ap (λ z. k ∷ z) (nil ks none_is);
      outer = last_in f k o w e h u (below k (occurs_here k ks)) fk (sym (append-nil o) ∙ ap (λ z. o ++ z) (sym (nil_os ks os fs none_is)) ∙ sym eq ∙ i);
    }
  ]
    where
      nil : (xs : List ℕ) → length xs ≤ 0 → xs ≡ []
      nil [] l = refl
      nil (x ∷ xs) l = absurd (omega arith)

      nil_os : (ks os : List ℕ) → FrontsOf f ks os → length ks ≤ 0 → os ≡ []
      nil_os _ _ no_fronts l = refl
      nil_os _ _ (and_fronts k2 ks2 o2 os2 w2 fk2 fs2 e2) l = absurd (omega arith)

      front_of : (x : ℕ) (xs : List ℕ) → (p : List ℕ) × (x ∷ xs ≡ p ++ last_or xs x ∷ [])
      front_of x [] = ([], refl)
      front_of x (y ∷ ys) = let r = front_of y ys in (x ∷ r.0, ap (λ z. x ∷ z) r.1)

      tail : (os : List ℕ) → 1 ≤ length os → o ++ os ≡ w ++ e ∷ [] → (w2 : List ℕ) × (os ≡ w2 ++ e ∷ [])
      tail [] l i = absurd (omega arith)
      tail (x ∷ xs) l i =
          let r = front_of x xs in
          let s : last_or xs x ≡ e = sym (last_or-append o (x ∷ xs) e) ∙ ap (λ z. last_or z e) i ∙ last_or-append w (e ∷ []) e in
          (r.0, r.1 ∙ ap (λ z. r.0 ++ z ∷ []) s)
