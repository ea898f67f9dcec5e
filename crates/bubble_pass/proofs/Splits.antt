-- Two open nodes at the end leave no order that keeps the row.
use Rattle.std.proofs.Common.{◌≡◌, ◌≢◌, ◌⊎◌, inl, inr, ℕ, ◌+◌, ◌≤◌, List, [], ◌∷◌, ◌++◌, length, sum_by, reverse, Some, refl, sym, ap, subst, ◌∙◌, arith}
use Rattle.std.proofs.lemmas.Bool.{cases_eq, cases_lt}
use Rattle.std.proofs.lemmas.List.{append_assoc, append-nil, reverse-append}
use Rattle.arena_model.proofs.Outlines.{apart_children}
use Rattle.pq_arena.specs.declared.node.NodeId.{NodeId}
use Rattle.arena_model.specs.declared.Shape.TheVariants.{Leaf, Q}
use Rattle.arena_model.specs.ChildLists.{none}
use Rattle.column_order.specs.Orders.{occurs}
use Rattle.arena_model.specs.Layout.{Layout, shape_at, children_at, times_child, IsAtOrAbove, here, down, IsLayout, MayHaveChildren}
use Rattle.arena_model.specs.ChildLists.{head_or, last_or}
use Rattle.column_order.proofs.Lists.{occurs-append}
use Rattle.arena_model.proofs.Lists.{occurs_here, occurs_last, occurs_other, only_one, SplitAt, split_at}
use Rattle.arena_model.proofs.Slots.{children_times, child_at}
use Rattle.arena_model.proofs.Paths.{above_step, one_path, top_alone}
use Rattle.arena_model.proofs.Trees.{no_circle}
use Rattle.arena_model.proofs.Lists.{reverse_cons}
use Rattle.bubble_pass.specs.declared.climber.Stage.{Stage}
use Rattle.bubble_pass.specs.declared.climber.Stage.TheVariants.{Unseen, Queued, Blocked, Top, InRun, Placed}
use Rattle.bubble_pass.specs.declared.climber.Climber.{Climber}
use Rattle.bubble_pass.specs.Climb.{stage, IsSeen, IsOpen, parked_one, Inner, Beside, before, behind, Climb, Reached, at_leaf, from_child}
use Rattle.bubble_pass.specs.Moves.{Ready}
use Rattle.bubble_pass.specs.Found.{Fronts, FrontsOf, front_leaf, front_p, front_q, front_back, no_fronts, and_fronts, StandsTogether, Split}
use Rattle.bubble_pass.specs.Ends.{AreLeaves, IsFull}
use Rattle.bubble_pass.proofs.Seats.{Last, last_split}
use Rattle.bubble_pass.proofs.Marks.{seen_by}
use Rattle.bubble_pass.proofs.Opens.{reached_meets, climbed, one_child, some_parked}
use Rattle.bubble_pass.proofs.Fronts.{Block, block, block_of, front_some, front_has, fronts_leads, Parts, parts, Outer, first_in, last_in, first_no_inner, last_no_inner, join_leads, occurs_back}
use Rattle.bubble_pass.proofs.Ending.{Whole, no_queued, another, in_run_or}

-- blocked children of a Q-node between two that were not seen
pub record Hemmed (f : Layout) (st : List Stage) (q : ℕ) (ks : List ℕ) : Type 0 where
  pub us : List ℕ
  pub zl : ℕ
  pub zr : ℕ
  pub vs : List ℕ
  pub is_q : shape_at f q ≡ Some Q
  pub kids_are : children_at f q ≡ us ++ zl ∷ (ks ++ zr ∷ vs)
  pub left : stage st zl ≡ Unseen
  pub right : stage st zr ≡ Unseen

-- what stands where the climb is over and no node is queued
pub record Over (f : Layout) (row : List ℕ) (st : List Stage) : Type 0 where
  pub climb : Climb f row st
  pub apart : (y z : ℕ) (m : NodeId) → Beside f y z → stage st y ≡ Blocked → stage st z ≡ Placed m → ⊥
  pub no_run : (x : ℕ) → stage st x ≢ InRun
  pub no_queue : (x : ℕ) → stage st x ≢ Queued

-- the leaf at an outer place of an unseen node is not of the row
outer_off : (f : Layout) (row : List ℕ) (st : List Stage) (z e : ℕ) → IsLayout f → Over f row st → stage st z ≡ Unseen → Outer f z e → 1 ≤ occurs row e → ⊥
outer_off f row st z e h v un out o = elim (climbed f row st h v.climb z e out.leads (v.climb.leaves e o)) [
  | inl b ↦ let ne : b.y ≢ z = (λ q. subst (λ s. IsOpen s) (ap (λ k. stage st k) q ∙ un) b.open_is) in
      by_stage b.y ne b.above b.leads (stage st b.y) refl b.open_is
  | inr p ↦ let q = sym un ∙ p.1 in cc
]
  where
    by_stage : (y : ℕ) → y ≢ z → IsAtOrAbove f.slots z y → IsAtOrAbove f.slots y e → (s : Stage) → stage st y ≡ s → IsOpen s → ⊥
    by_stage y ne a l Unseen i op = op
    by_stage y ne a l Queued i op = v.no_queue y i
    by_stage y ne a l Blocked i op = out.none_is y a l ne (v.climb.inner y i)
    by_stage y ne a l Top i op = ne (sym (top_alone f z y (v.climb.tops y i) a))
    by_stage y ne a l InRun i op = v.no_run y i
    by_stage y ne a l (Placed m) i op = op

-- the leaves of the row stand in the blocks of ks
pub record Middle (f : Layout) (ks o : List ℕ) : Type 0 where
  pub a : List ℕ
  pub l : ℕ
  pub m : List ℕ
  pub r : ℕ
  pub b : List ℕ
  pub is : o ≡ a ++ l ∷ (m ++ r ∷ b)
  pub front : FrontsOf f ks m

some_first : (xs : List ℕ) → 1 ≤ length xs → (x : ℕ) × (ys : List ℕ) × (xs ≡ x ∷ ys)
some_first [] l = absurd (omega arith)
some_first (x ∷ xs) l = (x, xs, refl)

some_last : (xs : List ℕ) → 1 ≤ length xs → (x : ℕ) × (ys : List ℕ) × (xs ≡ ys ++ x ∷ [])
some_last [] l = absurd (omega arith)
some_last (x ∷ xs) l = let r : Last (x ∷ xs) (last_or xs x) = last_split x xs in (last_or xs x, r.front, r.is)

no_parts : (f : Layout) (ks os : List ℕ) → FrontsOf f ks os → length ks ≤ 0 → os ≡ []
no_parts f _ _ no_fronts l = refl
no_parts f _ _ (and_fronts k ks o os w fk fs e) l = absurd (omega arith)

-- with the outer leaves of both neighbours
pub record Between (f : Layout) (zl zr : ℕ) (ks w : List ℕ) : Type 0 where
  pub mid : Middle f ks w
  pub left : Outer f zl mid.l
  pub right : Outer f zr mid.r

between : (f : Layout) (zl zr : ℕ) (us ks vs w : List ℕ) → IsLayout f → IsFull f → ((k : ℕ) → 1 ≤ occurs (us ++ zl ∷ (ks ++ zr ∷ vs)) k → IsAtOrAbove f.slots f.root k) →
    FrontsOf f (us ++ zl ∷ (ks ++ zr ∷ vs)) w → Between f zl zr ks w
between f zl zr us ks vs w h u below fs =
    let p1 : Parts f us (zl ∷ (ks ++ zr ∷ vs)) w = parts f us (zl ∷ (ks ++ zr ∷ vs)) w fs in
    let p2 : Parts f (zl ∷ []) (ks ++ zr ∷ vs) p1.b = parts f (zl ∷ []) (ks ++ zr ∷ vs) p1.b p1.of_ys in
    let p3 : Parts f ks (zr ∷ vs) p2.b = parts f ks (zr ∷ vs) p2.b p2.of_ys in
    let p4 : Parts f (zr ∷ []) vs p3.b = parts f (zr ∷ []) vs p3.b p3.of_ys in
    let lzl : IsAtOrAbove f.slots f.root zl = below zl (omega (arith, occurs-append us (zl ∷ (ks ++ zr ∷ vs)) zl, occurs_here zl (ks ++ zr ∷ vs))) in
    let lzr : IsAtOrAbove f.slots f.root zr = below zr (omega (arith, occurs-append us (zl ∷ (ks ++ zr ∷ vs)) zr, occurs-append ks (zr ∷ vs) zr, occurs_here zr vs)) in
    let fl : Fronts f zl p2.a = single zl p2.a p2.of_xs in
    let fr : Fronts f zr p4.a = single zr p4.a p4.of_xs in
    let el = some_last p2.a (front_some f zl p2.a u lzl fl) in
    let er = some_first p4.a (front_some f zr p4.a u lzr fr) in
    record {
      mid = record {
        a = p1.a ++ el.1;
        l = el.0;
        m = p3.a;
        r = er.0;
        b = er.1 ++ p4.b;
        is = p1.is ∙ ap (λ z. p1.a ++ z) (p2.is ∙ ap (λ z. z ++ p2.b) el.2 ∙ append_assoc el.1 (el.0 ∷ []) p2.b
            ∙ ap (λ z. el.1 ++ el.0 ∷ z) (p3.is ∙ ap (λ z. p3.a ++ z) (p4.is ∙ ap (λ z. z ++ p4.b) er.2)))
            ∙ sym (append_assoc p1.a el.1 (el.0 ∷ (p3.a ++ er.0 ∷ (er.1 ++ p4.b))));
        front = p3.of_xs;
      };
      left = last_in f zl p2.a el.1 el.0 h u lzl fl el.2;
      right = first_in f zr p4.a er.1 er.0 h u lzr fr er.2;
    }
  where
    single : (z : ℕ) (o : List ℕ) → FrontsOf f (z ∷ []) o → Fronts f z o
    single z _ (and_fronts _ _ o os v fk fs e) = subst (λ y. Fronts f z y) (sym (e ∙ ap (λ y. o ++ y) (no_parts f [] os fs (omega arith)) ∙ append-nil o)) fk

-- a leaf of the row among ks keeps all of them there
within_at : (f : Layout) (row ks o : List ℕ) (a b : ℕ) → StandsTogether o row → (m : Middle f ks o) → (1 ≤ occurs row m.l → ⊥) → (1 ≤ occurs row m.r → ⊥) →
    1 ≤ occurs m.m a → 1 ≤ occurs row a → 1 ≤ occurs o b → 1 ≤ occurs row b → 1 ≤ occurs m.m b
within_at f row ks o a b keep m nl nr oa ra ob rb =
    let sa : SplitAt m.m a = split_at m.m a oa in
    let all : occurs o b ≡ occurs m.a b + (occurs (m.l ∷ []) b + (occurs m.m b + (occurs (m.r ∷ []) b + occurs m.b b))) =
    ap (λ z. occurs z b) m.is ∙ (let e : occurs (m.a ++ m.l ∷ (m.m ++ m.r ∷ m.b)) b ≡ occurs m.a b + (occurs (m.l ∷ []) b + (occurs m.m b + (occurs (m.r ∷ []) b + occurs m.b b))) =
    omega (arith, occurs-append m.a (m.l ∷ (m.m ++ m.r ∷ m.b)) b, occurs-append m.m (m.r ∷ m.b) b) in e) in
    elim (cases_lt 0 (occurs m.m b)) [
      | inl l ↦ l
      | inr l0 ↦ elim (cases_lt 0 (occurs (m.l ∷ []) b)) [
        | inl l ↦ absurd (nl (subst (λ z. 1 ≤ occurs row z) (only_one b m.l l) rb))
        | inr l1 ↦ elim (cases_lt 0 (occurs (m.r ∷ []) b)) [
          | inl l ↦ absurd (nr (subst (λ z. 1 ≤ occurs row z) (only_one b m.r l) rb))
          | inr l2 ↦ elim (cases_lt 0 (occurs m.a b)) [
            | inl l ↦ let sb : SplitAt m.a b = split_at m.a b l in
                absurd (nl (keep sb.us sb.vs sa.us (sa.vs ++ m.r ∷ m.b) b m.l a
                (m.is ∙ ap (λ z. z ++ m.l ∷ (m.m ++ m.r ∷ m.b)) sb.is ∙ append_assoc sb.us (b ∷ sb.vs) (m.l ∷ (m.m ++ m.r ∷ m.b))
                ∙ ap (λ z. sb.us ++ b ∷ (sb.vs ++ m.l ∷ z)) (ap (λ z. z ++ m.r ∷ m.b) sa.is ∙ append_assoc sa.us (a ∷ sa.vs) (m.r ∷ m.b))) rb ra))
            | inr l3 ↦ let sb : SplitAt m.b b = split_at m.b b (omega arith) in
                absurd (nr (keep (m.a ++ m.l ∷ sa.us) sa.vs sb.us sb.vs a m.r b
                (m.is ∙ ap (λ z. m.a ++ m.l ∷ (z ++ m.r ∷ m.b)) sa.is ∙ ap (λ z. m.a ++ m.l ∷ z) (append_assoc sa.us (a ∷ sa.vs) (m.r ∷ m.b))
                ∙ sym (append_assoc m.a (m.l ∷ sa.us) (a ∷ (sa.vs ++ m.r ∷ m.b)))
                ∙ ap (λ z. (m.a ++ m.l ∷ sa.us) ++ a ∷ (sa.vs ++ m.r ∷ z)) sb.is) ra rb))
          ]
        ]
      ]
    ]

pub root_above : (f : Layout) (q a : ℕ) → IsLayout f → IsAtOrAbove f.slots f.root a → IsAtOrAbove f.slots q a → IsAtOrAbove f.slots f.root q
root_above f q a h ra qa = elim (one_path f f.root q a h ra qa) [
  | inl l ↦ l
  | inr l ↦ subst (λ z. IsAtOrAbove f.slots f.root z) (sym (top_alone f q f.root h.root_top l)) (here f.root)
]

reverse_parts : (us ks vs : List ℕ) (l r : ℕ) → reverse (us ++ l ∷ (ks ++ r ∷ vs)) ≡ reverse vs ++ r ∷ (reverse ks ++ l ∷ reverse us)
reverse_parts us ks vs l r =
    reverse-append us (l ∷ (ks ++ r ∷ vs)) ∙ ap (λ z. z ++ reverse us) (reverse_cons l (ks ++ r ∷ vs) ∙ ap (λ z. z ++ l ∷ [])
    (reverse-append ks (r ∷ vs) ∙ ap (λ z. z ++ reverse ks) (reverse_cons r vs)))
    ∙ append_assoc ((reverse vs ++ r ∷ []) ++ reverse ks) (l ∷ []) (reverse us)
    ∙ append_assoc (reverse vs ++ r ∷ []) (reverse ks) (l ∷ reverse us)
    ∙ append_assoc (reverse vs) (r ∷ []) (reverse ks ++ l ∷ reverse us)

-- the middle block of the children ks, in either direction
pub record MidOf (f : Layout) (row ks o : List ℕ) : Type 0 where
  pub order : List ℕ
  pub same : (x : ℕ) → occurs order x ≡ occurs ks x
  pub mid : Middle f order o
  pub left_off : 1 ≤ occurs row mid.l → ⊥
  pub right_off : 1 ≤ occurs row mid.r → ⊥

mid_of : (f : Layout) (row : List ℕ) (st : List Stage) (q : ℕ) (ks w : List ℕ) → IsLayout f → IsFull f → Over f row st → Hemmed f st q ks → IsAtOrAbove f.slots f.root q →
    Fronts f q w → MidOf f row ks w
mid_of f row st _ ks _ h u v m l (front_leaf n a s) = absurd (let z = sym s ∙ m.is_q in cc)
mid_of f row st _ ks _ h u v m l (front_p n xs o s e fs) = absurd (let z = sym s ∙ m.is_q in cc)
mid_of f row st _ ks _ h u v m l (front_q n o s fs) =
    let b : Between f m.zl m.zr ks o = between f m.zl m.zr m.us ks m.vs o h u
    (λ k ok. above_step f.slots f.root n k l (subst (λ z. 1 ≤ occurs z k) (sym m.kids_are) ok)) (subst (λ z. FrontsOf f z o) m.kids_are fs) in
    record {
      order = ks;
      same = λ x. refl;
      mid = b.mid;
      left_off = outer_off f row st m.zl b.mid.l h v m.left b.left;
      right_off = outer_off f row st m.zr b.mid.r h v m.right b.right;
    }
mid_of f row st _ ks _ h u v m l (front_back n o s fs) =
    let e : reverse (children_at f n) ≡ reverse m.vs ++ m.zr ∷ (reverse ks ++ m.zl ∷ reverse m.us) = ap reverse m.kids_are ∙ reverse_parts m.us ks m.vs m.zl m.zr in
    let b : Between f m.zr m.zl (reverse ks) o = between f m.zr m.zl (reverse m.vs) (reverse ks) (reverse m.us) o h u
    (λ k ok. above_step f.slots f.root n k l (subst (λ v. 1 ≤ v) (occurs_back (children_at f n) k) (subst (λ z. 1 ≤ occurs z k) (sym e) ok))) (subst (λ z. FrontsOf f z o) e fs) in
    record {
      order = reverse ks;
      same = λ x. occurs_back ks x;
      mid = b.mid;
      left_off = outer_off f row st m.zr b.mid.l h v m.right b.left;
      right_off = outer_off f row st m.zl b.mid.r h v m.left b.right;
    }

wider : (f : Layout) (row ks w o left right : List ℕ) → o ≡ left ++ (w ++ right) → MidOf f row ks w → MidOf f row ks o
wider f row ks w o left right e mo = record {
  order = mo.order;
  same = mo.same;
  mid = record {
    a = left ++ mo.mid.a;
    l = mo.mid.l;
    m = mo.mid.m;
    r = mo.mid.r;
    b = mo.mid.b ++ right;
    is = e ∙ ap (λ z. left ++ (z ++ right)) mo.mid.is
        ∙ ap (λ z. left ++ z) (append_assoc mo.mid.a (mo.mid.l ∷ (mo.mid.m ++ mo.mid.r ∷ mo.mid.b)) right ∙ ap (λ z. mo.mid.a ++ mo.mid.l ∷ z) (append_assoc mo.mid.m (mo.mid.r ∷ mo.mid.b) right))
        ∙ sym (append_assoc left mo.mid.a (mo.mid.l ∷ (mo.mid.m ++ mo.mid.r ∷ (mo.mid.b ++ right))));
    front = mo.mid.front;
  };
  left_off = mo.left_off;
  right_off = mo.right_off;
}

-- where an order keeps the row, it holds no leaf but below ks
within : (f : Layout) (row : List ℕ) (st : List Stage) (q : ℕ) (ks o : List ℕ) (k a b : ℕ) → IsLayout f → AreLeaves f row → IsFull f → Over f row st → Hemmed f st q ks →
    Fronts f f.root o → StandsTogether o row → 1 ≤ occurs ks k → 1 ≤ occurs row a → IsAtOrAbove f.slots k a → 1 ≤ occurs row b → (j : ℕ) × (1 ≤ occurs ks j) × IsAtOrAbove f.slots j b
within f row st q ks o k a b h w u v m fr keep ok ra la rb =
    let kid : 1 ≤ occurs (children_at f q) k = subst (λ z. 1 ≤ occurs z k) (sym m.kids_are)
    (omega (arith, occurs-append m.us (m.zl ∷ (ks ++ m.zr ∷ m.vs)) k, occurs-append ks (m.zr ∷ m.vs) k)) in
    let lq : IsAtOrAbove f.slots f.root q = root_above f q a h (w.below a ra) (down q k a kid la) in
    let bl : Block f q o = block f f.root q o h lq fr in
    let mo : MidOf f row ks o = wider f row ks bl.mid o bl.left bl.right bl.is (mid_of f row st q ks bl.mid h u v m lq bl.front) in
    let kb : Block f k mo.mid.m = block_of f mo.order mo.mid.m k mo.mid.front (subst (λ z. 1 ≤ z) (sym (mo.same k)) ok) in
    let oa : 1 ≤ occurs mo.mid.m a = (let i : 1 ≤ occurs kb.mid a = front_has f k a (w.leaf a ra).0 kb.mid h la (w.leaf a ra).1 kb.front in
    subst (λ z. 1 ≤ occurs z a) (sym kb.is) (omega (arith, occurs-append kb.left (kb.mid ++ kb.right) a, occurs-append kb.mid kb.right a))) in
    let ob : 1 ≤ occurs o b = front_has f f.root b (w.leaf b rb).0 o h (w.below b rb) (w.leaf b rb).1 fr in
    let r = fronts_leads f mo.order mo.mid.m b mo.mid.front (within_at f row mo.order o a b keep mo.mid mo.left_off mo.right_off oa ra ob rb) in
    (r.0, subst (λ z. 1 ≤ z) (mo.same r.0) r.1, r.2)

-- a leaf of the row that is reached from n through placed nodes alone
pub record Fine (f : Layout) (row : List ℕ) (st : List Stage) (n : ℕ) : Type 0 where
  pub x : ℕ
  pub is_row : 1 ≤ occurs row x
  pub leads : IsAtOrAbove f.slots n x
  pub placed : (k : ℕ) → IsAtOrAbove f.slots n k → IsAtOrAbove f.slots k x → k ≢ n → (m : NodeId) × (stage st k ≡ Placed m)

no_kids : (f : Layout) (n a y : ℕ) → IsLayout f → shape_at f n ≡ Some (Leaf a) → IsAtOrAbove f.slots n y → n ≡ y
no_kids f _ a _ h s (here n) = refl
no_kids f _ a _ h s (down n c y oc l) = absurd (let e : children_at f n ≡ [] = subst (λ z. MayHaveChildren z (children_at f n)) s (h.children_fit n) in
    let z : 1 ≤ occurs [] c = subst (λ k. 1 ≤ occurs k c) e oc in omega arith)

pub record FirstStep (f : Layout) (n j : ℕ) : Type 0 where
  pub c : ℕ
  pub kid : 1 ≤ occurs (children_at f n) c
  pub leads : IsAtOrAbove f.slots c j

pub first_step : (f : Layout) (n j : ℕ) → IsAtOrAbove f.slots n j → j ≢ n → FirstStep f n j
first_step f _ _ (here n) ne = absurd (ne refl)
first_step f _ _ (down n c j o l) ne = record { c = c; kid = o; leads = l }

fine_up : (f : Layout) (row : List ℕ) (st : List Stage) (k n : ℕ) (m : NodeId) → IsLayout f → stage st k ≡ Placed m → 1 ≤ occurs (children_at f n) k → Fine f row st k → Fine f row st n
fine_up f row st k n m h s kid t = record {
  x = t.x;
  is_row = t.is_row;
  leads = down n k t.x kid t.leads;
  placed = λ j a b ne.
      let c : FirstStep f n j = first_step f n j a ne in
      let e : c.c ≡ k = one_child f n c.c k t.x h c.kid kid (join_leads f.slots c.c j t.x c.leads b) t.leads in
      elim (cases_eq j k) [
        | inl q ↦ (m, subst (λ z. stage st z ≡ Placed m) (sym q) s)
        | inr nk ↦ t.placed j (subst (λ z. IsAtOrAbove f.slots z j) e c.leads) b nk
      ];
}

fine : (f : Layout) (row : List ℕ) (st : List Stage) → IsLayout f → AreLeaves f row → Climb f row st → (n : ℕ) → Reached row st n → Fine f row st n
fine f row st h w c _ (at_leaf x o) = record {
  x = x;
  is_row = o;
  leads = here x;
  placed = λ k a b ne. absurd (ne (sym (no_kids f x (w.leaf x o).0 k h (w.leaf x o).1 a)));
}
fine f row st h w c _ (from_child k n m e s r) =
    fine_up f row st k n m h s (subst (λ z. 1 ≤ occurs (children_at f z) k) e (c.above k m s).0) (fine f row st h w c k r)

pub one_way : (f : Layout) (a b : ℕ) → IsLayout f → IsAtOrAbove f.slots a b → IsAtOrAbove f.slots b a → a ≡ b
one_way f a b h ab ba = elim (cases_eq b a) [
  | inl e ↦ sym e
  | inr ne ↦ let s : FirstStep f a b = first_step f a b ab ne in
      absurd (no_circle f.slots a s.c (h.grounds a) s.kid (join_leads f.slots s.c b a s.leads ba))
]

placed_open : (st : List Stage) (k : ℕ) (m : NodeId) → stage st k ≡ Blocked → stage st k ≡ Placed m → ⊥
placed_open st k m b p = let z = sym b ∙ p in cc

pub record Hem (f : Layout) (st : List Stage) (y : ℕ) : Type 0 where
  pub q : ℕ
  pub ks : List ℕ
  pub all : (z : ℕ) → 1 ≤ occurs ks z → stage st z ≡ Blocked
  pub has : 1 ≤ occurs ks y
  pub hemmed : Hemmed f st q ks

-- a run, and an open node outside it
pub two_apart : (f : Layout) (row : List ℕ) (st : List Stage) (y z : ℕ) → IsLayout f → AreLeaves f row → IsFull f → Over f row st → (m : Hem f st y) →
    IsOpen (stage st z) → occurs m.ks z ≡ 0 → (stage st z ≡ Blocked → Hem f st z) → Split f row
two_apart f row st y z h w u v m oz off hem = λ o fr keep.
    let fz : Fine f row st z = fine f row st h w v.climb z (v.climb.reached z (open_seen (stage st z) oz)) in
    let fy : Fine f row st y = fine f row st h w v.climb y (v.climb.reached y (seen_by (stage st y) Blocked (m.all y m.has) tt)) in
    -- some node k of the run is above the leaf of z
    let k = within f row st m.q m.ks o y fy.x fz.x h w u v m.hemmed fr keep m.has fy.is_row fy.leads fz.is_row in
    let kb : stage st k.0 ≡ Blocked = m.all k.0 k.1 in
    let ne : k.0 ≢ z = (λ e. let c : 1 ≤ occurs m.ks z = subst (λ v. 1 ≤ occurs m.ks v) e k.1 in absurd (omega arith)) in
    let kz : IsAtOrAbove f.slots k.0 z = (elim (one_path f k.0 z fz.x h k.2 fz.leads) [
      | inl l ↦ l
      | inr l ↦ absurd (let p = fz.placed k.0 l k.2 ne in placed_open st k.0 p.0 kb p.1)
    ]) in
    by_stage o fr keep k.0 kb ne kz (stage st z) refl oz
  where
    open_seen : (s : Stage) → IsOpen s → IsSeen s
    open_seen Unseen h = h
    open_seen Queued h = tt
    open_seen Blocked h = tt
    open_seen Top h = tt
    open_seen InRun h = tt
    open_seen (Placed m) h = absurd h

    in_kids : (q : ℕ) (ks : List ℕ) (x : ℕ) → Hemmed f st q ks → 1 ≤ occurs ks x → 1 ≤ occurs (children_at f q) x
    in_kids q ks x m o = subst (λ v. 1 ≤ occurs v x) (sym m.kids_are) (omega (arith, occurs-append m.us (m.zl ∷ (ks ++ m.zr ∷ m.vs)) x, occurs-append ks (m.zr ∷ m.vs) x))

    by_stage : (o : List ℕ) → Fronts f f.root o → StandsTogether o row → (k : ℕ) → stage st k ≡ Blocked → k ≢ z → IsAtOrAbove f.slots k z → (s : Stage) → stage st z ≡ s → IsOpen s → ⊥
    by_stage o fr keep k kb ne kz Unseen e op = op
    by_stage o fr keep k kb ne kz Queued e op = v.no_queue z e
    by_stage o fr keep k kb ne kz Top e op = ne (top_alone f k z (v.climb.tops z e) kz)
    by_stage o fr keep k kb ne kz InRun e op = v.no_run z e
    by_stage o fr keep k kb ne kz (Placed m) e op = op
    by_stage o fr keep k kb ne kz Blocked e op =
        let hz : Hem f st z = hem e in
        let fk : Fine f row st k = fine f row st h w v.climb k (v.climb.reached k (seen_by (stage st k) Blocked kb tt)) in
        let fz : Fine f row st z = fine f row st h w v.climb z (v.climb.reached z (seen_by (stage st z) Blocked e tt)) in
        let j = within f row st hz.q hz.ks o z fz.x fk.x h w u v hz.hemmed fr keep hz.has fz.is_row fz.leads fk.is_row in
        let jb : stage st j.0 ≡ Blocked = hz.all j.0 j.1 in
        let jk : IsAtOrAbove f.slots j.0 k = (elim (cases_eq j.0 k) [
          | inl q ↦ subst (λ v. IsAtOrAbove f.slots j.0 v) q (here j.0)
          | inr nk ↦ elim (one_path f j.0 k fk.x h j.2 fk.leads) [
            | inl l ↦ l
            | inr l ↦ absurd (let p = fk.placed j.0 l j.2 nk in placed_open st j.0 p.0 jb p.1)
          ]
        ]) in
        let jz : IsAtOrAbove f.slots j.0 z = join_leads f.slots j.0 k z jk kz in
        elim (cases_eq j.0 z) [
          | inl q ↦ ne (one_way f k z h kz (subst (λ v. IsAtOrAbove f.slots v k) q jk))
          | inr nz ↦ apart_children f hz.q j.0 z h (in_kids hz.q hz.ks j.0 hz.hemmed j.1) (in_kids hz.q hz.ks z hz.hemmed hz.has) jz nz
        ]

-- the blocked ones before the first that is not blocked
pub data Ahead (st : List Stage) : List ℕ → Type 0 where
  all_ahead : (xs : List ℕ) → ((z : ℕ) → 1 ≤ occurs xs z → stage st z ≡ Blocked) → Ahead st xs
  stops_ahead : (xs ms rest : List ℕ) (z : ℕ) → ((k : ℕ) → 1 ≤ occurs ms k → stage st k ≡ Blocked) → stage st z ≢ Blocked → xs ≡ ms ++ z ∷ rest → Ahead st xs

is_blocked_or : (s : Stage) → (s ≡ Blocked) ⊎ (s ≢ Blocked)
is_blocked_or Unseen = inr (λ e. cc)
is_blocked_or Queued = inr (λ e. cc)
is_blocked_or Blocked = inl refl
is_blocked_or Top = inr (λ e. cc)
is_blocked_or InRun = inr (λ e. cc)
is_blocked_or (Placed m) = inr (λ e. cc)

more_blocked : (st : List Stage) (x : ℕ) (xs : List ℕ) → stage st x ≡ Blocked → ((z : ℕ) → 1 ≤ occurs xs z → stage st z ≡ Blocked) → (z : ℕ) → 1 ≤ occurs (x ∷ xs) z → stage st z ≡ Blocked
more_blocked st x xs b h z o = elim (cases_eq z x) [
  | inl e ↦ subst (λ v. stage st v ≡ Blocked) (sym e) b
  | inr ne ↦ h z (subst (λ v. 1 ≤ v) (occurs_other x z xs ne) o)
]

ahead : (st : List Stage) (xs : List ℕ) → Ahead st xs
ahead st [] = all_ahead [] (λ z o. absurd (omega arith))
ahead st (x ∷ xs) = elim (is_blocked_or (stage st x)) [
  | inl b ↦ elim (ahead st xs) [
    | all_ahead _ h ↦ all_ahead (x ∷ xs) (more_blocked st x xs b h)
    | stops_ahead _ ms rest z h n e ↦ stops_ahead (x ∷ xs) (x ∷ ms) rest z (more_blocked st x ms b h) n (ap (λ v. x ∷ v) e)
  ]
  | inr n ↦ stops_ahead (x ∷ xs) [] xs x (λ k o. absurd (omega arith)) n refl
]

pub data Astern (st : List Stage) : List ℕ → Type 0 where
  all_astern : (xs : List ℕ) → ((z : ℕ) → 1 ≤ occurs xs z → stage st z ≡ Blocked) → Astern st xs
  stops_astern : (xs rest ms : List ℕ) (z : ℕ) → ((k : ℕ) → 1 ≤ occurs ms k → stage st k ≡ Blocked) → stage st z ≢ Blocked → xs ≡ rest ++ z ∷ ms → Astern st xs

astern : (st : List Stage) (xs : List ℕ) → Astern st xs
astern st [] = all_astern [] (λ z o. absurd (omega arith))
astern st (x ∷ xs) = elim (astern st xs) [
  | all_astern _ h ↦ elim (is_blocked_or (stage st x)) [
    | inl b ↦ all_astern (x ∷ xs) (more_blocked st x xs b h)
    | inr n ↦ stops_astern (x ∷ xs) [] xs x h n refl
  ]
  | stops_astern _ rest ms z h n e ↦ stops_astern (x ∷ xs) (x ∷ rest) ms z h n (ap (λ v. x ∷ v) e)
]

-- beside a blocked node stands a blocked one or one that was not seen
pub next_unseen : (f : Layout) (row : List ℕ) (st : List Stage) (q k z : ℕ) → Over f row st → Beside f k z → 1 ≤ occurs (children_at f q) z → stage st k ≡ Blocked → stage st z ≢ Blocked → stage st z ≡ Unseen
next_unseen f row st q k z v b o kb nb = by_stage (stage st z) refl
  where
    by_stage : (s : Stage) → stage st z ≡ s → stage st z ≡ Unseen
    by_stage Unseen e = e
    by_stage Queued e = absurd (v.no_queue z e)
    by_stage Blocked e = absurd (nb e)
    by_stage Top e = absurd (let t : times_child f.slots z ≡ 0 = v.climb.tops z e in let l : occurs (children_at f q) z ≤ times_child f.slots z = children_times f q z in omega arith)
    by_stage InRun e = absurd (v.no_run z e)
    by_stage (Placed m) e = absurd (v.apart k z m b kb e)

-- a blocked node and its blocked neighbours are hemmed in
pub hem : (f : Layout) (row : List ℕ) (st : List Stage) (y : ℕ) → IsLayout f → Over f row st → stage st y ≡ Blocked → Hem f st y
hem f row st y h v yb = both i.us i.vs i.kids_are i.left i.right (astern st i.us) (ahead st i.vs)
  where
    i : Inner f y
    i = v.climb.inner y yb

    left_end : (us vs : List ℕ) → children_at f i.q ≡ us ++ y ∷ vs → 1 ≤ length us → ((z : ℕ) → 1 ≤ occurs us z → stage st z ≡ Blocked) → ⊥
    left_end [] vs e l all = absurd (omega arith)
    left_end (u ∷ us) vs e l all = first_no_inner f i.q u (us ++ y ∷ vs) h e (v.climb.inner u (all u (occurs_here u us)))

    right_end : (us vs : List ℕ) → children_at f i.q ≡ us ++ y ∷ vs → 1 ≤ length vs → ((z : ℕ) → 1 ≤ occurs vs z → stage st z ≡ Blocked) → ⊥
    right_end us [] e l all = absurd (omega arith)
    right_end us (w ∷ vs) e l all =
        let r : Last (w ∷ vs) (last_or vs w) = last_split w vs in
        last_no_inner f i.q (last_or vs w) (us ++ y ∷ r.front) h (e ∙ ap (λ z. us ++ y ∷ z) r.is ∙ sym (append_assoc us (y ∷ r.front) (last_or vs w ∷ [])))
        (v.climb.inner (last_or vs w) (all (last_or vs w) (occurs_last vs w)))

    left_unseen : (rest ms vs : List ℕ) (z : ℕ) → children_at f i.q ≡ rest ++ z ∷ (ms ++ y ∷ vs) → ((k : ℕ) → 1 ≤ occurs ms k → stage st k ≡ Blocked) → stage st z ≢ Blocked → stage st z ≡ Unseen
    left_unseen rest [] vs z e all n = next_unseen f row st i.q y z v (behind i.q rest vs i.is_q e) (child_at f i.q z rest (y ∷ vs) e) yb n
    left_unseen rest (m ∷ ms) vs z e all n =
        next_unseen f row st i.q m z v (behind i.q rest (ms ++ y ∷ vs) i.is_q e) (child_at f i.q z rest (m ∷ ms ++ y ∷ vs) e) (all m (occurs_here m ms)) n

    right_unseen : (us ms rest : List ℕ) (z : ℕ) → children_at f i.q ≡ us ++ y ∷ (ms ++ z ∷ rest) → ((k : ℕ) → 1 ≤ occurs ms k → stage st k ≡ Blocked) → stage st z ≢ Blocked → stage st z ≡ Unseen
    right_unseen us ms rest z e all n =
        let r : Last (y ∷ ms) (last_or ms y) = last_split y ms in
        let k1 : children_at f i.q ≡ (us ++ r.front) ++ last_or ms y ∷ (z ∷ rest) =
        e ∙ ap (λ w. us ++ (w ++ z ∷ rest)) r.is ∙ ap (λ w. us ++ w) (append_assoc r.front (last_or ms y ∷ []) (z ∷ rest)) ∙ sym (append_assoc us r.front (last_or ms y ∷ (z ∷ rest))) in
        next_unseen f row st i.q (last_or ms y) z v (before i.q (us ++ r.front) rest i.is_q k1)
        (child_at f i.q z (us ++ y ∷ ms) rest (e ∙ sym (append_assoc us (y ∷ ms) (z ∷ rest))))
        (more_blocked st y ms yb all (last_or ms y) (occurs_last ms y)) n

    both : (us vs : List ℕ) → children_at f i.q ≡ us ++ y ∷ vs → 1 ≤ length us → 1 ≤ length vs → Astern st us → Ahead st vs → Hem f st y
    both _ vs e l r (all_astern us all) a = absurd (left_end us vs e l all)
    both _ _ e l r (stops_astern us rest ms z hm n es) (all_ahead vs all) = absurd (right_end us vs e r all)
    both _ _ e l r (stops_astern us rest ms z hm n es) (stops_ahead vs ns rest2 z2 hn n2 ea) =
        let e1 : children_at f i.q ≡ rest ++ z ∷ (ms ++ y ∷ vs) = e ∙ ap (λ w. w ++ y ∷ vs) es ∙ append_assoc rest (z ∷ ms) (y ∷ vs) in
        let e2 : children_at f i.q ≡ us ++ y ∷ (ns ++ z2 ∷ rest2) = e ∙ ap (λ w. us ++ y ∷ w) ea in
        record {
          q = i.q;
          ks = ms ++ y ∷ ns;
          all = λ k o. elim (cases_lt 0 (occurs ms k)) [
            | inl c ↦ hm k c
            | inr c ↦ more_blocked st y ns yb hn k (omega (arith, occurs-append ms (y ∷ ns) k))
          ];
          has = omega (arith, occurs-append ms (y ∷ ns) y, occurs_here y ns);
          hemmed = record {
            us = rest;
            zl = z;
            zr = z2;
            vs = rest2;
            is_q = i.is_q;
            kids_are = e1 ∙ ap (λ w. rest ++ z ∷ (ms ++ y ∷ w)) ea ∙ ap (λ w. rest ++ z ∷ w) (sym (append_assoc ms (y ∷ ns) (z2 ∷ rest2)));
            left = left_unseen rest ms vs z e1 hm n;
            right = right_unseen us ns rest2 z2 e2 hn n2;
          };
        }

-- the climb is over, and no node is queued
pub over : (f : Layout) (row : List ℕ) (a : Climber) → Ready f row a → a.tail ≤ a.head → Over f row a.stages.items
over f row a r ge = record {
  climb = r.kept.climb;
  apart = r.free.apart;
  no_run = r.free.runs;
  no_queue = no_queued f row a r.kept ge;
}

pub parked_cases : (s : Stage) → parked_one s ≡ 1 → (s ≡ Blocked) ⊎ (s ≡ Top)
parked_cases Unseen e = absurd (omega arith)
parked_cases Queued e = absurd (omega arith)
parked_cases Blocked e = inl refl
parked_cases Top e = inr refl
parked_cases InRun e = absurd (omega arith)
parked_cases (Placed m) e = absurd (omega arith)

pub parked_open : (s : Stage) → parked_one s ≡ 1 → IsOpen s
parked_open s e = elim (parked_cases s e) [ inl q ↦ subst (λ z. IsOpen z) (sym q) tt | inr q ↦ subst (λ z. IsOpen z) (sym q) tt ]

-- only the root is a top that was seen
top_is_root : (f : Layout) (row : List ℕ) (st : List Stage) (y : ℕ) → IsLayout f → AreLeaves f row → Climb f row st → stage st y ≡ Top → y ≡ f.root
top_is_root f row st y h w c e =
    let m = reached_meets f row st c y (c.reached y (seen_by (stage st y) Top e tt)) in
    sym (top_alone f f.root y (c.tops y e) (root_above f y m.0 h (w.below m.0 m.1) m.2))

pub not_in : (ks : List ℕ) (z : ℕ) → (1 ≤ occurs ks z → ⊥) → occurs ks z ≡ 0
not_in ks z h = elim (cases_lt 0 (occurs ks z)) [ inl l ↦ absurd (h l) | inr l ↦ omega arith ]

-- the top and a parked node beside it
pub top_apart : (f : Layout) (row : List ℕ) (a : Climber) (y : ℕ) → IsLayout f → AreLeaves f row → IsFull f → Ready f row a → a.tail ≤ a.head → a.parked ≢ 1 → 1 ≤ a.parked →
    stage a.stages.items y ≡ Top → Split f row
top_apart f row a y h w u r ge ne1 some top =
    let st : List Stage = a.stages.items in
    let v : Over f row st = over f row a r ge in
    let z = another st y (ap parked_one top) (let c : a.parked ≡ sum_by parked_one st = r.kept.count in omega arith) in
    let zb : stage st z.0 ≡ Blocked = (elim (parked_cases (stage st z.0) z.2) [
      | inl e ↦ e
      | inr e ↦ absurd (z.1 (top_is_root f row st z.0 h w r.kept.climb e ∙ sym (top_is_root f row st y h w r.kept.climb top)))
    ]) in
    let m : Hem f st z.0 = hem f row st z.0 h v zb in
    two_apart f row st z.0 y h w u v m (subst (λ s. IsOpen s) (sym top) tt)
    (not_in m.ks y (λ o. let q = sym (m.all y o) ∙ top in cc)) (λ e. absurd (let q = sym e ∙ top in cc))

-- the run and a parked node outside it
pub whole_apart : (f : Layout) (row : List ℕ) (a w : Climber) (y : ℕ) → IsLayout f → AreLeaves f row → IsFull f → Ready f row a → a.tail ≤ a.head → Whole f row a w y → w.parked ≢ 0 → Split f row
whole_apart f row a w y h rw u r ge t some =
    let z = some_parked w.stages.items (let c : w.parked ≡ sum_by parked_one w.stages.items = t.kept.count in omega arith) in
    let zn : stage w.stages.items z.0 ≢ InRun = (λ e. let p : parked_one (stage w.stages.items z.0) ≡ 1 = z.1 in let q : parked_one (stage w.stages.items z.0) ≡ 0 = ap parked_one e in absurd (omega arith)) in
    let zp : parked_one (stage a.stages.items z.0) ≡ 1 = ap parked_one (sym (t.same z.0 zn)) ∙ z.1 in
    let v : Over f row a.stages.items = over f row a r ge in
    two_apart f row a.stages.items y z.0 h rw u v
    (record { q = t.q; ks = t.ks; all = λ k o. t.was k (t.run.in_run k o); has = t.run.only y t.has; hemmed = hems t.us t.vs t.ks t.run.kids_are t.run.left t.run.right t.left_stop t.right_stop (t.run.only y t.has) (λ k o. t.was k (t.run.in_run k o)) (λ k e. t.run.only k e) })
    (parked_open (stage a.stages.items z.0) zp) (not_in t.ks z.0 (λ o. zn (t.run.in_run z.0 o))) (λ e. hem f row a.stages.items z.0 h v e)
  where
    off2 : (ks : List ℕ) (x : ℕ) → ((k : ℕ) → stage w.stages.items k ≡ InRun → 1 ≤ occurs ks k) → occurs ks x ≡ 0 → stage w.stages.items x ≢ Blocked → stage a.stages.items x ≢ Blocked
    off2 ks x only none_is nb b = elim (in_run_or (stage w.stages.items x)) [
      | inl i ↦ let o : 1 ≤ occurs ks x = only x i in absurd (omega arith)
      | inr n ↦ nb (t.same x n ∙ b)
    ]

    hems : (us vs ks : List ℕ) → children_at f t.q ≡ us ++ (ks ++ vs) → 1 ≤ length us → 1 ≤ length vs → stage w.stages.items (last_or us none) ≢ Blocked →
        stage w.stages.items (head_or vs none) ≢ Blocked → 1 ≤ occurs ks y → ((k : ℕ) → 1 ≤ occurs ks k → stage a.stages.items k ≡ Blocked) →
        ((k : ℕ) → stage w.stages.items k ≡ InRun → 1 ≤ occurs ks k) → Hemmed f a.stages.items t.q ks
    hems [] vs ks e l rr ls rs o all only = absurd (omega arith)
    hems (x ∷ us) [] ks e l rr ls rs o all only = absurd (omega arith)
    hems (x ∷ us) (z ∷ vs) [] e l rr ls rs o all only = absurd (omega arith)
    hems (x ∷ us) (z ∷ vs) (k ∷ ks) e l rr ls rs o all only =
        let v : Over f row a.stages.items = over f row a r ge in
        let p : Last (x ∷ us) (last_or us x) = last_split x us in
        let s : Last (k ∷ ks) (last_or ks k) = last_split k ks in
        let zl : ℕ = last_or us x in
        let e1 : children_at f t.q ≡ p.front ++ zl ∷ (k ∷ ks ++ z ∷ vs) = e ∙ ap (λ c. c ++ (k ∷ ks ++ z ∷ vs)) p.is ∙ append_assoc p.front (zl ∷ []) (k ∷ ks ++ z ∷ vs) in
        let e2 : children_at f t.q ≡ ((x ∷ us) ++ s.front) ++ last_or ks k ∷ (z ∷ vs) =
        e ∙ ap (λ c. (x ∷ us) ++ (c ++ z ∷ vs)) s.is ∙ ap (λ c. (x ∷ us) ++ c) (append_assoc s.front (last_or ks k ∷ []) (z ∷ vs)) ∙ sym (append_assoc (x ∷ us) s.front (last_or ks k ∷ (z ∷ vs))) in
        let total : (n : ℕ) → occurs (children_at f t.q) n ≡ occurs (x ∷ us) n + (occurs (k ∷ ks) n + occurs (z ∷ vs) n) =
        (λ n. ap (λ c. occurs c n) e ∙ occurs-append (x ∷ us) (k ∷ ks ++ z ∷ vs) n ∙ ap (λ c. occurs (x ∷ us) n + c) (occurs-append (k ∷ ks) (z ∷ vs) n)) in
        let once : (n : ℕ) → occurs (children_at f t.q) n ≤ 1 = (λ n. let a1 : occurs (children_at f t.q) n ≤ times_child f.slots n = children_times f t.q n in let a2 : times_child f.slots n ≤ 1 = h.once n in omega arith) in
        let zl_off : occurs (k ∷ ks) zl ≡ 0 = (let t1 : occurs (children_at f t.q) zl ≡ occurs (x ∷ us) zl + (occurs (k ∷ ks) zl + occurs (z ∷ vs) zl) = total zl in
        let t2 : occurs (children_at f t.q) zl ≤ 1 = once zl in let t3 : 1 ≤ occurs (x ∷ us) zl = occurs_last us x in omega arith) in
        let z_off : occurs (k ∷ ks) z ≡ 0 = (let t1 : occurs (children_at f t.q) z ≡ occurs (x ∷ us) z + (occurs (k ∷ ks) z + occurs (z ∷ vs) z) = total z in
        let t2 : occurs (children_at f t.q) z ≤ 1 = once z in let t3 : 1 ≤ occurs (z ∷ vs) z = occurs_here z vs in omega arith) in
        record {
          us = p.front;
          zl = zl;
          zr = z;
          vs = vs;
          is_q = t.run.is_q;
          kids_are = e1;
          left = next_unseen f row a.stages.items t.q k zl v (behind t.q p.front (ks ++ z ∷ vs) t.run.is_q e1) (child_at f t.q zl p.front (k ∷ ks ++ z ∷ vs) e1)
              (all k (occurs_here k ks)) (off2 (k ∷ ks) zl only zl_off ls);
          right = next_unseen f row a.stages.items t.q (last_or ks k) z v (before t.q ((x ∷ us) ++ s.front) vs t.run.is_q e2)
              (child_at f t.q z ((x ∷ us) ++ (k ∷ ks)) vs (e ∙ sym (append_assoc (x ∷ us) (k ∷ ks) (z ∷ vs))))
              (all (last_or ks k) (occurs_last ks k)) (off2 (k ∷ ks) z only z_off rs);
        }

pub blocked_of : (st : List Stage) (y : ℕ) (s : Stage) → parked_one (stage st y) ≡ 1 → s ≡ stage st y → s ≢ Top → stage st y ≡ Blocked
blocked_of st y s p e n = elim (parked_cases (stage st y) p) [ inl q ↦ q | inr q ↦ absurd (n (e ∙ q)) ]
