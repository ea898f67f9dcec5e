-- What Q2 makes of a Q-node.
use Rattle.std.proofs.Common.{◌≡◌, ◌≢◌, ◌⊎◌, inl, inr, ℕ, ◌+◌, ◌≤◌, List, [], ◌∷◌, ◌++◌, map, length, Option, Some, None, refl, sym, ap, subst, ◌∙◌, arith, reverse, length-append, append_assoc}
use Rattle.std.proofs.lemmas.Bool.{cases_eq, cases_lt}
use Rattle.std.proofs.lemmas.List.{reverse-reverse, reverse-append, length-reverse, length-map, map-append}
use Rattle.column_order.specs.Orders.{occurs}
use Rattle.column_order.proofs.Lists.{occurs-append}
use Rattle.arena_model.specs.declared.Shape.TheVariants.{Q}
use Rattle.arena_model.specs.Layout.{Layout, shape_at, children_at, IsLayout}
use Rattle.arena_model.specs.NamedTree.{outline_below, HasTwoEach}
use Rattle.arena_model.proofs.Lists.{occurs_here, occurs_other}
use Rattle.pq_tree.specs.Outline.{Outline, Forest}
use Rattle.pq_tree.specs.Forests.{forest, join}
use Rattle.pq_tree.proofs.Forests.{forest_append}
use Rattle.pq_tree.proofs.Turnings.{are_equivalent_refl}
use Rattle.tree_theory.specs.Templates.{Partial, Label, empty_label, full_label, partial_label, q2, IsQ2}
use Rattle.bubble_pass.specs.declared.labels.Label.{Label as Mark}
use Rattle.bubble_pass.specs.declared.labels.Label.TheVariants.{Empty, Partial as Partly, Full}
use Rattle.bubble_pass.specs.Marks.{Marks, label_at}
use Rattle.template_model.specs.Standing.{mark_of, child_trees, IsShapeAt, AreMarkedAs, AreShapesAt}
use Rattle.template_model.specs.Treated.{StandsForPartial}
use Rattle.templates_q.specs.declared.q2.PartialLine.{PartialLine}
use Rattle.templates_q.specs.Walk.{AreChildren, AreAll}
use Rattle.templates_q.specs.Splicing.{IsLineIn, IsSplicedIn, IsPartialLine}
use Rattle.templates_q.proofs.Lists.{reverse_split}
use Rattle.templates_q.proofs.Lines.{partials_in, partials_append, count_partial, all_append, all_reverse}
use Rattle.templates_q.proofs.Walks.{children_occur}
use Rattle.templates_q.proofs.Runs.{cons_head, cons_tail, full_sorted, empty_sorted, Parts, IsPart, run_of}
use Rattle.templates_q.proofs.Fitting.{marks_reverse, trees_reverse}
use Rattle.templates_q.proofs.Finding.{read_partials}
use Rattle.templates_q.proofs.Splicing.{all_of, all_from, all_has, map_same, AreSplicedIn, are_spliced, spliced_shape, spliced_tree}

-- what each child with a partial label stands as, read from either end
pub parts_shapes : (f : Layout) (w : Marks) (ks : List ℕ) (ps : List Label) → AreShapesAt f w ks ps → Parts (IsShapeAt f w) ks ps
parts_shapes f w [] ps s = tt
parts_shapes f w (k ∷ ks) [] s = tt
parts_shapes f w (k ∷ ks) (empty_label ∷ ps) s = (tt, parts_shapes f w ks ps s)
parts_shapes f w (k ∷ ks) (full_label ∷ ps) s = (tt, parts_shapes f w ks ps s)
parts_shapes f w (k ∷ ks) (partial_label h ∷ ps) s = (s.0, parts_shapes f w ks ps s.1)

parts_append : (H : ℕ → Partial → Type 0) (xs ys : List ℕ) (ps rs : List Label) → length xs ≡ length ps → Parts H xs ps → Parts H ys rs → Parts H (xs ++ ys) (ps ++ rs)
parts_append H [] ys [] rs e a b = b
parts_append H [] ys (p ∷ ps) rs e a b = absurd (omega arith)
parts_append H (x ∷ xs) ys [] rs e a b = absurd (omega arith)
parts_append H (x ∷ xs) ys (p ∷ ps) rs e a b = (a.0, parts_append H xs ys ps rs (omega arith) a.1 b)

pub parts_reverse : (H : ℕ → Partial → Type 0) (ks : List ℕ) (ps : List Label) → length ks ≡ length ps → Parts H ks ps → Parts H (reverse ks) (reverse ps)
parts_reverse H [] [] e a = tt
parts_reverse H [] (p ∷ ps) e a = absurd (omega arith)
parts_reverse H (k ∷ ks) [] e a = absurd (omega arith)
parts_reverse H (k ∷ ks) (p ∷ ps) e a =
    let n : length (reverse ks) ≡ length (reverse ps) = omega (arith, length-reverse ks, length-reverse ps) in
    let r : Parts H (reverse ks) (reverse ps) = parts_reverse H ks ps (omega arith) a.1 in
    let t : Parts H (reverse ks ++ k ∷ []) (reverse ps ++ p ∷ []) = parts_append H (reverse ks) (k ∷ []) (reverse ps) (p ∷ []) n r (a.0, tt) in
    subst (λ z. Parts H z (reverse (p ∷ ps))) (sym (reverse-append (k ∷ []) ks)) (subst (λ z. Parts H (reverse ks ++ k ∷ []) z) (sym (reverse-append (p ∷ []) ps)) t)

pub marked_length : (w : Marks) (ks : List ℕ) (ps : List Label) → map mark_of ps ≡ map (label_at w) ks → length ks ≡ length ps
marked_length w ks ps m = sym (length-map ks (label_at w)) ∙ sym (ap length m) ∙ length-map ps mark_of

-- a partial child stands as a Q-shape
pub shape_of : (f : Layout) (w : Marks) (ks : List ℕ) (ps : List Label) (c : ℕ) → map mark_of ps ≡ map (label_at w) ks → AreShapesAt f w ks ps → 1 ≤ occurs ks c → label_at w c ≡ Partly →
    (h : Partial) × IsShapeAt f w c h
shape_of f w [] ps c m s o l = absurd (omega arith)
shape_of f w (k ∷ ks) [] c m s o l = absurd s
shape_of f w (k ∷ ks) (empty_label ∷ ps) c m s o l = elim (cases_eq c k) [
  | inl e ↦ absurd (let z : Empty ≡ Partly = cons_head _ _ _ _ m ∙ ap (label_at w) (sym e) ∙ l in cc)
  | inr ne ↦ shape_of f w ks ps c (cons_tail _ _ _ _ m) s (subst (λ z. 1 ≤ z) (occurs_other k c ks ne) o) l
]
shape_of f w (k ∷ ks) (full_label ∷ ps) c m s o l = elim (cases_eq c k) [
  | inl e ↦ absurd (let z : Full ≡ Partly = cons_head _ _ _ _ m ∙ ap (label_at w) (sym e) ∙ l in cc)
  | inr ne ↦ shape_of f w ks ps c (cons_tail _ _ _ _ m) s (subst (λ z. 1 ≤ z) (occurs_other k c ks ne) o) l
]
shape_of f w (k ∷ ks) (partial_label h ∷ ps) c m s o l = elim (cases_eq c k) [
  | inl e ↦ (h, subst (λ z. IsShapeAt f w z h) (sym e) s.0)
  | inr ne ↦ shape_of f w ks ps c (cons_tail _ _ _ _ m) s.1 (subst (λ z. 1 ≤ z) (occurs_other k c ks ne) o) l
]

pub line_shape : (f : Layout) (w : Marks) (q : ℕ) (line : PartialLine) (ps : List Label) → AreMarkedAs f w q ps → AreShapesAt f w (children_at f q) ps → IsPartialLine f w q line →
    (h : Partial) × IsShapeAt f w line.child.index h
line_shape f w q line ps m s l =
    let c : ℕ = line.child.index in
    shape_of f w (children_at f q) ps c m s
    (omega (arith, children_occur f q (l.us ++ c ∷ l.vs) c l.place.children, occurs-append l.us (c ∷ l.vs) c, occurs_here c l.vs)) l.partial

-- the children as the pattern of Q2 reads them
pub record IsReadAs (f : Layout) (w : Marks) (q : ℕ) (E : Forest) (h : Option Partial) (F : Forest) : Type 0 where
  pub es : List ℕ
  pub ps : List ℕ
  pub fs : List ℕ
  pub children : AreChildren f q (es ++ (ps ++ fs))
  pub empty : AreAll Empty w es
  pub part : IsPart (IsShapeAt f w) w ps h
  pub full : AreAll Full w fs
  pub empty_trees : E ≡ forest (map (outline_below f) es)
  pub full_trees : F ≡ forest (map (outline_below f) fs)

pub read_as : (f : Layout) (w : Marks) (q : ℕ) (ps : List Label) (x : Partial) → AreMarkedAs f w q ps → AreShapesAt f w (children_at f q) ps → (i : IsQ2 (child_trees f q) ps x) → IsReadAs f w q i.es i.h i.fs
read_as f w q ps x m s i =
    let o = outline_below f in let ks = children_at f q in
    let p : Parts (IsShapeAt f w) ks ps = parts_shapes f w ks ps s in
    elim i.pattern [
      | inl run ↦ let r = run_of (IsShapeAt f w) o w ks run refl m p in
          record { es = r.es; ps = r.ps; fs = r.fs; children = inl r.is; empty = r.empty; part = r.part; full = r.full; empty_trees = r.empty_trees; full_trees = r.full_trees }
      | inr run ↦ let r = run_of (IsShapeAt f w) o w (reverse ks) run (sym (trees_reverse o ks)) (marks_reverse w ks ps m) (parts_reverse (IsShapeAt f w) ks ps (marked_length w ks ps m) p) in
          record { es = r.es; ps = r.ps; fs = r.fs; children = inr (sym (reverse-reverse ks) ∙ ap reverse r.is); empty = r.empty; part = r.part; full = r.full; empty_trees = r.empty_trees; full_trees = r.full_trees }
    ]

-- one partial node is known by its label
pub record SameSplit (us : List ℕ) (c : ℕ) (vs es : List ℕ) (d : ℕ) (fs : List ℕ) : Type 0 where
  pub left : us ≡ es
  pub node : c ≡ d
  pub right : vs ≡ fs

same_split : (w : Marks) (l m : Mark) → l ≢ Partly → m ≢ Partly → (us vs es fs : List ℕ) (c d : ℕ) → us ++ c ∷ vs ≡ es ++ d ∷ fs → AreAll l w us → AreAll m w es →
    label_at w c ≡ Partly → label_at w d ≡ Partly → SameSplit us c vs es d fs
same_split w l m nl nm [] vs [] fs c d e a b pc pd = record { left = refl; node = cc; right = cc }
same_split w l m nl nm [] vs (y ∷ es) fs c d e a b pc pd = absurd (let k : c ≡ y = cc in nm (sym b.0 ∙ ap (label_at w) (sym k) ∙ pc))
same_split w l m nl nm (x ∷ us) vs [] fs c d e a b pc pd = absurd (let k : x ≡ d = cc in nl (sym a.0 ∙ ap (label_at w) k ∙ pd))
same_split w l m nl nm (x ∷ us) vs (y ∷ es) fs c d e a b pc pd =
    let k : x ≡ y = cc in let t : us ++ c ∷ vs ≡ es ++ d ∷ fs = cc in
    let r = same_split w l m nl nm us vs es fs c d t a.1 b.1 pc pd in
    record { left = ap (λ z. z ∷ us) k ∙ ap (λ z. y ∷ z) r.left; node = r.node; right = r.right }

-- two ways to read the children are one, or one is the other turned
pub same_read : (f : Layout) (q : ℕ) (xs ys : List ℕ) → AreChildren f q xs → AreChildren f q ys → (xs ≡ ys) ⊎ (xs ≡ reverse ys)
same_read f q xs ys (inl a) (inl b) = inl (sym a ∙ b)
same_read f q xs ys (inl a) (inr b) = inr (sym a ∙ b)
same_read f q xs ys (inr a) (inl b) = inr (sym (reverse-reverse xs) ∙ ap reverse (sym a ∙ b))
same_read f q xs ys (inr a) (inr b) = inl (sym (reverse-reverse xs) ∙ ap reverse (sym a ∙ b) ∙ reverse-reverse ys)

full_empty : (w : Marks) (ks : List ℕ) → AreAll Full w ks → AreAll Empty w ks → ks ≡ []
full_empty w [] a b = refl
full_empty w (x ∷ ks) a b = absurd (let e : Full ≡ Empty = sym a.0 ∙ b.0 in cc)

empty_partial : Empty ≡ Partly → ⊥
empty_partial e = cc

full_partial : Full ≡ Partly → ⊥
full_partial e = cc

read_length : (f : Layout) (q : ℕ) (ks : List ℕ) → AreChildren f q ks → length (children_at f q) ≡ length ks
read_length f q ks (inl e) = ap length e
read_length f q ks (inr e) = ap length e ∙ length-reverse ks

-- between empty children and full ones
pub one_split : (f : Layout) (w : Marks) (q : ℕ) (us vs es fs : List ℕ) (c d : ℕ) → HasTwoEach f → shape_at f q ≡ Some Q → AreChildren f q (us ++ c ∷ vs) → AreChildren f q (es ++ d ∷ fs) →
    AreAll Empty w us → AreAll Full w vs → AreAll Empty w es → AreAll Full w fs → label_at w c ≡ Partly → label_at w d ≡ Partly → SameSplit us c vs es d fs
one_split f w q us vs es fs c d two iq x y eu fv ee ff pc pd = elim (same_read f q (us ++ c ∷ vs) (es ++ d ∷ fs) x y) [
  | inl e ↦ same_split w Empty Empty empty_partial empty_partial us vs es fs c d e eu ee pc pd
  | inr e ↦ absurd (
      let turned : AreAll Full w (reverse fs) = all_reverse Full w fs ff in
      let r = same_split w Empty Full empty_partial full_partial us vs (reverse fs) (reverse es) c d (e ∙ reverse_split es fs d) eu turned pc pd in
      let a : us ≡ [] = full_empty w us (subst (AreAll Full w) (sym r.left) turned) eu in
      let b : vs ≡ [] = full_empty w vs fv (subst (AreAll Empty w) (sym r.right) (all_reverse Empty w es ee)) in
      let n : 2 ≤ length (children_at f q) = two q (inr iq) in
      let k : length (children_at f q) ≡ length (us ++ c ∷ vs) = read_length f q (us ++ c ∷ vs) x in
      let l : length (us ++ c ∷ vs) ≡ 1 = ap (λ z. length (z ++ c ∷ vs)) a ∙ ap (λ z. length (c ∷ z)) b in omega arith)
]

-- trees side by side that stay
join_trees : (f g : Layout) (xs ys : List ℕ) (A B : Forest) → A ≡ forest (map (outline_below f) xs) → B ≡ forest (map (outline_below f) ys) →
    ((k : ℕ) → 1 ≤ occurs (xs ++ ys) k → outline_below g k ≡ outline_below f k) → join A B ≡ forest (map (outline_below g) (xs ++ ys))
join_trees f g xs ys A B a b same =
    ap (λ z. join z B) a ∙ ap (join (forest (map (outline_below f) xs))) b ∙ sym (forest_append (map (outline_below f) xs) (map (outline_below f) ys))
    ∙ ap forest (sym (map-append (outline_below f) xs ys)) ∙ ap forest (map_same f g (xs ++ ys) same)

-- where there was a partial child, the node is the Q-shape
pub line_made : (f g : Layout) (w : Marks) (q c : ℕ) (us vs : List ℕ) (h : Partial) (s : IsShapeAt f w c h) → AreSplicedIn f g q c us (s.es ++ s.fs) vs → AreAll Empty w us → AreAll Full w vs →
    (E F : Forest) → E ≡ forest (map (outline_below f) us) → F ≡ forest (map (outline_below f) vs) → IsShapeAt g w q (q2 E (Some h) F)
line_made f g w q c us vs h s a eu fv E F te tf =
    let four : us ++ ((s.es ++ s.fs) ++ vs) ≡ (us ++ s.es) ++ (s.fs ++ vs) = ap (λ z. us ++ z) (append_assoc s.es s.fs vs) ∙ sym (append_assoc us s.es (s.fs ++ vs)) in
    let new : AreChildren g q ((us ++ s.es) ++ (s.fs ++ vs)) = subst (AreChildren g q) four a.new in
    let stays = λ (k : ℕ) (o : 1 ≤ occurs (us ++ s.es) k + occurs (s.fs ++ vs) k). spliced_tree f g q c us (s.es ++ s.fs) vs a k
    (omega (arith, children_occur g q ((us ++ s.es) ++ (s.fs ++ vs)) k new, occurs-append (us ++ s.es) (s.fs ++ vs) k)) in
    record {
      es = us ++ s.es;
      fs = s.fs ++ vs;
      is_q = spliced_shape f g q c us (s.es ++ s.fs) vs a;
      children = new;
      some_empty = (let l : 1 ≤ length s.es = s.some_empty in omega (arith, length-append us s.es));
      some_full = (let l : 1 ≤ length s.fs = s.some_full in omega (arith, length-append s.fs vs));
      empty = all_from Empty w (us ++ s.es) (all_append Empty w us s.es eu (all_of Empty w s.es s.empty));
      full = all_from Full w (s.fs ++ vs) (all_append Full w s.fs vs (all_of Full w s.fs s.full) fv);
      empty_trees = join_trees f g us s.es E h.e te s.empty_trees (λ k o. stays k (omega arith));
      full_trees = join_trees f g s.fs vs h.f F s.full_trees tf (λ k o. stays k (omega arith));
    }

-- a partial child is neither empty nor full
not_between : (f : Layout) (w : Marks) (q c : ℕ) (us vs es fs : List ℕ) → AreChildren f q (us ++ c ∷ vs) → AreChildren f q (es ++ fs) → AreAll Empty w es → AreAll Full w fs → label_at w c ≡ Partly → ⊥
not_between f w q c us vs es fs x y ee ff p =
    let a : occurs (children_at f q) c ≡ occurs (us ++ c ∷ vs) c = children_occur f q (us ++ c ∷ vs) c x in
    let b : occurs (children_at f q) c ≡ occurs (es ++ fs) c = children_occur f q (es ++ fs) c y in
    let n : 1 ≤ occurs (c ∷ vs) c = occurs_here c vs in
    let m : 1 ≤ occurs es c + occurs fs c = omega (arith, occurs-append us (c ∷ vs) c, occurs-append es fs c) in
    elim (cases_lt 0 (occurs es c)) [
      | inl l ↦ empty_partial (sym (all_has Empty w es c ee l) ∙ p)
      | inr l ↦ full_partial (sym (all_has Full w fs c ff (omega arith)) ∙ p)
    ]

module _ (f g : Layout) (w : Marks) (q : ℕ) (line : PartialLine) (lf : IsLayout f) (lg : IsLayout g) (two : HasTwoEach f) (l : IsPartialLine f w q line)
    (spliced : (q : ℕ) (us vs : List ℕ) (h : Partial) → IsLineIn f q line.child.index us vs line.towards → (s : IsShapeAt f w line.child.index h) → IsSplicedIn f g q line.child.index us (s.es ++ s.fs) vs) where
  pub line_spliced : (h : Partial) (s : IsShapeAt f w line.child.index h) → AreSplicedIn f g q line.child.index l.us (s.es ++ s.fs) l.vs
  line_spliced h s = are_spliced f g w q line.child.index l.us l.vs h lf lg l.place.is_q s (spliced q l.us l.vs h l.place s)

  made_part : (es ps fs : List ℕ) (E : Forest) (h : Option Partial) (F : Forest) → AreChildren f q (es ++ (ps ++ fs)) → AreAll Empty w es → IsPart (IsShapeAt f w) w ps h → AreAll Full w fs →
      E ≡ forest (map (outline_below f) es) → F ≡ forest (map (outline_below f) fs) → IsShapeAt g w q (q2 E h F)
  made_part es [] fs E None F x ee p ff te tf = absurd (not_between f w q line.child.index l.us l.vs es fs l.place.children x ee ff l.partial)
  made_part es [] fs E (Some h) F x ee p ff te tf = absurd p
  made_part es (d ∷ ps) fs E None F x ee p ff te tf = absurd p
  made_part es (d ∷ []) fs E (Some h) F x ee p ff te tf =
      let k = one_split f w q l.us l.vs es fs line.child.index d two l.place.is_q l.place.children x l.empty l.full ee ff l.partial p.0 in
      let s : IsShapeAt f w line.child.index h = subst (λ z. IsShapeAt f w z h) (sym k.node) p.1 in
      line_made f g w q line.child.index l.us l.vs h s (line_spliced h s) l.empty l.full E F
      (te ∙ ap (λ z. forest (map (outline_below f) z)) (sym k.left)) (tf ∙ ap (λ z. forest (map (outline_below f) z)) (sym k.right))
  made_part es (d ∷ d' ∷ ps) fs E (Some h) F x ee p ff te tf = absurd p

  pub spliced_becomes : (ps : List Label) (x : Partial) → AreMarkedAs f w q ps → AreShapesAt f w (children_at f q) ps → IsQ2 (child_trees f q) ps x → IsShapeAt g w q x
  spliced_becomes ps x m s i =
      let r = read_as f w q ps x m s i in
      subst (IsShapeAt g w q) (sym i.becomes) (made_part r.es r.ps r.fs i.es i.h i.fs r.children r.empty r.part r.full r.empty_trees r.full_trees)

-- where there is none, the node was the Q-shape
read_all : (l : Mark) (f : Layout) (w : Marks) (q : ℕ) (ks : List ℕ) → AreChildren f q ks → AreAll l w ks → AreAll l w (children_at f q)
read_all l f w q ks (inl e) a = subst (AreAll l w) (sym e) a
read_all l f w q ks (inr e) a = subst (AreAll l w) (sym e) (all_reverse l w ks a)

some_left : (ks : List ℕ) → (ks ≡ [] → ⊥) → 1 ≤ length ks
some_left [] n = absurd (n refl)
some_left (k ∷ ks) n = omega arith

pub plain_becomes : (f : Layout) (w : Marks) (q : ℕ) (ps : List Label) (x : Partial) → shape_at f q ≡ Some Q → partials_in w (children_at f q) ≡ 0 → AreMarkedAs f w q ps →
    AreShapesAt f w (children_at f q) ps → IsQ2 (child_trees f q) ps x → IsShapeAt f w q x
plain_becomes f w q ps x iq none m s i =
    let r = read_as f w q ps x m s i in
    subst (IsShapeAt f w q) (sym i.becomes) (plain r.es r.ps r.fs i.es i.h i.fs r.children r.empty r.part r.full r.empty_trees r.full_trees)
  where
    o : ℕ → Outline
    o = outline_below f

    plain : (es rs fs : List ℕ) (E : Forest) (h : Option Partial) (F : Forest) → AreChildren f q (es ++ (rs ++ fs)) → AreAll Empty w es → IsPart (IsShapeAt f w) w rs h → AreAll Full w fs →
        E ≡ forest (map (outline_below f) es) → F ≡ forest (map (outline_below f) fs) → IsShapeAt f w q (q2 E h F)
    plain es [] fs E None F c ee p ff te tf = record {
      es = es;
      fs = fs;
      is_q = iq;
      children = c;
      some_empty = some_left es (λ e. i.not_full (full_sorted o w (children_at f q) ps m (read_all Full f w q fs (subst (λ z. AreChildren f q (z ++ fs)) e c) ff)));
      some_full = some_left fs (λ e. i.not_empty (empty_sorted o w (children_at f q) ps m (read_all Empty f w q (es ++ fs) c (all_append Empty w es fs ee (subst (AreAll Empty w) (sym e) tt)))));
      empty = all_from Empty w es ee;
      full = all_from Full w fs ff;
      empty_trees = te;
      full_trees = tf;
    }
    plain es [] fs E (Some h) F c ee p ff te tf = absurd p
    plain es (d ∷ rs) fs E None F c ee p ff te tf = absurd p
    plain es (d ∷ []) fs E (Some h) F c ee p ff te tf = absurd (
        let a : partials_in w (children_at f q) ≡ partials_in w (es ++ (d ∷ fs)) = read_partials f w q (es ++ (d ∷ fs)) c in
        let b : partials_in w (d ∷ []) ≡ 1 = (count_partial w (d ∷ []) (p.0, tt)).1 in omega (arith, partials_append w es (d ∷ fs), partials_append w (d ∷ []) fs))
    plain es (d ∷ d' ∷ rs) fs E (Some h) F c ee p ff te tf = absurd p

-- a Q-shape with these trees stands for the partial
pub stands_for : (g : Layout) (w : Marks) (q : ℕ) (x : Partial) → IsShapeAt g w q x → StandsForPartial g w q x
stands_for g w q x s = record { shape = x; turned = (x, are_equivalent_refl x.e, are_equivalent_refl x.f, refl); is = s }
