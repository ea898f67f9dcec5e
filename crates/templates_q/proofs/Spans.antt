-- The pattern of Q3 by the labels of the nodes in line.
use Rattle.std.proofs.Common.{◌≡◌, ℕ, ◌≤◌, List, [], ◌∷◌, ◌++◌, map, length, Option, Some, None, refl, sym, ap, subst, ◌∙◌, arith, reverse, append_assoc}
use Rattle.std.proofs.lemmas.List.{length-reverse}
use Rattle.pq_tree.specs.Outline.{Outline, Forest}
use Rattle.pq_tree.specs.Forests.{forest}
use Rattle.tree_theory.specs.Templates.{Partial, Label, empty_label, full_label, partial_label, IsTail, tail_empty, tail_partial, tail_more, IsTwoSidedRun, span_tail, span_partial, span_more}
use Rattle.bubble_pass.specs.declared.labels.Label.{Label as Mark}
use Rattle.bubble_pass.specs.declared.labels.Label.TheVariants.{Empty, Partial as Partly, Full}
use Rattle.bubble_pass.specs.Marks.{Marks, label_at}
use Rattle.template_model.specs.Standing.{mark_of}
use Rattle.templates_q.specs.Walk.{AreAll}
use Rattle.templates_q.proofs.Lines.{all_reverse, reverse_three}
use Rattle.templates_q.proofs.Runs.{cons_head, cons_tail, empty_sorted, sorted_empty, Parts, IsPart}

-- empty nodes, at most one partial one, full ones, at most one partial one, and empty ones
pub record IsSpanLine (w : Marks) (ks : List ℕ) : Type 0 where
  pub es : List ℕ
  pub ps : List ℕ
  pub fs : List ℕ
  pub ls : List ℕ
  pub gs : List ℕ
  pub is : ks ≡ es ++ (ps ++ (fs ++ (ls ++ gs)))
  pub empty : AreAll Empty w es
  pub first : AreAll Partly w ps
  pub one : length ps ≤ 1
  pub full : AreAll Full w fs
  pub last : AreAll Partly w ls
  pub one_more : length ls ≤ 1
  pub behind : AreAll Empty w gs

-- what is asked behind a node: the same again where it has this label, else something other
abbrev pub StayBy : Mark → Mark → Type 0 → Type 0 → Type 0
StayBy Empty Empty on off = on
StayBy Full Full on off = on
StayBy stay l on off = off

-- Read from one end, node by node: behind full nodes, or behind the first partial one, come full ones, then one partial
-- one or an empty one, and from there on empty ones.
abbrev pub MidLine : Marks → List ℕ → Type 0
MidLine w [] = Unit {0}
MidLine w (x ∷ xs) = StayBy Full (label_at w x) (MidLine w xs) (AreAll Empty w xs)

-- before them come empty ones
abbrev pub SpanLine : Marks → List ℕ → Type 0
SpanLine w [] = Unit {0}
SpanLine w (x ∷ xs) = StayBy Empty (label_at w x) (SpanLine w xs) (MidLine w xs)

-- one step over a node with a label
mid_full : (w : Marks) (x : ℕ) (xs : List ℕ) → label_at w x ≡ Full → MidLine w xs → MidLine w (x ∷ xs)
mid_full w x xs e m = subst (λ l. StayBy Full l (MidLine w xs) (AreAll Empty w xs)) (sym e) m

mid_partial : (w : Marks) (x : ℕ) (xs : List ℕ) → label_at w x ≡ Partly → AreAll Empty w xs → MidLine w (x ∷ xs)
mid_partial w x xs e m = subst (λ l. StayBy Full l (MidLine w xs) (AreAll Empty w xs)) (sym e) m

mid_empty : (w : Marks) (x : ℕ) (xs : List ℕ) → label_at w x ≡ Empty → AreAll Empty w xs → MidLine w (x ∷ xs)
mid_empty w x xs e m = subst (λ l. StayBy Full l (MidLine w xs) (AreAll Empty w xs)) (sym e) m

front_full : (w : Marks) (x : ℕ) (xs : List ℕ) → label_at w x ≡ Full → MidLine w xs → SpanLine w (x ∷ xs)
front_full w x xs e m = subst (λ l. StayBy Empty l (SpanLine w xs) (MidLine w xs)) (sym e) m

front_partial : (w : Marks) (x : ℕ) (xs : List ℕ) → label_at w x ≡ Partly → MidLine w xs → SpanLine w (x ∷ xs)
front_partial w x xs e m = subst (λ l. StayBy Empty l (SpanLine w xs) (MidLine w xs)) (sym e) m

front_empty : (w : Marks) (x : ℕ) (xs : List ℕ) → label_at w x ≡ Empty → SpanLine w xs → SpanLine w (x ∷ xs)
front_empty w x xs e m = subst (λ l. StayBy Empty l (SpanLine w xs) (MidLine w xs)) (sym e) m

full_mid : (w : Marks) (x : ℕ) (xs : List ℕ) → label_at w x ≡ Full → MidLine w (x ∷ xs) → MidLine w xs
full_mid w x xs e m = subst (λ l. StayBy Full l (MidLine w xs) (AreAll Empty w xs)) e m

partial_mid : (w : Marks) (x : ℕ) (xs : List ℕ) → label_at w x ≡ Partly → MidLine w (x ∷ xs) → AreAll Empty w xs
partial_mid w x xs e m = subst (λ l. StayBy Full l (MidLine w xs) (AreAll Empty w xs)) e m

empty_mid : (w : Marks) (x : ℕ) (xs : List ℕ) → label_at w x ≡ Empty → MidLine w (x ∷ xs) → AreAll Empty w xs
empty_mid w x xs e m = subst (λ l. StayBy Full l (MidLine w xs) (AreAll Empty w xs)) e m

full_front : (w : Marks) (x : ℕ) (xs : List ℕ) → label_at w x ≡ Full → SpanLine w (x ∷ xs) → MidLine w xs
full_front w x xs e m = subst (λ l. StayBy Empty l (SpanLine w xs) (MidLine w xs)) e m

partial_front : (w : Marks) (x : ℕ) (xs : List ℕ) → label_at w x ≡ Partly → SpanLine w (x ∷ xs) → MidLine w xs
partial_front w x xs e m = subst (λ l. StayBy Empty l (SpanLine w xs) (MidLine w xs)) e m

empty_front : (w : Marks) (x : ℕ) (xs : List ℕ) → label_at w x ≡ Empty → SpanLine w (x ∷ xs) → SpanLine w xs
empty_front w x xs e m = subst (λ l. StayBy Empty l (SpanLine w xs) (MidLine w xs)) e m

-- nodes that are all empty
mid_all_empty : (w : Marks) (xs : List ℕ) → AreAll Empty w xs → MidLine w xs
mid_all_empty w [] a = tt
mid_all_empty w (x ∷ xs) a = mid_empty w x xs a.0 a.1

pub span_all_empty : (w : Marks) (xs : List ℕ) → AreAll Empty w xs → SpanLine w xs
span_all_empty w [] a = tt
span_all_empty w (x ∷ xs) a = front_empty w x xs a.0 (span_all_empty w xs a.1)

-- nodes sorted so stand in line
mid_parts : (w : Marks) (fs ls gs : List ℕ) → AreAll Full w fs → AreAll Partly w ls → length ls ≤ 1 → AreAll Empty w gs → MidLine w (fs ++ (ls ++ gs))
mid_parts w [] [] gs a b one c = mid_all_empty w gs c
mid_parts w [] (l ∷ []) gs a b one c = mid_partial w l gs b.0 c
mid_parts w [] (l ∷ l' ∷ ls) gs a b one c = absurd (omega arith)
mid_parts w (x ∷ fs) ls gs a b one c = mid_full w x (fs ++ (ls ++ gs)) a.0 (mid_parts w fs ls gs a.1 b one c)

span_parts : (w : Marks) (es ps fs ls gs : List ℕ) → AreAll Empty w es → AreAll Partly w ps → length ps ≤ 1 → AreAll Full w fs → AreAll Partly w ls → length ls ≤ 1 → AreAll Empty w gs →
    SpanLine w (es ++ (ps ++ (fs ++ (ls ++ gs))))
span_parts w (x ∷ es) ps fs ls gs e p one a b two c = front_empty w x (es ++ (ps ++ (fs ++ (ls ++ gs)))) e.0 (span_parts w es ps fs ls gs e.1 p one a b two c)
span_parts w [] (x ∷ []) fs ls gs e p one a b two c = front_partial w x (fs ++ (ls ++ gs)) p.0 (mid_parts w fs ls gs a b two c)
span_parts w [] (x ∷ x' ∷ ps) fs ls gs e p one a b two c = absurd (omega arith)
span_parts w [] [] (x ∷ fs) ls gs e p one a b two c = front_full w x (fs ++ (ls ++ gs)) a.0 (mid_parts w fs ls gs a.1 b two c)
span_parts w [] [] [] (x ∷ []) gs e p one a b two c = front_partial w x gs b.0 (mid_all_empty w gs c)
span_parts w [] [] [] (x ∷ x' ∷ ls) gs e p one a b two c = absurd (omega arith)
span_parts w [] [] [] [] gs e p one a b two c = span_all_empty w gs c

pub parts_line : (w : Marks) (ks : List ℕ) → IsSpanLine w ks → SpanLine w ks
parts_line w ks r = subst (SpanLine w) (sym r.is) (span_parts w r.es r.ps r.fs r.ls r.gs r.empty r.first r.one r.full r.last r.one_more r.behind)

-- and a line is sorted so
record MidParts (w : Marks) (ks : List ℕ) : Type 0 where
  fs : List ℕ
  ls : List ℕ
  gs : List ℕ
  is : ks ≡ fs ++ (ls ++ gs)
  full : AreAll Full w fs
  last : AreAll Partly w ls
  one : length ls ≤ 1
  behind : AreAll Empty w gs

parts_of_mid : (w : Marks) (ks : List ℕ) → MidLine w ks → MidParts w ks
parts_of_mid w [] m = record { fs = []; ls = []; gs = []; is = refl; full = tt; last = tt; one = omega arith; behind = tt }
parts_of_mid w (x ∷ xs) m = by (label_at w x) refl m (λ k. parts_of_mid w xs k)
  where
    by : (l : Mark) → label_at w x ≡ l → MidLine w (x ∷ xs) → (MidLine w xs → MidParts w xs) → MidParts w (x ∷ xs)
    by Empty e m again = record { fs = []; ls = []; gs = x ∷ xs; is = refl; full = tt; last = tt; one = omega arith; behind = (e, empty_mid w x xs e m) }
    by Partly e m again = record { fs = []; ls = x ∷ []; gs = xs; is = refl; full = tt; last = (e, tt); one = omega arith; behind = partial_mid w x xs e m }
    by Full e m again =
        let r = again (full_mid w x xs e m) in
        record { fs = x ∷ r.fs; ls = r.ls; gs = r.gs; is = ap (λ z. x ∷ z) r.is; full = (e, r.full); last = r.last; one = r.one; behind = r.behind }

pub line_parts : (w : Marks) (ks : List ℕ) → SpanLine w ks → IsSpanLine w ks
line_parts w [] s = record { es = []; ps = []; fs = []; ls = []; gs = []; is = refl; empty = tt; first = tt; one = omega arith; full = tt; last = tt; one_more = omega arith; behind = tt }
line_parts w (x ∷ xs) s = by (label_at w x) refl s (λ k. line_parts w xs k)
  where
    by : (l : Mark) → label_at w x ≡ l → SpanLine w (x ∷ xs) → (SpanLine w xs → IsSpanLine w xs) → IsSpanLine w (x ∷ xs)
    by Empty e s again =
        let r = again (empty_front w x xs e s) in
        record { es = x ∷ r.es; ps = r.ps; fs = r.fs; ls = r.ls; gs = r.gs; is = ap (λ z. x ∷ z) r.is; empty = (e, r.empty); first = r.first; one = r.one; full = r.full; last = r.last; one_more = r.one_more; behind = r.behind }
    by Partly e s again =
        let r = parts_of_mid w xs (partial_front w x xs e s) in
        record { es = []; ps = x ∷ []; fs = r.fs; ls = r.ls; gs = r.gs; is = ap (λ z. x ∷ z) r.is; empty = tt; first = (e, tt); one = omega arith; full = r.full; last = r.last; one_more = r.one; behind = r.behind }
    by Full e s again =
        let r = parts_of_mid w xs (full_front w x xs e s) in
        record { es = []; ps = []; fs = x ∷ r.fs; ls = r.ls; gs = r.gs; is = ap (λ z. x ∷ z) r.is; empty = tt; first = tt; one = omega arith; full = (e, r.full); last = r.last; one_more = r.one; behind = r.behind }

-- a line from its other end
pub reverse_five : (es ps fs ls gs : List ℕ) → reverse (es ++ (ps ++ (fs ++ (ls ++ gs)))) ≡ reverse gs ++ (reverse ls ++ (reverse fs ++ (reverse ps ++ reverse es)))
reverse_five es ps fs ls gs =
    reverse_three es ps (fs ++ (ls ++ gs)) ∙ ap (λ z. z ++ (reverse ps ++ reverse es)) (reverse_three fs ls gs)
    ∙ append_assoc (reverse gs) (reverse ls ++ reverse fs) (reverse ps ++ reverse es) ∙ ap (λ z. reverse gs ++ z) (append_assoc (reverse ls) (reverse fs) (reverse ps ++ reverse es))

pub span_turned : (w : Marks) (ks : List ℕ) → IsSpanLine w ks → IsSpanLine w (reverse ks)
span_turned w ks r = record {
  es = reverse r.gs;
  ps = reverse r.ls;
  fs = reverse r.fs;
  ls = reverse r.ps;
  gs = reverse r.es;
  is = ap reverse r.is ∙ reverse_five r.es r.ps r.fs r.ls r.gs;
  empty = all_reverse Empty w r.gs r.behind;
  first = all_reverse Partly w r.ls r.last;
  one = subst (λ n. n ≤ 1) (sym (length-reverse r.ls)) r.one_more;
  full = all_reverse Full w r.fs r.full;
  last = all_reverse Partly w r.ps r.first;
  one_more = subst (λ n. n ≤ 1) (sym (length-reverse r.ps)) r.one;
  behind = all_reverse Empty w r.es r.empty;
}

pub line_turned : (w : Marks) (ks : List ℕ) → SpanLine w ks → SpanLine w (reverse ks)
line_turned w ks s = parts_line w (reverse ks) (span_turned w ks (line_parts w ks s))

-- the marks of a pattern of Q3 stand in such a line
tail_line : (w : Marks) (ks : List ℕ) {ts fs gs : Forest} {ps : List Label} {k : Option Partial} → IsTail ts ps fs k gs → map mark_of ps ≡ map (label_at w) ks → MidLine w ks
tail_line w ks (tail_empty s) m = mid_all_empty w ks (sorted_empty w ks s refl refl m)
tail_line w [] (tail_partial s) m = tt
tail_line w (x ∷ ks) (tail_partial s) m = mid_partial w x ks (sym (cons_head _ _ _ _ m)) (sorted_empty w ks s refl refl (cons_tail _ _ _ _ m))
tail_line w [] (tail_more r) m = tt
tail_line w (x ∷ ks) (tail_more r) m = mid_full w x ks (sym (cons_head _ _ _ _ m)) (tail_line w ks r (cons_tail _ _ _ _ m))

tail_front : (w : Marks) (ks : List ℕ) {ts fs gs : Forest} {ps : List Label} {k : Option Partial} → IsTail ts ps fs k gs → map mark_of ps ≡ map (label_at w) ks → SpanLine w ks
tail_front w ks (tail_empty s) m = span_all_empty w ks (sorted_empty w ks s refl refl m)
tail_front w [] (tail_partial s) m = tt
tail_front w (x ∷ ks) (tail_partial s) m = front_partial w x ks (sym (cons_head _ _ _ _ m)) (mid_all_empty w ks (sorted_empty w ks s refl refl (cons_tail _ _ _ _ m)))
tail_front w [] (tail_more r) m = tt
tail_front w (x ∷ ks) (tail_more r) m = front_full w x ks (sym (cons_head _ _ _ _ m)) (tail_line w ks r (cons_tail _ _ _ _ m))

pub span_line : (w : Marks) (ks : List ℕ) {ts es fs gs : Forest} {ps : List Label} {h k : Option Partial} → IsTwoSidedRun ts ps es h fs k gs → map mark_of ps ≡ map (label_at w) ks → SpanLine w ks
span_line w ks (span_tail r) m = tail_front w ks r m
span_line w [] (span_partial r) m = tt
span_line w (x ∷ ks) (span_partial r) m = front_partial w x ks (sym (cons_head _ _ _ _ m)) (tail_line w ks r (cons_tail _ _ _ _ m))
span_line w [] (span_more r) m = tt
span_line w (x ∷ ks) (span_more r) m = front_empty w x ks (sym (cons_head _ _ _ _ m)) (span_line w ks r (cons_tail _ _ _ _ m))

-- the end of a pattern of Q3 from sorted nodes, and what its partial child becomes
pub record MadeTail (H : ℕ → Partial → Type 0) (o : ℕ → Outline) (w : Marks) (fs ls gs : List ℕ) (ps : List Label) : Type 0 where
  pub k : Option Partial
  pub tail : IsTail (forest (map o (fs ++ (ls ++ gs)))) ps (forest (map o fs)) k (forest (map o gs))
  pub last : IsPart H w ls k

pub made_tail : (H : ℕ → Partial → Type 0) (o : ℕ → Outline) (w : Marks) (fs ls gs : List ℕ) (ps : List Label) → AreAll Full w fs → AreAll Partly w ls → length ls ≤ 1 → AreAll Empty w gs →
    map mark_of ps ≡ map (label_at w) (fs ++ (ls ++ gs)) → Parts H (fs ++ (ls ++ gs)) ps → MadeTail H o w fs ls gs ps
made_tail H o w [] [] gs ps a b one c m q = record { k = None; tail = tail_empty (empty_sorted o w gs ps m c); last = tt }
made_tail H o w [] (l ∷ []) gs [] a b one c m q = absurd (cc)
made_tail H o w [] (l ∷ []) gs (empty_label ∷ ps) a b one c m q = absurd (let i : Empty ≡ Partly = cons_head _ _ _ _ m ∙ b.0 in cc)
made_tail H o w [] (l ∷ []) gs (full_label ∷ ps) a b one c m q = absurd (let i : Full ≡ Partly = cons_head _ _ _ _ m ∙ b.0 in cc)
made_tail H o w [] (l ∷ []) gs (partial_label h ∷ ps) a b one c m q = record { k = Some h; tail = tail_partial (empty_sorted o w gs ps (cons_tail _ _ _ _ m) c); last = (b.0, q.0) }
made_tail H o w [] (l ∷ l' ∷ ls) gs ps a b one c m q = absurd (omega arith)
made_tail H o w (x ∷ fs) ls gs [] a b one c m q = absurd (cc)
made_tail H o w (x ∷ fs) ls gs (empty_label ∷ ps) a b one c m q = absurd (let i : Empty ≡ Full = cons_head _ _ _ _ m ∙ a.0 in cc)
made_tail H o w (x ∷ fs) ls gs (full_label ∷ ps) a b one c m q =
    let r = made_tail H o w fs ls gs ps a.1 b one c (cons_tail _ _ _ _ m) q.1 in record { k = r.k; tail = tail_more r.tail; last = r.last }
made_tail H o w (x ∷ fs) ls gs (partial_label h ∷ ps) a b one c m q = absurd (let i : Partly ≡ Full = cons_head _ _ _ _ m ∙ a.0 in cc)

-- so the whole pattern
pub record MadeSpan (H : ℕ → Partial → Type 0) (o : ℕ → Outline) (w : Marks) (es xs fs ls gs : List ℕ) (ps : List Label) : Type 0 where
  pub h : Option Partial
  pub k : Option Partial
  pub span : IsTwoSidedRun (forest (map o (es ++ (xs ++ (fs ++ (ls ++ gs)))))) ps (forest (map o es)) h (forest (map o fs)) k (forest (map o gs))
  pub first : IsPart H w xs h
  pub last : IsPart H w ls k

pub made_span : (H : ℕ → Partial → Type 0) (o : ℕ → Outline) (w : Marks) (es xs fs ls gs : List ℕ) (ps : List Label) → AreAll Empty w es → AreAll Partly w xs → length xs ≤ 1 →
    AreAll Full w fs → AreAll Partly w ls → length ls ≤ 1 → AreAll Empty w gs →
    map mark_of ps ≡ map (label_at w) (es ++ (xs ++ (fs ++ (ls ++ gs)))) → Parts H (es ++ (xs ++ (fs ++ (ls ++ gs)))) ps → MadeSpan H o w es xs fs ls gs ps
made_span H o w [] [] fs ls gs ps e p one a b two c m q =
    let r = made_tail H o w fs ls gs ps a b two c m q in record { h = None; k = r.k; span = span_tail r.tail; first = tt; last = r.last }
made_span H o w [] (x ∷ []) fs ls gs [] e p one a b two c m q = absurd (cc)
made_span H o w [] (x ∷ []) fs ls gs (empty_label ∷ ps) e p one a b two c m q = absurd (let i : Empty ≡ Partly = cons_head _ _ _ _ m ∙ p.0 in cc)
made_span H o w [] (x ∷ []) fs ls gs (full_label ∷ ps) e p one a b two c m q = absurd (let i : Full ≡ Partly = cons_head _ _ _ _ m ∙ p.0 in cc)
made_span H o w [] (x ∷ []) fs ls gs (partial_label h ∷ ps) e p one a b two c m q =
    let r = made_tail H o w fs ls gs ps a b two c (cons_tail _ _ _ _ m) q.1 in record { h = Some h; k = r.k; span = span_partial r.tail; first = (p.0, q.0); last = r.last }
made_span H o w [] (x ∷ x' ∷ xs) fs ls gs ps e p one a b two c m q = absurd (omega arith)
made_span H o w (y ∷ es) xs fs ls gs [] e p one a b two c m q = absurd (cc)
made_span H o w (y ∷ es) xs fs ls gs (empty_label ∷ ps) e p one a b two c m q =
    let r = made_span H o w es xs fs ls gs ps e.1 p one a b two c (cons_tail _ _ _ _ m) q.1 in
    record { h = r.h; k = r.k; span = span_more r.span; first = r.first; last = r.last }
made_span H o w (y ∷ es) xs fs ls gs (full_label ∷ ps) e p one a b two c m q = absurd (let i : Full ≡ Empty = cons_head _ _ _ _ m ∙ e.0 in cc)
made_span H o w (y ∷ es) xs fs ls gs (partial_label h ∷ ps) e p one a b two c m q = absurd (let i : Partly ≡ Empty = cons_head _ _ _ _ m ∙ e.0 in cc)
