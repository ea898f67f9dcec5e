-- The templates look only at empty and full children: a partial child counts by its label alone.
use Rattle.std.proofs.Common.{◌≡◌, inl, inr, Bool, List, [], ◌∷◌, ◌++◌, Option, Some, None, reverse, refl, sym, ap, subst, ◌∙◌}
use Rattle.std.proofs.lemmas.List.{reverse-append}
use Rattle.pq_tree.specs.Outline.{Outline, Forest, no_tree, tree_and}
use Rattle.pq_tree.specs.Forests.{join, back}
use Rattle.tree_theory.specs.Templates.{Partial, Label, empty_label, full_label, partial_label, IsSorted, none_sorted, to_empty, to_full, to_partial, AreAllFull, AreAllEmpty, IsRun, run_full, run_partial, run_more, IsTail, tail_empty, tail_partial, tail_more, IsTwoSidedRun, span_tail, span_partial, span_more, IsP1, IsP2, IsP3, IsP4, IsP5, IsP6, IsQ1, IsQ2, IsQ3}

-- the trees are alike, but where the label is partial
abbrev pub Agree : Forest → Forest → List Label → Type 0
Agree no_tree no_tree ps = ps ≡ []
Agree no_tree (tree_and u us) ps = ⊥
Agree (tree_and t ts) no_tree ps = ⊥
Agree (tree_and t ts) (tree_and u us) [] = ⊥
Agree (tree_and t ts) (tree_and u us) (empty_label ∷ ps) = (t ≡ u) × Agree ts us ps
Agree (tree_and t ts) (tree_and u us) (full_label ∷ ps) = (t ≡ u) × Agree ts us ps
Agree (tree_and t ts) (tree_and u us) (partial_label h ∷ ps) = Agree ts us ps

pub agree_sym : (ts us : Forest) (ps : List Label) → Agree ts us ps → Agree us ts ps
agree_sym no_tree no_tree ps a = a
agree_sym no_tree (tree_and u us) ps a = absurd a
agree_sym (tree_and t ts) no_tree ps a = absurd a
agree_sym (tree_and t ts) (tree_and u us) [] a = absurd a
agree_sym (tree_and t ts) (tree_and u us) (empty_label ∷ ps) a = (sym a.0, agree_sym ts us ps a.1)
agree_sym (tree_and t ts) (tree_and u us) (full_label ∷ ps) a = (sym a.0, agree_sym ts us ps a.1)
agree_sym (tree_and t ts) (tree_and u us) (partial_label h ∷ ps) a = agree_sym ts us ps a

agree_join : (ts us ts' us' : Forest) (ps qs : List Label) → Agree ts us ps → Agree ts' us' qs → Agree (join ts ts') (join us us') (ps ++ qs)
agree_join no_tree no_tree ts' us' ps qs a b = subst (λ z. Agree ts' us' (z ++ qs)) (sym a) b
agree_join no_tree (tree_and u us) ts' us' ps qs a b = absurd a
agree_join (tree_and t ts) no_tree ts' us' ps qs a b = absurd a
agree_join (tree_and t ts) (tree_and u us) ts' us' [] qs a b = absurd a
agree_join (tree_and t ts) (tree_and u us) ts' us' (empty_label ∷ ps) qs a b = (a.0, agree_join ts us ts' us' ps qs a.1 b)
agree_join (tree_and t ts) (tree_and u us) ts' us' (full_label ∷ ps) qs a b = (a.0, agree_join ts us ts' us' ps qs a.1 b)
agree_join (tree_and t ts) (tree_and u us) ts' us' (partial_label h ∷ ps) qs a b = agree_join ts us ts' us' ps qs a b

agree_back : (ts us : Forest) (ps : List Label) → Agree ts us ps → Agree (back ts) (back us) (reverse ps)
agree_back no_tree no_tree ps a = subst (λ z. Agree no_tree no_tree (reverse z)) (sym a) refl
agree_back no_tree (tree_and u us) ps a = absurd a
agree_back (tree_and t ts) no_tree ps a = absurd a
agree_back (tree_and t ts) (tree_and u us) [] a = absurd a
agree_back (tree_and t ts) (tree_and u us) (empty_label ∷ ps) a =
    subst (λ z. Agree (join (back ts) (tree_and t no_tree)) (join (back us) (tree_and u no_tree)) z) (sym (reverse-append (empty_label ∷ []) ps))
    (agree_join (back ts) (back us) (tree_and t no_tree) (tree_and u no_tree) (reverse ps) (empty_label ∷ []) (agree_back ts us ps a.1) (a.0, refl))
agree_back (tree_and t ts) (tree_and u us) (full_label ∷ ps) a =
    subst (λ z. Agree (join (back ts) (tree_and t no_tree)) (join (back us) (tree_and u no_tree)) z) (sym (reverse-append (full_label ∷ []) ps))
    (agree_join (back ts) (back us) (tree_and t no_tree) (tree_and u no_tree) (reverse ps) (full_label ∷ []) (agree_back ts us ps a.1) (a.0, refl))
agree_back (tree_and t ts) (tree_and u us) (partial_label h ∷ ps) a =
    subst (λ z. Agree (join (back ts) (tree_and t no_tree)) (join (back us) (tree_and u no_tree)) z) (sym (reverse-append (partial_label h ∷ []) ps))
    (agree_join (back ts) (back us) (tree_and t no_tree) (tree_and u no_tree) (reverse ps) (partial_label h ∷ []) (agree_back ts us ps a) refl)

sorted_moved : {ts es fs : Forest} {ps : List Label} {hs : List Partial} → IsSorted ts ps es fs hs → (us : Forest) → Agree ts us ps → IsSorted us ps es fs hs
sorted_moved none_sorted no_tree a = none_sorted
sorted_moved none_sorted (tree_and u us) a = absurd a
sorted_moved (to_empty s) no_tree a = absurd a
sorted_moved (to_empty {t = t} {es = es} {fs = fs} {ps = ps} {hs = hs} s) (tree_and u us) a =
    subst (λ z. IsSorted (tree_and z us) (empty_label ∷ ps) (tree_and t es) fs hs) a.0 (to_empty (sorted_moved s us a.1))
sorted_moved (to_full s) no_tree a = absurd a
sorted_moved (to_full {t = t} {es = es} {fs = fs} {ps = ps} {hs = hs} s) (tree_and u us) a =
    subst (λ z. IsSorted (tree_and z us) (full_label ∷ ps) es (tree_and t fs) hs) a.0 (to_full (sorted_moved s us a.1))
sorted_moved (to_partial s) no_tree a = absurd a
sorted_moved (to_partial s) (tree_and u us) a = to_partial (sorted_moved s us a)

-- where no label is partial the trees are alike
pub agree_same : {ts es fs : Forest} {ps : List Label} {hs : List Partial} → IsSorted ts ps es fs hs → hs ≡ [] → (us : Forest) → Agree ts us ps → ts ≡ us
agree_same none_sorted e no_tree a = refl
agree_same none_sorted e (tree_and u us) a = absurd a
agree_same (to_empty s) e no_tree a = absurd a
agree_same (to_empty {t = t} {ts = ts} s) e (tree_and u us) a = ap (λ z. tree_and z ts) a.0 ∙ ap (λ z. tree_and u z) (agree_same s e us a.1)
agree_same (to_full s) e no_tree a = absurd a
agree_same (to_full {t = t} {ts = ts} s) e (tree_and u us) a = ap (λ z. tree_and z ts) a.0 ∙ ap (λ z. tree_and u z) (agree_same s e us a.1)
agree_same (to_partial s) e us a = absurd (cc)

all_full_moved : (ts us : Forest) (ps : List Label) → Agree ts us ps → AreAllFull ts ps → AreAllFull us ps
all_full_moved ts us ps a s = let e : ts ≡ us = agree_same s refl us a in subst (λ z. AreAllFull z ps) e s

all_empty_moved : (ts us : Forest) (ps : List Label) → Agree ts us ps → AreAllEmpty ts ps → AreAllEmpty us ps
all_empty_moved ts us ps a s = let e : ts ≡ us = agree_same s refl us a in subst (λ z. AreAllEmpty z ps) e s

run_moved : {ts es fs : Forest} {ps : List Label} {h : Option Partial} → IsRun ts ps es h fs → (us : Forest) → Agree ts us ps → IsRun us ps es h fs
run_moved (run_full {ts = ts} {ps = ps} s) us a = let e : ts ≡ us = agree_same s refl us a in subst (λ z. IsRun z ps no_tree None ts) e (run_full s)
run_moved (run_partial s) no_tree a = absurd a
run_moved (run_partial {ts = ts} {ps = ps} {h = h} s) (tree_and u us) a =
    let e : ts ≡ us = agree_same s refl us a in
    subst (λ z. IsRun (tree_and u us) (partial_label h ∷ ps) no_tree (Some h) z) (sym e) (run_partial (subst (λ z. AreAllFull z ps) e s))
run_moved (run_more r) no_tree a = absurd a
run_moved (run_more {t = t} {es = es} {fs = fs} {ps = ps} {h = h} r) (tree_and u us) a =
    subst (λ z. IsRun (tree_and z us) (empty_label ∷ ps) (tree_and t es) h fs) a.0 (run_more (run_moved r us a.1))

tail_moved : {ts fs gs : Forest} {ps : List Label} {k : Option Partial} → IsTail ts ps fs k gs → (us : Forest) → Agree ts us ps → IsTail us ps fs k gs
tail_moved (tail_empty {ts = ts} {ps = ps} s) us a = let e : ts ≡ us = agree_same s refl us a in subst (λ z. IsTail z ps no_tree None ts) e (tail_empty s)
tail_moved (tail_partial s) no_tree a = absurd a
tail_moved (tail_partial {ts = ts} {ps = ps} {k = k} s) (tree_and u us) a =
    let e : ts ≡ us = agree_same s refl us a in
    subst (λ z. IsTail (tree_and u us) (partial_label k ∷ ps) no_tree (Some k) z) (sym e) (tail_partial (subst (λ z. AreAllEmpty z ps) e s))
tail_moved (tail_more r) no_tree a = absurd a
tail_moved (tail_more {t = t} {fs = fs} {gs = gs} {ps = ps} {k = k} r) (tree_and u us) a =
    subst (λ z. IsTail (tree_and z us) (full_label ∷ ps) (tree_and t fs) k gs) a.0 (tail_more (tail_moved r us a.1))

span_moved : {ts es fs gs : Forest} {ps : List Label} {h k : Option Partial} → IsTwoSidedRun ts ps es h fs k gs → (us : Forest) → Agree ts us ps → IsTwoSidedRun us ps es h fs k gs
span_moved (span_tail r) us a = span_tail (tail_moved r us a)
span_moved (span_partial r) no_tree a = absurd a
span_moved (span_partial r) (tree_and u us) a = span_partial (tail_moved r us a)
span_moved (span_more r) no_tree a = absurd a
span_moved (span_more {t = t} {es = es} {fs = fs} {gs = gs} {ps = ps} {h = h} {k = k} r) (tree_and u us) a =
    subst (λ z. IsTwoSidedRun (tree_and z us) (empty_label ∷ ps) (tree_and t es) h fs k gs) a.0 (span_more (span_moved r us a.1))

-- so each template stands over both or over neither, with the same replacement
pub p1_moved : (ts us : Forest) (ps : List Label) → Agree ts us ps → IsP1 ts ps → IsP1 us ps
p1_moved ts us ps a s = all_full_moved ts us ps a s

pub p2_moved : (root : Bool) (ts us : Forest) (ps : List Label) (u : Outline) → Agree ts us ps → IsP2 root ts ps u → IsP2 root us ps u
p2_moved root ts us ps u a x = record { at = x.at; e = x.e; es = x.es; f = x.f; fs = x.fs; pattern = sorted_moved x.pattern us a; becomes = x.becomes }

pub p3_moved : (root : Bool) (ts us : Forest) (ps : List Label) (h : Partial) → Agree ts us ps → IsP3 root ts ps h → IsP3 root us ps h
p3_moved root ts us ps h a x = record { below = x.below; e = x.e; es = x.es; f = x.f; fs = x.fs; pattern = sorted_moved x.pattern us a; becomes = x.becomes }

pub p4_moved : (root : Bool) (ts us : Forest) (ps : List Label) (u : Outline) → Agree ts us ps → IsP4 root ts ps u → IsP4 root us ps u
p4_moved root ts us ps u a x = record { at = x.at; es = x.es; h = x.h; fs = x.fs; pattern = sorted_moved x.pattern us a; becomes = x.becomes }

pub p5_moved : (root : Bool) (ts us : Forest) (ps : List Label) (h : Partial) → Agree ts us ps → IsP5 root ts ps h → IsP5 root us ps h
p5_moved root ts us ps h a x = record { below = x.below; es = x.es; h = x.h; fs = x.fs; pattern = sorted_moved x.pattern us a; becomes = x.becomes }

pub p6_moved : (root : Bool) (ts us : Forest) (ps : List Label) (u : Outline) → Agree ts us ps → IsP6 root ts ps u → IsP6 root us ps u
p6_moved root ts us ps u a x = record { at = x.at; es = x.es; h = x.h; fs = x.fs; k = x.k; pattern = sorted_moved x.pattern us a; becomes = x.becomes }

pub q1_moved : (ts us : Forest) (ps : List Label) → Agree ts us ps → IsQ1 ts ps → IsQ1 us ps
q1_moved ts us ps a s = all_full_moved ts us ps a s

pub q2_moved : (ts us : Forest) (ps : List Label) (h : Partial) → Agree ts us ps → IsQ2 ts ps h → IsQ2 us ps h
q2_moved ts us ps h a x = record {
  es = x.es;
  h = x.h;
  fs = x.fs;
  pattern = elim x.pattern [ inl r ↦ inl (run_moved r us a) | inr r ↦ inr (run_moved r (back us) (agree_back ts us ps a)) ];
  not_full = λ s. x.not_full (all_full_moved us ts ps (agree_sym ts us ps a) s);
  not_empty = λ s. x.not_empty (all_empty_moved us ts ps (agree_sym ts us ps a) s);
  becomes = x.becomes;
}

pub q3_moved : (root : Bool) (ts us : Forest) (ps : List Label) (u : Outline) → Agree ts us ps → IsQ3 root ts ps u → IsQ3 root us ps u
q3_moved root ts us ps u a x = record {
  at = x.at;
  es = x.es;
  h = x.h;
  fs = x.fs;
  k = x.k;
  gs = x.gs;
  pattern = span_moved x.pattern us a;
  not_q2 = λ h q. x.not_q2 h (q2_moved us ts ps h (agree_sym ts us ps a) q);
  becomes = x.becomes;
}
