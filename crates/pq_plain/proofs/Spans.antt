-- Where labels read empty, at most one partial, full, at most one partial, empty.
use Rattle.std.proofs.Common.{◌≡◌, ◌≢◌, ◌∙◌, ◌+◌, ◌-◌, ◌≤◌, ℕ, suc, List, [], ◌∷◌, Some, None, map, take, drop, length, IsTrue, IsFalse, refl, sym, ap, ap₂, subst, arith, option_and_then}
use Rattle.std.proofs.lemmas.Bool.{cond-true, cond-false}
use Rattle.std.proofs.lemmas.List.{drop-map, length-map, length-drop, drop-drop}
use Rattle.pq_tree.specs.Outline.{Outline, no_tree, tree_and}
use Rattle.pq_tree.specs.Forests.{forest}
use Rattle.tree_theory.specs.Labels.{Label, empty_label, full_label, partial_label, partials}
use Rattle.tree_theory.proofs.Computed.{all_empty, full_more, before_more, tail_of, begins, span_of}
use Rattle.pq_plain.proofs.Places.{span_seen}
use Rattle.pq_plain.specs.Seen.{label_seen, empty_front, full_front, cut_front}
use Rattle.pq_plain.specs.AtRoot.{PartialsAt}
use Rattle.pq_plain.specs.declared.label.Label.{Label as Marked}
use Rattle.pq_plain.specs.declared.at_root.Span.{Span as Places}
use Rattle.pq_plain.proofs.Runs.{children_by, ReadsAs, ReadsNot, run_end, run_end_is, run_end_few, to_end}
use Rattle.pq_plain.specs.Cuts.{IsSpanCut}
use Rattle.pq_plain.proofs.Cutting.{span_cut, no_span_cut}

-- how many labels stand before the last empty ones, from the full ones on
tail_end : List Label → ℕ
tail_end [] = 0
tail_end (empty_label ∷ ps) = 0
tail_end (full_label ∷ ps) = suc (tail_end ps)
tail_end (partial_label h ∷ ps) = 1

tail_end_is : (ps : List Label) → tail_end ps ≡ full_front ps + cut_front (drop (full_front ps) ps)
unfolding tail_end
tail_end_is [] = refl
tail_end_is (empty_label ∷ ps) = refl
tail_end_is (full_label ∷ ps) = omega (arith, tail_end_is ps)
tail_end_is (partial_label h ∷ ps) = refl

tail_end_few : (ps : List Label) → tail_end ps ≤ length ps
unfolding tail_end
tail_end_few [] = omega arith
tail_end_few (empty_label ∷ ps) = omega arith
tail_end_few (full_label ∷ ps) = omega (arith, tail_end_few ps)
tail_end_few (partial_label h ∷ ps) = omega arith

void_front : (ps : List Label) → empty_front ps ≡ length ps → IsTrue (all_empty ps)
void_front [] e = refl
void_front (empty_label ∷ ps) e = void_front ps (omega arith)
void_front (full_label ∷ ps) e = absurd (omega arith)
void_front (partial_label h ∷ ps) e = absurd (omega arith)

not_void_front : (ps : List Label) → empty_front ps ≢ length ps → IsFalse (all_empty ps)
not_void_front [] e = absurd (e refl)
not_void_front (empty_label ∷ ps) e = not_void_front ps (λ k. e (omega arith))
not_void_front (full_label ∷ ps) e = refl
not_void_front (partial_label h ∷ ps) e = refl

void_partials : (ps : List Label) → IsTrue (all_empty ps) → partials ps ≡ []
void_partials [] h = refl
void_partials (empty_label ∷ ps) h = void_partials ps h
void_partials (full_label ∷ ps) h = cc
void_partials (partial_label g ∷ ps) h = cc

abbrev TailFits : List Outline → List Label → Type 0
TailFits = ReadsAs tail_of all_empty tail_end (λ ts ps. record { middle = forest (take (full_front ps) ts); right = partials ps; behind = forest (drop (tail_end ps) ts) })

tail_fits : (ts : List Outline) (ps : List Label) → length ts ≡ length ps → TailFits ts ps
unfolding tail_end
tail_fits = children_by TailFits (λ h. refl)
    (λ t ts ps n more h. cond-true (all_empty ps) (Some (record { middle = no_tree; right = []; behind = tree_and t (forest ts) })) None h ∙
    ap (λ hs. Some (record { middle = no_tree; right = hs; behind = tree_and t (forest ts) })) (sym (void_partials ps h)))
    (λ t ts ps n more h. ap (option_and_then (λ r. Some (full_more t r))) (more h))
    (λ t ts g ps n more h. cond-true (all_empty ps) (Some (record { middle = no_tree; right = g ∷ []; behind = forest ts })) None h ∙
    ap (λ hs. Some (record { middle = no_tree; right = g ∷ hs; behind = forest ts })) (sym (void_partials ps h)))

tail_fails : (ts : List Outline) (ps : List Label) → length ts ≡ length ps → ReadsNot tail_of all_empty tail_end ts ps
unfolding tail_end
tail_fails = children_by (ReadsNot tail_of all_empty tail_end) (λ h. cc)
    (λ t ts ps n more h. cond-false (all_empty ps) (Some (record { middle = no_tree; right = []; behind = tree_and t (forest ts) })) None h)
    (λ t ts ps n more h. ap (option_and_then (λ r. Some (full_more t r))) (more h))
    (λ t ts g ps n more h. cond-false (all_empty ps) (Some (record { middle = no_tree; right = g ∷ []; behind = forest ts })) None h)

tail_partials : (ps : List Label) → IsTrue (all_empty (drop (tail_end ps) ps)) → length (partials ps) + full_front ps ≡ tail_end ps
unfolding tail_end
tail_partials [] h = refl
tail_partials (empty_label ∷ ps) h = omega (arith, ap length (void_partials ps h))
tail_partials (full_label ∷ ps) h = omega (arith, tail_partials ps h)
tail_partials (partial_label g ∷ ps) h = omega (arith, ap length (void_partials ps h))

-- how many labels stand before the last empty ones
span_end : List Label → ℕ
span_end [] = 0
span_end (empty_label ∷ ps) = suc (span_end ps)
span_end (full_label ∷ ps) = suc (tail_end ps)
span_end (partial_label h ∷ ps) = suc (tail_end ps)

span_end_is : (ps : List Label) → span_end ps ≡ run_end ps + tail_end (drop (run_end ps) ps)
unfolding span_end run_end tail_end
span_end_is [] = refl
span_end_is (empty_label ∷ ps) = omega (arith, span_end_is ps)
span_end_is (full_label ∷ ps) = omega arith
span_end_is (partial_label h ∷ ps) = omega arith

abbrev SpanFits : List Outline → List Label → Type 0
SpanFits = ReadsAs span_of all_empty span_end (λ ts ps. record {
  before = forest (take (empty_front ps) ts);
  left = partials (take (run_end ps) ps);
  tail = record {
    middle = forest (take (full_front (drop (run_end ps) ps)) (drop (run_end ps) ts));
    right = partials (drop (run_end ps) ps);
    behind = forest (drop (span_end ps) ts);
  };
})

span_fits : (ts : List Outline) (ps : List Label) → length ts ≡ length ps → SpanFits ts ps
unfolding span_end run_end tail_end
span_fits = children_by SpanFits (λ h. refl)
    (λ t ts ps n more h. ap (option_and_then (λ r. Some (before_more t r))) (more h))
    (λ t ts ps n more h. ap (option_and_then (λ r. Some (begins [] (full_more t r)))) (tail_fits ts ps n h))
    (λ t ts g ps n more h. ap (option_and_then (λ r. Some (begins (g ∷ []) r))) (tail_fits ts ps n h))

span_fails : (ts : List Outline) (ps : List Label) → length ts ≡ length ps → ReadsNot span_of all_empty span_end ts ps
unfolding span_end run_end tail_end
span_fails = children_by (ReadsNot span_of all_empty span_end) (λ h. cc)
    (λ t ts ps n more h. ap (option_and_then (λ r. Some (before_more t r))) (more h))
    (λ t ts ps n more h. ap (option_and_then (λ r. Some (begins [] (full_more t r)))) (tail_fails ts ps n h))
    (λ t ts g ps n more h. ap (option_and_then (λ r. Some (begins (g ∷ []) r))) (tail_fails ts ps n h))

left_partials : (ps : List Label) → length (partials (take (run_end ps) ps)) + empty_front ps ≡ run_end ps
unfolding run_end
left_partials [] = refl
left_partials (empty_label ∷ ps) = omega (arith, left_partials ps)
left_partials (full_label ∷ ps) = refl
left_partials (partial_label g ∷ ps) = refl

cut_few : (ps : List Label) → cut_front ps ≤ 1
cut_few [] = omega arith
cut_few (empty_label ∷ ps) = omega arith
cut_few (full_label ∷ ps) = omega arith
cut_few (partial_label h ∷ ps) = omega arith

drop_sum : (l f : ℕ) (ps : List Label) → drop (l + f) ps ≡ drop f (drop l ps)
drop_sum l f ps = sym (drop-drop f l ps)

-- as the program finds them
module _ (ls : List Marked) (b n l f r m q v : ℕ) (before : b ≡ empty_front (map label_seen ls)) (cut : n ≡ cut_front (map label_seen (take (length ls - b) (drop b ls)))) (from : l ≡ b + n)
    (full : f ≡ full_front (map label_seen (take (length ls - l) (drop l ls)))) (to : r ≡ l + f) (again : m ≡ cut_front (map label_seen (take (length ls - r) (drop r ls)))) (end : q ≡ r + m)
    (empty : v ≡ empty_front (map label_seen (take (length ls - q) (drop q ls)))) where
  at : (i : ℕ) → map label_seen (take (length ls - i) (drop i ls)) ≡ drop i (map label_seen ls)
  at i = ap (map label_seen) (to_end i ls) ∙ sym (drop-map label_seen i ls)

  from_is : l ≡ run_end (map label_seen ls)
  from_is =
      from ∙
      ap (λ x. b + x) (cut ∙ ap cut_front (at b)) ∙
      ap (λ x. x + cut_front (drop x (map label_seen ls))) before ∙
      sym (run_end_is (map label_seen ls))

  full_is : f ≡ full_front (drop l (map label_seen ls))
  full_is = full ∙ ap full_front (at l)

  again_is : m ≡ cut_front (drop f (drop l (map label_seen ls)))
  again_is = again ∙ ap cut_front (at r ∙ ap (λ x. drop x (map label_seen ls)) to ∙ drop_sum l f (map label_seen ls))

  tail_is : f + m ≡ tail_end (drop l (map label_seen ls))
  tail_is =
      ap (λ x. f + x) again_is ∙
      ap (λ x. x + cut_front (drop x (drop l (map label_seen ls)))) full_is ∙
      sym (tail_end_is (drop l (map label_seen ls)))

  end_is : q ≡ span_end (map label_seen ls)
  end_is =
      let s : q ≡ l + (f + m) = omega arith in
      s ∙ ap (λ x. l + x) tail_is ∙ ap (λ x. x + tail_end (drop x (map label_seen ls))) from_is ∙ sym (span_end_is (map label_seen ls))

  size : length (map label_seen ls) ≡ length ls
  size = length-map ls label_seen

  rest_empty : empty_front (drop (span_end (map label_seen ls)) (map label_seen ls)) ≡ v
  rest_empty = ap (λ x. empty_front (drop x (map label_seen ls))) (sym end_is) ∙ sym (empty ∙ ap empty_front (at q))

  rest_size : length (drop (span_end (map label_seen ls)) (map label_seen ls)) ≡ length ls - q
  rest_size = length-drop (span_end (map label_seen ls)) (map label_seen ls) ∙ ap₂ (λ x y. x - y) size (sym end_is)

  few : q ≤ length ls
  few =
      omega (arith, end_is, span_end_is (map label_seen ls), run_end_few (map label_seen ls), tail_end_few (drop (run_end (map label_seen ls)) (map label_seen ls)), length-drop (run_end (map label_seen ls)) (map label_seen ls), size)

  is_void : q + v ≡ length ls → IsTrue (all_empty (drop (span_end (map label_seen ls)) (map label_seen ls)))
  is_void h = void_front (drop (span_end (map label_seen ls)) (map label_seen ls)) (omega (arith, h, rest_empty, rest_size))

  span_found : q + v ≡ length ls → (ts : List Outline) → length ts ≡ length ls →
      let s : Places = record { before = b; full_from = l; full_to = r; behind = q } in span_of (forest ts) (map label_seen ls) ≡ Some (span_seen ts (map label_seen ls) s)
  span_found h ts k =
      let width : full_front (drop (run_end (map label_seen ls)) (map label_seen ls)) ≡ r - l =
      ap (λ x. full_front (drop x (map label_seen ls))) (sym from_is) ∙ sym full_is ∙ omega arith in
      span_fits ts (map label_seen ls) (k ∙ sym size) (is_void h) ∙
      ap₂
      (λ x y. Some (record {
        before = forest (take x ts);
        left = partials (take (run_end (map label_seen ls)) (map label_seen ls));
        tail = record {
          middle = forest (take y (drop (run_end (map label_seen ls)) ts));
          right = partials (drop (run_end (map label_seen ls)) (map label_seen ls));
          behind = forest (drop (span_end (map label_seen ls)) ts);
        };
      }))
      (sym before) width ∙
      ap₂
      (λ x y. Some (record {
        before = forest (take b ts);
        left = partials (take x (map label_seen ls));
        tail = record { middle = forest (take (r - l) (drop x ts)); right = partials (drop x (map label_seen ls)); behind = forest (drop y ts) };
      }))
      (sym from_is) (sym end_is)

  span_missing : q + v ≢ length ls → (ts : List Outline) → length ts ≡ length ls → span_of (forest ts) (map label_seen ls) ≡ None
  span_missing h ts k =
      span_fails ts (map label_seen ls) (k ∙ sym size)
      (not_void_front (drop (span_end (map label_seen ls)) (map label_seen ls)) (λ x. h (omega (arith, x, few, rest_empty, rest_size))))

  pub span_partials : q + v ≡ length ls → let s : Places = record { before = b; full_from = l; full_to = r; behind = q } in PartialsAt (map label_seen ls) s
  span_partials h =
      let a : length (partials (take l (map label_seen ls))) + empty_front (map label_seen ls) ≡ l =
      subst (λ x. length (partials (take x (map label_seen ls))) + empty_front (map label_seen ls) ≡ x) (sym from_is) (left_partials (map label_seen ls)) in
      let cut_at : drop (tail_end (drop l (map label_seen ls))) (drop l (map label_seen ls)) ≡ drop (span_end (map label_seen ls)) (map label_seen ls) =
      sym (drop_sum l (tail_end (drop l (map label_seen ls))) (map label_seen ls)) ∙ ap (λ x. drop x (map label_seen ls)) (ap (λ x. l + x) (sym tail_is) ∙ omega arith ∙ end_is) in
      let c : length (partials (drop l (map label_seen ls))) + full_front (drop l (map label_seen ls)) ≡ tail_end (drop l (map label_seen ls)) =
      tail_partials (drop l (map label_seen ls)) (subst (λ x. IsTrue (all_empty x)) (sym cut_at) (is_void h)) in
      let k1 : n ≤ 1 = omega (arith, cut, cut_few (map label_seen (take (length ls - b) (drop b ls)))) in
      let k2 : m ≤ 1 = omega (arith, again, cut_few (map label_seen (take (length ls - r) (drop r ls)))) in
      record {
        left = omega (arith, a, before);
        right = omega (arith, c, tail_is, full_is, end, to);
        few_left = omega (arith, from, k1);
        few_right = omega (arith, end, k2);
      }

  pub cut_found : q + v ≡ length ls → (ts : List Outline) → length ts ≡ length ls → IsSpanCut ts (map label_seen ls) (Some (record { before = b; full_from = l; full_to = r; behind = q }))
  cut_found h ts k = span_cut ts (map label_seen ls) (record { before = b; full_from = l; full_to = r; behind = q }) (size ∙ sym k) (span_found h ts k)

  pub cut_missing : q + v ≢ length ls → (ts : List Outline) → length ts ≡ length ls → IsSpanCut ts (map label_seen ls) None
  cut_missing h ts k = no_span_cut ts (map label_seen ls) (span_missing h ts k)
