-- Where labels read empty, at most one partial, full.
use Rattle.std.proofs.Common.{◌≡◌, ◌≢◌, Bool, Option, ◌∙◌, ◌+◌, ◌-◌, ◌≤◌, ℕ, suc, List, [], ◌∷◌, Some, None, map, take, drop, length, IsTrue, IsFalse, refl, sym, ap, ap₂, arith, option_and_then}
use Rattle.std.proofs.lemmas.Bool.{cond-true, cond-false}
use Rattle.std.proofs.lemmas.List.{drop-map, length-map, length-drop, take_all}
use Rattle.pq_tree.specs.Outline.{Outline, Forest, no_tree, tree_and}
use Rattle.pq_tree.specs.Forests.{forest}
use Rattle.tree_theory.specs.Labels.{Partial, Label, empty_label, full_label, partial_label, partials}
use Rattle.tree_theory.proofs.Computed.{all_full, one_more, run_of}
use Rattle.pq_plain.proofs.Places.{run_seen}
use Rattle.pq_plain.specs.Seen.{label_seen, empty_front, full_front, cut_front}
use Rattle.pq_plain.specs.declared.label.Label.{Label as Marked}
use Rattle.pq_plain.specs.declared.label.Run.{Run as Places}
use Rattle.pq_plain.specs.Cuts.{IsRunCut}
use Rattle.pq_plain.proofs.Cutting.{run_cut, no_run_cut}

-- how many labels stand before the full ones
unfoldable pub run_end : List Label → ℕ
run_end [] = 0
run_end (empty_label ∷ ps) = suc (run_end ps)
run_end (full_label ∷ ps) = 0
run_end (partial_label h ∷ ps) = 1

pub run_end_is : (ps : List Label) → run_end ps ≡ empty_front ps + cut_front (drop (empty_front ps) ps)
unfolding run_end
run_end_is [] = refl
run_end_is (empty_label ∷ ps) = omega (arith, run_end_is ps)
run_end_is (full_label ∷ ps) = refl
run_end_is (partial_label h ∷ ps) = refl

pub run_end_few : (ps : List Label) → run_end ps ≤ length ps
unfolding run_end
run_end_few [] = omega arith
run_end_few (empty_label ∷ ps) = omega (arith, run_end_few ps)
run_end_few (full_label ∷ ps) = omega arith
run_end_few (partial_label h ∷ ps) = omega arith

pub filled_front : (ps : List Label) → full_front ps ≡ length ps → IsTrue (all_full ps)
filled_front [] e = refl
filled_front (empty_label ∷ ps) e = absurd (omega arith)
filled_front (full_label ∷ ps) e = filled_front ps (omega arith)
filled_front (partial_label h ∷ ps) e = absurd (omega arith)

pub not_filled_front : (ps : List Label) → full_front ps ≢ length ps → IsFalse (all_full ps)
not_filled_front [] e = absurd (e refl)
not_filled_front (empty_label ∷ ps) e = refl
not_filled_front (full_label ∷ ps) e = not_filled_front ps (λ k. e (omega arith))
not_filled_front (partial_label h ∷ ps) e = refl

filled_partials : (ps : List Label) → IsTrue (all_full ps) → partials ps ≡ []
filled_partials [] h = refl
filled_partials (empty_label ∷ ps) h = cc
filled_partials (full_label ∷ ps) h = filled_partials ps h
filled_partials (partial_label g ∷ ps) h = cc

-- what holds of trees and their labels, by one tree more at the front
pub children_by : (M : List Outline → List Label → Type 0) → M [] [] → ((t : Outline) (ts : List Outline) (ps : List Label) → length ts ≡ length ps → M ts ps → M (t ∷ ts) (empty_label ∷ ps)) →
    ((t : Outline) (ts : List Outline) (ps : List Label) → length ts ≡ length ps → M ts ps → M (t ∷ ts) (full_label ∷ ps)) →
    ((t : Outline) (ts : List Outline) (g : Partial) (ps : List Label) → length ts ≡ length ps → M ts ps → M (t ∷ ts) (partial_label g ∷ ps)) →
    (ts : List Outline) (ps : List Label) → length ts ≡ length ps → M ts ps
children_by M z e f g [] [] n = z
children_by M z e f g [] (p ∷ ps) n = absurd (omega arith)
children_by M z e f g (t ∷ ts) [] n = absurd (omega arith)
children_by M z e f g (t ∷ ts) (empty_label ∷ ps) n = e t ts ps (omega arith) (children_by M z e f g ts ps (omega arith))
children_by M z e f g (t ∷ ts) (full_label ∷ ps) n = f t ts ps (omega arith) (children_by M z e f g ts ps (omega arith))
children_by M z e f g (t ∷ ts) (partial_label h ∷ ps) n = g t ts h ps (omega arith) (children_by M z e f g ts ps (omega arith))

-- trees read as this, where the labels behind that place pass the test, and as nothing where they do not
abbrev pub ReadsAs : {R : Type 0} → (Forest → List Label → Option R) → (List Label → Bool) → (List Label → ℕ) → (List Outline → List Label → R) → List Outline → List Label → Type 0
ReadsAs read test end made ts ps = IsTrue (test (drop (end ps) ps)) → read (forest ts) ps ≡ Some (made ts ps)

abbrev pub ReadsNot : {R : Type 0} → (Forest → List Label → Option R) → (List Label → Bool) → (List Label → ℕ) → List Outline → List Label → Type 0
ReadsNot read test end ts ps = IsFalse (test (drop (end ps) ps)) → read (forest ts) ps ≡ None

-- a run, and none
abbrev RunFits : List Outline → List Label → Type 0
RunFits = ReadsAs run_of all_full run_end (λ ts ps. record { before = forest (take (empty_front ps) ts); middle = partials ps; behind = forest (drop (run_end ps) ts) })

run_fits : (ts : List Outline) (ps : List Label) → length ts ≡ length ps → RunFits ts ps
unfolding run_end
run_fits = children_by RunFits (λ h. refl)
    (λ t ts ps n more h. ap (option_and_then (λ r. Some (one_more t r))) (more h))
    (λ t ts ps n more h. cond-true (all_full ps) (Some (record { before = no_tree; middle = []; behind = tree_and t (forest ts) })) None h ∙
    ap (λ hs. Some (record { before = no_tree; middle = hs; behind = tree_and t (forest ts) })) (sym (filled_partials ps h)))
    (λ t ts g ps n more h. cond-true (all_full ps) (Some (record { before = no_tree; middle = g ∷ []; behind = forest ts })) None h ∙
    ap (λ hs. Some (record { before = no_tree; middle = g ∷ hs; behind = forest ts })) (sym (filled_partials ps h)))

run_fails : (ts : List Outline) (ps : List Label) → length ts ≡ length ps → ReadsNot run_of all_full run_end ts ps
unfolding run_end
run_fails = children_by (ReadsNot run_of all_full run_end) (λ h. cc)
    (λ t ts ps n more h. ap (option_and_then (λ r. Some (one_more t r))) (more h))
    (λ t ts ps n more h. cond-false (all_full ps) (Some (record { before = no_tree; middle = []; behind = tree_and t (forest ts) })) None h)
    (λ t ts g ps n more h. cond-false (all_full ps) (Some (record { before = no_tree; middle = g ∷ []; behind = forest ts })) None h)

-- as the program finds them
found_end : (ls : List Marked) (b n e : ℕ) → b ≡ empty_front (map label_seen ls) → n ≡ cut_front (map label_seen (drop b ls)) → e ≡ b + n → e ≡ run_end (map label_seen ls)
found_end ls b n e p q r =
    r ∙
    ap (λ x. b + x) (q ∙ ap cut_front (sym (drop-map label_seen b ls))) ∙
    ap (λ x. x + cut_front (drop x (map label_seen ls))) p ∙
    sym (run_end_is (map label_seen ls))

-- what stands from a place to the end
pub to_end : {X : Type 0} (i : ℕ) (xs : List X) → take (length xs - i) (drop i xs) ≡ drop i xs
to_end i xs = take_all (length xs - i) (drop i xs) (omega (arith, length-drop i xs))

module _ (ls : List Marked) (b n e f : ℕ) (before : b ≡ empty_front (map label_seen ls)) (cut : n ≡ cut_front (map label_seen (take (length ls - b) (drop b ls)))) (end : e ≡ b + n)
    (full : f ≡ full_front (map label_seen (take (length ls - e) (drop e ls)))) where
  is_end : e ≡ run_end (map label_seen ls)
  is_end = found_end ls b n e before (cut ∙ ap (λ xs. cut_front (map label_seen xs)) (to_end b ls)) end

  rest_front : full_front (drop (run_end (map label_seen ls)) (map label_seen ls)) ≡ f
  rest_front = ap (λ x. full_front (drop x (map label_seen ls))) (sym is_end) ∙ ap full_front (drop-map label_seen e ls) ∙ sym (full ∙ ap (λ xs. full_front (map label_seen xs)) (to_end e ls))

  rest_length : length (drop (run_end (map label_seen ls)) (map label_seen ls)) ≡ length ls - e
  rest_length =
      length-drop (run_end (map label_seen ls)) (map label_seen ls) ∙ ap₂ (λ x y. x - y) (length-map ls label_seen) (sym is_end)

  run_found : e + f ≡ length ls → (ts : List Outline) → length ts ≡ length ls → let r : Places = record { before = b; behind = e } in
      run_of (forest ts) (map label_seen ls) ≡ Some (run_seen ts (map label_seen ls) r)
  run_found h ts k =
      run_fits ts (map label_seen ls) (k ∙ sym (length-map ls label_seen)) (filled_front (drop (run_end (map label_seen ls)) (map label_seen ls)) (omega (arith, h, rest_front, rest_length))) ∙
      ap₂ (λ x y. Some (record { before = forest (take x ts); middle = partials (map label_seen ls); behind = forest (drop y ts) })) (sym before) (sym is_end)

  few : e ≤ length ls
  few = omega (arith, is_end, run_end_few (map label_seen ls), length-map ls label_seen)

  run_missing : e + f ≢ length ls → (ts : List Outline) → length ts ≡ length ls → run_of (forest ts) (map label_seen ls) ≡ None
  run_missing h ts k =
      run_fails ts (map label_seen ls) (k ∙ sym (length-map ls label_seen))
      (not_filled_front (drop (run_end (map label_seen ls)) (map label_seen ls)) (λ x. h (omega (arith, x, few, rest_front, rest_length))))

  pub cut_found : e + f ≡ length ls → (ts : List Outline) → length ts ≡ length ls → IsRunCut ts (map label_seen ls) (Some (record { before = b; behind = e }))
  cut_found h ts k = run_cut ts (map label_seen ls) (record { before = b; behind = e }) (length-map ls label_seen ∙ sym k) (run_found h ts k)

  pub cut_missing : e + f ≢ length ls → (ts : List Outline) → length ts ≡ length ls → IsRunCut ts (map label_seen ls) None
  cut_missing h ts k = no_run_cut ts (map label_seen ls) (run_missing h ts k)
