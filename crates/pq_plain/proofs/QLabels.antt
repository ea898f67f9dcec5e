-- The templates of a Q-node below the pertinent root, as the program finds them.
use Rattle.std.proofs.Common.{◌≡◌, ◌∙◌, ◌+◌, ◌≤◌, ℕ, List, [], ◌∷◌, ◌++◌, Some, None, map, take, drop, reverse, length, IsTrue, refl, sym, ap, ap₂, subst, arith, option_and_then, length-append, Option}
use Rattle.std.proofs.lemmas.Bool.{cond-true}
use Rattle.std.proofs.lemmas.List.{drop-map, take-map, length-map, length-reverse, length-drop, reverse-append, take-append-drop}
use Rattle.std.proofs.Math.Seq.{take-append_seam, drop-append_seam}
use Rattle.pq_tree.specs.Outline.{Outline, Forest, no_tree, tree_and}
use Rattle.pq_tree.specs.Proper.{outline_of}
use Rattle.pq_tree.specs.Forests.{forest, join, back}
use Rattle.pq_tree.proofs.Forests.{forest_reverse, map-reverse}
use Rattle.pq_tree.specs.declared.Tree.{Tree}
use Rattle.tree_theory.specs.Labels.{Partial, Label, empty_label, full_label, partial_label, partials, first_of}
use Rattle.tree_theory.proofs.Computed.{all_full, one_more, run_of, at_q, at_run, first_some, q_label}
use Rattle.pq_plain.specs.Seen.{outlines, halves_seen, label_seen, empties, fulls}
use Rattle.pq_plain.specs.declared.label.Halves.{Halves}
use Rattle.pq_plain.specs.declared.label.Label.{Label as Marked}
use Rattle.pq_plain.specs.declared.label.Run.{Run as Places}
use Rattle.pq_plain.proofs.Counted.{no_partial, last_of_one}
use Rattle.tree_theory.proofs.NodeTemplates.{from_front, from_rear}
use Rattle.pq_plain.specs.Cuts.{run_label, IsRunCut, IsLabelFromEnd}
use Rattle.tree_theory.specs.Outcomes.{FindsAny}
use Rattle.tree_theory.specs.Chosen.{IsLabelOfQ}
use Rattle.tree_theory.specs.Templates.{IsRun}
use Rattle.pq_plain.proofs.Cutting.{run_few, run_gives, no_label_from_ends}

pub no_halves : (all : List Halves) (hs : List Partial) → length all ≡ 0 → map halves_seen all ≡ hs → hs ≡ []
no_halves [] hs n e = sym e
no_halves (x ∷ xs) hs n e = absurd (omega arith)

pub q_empty : (hs : List Partial) (es fs : List Tree) → hs ≡ [] → (length es ≡ 0 → ⊥) → length fs ≡ 0 → at_q hs (outlines es) (outlines fs) ≡ Some empty_label
q_empty hs [] fs h e f = absurd (e refl)
q_empty hs (x ∷ es) [] h e f = ap (λ y. at_q y (outlines (x ∷ es)) no_tree) h
q_empty hs (x ∷ es) (y ∷ fs) h e f = absurd (omega arith)

pub q_plain : (hs : List Partial) (es fs : List Tree) → hs ≡ [] → (length es ≡ 0 → ⊥) → (length fs ≡ 0 → ⊥) →
    at_q hs (outlines es) (outlines fs) ≡ Some (partial_label (record { e = outlines es; f = outlines fs }))
q_plain hs [] fs h e f = absurd (e refl)
q_plain hs (x ∷ es) [] h e f = absurd (f refl)
q_plain hs (x ∷ es) (y ∷ fs) h e f = ap (λ z. at_q z (outlines (x ∷ es)) (outlines (y ∷ fs))) h

pub q_cut : (hs : List Partial) (g h : Partial) (es fs : Forest) → hs ≡ g ∷ [] → h ≡ record { e = join es g.e; f = join g.f fs } → at_q hs es fs ≡ Some (partial_label h)
q_cut hs g h es fs e k = ap (λ z. at_q z es fs) e ∙ ap (λ z. Some (partial_label z)) (sym k)

pub last_of_few : (rest all : List Halves) (h : Halves) (hs : List Partial) → all ≡ rest ++ h ∷ [] → map halves_seen all ≡ hs → length hs ≤ 1 → hs ≡ halves_seen h ∷ []
last_of_few rest all h hs e q n =
    last_of_one rest all h hs e q (omega (arith, n, ap length q, length-map all halves_seen, ap length e, length-append rest (h ∷ [])))

-- all full, or all empty
fulls_only : (ps : List Label) → empties ps ≡ 0 → partials ps ≡ [] → IsTrue (all_full ps)
fulls_only [] e h = refl
fulls_only (empty_label ∷ ps) e h = absurd (omega arith)
fulls_only (full_label ∷ ps) e h = fulls_only ps e h
fulls_only (partial_label g ∷ ps) e h = cc

full_run : (xs : List Outline) (ps : List Label) → length ps ≡ length xs → empties ps ≡ 0 → partials ps ≡ [] → option_and_then at_run (run_of (forest xs) ps) ≡ Some full_label
full_run [] ps n e h = refl
full_run (x ∷ xs) [] n e h = absurd (omega arith)
full_run (x ∷ xs) (empty_label ∷ ps) n e h = absurd (omega arith)
full_run (x ∷ xs) (full_label ∷ ps) n e h =
    ap (option_and_then at_run) (cond-true (all_full ps) (Some (record { before = no_tree; middle = []; behind = tree_and x (forest xs) })) None (fulls_only ps e h))
full_run (x ∷ xs) (partial_label g ∷ ps) n e h = cc

empty_run : (xs : List Outline) (ps : List Label) → length ps ≡ length xs → fulls ps ≡ 0 → partials ps ≡ [] → run_of (forest xs) ps ≡ Some (record { before = forest xs; middle = []; behind = no_tree })
empty_run [] ps n e h = refl
empty_run (x ∷ xs) [] n e h = absurd (omega arith)
empty_run (x ∷ xs) (empty_label ∷ ps) n e h = ap (option_and_then (λ r. Some (one_more x r))) (empty_run xs ps (omega arith) e h)
empty_run (x ∷ xs) (full_label ∷ ps) n e h = absurd (omega arith)
empty_run (x ∷ xs) (partial_label g ∷ ps) n e h = cc

empty_at : (xs : List Outline) (ps : List Label) → length ps ≡ length xs → fulls ps ≡ 0 → partials ps ≡ [] → (empties ps ≡ 0 → ⊥) → option_and_then at_run (run_of (forest xs) ps) ≡ Some empty_label
empty_at [] [] n e h k = absurd (k refl)
empty_at [] (p ∷ ps) n e h k = absurd (omega arith)
empty_at (x ∷ xs) ps n e h k = ap (option_and_then at_run) (empty_run (x ∷ xs) ps n e h)

same_count : (ts : List Tree) (ls : List Marked) → length ls ≡ length ts → length (map label_seen ls) ≡ length (map outline_of ts)
same_count ts ls n = length-map ls label_seen ∙ n ∙ sym (length-map ts outline_of)

pub q_all_full : (ts : List Tree) (ls ms : List Marked) (e p : ℕ) → length ls ≡ length ts → ms ≡ ls → e ≡ empties (map label_seen ms) → p ≡ length (partials (map label_seen ms)) → p ≡ 0 → e ≡ 0 →
    Some full_label ≡ q_label (outlines ts) (map label_seen ls)
q_all_full ts ls ms e p n s x y z w =
    let a : empties (map label_seen ls) ≡ 0 = ap (λ l. empties (map label_seen l)) (sym s) ∙ sym x ∙ w in
    let b : partials (map label_seen ls) ≡ [] = no_partial (partials (map label_seen ls)) (ap (λ l. length (partials (map label_seen l))) (sym s) ∙ sym y ∙ z) in
    sym
    (ap (λ o. first_some o (option_and_then at_run (run_of (back (outlines ts)) (reverse (map label_seen ls))))) (full_run (map outline_of ts) (map label_seen ls) (same_count ts ls n) a b))

pub q_all_empty : (ts : List Tree) (ls ms : List Marked) (e f p : ℕ) → length ls ≡ length ts → ms ≡ ls → e ≡ empties (map label_seen ms) → f ≡ fulls (map label_seen ms) → p ≡ length (partials (map label_seen ms)) →
    p ≡ 0 → (e ≡ 0 → ⊥) → f ≡ 0 → Some empty_label ≡ q_label (outlines ts) (map label_seen ls)
q_all_empty ts ls ms e f p n s x u y z w v =
    let a : empties (map label_seen ls) ≡ 0 → ⊥ = λ k. w (x ∙ ap (λ l. empties (map label_seen l)) s ∙ k) in
    let c : fulls (map label_seen ls) ≡ 0 = ap (λ l. fulls (map label_seen l)) (sym s) ∙ sym u ∙ v in
    let b : partials (map label_seen ls) ≡ [] = no_partial (partials (map label_seen ls)) (ap (λ l. length (partials (map label_seen l))) (sym s) ∙ sym y ∙ z) in
    sym
    (ap (λ o. first_some o (option_and_then at_run (run_of (back (outlines ts)) (reverse (map label_seen ls))))) (empty_at (map outline_of ts) (map label_seen ls) (same_count ts ls n) c b a))

-- a run from the left
module _ (ts : List Tree) (ls ms : List Marked) (n : length ls ≡ length ts) (s : ms ≡ ls) where
  left_size : length (map outline_of ts) ≡ length ms
  left_size = length-map ts outline_of ∙ sym n ∙ ap length (sym s)

  pub left_none : ((xs : List Outline) → length xs ≡ length ms → IsRunCut xs (map label_seen ms) None) → (o : Option Label) → IsLabelFromEnd (outlines ts) (map label_seen ls) o →
      FindsAny (IsLabelOfQ (outlines ts) (map label_seen ls)) o
  left_none cut (Some x) h = h
  left_none cut None h =
      no_label_from_ends (outlines ts) (map label_seen ls) (subst (λ l. IsRunCut (map outline_of ts) (map label_seen l) None) s (cut (map outline_of ts) left_size)) h

  module _ (r : Places) (cut : (xs : List Outline) → length xs ≡ length ms → IsRunCut xs (map label_seen ms) (Some r)) where
    from_left : IsRun (outlines ts) (map label_seen ls) (forest (take r.before (map outline_of ts))) (first_of (partials (map label_seen ls))) (forest (drop r.behind (map outline_of ts)))
    from_left = subst (λ l. IsRunCut (map outline_of ts) (map label_seen l) (Some r)) s (cut (map outline_of ts) left_size)

    pub left_few : length (partials (map label_seen ls)) ≤ 1
    left_few = run_few from_left

    pub left_label : (es fs us vs : List Tree) (l : Label) → us ≡ take r.before ts → vs ≡ drop r.behind ts → map outline_of es ≡ map outline_of us → map outline_of fs ≡ map outline_of vs →
        l ≡ run_label (outlines es) (first_of (partials (map label_seen ls))) (outlines fs) → IsLabelOfQ (outlines ts) (map label_seen ls) l
    left_label es fs us vs l u v x y z =
        let a : outlines es ≡ forest (take r.before (map outline_of ts)) =
        ap forest (x ∙ ap (map outline_of) u ∙ sym (take-map outline_of r.before ts)) in
        let b : outlines fs ≡ forest (drop r.behind (map outline_of ts)) =
        ap forest (y ∙ ap (map outline_of) v ∙ sym (drop-map outline_of r.behind ts)) in
        subst (IsLabelOfQ (outlines ts) (map label_seen ls)) (sym (z ∙ ap₂ (λ e f. run_label e (first_of (partials (map label_seen ls))) f) a b))
        (from_front (outlines ts) (map label_seen ls) _ (run_gives from_left))

-- a run from the right
cut_turned : {X : Type 0} (k : ℕ) (xs : List X) → reverse xs ≡ reverse (drop k xs) ++ reverse (take k xs)
cut_turned k xs = ap reverse (sym (take-append-drop k xs)) ∙ reverse-append (take k xs) (drop k xs)

-- the first i items from the other end, and the rest
turned_parts : {X : Type 0} (i k : ℕ) (xs : List X) → k + i ≡ length xs → (take i (reverse xs) ≡ reverse (drop k xs)) × (drop i (reverse xs) ≡ reverse (take k xs))
turned_parts i k xs h =
    let size : i ≡ length (reverse (drop k xs)) = omega (arith, h, length-reverse (drop k xs), length-drop k xs) in (
      ap (take i) (cut_turned k xs) ∙ ap (λ m. take m (reverse (drop k xs) ++ reverse (take k xs))) size ∙ take-append_seam (reverse (drop k xs)) (reverse (take k xs)),
      ap (drop i) (cut_turned k xs) ∙ ap (λ m. drop m (reverse (drop k xs) ++ reverse (take k xs))) size ∙ drop-append_seam (reverse (drop k xs)) (reverse (take k xs)),
    )

module _ (ts : List Tree) (ls ms ns : List Marked) (n : length ls ≡ length ts) (t : ns ≡ reverse ls) (s : ms ≡ ns) where
  turned_labels : map label_seen ms ≡ reverse (map label_seen ls)
  turned_labels = ap (map label_seen) (s ∙ t) ∙ map-reverse label_seen ls

  turned_size : length (reverse (map outline_of ts)) ≡ length ms
  turned_size = length-reverse (map outline_of ts) ∙ length-map ts outline_of ∙ sym n ∙ sym (length-reverse ls) ∙ ap length (sym t ∙ sym s)

  pub right_none : ((xs : List Outline) → length xs ≡ length ms → IsRunCut xs (map label_seen ms) None) → IsLabelFromEnd (outlines ts) (map label_seen ls) None
  right_none cut =
      subst (λ ps. (es : Forest) (h : Option Partial) (fs : Forest) → IsRun (back (outlines ts)) ps es h fs → ⊥) turned_labels
      (subst (λ xs. (es : Forest) (h : Option Partial) (fs : Forest) → IsRun xs (map label_seen ms) es h fs → ⊥) (forest_reverse (map outline_of ts)) (cut (reverse (map outline_of ts)) turned_size))

  module _ (r : Places) (cut : (xs : List Outline) → length xs ≡ length ms → IsRunCut xs (map label_seen ms) (Some r)) where
    from_right : IsRun (back (outlines ts)) (reverse (map label_seen ls)) (forest (take r.before (reverse (map outline_of ts)))) (first_of (partials (map label_seen ms)))
        (forest (drop r.behind (reverse (map outline_of ts))))
    from_right =
        subst (λ ps. IsRun (back (outlines ts)) ps (forest (take r.before (reverse (map outline_of ts)))) (first_of (partials (map label_seen ms))) (forest (drop r.behind (reverse (map outline_of ts))))) turned_labels
        (subst
        (λ xs. IsRun xs (map label_seen ms) (forest (take r.before (reverse (map outline_of ts)))) (first_of (partials (map label_seen ms))) (forest (drop r.behind (reverse (map outline_of ts)))))
        (forest_reverse (map outline_of ts)) (cut (reverse (map outline_of ts)) turned_size))

    pub right_few : length (partials (map label_seen ns)) ≤ 1
    right_few = subst (λ l. length (partials (map label_seen l)) ≤ 1) s (run_few (cut (reverse (map outline_of ts)) turned_size))

    pub right_label : (es fs us vs : List Tree) (i j : ℕ) (l : Label) → us ≡ drop i ts → i + r.before ≡ length ts → vs ≡ take j ts → j + r.behind ≡ length ts →
        outlines es ≡ back (outlines us) → outlines fs ≡ back (outlines vs) → l ≡ run_label (outlines es) (first_of (partials (map label_seen ns))) (outlines fs) →
        IsLabelOfQ (outlines ts) (map label_seen ls) l
    right_label es fs us vs i j l u p v q x y z =
        let a : outlines es ≡ forest (take r.before (reverse (map outline_of ts))) =
        x ∙
        sym (forest_reverse (map outline_of us)) ∙
        ap (λ xs. forest (reverse xs)) (ap (map outline_of) u ∙ sym (drop-map outline_of i ts)) ∙
        ap forest (sym (turned_parts r.before i (map outline_of ts) (p ∙ sym (length-map ts outline_of))).0) in
        let b : outlines fs ≡ forest (drop r.behind (reverse (map outline_of ts))) =
        y ∙
        sym (forest_reverse (map outline_of vs)) ∙
        ap (λ xs. forest (reverse xs)) (ap (map outline_of) v ∙ sym (take-map outline_of j ts)) ∙
        ap forest (sym (turned_parts r.behind j (map outline_of ts) (q ∙ sym (length-map ts outline_of))).1) in
        let k : run_label (forest (take r.before (reverse (map outline_of ts)))) (first_of (partials (map label_seen ms))) (forest (drop r.behind (reverse (map outline_of ts)))) ≡ l =
        sym
        (z ∙
        ap₂ (λ e f. run_label e (first_of (partials (map label_seen ns))) f) a b ∙
        ap (λ m. run_label (forest (take r.before (reverse (map outline_of ts)))) (first_of (partials (map label_seen m))) (forest (drop r.behind (reverse (map outline_of ts))))) (sym s)) in
        subst (IsLabelOfQ (outlines ts) (map label_seen ls)) k (from_rear (outlines ts) (map label_seen ls) _ (run_gives from_right))
