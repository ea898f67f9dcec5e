-- What the counts of a node's labels tell of its template.
use Rattle.std.proofs.Common.{◌≡◌, ◌∙◌, ◌+◌, ◌≤◌, ℕ, zero, suc, List, [], ◌∷◌, ◌++◌, Some, None, map, length, refl, sym, ap, ap₂, arith, length-append}
use Rattle.std.proofs.lemmas.List.{length-map}
use Rattle.pq_tree.specs.Outline.{Outline, Forest, no_tree, tree_and}
use Rattle.pq_tree.specs.Proper.{outline_of}
use Rattle.pq_tree.specs.Forests.{forest, count, join}
use Rattle.pq_tree.specs.declared.Tree.{Tree}
use Rattle.tree_theory.specs.Templates.{star}
use Rattle.tree_theory.specs.Labels.{Partial, Label, empty_label, full_label, partial_label, partials, empty_trees, full_trees}
use Rattle.tree_theory.proofs.Computed.{at_p, p_label}
use Rattle.pq_plain.specs.Seen.{outlines, halves_seen, label_seen, empties, fulls}
use Rattle.pq_plain.specs.declared.label.Halves.{Halves}
use Rattle.pq_plain.specs.declared.label.Label.{Label as Marked}

empties_count : (xs : List Outline) (ps : List Label) → length ps ≡ length xs → count (empty_trees (forest xs) ps) ≡ empties ps
empties_count [] [] e = refl
empties_count [] (q ∷ ps) e = absurd (omega arith)
empties_count (x ∷ xs) [] e = absurd (omega arith)
empties_count (x ∷ xs) (empty_label ∷ ps) e = ap (λ n. 1 + n) (empties_count xs ps (omega arith))
empties_count (x ∷ xs) (full_label ∷ ps) e = empties_count xs ps (omega arith)
empties_count (x ∷ xs) (partial_label h ∷ ps) e = empties_count xs ps (omega arith)

fulls_count : (xs : List Outline) (ps : List Label) → length ps ≡ length xs → count (full_trees (forest xs) ps) ≡ fulls ps
fulls_count [] [] e = refl
fulls_count [] (q ∷ ps) e = absurd (omega arith)
fulls_count (x ∷ xs) [] e = absurd (omega arith)
fulls_count (x ∷ xs) (empty_label ∷ ps) e = fulls_count xs ps (omega arith)
fulls_count (x ∷ xs) (full_label ∷ ps) e = ap (λ n. 1 + n) (fulls_count xs ps (omega arith))
fulls_count (x ∷ xs) (partial_label h ∷ ps) e = fulls_count xs ps (omega arith)

pub count_none : (ts : Forest) → count ts ≡ 0 → ts ≡ no_tree
count_none no_tree e = refl
count_none (tree_and t ts) e = absurd (omega arith)

-- a list of trees that is not empty
pub record HasTree (ts : Forest) : Type 0 where
  pub t : Outline
  pub us : Forest
  pub is : ts ≡ tree_and t us

pub count_some : (ts : Forest) → (count ts ≡ 0 → ⊥) → HasTree ts
count_some no_tree e = absurd (e refl)
count_some (tree_and t ts) e = record { t = t; us = ts; is = refl }

-- how many children are empty, full and partial
pub record IsCounted (ts : List Tree) (ls : List Marked) (e f p : ℕ) : Type 0 where
  pub empty : e ≡ count (empty_trees (outlines ts) (map label_seen ls))
  pub full : f ≡ count (full_trees (outlines ts) (map label_seen ls))
  pub partial : p ≡ length (partials (map label_seen ls))

pub counted : (ts : List Tree) (ls ms : List Marked) (e f p : ℕ) → length ls ≡ length ts → ms ≡ ls →
    e ≡ empties (map label_seen ms) → f ≡ fulls (map label_seen ms) → p ≡ length (partials (map label_seen ms)) → IsCounted ts ls e f p
counted ts ls ms e f p n s x y z =
    let k : length (map label_seen ls) ≡ length (map outline_of ts) = length-map ls label_seen ∙ n ∙ sym (length-map ts outline_of) in
    record {
      empty = x ∙ ap (λ l. empties (map label_seen l)) s ∙ sym (empties_count (map outline_of ts) (map label_seen ls) k);
      full = y ∙ ap (λ l. fulls (map label_seen l)) s ∙ sym (fulls_count (map outline_of ts) (map label_seen ls) k);
      partial = z ∙ ap (λ l. length (partials (map label_seen l))) s;
    }

pub no_partial : (hs : List Partial) → length hs ≡ 0 → hs ≡ []
no_partial [] e = refl
no_partial (h ∷ hs) e = absurd (omega arith)

-- the templates of a P-node below the pertinent root
pub p_all_full : (ts : List Tree) (ls : List Marked) (e f p : ℕ) → IsCounted ts ls e f p → p ≡ 0 → e ≡ 0 → Some full_label ≡ p_label (outlines ts) (map label_seen ls)
p_all_full ts ls e f p n z x =
    sym
    (ap₂ (λ hs es. at_p hs es (full_trees (outlines ts) (map label_seen ls))) (no_partial (partials (map label_seen ls)) (sym n.partial ∙ z))
    (count_none (empty_trees (outlines ts) (map label_seen ls)) (sym n.empty ∙ x)))

at_p_empty : (hs : List Partial) (es fs : Forest) → hs ≡ [] → HasTree es → fs ≡ no_tree → at_p hs es fs ≡ Some empty_label
at_p_empty hs es fs h e f = ap₂ (λ x y. at_p x y fs) h e.is ∙ ap (at_p [] (tree_and e.t e.us)) f

pub p_all_empty : (ts : List Tree) (ls : List Marked) (e f p : ℕ) → IsCounted ts ls e f p → p ≡ 0 → (e ≡ 0 → ⊥) → f ≡ 0 → Some empty_label ≡ p_label (outlines ts) (map label_seen ls)
p_all_empty ts ls e f p n z x y =
    sym
    (at_p_empty (partials (map label_seen ls)) (empty_trees (outlines ts) (map label_seen ls)) (full_trees (outlines ts) (map label_seen ls)) (no_partial (partials (map label_seen ls)) (sym n.partial ∙ z))
    (count_some (empty_trees (outlines ts) (map label_seen ls)) (λ k. x (n.empty ∙ k)))
    (count_none (full_trees (outlines ts) (map label_seen ls)) (sym n.full ∙ y)))

at_p_three : (hs : List Partial) (es fs : Forest) → hs ≡ [] → HasTree es → HasTree fs → at_p hs es fs ≡ Some (partial_label (record { e = star es; f = star fs }))
at_p_three hs es fs h e f =
    ap₂ (λ x y. at_p x y fs) h e.is ∙ ap (at_p [] (tree_and e.t e.us)) f.is ∙ sym (ap₂ (λ x y. Some (partial_label (record { e = star x; f = star y }))) e.is f.is)

pub p_three : (ts : List Tree) (ls ms ns : List Marked) (e f p : ℕ) (h : Partial) (es fs : Forest) → IsCounted ts ls e f p → p ≡ 0 → (e ≡ 0 → ⊥) → (f ≡ 0 → ⊥) → ms ≡ ls → ns ≡ ls →
    es ≡ empty_trees (outlines ts) (map label_seen ms) → fs ≡ full_trees (outlines ts) (map label_seen ns) → h ≡ record { e = star es; f = star fs } →
    Some (partial_label h) ≡ p_label (outlines ts) (map label_seen ls)
p_three ts ls ms ns e f p h es fs n z x y s r q k w =
    let a : es ≡ empty_trees (outlines ts) (map label_seen ls) = q ∙ ap (λ l. empty_trees (outlines ts) (map label_seen l)) s in
    let b : fs ≡ full_trees (outlines ts) (map label_seen ls) = k ∙ ap (λ l. full_trees (outlines ts) (map label_seen l)) r in
    ap (λ v. Some (partial_label v)) w ∙
    ap₂ (λ v u. Some (partial_label (record { e = star v; f = star u }))) a b ∙
    sym
    (at_p_three (partials (map label_seen ls)) (empty_trees (outlines ts) (map label_seen ls)) (full_trees (outlines ts) (map label_seen ls)) (no_partial (partials (map label_seen ls)) (sym n.partial ∙ z))
    (count_some (empty_trees (outlines ts) (map label_seen ls)) (λ i. x (n.empty ∙ i)))
    (count_some (full_trees (outlines ts) (map label_seen ls)) (λ i. y (n.full ∙ i))))

-- the last of one
pub last_of_one : (rest all : List Halves) (h : Halves) (hs : List Partial) → all ≡ rest ++ h ∷ [] → map halves_seen all ≡ hs → length hs ≡ 1 → hs ≡ halves_seen h ∷ []
last_of_one [] all h hs e q n = sym q ∙ ap (map halves_seen) e
last_of_one (x ∷ rest) all h hs e q n =
    absurd (omega (arith, ap length q, length-map all halves_seen, ap length e, length-append rest (h ∷ [])))

pub p_five : (ts : List Tree) (ls ms ns : List Marked) (e f p : ℕ) (h g : Partial) (es fs : Forest) → ms ≡ ls → ns ≡ ls → partials (map label_seen ls) ≡ g ∷ [] →
    es ≡ empty_trees (outlines ts) (map label_seen ms) → fs ≡ full_trees (outlines ts) (map label_seen ns) → h ≡ record { e = join (star es) g.e; f = join g.f (star fs) } →
    Some (partial_label h) ≡ p_label (outlines ts) (map label_seen ls)
p_five ts ls ms ns e f p h g es fs s r z q k w =
    let a : es ≡ empty_trees (outlines ts) (map label_seen ls) = q ∙ ap (λ l. empty_trees (outlines ts) (map label_seen l)) s in
    let b : fs ≡ full_trees (outlines ts) (map label_seen ls) = k ∙ ap (λ l. full_trees (outlines ts) (map label_seen l)) r in
    ap (λ v. Some (partial_label v)) w ∙
    ap₂ (λ v u. Some (partial_label (record { e = join (star v) g.e; f = join g.f (star u) }))) a b ∙
    sym (ap (λ hs. at_p hs (empty_trees (outlines ts) (map label_seen ls)) (full_trees (outlines ts) (map label_seen ls))) z)

at_p_many : (hs : List Partial) (es fs : Forest) → 2 ≤ length hs → at_p hs es fs ≡ None
at_p_many [] es fs h = absurd (omega arith)
at_p_many (x ∷ []) es fs h = absurd (omega arith)
at_p_many (x ∷ y ∷ hs) es fs h = refl

pub p_many : (ts : List Tree) (ls : List Marked) (e f p : ℕ) → IsCounted ts ls e f p → (p ≡ 0 → ⊥) → (p ≡ 1 → ⊥) → None ≡ p_label (outlines ts) (map label_seen ls)
p_many ts ls e f p n x y =
    sym (at_p_many (partials (map label_seen ls)) (empty_trees (outlines ts) (map label_seen ls)) (full_trees (outlines ts) (map label_seen ls)) (more p n.partial x y))
  where
    more : (k : ℕ) → k ≡ length (partials (map label_seen ls)) → (k ≡ 0 → ⊥) → (k ≡ 1 → ⊥) → 2 ≤ length (partials (map label_seen ls))
    more zero e x y = absurd (x refl)
    more (suc zero) e x y = absurd (y refl)
    more (suc (suc k)) e x y = omega arith
