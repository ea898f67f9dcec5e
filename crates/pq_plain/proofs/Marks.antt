-- Lists of labels, one label more at a time.
use Rattle.std.proofs.Common.{◌≡◌, ◌∙◌, ◌+◌, ◌<◌, ◌≤◌, ℕ, List, [], ◌∷◌, ◌++◌, map, take, drop, length, get_or, refl, sym, ap, arith}
use Rattle.std.proofs.lemmas.List.{map_more, length-map, at_drop_more, at_drop_all}
use Rattle.tree_theory.specs.Labels.{Label, empty_label, full_label, partial_label, partials}
use Rattle.pq_plain.specs.Seen.{outlines, label_seen, empties, fulls, whole_label, whole_front}
use Rattle.pq_plain.specs.declared.label.Label.{Label as Marked}
use Rattle.pq_plain.specs.declared.label.Label.TheVariants.{Empty, Full, Partial}
use Rattle.pq_plain.specs.declared.label.Whole.{Whole}
use Rattle.pq_plain.specs.declared.label.Whole.TheVariants.{Empty as AllEmpty, Full as AllFull}
use Rattle.pq_tree.specs.Forests.{count as size_of}
use Rattle.pq_tree.specs.Proper.{outline_of}
use Rattle.pq_tree.specs.declared.Tree.{Tree}
use Rattle.pq_tree.proofs.Forests.{count_forest}

pub partials_append : (ps qs : List Label) → partials (ps ++ qs) ≡ partials ps ++ partials qs
partials_append [] qs = refl
partials_append (empty_label ∷ ps) qs = partials_append ps qs
partials_append (full_label ∷ ps) qs = partials_append ps qs
partials_append (partial_label h ∷ ps) qs = ap (λ x. h ∷ x) (partials_append ps qs)

-- a count of labels, each of which is counted at most once
pub record IsCount (count : List Label → ℕ) : Type 0 where
  none : count [] ≡ 0
  first : (p : Label) (ps : List Label) → count (p ∷ ps) ≡ count (p ∷ []) + count ps
  one : (p : Label) → count (p ∷ []) ≤ 1

-- each label is counted by one of the three counts, before the others
firsts : (p : Label) (ps : List Label) →
    (empties (p ∷ ps) ≡ empties (p ∷ []) + empties ps) × (fulls (p ∷ ps) ≡ fulls (p ∷ []) + fulls ps) × (length (partials (p ∷ ps)) ≡ length (partials (p ∷ [])) + length (partials ps))
firsts empty_label ps = (omega arith, omega arith, omega arith)
firsts full_label ps = (omega arith, omega arith, omega arith)
firsts (partial_label h) ps = (omega arith, omega arith, omega arith)

ones : (p : Label) → (empties (p ∷ []) ≤ 1) × (fulls (p ∷ []) ≤ 1) × (length (partials (p ∷ [])) ≤ 1)
ones empty_label = (omega arith, omega arith, omega arith)
ones full_label = (omega arith, omega arith, omega arith)
ones (partial_label h) = (omega arith, omega arith, omega arith)

pub count_empties : IsCount empties
count_empties = record { none = refl; first = λ p ps. (firsts p ps).0; one = λ p. (ones p).0 }

pub count_fulls : IsCount fulls
count_fulls = record { none = refl; first = λ p ps. (firsts p ps).1; one = λ p. (ones p).1 }

pub count_partials : IsCount (λ ps. length (partials ps))
count_partials = record { none = refl; first = λ p ps. (firsts p ps).2; one = λ p. (ones p).2 }

push : {count : List Label → ℕ} → IsCount count → (ps : List Label) (p : Label) → count (ps ++ p ∷ []) ≡ count ps + count (p ∷ [])
push c [] p = omega (arith, c.none)
push c (q ∷ ps) p = omega (arith, push c ps p, c.first q ps, c.first q (ps ++ p ∷ []))

-- with one label more
pub count_more : {count : List Label → ℕ} → IsCount count → (xs : List Marked) (i m n : ℕ) (x : Marked) → i < length xs → x ≡ get_or xs i x → m ≡ count (map label_seen (take i xs)) → n ≡ m + count (label_seen x ∷ []) →
    (n ≡ count (map label_seen (take (i + 1) xs))) × (n ≤ m + 1)
count_more {count = count} c xs i m n x h r e k = (
  k ∙
      ap (λ a. a + count (label_seen x ∷ [])) e ∙
      sym (push c (map label_seen (take i xs)) (label_seen x)) ∙
      ap (λ y. count (map label_seen (take i xs) ++ label_seen y ∷ [])) r ∙
      sym (ap count (map_more label_seen xs i x h)),
  omega (arith, k, c.one (label_seen x)),
)

-- a label at the beginning
front_yes : (w : Whole) (l : Marked) (ps : List Label) → l ≡ whole_label w → whole_front w (label_seen l ∷ ps) ≡ 1 + whole_front w ps
front_yes AllEmpty Empty ps e = omega arith
front_yes AllEmpty Full ps e = absurd (cc)
front_yes AllEmpty (Partial h) ps e = absurd (cc)
front_yes AllFull Empty ps e = absurd (cc)
front_yes AllFull Full ps e = omega arith
front_yes AllFull (Partial h) ps e = absurd (cc)

front_no : (w : Whole) (l : Marked) (ps : List Label) → (l ≡ whole_label w → ⊥) → whole_front w (label_seen l ∷ ps) ≡ 0
front_no AllEmpty Empty ps h = absurd (h refl)
front_no AllEmpty Full ps h = refl
front_no AllEmpty (Partial g) ps h = refl
front_no AllFull Empty ps h = refl
front_no AllFull Full ps h = absurd (h refl)
front_no AllFull (Partial g) ps h = refl

front_at : (w : Whole) (ls : List Marked) (i : ℕ) (d : Marked) → i < length ls → whole_front w (map label_seen (drop i ls)) ≡ whole_front w (label_seen (get_or ls i d) ∷ map label_seen (drop (i + 1) ls))
front_at w = at_drop_more (λ ls. whole_front w (map label_seen ls))

-- one label further, at one that is another, and behind the last
pub front_more : (w : Whole) (ls : List Marked) (i : ℕ) (l : Marked) → i < length ls → l ≡ get_or ls i l → l ≡ whole_label w →
    whole_front w (map label_seen ls) ≡ i + whole_front w (map label_seen (drop i ls)) → whole_front w (map label_seen ls) ≡ i + 1 + whole_front w (map label_seen (drop (i + 1) ls))
front_more w ls i l h r e k =
    let at : whole_front w (map label_seen (drop i ls)) ≡ 1 + whole_front w (map label_seen (drop (i + 1) ls)) =
    front_at w ls i l h ∙ front_yes w (get_or ls i l) (map label_seen (drop (i + 1) ls)) (sym r ∙ e) in
    omega (arith, k, at)

pub front_here : (w : Whole) (ls : List Marked) (i : ℕ) (l : Marked) → i < length ls → l ≡ get_or ls i l → (l ≡ whole_label w → ⊥) →
    whole_front w (map label_seen ls) ≡ i + whole_front w (map label_seen (drop i ls)) → i ≡ whole_front w (map label_seen ls)
front_here w ls i l h r e k =
    let at : whole_front w (map label_seen (drop i ls)) ≡ 0 = front_at w ls i l h ∙ front_no w (get_or ls i l) (map label_seen (drop (i + 1) ls)) (λ x. e (r ∙ x)) in
    omega (arith, k, at)

front_end : (w : Whole) → whole_front w [] ≡ 0
front_end AllEmpty = refl
front_end AllFull = refl

pub front_all : (w : Whole) (ls : List Marked) (i : ℕ) → length ls ≤ i → i ≤ length ls → whole_front w (map label_seen ls) ≡ i + whole_front w (map label_seen (drop i ls)) →
    length ls ≡ whole_front w (map label_seen ls)
front_all w ls i h l k =
    let at : whole_front w (map label_seen (drop i ls)) ≡ 0 = at_drop_all (λ ms. whole_front w (map label_seen ms)) ls i h ∙ front_end w in
    omega (arith, h, l, k, at)

-- as many labels as trees
pub marks_long : (ts : List Tree) (ls : List Marked) → length ls ≡ length ts → length (map label_seen ls) ≡ size_of (outlines ts)
marks_long ts ls n = length-map ls label_seen ∙ n ∙ sym (length-map ts outline_of) ∙ sym (count_forest (map outline_of ts))
