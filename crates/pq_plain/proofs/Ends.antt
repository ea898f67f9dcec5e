-- The partials on both sides of the full children of a Q-node.
use Rattle.std.proofs.Common.{◌≡◌, ◌∙◌, ◌↔◌, ◌+◌, ◌-◌, ◌<◌, ◌≤◌, ℕ, List, [], ◌∷◌, ◌++◌, Option, Some, None, map, take, drop, length, refl, sym, ap, ap₂, arith, length-append, option_map}
use Rattle.std.specs.Prelude.{IsSome}
use Rattle.std.specs.Option.{option_to_list}
use Rattle.std.proofs.lemmas.Bool.{false≢true}
use Rattle.std.proofs.lemmas.List.{map-append, append-nil, length-map, take-map, drop-map, take-append-drop}
use Rattle.pq_tree.specs.Outline.{Outline, q_node}
use Rattle.pq_tree.specs.Proper.{outline_of}
use Rattle.pq_tree.specs.Forests.{forest}
use Rattle.pq_tree.specs.declared.Tree.{Tree}
use Rattle.tree_theory.specs.Templates.{q3}
use Rattle.tree_theory.specs.Labels.{Partial, Label, partials, first_of}
use Rattle.pq_plain.specs.Seen.{outlines, halves_seen}
use Rattle.pq_plain.specs.AtRoot.{PartialsAt, q_made}
use Rattle.pq_plain.specs.declared.label.Halves.{Halves}
use Rattle.pq_plain.specs.declared.at_root.Span.{Span as Places}
use Rattle.pq_plain.proofs.Marks.{partials_append}

last_is : (xs ys : List Partial) (x y : Partial) → xs ++ x ∷ [] ≡ ys ++ y ∷ [] → (xs ≡ ys) × (x ≡ y)
last_is [] [] x y e = (refl, cc)
last_is [] (b ∷ ys) x y e = absurd (omega (arith, ap length e, length-append ys (y ∷ [])))
last_is (a ∷ xs) [] x y e = absurd (omega (arith, ap length e, length-append xs (x ∷ [])))
last_is (a ∷ xs) (b ∷ ys) x y e =
    let h : a ≡ b = cc in
    let t : xs ++ x ∷ [] ≡ ys ++ y ∷ [] = cc in
    let w : (xs ≡ ys) × (x ≡ y) = last_is xs ys x y t in
    (ap₂ (λ u us. u ∷ us) h w.0, w.1)

-- the last of a list, where there is to be one
record Taken (rest : List Halves) (o : Option Halves) (hs ks : List Partial) : Type 0 where
  pub others : map halves_seen rest ≡ hs
  pub first : option_map halves_seen o ≡ first_of ks

taken : (all rest : List Halves) (o : Option Halves) (hs ks : List Partial) → map halves_seen all ≡ hs ++ ks → all ≡ rest ++ option_to_list o → IsSome o ↔ (0 < length ks) → length ks ≤ 1 → Taken rest o hs ks
taken all rest None hs [] e k s n =
    record { others = ap (map halves_seen) (sym (k ∙ append-nil rest)) ∙ e ∙ append-nil hs; first = refl }
taken all rest None hs (x ∷ ks) e k s n = absurd (false≢true (s.1 (omega arith)))
taken all rest (Some h) hs [] e k s n = absurd (omega (arith, s.0 refl))
taken all rest (Some h) hs (x ∷ []) e k s n =
    let w : (map halves_seen rest ≡ hs) × (halves_seen h ≡ x) =
    last_is (map halves_seen rest) hs (halves_seen h) x (sym (map-append halves_seen rest (h ∷ [])) ∙ ap (map halves_seen) (sym k) ∙ e) in
    record { others = w.0; first = ap Some w.1 }
taken all rest (Some h) hs (x ∷ y ∷ ks) e k s n = absurd (omega arith)

cut_partials : (l : ℕ) (ps : List Label) → partials ps ≡ partials (take l ps) ++ partials (drop l ps)
cut_partials l ps = ap partials (sym (take-append-drop l ps)) ∙ partials_append (take l ps) (drop l ps)

module _ (ts : List Tree) (ps : List Label) (s : Places) (at : PartialsAt ps s) (all : List Halves) (are : map halves_seen all ≡ partials ps) where
  enough : length all ≡ (s.full_from - s.before) + (s.behind - s.full_to)
  enough =
      omega
      (arith, length-map all halves_seen, ap length are, ap length (cut_partials s.full_from ps), length-append (partials (take s.full_from ps)) (partials (drop s.full_from ps)), at.left, at.right)

  pub enough_right : s.behind - s.full_to ≤ length all
  enough_right = omega (arith, enough)

  module _ (mid : List Halves) (second : Option Halves) (cut : all ≡ mid ++ option_to_list second) (some : IsSome second ↔ (0 < s.behind - s.full_to)) where
    right_taken : Taken mid second (partials (take s.full_from ps)) (partials (drop s.full_from ps))
    right_taken =
        taken all mid second (partials (take s.full_from ps)) (partials (drop s.full_from ps)) (are ∙ cut_partials s.full_from ps) cut
        ((λ h. omega (arith, some.0 h, at.right)), (λ h. some.1 (omega (arith, h, at.right)))) (omega (arith, at.right, at.few_right))

    pub enough_left : s.full_from - s.before ≤ length mid
    enough_left = omega (arith, length-map mid halves_seen, ap length right_taken.others, at.left)

    module _ (rest : List Halves) (first : Option Halves) (cut2 : mid ≡ rest ++ option_to_list first) (some2 : IsSome first ↔ (0 < s.full_from - s.before)) where
      left_taken : Taken rest first [] (partials (take s.full_from ps))
      left_taken =
          taken mid rest first [] (partials (take s.full_from ps)) right_taken.others cut2
          ((λ h. omega (arith, some2.0 h, at.left)), (λ h. some2.1 (omega (arith, h, at.left)))) (omega (arith, at.left, at.few_left))

      pub replaced : (u : Outline) (es fs gs us : List Tree) → u ≡ q_node (q3 (outlines es) (option_map halves_seen first) (outlines fs) (option_map halves_seen second) (outlines gs)) →
          map outline_of es ≡ map outline_of (take s.before ts) → map outline_of fs ≡ map outline_of (take (s.full_to - s.full_from) (drop s.full_from ts)) →
          map outline_of gs ≡ map outline_of us → us ≡ drop s.behind ts → u ≡ q_made (map outline_of ts) ps s
      replaced u es fs gs us is e f g k =
          let a : outlines es ≡ forest (take s.before (map outline_of ts)) = ap forest (e ∙ sym (take-map outline_of s.before ts)) in
          let b : outlines fs ≡ forest (take (s.full_to - s.full_from) (drop s.full_from (map outline_of ts))) =
          ap forest (f ∙ sym (take-map outline_of (s.full_to - s.full_from) (drop s.full_from ts)) ∙ ap (take (s.full_to - s.full_from)) (sym (drop-map outline_of s.full_from ts))) in
          let d : outlines gs ≡ forest (drop s.behind (map outline_of ts)) = ap forest (g ∙ ap (map outline_of) k ∙ sym (drop-map outline_of s.behind ts)) in
          is ∙
          ap₂ (λ x y. q_node (q3 x y (outlines fs) (option_map halves_seen second) (outlines gs))) a left_taken.first ∙
          ap₂ (λ x y. q_node (q3 (forest (take s.before (map outline_of ts))) (first_of (partials (take s.full_from ps))) x y (outlines gs))) b right_taken.first ∙
          ap (λ x. q_node (q3 (forest (take s.before (map outline_of ts))) (first_of (partials (take s.full_from ps))) (forest (take (s.full_to - s.full_from) (drop s.full_from (map outline_of ts)))) (first_of (partials (drop s.full_from ps))) x)) d
