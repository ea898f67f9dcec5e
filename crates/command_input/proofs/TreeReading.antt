-- A text writes the tree that the parser reads of it.
use Rattle.std.proofs.Common.{◌≡◌, ◌⊎◌, ◌∙◌, ℕ, zero, suc, ◌+◌, ◌-◌, ◌*◌, ◌^◌, ◌<◌, ◌≤◌, Bool, true, false, if◌then◌else◌, ◌==◌, ◌&&◌, nat_le, List, [], ◌∷◌, ◌++◌, length, reverse, IsTrue, Option, Some, None, refl, sym, ap, subst, inl, inr, arith, eqb-true, eq-eqb, append_assoc}
use Rattle.std.proofs.Common.{rules}
use Rattle.std.proofs.lemmas.Bool.{and_parts, and_from, cases_lt, le-leb, leb-true}
use Rattle.std.proofs.lemmas.Fmt.{digits_decimal, digits_value-decimal}
use Rattle.std.proofs.lemmas.List.{append-nil, length-reverse, reverse-append, reverse-reverse}
use Rattle.std.proofs.lemmas.List.Sums.{fold-append}
use Rattle.std.proofs.lemmas.Slice.Eq.{bytes_eq-Decides}
use Rattle.std.proofs.lemmas.Str.Parse.{IsNumeralModel, numerals_by_fold}
use Rattle.std.specs.Char.{is_ascii_digit}
use Rattle.std.specs.Fmt.{decimal}
use Rattle.std.specs.List.{AllByRecursion, fold, list_all, range_with_len}
use Rattle.std.specs.Str.{bytes_eq}
use Rattle.column_order.specs.Orders.{has, occurs, IsOrder}
use Rattle.column_order.proofs.Counts.{within_one, within_none, in_range, order_within}
use Rattle.column_order.proofs.Lists.{has_cases, has_head, has_tail, has_append_left, has_append_right, has_from_occurs}
use Rattle.row_model.proofs.Filtered.{range_has}
use Rattle.text_lines.specs.Words.{number_after}
use Rattle.pq_tree.specs.Outline.{Outline, Forest, leaf, p_node, q_node, no_tree, tree_and, leaves, leaves_of}
use Rattle.pq_tree.specs.Proper.{forest, trees, count, HasArities, HaveArities, IsProper}
use Rattle.pq_tree.specs.Text.{tree_text, forest_text, spaced_text}
use Rattle.pq_tree.specs.Reading.{tree_of}
use Rattle.pq_tree.proofs.Found.{IsFound, tree_of_found}
use Rattle.pq_tree.proofs.Again.{tree_of_proper}
use Rattle.pq_tree.proofs.Forests.{forest-trees, count_forest, forest_reverse, arities_back}
use Rattle.command_input.specs.TreeReading.{with_digit, with_space, with_node, with_byte, is_written, only_tree, tree_in_text}

-- the digits of a number
own : IsNumeralModel (λ ds. list_all is_ascii_digit ds ≡ true) (number_after 0)
own = numerals_by_fold _ (search rules) number_after (search rules)

module _ (ts : List Outline) (lists : List (List Outline)) where
  digits_read : (n : ℕ) (ds : List ℕ) → list_all is_ascii_digit ds ≡ true → fold with_byte ((leaf n ∷ ts) ∷ lists) ds ≡ (leaf (number_after n ds) ∷ ts) ∷ lists
  digits_read n [] h = refl
  digits_read n (d ∷ ds) h =
      let parts = and_parts (is_ascii_digit d) (list_all is_ascii_digit ds) h in
      rw parts.0 (digits_read (n * 10 + (d - 48)) ds parts.1)

  number_read : (a : ℕ) → a < 2 ^ 64 → fold with_byte ((leaf 0 ∷ ts) ∷ lists) (decimal a) ≡ (leaf a ∷ ts) ∷ lists
  number_read a small = digits_read 0 (decimal a) (digits_decimal own a small) ∙ ap (λ n. (leaf n ∷ ts) ∷ lists) (digits_value-decimal own a small)

-- numbers of 64 bits
abbrev AreSmall : List ℕ → Type 0
AreSmall xs = (a : ℕ) → IsTrue (has xs a) → a < 2 ^ 64

-- a text is read as its tree, behind whatever stands before it
more_reversed : (u : Outline) (us ts : List Outline) → reverse us ++ u ∷ ts ≡ reverse (u ∷ us) ++ ts
more_reversed u us ts = sym (append_assoc (reverse us) (u ∷ []) ts) ∙ ap (λ xs. xs ++ ts) (sym (reverse-append (u ∷ []) us))

module _ (node : Forest → Outline) (least : ℕ) (us : Forest) (ts : List Outline) (lists : List (List Outline)) where
  node_read : least ≤ count us → with_node node least (reverse (trees us) ∷ (leaf 0 ∷ ts) ∷ lists) ≡ (node us ∷ ts) ∷ lists
  node_read some =
      let long : least ≤ length (reverse (trees us)) = omega (arith, some, length-reverse (trees us), count_forest (trees us), ap count (forest-trees us)) in
      rw (le-leb least (length (reverse (trees us))) long) (ap (λ us. (node (forest us) ∷ ts) ∷ lists) (reverse-reverse (trees us)) ∙ ap (λ us. (node us ∷ ts) ∷ lists) (forest-trees us))

mutual
  unfolding tree_text forest_text spaced_text

  tree_read : (t : Outline) → HasArities t → AreSmall (leaves t) → (ts : List Outline) (lists : List (List Outline)) → fold with_byte ((leaf 0 ∷ ts) ∷ lists) (tree_text t) ≡ (t ∷ ts) ∷ lists
  tree_read (leaf a) h small ts lists = number_read ts lists a (small a (has_head a []))
  tree_read (p_node us) h small ts lists =
      fold-append with_byte ((leaf 0 ∷ []) ∷ (leaf 0 ∷ ts) ∷ lists) (forest_text us) (41 ∷ [])
      ∙ ap (λ s. with_byte s 41) (forest_read us h.1 small (omega (arith, h.0)) ((leaf 0 ∷ ts) ∷ lists))
      ∙ node_read p_node 2 us ts lists h.0
  tree_read (q_node us) h small ts lists =
      fold-append with_byte ((leaf 0 ∷ []) ∷ (leaf 0 ∷ ts) ∷ lists) (forest_text us) (93 ∷ [])
      ∙ ap (λ s. with_byte s 93) (forest_read us h.1 small (omega (arith, h.0)) ((leaf 0 ∷ ts) ∷ lists))
      ∙ node_read q_node 3 us ts lists h.0

  forest_read : (us : Forest) → HaveArities us → AreSmall (leaves_of us) → 1 ≤ count us → (lists : List (List Outline)) → fold with_byte ((leaf 0 ∷ []) ∷ lists) (forest_text us) ≡ reverse (trees us) ∷ lists
  forest_read no_tree h small some lists = absurd (omega arith)
  forest_read (tree_and u us) h small some lists =
      fold-append with_byte ((leaf 0 ∷ []) ∷ lists) (tree_text u) (spaced_text us)
      ∙ ap (λ s. fold with_byte s (spaced_text us)) (tree_read u h.0 (λ a k. small a (has_append_left (leaves u) (leaves_of us) a k)) [] lists)
      ∙ spaced_read us h.1 (λ a k. small a (has_append_right (leaves u) (leaves_of us) a k)) (u ∷ []) lists
      ∙ ap (λ ts. ts ∷ lists) (more_reversed u (trees us) [] ∙ append-nil (reverse (u ∷ trees us)))

  spaced_read : (us : Forest) → HaveArities us → AreSmall (leaves_of us) → (ts : List Outline) (lists : List (List Outline)) → fold with_byte (ts ∷ lists) (spaced_text us) ≡ (reverse (trees us) ++ ts) ∷ lists
  spaced_read no_tree h small ts lists = refl
  spaced_read (tree_and u us) h small ts lists =
      fold-append with_byte ((leaf 0 ∷ ts) ∷ lists) (tree_text u) (spaced_text us)
      ∙ ap (λ s. fold with_byte s (spaced_text us)) (tree_read u h.0 (λ a k. small a (has_append_left (leaves u) (leaves_of us) a k)) ts lists)
      ∙ spaced_read us h.1 (λ a k. small a (has_append_right (leaves u) (leaves_of us) a k)) (u ∷ ts) lists
      ∙ ap (λ ts. ts ∷ lists) (more_reversed u (trees us) ts)

-- what the lists have so far has enough children at each node
abbrev AreWell : List (List Outline) → Type 0
AreWell lists = AllByRecursion (AllByRecursion HasArities) lists

have_arities : (ts : List Outline) → AllByRecursion HasArities ts → HaveArities (forest ts)
have_arities [] h = tt
have_arities (t ∷ ts) h = (h.0, have_arities ts h.1)

well_digit : (d : ℕ) (lists : List (List Outline)) → AreWell lists → AreWell (with_digit d lists)
well_digit d [] h = tt
well_digit d ([] ∷ lists) h = tt
well_digit d ((leaf n ∷ ts) ∷ lists) h = ((tt, h.0.1), h.1)
well_digit d ((p_node us ∷ ts) ∷ lists) h = tt
well_digit d ((q_node us ∷ ts) ∷ lists) h = tt

well_space : (lists : List (List Outline)) → AreWell lists → AreWell (with_space lists)
well_space [] h = tt
well_space (ts ∷ lists) h = ((tt, h.0), h.1)

module _ (node : Forest → Outline) (least : ℕ) (made : (us : Forest) → least ≤ count us → HaveArities us → HasArities (node us)) where
  well_node : (lists : List (List Outline)) → AreWell lists → AreWell (with_node node least lists)
  well_node [] h = tt
  well_node (ts ∷ []) h = tt
  well_node (ts ∷ [] ∷ lists) h = tt
  well_node (ts ∷ (u ∷ us) ∷ lists) h = by (nat_le least (length ts)) refl
    where
      by : (enough : Bool) → nat_le least (length ts) ≡ enough → AreWell (if enough then (node (forest (reverse ts)) ∷ us) ∷ lists else [])
      by true e =
          let many : least ≤ length ts = leb-true least (length ts) e in
          let counted : count (forest (reverse ts)) ≡ length ts = count_forest (reverse ts) ∙ length-reverse ts in
          let each : HaveArities (forest (reverse ts)) = subst HaveArities (sym (forest_reverse ts)) (arities_back (forest ts) (have_arities ts h.0)) in
          ((made (forest (reverse ts)) (omega (arith, many, counted)) each, h.1.0.1), h.1.1)
      by false e = tt

well_byte : (lists : List (List Outline)) (b : ℕ) → AreWell lists → AreWell (with_byte lists b)
well_byte lists b h = by (is_ascii_digit b) (b == 32) (b == 41) (b == 93)
  where
    by : (digit space round square : Bool) →
        AreWell (if digit then with_digit (b - 48) lists else if space then with_space lists else if round then with_node p_node 2 lists else if square then with_node q_node 3 lists else (leaf 0 ∷ []) ∷ lists)
    by true space round square = well_digit (b - 48) lists h
    by false true round square = well_space lists h
    by false false true square = well_node p_node 2 (λ us some each. (some, each)) lists h
    by false false false true = well_node q_node 3 (λ us some each. (some, each)) lists h
    by false false false false = ((tt, tt), h)

well_fold : (text : List ℕ) (lists : List (List Outline)) → AreWell lists → AreWell (fold with_byte lists text)
well_fold [] lists h = h
well_fold (b ∷ text) lists h = well_fold text (with_byte lists b) (well_byte lists b h)

-- each of some numbers passes a test
all_at : (p : ℕ → Bool) (xs : List ℕ) → list_all p xs ≡ true → (a : ℕ) → IsTrue (has xs a) → p a ≡ true
all_at p [] h a k = absurd (cc)
all_at p (x ∷ xs) h a k =
    let parts = and_parts (p x) (list_all p xs) h in
    elim (has_cases x a xs k) [ inl e ↦ ap p (sym e) ∙ parts.0 | inr r ↦ all_at p xs parts.1 a r ]

all_from : (p : ℕ → Bool) (xs : List ℕ) → ((a : ℕ) → IsTrue (has xs a) → p a ≡ true) → list_all p xs ≡ true
all_from p [] h = refl
all_from p (x ∷ xs) h = and_from (p x) (list_all p xs) (h x (has_head x xs)) (all_from p xs (λ a k. h a (has_tail x a xs k)))

range_within : (n low a : ℕ) → IsTrue (has (range_with_len low n) a) → (low ≤ a) × (a < low + n)
range_within zero low a k = absurd (cc)
range_within (suc n) low a k =
    elim (has_cases low a (range_with_len (low + 1) n) k) [
      | inl e ↦ (omega (arith, e), omega (arith, e))
      | inr r ↦ let in_rest = range_within n (low + 1) a r in (omega (arith, in_rest.0), omega (arith, in_rest.1))
    ]

-- the columns of a tree over 1 to c
module _ (c : ℕ) (o : List ℕ) where
  order_passes : IsOrder c o → (list_all (λ a. occurs o a == 1) (range_with_len 1 c) && list_all (λ a. nat_le 1 a && nat_le a c) o) ≡ true
  order_passes h =
      and_from _ _
      (all_from (λ a. occurs o a == 1) (range_with_len 1 c) (λ a k.
      let r = range_within c 1 a k in
      eq-eqb (occurs o a) 1 (h a ∙ within_one c a r.0 (omega (arith, r.1)))))
      (all_from (λ a. nat_le 1 a && nat_le a c) o (λ a k.
      let r = order_within c o h a k in
      and_from (nat_le 1 a) (nat_le a c) (le-leb 1 a r.0) (le-leb a c r.1)))

  passes_order : (list_all (λ a. occurs o a == 1) (range_with_len 1 c) && list_all (λ a. nat_le 1 a && nat_le a c) o) ≡ true → IsOrder c o
  passes_order h a =
      let parts = and_parts _ _ h in
      elim (in_range c a) [
        | inl r ↦ eqb-true (occurs o a) 1 (all_at (λ a. occurs o a == 1) (range_with_len 1 c) parts.0 a (range_has c 1 a r.0 (omega (arith, r.1)))) ∙ sym (within_one c a r.0 r.1)
        | inr r ↦ elim (cases_lt 0 (occurs o a)) [
          | inl some ↦
              let tests = and_parts (nat_le 1 a) (nat_le a c) (all_at (λ a. nat_le 1 a && nat_le a c) o parts.1 a (has_from_occurs o a (omega (arith, some)))) in
              absurd (outside r (leb-true 1 a tests.0) (leb-true a c tests.1))
          | inr none ↦ let is : occurs o a ≡ 0 = omega (arith, none) in is ∙ sym (within_none c a r)
        ]
      ]
    where
      outside : (a ≡ 0) ⊎ (c < a) → 1 ≤ a → a ≤ c → ⊥
      outside (inl e) some le = omega (arith, e, some)
      outside (inr l) some le = omega (arith, l, le)

-- the text of a tree over 1 to c writes that tree
text_written : (c : ℕ) (t : Outline) → c < 2 ^ 64 → IsProper c t → tree_in_text c (tree_text t) ≡ Some t
unfolding tree_in_text
text_written c t small h =
    let whole : is_written c (tree_text t) t ≡ true = and_from _ _ ((bytes_eq-Decides (tree_text t) (tree_text t)).1 refl) (order_passes c (leaves t) h.1) in
    ap (only_tree c (tree_text t)) (tree_read t h.0 (λ a k. omega (arith, (order_within c (leaves t) h.1 a k).1, small)) [] []) ∙ ap (λ b. if b then Some t else None) whole

-- and a tree that a text writes is one over 1 to c with that text
record IsWritten (c : ℕ) (text : List ℕ) (t : Outline) : Type 0 where
  proper : IsProper c t
  text_is : tree_text t ≡ text

written_only : (c : ℕ) (text : List ℕ) (lists : List (List Outline)) (t : Outline) → AreWell lists → only_tree c text lists ≡ Some t → IsWritten c text t
written_only c text [] t h e = absurd (cc)
written_only c text ([] ∷ lists) t h e = absurd (cc)
written_only c text ((u ∷ v ∷ us) ∷ lists) t h e = absurd (cc)
written_only c text ((u ∷ []) ∷ ts ∷ lists) t h e = absurd (cc)
written_only c text ((u ∷ []) ∷ []) t h e = by (is_written c text u) refl e
  where
    by : (is : Bool) → is_written c text u ≡ is → (if is then Some u else None) ≡ Some t → IsWritten c text t
    by false k e = absurd (cc)
    by true k e =
        let same : u ≡ t = cc in
        let parts = and_parts (bytes_eq (tree_text u) text) _ k in
        subst (IsWritten c text) same (record { proper = (h.0.0, passes_order c (leaves u) parts.1); text_is = (bytes_eq-Decides (tree_text u) text).0 parts.0 })

tree_written : (c : ℕ) (text : List ℕ) (t : Outline) → tree_in_text c text ≡ Some t → IsWritten c text t
unfolding tree_in_text
tree_written c text t e = written_only c text (fold with_byte ((leaf 0 ∷ []) ∷ []) text) t (well_fold text ((leaf 0 ∷ []) ∷ []) ((tt, tt), tt)) e

pub reads_same : (c : ℕ) (text : List ℕ) → c < 2 ^ 64 → tree_in_text c text ≡ tree_of c text
reads_same c text small = by (tree_in_text c text) (tree_of c text) refl refl
  where
    by : (o p : Option Outline) → tree_in_text c text ≡ o → tree_of c text ≡ p → tree_in_text c text ≡ tree_of c text
    by None None a b = a ∙ sym b
    by (Some t) p a b =
        let w = tree_written c text t a in
        a ∙ sym (ap (tree_of c) (sym w.text_is) ∙ tree_of_proper c t small w.proper)
    by None (Some t) a b =
        let f : IsFound c t text = tree_of_found c text t small b in
        ap (tree_in_text c) (sym f.text) ∙ text_written c t small f.proper ∙ sym b
