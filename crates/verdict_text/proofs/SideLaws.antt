-- One side of a yes: its tree and its order.
use Rattle.std.proofs.Common.{◌≡◌, ◌∙◌, ◌+◌, ◌%◌, ◌^◌, ◌<◌, ◌≤◌, ℕ, suc, false, List, [], ◌∷◌, ◌++◌, length, take, drop, Some, refl, sym, ap, arith, inl, inr, subst, codes, eqb}
use Rattle.std.specs.Prelude.{option_and_then, flat_map}
use Rattle.std.specs.List.{AllByRecursion}
use Rattle.std.specs.Fmt.{decimal}
use Rattle.std.proofs.lemmas.List.{append_assoc, take-append-drop}
use Rattle.std.proofs.Math.Seq.{drop-append_seam, take-append_seam}
use Rattle.std.proofs.lemmas.Bool.{ne_eqb}
use Rattle.std.proofs.lemmas.Option.{none-some, some_pair_parts, option_and_then_some}
use Rattle.std.proofs.lemmas.Fmt.{decimal_by_steps}
use Rattle.plain_text.proofs.NumberLaws.{chosen}
use Rattle.column_order.proofs.Counts.{in_range, within_none}
use Rattle.column_order.specs.Orders.{occurs}
use Rattle.column_order.proofs.Lists.{occurs-append}
use Rattle.pq_tree.specs.Outline.{Outline, Forest, leaf, p_node, q_node, no_tree, tree_and, leaves, leaves_of}
use Rattle.pq_tree.specs.Proper.{IsProper}
use Rattle.pq_tree.specs.Text.{tree_text, forest_text, spaced_text}
use Rattle.pq_tree.specs.Reading.{tree_of}
use Rattle.pq_tree.proofs.Found.{tree_of_found, within}
use Rattle.pq_tree.proofs.Again.{tree_of_proper, head_one}
use Rattle.verdict_text.specs.Verdict.{SideValue}
use Rattle.verdict_text.specs.Text.{side_text}
use Rattle.text_parts.specs.Text.{number_word}
use Rattle.verdict_text.specs.Grammar.{IsSide}
use Rattle.text_parts.specs.Grammar.{Fits32}
use Rattle.text_parts.specs.Reading.{numbers_at}
use Rattle.verdict_text.specs.Reading.{tree_at, with_bytes, line_len, order_at, side_at}
use Rattle.text_parts.proofs.Chains.{Takes, after_word, at_word, some_number}
use Rattle.text_parts.proofs.WordLaws.{numbers_take, numbers_again, words_long}

-- a text with no line feed in it
HasNoFeed : List ℕ → Type 0
HasNoFeed [] = Unit {0}
HasNoFeed (b ∷ bytes) = (eqb b 10 ≡ false) × HasNoFeed bytes

no_feed-append : (xs ys : List ℕ) → HasNoFeed xs → HasNoFeed ys → HasNoFeed (xs ++ ys)
unfolding HasNoFeed
no_feed-append [] ys h k = k
no_feed-append (x ∷ xs) ys h k = (h.0, no_feed-append xs ys h.1 k)

no_feed_number : (n : ℕ) → n < 2 ^ 64 → HasNoFeed (decimal n)
unfolding HasNoFeed
no_feed_number n l =
    let P : ℕ → List ℕ → Type 0 = λ n ds. HasNoFeed ds in
    decimal_by_steps P (λ n h. (ne_eqb (48 + n) 10 (λ e. omega arith), tt)) (λ n ds h r. no_feed-append ds ((48 + n % 10) ∷ []) r (ne_eqb (48 + n % 10) 10 (λ e. omega arith), tt)) n l

-- each column is below 2 ^ 64
mutual
  AreLow : Outline → Type 0
  AreLow (leaf a) = a < 2 ^ 64
  AreLow (p_node ts) = AllLow ts
  AreLow (q_node ts) = AllLow ts

  AllLow : Forest → Type 0
  AllLow no_tree = Unit {0}
  AllLow (tree_and t ts) = AreLow t × AllLow ts

mutual
  unfolding AreLow AllLow

  low_tree : (c : ℕ) (t : Outline) → c < 2 ^ 64 → ((a : ℕ) → occurs (leaves t) a ≤ within c a) → AreLow t
  low_tree c (leaf a) l h = elim (in_range c a) [ inl r ↦ omega (arith, r.1) | inr r ↦ absurd (omega (arith, h a, head_one a [], within_none c a r)) ]
  low_tree c (p_node ts) l h = low_trees c ts l h
  low_tree c (q_node ts) l h = low_trees c ts l h

  low_trees : (c : ℕ) (ts : Forest) → c < 2 ^ 64 → ((a : ℕ) → occurs (leaves_of ts) a ≤ within c a) → AllLow ts
  low_trees c no_tree l h = tt
  low_trees c (tree_and t ts) l h =
      (low_tree c t l (λ a. omega (arith, h a, occurs-append (leaves t) (leaves_of ts) a)), low_trees c ts l (λ a. omega (arith, h a, occurs-append (leaves t) (leaves_of ts) a)))

mutual
  unfolding tree_text forest_text spaced_text HasNoFeed AreLow AllLow

  no_feed_tree : (t : Outline) → AreLow t → HasNoFeed (tree_text t)
  no_feed_tree (leaf a) h = no_feed_number a h
  no_feed_tree (p_node ts) h = (refl, no_feed-append (forest_text ts) (41 ∷ []) (no_feed_texts ts h) (refl, tt))
  no_feed_tree (q_node ts) h = (refl, no_feed-append (forest_text ts) (93 ∷ []) (no_feed_texts ts h) (refl, tt))

  no_feed_texts : (ts : Forest) → AllLow ts → HasNoFeed (forest_text ts)
  no_feed_texts no_tree h = tt
  no_feed_texts (tree_and t ts) h = no_feed-append (tree_text t) (spaced_text ts) (no_feed_tree t h.0) (no_feed_spaced ts h.1)

  no_feed_spaced : (ts : Forest) → AllLow ts → HasNoFeed (spaced_text ts)
  no_feed_spaced no_tree h = tt
  no_feed_spaced (tree_and t ts) h = (refl, no_feed-append (tree_text t) (spaced_text ts) (no_feed_tree t h.0) (no_feed_spaced ts h.1))

line_len_at : (xs rest : List ℕ) → HasNoFeed xs → line_len (xs ++ 10 ∷ rest) ≡ length xs
unfolding HasNoFeed
line_len_at [] rest h = refl
line_len_at (x ∷ xs) rest h = rw h.0 (ap suc (line_len_at xs rest h.1))

tree_takes : (c : ℕ) (bytes : List ℕ) (t : Outline) (rest : List ℕ) → c < 2 ^ 64 → tree_at c bytes ≡ Some (t, rest) → IsProper c t × (bytes ≡ tree_text t ++ rest)
unfolding tree_at
tree_takes c bytes t rest l h =
    option_and_then_some (with_bytes (drop (line_len bytes) bytes)) (tree_of c (take (line_len bytes) bytes)) (t, rest) h (λ x e k.
    let f = tree_of_found c (take (line_len bytes) bytes) x l e in
    let e' = some_pair_parts x t (drop (line_len bytes) bytes) rest k in (
      subst (IsProper c) e'.0 f.proper,
      sym (take-append-drop (line_len bytes) bytes) ∙ ap (λ z. z ++ drop (line_len bytes) bytes) (sym f.text) ∙ ap (λ z. tree_text z ++ drop (line_len bytes) bytes) e'.0 ∙ ap (λ z. tree_text t ++ z) e'.1,
    ))

tree_again : (c : ℕ) (t : Outline) (rest : List ℕ) → c < 2 ^ 64 → IsProper c t → tree_at c (tree_text t ++ (10 ∷ rest)) ≡ Some (t, 10 ∷ rest)
unfolding tree_at
tree_again c t rest l h =
    let n : line_len (tree_text t ++ (10 ∷ rest)) ≡ length (tree_text t) = line_len_at (tree_text t) rest (no_feed_tree t (low_tree c t l (λ a. omega (arith, h.1 a)))) in
    rw (n, take-append_seam (tree_text t) (10 ∷ rest), drop-append_seam (tree_text t) (10 ∷ rest), tree_of_proper c t l h) refl

side_regroup : (s : SideValue) (rest : List ℕ) → side_text s ++ rest ≡ codes "tree " ++ (tree_text s.tree ++ (codes "\norder" ++ (flat_map number_word s.order ++ (10 ∷ rest))))
side_regroup s rest = simp append_assoc

record OrderIs (bytes order rest : List ℕ) : Type 0 where
  some : 1 ≤ length order
  each : AllByRecursion Fits32 order
  front : bytes ≡ codes "\norder" ++ (flat_map number_word order ++ (10 ∷ rest))

order_takes : (bytes order rest : List ℕ) → order_at bytes ≡ Some (order, rest) → OrderIs bytes order rest
unfolding order_at
order_takes bytes order rest h =
    let b = after_word _ (codes "\norder") bytes (order, rest) h in
    option_and_then_some _ (numbers_at (length b.0) b.0) (order, rest) b.2 (λ y f m.
    let r = numbers_take (length b.0) b.0 y.0 y.1 f in
    let d = after_word _ (10 ∷ []) y.1 (order, rest) m in
    elim (chosen (eqb (length y.0) 0) _ _ _ d.2) [
      | inl z ↦ absurd (none-some _ z.1)
      | inr z ↦
          let e' = some_pair_parts y.0 order d.0 rest z.1 in
          subst (λ o. OrderIs bytes o rest) e'.0 (record {
            some = some_number (length y.0) z.0;
            each = r.each;
            front = b.1 ∙ ap (λ w. codes "\norder" ++ w) (r.front ∙ ap (λ w. flat_map number_word y.0 ++ w) (d.1 ∙ ap (λ w. 10 ∷ w) e'.1));
          })
    ])

order_again : (order rest : List ℕ) → 1 ≤ length order → AllByRecursion Fits32 order → order_at (codes "\norder" ++ (flat_map number_word order ++ (10 ∷ rest))) ≡ Some (order, rest)
unfolding order_at
order_again order rest h k =
    let some : eqb (length order) 0 ≡ false = ne_eqb (length order) 0 (λ e. omega (arith, h)) in
    at_word _ (codes "\norder") (flat_map number_word order ++ (10 ∷ rest))
    ∙ ap (option_and_then _) (numbers_again (length (flat_map number_word order ++ (10 ∷ rest))) order rest (words_long order rest) k)
    ∙ at_word _ (10 ∷ []) rest ∙ rw some refl

pub side_takes : (c : ℕ) (bytes : List ℕ) (s : SideValue) (rest : List ℕ) → c < 2 ^ 64 → side_at c bytes ≡ Some (s, rest) → Takes side_text (IsSide c) bytes s rest
unfolding side_at
side_takes c bytes s rest l h =
    let a = after_word _ (codes "tree ") bytes (s, rest) h in
    option_and_then_some _ (tree_at c a.0) (s, rest) a.2 (λ x e k.
    let t = tree_takes c a.0 x.0 x.1 l e in
    option_and_then_some _ (order_at x.1) (s, rest) k (λ y f m.
    let b = order_takes x.1 y.0 y.1 f in
    let made : SideValue = record { tree = x.0; order = y.0 } in
    let e' = some_pair_parts made s y.1 rest m in record {
      good = subst (IsSide c) e'.0 (t.0, b.some, b.each);
      front = a.1 ∙ ap (λ w. codes "tree " ++ w) (t.1 ∙ ap (λ w. tree_text x.0 ++ w) (b.front ∙ ap (λ w. codes "\norder" ++ (flat_map number_word y.0 ++ (10 ∷ w))) e'.1))
          ∙ sym (side_regroup made rest) ∙ ap (λ w. side_text w ++ rest) e'.0;
    }))

pub side_again : (c : ℕ) (s : SideValue) (rest : List ℕ) → c < 2 ^ 64 → IsSide c s → side_at c (side_text s ++ rest) ≡ Some (s, rest)
unfolding side_at
side_again c s rest l h =
    ap (side_at c) (side_regroup s rest)
    ∙ at_word _ (codes "tree ") (tree_text s.tree ++ (codes "\norder" ++ (flat_map number_word s.order ++ (10 ∷ rest))))
    ∙ ap (option_and_then _) (tree_again c s.tree (codes "order" ++ (flat_map number_word s.order ++ (10 ∷ rest))) l h.0)
    ∙ ap (option_and_then _) (order_again s.order rest h.1 h.2)
