-- The children of one label, one child more at a time.
use Rattle.std.proofs.Common.{◌≡◌, ◌∙◌, ◌+◌, ◌<◌, ◌⊎◌, inl, inr, ℕ, List, [], ◌∷◌, ◌++◌, map, take, length, get_or, refl, sym, ap, ap₂, arith}
use Rattle.std.proofs.lemmas.List.{map_more, map-append, length-map, length-take, append-nil}
use Rattle.pq_tree.specs.Outline.{Outline, Forest, no_tree, tree_and}
use Rattle.pq_tree.specs.Proper.{outline_of}
use Rattle.pq_tree.specs.Forests.{forest, join}
use Rattle.pq_tree.proofs.Forests.{join_no_tree}
use Rattle.pq_tree.specs.declared.Tree.{Tree}
use Rattle.tree_theory.specs.Labels.{Label, empty_label, full_label, partial_label, partials, empty_trees, full_trees}
use Rattle.pq_plain.specs.Seen.{outlines, halves_seen, label_seen, whole_label, whole_trees}
use Rattle.pq_plain.specs.declared.label.Halves.{Halves}
use Rattle.pq_plain.specs.declared.label.Label.{Label as Marked}
use Rattle.pq_plain.specs.declared.label.Label.TheVariants.{Empty, Full, Partial}
use Rattle.pq_plain.specs.declared.label.Whole.{Whole}
use Rattle.pq_plain.specs.declared.label.Whole.TheVariants.{Empty as AllEmpty, Full as AllFull}
use Rattle.pq_plain.proofs.Outlines.{outlines_append}
use Rattle.pq_plain.proofs.Marks.{partials_append}

empty_trees_push : (xs : List Outline) (ps : List Label) (x : Outline) (p : Label) → length ps ≡ length xs →
    empty_trees (forest (xs ++ x ∷ [])) (ps ++ p ∷ []) ≡ join (empty_trees (forest xs) ps) (empty_trees (tree_and x no_tree) (p ∷ []))
empty_trees_push [] [] x p e = refl
empty_trees_push [] (q ∷ ps) x p e = absurd (omega arith)
empty_trees_push (y ∷ xs) [] x p e = absurd (omega arith)
empty_trees_push (y ∷ xs) (empty_label ∷ ps) x p e = ap (tree_and y) (empty_trees_push xs ps x p (omega arith))
empty_trees_push (y ∷ xs) (full_label ∷ ps) x p e = empty_trees_push xs ps x p (omega arith)
empty_trees_push (y ∷ xs) (partial_label h ∷ ps) x p e = empty_trees_push xs ps x p (omega arith)

full_trees_push : (xs : List Outline) (ps : List Label) (x : Outline) (p : Label) → length ps ≡ length xs →
    full_trees (forest (xs ++ x ∷ [])) (ps ++ p ∷ []) ≡ join (full_trees (forest xs) ps) (full_trees (tree_and x no_tree) (p ∷ []))
full_trees_push [] [] x p e = refl
full_trees_push [] (q ∷ ps) x p e = absurd (omega arith)
full_trees_push (y ∷ xs) [] x p e = absurd (omega arith)
full_trees_push (y ∷ xs) (empty_label ∷ ps) x p e = full_trees_push xs ps x p (omega arith)
full_trees_push (y ∷ xs) (full_label ∷ ps) x p e = ap (tree_and y) (full_trees_push xs ps x p (omega arith))
full_trees_push (y ∷ xs) (partial_label h ∷ ps) x p e = full_trees_push xs ps x p (omega arith)

same_front : (ts : List Tree) (ls : List Marked) (i : ℕ) → length ls ≡ length ts → length (map label_seen (take i ls)) ≡ length (map outline_of (take i ts))
same_front ts ls i e =
    omega (arith, length-map (take i ls) label_seen, length-map (take i ts) outline_of, length-take i ls, length-take i ts)

-- of the trees ts with the labels ps it picks those with the label that l reads as
pub record IsPick (l : Marked) (pick : Forest → List Label → Forest) : Type 0 where
  push : (xs : List Outline) (ps : List Label) (x : Outline) (p : Label) → length ps ≡ length xs → pick (forest (xs ++ x ∷ [])) (ps ++ p ∷ []) ≡ join (pick (forest xs) ps) (pick (tree_and x no_tree) (p ∷ []))
  this : (x : Outline) → pick (tree_and x no_tree) (label_seen l ∷ []) ≡ tree_and x no_tree
  other : (x : Outline) (m : Marked) → (m ≡ l → ⊥) → pick (tree_and x no_tree) (label_seen m ∷ []) ≡ no_tree

not_empty : (x : Outline) (l : Marked) → (l ≡ Empty → ⊥) → empty_trees (tree_and x no_tree) (label_seen l ∷ []) ≡ no_tree
not_empty x Empty h = absurd (h refl)
not_empty x Full h = refl
not_empty x (Partial p) h = refl

empties : IsPick Empty empty_trees
empties = record { push = empty_trees_push; this = λ x. refl; other = not_empty }

not_full : (x : Outline) (l : Marked) → (l ≡ Full → ⊥) → full_trees (tree_and x no_tree) (label_seen l ∷ []) ≡ no_tree
not_full x Empty h = refl
not_full x Full h = absurd (h refl)
not_full x (Partial p) h = refl

fulls : IsPick Full full_trees
fulls = record { push = full_trees_push; this = λ x. refl; other = not_full }

pub pick_of : (w : Whole) → IsPick (whole_label w) (whole_trees w)
pick_of AllEmpty = empties
pick_of AllFull = fulls

-- a copy more
outlines_push : (all new : List Tree) (t u : Tree) → new ≡ all ++ u ∷ [] → outline_of u ≡ outline_of t → outlines new ≡ join (outlines all) (tree_and (outline_of t) no_tree)
outlines_push all new t u e k =
    ap outlines e ∙ outlines_append all (u ∷ []) ∙ ap (λ x. join (outlines all) (tree_and x no_tree)) k

module _ {l : Marked} {pick : Forest → List Label → Forest} (p : IsPick l pick) where
  pick_next : (ts : List Tree) (ls : List Marked) (i : ℕ) (d : Tree) (m : Marked) → i < length ts → length ls ≡ length ts →
      pick (outlines (take (i + 1) ts)) (map label_seen (take (i + 1) ls)) ≡
      join (pick (outlines (take i ts)) (map label_seen (take i ls))) (pick (tree_and (outline_of (get_or ts i d)) no_tree) (label_seen (get_or ls i m) ∷ []))
  pick_next ts ls i d m h e =
      ap₂ (λ xs ps. pick (forest xs) ps) (map_more outline_of ts i d h) (map_more label_seen ls i m (omega arith)) ∙
      p.push (map outline_of (take i ts)) (map label_seen (take i ls)) (outline_of (get_or ts i d)) (label_seen (get_or ls i m)) (same_front ts ls i e)

  pub picked : (ts : List Tree) (ls : List Marked) (i : ℕ) (all new : List Tree) (t u : Tree) (m : Marked) → i < length ts → length ls ≡ length ts →
      t ≡ get_or ts i t → get_or ls i m ≡ l → new ≡ all ++ u ∷ [] → outline_of u ≡ outline_of t →
      outlines all ≡ pick (outlines (take i ts)) (map label_seen (take i ls)) → outlines new ≡ pick (outlines (take (i + 1) ts)) (map label_seen (take (i + 1) ls))
  picked ts ls i all new t u m h e r k n o q =
      outlines_push all new t u n o ∙
      ap₂ (λ xs x. join xs (tree_and x no_tree)) q (ap outline_of r) ∙
      ap (join (pick (outlines (take i ts)) (map label_seen (take i ls)))) (sym (p.this (outline_of (get_or ts i t)))) ∙
      ap (λ l. join (pick (outlines (take i ts)) (map label_seen (take i ls))) (pick (tree_and (outline_of (get_or ts i t)) no_tree) (label_seen l ∷ []))) (sym k) ∙
      sym (pick_next ts ls i t m h e)

  -- a child passed over (the tree is any, so that there is one to name)
  pub passed : (ts : List Tree) (ls : List Marked) (i : ℕ) (all : List Tree) (m : Marked) → i < length ts → length ls ≡ length ts → (get_or ls i m ≡ l → ⊥) →
      outlines all ≡ pick (outlines (take i ts)) (map label_seen (take i ls)) → outlines all ≡ pick (outlines (take (i + 1) ts)) (map label_seen (take (i + 1) ls))
  passed ts ls i all m h e k q =
      let d : Tree = some_item ts i h in
      q ∙
      sym (join_no_tree (pick (outlines (take i ts)) (map label_seen (take i ls)))) ∙
      ap (join (pick (outlines (take i ts)) (map label_seen (take i ls)))) (sym (p.other (outline_of (get_or ts i d)) (get_or ls i m) k)) ∙
      sym (pick_next ts ls i d m h e)
    where
      some_item : (xs : List Tree) (i : ℕ) → i < length xs → Tree
      some_item [] i h = absurd (omega arith)
      some_item (x ∷ xs) i h = x

-- the partials among the labels so far
push_partials : (ls : List Marked) (l : Marked) → partials (map label_seen (ls ++ l ∷ [])) ≡ partials (map label_seen ls) ++ partials (label_seen l ∷ [])
push_partials ls l = ap partials (map-append label_seen ls (l ∷ [])) ∙ partials_append (map label_seen ls) (label_seen l ∷ [])

pub partial_taken : (hs new : List Halves) (ls : List Marked) (l : Marked) (h : Halves) → l ≡ Partial h → new ≡ hs ++ h ∷ [] → map halves_seen hs ≡ partials (map label_seen ls) →
    map halves_seen new ≡ partials (map label_seen (ls ++ l ∷ []))
partial_taken hs new ls l h r e q =
    ap (map halves_seen) e ∙
    map-append halves_seen hs (h ∷ []) ∙
    ap (λ xs. xs ++ halves_seen h ∷ []) q ∙
    sym (push_partials ls (Partial h)) ∙
    ap (λ x. partials (map label_seen (ls ++ x ∷ []))) (sym r)

pub partial_passed : (hs : List Halves) (ls : List Marked) (l : Marked) → (l ≡ Empty) ⊎ (l ≡ Full) → map halves_seen hs ≡ partials (map label_seen ls) →
    map halves_seen hs ≡ partials (map label_seen (ls ++ l ∷ []))
partial_passed hs ls l e q =
    q ∙
    sym (append-nil (partials (map label_seen ls))) ∙
    ap (λ xs. partials (map label_seen ls) ++ xs) (elim e [ inl k ↦ ap (λ x. partials (label_seen x ∷ [])) (sym k) | inr k ↦ ap (λ x. partials (label_seen x ∷ [])) (sym k) ]) ∙
    sym (push_partials ls l)
