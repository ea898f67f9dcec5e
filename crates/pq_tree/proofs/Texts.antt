-- Texts of lists of trees.
use Rattle.std.proofs.Common.{◌≡◌, ◌∙◌, ◌+◌, ◌<◌, ◌≤◌, ℕ, List, [], ◌∷◌, ◌++◌, map, length, take, refl, sym, ap, arith, get_or}
use Rattle.std.proofs.lemmas.List.{map_more, append_assoc, append-nil, length-map, length-take-le, take_all}
use Rattle.std.specs.declared.vec.Vec.{Vec}
use Rattle.std.specs.declared.alloc.Global.{Global}
use Rattle.std.specs.Prelude.{Result, Ok, Err, OnErr}
use Rattle.plain_text.specs.Pieces.{Extends}
use Rattle.pq_tree.specs.Outline.{Outline}
use Rattle.pq_tree.specs.Proper.{outline_of, forest}
use Rattle.pq_tree.specs.Text.{tree_text, forest_text, spaced_text, gap}
use Rattle.pq_tree.specs.declared.Tree.{Tree, P, Q}
use Rattle.pq_tree.proofs.Shown.{outline_of-P, outline_of-Q}

-- a text that did not grow
pub unchanged : {old new : List ℕ} → new ≡ old → Extends old new
unchanged {old} e = ([], e ∙ sym (append-nil old))

spaced_push : (ts : List Outline) (t : Outline) → spaced_text (forest (ts ++ t ∷ [])) ≡ spaced_text (forest ts) ++ 32 ∷ tree_text t
unfolding tree_text forest_text spaced_text
spaced_push [] t = ap (λ x. 32 ∷ x) (append-nil (tree_text t))
spaced_push (u ∷ us) t =
    ap (λ x. 32 ∷ (tree_text u ++ x)) (spaced_push us t) ∙ ap (λ x. 32 ∷ x) (sym (append_assoc (tree_text u) (spaced_text (forest us)) (32 ∷ tree_text t)))

-- one child more
pub texts_push : (ts : List Outline) (t : Outline) → forest_text (forest (ts ++ t ∷ [])) ≡ forest_text (forest ts) ++ (gap (length ts) ++ tree_text t)
unfolding tree_text forest_text spaced_text
texts_push [] t = append-nil (tree_text t)
texts_push (u ∷ us) t = ap (λ x. tree_text u ++ x) (spaced_push us t) ∙ sym (append_assoc (tree_text u) (spaced_text (forest us)) (32 ∷ tree_text t))

pub no_texts : forest_text (forest []) ≡ []
unfolding tree_text forest_text spaced_text
no_texts = refl

-- the loop over the children
pub texts_step : (old now between new : List ℕ) (ts : List Tree) (i : ℕ) (t : Tree) → i < length ts → t ≡ get_or ts i t → now ≡ old ++ forest_text (forest (map outline_of (take i ts)))
    → between ≡ now ++ gap i → new ≡ between ++ tree_text (outline_of t) → new ≡ old ++ forest_text (forest (map outline_of (take (i + 1) ts)))
texts_step old now between new ts i t h r e g k =
    let n : length (map outline_of (take i ts)) ≡ i = length-map (take i ts) outline_of ∙ length-take-le i ts (omega arith) in
    let made : forest_text (forest (map outline_of (take (i + 1) ts))) ≡ forest_text (forest (map outline_of (take i ts))) ++ (gap i ++ tree_text (outline_of t)) =
    ap (λ x. forest_text (forest x)) (map_more outline_of ts i t h) ∙ texts_push (map outline_of (take i ts)) (outline_of (get_or ts i t)) ∙ rw (n, ← r) refl in
    rw (made, ← append_assoc, ← append_assoc, ← e, ← g) k

texts_all : (old now : List ℕ) (ts : List Tree) (i : ℕ) → length ts ≤ i → now ≡ old ++ forest_text (forest (map outline_of (take i ts))) → now ≡ old ++ forest_text (forest (map outline_of ts))
texts_all old now ts i l e = rw (take_all i ts l) at e

wrap : (old a b new inner : List ℕ) (x y : ℕ) → a ≡ old ++ x ∷ [] → b ≡ a ++ inner → new ≡ b ++ y ∷ [] → new ≡ old ++ (x ∷ (inner ++ y ∷ []))
wrap old a b new inner x y e f g = rw (g, f, e, append_assoc, append_assoc) refl

pub printed_P : (old a b new : List ℕ) (ts : List Tree) (t : Tree) (v : Vec Tree Global) → t ≡ P v → ts ≡ v.items → a ≡ old ++ 40 ∷ [] → b ≡ a ++ forest_text (forest (map outline_of ts))
    → new ≡ b ++ 41 ∷ [] → new ≡ old ++ tree_text (outline_of t)
unfolding tree_text forest_text spaced_text
printed_P old a b new ts t v is same e f g = rw (is, outline_of-P, ← same) (wrap old a b new (forest_text (forest (map outline_of ts))) 40 41 e f g)

pub printed_Q : (old a b new : List ℕ) (ts : List Tree) (t : Tree) (v : Vec Tree Global) → t ≡ Q v → ts ≡ v.items → a ≡ old ++ 91 ∷ [] → b ≡ a ++ forest_text (forest (map outline_of ts))
    → new ≡ b ++ 93 ∷ [] → new ≡ old ++ tree_text (outline_of t)
unfolding tree_text forest_text spaced_text
printed_Q old a b new ts t v is same e f g = rw (is, outline_of-Q, ← same) (wrap old a b new (forest_text (forest (map outline_of ts))) 91 93 e f g)

-- a text that grew twice
pub extends_after : (old now new front : List ℕ) → now ≡ old ++ front → Extends now new → Extends old new
extends_after old now new front e x = (front ++ x.0, x.1 ∙ ap (λ y. y ++ x.0) e ∙ append_assoc old front x.0)

pub on_err : {T E P : Type 0} (r : Result T E) → P → OnErr r P
on_err (Ok x) h = tt
on_err (Err e) h = h
