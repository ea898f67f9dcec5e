-- The pieces of the templates as the program makes them.
use Rattle.std.proofs.Common.{◌≡◌, ◌∙◌, ◌<◌, ◌≤◌, List, [], ◌∷◌, ◌++◌, reverse, map, length, refl, sym, ap, ap₂, arith}
use Rattle.std.specs.declared.vec.Vec.{Vec}
use Rattle.std.specs.declared.alloc.Global.{Global}
use Rattle.pq_tree.specs.Outline.{Forest, p_node, q_node, no_tree, tree_and}
use Rattle.pq_tree.specs.Proper.{outline_of}
use Rattle.pq_tree.specs.Forests.{forest, join, back}
use Rattle.pq_tree.proofs.Forests.{join_assoc}
use Rattle.pq_tree.specs.declared.Tree.{Tree, P, Q}
use Rattle.pq_tree.proofs.Shown.{outline_of-P, outline_of-Q}
use Rattle.tree_theory.specs.Templates.{star, under}
use Rattle.tree_theory.specs.Labels.{Partial}
use Rattle.pq_plain.specs.Seen.{outlines}
use Rattle.pq_plain.proofs.Outlines.{outlines_append, outlines_reverse}

pub star_few : (ts : List Tree) → length ts < 2 → outlines ts ≡ star (outlines ts)
star_few [] h = refl
star_few (t ∷ []) h = refl
star_few (t ∷ u ∷ us) h = absurd (omega arith)

star_all : (ts : List Tree) → 2 ≤ length ts → star (outlines ts) ≡ tree_and (p_node (outlines ts)) no_tree
star_all [] h = absurd (omega arith)
star_all (t ∷ []) h = absurd (omega arith)
star_all (t ∷ u ∷ us) h = refl

pub star_many : (v : Vec Tree Global) (none new : List Tree) → 2 ≤ length v.items → none ≡ [] → new ≡ none ++ P v ∷ [] → outlines new ≡ star (outlines v.items)
star_many v none new h n e =
    ap outlines (e ∙ ap (λ xs. xs ++ P v ∷ []) n) ∙ ap (λ t. tree_and t no_tree) (outline_of-P v) ∙ sym (star_all v.items h)

-- the partial of two lists that were appended to
pub halves_of : (es fs : List Tree) (a b : Forest) → outlines es ≡ a → outlines fs ≡ b → let h : Partial = record { e = outlines es; f = outlines fs } in h ≡ record { e = a; f = b }
halves_of es fs a b p q = ap₂ (λ x y. record { e = x; f = y }) p q

pub appended : (old more new : List Tree) (a b : Forest) → new ≡ old ++ more → outlines old ≡ a → outlines more ≡ b → outlines new ≡ join a b
appended old more new a b e p q = ap outlines e ∙ outlines_append old more ∙ ap₂ join p q

pub five_parts : (es hs fs ks gs : Forest) → join (join (join (join es hs) fs) ks) gs ≡ join es (join hs (join fs (join ks gs)))
five_parts es hs fs ks gs = simp join_assoc

pub turned : (ts copies new : List Tree) → map outline_of copies ≡ map outline_of ts → new ≡ reverse copies → outlines new ≡ back (outlines ts)
turned ts copies new e k = ap outlines k ∙ outlines_reverse copies ∙ ap (λ xs. back (forest xs)) e

pub turned_line : (ts new : List Tree) (a : Forest) → new ≡ reverse ts → outlines ts ≡ a → outlines new ≡ back a
turned_line ts new a k e = ap outlines k ∙ outlines_reverse ts ∙ ap back e

-- a node over a list
pub node_P : (v : Vec Tree Global) (ts : Forest) → outlines v.items ≡ ts → outline_of (P v) ≡ p_node ts
node_P v ts e = outline_of-P v ∙ ap p_node e

pub node_Q : (v : Vec Tree Global) (ts : Forest) → outlines v.items ≡ ts → outline_of (Q v) ≡ q_node ts
node_Q v ts e = outline_of-Q v ∙ ap q_node e

pub under_some : (v : Vec Tree Global) (none one others : List Tree) (t : Tree) → (length others ≡ 0 → ⊥) → none ≡ [] → one ≡ none ++ t ∷ [] → v.items ≡ one ++ others →
    outline_of (P v) ≡ under (outlines others) (outline_of t)
under_some v none one [] t h n e k = absurd (h refl)
under_some v none one (u ∷ us) t h n e k =
    outline_of-P v ∙ ap (λ xs. p_node (outlines xs)) (k ∙ ap (λ xs. xs ++ u ∷ us) (e ∙ ap (λ xs. xs ++ t ∷ []) n))
