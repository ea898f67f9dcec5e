-- Copies of trees, one after another, and the nodes over them.
use Rattle.std.proofs.Common.{◌≡◌, ◌∙◌, ◌+◌, ◌<◌, ◌≤◌, ℕ, List, [], ◌∷◌, ◌++◌, map, take, length, get_or, sym, ap}
use Rattle.std.proofs.lemmas.List.{map_more, map-append, take_all}
use Rattle.std.specs.declared.vec.Vec.{Vec}
use Rattle.std.specs.declared.alloc.Global.{Global}
use Rattle.pq_tree.specs.Outline.{p_node, q_node}
use Rattle.pq_tree.specs.Proper.{outline_of}
use Rattle.pq_tree.specs.Forests.{forest}
use Rattle.pq_tree.specs.declared.Tree.{Tree, P, Q}
use Rattle.pq_tree.proofs.Shown.{outline_of-P, outline_of-Q}

-- one copy more
pub copy_more : (ts all new : List Tree) (i : ℕ) (t u : Tree) → i < length ts → t ≡ get_or ts i t → new ≡ all ++ u ∷ [] →
    map outline_of all ≡ map outline_of (take i ts) → outline_of u ≡ outline_of t → map outline_of new ≡ map outline_of (take (i + 1) ts)
copy_more ts all new i t u h r e k m =
    ap (map outline_of) e ∙
    map-append outline_of all (u ∷ []) ∙
    ap (λ xs. xs ++ outline_of u ∷ []) k ∙
    ap (λ x. map outline_of (take i ts) ++ x ∷ []) (m ∙ ap outline_of r) ∙
    sym (map_more outline_of ts i t h)

pub copy_all : (ts all : List Tree) (i : ℕ) → length ts ≤ i → map outline_of all ≡ map outline_of (take i ts) → map outline_of all ≡ map outline_of ts
copy_all ts all i h e = e ∙ ap (map outline_of) (take_all i ts h)

-- a node over copies
pub copy_P : (t : Tree) (v w : Vec Tree Global) (ts : List Tree) → t ≡ P v → ts ≡ v.items → map outline_of w.items ≡ map outline_of ts → outline_of (P w) ≡ outline_of t
copy_P t v w ts e s h =
    outline_of-P w ∙ ap (λ xs. p_node (forest xs)) (h ∙ ap (map outline_of) s) ∙ sym (ap outline_of e ∙ outline_of-P v)

pub copy_Q : (t : Tree) (v w : Vec Tree Global) (ts : List Tree) → t ≡ Q v → ts ≡ v.items → map outline_of w.items ≡ map outline_of ts → outline_of (Q w) ≡ outline_of t
copy_Q t v w ts e s h =
    outline_of-Q w ∙ ap (λ xs. q_node (forest xs)) (h ∙ ap (map outline_of) s) ∙ sym (ap outline_of e ∙ outline_of-Q v)
