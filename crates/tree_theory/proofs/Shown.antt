-- Each frontier of a tree is the list of the leaves of an equivalent tree.
use Rattle.std.proofs.Common.{◌≡◌, ◌∙◌, ℕ, List, [], ◌∷◌, ◌++◌, reverse, map, IsPermutation, refl, sym, ap, subst, inl, inr}
use Rattle.std.specs.List.{concat}
use Rattle.pq_tree.specs.Outline.{Outline, Forest, leaf, p_node, q_node, no_tree, tree_and, leaves, leaves_of, IsFrontier, AreFrontiers}
use Rattle.pq_tree.specs.Forests.{forest}
use Rattle.pq_tree.specs.Equivalent.{IsEquivalent, AreEquivalent}
use Rattle.pq_tree.proofs.Forests.{map-reverse}
use Rattle.pq_tree.proofs.Frontiers.{permuted_map}

leaves_map : (vs : List Outline) → leaves_of (forest vs) ≡ concat (map leaves vs)
leaves_map [] = refl
leaves_map (v ∷ vs) = ap (λ l. leaves v ++ l) (leaves_map vs)

-- a tree that is had from u by turning nodes, and whose leaves stand as f has them
pub record Shown (u : Outline) (f : List ℕ) : Type 0 where
  pub tree : Outline
  pub turned : IsEquivalent u tree
  pub leaves_are : leaves tree ≡ f

record ShownAll (us : Forest) (fs : List (List ℕ)) : Type 0 where
  all : List Outline
  turned : AreEquivalent us all
  leaves_are : map leaves all ≡ fs

mutual
  pub shown : (u : Outline) (f : List ℕ) → IsFrontier u f → Shown u f
  shown (leaf a) f h = record { tree = leaf a; turned = refl; leaves_are = sym h }
  shown (p_node us) f h =
      let s : ShownAll us h.0 = shown_all us h.0 h.2 in
      let m = permuted_map leaves s.all h.1 (subst (λ x. IsPermutation x h.1) (sym s.leaves_are) h.3) in
      record {
        tree = p_node (forest m.0);
        turned = (s.all, m.0, s.turned, m.1, refl);
        leaves_are = leaves_map m.0 ∙ ap concat (sym m.2) ∙ sym h.4;
      }
  shown (q_node us) f h =
      let s : ShownAll us h.0 = shown_all us h.0 h.1 in
      elim h.2 [
        | inl e ↦
            record {
              tree = q_node (forest s.all);
              turned = (s.all, s.turned, inl refl);
              leaves_are = leaves_map s.all ∙ ap concat s.leaves_are ∙ sym e;
            }
        | inr e ↦
            record {
              tree = q_node (forest (reverse s.all));
              turned = (s.all, s.turned, inr refl);
              leaves_are = leaves_map (reverse s.all) ∙ ap concat (map-reverse leaves s.all ∙ ap reverse s.leaves_are) ∙ sym e;
            }
      ]

  shown_all : (us : Forest) (fs : List (List ℕ)) → AreFrontiers us fs → ShownAll us fs
  shown_all no_tree [] h = record { all = []; turned = tt; leaves_are = refl }
  shown_all no_tree (f ∷ fs) h = absurd h
  shown_all (tree_and u us) [] h = absurd h
  shown_all (tree_and u us) (f ∷ fs) h =
      let a : Shown u f = shown u f h.0 in
      let b : ShownAll us fs = shown_all us fs h.1 in
      record {
        all = a.tree ∷ b.all;
        turned = (a.turned, b.turned);
        leaves_are = ap (λ x. x ∷ map leaves b.all) a.leaves_are ∙ ap (λ xs. f ∷ xs) b.leaves_are;
      }
