-- The columns of a stretch stand together in each frontier.
use Rattle.std.proofs.Common.{◌≡◌, ◌⊎◌, ◌∙◌, ℕ, zero, suc, ◌<◌, List, [], ◌∷◌, ◌++◌, length, reverse, get_or, IsPermutation, refl, sym, ap, subst, inl, inr, arith, append-nil, append_assoc}
use Rattle.std.proofs.lemmas.List.{reverse-append}
use Rattle.std.proofs.lemmas.List.Folds.{concat-append}
use Rattle.std.proofs.lemmas.List.Sorted.{IsPermutation-reverse, Contains-permutation}
use Rattle.std.specs.List.{concat, Contains}
use Rattle.column_order.specs.Orders.{has}
use Rattle.pq_tree.specs.Outline.{Outline, Forest, leaf, p_node, q_node, no_tree, tree_and, leaves_of, IsFrontier, AreFrontiers}
use Rattle.pq_tree.specs.Proper.{forest}
use Rattle.pq_tree.proofs.Frontiers.{frontiers_occur, occurs-permutation}
use Rattle.pq_tree.specs.Nodes.{IsNode, IsNodeOf}
use Rattle.verdict_judge.specs.Holds.{IsStretch}
use Rattle.verdict_judge.proofs.HoldsLists.{Thirds, thirds_left, thirds_right, Any, Segment, has_same}
use Rattle.verdict_judge.proofs.HoldsFrontiers.{frontier_has}

-- a frontier of the node x is a part of the list
abbrev NodePart : List ℕ → Outline → Type 0
NodePart f x = Thirds Any (IsFrontier x) Any f

-- so of one of the lists
record FoundPart (fs : List (List ℕ)) (x : Outline) : Type 0 where
  one : List ℕ
  within : Contains fs one
  part : NodePart one x

here : (x t : Outline) (f : List ℕ) → x ≡ t → IsFrontier t f → NodePart f x
here x t f e h = record { front = []; middle = f; rest = []; parts = sym (append-nil f); front_is = tt; middle_is = subst (λ y. IsFrontier y f) (sym e) h; rest_is = tt }

part_left : (f g : List ℕ) (x : Outline) → NodePart f x → NodePart (f ++ g) x
part_left f g x p = thirds_left Any (IsFrontier x) Any f g (λ xs h. tt) p

part_right : (f g : List ℕ) (x : Outline) → NodePart g x → NodePart (f ++ g) x
part_right f g x p = thirds_right Any (IsFrontier x) Any f g (λ xs h. tt) p

in_concat_at : (gs : List (List ℕ)) (f : List ℕ) (x : Outline) (k : ℕ) → k < length gs → get_or gs k f ≡ f → NodePart f x → NodePart (concat gs) x
in_concat_at [] f x k l e p = absurd (omega arith)
in_concat_at (g ∷ gs) f x zero l e p = part_left g (concat gs) x (subst (λ y. NodePart y x) (sym e) p)
in_concat_at (g ∷ gs) f x (suc k) l e p = part_right g (concat gs) x (in_concat_at gs f x k (omega arith) e p)

in_concat : (gs : List (List ℕ)) (f : List ℕ) (x : Outline) → Contains gs f → NodePart f x → NodePart (concat gs) x
in_concat gs f x c p = in_concat_at gs f x c.0 c.1 c.2 p

in_moved : (fs gs : List (List ℕ)) (f : List ℕ) (x : Outline) → FoundPart fs x → IsPermutation fs gs → f ≡ concat gs → NodePart f x
in_moved fs gs f x r m e = subst (λ y. NodePart y x) (sym e) (in_concat gs r.one x (Contains-permutation fs gs r.one m r.within) r.part)

in_line : (x : Outline) (ts : Forest) (f : List ℕ) (fs : List (List ℕ)) → FoundPart fs x → (f ≡ concat fs) ⊎ (f ≡ concat (reverse fs)) → NodePart f x
in_line x ts f fs r h =
    elim h [
      | inl e ↦ subst (λ y. NodePart y x) (sym e) (in_concat fs r.one x r.within r.part)
      | inr e ↦ in_moved fs (reverse fs) f x r (IsPermutation-reverse fs) e
    ]

mutual
  node_part : (x t : Outline) (f : List ℕ) → IsNode x t → IsFrontier t f → NodePart f x
  node_part x (leaf a) f n h = here x (leaf a) f n h
  node_part x (p_node ts) f n h =
      elim n [
        | inl e ↦ here x (p_node ts) f e h
        | inr k ↦ in_moved h.0 h.1 f x (nodes_part x ts h.0 k h.2) h.3 h.4
      ]
  node_part x (q_node ts) f n h =
      elim n [
        | inl e ↦ here x (q_node ts) f e h
        | inr k ↦ in_line x ts f h.0 (nodes_part x ts h.0 k h.1) h.2
      ]

  nodes_part : (x : Outline) (ts : Forest) (fs : List (List ℕ)) → IsNodeOf x ts → AreFrontiers ts fs → FoundPart fs x
  nodes_part x no_tree fs n h = absurd n
  nodes_part x (tree_and t ts) [] n h = absurd h
  nodes_part x (tree_and t ts) (f ∷ fs) n h =
      elim n [
        | inl k ↦ record { one = f; within = (zero, omega arith, refl); part = node_part x t f k h.0 }
        | inr k ↦
            let r : FoundPart fs x = nodes_part x ts fs k h.1 in
            let w : Contains fs r.one = r.within in
            record { one = r.one; within = (suc w.0, omega (arith, w.1), w.2); part = r.part }
      ]

-- the frontiers of two groups of trees
record Groups (us vs : List Outline) (fs : List (List ℕ)) : Type 0 where
  first : List (List ℕ)
  last : List (List ℕ)
  are : fs ≡ first ++ last
  of_first : AreFrontiers (forest us) first
  of_last : AreFrontiers (forest vs) last

groups : (us vs : List Outline) (fs : List (List ℕ)) → AreFrontiers (forest (us ++ vs)) fs → Groups us vs fs
groups [] vs fs h = record { first = []; last = fs; are = refl; of_first = tt; of_last = h }
groups (u ∷ us) vs [] h = absurd h
groups (u ∷ us) vs (f ∷ fs) h =
    let r : Groups us vs fs = groups us vs fs h.1 in
    record { first = f ∷ r.first; last = r.last; are = ap (λ x. f ∷ x) r.are; of_first = (h.0, r.of_first); of_last = r.of_last }

three_joined : (xs ys zs : List (List ℕ)) → concat (xs ++ (ys ++ zs)) ≡ concat xs ++ (concat ys ++ concat zs)
three_joined xs ys zs = concat-append xs (ys ++ zs) ∙ ap (λ x. concat xs ++ x) (concat-append ys zs)

three_turned : (xs ys zs : List (List ℕ)) → concat (reverse (xs ++ (ys ++ zs))) ≡ concat (reverse zs) ++ (concat (reverse ys) ++ concat (reverse xs))
three_turned xs ys zs =
    ap concat (reverse-append xs (ys ++ zs)) ∙ concat-append (reverse (ys ++ zs)) (reverse xs) ∙
    ap (λ x. concat x ++ concat (reverse xs)) (reverse-append ys zs) ∙
    ap (λ x. x ++ concat (reverse xs)) (concat-append (reverse zs) (reverse ys)) ∙
    append_assoc (concat (reverse zs)) (concat (reverse ys)) (concat (reverse xs))

turned_has : (fs : List (List ℕ)) (a : ℕ) → has (concat (reverse fs)) a ≡ has (concat fs) a
turned_has fs a = has_same (concat (reverse fs)) (concat fs) a (occurs-permutation fs (reverse fs) a (IsPermutation-reverse fs))

-- neighbouring children of a Q-node
run_part : (us vs ws : List Outline) (f : List ℕ) → IsFrontier (q_node (forest (us ++ (vs ++ ws)))) f → Segment f (leaves_of (forest vs))
run_part us vs ws f h =
    let r : Groups us (vs ++ ws) h.0 = groups us (vs ++ ws) h.0 h.1 in
    let s : Groups vs ws r.last = groups vs ws r.last r.of_last in
    let all : h.0 ≡ r.first ++ (s.first ++ s.last) = r.are ∙ ap (λ x. r.first ++ x) s.are in
    let has_vs : (a : ℕ) → has (concat s.first) a ≡ has (leaves_of (forest vs)) a = λ a. has_same (concat s.first) (leaves_of (forest vs)) a (frontiers_occur (forest vs) s.first a s.of_first) in
    elim h.2 [
      | inl e ↦
          record {
            front = concat r.first;
            middle = concat s.first;
            rest = concat s.last;
            parts = e ∙ ap concat all ∙ three_joined r.first s.first s.last;
            front_is = tt;
            middle_is = has_vs;
            rest_is = tt;
          }
      | inr e ↦
          record {
            front = concat (reverse s.last);
            middle = concat (reverse s.first);
            rest = concat (reverse r.first);
            parts = e ∙ ap (λ x. concat (reverse x)) all ∙ three_turned r.first s.first s.last;
            front_is = tt;
            middle_is = λ a. turned_has s.first a ∙ has_vs a;
            rest_is = tt;
          }
    ]

-- a part of a part
deeper : (f : List ℕ) (x : Outline) (xs : List ℕ) (p : NodePart f x) → Segment p.middle xs → Segment f xs
deeper f x xs p s =
    record {
      front = p.front ++ s.front;
      middle = s.middle;
      rest = s.rest ++ p.rest;
      parts =
          p.parts ∙ ap (λ y. p.front ++ (y ++ p.rest)) s.parts ∙
          ap (λ y. p.front ++ y) (append_assoc s.front (s.middle ++ s.rest) p.rest ∙ ap (λ y. s.front ++ y) (append_assoc s.middle s.rest p.rest)) ∙
          sym (append_assoc p.front s.front (s.middle ++ (s.rest ++ p.rest)));
      front_is = tt;
      middle_is = s.middle_is;
      rest_is = tt;
    }

pub stretch_segment : (xs : List ℕ) (t : Outline) (f : List ℕ) → IsStretch xs t → IsFrontier t f → Segment f xs
stretch_segment xs t f s h =
    elim s [
      | inl n ↦
          let p : NodePart f n.0 = node_part n.0 t f n.1 h in
          record { front = p.front; middle = p.middle; rest = p.rest; parts = p.parts; front_is = tt; middle_is = λ a. frontier_has n.0 p.middle a p.middle_is ∙ sym (ap (λ x. has x a) n.2); rest_is = tt }
      | inr r ↦
          let q : Outline = q_node (forest (r.0 ++ (r.1 ++ r.2))) in
          let p : NodePart f q = node_part q t f r.3 h in
          subst (Segment f) (sym r.4) (deeper f q (leaves_of (forest r.1)) p (run_part r.0 r.1 r.2 p.middle p.middle_is))
    ]
