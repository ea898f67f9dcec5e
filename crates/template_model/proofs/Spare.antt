-- One tree with two children or more at each inner node leaves five nodes spare.
use Rattle.std.proofs.Common.{◌≡◌, inl, inr, ℕ, zero, suc, ◌+◌, ◌*◌, ◌≤◌, ◌<◌, List, [], ◌∷◌, ◌++◌, length, Some, None, refl, sym, ap, subst, ◌∙◌, arith, length-append}
use Rattle.column_order.specs.Orders.{occurs}
use Rattle.column_order.proofs.Lists.{occurs-append}
use Rattle.column_order.proofs.Counts.{order_length}
use Rattle.pq_tree.specs.Outline.{leaves, leaves_of}
use Rattle.arena_model.specs.declared.Shape.TheVariants.{Leaf, P, Q}
use Rattle.arena_model.specs.Layout.{Layout, shape_at, children_at, IsAtOrAbove, IsLayout, MayHaveChildren}
use Rattle.arena_model.specs.NamedTree.{NamedTree, NamedTrees, named_tree, no_named, named_and, top_names, IsAt, AreAt, node_names, node_names_of, outline_named, outlines_named, outline_below, outline_at, IsOneTree, HasTwoEach}
use Rattle.arena_model.proofs.Lists.{occurs_other, SplitAt, split_at}
use Rattle.arena_model.proofs.Slots.{some_none}
use Rattle.arena_model.proofs.Trees.{TreeAt, tree_at}
use Rattle.arena_model.proofs.Outlines.{below_named, named_below, one_order}

-- a list that has each number below n is n long or longer
many : (n : ℕ) (xs : List ℕ) → ((x : ℕ) → x < n → 1 ≤ occurs xs x) → n ≤ length xs
many zero xs has = omega arith
many (suc n) xs has =
    let s : SplitAt xs n = split_at xs n (has n (omega arith)) in
    let r : n ≤ length (s.us ++ s.vs) = many n (s.us ++ s.vs) (λ x l.
    let o : 1 ≤ occurs xs x = has x (omega arith) in
    let e : occurs xs x ≡ occurs (s.us ++ n ∷ s.vs) x = ap (λ z. occurs z x) s.is in
    omega (arith, occurs-append s.us s.vs x, occurs-append s.us (n ∷ s.vs) x, occurs_other n x s.vs (λ q. (omega arith)))) in
    let l : length xs ≡ length (s.us ++ n ∷ s.vs) = ap length s.is in
    omega (arith, length-append s.us s.vs, length-append s.us (n ∷ s.vs))

-- a tree with two children or more at each inner node has fewer inner nodes than leaves
mutual
  names_few : (f : Layout) (t : NamedTree) → IsLayout f → HasTwoEach f → IsAt f.slots t → length (node_names t) + 1 ≤ 2 * length (leaves (outline_named t))
  names_few f (named_tree n (Leaf a) ts) h two i =
      bare ts (sym (ap (λ c. c.children) i.0) ∙ subst (λ z. MayHaveChildren z (children_at f n)) (ap (λ c. c.shape) i.0) (h.children_fit n))
  names_few f (named_tree n P ts) h two i =
      let r : length (node_names_of ts) + length (top_names ts) ≤ 2 * length (leaves_of (outlines_named ts)) = names_few_of f ts h two i.1 in
      let e : length (children_at f n) ≡ length (top_names ts) = ap (λ c. length c.children) i.0 in
      let t : 2 ≤ length (children_at f n) = two n (inl (ap (λ c. c.shape) i.0)) in omega arith
  names_few f (named_tree n Q ts) h two i =
      let r : length (node_names_of ts) + length (top_names ts) ≤ 2 * length (leaves_of (outlines_named ts)) = names_few_of f ts h two i.1 in
      let e : length (children_at f n) ≡ length (top_names ts) = ap (λ c. length c.children) i.0 in
      let t : 2 ≤ length (children_at f n) = two n (inr (ap (λ c. c.shape) i.0)) in omega arith

  names_few_of : (f : Layout) (ts : NamedTrees) → IsLayout f → HasTwoEach f → AreAt f.slots ts →
      length (node_names_of ts) + length (top_names ts) ≤ 2 * length (leaves_of (outlines_named ts))
  names_few_of f no_named h two i = omega arith
  names_few_of f (named_and t ts) h two i =
      omega (
        arith,
        names_few f t h two i.0,
        names_few_of f ts h two i.1,
        length-append (node_names t) (node_names_of ts),
        length-append (leaves (outline_named t)) (leaves_of (outlines_named ts)),
      )

  bare : (ts : NamedTrees) → top_names ts ≡ [] → suc (length (node_names_of ts)) + 1 ≤ 2
  bare no_named e = omega arith
  bare (named_and t ts) e = absurd (cc)

pub five_spare : (f : Layout) → IsLayout f → IsOneTree f → HasTwoEach f → 5 ≤ length f.spares
five_spare f h one two =
    let r : TreeAt f f.root = tree_at f f.root h h.root_used in
    let out : outline_at f ≡ outline_named r.it = ap (outline_below f) (sym r.named) ∙ below_named f r.it h r.is in
    let c : length (leaves (outline_at f)) ≡ f.columns = order_length f.columns (leaves (outline_at f)) (one_order f h one) in
    let c' : length (leaves (outline_at f)) ≡ length (leaves (outline_named r.it)) = ap (λ z. length (leaves z)) out in
    let few : length (node_names r.it) + 1 ≤ 2 * length (leaves (outline_named r.it)) = names_few f r.it h two r.is in
    let all : length f.slots ≤ length (f.spares ++ node_names r.it) = many (length f.slots) (f.spares ++ node_names r.it) (λ x l. by r x l (shape_at f x) refl) in
    let s : length f.slots ≡ 2 * f.columns + 4 = h.size in
    omega (arith, length-append f.spares (node_names r.it))
  where
    by : (r : TreeAt f f.root) (x : ℕ) → x < length f.slots → (o : _) → shape_at f x ≡ o → 1 ≤ occurs (f.spares ++ node_names r.it) x
    by r x l None e = let o : 1 ≤ occurs f.spares x = h.spare_all x l e in omega (arith, occurs-append f.spares (node_names r.it) x)
    by r x l (Some s) e =
        let o : 1 ≤ occurs (node_names r.it) x = named_below f.slots r.it x r.is
        (subst (λ z. IsAtOrAbove f.slots z x) (sym r.named) (one x (λ z. some_none s (sym e ∙ z)))) in
        omega (arith, occurs-append f.spares (node_names r.it) x)
