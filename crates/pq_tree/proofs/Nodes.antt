-- Nodes of nodes, and the pertinent root: it exists where the tree holds the row, and there is one.
use Rattle.std.proofs.Common.{◌≡◌, ◌⊎◌, ◌∙◌, ◌≤◌, ℕ, false, List, [], ◌∷◌, ◌++◌, IsTrue, IsFalse, refl, sym, ap, subst, inl, inr, arith}
use Rattle.std.proofs.lemmas.Bool.{both_ways, cases_Bool, cond-true, cond-false, and_from, and_parts}
use Rattle.column_order.specs.Orders.{has, occurs}
use Rattle.column_order.proofs.Lists.{has_cases, has_head, has_tail, has_append_left, has_append_right, occurs-append, apart}
use Rattle.pq_tree.specs.Outline.{Outline, Forest, leaf, p_node, q_node, no_tree, tree_and, leaves, leaves_of}
use Rattle.pq_tree.specs.Nodes.{children, IsNode, IsNodeOf, holds, NoneHolds, IsPertinentRoot, pertinent_root, root_among}

-- a tree is a node of itself
pub node_itself : (t : Outline) → IsNode t t
node_itself (leaf a) = refl
node_itself (p_node ts) = inl refl
node_itself (q_node ts) = inl refl

-- a node of a child is a node
pub node_below : (x t : Outline) → IsNodeOf x (children t) → IsNode x t
node_below x (leaf a) h = absurd h
node_below x (p_node ts) h = inr h
node_below x (q_node ts) h = inr h

-- a node of a node is a node
mutual
  pub node_of_node : (x y t : Outline) → IsNode x y → IsNode y t → IsNode x t
  node_of_node x y (leaf a) h k = subst (IsNode x) k h
  node_of_node x y (p_node ts) h k = elim k [ inl e ↦ subst (IsNode x) e h | inr n ↦ inr (node_of_nodes x y ts h n) ]
  node_of_node x y (q_node ts) h k = elim k [ inl e ↦ subst (IsNode x) e h | inr n ↦ inr (node_of_nodes x y ts h n) ]

  pub node_of_nodes : (x y : Outline) (ts : Forest) → IsNode x y → IsNodeOf y ts → IsNodeOf x ts
  node_of_nodes x y no_tree h k = k
  node_of_nodes x y (tree_and t ts) h k = elim k [ inl n ↦ inl (node_of_node x y t h n) | inr n ↦ inr (node_of_nodes x y ts h n) ]

-- the columns of a node are columns of the tree
mutual
  pub node_within : (x t : Outline) → IsNode x t → (a : ℕ) → IsTrue (has (leaves x) a) → IsTrue (has (leaves t) a)
  node_within x (leaf b) n a h = subst (λ y. IsTrue (has (leaves y) a)) n h
  node_within x (p_node ts) n a h = elim n [ inl e ↦ subst (λ y. IsTrue (has (leaves y) a)) e h | inr k ↦ nodes_within x ts k a h ]
  node_within x (q_node ts) n a h = elim n [ inl e ↦ subst (λ y. IsTrue (has (leaves y) a)) e h | inr k ↦ nodes_within x ts k a h ]

  pub nodes_within : (x : Outline) (ts : Forest) → IsNodeOf x ts → (a : ℕ) → IsTrue (has (leaves x) a) → IsTrue (has (leaves_of ts) a)
  nodes_within x no_tree n a h = absurd n
  nodes_within x (tree_and t ts) n a h =
      elim n [
        | inl k ↦ has_append_left (leaves t) (leaves_of ts) a (node_within x t k a h)
        | inr k ↦ has_append_right (leaves t) (leaves_of ts) a (nodes_within x ts k a h)
      ]

-- a tree holds a row exactly where each column of the row is one of its own
pub holds_each : (row : List ℕ) (t : Outline) → IsTrue (holds row t) → (a : ℕ) → IsTrue (has row a) → IsTrue (has (leaves t) a)
holds_each [] t h a k = absurd (both_ways false refl k)
holds_each (b ∷ row) t h a k =
    let w : IsTrue (has (leaves t) b) × IsTrue (holds row t) = and_parts (has (leaves t) b) (holds row t) h in
    elim (has_cases b a row k) [ inl e ↦ subst (λ n. IsTrue (has (leaves t) n)) e w.0 | inr l ↦ holds_each row t w.1 a l ]

pub holds_from : (row : List ℕ) (t : Outline) → ((a : ℕ) → IsTrue (has row a) → IsTrue (has (leaves t) a)) → IsTrue (holds row t)
holds_from [] t h = refl
holds_from (b ∷ row) t h = and_from (has (leaves t) b) (holds row t) (h b (has_head b row)) (holds_from row t (λ a k. h a (has_tail b a row k)))

-- what a node holds the tree holds
pub holds_above : (row : List ℕ) (x t : Outline) → IsNode x t → IsTrue (holds row x) → IsTrue (holds row t)
holds_above row x t n h = holds_from row t (λ a k. node_within x t n a (holds_each row x h a k))

-- where none of the trees holds the row, none of their nodes does
pub none_below : (row : List ℕ) (ts : Forest) → NoneHolds row ts → (x : Outline) → IsNodeOf x ts → IsFalse (holds row x)
none_below row no_tree h x n = absurd n
none_below row (tree_and t ts) h x n =
    elim n [
      | inl k ↦ elim (cases_Bool (holds row x)) [ inl y ↦ absurd (both_ways (holds row t) h.0 (holds_above row x t k y)) | inr y ↦ y ]
      | inr k ↦ none_below row ts h.1 x k
    ]

-- x holds the row, and none of its children does
abbrev IsSmallest : List ℕ → Outline → Type 0
IsSmallest row x = IsTrue (holds row x) × NoneHolds row (children x)

-- x is found in the trees, or none of them holds the row
abbrev IsFoundIn : List ℕ → Forest → Outline → Outline → Type 0
IsFoundIn row ts x y = (NoneHolds row ts × (y ≡ x)) ⊎ (IsNodeOf y ts × IsSmallest row y)

-- a tree that holds the row has a pertinent root
mutual
  pub pertinent_root_is : (row : List ℕ) (t : Outline) → IsTrue (holds row t) → IsPertinentRoot row t (pertinent_root row t)
  pertinent_root_is row (leaf a) h = record { node = refl; whole = h; smallest = tt }
  pertinent_root_is row (p_node ts) h =
      elim (root_among_is row ts (p_node ts)) [
        | inl k ↦ subst (IsPertinentRoot row (p_node ts)) (sym k.1) (record { node = inl refl; whole = h; smallest = k.0 })
        | inr k ↦ record { node = inr k.0; whole = k.1.0; smallest = k.1.1 }
      ]
  pertinent_root_is row (q_node ts) h =
      elim (root_among_is row ts (q_node ts)) [
        | inl k ↦ subst (IsPertinentRoot row (q_node ts)) (sym k.1) (record { node = inl refl; whole = h; smallest = k.0 })
        | inr k ↦ record { node = inr k.0; whole = k.1.0; smallest = k.1.1 }
      ]

  root_among_is : (row : List ℕ) (ts : Forest) (x : Outline) → IsFoundIn row ts x (root_among row ts x)
  root_among_is row no_tree x = inl (tt, refl)
  root_among_is row (tree_and t ts) x =
      elim (cases_Bool (holds row t)) [
        | inl h ↦
            let r : IsPertinentRoot row t (pertinent_root row t) = pertinent_root_is row t h in
            subst (IsFoundIn row (tree_and t ts) x) (sym (cond-true (holds row t) (pertinent_root row t) (root_among row ts x) h)) (inr (inl r.node, (r.whole, r.smallest)))
        | inr h ↦
            subst (IsFoundIn row (tree_and t ts) x) (sym (cond-false (holds row t) (pertinent_root row t) (root_among row ts x) h))
            (elim (root_among_is row ts x) [ inl k ↦ inl ((h, k.0), k.1) | inr k ↦ inr (inr k.0, k.1) ])
      ]

-- a row with a column has one pertinent root in a tree in which no column stands twice
module _ (row : List ℕ) (a : ℕ) (some : IsTrue (has row a)) where
  refuted : (ts : Forest) (x y : Outline) → children x ≡ ts → IsNodeOf y ts → IsSmallest row x → IsSmallest row y → x ≡ y
  refuted ts x y e n h k = absurd (both_ways (holds row y) (none_below row ts (subst (NoneHolds row) e h.1) y n) k.0)

  -- x in a tree and y in a later one would both have the row's column
  both : (t : Outline) (ts : Forest) (x y : Outline) → ((b : ℕ) → occurs (leaves t ++ leaves_of ts) b ≤ 1) → IsNode x t → IsNodeOf y ts → IsSmallest row x → IsSmallest row y → ⊥
  both t ts x y once d e h k =
      both_ways (has (leaves_of ts) a) (apart (leaves t) (leaves_of ts) a (once a) (node_within x t d a (holds_each row x h.0 a some)))
      (nodes_within y ts e a (holds_each row y k.0 a some))

  mutual
    one_root : (t x y : Outline) → ((b : ℕ) → occurs (leaves t) b ≤ 1) → IsNode x t → IsNode y t → IsSmallest row x → IsSmallest row y → x ≡ y
    one_root (leaf b) x y once m n h k = m ∙ sym n
    one_root (p_node ts) x y once m n h k =
        elim m [
          | inl d ↦ elim n [ inl e ↦ d ∙ sym e | inr e ↦ refuted ts x y (ap children d) e h k ]
          | inr d ↦ elim n [ inl e ↦ sym (refuted ts y x (ap children e) d k h) | inr e ↦ one_root_of ts x y once d e h k ]
        ]
    one_root (q_node ts) x y once m n h k =
        elim m [
          | inl d ↦ elim n [ inl e ↦ d ∙ sym e | inr e ↦ refuted ts x y (ap children d) e h k ]
          | inr d ↦ elim n [ inl e ↦ sym (refuted ts y x (ap children e) d k h) | inr e ↦ one_root_of ts x y once d e h k ]
        ]

    one_root_of : (ts : Forest) (x y : Outline) → ((b : ℕ) → occurs (leaves_of ts) b ≤ 1) → IsNodeOf x ts → IsNodeOf y ts → IsSmallest row x → IsSmallest row y → x ≡ y
    one_root_of no_tree x y once m n h k = absurd m
    one_root_of (tree_and t ts) x y once m n h k =
        elim m [
          | inl d ↦ elim n [
            | inl e ↦ one_root t x y (λ b. omega (arith, once b, occurs-append (leaves t) (leaves_of ts) b)) d e h k
            | inr e ↦ absurd (both t ts x y once d e h k)
          ]
          | inr d ↦ elim n [
            | inl e ↦ absurd (both t ts y x once e d k h)
            | inr e ↦ one_root_of ts x y (λ b. omega (arith, once b, occurs-append (leaves t) (leaves_of ts) b)) d e h k
          ]
        ]

  pub pertinent_root_unique : (t x y : Outline) → ((b : ℕ) → occurs (leaves t) b ≤ 1) → IsPertinentRoot row t x → IsPertinentRoot row t y → x ≡ y
  pertinent_root_unique t x y once h k = one_root t x y once h.node k.node (h.whole, h.smallest) (k.whole, k.smallest)
