-- The search for the pertinent root.
use Rattle.std.proofs.Common.{◌≡◌, ◌∙◌, ◌+◌, ◌<◌, ◌≤◌, ℕ, List, [], ◌∷◌, ◌++◌, Result, Ok, Err, OnErr, map, take, drop, set, length, get_or, IsFalse, sym, ap, ap₂, subst, inr, arith}
use Rattle.std.proofs.lemmas.List.{map_more, map-append, take-append-drop, drop_more, length-map, length-set, get_or-set_same, take-set, drop-set-lt, with_items_is, append-nil, take-map, take_all}
use Rattle.std.proofs.Math.Seq.{map-set_same}
use Rattle.std.specs.Vec.{with_items}
use Rattle.std.specs.declared.vec.Vec.{Vec}
use Rattle.std.specs.declared.alloc.Global.{Global}
use Rattle.column_order.specs.Orders.{occurs}
use Rattle.column_order.proofs.Lists.{occurs-append}
use Rattle.pq_tree.specs.Outline.{Outline, Forest, leaf, p_node, q_node, tree_and, leaves, leaves_of}
use Rattle.pq_tree.specs.Proper.{outline_of, HasArities, HaveArities, IsTree, AreTrees}
use Rattle.pq_tree.specs.Forests.{forest, join}
use Rattle.pq_tree.specs.Nodes.{children, IsNode, IsNodeOf, holds, NoneHolds}
use Rattle.pq_tree.specs.declared.Tree.{Tree, Leaf, P, Q}
use Rattle.pq_tree.proofs.Shown.{outline_of-Leaf, outline_of-P, outline_of-Q, leaves_of-append}
use Rattle.pq_plain.specs.Seen.{outlines}
use Rattle.pq_plain.specs.Found.{hits, IsRootStep, IsRootReplaced, IsStep, IsStepIn, IsFound, IsFoundBelow, IsFoundIn}
use Rattle.tree_theory.specs.Outcomes.{IsLowest}
use Rattle.tree_theory.specs.Reduced.{IsRootMade, IsReplaced, replaced_here, replaced_under_p, replaced_under_q}
use Rattle.tree_theory.specs.Refused.{IsStuck, IsRefused}
use Rattle.pq_plain.proofs.TreeLabels.{node_among}
use Rattle.pq_tree.proofs.Forests.{forest_append}
use Rattle.pq_tree.proofs.Nodes.{node_itself}
use Rattle.tree_theory.specs.declared.reducer.Step.{Step}
use Rattle.tree_theory.specs.declared.reducer.Step.TheVariants.{Taken, Refused}
use Rattle.pq_plain.specs.declared.search.Found.{Found}
use Rattle.pq_plain.specs.declared.search.Found.TheVariants.{Columns, Root}
use Rattle.pq_plain.proofs.Hits.{hits_few, hits_all, hits_part, hits_append}

-- one tree more that does not hold the row
none_push : (row : List ℕ) (xs : List Outline) (t : Outline) → NoneHolds row (forest xs) → IsFalse (holds row t) → NoneHolds row (forest (xs ++ t ∷ []))
none_push row [] t h k = (k, tt)
none_push row (x ∷ xs) t h k = (h.0, none_push row xs t h.1 k)

-- a list of children cut at one
cut_at : (ts : List Tree) (i : ℕ) (d : Tree) → i < length ts → map outline_of ts ≡ map outline_of (take i ts) ++ outline_of (get_or ts i d) ∷ map outline_of (drop (i + 1) ts)
cut_at ts i d h =
    ap (map outline_of) (sym (take-append-drop i ts) ∙ ap (λ xs. take i ts ++ xs) (drop_more ts i d h)) ∙ map-append outline_of (take i ts) (get_or ts i d ∷ drop (i + 1) ts)

set_cut : (ts : List Tree) (i : ℕ) (d u : Tree) → i < length ts → map outline_of (set ts i u) ≡ map outline_of (take i ts) ++ outline_of u ∷ map outline_of (drop (i + 1) ts)
set_cut ts i d u h =
    cut_at (set ts i u) i d (omega (arith, h, length-set ts i u)) ∙
    ap₂ (λ xs ys. map outline_of xs ++ outline_of (get_or (set ts i u) i d) ∷ map outline_of ys) (take-set ts i u) (drop-set-lt (i + 1) ts i u (omega arith)) ∙
    ap (λ x. map outline_of (take i ts) ++ outline_of x ∷ map outline_of (drop (i + 1) ts)) (get_or-set_same ts i u d h)

-- a loop over the children ts, which began as os and have the same outlines still
module _ (row : List ℕ) (os ts : List Tree) (i : ℕ) (d : Tree) (here : i < length os) (same : map outline_of ts ≡ map outline_of os) where
  size : length ts ≡ length os
  size = sym (length-map ts outline_of) ∙ ap length same ∙ length-map os outline_of

  within : i < length ts
  within = omega (arith, here, size)

  front : map outline_of (take i ts) ≡ take i (map outline_of os)
  front = sym (take-map outline_of i ts) ∙ ap (take i) same

  cut : map outline_of os ≡ take i (map outline_of os) ++ outline_of (get_or ts i d) ∷ map outline_of (drop (i + 1) ts)
  cut = sym same ∙ cut_at ts i d within ∙ ap (λ xs. xs ++ outline_of (get_or ts i d) ∷ map outline_of (drop (i + 1) ts)) front

  next : take (i + 1) (map outline_of os) ≡ take i (map outline_of os) ++ outline_of (get_or ts i d) ∷ []
  next =
      ap (take (i + 1)) (sym same) ∙
      take-map outline_of (i + 1) ts ∙
      map_more outline_of ts i d within ∙
      ap (λ xs. xs ++ outline_of (get_or ts i d) ∷ []) front

  leaves_cut : leaves_of (outlines os) ≡ leaves_of (forest (take i (map outline_of os))) ++ (leaves (outline_of (get_or ts i d)) ++ leaves_of (forest (map outline_of (drop (i + 1) ts))))
  leaves_cut = ap (λ xs. leaves_of (forest xs)) cut ∙ leaves_of-append (take i (map outline_of os)) (outline_of (get_or ts i d) ∷ map outline_of (drop (i + 1) ts))

  leaves_next : leaves_of (forest (take (i + 1) (map outline_of os))) ≡ leaves_of (forest (take i (map outline_of os))) ++ leaves (outline_of (get_or ts i d))
  leaves_next =
      ap (λ xs. leaves_of (forest xs)) next ∙
      leaves_of-append (take i (map outline_of os)) (outline_of (get_or ts i d) ∷ []) ∙
      ap (λ xs. leaves_of (forest (take i (map outline_of os))) ++ xs) (append-nil (leaves (outline_of (get_or ts i d))))

  occurs_cut : (a : ℕ) → occurs (leaves_of (forest (take i (map outline_of os)))) a + occurs (leaves (outline_of (get_or ts i d))) a ≤ occurs (leaves_of (outlines os)) a
  occurs_cut a =
      omega
      (arith, ap (λ l. occurs l a) leaves_cut, occurs-append (leaves_of (forest (take i (map outline_of os)))) (leaves (outline_of (get_or ts i d)) ++ leaves_of (forest (map outline_of (drop (i + 1) ts)))) a, occurs-append (leaves (outline_of (get_or ts i d))) (leaves_of (forest (map outline_of (drop (i + 1) ts)))) a)

  arities : (xs : List Outline) (x : Outline) (ys : List Outline) → HaveArities (forest (xs ++ x ∷ ys)) → HasArities x
  arities [] x ys c = c.0
  arities (y ∷ xs) x ys c = arities xs x ys c.1

  module _ (trees : AreTrees (outlines os)) where
    once : (a : ℕ) → occurs (leaves_of (outlines os)) a ≤ 1
    once = trees.1

    child_once : (a : ℕ) → occurs (leaves (outline_of (get_or ts i d))) a ≤ 1
    child_once a = omega (arith, occurs_cut a, once a)

    pub child_tree : IsTree (outline_of (get_or ts i d))
    child_tree =
        (arities (take i (map outline_of os)) (outline_of (get_or ts i d)) (map outline_of (drop (i + 1) ts)) (subst (λ xs. HaveArities (forest xs)) cut trees.0), child_once)

    next_once : (a : ℕ) → occurs (leaves_of (forest (take (i + 1) (map outline_of os)))) a ≤ 1
    next_once a =
        omega
        (arith, occurs_cut a, once a, ap (λ l. occurs l a) leaves_next, occurs-append (leaves_of (forest (take i (map outline_of os)))) (leaves (outline_of (get_or ts i d))) a)

    module _ (distinct : (a : ℕ) → occurs row a ≤ 1) (none : NoneHolds row (forest (take i (map outline_of os)))) where
      module _ (found : Found) (u : Tree) (h : IsFound row (outline_of (get_or ts i d)) (outline_of u) found) where
        old_is : join (forest (take i (map outline_of os))) (tree_and (outline_of (get_or ts i d)) (forest (map outline_of (drop (i + 1) ts)))) ≡ outlines os
        old_is = sym (ap forest cut ∙ forest_append (take i (map outline_of os)) (outline_of (get_or ts i d) ∷ map outline_of (drop (i + 1) ts)))

        new_is : join (forest (take i (map outline_of os))) (tree_and (outline_of u) (forest (map outline_of (drop (i + 1) ts)))) ≡ outlines (set ts i u)
        new_is =
            sym
            (ap forest (set_cut ts i d u within ∙ ap (λ xs. xs ++ outline_of u ∷ map outline_of (drop (i + 1) ts)) front) ∙
            forest_append (take i (map outline_of os)) (outline_of u ∷ map outline_of (drop (i + 1) ts)))

        -- the child holds the whole row
        pub in_root : (step : Step) → found ≡ Root step → IsStepIn row (outlines os) (outlines (set ts i u)) step
        in_root Taken e =
            let w : IsRootReplaced row (outline_of (get_or ts i d)) (outline_of u) = subst (IsFound row (outline_of (get_or ts i d)) (outline_of u)) e h in
            record {
              before = forest (take i (map outline_of os));
              t = outline_of (get_or ts i d);
              u = outline_of u;
              behind = forest (map outline_of (drop (i + 1) ts));
              old = old_is;
              new = new_is;
              root = w;
            }
        in_root Refused e =
            let w : IsFound row (outline_of (get_or ts i d)) (outline_of u) (Root Refused) = subst (IsFound row (outline_of (get_or ts i d)) (outline_of u)) e h in
            let r : IsRefused row (outline_of (get_or ts i d)) = w.0 in (
              (
                r.0,
                subst (λ xs. IsNodeOf r.0 (forest xs)) (sym cut) (node_among r.0 (outline_of (get_or ts i d)) (take i (map outline_of os)) (map outline_of (drop (i + 1) ts)) r.1.node),
                (r.1.whole, r.1.smallest),
                r.2,
              ),
              ap forest (map-set_same outline_of ts i u d w.1 ∙ same),
            )

        -- it does not
        module _ (m n : ℕ) (e : found ≡ Columns n) (count : m ≡ hits row (leaves_of (forest (take i (map outline_of os))))) where
          told : IsFound row (outline_of (get_or ts i d)) (outline_of u) (Columns n)
          told = subst (IsFound row (outline_of (get_or ts i d)) (outline_of u)) e h

          pub same_after : map outline_of (set ts i u) ≡ map outline_of os
          same_after = map-set_same outline_of ts i u d told.0 ∙ same

          pub none_after : NoneHolds row (forest (take (i + 1) (map outline_of os)))
          none_after =
              subst (λ xs. NoneHolds row (forest xs)) (sym next)
              (none_push row (take i (map outline_of os)) (outline_of (get_or ts i d)) none
              (hits_part row (leaves (outline_of (get_or ts i d))) distinct child_once (omega (arith, told.1, told.2))))

          pub count_after : m + n ≡ hits row (leaves_of (forest (take (i + 1) (map outline_of os))))
          count_after =
              ap₂ (λ x y. x + y) count told.1 ∙
              sym (hits_append row (leaves_of (forest (take i (map outline_of os)))) (leaves (outline_of (get_or ts i d)))) ∙
              sym (ap (hits row) leaves_next)

          pub count_few : m + n ≤ length row
          count_few =
              omega (arith, count_after, hits_few row (leaves_of (forest (take (i + 1) (map outline_of os)))) distinct next_once)

-- the node above its children
pub in_columns : (row : List ℕ) (os ts : List Tree) (i m : ℕ) → length os ≤ i → map outline_of ts ≡ map outline_of os → NoneHolds row (forest (take i (map outline_of os))) → m ≡ hits row (leaves_of (forest (take i (map outline_of os)))) →
    IsFoundIn row (outlines os) (outlines ts) (Columns m)
in_columns row os ts i m h same none count =
    let all : take i (map outline_of os) ≡ map outline_of os = take_all i (map outline_of os) (omega (arith, h, length-map os outline_of)) in
    (ap forest same, count ∙ ap (λ xs. hits row (leaves_of (forest xs))) all, subst (λ xs. NoneHolds row (forest xs)) all none)

pub leaf_found : (row : List ℕ) (r t : Tree) (a n : ℕ) → r ≡ t → r ≡ Leaf a → n ≡ hits row (a ∷ []) → IsFoundBelow row (outline_of t) (outline_of (Leaf a)) (Columns n)
leaf_found row r t a n s e k =
    let w : outline_of t ≡ leaf a = ap outline_of (sym s ∙ e) ∙ outline_of-Leaf a in (
      outline_of-Leaf a ∙ sym w,
      k ∙ ap (λ x. hits row (leaves x)) (sym w),
      subst (λ x. NoneHolds row (children x)) (sym w) tt,
    )

-- one of the children of a node
step_at : (row : List ℕ) (N : Forest → Outline) (ts us : Forest) (step : Step) →
    ((x y t u : Outline) (before behind : Forest) → IsReplaced x y t u → IsReplaced x y (N (join before (tree_and t behind))) (N (join before (tree_and u behind)))) →
    ((x : Outline) → IsNodeOf x ts → IsNode x (N ts)) → IsStepIn row ts us step → IsStep row (N ts) (N us) step
step_at row N ts us Taken under below h =
    record {
      x = h.root.x;
      y = h.root.y;
      lowest = h.root.lowest;
      made = h.root.made;
      replaced =
          subst (IsReplaced h.root.x h.root.y (N ts)) (ap N h.new)
          (subst (λ s. IsReplaced h.root.x h.root.y (N s) (N (join h.before (tree_and h.u h.behind)))) h.old (under h.root.x h.root.y h.t h.u h.before h.behind h.root.replaced));
    }
step_at row N ts us Refused under below h = ((h.0.0, record { node = below h.0.0 h.0.1; whole = h.0.2.0; smallest = h.0.2.1 }, h.0.3), ap N h.1)

found_P : (row : List ℕ) (ts us : Forest) (found : Found) → IsFoundIn row ts us found → IsFoundBelow row (p_node ts) (p_node us) found
found_P row ts us (Columns n) h = (ap p_node h.0, h.1, h.2)
found_P row ts us (Root step) h = step_at row p_node ts us step (λ x y t u before behind r. replaced_under_p before behind r) (λ x n. inr n) h

found_Q : (row : List ℕ) (ts us : Forest) (found : Found) → IsFoundIn row ts us found → IsFoundBelow row (q_node ts) (q_node us) found
found_Q row ts us (Columns n) h = (ap q_node h.0, h.1, h.2)
found_Q row ts us (Root step) h = step_at row q_node ts us step (λ x y t u before behind r. replaced_under_q before behind r) (λ x n. inr n) h

module _ (r t : Tree) (v : Vec Tree Global) (os : List Tree) (is : r ≡ t) (read : os ≡ v.items) where
  old_P : r ≡ P v → outline_of t ≡ p_node (outlines os)
  old_P e = ap outline_of (sym is ∙ e) ∙ outline_of-P v ∙ ap (λ xs. p_node (outlines xs)) (sym read)

  old_Q : r ≡ Q v → outline_of t ≡ q_node (outlines os)
  old_Q e = ap outline_of (sym is ∙ e) ∙ outline_of-Q v ∙ ap (λ xs. q_node (outlines xs)) (sym read)

  pub P_trees : r ≡ P v → IsTree (outline_of t) → AreTrees (outlines os)
  P_trees e w = let n : IsTree (p_node (outlines os)) = subst IsTree (old_P e) w in (n.0.1, n.1)

  pub Q_trees : r ≡ Q v → IsTree (outline_of t) → AreTrees (outlines os)
  Q_trees e w = let n : IsTree (q_node (outlines os)) = subst IsTree (old_Q e) w in (n.0.1, n.1)

  module _ (ws : List Tree) (size : length ws ≡ length os) where
    kept : (with_items v ws).items ≡ ws
    kept = with_items_is v ws (size ∙ ap length read ∙ sym v.ok.0)

    new_P : outline_of (P (with_items v ws)) ≡ p_node (outlines ws)
    new_P = outline_of-P (with_items v ws) ∙ ap (λ xs. p_node (outlines xs)) kept

    new_Q : outline_of (Q (with_items v ws)) ≡ q_node (outlines ws)
    new_Q = outline_of-Q (with_items v ws) ∙ ap (λ xs. q_node (outlines xs)) kept

    pub P_found : r ≡ P v → (row : List ℕ) (found : Found) → IsFoundIn row (outlines os) (outlines ws) found → IsFoundBelow row (outline_of t) (outline_of (P (with_items v ws))) found
    P_found e row found h =
        subst (λ x. IsFoundBelow row x (outline_of (P (with_items v ws))) found) (sym (old_P e))
        (subst (λ x. IsFoundBelow row (p_node (outlines os)) x found) (sym new_P) (found_P row (outlines os) (outlines ws) found h))

    pub Q_found : r ≡ Q v → (row : List ℕ) (found : Found) → IsFoundIn row (outlines os) (outlines ws) found → IsFoundBelow row (outline_of t) (outline_of (Q (with_items v ws))) found
    Q_found e row found h =
        subst (λ x. IsFoundBelow row x (outline_of (Q (with_items v ws))) found) (sym (old_Q e))
        (subst (λ x. IsFoundBelow row (q_node (outlines os)) x found) (sym new_Q) (found_Q row (outlines os) (outlines ws) found h))

    pub P_same : r ≡ P v → outlines ws ≡ outlines os → outline_of (P (with_items v ws)) ≡ outline_of t
    P_same e h = new_P ∙ ap p_node h ∙ sym (old_P e)

    pub Q_same : r ≡ Q v → outlines ws ≡ outlines os → outline_of (Q (with_items v ws)) ≡ outline_of t
    Q_same e h = new_Q ∙ ap q_node h ∙ sym (old_Q e)

-- the tree itself is the pertinent root
module _ (row : List ℕ) (t x : Outline) (found : Found) (n : ℕ) (distinct : (a : ℕ) → occurs row a ≤ 1) (tree : IsTree t)
    (h : IsFoundBelow row t x found) (e : found ≡ Columns n) (l : length row ≤ n) where
  below : IsFoundBelow row t x (Columns n)
  below = subst (IsFoundBelow row t x) e h

  pub here_tree : IsTree x
  here_tree = subst IsTree (sym below.0) tree

  at : IsLowest row t
  at = (hits_all row (leaves t) distinct tree.1 (omega (arith, l, below.1)), below.2)

  pub here_lowest : IsLowest row x
  here_lowest = subst (IsLowest row) (sym below.0) at

  pub root_here : (u : Outline) (step : Step) → IsRootStep row x u step → IsStep row t u step
  root_here u Taken s =
      record {
        x = t;
        y = u;
        lowest = at;
        made = subst (λ y. IsRootMade row y u) below.0 s;
        replaced = replaced_here;
      }
  root_here u Refused s = ((t, record { node = node_itself t; whole = at.0; smallest = at.1 }, subst (IsStuck row) below.0 s.0), s.1 ∙ below.0)

pub child_same : (os ts : List Tree) (i : ℕ) (d u : Tree) → map outline_of ts ≡ map outline_of os → outline_of u ≡ outline_of (get_or ts i d) → outlines (set ts i u) ≡ outlines os
child_same os ts i d u same e = ap forest (map-set_same outline_of ts i u d e ∙ same)

pub on_err_always : {T E P : Type 0} (r : Result T E) → P → OnErr r P
on_err_always (Ok x) h = tt
on_err_always (Err e) h = h
