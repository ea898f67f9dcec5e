use Rattle.std.proofs.Common.{rules, ◌≡◌, ◌∙◌, ℕ, ◌-◌, ◌≤◌, List, [], ◌∷◌, ◌++◌, length, map, take, IsTrue, refl, sym, ap, subst, inl, inr, arith, length-append}
use Rattle.std.proofs.lemmas.List.{length-map}
use Rattle.std.proofs.lemmas.Result.{on_ok_weaker}
use Rattle.column_order.specs.Orders.{has, occurs}
use Rattle.std.specs.List.{AllByRecursion}
use Rattle.row_model.specs.Rows.{IsRow, RowList}
use Rattle.row_model.proofs.Filtered.{filtered_row}
use Rattle.std.specs.declared.vec.Vec.{Vec}
use Rattle.std.specs.declared.alloc.Global.{Global}
use Rattle.pq_tree.specs.Outline.{Outline, leaves, leaves_of}
use Rattle.tree_meet.specs.Marks.{lists_of}
use Rattle.pq_tree.specs.Proper.{outline_of, forest}
use Rattle.pq_tree.specs.declared.Tree.TheViews.{the_lemmas}
use Rattle.tree_meet.specs.TreeRows.{neighbours, groups_of, row_of_group}
use Rattle.tree_meet.proofs.Walked.{row_marks, group_rows}
use Rattle.tree_meet.proofs.Fronts.{node_leaves, count_P, count_Q, groups_more, child_has, child_occurs, outlines_more}
use Rattle.tree_meet.proofs.Steps.{node_parts, node_pairs, one_row_more, with_rows, after_leaf, after_P, after_Q, after_child, child_row}
use Rattle.tree_meet.proofs.rows.+walk.Goals as goal

pub push_tree-push_row-requires-clause-row : goal.push_tree-push_row-requires-clause-row
push_tree-push_row-requires-clause-row t c =
    subst (IsRow c.args.m.now.columns) (sym c.requires.row) (filtered_row (has (leaves (outline_of c.args.tree.now))) c.args.m.now.columns)

pub push_tree-push_row-requires-clause-room : goal.push_tree-push_row-requires-clause-room
push_tree-push_row-requires-clause-room t c =
    omega (arith, c.requires.room, count_P c.args.tree.now c.in-P.children c.in-P.children.items c.in-P.is refl)

pub push_tree-mark_trees-requires-clause-within : goal.push_tree-mark_trees-requires-clause-within
push_tree-mark_trees-requires-clause-within t c a h =
    let e = node_leaves c.args.tree.now c.in-P.children c.deref.result.now (inl c.in-P.is) c.deref.ensures.value in
    omega (arith, (c.requires.within a (subst (λ (l : List ℕ). IsTrue (has l a)) (sym e) h)).1, c.requires.marks)

pub push_tree-mark_trees-requires-clause-once : goal.push_tree-mark_trees-requires-clause-once
push_tree-mark_trees-requires-clause-once t c a =
    let e = node_leaves c.args.tree.now c.in-P.children c.deref.result.now (inl c.in-P.is) c.deref.ensures.value in
    subst (λ (l : List ℕ). occurs l a ≤ 1) e (c.requires.once a)

pub push_tree-push_row-requires-in-Q-clause-row : goal.push_tree-push_row-requires-in-Q-clause-row
push_tree-push_row-requires-in-Q-clause-row t c =
    subst (IsRow c.args.m.now.columns) (sym c.requires.row) (filtered_row (has (leaves (outline_of c.args.tree.now))) c.args.m.now.columns)

pub push_tree-push_row-requires-in-Q-clause-room : goal.push_tree-push_row-requires-in-Q-clause-room
push_tree-push_row-requires-in-Q-clause-room t c =
    omega (arith, c.requires.room, count_Q c.args.tree.now c.in-Q.children c.in-Q.children.items c.in-Q.is refl)

pub push_tree-mark_trees-requires-in-Q-clause-within : goal.push_tree-mark_trees-requires-in-Q-clause-within
push_tree-mark_trees-requires-in-Q-clause-within t c a h =
    let e = node_leaves c.args.tree.now c.in-Q.children c.deref-in-Q.result.now (inr c.in-Q.is) c.deref-in-Q.ensures.value in
    omega (arith, (c.requires.within a (subst (λ (l : List ℕ). IsTrue (has l a)) (sym e) h)).1, c.requires.marks)

pub push_tree-mark_trees-requires-in-Q-clause-once : goal.push_tree-mark_trees-requires-in-Q-clause-once
push_tree-mark_trees-requires-in-Q-clause-once t c a =
    let e = node_leaves c.args.tree.now c.in-Q.children c.deref-in-Q.result.now (inr c.in-Q.is) c.deref-in-Q.ensures.value in
    subst (λ (l : List ℕ). occurs l a ≤ 1) e (c.requires.once a)

pub push_tree-parts_of-requires : goal.push_tree-parts_of-requires
push_tree-parts_of-requires t c a h =
    let ts = map outline_of c.deref.result.now in
    let e = node_leaves c.args.tree.now c.in-P.children c.deref.result.now (inl c.in-P.is) c.deref.ensures.value in
    let r = row_marks c.args.m.now.columns c.mark_trees.new.marks c.args.row.now ts (c.requires.row ∙ ap (row_of_group c.args.m.now.columns) e) c.mark_trees.ensures
    (λ b. subst (λ (l : List ℕ). occurs l b ≤ 1) e (c.requires.once b))
    (λ b k. omega (arith, (c.requires.within b (subst (λ (l : List ℕ). IsTrue (has l b)) (sym e) k)).1, c.requires.marks, c.mark_trees.auto.marks)) a h in
    (r.0, omega (arith, r.1, length-map c.deref.result.now outline_of, c.len.ensures, c.deref.ensures.len))

pub push_tree-pairs_of-requires : goal.push_tree-pairs_of-requires
push_tree-pairs_of-requires t c a h =
    let ts = map outline_of c.deref-in-Q.result.now in
    let e = node_leaves c.args.tree.now c.in-Q.children c.deref-in-Q.result.now (inr c.in-Q.is) c.deref-in-Q.ensures.value in
    let r = row_marks c.args.m.now.columns c.mark_trees-in-Q.new.marks c.args.row.now ts (c.requires.row ∙ ap (row_of_group c.args.m.now.columns) e) c.mark_trees-in-Q.ensures
    (λ b. subst (λ (l : List ℕ). occurs l b ≤ 1) e (c.requires.once b))
    (λ b k. omega (arith, (c.requires.within b (subst (λ (l : List ℕ). IsTrue (has l b)) (sym e) k)).1, c.requires.marks, c.mark_trees-in-Q.auto.marks)) a h in
    (r.0, omega (arith, r.1, length-map c.deref-in-Q.result.now outline_of, c.len-in-Q.ensures, c.deref-in-Q.ensures.len, c.saturating_sub.ensures))

pub push_tree-parts_of-requires-in-Q : goal.push_tree-parts_of-requires-in-Q
push_tree-parts_of-requires-in-Q t c a h =
    let ts = map outline_of c.deref-in-Q.result.now in
    let e = node_leaves c.args.tree.now c.in-Q.children c.deref-in-Q.result.now (inr c.in-Q.is) c.deref-in-Q.ensures.value in
    let r = row_marks c.args.m.now.columns c.mark_trees-in-Q.new.marks c.args.row.now ts (c.requires.row ∙ ap (row_of_group c.args.m.now.columns) e) c.mark_trees-in-Q.ensures
    (λ b. subst (λ (l : List ℕ). occurs l b ≤ 1) e (c.requires.once b))
    (λ b k. omega (arith, (c.requires.within b (subst (λ (l : List ℕ). IsTrue (has l b)) (sym e) k)).1, c.requires.marks, c.mark_trees-in-Q.auto.marks)) a h in
    (r.0, omega (arith, r.1, length-map c.deref-in-Q.result.now outline_of, c.len-in-Q-2.ensures, c.deref-in-Q.ensures.len))

pub push_tree-push_trees-requires : goal.push_tree-push_trees-requires
push_tree-push_trees-requires t c =
    let m = c.args.m.now in
    let n = c.push_row.new.self in
    let ts = c.deref-in-P.result.now in
    let columns : n.columns ≡ m.columns = ap (λ (x : RowList). x.columns) c.in_ok-push_row-in-P.ensures.ok in
    let rows : n.rows ≡ m.rows ++ c.args.row.now ∷ [] = ap (λ (x : RowList). x.rows) c.in_ok-push_row-in-P.ensures.ok in
    let e : leaves (outline_of c.args.tree.now) ≡ leaves_of (forest (map outline_of ts)) = node_leaves c.args.tree.now c.in-P.children ts (inl c.in-P.is) c.deref-in-P.ensures.value in
    let count : c.len.result ≡ length ts = omega (arith, c.len.ensures, c.deref-in-P.ensures.len) in (
      search (rules, the_lemmas),
      (
        node_parts m.columns c.mark_trees.new.marks c.args.row.now c.args.tree.now c.in-P.children c.deref.result.now ts (inl c.in-P.is, c.deref.ensures.value) c.deref-in-P.ensures.value
            c.requires.row c.requires.once c.mark_trees.ensures c.len.result n.columns c.in_ok-parts-in-P.parts.items c.deref-in-P-2.result.now count columns c.in_ok-parts-in-P.ensures c.deref-in-P-2.ensures.value,
        (
          λ a h. let w = c.requires.within a (subst (λ (l : List ℕ). IsTrue (has l a)) (sym e) h) in (w.0, omega (arith, w.1, columns)),
          (
            λ a. subst (λ (l : List ℕ). occurs l a ≤ 1) e (c.requires.once a),
            (
              omega (arith, c.requires.marks, c.mark_trees.auto.marks, columns),
              omega (
                arith,
                c.requires.room,
                one_row_more m.rows n.rows c.args.row.now rows,
                count_P c.args.tree.now c.in-P.children ts c.in-P.is c.deref-in-P.ensures.value,
              ),
            ),
          ),
        ),
      ),
    )

pub push_tree-push_lists-requires-clause-rows : goal.push_tree-push_lists-requires-clause-rows
push_tree-push_lists-requires-clause-rows t c =
    let m = c.args.m.now in
    let n = c.push_row-in-Q.new.self in
    let ts = c.deref-in-Q.result.now in
    let columns : n.columns ≡ m.columns = ap (λ (x : RowList). x.columns) c.in_ok-push_row-in-Q.ensures.ok in
    let count : c.saturating_sub.result ≡ length ts - 1 = omega (arith, c.saturating_sub.ensures, c.len-in-Q.ensures, c.deref-in-Q.ensures.len) in
    subst (AllByRecursion (IsRow n.columns)) (sym (
    node_pairs m.columns c.mark_trees-in-Q.new.marks c.args.row.now c.args.tree.now c.in-Q.children ts ts (inr c.in-Q.is, c.deref-in-Q.ensures.value) c.deref-in-Q.ensures.value
    c.requires.row c.requires.once c.mark_trees-in-Q.ensures c.saturating_sub.result n.columns c.in_ok-pairs_of-in-Q.field-0.items c.deref-in-Q-2.result.now count columns c.in_ok-pairs_of-in-Q.ensures c.deref-in-Q-2.ensures.value
    )) (group_rows n.columns (neighbours (forest (map outline_of ts))))

pub push_tree-push_lists-requires-clause-room : goal.push_tree-push_lists-requires-clause-room
push_tree-push_lists-requires-clause-room t c =
    let m = c.args.m.now in
    let n = c.push_row-in-Q.new.self in
    let ts = c.deref-in-Q.result.now in
    let rows : n.rows ≡ m.rows ++ c.args.row.now ∷ [] = ap (λ (x : RowList). x.rows) c.in_ok-push_row-in-Q.ensures.ok in
    omega (
      arith,
      c.requires.room,
      one_row_more m.rows n.rows c.args.row.now rows,
      count_Q c.args.tree.now c.in-Q.children ts c.in-Q.is c.deref-in-Q.ensures.value,
      c.in_ok-pairs_of-in-Q.ensures.0,
      ap (λ (l : List (Vec ℕ Global)). length l) c.deref-in-Q-2.ensures.value,
      c.saturating_sub.ensures,
      c.len-in-Q.ensures,
      c.deref-in-Q.ensures.len,
    )

pub push_tree-push_trees-requires-in-Q : goal.push_tree-push_trees-requires-in-Q
push_tree-push_trees-requires-in-Q t c =
    let m = c.args.m.now in
    let n = c.push_row-in-Q.new.self in
    let p = c.push_lists.new.m in
    let ts = c.deref-in-Q-3.result.now in
    let to_n : n.columns ≡ m.columns = ap (λ (x : RowList). x.columns) c.in_ok-push_row-in-Q.ensures.ok in
    let to_p : p.columns ≡ n.columns = ap (λ (x : RowList). x.columns) c.in_ok-push_lists-in-Q.ensures in
    let columns : p.columns ≡ m.columns = to_p ∙ to_n in
    let rows : n.rows ≡ m.rows ++ c.args.row.now ∷ [] = ap (λ (x : RowList). x.rows) c.in_ok-push_row-in-Q.ensures.ok in
    let more : p.rows ≡ n.rows ++ lists_of c.deref-in-Q-2.result.now = ap (λ (x : RowList). x.rows) c.in_ok-push_lists-in-Q.ensures in
    let e : leaves (outline_of c.args.tree.now) ≡ leaves_of (forest (map outline_of ts)) = node_leaves c.args.tree.now c.in-Q.children ts (inr c.in-Q.is) c.deref-in-Q-3.ensures.value in
    let count : c.len-in-Q-2.result ≡ length ts = omega (arith, c.len-in-Q-2.ensures, c.deref-in-Q-3.ensures.len) in (
      search (rules, the_lemmas),
      (
        node_parts m.columns c.mark_trees-in-Q.new.marks c.args.row.now c.args.tree.now c.in-Q.children c.deref-in-Q.result.now ts (inr c.in-Q.is, c.deref-in-Q.ensures.value) c.deref-in-Q-3.ensures.value
            c.requires.row c.requires.once c.mark_trees-in-Q.ensures c.len-in-Q-2.result p.columns c.in_ok-parts-in-Q.parts.items c.deref-in-Q-4.result.now count columns c.in_ok-parts-in-Q.ensures c.deref-in-Q-4.ensures.value,
        (
          λ a h. let w = c.requires.within a (subst (λ (l : List ℕ). IsTrue (has l a)) (sym e) h) in (w.0, omega (arith, w.1, columns)),
          (
            λ a. subst (λ (l : List ℕ). occurs l a ≤ 1) e (c.requires.once a),
            (
              omega (arith, c.requires.marks, c.mark_trees-in-Q.auto.marks, columns),
              omega (
                arith,
                c.requires.room,
                one_row_more m.rows n.rows c.args.row.now rows,
                ap (λ (l : List (List ℕ)). length l) more,
                length-append n.rows (lists_of c.deref-in-Q-2.result.now),
                length-map c.deref-in-Q-2.result.now (λ (list : Vec ℕ Global). list.items),
                count_Q c.args.tree.now c.in-Q.children ts c.in-Q.is c.deref-in-Q-3.ensures.value,
                c.in_ok-pairs_of-in-Q.ensures.0,
                ap (λ (l : List (Vec ℕ Global)). length l) c.deref-in-Q-2.ensures.value,
                c.saturating_sub.ensures,
                c.len-in-Q.ensures,
                c.deref-in-Q.ensures.len,
                c.deref-in-Q-3.ensures.len,
              ),
            ),
          ),
        ),
      ),
    )

pub push_tree-returns-in-Leaf : goal.push_tree-returns-in-Leaf
push_tree-returns-in-Leaf t c = after_leaf c.args.m.now c.args.tree.now c.in-Leaf.field-0 c.in-Leaf.is

pub push_tree-returns-in_ok-parts-in-P : goal.push_tree-returns-in_ok-parts-in-P
push_tree-returns-in_ok-parts-in-P t c =
    on_ok_weaker c.push_trees.result
    (after_P c.args.m.now c.push_row.new.self c.args.row.now c.args.tree.now c.in-P.children c.deref-in-P.result.now c.deref-in-P.ensures.value c.requires.row c.in_ok-push_row-in-P.ensures.ok c.push_trees.new.m c.in-P.is)
    c.push_trees.ensures

pub push_tree-returns-in_ok-parts-in-Q : goal.push_tree-returns-in_ok-parts-in-Q
push_tree-returns-in_ok-parts-in-Q t c =
    let m = c.args.m.now in
    let n = c.push_row-in-Q.new.self in
    let ts = c.deref-in-Q-3.result.now in
    let count : c.saturating_sub.result ≡ length ts - 1 = omega (arith, c.saturating_sub.ensures, c.len-in-Q.ensures, c.deref-in-Q-3.ensures.len) in
    let near : lists_of c.deref-in-Q-2.result.now ≡ map (row_of_group m.columns) (neighbours (forest (map outline_of ts))) =
    node_pairs m.columns c.mark_trees-in-Q.new.marks c.args.row.now c.args.tree.now c.in-Q.children c.deref-in-Q.result.now ts (inr c.in-Q.is, c.deref-in-Q.ensures.value) c.deref-in-Q-3.ensures.value
    c.requires.row c.requires.once c.mark_trees-in-Q.ensures c.saturating_sub.result m.columns c.in_ok-pairs_of-in-Q.field-0.items c.deref-in-Q-2.result.now count refl c.in_ok-pairs_of-in-Q.ensures c.deref-in-Q-2.ensures.value in
    on_ok_weaker c.push_trees-in-Q.result
    (after_Q m n c.args.row.now c.args.tree.now c.in-Q.children ts c.deref-in-Q-3.ensures.value c.requires.row c.in_ok-push_row-in-Q.ensures.ok
    c.push_lists.new.m c.push_trees-in-Q.new.m (lists_of c.deref-in-Q-2.result.now) c.in-Q.is near c.in_ok-push_lists-in-Q.ensures)
    c.push_trees-in-Q.ensures

pub push_trees-push_tree-requires : goal.push_trees-push_tree-requires
push_trees-push_tree-requires t c =
    let m = c.args.m.now in
    let ts = c.args.trees.now in
    let i = c.loop-i.i in
    let x = c.index-trees-i.result in
    let front = map outline_of (take i ts) in
    let columns : c.loop-i.m.columns ≡ m.columns = ap (λ (x : RowList). x.columns) c.loop-i.invariant in
    let rows : c.loop-i.m.rows ≡ m.rows ++ map (row_of_group m.columns) (groups_of (forest front)) = ap (λ (x : RowList). x.rows) c.loop-i.invariant in
    let row : c.deref.result.now ≡ row_of_group m.columns (leaves (outline_of x)) =
    c.deref.ensures.value ∙ child_row m.columns ts c.args.rows.now i x c.index-rows-i.result c.loop-i-test.true c.index-trees-i.is c.index-rows-i.is c.requires.rows in (
      search (rules, the_lemmas),
      (
        row ∙ ap (λ (n : ℕ). row_of_group n (leaves (outline_of x))) (sym columns),
        (
          λ a h. let w = c.requires.within a (child_has ts i x c.loop-i-test.true c.index-trees-i.is a h) in (w.0, omega (arith, w.1, columns)),
          (
            λ a. omega (arith, child_occurs ts i x c.loop-i-test.true c.index-trees-i.is a, c.requires.once a),
            (
              omega (arith, c.requires.marks, c.loop-i.auto.marks, columns),
              omega (
                arith,
                c.requires.room,
                ap (λ (l : List (List ℕ)). length l) rows,
                length-append m.rows (map (row_of_group m.columns) (groups_of (forest front))),
                length-map (groups_of (forest front)) (row_of_group m.columns),
                groups_more ts i x c.loop-i-test.true c.index-trees-i.is,
              ),
            ),
          ),
        ),
      ),
    )

pub push_trees-loop-i-preserved : goal.push_trees-loop-i-preserved
push_trees-loop-i-preserved t c =
    let ts = c.args.trees.now in
    subst (λ (x : List Outline). c.push_tree.new.m ≡ with_rows c.args.m.now (map (row_of_group c.args.m.now.columns) (groups_of (forest x)))) (sym (outlines_more ts c.loop-i.i c.index-trees-i.result c.loop-i-test.true c.index-trees-i.is))
    (after_child c.args.m.now c.loop-i.m c.push_tree.new.m (map outline_of (take c.loop-i.i ts)) (outline_of c.index-trees-i.result) c.loop-i.invariant c.in_ok-push_tree.ensures)
