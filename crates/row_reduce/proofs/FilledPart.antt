-- A P-node of whose children some are full and the others empty: the labels of its children, and its own by P3.
use Rattle.std.proofs.Common.{◌≡◌, inl, inr, ◌⊎◌, ℕ, ◌≤◌, ◌<◌, Bool, true, false, cond, List, [], ◌∷◌, map, length, refl, sym, subst, ◌∙◌, arith}
use Rattle.std.proofs.lemmas.Bool.{cases_eq, cases_lt}
use Rattle.column_order.specs.Orders.{has, occurs}
use Rattle.column_order.proofs.Lists.{has_from_occurs, occurs_from_has}
use Rattle.pq_tree.specs.Outline.{Outline, Forest, no_tree, tree_and}
use Rattle.pq_tree.specs.Forests.{forest, count}
use Rattle.tree_theory.specs.Templates.{Label, empty_label, full_label, partial_label, IsSorted, none_sorted, to_empty, to_full, IsP3, p3}
use Rattle.tree_theory.specs.Chosen.{by_p3}
use Rattle.tree_theory.specs.Reduced.{IsLabel, AreLabels}
use Rattle.arena_model.specs.declared.Shape.TheVariants.{P}
use Rattle.arena_model.specs.Layout.{Layout, children_at, IsInUse, IsAtOrAbove, here, down}
use Rattle.arena_model.specs.NamedTree.{outline_below}
use Rattle.arena_model.specs.RowLeaves.{Meets}
use Rattle.arena_model.proofs.Lists.{occurs_here, occurs_other, shorter}
use Rattle.arena_model.proofs.Slots.{child_used, used_by}
use Rattle.pq_arena.specs.RowNodes.{column_leaves}
use Rattle.bubble_pass.specs.declared.labels.Label.TheVariants.{Full}
use Rattle.bubble_pass.specs.Fair.{AtMost}
use Rattle.bubble_pass.specs.Sweep.{IsRight}
use Rattle.full_pass.specs.Answer.{IsFilledPart, IsFullNode}
use Rattle.template_model.specs.Standing.{child_trees}
use Rattle.template_model.proofs.Replaced.{join_paths}
use Rattle.templates_p.specs.Members.{member_labels}
use Rattle.row_reduce.proofs.Blocks.{trees_at}
use Rattle.row_reduce.proofs.Kept.{IsAsked, once, full_is, full_meets}
use Rattle.row_reduce.proofs.Labelling.{below_p, turned_same}
use Rattle.row_reduce.proofs.Leaves.{empty_is}

-- the trees of the nodes ks, those of the members among them and the others
record Parted (F : ℕ → Outline) (ms ks : List ℕ) : Type 0 where
  es : Forest
  fs : Forest
  sorted : IsSorted (trees_at F ks) (member_labels ms ks) es fs []
  other : (k : ℕ) → 1 ≤ occurs ks k → has ms k ≡ false → 1 ≤ count es
  member : (k : ℕ) → 1 ≤ occurs ks k → has ms k ≡ true → 1 ≤ count fs

parted_more : (F : ℕ → Outline) (ms : List ℕ) (k : ℕ) (ks : List ℕ) (b : Bool) → has ms k ≡ b → Parted F ms ks → Parted F ms (k ∷ ks)
parted_more F ms k ks true e r = record {
  es = r.es;
  fs = tree_and (F k) r.fs;
  sorted = subst (λ c. IsSorted (tree_and (F k) (trees_at F ks)) (cond c full_label empty_label ∷ member_labels ms ks) r.es (tree_and (F k) r.fs) []) (sym e) (to_full r.sorted);
  other = λ j o z. elim (cases_eq j k) [
    | inl q ↦ absurd (let w : true ≡ false = sym e ∙ subst (λ i. has ms i ≡ false) q z in cc)
    | inr ne ↦ r.other j (subst (λ i. 1 ≤ i) (occurs_other k j ks ne) o) z
  ];
  member = λ j o z. omega arith;
}
parted_more F ms k ks false e r = record {
  es = tree_and (F k) r.es;
  fs = r.fs;
  sorted = subst (λ c. IsSorted (tree_and (F k) (trees_at F ks)) (cond c full_label empty_label ∷ member_labels ms ks) (tree_and (F k) r.es) r.fs []) (sym e) (to_empty r.sorted);
  other = λ j o z. omega arith;
  member = λ j o z. elim (cases_eq j k) [
    | inl q ↦ absurd (let w : false ≡ true = sym e ∙ subst (λ i. has ms i ≡ true) q z in cc)
    | inr ne ↦ r.member j (subst (λ i. 1 ≤ i) (occurs_other k j ks ne) o) z
  ];
}

parted : (F : ℕ → Outline) (ms ks : List ℕ) → Parted F ms ks
parted F ms [] = record { es = no_tree; fs = no_tree; sorted = none_sorted; other = λ k o z. absurd (omega arith); member = λ k o z. absurd (omega arith) }
parted F ms (k ∷ ks) = parted_more F ms k ks (has ms k) refl (parted F ms ks)

-- one of the nodes is no member, or all are
outsider : (ms ks : List ℕ) → ((k : ℕ) × (1 ≤ occurs ks k) × (has ms k ≡ false)) ⊎ ((k : ℕ) → 1 ≤ occurs ks k → 1 ≤ occurs ms k)
outsider ms [] = inr (λ k o. absurd (omega arith))
outsider ms (j ∷ ks) = at (has ms j) refl (outsider ms ks)
  where
    at : (b : Bool) → has ms j ≡ b → ((k : ℕ) × (1 ≤ occurs ks k) × (has ms k ≡ false)) ⊎ ((k : ℕ) → 1 ≤ occurs ks k → 1 ≤ occurs ms k) →
        ((k : ℕ) × (1 ≤ occurs (j ∷ ks) k) × (has ms k ≡ false)) ⊎ ((k : ℕ) → 1 ≤ occurs (j ∷ ks) k → 1 ≤ occurs ms k)
    at false e r = inl (j, occurs_here j ks, e)
    at true e (inl r) = inl (r.0, (let o : 1 ≤ occurs ks r.0 = r.1 in omega arith), r.2)
    at true e (inr all) = inr (λ k o. elim (cases_eq k j) [
      | inl q ↦ subst (λ z. 1 ≤ occurs ms z) (sym q) (occurs_from_has ms j e)
      | inr ne ↦ all k (subst (λ i. 1 ≤ i) (occurs_other j k ks ne) o)
    ])

-- the trees of the two parts, one or more in each, and what P3 makes of them
pub record PartsOf (ts : Forest) (ps : List Label) : Type 0 where
  pub es : Forest
  pub fs : Forest
  pub sorted : IsSorted ts ps es fs []
  pub is : IsP3 false ts ps (p3 es fs)

two_parts : (ts es fs : Forest) (ps : List Label) → IsSorted ts ps es fs [] → 1 ≤ count es → 1 ≤ count fs → IsP3 false ts ps (p3 es fs)
two_parts ts no_tree fs ps s a b = absurd (omega arith)
two_parts ts (tree_and e es) no_tree ps s a b = absurd (omega arith)
two_parts ts (tree_and e es) (tree_and f fs) ps s a b = record { below = refl; e = e; es = es; f = f; fs = fs; pattern = s; becomes = refl }

pub some_member : (ms : List ℕ) → 1 ≤ length ms → (k : ℕ) × (1 ≤ occurs ms k)
some_member [] l = absurd (omega arith)
some_member (k ∷ ms) l = (k, occurs_here k ms)

module _ (f : Layout) (row : List ℕ) (n : ℕ) (ms : List ℕ) (s : IsAsked f row) (g : IsFilledPart f (column_leaves row) n ms) where
  pub part_used : IsInUse f n
  part_used = used_by f n P g.is_p

  child_in : (k : ℕ) → 1 ≤ occurs (children_at f n) k → IsInUse f k
  child_in k o = child_used f n k s.layout o

  pub member_full : (k : ℕ) → 1 ≤ occurs ms k → IsRight f (column_leaves row) k Full
  member_full k o x a l e = g.filled k o x (a, e) l

  child_label : (k : ℕ) → 1 ≤ occurs (children_at f n) k → (b : Bool) → has ms k ≡ b → IsLabel row (outline_below f k) (cond b full_label empty_label)
  child_label k o true e = full_is f row k s.layout s.is_row (child_in k o) (member_full k (occurs_from_has ms k e))
  child_label k o false e = empty_is f row k s.layout s.is_row (child_in k o)
      (λ x l ox. let z : false ≡ true = sym e ∙ has_from_occurs ms k (g.others k o (x, ox, l)) in cc)

  labels : (ks : List ℕ) → ((k : ℕ) → 1 ≤ occurs ks k → 1 ≤ occurs (children_at f n) k) → AreLabels row (forest (map (outline_below f) ks)) (member_labels ms ks)
  labels [] of = tt
  labels (k ∷ ks) of = (child_label k (of k (occurs_here k ks)) (has ms k) refl, labels ks (λ j o. of j (omega arith)))

  pub part_labels : AreLabels row (child_trees f n) (member_labels ms (children_at f n))
  part_labels = labels (children_at f n) (λ k o. o)

  -- a leaf of the row is below it
  pub part_meets : Meets f (column_leaves row) n
  part_meets =
      let m = some_member ms g.some in
      let o : 1 ≤ occurs (children_at f n) m.0 = g.child m.0 m.1 in
      let below : Meets f (column_leaves row) m.0 = full_meets s m.0 (child_in m.0 o) (member_full m.0 m.1) in
      (below.0, below.1, down n m.0 below.0 o below.2)

  -- no more members than nodes that meet the row
  pub few_members : (top a : ℕ) → IsAtOrAbove f.slots top n → AtMost f (column_leaves row) top a → length ms ≤ a
  few_members top a l few =
      few ms g.once (λ k o. (full_meets s k (child_in k (g.child k o)) (member_full k o), join_paths f.slots top n k l (down n k k (g.child k o) (here k))))

  other_child : (k : ℕ) × (1 ≤ occurs (children_at f n) k) × (has ms k ≡ false)
  other_child = elim (outsider ms (children_at f n)) [
    | inl k ↦ k
    | inr all ↦
        let l : length (children_at f n) ≤ length ms = shorter (children_at f n) ms (λ z. let a : occurs (children_at f n) z ≤ 1 = once f n z s.layout in elim (cases_lt 0 (occurs (children_at f n) z)) [
          | inl o ↦ let b : 1 ≤ occurs ms z = all z o in omega arith
          | inr o ↦ omega arith
        ]) in
        let m : length ms < length (children_at f n) = g.not_all in
        absurd (omega arith)
  ]

  -- it isn't full
  pub part_not_full : IsFullNode f (column_leaves row) n → ⊥
  part_not_full full =
      let k = other_child in
      let below : Meets f (column_leaves row) k.0 = full_meets s k.0 (child_in k.0 k.1) (λ x a l e. full x (a, e) (down n k.0 x k.1 l)) in
      let z : false ≡ true = sym k.2 ∙ has_from_occurs ms k.0 (g.others k.0 k.1 below) in cc

  pub parts_of : PartsOf (child_trees f n) (member_labels ms (children_at f n))
  parts_of =
      let p : Parted (outline_below f) ms (children_at f n) = parted (outline_below f) ms (children_at f n) in
      let k = other_child in
      let m = some_member ms g.some in
      record {
        es = p.es;
        fs = p.fs;
        sorted = p.sorted;
        is = two_parts (child_trees f n) p.es p.fs (member_labels ms (children_at f n)) p.sorted (p.other k.0 k.1 k.2) (p.member m.0 (g.child m.0 m.1) (has_from_occurs ms m.0 m.1));
      }

  pub part_label : IsLabel row (outline_below f n) (partial_label (p3 parts_of.es parts_of.fs))
  part_label =
      let h = p3 parts_of.es parts_of.fs in
      subst (λ z. IsLabel row z (partial_label h)) (sym (below_p f n s.layout g.is_p))
      (member_labels ms (children_at f n), partial_label h, part_labels, by_p3 h parts_of.is, turned_same h)
