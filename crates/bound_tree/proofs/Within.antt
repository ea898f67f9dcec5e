-- The stretches of a proper tree lie within its leaves.
use Rattle.std.proofs.Common.{◌≡◌, ℕ, ◌+◌, ◌-◌, ◌<◌, ◌≤◌, length, slice_index, subst, arith, length-append}
use Rattle.std.specs.Prelude.{All}
use Rattle.std.proofs.lemmas.List.Elements.{All-nil, All-append}
use Rattle.pq_tree.specs.Outline.{Outline, Forest, leaf, p_node, q_node, no_tree, tree_and, leaves, leaves_of}
use Rattle.pq_tree.specs.Proper.{HasArities, HaveArities}
use Rattle.bound_tree.specs.Stretches.{stretches, stretches_of, starts, whole_stretches, near_stretches}
use Rattle.bound_tree.specs.Free.{IsRoundGap}
use Rattle.bound_tree.proofs.Lists.{whole_from, near_from}
use Rattle.bound_tree.proofs.Starts.{starts_first, starts_last, starts_within, starts_rise}

module _ (n : ℕ) where
  before : (s : ℕ) (ts : Forest) → HaveArities ts → (i : ℕ) → 1 ≤ i → i < length (starts s ts) → slice_index (starts s ts) (i - 1) < slice_index (starts s ts) i
  before s ts h i l u =
      let e : i - 1 + 1 ≡ i = omega arith in
      subst (λ j. slice_index (starts s ts) (i - 1) < slice_index (starts s ts) j) e (starts_rise s ts h (i - 1) (omega arith))

  mutual
    pub tree_within : (t : Outline) (s : ℕ) → HasArities t → s + length (leaves t) ≤ n → All (IsRoundGap n) (stretches s t)
    tree_within (leaf a) s h l = All-nil (IsRoundGap n)
    tree_within (p_node ts) s h l =
        All-append (IsRoundGap n) (stretches_of s ts) (whole_stretches (starts s ts)) (trees_within ts s h.1 l)
        (whole_from (IsRoundGap n) (starts s ts) (λ i a b.
        record {
          before = omega (arith, starts_first s ts, before s ts h.1 i a (omega arith), (starts_within s ts (i - 1) (omega arith)).0);
          behind = omega (arith, starts_last s ts, starts_rise s ts h.1 i b, (starts_within s ts (i + 1) b).1);
          inside = omega (arith, starts_last s ts, l);
        }))
    tree_within (q_node ts) s h l =
        All-append (IsRoundGap n) (stretches_of s ts) (near_stretches (starts s ts)) (trees_within ts s h.1 l)
        (near_from (IsRoundGap n) (starts s ts) (λ i a b.
        record {
          before = before s ts h.1 i a (omega arith);
          behind = starts_rise s ts h.1 i b;
          inside = omega (arith, l, (starts_within s ts (i + 1) b).1);
        }))

    trees_within : (ts : Forest) (s : ℕ) → HaveArities ts → s + length (leaves_of ts) ≤ n → All (IsRoundGap n) (stretches_of s ts)
    trees_within no_tree s h l = All-nil (IsRoundGap n)
    trees_within (tree_and t ts) s h l =
        All-append (IsRoundGap n) (stretches s t) (stretches_of (s + length (leaves t)) ts)
        (tree_within t s h.0 (omega (arith, l, length-append (leaves t) (leaves_of ts))))
        (trees_within ts (s + length (leaves t)) h.1 (omega (arith, l, length-append (leaves t) (leaves_of ts))))
