-- How many looks the stretches of a tree take.
use Rattle.std.proofs.Common.{◌≡◌, ◌∙◌, ℕ, suc, ◌+◌, ◌-◌, ◌*◌, ◌<◌, ◌≤◌, List, [], ◌∷◌, length, map, take, sum_by, slice_index, slice_index_or, refl, ap, arith, length-append}
use Rattle.std.specs.Prelude.{All}
use Rattle.std.proofs.Math.Nat.{suc-mul, mul-le-mul_right}
use Rattle.std.proofs.Math.Seq.{take-suc}
use Rattle.std.proofs.lemmas.List.FromFn.{length-map-range_with_len}
use Rattle.std.proofs.lemmas.List.Sorted.{All-permutation, length_permutation, sum_by-IsPermutation}
use Rattle.std.proofs.lemmas.List.Sums.{sum_by-append, sum_by-cons}
use Rattle.std.specs.List.Sorted.{IsPermutation}
use Rattle.pq_tree.specs.Outline.{Outline, Forest, leaf, p_node, q_node, no_tree, tree_and, leaves, leaves_of}
use Rattle.pq_tree.specs.Proper.{count, HasArities, HaveArities}
use Rattle.bound_tree.specs.declared.stretch.Stretch.{Stretch}
use Rattle.bound_tree.specs.Free.{IsRoundGap}
use Rattle.bound_tree.specs.Sides.{turned_stretch}
use Rattle.bound_tree.specs.Stretches.{stretch, stretches, stretches_of, starts, whole_stretches, near_stretches}
use Rattle.bound_tree.proofs.Starts.{starts_length}

-- two looks for each position before a stretch
abbrev pub looks_before : Stretch → ℕ
looks_before s = 2 * s.from

-- the looks for one stretch more
pub looks_next : (ss : List Stretch) (i : ℕ) (d : Stretch) → i < length ss →
    sum_by looks_before (take (i + 1) ss) ≡ sum_by looks_before (take i ss) + looks_before (slice_index_or ss i d)
looks_next ss i d l =
    let more : i + 1 ≡ suc i = omega arith in
    ap (λ n. sum_by looks_before (take n ss)) more
    ∙ ap (λ (l : List Stretch). sum_by looks_before l) (take-suc ss i d l)
    ∙ sum_by-append looks_before (take i ss) (slice_index_or ss i d ∷ [])
    ∙ ap (λ n. sum_by looks_before (take i ss) + n) (sum_by-cons looks_before (slice_index_or ss i d) [] ∙ omega arith)

-- from both sides, two looks for each stretch and each of n positions
pub looks_on_both_sides : (n : ℕ) (ss : List Stretch) → All (IsRoundGap n) ss →
    sum_by looks_before ss + sum_by looks_before (map (turned_stretch n) ss) ≤ 2 * (length ss * n)
looks_on_both_sides n [] all = omega arith
looks_on_both_sides n (s ∷ ss) all =
    let here : IsRoundGap n s = all 0 s (omega arith) in
    omega (
      arith,
      looks_on_both_sides n ss (λ k d l. all (suc k) d (omega (arith, l))),
      here.before,
      here.behind,
      here.inside,
      sum_by-cons looks_before s ss,
      sum_by-cons looks_before (turned_stretch n s) (map (turned_stretch n) ss),
      suc-mul (length ss) n,
    )

-- the same of stretches that are sorted, turned and sorted again
module _ (n : ℕ) (given first second : List Stretch) (round : All (IsRoundGap n) given) (moved : IsPermutation given first) where
  both : sum_by looks_before first + sum_by looks_before (map (turned_stretch n) first) ≤ 2 * (length given * n)
  both =
      omega (
        arith,
        looks_on_both_sides n first (All-permutation (IsRoundGap n) given first moved round),
        ap (λ k. k * n) (length_permutation given first moved),
      )

  pub looks_on_one_side : sum_by looks_before first ≤ 2 * (length given * n)
  looks_on_one_side = omega (arith, both)

  pub looks_on_either_side : IsPermutation (map (turned_stretch n) first) second → sum_by looks_before first + sum_by looks_before second ≤ 2 * (length given * n)
  looks_on_either_side again = omega (arith, both, sum_by-IsPermutation looks_before (map (turned_stretch n) first) second again)

-- a tree with arities has one gap fewer than leaves
mutual
  pub count_of_stretches : (t : Outline) (s : ℕ) → HasArities t → length (stretches s t) + 1 ≡ length (leaves t)
  count_of_stretches (leaf a) s h = refl
  count_of_stretches (p_node ts) s h =
      omega (
        arith,
        h.0,
        count_among ts s h.1,
        starts_length s ts,
        length-append (stretches_of s ts) (whole_stretches (starts s ts)),
        length-map-range_with_len (λ i. stretch (slice_index (starts s ts) i) (slice_index (starts s ts) 0) (slice_index (starts s ts) (length (starts s ts) - 1))) 1 (length (starts s ts) - 2),
      )
  count_of_stretches (q_node ts) s h =
      omega (
        arith,
        h.0,
        count_among ts s h.1,
        starts_length s ts,
        length-append (stretches_of s ts) (near_stretches (starts s ts)),
        length-map-range_with_len (λ i. stretch (slice_index (starts s ts) i) (slice_index (starts s ts) (i - 1)) (slice_index (starts s ts) (i + 1))) 1 (length (starts s ts) - 2),
      )

  count_among : (ts : Forest) (s : ℕ) → HaveArities ts → length (stretches_of s ts) + count ts ≡ length (leaves_of ts)
  count_among no_tree s h = refl
  count_among (tree_and t ts) s h =
      omega (
        arith,
        count_of_stretches t s h.0,
        count_among ts (s + length (leaves t)) h.1,
        length-append (stretches s t) (stretches_of (s + length (leaves t)) ts),
        length-append (leaves t) (leaves_of ts),
      )

-- so in a tree of c leaves the looks are at most twice the square of c
pub looks_of_tree : (c n k : ℕ) → n ≤ c → k ≡ c → 2 * (n * k) ≤ 2 * (c * c)
looks_of_tree c n k l e = omega (arith, ap (λ x. n * x) e, mul-le-mul_right c l)
