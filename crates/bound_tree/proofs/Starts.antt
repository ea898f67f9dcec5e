-- Where the children of a node begin.
use Rattle.std.proofs.Common.{◌≡◌, ◌∙◌, ℕ, zero, suc, ◌+◌, ◌-◌, ◌<◌, ◌≤◌, length, slice_index, refl, ap, sym, subst, arith, length-append}
use Rattle.pq_tree.specs.Outline.{Forest, no_tree, tree_and, leaves, leaves_of}
use Rattle.pq_tree.specs.Proper.{count, HaveArities}
use Rattle.bound_tree.specs.Stretches.{starts}
use Rattle.pq_tree.proofs.Forests.{leaves_some}

pub starts_length : (s : ℕ) (ts : Forest) → length (starts s ts) ≡ count ts + 1
starts_length s no_tree = refl
starts_length s (tree_and t ts) = omega (arith, starts_length (s + length (leaves t)) ts)

pub starts_first : (s : ℕ) (ts : Forest) → slice_index (starts s ts) 0 ≡ s
starts_first s no_tree = refl
starts_first s (tree_and t ts) = refl

pub starts_last : (s : ℕ) (ts : Forest) → slice_index (starts s ts) (length (starts s ts) - 1) ≡ s + length (leaves_of ts)
starts_last s no_tree = omega arith
starts_last s (tree_and t ts) =
    let n : length (starts s (tree_and t ts)) - 1 ≡ suc (length (starts (s + length (leaves t)) ts) - 1) =
    omega (arith, starts_length (s + length (leaves t)) ts) in
    ap (slice_index (starts s (tree_and t ts))) n ∙
    starts_last (s + length (leaves t)) ts ∙
    omega (arith, length-append (leaves t) (leaves_of ts))

-- no child begins before the node or behind its end
pub starts_within : (s : ℕ) (ts : Forest) (i : ℕ) → i < length (starts s ts) →
    (s ≤ slice_index (starts s ts) i) × (slice_index (starts s ts) i ≤ s + length (leaves_of ts))
starts_within s no_tree zero h = (omega arith, omega arith)
starts_within s no_tree (suc i) h = absurd (omega arith)
starts_within s (tree_and t ts) zero h = (omega arith, omega arith)
starts_within s (tree_and t ts) (suc i) h =
    let r = starts_within (s + length (leaves t)) ts i (omega arith) in
    (omega (arith, r.0), omega (arith, r.1, length-append (leaves t) (leaves_of ts)))

-- each child of a proper tree begins before the next one
pub starts_rise : (s : ℕ) (ts : Forest) → HaveArities ts → (i : ℕ) → i + 1 < length (starts s ts) → slice_index (starts s ts) i < slice_index (starts s ts) (i + 1)
starts_rise s no_tree h i l = absurd (omega arith)
starts_rise s (tree_and t ts) h zero l = omega (arith, starts_first (s + length (leaves t)) ts, leaves_some t h.0)
starts_rise s (tree_and t ts) h (suc i) l =
    let e : suc i + 1 ≡ suc (i + 1) = omega arith in
    subst (λ j. slice_index (starts (s + length (leaves t)) ts) i < slice_index (starts s (tree_and t ts)) j) (sym e) (starts_rise (s + length (leaves t)) ts h.1 i (omega arith))
