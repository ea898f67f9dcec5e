-- The children of a node, as the code sees them.
use Rattle.std.proofs.Common.{◌≡◌, ◌∙◌, ◌+◌, ◌-◌, ◌<◌, ◌≤◌, ℕ, zero, suc, List, [], ◌∷◌, map, length, get_or, Option, Bor, ap, sym, subst, arith}
use Rattle.std.proofs.lemmas.List.{length-map}
use Rattle.pq_tree.specs.Outline.{Outline, p_node, q_node}
use Rattle.pq_tree.specs.Proper.{outline_of, forest, HasArities, HaveArities}
use Rattle.pq_tree.specs.declared.Tree.{Tree}
use Rattle.pq_tree.proofs.Forests.{count_forest}
use Rattle.order_list.specs.Reading.{CanBegin, tree_at}
use Rattle.order_list.specs.Next.{IsLeastFrom, OneBegins, IsNextAmong, lower_of, nearer_of}
use Rattle.order_list.specs.Coming.{outlines}
use Rattle.order_list.specs.declared.search.Next.{Next}
use Rattle.order_list.specs.Weights.{walk_weight, walk_weights}
use Rattle.order_list.proofs.Readings.{arities_at}
use Rattle.order_list.proofs.Taking.{reverse_arities}
use Rattle.order_list.proofs.Begins.{outline_at, lent_at, next_more, least_more, least_p, least_q}

pub p_counts : (u : Outline) (ts : List Outline) → u ≡ p_node (forest ts) → HasArities u → (2 ≤ length ts) × HaveArities (forest ts)
p_counts u ts e h =
    let k : HasArities (p_node (forest ts)) = subst HasArities e h in
    (omega (arith, count_forest ts, k.0), k.1)

pub q_counts : (u : Outline) (ts : List Outline) → u ≡ q_node (forest ts) → HasArities u → (3 ≤ length ts) × HaveArities (forest ts)
q_counts u ts e h =
    let k : HasArities (q_node (forest ts)) = subst HasArities e h in
    (omega (arith, count_forest ts, k.0), k.1)

pub child_arities : (ts : List Tree) (i : ℕ) (t : Tree) → HaveArities (forest (map outline_of ts)) → i < length ts → t ≡ get_or ts i t → HasArities (outline_of t)
child_arities ts i t h l e = subst HasArities (outline_at ts i t l e) (arities_at (map outline_of ts) i h (omega (arith, length-map ts outline_of, l)))

pub weight_at : (ts : List Outline) (k : ℕ) → k < length ts → walk_weight (tree_at ts k) ≤ walk_weights (forest ts)
weight_at [] k l = absurd (omega arith)
weight_at (t ∷ ts) zero l = omega arith
weight_at (t ∷ ts) (suc k) l = omega (arith, weight_at ts k (omega arith))

-- a child weighs less than its node
pub child_weight : (u : Outline) (ts : List Tree) (i : ℕ) (t : Tree) → walk_weight u ≡ 2 + walk_weights (forest (map outline_of ts)) → i < length ts → t ≡ get_or ts i t →
    walk_weight (outline_of t) < walk_weight u
child_weight u ts i t w l e =
    omega (arith, w, weight_at (map outline_of ts) i (omega (arith, length-map ts outline_of, l)), ap walk_weight (outline_at ts i t l e))

-- the last child of a Q-node
pub record IsLastChild (ts : List Tree) (t : Tree) : Type 0 where
  pub inside : length ts - 1 < length ts
  pub place : (length ts - 1) + 1 ≡ length (map outline_of ts)
  pub outline : tree_at (map outline_of ts) (length ts - 1) ≡ outline_of t
  pub arities : HasArities (outline_of t)

pub last_of_q : (u : Outline) (ts : List Tree) (t : Tree) → u ≡ q_node (forest (map outline_of ts)) → HasArities u → t ≡ get_or ts (length ts - 1) t → IsLastChild ts t
last_of_q u ts t e h is =
    let counts = q_counts u (map outline_of ts) e h in
    let n : length (map outline_of ts) ≡ length ts = length-map ts outline_of in
    let l : length ts - 1 < length ts = omega (arith, counts.0, n) in
    record {
      inside = l;
      place = omega (arith, n, l);
      outline = outline_at ts (length ts - 1) t l is;
      arities = child_arities ts (length ts - 1) t counts.1 l is;
    }

pub outlines_length : (ts : List (Bor Tree)) → length (outlines ts) ≡ length ts
outlines_length ts = length-map ts (λ (t : Bor Tree). outline_of t.now)

-- the least column of a P-node, one child after another
pub least_child : (ts : List Tree) (i from : ℕ) (t : Tree) (a b c : Option ℕ) → i < length ts → t ≡ get_or ts i t → c ≡ lower_of a b → IsLeastFrom (OneBegins (map outline_of ts) i) from a →
    IsLeastFrom (CanBegin (outline_of t)) from b → IsLeastFrom (OneBegins (map outline_of ts) (i + 1)) from c
least_child ts i from t a b c l e s h k =
    subst (IsLeastFrom (OneBegins (map outline_of ts) (i + 1)) from) (sym s)
    (least_more (map outline_of ts) i from a b h (subst (λ u. IsLeastFrom (CanBegin u) from b) (sym (outline_at ts i t l e)) k))

pub least_children : (u : Outline) (ts : List Tree) (i from : ℕ) (r : Option ℕ) → u ≡ p_node (forest (map outline_of ts)) → HasArities u → i ≡ length ts →
    IsLeastFrom (OneBegins (map outline_of ts) i) from r → IsLeastFrom (CanBegin u) from r
least_children u ts i from r e h n k =
    let counts = p_counts u (map outline_of ts) e h in
    let all : i ≡ length (map outline_of ts) = n ∙ sym (length-map ts outline_of) in
    subst (λ t. IsLeastFrom (CanBegin t) from r) (sym e)
    (least_p (map outline_of ts) from r (omega (arith, counts.0)) counts.1 (subst (λ n. IsLeastFrom (OneBegins (map outline_of ts) n) from r) all k))

-- the least column of a Q-node, by its ends
pub least_ends : (u : Outline) (ts : List Tree) (from : ℕ) (t v : Tree) (a b c : Option ℕ) → u ≡ q_node (forest (map outline_of ts)) → HasArities u →
    t ≡ get_or ts 0 t → v ≡ get_or ts (length ts - 1) v → c ≡ lower_of a b → IsLeastFrom (CanBegin (outline_of t)) from a → IsLeastFrom (CanBegin (outline_of v)) from b →
    IsLeastFrom (CanBegin u) from c
least_ends u ts from t v a b c e h first last s k l =
    let us = map outline_of ts in
    let counts = q_counts u us e h in
    let n : length us ≡ length ts = length-map ts outline_of in
    let at_first : tree_at us 0 ≡ outline_of t = outline_at ts 0 t (omega (arith, counts.0, n)) first in
    let at_last : tree_at us (length us - 1) ≡ outline_of v = ap (λ m. tree_at us (m - 1)) n ∙ outline_at ts (length ts - 1) v (omega (arith, counts.0, n)) last in
    subst (λ w. IsLeastFrom (CanBegin w) from c) (sym e)
    (subst (IsLeastFrom (CanBegin (q_node (forest us))) from) (sym s)
    (least_q us from a b (omega (arith, counts.0)) counts.1 (reverse_arities us counts.1)
    (subst (λ w. IsLeastFrom (CanBegin w) from a) (sym at_first) k)
    (subst (λ w. IsLeastFrom (CanBegin w) from b) (sym at_last) l)))

-- a list of lent trees
pub lent_arities : (ts : List (Bor Tree)) (i : ℕ) (t : Bor Tree) → HaveArities (forest (outlines ts)) → i < length ts → t ≡ get_or ts i t → HasArities (outline_of t.now)
lent_arities ts i t h l e = subst HasArities (lent_at ts i t l e) (arities_at (outlines ts) i h (omega (arith, outlines_length ts, l)))

pub next_lent : (ts : List (Bor Tree)) (i from : ℕ) (t : Bor Tree) (next found : Option Next) (r : Option ℕ) → i < length ts → t ≡ get_or ts i t → found ≡ nearer_of next i r →
    IsNextAmong (outlines ts) i from next → IsLeastFrom (CanBegin (outline_of t.now)) from r → IsNextAmong (outlines ts) (i + 1) from found
next_lent ts i from t next found r l e s h k =
    subst (IsNextAmong (outlines ts) (i + 1) from) (sym s)
    (next_more (outlines ts) i from next r h (subst (λ u. IsLeastFrom (CanBegin u) from r) (sym (lent_at ts i t l e)) k))
