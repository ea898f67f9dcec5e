-- The leaves of a tree, each with the gap before it.
use Rattle.std.proofs.Common.{◌≡◌, ◌∙◌, ℕ, ◌+◌, ◌<◌, ◌≤◌, Bool, true, not, List, [], ◌∷◌, ◌++◌, IsTrue, IsFalse, refl, sym, ap, subst, inl, inr, arith}
use Rattle.std.proofs.lemmas.Bool.{cases_Bool, both_ways, or_from, or_parts}
use Rattle.column_order.specs.Orders.{has}
use Rattle.pq_tree.specs.Outline.{Outline, Forest, leaf, p_node, q_node, no_tree, tree_and, leaves, leaves_of}
use Rattle.pq_tree.specs.Proper.{count, HasArities, HaveArities}
use Rattle.verdict_judge.specs.declared.gaps.LeafGap.{LeafGap}
use Rattle.verdict_judge.specs.declared.gaps.LeafGap.TheVariants.{P, Q}
use Rattle.verdict_judge.specs.Gaps.{depth, LiesWithin, gaps, gaps_of}
use Rattle.pq_tree.specs.Nodes.{meets}
use Rattle.verdict_judge.specs.HoldsWalk.{misses}
use Rattle.verdict_judge.proofs.GapLines.{Line, columns_of, columns_of-append, Joins, Fit, last, fit_join, All, None, Opens, opens_more, all_last_any, all_parts, Deep, DeepAfter, deep_join, deep_after_join}

abbrev mutual
  pub line : LeafGap → ℕ → Outline → Line
  line g d (leaf a) = (a, g) ∷ []
  line g d (p_node ts) = line_of g (P d) (1 + d) ts
  line g d (q_node ts) = line_of g (Q d) (1 + d) ts

  pub line_of : LeafGap → LeafGap → ℕ → Forest → Line
  line_of g s d no_tree = []
  line_of g s d (tree_and t ts) = line g d t ++ line_of s s d ts

abbrev pub gaps_in : Line → List LeafGap
gaps_in [] = []
gaps_in (x ∷ xs) = x.1 ∷ gaps_in xs

gaps_in-append : (xs ys : Line) → gaps_in (xs ++ ys) ≡ gaps_in xs ++ gaps_in ys
gaps_in-append [] ys = refl
gaps_in-append (x ∷ xs) ys = ap (λ z. x.1 ∷ z) (gaps_in-append xs ys)

mutual
  pub line_columns : (g : LeafGap) (d : ℕ) (t : Outline) → columns_of (line g d t) ≡ leaves t
  line_columns g d (leaf a) = refl
  line_columns g d (p_node ts) = lines_columns g (P d) (1 + d) ts
  line_columns g d (q_node ts) = lines_columns g (Q d) (1 + d) ts

  pub lines_columns : (g s : LeafGap) (d : ℕ) (ts : Forest) → columns_of (line_of g s d ts) ≡ leaves_of ts
  lines_columns g s d no_tree = refl
  lines_columns g s d (tree_and t ts) =
      columns_of-append (line g d t) (line_of s s d ts) ∙ ap (λ z. z ++ columns_of (line_of s s d ts)) (line_columns g d t) ∙ ap (λ z. leaves t ++ z) (lines_columns s s d ts)

mutual
  pub line_gaps : (g : LeafGap) (d : ℕ) (t : Outline) → gaps_in (line g d t) ≡ gaps g d t
  line_gaps g d (leaf a) = refl
  line_gaps g d (p_node ts) = lines_gaps g (P d) (1 + d) ts
  line_gaps g d (q_node ts) = lines_gaps g (Q d) (1 + d) ts

  pub lines_gaps : (g s : LeafGap) (d : ℕ) (ts : Forest) → gaps_in (line_of g s d ts) ≡ gaps_of g s d ts
  lines_gaps g s d no_tree = refl
  lines_gaps g s d (tree_and t ts) =
      gaps_in-append (line g d t) (line_of s s d ts) ∙ ap (λ z. z ++ gaps_in (line_of s s d ts)) (line_gaps g d t) ∙ ap (λ z. gaps g d t ++ z) (lines_gaps s s d ts)

-- what a row has of the leaves
all_line : (row : List ℕ) (xs : Line) → IsFalse (misses row (columns_of xs)) → All row xs
all_line row [] h = tt
all_line row (x ∷ xs) h =
    let r = or_parts (not (has row x.0)) (misses row (columns_of xs)) h in
    (elim (cases_Bool (has row x.0)) [ inl e ↦ e | inr e ↦ absurd (both_ways (not (has row x.0)) r.0 (ap not e)) ], all_line row xs r.1)

none_line : (row : List ℕ) (xs : Line) → IsFalse (meets row (columns_of xs)) → None row xs
none_line row [] h = tt
none_line row (x ∷ xs) h = let r = or_parts (has row x.0) (meets row (columns_of xs)) h in (r.0, none_line row xs r.1)

line_all : (row : List ℕ) (xs : Line) → All row xs → IsFalse (misses row (columns_of xs))
line_all row [] h = refl
line_all row (x ∷ xs) h = or_from (not (has row x.0)) (misses row (columns_of xs)) (ap not h.0) (line_all row xs h.1)

line_none : (row : List ℕ) (xs : Line) → None row xs → IsFalse (meets row (columns_of xs))
line_none row [] h = refl
line_none row (x ∷ xs) h = or_from (has row x.0) (meets row (columns_of xs)) h.0 (line_none row xs h.1)

pub all_of : (row : List ℕ) (g : LeafGap) (d : ℕ) (t : Outline) → IsFalse (misses row (leaves t)) → All row (line g d t)
all_of row g d t h = all_line row (line g d t) (ap (misses row) (line_columns g d t) ∙ h)

pub none_of : (row : List ℕ) (g : LeafGap) (d : ℕ) (t : Outline) → IsFalse (meets row (leaves t)) → None row (line g d t)
none_of row g d t h = none_line row (line g d t) (ap (meets row) (line_columns g d t) ∙ h)

pub alls_of : (row : List ℕ) (g s : LeafGap) (d : ℕ) (ts : Forest) → IsFalse (misses row (leaves_of ts)) → All row (line_of g s d ts)
alls_of row g s d ts h = all_line row (line_of g s d ts) (ap (misses row) (lines_columns g s d ts) ∙ h)

pub nones_of : (row : List ℕ) (g s : LeafGap) (d : ℕ) (ts : Forest) → IsFalse (meets row (leaves_of ts)) → None row (line_of g s d ts)
nones_of row g s d ts h = none_line row (line_of g s d ts) (ap (meets row) (lines_columns g s d ts) ∙ h)

pub not_all : (row : List ℕ) (g : LeafGap) (d : ℕ) (t : Outline) → IsTrue (misses row (leaves t)) → All row (line g d t) → ⊥
not_all row g d t h k = both_ways (misses row (leaves t)) (sym (ap (misses row) (line_columns g d t)) ∙ line_all row (line g d t) k) h

pub not_none : (row : List ℕ) (g : LeafGap) (d : ℕ) (t : Outline) → IsTrue (meets row (leaves t)) → None row (line g d t) → ⊥
not_none row g d t h k = both_ways (meets row (leaves t)) (sym (ap (meets row) (line_columns g d t)) ∙ line_none row (line g d t) k) h

pub not_alls : (row : List ℕ) (g s : LeafGap) (d : ℕ) (ts : Forest) → IsTrue (misses row (leaves_of ts)) → All row (line_of g s d ts) → ⊥
not_alls row g s d ts h k = both_ways (misses row (leaves_of ts)) (sym (ap (misses row) (lines_columns g s d ts)) ∙ line_all row (line_of g s d ts) k) h

pub not_nones : (row : List ℕ) (g s : LeafGap) (d : ℕ) (ts : Forest) → IsTrue (meets row (leaves_of ts)) → None row (line_of g s d ts) → ⊥
not_nones row g s d ts h k = both_ways (meets row (leaves_of ts)) (sym (ap (meets row) (lines_columns g s d ts)) ∙ line_none row (line_of g s d ts) k) h

-- the first gap is the one that the tree begins with
mutual
  pub opens : (g : LeafGap) (d : ℕ) (t : Outline) → HasArities t → Opens g (line g d t)
  opens g d (leaf a) h = refl
  opens g d (p_node ts) h = opens_of g (P d) (1 + d) ts (omega (arith, h.0)) h.1
  opens g d (q_node ts) h = opens_of g (Q d) (1 + d) ts (omega (arith, h.0)) h.1

  pub opens_of : (g s : LeafGap) (d : ℕ) (ts : Forest) → 1 ≤ count ts → HaveArities ts → Opens g (line_of g s d ts)
  opens_of g s d no_tree l h = absurd (omega arith)
  opens_of g s d (tree_and t ts) l h = opens_more g (line g d t) (line_of s s d ts) (opens g d t h.0)

-- the gaps of a tree lie at its depth or deeper, but the first
mutual
  deep : (k : ℕ) (g : LeafGap) (d : ℕ) (t : Outline) → k ≤ depth g → k ≤ d → Deep k (line g d t)
  deep k g d (leaf a) l m = (l, tt)
  deep k g d (p_node ts) l m = deeps k g (P d) (1 + d) ts l m (omega (arith, m))
  deep k g d (q_node ts) l m = deeps k g (Q d) (1 + d) ts l m (omega (arith, m))

  deeps : (k : ℕ) (g s : LeafGap) (d : ℕ) (ts : Forest) → k ≤ depth g → k ≤ depth s → k ≤ d → Deep k (line_of g s d ts)
  deeps k g s d no_tree l m n = tt
  deeps k g s d (tree_and t ts) l m n = deep_join k (line g d t) (line_of s s d ts) (deep k g d t l n) (deeps k s s d ts m m n)

mutual
  pub deep_after : (k : ℕ) (g : LeafGap) (d : ℕ) (t : Outline) → k ≤ d → DeepAfter k (line g d t)
  deep_after k g d (leaf a) m = tt
  deep_after k g d (p_node ts) m = deeps_after k g (P d) (1 + d) ts m (omega (arith, m))
  deep_after k g d (q_node ts) m = deeps_after k g (Q d) (1 + d) ts m (omega (arith, m))

  pub deeps_after : (k : ℕ) (g s : LeafGap) (d : ℕ) (ts : Forest) → k ≤ depth s → k ≤ d → DeepAfter k (line_of g s d ts)
  deeps_after k g s d no_tree m n = tt
  deeps_after k g s d (tree_and t ts) m n = deep_after_join k (line g d t) (line_of s s d ts) (deep_after k g d t n) (deeps k s s d ts m m n)

-- a row that misses no leaf, where each gap but the first lies within o
pub last_all : (row : List ℕ) (p : Bool) (g : LeafGap) (d : ℕ) (t : Outline) → HasArities t → All row (line g d t) → last row p (line g d t) ≡ true
last_all row p g d t h k = all_last_any row p g (line g d t) (opens g d t h) k

mutual
  pub all_fits : (row : List ℕ) (o : ℕ) (p : Bool) (g : LeafGap) (d : ℕ) (t : Outline) → HasArities t → o < d → Joins o p true g → All row (line g d t) → Fit row o p (line g d t)
  all_fits row o p g d (leaf a) h l j k = (subst (λ b. Joins o p b g) (sym k.0) j, tt)
  all_fits row o p g d (p_node ts) h l j k = alls_fit row o p g (P d) (1 + d) ts h.1 (omega (arith, l)) l j k
  all_fits row o p g d (q_node ts) h l j k = alls_fit row o p g (Q d) (1 + d) ts h.1 (omega (arith, l)) (omega (arith, l)) j k

  pub alls_fit : (row : List ℕ) (o : ℕ) (p : Bool) (g s : LeafGap) (d : ℕ) (ts : Forest) → HaveArities ts → o < d → LiesWithin o s → Joins o p true g → All row (line_of g s d ts) → Fit row o p (line_of g s d ts)
  alls_fit row o p g s d no_tree h l w j k = tt
  alls_fit row o p g s d (tree_and t ts) h l w j k =
      let r = all_parts row (line g d t) (line_of s s d ts) k in
      fit_join row o p (line g d t) (line_of s s d ts) (all_fits row o p g d t h.0 l j r.0)
      (subst (λ b. Fit row o b (line_of s s d ts)) (sym (last_all row p g d t h.0 r.0)) (alls_fit row o true s s d ts h.1 l w w r.1))
