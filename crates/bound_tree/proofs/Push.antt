-- The stretches of the children of a node, one child more at a time.
use Rattle.std.proofs.Common.{◌≡◌, ◌⊎◌, ◌∙◌, ℕ, zero, suc, ◌+◌, ◌-◌, ◌<◌, ◌≤◌, List, [], ◌∷◌, ◌++◌, length, map, take, get_or, ap, sym, arith, length-append, append_assoc, append-nil}
use Rattle.std.specs.List.{range_with_len}
use Rattle.std.proofs.lemmas.List.{get_or_default, map_more, take_all}
use Rattle.std.proofs.lemmas.List.FromFn.{map-range_with_len_more}
use Rattle.std.specs.declared.vec.Vec.{Vec}
use Rattle.std.specs.declared.alloc.Global.{Global}
use Rattle.pq_tree.specs.Outline.{Outline, Forest, p_node, q_node, leaves, leaves_of}
use Rattle.pq_tree.specs.Proper.{outline_of, forest}
use Rattle.pq_tree.specs.declared.Tree.{Tree, P, Q}
use Rattle.pq_tree.proofs.Shown.{outline_of-P, outline_of-Q, leaves_of_node, front_more}
use Rattle.bound_tree.specs.declared.stretch.Stretch.{Stretch}
use Rattle.bound_tree.specs.Stretches.{stretches, stretches_of, starts, whole_stretches, near_stretches}
use Rattle.bound_tree.proofs.Starts.{starts_length, starts_last}

-- the stretch of one gap more
pub one_more : (f : ℕ → Stretch) (old all new : List Stretch) (i : ℕ) → 1 ≤ i → all ≡ old ++ map f (range_with_len 1 (i - 1)) → new ≡ all ++ f i ∷ [] →
    new ≡ old ++ map f (range_with_len 1 (i + 1 - 1))
one_more f old all new i l e k =
    let n : i - 1 + 1 ≡ i + 1 - 1 = omega arith in
    k ∙ ap (λ x. x ++ f i ∷ []) e ∙ append_assoc old (map f (range_with_len 1 (i - 1))) (f i ∷ []) ∙
    ap (λ x. old ++ x) (sym (map-range_with_len_more f 1 (i - 1) i (omega arith)) ∙ ap (λ m. map f (range_with_len 1 m)) n)

-- the stretches of all gaps
pub all_gaps : (f : ℕ → Stretch) (old all : List Stretch) (i n : ℕ) → i - 1 ≡ n → all ≡ old ++ map f (range_with_len 1 (i - 1)) → all ≡ old ++ map f (range_with_len 1 n)
all_gaps f old all i n same e = e ∙ ap (λ k. old ++ map f (range_with_len 1 k)) same

starts_more : (s : ℕ) (us : List Outline) (u : Outline) → starts s (forest (us ++ u ∷ [])) ≡ starts s (forest us) ++ (s + length (leaves_of (forest us)) + length (leaves u)) ∷ []
starts_more s [] u =
    let n : s + length (leaves u) ≡ s + 0 + length (leaves u) = omega arith in
    ap (λ x. s ∷ x ∷ []) n
starts_more s (x ∷ us) u =
    let n : s + length (leaves x) + length (leaves_of (forest us)) + length (leaves u) ≡ s + length (leaves x ++ leaves_of (forest us)) + length (leaves u) =
    omega (arith, length-append (leaves x) (leaves_of (forest us))) in
    ap (λ l. s ∷ l) (starts_more (s + length (leaves x)) us u ∙ ap (λ k. starts (s + length (leaves x)) (forest us) ++ k ∷ []) n)

stretches_more : (s : ℕ) (us : List Outline) (u : Outline) → stretches_of s (forest (us ++ u ∷ [])) ≡ stretches_of s (forest us) ++ stretches (s + length (leaves_of (forest us))) u
stretches_more s [] u =
    let n : s ≡ s + 0 = omega arith in
    append-nil (stretches s u) ∙ ap (λ k. stretches k u) n
stretches_more s (x ∷ us) u =
    let n : s + length (leaves x) + length (leaves_of (forest us)) ≡ s + length (leaves x ++ leaves_of (forest us)) = omega (arith, length-append (leaves x) (leaves_of (forest us))) in
    ap (λ l. stretches s x ++ l) (stretches_more (s + length (leaves x)) us u ∙ ap (λ k. stretches_of (s + length (leaves x)) (forest us) ++ stretches k u) n) ∙
    sym (append_assoc (stretches s x) (stretches_of (s + length (leaves x)) (forest us)) (stretches (s + length (leaves x ++ leaves_of (forest us))) u))

-- the first children of a node
abbrev pub front : List Tree → ℕ → Forest
front ts i = forest (map outline_of (take i ts))

module _ (ts : List Tree) (i : ℕ) (child : Tree) (l : i < length ts) (e : child ≡ get_or ts i child) where
  pub front_length : length (leaves_of (front ts (i + 1))) ≡ length (leaves_of (front ts i)) + length (leaves (outline_of child))
  front_length =
      ap length (front_more ts i child l) ∙ length-append (leaves_of (front ts i)) (leaves (outline_of (get_or ts i child))) ∙
      ap (λ t. length (leaves_of (front ts i)) + length (leaves (outline_of t))) (sym e)

  same_front : map outline_of (take (i + 1) ts) ≡ map outline_of (take i ts) ++ outline_of child ∷ []
  same_front = map_more outline_of ts i child l ∙ ap (λ t. map outline_of (take i ts) ++ outline_of t ∷ []) (sym e)

  pub starts_next : (s at next : ℕ) (items new : List ℕ) → at ≡ s + length (leaves_of (front ts i)) → next ≡ at + length (leaves (outline_of child)) →
      items ++ at ∷ [] ≡ starts s (front ts i) → new ≡ items ++ at ∷ [] → new ++ next ∷ [] ≡ starts s (front ts (i + 1))
  starts_next s at next items new a n h k =
      let m : next ≡ s + length (leaves_of (front ts i)) + length (leaves (outline_of child)) = omega arith in
      ap (λ x. x ++ next ∷ []) (k ∙ h) ∙ ap (λ y. starts s (front ts i) ++ y ∷ []) m ∙
      sym (ap (λ x. starts s (forest x)) same_front ∙ starts_more s (map outline_of (take i ts)) (outline_of child))

  pub stretches_next : (s at : ℕ) (old all new : List Stretch) → at ≡ s + length (leaves_of (front ts i)) → all ≡ old ++ stretches_of s (front ts i) →
      new ≡ all ++ stretches at (outline_of child) → new ≡ old ++ stretches_of s (front ts (i + 1))
  stretches_next s at old all new a h k =
      k ∙ ap (λ x. x ++ stretches at (outline_of child)) h ∙ append_assoc old (stretches_of s (front ts i)) (stretches at (outline_of child)) ∙
      ap (λ x. old ++ x)
      (ap (λ y. stretches_of s (front ts i) ++ stretches y (outline_of child)) a ∙
      sym (ap (λ x. stretches_of s (forest x)) same_front ∙ stretches_more s (map outline_of (take i ts)) (outline_of child)))

pub front_all : (ts : List Tree) (i : ℕ) → length ts ≤ i → front ts i ≡ forest (map outline_of ts)
front_all ts i l = ap (λ x. forest (map outline_of x)) (take_all i ts l)

-- no front has more leaves than the whole
pub front_short : (ts : List Tree) (i : ℕ) → length (leaves_of (front ts i)) ≤ length (leaves_of (forest (map outline_of ts)))
front_short [] zero = omega arith
front_short [] (suc i) = omega arith
front_short (t ∷ ts) zero = omega arith
front_short (t ∷ ts) (suc i) =
    omega (arith, front_short ts i, length-append (leaves (outline_of t)) (leaves_of (front ts i)), length-append (leaves (outline_of t)) (leaves_of (forest (map outline_of ts))))

pub node_length : (t : Tree) (v : Vec Tree Global) (ts : List Tree) → (t ≡ P v) ⊎ (t ≡ Q v) → ts ≡ v.items → length (leaves (outline_of t)) ≡ length (leaves_of (forest (map outline_of ts)))
node_length t v ts h e = ap length (leaves_of_node t v h) ∙ ap (λ x. length (leaves_of (forest (map outline_of x)))) (sym e)

-- the last of the starts is the end of the node
pub node_end : (t : Tree) (v : Vec Tree Global) (ts : List Tree) (s n end : ℕ) (ns : List ℕ) → (t ≡ P v) ⊎ (t ≡ Q v) → ts ≡ v.items → ns ≡ starts s (forest (map outline_of ts)) →
    n ≡ length ns → end ≡ get_or ns (n - 1) end → end ≡ s + length (leaves (outline_of t))
node_end t v ts s n end ns h e k m f =
    let l : n ≡ length (starts s (forest (map outline_of ts))) = m ∙ ap length k in
    f ∙ get_or_default ns (n - 1) end 0 (omega (arith, l, m, starts_length s (forest (map outline_of ts)))) ∙ ap (λ x. get_or x (n - 1) 0) k ∙ ap (λ i. get_or (starts s (forest (map outline_of ts))) (i - 1) 0) l ∙ starts_last s (forest (map outline_of ts)) ∙
    ap (λ i. s + i) (sym (node_length t v ts h e))

-- a node over its children: their stretches, and those of the node itself
over : (u : Outline) (s : ℕ) (ts : List Tree) (own : List ℕ → List Stretch) (ns : List ℕ) (old all new : List Stretch) → stretches s u ≡ stretches_of s (forest (map outline_of ts)) ++ own (starts s (forest (map outline_of ts))) →
    ns ≡ starts s (forest (map outline_of ts)) → all ≡ old ++ stretches_of s (forest (map outline_of ts)) → new ≡ all ++ own ns → new ≡ old ++ stretches s u
over u s ts own ns old all new e k h w =
    w ∙ ap (λ x. x ++ own ns) h ∙ append_assoc old (stretches_of s (forest (map outline_of ts))) (own ns) ∙
    ap (λ x. old ++ x) (ap (λ y. stretches_of s (forest (map outline_of ts)) ++ own y) k ∙ sym e)

pub over_P : (t : Tree) (v : Vec Tree Global) (ts : List Tree) (s : ℕ) (ns : List ℕ) (old all new : List Stretch) → t ≡ P v → ts ≡ v.items → ns ≡ starts s (forest (map outline_of ts)) →
    all ≡ old ++ stretches_of s (forest (map outline_of ts)) → new ≡ all ++ whole_stretches ns → new ≡ old ++ stretches s (outline_of t)
over_P t v ts s ns old all new e f k h w =
    over (outline_of t) s ts whole_stretches ns old all new (ap (stretches s) (ap outline_of e ∙ outline_of-P v ∙ ap (λ x. p_node (forest (map outline_of x))) (sym f))) k h w

pub over_Q : (t : Tree) (v : Vec Tree Global) (ts : List Tree) (s : ℕ) (ns : List ℕ) (old all new : List Stretch) → t ≡ Q v → ts ≡ v.items → ns ≡ starts s (forest (map outline_of ts)) →
    all ≡ old ++ stretches_of s (forest (map outline_of ts)) → new ≡ all ++ near_stretches ns → new ≡ old ++ stretches s (outline_of t)
over_Q t v ts s ns old all new e f k h w =
    over (outline_of t) s ts near_stretches ns old all new (ap (stretches s) (ap outline_of e ∙ outline_of-Q v ∙ ap (λ x. q_node (forest (map outline_of x))) (sym f))) k h w
