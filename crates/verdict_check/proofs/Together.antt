-- Whether the columns of a node stay together, and its children stand in line, one child after another.
use Rattle.std.proofs.Common.{◌≡◌, ◌↔◌, ℕ, ◌+◌, ◌-◌, ◌<◌, ◌≤◌, Bool, true, false, List, length, length-append, map, take, drop, get_or, IsTrue, refl, sym, ap, subst, inl, inr, arith}
use Rattle.std.proofs.lemmas.Bool.{both_ways}
use Rattle.std.proofs.Math.ListN.{drop_of_length-le}
use Rattle.column_order.specs.Orders.{has, occurs}
use Rattle.row_model.specs.declared.graph.Pair.{Pair}
use Rattle.row_model.specs.Graph.{pair, Evenly}
use Rattle.pq_tree.specs.Outline.{Forest, no_tree, tree_and, leaves, leaves_of}
use Rattle.pq_tree.specs.Forests.{join}
use Rattle.pq_tree.specs.Proper.{outline_of, forest, HasArities}
use Rattle.pq_tree.specs.declared.Tree.{Tree}
use Rattle.pq_tree.proofs.Nodes.{node_itself}
use Rattle.tree_theory.specs.Tied.{IsClosed, IsForward, IsInLine}
use Rattle.odd_cycle.specs.Numbers.{Numbering}
use Rattle.verdict_check.specs.Complete.{InRows, IsComplete, AreComplete, RunsFrom, IsOutside, pair_at}
use Rattle.pq_tree.proofs.Shown.{rest_at}
use Rattle.pq_tree.proofs.Forests.{leaves_some}
use Rattle.verdict_check.proofs.Places.{stands_left, stands_right, stands_has, has_stands}
use Rattle.verdict_check.proofs.Alike.{evenly_sorts, AlikeUpTo, closed_from, closed_to, alike_more}
use Rattle.verdict_check.proofs.CompleteNodes.{none_complete, and_complete, head_complete, tail_complete}
use Rattle.verdict_check.proofs.Children.{columns_of, parted, columns_parted, forward_across, child_stands, next_at, next_within, at_end}

-- the columns at an index and at the one before are alike towards those outside, which are before the node and behind it
module _ (t : Numbering) (n s e at : ℕ) (G : (Pair → Pair → Type 0) → ℕ → Type 0) (b : Bool) (before : InRows t (λ R. IsTrue b ↔ ((i : ℕ) → 0 ≤ i → i < s → G R i))) where
  pub both_sides : (d : Bool) → s < at → b ≡ true → InRows t (λ R. IsTrue d ↔ ((i : ℕ) → e ≤ i → i < n → G R i)) → InRows t (λ R. IsTrue d ↔ (s < at → (i : ℕ) → i < n → IsOutside s e i → G R i))
  both_sides d lt is behind = λ c rows tells. (
    λ x _ i l o. elim o [ inl u ↦ (before c rows tells).0 is i (omega arith) u | inr u ↦ (behind c rows tells).0 x i u l ],
    λ all. (behind c rows tells).1 (λ i u l. all lt i l (inr u)),
  )

  pub one_side : s < at → s ≤ n → b ≡ false → InRows t (λ R. IsTrue b ↔ (s < at → (i : ℕ) → i < n → IsOutside s e i → G R i))
  one_side lt small is = λ c rows tells. (λ x. absurd (both_ways b is x), λ all. (before c rows tells).1 (λ i u l. all lt i (omega (arith, l, small)) (inl l)))

-- the later ones of complete trees are complete
later_complete : (R : Pair → Pair → Type 0) (l : List ℕ) (us vs : Forest) → AreComplete R l (join us vs) → AreComplete R l vs
later_complete R l no_tree vs h = h
later_complete R l (tree_and u us) vs h = later_complete R l us vs (tail_complete R l u (join us vs) h)

child_complete : (R : Pair → Pair → Type 0) (l : List ℕ) (ts : List Tree) (i : ℕ) (child : Tree) → i < length ts → child ≡ get_or ts i child → AreComplete R l (forest (map outline_of ts)) → IsComplete R l (outline_of child)
child_complete R l ts i child lt is h =
    head_complete R l (outline_of child) (forest (map outline_of (drop (i + 1) ts)))
    (subst (AreComplete R l) (rest_at ts i child lt is) (later_complete R l (forest (map outline_of (take i ts))) (forest (map outline_of (drop i ts))) (subst (AreComplete R l) (parted ts i) h)))

-- the pair of the columns at the two ends of the node goes forward past a child, and so does each pair of a column of it or before it
-- and one behind it
module _ (l : List ℕ) (ts : List Tree) (s i next : ℕ) (h : RunsFrom l s (columns_of ts)) (e : next ≡ s + length (columns_of (take (i + 1) ts))) where
  first_stand : RunsFrom l s (columns_of (take (i + 1) ts))
  first_stand = stands_left l (columns_of (take (i + 1) ts)) (columns_of (drop (i + 1) ts)) s (subst (RunsFrom l s) (columns_parted ts (i + 1)) h)

  pub last_stand : RunsFrom l next (columns_of (drop (i + 1) ts))
  last_stand = subst (λ n. RunsFrom l n (columns_of (drop (i + 1) ts))) (sym e) (stands_right l (columns_of (take (i + 1) ts)) (columns_of (drop (i + 1) ts)) s (subst (RunsFrom l s) (columns_parted ts (i + 1)) h))

  pub last_end : s + length (columns_of ts) ≡ next + length (columns_of (drop (i + 1) ts))
  last_end = omega (arith, e, ap length (columns_parted ts (i + 1)), length-append (columns_of (take (i + 1) ts)) (columns_of (drop (i + 1) ts)))

  pub forward_past : (x y : ℕ) → s ≤ x → x < next → next ≤ y → y < s + length (columns_of ts) → IsForward (forest (map outline_of ts)) (pair_at l x y)
  forward_past x y a b d f =
      subst (λ z. IsForward z (pair_at l x y)) (sym (parted ts (i + 1)))
      (forward_across (forest (map outline_of (take (i + 1) ts))) (forest (map outline_of (drop (i + 1) ts))) (get_or l x 0) (get_or l y 0)
      (stands_has l (columns_of (take (i + 1) ts)) s x first_stand a (omega (arith, b, e))) (stands_has l (columns_of (drop (i + 1) ts)) next y last_stand d (omega (arith, f, last_end))))

module _ (t : Numbering) (l : List ℕ) (ts : List Tree) (s i at end : ℕ) (child : Tree) (lt : i < length ts) (is : child ≡ get_or ts i child) (h : RunsFrom l s (columns_of ts)) (e : at ≡ s + length (columns_of (take i ts))) (end_is : end ≡ s + length (columns_of ts)) where
  -- the columns so far with those of one child more
  pub together_more : (gap done : Bool) → HasArities (outline_of child) → ((a : ℕ) → occurs l a ≤ 1) → InRows t (λ R. AlikeUpTo R l s end at) →
      InRows t (λ R. IsTrue gap ↔ (s < at → (j : ℕ) → j < length l → IsOutside s end j → R (pair_at l (at - 1) j) (pair_at l at j))) → gap ≡ true →
      InRows t (λ R. IsTrue done ↔ IsComplete R l (outline_of child)) → done ≡ true → InRows t (λ R. AlikeUpTo R l s end (at + length (leaves (outline_of child))))
  together_more gap done proper once alike g gt d dt = λ c rows tells.
      let some : 1 ≤ length (leaves (outline_of child)) = leaves_some (outline_of child) proper in
      alike_more (Evenly c rows) l s end at (at + length (leaves (outline_of child))) (evenly_sorts c rows) (omega (arith, e)) (omega (arith, some)) (omega (arith, end_is, next_within l ts s i at child lt is h e))
      (alike c rows tells) ((g c rows tells).0 gt) (closed_to (Evenly c rows) l (leaves (outline_of child)) at (child_stands l ts s i at child lt is h e) once (((d c rows tells).0 dt).0 (outline_of child) (node_itself (outline_of child))))

  pub rest_more : (done : Bool) → InRows t (λ R. AreComplete R l (forest (map outline_of (drop i ts))) → AreComplete R l (forest (map outline_of ts))) →
      InRows t (λ R. IsTrue done ↔ IsComplete R l (outline_of child)) → done ≡ true → InRows t (λ R. AreComplete R l (forest (map outline_of (drop (i + 1) ts))) → AreComplete R l (forest (map outline_of ts)))
  rest_more done rest d dt = λ c rows tells k.
      rest c rows tells (subst (AreComplete (Evenly c rows) l) (sym (rest_at ts i child lt is)) (and_complete (Evenly c rows) l (outline_of child) (forest (map outline_of (drop (i + 1) ts))) ((d c rows tells).0 dt) k))

  -- two neighbours aren't alike, or a child isn't complete
  pub apart_fails : (gap : Bool) → at < end → ((a : ℕ) → occurs l a ≤ 1) → InRows t (λ R. IsTrue gap ↔ (s < at → (j : ℕ) → j < length l → IsOutside s end j → R (pair_at l (at - 1) j) (pair_at l at j))) → gap ≡ false →
      InRows t (λ R. IsTrue false ↔ (AreComplete R l (forest (map outline_of ts)) × IsClosed R l (columns_of ts)))
  apart_fails gap inside once g gf = λ c rows tells. (
    λ x. absurd (both_ways false refl x),
    λ k. absurd (both_ways gap gf ((g c rows tells).1 (λ u j jl o.
        closed_to (Evenly c rows) l (columns_of ts) s h once k.1 (at - 1) at j (omega (arith, u)) (omega (arith, inside, end_is)) (omega (arith, u)) (omega (arith, inside, end_is)) jl (subst (λ n. IsOutside s n j) end_is o)))),
  )

  pub child_fails : (done : Bool) → InRows t (λ R. IsTrue done ↔ IsComplete R l (outline_of child)) → done ≡ false → InRows t (λ R. IsTrue false ↔ (AreComplete R l (forest (map outline_of ts)) × IsClosed R l (columns_of ts)))
  child_fails done d df = λ c rows tells. (
    λ x. absurd (both_ways false refl x),
    λ k. absurd (both_ways done df ((d c rows tells).1 (child_complete (Evenly c rows) l ts i child lt is k.0))),
  )

  -- the pairs that go forward so far with those from one child more
  pub forward_more : (b : Bool) → InRows t (λ R. ((v : Pair) → IsForward (forest (map outline_of (drop i ts))) v → R (pair_at l s (end - 1)) v) → (v : Pair) → IsForward (forest (map outline_of ts)) v → R (pair_at l s (end - 1)) v) →
      InRows t (λ R. IsTrue b ↔ ((x : ℕ) → at ≤ x → x < at + length (leaves (outline_of child)) → (y : ℕ) → at + length (leaves (outline_of child)) ≤ y → y < end → R (pair_at l s (end - 1)) (pair_at l x y))) → b ≡ true →
      InRows t (λ R. ((v : Pair) → IsForward (forest (map outline_of (drop (i + 1) ts))) v → R (pair_at l s (end - 1)) v) → (v : Pair) → IsForward (forest (map outline_of ts)) v → R (pair_at l s (end - 1)) v)
  forward_more b rest g gt = λ c rows tells k.
      let R = Evenly c rows in
      let ref = pair_at l s (end - 1) in
      let after = forest (map outline_of (drop (i + 1) ts)) in
      let behind : RunsFrom l (at + length (leaves (outline_of child))) (leaves_of after) = last_stand l ts s i (at + length (leaves (outline_of child))) h (next_at l ts s i at child lt is h e) in
      let ends : s + length (columns_of ts) ≡ at + length (leaves (outline_of child)) + length (leaves_of after) = last_end l ts s i (at + length (leaves (outline_of child))) h (next_at l ts s i at child lt is h e) in
      let stands = child_stands l ts s i at child lt is h e in
      let cross : (v : Pair) → IsTrue (has (leaves (outline_of child)) v.a) → IsTrue (has (leaves_of after) v.b) → R ref v =
      λ v ha hb.
      let x = has_stands l (leaves (outline_of child)) at v.a stands ha in
      let y = has_stands l (leaves_of after) (at + length (leaves (outline_of child))) v.b behind hb in
      subst (λ a. R ref (pair a v.b)) x.3 (subst (λ b. R ref (pair (get_or l x.0 0) b)) y.3 ((g c rows tells).0 gt x.0 x.1 x.2 y.0 y.1 (omega (arith, y.2, end_is, ends)))) in
      rest c rows tells (subst (λ f. (v : Pair) → IsForward f v → R ref v) (sym (rest_at ts i child lt is)) (λ v w. elim w [ inl p ↦ cross v p.0 p.1 | inr q ↦ k v q ]))

  pub forward_fails : (b : Bool) →
      InRows t (λ R. IsTrue b ↔ ((x : ℕ) → at ≤ x → x < at + length (leaves (outline_of child)) → (y : ℕ) → at + length (leaves (outline_of child)) ≤ y → y < end → R (pair_at l s (end - 1)) (pair_at l x y))) → b ≡ false →
      InRows t (λ R. IsTrue false ↔ IsInLine R (forest (map outline_of ts)))
  forward_fails b g gf = λ c rows tells. (
    λ x. absurd (both_ways false refl x),
    λ k. absurd (both_ways b gf ((g c rows tells).1 (λ x xa xb y ya yb.
        let past = forward_past l ts s i (at + length (leaves (outline_of child))) h (next_at l ts s i at child lt is h e) in
        k (pair_at l s (end - 1)) (pair_at l x y) (past s (end - 1) (omega arith) (omega (arith, xa, xb, e)) (omega (arith, ya, yb)) (omega (arith, yb, end_is)))
        (past x y (omega (arith, xa, e)) xb ya (omega (arith, yb, end_is)))))),
  )

-- all children
pub together_all : (t : Numbering) (l : List ℕ) (ts : List Tree) (s i at end : ℕ) → length ts ≤ i → RunsFrom l s (columns_of ts) → at ≡ s + length (columns_of (take i ts)) → end ≡ s + length (columns_of ts) →
    InRows t (λ R. AlikeUpTo R l s end at) → InRows t (λ R. AreComplete R l (forest (map outline_of (drop i ts))) → AreComplete R l (forest (map outline_of ts))) →
    InRows t (λ R. IsTrue true ↔ (AreComplete R l (forest (map outline_of ts)) × IsClosed R l (columns_of ts)))
together_all t l ts s i at end big h e end_is alike rest = λ c rows tells. (
  λ x.
      let R = Evenly c rows in
      let none : AreComplete R l (forest (map outline_of (drop i ts))) = subst (λ z. AreComplete R l (forest (map outline_of z))) (sym (drop_of_length-le ts big)) (none_complete R l) in
      let whole : AlikeUpTo R l s (s + length (columns_of ts)) (s + length (columns_of ts)) = subst (λ n. AlikeUpTo R l s n (s + length (columns_of ts))) end_is (subst (AlikeUpTo R l s end) (at_end ts i s at big e) (alike c rows tells)) in
      (rest c rows tells none, closed_from R l (columns_of ts) s h whole),
  λ x. refl,
)

pub forward_all : (t : Numbering) (l : List ℕ) (ts : List Tree) (i : ℕ) (v : Pair) → length ts ≤ i →
    InRows t (λ R. ((w : Pair) → IsForward (forest (map outline_of (drop i ts))) w → R v w) → (w : Pair) → IsForward (forest (map outline_of ts)) w → R v w) → InRows t (λ R. IsTrue true ↔ IsInLine R (forest (map outline_of ts)))
forward_all t l ts i v big rest = λ c rows tells. (
  λ x.
      let R = Evenly c rows in
      let none : (w : Pair) → IsForward (forest (map outline_of (drop i ts))) w → R v w = subst (λ z. (w : Pair) → IsForward (forest (map outline_of z)) w → R v w) (sym (drop_of_length-le ts big)) (λ w f. absurd f) in
      let all = rest c rows tells none in
      let sorts = evenly_sorts c rows in
      λ w z fw fz. sorts.join w v z (sorts.turn v w (all w fw)) (all z fz),
  λ x. refl,
)
