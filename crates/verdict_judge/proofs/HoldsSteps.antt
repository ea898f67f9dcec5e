-- What a row has of the children of a node, one child more at a time.
use Rattle.std.proofs.Common.{◌≡◌, ◌∙◌, ℕ, ◌+◌, ◌≤◌, Bool, true, false, not, ◌||◌, ◌&&◌, leb, ltb, List, map, drop, length, IsTrue, refl, sym, ap, subst, inl, inr, arith}
use Rattle.std.proofs.lemmas.Bool.{cases_Bool, or_left, lt-ltb}
use Rattle.std.proofs.Math.Bool.{or-false, or_assoc}
use Rattle.std.proofs.Math.ListN.{drop_of_length-le}
use Rattle.std.specs.declared.vec.Vec.{Vec}
use Rattle.std.specs.declared.alloc.Global.{Global}
use Rattle.column_order.specs.Orders.{has}
use Rattle.pq_tree.specs.Outline.{Outline, Forest, leaf, p_node, q_node, no_tree, tree_and, leaves, leaves_of}
use Rattle.pq_tree.specs.Proper.{outline_of, forest}
use Rattle.pq_tree.specs.declared.Tree.{Tree, P, Q}
use Rattle.pq_tree.proofs.Shown.{outline_p, outline_q}
use Rattle.pq_tree.specs.Nodes.{meets}
use Rattle.verdict_judge.specs.HoldsWalk.{misses, meeting, are_split, IsShare, IsSum, gapped_behind}
use Rattle.verdict_judge.specs.declared.holds.Children.{Children}
use Rattle.verdict_judge.specs.declared.holds.LineSoFar.{LineSoFar}
use Rattle.verdict_judge.specs.declared.holds.LineSoFar.TheVariants.{Before, Ended}
use Rattle.verdict_judge.specs.declared.holds.Share.{Share}
use Rattle.verdict_judge.proofs.HoldsLists.{meets-append, misses-append}
use Rattle.verdict_judge.proofs.HoldsSplit.{split_leaf, split_p, split_q, split_and, split_none, meeting_head, meeting_tail}

ended : (row : List ℕ) (line : LineSoFar) (t : Outline) (ts : Forest) → line ≡ Ended → gapped_behind row line (tree_and t ts) ≡ (meets row (leaves t) || meets row (leaves_of ts))
ended row line t ts e = ap (λ l. gapped_behind row l (tree_and t ts)) e ∙ meets-append row (leaves t) (leaves_of ts)

pub ended_still : (row : List ℕ) (line : LineSoFar) (t : Outline) (ts : Forest) (s : Share) → line ≡ Ended → s.meets ≡ false → IsShare row t s → gapped_behind row line (tree_and t ts) ≡ meets row (leaves_of ts)
ended_still row line t ts s e m h = ended row line t ts e ∙ ap (λ b. b || meets row (leaves_of ts)) (sym h.meets_is ∙ m)

pub ended_again : (row : List ℕ) (line : LineSoFar) (t : Outline) (ts : Forest) (s : Share) → line ≡ Ended → s.meets ≡ true → IsShare row t s → IsTrue (gapped_behind row line (tree_and t ts))
ended_again row line t ts s e m h = ended row line t ts e ∙ or_left (meets row (leaves t)) (meets row (leaves_of ts)) (sym h.meets_is ∙ m)

pub sum_more : (row : List ℕ) (all rest : Forest) (t : Outline) (c : Children) (s : Share) (n : ℕ) (line : LineSoFar) → (s.meets ≡ true → n ≡ 1) → (s.meets ≡ false → n ≡ 0) →
    gapped_behind row c.line (tree_and t rest) ≡ gapped_behind row line rest → IsShare row t s → IsSum row all (tree_and t rest) c →
    IsSum row all rest (record { meeting = c.meeting + n; misses = c.misses || s.misses; split = c.split || s.split; line = line })
sum_more row all rest t c s n line one none gap h k =
    let more : meeting row (tree_and t rest) ≡ n + meeting row rest =
    elim (cases_Bool s.meets) [
      | inl e ↦ omega (arith, one e, meeting_head row t rest (sym h.meets_is ∙ e))
      | inr e ↦ omega (arith, none e, meeting_tail row t rest (sym h.meets_is ∙ e))
    ] in
    record {
      meeting_is = omega (arith, k.meeting_is, more);
      misses_is =
          k.misses_is ∙ ap (λ b. c.misses || b) (misses-append row (leaves t) (leaves_of rest) ∙ ap (λ b. b || misses row (leaves_of rest)) (sym h.misses_is)) ∙
          sym (or_assoc c.misses s.misses (misses row (leaves_of rest)));
      split_is =
          k.split_is ∙ ap (λ b. c.split || b) (split_and row t rest ∙ ap (λ b. b || are_split row rest) (sym h.split_is)) ∙
          sym (or_assoc c.split s.split (are_split row rest));
      gapped_is = k.gapped_is ∙ gap;
    }

meets_count : (row : List ℕ) (ts : Forest) → ltb 0 (meeting row ts) ≡ meets row (leaves_of ts)
meets_count row no_tree = refl
meets_count row (tree_and t ts) =
    elim (cases_Bool (meets row (leaves t))) [
      | inl k ↦
          lt-ltb 0 (meeting row (tree_and t ts)) (omega (arith, meeting_head row t ts k)) ∙
          sym (meets-append row (leaves t) (leaves_of ts) ∙ or_left (meets row (leaves t)) (meets row (leaves_of ts)) k)
      | inr k ↦
          ap (ltb 0) (meeting_tail row t ts k) ∙ meets_count row ts ∙
          sym (meets-append row (leaves t) (leaves_of ts) ∙ ap (λ b. b || meets row (leaves_of ts)) k)
    ]

module _ (row : List ℕ) (ts : Forest) (c : Children) (h : IsSum row ts no_tree c) where
  count_is : c.meeting ≡ meeting row ts
  count_is = omega (arith, h.meeting_is)

  meets_is : ltb 0 c.meeting ≡ meets row (leaves_of ts)
  meets_is = ap (ltb 0) count_is ∙ meets_count row ts

  misses_is : c.misses ≡ misses row (leaves_of ts)
  misses_is = sym (h.misses_is ∙ or-false c.misses)

  splits_are : c.split ≡ are_split row ts
  splits_are = sym (h.split_is ∙ ap (λ b. c.split || b) (split_none row) ∙ or-false c.split)

  pub share_p : IsShare row (p_node ts) (record { meets = ltb 0 c.meeting; misses = c.misses; split = c.split || (ltb 1 c.meeting && c.misses) })
  share_p =
      record {
        meets_is = meets_is;
        misses_is = misses_is;
        split_is =
            ap (λ b. b || (ltb 1 c.meeting && c.misses)) splits_are ∙
            ap (λ b. are_split row ts || (b && c.misses)) (ap (ltb 1) count_is) ∙
            ap (λ b. are_split row ts || (leb 2 (meeting row ts) && b)) misses_is ∙
            sym (split_p row ts);
      }

  pub share_q : (gap : Bool) → gap ≡ gapped_behind row c.line no_tree → IsShare row (q_node ts) (record { meets = ltb 0 c.meeting; misses = c.misses; split = c.split || gap })
  share_q gap e =
      record {
        meets_is = meets_is;
        misses_is = misses_is;
        split_is =
            ap (λ b. b || gap) splits_are ∙ ap (λ b. are_split row ts || b) (e ∙ sym h.gapped_is) ∙ sym (split_q row ts);
      }

pub share_leaf : (row : List ℕ) (a : ℕ) (found : Bool) → found ≡ has row a → IsShare row (leaf a) (record { meets = found; misses = not found; split = false })
share_leaf row a found e =
    record {
      meets_is = e ∙ sym (or-false (has row a));
      misses_is = ap not e ∙ sym (or-false (not (has row a)));
      split_is = sym (split_leaf row a);
    }

pub share_over_P : (row : List ℕ) (t : Tree) (v : Vec Tree Global) (ts : List Tree) (s : Share) → t ≡ P v → ts ≡ v.items → IsShare row (p_node (forest (map outline_of ts))) s → IsShare row (outline_of t) s
share_over_P row t v ts s e i h = subst (λ x. IsShare row x s) (sym (outline_p t v ts e i)) h

pub share_over_Q : (row : List ℕ) (t : Tree) (v : Vec Tree Global) (ts : List Tree) (s : Share) → t ≡ Q v → ts ≡ v.items → IsShare row (q_node (forest (map outline_of ts))) s → IsShare row (outline_of t) s
share_over_Q row t v ts s e i h = subst (λ x. IsShare row x s) (sym (outline_q t v ts e i)) h

-- before the first child, at a child, and behind the last
pub sum_start : (row : List ℕ) (ts : Forest) → IsSum row ts ts (record { meeting = 0; misses = false; split = false; line = Before })
sum_start row ts = record { meeting_is = omega arith; misses_is = refl; split_is = refl; gapped_is = refl }

pub sum_end : (row : List ℕ) (all : Forest) (ts : List Tree) (i : ℕ) (c : Children) → length ts ≤ i → IsSum row all (forest (map outline_of (drop i ts))) c → IsSum row all no_tree c
sum_end row all ts i c l h = subst (λ x. IsSum row all (forest (map outline_of x)) c) (drop_of_length-le ts l) h
