-- A child at an end of a Q-node gives its place to its children.
use Rattle.std.proofs.Common.{◌≡◌, ◌⊎◌, inl, inr, ℕ, zero, suc, ◌+◌, ◌≤◌, true, false, cond, eqb, List, [], ◌++◌, reverse, length, Some, None, refl, sym, ap, subst, ◌∙◌, arith}
use Rattle.std.proofs.lemmas.List.{append-nil}
use Rattle.column_order.specs.Orders.{occurs}
use Rattle.column_order.proofs.Lists.{occurs-append}
use Rattle.arena_model.specs.declared.Shape.TheVariants.{Q}
use Rattle.arena_model.specs.ChildLists.{head_or, last_or, none, oriented, put_on}
use Rattle.arena_model.specs.Layout.{Layout, shape_at, children_at, IsLayout, IsSpliceAt, spliced}
use Rattle.pq_arena.specs.Looks.{node_named, IsBeside}
use Rattle.bubble_pass.specs.Marks.{Marks}
use Rattle.templates_p.specs.Lines.{put_in}
use Rattle.templates_p.specs.Merging.{laid_on, CanMerge}
use Rattle.templates_p.proofs.Absorbing.{IsPutIn, is_put_in}
use Rattle.templates_p.proofs.Merging.{IsMergedIn, is_merged_in, child_other}
use Rattle.templates_p.proofs.Framing.{reverse_occurs}

pub end_cases : (end : ℕ) → end ≤ 1 → (end ≡ 0) ⊎ (end ≡ 1)
end_cases zero l = inl refl
end_cases (suc zero) l = inr refl
end_cases (suc (suc e)) l = absurd (omega arith)

pub oriented_occurs : (first : ℕ) (ks : List ℕ) (k : ℕ) → occurs (oriented first ks) k ≡ occurs ks k
oriented_occurs first ks k = elim (eqb first 0) as (λ b. occurs (cond b ks (reverse ks)) k ≡ occurs ks k) [
  | true ↦ refl
  | false ↦ reverse_occurs ks k
]

pub laid_occurs : (end : ℕ) (ms ks : List ℕ) (k : ℕ) → occurs (laid_on end ms ks) k ≡ occurs ks k + occurs ms k
laid_occurs end ms ks k = elim (eqb end 0) as (λ b. occurs (cond b (ms ++ ks) (ks ++ reverse ms)) k ≡ occurs ks k + occurs ms k) [
  | true ↦ omega (arith, occurs-append ms ks k)
  | false ↦ omega (arith, occurs-append ks (reverse ms) k, reverse_occurs ms k)
]

-- c is a child at this end of the Q-node h, which has the children ks besides
pub record IsAtEnd (f : Layout) (h c end : ℕ) (ks : List ℕ) : Type 0 where
  pub small : end ≤ 1
  pub is_q : shape_at f h ≡ Some Q
  pub child_q : shape_at f c ≡ Some Q
  pub children : children_at f h ≡ put_on end c ks
  pub two : 2 ≤ length (children_at f c)
  pub some : 1 ≤ length ks

splice_first : (f : Layout) (h c end : ℕ) (ks : List ℕ) → IsAtEnd f h c end ks → end ≡ 0 → IsSpliceAt f h c [] ks
splice_first f h c end ks a e = record {
  q_shape = a.is_q;
  child_shape = a.child_q;
  at = a.children ∙ ap (λ z. put_on z c ks) e;
  some = a.two;
}

splice_last : (f : Layout) (h c end : ℕ) (ks : List ℕ) → IsAtEnd f h c end ks → end ≡ 1 → IsSpliceAt f h c ks []
splice_last f h c end ks a e = record {
  q_shape = a.is_q;
  child_shape = a.child_q;
  at = a.children ∙ ap (λ z. put_on z c ks) e;
  some = a.two;
}

-- towards that end it has no neighbour
pub end_place : (f : Layout) (h c end : ℕ) (ks : List ℕ) → IsAtEnd f h c end ks → (q : ℕ) × (us : List ℕ) × (vs : List ℕ) × IsSpliceAt f q c us vs × IsBeside None us vs
end_place f h c end ks a = elim (end_cases end a.small) [
  | inl e ↦ (h, [], ks, splice_first f h c end ks a e, inl refl)
  | inr e ↦ (h, ks, [], splice_last f h c end ks a e, inr refl)
]

-- what the splice makes there
pub end_spliced : (f g : Layout) (h c end first : ℕ) (ks : List ℕ) → IsAtEnd f h c end ks →
    ((q : ℕ) (us vs : List ℕ) → IsSpliceAt f q c us vs → None ≡ node_named (last_or us none) → g ≡ spliced f q c (us ++ (oriented first (children_at f c) ++ vs))) →
    ((q : ℕ) (us vs : List ℕ) → IsSpliceAt f q c us vs → None ≡ node_named (head_or vs none) → 1 ≤ length us + length vs → g ≡ spliced f q c (us ++ (reverse (oriented first (children_at f c)) ++ vs))) →
    g ≡ spliced f h c (laid_on end (oriented first (children_at f c)) ks)
end_spliced f g h c end first ks a before behind =
    let ms : List ℕ = oriented first (children_at f c) in
    elim (end_cases end a.small) [
      | inl e ↦ before h [] ks (splice_first f h c end ks a e) refl ∙ ap (λ z. spliced f h c (laid_on z ms ks)) (sym e)
      | inr e ↦ behind h ks [] (splice_last f h c end ks a e) refl (let s : 1 ≤ length ks = a.some in omega arith)
          ∙ ap (λ z. spliced f h c (ks ++ z)) (append-nil (reverse ms)) ∙ ap (λ z. spliced f h c (laid_on z ms ks)) (sym e)
    ]

module _ (f : Layout) (w : Marks) (n h c end : ℕ) (lay : IsLayout f) (can : CanMerge f w n h c) (small : end ≤ 1) where
  in_place : IsPutIn f (put_in f n h end c) n h c end
  in_place = is_put_in f n h c end lay can.absorb.put

  same_kids : children_at (put_in f n h end c) c ≡ children_at f c
  same_kids = in_place.others c (child_other f n c lay can.absorb.put.child) (λ e. can.absorb.put.apart (sym e))

  -- once c was put there, it may be spliced
  pub at_end : IsAtEnd (put_in f n h end c) h c end (children_at f h)
  at_end = record {
    small = small;
    is_q = in_place.shapes h ∙ can.absorb.put.is_q;
    child_q = in_place.shapes c ∙ can.is_q;
    children = in_place.line;
    two = subst (λ z. 2 ≤ length z) (sym same_kids) (can.absorb.two c (inr can.is_q));
    some = let t : 2 ≤ length (children_at f h) = can.absorb.two h (inr can.absorb.put.is_q) in omega arith;
  }

  pub merged_in : (i g : Layout) (first : ℕ) → i ≡ put_in f n h end c →
      ((q : ℕ) (us vs : List ℕ) → IsSpliceAt i q c us vs → None ≡ node_named (last_or us none) → g ≡ spliced i q c (us ++ (oriented first (children_at i c) ++ vs))) →
      ((q : ℕ) (us vs : List ℕ) → IsSpliceAt i q c us vs → None ≡ node_named (head_or vs none) → 1 ≤ length us + length vs → g ≡ spliced i q c (us ++ (reverse (oriented first (children_at i c)) ++ vs))) →
      IsMergedIn f g n h c (laid_on end (oriented first (children_at f c)) (children_at f h))
  merged_in i g first e before behind =
      let at : IsAtEnd i h c end (children_at f h) = subst (λ z. IsAtEnd z h c end (children_at f h)) (sym e) at_end in
      let js : List ℕ = laid_on end (oriented first (children_at f c)) (children_at f h) in
      let q : g ≡ spliced (put_in f n h end c) h c js = end_spliced i g h c end first (children_at f h) at before behind
      ∙ ap (λ z. spliced z h c (laid_on end (oriented first (children_at z c)) (children_at f h))) e
      ∙ ap (λ z. spliced (put_in f n h end c) h c (laid_on end (oriented first z) (children_at f h))) same_kids in
      subst (λ z. IsMergedIn f z n h c js) (sym q) (is_merged_in f n h c end js lay can.absorb.put can.is_q)

pub merged_occurs : (f : Layout) (h c end first : ℕ) (k : ℕ) → occurs (laid_on end (oriented first (children_at f c)) (children_at f h)) k ≡ occurs (children_at f h) k + occurs (children_at f c) k
merged_occurs f h c end first k = omega (arith, laid_occurs end (oriented first (children_at f c)) (children_at f h) k, oriented_occurs first (children_at f c) k)
