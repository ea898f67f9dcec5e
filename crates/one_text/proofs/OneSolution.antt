-- Two verdicts on an instance.
use Rattle.std.proofs.Common.{◌≡◌, ◌∙◌, inl, inr, ℕ, ◌+◌, ◌-◌, List, [], ◌∷◌, ◌++◌, get_or, Option, Some, None, refl, sym, ap, subst, arith}
use Rattle.std.specs.Prelude.{slice_get, IsSomeAnd, codes}
use Rattle.std.specs.Fmt.{decimal}
use Rattle.std.proofs.lemmas.List.{same_lists}
use Rattle.std.proofs.lemmas.Option.{slice_get-get_or, same_Some}
use Rattle.row_model.specs.Rows.{RowList}
use Rattle.row_model.specs.declared.graph.Line.{Line}
use Rattle.row_model.specs.declared.kind.Kind.{Kind}
use Rattle.row_model.specs.declared.kind.Kind.TheVariants.{Clones}
use Rattle.column_order.specs.Orders.{IsValidOrder}
use Rattle.clone_map.specs.Laws.{PlacesLaw, ContigsLaw}
use Rattle.proper_interval.specs.Laws.{OneListLaw}
use Rattle.tree_theory.specs.CanonicalLaws.{CanonicalTreeLaw}
use Rattle.text_parts.specs.Text.{counted_cycle}
use Rattle.verdict_text.specs.Text.{head_text, claim_text, cycle_text, verdict_text}
use Rattle.verdict_text.specs.Verdict.{SideValue, AddedValue, YesValue, Claim, yes_claim, no_claim, VerdictValue}
use Rattle.instance_model.specs.Instance.{InstanceValue, plain, circular, convex, doubly, proper, robinson, IsSideOf, derived_matrix, IsWellFormed}
use Rattle.instance_model.specs.Laws.{ValidLaw}
use Rattle.verdict_replies.specs.Verdicts.{ShowsAllOrders, ShowsSides, AddsNothing, AddsToOrder, IsClaimOf, status_of, IsVerdictReply, ShownOrderLaw}
use Rattle.one_text.specs.Laws.{HasLines}
use Rattle.one_text.specs.One.{TellsCycle, AreOneReply}
use Rattle.one_text.proofs.Lines.{behind, before, itself}
use Rattle.one_text.proofs.Same.{told_by_tree}

-- each instance has a side
pub first_side : (i : InstanceValue) → IsSideOf i 1
first_side i = grind arith

-- what stands at one place of two lists is the same where what holds there holds of one value alone
pub one_some : {A : Type 0} (P : A → Type 0) (o p : Option A) → ((a b : A) → P a → P b → a ≡ b) → IsSomeAnd o P → IsSomeAnd p P → o ≡ p
one_some P None p one here there = absurd here
one_some P (Some a) None one here there = absurd there
one_some P (Some a) (Some b) one here there = ap Some (one a b here there)

-- a no tells the lines of its cycle
pub no_tells : (v : VerdictValue) (s : ℕ) (lines : List Line) → v.claim ≡ no_claim s lines → TellsCycle (verdict_text v)
unfolding verdict_text
no_tells v s lines is =
    let cycle = counted_cycle lines in
    let in_cycle : HasLines (cycle_text s lines) cycle = behind (codes "side ") (decimal s ++ 10 ∷ cycle) cycle (behind (decimal s) (10 ∷ cycle) cycle (behind (10 ∷ []) cycle cycle (itself cycle))) in (
      lines,
      behind (head_text v.version v.kind v.columns) (claim_text v.kind v.claim ++ codes "end\n") cycle
          (before (claim_text v.kind v.claim) cycle (codes "end\n") (subst (λ c. HasLines (claim_text v.kind c) cycle) (sym is) (behind (codes "answer no\n") (cycle_text s lines) cycle in_cycle))),
    )

same_added : (a b : AddedValue) → a.intervals ≡ b.intervals → a.places ≡ b.places → a.contigs ≡ b.contigs → a ≡ b
same_added a b intervals places contigs =
    ap (λ x. record { intervals = x; places = a.places; contigs = a.contigs }) intervals ∙ ap (λ x. record { intervals = b.intervals; places = x; contigs = a.contigs }) places ∙
    ap (λ x. record { intervals = b.intervals; places = b.places; contigs = x }) contigs

nothing_added : (a b : AddedValue) → AddsNothing a → AddsNothing b → a ≡ b
nothing_added a b here there = same_added a b (here.0 ∙ sym there.0) (here.1 ∙ sym there.1) (here.2 ∙ sym there.2)

module _ (one_tree : CanonicalTreeLaw) where
  pub one_side : (m : RowList) (a b : SideValue) → ShowsAllOrders m a → ShowsAllOrders m b → a ≡ b
  one_side m a b here there =
      let same : a.tree ≡ b.tree = one_tree m.columns a.tree b.tree (here.proper, here.canonical) (there.proper, there.canonical)
      (λ o. (λ f. (there.orders o).1 ((here.orders o).0 f), λ f. (here.orders o).1 ((there.orders o).0 f))) in
      told_by_tree m a b.tree here same ∙ sym (told_by_tree m b b.tree there refl)

  one_sides : (i : InstanceValue) (xs ys : List SideValue) → ShowsSides i xs → ShowsSides i ys → xs ≡ ys
  one_sides i xs ys here there =
      same_lists xs ys (here.count ∙ sym there.count)
      (λ k d lt.
      let side : IsSideOf i (k + 1) = (omega arith, omega (arith, lt, here.count)) in
      let back : k + 1 - 1 ≡ k = omega arith in
      let same = one_some (ShowsAllOrders (derived_matrix i (k + 1))) (slice_get xs (k + 1 - 1)) (slice_get ys (k + 1 - 1)) (one_side (derived_matrix i (k + 1))) (here.each (k + 1) side) (there.each (k + 1) side) in
      let at : slice_get xs k ≡ slice_get ys k = ap (slice_get xs) (sym back) ∙ same ∙ ap (slice_get ys) back in
      same_Some (get_or xs k d) (get_or ys k d) (sym (slice_get-get_or xs k d lt) ∙ at ∙ slice_get-get_or ys k d (omega (arith, lt, here.count, there.count))))

  module _ (places : PlacesLaw) (contigs : ContigsLaw) (intervals : OneListLaw) (valid : ValidLaw) (shown : ShownOrderLaw) where
    added_to_matrix : (kind : Kind) (m : RowList) (order : List ℕ) (a b : AddedValue) → AddsToOrder (plain kind m) order a → AddsToOrder (plain kind m) order b → a ≡ b
    added_to_matrix Clones m order a b here there =
        same_added a b (here.0 ∙ sym there.0) (places m.rows order a.places b.places here.1 there.1) (contigs m.rows order a.contigs b.contigs here.2 there.2)
    added_to_matrix kind m order a b here there = nothing_added a b here there

    added_to_order : (i : InstanceValue) (order : List ℕ) (a b : AddedValue) → IsWellFormed i → IsValidOrder (derived_matrix i 1).columns (derived_matrix i 1).rows order → AddsToOrder i order a → AddsToOrder i order b → a ≡ b
    added_to_order (plain kind m) order a b formed is here there = added_to_matrix kind m order a b here there
    added_to_order (circular m) order a b formed is here there = nothing_added a b here there
    added_to_order (convex g) order a b formed is here there = nothing_added a b here there
    added_to_order (doubly g) order a b formed is here there = nothing_added a b here there
    added_to_order (proper g) order a b formed is here there =
        let one = intervals g order formed (valid (proper g) 1 order formed (omega arith, omega arith) is) in
        same_added a b (one.1.1 a.intervals here.0 ∙ sym (one.1.1 b.intervals there.0)) (here.1 ∙ sym there.1) (here.2 ∙ sym there.2)
    added_to_order (robinson d) order a b formed is here there = nothing_added a b here there

    added_at : (i : InstanceValue) (o : Option SideValue) (a b : AddedValue) → IsWellFormed i → IsSomeAnd o (ShowsAllOrders (derived_matrix i 1)) → IsSomeAnd o (λ side. AddsToOrder i side.order a)
        → IsSomeAnd o (λ side. AddsToOrder i side.order b) → a ≡ b
    added_at i None a b formed shows here there = absurd shows
    added_at i (Some side) a b formed shows here there = added_to_order i side.order a b formed (shown (derived_matrix i 1) side shows) here there

    pub one_yes : (i : InstanceValue) (v w : YesValue) → IsWellFormed i → IsSideOf i 1 → IsClaimOf i (yes_claim v) → IsClaimOf i (yes_claim w) → v ≡ w
    one_yes i v w formed side here there =
        let sides = one_sides i v.sides w.sides here.0 there.0 in
        let added = added_at i (slice_get v.sides 0) v.added w.added formed (here.0.each 1 side) here.1 (subst (λ xs. IsSomeAnd (slice_get xs 0) (λ (x : SideValue). AddsToOrder i x.order w.added)) (sym sides) there.1) in
        ap (λ xs. record { sides = xs; added = v.added }) sides ∙ ap (λ x. record { sides = w.sides; added = x }) added

    -- a yes and a no of one instance can't both be true
    pub apart : (i : InstanceValue) (v : YesValue) (s : ℕ) (lines : List Line) → IsClaimOf i (yes_claim v) → IsClaimOf i (no_claim s lines) → ⊥
    apart i v s lines here there = go (slice_get v.sides (s - 1)) (here.0.each s there.0.side)
      where
        go : (o : Option SideValue) → IsSomeAnd o (ShowsAllOrders (derived_matrix i s)) → ⊥
        go None shows = shows
        go (Some side) shows = there.0.none (side.order, shown (derived_matrix i s) side shows)

    pub one_verdict_reply : (i : InstanceValue) (status other : ℕ) (text others : List ℕ) → IsWellFormed i → IsSideOf i 1 → IsVerdictReply i status text → IsVerdictReply i other others → AreOneReply status text other others
    one_verdict_reply i status other text others formed side here there = go here.verdict.claim there.verdict.claim refl refl here.holds.claim there.holds.claim
      where
        go : (c d : Claim) → here.verdict.claim ≡ c → there.verdict.claim ≡ d → IsClaimOf i c → IsClaimOf i d → AreOneReply status text other others
        go (yes_claim v) (yes_claim w) is is_too one two =
            let v_is = here.verdict in
            let w_is = there.verdict in
            let claim : v_is.claim ≡ w_is.claim = is ∙ ap yes_claim (one_yes i v w formed side one two) ∙ sym is_too in
            let same : v_is ≡ w_is =
            ap (λ x. record { version = x; kind = v_is.kind; columns = v_is.columns; claim = v_is.claim }) (here.holds.version ∙ sym there.holds.version) ∙
            ap (λ x. record { version = w_is.version; kind = x; columns = v_is.columns; claim = v_is.claim }) (here.holds.kind ∙ sym there.holds.kind) ∙
            ap (λ x. record { version = w_is.version; kind = w_is.kind; columns = x; claim = v_is.claim }) (here.holds.columns ∙ sym there.holds.columns) ∙
            ap (λ x. record { version = w_is.version; kind = w_is.kind; columns = w_is.columns; claim = x }) claim in
            (here.status_is ∙ ap status_of claim ∙ sym there.status_is, inl (here.text_is ∙ ap verdict_text same ∙ sym there.text_is))
        go (yes_claim v) (no_claim s lines) is is_too one two = absurd (apart i v s lines one two)
        go (no_claim s lines) (yes_claim v) is is_too one two = absurd (apart i v s lines two one)
        go (no_claim s lines) (no_claim t cycle) is is_too one two = (
          here.status_is ∙ ap status_of is ∙ sym (there.status_is ∙ ap status_of is_too),
          inr (subst TellsCycle (sym here.text_is) (no_tells here.verdict s lines is), subst TellsCycle (sym there.text_is) (no_tells there.verdict t cycle is_too)),
        )
