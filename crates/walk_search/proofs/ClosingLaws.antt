-- Ways through a search tree, as they grow.
use Rattle.std.proofs.Common.{◌≡◌, ◌∙◌, ℕ, ◌+◌, ◌%◌, ◌<◌, Bool, true, false, not, List, [], ◌∷◌, ◌++◌, length, slice_get, Some, refl, sym, ap, subst, inl, inr, arith}
use Rattle.std.proofs.lemmas.List.{length-append}
use Rattle.std.proofs.lemmas.Option.{same_Some}
use Rattle.row_model.specs.declared.graph.Line.{Line}
use Rattle.row_model.specs.Graph.{JoinedBy}
use Rattle.row_model.specs.Cycles.{first_pair, LeadTo, IsOddWalk}
use Rattle.row_model.proofs.CycleLaws.{joined_by_sym, first_pushed, first-append, lead_push, lead-append, closed_from}
use Rattle.walk_search.specs.declared.forest.Node.{Node}
use Rattle.walk_search.specs.declared.forest.Conflict.{Conflict}
use Rattle.walk_search.specs.declared.forest.Forest.{Forest}
use Rattle.walk_search.specs.Search.{IsTree, AreConflictEnds, ShowsConflict}
use Rattle.walk_search.specs.Closing.{IsParity, IsWay}

twice : (x : Bool) → not (not x) ≡ x
twice true = refl
twice false = refl

-- one step more
parity_step : (n k : ℕ) (a b d : Bool) → k ≡ n + 1 → IsParity n a b → b ≡ not d → IsParity k a d
parity_step n k a b d s (inl e) f = inr (omega (arith, s, e.0), e.1 ∙ f)
parity_step n k a b d s (inr e) f = inl (omega (arith, s, e.0), e.1 ∙ ap not f ∙ twice d)

-- the two may be exchanged
parity_turned : (n : ℕ) (a b : Bool) → IsParity n a b → IsParity n b a
parity_turned n a b (inl e) = inl (e.0, sym e.1)
parity_turned n a b (inr e) = inr (e.0, sym (twice b) ∙ ap not (sym e.1))

never_not : (x y : Bool) → x ≡ y → x ≡ not y → ⊥
never_not true true e f = absurd (cc)
never_not true false e f = absurd (cc)
never_not false true e f = absurd (cc)
never_not false false e f = absurd (cc)

-- a way down and a way back up whose far ends are alike are both even or both odd
parity_sum : (n k : ℕ) (a b d : Bool) → IsParity n d a → IsParity k b d → a ≡ b → (n + 1 + k) % 2 ≡ 1
parity_sum n k a b d (inl e) (inl f) s = omega (arith, e.0, f.0)
parity_sum n k a b d (inl e) (inr f) s = absurd (never_not b d (sym (e.1 ∙ s)) f.1)
parity_sum n k a b d (inr e) (inl f) s = absurd (never_not d a (sym (s ∙ f.1)) e.1)
parity_sum n k a b d (inr e) (inr f) s = omega (arith, e.0, f.0)

-- no line leads from a node to itself
pub way_none : (forest : Forest) (at : ℕ) (node : Node) → slice_get forest.nodes.items at ≡ Some node → IsWay forest at at []
way_none forest at node e = record { start = node; last = node; start_there = e; last_there = e; parity = inl (refl, refl); leads = λ c rows j. (tt, refl) }

-- a node above the root of the last tree, and its parent
module _ (forest : Forest) (at : ℕ) (node parent : Node) (tree : IsTree forest.root forest.nodes.items) (l : forest.root < at) (e : slice_get forest.nodes.items at ≡ Some node)
    (f : slice_get forest.nodes.items node.parent ≡ Some parent) where
  -- a way that ends at the node, and the line up to the parent
  pub way_on : (from : ℕ) (lines : List Line) → IsWay forest from at lines → IsWay forest from node.parent (lines ++ record { pair = node.pair; why = node.why } ∷ [])
  way_on from lines x =
      let line : Line = record { pair = node.pair; why = node.why } in
      let same : x.last ≡ node = same_Some x.last node (sym x.last_there ∙ e) in
      record {
        start = x.start;
        last = parent;
        start_there = x.start_there;
        last_there = f;
        parity = parity_step (length lines) (length (lines ++ line ∷ [])) x.start.odd x.last.odd parent.odd (length-append lines (line ∷ [])) x.parity (ap (λ (n : Node). n.odd) same ∙ tree.parities at node parent e l f);
        leads = λ c rows j.
            let was = subst (λ (n : Node). LeadTo c rows lines n.pair × (first_pair lines n.pair ≡ x.start.pair)) same (x.leads c rows j) in
            (lead_push c rows lines line parent.pair was.0 (j at node parent e l f), first_pushed lines line parent.pair ∙ was.1);
      }

  -- the line down from the parent, and a way that starts at the node
  pub way_before : (to : ℕ) (lines : List Line) → IsWay forest at to lines → IsWay forest node.parent to (record { pair = parent.pair; why = node.why } ∷ lines)
  way_before to lines x =
      let line : Line = record { pair = parent.pair; why = node.why } in
      let same : x.start ≡ node = same_Some x.start node (sym x.start_there ∙ e) in
      record {
        start = parent;
        last = x.last;
        start_there = f;
        last_there = x.last_there;
        parity = parity_turned (length (line ∷ lines)) x.last.odd parent.odd
            (parity_step (length lines) (length (line ∷ lines)) x.last.odd x.start.odd parent.odd (omega arith) (parity_turned (length lines) x.start.odd x.last.odd x.parity) (ap (λ (n : Node). n.odd) same ∙ tree.parities at node parent e l f));
        leads = λ c rows j.
            let was = x.leads c rows j in
            let first : first_pair lines x.last.pair ≡ node.pair = was.1 ∙ ap (λ (n : Node). n.pair) same in
            let up = joined_by_sym c rows node.pair parent.pair node.why (j at node parent e l f) in (
              (subst (λ v. JoinedBy c rows parent.pair v node.why) (sym first) up, was.0),
              refl,
            );
      }

-- the lines were added that lead from a node to another
pub record IsAddedWay (forest : Forest) (from to : ℕ) (old new : List Line) : Type 0 where
  pub way : List Line
  pub appended : new ≡ old ++ way
  pub leads : IsWay forest from to way

module _ (forest : Forest) (conflict : Conflict) (down up lines : List Line) (line : Line) (d : IsWay forest forest.root conflict.from down) (u : IsWay forest conflict.to forest.root up) (e : lines ≡ (down ++ line ∷ []) ++ up) where
  -- down, over and up are odd together
  pub closing_odd : AreConflictEnds forest conflict → length lines % 2 ≡ 1
  closing_odd ends =
      let root : d.start ≡ u.last = same_Some d.start u.last (sym d.start_there ∙ u.last_there) in
      let from : d.last ≡ ends.from = same_Some d.last ends.from (sym d.last_there ∙ ends.from_there) in
      let to : u.start ≡ ends.to = same_Some u.start ends.to (sym u.start_there ∙ ends.to_there) in
      let alike : d.last.odd ≡ u.start.odd = ap (λ (n : Node). n.odd) from ∙ ends.alike ∙ ap (λ (n : Node). n.odd) (sym to) in
      let sum : (length down + 1 + length up) % 2 ≡ 1 = parity_sum (length down) (length up) d.last.odd u.start.odd d.start.odd d.parity (subst (λ (n : Node). IsParity (length up) u.start.odd n.odd) (sym root) u.parity) alike in
      omega (arith, sum, ap length e, length-append (down ++ line ∷ []) up, length-append down (line ∷ []))

  -- and lead back to the root
  pub closing_walk : (c : ℕ) (rows : List (List ℕ)) (s : ShowsConflict c rows forest conflict) → line ≡ record { pair = d.last.pair; why = conflict.why } → length lines % 2 ≡ 1 → IsOddWalk c rows lines
  closing_walk c rows s is odd =
      let x = s.is_conflict.ends in
      let root : u.last ≡ d.start = same_Some u.last d.start (sym u.last_there ∙ d.start_there) in
      let from : x.from ≡ d.last = same_Some x.from d.last (sym x.from_there ∙ d.last_there) in
      let to : x.to ≡ u.start = same_Some x.to u.start (sym x.to_there ∙ u.start_there) in
      let over : JoinedBy c rows d.last.pair u.start.pair conflict.why = subst (λ (n : Node). JoinedBy c rows d.last.pair n.pair conflict.why) to (subst (λ (n : Node). JoinedBy c rows n.pair x.to.pair conflict.why) from s.is_conflict.joined) in
      let above = d.leads c rows s.is_forest.joined in
      let below = subst (λ (n : Node). LeadTo c rows up n.pair × (first_pair up n.pair ≡ u.start.pair)) root (u.leads c rows s.is_forest.joined) in
      let here : line.pair ≡ d.last.pair = ap (λ (l : Line). l.pair) is in
      let middle : JoinedBy c rows line.pair (first_pair up d.start.pair) line.why = subst (λ (l : Line). JoinedBy c rows l.pair (first_pair up d.start.pair) l.why) (sym is) (subst (λ v. JoinedBy c rows d.last.pair v conflict.why) (sym below.1) over) in
      let front : LeadTo c rows (down ++ line ∷ []) (first_pair up d.start.pair) = lead_push c rows down line (first_pair up d.start.pair) (subst (LeadTo c rows down) (sym here) above.0) middle in
      let all : LeadTo c rows lines d.start.pair = subst (λ ls. LeadTo c rows ls d.start.pair) (sym e) (lead-append c rows (down ++ line ∷ []) up d.start.pair front below.0) in
      let first : first_pair lines d.start.pair ≡ d.start.pair = ap (λ ls. first_pair ls d.start.pair) e ∙ first-append (down ++ line ∷ []) up d.start.pair ∙ first_pushed down line (first_pair up d.start.pair) ∙ ap (first_pair down) here ∙ above.1 in
      record { closed = closed_from c rows lines d.start.pair all first; odd = odd }
