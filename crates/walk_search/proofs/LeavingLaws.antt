-- What is reached from a node besides the further rows: its pair with the columns exchanged, and the pairs across gaps.
use Rattle.std.proofs.Common.{◌≡◌, ◌∙◌, ℕ, ◌+◌, ◌<◌, not, List, length, slice_get, slice_index, Option, Some, None, IfSome, MatchOption, refl, sym, subst}
use Rattle.std.proofs.lemmas.Option.{none-some, same_Some}
use Rattle.row_model.specs.declared.graph.Pair.{Pair}
use Rattle.row_model.specs.declared.graph.Line.{Line}
use Rattle.row_model.specs.declared.graph.Why.{Why}
use Rattle.row_model.specs.declared.graph.Why.TheVariants.{Flip}
use Rattle.row_model.specs.Graph.{pair, turned, IsPair, JoinedBy}
use Rattle.row_model.proofs.Walks.{is_pair_turned}
use Rattle.column_order.specs.Orders.{place}
use Rattle.open_gaps.specs.Gaps.{Opens}
use Rattle.open_gaps.specs.Tables.{GapTable}
use Rattle.walk_search.specs.declared.forest.Node.{Node}
use Rattle.walk_search.specs.declared.forest.Conflict.{Conflict}
use Rattle.walk_search.specs.declared.forest.Forest.{Forest}
use Rattle.walk_search.specs.Search.{IsReached, IsForest, IsJoinedFrom, HasGrown, HasStepped, IsAcross, HasCrossed, HasLeft, ShowsConflict}
use Rattle.walk_search.proofs.ForestLaws.{grown_there, grown_reached, grown_refl, grown_trans}
use Rattle.walk_search.proofs.SearchLaws.{node_pair}

-- no line leads nowhere, and a line to its pair
pub to_none : (c : ℕ) (rows : List (List ℕ)) (f : Forest) (from : ℕ) (o : Option Line) → o ≡ None → IsForest c rows f → HasGrown c rows f f × IfSome o (λ l. HasStepped c rows f f from l.pair)
to_none c rows f from o e h = (grown_refl c rows f h, subst (λ x. IfSome x (λ l. HasStepped c rows f f from l.pair)) (sym e) tt)

pub to_some : (c : ℕ) (rows : List (List ℕ)) (f g : Forest) (from : ℕ) (o : Option Line) (line : Line) → o ≡ Some line → HasStepped c rows f g from line.pair → HasGrown c rows f g × IfSome o (λ l. HasStepped c rows f g from l.pair)
to_some c rows f g from o line e h = (h.grown, subst (λ x. IfSome x (λ l. HasStepped c rows f g from l.pair)) (sym e) h)

pub to_found : (c : ℕ) (rows : List (List ℕ)) (f g : Forest) (from : ℕ) (o : Option Line) (line : Line) (found : Option Conflict) → o ≡ Some line → MatchOption found (HasStepped c rows f g from line.pair) (ShowsConflict c rows g) →
    MatchOption found (HasGrown c rows f g × IfSome o (λ l. HasStepped c rows f g from l.pair)) (ShowsConflict c rows g)
to_found c rows f g from o line None e h = to_some c rows f g from o line e h
to_found c rows f g from o line (Some x) e h = h

-- the pair of a line that is joined to another is a pair
pub line_pair : (n c : ℕ) (rows : List (List ℕ)) (o : Option Line) (v : Pair) → n ≡ c → IfSome o (λ l. JoinedBy n rows l.pair v l.why) → IfSome o (λ l. IsPair c l.pair)
line_pair n c rows None v e h = tt
line_pair n c rows (Some l) v e h = subst (λ k. IsPair k l.pair) e h.from

-- it is joined to the pair of the node
pub line_from : (n c : ℕ) (front rows : List (List ℕ)) (f : Forest) (from : ℕ) (node : Node) (o : Option Line) → n ≡ c → ((v w : Pair) (why : Why) → JoinedBy c front v w why → JoinedBy c rows v w why) →
    slice_get f.nodes.items from ≡ Some node → IfSome o (λ l. JoinedBy n front l.pair node.pair l.why) → IfSome o (IsJoinedFrom c rows f from)
line_from n c front rows f from node None e more there h = tt
line_from n c front rows f from node (Some l) e more there h =
    λ other at. subst (λ (x : Node). JoinedBy c rows l.pair x.pair l.why) (same_Some node other (sym there ∙ at)) (more l.pair node.pair l.why (subst (λ k. JoinedBy k front l.pair node.pair l.why) e h))

module _ (c : ℕ) (front rows : List (List ℕ)) (f : Forest) (from : ℕ) (node : Node) (there : slice_get f.nodes.items from ≡ Some node) where
  reached_line : (g k : Forest) (o : Option Line) (w : Pair) → slice_get g.nodes.items from ≡ Some node → MatchOption o ⊥ (λ line. line.pair ≡ w) → IfSome o (λ l. HasStepped c rows g k from l.pair) → IsReached k.nodes.items w (not node.odd)
  reached_line g k None w at m h = absurd m
  reached_line g k (Some l) w at m h = subst (λ v. IsReached k.nodes.items v (not node.odd)) m (h.reached node at)

  -- over both sides of the column
  pub crossed_both : (o : List ℕ) (g k : Forest) (b d : Option Line) →
      ((j q : ℕ) → q + 1 ≡ place o node.pair.a → Opens front o j q node.pair.b → MatchOption b ⊥ (λ line. line.pair ≡ pair node.pair.b (slice_index o q))) →
      ((j : ℕ) → place o node.pair.a + 1 < length o → Opens front o j (place o node.pair.a) node.pair.b → MatchOption d ⊥ (λ line. line.pair ≡ pair node.pair.b (slice_index o (place o node.pair.a + 1)))) →
      HasGrown c rows f g × IfSome b (λ l. HasStepped c rows f g from l.pair) →
      HasGrown c rows g k × IfSome d (λ l. HasStepped c rows g k from l.pair) →
      HasCrossed c front rows o f k from
  crossed_both o g k b d whole_b whole_d first second =
      let now : slice_get g.nodes.items from ≡ Some node = grown_there c rows f g from node first.0 there in
      record {
        grown = grown_trans c rows f g k first.0 second.0;
        across = λ other at. subst (λ (x : Node). IsAcross front o k.nodes.items x.pair (not x.odd)) (same_Some node other (sym there ∙ at))
            (record {
              before = λ j q e opens. grown_reached c rows g k (pair node.pair.b (slice_index o q)) (not node.odd) second.0 (reached_line f g b (pair node.pair.b (slice_index o q)) there (whole_b j q e opens) first.1);
              behind = λ j l opens. reached_line g k d (pair node.pair.b (slice_index o (place o node.pair.a + 1))) now (whole_d j l opens) second.1;
            });
      }

  pub crossed_found : (o : List ℕ) (g k : Forest) (b d : Option Line) (found : Option Conflict) →
      ((j q : ℕ) → q + 1 ≡ place o node.pair.a → Opens front o j q node.pair.b → MatchOption b ⊥ (λ line. line.pair ≡ pair node.pair.b (slice_index o q))) →
      ((j : ℕ) → place o node.pair.a + 1 < length o → Opens front o j (place o node.pair.a) node.pair.b → MatchOption d ⊥ (λ line. line.pair ≡ pair node.pair.b (slice_index o (place o node.pair.a + 1)))) →
      HasGrown c rows f g × IfSome b (λ l. HasStepped c rows f g from l.pair) →
      MatchOption found (HasGrown c rows g k × IfSome d (λ l. HasStepped c rows g k from l.pair)) (ShowsConflict c rows k) →
      MatchOption found (HasCrossed c front rows o f k from) (ShowsConflict c rows k)
  crossed_found o g k b d None whole_b whole_d first second = crossed_both o g k b d whole_b whole_d first second
  crossed_found o g k b d (Some x) whole_b whole_d first second = second

  -- the pair with the columns exchanged is joined
  pub flips : IsForest c rows f → IsJoinedFrom c rows f from (record { pair = turned node.pair; why = Flip })
  flips h other at =
      let p = node_pair c rows f from node h there in
      subst (λ (x : Node). JoinedBy c rows (turned node.pair) x.pair Flip) (same_Some node other (sym there ∙ at)) (record { from = is_pair_turned c node.pair p; to = p; fits = (refl, refl) })

  turned_reached : (g : Forest) → HasStepped c rows f g from (turned node.pair) → (other : Node) → slice_get f.nodes.items from ≡ Some other → IsReached g.nodes.items (turned other.pair) (not other.odd)
  turned_reached g h other at = subst (λ (x : Node). IsReached g.nodes.items (turned x.pair) (not x.odd)) (same_Some node other (sym there ∙ at)) (h.reached node there)

  -- where there are no gaps
  pub left_none : (g : Forest) (gaps : Option GapTable) → gaps ≡ None → HasStepped c rows f g from (turned node.pair) → HasLeft c front rows gaps f g from
  left_none g gaps e h =
      record { grown = h.grown; exchanged = turned_reached g h; across = λ other at t e'. absurd (none-some t (sym e ∙ e')) }

  -- and where there are some
  pub left_some : (g k : Forest) (gaps : Option GapTable) (t : GapTable) → gaps ≡ Some t → HasStepped c rows f g from (turned node.pair) → HasCrossed c front rows t.order g k from → HasLeft c front rows gaps f k from
  left_some g k gaps t e h x =
      record {
        grown = grown_trans c rows f g k h.grown x.grown;
        exchanged = λ other at. grown_reached c rows g k (turned other.pair) (not other.odd) x.grown (turned_reached g h other at);
        across = λ other at u e'.
            let same : t ≡ u = same_Some t u (sym e ∙ e') in
            subst (λ (y : GapTable). IsAcross front y.order k.nodes.items other.pair (not other.odd)) same (x.across other (grown_there c rows f g from other h.grown at));
      }

  pub left_found : (g k : Forest) (gaps : Option GapTable) (t : GapTable) (found : Option Conflict) → gaps ≡ Some t → HasStepped c rows f g from (turned node.pair) → MatchOption found (HasCrossed c front rows t.order g k from) (ShowsConflict c rows k) →
      MatchOption found (HasLeft c front rows gaps f k from) (ShowsConflict c rows k)
  left_found g k gaps t None e h x = left_some g k gaps t e h x
  left_found g k gaps t (Some y) e h x = x
