-- Replies about the same orders.
use Rattle.std.proofs.Common.{◌≡◌, ◌∙◌, ◌↔◌, ℕ, List, refl, ap, subst}
use Rattle.column_order.specs.Orders.{IsValidOrder}
use Rattle.column_order.proofs.Counts.{order_unique}
use Rattle.row_model.specs.Rows.{RowList}
use Rattle.pq_tree.specs.Outline.{Outline}
use Rattle.tree_theory.specs.CanonicalLaws.{HasOrdersOf, IsCanonicalOver, CanonicalTreeLaw, SameOrdersLaw}
use Rattle.verdict_text.specs.Verdict.{SideValue}
use Rattle.tree_meet.specs.Laws.{CommonRowsLaw}
use Rattle.pq_cli.specs.Meet.{MeetTextLaw}
use Rattle.pq_cli.specs.Solve.{InGrammarLaw}
use Rattle.one_text.specs.Told.{Spot, on_side, at_end, in_meeting, RepliesFor, TellsAt}
use Rattle.one_text.specs.Laws.{side_of, HaveSameOrders, CanonicalTextLaw, SameTextLaw}
use Rattle.verdict_replies.specs.Verdicts.{ShowsAllOrders, ShownOrderLaw}
use Rattle.one_text.proofs.Sides.{Shown, solved}
use Rattle.one_text.proofs.Ends.{ended}
use Rattle.one_text.proofs.Meetings.{met}

-- what a reply tells shows the orders that it is about
shown : InGrammarLaw → CommonRowsLaw → MeetTextLaw → (text : List ℕ) (spot : Spot) (m : RowList) → RepliesFor text spot m → Shown m (TellsAt text spot)
shown grammar common meet text (on_side s) m h = solved grammar text s m h
shown grammar common meet text at_end m h = ended text m h
shown grammar common meet text in_meeting m h = met common meet text m h

-- a side is told by its tree
pub told_by_tree : (m : RowList) (side : SideValue) (t : Outline) → ShowsAllOrders m side → side.tree ≡ t → side ≡ side_of t
told_by_tree m side t shows e = let order : side ≡ side_of side.tree = ap (λ o. record { tree = side.tree; order = o }) shows.leaves in order ∙ ap side_of e

pub canonical_text : InGrammarLaw → CommonRowsLaw → MeetTextLaw → CanonicalTreeLaw → CanonicalTextLaw
canonical_text grammar common meet one_tree text spot m t replies tree =
    let s = shown grammar common meet text spot m replies in
    let same : s.side.tree ≡ t = one_tree m.columns s.side.tree t (s.shows.proper, s.shows.canonical) tree.0 (λ o. (λ f. (tree.1 o).1 ((s.shows.orders o).0 f), λ f. (s.shows.orders o).1 ((tree.1 o).0 f))) in
    subst (TellsAt text spot) (told_by_tree m s.side t s.shows same) s.tells

-- matrices with the same orders, of which there is one, have as many columns
same_columns : (m n : RowList) (o : List ℕ) → HaveSameOrders m n → IsValidOrder m.columns m.rows o → n.columns ≡ m.columns
same_columns m n o same v = order_unique n.columns m.columns o ((same o).0 v).order v.order

-- the same orders over as many columns are shown by the same tree
same_tree : SameOrdersLaw → (m n : RowList) (side other : SideValue) → HaveSameOrders m n → ShowsAllOrders m side → ShowsAllOrders n other → n.columns ≡ m.columns → other.tree ≡ side.tree
same_tree one_tree m n side other same shows shows_other e =
    one_tree m.columns n.rows m.rows other.tree side.tree
    (subst (λ c. IsCanonicalOver c other.tree) e (shows_other.proper, shows_other.canonical))
    (shows.proper, shows.canonical)
    (subst (λ c. HasOrdersOf c n.rows other.tree) e shows_other.orders)
    shows.orders
    (subst (λ c. (o : List ℕ) → IsValidOrder c n.rows o ↔ IsValidOrder m.columns m.rows o) e (λ o. ((same o).1, (same o).0)))

pub same_text : ShownOrderLaw → InGrammarLaw → CommonRowsLaw → MeetTextLaw → SameOrdersLaw → SameTextLaw
same_text valid grammar common meet one_tree text other here there m n replies replies_other same =
    let one = shown grammar common meet text here m replies in
    let two = shown grammar common meet other there n replies_other in
    let columns = same_columns m n one.side.order same (valid m one.side one.shows) in
    let tree = same_tree one_tree m n one.side two.side same one.shows two.shows columns in
    (side_of one.side.tree, subst (TellsAt text here) (told_by_tree m one.side one.side.tree one.shows refl) one.tells, subst (TellsAt other there) (told_by_tree n two.side one.side.tree two.shows tree) two.tells)
