use Rattle.std.proofs.Common.{◌≡◌, ◌∙◌, List, IfOk, ap}
use Rattle.std.proofs.lemmas.Result.{IfOk-weaker}
use Rattle.column_order.specs.Orders.{has}
use Rattle.row_model.specs.Rows.{RowList}
use Rattle.graph_read.specs.declared.edges.Edge.{Edge}
use Rattle.graph_read.specs.Edges.{lists_from}
use Rattle.graph_read.specs.Places.{ArePlaces}
use Rattle.graph_read.proofs.PlacedLemmas.{AreOfPlaces, made_of_places}
use Rattle.graph_read.proofs.read_lists.EdgePlaces.lists.Goals as goal

pub returns : goal.returns
returns c =
    let self = c.args.self in
    let sorted = c.deref.result.now in
    let left = c.left-left.result in
    let right = c.right-right.result in
    let are : IfOk c.lists_at.result (AreOfPlaces self.shape self.places.items) =
    IfOk-weaker c.lists_at.result
    (λ (m : RowList). (edges : List Edge) → ArePlaces left right edges sorted → m ≡ record { columns = right; rows = lists_from 1 left right edges })
    (AreOfPlaces self.shape self.places.items)
    (λ m made.
    made_of_places self.shape self.places.items sorted left right c.left-left.ensures c.right-right.ensures
    (λ place. ap (λ xs. has xs place) c.deref.ensures.value ∙ c.in_ok-put_in_order.ensures.members place) m made self.placed
    self.left.0 self.left.1 self.right.0 self.right.1)
    c.lists_at.ensures in
    record {
      lists = IfOk-weaker c.lists_at.result (AreOfPlaces self.shape self.places.items) _ (λ m of. of.lists) are;
      sides = IfOk-weaker c.lists_at.result (AreOfPlaces self.shape self.places.items) _ (λ m of. of.sides) are;
      vertices = λ plain. IfOk-weaker c.lists_at.result (AreOfPlaces self.shape self.places.items) _ (λ m of. of.vertices plain) are;
    }
