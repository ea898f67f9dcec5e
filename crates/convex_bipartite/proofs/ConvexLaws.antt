-- The orders of each side that are convex are the valid orders of the other side's neighbourhoods.
use Rattle.std.proofs.Common.{◌≡◌, ◌∙◌, ℕ, ◌+◌, ◌-◌, ◌<◌, List, [], length, map, get_or, sym, ap, subst, arith}
use Rattle.std.proofs.lemmas.List.{get_or_default}
use Rattle.std.proofs.lemmas.List.FromFn.{get_or-map-range_with_len, length-map-range_with_len}
use Rattle.std.specs.List.{range_with_len}
use Rattle.column_order.specs.Orders.{has, IsOrder, Keeps, IsValidOrder}
use Rattle.column_order.proofs.Lists.{has_at}
use Rattle.column_order.proofs.Counts.{order_within}
use Rattle.row_model.proofs.Filtered.{has_filtered}
use Rattle.graph_model.specs.Graphs.{BigraphValue, IsBigraph, has_edge}
use Rattle.convex_bipartite.specs.Sides.{right_rows, xs_among}
use Rattle.convex_bipartite.specs.Convex.{IsConvexOnRight, IsConvexOnLeft, RightLaw, LeftLaw}

right_convex : (g : BigraphValue) (o : List ℕ) → IsBigraph g → IsValidOrder g.right g.neighbours o → IsConvexOnRight g o
right_convex g o is h =
    record {
      order = h.order;
      between = λ x i j k from to. h.kept (x - 1) [] (omega (arith, from, to, is.lists)) i j k;
    }

right_valid : (g : BigraphValue) (o : List ℕ) → IsBigraph g → IsConvexOnRight g o → IsValidOrder g.right g.neighbours o
right_valid g o is h = record { order = h.order; kept = λ n d l. kept n d l }
  where
    kept : (n : ℕ) (d : List ℕ) → n < length g.neighbours → Keeps o (get_or g.neighbours n d)
    kept n d l =
        let same : get_or g.neighbours (n + 1 - 1) [] ≡ get_or g.neighbours n d = ap (λ i. get_or g.neighbours i []) (omega arith) ∙ get_or_default g.neighbours n [] d l in
        subst (Keeps o) same (λ i j k. h.between (n + 1) i j k (omega arith) (omega (arith, l, is.lists)))

pub right_exactly : RightLaw
right_exactly g o is = (right_convex g o is, right_valid g o is)

-- the neighbourhood of a y, by edges
has_x : (g : BigraphValue) (o : List ℕ) (i y : ℕ) → IsOrder g.left o → i < length o → has (xs_among g.neighbours g.left y) (get_or o i 0) ≡ has_edge g.neighbours (get_or o i 0) y
has_x g o i y order l =
    let x = get_or o i 0 in
    let r = order_within g.left o order x (has_at o i l) in
    has_filtered (λ z. has_edge g.neighbours z y) g.left x r.0 r.1

left_convex : (g : BigraphValue) (o : List ℕ) → IsValidOrder g.left (right_rows g).rows o → IsConvexOnLeft g o
left_convex g o h =
    record {
      order = h.order;
      between = λ y i j k from to ij jk kl e1 e3.
          let n : y - 1 < g.right = omega (arith, from, to) in
          let row : Keeps o (xs_among g.neighbours g.left y) =
          subst (Keeps o) (get_or-map-range_with_len (xs_among g.neighbours g.left) 1 g.right (y - 1) y [] n (omega (arith, from)))
          (h.kept (y - 1) [] (omega (arith, n, length-map-range_with_len (xs_among g.neighbours g.left) 1 g.right))) in
          sym (has_x g o j y h.order (omega (arith, jk, kl)))
          ∙ row i j k ij jk kl (has_x g o i y h.order (omega (arith, ij, jk, kl)) ∙ e1) (has_x g o k y h.order kl ∙ e3);
    }

left_valid : (g : BigraphValue) (o : List ℕ) → IsConvexOnLeft g o → IsValidOrder g.left (right_rows g).rows o
left_valid g o h = record { order = h.order; kept = λ k d l. kept k d l }
  where
    kept : (n : ℕ) (d : List ℕ) → n < length (map (xs_among g.neighbours g.left) (range_with_len 1 g.right)) →
        Keeps o (get_or (map (xs_among g.neighbours g.left) (range_with_len 1 g.right)) n d)
    kept n d l =
        let u : n < g.right = omega (arith, l, length-map-range_with_len (xs_among g.neighbours g.left) 1 g.right) in
        subst (Keeps o) (sym (get_or-map-range_with_len (xs_among g.neighbours g.left) 1 g.right n (n + 1) d u (omega arith)))
        (λ i j k ij jk kl e1 e3.
        has_x g o j (n + 1) h.order (omega (arith, jk, kl))
        ∙ h.between (n + 1) i j k (omega arith) (omega (arith, u)) ij jk kl
        (sym (has_x g o i (n + 1) h.order (omega (arith, ij, jk, kl))) ∙ e1) (sym (has_x g o k (n + 1) h.order kl) ∙ e3))

pub left_exactly : LeftLaw
left_exactly g o is = (left_convex g o, left_valid g o)
