-- The derived matrices of an instance within the limits are within the limits of a matrix.
use Rattle.std.proofs.Common.{ℕ, zero, suc, ◌*◌, ◌≤◌, arith}
use Rattle.std.proofs.lemmas.List.{length-map}
use Rattle.std.proofs.lemmas.List.FromFn.{length-map-range_with_len}
use Rattle.std.proofs.Math.Nat.{mul-le-mul_left}
use Rattle.row_model.specs.declared.TheConstants.{MAX_ROWS, MAX_ITEMS}
use Rattle.circular_ones.specs.Circular.{cut_row}
use Rattle.convex_bipartite.specs.Sides.{xs_among}
use Rattle.proper_interval.specs.Laws.{ClosedCountLaw}
use Rattle.robinson_balls.specs.Laws.{FewBallsLaw}
use Rattle.instance_model.specs.Instance.{plain, circular, convex, doubly, proper, robinson}
use Rattle.instance_model.specs.Laws.{FewColumnsLaw, FewRowsLaw}

pub few_columns : FewColumnsLaw
few_columns (plain kind m) s h side = h.1
few_columns (circular m) s h side = h.0
few_columns (convex g) s h side = h.1
few_columns (doubly g) zero h side = h.1
few_columns (doubly g) (suc zero) h side = h.1
few_columns (doubly g) (suc (suc s)) h side = h.0
few_columns (proper g) s h side = h
few_columns (robinson d) s h side = omega (arith, h)

few_squares : (n : ℕ) → n ≤ MAX_ITEMS → n * n ≤ MAX_ROWS
few_squares n le = omega (arith, le, mul-le-mul_left n le)

pub few_rows : ClosedCountLaw → FewBallsLaw → FewRowsLaw
few_rows closed balls (plain kind m) s h formed side = h.2
few_rows closed balls (circular m) s h formed side = omega (arith, h.1, length-map m.rows (cut_row m.columns))
few_rows closed balls (convex g) s h formed side = omega (arith, h.0, formed.lists)
few_rows closed balls (doubly g) zero h formed side = omega (arith, h.0, formed.lists)
few_rows closed balls (doubly g) (suc zero) h formed side = omega (arith, h.0, formed.lists)
few_rows closed balls (doubly g) (suc (suc s)) h formed side = omega (arith, h.1, length-map-range_with_len (xs_among g.neighbours g.left) 1 g.right)
few_rows closed balls (proper g) s h formed side = omega (arith, h, closed g)
few_rows closed balls (robinson d) s h formed side = omega (arith, balls d, few_squares d.items h)
