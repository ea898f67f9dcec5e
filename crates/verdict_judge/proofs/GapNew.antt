-- The gaps and positions that are made of a tree.
use Rattle.std.proofs.Common.{◌≡◌, ◌∙◌, ℕ, ◌+◌, ◌^◌, ◌<◌, ◌≤◌, List, [], ◌∷◌, ◌++◌, length, sym, ap, subst, arith}
use Rattle.std.specs.declared.vec.Vec.{Vec}
use Rattle.std.specs.declared.alloc.Global.{Global}
use Rattle.column_order.specs.declared.TheConstants.{COLUMN_BOUND}
use Rattle.column_order.specs.Orders.{IsOrder}
use Rattle.column_order.proofs.Counts.{order_length, order_unique}
use Rattle.pq_tree.specs.Outline.{leaves}
use Rattle.pq_tree.specs.Proper.{outline_of, IsProper}
use Rattle.pq_tree.specs.PqTree.{column_count, outline}
use Rattle.pq_tree.specs.declared.PqTree.{PqTree}
use Rattle.pq_tree.specs.declared.Tree.{Tree}
use Rattle.row_model.specs.Rows.{IsRow}
use Rattle.row_model.specs.Positions.{ArePositions}
use Rattle.verdict_judge.specs.declared.gaps.LeafGap.{LeafGap}
use Rattle.verdict_judge.specs.declared.gaps.LeafGap.TheVariants.{P}
use Rattle.verdict_judge.specs.declared.gaps.Gaps.{Gaps}
use Rattle.verdict_judge.specs.Gaps.{AreGaps, gaps}

pub proper_length : (t : PqTree) → length (leaves (outline t)) ≡ column_count t
proper_length t = let p : IsProper (column_count t) (outline t) = t.proper in order_length (column_count t) (leaves (outline t)) p.1

pub shallow : (t : PqTree) (root : Tree) → outline_of root ≡ outline t → column_count t ≤ COLUMN_BOUND → 1 + length (leaves (outline_of root)) < 2 ^ 32
shallow t root e h = let n : length (leaves (outline_of root)) ≡ length (leaves (outline t)) = ap (λ x. length (leaves x)) e in omega (arith, n, proper_length t, h)

pub order_of : (t : PqTree) (o : List ℕ) → o ≡ leaves (outline t) → IsOrder (length o) o
order_of t o e = let p : IsProper (column_count t) (outline t) = t.proper in subst (λ x. IsOrder (length x) x) (sym e) (subst (λ n. IsOrder n (leaves (outline t))) (sym (proper_length t)) p.1)

pub few : (t : PqTree) (o : List ℕ) → o ≡ leaves (outline t) → column_count t ≤ COLUMN_BOUND → length o ≤ COLUMN_BOUND
few t o e h = omega (arith, h, proper_length t, ap length e)

pub made : (t : PqTree) (ps : Vec ℕ Global) (gs : Vec LeafGap Global) (none : List LeafGap) → none ≡ [] → {most : List LeafGap} → gs.items ≡ most ++ P 0 ∷ [] → (root : Tree) → most ≡ none ++ gaps (P 0) 1 (outline_of root) → outline_of root ≡ outline t →
    (o : List ℕ) → o ≡ leaves (outline t) → ArePositions o ps.items → AreGaps (outline t) (record { positions = ps; gaps = gs })
made t ps gs none n {most} g root m r o e h =
    let c : length ps.items ≡ column_count t = h.columns ∙ ap length e ∙ proper_length t in
    record {
      proper = subst (λ k. IsProper k (outline t)) (sym c) t.proper;
      positions = subst (λ x. ArePositions x ps.items) e h;
      gaps = g ∙ ap (λ x. x ++ P 0 ∷ []) (m ∙ ap (λ x. x ++ gaps (P 0) 1 (outline_of root)) n ∙ ap (gaps (P 0) 1) r);
    }

pub row_fits : (t : PqTree) (g : Gaps) (c : ℕ) (row : List ℕ) → AreGaps (outline t) g → column_count t ≡ c → IsRow c row → IsRow (length g.positions.items) row
row_fits t g c row a e h = let p = a.proper in let q : IsProper (column_count t) (outline t) = t.proper in subst (λ n. IsRow n row) (sym e ∙ order_unique (column_count t) (length g.positions.items) (leaves (outline t)) q.1 p.1) h
