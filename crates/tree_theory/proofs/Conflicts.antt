-- The four ways in which no template fits: each relates a pair to itself with its columns exchanged.
use Rattle.std.proofs.Common.{ℕ, List, IsTrue, IsFalse}
use Rattle.row_model.specs.declared.graph.Pair.{Pair}
use Rattle.column_order.specs.Orders.{has}
use Rattle.row_model.specs.Graph.{pair}
use Rattle.pq_tree.specs.Outline.{Forest, leaves_of}
use Rattle.tree_theory.specs.Tied.{IsForward}
use Rattle.tree_theory.proofs.Bound.{IsClosed, IsInLine, IsPairEq}
use Rattle.tree_theory.proofs.BelowRoot.{IsOutside, towards}

module _ (R : Pair → Pair → Type 0) (eq : IsPairEq R) where
  -- x is closed towards f and g, and has an empty column e and a full one h: h isn't between f and g
  beside_both : (e h f g : ℕ) → R (pair e f) (pair h f) → R (pair e g) (pair h g) → R (pair h e) (pair f e) → R (pair h e) (pair g e) → R (pair f h) (pair g h)
  beside_both e h f g xf xg rf rg =
      eq.join (pair f h) (pair h e) (pair g h)
      (eq.turn (pair h e) (pair f h) (eq.join (pair h e) (pair f e) (pair f h) rf (eq.flip (pair e f) (pair h f) xf)))
      (eq.join (pair h e) (pair g e) (pair g h) rg (eq.flip (pair e g) (pair h g) xg))

  -- none of three columns is between the two others
  pub three_beside : (f g h : ℕ) → R (pair g f) (pair h f) → R (pair f g) (pair h g) → R (pair f h) (pair g h) → R (pair g f) (pair f g)
  three_beside f g h a b c =
      eq.join (pair g f) (pair h f) (pair f g) a
      (eq.join (pair h f) (pair h g) (pair f g) (eq.flip (pair f h) (pair g h) c) (eq.turn (pair f g) (pair h g) b))

  -- P with three partial children x, y, z
  pub three_partial : (row l x y z : List ℕ) → IsClosed R l row → IsClosed R l x → IsClosed R l y → IsClosed R l z →
      (e1 f1 e2 f2 e3 f3 : ℕ) → IsTrue (has x e1) → IsTrue (has x f1) → IsTrue (has y e2) → IsTrue (has y f2) → IsTrue (has z e3) → IsTrue (has z f3) →
      IsFalse (has row e1) → IsTrue (has row f1) → IsFalse (has row e2) → IsTrue (has row f2) → IsFalse (has row e3) → IsTrue (has row f3) →
      IsTrue (has l e1) → IsTrue (has l f1) → IsTrue (has l e2) → IsTrue (has l f2) → IsTrue (has l e3) → IsTrue (has l f3) →
      IsFalse (has x f2) → IsFalse (has x f3) → IsFalse (has y f1) → IsFalse (has y f3) → IsFalse (has z f1) → IsFalse (has z f2) → R (pair f2 f1) (pair f1 f2)
  three_partial row l x y z cr cx cy cz e1 f1 e2 f2 e3 f3 xe xf ye yf ze zf re1 rf1 re2 rf2 re3 rf3 le1 lf1 le2 lf2 le3 lf3 x2 x3 y1 y3 z1 z2 =
      three_beside f1 f2 f3
      (beside_both e1 f1 f2 f3 (cx e1 f1 f2 xe xf lf2 x2) (cx e1 f1 f3 xe xf lf3 x3) (cr f1 f2 e1 rf1 rf2 le1 re1) (cr f1 f3 e1 rf1 rf3 le1 re1))
      (beside_both e2 f2 f1 f3 (cy e2 f2 f1 ye yf lf1 y1) (cy e2 f2 f3 ye yf lf3 y3) (cr f2 f1 e2 rf2 rf1 le2 re2) (cr f2 f3 e2 rf2 rf3 le2 re2))
      (beside_both e3 f3 f1 f2 (cz e3 f3 f1 ze zf lf1 z1) (cz e3 f3 f2 ze zf lf2 z2) (cr f3 f1 e3 rf3 rf1 le3 re3) (cr f3 f2 e3 rf3 rf2 le3 re3))

  -- P below the pertinent root with two partial children x, y; s is a column of the row outside the node n
  pub two_partial : (row n x y : List ℕ) (s : ℕ) → IsOutside R row n s → IsClosed R n row → IsClosed R n x → IsClosed R n y →
      (e1 f1 e2 f2 : ℕ) → IsTrue (has x e1) → IsTrue (has x f1) → IsTrue (has y e2) → IsTrue (has y f2) →
      IsFalse (has row e1) → IsTrue (has row f1) → IsFalse (has row e2) → IsTrue (has row f2) →
      IsTrue (has n e1) → IsTrue (has n f1) → IsTrue (has n e2) → IsTrue (has n f2) → IsFalse (has x f2) → IsFalse (has y f1) → R (pair f2 f1) (pair f1 f2)
  two_partial row n x y s o cr cx cy e1 f1 e2 f2 xe xf ye yf re1 rf1 re2 rf2 ne1 nf1 ne2 nf2 x2 y1 =
      three_beside f1 f2 s
      (beside_both e1 f1 f2 s (cx e1 f1 f2 xe xf nf2 x2) (o.closed e1 f1 ne1 nf1) (cr f1 f2 e1 rf1 rf2 ne1 re1) (o.rowed e1 f1 ne1 re1 nf1 rf1))
      (beside_both e2 f2 f1 s (cy e2 f2 f1 ye yf nf1 y1) (o.closed e2 f2 ne2 nf2) (cr f2 f1 e2 rf2 rf1 ne2 re2) (o.rowed e2 f2 ne2 re2 nf2 rf2))
      (o.closed f1 f2 nf1 nf2)

  -- Q: an empty column e after a full one f and before a full one g
  pub hole : (row : List ℕ) (ts : Forest) → IsInLine R ts → IsClosed R (leaves_of ts) row → (f e g : ℕ) → IsForward ts (pair f e) → IsForward ts (pair e g) →
      IsTrue (has row f) → IsTrue (has row g) → IsFalse (has row e) → IsTrue (has (leaves_of ts) e) → R (pair e g) (pair g e)
  hole row ts line cr f e g a b rf rg re te =
      eq.join (pair e g) (pair f e) (pair g e) (line (pair e g) (pair f e) b a) (cr f g e rf rg te re)

  -- Q below the pertinent root: an empty column before a full one, and an empty one after a full one
  pub both_ends : (row : List ℕ) (ts : Forest) (s : ℕ) → IsInLine R ts → IsOutside R row (leaves_of ts) s → (e f g d : ℕ) → IsForward ts (pair e f) → IsForward ts (pair g d) →
      IsFalse (has row e) → IsTrue (has row f) → IsTrue (has row g) → IsFalse (has row d) →
      IsTrue (has (leaves_of ts) e) → IsTrue (has (leaves_of ts) f) → IsTrue (has (leaves_of ts) g) → IsTrue (has (leaves_of ts) d) → R (pair e s) (pair s e)
  both_ends row ts s line o e f g d a b re rf rg rd te tf tg td =
      eq.join (pair e s) (pair e f) (pair s e) (eq.turn (pair e f) (pair e s) (towards R eq row (leaves_of ts) s o e f e te re tf rf te))
      (eq.join (pair e f) (pair g d) (pair s e) (line (pair e f) (pair g d) a b)
      (eq.flip (pair d g) (pair e s) (towards R eq row (leaves_of ts) s o d g e td rd tg rg te)))
