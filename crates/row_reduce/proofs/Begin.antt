-- Before any template is applied.
use Rattle.std.proofs.Common.{ℕ, List, [], refl, sym, arith}
use Rattle.arena_model.specs.Layout.{Layout, children_at}
use Rattle.bubble_pass.specs.Marks.{Marks}
use Rattle.row_reduce.specs.Applying.{AreApplied}
use Rattle.row_reduce.specs.Ground.{IsGround}
use Rattle.row_reduce.proofs.Answering.{map_fixed}

pub begin : (f : Layout) (v : Marks) (row : List ℕ) (q : ℕ) → IsGround f v row q → (place : ℕ → ℕ) × AreApplied f v row [] place f v
begin f v row q s = (
  (λ k. k),
  record {
    one = s.one;
    two = s.two;
    columns = refl;
    root = refl;
    room = refl;
    nodes = refl;
    inside = refl;
    fixed = λ k o. refl;
    shapes = λ x i. refl;
    children = λ x i. sym (map_fixed (λ k. k) (children_at f x) (λ k o. refl));
    labels = λ x i. refl;
    chains = λ x i r. r;
    paths = λ x y ix iy l. l;
    apart = λ x p k ix ip o d l. absurd (omega arith);
    answers = λ p k ip o d. absurd (omega arith);
  },
)
