-- A template that changes nothing.
use Rattle.std.proofs.Common.{ℕ, refl}
use Rattle.arena_model.specs.Layout.{Layout, IsInUse, IsLayout}
use Rattle.arena_model.specs.NamedTree.{IsOneTree, HasTwoEach}
use Rattle.bubble_pass.specs.Marks.{Marks}
use Rattle.template_model.specs.Treated.{IsTreated}
use Rattle.template_model.proofs.Replaced.{stays}

pub unchanged : (f : Layout) (w : Marks) (n : ℕ) → IsLayout f → IsOneTree f → HasTwoEach f → IsInUse f n → IsTreated f f w w n n
unchanged f w n h one two used = record {
  arena = stays f n h one two used;
  marks = record {
    room = refl;
    nodes = refl;
    inside = refl;
    label = refl;
    outside = λ m out. refl;
    chains = λ m out r. r;
    right = λ row leaves r m l. r m l;
  };
}
