-- A node that was not seen.
use Rattle.std.proofs.Common.{◌≡◌, refl}
use Rattle.bubble_pass.specs.declared.climber.Stage.{Stage}
use Rattle.bubble_pass.specs.declared.climber.Stage.TheVariants.{Unseen, Queued, Blocked, Top, InRun, Placed}
use Rattle.bubble_pass.specs.Climb.{IsSeen}

pub is_unseen : (s : Stage) → (IsSeen s → ⊥) → s ≡ Unseen
is_unseen Unseen h = refl
is_unseen Queued h = absurd (h tt)
is_unseen Blocked h = absurd (h tt)
is_unseen Top h = absurd (h tt)
is_unseen InRun h = absurd (h tt)
is_unseen (Placed m) h = absurd (h tt)
