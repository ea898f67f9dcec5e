-- What a loop that tests one after another answers.
use Rattle.std.proofs.Common.{◌≡◌, ◌↔◌, Bool, false, IsTrue, refl}
use Rattle.std.proofs.lemmas.Bool.{both_ways}

-- a test that failed refutes what would make it pass
pub refuted : (b : Bool) (P Q : Type 0) → b ≡ false → IsTrue b ↔ P → (Q → P) → IsTrue false ↔ Q
refuted b P Q e exact need = (λ t. absurd (both_ways false refl t), λ q. absurd (both_ways b e (exact.1 (need q))))
