-- Where the first line feed of a text stands.
use Rattle.std.proofs.Common.{◌≡◌, ℕ, zero, suc, ◌<◌, ◌==◌, List, [], ◌∷◌, true, false, length, get_or, if◌then◌else◌, ap, refl, arith, eq-eqb}
use Rattle.column_order.specs.Orders.{has, place}
use Rattle.column_order.proofs.Lists.{at_place}
use Rattle.text_lines.specs.Lines.{line_len}

-- a line feed behind bytes that are none
pub feed_at : (bytes : List ℕ) (k : ℕ) → k < length bytes → ((i : ℕ) → i < k → (get_or bytes i 0 == 10) ≡ true → ⊥) → (get_or bytes k 0 == 10) ≡ true → line_len bytes ≡ k
feed_at [] k lt before at = absurd (omega arith)
feed_at (b ∷ bytes) zero lt before at = rw at refl
feed_at (b ∷ bytes) (suc k) lt before at =
    elim (b == 10) as (λ v. (b == 10) ≡ v → (if v then 0 else suc (line_len bytes)) ≡ suc k) [
      | true ↦ λ e. absurd (before 0 (omega arith) e)
      | false ↦ λ e. ap suc (feed_at bytes k (omega arith) (λ i l. before (suc i) (omega arith)) at)
    ] refl

-- bytes none of which is a line feed
pub no_feed : (bytes : List ℕ) → ((i : ℕ) → i < length bytes → (get_or bytes i 0 == 10) ≡ true → ⊥) → line_len bytes ≡ length bytes
no_feed [] none = refl
no_feed (b ∷ bytes) none =
    elim (b == 10) as (λ v. (b == 10) ≡ v → (if v then 0 else suc (line_len bytes)) ≡ suc (length bytes)) [
      | true ↦ λ e. absurd (none 0 (omega arith) e)
      | false ↦ λ e. ap suc (no_feed bytes (λ i l. none (suc i) (omega arith)))
    ] refl

pub lacks_feed : (bytes : List ℕ) → ((i : ℕ) → i < length bytes → (get_or bytes i 0 == 10) ≡ true → ⊥) → has bytes 10 ≡ false
lacks_feed bytes none =
    elim (has bytes 10) as (λ v. has bytes 10 ≡ v → v ≡ false) [
      | true ↦ λ h. let at = at_place bytes 10 h in absurd (none (place bytes 10) at.0 (eq-eqb _ 10 at.1))
      | false ↦ λ h. refl
    ] refl
