-- Steps of a chain of readers: what they took, and what they take.
pub use Rattle.plain_text.proofs.Chains.{after_number, after_word, at_number, at_word}
use Rattle.std.proofs.Common.{◌≡◌, ◌^◌, ◌<◌, ◌≤◌, ℕ, zero, suc, false, List, ◌++◌, arith, eqb}
use Rattle.text_parts.specs.Grammar.{max_number}

-- what was read: a value whose text stands at the front, and the bytes after it
pub record Takes {A : Type 0} (text : A → List ℕ) (Good : A → Type 0) (bytes : List ℕ) (x : A) (rest : List ℕ) : Type 0 where
  pub good : Good x
  pub front : bytes ≡ text x ++ rest

pub small : max_number < 2 ^ 64
small = omega arith

pub some_number : (n : ℕ) → eqb n 0 ≡ false → 1 ≤ n
some_number zero h = absurd cc
some_number (suc n) h = omega arith
