-- What is handed over where no run was made: the words are no text, or memory is refused.
use Rattle.std.proofs.Common.{◌≡◌, ◌⊎◌, ◌∙◌, ◌≤◌, ℕ, List, [], length, take, codes, Option, Some, None, inl, inr, refl, sym, ap, arith}
use Rattle.std.proofs.lemmas.List.{length-take-le}
use Rattle.std.specs.Prelude.{IfNone}
use Rattle.command_input.specs.Words.{Command}
use Rattle.memory_run.specs.Called.{IsWholeRun, IsHandedOver, IsShown}

abbrev six : ℕ
six = 6

no_reply : {A : Type 0} → (six ≡ 0) ⊎ (six ≡ 1) → A
no_reply (inl e) = absurd (omega (arith, e))
no_reply (inr e) = absurd (omega (arith, e))

outside : (command : Option Command) → IfNone command ((six ≡ 2) ⊎ (six ≡ 6))
outside None = inr refl
outside (Some _) = tt

-- memory is refused
pub refused : (command : Option Command) (first second : List ℕ) → IsWholeRun command first second 6 [] (codes "pq: no memory\n")
refused command first second = record {
  range = (omega arith, λ e. omega (arith, e));
  grammar = λ e. absurd (omega (arith, e));
  outside = outside command;
  given = no_reply;
  reply = no_reply;
  promise = no_reply;
  another = λ e. absurd (omega (arith, e));
  unwritten = λ _. refl;
  quiet = no_reply;
  said = λ _. record {
    outside = λ e. absurd (omega (arith, e));
    refused = λ e. absurd (omega (arith, e));
    read_fault = λ e. absurd (omega (arith, e));
    no_memory = λ _. refl;
  };
}

-- the words are no text
pub no_text : (room line_room answer written : ℕ) (line out shown : List ℕ) → written ≤ length out → IsHandedOver room line_room 2 [] line answer (take written out) shown
    → (answer ≡ 2) × (written ≡ 0) × IsShown line_room line shown
no_text room line_room answer written line out shown within handed =
    let fits = handed.fits (omega arith) in
    (fits.0, sym (length-take-le written out within) ∙ ap length fits.1, fits.2)
