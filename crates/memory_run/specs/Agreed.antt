-- What a check in memory finds of what `solve` gave in memory.
use Rattle.std.specs.Prelude.{◌≡◌, ◌⊎◌, ℕ, List, codes, Some}
use Rattle.row_model.specs.declared.kind.Kind.{Kind}
use Rattle.command_input.specs.Words.{Solve, Check}
use Rattle.memory_run.specs.Called.{IsRunOf}

-- Where `solve` gave a reply for the first file, and this reply is handed over as the second file beside the same
-- first, a check finds it valid. There may be too little room for its answer, or memory may be refused.
abbrev pub AgreedInMemoryLaw : Type 0
AgreedInMemoryLaw =
    (kind : Kind) (file other reply line copy said : List ℕ) (room line_room room_2 line_room_2 status found : ℕ) →
    IsRunOf (Some (Solve kind (codes "1"))) file other room line_room status reply line →
    (status ≡ 0) ⊎ (status ≡ 1) →
    IsRunOf (Some (Check kind (codes "1") (codes "2"))) file reply room_2 line_room_2 found copy said →
    ((found ≡ 0) × (copy ≡ codes "valid\n")) ⊎ (found ≡ 5) ⊎ (found ≡ 6)
