-- The lines that tell of what stood in the way.
use Rattle.std.proofs.Common.{◌≡◌, ◌⊎◌, ℕ, List, Option, Some, inl, inr, refl, arith, subst, IfSome, codes}
use Rattle.row_model.specs.declared.refusal.Refusal.{Refusal}
use Rattle.file_io.specs.Taken.{Taken}
use Rattle.command_input.specs.Words.{Command}
use Rattle.pq_cli.specs.Runs.{EndsAtRefusal, StopsAt, refused_line, stop_line, failure_line, IsLineOf}
use Rattle.pq_cli.specs.Stops.{stop_status}
use Rattle.pq_cli.specs.declared.stop.Stop.{Stop}
use Rattle.pq_cli.specs.declared.stop.Stop.TheVariants as stop
use Rattle.pq_cli.specs.declared.stop.Failure.TheVariants as failure

-- the line of what stood in the way, by its status
refused_so : (found : Option Command) (command : Command) (ts : List Taken) (s : Stop) → Some command ≡ found → StopsAt command ts s → stop_status s ≡ 3
    → (which : ℕ) × (refusal : Refusal) × (stop_line s ≡ refused_line which refusal) × IfSome found (λ c. EndsAtRefusal c ts which refusal)
refused_so found command ts (stop.Refused which refusal) is ends e = (which, refusal, refl, subst (λ f. IfSome f (λ c. EndsAtRefusal c ts which refusal)) is ends)
refused_so found command ts stop.ReadFault is ends e = absurd (omega arith)
refused_so found command ts stop.NoMemory is ends e = absurd (omega arith)

fault_line : (s : Stop) → stop_status s ≡ 4 → stop_line s ≡ codes "pq: read fault\n"
fault_line (stop.Refused which refusal) e = absurd (omega arith)
fault_line stop.ReadFault e = refl
fault_line stop.NoMemory e = absurd (omega arith)

memory_line : (s : Stop) → stop_status s ≡ 6 → stop_line s ≡ codes "pq: no memory\n"
memory_line (stop.Refused which refusal) e = absurd (omega arith)
memory_line stop.ReadFault e = absurd (omega arith)
memory_line stop.NoMemory e = refl

pub no_other : (s : Stop) → (stop_status s ≡ 2) ⊎ (stop_status s ≡ 5) → ⊥
no_other (stop.Refused which refusal) e = grind arith
no_other stop.ReadFault e = grind arith
no_other stop.NoMemory e = grind arith

pub line_of_stop : (found : Option Command) (command : Command) (ts : List Taken) (s : Stop)
    → Some command ≡ found → StopsAt command ts s → IsLineOf found ts (stop_status s) (failure_line (failure.Stopped s))
line_of_stop found command ts s is ends =
    record {
      words = λ e. absurd (no_other s (inl e));
      refused = refused_so found command ts s is ends;
      read_fault = fault_line s;
      write_fault = λ e. absurd (no_other s (inr e));
      no_memory = memory_line s;
    }
