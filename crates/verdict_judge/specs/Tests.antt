-- The tests of a verdict on an instance, in their order. A test is named by the reason that is given where it fails.
use Rattle.std.specs.Prelude.{ℕ, zero, suc, List, [], ◌∷◌, ◌++◌, length, map, flat_map}
use Rattle.row_model.specs.Rows.{RowList}
use Rattle.row_model.specs.declared.kind.Kind.{Kind}
use Rattle.row_model.specs.declared.kind.Kind.TheVariants.{Clones}
use Rattle.verdict_text.specs.Verdict.{Claim, yes_claim, no_claim, VerdictValue}
use Rattle.verdict_text.specs.declared.verdict.Version.{Version}
use Rattle.verdict_text.specs.declared.verdict.Version.TheVariants.{One, Two}
use Rattle.instance_model.specs.Instance.{InstanceValue, plain, proper, instance_columns, derived_matrix}
use Rattle.verdict_judge.specs.declared.outcome.Reason.{Reason}
use Rattle.verdict_judge.specs.declared.outcome.Reason.TheVariants as reason

-- the numbers 1 to n
abbrev pub numbers : ℕ → List ℕ
numbers zero = []
numbers (suc n) = numbers n ++ suc n ∷ []

-- of side s of a yes of version 2: whether its tree stands for every order
abbrev pub complete_tests : Version → ℕ → List Reason
complete_tests One s = []
complete_tests Two s = reason.Complete s ∷ []

-- of side s of a yes, with its derived matrix: the order, the tree by each row, and in version 2 the tree by all rows
abbrev pub side_tests : Version → ℕ → RowList → List Reason
side_tests version s m = reason.Order s ∷ (map (reason.Tree s) (numbers (length m.rows)) ++ complete_tests version s)

-- of what a kind of matrix adds to a yes: clones add their places and their contigs, and no other kind anything
abbrev pub kind_tests : Kind → List Reason
kind_tests Clones = reason.Places ∷ reason.Contigs ∷ []
kind_tests kind = []

-- of what the kind adds to a yes
abbrev pub added_tests : InstanceValue → List Reason
added_tests (plain kind matrix) = kind_tests kind
added_tests (proper graph) = reason.Intervals ∷ []
added_tests other = []

-- of the sides of a yes, one after another
abbrev pub sides_tests : Version → InstanceValue → List Reason
sides_tests version i = flat_map (λ s. side_tests version s (derived_matrix i s)) (numbers (length (instance_columns i)))

-- of a yes: its sides, and then what the kind adds
abbrev pub yes_tests : Version → InstanceValue → List Reason
yes_tests version i = sides_tests version i ++ added_tests i

-- of a no with a cycle of so many lines: their number, then the pair of each, then that each pair is a new one, then what each line joins
abbrev pub no_tests : ℕ → List Reason
no_tests count = reason.Length count ∷ (map reason.Pair (numbers count) ++ (map reason.Repeat (numbers count) ++ map reason.Join (numbers count)))

-- of what a verdict of a version claims
abbrev pub claim_tests : Version → InstanceValue → Claim → List Reason
claim_tests version i (yes_claim value) = yes_tests version i
claim_tests version i (no_claim side lines) = no_tests (length lines)

-- of a verdict: its kind, its columns, and what it claims
abbrev pub tests : InstanceValue → VerdictValue → List Reason
tests i v = reason.Kind ∷ reason.Columns ∷ claim_tests v.version i v.claim
