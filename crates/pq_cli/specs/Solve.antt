-- What a reply to `solve` says.
use Rattle.std.specs.Prelude.{◌≡◌, ◌↔◌, ℕ, ◌+◌, List, [], ◌∷◌}
use Rattle.row_model.specs.declared.kind.Kind.{Kind}
use Rattle.row_model.specs.declared.kind.Kind.TheVariants.{Proper}
use Rattle.row_model.specs.declared.graph.Line.{Line}
use Rattle.row_model.specs.declared.lists.Interval.{Interval}
use Rattle.row_model.specs.declared.refusal.Read.TheVariants as read
use Rattle.row_model.specs.Cycles.{IsOddCycle}
use Rattle.graph_model.specs.Graphs.{GraphValue}
use Rattle.proper_interval.specs.Models.{IsProperModel}
use Rattle.pq_tree.specs.Outline.{IsFrontier}
use Rattle.odd_cycle.specs.Short.{IsShort}
use Rattle.row_judge.specs.Judges.{IsFirstConflict}
use Rattle.row_judge.specs.Blamed.{IsReason}
use Rattle.verdict_text.specs.Verdict.{SideValue, YesValue, Claim, yes_claim, no_claim, VerdictValue}
use Rattle.verdict_text.specs.Grammar.{AreColumnCounts, IsVerdict}
use Rattle.verdict_text.specs.Text.{verdict_text}
use Rattle.instance_model.specs.Instance.{InstanceValue, proper, IsSideOf, IsTextbookOrder, HasTextbookOrder, derived_matrix}
use Rattle.instance_model.specs.Laws.{AreTextbookOrders}
use Rattle.verdict_judge.specs.YesTests.{HasSide}
use Rattle.command_input.specs.Words.{Solve}
use Rattle.command_input.specs.Instances.{instance_of}
use Rattle.verdict_replies.specs.Verdicts.{IsVerdictOf}
use Rattle.pq_cli.specs.Replies.{Replies}

-- the status of a reply is 1 exactly where the instance in the file has no textbook order
abbrev pub NoStatusLaw : Type 0
NoStatusLaw =
    (kind : Kind) (file bytes text : List ℕ) (status : ℕ) (i : InstanceValue) →
    instance_of kind bytes ≡ read.Ok i →
    Replies (Solve kind file) (bytes ∷ []) status text →
    (status ≡ 1) ↔ (HasTextbookOrder i → ⊥)

-- the status of a reply is 0 exactly where the instance in the file has a textbook order
abbrev pub YesStatusLaw : Type 0
YesStatusLaw =
    (kind : Kind) (file bytes text : List ℕ) (status : ℕ) (i : InstanceValue) →
    instance_of kind bytes ≡ read.Ok i →
    Replies (Solve kind file) (bytes ∷ []) status text →
    (status ≡ 0) ↔ HasTextbookOrder i

-- the claim is a yes of which P holds
abbrev pub IsYesAnd : Claim → (YesValue → Type 0) → Type 0
IsYesAnd (yes_claim value) P = P value
IsYesAnd (no_claim side lines) P = ⊥

-- the text is that of a verdict of the grammar with a yes of which P holds
abbrev pub TellsYes : List ℕ → (YesValue → Type 0) → Type 0
TellsYes text P = (v : VerdictValue) × IsVerdict v × (text ≡ verdict_text v) × IsYesAnd v.claim P

-- the frontiers of the tree are exactly the textbook orders of the side, of a circular instance up to rotation, and the
-- order is one
pub record ShowsTextbookOrders (i : InstanceValue) (s : ℕ) (side : SideValue) : Type 0 where
  pub orders : AreTextbookOrders i s (IsFrontier side.tree)
  pub order : IsTextbookOrder i s side.order

-- a reply with status 0 tells a tree and an order for each side: the frontiers are exactly the textbook orders of the
-- side
abbrev pub OrdersLaw : Type 0
OrdersLaw =
    (kind : Kind) (file bytes text : List ℕ) (i : InstanceValue) →
    instance_of kind bytes ≡ read.Ok i →
    Replies (Solve kind file) (bytes ∷ []) 0 text →
    TellsYes text (λ value. (s : ℕ) → IsSideOf i s → HasSide value s (ShowsTextbookOrders i s))

-- the claim is a no of which P holds
abbrev pub IsNoAnd : Claim → (ℕ → List Line → Type 0) → Type 0
IsNoAnd (yes_claim value) P = ⊥
IsNoAnd (no_claim side lines) P = P side lines

-- the text is that of a verdict of the grammar with a no of which P holds
abbrev pub TellsNo : List ℕ → (ℕ → List Line → Type 0) → Type 0
TellsNo text P = (v : VerdictValue) × IsVerdict v × (text ≡ verdict_text v) × IsNoAnd v.claim P

-- A side of the instance, and a simple odd cycle of the incompatibility graph of its derived rows, which is short. It
-- is one of the rows up to the first that leaves no valid order with those before it, and that row is a reason of it.
abbrev pub IsCycleOf : InstanceValue → ℕ → List Line → Type 0
IsCycleOf i s lines =
    IsSideOf i s × IsOddCycle (derived_matrix i s).columns (derived_matrix i s).rows lines × IsShort (derived_matrix i s).columns lines ×
    (first : IsFirstConflict (derived_matrix i s) lines) × IsReason (first.before + 1) lines

-- a reply with status 1 tells a side and such a cycle of it
abbrev pub CycleLaw : Type 0
CycleLaw =
    (kind : Kind) (file bytes text : List ℕ) (i : InstanceValue) →
    instance_of kind bytes ≡ read.Ok i →
    Replies (Solve kind file) (bytes ∷ []) 1 text →
    TellsNo text (IsCycleOf i)

-- each verdict that a reply may tell, one of the instance in the file, is one of the grammar
abbrev pub InGrammarLaw : Type 0
InGrammarLaw =
    (kind : Kind) (bytes : List ℕ) (i : InstanceValue) (v : VerdictValue) →
    instance_of kind bytes ≡ read.Ok i →
    AreColumnCounts v.columns →
    IsVerdictOf i v →
    IsVerdict v

-- of a graph the status is 1 exactly where it has no proper model at all
abbrev pub NoModelStatusLaw : Type 0
NoModelStatusLaw =
    (file bytes text : List ℕ) (status : ℕ) (g : GraphValue) →
    instance_of Proper bytes ≡ read.Ok (proper g) →
    Replies (Solve Proper file) (bytes ∷ []) status text →
    (status ≡ 1) ↔ ((list : List Interval) → IsProperModel g list → ⊥)

-- of a graph a reply with status 0 tells a proper model
abbrev pub PrintedModelLaw : Type 0
PrintedModelLaw =
    (file bytes text : List ℕ) (g : GraphValue) →
    instance_of Proper bytes ≡ read.Ok (proper g) →
    Replies (Solve Proper file) (bytes ∷ []) 0 text →
    TellsYes text (λ value. IsProperModel g value.added.intervals)
