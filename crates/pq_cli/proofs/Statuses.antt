-- The status of a reply, and whether there is a textbook order.
use Rattle.std.proofs.Common.{◌≡◌, ◌↔◌, ℕ, ◌-◌, List, [], ◌∷◌, Option, Some, None, subst, arith}
use Rattle.std.specs.Prelude.{slice_get, IsSomeAnd}
use Rattle.row_model.specs.declared.kind.Kind.{Kind}
use Rattle.row_model.specs.declared.kind.Kind.TheVariants.{Proper}
use Rattle.row_model.specs.declared.lists.Interval.{Interval}
use Rattle.row_model.specs.declared.refusal.Read.TheVariants as read
use Rattle.graph_model.specs.Graphs.{GraphValue, IsGraph}
use Rattle.proper_interval.specs.Models.{IsProperModel}
use Rattle.proper_interval.specs.Laws.{ModelLaw}
use Rattle.verdict_text.specs.Verdict.{SideValue, YesValue, Claim, yes_claim, no_claim}
use Rattle.pq_tree.specs.Outline.{IsFrontier}
use Rattle.instance_model.specs.Instance.{InstanceValue, plain, circular, convex, doubly, proper, robinson, IsSideOf, HasTextbookOrder, derived_matrix, IsInstance, IsWellFormed}
use Rattle.instance_model.specs.Laws.{IsValidFor, AreTextbookOrders, DerivedLaw, ValidLaw, ExistsLaw}
use Rattle.verdict_judge.specs.YesTests.{HasSide}
use Rattle.row_judge.specs.Blamed.{FirstConflictLaw}
use Rattle.command_input.specs.Words.{Solve}
use Rattle.command_input.specs.Instances.{instance_of, InstanceLaw}
use Rattle.pq_cli.specs.Replies.{Replies}
use Rattle.verdict_replies.specs.Verdicts.{ShowsAllOrders, ShowsSide, HasOrder, IsClaimOf, status_of, IsVerdictReply, GrammarLaw, ShownOrderLaw}
use Rattle.commands.specs.Passed.{AddedLaw}
use Rattle.pq_cli.specs.Solve.{NoStatusLaw, YesStatusLaw, IsYesAnd, TellsYes, ShowsTextbookOrders, OrdersLaw, IsNoAnd, IsCycleOf, CycleLaw, InGrammarLaw, NoModelStatusLaw, PrintedModelLaw}
use Rattle.pq_cli.proofs.Reading.{same_read}

-- a side that is shown has an order
side_order : ShownOrderLaw → (i : InstanceValue) (s : ℕ) (side : Option SideValue) → IsSomeAnd side (ShowsSide i s) → HasOrder i s
side_order shown i s None shows = absurd shows
side_order shown i s (Some side) shows = (side.order, shown (derived_matrix i s) side shows)

module _ (shown : ShownOrderLaw) (exists_textbook : ExistsLaw) (i : InstanceValue) (formed : IsWellFormed i) where
  -- a true claim with this status
  pub claim_no : (claim : Claim) (status : ℕ) → IsClaimOf i claim → status ≡ status_of claim → (status ≡ 1) ↔ (HasTextbookOrder i → ⊥)
  claim_no (yes_claim value) status true is = (
    λ e. absurd (omega arith),
    λ none. absurd (none (λ s side. (exists_textbook i s formed side).1 (side_order shown i s _ (true.0.each s side)))),
  )
  claim_no (no_claim s lines) status true is = (λ e all. true.0.none ((exists_textbook i s formed true.0.side).0 (all s true.0.side)), λ none. is)

  pub claim_yes : (claim : Claim) (status : ℕ) → IsClaimOf i claim → status ≡ status_of claim → (status ≡ 0) ↔ HasTextbookOrder i
  claim_yes (yes_claim value) status true is = (λ e s side. (exists_textbook i s formed side).1 (side_order shown i s _ (true.0.each s side)), λ all. is)
  claim_yes (no_claim s lines) status true is = (λ e. absurd (omega arith), λ all. absurd (true.0.none ((exists_textbook i s formed true.0.side).0 (all s true.0.side))))

-- the same orders are textbook orders of a side
same_orders : (i : InstanceValue) (s : ℕ) (P Q : List ℕ → Type 0) → ((o : List ℕ) → Q o ↔ P o) → AreTextbookOrders i s P → AreTextbookOrders i s Q
same_orders (plain kind m) s P Q same are = λ o. (λ t. (same o).1 ((are o).0 t), λ q. (are o).1 ((same o).0 q))
same_orders (circular m) s P Q same are = (
  λ o q. are.0 o ((same o).0 q),
  λ o turned is. (λ t. (same turned).1 ((are.1 o turned is).0 t), λ q. (are.1 o turned is).1 ((same turned).0 q)),
)
same_orders (convex g) s P Q same are = λ o. (λ t. (same o).1 ((are o).0 t), λ q. (are o).1 ((same o).0 q))
same_orders (doubly g) s P Q same are = λ o. (λ t. (same o).1 ((are o).0 t), λ q. (are o).1 ((same o).0 q))
same_orders (proper g) s P Q same are = λ o. (λ t. (same o).1 ((are o).0 t), λ q. (are o).1 ((same o).0 q))
same_orders (robinson d) s P Q same are = λ o. (λ t. (same o).1 ((are o).0 t), λ q. (are o).1 ((same o).0 q))

-- a side that shows the valid orders of its derived matrix shows the textbook orders
textbook_side : ShownOrderLaw → DerivedLaw → ValidLaw → (i : InstanceValue) (s : ℕ) (side : SideValue) → IsWellFormed i → IsSideOf i s → ShowsAllOrders (derived_matrix i s) side → ShowsTextbookOrders i s side
textbook_side shown derived_exactly valid_textbook i s side formed inside shows = record {
  orders = same_orders i s (IsValidFor (derived_matrix i s)) (IsFrontier side.tree) shows.orders (derived_exactly i s formed inside);
  order = valid_textbook i s side.order formed inside (shown (derived_matrix i s) side shows);
}

textbook_shown : ShownOrderLaw → DerivedLaw → ValidLaw → (i : InstanceValue) (s : ℕ) (side : Option SideValue) → IsWellFormed i → IsSideOf i s → IsSomeAnd side (ShowsSide i s) → IsSomeAnd side (ShowsTextbookOrders i s)
textbook_shown shown derived valid i s None formed inside shows = absurd shows
textbook_shown shown derived valid i s (Some side) formed inside shows = textbook_side shown derived valid i s side formed inside shows

-- a reply to `solve` is a solution of the instance that is read
solution_of : (kind : Kind) (file bytes text : List ℕ) (status : ℕ) (i : InstanceValue) → instance_of kind bytes ≡ read.Ok i → Replies (Solve kind file) (bytes ∷ []) status text → IsVerdictReply i status text
unfolding Replies
solution_of kind file bytes text status i e reply = subst (λ j. IsVerdictReply j status text) (same_read kind bytes i reply.0 e reply.1) reply.2

pub no_law : ShownOrderLaw → InstanceLaw → ExistsLaw → NoStatusLaw
no_law shown instance_read exists kind file bytes text status i e reply =
    let solution = solution_of kind file bytes text status i e reply in
    claim_no shown exists i (instance_read kind bytes i e).formed solution.verdict.claim status solution.holds.claim solution.status_is

pub yes_law : ShownOrderLaw → InstanceLaw → ExistsLaw → YesStatusLaw
yes_law shown instance_read exists kind file bytes text status i e reply =
    let solution = solution_of kind file bytes text status i e reply in
    claim_yes shown exists i (instance_read kind bytes i e).formed solution.verdict.claim status solution.holds.claim solution.status_is

-- a verdict on the instance in a file is in the grammar
pub in_grammar_law : InstanceLaw → GrammarLaw → InGrammarLaw
in_grammar_law instance_read grammar kind bytes i v e counts true = let found = instance_read kind bytes i e in grammar i v found.within found.formed counts true

-- a solution with status 1 is a no, with the cycle of a side
no_at_one : FirstConflictLaw → (i : InstanceValue) (claim : Claim) → 1 ≡ status_of claim → IsClaimOf i claim → IsNoAnd claim (IsCycleOf i)
no_at_one blames i (yes_claim value) is true = absurd (omega (arith, is))
no_at_one blames i (no_claim s lines) is true = (true.0.side, true.1, true.2, true.3, blames (derived_matrix i s) lines true.3)

pub cycle_law : InGrammarLaw → FirstConflictLaw → CycleLaw
cycle_law grammar blames kind file bytes text i e reply =
    let solution = solution_of kind file bytes text 1 i e reply in (
      solution.verdict,
      grammar kind bytes i solution.verdict e solution.counts solution.holds,
      solution.text_is,
      no_at_one blames i solution.verdict.claim solution.status_is solution.holds.claim,
    )

-- a solution with status 0 is a yes
yes_at_zero : (i : InstanceValue) (claim : Claim) (P : YesValue → Type 0) → 0 ≡ status_of claim → IsClaimOf i claim → ((value : YesValue) → IsClaimOf i (yes_claim value) → P value) → IsYesAnd claim P
yes_at_zero i (yes_claim value) P is true h = h value true
yes_at_zero i (no_claim s lines) P is true h = absurd (omega (arith, is))

tells : InGrammarLaw → (kind : Kind) (bytes text : List ℕ) (i : InstanceValue) (P : YesValue → Type 0) → instance_of kind bytes ≡ read.Ok i → IsVerdictReply i 0 text
    → ((value : YesValue) → IsClaimOf i (yes_claim value) → P value) → TellsYes text P
tells grammar kind bytes text i P e solution h = (
  solution.verdict,
  grammar kind bytes i solution.verdict e solution.counts solution.holds,
  solution.text_is,
  yes_at_zero i solution.verdict.claim P solution.status_is solution.holds.claim h,
)

pub orders_law : ShownOrderLaw → InstanceLaw → InGrammarLaw → DerivedLaw → ValidLaw → OrdersLaw
orders_law shown instance_read grammar derived valid kind file bytes text i e reply =
    let formed = (instance_read kind bytes i e).formed in
    let P : YesValue → Type 0 = λ value. (s : ℕ) → IsSideOf i s → HasSide value s (ShowsTextbookOrders i s) in
    tells grammar kind bytes text i P e (solution_of kind file bytes text 0 i e reply) (λ value true s side. textbook_shown shown derived valid i s (slice_get value.sides (s - 1)) formed side (true.0.each s side))

-- of a graph without a proper model a true claim is a no
no_model_claim : AddedLaw → (g : GraphValue) (claim : Claim) (status : ℕ) → IsInstance (proper g) → IsGraph g → IsClaimOf (proper g) claim → status ≡ status_of claim → ((list : List Interval) → IsProperModel g list → ⊥)
    → status ≡ 1
no_model_claim added g (yes_claim value) status h formed true is none = absurd (none value.added.intervals (added (proper g) value h formed true.0 true.1))
no_model_claim added g (no_claim s lines) status h formed true is none = is

pub no_model_law : ShownOrderLaw → InstanceLaw → ExistsLaw → ModelLaw → AddedLaw → NoModelStatusLaw
no_model_law shown instance_read exists from_model added file bytes text status g e reply =
    let found = instance_read Proper bytes (proper g) e in
    let solution = solution_of Proper file bytes text status (proper g) e reply in (
      λ one list model. (no_law shown instance_read exists Proper file bytes text status (proper g) e reply).0 one (λ s side. from_model g list found.formed model),
      no_model_claim added g solution.verdict.claim status found.within found.formed solution.holds.claim solution.status_is,
    )

pub model_law : InstanceLaw → InGrammarLaw → AddedLaw → PrintedModelLaw
model_law instance_read grammar added file bytes text g e reply =
    let found = instance_read Proper bytes (proper g) e in
    tells grammar Proper bytes text (proper g) (λ value. IsProperModel g value.added.intervals) e (solution_of Proper file bytes text 0 (proper g) e reply) (λ value true. added (proper g) value found.within found.formed true.0 true.1)
