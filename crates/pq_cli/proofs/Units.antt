-- The unit model of a graph, and the test of one.
use Rattle.std.proofs.Common.{◌↔◌, ◌≡◌, ◌≢◌, ◌∙◌, ℕ, ◌≤◌, List, [], ◌∷◌, ◌++◌, length, slice_get, Option, Some, None, refl, sym, ap, subst, inl, inr, arith, codes}
use Rattle.std.specs.Prelude.{IsSomeAnd}
use Rattle.std.proofs.lemmas.Bool.{cases_eq}
use Rattle.row_model.specs.declared.kind.Kind.TheVariants.{Proper}
use Rattle.row_model.specs.declared.refusal.Read.TheVariants as read
use Rattle.graph_model.specs.Graphs.{GraphValue}
use Rattle.unit_model.specs.Models.{IsUnitModel}
use Rattle.unit_model.specs.Text.{UnitValue}
use Rattle.unit_model.specs.Laws.{UnitLaw, OneUnitLaw, TextLengthLaw}
use Rattle.verdict_text.specs.Verdict.{SideValue, Claim, yes_claim, no_claim, VerdictValue}
use Rattle.verdict_text.specs.Text.{verdict_text}
use Rattle.instance_model.specs.Instance.{InstanceValue, proper}
use Rattle.command_input.specs.Words.{UnitModel}
use Rattle.command_input.specs.Instances.{instance_of, InstanceLaw}
use Rattle.pq_cli.specs.Replies.{Replies}
use Rattle.verdict_replies.specs.Verdicts.{status_of}
use Rattle.pq_cli.specs.Solve.{NoStatusLaw}
use Rattle.solve_replies.specs.Models.{HasUnitModel, TellsUnit, TellsModel, TellsByClaim, IsModelReply}
use Rattle.verdict_replies.specs.Units.{IsUnitOf}
use Rattle.commands.specs.Faults.{fault_status, fault_text}
use Rattle.commands.specs.Findings.{HasUnit, IsFinding, finding_fault, IsFindingReply}
use Rattle.pq_cli.specs.Units.{UnitStatusLaw, PrintedUnitLaw, NoUnitLaw}
use Rattle.pq_cli.specs.UnitChecks.{UnitCheckLaw, UnitAgreedLaw}
use Rattle.verdict_replies.specs.declared.TheConstants.{MAX_VERDICT_BYTES}
use Rattle.commands.specs.declared.finding.Finding.{Finding}
use Rattle.commands.specs.declared.finding.Finding.TheVariants as finding
use Rattle.pq_cli.proofs.Reading.{same_read}

-- a graph is told from an instance
graph_in : GraphValue → InstanceValue → GraphValue
graph_in other (proper g) = g
graph_in other i = other

same_graph : (g k : GraphValue) → proper g ≡ proper k → g ≡ k
unfolding graph_in
same_graph g k e = ap (graph_in g) e

same_reading : (bytes : List ℕ) (g k : GraphValue) → instance_of Proper bytes ≡ read.Ok (proper g) → instance_of Proper bytes ≡ read.Ok (proper k) → k ≡ g
same_reading bytes g k e f = same_graph k g (same_read Proper bytes (proper g) (proper k) e f)

-- what the text of a reply with status 0 tells
told_some : (g : GraphValue) (text : List ℕ) (side : Option SideValue) → IsSomeAnd side (λ s. TellsModel g s.order text) → (order : List ℕ) × TellsModel g order text
told_some g text None h = absurd h
told_some g text (Some side) h = (side.order, h)

told_at_zero : (g : GraphValue) (verdict : VerdictValue) (claim : Claim) (status : ℕ) (text : List ℕ) → TellsByClaim g verdict claim status text → status ≡ 0 → (order : List ℕ) × TellsModel g order text
told_at_zero g verdict (yes_claim value) status text h zero = told_some g text (slice_get value.sides 0) h.1
told_at_zero g verdict (no_claim s lines) status text h zero = absurd (omega (arith, h.0, zero))

told_at_one : (g : GraphValue) (verdict : VerdictValue) (claim : Claim) (status : ℕ) (text : List ℕ) → TellsByClaim g verdict claim status text → status ≡ 1 → (1 ≡ status_of claim) × (text ≡ verdict_text verdict)
told_at_one g verdict (yes_claim value) status text h one = absurd (omega (arith, h.0, one))
told_at_one g verdict (no_claim s lines) status text h one = (refl, h.1)

unit_of_told : (g : GraphValue) (order text : List ℕ) → TellsModel g order text → TellsUnit g text
unit_of_told g order text t = (t.0, t.1.grammar, t.2, (t.1.vertices, t.1.model))

-- the status is one of two
pub told_status : (g : GraphValue) (verdict : VerdictValue) (claim : Claim) (status : ℕ) (text : List ℕ) → TellsByClaim g verdict claim status text → status ≢ 0 → status ≡ 1
told_status g verdict (yes_claim value) status text h n = absurd (n h.0)
told_status g verdict (no_claim s lines) status text h n = h.0

pub no_unit_law : NoUnitLaw
unfolding Replies
no_unit_law file other bytes text reply =
    let g = reply.0 in
    let made = reply.2 in
    let no = told_at_one g made.verdict made.verdict.claim 1 text made.tells refl in
    (proper g, reply.1, record { verdict = made.verdict; counts = made.counts; holds = made.holds; status_is = no.0; text_is = no.1 })

module _ (instance_read : InstanceLaw) (no_law : NoStatusLaw) (unit_law : UnitLaw) where
  -- where the status is 1 there is no unit model
  none_at_one : (file bytes text : List ℕ) (g : GraphValue) → instance_of Proper bytes ≡ read.Ok (proper g) → Replies (UnitModel file) (bytes ∷ []) 1 text → HasUnitModel g → ⊥
  none_at_one file bytes text g e reply has =
      let formed = (instance_read Proper bytes (proper g) e).formed in
      let order = unit_law g has.0 has.1 formed has.2 in
      (no_law Proper file bytes text 1 (proper g) e (no_unit_law file file bytes text reply)).0 refl (λ s side. order)

  -- status 0 comes exactly where there is one
  zero_where_one : (file bytes text : List ℕ) (status : ℕ) (g : GraphValue) → instance_of Proper bytes ≡ read.Ok (proper g) → Replies (UnitModel file) (bytes ∷ []) status text → IsModelReply g status text
      → (status ≡ 0) ↔ HasUnitModel g
  zero_where_one file bytes text status g e reply made = (
    λ zero. let told = told_at_zero g made.verdict made.verdict.claim status text made.tells zero in (told.1.0.size, told.1.0.lefts, told.1.1.model),
    λ has. elim (cases_eq status 0) [
      | inl zero ↦ zero
      | inr n ↦
          let one = told_status g made.verdict made.verdict.claim status text made.tells n in
          absurd (none_at_one file bytes text g e (subst (λ s. Replies (UnitModel file) (bytes ∷ []) s text) one reply) has)
    ],
  )

  pub unit_status_law : UnitStatusLaw
  unfolding Replies
  unit_status_law file bytes text status g e reply =
      let same : reply.0 ≡ g = same_reading bytes g reply.0 e reply.1 in
      let made : IsModelReply g status text = subst (λ k. IsModelReply k status text) same reply.2 in
      let zero = zero_where_one file bytes text status g e reply made in (
        zero,
        (
          λ one. λ has. absurd (omega (arith, one, zero.1 has)),
          λ none. told_status g made.verdict made.verdict.claim status text made.tells (λ z. none (zero.0 z)),
        ),
      )

pub printed_unit_law : PrintedUnitLaw
unfolding Replies
printed_unit_law file bytes text g e reply =
    let same : reply.0 ≡ g = same_reading bytes g reply.0 e reply.1 in
    let made : IsModelReply g 0 text = subst (λ k. IsModelReply k 0 text) same reply.2 in
    let told = told_at_zero g made.verdict made.verdict.claim 0 text made.tells refl in
    unit_of_told g told.0 text told.1

-- a finding with status 0 is that the text is valid
valid_at_zero : (g : GraphValue) (bytes : List ℕ) (f : Finding) → IsFinding g bytes f → 0 ≡ fault_status (finding_fault f) → HasUnit bytes (IsUnitOf g)
valid_at_zero g bytes finding.Valid h zero = h
valid_at_zero g bytes finding.TooLong h zero = absurd (omega arith)
valid_at_zero g bytes finding.NoUnit h zero = absurd (omega arith)
valid_at_zero g bytes finding.Vertices h zero = absurd (omega arith)
valid_at_zero g bytes finding.Model h zero = absurd (omega arith)

-- and it is found where it holds
found_valid : OneUnitLaw → (g : GraphValue) (bytes : List ℕ) (f : Finding) → IsFinding g bytes f → HasUnit bytes (IsUnitOf g) → (fault_status (finding_fault f) ≡ 0) × (fault_text (finding_fault f) ≡ codes "valid")
found_valid one g bytes finding.Valid h has = (refl, refl)
found_valid one g bytes finding.TooLong h has = absurd (omega (arith, h, has.0))
found_valid one g bytes finding.NoUnit h has = absurd (h.1 has.1.0 has.1.1 has.1.2)
found_valid one g bytes finding.Vertices h has =
    let same : has.1.0 ≡ h.1.0 = one has.1.0 h.1.0 has.1.1 h.1.1 (sym has.1.2 ∙ h.1.2) in
    absurd (h.1.3 (sym (ap (λ (t : UnitValue). t.vertices) same) ∙ has.1.3.0))
found_valid one g bytes finding.Model h has =
    let same : has.1.0 ≡ h.1.0 = one has.1.0 h.1.0 has.1.1 h.1.1 (sym has.1.2 ∙ h.1.2) in
    absurd (h.1.3.1 (subst (λ (t : UnitValue). IsUnitModel g t.size t.lefts) same has.1.3.1))

module _ (one : OneUnitLaw) where
  pub unit_check_law : UnitCheckLaw
  unfolding Replies
  unit_check_law file unit bytes given text status g e reply =
      let same : reply.0 ≡ g = same_reading bytes g reply.0 e reply.1 in
      let made : IsFindingReply g given status text = subst (λ k. IsFindingReply k given status text) same reply.2 in (
        λ zero. valid_at_zero g given made.0 made.1 (sym zero ∙ made.2.0),
        λ has. made.2.0 ∙ (found_valid one g given made.0 made.1 has).0,
      )

  pub unit_agreed_law : TextLengthLaw → UnitAgreedLaw
  unfolding Replies
  unit_agreed_law short file other unit bytes given text status printed reply =
      let g = reply.0 in
      let told = printed_unit_law other bytes given g reply.1 printed in
      let few : length given ≤ MAX_VERDICT_BYTES = omega (arith, short told.0 told.1, ap (λ (xs : List ℕ). length xs) told.2) in
      let has : HasUnit given (IsUnitOf g) = (few, told) in
      let valid = found_valid one g given reply.2.0 reply.2.1 has in
      (reply.2.2.0 ∙ valid.0, reply.2.2.1 ∙ ap (λ line. line ++ codes "\n") valid.1)
