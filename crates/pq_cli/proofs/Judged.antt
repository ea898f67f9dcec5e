-- What a check says of the bytes of a verdict.
use Rattle.std.proofs.Common.{◌≡◌, ◌∙◌, ℕ, List, [], ◌∷◌, ◌++◌, codes, refl, sym, ap, subst, arith}
use Rattle.std.specs.List.{AllByRecursion}
use Rattle.verdict_text.specs.Verdict.{VerdictValue}
use Rattle.verdict_text.specs.Grammar.{IsVerdict}
use Rattle.verdict_text.specs.Text.{verdict_text}
use Rattle.row_model.specs.declared.kind.Kind.{Kind}
use Rattle.row_model.specs.declared.refusal.Read.TheVariants as read
use Rattle.instance_model.specs.Instance.{InstanceValue}
use Rattle.verdict_judge.specs.Accepted.{Passes, IsAccepted, FailsFirst}
use Rattle.verdict_judge.specs.declared.outcome.Reason.{Reason}
use Rattle.verdict_judge.specs.Laws.{TrueLaw}
use Rattle.verdict_judge.specs.Exact.{TrueYesLaw}
use Rattle.commands.specs.Faults.{fault_status, fault_text}
use Rattle.commands.specs.Judgements.{HasVerdict, IsJudgement, IsJudgementReply, judgement_fault}
use Rattle.pq_cli.specs.Replies.{Replies}
use Rattle.verdict_replies.specs.Verdicts.{IsVerdictReply}
use Rattle.commands.specs.Passed.{PassedLaw}
use Rattle.command_input.specs.Instances.{instance_of, InstanceLaw}
use Rattle.pq_cli.specs.Check.{CheckLaw, ValidStatusLaw, TrueStatusLaw, SolvedLaw, AgreedLaw}
use Rattle.commands.specs.declared.judgement.Judgement.{Judgement}
use Rattle.commands.specs.declared.judgement.Judgement.TheVariants as judgement
use Rattle.pq_cli.proofs.Reading.{same_read}

-- no two verdicts have one text
abbrev pub OneTextLaw : Type 0
OneTextLaw = (v w : VerdictValue) → IsVerdict v → IsVerdict w → verdict_text v ≡ verdict_text w → v ≡ w

-- with status 0 the bytes are valid
valid_at_zero : (i : InstanceValue) (bytes : List ℕ) (found : Judgement) → IsJudgement i bytes found → 0 ≡ fault_status (judgement_fault found) → HasVerdict bytes (IsAccepted i)
valid_at_zero i bytes judgement.Valid h e = h
valid_at_zero i bytes judgement.TooLong h e = absurd (omega arith)
valid_at_zero i bytes judgement.NoVerdict h e = absurd (omega arith)
valid_at_zero i bytes (judgement.Fails r) h e = absurd (omega arith)

pub check_law : InstanceLaw → TrueLaw → CheckLaw
unfolding Replies
check_law instance_read true_law kind file verdict bytes given text i e reply =
    let same : reply.0 ≡ i = same_read kind bytes i reply.0 e reply.1 in
    let valid : HasVerdict given (IsAccepted i) = subst (λ j. HasVerdict given (IsAccepted j)) same (valid_at_zero reply.0 given reply.2.0 reply.2.1 reply.2.2.0) in
    (valid.1.0, valid.1.1, valid.1.2, true_law i valid.1.0 (instance_read kind bytes i e).formed valid.1.1 valid.1.3)

-- no test of a verdict that is accepted fails
at_first : (P : Reason → Type 0) (xs : List Reason) (x : Reason) (ys : List Reason) → AllByRecursion P (xs ++ x ∷ ys) → P x
at_first P [] x ys all = all.0
at_first P (w ∷ xs) x ys all = at_first P xs x ys all.1

accepted_fails_none : (i : InstanceValue) (v : VerdictValue) (r : Reason) → IsAccepted i v → FailsFirst i v r → ⊥
accepted_fails_none i v r accepted first = first.fails (at_first (Passes i v) first.passed r first.later (subst (AllByRecursion (Passes i v)) first.order accepted))

-- bytes that are accepted are judged valid
accepted_is_valid : OneTextLaw → (i : InstanceValue) (bytes : List ℕ) (found : Judgement) → HasVerdict bytes (IsAccepted i) → IsJudgement i bytes found → (fault_status (judgement_fault found) ≡ 0) × (fault_text (judgement_fault found) ≡ codes "valid")
accepted_is_valid one_text i bytes judgement.Valid has h = (refl, refl)
accepted_is_valid one_text i bytes judgement.TooLong has h = absurd (omega (arith, has.0))
accepted_is_valid one_text i bytes judgement.NoVerdict has h = absurd (h.1 has.1.0 has.1.1 has.1.2)
accepted_is_valid one_text i bytes (judgement.Fails r) has h =
    let same : has.1.0 ≡ h.1.0 = one_text has.1.0 h.1.0 has.1.1 h.1.1 (sym has.1.2 ∙ h.1.2) in
    absurd (accepted_fails_none i h.1.0 r (subst (IsAccepted i) same has.1.3) h.1.3)

pub status_law : OneTextLaw → ValidStatusLaw
unfolding Replies
status_law one_text kind file verdict bytes given text status i e reply =
    let same : reply.0 ≡ i = same_read kind bytes i reply.0 e reply.1 in
    let judging : IsJudgementReply i given status text = subst (λ j. IsJudgementReply j given status text) same reply.2 in (
      λ zero. valid_at_zero i given judging.0 judging.1 (sym zero ∙ judging.2.0),
      λ has. judging.2.0 ∙ (accepted_is_valid one_text i given judging.0 has judging.1).0,
    )

-- and of a yes with status 0 exactly where it is true
pub true_status_law : InstanceLaw → TrueLaw → TrueYesLaw → OneTextLaw → TrueStatusLaw
true_status_law instance_read true_law true_yes one_text kind file verdict bytes text status i v e linear is told few reply =
    let formed = (instance_read kind bytes i e).formed in
    let valid = status_law one_text kind file verdict bytes (verdict_text v) text status i e reply in (
      λ zero. let has = valid.0 zero in true_law i v formed is (subst (IsAccepted i) (one_text has.1.0 v has.1.1 is (sym has.1.2)) has.1.3),
      λ holds. valid.1 (few, (v, is, refl, true_yes i v formed linear is told holds)),
    )

-- what `solve` replies is accepted, and judged valid
module _ (instance_read : InstanceLaw) (passed : PassedLaw) where
  accepted_reply : (kind : Kind) (bytes given : List ℕ) (status : ℕ) (i : InstanceValue) → instance_of kind bytes ≡ read.Ok i → IsVerdictReply i status given → HasVerdict given (IsAccepted i)
  accepted_reply kind bytes given status i e reply =
      let found = instance_read kind bytes i e in
      passed i status given found.within found.formed reply

  pub solved_law : SolvedLaw
  unfolding Replies
  solved_law kind file bytes given status i e solved =
      subst (λ j. HasVerdict given (IsAccepted j)) (same_read kind bytes i solved.0 e solved.1) (accepted_reply kind bytes given status solved.0 solved.1 solved.2)

  pub agreed_law : OneTextLaw → AgreedLaw
  unfolding Replies
  agreed_law one_text kind file other verdict bytes given text status found solved checked =
      let i = solved.0 in
      let same : checked.0 ≡ i = same_read kind bytes i checked.0 solved.1 checked.1 in
      let judged : IsJudgementReply i given found text = subst (λ j. IsJudgementReply j given found text) same checked.2 in
      let valid = accepted_is_valid one_text i given judged.0 (accepted_reply kind bytes given status i solved.1 solved.2) judged.1 in
      (judged.2.0 ∙ valid.0, judged.2.1 ∙ ap (λ text. text ++ codes "\n") valid.1)
