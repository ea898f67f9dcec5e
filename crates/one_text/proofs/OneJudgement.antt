-- Two judgements on the same bytes.
use Rattle.std.proofs.Common.{◌≡◌, ◌∙◌, ℕ, List, [], ◌∷◌, ◌++◌, get_or, drop, codes, refl, sym, ap, subst, inl, arith}
use Rattle.std.specs.List.{AllByRecursion}
use Rattle.row_model.specs.Rows.{RowList}
use Rattle.row_model.specs.declared.kind.Kind.{Kind}
use Rattle.graph_model.specs.Graphs.{GraphValue}
use Rattle.core_text.specs.Laws.{OneCoreLaw}
use Rattle.unit_model.specs.Laws.{OneUnitLaw}
use Rattle.unit_model.specs.Text.{UnitValue}
use Rattle.instance_model.specs.Instance.{InstanceValue}
use Rattle.verdict_text.specs.Verdict.{VerdictValue}
use Rattle.verdict_judge.specs.Accepted.{Passes, IsFirstFailing, IsAccepted, FailsFirst}
use Rattle.verdict_judge.specs.Tests.{tests}
use Rattle.verdict_judge.specs.Core.{PassesCore, core_tests, IsAcceptedCore, FailsCoreFirst}
use Rattle.verdict_replies.specs.Units.{IsUnitOf}
use Rattle.commands.specs.Faults.{fault_status, fault_text}
use Rattle.commands.specs.Judgements.{HasVerdict, IsJudgement, judgement_fault, IsJudgementReply}
use Rattle.commands.specs.declared.judgement.Judgement.{Judgement}
use Rattle.commands.specs.declared.judgement.Judgement.TheVariants as judgement
use Rattle.commands.specs.CoreJudgements.{IsCoreJudgement, core_judgement_fault, IsCoreJudgementReply}
use Rattle.commands.specs.declared.core_judgement.CoreJudgement.{CoreJudgement}
use Rattle.commands.specs.declared.core_judgement.CoreJudgement.TheVariants as core_judgement
use Rattle.commands.specs.Findings.{IsFinding, finding_fault, IsFindingReply}
use Rattle.commands.specs.declared.finding.Finding.{Finding}
use Rattle.commands.specs.declared.finding.Finding.TheVariants as finding
use Rattle.one_text.specs.One.{AreOneReply}
use Rattle.one_text.proofs.Textbook.{OneVerdictLaw}

module _ {R : Type 0} (P : R → Type 0) where
  -- where all tests are passed, none is the first that fails
  passes : (xs ys : List R) (r : R) → AllByRecursion P (xs ++ r ∷ ys) → P r
  passes [] ys r all = all.0
  passes (x ∷ xs) ys r all = passes xs ys r all.1

  none_fails : (all : List R) (r : R) → AllByRecursion P all → IsFirstFailing P all r → ⊥
  none_fails all r passed first = first.fails (passes first.passed first.later r (subst (AllByRecursion P) first.order passed))

  -- one test is the first that fails
  same_first : (xs ys : List R) (x : R) (us vs : List R) (u : R) → xs ++ x ∷ us ≡ ys ++ u ∷ vs → AllByRecursion P xs → (P x → ⊥) → AllByRecursion P ys → (P u → ⊥) → x ≡ u
  same_first [] [] x us vs u same passed fails passed_too fails_too = ap (λ l. get_or l 0 x) same
  same_first [] (y ∷ ys) x us vs u same passed fails passed_too fails_too = absurd (fails (subst P (sym (ap (λ l. get_or l 0 x) same)) passed_too.0))
  same_first (y ∷ xs) [] x us vs u same passed fails passed_too fails_too = absurd (fails_too (subst P (ap (λ l. get_or l 0 u) same) passed.0))
  same_first (y ∷ xs) (z ∷ ys) x us vs u same passed fails passed_too fails_too = same_first xs ys x us vs u (ap (drop 1) same) passed.1 fails passed_too.1 fails_too

  one_first : (all : List R) (r q : R) → IsFirstFailing P all r → IsFirstFailing P all q → r ≡ q
  one_first all r q here there = same_first here.passed there.passed r here.later there.later q (sym here.order ∙ there.order) here.pass here.fails there.pass there.fails

module _ (one_text : OneVerdictLaw) (i : InstanceValue) (bytes : List ℕ) where
  same_verdict : {P Q : VerdictValue → Type 0} (h : HasVerdict bytes P) (k : HasVerdict bytes Q) → h.1.0 ≡ k.1.0
  same_verdict h k = one_text h.1.0 k.1.0 h.1.1 k.1.1 (sym h.1.2 ∙ k.1.2)

  valid_or_fails : (r : _) → HasVerdict bytes (IsAccepted i) → HasVerdict bytes (λ v. FailsFirst i v r) → ⊥
  valid_or_fails r h k = none_fails (Passes i k.1.0) (tests i k.1.0) r (subst (IsAccepted i) (same_verdict h k) h.1.3) k.1.3

  one_judgement : (a b : Judgement) → IsJudgement i bytes a → IsJudgement i bytes b → a ≡ b
  one_judgement judgement.Valid judgement.Valid h k = refl
  one_judgement judgement.Valid judgement.TooLong h k = absurd (omega (arith, h.0, k))
  one_judgement judgement.Valid judgement.NoVerdict h k = absurd (k.1 h.1.0 h.1.1 h.1.2)
  one_judgement judgement.Valid (judgement.Fails r) h k = absurd (valid_or_fails r h k)
  one_judgement judgement.TooLong judgement.Valid h k = absurd (omega (arith, h, k.0))
  one_judgement judgement.TooLong judgement.TooLong h k = refl
  one_judgement judgement.TooLong judgement.NoVerdict h k = absurd (omega (arith, h, k.0))
  one_judgement judgement.TooLong (judgement.Fails r) h k = absurd (omega (arith, h, k.0))
  one_judgement judgement.NoVerdict judgement.Valid h k = absurd (h.1 k.1.0 k.1.1 k.1.2)
  one_judgement judgement.NoVerdict judgement.TooLong h k = absurd (omega (arith, h.0, k))
  one_judgement judgement.NoVerdict judgement.NoVerdict h k = refl
  one_judgement judgement.NoVerdict (judgement.Fails r) h k = absurd (h.1 k.1.0 k.1.1 k.1.2)
  one_judgement (judgement.Fails r) judgement.Valid h k = absurd (valid_or_fails r k h)
  one_judgement (judgement.Fails r) judgement.TooLong h k = absurd (omega (arith, h.0, k))
  one_judgement (judgement.Fails r) judgement.NoVerdict h k = absurd (k.1 h.1.0 h.1.1 h.1.2)
  one_judgement (judgement.Fails r) (judgement.Fails q) h k =
      ap judgement.Fails (one_first (Passes i k.1.0) (tests i k.1.0) r q (subst (λ v. FailsFirst i v r) (same_verdict h k) h.1.3) k.1.3)

  pub one_judgement_reply : (status other : ℕ) (text others : List ℕ) → IsJudgementReply i bytes status text → IsJudgementReply i bytes other others → AreOneReply status text other others
  one_judgement_reply status other text others here there =
      let same = one_judgement here.0 there.0 here.1 there.1 in
      (here.2.0 ∙ ap (λ a. fault_status (judgement_fault a)) same ∙ sym there.2.0, inl (here.2.1 ∙ ap (λ a. fault_text (judgement_fault a) ++ codes "\n") same ∙ sym there.2.1))

module _ (one_text : OneCoreLaw) (kind : Kind) (m : RowList) (bytes : List ℕ) where
  one_core_judgement : (a b : CoreJudgement) → IsCoreJudgement kind m bytes a → IsCoreJudgement kind m bytes b → a ≡ b
  one_core_judgement core_judgement.Valid core_judgement.Valid h k = refl
  one_core_judgement core_judgement.Valid core_judgement.TooLong h k = absurd (omega (arith, h.0, k))
  one_core_judgement core_judgement.Valid core_judgement.NoCore h k = absurd (k.1 h.1.0 h.1.1 h.1.2)
  one_core_judgement core_judgement.Valid (core_judgement.Fails r) h k =
      let same = one_text h.1.0 k.1.0 h.1.1 k.1.1 (sym h.1.2 ∙ k.1.2) in absurd (none_fails (PassesCore m kind k.1.0) (core_tests k.1.0) r (subst (IsAcceptedCore m kind) same h.1.3) k.1.3)
  one_core_judgement core_judgement.TooLong core_judgement.Valid h k = absurd (omega (arith, h, k.0))
  one_core_judgement core_judgement.TooLong core_judgement.TooLong h k = refl
  one_core_judgement core_judgement.TooLong core_judgement.NoCore h k = absurd (omega (arith, h, k.0))
  one_core_judgement core_judgement.TooLong (core_judgement.Fails r) h k = absurd (omega (arith, h, k.0))
  one_core_judgement core_judgement.NoCore core_judgement.Valid h k = absurd (h.1 k.1.0 k.1.1 k.1.2)
  one_core_judgement core_judgement.NoCore core_judgement.TooLong h k = absurd (omega (arith, h.0, k))
  one_core_judgement core_judgement.NoCore core_judgement.NoCore h k = refl
  one_core_judgement core_judgement.NoCore (core_judgement.Fails r) h k = absurd (h.1 k.1.0 k.1.1 k.1.2)
  one_core_judgement (core_judgement.Fails r) core_judgement.Valid h k =
      let same = one_text k.1.0 h.1.0 k.1.1 h.1.1 (sym k.1.2 ∙ h.1.2) in absurd (none_fails (PassesCore m kind h.1.0) (core_tests h.1.0) r (subst (IsAcceptedCore m kind) same k.1.3) h.1.3)
  one_core_judgement (core_judgement.Fails r) core_judgement.TooLong h k = absurd (omega (arith, h.0, k))
  one_core_judgement (core_judgement.Fails r) core_judgement.NoCore h k = absurd (k.1 h.1.0 h.1.1 h.1.2)
  one_core_judgement (core_judgement.Fails r) (core_judgement.Fails q) h k =
      let same = one_text h.1.0 k.1.0 h.1.1 k.1.1 (sym h.1.2 ∙ k.1.2) in
      ap core_judgement.Fails (one_first (PassesCore m kind k.1.0) (core_tests k.1.0) r q (subst (λ t. FailsCoreFirst m kind t r) same h.1.3) k.1.3)

  pub one_core_reply : (status other : ℕ) (text others : List ℕ) → IsCoreJudgementReply kind m bytes status text → IsCoreJudgementReply kind m bytes other others → AreOneReply status text other others
  one_core_reply status other text others here there =
      let same = one_core_judgement here.0 there.0 here.1 there.1 in
      (here.2.0 ∙ ap (λ a. fault_status (core_judgement_fault a)) same ∙ sym there.2.0, inl (here.2.1 ∙ ap (λ a. fault_text (core_judgement_fault a) ++ codes "\n") same ∙ sym there.2.1))

module _ (one_text : OneUnitLaw) (g : GraphValue) (bytes : List ℕ) where
  one_finding : (a b : Finding) → IsFinding g bytes a → IsFinding g bytes b → a ≡ b
  one_finding finding.Valid finding.Valid h k = refl
  one_finding finding.Valid finding.TooLong h k = absurd (omega (arith, h.0, k))
  one_finding finding.Valid finding.NoUnit h k = absurd (k.1 h.1.0 h.1.1 h.1.2)
  one_finding finding.Valid finding.Vertices h k =
      let same = one_text h.1.0 k.1.0 h.1.1 k.1.1 (sym h.1.2 ∙ k.1.2) in absurd (k.1.3 (subst (IsUnitOf g) same h.1.3).0)
  one_finding finding.Valid finding.Model h k =
      let same = one_text h.1.0 k.1.0 h.1.1 k.1.1 (sym h.1.2 ∙ k.1.2) in absurd (k.1.3.1 (subst (IsUnitOf g) same h.1.3).1)
  one_finding finding.TooLong finding.TooLong h k = refl
  one_finding finding.TooLong finding.Valid h k = absurd (omega (arith, h, k.0))
  one_finding finding.TooLong finding.NoUnit h k = absurd (omega (arith, h, k.0))
  one_finding finding.TooLong finding.Vertices h k = absurd (omega (arith, h, k.0))
  one_finding finding.TooLong finding.Model h k = absurd (omega (arith, h, k.0))
  one_finding finding.NoUnit finding.NoUnit h k = refl
  one_finding finding.NoUnit finding.Valid h k = absurd (h.1 k.1.0 k.1.1 k.1.2)
  one_finding finding.NoUnit finding.TooLong h k = absurd (omega (arith, h.0, k))
  one_finding finding.NoUnit finding.Vertices h k = absurd (h.1 k.1.0 k.1.1 k.1.2)
  one_finding finding.NoUnit finding.Model h k = absurd (h.1 k.1.0 k.1.1 k.1.2)
  one_finding finding.Vertices finding.Vertices h k = refl
  one_finding finding.Vertices finding.Valid h k =
      let same = one_text k.1.0 h.1.0 k.1.1 h.1.1 (sym k.1.2 ∙ h.1.2) in absurd (h.1.3 (subst (IsUnitOf g) same k.1.3).0)
  one_finding finding.Vertices finding.TooLong h k = absurd (omega (arith, h.0, k))
  one_finding finding.Vertices finding.NoUnit h k = absurd (k.1 h.1.0 h.1.1 h.1.2)
  one_finding finding.Vertices finding.Model h k =
      let same = one_text k.1.0 h.1.0 k.1.1 h.1.1 (sym k.1.2 ∙ h.1.2) in absurd (h.1.3 (ap (λ (t : UnitValue). t.vertices) (sym same) ∙ k.1.3.0))
  one_finding finding.Model finding.Model h k = refl
  one_finding finding.Model finding.Valid h k =
      let same = one_text k.1.0 h.1.0 k.1.1 h.1.1 (sym k.1.2 ∙ h.1.2) in absurd (h.1.3.1 (subst (IsUnitOf g) same k.1.3).1)
  one_finding finding.Model finding.TooLong h k = absurd (omega (arith, h.0, k))
  one_finding finding.Model finding.NoUnit h k = absurd (k.1 h.1.0 h.1.1 h.1.2)
  one_finding finding.Model finding.Vertices h k =
      let same = one_text h.1.0 k.1.0 h.1.1 k.1.1 (sym h.1.2 ∙ k.1.2) in absurd (k.1.3 (ap (λ (t : UnitValue). t.vertices) (sym same) ∙ h.1.3.0))

  pub one_finding_reply : (status other : ℕ) (text others : List ℕ) → IsFindingReply g bytes status text → IsFindingReply g bytes other others → AreOneReply status text other others
  one_finding_reply status other text others here there =
      let same = one_finding here.0 there.0 here.1 there.1 in
      (here.2.0 ∙ ap (λ a. fault_status (finding_fault a)) same ∙ sym there.2.0, inl (here.2.1 ∙ ap (λ a. fault_text (finding_fault a) ++ codes "\n") same ∙ sym there.2.1))
