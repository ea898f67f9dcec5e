-- What `core` tells, and what `check-core` believes.
use Rattle.std.proofs.Common.{◌≡◌, ◌∙◌, ℕ, List, [], ◌∷◌, ◌++◌, codes, refl, sym, ap, subst, inl, inr, arith}
use Rattle.std.specs.List.{AllByRecursion}
use Rattle.row_model.specs.declared.kind.Kind.{Kind}
use Rattle.row_model.specs.declared.refusal.Read.TheVariants as read
use Rattle.row_model.specs.Rows.{RowList}
use Rattle.instance_model.specs.Instance.{plain, IsInstance}
use Rattle.core_text.specs.Laws.{OneCoreLaw}
use Rattle.core_text.specs.Texts.{TextValue}
use Rattle.verdict_judge.specs.Core.{PassesCore, IsAcceptedCore, FailsCoreFirst, NamesCoreLaw, ToldCoreLaw}
use Rattle.verdict_judge.specs.declared.core_outcome.CoreReason.{CoreReason}
use Rattle.command_input.specs.Instances.{instance_of, InstanceLaw}
use Rattle.pq_cli.specs.Replies.{Replies}
use Rattle.verdict_replies.specs.Cores.{core_value, IsCoreText, CoreGrammarLaw}
use Rattle.solve_replies.specs.Cores.{IsCoreReply}
use Rattle.commands.specs.Faults.{fault_status, fault_text}
use Rattle.commands.specs.CoreJudgements.{HasCoreText, IsCoreJudgement, IsCoreJudgementReply, core_judgement_fault}
use Rattle.pq_cli.specs.Core.{CoreStatusLaw, NoCoreLaw, CoreWrittenLaw, CoreBelievedLaw, CoreValidLaw, CoreAgreedLaw}
use Rattle.commands.specs.declared.core_judgement.CoreJudgement.{CoreJudgement}
use Rattle.commands.specs.declared.core_judgement.CoreJudgement.TheVariants as judgement

-- one matrix is read from the bytes
same_matrix : (kind : Kind) (bytes : List ℕ) (m n : RowList) → instance_of kind bytes ≡ read.Ok (plain kind m) → instance_of kind bytes ≡ read.Ok (plain kind n) → m ≡ n
same_matrix kind bytes m n e f = matrices kind m n (sym e ∙ f)
  where
    matrices : (kind : Kind) (m n : RowList) → read.Ok (plain kind m) ≡ read.Ok (plain kind n) → m ≡ n
    matrices kind m n e = cc

-- the status tells whether there is a valid order
pub status_law : CoreStatusLaw
unfolding Replies
status_law kind file bytes text status m e reply =
    let same : reply.0 ≡ m = same_matrix kind bytes reply.0 m reply.1 e in
    let here : IsCoreReply kind m status text = subst (λ n. IsCoreReply kind n status text) same reply.2 in
    elim here [
      | inl core ↦ ((λ z. core.0, λ none. core.1), (λ o. absurd (omega (arith, o, core.1)), λ has. absurd (core.0 has)))
      | inr order ↦ ((λ z. absurd (omega (arith, z, order.1)), λ none. absurd (none order.0)), (λ o. order.0, λ has. order.1))
    ]

pub none_law : NoCoreLaw
unfolding Replies
none_law kind file other bytes text reply = elim reply.2 [
  | inl core ↦ absurd (omega (arith, core.1))
  | inr order ↦ (plain kind reply.0, reply.1, order.2)
]

pub written_law : CoreWrittenLaw
unfolding Replies
written_law kind file bytes text m e reply =
    let same : reply.0 ≡ m = same_matrix kind bytes reply.0 m reply.1 e in
    let here : IsCoreReply kind m 0 text = subst (λ n. IsCoreReply kind n 0 text) same reply.2 in
    elim here [
      | inl core ↦ (core_value kind m core.2.parts, core.2.grammar, core.2.text_is, core.2.tells.core)
      | inr order ↦ absurd (omega (arith, order.1))
    ]

-- with status 0 the bytes are valid
valid_at_zero : (kind : Kind) (m : RowList) (bytes : List ℕ) (found : CoreJudgement) → IsCoreJudgement kind m bytes found → 0 ≡ fault_status (core_judgement_fault found) → HasCoreText bytes (IsAcceptedCore m kind)
valid_at_zero kind m bytes judgement.Valid h e = h
valid_at_zero kind m bytes judgement.TooLong h e = absurd (omega arith)
valid_at_zero kind m bytes judgement.NoCore h e = absurd (omega arith)
valid_at_zero kind m bytes (judgement.Fails r) h e = absurd (omega arith)

pub believed_law : NamesCoreLaw → CoreBelievedLaw
unfolding Replies
believed_law names kind file core bytes given text m e reply =
    let same : reply.0 ≡ m = same_matrix kind bytes reply.0 m reply.1 e in
    let here : IsCoreJudgementReply kind m given 0 text = subst (λ n. IsCoreJudgementReply kind n given 0 text) same reply.2 in
    let valid = valid_at_zero kind m given here.0 here.1 here.2.0 in
    (valid.1.0, valid.1.1, valid.1.2, names m kind valid.1.0 valid.1.3)

-- no test of a text that is accepted fails
at_first : (P : CoreReason → Type 0) (xs : List CoreReason) (x : CoreReason) (ys : List CoreReason) → AllByRecursion P (xs ++ x ∷ ys) → P x
at_first P [] x ys all = all.0
at_first P (w ∷ xs) x ys all = at_first P xs x ys all.1

accepted_fails_none : (m : RowList) (kind : Kind) (t : TextValue) (r : CoreReason) → IsAcceptedCore m kind t → FailsCoreFirst m kind t r → ⊥
accepted_fails_none m kind t r accepted first = first.fails (at_first (PassesCore m kind t) first.passed r first.later (subst (AllByRecursion (PassesCore m kind t)) first.order accepted))

-- bytes that are accepted are judged valid
accepted_is_valid : OneCoreLaw → (kind : Kind) (m : RowList) (bytes : List ℕ) (found : CoreJudgement) → HasCoreText bytes (IsAcceptedCore m kind) → IsCoreJudgement kind m bytes found
    → (fault_status (core_judgement_fault found) ≡ 0) × (fault_text (core_judgement_fault found) ≡ codes "valid")
accepted_is_valid one kind m bytes judgement.Valid has h = (refl, refl)
accepted_is_valid one kind m bytes judgement.TooLong has h = absurd (omega (arith, has.0))
accepted_is_valid one kind m bytes judgement.NoCore has h = absurd (h.1 has.1.0 has.1.1 has.1.2)
accepted_is_valid one kind m bytes (judgement.Fails r) has h =
    let same : has.1.0 ≡ h.1.0 = one has.1.0 h.1.0 has.1.1 h.1.1 (sym has.1.2 ∙ h.1.2) in
    absurd (accepted_fails_none m kind h.1.0 r (subst (IsAcceptedCore m kind) same has.1.3) h.1.3)

pub valid_law : OneCoreLaw → CoreValidLaw
unfolding Replies
valid_law one kind file core bytes given text status m e reply =
    let same : reply.0 ≡ m = same_matrix kind bytes reply.0 m reply.1 e in
    let here : IsCoreJudgementReply kind m given status text = subst (λ n. IsCoreJudgementReply kind n given status text) same reply.2 in (
      λ z. valid_at_zero kind m given here.0 here.1 (sym z ∙ here.2.0),
      λ has. here.2.0 ∙ (accepted_is_valid one kind m given here.0 has here.1).0,
    )

-- what `core` wrote with status 0 is accepted
module _ (instance_read : InstanceLaw) (grammar : CoreGrammarLaw) (told : ToldCoreLaw) (one : OneCoreLaw) where
  accepted_text : (kind : Kind) (m : RowList) (given : List ℕ) → IsInstance (plain kind m) → IsCoreText kind m given → HasCoreText given (IsAcceptedCore m kind)
  accepted_text kind m given within h =
      let fits = grammar kind m h.parts within h.grammar.columns.0 h.tells in
      (rw h.text_is fits.1, (core_value kind m h.parts, h.grammar, h.text_is, told m kind h.parts h.tells))

  pub agreed_law : CoreAgreedLaw
  unfolding Replies
  agreed_law kind file other core bytes given text status wrote checked =
      let m = wrote.0 in
      let same : checked.0 ≡ m = same_matrix kind bytes checked.0 m checked.1 wrote.1 in
      let here : IsCoreJudgementReply kind m given status text = subst (λ n. IsCoreJudgementReply kind n given status text) same checked.2 in
      elim wrote.2 [
        | inl found ↦
            let has = accepted_text kind m given (instance_read kind bytes (plain kind m) wrote.1).within found.2 in
            let valid = accepted_is_valid one kind m given here.0 has here.1 in
            (here.2.0 ∙ valid.0, here.2.1 ∙ ap (λ x. x ++ codes "\n") valid.1)
        | inr order ↦ absurd (omega (arith, order.1))
      ]
