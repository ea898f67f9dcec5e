-- What a run promises where nothing fails.
use Rattle.std.proofs.Common.{◌≡◌, ℕ, List, [], ◌∷◌, inl, inr, refl, subst, arith}
use Rattle.std.proofs.lemmas.Bool.{cases_eq}
use Rattle.row_model.specs.declared.kind.Kind.{Kind}
use Rattle.row_model.specs.declared.kind.Kind.TheVariants.{Proper}
use Rattle.verdict_text.specs.Verdict.{Claim, yes_claim, no_claim, VerdictValue}
use Rattle.row_model.specs.declared.refusal.Read.TheVariants as read
use Rattle.row_model.specs.Rows.{RowList}
use Rattle.instance_model.specs.Instance.{InstanceValue, IsSideOf, HasTextbookOrder, plain, proper}
use Rattle.command_input.specs.Instances.{instance_of}
use Rattle.command_input.specs.Words.{Solve, Check, Extend, Gen, Meet, ListOrders, UnitModel, CheckUnit, Core, CheckCore}
use Rattle.pq_cli.specs.Replies.{Replies}
use Rattle.verdict_text.specs.Text.{verdict_text}
use Rattle.verdict_judge.specs.YesTests.{HasSide}
use Rattle.verdict_replies.specs.Verdicts.{status_of}
use Rattle.pq_cli.specs.Solve.{NoStatusLaw, YesStatusLaw, IsYesAnd, ShowsTextbookOrders, OrdersLaw, IsNoAnd, TellsNo, IsCycleOf, CycleLaw}
use Rattle.pq_cli.specs.Check.{CheckLaw, AgreedLaw}
use Rattle.pq_cli.specs.Extend.{SessionLaw, BaseLaw}
use Rattle.pq_cli.specs.Core.{NoCoreLaw, CoreBelievedLaw, CoreAgreedLaw}
use Rattle.pq_cli.specs.Lists.{NoListLaw}
use Rattle.pq_cli.proofs.Reading.{same_read}
use Rattle.pq_cli.specs.Units.{UnitStatusLaw, PrintedUnitLaw, NoUnitLaw}
use Rattle.pq_cli.specs.UnitChecks.{UnitCheckLaw, UnitAgreedLaw}
use Rattle.pq_cli.proofs.Units.{told_status}
use Rattle.pq_cli.specs.Promised.{NamesCycle, SaysYes, SaysNo, IsSolved, IsPromised, PromiseLaw}

-- a text with a yes or a no says so
told_yes : (i : InstanceValue) (text : List ℕ) (v : VerdictValue) (claim : Claim) → v.claim ≡ claim → text ≡ verdict_text v → HasTextbookOrder i
    → IsYesAnd claim (λ value. (s : ℕ) → IsSideOf i s → HasSide value s (ShowsTextbookOrders i s)) → SaysYes i text
told_yes i text v (yes_claim value) is text_is order shows = record { exists = order; value = value; told = (v, text_is, is); orders = shows }
told_yes i text v (no_claim s lines) is text_is order shows = absurd shows

told_no : (i : InstanceValue) (text : List ℕ) (v : VerdictValue) (claim : Claim) → v.claim ≡ claim → text ≡ verdict_text v → IsNoAnd claim (IsCycleOf i) → NamesCycle i text
told_no i text v (yes_claim value) is text_is cycle = absurd cycle
told_no i text v (no_claim s lines) is text_is cycle = (s, lines, (v, text_is, is), cycle)

names_cycle : (i : InstanceValue) (text : List ℕ) → TellsNo text (IsCycleOf i) → NamesCycle i text
names_cycle i text told = told_no i text told.0 told.0.claim refl told.2 told.3

-- a reply of `solve` says yes or no by its status
solved : (i : InstanceValue) (claim : Claim) (status : ℕ) (text : List ℕ) → status ≡ status_of claim → (status ≡ 0 → SaysYes i text) → (status ≡ 1 → SaysNo i text) → IsSolved i status text
solved i (yes_claim value) status text is at_zero at_one = inl (is, at_zero is)
solved i (no_claim s lines) status text is at_zero at_one = inr (is, at_one is)

module _ (cycle_law : CycleLaw) (status_law : UnitStatusLaw) (printed_law : PrintedUnitLaw) (none_law : NoUnitLaw) (check_law : UnitCheckLaw) (agreed_law : UnitAgreedLaw) where
  unit_promised : (file bytes : List ℕ) (status : ℕ) (text : List ℕ) → Replies (UnitModel file) (bytes ∷ []) status text → IsPromised (UnitModel file) (bytes ∷ []) status text
  unfolding Replies
  unit_promised file bytes status text reply =
      let g = reply.0 in
      let e = reply.1 in
      let made = reply.2 in (
        g,
        e,
        elim (cases_eq status 0) [
          | inl zero ↦ inl (zero, printed_law file bytes text g e (subst (λ s. Replies (UnitModel file) (bytes ∷ []) s text) zero reply))
          | inr more ↦
              let one : status ≡ 1 = told_status g made.verdict made.verdict.claim status text made.tells more in
              inr (
                one,
                (status_law file bytes text status g e reply).1.0 one,
                names_cycle (proper g) text (cycle_law Proper file bytes text (proper g) e (none_law file file bytes text (subst (λ s. Replies (UnitModel file) (bytes ∷ []) s text) one reply))),
              )
        ],
      )

  unit_check_promised : (file unit bytes given : List ℕ) (status : ℕ) (text : List ℕ) → Replies (CheckUnit file unit) (bytes ∷ given ∷ []) status text
      → IsPromised (CheckUnit file unit) (bytes ∷ given ∷ []) status text
  unfolding Replies
  unit_check_promised file unit bytes given status text reply = (
    reply.0,
    reply.1,
    record {
      accepts = λ other wrote. agreed_law file other unit bytes given text status wrote reply;
      believes = check_law file unit bytes given text status reply.0 reply.1 reply;
    },
  )

module _ (no_law : NoStatusLaw) (yes_law : YesStatusLaw) (orders_law : OrdersLaw) (cycle_law : CycleLaw) where
  solve_promised : (kind : Kind) (file bytes : List ℕ) (status : ℕ) (text : List ℕ) → Replies (Solve kind file) (bytes ∷ []) status text → IsPromised (Solve kind file) (bytes ∷ []) status text
  unfolding Replies
  solve_promised kind file bytes status text reply =
      let i = reply.0 in
      let e = reply.1 in
      let made = reply.2 in
      let with_status : (k : ℕ) → status ≡ k → Replies (Solve kind file) (bytes ∷ []) k text = λ k is. subst (λ s. Replies (Solve kind file) (bytes ∷ []) s text) is reply in (
        i,
        e,
        solved i made.verdict.claim status text made.status_is
            (λ zero.
            let told = orders_law kind file bytes text i e (with_status 0 zero) in
            told_yes i text told.0 told.0.claim refl told.2 ((yes_law kind file bytes text status i e reply).0 zero) told.3)
            (λ one. record {
              none = (no_law kind file bytes text status i e reply).0 one;
              cycle = names_cycle i text (cycle_law kind file bytes text i e (with_status 1 one));
            }),
      )

  -- a reply of `solve` on a matrix
  solved_matrix : (kind : Kind) (bytes : List ℕ) (status : ℕ) (text : List ℕ) (m : RowList) → instance_of kind bytes ≡ read.Ok (plain kind m) → Replies (Solve kind []) (bytes ∷ []) status text → IsSolved (plain kind m) status text
  solved_matrix kind bytes status text m e reply =
      let there = solve_promised kind [] bytes status text reply in
      subst (λ i. IsSolved i status text) (same_read kind bytes (plain kind m) there.0 e there.1) there.2

  said_no : (kind : Kind) (bytes text : List ℕ) (m : RowList) → instance_of kind bytes ≡ read.Ok (plain kind m) → Replies (Solve kind []) (bytes ∷ []) 1 text → SaysNo (plain kind m) text
  said_no kind bytes text m e reply = elim (solved_matrix kind bytes 1 text m e reply) [ inl a ↦ absurd (omega (arith, a.0)) | inr b ↦ b.1 ]

  said_yes : (kind : Kind) (bytes text : List ℕ) (m : RowList) → instance_of kind bytes ≡ read.Ok (plain kind m) → Replies (Solve kind []) (bytes ∷ []) 0 text → SaysYes (plain kind m) text
  said_yes kind bytes text m e reply = elim (solved_matrix kind bytes 0 text m e reply) [ inl a ↦ a.1 | inr b ↦ absurd (omega (arith, b.0)) ]

  extend_promised : SessionLaw → BaseLaw → (kind : Kind) (file rows bytes given : List ℕ) (status : ℕ) (text : List ℕ) → Replies (Extend kind file rows) (bytes ∷ given ∷ []) status text
      → IsPromised (Extend kind file rows) (bytes ∷ given ∷ []) status text
  unfolding Replies
  extend_promised session base kind file rows bytes given status text reply =
      let with_status : (k : ℕ) → status ≡ k → Replies (Extend kind file rows) (bytes ∷ given ∷ []) k text = λ k is. subst (λ s. Replies (Extend kind file rows) (bytes ∷ given ∷ []) s text) is reply in (
        reply.0,
        reply.1,
        reply.2,
        reply.3,
        elim reply.4 [
          | inl without ↦ inr (without.1, said_no kind bytes text reply.0 reply.2 (base kind file rows [] bytes given text (with_status 1 without.1)))
          | inr within ↦ inl (within.1, within.0, session kind file rows bytes given text reply.0 reply.1 reply.2 reply.3 (with_status 0 within.1))
        ],
      )

  core_promised : NoCoreLaw → (kind : Kind) (file bytes : List ℕ) (status : ℕ) (text : List ℕ) → Replies (Core kind file) (bytes ∷ []) status text → IsPromised (Core kind file) (bytes ∷ []) status text
  unfolding Replies
  core_promised none kind file bytes status text reply =
      let with_status : (k : ℕ) → status ≡ k → Replies (Core kind file) (bytes ∷ []) k text = λ k is. subst (λ s. Replies (Core kind file) (bytes ∷ []) s text) is reply in (
        reply.0,
        reply.1,
        elim reply.2 [
          | inl core ↦ inl (core.1, core.0, core.2)
          | inr order ↦ inr (order.1, said_yes kind bytes text reply.0 reply.1 (none kind file [] bytes text (with_status 1 order.1)))
        ],
      )

  list_promised : NoListLaw → (kind : Kind) (file bytes : List ℕ) (count status : ℕ) (text : List ℕ) → Replies (ListOrders kind file count) (bytes ∷ []) status text
      → IsPromised (ListOrders kind file count) (bytes ∷ []) status text
  unfolding Replies
  list_promised none kind file bytes count status text reply =
      let with_status : (k : ℕ) → status ≡ k → Replies (ListOrders kind file count) (bytes ∷ []) k text = λ k is. subst (λ s. Replies (ListOrders kind file count) (bytes ∷ []) s text) is reply in (
        reply.0,
        reply.1,
        elim reply.2 [
          | inl without ↦ inr (without.1, said_no kind bytes text reply.0 reply.1 (none kind file [] bytes text count (with_status 1 without.1)))
          | inr within ↦ inl (within.1, within.0, within.2)
        ],
      )

check_promised : CheckLaw → AgreedLaw → (kind : Kind) (file verdict bytes given : List ℕ) (status : ℕ) (text : List ℕ) → Replies (Check kind file verdict) (bytes ∷ given ∷ []) status text
    → IsPromised (Check kind file verdict) (bytes ∷ given ∷ []) status text
unfolding Replies
check_promised check_law agreed_law kind file verdict bytes given status text reply = (
  reply.0,
  reply.1,
  record {
    accepts = λ other found wrote. agreed_law kind other file verdict bytes given text found status wrote reply;
    believes = λ zero. check_law kind file verdict bytes given text reply.0 reply.1 (subst (λ s. Replies (Check kind file verdict) (bytes ∷ given ∷ []) s text) zero reply);
  },
)

core_check_promised : CoreBelievedLaw → CoreAgreedLaw → (kind : Kind) (file core bytes given : List ℕ) (status : ℕ) (text : List ℕ) → Replies (CheckCore kind file core) (bytes ∷ given ∷ []) status text
    → IsPromised (CheckCore kind file core) (bytes ∷ given ∷ []) status text
unfolding Replies
core_check_promised believed agreed kind file core bytes given status text reply = (
  reply.0,
  reply.1,
  record {
    accepts = λ other wrote. agreed kind other file core bytes given text status wrote reply;
    believes = λ zero. believed kind file core bytes given text reply.0 reply.1 (subst (λ s. Replies (CheckCore kind file core) (bytes ∷ given ∷ []) s text) zero reply);
  },
)

-- what the replies to other commands than `solve` are known for
pub record KnownReplies : Type 0 where
  pub check : CheckLaw
  pub agreed : AgreedLaw
  pub session : SessionLaw
  pub base : BaseLaw
  pub no_core : NoCoreLaw
  pub core_believed : CoreBelievedLaw
  pub core_agreed : CoreAgreedLaw
  pub no_list : NoListLaw
  pub unit : UnitStatusLaw
  pub printed_unit : PrintedUnitLaw
  pub no_unit : NoUnitLaw
  pub unit_check : UnitCheckLaw
  pub unit_agreed : UnitAgreedLaw

module _ (no_law : NoStatusLaw) (yes_law : YesStatusLaw) (orders_law : OrdersLaw) (cycle_law : CycleLaw) (known : KnownReplies) where
  pub promise_law : PromiseLaw
  unfolding Replies
  promise_law (Solve kind file) [] status text reply = reply
  promise_law (Solve kind file) (bytes ∷ []) status text reply = solve_promised no_law yes_law orders_law cycle_law kind file bytes status text reply
  promise_law (Solve kind file) (bytes ∷ more ∷ files) status text reply = reply
  promise_law (Check kind file verdict) [] status text reply = reply
  promise_law (Check kind file verdict) (bytes ∷ []) status text reply = reply
  promise_law (Check kind file verdict) (bytes ∷ given ∷ []) status text reply = check_promised known.check known.agreed kind file verdict bytes given status text reply
  promise_law (Check kind file verdict) (bytes ∷ given ∷ more ∷ files) status text reply = reply
  promise_law (Extend kind file rows) [] status text reply = reply
  promise_law (Extend kind file rows) (bytes ∷ []) status text reply = reply
  promise_law (Extend kind file rows) (bytes ∷ given ∷ []) status text reply = extend_promised no_law yes_law orders_law cycle_law known.session known.base kind file rows bytes given status text reply
  promise_law (Extend kind file rows) (bytes ∷ given ∷ more ∷ files) status text reply = reply
  promise_law (Core kind file) [] status text reply = reply
  promise_law (Core kind file) (bytes ∷ []) status text reply = core_promised no_law yes_law orders_law cycle_law known.no_core kind file bytes status text reply
  promise_law (Core kind file) (bytes ∷ more ∷ files) status text reply = reply
  promise_law (CheckCore kind file core) [] status text reply = reply
  promise_law (CheckCore kind file core) (bytes ∷ []) status text reply = reply
  promise_law (CheckCore kind file core) (bytes ∷ given ∷ []) status text reply = core_check_promised known.core_believed known.core_agreed kind file core bytes given status text reply
  promise_law (CheckCore kind file core) (bytes ∷ given ∷ more ∷ files) status text reply = reply
  promise_law (Gen seed columns rows) [] status text reply = reply
  promise_law (Gen seed columns rows) (bytes ∷ files) status text reply = reply
  promise_law (Meet c first second) [] status text reply = reply
  promise_law (Meet c first second) (bytes ∷ []) status text reply = reply
  promise_law (Meet c first second) (bytes ∷ given ∷ []) status text reply = reply
  promise_law (Meet c first second) (bytes ∷ given ∷ more ∷ files) status text reply = reply
  promise_law (ListOrders kind file count) [] status text reply = reply
  promise_law (ListOrders kind file count) (bytes ∷ []) status text reply = list_promised no_law yes_law orders_law cycle_law known.no_list kind file bytes count status text reply
  promise_law (ListOrders kind file count) (bytes ∷ more ∷ files) status text reply = reply
  promise_law (UnitModel file) [] status text reply = reply
  promise_law (UnitModel file) (bytes ∷ []) status text reply = unit_promised cycle_law known.unit known.printed_unit known.no_unit known.unit_check known.unit_agreed file bytes status text reply
  promise_law (UnitModel file) (bytes ∷ more ∷ files) status text reply = reply
  promise_law (CheckUnit file unit) [] status text reply = reply
  promise_law (CheckUnit file unit) (bytes ∷ []) status text reply = reply
  promise_law (CheckUnit file unit) (bytes ∷ given ∷ []) status text reply = unit_check_promised cycle_law known.unit known.printed_unit known.no_unit known.unit_check known.unit_agreed file unit bytes given status text reply
  promise_law (CheckUnit file unit) (bytes ∷ given ∷ more ∷ files) status text reply = reply
