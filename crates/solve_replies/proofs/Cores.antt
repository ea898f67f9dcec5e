-- The reply with the rows of a matrix that are to blame.
use Rattle.std.proofs.Common.{◌≡◌, ◌∙◌, ℕ, ◌+◌, ◌*◌, ◌≤◌, List, length, Some, refl, sym, ap, subst, inl, inr, arith}
use Rattle.std.specs.Prelude.{Result, Ok, Err, IfOk, IsErrAnd}
use Rattle.std.proofs.Math.Nat.{mul-le-mul}
use Rattle.column_order.specs.Orders.{HasValidOrder}
use Rattle.row_model.specs.declared.kind.Kind.{Kind}
use Rattle.row_model.specs.Rows.{RowList}
use Rattle.core_text.specs.Told.{TellsCore}
use Rattle.core_text.specs.declared.core_parts.Core.{Core}
use Rattle.row_judge.specs.Costs.{AreMonotone, AreJudgements}
use Rattle.row_core.specs.Cored.{IsCoredWithin, judgements_of}
use Rattle.row_core.specs.declared.find.Cored.{Cored}
use Rattle.row_core.specs.declared.find.Cored.TheVariants as cored
use Rattle.pq_tree.specs.declared.PqTree.{PqTree}
use Rattle.verdict_replies.specs.declared.reply.Reply.{Reply}
use Rattle.c1p_solve.specs.Totals.{search_steps, answer_steps}
use Rattle.solve_replies.specs.Steps.{made_status, solver_costs, FindsCoreWithin}
use Rattle.verdict_text.specs.Verdict.{Claim, yes_claim, no_claim}
use Rattle.instance_model.specs.Instance.{InstanceValue, plain, instance_kind}
use Rattle.verdict_replies.specs.Cores.{IsCoreText}
use Rattle.solve_replies.specs.Cores.{IsCoreReply}
use Rattle.verdict_replies.specs.Verdicts.{IsClaimOf, status_of, IsVerdictReply}

-- the instance is that matrix
pub plain_of : (kind k : Kind) (i : InstanceValue) (m : RowList) → i ≡ plain k m → instance_kind i ≡ kind → i ≡ plain kind m
plain_of kind k i m e h = e ∙ ap (λ j. plain j m) (sym (ap instance_kind e) ∙ h)

-- a verdict on a matrix that has a valid order is a yes
pub yes_reply : (kind : Kind) (m : RowList) (status : ℕ) (text : List ℕ) → HasValidOrder m.columns m.rows → IsVerdictReply (plain kind m) status text → IsVerdictReply (plain kind m) 0 text
yes_reply kind m status text o r =
    record { verdict = r.verdict; counts = r.counts; holds = r.holds; status_is = is_yes r.verdict.claim r.holds.claim; text_is = r.text_is }
  where
    is_yes : (claim : Claim) → IsClaimOf (plain kind m) claim → 0 ≡ status_of claim
    is_yes (yes_claim value) h = refl
    is_yes (no_claim s lines) h = absurd (h.0.none o)

-- what is made of a core is the reply with it, and what is made of the tree that with the verdict, or memory was refused
pub core_told : {E : Type 0} (kind : Kind) (i : InstanceValue) (m : RowList) (made : Result Reply E) → i ≡ plain kind m → (HasValidOrder m.columns m.rows → ⊥) → IfOk made (λ reply. reply.status ≡ 0) →
    IfOk made (λ reply. IsCoreText kind m reply.text.items) → IfOk made (λ reply. (n : RowList) × (i ≡ plain kind n) × IsCoreReply kind n reply.status reply.text.items)
core_told kind i m (Ok reply) is none status text = (m, is, inl (none, status, text))
core_told kind i m (Err e) is none status text = tt

pub yes_told : {E : Type 0} (kind : Kind) (i : InstanceValue) (m : RowList) (made : Result Reply E) → i ≡ plain kind m → HasValidOrder m.columns m.rows → IfOk made (λ reply. reply.status ≡ 1) →
    IfOk made (λ reply. (k : Kind) → i ≡ plain k m → IsVerdictReply (plain k m) 0 reply.text.items) → IfOk made (λ reply. (n : RowList) × (i ≡ plain kind n) × IsCoreReply kind n reply.status reply.text.items)
yes_told kind i m (Ok reply) is some status text = (m, is, inr (some, status, text kind is))
yes_told kind i m (Err e) is some status text = tt

-- what was made of what was found has its status, or memory was refused
pub made_of_core : {E : Type 0} (made : Result Reply E) (m : RowList) (k s n : ℕ) → IfOk made (λ reply. reply.status ≡ k) → FindsCoreWithin m k s n → FindsCoreWithin m (made_status (λ reply. reply.status) made) s n
made_of_core (Ok reply) m k s n is w = subst (λ j. FindsCoreWithin m j s n) (sym is) w
made_of_core (Err e) m k s n is w = record { none = λ f. absurd (omega (arith, f)); core = λ f. absurd (omega (arith, f)); most = w.most }

-- no larger matrix costs the solver more
costs_monotone : AreMonotone solver_costs
costs_monotone part m small =
    let search : search_steps part.columns part.rows ≤ search_steps m.columns m.rows = mul-le-mul (omega (arith, small.columns)) (omega (arith, small.ones)) in
    omega (arith, small.columns, small.rows, small.ones, search)

-- so many judgements of the matrix, whatever comes of it
pub judged_most : (m : RowList) (s n : ℕ) → AreJudgements (Some solver_costs) m (2 * length m.rows + 1) s n → n ≤ s + (2 * length m.rows + 1) * answer_steps m
judged_most m s n any = any costs_monotone

-- the steps of what was found, and of what failed
pub core_within : (m : RowList) (found : Cored) (core : Core) (s n : ℕ) → found ≡ cored.Core core → TellsCore m core → AreJudgements (Some solver_costs) m (judgements_of found) s n
    → AreJudgements (Some solver_costs) m (2 * length m.rows + 1) s n → FindsCoreWithin m 0 s n
core_within m found core s n e tells judged any =
    let steps = subst (λ f. AreJudgements (Some solver_costs) m (judgements_of f) s n) e judged in
    record { none = λ f. absurd (omega (arith, f)); core = λ f. (core.rows, tells.core, steps costs_monotone); most = judged_most m s n any }

pub tree_within : (m : RowList) (found : Cored) (t : PqTree) (s n : ℕ) → found ≡ cored.Has t → IsCoredWithin solver_costs m s n found
    → AreJudgements (Some solver_costs) m (2 * length m.rows + 1) s n → FindsCoreWithin m 1 s n
tree_within m found t s n e h any =
    record { none = λ f. subst (IsCoredWithin solver_costs m s n) e h; core = λ f. absurd (omega (arith, f)); most = judged_most m s n any }

pub failed_within : {E : Type 0} (m : RowList) (r : Result Reply E) (P : E → Type 0) (s n : ℕ) → IsErrAnd r P → AreJudgements (Some solver_costs) m (2 * length m.rows + 1) s n
    → FindsCoreWithin m (made_status (λ reply. reply.status) r) s n
failed_within m (Ok reply) P s n h any = absurd h
failed_within m (Err e) P s n h any = record { none = λ f. absurd (omega (arith, f)); core = λ f. absurd (omega (arith, f)); most = judged_most m s n any }
