-- The verdict on a matrix without a valid order, which an odd cycle shows.
use Rattle.std.proofs.Common.{◌≡◌, ◌∙◌, ℕ, ◌≤◌, List, [], ◌∷◌, refl, sym, ap, arith}
use Rattle.column_order.specs.Orders.{HasValidOrder}
use Rattle.row_model.specs.Cycles.{IsOddCycle}
use Rattle.row_model.specs.Rows.{RowList}
use Rattle.row_model.specs.declared.graph.Line.{Line}
use Rattle.row_model.specs.declared.kind.Kind.{Kind}
use Rattle.verdict_text.specs.Verdict.{no_claim, VerdictValue}
use Rattle.verdict_text.specs.Text.{verdict_text}
use Rattle.verdict_text.specs.declared.verdict.Version.TheVariants.{Two}
use Rattle.odd_cycle.specs.Short.{IsShort}
use Rattle.row_judge.specs.Judges.{IsFirstConflict}
use Rattle.instance_model.specs.Instance.{plain, IsInstance}
use Rattle.verdict_replies.specs.Verdicts.{IsFirstWithout, IsVerdictOf, IsVerdictReply}
use Rattle.verdict_replies.proofs.Sizes.{first_side}

-- a no about the only side
abbrev no_verdict : Kind → ℕ → ℕ → List Line → VerdictValue
no_verdict kind columns side lines = record { version = Two; kind = kind; columns = columns ∷ []; claim = no_claim side lines }

no_is_true : (kind : Kind) (m : RowList) (lines : List Line) → IsOddCycle m.columns m.rows lines → IsShort m.columns lines → IsFirstConflict m lines → (HasValidOrder m.columns m.rows → ⊥) → IsVerdictOf (plain kind m) (no_verdict kind m.columns 1 lines)
no_is_true kind m lines cycle short first none =
    let without : IsFirstWithout (plain kind m) 1 = record { side = first_side (plain kind m); before = λ s from to. absurd (omega (arith, from, to)); none = none } in
    record { version = refl; kind = refl; columns = refl; claim = (without, cycle, short, first) }

-- the text of that verdict is a reply
pub no_reply : (kind : Kind) (columns side : ℕ) (lines cycle : List Line) (text : List ℕ) → side ≡ 1 → lines ≡ cycle → text ≡ verdict_text (no_verdict kind columns side lines)
    → 1 ≤ columns → (m : RowList) → m.columns ≡ columns → IsInstance (plain kind m) → IsOddCycle m.columns m.rows cycle → IsShort m.columns cycle → IsFirstConflict m cycle → (HasValidOrder m.columns m.rows → ⊥) → IsVerdictReply (plain kind m) 1 text
no_reply kind columns side lines cycle text one same f some m is within odd short first none =
    let true = no_is_true kind m cycle odd short first none in
    record {
      verdict = no_verdict kind m.columns 1 cycle;
      counts = ((omega (arith, some, is), within.1), tt);
      holds = true;
      status_is = refl;
      text_is = f ∙ ap (λ s. verdict_text (no_verdict kind columns s lines)) one ∙ ap (λ ls. verdict_text (no_verdict kind columns 1 ls)) same ∙ ap (λ c. verdict_text (no_verdict kind c 1 cycle)) (sym is);
    }
