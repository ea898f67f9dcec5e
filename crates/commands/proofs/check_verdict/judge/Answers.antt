use Rattle.std.proofs.Common.{◌≡◌, ◌≤◌, length, sym, ◌∙◌}
use Rattle.verdict_text.specs.Grammar.{IsVerdict}
use Rattle.verdict_text.specs.Text.{verdict_text}
use Rattle.verdict_text.specs.Value.{verdict_value}
use Rattle.verdict_replies.specs.declared.TheConstants.{MAX_VERDICT_BYTES}
use Rattle.commands.proofs.check_verdict.judge.Goals as goal

pub returns : goal.returns
returns c = λ bytes whole.
    let held : (c.in-Bytes.bytes.items ≡ bytes) × (length bytes ≤ MAX_VERDICT_BYTES) = rw c.in-Bytes.is at whole in
    let o = c.in_ok-verdict.ensures in
    let within : IsVerdict (verdict_value c.in-Some.verdict) = rw c.in-Some.is at o.within in
    let found : c.deref.result.now ≡ verdict_text (verdict_value c.in-Some.verdict) = rw c.in-Some.is at o.found in (
      held.1,
      (
        verdict_value c.in-Some.verdict,
        within,
        sym held.0 ∙ sym c.deref.ensures.value ∙ found,
        (c.in_ok-check.ensures.invalid c.in-Invalid.reason).0 c.in-Invalid.is,
      ),
    )
