use Rattle.std.proofs.Common.{◌≡◌, ◌≤◌, length, sym, ◌∙◌}
use Rattle.core_text.specs.Texts.{IsInGrammar, core_text}
use Rattle.verdict_replies.specs.declared.TheConstants.{MAX_CORE_BYTES}
use Rattle.commands.proofs.check_core.judge.Goals as goal

pub returns : goal.returns
returns c = λ bytes whole.
    let held : (c.in-Bytes.bytes.items ≡ bytes) × (length bytes ≤ MAX_CORE_BYTES) = rw c.in-Bytes.is at whole in
    let o = c.in_ok-core.ensures in
    let within : IsInGrammar c.in-Some.core = rw c.in-Some.is at o.within in
    let found : c.deref.result.now ≡ core_text c.in-Some.core = rw c.in-Some.is at o.found in (
      held.1,
      (
        c.in-Some.core,
        within,
        sym held.0 ∙ sym c.deref.ensures.value ∙ found,
        (c.in_ok-check_core.ensures.invalid c.in-Invalid.reason).0 c.in-Invalid.is,
      ),
    )
