use Rattle.std.proofs.Common.{sym, subst}
use Rattle.text_parts.specs.Seen.{Gives}
use Rattle.core_text.proofs.CoreLaws.{head_chain}
use Rattle.core_text.proofs.read.read_core.Goals as goal

pub returns : goal.returns
returns c = subst (Gives (λ t. t) c.read_parts.result) (sym (head_chain _ _ _ _ _ _ _ c.in_ok-rest.ensures c.in_ok-kind.ensures c.in_ok-rest-2.ensures c.in_ok-columns.ensures.value)) c.read_parts.ensures
