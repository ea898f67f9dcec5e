-- The text of a core of a matrix.
use Rattle.std.specs.Prelude.{◌≡◌, ℕ, ◌≤◌, List, length}
use Rattle.row_model.specs.declared.kind.Kind.{Kind}
use Rattle.row_model.specs.Rows.{RowList}
use Rattle.odd_cycle.specs.Short.{IsShort}
use Rattle.instance_model.specs.Instance.{plain, IsInstance}
use Rattle.core_text.specs.Parts.{CoreParts}
use Rattle.core_text.specs.Told.{TellsCore}
use Rattle.core_text.specs.Texts.{TextValue, IsInGrammar, core_text}
use Rattle.verdict_replies.specs.declared.TheConstants.{MAX_CORE_BYTES}

-- what the text of a core of a matrix of this kind says
abbrev pub core_value : Kind → RowList → CoreParts → TextValue
core_value kind m parts = record { kind = kind; columns = m.columns; parts = parts }

-- the text is that of a core of the matrix, with a short cycle
pub record IsCoreText (kind : Kind) (m : RowList) (text : List ℕ) : Type 0 where
  pub parts : CoreParts
  pub grammar : IsInGrammar (core_value kind m parts)
  pub tells : TellsCore m parts
  pub short : IsShort m.columns parts.lines
  pub text_is : text ≡ core_text (core_value kind m parts)

-- the parts of a core of a matrix within the limits are in the grammar, and their text has no more bytes than one that is judged
abbrev pub CoreGrammarLaw : Type 0
CoreGrammarLaw =
    (kind : Kind) (m : RowList) (parts : CoreParts) → IsInstance (plain kind m) → 1 ≤ m.columns → TellsCore m parts →
    IsInGrammar (core_value kind m parts) × (length (core_text (core_value kind m parts)) ≤ MAX_CORE_BYTES)
