-- Two replies of one command to the same bytes.
use Rattle.std.specs.Prelude.{◌≡◌, ◌⊎◌, ℕ, List}
use Rattle.row_model.specs.declared.graph.Line.{Line}
use Rattle.text_parts.specs.Text.{counted_cycle}
use Rattle.command_input.specs.Words.{Command}
use Rattle.pq_cli.specs.Replies.{Replies}
use Rattle.one_text.specs.Laws.{HasLines}

-- the text tells a cycle: it has its lines in it
abbrev pub TellsCycle : List ℕ → Type 0
TellsCycle text = (lines : List Line) × HasLines text (counted_cycle lines)

-- the replies have one status, and one text unless each of them tells a cycle, of which there may be several
abbrev pub AreOneReply : ℕ → List ℕ → ℕ → List ℕ → Type 0
AreOneReply status text other others = (status ≡ other) × ((text ≡ others) ⊎ (TellsCycle text × TellsCycle others))

-- so have any two replies of a command to the same bytes
abbrev pub OneReplyLaw : Type 0
OneReplyLaw =
    (command : Command) (files : List (List ℕ)) (status other : ℕ) (text others : List ℕ) →
    Replies command files status text →
    Replies command files other others →
    AreOneReply status text other others
