-- What a reply to `meet` tells of the trees in its files.
use Rattle.std.specs.Prelude.{◌≡◌, ◌↔◌, ℕ, ◌≤◌, List, [], ◌∷◌, length}
use Rattle.row_model.specs.declared.TheConstants.{MAX_COLUMNS, MAX_FILE_BYTES}
use Rattle.pq_tree.specs.Outline.{Outline}
use Rattle.tree_meet.specs.Meets.{IsCommon}
use Rattle.command_input.specs.Words.{Meet}
use Rattle.command_input.specs.TreeFiles.{WritesTree}
use Rattle.commands.specs.Meetings.{TellsCommon, TellsApart}
use Rattle.pq_cli.specs.Replies.{Replies}

-- the files write these trees
pub record WriteTrees (c : ℕ) (first second : List ℕ) (t u : Outline) : Type 0 where
  pub short_first : length first ≤ MAX_FILE_BYTES
  pub short_second : length second ≤ MAX_FILE_BYTES
  pub writes_first : WritesTree c first t
  pub writes_second : WritesTree c second u

-- the status is 0 exactly where the trees share a frontier, and 1 exactly where they share none
abbrev pub MeetStatusLaw : Type 0
MeetStatusLaw =
    (c : ℕ) (name other first second text : List ℕ) (status : ℕ) (t u : Outline) →
    c ≤ MAX_COLUMNS →
    WriteTrees c first second t u →
    Replies (Meet c name other) (first ∷ second ∷ []) status text →
    ((status ≡ 0) ↔ ((o : List ℕ) × IsCommon t u o)) × ((status ≡ 1) ↔ ((o : List ℕ) → IsCommon t u o → ⊥))

-- with 0 the text tells a tree of exactly the common frontiers, and with 1 an odd cycle of the rows of both trees
abbrev pub MeetTextLaw : Type 0
MeetTextLaw =
    (c : ℕ) (name other first second text : List ℕ) (status : ℕ) (t u : Outline) →
    c ≤ MAX_COLUMNS →
    WriteTrees c first second t u →
    Replies (Meet c name other) (first ∷ second ∷ []) status text →
    (status ≡ 0 → TellsCommon c t u text) × (status ≡ 1 → TellsApart c t u text)
