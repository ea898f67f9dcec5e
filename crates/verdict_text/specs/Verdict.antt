-- What a verdict says.
use Rattle.std.specs.Prelude.{ℕ, List, []}
use Rattle.row_model.specs.declared.kind.Kind.{Kind}
use Rattle.row_model.specs.declared.graph.Line.{Line}
use Rattle.row_model.specs.declared.lists.Interval.{Interval}
use Rattle.row_model.specs.declared.lists.Place.{Place}
use Rattle.row_model.specs.declared.lists.Span.{Span}
use Rattle.pq_tree.specs.Outline.{Outline}
use Rattle.verdict_text.specs.declared.verdict.Version.{Version}

-- one side of a yes: its tree, and one of its orders
pub record SideValue : Type 0 where
  pub tree : Outline
  pub order : List ℕ

-- what some kinds add to a yes
pub record AddedValue : Type 0 where
  pub intervals : List Interval
  pub places : List Place
  pub contigs : List Span

-- a yes: its sides, and what its kind adds
pub record YesValue : Type 0 where
  pub sides : List SideValue
  pub added : AddedValue

-- nothing is added
abbrev pub no_added : AddedValue
no_added = record { intervals = []; places = []; contigs = [] }

-- an answer of yes, or of no with the lines of a cycle of one side
pub data Claim : Type 0 where
  yes_claim : (value : YesValue) → Claim
  no_claim : (side : ℕ) (lines : List Line) → Claim

-- a claim of a version about an instance of a kind, with the number of columns of each side
pub record VerdictValue : Type 0 where
  pub version : Version
  pub kind : Kind
  pub columns : List ℕ
  pub claim : Claim
