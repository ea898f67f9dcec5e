-- The tree and the order that a reply tells, and the orders that they are about.
use Rattle.std.specs.Prelude.{◌≡◌, ◌⊎◌, ℕ, ◌≤◌, List, [], ◌∷◌, ◌++◌, codes}
use Rattle.column_order.specs.Orders.{HasValidOrder}
use Rattle.row_model.specs.Rows.{RowList}
use Rattle.row_model.specs.declared.TheConstants.{MAX_COLUMNS}
use Rattle.row_model.specs.declared.kind.Kind.{Kind}
use Rattle.row_model.specs.declared.refusal.Read.TheVariants as read
use Rattle.matrix_read.specs.Sparse.{further}
use Rattle.instance_model.specs.Instance.{InstanceValue, plain, IsSideOf, derived_matrix}
use Rattle.c1p_solve.specs.Sessions.{with_row}
use Rattle.pq_tree.specs.Outline.{Outline}
use Rattle.tree_meet.specs.Meets.{joint_rows}
use Rattle.verdict_text.specs.Verdict.{SideValue}
use Rattle.verdict_text.specs.Text.{side_text}
use Rattle.commands.specs.Meetings.{meet_head}
use Rattle.verdict_judge.specs.YesTests.{HasSide}
use Rattle.command_input.specs.Words.{Solve, Extend, Meet}
use Rattle.command_input.specs.Instances.{instance_of}
use Rattle.pq_cli.specs.Replies.{Replies}
use Rattle.pq_cli.specs.Solve.{TellsYes}
use Rattle.pq_cli.specs.Meet.{WriteTrees}
use Rattle.solve_replies.specs.Sessions.{Outcome, session_text}

-- where a reply tells a tree and an order: on a side of a yes, at the end of a session, or in what two trees share
pub data Spot : Type 0 where
  on_side : (s : ℕ) → Spot
  at_end : Spot
  in_meeting : Spot

-- The matrix after further rows were taken in turn: each row that leaves a valid order is appended, and each other row is
-- left out.
abbrev pub GrowsTo : RowList → List (List ℕ) → RowList → Type 0
GrowsTo m [] grown = grown ≡ m
GrowsTo m (row ∷ rows) grown =
    (HasValidOrder m.columns (m.rows ++ row ∷ []) × GrowsTo (with_row m row) rows grown) ⊎
    ((HasValidOrder m.columns (m.rows ++ row ∷ []) → ⊥) × GrowsTo m rows grown)

-- the text is a reply to `solve` with status 0, on an instance with this derived matrix of this side
pub record SolvesSide (text : List ℕ) (s : ℕ) (m : RowList) : Type 0 where
  pub kind : Kind
  pub file : List ℕ
  pub bytes : List ℕ
  pub value : InstanceValue
  pub found : instance_of kind bytes ≡ read.Ok value
  pub side : IsSideOf value s
  pub matrix_is : m ≡ derived_matrix value s
  pub reply : Replies (Solve kind file) (bytes ∷ []) 0 text

-- the text is a reply to `extend` with status 0, and the matrix has the rows of the first file and those accepted from the
-- second
pub record ExtendsTo (text : List ℕ) (m : RowList) : Type 0 where
  pub kind : Kind
  pub file : List ℕ
  pub rows : List ℕ
  pub bytes : List ℕ
  pub given : List ℕ
  pub base : RowList
  pub more : RowList
  pub found : instance_of kind bytes ≡ read.Ok (plain kind base)
  pub found_more : further base.columns given ≡ read.Ok more
  pub grows : GrowsTo base more.rows m
  pub reply : Replies (Extend kind file rows) (bytes ∷ given ∷ []) 0 text

-- the text is a reply to `meet` with status 0, and the matrix has the rows of both trees
pub record MeetsIn (text : List ℕ) (m : RowList) : Type 0 where
  pub columns : ℕ
  pub name : List ℕ
  pub other : List ℕ
  pub first : List ℕ
  pub second : List ℕ
  pub one : Outline
  pub two : Outline
  pub few : columns ≤ MAX_COLUMNS
  pub written : WriteTrees columns first second one two
  pub matrix_is : m ≡ record { columns = columns; rows = joint_rows columns one two }
  pub reply : Replies (Meet columns name other) (first ∷ second ∷ []) 0 text

-- the text is a reply with status 0 whose tree and order at this spot are about the orders of the matrix
abbrev pub RepliesFor : List ℕ → Spot → RowList → Type 0
RepliesFor text (on_side s) m = SolvesSide text s m
RepliesFor text at_end m = ExtendsTo text m
RepliesFor text in_meeting m = MeetsIn text m

-- the text is that of a session with this tree and this order at its end
abbrev pub TellsEnd : List ℕ → SideValue → Type 0
TellsEnd text side = (kind : Kind) × (c : ℕ) × (outcomes : List Outcome) × (text ≡ session_text kind c outcomes side)

-- the text is that of what two trees share, with this tree and this order
abbrev pub TellsMeeting : List ℕ → SideValue → Type 0
TellsMeeting text side = (c : ℕ) × (t : Outline) × (u : Outline) × (text ≡ meet_head c t u ++ (codes "answer yes\n" ++ (side_text side ++ codes "end\n")))

-- the text tells this tree and this order at the spot, by the lines `side_text side`
abbrev pub TellsAt : List ℕ → Spot → SideValue → Type 0
TellsAt text (on_side s) side = TellsYes text (λ value. HasSide value s (λ told. told ≡ side))
TellsAt text at_end side = TellsEnd text side
TellsAt text in_meeting side = TellsMeeting text side
