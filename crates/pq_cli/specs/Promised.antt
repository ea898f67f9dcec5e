-- What a reply promises.
use Rattle.std.specs.Prelude.{◌≡◌, ◌⊎◌, ◌↔◌, ℕ, ◌-◌, List, [], ◌∷◌, slice_get, IsSomeAnd, codes}
use Rattle.column_order.specs.Orders.{HasValidOrder}
use Rattle.row_model.specs.Rows.{RowList}
use Rattle.row_model.specs.declared.graph.Line.{Line}
use Rattle.row_model.specs.declared.kind.Kind.{Kind}
use Rattle.row_model.specs.declared.refusal.Read.TheVariants as read
use Rattle.verdict_text.specs.Verdict.{YesValue, Claim, yes_claim, no_claim, VerdictValue}
use Rattle.verdict_text.specs.Grammar.{IsVerdict}
use Rattle.verdict_text.specs.Text.{verdict_text}
use Rattle.row_model.specs.declared.kind.Kind.TheVariants.{Proper}
use Rattle.matrix_read.specs.Sparse.{further}
use Rattle.graph_model.specs.Graphs.{GraphValue}
use Rattle.instance_model.specs.Instance.{InstanceValue, plain, proper, IsSideOf, HasTextbookOrder}
use Rattle.verdict_judge.specs.Truth.{IsTrueVerdict}
use Rattle.pq_tree.specs.Outline.{Outline}
use Rattle.command_input.specs.Words.{Command, Solve, Check, Extend, Gen, Meet, ListOrders, UnitModel, CheckUnit, Core, CheckCore}
use Rattle.command_input.specs.Instances.{instance_of}
use Rattle.pq_cli.specs.Solve.{ShowsTextbookOrders, IsCycleOf}
use Rattle.solve_replies.specs.Models.{HasUnitModel, TellsUnit}
use Rattle.verdict_replies.specs.Cores.{IsCoreText}
use Rattle.verdict_replies.specs.Units.{IsUnitOf}
use Rattle.commands.specs.Findings.{HasUnit}
use Rattle.solve_replies.specs.Lists.{IsListText}
use Rattle.solve_replies.specs.Summaries.{IsSummary}
use Rattle.command_input.specs.TreeFiles.{tree_file}
use Rattle.commands.specs.Meetings.{IsMeetingReply}
use Rattle.pq_cli.specs.Replies.{Replies}
use Rattle.pq_cli.specs.Extend.{ShowsSession}
use Rattle.pq_cli.specs.Core.{NamesCore}

-- the text is that of a verdict with this claim
abbrev pub Tells : List ℕ → Claim → Type 0
Tells text claim = (v : VerdictValue) × (text ≡ verdict_text v) × (v.claim ≡ claim)

-- the text tells a no with a side of the instance and an odd cycle of it
abbrev pub NamesCycle : InstanceValue → List ℕ → Type 0
NamesCycle i text = (s : ℕ) × (lines : List Line) × Tells text (no_claim s lines) × IsCycleOf i s lines

-- Yes: there is a textbook order, and the text tells a tree for each side, whose frontiers are exactly the textbook
-- orders of the side, of a circular instance up to rotation.
pub record SaysYes (i : InstanceValue) (text : List ℕ) : Type 0 where
  pub exists : HasTextbookOrder i
  pub value : YesValue
  pub told : Tells text (yes_claim value)
  pub orders : (s : ℕ) → IsSideOf i s → IsSomeAnd (slice_get value.sides (s - 1)) (ShowsTextbookOrders i s)

-- no: there is no textbook order, and the text tells an odd cycle of a side
pub record SaysNo (i : InstanceValue) (text : List ℕ) : Type 0 where
  pub none : HasTextbookOrder i → ⊥
  pub cycle : NamesCycle i text

-- an instance is solved: yes with status 0, or no with status 1
abbrev pub IsSolved : InstanceValue → ℕ → List ℕ → Type 0
IsSolved i status text = ((status ≡ 0) × SaysYes i text) ⊎ ((status ≡ 1) × SaysNo i text)

-- A verdict is judged: whatever `solve` wrote on the same bytes is valid, and nothing untrue of the instance is.
pub record IsCheckPromise (kind : Kind) (bytes : List ℕ) (i : InstanceValue) (given : List ℕ) (status : ℕ) (text : List ℕ) : Type 0 where
  pub accepts : (file : List ℕ) (found : ℕ) → Replies (Solve kind file) (bytes ∷ []) found given → (status ≡ 0) × (text ≡ codes "valid\n")
  pub believes : status ≡ 0 → (v : VerdictValue) × IsVerdict v × (given ≡ verdict_text v) × IsTrueVerdict i v

-- with status 0 the text is that of a unit model of the graph; with status 1 there is none, and the text tells an odd
-- cycle
abbrev pub IsUnitSolved : GraphValue → ℕ → List ℕ → Type 0
IsUnitSolved g status text = ((status ≡ 0) × TellsUnit g text) ⊎ ((status ≡ 1) × (HasUnitModel g → ⊥) × NamesCycle (proper g) text)

-- A unit model is judged: whatever `unit` wrote on the same bytes with status 0 is valid, and nothing else than a unit
-- model of the graph is.
pub record IsUnitJudged (g : GraphValue) (bytes given : List ℕ) (status : ℕ) (text : List ℕ) : Type 0 where
  pub accepts : (file : List ℕ) → Replies (UnitModel file) (bytes ∷ []) 0 given → (status ≡ 0) × (text ≡ codes "valid\n")
  pub believes : (status ≡ 0) ↔ HasUnit given (IsUnitOf g)

-- A matrix is extended: with status 0 it has a valid order, and the text shows what became of each further row; or no with
-- status 1.
abbrev pub IsExtendedBy : Kind → RowList → List (List ℕ) → ℕ → List ℕ → Type 0
IsExtendedBy kind m rows status text = ((status ≡ 0) × HasValidOrder m.columns m.rows × ShowsSession kind m rows text) ⊎ ((status ≡ 1) × SaysNo (plain kind m) text)

-- The rows to blame: with status 0 there is no valid order, and the text tells a core, with a short cycle; or yes with
-- status 1.
abbrev pub IsBlamedFor : Kind → RowList → ℕ → List ℕ → Type 0
IsBlamedFor kind m status text = ((status ≡ 0) × (HasValidOrder m.columns m.rows → ⊥) × IsCoreText kind m text) ⊎ ((status ≡ 1) × SaysYes (plain kind m) text)

-- A core is judged: whatever `core` wrote with status 0 on the same bytes is valid, and nothing is that doesn't name a
-- core.
pub record IsCoreJudged (kind : Kind) (bytes : List ℕ) (m : RowList) (given : List ℕ) (status : ℕ) (text : List ℕ) : Type 0 where
  pub accepts : (file : List ℕ) → Replies (Core kind file) (bytes ∷ []) 0 given → (status ≡ 0) × (text ≡ codes "valid\n")
  pub believes : status ≡ 0 → NamesCore m given

-- The first orders are listed: with status 0 there is a valid order, and the text lists the first; or no with status 1.
abbrev pub IsListed : Kind → RowList → ℕ → ℕ → List ℕ → Type 0
IsListed kind m count status text = ((status ≡ 0) × HasValidOrder m.columns m.rows × IsListText kind m count text) ⊎ ((status ≡ 1) × SaysNo (plain kind m) text)

-- What each command promises of its status and text, for what is in its files.
abbrev pub IsPromised : Command → List (List ℕ) → ℕ → List ℕ → Type 0
IsPromised (Solve kind _) (bytes ∷ []) status text = (i : InstanceValue) × (instance_of kind bytes ≡ read.Ok i) × IsSolved i status text
IsPromised (Check kind _ _) (bytes ∷ given ∷ []) status text = (i : InstanceValue) × (instance_of kind bytes ≡ read.Ok i) × IsCheckPromise kind bytes i given status text
IsPromised (Extend kind _ _) (bytes ∷ given ∷ []) status text =
    (m : RowList) × (n : RowList) × (instance_of kind bytes ≡ read.Ok (plain kind m)) × (further m.columns given ≡ read.Ok n) × IsExtendedBy kind m n.rows status text
IsPromised (Core kind _) (bytes ∷ []) status text = (m : RowList) × (instance_of kind bytes ≡ read.Ok (plain kind m)) × IsBlamedFor kind m status text
IsPromised (CheckCore kind _ _) (bytes ∷ given ∷ []) status text = (m : RowList) × (instance_of kind bytes ≡ read.Ok (plain kind m)) × IsCoreJudged kind bytes m given status text
IsPromised (Gen seed columns rows) [] status text = (status ≡ 0) × IsSummary seed columns rows text
IsPromised (Meet c _ _) (first ∷ second ∷ []) status text =
    (t : Outline) × (u : Outline) × (tree_file c first ≡ read.Ok t) × (tree_file c second ≡ read.Ok u) × IsMeetingReply c t u status text
IsPromised (ListOrders kind _ count) (bytes ∷ []) status text = (m : RowList) × (instance_of kind bytes ≡ read.Ok (plain kind m)) × IsListed kind m count status text
IsPromised (UnitModel _) (bytes ∷ []) status text = (g : GraphValue) × (instance_of Proper bytes ≡ read.Ok (proper g)) × IsUnitSolved g status text
IsPromised (CheckUnit _ _) (bytes ∷ given ∷ []) status text = (g : GraphValue) × (instance_of Proper bytes ≡ read.Ok (proper g)) × IsUnitJudged g bytes given status text
IsPromised command files status text = ⊥

-- each reply keeps the promise
abbrev pub PromiseLaw : Type 0
PromiseLaw = (command : Command) (files : List (List ℕ)) (status : ℕ) (text : List ℕ) → Replies command files status text → IsPromised command files status text
