-- What a pass keeps: labels of full nodes, and an upper bound on the number of parts that they form.
use Rattle.std.specs.Prelude.{zero, suc, ◌≡◌, ◌⊎◌, ℕ, ◌+◌, ◌-◌, ◌≤◌, ◌<◌, ◌≢◌, Bool, true, false, cond, eqb, List, [], ◌∷◌, ◌++◌, length, Option, Some, None}
use Rattle.column_order.specs.Orders.{occurs}
use Rattle.row_model.specs.Rows.{IsRow}
use Rattle.arena_model.specs.declared.Shape.TheVariants.{P, Q}
use Rattle.arena_model.specs.ChildLists.{none, head_or, last_or, end_parent}
use Rattle.arena_model.specs.Layout.{Layout, shape_at, children_at, IsInUse}
use Rattle.arena_model.specs.NamedTree.{IsOneTree}
use Rattle.pq_arena.specs.declared.node.NodeId.{NodeId}
use Rattle.pq_arena.specs.Looks.{node_named}
use Rattle.full_pass.specs.declared.entries.Entries.{Entries}
use Rattle.full_pass.specs.declared.added.Added.{Added}
use Rattle.full_pass.specs.declared.added.Added.TheVariants.{Top, Run, First, More, Whole}
use Rattle.full_pass.specs.declared.added.Next.{Next}
use Rattle.full_pass.specs.declared.added.Next.TheVariants.{Ended, Above}
use Rattle.full_pass.specs.declared.count.Counted.{Counted}
use Rattle.full_pass.specs.declared.count.Counted.TheVariants.{Answered, MayFill, TwoParts, ThreeParts, Open as CountedOpen}
use Rattle.full_pass.specs.declared.tallies.Tally.{Tally}
use Rattle.full_pass.specs.declared.joins.Joined.{Joined}
use Rattle.full_pass.specs.declared.joins.Joined.TheVariants.{Plain, Wide}
use Rattle.full_pass.specs.declared.joins.Place.{Place}
use Rattle.full_pass.specs.declared.joins.Place.TheVariants.{Top as PlaceTop, Run as PlaceRun, Ring as PlaceRing}
use Rattle.full_pass.specs.declared.settled.Settled.{Settled}
use Rattle.full_pass.specs.declared.settled.Settled.TheVariants.{Kept, Group, Beside, Between, Open}
use Rattle.full_pass.specs.declared.settled.End.{End}
use Rattle.full_pass.specs.declared.beside.RingAbove.{RingAbove}
use Rattle.full_pass.specs.declared.beside.RingAbove.TheVariants.{Absent, Lone, Near}
use Rattle.full_pass.specs.Answer.{IsFullNode, IsSettled}
use Rattle.full_pass.specs.Entries.{is_full, hits, far, up, first, next, AreReady}
use Rattle.full_pass.specs.Tallies.{full_in, hits_in, first_in, next_in, chained, AreStamped}

-- what a labelled child of a Q-node did, with so many labelled neighbours, whose run shows this node at both ends
abbrev pub run_as : ℕ → Option NodeId → Joined
run_as pairs None = Plain (Run pairs)
run_as pairs (Some q) = cond (eqb pairs 0) (Plain (Run pairs)) (Wide pairs q)

-- where a node stands, by the parent and the neighbours that it shows
abbrev pub place_shown : Option NodeId → Option NodeId → Option NodeId → Place
place_shown None None b = PlaceTop
place_shown None (Some a) b = PlaceRun
place_shown (Some p) None b = PlaceRun
place_shown (Some p) (Some a) None = PlaceRun
place_shown (Some p) (Some a) (Some b) = PlaceRing p

-- what a labelled child of the P-node p did, of whose children so many are labelled
abbrev pub judged_as : NodeId → ℕ → ℕ → Added
judged_as p n children = cond (eqb n 1) First (cond (eqb n children) (Whole p) (More p))

-- how many of the list are labelled
abbrev pub marks : (ℕ → Bool) → List ℕ → ℕ
marks l [] = 0
marks l (k ∷ ks) = cond (l k) 1 0 + marks l ks

-- how many runs of labelled ones the list has, where b says whether the one before the list is labelled
abbrev pub runs : (ℕ → Bool) → Bool → List ℕ → ℕ
runs l b [] = 0
runs l b (k ∷ ks) = cond (l k) (cond b 0 1) 0 + runs l (l k) ks

-- the sum of g over 0 to n - 1
abbrev pub total : (ℕ → ℕ) → ℕ → ℕ
total g zero = 0
total g (suc n) = g n + total g n

-- the ends of each run of labelled children of a Q-node know each other, and each labelled child what it showed
pub record Runs (f : Layout) (l : ℕ → Bool) (far : ℕ → ℕ) (up : ℕ → Option NodeId) : Type 0 where
  pub ends : (q r : ℕ) (us rs vs : List ℕ) → shape_at f q ≡ Some Q → children_at f q ≡ us ++ ((r ∷ rs) ++ vs) →
      ((k : ℕ) → 1 ≤ occurs (r ∷ rs) k → l k ≡ true) → l (last_or us none) ≡ false → l (head_or vs none) ≡ false →
      (far r ≡ last_or rs r) × (far (last_or rs r) ≡ r)
  pub ups : (q a : ℕ) (us vs : List ℕ) → shape_at f q ≡ Some Q → children_at f q ≡ us ++ a ∷ vs → l a ≡ true →
      up a ≡ node_named (end_parent q (last_or us none) (head_or vs none))

-- The labels l of a pass over the row, and `waiting`, full nodes that are not labelled yet: each leaf of the row is labelled
-- or waits, what is labelled or waits is full, and so is each of its children labelled.
pub record Labelling (f : Layout) (row : List ℕ) (l : ℕ → Bool) (waiting : List ℕ) : Type 0 where
  pub leaves : (x : ℕ) → 1 ≤ occurs row x → (l x ≡ true) ⊎ (1 ≤ occurs waiting x)
  pub filled : (x : ℕ) → l x ≡ true → IsFullNode f row x
  pub fill : (x : ℕ) → 1 ≤ occurs waiting x → IsFullNode f row x
  pub once : (x : ℕ) → occurs waiting x ≤ 1
  pub fresh : (x : ℕ) → 1 ≤ occurs waiting x → l x ≡ false
  pub used : (x : ℕ) → 1 ≤ occurs waiting x → IsInUse f x
  pub filled_children : (m k : ℕ) → l m ≡ true → 1 ≤ occurs (children_at f m) k → l k ≡ true
  pub fill_children : (m k : ℕ) → 1 ≤ occurs waiting m → 1 ≤ occurs (children_at f m) k → l k ≡ true
  pub root : l f.root ≡ false
  pub past : (x : ℕ) → length f.slots ≤ x → l x ≡ false

-- What a pass over the row keeps, with the labels l and the numbers h of labelled children of P-nodes; `waiting` are
-- full nodes that are not labelled yet. `parts` bounds the parts of each node that is neither: the runs of labelled
-- children of a Q-node, and one of a P-node with a labelled child. The parts and the waiting nodes are at most
-- open_count in all.
pub record Pass (f : Layout) (row : List ℕ) (l : ℕ → Bool) (h : ℕ → ℕ) (waiting : List ℕ) (open_count : ℕ) : Type 0 where
  pub labels : Labelling f row l waiting
  pub counts : (p : ℕ) → shape_at f p ≡ Some P → h p ≡ marks l (children_at f p)
  pub parts : ℕ → ℕ
  pub p_parts : (p : ℕ) → shape_at f p ≡ Some P → l p ≡ false → occurs waiting p ≡ 0 → 1 ≤ marks l (children_at f p) → 1 ≤ parts p
  pub q_parts : (q : ℕ) → shape_at f q ≡ Some Q → l q ≡ false → occurs waiting q ≡ 0 → runs l false (children_at f q) ≤ parts q
  pub sum : length waiting + total parts (length f.slots) ≤ open_count

-- a node that is not full has a labelled child
pub record HasPart (f : Layout) (l : ℕ → Bool) (waiting : List ℕ) (m : ℕ) : Type 0 where
  pub not_full : l m ≡ false
  pub not_waiting : occurs waiting m ≡ 0
  pub child : ℕ
  pub is_child : 1 ≤ occurs (children_at f m) child
  pub labelled : l child ≡ true

-- a Q-node is not full, and has a labelled child
pub record InRun (f : Layout) (l : ℕ → Bool) (waiting : List ℕ) : Type 0 where
  pub q : ℕ
  pub is_q : shape_at f q ≡ Some Q
  pub part : HasPart f l waiting q

-- the P-node p is not full, and has a labelled child
pub record InRing (f : Layout) (l : ℕ → Bool) (waiting : List ℕ) (p : ℕ) : Type 0 where
  pub is_p : shape_at f p ≡ Some P
  pub part : HasPart f l waiting p

-- a P-node that is not full has one labelled child
pub record InFirst (f : Layout) (l : ℕ → Bool) (waiting : List ℕ) : Type 0 where
  pub p : ℕ
  pub ring : InRing f l waiting p
  pub one : marks l (children_at f p) ≡ 1

-- the P-node p has two labelled children or more, and others
pub record InMore (f : Layout) (l : ℕ → Bool) (waiting : List ℕ) (p : ℕ) : Type 0 where
  pub ring : InRing f l waiting p
  pub two : 2 ≤ marks l (children_at f p)
  pub not_all : marks l (children_at f p) < length (children_at f p)

-- what is known once a node was labelled and `waiting` are left
abbrev pub IsAdded : Layout → List ℕ → (ℕ → Bool) → (ℕ → ℕ) → List ℕ → ℕ → Added → Type 0
IsAdded f row l h waiting n Top = IsFullNode f row f.root
IsAdded f row l h waiting n (Run pairs) = (pairs ≤ n) × Pass f row l h waiting (n - pairs) × InRun f l waiting
IsAdded f row l h waiting n First = Pass f row l h waiting n × InFirst f l waiting
IsAdded f row l h waiting n (More p) = (1 ≤ n) × Pass f row l h waiting (n - 1) × InMore f l waiting p.index
IsAdded f row l h waiting n (Whole p) = (1 ≤ n) × Pass f row l h (p.index ∷ waiting) (n - 1)

-- the same in a pass that keeps runs
abbrev pub IsJoined : Layout → List ℕ → (ℕ → Bool) → (ℕ → ℕ) → List ℕ → ℕ → Joined → Type 0
IsJoined f row l h waiting n (Plain added) = IsAdded f row l h waiting n added
IsJoined f row l h waiting n (Wide pairs p) = (pairs ≤ n) × (1 ≤ pairs) × Pass f row l h (p.index ∷ waiting) (n - pairs)

-- what holds of the answer that the last labelled node gives where no other part is left
abbrev pub IsLast : Layout → List ℕ → (ℕ → Bool) → (ℕ → ℕ) → List ℕ → ℕ → Settled → Type 0
IsLast f row l h waiting n Kept = Pass f row l h waiting n × (InRun f l waiting ⊎ InFirst f l waiting)
IsLast f row l h waiting n (Group p) = Pass f row l h waiting n × InMore f l waiting p.index
IsLast f row l h waiting n (Beside e) = ⊥
IsLast f row l h waiting n (Between d e) = ⊥
IsLast f row l h waiting n Open = Unit {0}

-- what is known once the nodes are labelled that a leaf made full: the answer if no other part is left
abbrev pub IsRisen : Layout → List ℕ → (ℕ → Bool) → (ℕ → ℕ) → List ℕ → ℕ → Option Settled → Type 0
IsRisen f row l h waiting n None = IsFullNode f row f.root
IsRisen f row l h waiting n (Some s) = IsLast f row l h waiting n s × (Open ≢ s)

-- where the pass goes on: the answer if no other part is left, or a further node that is full
abbrev pub IsNext : Layout → List ℕ → (ℕ → Bool) → (ℕ → ℕ) → List ℕ → ℕ → Next → Type 0
IsNext f row l h waiting n (Ended s) = IsRisen f row l h waiting n s
IsNext f row l h waiting n (Above p) = Pass f row l h (p.index ∷ waiting) n

-- there are no more parts than before, and fewer where a further node is full
abbrev pub AreFewer : Next → ℕ → ℕ → Type 0
AreFewer (Ended s) before n = n ≤ before
AreFewer (Above p) before n = n + 1 ≤ before

-- a node was labelled in some pass
pub record WasAdded (n : ℕ) (added : Added) : Type 0 where
  pub f : Layout
  pub row : List ℕ
  pub l : ℕ → Bool
  pub h : ℕ → ℕ
  pub waiting : List ℕ
  pub is : IsAdded f row l h waiting n added

-- each P-node has its labelled children in a chain, each once
abbrev pub Chains : Layout → (ℕ → Bool) → (ℕ → ℕ) → (ℕ → ℕ) → (ℕ → ℕ) → Type 0
Chains f l h first next =
    (p k : ℕ) → shape_at f p ≡ Some P → occurs (chained (h p) next (first p)) k ≡ cond (l k) (occurs (children_at f p) k) 0

-- the entries fit the nodes, and the runs and the chains hang together
pub record AreLinked (f : Layout) (w : Entries) : Type 0 where
  pub ready : AreReady w (length f.slots)
  pub runs : Runs f (is_full w) (far w) (up w)
  pub chains : Chains f (is_full w) (hits w) (first w) (next w)

-- the labels and tallies of a pass that counts fit the nodes, and the chains hang together
pub record AreCounted (f : Layout) (labels : List ℕ) (tallies : List Tally) (stamp : ℕ) : Type 0 where
  pub ready : AreStamped labels tallies stamp (length f.slots)
  pub chains : Chains f (full_in labels stamp) (hits_in tallies stamp) (first_in tallies) (next_in tallies)

-- x is full and waits
pub record CanAdd (f : Layout) (l : ℕ → Bool) (h : ℕ → ℕ) (x : ℕ) : Type 0 where
  pub one : IsOneTree f
  pub row : List ℕ
  pub waiting : List ℕ
  pub n : ℕ
  pub pass : Pass f row l h (x ∷ waiting) n

-- x is full and waits, and open_count counts the parts
pub record CanClimb (f : Layout) (l : ℕ → Bool) (h : ℕ → ℕ) (x open_count : ℕ) : Type 0 where
  pub one : IsOneTree f
  pub row : List ℕ
  pub waiting : List ℕ
  pub pass : Pass f row l h (x ∷ waiting) open_count

-- x is full and waits, in a pass that keeps runs
pub record CanJoin (f : Layout) (w : Entries) (x : ℕ) : Type 0 where
  pub one : IsOneTree f
  pub linked : AreLinked f w
  pub row : List ℕ
  pub waiting : List ℕ
  pub n : ℕ
  pub pass : Pass f row (is_full w) (hits w) (x ∷ waiting) n

-- x is full and waits, and open_count counts the parts
pub record CanRise (f : Layout) (w : Entries) (x open_count : ℕ) : Type 0 where
  pub one : IsOneTree f
  pub linked : AreLinked f w
  pub row : List ℕ
  pub waiting : List ℕ
  pub pass : Pass f row (is_full w) (hits w) (x ∷ waiting) open_count

-- a pass may go over the row: its columns are those of the one tree, and there are entries for all nodes
pub record CanPass (f : Layout) (row : List ℕ) (w : Entries) : Type 0 where
  pub tree : IsOneTree f
  pub fits : IsRow f.columns row
  pub ready : AreReady w (length f.slots)

-- what the loop over the row keeps
pub record Going (f : Layout) (row : List ℕ) (w : Entries) (waiting : List ℕ) (open_count : ℕ) (last : Settled) : Type 0 where
  pub linked : AreLinked f w
  pub pass : Pass f row (is_full w) (hits w) waiting open_count
  pub answer : IsLast f row (is_full w) (hits w) waiting open_count last

-- what the loop over the row keeps in a pass that counts
pub record Counting (f : Layout) (row : List ℕ) (labels : List ℕ) (tallies : List Tally) (stamp : ℕ) (waiting : List ℕ) (open_count : ℕ) (last : Settled) : Type 0 where
  pub counted : AreCounted f labels tallies stamp
  pub pass : Pass f row (full_in labels stamp) (hits_in tallies stamp) waiting open_count
  pub answer : IsLast f row (full_in labels stamp) (hits_in tallies stamp) waiting open_count last

-- the labelled children of the first P-node that the answer names
abbrev pub members_in : List Tally → ℕ → Settled → List ℕ
members_in tallies stamp Kept = []
members_in tallies stamp (Group p) = chained (hits_in tallies stamp p.index) (next_in tallies) (first_in tallies p.index)
members_in tallies stamp (Beside e) = chained (hits_in tallies stamp e.node.index) (next_in tallies) (first_in tallies e.node.index)
members_in tallies stamp (Between d e) = chained (hits_in tallies stamp d.node.index) (next_in tallies) (first_in tallies d.node.index)
members_in tallies stamp Open = []

-- those of the second
abbrev pub second_members_in : List Tally → ℕ → Settled → List ℕ
second_members_in tallies stamp Kept = []
second_members_in tallies stamp (Group p) = []
second_members_in tallies stamp (Beside e) = []
second_members_in tallies stamp (Between d e) = chained (hits_in tallies stamp e.node.index) (next_in tallies) (first_in tallies e.node.index)
second_members_in tallies stamp Open = []

-- a pass that counts has gone over the row, and n parts are left at most
pub record ArePartsLeft (f : Layout) (row : List ℕ) (labels : List ℕ) (tallies : List Tally) (stamp n : ℕ) : Type 0 where
  pub counted : AreCounted f labels tallies stamp
  pub pass : Pass f row (full_in labels stamp) (hits_in tallies stamp) [] n

-- what is known where a pass that counts ends so
abbrev pub IsCounted : Layout → List ℕ → List ℕ → List Tally → ℕ → Counted → Type 0
IsCounted f row labels tallies stamp (Answered s) = IsSettled f row (members_in tallies stamp s) (second_members_in tallies stamp s) s
IsCounted f row labels tallies stamp MayFill = Unit {0}
IsCounted f row labels tallies stamp TwoParts = ArePartsLeft f row labels tallies stamp 2
IsCounted f row labels tallies stamp ThreeParts = ArePartsLeft f row labels tallies stamp 3
IsCounted f row labels tallies stamp CountedOpen = Unit {0}

-- this node is one of two neighbours, and labelled
abbrev pub IsLabelledNear : (ℕ → Bool) → Option NodeId → Option NodeId → Option NodeId → Type 0
IsLabelledNear l a b None = Unit {0}
IsLabelledNear l a b (Some t) = (l t.index ≡ true) × (a ≢ None) × (b ≢ None) × ((a ≡ Some t) ⊎ (b ≡ Some t))

-- the P-node p is not full, and has a labelled child; it stands in a Q-node between two neighbours, of which t is labelled
pub record IsEndOfRun (f : Layout) (l : ℕ → Bool) (p t : ℕ) : Type 0 where
  pub ring : InRing f l [] p
  pub few : marks l (children_at f p) < length (children_at f p)
  pub q : ℕ
  pub us : List ℕ
  pub vs : List ℕ
  pub is_q : shape_at f q ≡ Some Q
  pub place : children_at f q ≡ us ++ p ∷ vs
  pub some_before : 1 ≤ length us
  pub some_behind : 1 ≤ length vs
  pub labelled : l t ≡ true
  pub beside : (t ≡ last_or us none) ⊎ (t ≡ head_or vs none)

-- this end of a run, where there is one, is one
abbrev pub IsFoundEnd : Layout → (ℕ → Bool) → Option End → Type 0
IsFoundEnd f l None = Unit {0}
IsFoundEnd f l (Some e) = IsEndOfRun f l e.node.index e.beside.index

-- what is above a leaf of the row
abbrev pub IsRingAbove : Layout → (ℕ → Bool) → RingAbove → Type 0
IsRingAbove f l Absent = Unit {0}
IsRingAbove f l Lone = Unit {0}
IsRingAbove f l (Near e) = IsEndOfRun f l e.node.index e.beside.index

abbrev pub members_of : Entries → Settled → List ℕ
members_of w s = members_in w.tallies.items w.stamp s

abbrev pub second_members_of : Entries → Settled → List ℕ
second_members_of w s = second_members_in w.tallies.items w.stamp s
