-- A pass over a row, from its beginning to its end.
use Rattle.std.proofs.Common.{Bool, List, Option, Some, [], ap, arith, cond, drop, false, get_or, inl, inr, length, refl, subst, sym, ℕ, ◌+◌, ◌<◌, ◌∙◌, ◌∷◌, ◌≡◌, ◌≢◌, ◌≤◌}
use Rattle.arena_model.specs.declared.Shape.TheVariants.{Leaf}
use Rattle.pq_arena.specs.declared.node.NodeId.{NodeId}
use Rattle.arena_model.specs.Layout.{IsAtOrAbove, IsLayout, Layout, children_at, down, here, shape_at}
use Rattle.arena_model.proofs.Slots.{used_by}
use Rattle.arena_model.proofs.Lists.{occurs_here}
use Rattle.full_pass.specs.declared.settled.Settled.{Settled}
use Rattle.full_pass.specs.declared.settled.Settled.TheVariants.{Beside, Between, Group, Kept, Open}
use Rattle.arena_model.specs.RowLeaves.{column_leaves, IsLeafAt}
use Rattle.full_pass.specs.Answer.{AreLeaves, IsFullNode, IsRowKept, IsSettled, one_node}
use Rattle.full_pass.specs.Passing.{AreCounted, AreLinked, ArePartsLeft, Chains, Counting, Going, IsLast, IsRisen, Pass, Runs, marks, members_in, runs, second_members_in, total}
use Rattle.full_pass.specs.declared.tallies.Tally.{Tally}
use Rattle.full_pass.specs.Tallies.{AreStamped, first_in, full_in, hits_in, next_in}
use Rattle.full_pass.specs.declared.entries.Entries.{Entries}
use Rattle.full_pass.specs.Entries.{AreReady, far, first, hits, is_full, next, up}
use Rattle.full_pass.proofs.Chained.{no_chains}
use Rattle.arena_model.proofs.Rows.{leaf_index, leaves_length}
use Rattle.arena_model.specs.NamedTree.{IsOneTree}
use Rattle.row_model.specs.Rows.{IsRow}
use Rattle.full_pass.proofs.Columns.{next_leaf, row_leaves, rest_none}
use Rattle.full_pass.proofs.Shapes.{leaf_children}
use Rattle.full_pass.proofs.Sums.{total_zero}
use Rattle.full_pass.proofs.Marks.{true_false}
use Rattle.full_pass.proofs.Ends.{chain_marked, end_first, end_more, end_run}
use Rattle.column_order.specs.Orders.{occurs}

marks_none : (l : ℕ → Bool) (ks : List ℕ) → ((x : ℕ) → l x ≡ false) → marks l ks ≡ 0
marks_none l [] h = refl
marks_none l (k ∷ ks) h =
    let a : cond {A = ℕ} (l k) 1 0 ≡ 0 = ap (λ b. cond {A = ℕ} b 1 0) (h k) in
    let r : marks l ks ≡ 0 = marks_none l ks h in omega arith

runs_none : (l : ℕ → Bool) (ks : List ℕ) → ((x : ℕ) → l x ≡ false) → runs l false ks ≡ 0
runs_none l [] h = refl
runs_none l (k ∷ ks) h = ap (λ b. cond b 1 0 + runs l b ks) (h k) ∙ (let r : runs l false ks ≡ 0 = runs_none l ks h in omega arith)

leaf_fills : (f : Layout) (row : List ℕ) (n : ℕ) → IsLayout f → IsLeafAt f n → 1 ≤ occurs row n → IsFullNode f row n
leaf_fills f row n layout leaf o = λ x _ way. by_way n x leaf o way
  where
    by_way : (n x : ℕ) → IsLeafAt f n → 1 ≤ occurs row n → IsAtOrAbove f.slots n x → 1 ≤ occurs row x
    by_way _ _ leaf o (here n) = o
    by_way _ _ leaf o (down n k x ok way) = absurd (leaf_children (shape_at f n) (children_at f n) leaf.0 k leaf.1 (layout.children_fit n) ok)

start : (f : Layout) (row : List ℕ) (l : ℕ → Bool) (h : ℕ → ℕ) → IsLayout f → AreLeaves f row →
    ((x : ℕ) → l x ≡ false) → ((x : ℕ) → h x ≡ 0) → Pass f row l h row (length row)
start f row l h layout r none_yet no_hits = record {
  labels = record {
    leaves = λ x o. inr o;
    filled = λ x t. absurd (true_false (l x) t (none_yet x));
    fill = λ x o. leaf_fills f row x layout (r.leaf x o) o;
    once = r.once;
    fresh = λ x o. none_yet x;
    used = λ x o. used_by f x (Leaf (r.leaf x o).0) (r.leaf x o).1;
    filled_children = λ m k t o. absurd (true_false (l m) t (none_yet m));
    fill_children = λ m k w o. absurd (leaf_children (shape_at f m) (children_at f m) (r.leaf m w).0 k (r.leaf m w).1 (layout.children_fit m) o);
    root = none_yet f.root;
    past = λ x _. none_yet x;
  };
  counts = λ p _. no_hits p ∙ sym (marks_none l (children_at f p) none_yet);
  parts = λ _. 0;
  p_parts = λ p _ _ _ m. absurd (let z : marks l (children_at f p) ≡ 0 = marks_none l (children_at f p) none_yet in omega arith);
  q_parts = λ q _ _ _. subst (λ z. z ≤ 0) (sym (runs_none l (children_at f q) none_yet)) (omega arith);
  sum = let z : total (λ _. 0) (length f.slots) ≡ 0 = total_zero (length f.slots) in omega arith;
}

-- no node is labelled, and all leaves of the row wait
all_wait : (f : Layout) (row : List ℕ) (l : ℕ → Bool) (h : ℕ → ℕ) → IsLayout f → IsOneTree f → IsRow f.columns row →
    ((x : ℕ) → l x ≡ false) → ((x : ℕ) → h x ≡ 0) → Pass f (column_leaves row) l h (column_leaves row) (length row)
all_wait f row l h layout one is_row none_yet no_hits =
    subst (λ z. Pass f (column_leaves row) l h (column_leaves row) z) (leaves_length row) (start f (column_leaves row) l h layout (row_leaves f row layout one is_row) none_yet no_hits)

-- the answer that a leaf brought is the last
risen_pass : (f : Layout) (row : List ℕ) (l : ℕ → Bool) (h : ℕ → ℕ) (waiting : List ℕ) (n : ℕ) (s : Settled) →
    IsRisen f row l h waiting n (Some s) → Pass f row l h waiting n
risen_pass f row l h waiting n Kept r = r.0.0
risen_pass f row l h waiting n (Group p) r = r.0.0
risen_pass f row l h waiting n (Beside e) r = absurd r.0
risen_pass f row l h waiting n (Between d e) r = absurd r.0
risen_pass f row l h waiting n Open r = absurd (r.1 refl)

settled : (f : Layout) (row : List ℕ) (l : ℕ → Bool) (tallies : List Tally) (stamp n : ℕ) (s : Settled) → IsLayout f → AreLeaves f row → n ≤ 1 →
    Chains f l (hits_in tallies stamp) (first_in tallies) (next_in tallies) → IsLast f row l (hits_in tallies stamp) [] n s → IsSettled f row (members_in tallies stamp s) (second_members_in tallies stamp s) s
settled f row l tallies stamp n Kept layout r le chains last = elim last.1 [
  | inl run ↦ end_run f row l (hits_in tallies stamp) n layout r last.0 le run
  | inr one ↦ end_first f row l (hits_in tallies stamp) n layout r last.0 le one
]
settled f row l tallies stamp n (Group p) layout r le chains last =
    end_more f row l (hits_in tallies stamp) n p.index (members_in tallies stamp (Group p)) layout r last.0 le last.1
    (chain_marked f l (hits_in tallies stamp) (first_in tallies) (next_in tallies) p.index last.1.ring.is_p chains)
settled f row l tallies stamp n (Beside e) layout r le chains last = absurd last
settled f row l tallies stamp n (Between d e) layout r le chains last = absurd last
settled f row l tallies stamp n Open layout r le chains last = tt

-- what the pass answers where it has gone over all columns of the row
pub settled_at_end : (f : Layout) (row : List ℕ) (l : ℕ → Bool) (tallies : List Tally) (stamp i n : ℕ) (s : Settled) → IsLayout f → IsOneTree f → IsRow f.columns row → length row ≤ i → n ≤ 1 →
    Chains f l (hits_in tallies stamp) (first_in tallies) (next_in tallies) → IsLast f (column_leaves row) l (hits_in tallies stamp) (column_leaves (drop i row)) n s →
    IsSettled f (column_leaves row) (members_in tallies stamp s) (second_members_in tallies stamp s) s
settled_at_end f row l tallies stamp i n s layout one is_row over le chains last =
    settled f (column_leaves row) l tallies stamp n s layout (row_leaves f row layout one is_row) le chains
    (subst (λ z. IsLast f (column_leaves row) l (hits_in tallies stamp) z n s) (rest_none row i over) last)

-- at the end of a pass that counts no full node waits
pub parts_left : (f : Layout) (row labels : List ℕ) (tallies : List Tally) (stamp i n k : ℕ) (last : Settled) →
    Counting f (column_leaves row) labels tallies stamp (column_leaves (drop i row)) n last → length row ≤ i → n ≡ k → ArePartsLeft f (column_leaves row) labels tallies stamp k
parts_left f row labels tallies stamp i n k last w over e = record {
  counted = w.counted;
  pass = subst (λ m. Pass f (column_leaves row) (full_in labels stamp) (hits_in tallies stamp) [] m) e
      (subst (λ z. Pass f (column_leaves row) (full_in labels stamp) (hits_in tallies stamp) z n) (rest_none row i over) w.pass);
}

-- where the root is full all leaves are in the row
pub root_kept : (f : Layout) (row : List ℕ) → IsLayout f → IsOneTree f → IsRow f.columns row → IsFullNode f (column_leaves row) f.root → IsRowKept f (column_leaves row)
root_kept f row layout one is_row full = one_node f.root full (row_leaves f row layout one is_row).below

pub no_runs : (f : Layout) (l : ℕ → Bool) (far : ℕ → ℕ) (up : ℕ → Option NodeId) → ((x : ℕ) → l x ≡ false) → Runs f l far up
no_runs f l far up none_yet = record {
  ends = λ q r us rs vs sh is inside before after. absurd (true_false (l r) (inside r (occurs_here r rs)) (none_yet r));
  ups = λ q a us vs sh is t. absurd (true_false (l a) t (none_yet a));
}

-- no node is labelled
none_linked : (f : Layout) (w : Entries) → AreReady w (length f.slots) → ((x : ℕ) → is_full w x ≡ false) → ((x : ℕ) → hits w x ≡ 0) → AreLinked f w
none_linked f w ready none_yet no_hits = record {
  ready = ready;
  runs = no_runs f (is_full w) (far w) (up w) none_yet;
  chains = no_chains f (is_full w) (hits w) (first w) (next w) none_yet no_hits;
}

pub open_kept : Open ≢ Kept
open_kept e = cc

pub open_group : (p : NodeId) → Open ≢ Group p
open_group p e = cc

-- the next leaf of the row waits in front
pub next_waits : (f : Layout) (row : List ℕ) (l : ℕ → Bool) (h : ℕ → ℕ) (i n x : ℕ) → IsLayout f → shape_at f x ≡ Some (Leaf (get_or row i 0)) → i < length row →
    Pass f (column_leaves row) l h (column_leaves (drop i row)) n → Pass f (column_leaves row) l h (x ∷ column_leaves (drop (i + 1) row)) n
next_waits f row l h i n x layout sh lt pass =
    subst (λ z. Pass f (column_leaves row) l h (z ∷ column_leaves (drop (i + 1) row)) n) (sym (leaf_index f x (get_or row i 0) layout sh))
    (subst (λ z. Pass f (column_leaves row) l h z n) (next_leaf row i lt) pass)

-- the pass that counts begins
none_counted : (f : Layout) (labels : List ℕ) (tallies : List Tally) (stamp : ℕ) → AreStamped labels tallies stamp (length f.slots) →
    ((x : ℕ) → full_in labels stamp x ≡ false) → ((x : ℕ) → hits_in tallies stamp x ≡ 0) → AreCounted f labels tallies stamp
none_counted f labels tallies stamp ready none_yet no_hits = record {
  ready = ready;
  chains = no_chains f (full_in labels stamp) (hits_in tallies stamp) (first_in tallies) (next_in tallies) none_yet no_hits;
}

-- a pass that counts, before the first column and after one more
pub counting_begun : (f : Layout) (row labels : List ℕ) (tallies : List Tally) (stamp : ℕ) → IsLayout f → IsOneTree f → IsRow f.columns row → AreStamped labels tallies stamp (length f.slots) →
    ((x : ℕ) → full_in labels stamp x ≡ false) → ((x : ℕ) → hits_in tallies stamp x ≡ 0) → Counting f (column_leaves row) labels tallies stamp (column_leaves row) (length row) Open
counting_begun f row labels tallies stamp layout one is_row ready none_yet no_hits = record {
  counted = none_counted f labels tallies stamp ready none_yet no_hits;
  pass = all_wait f row (full_in labels stamp) (hits_in tallies stamp) layout one is_row none_yet no_hits;
  answer = tt;
}

pub counting_on : (f : Layout) (row labels : List ℕ) (tallies : List Tally) (stamp : ℕ) (waiting : List ℕ) (n : ℕ) (s : Settled) → AreCounted f labels tallies stamp →
    IsRisen f row (full_in labels stamp) (hits_in tallies stamp) waiting n (Some s) → Counting f row labels tallies stamp waiting n s
counting_on f row labels tallies stamp waiting n s counted risen =
    record { counted = counted; pass = risen_pass f row (full_in labels stamp) (hits_in tallies stamp) waiting n s risen; answer = risen.0 }

-- a pass that keeps runs, likewise
pub going_begun : (f : Layout) (row : List ℕ) (w : Entries) → IsLayout f → IsOneTree f → IsRow f.columns row → AreReady w (length f.slots) →
    ((x : ℕ) → is_full w x ≡ false) → ((x : ℕ) → hits w x ≡ 0) → Going f (column_leaves row) w (column_leaves row) (length row) Open
going_begun f row w layout one is_row ready none_yet no_hits =
    record { linked = none_linked f w ready none_yet no_hits; pass = all_wait f row (is_full w) (hits w) layout one is_row none_yet no_hits; answer = tt }

pub going_on : (f : Layout) (row : List ℕ) (w : Entries) (waiting : List ℕ) (n : ℕ) (s : Settled) → AreLinked f w → IsRisen f row (is_full w) (hits w) waiting n (Some s) → Going f row w waiting n s
going_on f row w waiting n s linked risen = record { linked = linked; pass = risen_pass f row (is_full w) (hits w) waiting n s risen; answer = risen.0 }
