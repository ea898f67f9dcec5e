-- What the labels and tallies of nodes say.
use Rattle.std.specs.Prelude.{zero, suc, ◌≡◌, ℕ, ◌≤◌, ◌<◌, Bool, cond, eqb, List, [], ◌∷◌, length, Option, Some, None, slice_index_or}
use Rattle.pq_arena.specs.declared.node.NodeId.{NodeId}
use Rattle.full_pass.specs.declared.tallies.Tally.{Tally}

-- stands for the tally of a node that has none
abbrev pub no_tally : Tally
no_tally = record {
  seen = 0;
  hits = 0;
  first = record { index = 0 };
  next = record { index = 0 };
}

-- whether x has this label
abbrev pub full_in : List ℕ → ℕ → ℕ → Bool
full_in labels stamp x = eqb (slice_index_or labels x 0) stamp

-- the tally of node x
abbrev pub tally_in : List Tally → ℕ → Tally
tally_in tallies x = slice_index_or tallies x no_tally

-- how many children of x are labelled in the pass with this stamp, where x is a P-node
abbrev pub hits_in : List Tally → ℕ → ℕ → ℕ
hits_in tallies stamp x = cond (eqb (tally_in tallies x).seen stamp) (tally_in tallies x).hits 0

-- the child of the P-node x that was labelled last
abbrev pub first_in : List Tally → ℕ → ℕ
first_in tallies x = (tally_in tallies x).first.index

-- the child of the same P-node that was labelled before x
abbrev pub next_in : List Tally → ℕ → ℕ
next_in tallies x = (tally_in tallies x).next.index

-- 1 for a node that is labelled, else 0
abbrev pub mark_in : (ℕ → Bool) → Option NodeId → ℕ
mark_in l None = 0
mark_in l (Some x) = cond (l x.index) 1 0

-- the node, where there is one, has a place in a list of length n
abbrev pub HasPlace : Option NodeId → ℕ → Type 0
HasPlace None n = Unit {0}
HasPlace (Some x) n = x.index < n

-- so many nodes, from x on each followed by the next
abbrev pub chained : ℕ → (ℕ → ℕ) → ℕ → List ℕ
chained zero next x = []
chained (suc n) next x = x ∷ chained n next (next x)

-- there are n labels and tallies, and their stamps are of this pass or older
pub record AreStamped (labels : List ℕ) (tallies : List Tally) (stamp n : ℕ) : Type 0 where
  pub size : length tallies ≡ n
  pub labels_size : length labels ≡ n
  pub some : 1 ≤ stamp
  pub old_label : (x : ℕ) → slice_index_or labels x 0 ≤ stamp
  pub old_seen : (x : ℕ) → (tally_in tallies x).seen ≤ stamp
